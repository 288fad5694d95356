use Rattle.catalogue_core.proofs.InPublic.{published_in_public, public_is_published}
use Rattle.catalogue_core.proofs.laws.the_published_stands_in_public.Goals as goal

pub returns-clause-published : goal.returns-clause-published
returns-clause-published c = published_in_public

pub returns-clause-public : goal.returns-clause-public
returns-clause-public c = public_is_published
