use Rattle.catalogue_store.proofs.WorkedLemmas.{worked_kept, worked_known, worked_places, worked_shown}
use Rattle.catalogue_store.proofs.laws.worked_catalogue.Goals as goal

pub returns-clause-kept : goal.returns-clause-kept
returns-clause-kept c = worked_kept

pub returns-clause-known : goal.returns-clause-known
returns-clause-known c = worked_known

pub returns-clause-places : goal.returns-clause-places
returns-clause-places c = worked_places

pub returns-clause-shown : goal.returns-clause-shown
returns-clause-shown c = worked_shown
