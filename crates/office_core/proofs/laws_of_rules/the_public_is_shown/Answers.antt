use Rattle.catalogue_core.proofs.InPublic.{published_in_public, public_is_published}
use Rattle.office_core.proofs.laws_of_rules.the_public_is_shown.Goals as goal

pub returns : goal.returns
returns c = λ s. record {
  shown = λ shown it. published_in_public s.day s.catalogue.forest it.told it.published;
  published = λ told p. published_in_public s.day s.catalogue.forest told p;
  public = λ told h. public_is_published s.day s.catalogue.forest told h;
}
