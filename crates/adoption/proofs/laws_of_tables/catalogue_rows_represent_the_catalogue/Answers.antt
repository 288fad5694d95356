use Rattle.adoption.proofs.catalogue.Shown.{catalogue_shown}
use Rattle.adoption.proofs.laws_of_tables.catalogue_rows_represent_the_catalogue.Goals as goal

pub returns : goal.returns
returns g c = λ db it. catalogue_shown g.P.Versioned.version db it g.P.Places.represents g.met.P.CheckedPlaces.shows_said
