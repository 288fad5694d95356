use Rattle.adoption.proofs.catalogue.Shown.{catalogue_shown}
use Rattle.adoption.proofs.laws_of_tables.good_tables_represent_their_state.Goals as goal
use Rattle.adoption.proofs.tables.ShownTables.{good_state}

pub returns : goal.returns
returns g c = λ db good.
    good_state g.P.Places.represents g.P.Versioned.version db good (catalogue_shown g.P.Versioned.version db good g.P.Places.represents g.met.P.CheckedPlaces.shows_said)
