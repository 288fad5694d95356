use Rattle.adoption.proofs.catalogue.Shown.{catalogue_shown}
use Rattle.adoption.proofs.laws_of_tables.sound_tables_represent_their_state.Goals as goal
use Rattle.adoption.proofs.tables.ShownTables.{sound_are_good, sound_state}

pub returns : goal.returns
returns g c = λ db sound.
    sound_state g.P.Places.represents g.P.Versioned.version db sound
    (catalogue_shown g.P.Versioned.version db (sound_are_good g.P.Versioned.version db sound) g.P.Places.represents g.met.P.CheckedPlaces.shows_said)
