-- The office's own row, and what it tells.
use Rattle.catalogue_statements.specs.Settings.{AreLegibleSettings}
use Rattle.office_core.proofs.KeptOffices.{office_settings}
use Rattle.office_core.specs.State.{State}
use Rattle.office.proofs.Common.{IsSoundOffice, office_of}

-- the row of a sound office can be read back
pub legible : (s : State) → IsSoundOffice s → AreLegibleSettings (office_of s)
legible s sound =
    let it = office_settings s sound in
    record { country = it.country; repo = it.repo; seats = it.seats; daily = it.daily; hands = it.hands; run_size = it.run_size; day = it.day }
