use Rattle.std.proofs.Common.{refl}
use Rattle.office_tables.proofs.KnownStatements.{known_change}
use Rattle.office_tables.specs.Versions.{First}
use Rattle.desk_store.proofs.HoldingWrites.{insert_holding_means}
use Rattle.desk_store.proofs.OrderWrites.{insert_order_means, set_state_means}
use Rattle.desk_store.proofs.PermitRows.{insert_permit_means}
use Rattle.desk_store.proofs.ReaderRows.{insert_reader_means}
use Rattle.desk_store.proofs.RunRows.{insert_run_means, insert_line_means}
use Rattle.desk_store.proofs.SeatRows.{insert_seat_means}
use Rattle.store_tests.proofs.checks.put.Goals as goal

pub change-requires : goal.change-requires
change-requires g c = known_change (insert_reader_means First) refl

pub change-requires-in-Seat : goal.change-requires-in-Seat
change-requires-in-Seat g c = known_change (insert_seat_means First) refl

pub change-requires-in-Permit : goal.change-requires-in-Permit
change-requires-in-Permit g c = known_change (insert_permit_means First) refl

pub change-requires-in-Order : goal.change-requires-in-Order
change-requires-in-Order g c = known_change (insert_order_means First) refl

pub change-requires-in-State : goal.change-requires-in-State
change-requires-in-State g c = known_change (set_state_means First) refl

pub change-requires-in-Holding : goal.change-requires-in-Holding
change-requires-in-Holding g c = known_change (insert_holding_means First) refl

pub change-requires-in-Run : goal.change-requires-in-Run
change-requires-in-Run g c = known_change (insert_run_means First) refl

pub change-requires-in-Line : goal.change-requires-in-Line
change-requires-in-Line g c = known_change (insert_line_means First) refl
