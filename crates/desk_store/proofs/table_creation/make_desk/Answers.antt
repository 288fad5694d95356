use Rattle.desk_store.proofs.Common.{same_fault}
use Rattle.desk_store.proofs.TableSteps.{makes_not, makes_next}
use Rattle.desk_store.proofs.table_creation.make_desk.Goals as goal

pub returns-in_err-create_readers : goal.returns-in_err-create_readers
returns-in_err-create_readers g c = makes_not (same_fault c.from_residual.ensures) c.in_err-create_readers.ensures

pub returns-in_err-create_orders : goal.returns-in_err-create_orders
returns-in_err-create_orders g c = makes_not (same_fault c.from_residual-in_err-create_orders.ensures) (makes_next c.in_ok-create_readers.ensures c.in_err-create_orders.ensures)

pub returns-in_err-create_runs : goal.returns-in_err-create_runs
returns-in_err-create_runs g c =
    let step2 = makes_next c.in_ok-create_readers.ensures c.in_ok-create_orders.ensures in
    makes_not (same_fault c.from_residual-in_err-create_runs.ensures) (makes_next step2 c.in_err-create_runs.ensures)

pub returns : goal.returns
returns g c =
    let step2 = makes_next c.in_ok-create_readers.ensures c.in_ok-create_orders.ensures in
    let step3 = makes_next step2 c.in_ok-create_runs.ensures in
    makes_next step3 c.create_permits.ensures
