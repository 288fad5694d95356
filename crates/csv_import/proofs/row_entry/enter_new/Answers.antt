use Rattle.csv_import.proofs.Common.{as_updates}
use Rattle.csv_import.proofs.Afterwards.{makes_fault, makes_same}
use Rattle.csv_import.proofs.Frames.{makes_new}
use Rattle.csv_import.proofs.row_entry.enter_new.Goals as goal

pub returns-in_err-enter_unit-clause-updates : goal.returns-in_err-enter_unit-clause-updates
returns-in_err-enter_unit-clause-updates g c =
    makes_fault _ c.from_residual.ensures
    (makes_new g.S.Store g.P.Versioned.version c.args.source.now c.args.row.now c.args.next c.args.tables.now c.enter_unit.new.tables _ (λ parent. as_updates (c.in_err-enter_unit.ensures.updates g.P.Versioned.version parent)))

pub returns-clause-updates : goal.returns-clause-updates
returns-clause-updates g c =
    makes_same
    (makes_new g.S.Store g.P.Versioned.version c.args.source.now c.args.row.now c.args.next c.args.tables.now c.enter_unit.new.tables _ (λ parent. as_updates (c.in_ok-enter_unit.ensures.updates g.P.Versioned.version parent)))
