use Rattle.std.proofs.Common.{Result, [], ◌∷◌, sym, subst}
use Rattle.office_tables.specs.Schema as tables
use Rattle.desk_store.proofs.Common.{IsLegible, MayHave, RepresentsDeskAlone, StoreFault, StoreUpdates}
use Rattle.desk_store.proofs.Common.{desk_with_permit, same_fault, state}
use Rattle.desk_store.proofs.PermitCalls.{not_cleared, grants, rows_granted}
use Rattle.desk_store.proofs.reader_permits.grant.Goals as goal

pub returns-in_err-clear_permit-clause-updates : goal.returns-in_err-clear_permit-clause-updates
returns-in_err-clear_permit-clause-updates g c =
    let old = state g.S.Store c.args.tables.now in
    let whole = not_cleared g.S.Store c.args.tables.now c.clear_permit.new.tables c.clear_permit.new.tables c.args.ticket c.args.unit c.args.until c.in_err-clear_permit.field-0.0 c.in_err-clear_permit.ensures in
    subst (λ (r : Result Unit StoreFault). StoreUpdates g.S.Store (tables.permit.tree ∷ []) RepresentsDeskAlone c.args.tables.now c.clear_permit.new.tables r (MayHave c.args.ticket c.args.unit old.now.trees) IsLegible (desk_with_permit c.args.ticket c.args.unit c.args.until))
    (sym (same_fault c.from_residual.ensures)) whole

pub returns : goal.returns
returns g c =
    record {
      updates = grants g.S.Store c.args.tables.now c.clear_permit.new.tables c.insert_permit.new.tables c.args.ticket c.args.unit c.args.until c.in_ok-clear_permit.ensures.leaves.goes c.in_ok-clear_permit.ensures.only c.in_ok-clear_permit.ensures.rows
          c.insert_permit.result c.insert_permit.ensures;
      rows = rows_granted g.S.Store c.args.tables.now c.clear_permit.new.tables c.insert_permit.new.tables c.args.ticket c.args.unit c.args.until c.in_ok-clear_permit.ensures.leaves.goes c.in_ok-clear_permit.ensures.only c.in_ok-clear_permit.ensures.rows
          c.insert_permit.result c.insert_permit.ensures;
    }
