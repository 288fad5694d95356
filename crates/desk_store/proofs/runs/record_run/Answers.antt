use Rattle.std.proofs.Common.{ℕ, Option, Result, [], ◌∷◌, sym, subst, ◌∙◌}
use Rattle.office_tables.specs.Schema as tables
use Rattle.desk_store.proofs.Common.{IsLegible, RepresentsDeskAlone, StoreFault, StoreUpdates, TakesEachOnce, next_run}
use Rattle.desk_store.proofs.Common.{same_fault, with_run, ⊤}
use Rattle.desk_store.proofs.RunCalls.{recorded, not_recorded}
use Rattle.desk_store.proofs.runs.record_run.Goals as goal

pub returns-in_err-insert_all-clause-updates : goal.returns-in_err-insert_all-clause-updates
returns-in_err-insert_all-clause-updates g c =
    let whole = not_recorded g.S.Store c.args.tables.now c.next_number.new.tables c.insert_all.new.tables c.args.on c.args.taken.now c.in-Some.run' c.in_ok-run.ensures.reads.looks
    (λ clean d shown. sym c.in-Some.is ∙ c.in_ok-run.ensures.number clean d shown) c.in_err-insert_all.field-0.0 c.in_err-insert_all.ensures.aborts c.in_err-insert_all.ensures.spares (c.in_err-insert_all.ensures.faults tt) in
    subst (λ (r : Result (Option ℕ) StoreFault). StoreUpdates g.S.Store (tables.run.tree ∷ tables.run_line.tree ∷ []) RepresentsDeskAlone c.args.tables.now c.insert_all.new.tables r (λ _. ⊤) (λ d. IsLegible d × TakesEachOnce c.args.taken.now) (λ d. with_run (next_run d) c.args.on c.args.taken.now d))
    (sym (same_fault c.from_residual-in_err-insert_all.ensures)) whole

pub returns-clause-updates : goal.returns-clause-updates
returns-clause-updates g c =
    recorded g.S.Store c.args.tables.now c.next_number.new.tables c.insert_all.new.tables c.args.on c.args.taken.now c.in-Some.run' c.in_ok-run.ensures.reads.looks
    (λ clean d shown. sym c.in-Some.is ∙ c.in_ok-run.ensures.number clean d shown) c.in_ok-insert_all.ensures.goes (λ clean. c.in_ok-insert_all.ensures.represents_updated clean tt) c.in_ok-insert_all.ensures.only
