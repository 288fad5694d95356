use Rattle.std.proofs.Common.{ℕ, Option, Result, [], ◌∷◌, sym, subst, ◌∙◌}
use Rattle.office_tables.specs.Schema as tables
use Rattle.desk_store.proofs.Common.{IsLegible, RepresentsDeskAlone, StoreFault, StoreUpdates, next_ticket, same_fault}
use Rattle.desk_store.proofs.Common.{with_reader, ⊤}
use Rattle.desk_store.proofs.ReaderCalls.{added, failed}
use Rattle.desk_store.proofs.readers.add_reader.Goals as goal

pub returns-in_err-insert_reader-clause-updates : goal.returns-in_err-insert_reader-clause-updates
returns-in_err-insert_reader-clause-updates g c =
    let whole = failed g.S.Store c.args.tables.now c.next_number.new.tables c.insert_reader.new.tables c.args.name.now c.args.until c.in-Some.ticket c.in_ok-ticket.ensures.reads.looks
    (λ clean d shown. sym c.in-Some.is ∙ c.in_ok-ticket.ensures.number clean d shown) c.in_err-insert_reader.field-0.0 c.in_err-insert_reader.ensures.leaves.aborts c.in_err-insert_reader.ensures.leaves.spares c.in_err-insert_reader.ensures.faults in
    subst (λ (r : Result (Option ℕ) StoreFault). StoreUpdates g.S.Store (tables.reader.tree ∷ []) RepresentsDeskAlone c.args.tables.now c.insert_reader.new.tables r (λ _. ⊤) IsLegible (λ d. with_reader (next_ticket d) c.args.name.now c.args.until d))
    (sym (same_fault c.from_residual-in_err-insert_reader.ensures)) whole

pub returns-clause-updates : goal.returns-clause-updates
returns-clause-updates g c =
    added g.S.Store c.args.tables.now c.next_number.new.tables c.insert_reader.new.tables c.args.name.now c.args.until c.in-Some.ticket c.in_ok-ticket.ensures.reads.looks
    (λ clean d shown. sym c.in-Some.is ∙ c.in_ok-ticket.ensures.number clean d shown) c.in_ok-insert_reader.ensures.leaves.goes c.in_ok-insert_reader.ensures.puts
