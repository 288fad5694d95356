-- The tables of a new office are made.
use Rattle.std.proofs.Common.{◌≡◌, [], IsTrue, ◌∙◌, arith}
use Rattle.std.proofs.lemmas.List.Sorted.{IsPermutation-refl}
use Rattle.sqlite.specs.Change.{KeepsRows}
use Rattle.sqlite.specs.State.{State}
use Rattle.office_tables.specs.Creation.{IsMaking}
use Rattle.desk_store.specs.Representation.{RepresentsDesk}
use Rattle.office.proofs.Common.{HasCleanDisk, Trees, desk_schema, desk_tables, new_desk, no_schema}

pub making : (a : State) → (HasCleanDisk a → (a.now.schema ≡ no_schema) × IsTrue a.in_transaction)
    → IsMaking [] no_schema a.now a
making a blank clean = let it = blank clean in (record { schema_is = it.0; kept = tt; empty = tt }, it.1)

-- what was made empty and is kept shows a desk that has nothing
pub shows_none : (a b : State) (new : Trees) → IsMaking [] desk_schema a.now b → HasCleanDisk b
    → KeepsRows desk_tables b.now.trees new → RepresentsDesk new new_desk
shows_none a b new made clean kept =
    let none = (made clean).0.empty in
    record {
      readers = kept.0 ∙ none.0;
      tickets = tt;
      few_tickets = omega arith;
      seats = kept.1.0 ∙ none.1.0;
      seats_rise = tt;
      orders = kept.1.1.0 ∙ none.1.1.0;
      order_numbers = tt;
      few_orders = omega arith;
      holdings = kept.1.1.1.0 ∙ none.1.1.1.0;
      holdings_rise = tt;
      runs = kept.1.1.1.1.0 ∙ none.1.1.1.1.0;
      run_numbers = tt;
      few_runs = omega arith;
      run_lines = record { numbered = []; are = kept.1.1.1.1.1.0 ∙ none.1.1.1.1.1.0; rise = tt; tell = IsPermutation-refl [] };
      line_runs = tt;
      permits = record { numbered = []; are = kept.1.1.1.1.1.1.0 ∙ none.1.1.1.1.1.1.0; rise = tt; tell = IsPermutation-refl [] };
      permit_tickets = tt;
    }
