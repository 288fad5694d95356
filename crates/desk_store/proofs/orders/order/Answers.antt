use Rattle.std.proofs.Common.{◌≡◌, true, false, nat_eq, None, sym, subst, ◌∙◌}
use Rattle.desk_store.proofs.Common.{Database, OrderRow, RepresentsDesk, cut_after, looks_nowhere, order_with}
use Rattle.desk_store.proofs.Common.{same_fault, spares_own, state}
use Rattle.desk_store.proofs.OrderReads.{told_none, told_there, legible_there}
use Rattle.desk_store.proofs.orders.order.Goals as goal
use Rattle.desk_store.proofs.TellingCalls.{ends_not, ends_well}

pub returns-in_default : goal.returns-in_default
returns-in_default g c =
    record {
      answers = ends_well c.in_ok-entry.ensures.reads.looks None (λ clean d shown.
          let there = c.in_ok-entry.ensures.answers clean d.orders shown.orders shown.order_numbers in
          told_none (order_with c.args.order d) (sym there ∙ c.in_default.is));
    }

pub returns-in_err-placed : goal.returns-in_err-placed
returns-in_err-placed g c =
    record {
      answers = let looked = c.in_ok-entry.ensures.reads.looks in
          ends_not looked (cut_after looks_nowhere.goes.on) (λ clean. spares_own looks_nowhere clean c.in_err-placed.field-0.0 c.in_err-placed.ensures.fair) (λ d shown may kept clean free.
          let before = subst (λ (db : Database). RepresentsDesk db.trees d) (looked.same clean) shown in
          let there = c.in_ok-entry.ensures.answers clean d.orders before.orders before.order_numbers in
          let some = legible_there (λ (o : OrderRow). nat_eq c.args.order o.id) d.orders kept.orders c.in-Some.entry (sym there ∙ c.in-Some.is) in
          absurd (let none : false ≡ true = c.in_err-placed.ensures.known some.0 some.1 in cc)) (same_fault c.from_residual-in_err-placed.ensures);
    }

pub returns : goal.returns
returns g c =
    record {
      answers = ends_well c.in_ok-entry.ensures.reads.looks _ (λ clean d shown.
          let there = c.in_ok-entry.ensures.answers clean d.orders shown.orders shown.order_numbers in
          told_there (order_with c.args.order d) c.in-Some.entry c.in_ok-placed.placed (sym there ∙ c.in-Some.is)
          c.in_ok-placed.ensures.ticket c.in_ok-placed.ensures.container c.in_ok-placed.ensures.day c.in_ok-placed.ensures.state);
    }
