use Rattle.std.proofs.Common.{sym, ◌∙◌}
use Rattle.std.specs.Prelude.{nat_eq}
use Rattle.desk_store.proofs.Common.{HoldingRow, IfOk-weaker, cut_looks, holding_of, on_ok_from, own_last, state}
use Rattle.desk_store.proofs.PlaceRows.{at_entry, at_shelf, legible_place}
use Rattle.desk_store.proofs.ToldCalls.{never_fails}
use Rattle.desk_store.proofs.TellingCalls.{ends_well}
use Rattle.desk_store.proofs.queues.place_of.Goals as goal

pub returns-in-Some : goal.returns-in-Some
returns-in-Some g c =
    let a = state g.S.Store c.args.tables.now in
    let b = state g.S.Store c.find_place.new.tables in
    let looked = c.in_ok-entry.ensures.reads.looks in
    let entry = c.in-Some.entry in
    record {
      answers = record {
        call = record {
          answers = λ clean beside d shown.
              let there = c.in_ok-entry.ensures.answers clean d.holdings shown.holdings shown.holdings_rise in
              IfOk-weaker c.place.result _ _ (λ place at. at_entry (holding_of c.args.container d) entry place (sym there ∙ c.in-Some.is) at) c.place.ensures.place;
          looks = on_ok_from c.place.result _ looked;
          aborts = cut_looks c.place.result a b looked;
          faults = λ beside d shown may kept clean free.
              let there = c.in_ok-entry.ensures.answers clean d.holdings shown.holdings shown.holdings_rise in
              never_fails c.place.result _ (c.place.ensures.known (legible_place (λ (h : HoldingRow). nat_eq c.args.container h.container) d.holdings kept.holdings entry (sym there ∙ c.in-Some.is)));
        };
        spares = own_last a b looked c.place.result c.place.ensures.fair;
      };
    }

pub returns-in-None : goal.returns-in-None
returns-in-None g c =
    record {
      answers = ends_well c.in_ok-entry.ensures.reads.looks _ (λ clean d shown.
          let there = c.in_ok-entry.ensures.answers clean d.holdings shown.holdings shown.holdings_rise in
          at_shelf (holding_of c.args.container d) (sym there ∙ c.in-None.is));
    }
