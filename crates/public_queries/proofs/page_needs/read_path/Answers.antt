use Rattle.std.proofs.Common.{◌+◌, List, ◌∷◌, ◌++◌, [], take, sym, ap, subst, ◌∙◌, arith}
use Rattle.std.proofs.lemmas.List.{take_rest}
use Rattle.public_queries.proofs.Common.{Database, Mark, Represents, all_needed, early, looks_nowhere, looks_then, take_all}
use Rattle.public_queries.proofs.Common.{tells_full, tells_passed_later, tells_well, values_needed}
use Rattle.public_queries.proofs.PageNeeds.{MarkedAt, marked_at, no_more}
use Rattle.public_queries.proofs.page_needs.read_path.Goals as goal

pub loop-place-init : goal.loop-place-init
loop-place-init g c =
    record {
      looks = looks_nowhere;
      so_far = λ clean o k it tellable of. c.new-units.ensures.items;
    }

pub loop-place-preserved : goal.loop-place-preserved
loop-place-preserved g c =
    let way = c.args.way.now in
    let i = c.loop-place.place in
    let looked = c.loop-place.invariant.looks in
    let told = c.in_ok-read_unit.ensures.answers in
    record {
      looks = looks_then looked told.looks;
      so_far = λ clean o k it tellable of.
          let at_b = early told.looks.goes.on.crash clean in
          let here : MarkedAt k way of.units i c.index-way-place.result = marked_at k tellable way of.units i c.index-way-place.result c.loop-place-test.true c.index-way-place.is of.found of.are in
          let all = all_needed k.containers way of.units in
          let one = told.answers clean o k (subst (λ (db : Database). Represents g.P.Places.represents g.P.Versioned.version db o k) (sym (looked.same at_b)) it) here.unit here.marked in
          c.in_ok-push.ensures.items
          ∙ ap (λ l. l ++ c.in_ok-read_unit.field-0 ∷ []) (c.loop-place.invariant.so_far at_b o k it tellable of)
          ∙ ap (λ t. take i all ++ t ∷ []) one
          ∙ ap (λ (below : List Mark). take i all ++ values_needed k.containers below here.unit ∷ []) (take_rest way (i + 1))
          ∙ sym here.next;
    }

pub returns-in_err-read_unit : goal.returns-in_err-read_unit
returns-in_err-read_unit g c =
    let way = c.args.way.now in
    let i = c.loop-place.place in
    record {
      answers = tells_passed_later _ c.from_residual.ensures c.loop-place.invariant.looks c.in_err-read_unit.ensures.answers.aborts (λ o k it may kept.
          let here : MarkedAt k way may.1.units i c.index-way-place.result = marked_at k may.0 way may.1.units i c.index-way-place.result c.loop-place-test.true c.index-way-place.is may.1.found may.1.are in
          c.in_err-read_unit.ensures.answers.faults o k it (here.unit, here.marked) kept);
    }

pub returns-in_err-push : goal.returns-in_err-push
returns-in_err-push g c = record { answers = tells_full c.from_residual-in_err-push.ensures (looks_then c.loop-place.invariant.looks c.in_ok-read_unit.ensures.answers.looks) }

pub returns : goal.returns
returns g c =
    record {
      answers = tells_well c.loop-place.invariant.looks (λ clean o k it tellable of.
          c.loop-place.invariant.so_far clean o k it tellable of
          ∙ take_all c.loop-place.place (all_needed k.containers c.args.way.now of.units) (omega (arith, no_more k.containers c.args.way.now of.units, c.loop-place-test.false)));
    }
