use Rattle.std.proofs.Common.{◌≡◌, ◌≤◌, ◌+◌, ◌++◌, ◌∷◌, [], length, take, drop, sym, ap, subst, ◌∙◌, arith, append-nil}
use Rattle.public_queries.proofs.Common.{Database, Kept, Represents, aid, along, early, kept_from_walk, length-map}
use Rattle.public_queries.proofs.Common.{looks_then, repository_of, shown_at, tells_full, tells_passed_later}
use Rattle.public_queries.proofs.Common.{tells_well, unit_lines}
use Rattle.public_queries.proofs.AidPrinted.{along_more, drop_past, row_at}
use Rattle.public_queries.proofs.aids.units_text.Goals as goal

pub returns-in_err-seen : goal.returns-in_err-seen
returns-in_err-seen g c =
    let last = c.in_err-seen.ensures.answers in
    record {
      answers = tells_passed_later _ c.from_residual.ensures c.loop-unit.invariant.looks last.aborts
          (λ o k it may kept.
          let here = row_at c.args.known.now.day k c.args.kept.now may.1 c.loop-unit.unit-index c.unit-item.result
          c.unit-item.is may.2 c.loop-unit-test.true in
          last.faults o k it (may.0, here.item, here.holds, here.is) kept);
    }

pub returns-in_err-text : goal.returns-in_err-text
returns-in_err-text g c = record { answers = tells_full c.from_residual-in_err-text.ensures (looks_then c.loop-unit.invariant.looks c.in_ok-seen.ensures.answers.looks) }

pub returns-in_err-extend_from_slice : goal.returns-in_err-extend_from_slice
returns-in_err-extend_from_slice g c = record { answers = tells_full c.from_residual-in_err-extend_from_slice.ensures (looks_then c.loop-unit.invariant.looks c.in_ok-seen.ensures.answers.looks) }

pub loop-unit-preserved : goal.loop-unit-preserved
loop-unit-preserved g c =
    let at = repository_of c.args.known.now in
    let base = c.len-base.result in
    let ids = c.loop-unit.ids.items in
    let i = c.loop-unit.unit-index in
    let last = c.in_ok-seen.ensures.answers in
    record {
      looks = looks_then c.loop-unit.invariant.looks last.looks;
      so_far = λ clean o k it tellable rows keeps.
          let before = early last.looks.goes.on.crash clean in
          let shown = subst (λ (db : Database). Represents g.P.Places.represents g.P.Versioned.version db o k) (sym (c.loop-unit.invariant.looks.same before)) it in
          let here = row_at c.args.known.now.day k c.args.kept.now rows i c.unit-item.result c.unit-item.is keeps
          c.loop-unit-test.true in
          let seen = last.answers clean o k shown tellable here.item here.holds here.is in
          let cut : c.truncate.new.self.items ≡ take (base + here.item.1) ids = c.truncate.ensures.items ∙ ap (λ n. take (base + n) ids) (ap (λ (x : Kept). x.depth) here.is) in
          let so_far = c.loop-unit.invariant.so_far before o k it tellable rows keeps ∙ ap (λ l. c.loop-unit.out.items ++ aid (along at k.containers base ids l)) here.left in
          let depth = ap (λ (x : Kept). x.depth) here.is in
          along_more at k.containers base ids here.item (drop (i + 1) rows) c.in_ok-seen.seen c.truncate.new.self.items c.unit_text.new.ids.items c.loop-unit.out.items _ c.in_ok-text.text.items
          seen cut c.in_ok-text.ensures.ids (c.in_ok-text.ensures.text ∙ ap (λ n. unit_lines (shown_at at (c.truncate.new.self.items ++ c.in_ok-seen.seen.identifier ∷ []) n c.in_ok-seen.seen)) depth) so_far
          ∙ ap (λ l. l ++ aid (along at k.containers base c.unit_text.new.ids.items (drop (i + 1) rows))) (sym (c.in_ok-extend_from_slice.ensures.items ∙ ap (λ l. c.loop-unit.out.items ++ l) c.as_slice.ensures.value));
    }

pub returns : goal.returns
returns g c =
    let at = repository_of c.args.known.now in
    let i = c.loop-unit.unit-index in
    record {
      answers = tells_well c.loop-unit.invariant.looks (λ clean o k it tellable rows keeps.
          let past : length rows ≤ i = (let long = ap length keeps.told ∙ length-map rows kept_from_walk in omega (arith, long, c.loop-unit-test.false)) in
          let base : c.len-base.result ≡ length c.args.above.items = cc (c.len-base.ensures, c.args.above.ok.0) in
          sym (ap (λ n. aid (along at k.containers n c.args.above.items rows)) (sym base)
          ∙ c.loop-unit.invariant.so_far clean o k it tellable rows keeps
          ∙ ap (λ l. c.loop-unit.out.items ++ aid (along at k.containers c.len-base.result c.loop-unit.ids.items l)) (drop_past rows i past)
          ∙ append-nil c.loop-unit.out.items));
    }
