use Rattle.std.proofs.Common.{ℕ, ◌++◌, ◌∷◌, [], Some, Vec, Global, sym, ap, subst, ◌∙◌, arith}
use Rattle.std.specs.List.{find}
use Rattle.public_queries.proofs.Common.{Database, Head, Represents, early, filter_map, has_id, looks_nowhere}
use Rattle.public_queries.proofs.Common.{looks_then, nodes, public_head, take_all, tells_full, tells_passed_later}
use Rattle.public_queries.proofs.Common.{tells_well}
use Rattle.public_queries.proofs.MoreItems.{mapped_more, none_more}
use Rattle.public_queries.proofs.public_heads.public_heads.Goals as goal
use Rattle.public_queries.proofs.public_heads.public_heads.Goals.{in-Some+in_ok-push, in_default}

pub loop-unit-init : goal.loop-unit-init
loop-unit-init g c = record { looks = looks_nowhere; so_far = λ clean o k it. c.new-heads.ensures.items }

pub loop-unit-preserved : goal.loop-unit-preserved
loop-unit-preserved g c =
    let units = c.args.units.now in
    let i = c.loop-unit.unit-index in
    let looked = c.loop-unit.invariant.looks in
    let told = c.in_ok-head.ensures.answers in
    record {
      looks = looks_then looked told.looks;
      so_far = λ clean o k it.
          let before = early told.looks.goes.on.crash clean in
          let head_at = λ (unit : ℕ). public_head (find (has_id unit) (nodes k.forest)) in
          let one = told.answers clean o k (subst (λ (db : Database). Represents g.P.Places.represents g.P.Versioned.version db o k) (sym (looked.same before)) it) in
          let so_far = c.loop-unit.invariant.so_far before o k it in
          elim c.match-branch-2.branch [
            | in-Some+in_ok-push w ↦
                ap (λ (v : Vec Head Global). v.items) w.heads-is ∙ w.in_ok-push.ensures.items ∙ ap (λ l. l ++ w.in-Some.head ∷ []) so_far
                ∙ sym (mapped_more head_at units i c.unit-item.result (Some w.in-Some.head) c.unit-item.is c.loop-unit-test.true (sym one ∙ w.in-Some.is))
            | in_default w ↦
                ap (λ (v : Vec Head Global). v.items) w.heads-is ∙ so_far
                ∙ sym (none_more head_at units i c.unit-item.result c.unit-item.is c.loop-unit-test.true (sym one ∙ w.in_default.is))
          ];
    }

pub returns-in_err-head : goal.returns-in_err-head
returns-in_err-head g c =
    let told = c.in_err-head.ensures.answers in
    record { answers = tells_passed_later _ c.from_residual.ensures c.loop-unit.invariant.looks told.aborts (λ o k it may kept. told.faults o k it tt kept) }

pub returns-in_err-push : goal.returns-in_err-push
returns-in_err-push g c = record { answers = tells_full c.from_residual-in_err-push.ensures (looks_then c.loop-unit.invariant.looks c.in_ok-head.ensures.answers.looks) }

pub returns : goal.returns
returns g c =
    record {
      answers = tells_well c.loop-unit.invariant.looks (λ clean o k it.
          c.loop-unit.invariant.so_far clean o k it
          ∙ ap (filter_map (λ unit. public_head (find (has_id unit) (nodes k.forest)))) (take_all c.loop-unit.unit-index c.args.units.now (omega (arith, c.loop-unit-test.false))));
    }
