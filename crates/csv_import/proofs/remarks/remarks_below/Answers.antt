use Rattle.std.proofs.Common.{[], ◌++◌, Option, append-nil, ap, length, sym, ◌∙◌}
use Rattle.csv_import.proofs.Common.{Remark, iter_rest, length_push, looks_then, option_to_list, tells_full}
use Rattle.csv_import.proofs.Common.{tells_passed_later, zip_end, zip_first, zip_second, zip_turn}
use Rattle.csv_import.proofs.Pairs.{both_begin, pair_of}
use Rattle.csv_import.proofs.RightAbove.{one_remarked, parent_at, told_all}
use Rattle.csv_import.proofs.Tellings.{tells_so, told_later}
use Rattle.csv_import.proofs.remarks.remarks_below.Goals as goal

pub loop-row-preserved-in-Continue-branch-3 : goal.loop-row-preserved-in-Continue-branch-3
loop-row-preserved-in-Continue-branch-3 g c =
    let invariant = c.loop-row.invariant in
    let told = c.in_ok-remark.ensures.answers in
    let both = both_begin zip_first zip_second iter_rest iter_rest c.into_iter-row-iterator.ensures.into_iter_gives c.zip-row-items.ensures.first c.iter.ensures.rest c.zip-row-items.ensures.second.0 in
    let turn = zip_turn c.args.rows.now c.args.parents.now c.loop-row.yielded _ c.loop-row.row-iterator c.next.new.self c.next.result both.0 both.1 c.loop-row.yielded_by (c.in-Some.row, c.in-Some.parent) c.in-Some.is c.next.ensures.steps in
    let pair = pair_of (length c.loop-row.yielded) c.in-Some.row.now c.in-Some.parent.now turn in
    record {
      looks = looks_then invariant.looks (told []).looks;
      so_far = λ clean source o k it have.
          let now = told_later invariant.looks (told source) clean o k it in
          one_remarked c.loop-row.told c.in_ok-remark.field-0 have pair (length_push c.loop-row.yielded (c.in-Some.row, c.in-Some.parent))
          (c.in_ok-push.ensures.ok ∙ ap (λ (r : Option Remark). c.loop-row.told ++ option_to_list r) (sym c.in-Some-2.is))
          (invariant.so_far now.0 source o k it have) now.1;
    }

pub loop-row-preserved : goal.loop-row-preserved
loop-row-preserved g c =
    let invariant = c.loop-row.invariant in
    let told = c.in_ok-remark.ensures.answers in
    let both = both_begin zip_first zip_second iter_rest iter_rest c.into_iter-row-iterator.ensures.into_iter_gives c.zip-row-items.ensures.first c.iter.ensures.rest c.zip-row-items.ensures.second.0 in
    let turn = zip_turn c.args.rows.now c.args.parents.now c.loop-row.yielded _ c.loop-row.row-iterator c.next.new.self c.next.result both.0 both.1 c.loop-row.yielded_by (c.in-Some.row, c.in-Some.parent) c.in-Some.is c.next.ensures.steps in
    let pair = pair_of (length c.loop-row.yielded) c.in-Some.row.now c.in-Some.parent.now turn in
    record {
      looks = looks_then invariant.looks (told []).looks;
      so_far = λ clean source o k it have.
          let now = told_later invariant.looks (told source) clean o k it in
          one_remarked c.loop-row.told c.in_ok-remark.field-0 have pair (length_push c.loop-row.yielded (c.in-Some.row, c.in-Some.parent))
          (sym (append-nil c.loop-row.told) ∙ ap (λ (r : Option Remark). c.loop-row.told ++ option_to_list r) (sym c.in_default.is))
          (invariant.so_far now.0 source o k it have) now.1;
    }

pub returns-in_err-remark : goal.returns-in_err-remark
returns-in_err-remark g c =
    let both = both_begin zip_first zip_second iter_rest iter_rest c.into_iter-row-iterator.ensures.into_iter_gives c.zip-row-items.ensures.first c.iter.ensures.rest c.zip-row-items.ensures.second.0 in
    let turn = zip_turn c.args.rows.now c.args.parents.now c.loop-row.yielded _ c.loop-row.row-iterator c.next.new.self c.next.result both.0 both.1 c.loop-row.yielded_by (c.in-Some.row, c.in-Some.parent) c.in-Some.is c.next.ensures.steps in
    let pair = pair_of (length c.loop-row.yielded) c.in-Some.row.now c.in-Some.parent.now turn in
    let told = c.in_err-remark.ensures.answers in
    record { answers = λ source. tells_passed_later _ c.from_residual.ensures c.loop-row.invariant.looks (told source).aborts (λ o k it have kept. (told source).faults o k it (parent_at have pair) kept) }

pub returns-in_err-push : goal.returns-in_err-push
returns-in_err-push g c = record { answers = λ source. tells_full c.from_residual-in_err-push.ensures (looks_then c.loop-row.invariant.looks (c.in_ok-remark.ensures.answers []).looks) }

pub returns : goal.returns
returns g c =
    let both = both_begin zip_first zip_second iter_rest iter_rest c.into_iter-row-iterator.ensures.into_iter_gives c.zip-row-items.ensures.first c.iter.ensures.rest c.zip-row-items.ensures.second.0 in
    let last =
    zip_end c.args.rows.now c.args.parents.now c.loop-row.yielded _ c.loop-row.row-iterator c.next.new.self c.next.result both.0 both.1 c.loop-row.yielded_by c.in-None.is c.next.ensures.steps in
    record { answers = λ source. tells_so c.loop-row.invariant.looks (λ clean o k it have. told_all (length c.loop-row.yielded) c.loop-row.told have last (c.loop-row.invariant.so_far clean source o k it have).0) }
