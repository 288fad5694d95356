use Rattle.std.proofs.Common.{◌≡◌, List, [], length, map, sym, ap, ◌∙◌}
use Rattle.desk_store.specs.declared.reader_permits.Permit.{Permit}
use Rattle.access.proofs.Common.{allows, eqb-true, has_id, is_clean_for, nil_from_length, path, tree, with_permit}
use Rattle.access.proofs.Unpermitted.{never, unpermitted, walk_unpermitted}
use Rattle.access.proofs.clean_units.is_unit_open.Goals as goal

pub returns-then-is_empty : goal.returns-then-is_empty
returns-then-is_empty c = λ f knows there.
    let unit = c.args.unit in
    let read = c.in_ok-path.path.items in
    let below = c.branch_marks-branch.result.now in
    let path_are = c.in_ok-path.ensures f knows in
    let branch_are = c.branch_marks-branch.ensures f knows in
    let empty : c.args.permits.now ≡ [] = nil_from_length c.args.permits.now (eqb-true (length c.args.permits.now) 0 (sym c.if-is_empty.ensures)) in
    c.is_clean.ensures never f unit there (record {
      path_marks = read;
      branch_marks = below;
      way_is = c.deref.ensures.value ∙ unpermitted (path (has_id unit) f) read path_are;
      below_is = walk_unpermitted (tree (has_id unit) f) below branch_are;
      path_are = path_are;
      branch_are = branch_are;
    })
    ∙ ap (λ (permits : List Permit). is_clean_for (allows c.args.today permits) c.args.today f unit) (sym empty)

pub returns : goal.returns
returns c = λ f knows there.
    let permitted = allows c.args.today c.args.permits.now in
    c.is_clean-2.ensures permitted f c.args.unit there (record {
      path_marks = c.in_ok-path.path.items;
      branch_marks = c.branch_marks-branch.result.now;
      way_is = c.deref-3.ensures.value ∙ c.in_ok-own_path.ensures ∙ ap (map (with_permit permitted)) c.deref-2.ensures.value;
      below_is = c.deref-4.ensures.value ∙ c.in_ok-own_branch.ensures;
      path_are = c.in_ok-path.ensures f knows;
      branch_are = c.branch_marks-branch.ensures f knows;
    })
