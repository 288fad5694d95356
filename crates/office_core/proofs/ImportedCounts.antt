-- An accepted import brings as many units as its reply counts as new.
use Rattle.std.proofs.Common.{◌≡◌, ℕ, ◌+◌, ◌<◌, ◌≤◌, true, List, [], ◌++◌, length, None, Ok, Err, refl, sym, ap, ◌∙◌}
use Rattle.std.proofs.Common.{subst, arith, map, length-append}
use Rattle.catalogue_core.proofs.NodeLemmas.{length-nodes}
use Rattle.office_core.specs.ImportReply.{told_of}
use Rattle.office_core.specs.declared.command.Command.TheVariants as command
use Rattle.office_core.specs.declared.done.Done.{Done}
use Rattle.office_core.specs.declared.done.Done.TheVariants as done
use Rattle.office_core.proofs.Common.{AreGoodUnits, Bytes, Catalogue, ImportsBringTheNew, Intake, IsSound, New, Remark}
use Rattle.office_core.proofs.Common.{Reply, Row, State, Taken, Unit, all_so, bad_file, count_by, has_unit, intake_of}
use Rattle.office_core.proofs.Common.{is_new, length-filter, length-map, length-numbered, length_permutation}
use Rattle.office_core.proofs.Common.{merged_forest, merged_nodes, new_rows, new_unit, nodes, numbered_from, revised}
use Rattle.office_core.proofs.Common.{size, still_there, taken_is, with_import}
use Rattle.office_core.proofs.Steps.{step_at}
use Rattle.office_core.proofs.PassedChecks.{passed_import}

abbrev done_reply : Done → Reply
done_reply d = Ok d

-- so many units and unit numbers more, and none less
abbrev HasMore : State → ℕ → State → Type 0
HasMore s new t = ((u : ℕ) → has_unit s.catalogue.forest u ≡ true → has_unit t.catalogue.forest u ≡ true) × (size t.catalogue.forest ≡ size s.catalogue.forest + new) × (t.catalogue.next ≡ s.catalogue.next + new)

merged_size : (source : Bytes) (rows : List Row) (n : ℕ) (news : List Row) (s : State) → AreGoodUnits s.catalogue
    → n ≡ s.catalogue.next
    → size (merged_forest source rows (numbered_from s.catalogue.forest source n [] news) s.catalogue.forest) ≡ size s.catalogue.forest + length news
merged_size source rows n news s g e =
    let new : List New = numbered_from s.catalogue.forest source n [] news in
    let old : List Unit = map (revised source rows) (nodes s.catalogue.forest) in
    let come : List Unit = map (new_unit source) new in
    let p = merged_nodes source rows n news s.catalogue.forest g.ids (all_so (λ (u : Unit). (1 ≤ u.id) × (u.id < s.catalogue.next)) (λ u. u.id < n) (λ u k. (let b = k.1 in omega (arith, b, e))) (nodes s.catalogue.forest) g.given) in
    let a = length_permutation (nodes (merged_forest source rows new s.catalogue.forest)) (old ++ come) p in
    let b = length-append old come in
    let c = length-map (nodes s.catalogue.forest) (revised source rows) in
    let d = length-map new (new_unit source) in
    let f = length-numbered s.catalogue.forest source n [] news in
    let h = length-nodes (merged_forest source rows new s.catalogue.forest) in
    let i = length-nodes s.catalogue.forest in
    omega (arith, a, b, c, d, f, h, i)

taken_more : (s : State) (source file : Bytes) (intake : Intake) → intake_of s source file ≡ Ok intake
    → AreGoodUnits s.catalogue
    → HasMore s (count_by (is_new s.catalogue.forest source) intake.file.rows) (with_import s (Ok intake))
taken_more s source file intake e g =
    let it = taken_is s.catalogue source file intake e in
    let rows = intake.file.rows in
    let news = new_rows s.catalogue source rows in
    let many : length news ≡ count_by (is_new s.catalogue.forest source) rows =
    length-filter (is_new s.catalogue.forest source) rows in
    let size_is = merged_size source rows s.catalogue.next news s g refl in
    let forest_is = ap (λ c. size c.forest) it.is in
    let next_is = ap (λ c. c.next) it.is in
    let length_is = length-numbered s.catalogue.forest source s.catalogue.next [] news in
    let stay = subst (λ (c : Catalogue). (u : ℕ) → has_unit s.catalogue.forest u ≡ true → has_unit c.forest u ≡ true) (sym it.is) (still_there source rows (numbered_from s.catalogue.forest source s.catalogue.next [] news) s.catalogue.forest) in
    (stay, forest_is ∙ (size_is ∙ ap (λ n. size s.catalogue.forest + n) many), next_is ∙ ap (λ n. s.catalogue.next + n) (length_is ∙ many))

same_reply : (a b : Done) → done_reply a ≡ done_reply b → a ≡ b
same_reply a b e = cc

same_new : (c n s t c' n' s' t' : ℕ) (m m' : List Remark) → done.Import c n m s t ≡ done.Import c' n' m' s' t' → n ≡ n'
same_new c n s t c' n' s' t' m m' e = cc

accepted : (s : State) (source file : Bytes) (r : Taken) → intake_of s source file ≡ r → bad_file r ≡ None
    → AreGoodUnits s.catalogue → (changed new : ℕ) (marks : List Remark) (same translations : ℕ)
    → done_reply (told_of s.catalogue.forest source r) ≡ done_reply (done.Import changed new marks same translations)
    → HasMore s new (with_import s r)
accepted s source file (Err fault) e a g changed new marks same translations t = absurd (cc)
accepted s source file (Ok intake) e a g changed new marks same translations t =
    subst (λ n. HasMore s n (with_import s (Ok intake))) (same_new _ _ _ _ changed new same translations _ marks (same_reply _ _ t)) (taken_more s source file intake e g)

pub imports_bring : (s : State) → IsSound s → ImportsBringTheNew s
imports_bring s g source file changed new marks same translations =
    step_at (λ t reply. reply ≡ Ok (done.Import changed new marks same translations) → HasMore s new t) s (command.Import source file)
    (λ why e. absurd (cc))
    (λ ok e. accepted s source file (intake_of s source file) refl (passed_import s source file ok).faultless g.units changed new marks same translations e)
