-- New rows get the next unit numbers in the order of the file.
use Rattle.std.proofs.Common.{◌≡◌, ℕ, suc, ◌+◌, ◌<◌, ◌≤◌, Bool, true, ◌&&◌, List, [], ◌∷◌, ◌++◌, None, Ok, Err, refl}
use Rattle.std.proofs.Common.{sym, ◌∙◌, subst, arith, map}
use Rattle.office_core.specs.declared.command.Command.TheVariants as command
use Rattle.office_core.proofs.Common.{AreNumberedUnits, Bytes, Catalogue, File, Forest, IsSound, New, NumbersRows, Row}
use Rattle.office_core.proofs.Common.{State, Taken, Unit, all_so, bad_file, eq-eqb, file_of, has, has_id, intake_of}
use Rattle.office_core.proofs.Common.{is_from, list_any, list_any-IsPermutation, list_any-append, merged_forest}
use Rattle.office_core.proofs.Common.{merged_nodes, new_rows, new_unit, nodes, numbered_from, option_and_then, or_left}
use Rattle.office_core.proofs.Common.{or_right, parent_number, revised, same_text, taken_is, with_import}
use Rattle.office_core.proofs.Steps.{step_at}
use Rattle.office_core.proofs.PassedChecks.{passed_import}

-- a unit with this number, from this source, with this number there
abbrev is_row : Bytes → ℕ → Bytes → Unit → Bool
is_row source n legacy unit = has_id n unit && is_from source legacy unit

its_row : (source : Bytes) (x : New) (n : ℕ) → x.id ≡ n → is_row source n x.row.legacy (new_unit source x) ≡ true
its_row source x n e = rw (eq-eqb n x.id (sym e), same_text source, same_text x.row.legacy) refl

-- each row's unit is among these units
rows_among : (f : Forest Unit) (source : Bytes) (g : Forest Unit) (n : ℕ) (above rows : List Row)
    → ((p : Unit → Bool) → list_any p (map (new_unit source) (numbered_from f source n above rows)) ≡ true → has p g ≡ true)
    → AreNumberedUnits g source n rows
rows_among f source g n above [] h = tt
rows_among f source g n above (row ∷ rows) h =
    let first : New = record { id = n; parent = option_and_then (parent_number f source n above) row.parent; row = row } in
    let later = numbered_from f source (n + 1) (row ∷ above) rows in
    let next : n + 1 ≡ suc n = omega arith in (
      h (is_row source n row.legacy) (or_left (is_row source n row.legacy (new_unit source first)) (list_any (is_row source n row.legacy) (map (new_unit source) later)) (its_row source first n refl)),
      subst (λ m. AreNumberedUnits g source m rows) next (rows_among f source g (n + 1) (row ∷ above) rows (λ p k. h p (or_right (p (new_unit source first)) (list_any p (map (new_unit source) later)) k))),
    )

merged_rows : (s : State) (source : Bytes) (rows : List Row) → IsSound s → let news = new_rows s.catalogue source rows in AreNumberedUnits (merged_forest source rows (numbered_from s.catalogue.forest source s.catalogue.next [] news) s.catalogue.forest) source s.catalogue.next news
merged_rows s source rows g =
    let news = new_rows s.catalogue source rows in
    let new : List New = numbered_from s.catalogue.forest source s.catalogue.next [] news in
    let old : List Unit = map (revised source rows) (nodes s.catalogue.forest) in
    let p = merged_nodes source rows s.catalogue.next news s.catalogue.forest g.units.ids (all_so (λ (x : Unit). (1 ≤ x.id) × (x.id < s.catalogue.next)) (λ x. x.id < s.catalogue.next) (λ x k. k.1) (nodes s.catalogue.forest) g.units.given) in
    rows_among s.catalogue.forest source (merged_forest source rows new s.catalogue.forest) s.catalogue.next [] news
    (λ q k. list_any-IsPermutation q (nodes (merged_forest source rows new s.catalogue.forest)) (old ++ map (new_unit source) new) p
    ∙ (list_any-append q old (map (new_unit source) new) ∙ or_right (list_any q old) (list_any q (map (new_unit source) new)) k))

same_file : (a b : File) (r : _) → file_of r ≡ Ok a → file_of r ≡ Ok b → a ≡ b
same_file a b r e f = let k : Ok a ≡ Ok b = sym e ∙ f in cc

imported_rows : (s : State) (source file : Bytes) (t : Taken) → intake_of s source file ≡ t → bad_file t ≡ None
    → IsSound s → (read : File) → file_of file ≡ Ok read
    → AreNumberedUnits (with_import s t).catalogue.forest source s.catalogue.next (new_rows s.catalogue source read.rows)
imported_rows s source file (Err fault) e b g read f = absurd (cc)
imported_rows s source file (Ok intake) e b g read f =
    let it = taken_is s.catalogue source file intake e in
    subst (λ (r : File). AreNumberedUnits intake.catalogue.forest source s.catalogue.next (new_rows s.catalogue source r.rows)) (same_file intake.file read file it.read f)
    (subst (λ (c : Catalogue). AreNumberedUnits c.forest source s.catalogue.next (new_rows s.catalogue source intake.file.rows)) (sym it.is) (merged_rows s source intake.file.rows g))

pub numbers_rows : (s : State) → IsSound s → NumbersRows s
numbers_rows s g source file read done e f =
    step_at (λ t reply. reply ≡ Ok done → AreNumberedUnits t.catalogue.forest source s.catalogue.next (new_rows s.catalogue source read.rows)) s (command.Import source file)
    (λ why k. absurd (cc))
    (λ ok k. imported_rows s source file (intake_of s source file) refl (passed_import s source file ok).faultless g read f) e
