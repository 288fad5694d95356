-- The table of the office has the one row that is said of it.
use Rattle.std.proofs.Common.{◌≡◌, pos, ◌<◌, List, [], ◌∷◌, false, Option, Some, None, is_none, filter_map, unwrap_or}
use Rattle.std.proofs.Common.{Less, refl, sym, ap, ap₂, ◌∙◌, arith}
use Rattle.office_core.specs.Words.{first}
use Rattle.adoption.proofs.Common.{AllByRecursion, First, IsTable, OfficeRow, Row, Second, Version, column, cons_option}
use Rattle.adoption.proofs.Common.{has_unread, int_cmp, less_below, no_office, office_cells, or_parts, read_office}
use Rattle.adoption.proofs.Common.{true≢false, value_cmp, value_cmp-Int, version_number}
use Rattle.adoption.proofs.catalogue.Rules.{IsKeyed}
use Rattle.adoption.proofs.catalogue.Readings.{office_parts, is_office}

abbrev said : List Row → OfficeRow
said rows = unwrap_or (first (filter_map read_office rows)) no_office

some_version : (v : Version) → 0 < version_number v
some_version First = omega arith
some_version Second = omega arith

not_two : (a b : Row) (o p : Option OfficeRow) → read_office a ≡ o → read_office b ≡ p → is_none o ≡ false
    → is_none p ≡ false → value_cmp (column a 0) (column b 0) ≡ Less → ⊥
not_two a b None p is too h k less = true≢false h
not_two a b (Some o) None is too h k less = true≢false k
not_two a b (Some o) (Some p) is too h k less =
    let less_ints : int_cmp (pos 1) (pos 1) ≡ Less =
    sym (ap₂ value_cmp (office_parts a o is).one (office_parts b p too).one ∙ value_cmp-Int (pos 1) (pos 1)) ∙ less in
    let absurdly = less_below 1 1 less_ints in
    omega (arith, absurdly)

one_row : (row : Row) (o : Option OfficeRow) → read_office row ≡ o → is_none o ≡ false → IsKeyed 11 row
    → row ∷ [] ≡ office_cells (unwrap_or (first (cons_option o [])) no_office) ∷ []
one_row row None is h fit = absurd (true≢false h)
one_row row (Some o) is h fit = ap (λ (r : Row). r ∷ []) (is_office row o is fit)

pub office_stored : (v : Version) (rows : List Row) → IsTable rows → AllByRecursion (IsKeyed 11) rows
    → has_unread read_office rows ≡ false → version_number v ≡ (said rows).version
    → rows ≡ office_cells (said rows) ∷ []
office_stored v [] up fit all version = let some = some_version v in absurd (omega (arith, some, version))
office_stored v (row ∷ []) up fit all version = one_row row (read_office row) refl (or_parts _ _ all).0 fit.0
office_stored v (a ∷ b ∷ rows) up fit all version =
    let parts = or_parts (is_none (read_office a)) (has_unread read_office (b ∷ rows)) all in
    absurd (not_two a b (read_office a) (read_office b) refl refl parts.0 (or_parts (is_none (read_office b)) (has_unread read_office rows) parts.1).0 up.0.0)
