-- Permits only open more: a unit that nothing withholds from a reader without permits is open to everybody.
use Rattle.std.proofs.Common.{◌≡◌, ℕ, ℤ, Bool, true, false, cond, not, List, [], ◌∷◌, ◌++◌, map, refl, sym, ap, ap₂}
use Rattle.std.proofs.Common.{◌∙◌}
use Rattle.std.specs.Prelude.{◌&&◌, ◌||◌}
use Rattle.visibility.specs.Visibility.{sharing_paths}
use Rattle.desk_store.specs.declared.reader_permits.Permit.{Permit}
use Rattle.access.proofs.Common.{Empty, Forest, Mark, Node, Unit, allows, and_from, and_parts, contents_paths, each}
use Rattle.access.proofs.Common.{has_id, is_clean_by_marks, is_clean_for, is_closed, is_opened_above, is_some_there}
use Rattle.access.proofs.Common.{list_all, list_any, list_any-map, map-append, mark_for, mark_of, path, tree, withholds}

-- the reader has no permits
abbrev never : ℕ → Bool
never u = false

-- ---- the ways to the units that share containers

module _ (p : ℕ → Bool) where
  abbrev marked : List Unit → List Mark
  marked way = map (mark_for p) way

  abbrev names_some : Unit → Bool
  names_some unit = is_some_there unit.values.boxes

  ways_below : (above : List Unit) (f : Forest Unit)
      → sharing_paths (λ (m : Mark). m.boxed) (marked above) (each (mark_for p) f) ≡ map (map (mark_for p)) (sharing_paths names_some above f)
  ways_below above Empty = refl
  ways_below above (Node u c o) = at (names_some u) (ways_below (above ++ u ∷ []) c) (ways_below above o)
    where
      below : List (List Unit)
      below = sharing_paths names_some (above ++ u ∷ []) c

      beside : List (List Unit)
      beside = sharing_paths names_some above o

      longer : marked above ++ mark_for p u ∷ [] ≡ marked (above ++ u ∷ [])
      longer = sym (map-append (mark_for p) above (u ∷ []))

      at : (b : Bool)
          → sharing_paths (λ (m : Mark). m.boxed) (marked (above ++ u ∷ [])) (each (mark_for p) c) ≡ map (map (mark_for p)) below
          → sharing_paths (λ (m : Mark). m.boxed) (marked above) (each (mark_for p) o) ≡ map (map (mark_for p)) beside
          → cond b (sharing_paths (λ (m : Mark). m.boxed) (marked above) (each (mark_for p) o)) ((marked above ++ mark_for p u ∷ []) ∷ (sharing_paths (λ (m : Mark). m.boxed) (marked above ++ mark_for p u ∷ []) (each (mark_for p) c) ++ sharing_paths (λ (m : Mark). m.boxed) (marked above) (each (mark_for p) o)))
          ≡ map (map (mark_for p)) (cond b beside ((above ++ u ∷ []) ∷ (below ++ beside)))
      at true inner other = other
      at false inner other =
          ap₂ ◌∷◌ longer
          (ap₂ ◌++◌ (ap (λ way. sharing_paths (λ (m : Mark). m.boxed) way (each (mark_for p) c)) longer ∙ inner) other
          ∙ sym (map-append (map (mark_for p)) below beside))

  pub ways : (u : Unit) (below : Forest Unit)
      → contents_paths (mark_for p u) (each (mark_for p) below) ≡ map (map (mark_for p)) ((u ∷ []) ∷ sharing_paths names_some (u ∷ []) below)
  ways u below = ap (λ l. (mark_for p u ∷ []) ∷ l) (ways_below (u ∷ []) below)

  -- what withholds the last unit of a way
  pub withheld_is : (day : ℤ) (opened : Bool) (way : List Unit)
      → withholds day opened (marked way) ≡ (list_any (λ (u : Unit). u.draft) way || (list_any (λ (u : Unit). is_closed day (mark_of u)) way && not (opened || list_any (λ (u : Unit). p u.id) way)))
  withheld_is day opened way =
      ap₂ ◌||◌ (list_any-map (λ (m : Mark). m.draft) (mark_for p) way)
      (ap₂ ◌&&◌ (list_any-map (is_closed day) (mark_for p) way)
      (ap (λ b. not (opened || b)) (list_any-map (λ (m : Mark). m.permit) (mark_for p) way)))

-- ---- without permits

none_there : (way : List Unit) → list_any (λ (u : Unit). never u.id) way ≡ false
none_there [] = refl
none_there (u ∷ way) = none_there way

none_above : (way : List Unit) → is_opened_above (map (mark_for never) way) ≡ false
none_above [] = refl
none_above (u ∷ []) = refl
none_above (u ∷ v ∷ way) = none_above (v ∷ way)

more_open : (draft closed none some : Bool) → none ≡ false → not (draft || (closed && not none)) ≡ true
    → not (draft || (closed && not some)) ≡ true
more_open true closed none some e clean = absurd (cc)
more_open false true true some e clean = absurd (cc)
more_open false true false some e clean = absurd (cc)
more_open false false none some e clean = refl

module _ (q : ℕ → Bool) (day : ℤ) where
  seen_more : (opened : Bool) (way : List Unit) → not (withholds day false (map (mark_for never) way)) ≡ true
      → not (withholds day opened (map (mark_for q) way)) ≡ true
  seen_more opened way clean =
      ap not (withheld_is q day opened way)
      ∙ more_open (list_any (λ (u : Unit). u.draft) way) (list_any (λ (u : Unit). is_closed day (mark_of u)) way) (list_any (λ (u : Unit). never u.id) way) (opened || list_any (λ (u : Unit). q u.id) way) (none_there way)
      (sym (ap not (withheld_is never day false way)) ∙ clean)

  all_seen_more : (opened : Bool) (ways : List (List Unit))
      → list_all (λ way. not (withholds day false way)) (map (map (mark_for never)) ways) ≡ true
      → list_all (λ way. not (withholds day opened way)) (map (map (mark_for q)) ways) ≡ true
  all_seen_more opened [] clean = refl
  all_seen_more opened (way ∷ ways) clean =
      let both = and_parts (not (withholds day false (map (mark_for never) way))) (list_all (λ way. not (withholds day false way)) (map (map (mark_for never)) ways)) clean in
      and_from _ _ (seen_more opened way both.0) (all_seen_more opened ways both.1)

  clean_more_marks : (way : List Unit) (t : Forest Unit)
      → is_clean_by_marks day (map (mark_for never) way) (each (mark_for never) t) ≡ true
      → is_clean_by_marks day (map (mark_for q) way) (each (mark_for q) t) ≡ true
  clean_more_marks way Empty clean = seen_more false way clean
  clean_more_marks way (Node u below others) clean =
      let opened = is_opened_above (map (mark_for never) way) in
      let both = and_parts (not (withholds day false (map (mark_for never) way))) (list_all (λ way. not (withholds day opened way)) (contents_paths (mark_for never u) (each (mark_for never) below))) clean in
      let within : list_all (λ way. not (withholds day false way)) (map (map (mark_for never)) ((u ∷ []) ∷ sharing_paths (λ (unit : Unit). is_some_there unit.values.boxes) (u ∷ []) below)) ≡ true =
      sym (ap (list_all (λ way. not (withholds day false way))) (ways never u below))
      ∙ sym (ap (λ b. list_all (λ way. not (withholds day b way)) (contents_paths (mark_for never u) (each (mark_for never) below))) (none_above way))
      ∙ both.1 in
      and_from _ _ (seen_more false way both.0)
      (ap (list_all (λ one. not (withholds day (is_opened_above (map (mark_for q) way)) one))) (ways q u below)
      ∙ all_seen_more (is_opened_above (map (mark_for q) way)) ((u ∷ []) ∷ sharing_paths (λ (unit : Unit). is_some_there unit.values.boxes) (u ∷ []) below) within)

  clean_more : (f : Forest Unit) (id : ℕ) → is_clean_for never day f id ≡ true → is_clean_for q day f id ≡ true
  clean_more f id clean = clean_more_marks (path (has_id id) f) (tree (has_id id) f) clean

-- units that are open to everybody, by the permits of a reader
pub open_to_all : (day : ℤ) (permits : List Permit) (f : Forest Unit) (units : List ℕ)
    → list_all (is_clean_for (allows day []) day f) units ≡ true → list_all (is_clean_for (allows day permits) day f) units ≡ true
open_to_all day permits f [] clean = refl
open_to_all day permits f (u ∷ units) clean =
    let both = and_parts (is_clean_for (allows day []) day f u) (list_all (is_clean_for (allows day []) day f) units) clean in
    and_from _ _ (clean_more (allows day permits) day f u both.0) (open_to_all day permits f units both.1)
