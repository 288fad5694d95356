-- The lines of some containers: each by its number gives the same as all lines of which some are kept.
use Rattle.std.proofs.Common.{◌≡◌, ◌≤◌, ◌<◌, ℕ, pos, Bool, true, false, cond, ◌||◌, nat_eq, List, [], ◌∷◌, map, filter, find}
use Rattle.std.proofs.Common.{Option, Some, None, Less, Equal, Greater, refl, sym, ap, ap₂, ◌∙◌, arith}
use Rattle.std.proofs.lemmas.Map.Keys.{sorted_head, sorted_tail}
use Rattle.std.specs.List.Sorted.{IsStrictlySortedBy}
use Rattle.desk_store.specs.declared.queues.PlaceEntry.{PlaceEntry}
use Rattle.desk_store.proofs.Common.{AllByRecursion, AreByNumber, HoldingLine, HoldingRow, all_weaker, cons_option}
use Rattle.desk_store.proofs.Common.{filter_map, int_cmp, is_one_of, less_below, line_of, ltb-true, nat_cmp, nat_lt}
use Rattle.desk_store.proofs.Common.{nat_tests, option_map}
use Rattle.desk_store.proofs.PlaceRows.{place_entry}

-- the line of a container that is not on the shelf
abbrev pub found_line : List HoldingRow → ℕ → Option HoldingLine
found_line rows c = option_map line_of (find (λ (h : HoldingRow). nat_eq c h.container) rows)

-- ---- a line by its number

abbrev told_line : ℕ → PlaceEntry → HoldingLine
told_line c e = record { container = c; held_by = e.held_by }

first_known : (c : ℕ) (e : PlaceEntry) (x : HoldingRow) (found : Option HoldingRow) (b : Bool) → nat_eq c x.container ≡ b
    → (option_map place_entry found ≡ Some e → Some (told_line c e) ≡ option_map line_of found)
    → option_map place_entry (cond b (Some x) found) ≡ Some e
    → Some (told_line c e) ≡ option_map line_of (cond b (Some x) found)
first_known c e x found true same later is =
    let entry : place_entry x ≡ e = cc in
    let here : c ≡ x.container = grind (arith, nat_tests, same) in
    ap₂ (λ (k : ℕ) (y : PlaceEntry). Some (told_line k y)) here (sym entry)
first_known c e x found false same later is = later is

pub line_known : (c : ℕ) (rows : List HoldingRow) (e : PlaceEntry)
    → option_map place_entry (find (λ (h : HoldingRow). nat_eq c h.container) rows) ≡ Some e
    → Some (told_line c e) ≡ found_line rows c
line_known c [] e is = absurd (cc)
line_known c (x ∷ xs) e is =
    first_known c e x (find (λ (h : HoldingRow). nat_eq c h.container) xs) (nat_eq c x.container) refl (line_known c xs e) is

pub line_unknown : (c : ℕ) (rows : List HoldingRow)
    → option_map place_entry (find (λ (h : HoldingRow). nat_eq c h.container) rows) ≡ None
    → None ≡ found_line rows c
line_unknown c rows is = at (find (λ (h : HoldingRow). nat_eq c h.container) rows) is
  where
    at : (found : Option HoldingRow) → option_map place_entry found ≡ None → None ≡ option_map line_of found
    at None is = refl
    at (Some h) is = absurd (cc)

-- ---- all of them, by their numbers

abbrev in_row : (ℕ → Bool) → HoldingRow → Bool
in_row p h = p h.container

-- no row behind those of a container is of this container
past : (c : ℕ) (q : ℕ → Bool) (rows : List HoldingRow) → AllByRecursion (λ (h : HoldingRow). c < h.container) rows
    → (filter (in_row (λ k. nat_eq c k || q k)) rows ≡ filter (in_row q) rows) × (find (in_row (nat_eq c)) rows ≡ None)
past c q [] all = (refl, refl)
past c q (x ∷ xs) all =
    let other : nat_eq c x.container ≡ false = grind (arith, nat_tests, all.0) in
    let rest = past c q xs all.1 in
    rw other (ap (λ (l : List HoldingRow). cond (q x.container) (x ∷ l) l) rest.0, rest.1)

-- either the first row is of the container, or it is among those that are asked for behind it, or neither
module _ (c : ℕ) (q : ℕ → Bool) (above : (k : ℕ) → k ≤ c → q k ≡ false) (x : HoldingRow) (xs : List HoldingRow)
    (up : AllByRecursion (λ (h : HoldingRow). int_cmp (pos x.container) (pos h.container) ≡ Less) xs) where
  abbrev found : Option HoldingRow
  found = find (in_row (nat_eq c)) xs

  abbrev chosen : List HoldingRow
  chosen = filter (in_row q) xs

  abbrev all : List HoldingRow
  all = filter (in_row (λ k. nat_eq c k || q k)) xs

  behind : c ≤ x.container → AllByRecursion (λ (h : HoldingRow). c < h.container) xs
  behind low = all_weaker (λ (h : HoldingRow). int_cmp (pos x.container) (pos h.container) ≡ Less) (λ (h : HoldingRow). c < h.container)
      (λ h less. omega (arith, low, less_below x.container h.container less)) xs up

  above_it : q x.container ≡ true → (b : Bool) → nat_lt x.container c ≡ b → c ≤ x.container
  above_it kept true less =
      let low : x.container ≤ c = grind (arith, nat_tests, less) in
      absurd (let clash : true ≡ false = sym kept ∙ above x.container low in cc)
  above_it kept false over = grind (arith, nat_tests, over)

  one_more_row : (here later : Bool) → nat_eq c x.container ≡ here → q x.container ≡ later
      → cons_option (option_map line_of found) (map line_of chosen) ≡ map line_of all
      → cons_option (option_map line_of (cond here (Some x) found)) (map line_of (cond later (x ∷ chosen) chosen)) ≡ map line_of (cond (here || later) (x ∷ all) all)
  one_more_row true true same kept rest =
      let low : x.container ≤ c = grind (arith, nat_tests, same) in
      absurd (let clash : true ≡ false = sym kept ∙ above x.container low in cc)
  one_more_row true false same kept rest =
      let low : c ≤ x.container = grind (arith, nat_tests, same) in
      let none = past c q xs (behind low) in
      ap (λ (l : List HoldingRow). line_of x ∷ map line_of l) (sym none.0)
  one_more_row false true same kept rest =
      let none = past c q xs (behind (above_it kept (nat_lt x.container c) refl)) in
      ap₂ (λ (o : Option HoldingRow) (l : List HoldingRow). cons_option (option_map line_of o) (line_of x ∷ map line_of l)) none.1 (sym none.0)
  one_more_row false false same kept rest = rest

one_by_number : (c : ℕ) (q : ℕ → Bool) → ((k : ℕ) → k ≤ c → q k ≡ false)
    → (rows : List HoldingRow) → AreByNumber (λ (h : HoldingRow). h.container) rows
    → cons_option (found_line rows c) (map line_of (filter (in_row q) rows)) ≡ map line_of (filter (in_row (λ k. nat_eq c k || q k)) rows)
one_by_number c q above [] up = refl
one_by_number c q above (x ∷ xs) up =
    one_more_row c q above x xs up.0 (nat_eq c x.container) (q x.container) refl refl (one_by_number c q above xs up.1)

less_from : (a b : ℕ) → nat_cmp a b ≡ Less → a < b
less_from a b h = by (nat_lt a b) (nat_eq a b) refl h
  where
    by : (x y : Bool) → nat_lt a b ≡ x → cond x Less (cond y Equal Greater) ≡ Less → a < b
    by true y less h = ltb-true a b less
    by false true less h = absurd (cc)
    by false false less h = absurd (cc)

-- none of the numbers behind is as low
none_as_low : (c k : ℕ) (ns : List ℕ) → k ≤ c → AllByRecursion (λ n. nat_cmp c n ≡ Less) ns → is_one_of k ns ≡ false
none_as_low c k [] low all = refl
none_as_low c k (n ∷ ns) low all =
    let less : c < n = less_from c n all.0 in
    let other : nat_eq n k ≡ false = grind (arith, nat_tests, low, less) in
    rw other (none_as_low c k ns low all.1)

pub lines_each : (rows : List HoldingRow) → AreByNumber (λ (h : HoldingRow). h.container) rows
    → (ns : List ℕ) → IsStrictlySortedBy nat_cmp ns
    → filter_map (found_line rows) ns ≡ map line_of (filter (in_row (λ k. is_one_of k ns)) rows)
lines_each rows up [] rise = none_kept rows
  where
    none_kept : (rows : List HoldingRow) → [] ≡ map line_of (filter (in_row (λ k. false)) rows)
    none_kept [] = refl
    none_kept (x ∷ xs) = none_kept xs
lines_each rows up (n ∷ ns) rise =
    ap (cons_option (found_line rows n)) (lines_each rows up ns (sorted_tail nat_cmp n ns rise))
    ∙ one_by_number n (λ k. is_one_of k ns) (λ k low. none_as_low n k ns low (sorted_head nat_cmp n ns rise)) rows up
