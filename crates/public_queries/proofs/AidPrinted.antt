-- A finding aid is printed along the walk, with a list of the identifiers on the way, as it is by recursion on the forest.
use Rattle.std.proofs.Common.{◌≡◌, ℕ, zero, suc, ◌+◌, ◌<◌, ◌≤◌, Bool, true, false, cond, List, [], ◌∷◌, ◌++◌, length}
use Rattle.std.proofs.Common.{take, drop, get_or, Option, Some, None, refl, sym, ap, ap₂, ◌∙◌, append_assoc, append-nil}
use Rattle.std.proofs.Common.{arith, map}
use Rattle.visibility.specs.Marks as marks
use Rattle.visibility.specs.Visibility.{public}
use Rattle.public_queries.specs.declared.visible_unit.Seen.{Seen}
use Rattle.public_queries.proofs.Common.{AllByRecursion, BoxKey, Bytes, Catalogue, Empty, Forest, IsOf, KeepsUnits}
use Rattle.public_queries.proofs.Common.{Kept, Mark, Node, Repository, Shown, Told, Unit, Walked, aid, along, each}
use Rattle.public_queries.proofs.Common.{identifier, identifier_of, kept_from_walk, length-append, length-map}
use Rattle.public_queries.proofs.Common.{map-append, mark_of, public_unit, public_units, public_walk, seen_of, shown_at}
use Rattle.public_queries.proofs.Common.{shown_below, shown_unit, stub_of, unit_lines, walk, without_number, ℤ}

-- ---- the walk with a list of identifiers

pub id_same : (seen : Unit × Bool) → identifier_of (public_unit seen) ≡ identifier seen.0.values
id_same seen = by seen.1 seen.0.until
  where
    by : (b : Bool) (until : Option ℤ)
        → identifier_of (cond b (stub_of seen.0 until) (Told seen.0.id seen.0.values)) ≡ identifier seen.0.values
    by true None = refl
    by true (Some day) = refl
    by false until = refl

module _ (at : Repository) (containers : List BoxKey) (base : ℕ) where
  take_front : (xs ys : List Bytes) (n : ℕ) → length xs ≡ n → take n (xs ++ ys) ≡ xs
  take_front [] ys zero e = refl
  take_front [] ys (suc n) e = absurd (omega (arith, e))
  take_front (x ∷ xs) ys zero e = absurd (omega (arith, e))
  take_front (x ∷ xs) ys (suc n) e = ap (λ l. x ∷ l) (take_front xs ys n (omega (arith, e)))

  take_less : (xs : List Bytes) (n m : ℕ) → n ≤ m → take n (take m xs) ≡ take n xs
  take_less xs zero m h = refl
  take_less [] (suc n) zero h = refl
  take_less [] (suc n) (suc m) h = refl
  take_less (x ∷ xs) (suc n) zero h = absurd (omega (arith, h))
  take_less (x ∷ xs) (suc n) (suc m) h = ap (λ l. x ∷ l) (take_less xs n m (omega (arith, h)))

  take_whole : (xs : List Bytes) (n : ℕ) → length xs ≡ n → take n xs ≡ xs
  take_whole xs n e = ap (take n) (sym (append-nil xs)) ∙ take_front xs [] n e

  -- what follows depends on the identifiers above its depth alone
  along_walk : (f : Forest (Unit × Bool)) (d : ℕ) (ids above : List Bytes) (rest : List Walked) (more : List Shown)
      → length above ≡ base + d → take (base + d) ids ≡ above
      → ((ids : List Bytes) → take (base + d) ids ≡ above → along at containers base ids rest ≡ more)
      → along at containers base ids (walk d f ++ rest) ≡ shown_below at containers above d (each public_unit f) ++ more
  along_walk Empty d ids above rest more long front then = then ids front
  along_walk (Node x c o) d ids above rest more long front then =
      let way = above ++ identifier x.0.values ∷ [] in
      let deep : base + (1 + d) ≡ base + d + 1 = omega arith in
      let longer : length way ≡ base + (1 + d) =
      (let e = length-append above (identifier x.0.values ∷ []) in omega (arith, e, long)) in
      let one : 1 + d ≡ d + 1 = omega arith in
      let beside = λ (ids : List Bytes) (e : take (base + (1 + d)) ids ≡ way).
      let back : take (base + d) ids ≡ above =
      sym (take_less ids (base + d) (base + (1 + d)) (omega arith)) ∙ ap (take (base + d)) e
      ∙ take_front above (identifier x.0.values ∷ []) (base + d) long in
      along_walk o d ids above rest more long back then
      in
      ap (λ l. shown_unit at containers (l ++ identifier x.0.values ∷ []) d (public_unit x) ∷ along at containers base (l ++ identifier x.0.values ∷ []) ((walk (1 + d) c ++ walk d o) ++ rest)) front
      ∙ ap (λ l. shown_unit at containers way d (public_unit x) ∷ along at containers base way l) (append_assoc (walk (1 + d) c) (walk d o) rest)
      ∙ ap (λ l. shown_unit at containers way d (public_unit x) ∷ l) (along_walk c (1 + d) way way (walk d o ++ rest) (shown_below at containers above d (each public_unit o) ++ more) longer (take_whole way (base + (1 + d)) longer) beside)
      ∙ ap (λ n. shown_unit at containers way d (public_unit x) ∷ (shown_below at containers way n (each public_unit c) ++ (shown_below at containers above d (each public_unit o) ++ more))) one
      ∙ ap (λ l. shown_unit at containers way d (public_unit x) ∷ l) (sym (append_assoc (shown_below at containers way (d + 1) (each public_unit c)) (shown_below at containers above d (each public_unit o)) more))
      ∙ ap (λ i. shown_unit at containers (above ++ i ∷ []) d (public_unit x) ∷ ((shown_below at containers (above ++ i ∷ []) (d + 1) (each public_unit c) ++ shown_below at containers above d (each public_unit o)) ++ more)) (sym (id_same x))

  pub along_all : (f : Forest (Unit × Bool)) (above : List Bytes) → length above ≡ base
      → along at containers base above (walk 0 f) ≡ shown_below at containers above 0 (each public_unit f)
  along_all f above long =
      let deep : base + 0 ≡ base = omega arith in
      ap (along at containers base above) (sym (append-nil (walk 0 f)))
      ∙ along_walk f 0 above above [] [] (omega (arith, long, deep)) (take_whole above (base + 0) (omega (arith, long, deep))) (λ ids e. refl)
      ∙ append-nil (shown_below at containers above 0 (each public_unit f))

-- ---- what `prune` keeps of marks is what the public sees of the units

module _ {A B : Type 0} (g : A → B) (draft closed : B → Bool) where
  abbrev over : A × Bool → B × Bool
  over x = (g x.0, x.1)

  public_each : (f : Forest A)
      → public draft closed (each g f) ≡ each over (public (λ a. draft (g a)) (λ a. closed (g a)) f)
  public_each Empty = refl
  public_each (Node a c o) = at (draft (g a)) (closed (g a)) (public_each c) (public_each o)
    where
      at : (b k : Bool) → public draft closed (each g c) ≡ each over (public (λ a. draft (g a)) (λ a. closed (g a)) c)
          → public draft closed (each g o) ≡ each over (public (λ a. draft (g a)) (λ a. closed (g a)) o)
          → cond b (public draft closed (each g o)) (Node (g a, k) (cond k Empty (public draft closed (each g c))) (public draft closed (each g o)))
          ≡ each over (cond b (public (λ a. draft (g a)) (λ a. closed (g a)) o) (Node (a, k) (cond k Empty (public (λ a. draft (g a)) (λ a. closed (g a)) c)) (public (λ a. draft (g a)) (λ a. closed (g a)) o)))
      at true k in_c in_o = in_o
      at false true in_c in_o = ap (λ t. Node (g a, true) Empty t) in_o
      at false false in_c in_o = ap₂ (λ s t. Node (g a, false) s t) in_c in_o

walk-each : {A B : Type 0} (g : A → B) (d : ℕ) (f : Forest A)
    → walk d (each g f) ≡ map (λ (x : A × ℕ). (g x.0, x.1)) (walk d f)
walk-each g d Empty = refl
walk-each g d (Node a c o) =
    ap (λ l. (g a, d) ∷ l) (ap₂ ◌++◌ (walk-each g (1 + d) c) (walk-each g d o) ∙ sym (map-append (λ x. (g x.0, x.1)) (walk (1 + d) c) (walk d o)))

map_both : {A B C : Type 0} (f : B → C) (g : A → B) (xs : List A) → map f (map g xs) ≡ map (λ a. f (g a)) xs
map_both f g [] = refl
map_both f g (x ∷ xs) = ap (λ l. f (g x) ∷ l) (map_both f g xs)

abbrev mark_row : (Mark × Bool) × ℕ → Kept
mark_row x = record { id = x.0.0.id; depth = x.1; stub = x.0.1 }

-- rows of a forest of marks, by what its marks come from
abbrev row_by : {A : Type 0} → (A → Mark) → (A × Bool) × ℕ → Kept
row_by g x = record { id = (g x.0.0).id; depth = x.1; stub = x.0.1 }

kept_by : {A : Type 0} (day : ℤ) (g : A → Mark) (t : Forest A)
    → public_walk day (each g t) ≡ map (row_by g) (walk 0 (public (λ a. (g a).draft) (λ a. marks.is_closed day (g a)) t))
kept_by {A} day g t =
    let p : Forest (A × Bool) = public (λ a. (g a).draft) (λ a. marks.is_closed day (g a)) t in
    ap (λ (p : Forest (Mark × Bool)). map mark_row (walk 0 p)) (public_each g (λ (m : Mark). m.draft) (marks.is_closed day) t)
    ∙ ap (map mark_row) (walk-each (λ (x : A × Bool). (g x.0, x.1)) 0 p)
    ∙ map_both mark_row (λ (x : (A × Bool) × ℕ). ((g x.0.0, x.0.1), x.1)) (walk 0 p)

pub kept_units : (day : ℤ) (m : Forest Mark) (t : Forest Unit) → each without_number m ≡ each mark_of t
    → public_walk day m ≡ map kept_from_walk (walk 0 (public_units day t))
kept_units day m t e = sym (kept_by day without_number m) ∙ ap (public_walk day) e ∙ kept_by day mark_of t

-- ---- one unit more

-- what is seen of a unit, at its place, is what is shown of it
shown_seen : (at : Repository) (containers : List BoxKey) (ids : List Bytes) (depth : ℕ) (seen : Unit × Bool)
    → (shown_at at ids depth (seen_of containers (public_unit seen)) ≡ shown_unit at containers ids depth (public_unit seen)) × ((seen_of containers (public_unit seen)).identifier ≡ identifier seen.0.values)
shown_seen at containers ids depth seen = by seen.1 seen.0.until
  where
    by : (b : Bool) (until : Option ℤ) → let unit = cond b (stub_of seen.0 until) (Told seen.0.id seen.0.values) in (shown_at at ids depth (seen_of containers unit) ≡ shown_unit at containers ids depth unit) × ((seen_of containers unit).identifier ≡ identifier seen.0.values)
    by true None = (refl, refl)
    by true (Some day) = (refl, refl)
    by false until = (refl, refl)

module _ (at : Repository) (containers : List BoxKey) (base : ℕ) (ids : List Bytes) (row : Walked) (rest : List Walked) where
  abbrev front : List Bytes
  front = take (base + row.1) ids

  -- after its lines, those of the units that follow are left
  pub along_more : (seen : Seen) (cut way : List Bytes) (out done text : Bytes)
      → seen ≡ seen_of containers (public_unit row.0) → cut ≡ front → way ≡ cut ++ seen.identifier ∷ []
      → text ≡ unit_lines (shown_at at (cut ++ seen.identifier ∷ []) row.1 seen)
      → done ≡ out ++ aid (along at containers base ids (row ∷ rest))
      → done ≡ (out ++ text) ++ aid (along at containers base way rest)
  along_more seen cut way out done text is cut_is way_is text_is e =
      let same = shown_seen at containers (front ++ identifier row.0.0.values ∷ []) row.1 row.0 in
      let own : cut ++ seen.identifier ∷ [] ≡ front ++ identifier row.0.0.values ∷ [] =
      ap₂ (λ l i. l ++ i ∷ []) cut_is (ap (λ (s : Seen). s.identifier) is ∙ same.1) in
      let lines : text ≡ unit_lines (shown_unit at containers (front ++ identifier row.0.0.values ∷ []) row.1 (public_unit row.0)) =
      text_is ∙ ap₂ (λ l (s : Seen). unit_lines (shown_at at l row.1 s)) own is ∙ ap unit_lines same.0 in
      e
      ∙ ap (λ l. out ++ (l ++ aid (along at containers base (front ++ identifier row.0.0.values ∷ []) rest))) (sym lines)
      ∙ sym (append_assoc out text (aid (along at containers base (front ++ identifier row.0.0.values ∷ []) rest)))
      ∙ ap (λ l. (out ++ text) ++ aid (along at containers base l rest)) (sym (way_is ∙ own))

-- ---- the unit at a place

-- the item at an index, of which all that holds of each holds
pub record Here {X Y : Type 0} (f : X → Y) (P : X → Type 0) (xs : List X) (i : ℕ) (y : Y) : Type 0 where
  pub item : X
  pub holds : P item
  pub is : y ≡ f item
  pub left : drop i xs ≡ item ∷ drop (i + 1) xs

pub here_at : {X Y : Type 0} (f : X → Y) (P : X → Type 0) (xs : List X) (i : ℕ) (y none : Y) → AllByRecursion P xs
    → i < length xs → y ≡ get_or (map f xs) i none → Here f P xs i y
here_at f P [] i y none all h e = absurd (omega (arith, h))
here_at f P (x ∷ xs) zero y none all h e = record { item = x; holds = all.0; is = e; left = refl }
here_at f P (x ∷ xs) (suc i) y none all h e =
    let it = here_at f P xs i y none all.1 (omega (arith, h)) e in
    let one : suc i + 1 ≡ suc (i + 1) = omega arith in
    record { item = it.item; holds = it.holds; is = it.is; left = it.left ∙ ap (λ n. it.item ∷ drop n (x ∷ xs)) (sym one) }

pub drop_past : {X : Type 0} (xs : List X) (i : ℕ) → length xs ≤ i → drop i xs ≡ []
drop_past [] zero h = refl
drop_past [] (suc i) h = refl
drop_past (x ∷ xs) zero h = absurd (omega (arith, h))
drop_past (x ∷ xs) (suc i) h = drop_past xs i (omega (arith, h))

-- the unit that the row at an index tells
pub row_at : (day : ℤ) (c : Catalogue) (public_walk : List Kept) (rows : List Walked) (i : ℕ) (row : Kept)
    → row ≡ get_or public_walk i row → KeepsUnits day c public_walk rows → i < length public_walk
    → Here kept_from_walk (IsOf day c) rows i row
row_at day c public_walk rows i row is it low =
    let long = ap length it.told ∙ length-map rows kept_from_walk in
    here_at kept_from_walk (IsOf day c) rows i row row it.each (omega (arith, long, low))
    (is ∙ ap (λ l. get_or l i row) it.told)
