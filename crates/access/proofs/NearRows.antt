-- The containers that the units near a unit name, as they are read from rows.
use Rattle.std.proofs.Common.{◌≡◌, ℕ, ◌+◌, ◌<◌, Bool, true, false, cond, List, [], ◌∷◌, ◌++◌, length, map, filter, take}
use Rattle.std.proofs.Common.{get_or, nat_eq, refl, sym, ap, ap₂, subst, ◌∙◌}
use Rattle.std.proofs.Math.Dec.{eqb}
use Rattle.std.specs.List.{dedup, dedup_from}
use Rattle.std.specs.Prelude.{◌&&◌, ◌||◌, IsPermutation, Option, Some, None}
use Rattle.catalogue_core.proofs.DistinctLists.{all_so}
use Rattle.catalogue_statements.specs.Representation.{RepresentsHousings, housing_places, numbered_containers}
use Rattle.catalogue_statements.specs.Rows.{HousingRow, counted_from}
use Rattle.catalogue_statements.specs.declared.row_types.Housing.{Housing}
use Rattle.access.proofs.Common.{AllByRecursion, AreMarks, BoxKey, Empty, Forest, Mark, Node, Trees, Unit, all_append}
use Rattle.access.proofs.Common.{all_split, all_true, any_agree, append-nil, box_number, branch, eqb-true, eqb_comm}
use Rattle.access.proofs.Common.{has, has_id}
use Rattle.access.proofs.Common.{is_one_of, last_or, list_any, list_any-IsPermutation, list_any-append, list_any-map}
use Rattle.access.proofs.Common.{mark_of, names_container, names_some, near, nearest, nodes, option_map, option_to_list}
use Rattle.access.proofs.Common.{or-false, path, says_so, take_more, tree, without_number}

-- ---- lists

any_filtered : {X : Type 0} (p q : X → Bool) (xs : List X) → list_any p (filter q xs) ≡ list_any (λ x. q x && p x) xs
any_filtered p q [] = refl
any_filtered p q (x ∷ xs) = at (q x) (any_filtered p q xs)
  where
    at : (b : Bool) → list_any p (filter q xs) ≡ list_any (λ x. q x && p x) xs
        → list_any p (cond b (x ∷ filter q xs) (filter q xs)) ≡ ((b && p x) || list_any (λ x. q x && p x) xs)
    at true e = ap (λ b. p x || b) e
    at false e = e

any_counted : (p : BoxKey → Bool) (k : ℕ) (boxes : List BoxKey)
    → list_any (λ (box : ℕ × BoxKey). p box.1) (counted_from k boxes) ≡ list_any p boxes
any_counted p k [] = refl
any_counted p k (b ∷ boxes) = ap (λ x. p b || x) (any_counted p (k + 1) boxes)

twice : (a b : Bool) → (a || b) ≡ (a || (a || b))
twice true b = refl
twice false b = refl

once_from : (p : ℕ → Bool) (n : ℕ) (ns : List ℕ) → list_any p (dedup_from eqb n ns) ≡ (p n || list_any p ns)
once_from p n [] = refl
once_from p n (m ∷ ms) = at (eqb m n) refl (once_from p n ms) (once_from p m ms)
  where
    at : (b : Bool) → eqb m n ≡ b → list_any p (dedup_from eqb n ms) ≡ (p n || list_any p ms)
        → list_any p (dedup_from eqb m ms) ≡ (p m || list_any p ms)
        → list_any p (cond b (dedup_from eqb n ms) (n ∷ dedup_from eqb m ms)) ≡ (p n || (p m || list_any p ms))
    at true same of_n of_m =
        of_n ∙ twice (p n) (list_any p ms) ∙ ap (λ (k : ℕ). p n || (p k || list_any p ms)) (sym (eqb-true m n same))
    at false other of_n of_m = ap (λ b. p n || b) of_m

-- each number once
pub any_once : (p : ℕ → Bool) (ns : List ℕ) → list_any p (dedup eqb ns) ≡ list_any p ns
any_once p [] = refl
any_once p (n ∷ ns) = once_from p n ns

-- ---- the rows of a unit, and of one unit more

pub of_unit : (xs ys : List HousingRow) (unit n : ℕ)
    → IsPermutation (filter (λ (h : HousingRow). nat_eq unit h.unit) xs) ys
    → is_one_of n (map (λ (h : Housing). h.container) (map (λ (h : HousingRow). (let t : Housing = record { ord = h.ord; container = h.container } in t)) ys)) ≡ list_any (says_so n unit) xs
of_unit xs ys unit n same =
    let tell : HousingRow → Housing = λ (h : HousingRow). record { ord = h.ord; container = h.container } in
    list_any-map (λ m. nat_eq m n) (λ (h : Housing). h.container) (map tell ys)
    ∙ list_any-map (λ (h : Housing). nat_eq h.container n) tell ys
    ∙ sym (list_any-IsPermutation (λ (h : HousingRow). nat_eq h.container n) (filter (λ (h : HousingRow). nat_eq unit h.unit) xs) ys same)
    ∙ any_filtered (λ (h : HousingRow). nat_eq h.container n) (λ (h : HousingRow). nat_eq unit h.unit) xs

pub one_more : (xs : List HousingRow) (n i : ℕ) (units found named : List ℕ) → i < length units
    → is_one_of n found ≡ list_any (λ unit. list_any (says_so n unit) xs) (take i units)
    → is_one_of n named ≡ list_any (says_so n (get_or units i 0)) xs
    → is_one_of n (found ++ named) ≡ list_any (λ unit. list_any (says_so n unit) xs) (take (i + 1) units)
one_more xs n i units found named low before here =
    let told : ℕ → Bool = λ unit. list_any (says_so n unit) xs in
    list_any-append (λ m. nat_eq m n) found named
    ∙ ap₂ ◌||◌ before (here ∙ sym (or-false (told (get_or units i 0))))
    ∙ sym (ap (list_any told) (take_more units i 0 low) ∙ list_any-append told (take i units) (get_or units i 0 ∷ []))

-- ---- the units near a unit

pub all_path : {A : Type 0} (P : A → Type 0) (is : A → Bool) (f : Forest A) → AllByRecursion P (nodes f)
    → AllByRecursion P (path is f)
all_path P is Empty h = tt
all_path P is (Node a c o) h =
    let s = all_split P (nodes c) (nodes o) h.1 in
    at (is a) (has is c) (all_path P is c s.0) (all_path P is o s.1)
  where
    at : (here below : Bool) → AllByRecursion P (path is c) → AllByRecursion P (path is o)
        → AllByRecursion P (cond here (a ∷ []) (cond below (a ∷ path is c) (path is o)))
    at true below in_c in_o = (h.0, tt)
    at false true in_c in_o = (h.0, in_c)
    at false false in_c in_o = in_o

all_branch : {A : Type 0} (P : A → Type 0) (is : A → Bool) (f : Forest A) → AllByRecursion P (nodes f)
    → AllByRecursion P (branch is f)
all_branch P is Empty h = tt
all_branch P is (Node a c o) h =
    let s = all_split P (nodes c) (nodes o) h.1 in
    at (is a) (has is c) (subst (AllByRecursion P) (sym (append-nil (nodes c))) s.0) (all_branch P is c s.0) (all_branch P is o s.1)
  where
    at : (here below : Bool) → AllByRecursion P (nodes c ++ []) → AllByRecursion P (branch is c)
        → AllByRecursion P (branch is o)
        → AllByRecursion P (nodes (cond here (Node a c Empty) (cond below (tree is c) (tree is o))))
    at true below own in_c in_o = (h.0, own)
    at false true own in_c in_o = in_c
    at false false own in_c in_o = in_o

pub all_last : {A : Type 0} (P : A → Type 0) (is : A → Bool) (found : Option A) (xs : List A)
    → AllByRecursion P (option_to_list found) → AllByRecursion P xs
    → AllByRecursion P (option_to_list (last_or found (filter is xs)))
all_last P is found [] h all = h
all_last P is found (x ∷ xs) h all =
    at (is x) (all_last P is (Some x) xs (all.0, tt) all.1) (all_last P is found xs h all.1)
  where
    at : (b : Bool) → AllByRecursion P (option_to_list (last_or (Some x) (filter is xs)))
        → AllByRecursion P (option_to_list (last_or found (filter is xs)))
        → AllByRecursion P (option_to_list (last_or found (cond b (x ∷ filter is xs) (filter is xs))))
    at true taken left = taken
    at false taken left = left

pub all_near : (P : Unit → Type 0) (u : ℕ) (f : Forest Unit) → AllByRecursion P (nodes f) → AllByRecursion P (near u f)
all_near P u f h =
    all_append P (branch (has_id u) f) (option_to_list (last_or None (filter names_some (path (has_id u) f))))
    (all_branch P (has_id u) f h) (all_last P names_some None (path (has_id u) f) tt (all_path P (has_id u) f h))

-- the last that is so, of others for which the same is so
pub last_of_others : {X Y : Type 0} (g : X → Y) (p : Y → Bool) (q : X → Bool) (found : Option X) (xs : List X)
    → AllByRecursion (λ x. p (g x) ≡ q x) xs
    → option_to_list (last_or (option_map g found) (filter p (map g xs))) ≡ map g (option_to_list (last_or found (filter q xs)))
last_of_others g p q None [] all = refl
last_of_others g p q (Some x) [] all = refl
last_of_others g p q found (x ∷ xs) all =
    ap (λ b. option_to_list (last_or (option_map g found) (cond b (g x ∷ filter p (map g xs)) (filter p (map g xs))))) all.0
    ∙ at (q x) (last_of_others g p q (Some x) xs all.1) (last_of_others g p q found xs all.1)
  where
    at : (b : Bool)
        → option_to_list (last_or (Some (g x)) (filter p (map g xs))) ≡ map g (option_to_list (last_or (Some x) (filter q xs)))
        → option_to_list (last_or (option_map g found) (filter p (map g xs))) ≡ map g (option_to_list (last_or found (filter q xs)))
        → option_to_list (last_or (option_map g found) (cond b (g x ∷ filter p (map g xs)) (filter p (map g xs)))) ≡ map g (option_to_list (last_or found (cond b (x ∷ filter q xs) (filter q xs))))
    at true taken left = taken
    at false taken left = left

-- what the last boxed mark of a path tells is told by the last unit that names some container
last_boxed : (told : ℕ → Bool) (way : List Unit) (marks : List Mark) → AreMarks way marks
    → list_any (λ (mark : Mark). told mark.id) (option_to_list (last_or None (filter (λ (mark : Mark). mark.boxed) marks))) ≡ list_any (λ (unit : Unit). told unit.id) (option_to_list (last_or None (filter names_some way)))
last_boxed told way marks are =
    let boxed = λ (mark : Mark). mark.boxed in
    let of_mark = λ (mark : Mark). told mark.id in
    sym (list_any-map of_mark without_number (option_to_list (last_or None (filter boxed marks))))
    ∙ ap (list_any of_mark) (sym (last_of_others without_number boxed boxed None marks (all_true (λ mark. boxed mark ≡ boxed mark) (λ mark. refl) marks))
    ∙ ap (λ l. option_to_list (last_or None (filter boxed l))) are
    ∙ last_of_others mark_of boxed names_some None way (all_true (λ unit. names_some unit ≡ names_some unit) (λ unit. refl) way))
    ∙ list_any-map of_mark mark_of (option_to_list (last_or None (filter names_some way)))

-- ---- what the rows of the units near it say

module _ (db : Trees) (f : Forest Unit) (containers : List BoxKey) (shown : RepresentsHousings db f containers) (n : ℕ) where
  abbrev cell : HousingRow → ℕ × ℕ
  cell h = (h.ord, h.container)

  abbrev here : ℕ × ℕ → Bool
  here c = nat_eq c.1 n

  says : (unit : Unit) → IsPermutation (numbered_containers containers unit.values) (housing_places unit.id shown.housings)
      → list_any (says_so n unit.id) shown.housings ≡ names_container containers n unit
  says unit same =
      let mine : HousingRow → Bool = λ (h : HousingRow). nat_eq unit.id h.unit in
      sym (any_filtered (λ (h : HousingRow). nat_eq h.container n) mine shown.housings)
      ∙ sym (list_any-map here cell (filter mine shown.housings))
      ∙ sym (list_any-IsPermutation here (numbered_containers containers unit.values) (housing_places unit.id shown.housings) same)
      ∙ list_any-map here (λ (box : ℕ × BoxKey). (let c : ℕ × ℕ = (box.0, box_number containers box.1) in c)) (counted_from 1 unit.values.boxes)
      ∙ any_counted (λ box. nat_eq (box_number containers box) n) 1 unit.values.boxes
      ∙ any_agree (λ box. nat_eq (box_number containers box) n) (λ box. nat_eq n (box_number containers box)) unit.values.boxes (λ box. eqb_comm (box_number containers box) n)

  IsSaid : Unit → Type 0
  IsSaid unit = list_any (says_so n unit.id) shown.housings ≡ names_container containers n unit

  all_said : (units : List Unit) → AllByRecursion IsSaid units
      → list_any (λ u. list_any (says_so n u) shown.housings) (map (λ (unit : Unit). unit.id) units) ≡ list_any (names_container containers n) units
  unfolding IsSaid
  all_said [] all = refl
  all_said (unit ∷ units) all = ap₂ ◌||◌ all.0 (all_said units all.1)

  each_said : AllByRecursion IsSaid (nodes f)
  unfolding IsSaid
  each_said = all_so (λ (unit : Unit). IsPermutation (numbered_containers containers unit.values) (housing_places unit.id shown.housings)) IsSaid says (nodes f) shown.are

  pub branch_named : (u : ℕ)
      → list_any (λ u. list_any (says_so n u) shown.housings) (map (λ (unit : Unit). unit.id) (branch (has_id u) f)) ≡ list_any (names_container containers n) (branch (has_id u) f)
  branch_named u = all_said (branch (has_id u) f) (all_branch IsSaid (has_id u) f each_said)

  -- the rows of the last boxed mark of its path name the containers in which a unit lies
  pub nearest_named : (u : ℕ) (marks : List Mark) → AreMarks (path (has_id u) f) marks
      → list_any (λ (mark : Mark). list_any (says_so n mark.id) shown.housings) (option_to_list (last_or None (filter (λ (mark : Mark). mark.boxed) marks))) ≡ list_any (names_container containers n) (nearest u f)
  nearest_named u marks are =
      let told = λ (unit : ℕ). list_any (says_so n unit) shown.housings in
      last_boxed told (path (has_id u) f) marks are
      ∙ sym (list_any-map told (λ (unit : Unit). unit.id) (nearest u f))
      ∙ all_said (nearest u f) (all_last IsSaid names_some None (path (has_id u) f) tt (all_path IsSaid (has_id u) f each_said))
