-- Paths of units that the public may know.
use Rattle.std.proofs.Common.{◌≡◌, ℕ, ℤ, Bool, true, false, cond, ◌||◌, List, [], ◌∷◌, ◌++◌, map, Option, Some, None}
use Rattle.std.proofs.Common.{refl, sym, ap, ap₂, ◌∙◌, subst, inl, inr}
use Rattle.std.specs.Prelude.{nat_eq}
use Rattle.tree_core.proofs.LinkPaths.{parts, other_id}
use Rattle.catalogue_core.proofs.Common.{AllByRecursion, Empty, Forest, HasDistinctIds, Node, PublicUnit, Unit}
use Rattle.catalogue_core.proofs.Common.{before_last, cases_Bool, each, false≢true, has, has-each, has_id}
use Rattle.catalogue_core.proofs.Common.{has_public_number, is_told, is_unit_closed, list_any, list_any-append, nodes}
use Rattle.catalogue_core.proofs.Common.{or_left, or_right, path, public, public_number, public_of, public_unit}
use Rattle.catalogue_core.proofs.Common.{stub_of, tree}
use Rattle.catalogue_core.proofs.PublishedUnits.{before_last-push}

-- ---- the node that passes: its path ends with it, and it stands at the head of its tree

pub record Stand {A : Type 0} (is : A → Bool) (f : Forest A) : Type 0 where
  pub above : List A
  pub unit : A
  pub below : Forest A
  pub way : path is f ≡ above ++ unit ∷ []
  pub alone : tree is f ≡ Node unit below Empty
  pub passes : is unit ≡ true

pub stand : {A : Type 0} (is : A → Bool) (f : Forest A) → has is f ≡ true → Stand is f
stand is Empty h = absurd (false≢true h)
stand is (Node a c o) h = elim (cases_Bool (is a)) [
  | inl t ↦ record { above = []; unit = a; below = c; way = rw t refl; alone = rw t refl; passes = t }
  | inr n ↦ elim (cases_Bool (has is c)) [
    | inl y ↦ let r = stand is c y in record { above = a ∷ r.above; unit = r.unit; below = r.below; way = rw (n, y) (ap (λ l. a ∷ l) r.way); alone = rw (n, y) r.alone; passes = r.passes }
    | inr m ↦ let r = stand is o (rw (n, list_any-append is (nodes c) (nodes o), m) at h) in record { above = r.above; unit = r.unit; below = r.below; way = rw (n, m) r.way; alone = rw (n, m) r.alone; passes = r.passes }
  ]
]

pub nowhere : {A : Type 0} (is : A → Bool) (f : Forest A) → has is f ≡ false → tree is f ≡ Empty
nowhere is Empty h = refl
nowhere is (Node a c o) h = elim (cases_Bool (is a)) [
  | inl t ↦ absurd (false≢true (sym (rw t at h)))
  | inr n ↦ elim (cases_Bool (has is c)) [
    | inl y ↦ absurd (false≢true (sym (rw (n, list_any-append is (nodes c) (nodes o), y) at h)))
    | inr m ↦ rw (n, m) (nowhere is o (rw (n, list_any-append is (nodes c) (nodes o), m) at h))
  ]
]

-- ---- above a unit that the public may know there are no stubs

abbrev pub IsTold : PublicUnit → Type 0
IsTold unit = is_told unit ≡ true

-- what the public may know of a unit
abbrev pub known_of : ℤ → Unit → PublicUnit
known_of day unit = public_unit (unit, is_unit_closed day unit)

abbrev pub drafts : Unit → Bool
drafts unit = unit.draft

-- what the public may know of these trees, by whether the first unit is a draft and whether it is closed
abbrev pub known_where : ℤ → Unit → Forest Unit → Forest Unit → Bool → Bool → Forest PublicUnit
known_where day u c o draft closed =
    each public_unit (cond draft (public drafts (is_unit_closed day) o) (Node (u, is_unit_closed day u) (cond closed Empty (public drafts (is_unit_closed day) c)) (public drafts (is_unit_closed day) o)))

told_open : (day : ℤ) (u : Unit) → is_unit_closed day u ≡ false → IsTold (known_of day u)
told_open day u k = ap (λ b. is_told (public_unit (u, b))) k

pub told_above : (day : ℤ) (is : PublicUnit → Bool) (f : Forest Unit)
    → AllByRecursion IsTold (before_last (path is (public_of day f)))
told_above day is Empty = tt
told_above day is (Node u c o) = at u.draft (is_unit_closed day u) refl (told_above day is c) (told_above day is o)
  where
    first : (b : Bool) → is_unit_closed day u ≡ b
        → has is (each public_unit (cond b Empty (public drafts (is_unit_closed day) c))) ≡ true
        → AllByRecursion IsTold (before_last (path is (public_of day c)))
        → AllByRecursion IsTold (before_last (known_of day u ∷ path is (each public_unit (cond b Empty (public drafts (is_unit_closed day) c)))))
    first true k h below = absurd (false≢true h)
    first false k h below =
        let it = stand is (public_of day c) h in
        let above : AllByRecursion IsTold it.above =
        subst (AllByRecursion IsTold) (ap before_last it.way ∙ before_last-push it.above it.unit) below in
        subst (λ l. AllByRecursion IsTold (before_last (known_of day u ∷ l))) (sym it.way)
        (subst (AllByRecursion IsTold) (sym (before_last-push (known_of day u ∷ it.above) it.unit)) (told_open day u k, above))

    choose : (b closed : Bool) → is_unit_closed day u ≡ closed → let low = each public_unit (cond closed Empty (public drafts (is_unit_closed day) c)) in (d : Bool) → has is low ≡ d → AllByRecursion IsTold (before_last (path is (public_of day c))) → AllByRecursion IsTold (before_last (path is (public_of day o)))
        → AllByRecursion IsTold (before_last (cond b (known_of day u ∷ []) (cond d (known_of day u ∷ path is low) (path is (public_of day o)))))
    choose true closed k d h below beside = tt
    choose false closed k true h below beside = first closed k h below
    choose false closed k false h below beside = beside

    at : (draft closed : Bool) → is_unit_closed day u ≡ closed
        → AllByRecursion IsTold (before_last (path is (public_of day c)))
        → AllByRecursion IsTold (before_last (path is (public_of day o)))
        → AllByRecursion IsTold (before_last (path is (known_where day u c o draft closed)))
    at true closed k below beside = beside
    at false closed k below beside =
        choose (is (known_of day u)) closed k (has is (each public_unit (cond closed Empty (public drafts (is_unit_closed day) c)))) refl below beside

-- ---- by numbers

pub number_known : (day : ℤ) (u : Unit) → public_number (known_of day u) ≡ u.id
number_known day u = at (is_unit_closed day u)
  where
    stub : (o : Option ℤ) → public_number (stub_of u o) ≡ u.id
    stub None = refl
    stub (Some until) = refl

    at : (b : Bool) → public_number (public_unit (u, b)) ≡ u.id
    at true = stub u.until
    at false = refl

-- a unit that the public may know is there
pub known_there : (day : ℤ) (n : ℕ) (f : Forest Unit) → has (has_public_number n) (public_of day f) ≡ true
    → has (has_id n) f ≡ true
known_there day n Empty h = h
known_there day n (Node u c o) h = at u.draft (is_unit_closed day u) h (known_there day n c) (known_there day n o)
  where
    there : (b c' o' : Bool) → (b || (c' || o')) ≡ true → (c' ≡ true → has (has_id n) c ≡ true)
        → (o' ≡ true → has (has_id n) o ≡ true) → b ≡ nat_eq n u.id → has (has_id n) (Node u c o) ≡ true
    there true c' o' k f g e = or_left (nat_eq n u.id) (list_any (has_id n) (nodes c ++ nodes o)) (sym e)
    there false true o' k f g e =
        or_right (nat_eq n u.id) (list_any (has_id n) (nodes c ++ nodes o)) (list_any-append (has_id n) (nodes c) (nodes o) ∙ or_left (has (has_id n) c) (has (has_id n) o) (f refl))
    there false false o' k f g e =
        or_right (nat_eq n u.id) (list_any (has_id n) (nodes c ++ nodes o)) (list_any-append (has_id n) (nodes c) (nodes o) ∙ or_right (has (has_id n) c) (has (has_id n) o) (g k))

    lower : (closed : Bool) → (has (has_public_number n) (public_of day c) ≡ true → has (has_id n) c ≡ true)
        → has (has_public_number n) (each public_unit (cond closed Empty (public drafts (is_unit_closed day) c))) ≡ true
        → has (has_id n) c ≡ true
    lower true f k = absurd (false≢true k)
    lower false f k = f k

    at : (draft closed : Bool) → has (has_public_number n) (known_where day u c o draft closed) ≡ true
        → (has (has_public_number n) (public_of day c) ≡ true → has (has_id n) c ≡ true)
        → (has (has_public_number n) (public_of day o) ≡ true → has (has_id n) o ≡ true) → has (has_id n) (Node u c o) ≡ true
    at true closed k f g = or_right (nat_eq n u.id) (list_any (has_id n) (nodes c ++ nodes o)) (list_any-append (has_id n) (nodes c) (nodes o) ∙ or_right (has (has_id n) c) (has (has_id n) o) (g k))
    at false closed k f g =
        let low = each public_unit (cond closed Empty (public drafts (is_unit_closed day) c)) in
        there (has_public_number n (known_of day u)) (has (has_public_number n) low) (has (has_public_number n) (public_of day o))
        (ap (λ b. has_public_number n (known_of day u) || b) (sym (list_any-append (has_public_number n) (nodes low) (nodes (public_of day o)))) ∙ k)
        (lower closed f) g (ap (nat_eq n) (number_known day u))

-- ---- the path of a unit, as the public may know it

module _ (n : ℕ) (u : Unit) (c o : Forest Unit) where
  at_head : nat_eq n u.id ≡ true → path (has_id n) (Node u c o) ≡ u ∷ []
  at_head e = rw e refl

  in_children : nat_eq n u.id ≡ false → has (has_id n) c ≡ true → path (has_id n) (Node u c o) ≡ u ∷ path (has_id n) c
  in_children e k = rw (e, k) refl

  in_others : nat_eq n u.id ≡ false → has (has_id n) c ≡ false → path (has_id n) (Node u c o) ≡ path (has_id n) o
  in_others e k = rw (e, k) refl

abbrev ids : Forest Unit → Forest ℕ
ids f = each (λ (unit : Unit). unit.id) f

has_number : (n : ℕ) (f : Forest Unit) → has (nat_eq n) (ids f) ≡ has (has_id n) f
has_number n f = has-each (nat_eq n) (λ (unit : Unit). unit.id) f

-- a number that stands beside a unit is neither its own nor stands below it
not_here : (n : ℕ) (u : Unit) (c o : Forest Unit) → HasDistinctIds (ids (Node u c o)) → has (has_id n) o ≡ true
    → (nat_eq n u.id ≡ false) × (has (has_id n) c ≡ false)
not_here n u c o d h =
    let p = parts u.id (ids c) (ids o) d in
    let there = has_number n o ∙ h in
    (other_id u.id n (ids o) p.not_beside there, sym (has_number n c) ∙ elsewhere (has (nat_eq n) (ids c)) refl (p.apart n) there)
  where
    elsewhere : (b : Bool) → has (nat_eq n) (ids c) ≡ b
        → (has (nat_eq n) (ids c) ≡ true → has (nat_eq n) (ids o) ≡ false) → has (nat_eq n) (ids o) ≡ true
        → has (nat_eq n) (ids c) ≡ false
    elsewhere true e apart there = absurd (false≢true (sym (apart e) ∙ there))
    elsewhere false e apart there = e

abbrev TellsPath : ℤ → ℕ → Forest PublicUnit → Forest Unit → Type 0
TellsPath day n g f = has (has_public_number n) g ≡ true → path (has_public_number n) g ≡ map (known_of day) (path (has_id n) f)

pub known_path : (day : ℤ) (n : ℕ) (f : Forest Unit) → HasDistinctIds (ids f)
    → has (has_public_number n) (public_of day f) ≡ true
    → path (has_public_number n) (public_of day f) ≡ map (known_of day) (path (has_id n) f)
known_path day n Empty d h = refl
known_path day n (Node u c o) d h =
    let p = parts u.id (ids c) (ids o) d in
    at u.draft (is_unit_closed day u) refl h (known_path day n c p.children_distinct) (known_path day n o p.others_distinct)
  where
    beside : has (has_public_number n) (public_of day o) ≡ true → TellsPath day n (public_of day o) o
        → path (has_public_number n) (public_of day o) ≡ map (known_of day) (path (has_id n) (Node u c o))
    beside k f =
        let not = not_here n u c o d (known_there day n o k) in
        f k ∙ ap (map (known_of day)) (sym (in_others n u c o not.0 not.1))

    lower : (closed : Bool) → TellsPath day n (public_of day c) c → nat_eq n u.id ≡ false
        → has (has_public_number n) (each public_unit (cond closed Empty (public drafts (is_unit_closed day) c))) ≡ true
        → known_of day u ∷ path (has_public_number n) (each public_unit (cond closed Empty (public drafts (is_unit_closed day) c))) ≡ map (known_of day) (path (has_id n) (Node u c o))
    lower true f e k = absurd (false≢true k)
    lower false f e k =
        ap (λ l. known_of day u ∷ l) (f k)
        ∙ ap (map (known_of day)) (sym (in_children n u c o e (known_there day n c k)))

    choose : (closed : Bool) → let low = each public_unit (cond closed Empty (public drafts (is_unit_closed day) c)) in (b l : Bool) → nat_eq n u.id ≡ b → has (has_public_number n) low ≡ l → (b || (l || has (has_public_number n) (public_of day o))) ≡ true
        → TellsPath day n (public_of day c) c → TellsPath day n (public_of day o) o
        → cond b (known_of day u ∷ []) (cond l (known_of day u ∷ path (has_public_number n) low) (path (has_public_number n) (public_of day o))) ≡ map (known_of day) (path (has_id n) (Node u c o))
    choose closed true l e k h f g = ap (map (known_of day)) (sym (at_head n u c o e))
    choose closed false true e k h f g = lower closed f e k
    choose closed false false e k h f g = beside h g

    at : (draft closed : Bool) → is_unit_closed day u ≡ closed
        → has (has_public_number n) (known_where day u c o draft closed) ≡ true → TellsPath day n (public_of day c) c
        → TellsPath day n (public_of day o) o
        → path (has_public_number n) (known_where day u c o draft closed) ≡ map (known_of day) (path (has_id n) (Node u c o))
    at true closed k h f g = beside h g
    at false closed k h f g =
        let low = each public_unit (cond closed Empty (public drafts (is_unit_closed day) c)) in
        let same : has_public_number n (known_of day u) ≡ nat_eq n u.id = ap (nat_eq n) (number_known day u) in
        let some : (nat_eq n u.id || (has (has_public_number n) low || has (has_public_number n) (public_of day o))) ≡ true =
        ap₂ ◌||◌ (sym same) (sym (list_any-append (has_public_number n) (nodes low) (nodes (public_of day o)))) ∙ h in
        ap (λ b. cond b (known_of day u ∷ []) (cond (has (has_public_number n) low) (known_of day u ∷ path (has_public_number n) low) (path (has_public_number n) (public_of day o)))) same
        ∙ choose closed (nat_eq n u.id) (has (has_public_number n) low) refl refl some f g
