-- The catalogue stays good where units are changed, removed or moved.
use Rattle.std.proofs.Common.{◌≡◌, ℕ, ◌+◌, ◌<◌, ◌≤◌, Bool, true, false, cond, List, [], ◌∷◌, length, map, Option, Some}
use Rattle.std.proofs.Common.{None, refl, sym, ap, ◌∙◌, subst, inl, inr, arith}
use Rattle.std.proofs.lemmas.Map.Keys.{IsDistinct-IsPermutation}
use Rattle.std.specs.List.{IsDistinct}
use Rattle.std.specs.Prelude.{nat_eq}
use Rattle.catalogue_core.proofs.Common.{AllByRecursion, AreGoodUnits, BoxKey, Catalogue, Empty, Forest, IsGoodUnit}
use Rattle.catalogue_core.proofs.Common.{IsPermutation, IsPermutation-map, Node, Unit, Values, cases_Bool, cut}
use Rattle.catalogue_core.proofs.Common.{depth_after, distinct, each, eq-eqb, eqb-true, eqb_comm, false≢true, has_id}
use Rattle.catalogue_core.proofs.Common.{has_place, has_unit, is_blank_text, is_good_text, is_into_itself, is_same_box}
use Rattle.catalogue_core.proofs.Common.{is_same_unit, is_source, length_permutation, list_all, list_any, most_bytes}
use Rattle.catalogue_core.proofs.Common.{most_deep, most_units, move_last, nodes, nodes-each, size, size-each}
use Rattle.catalogue_core.proofs.NodeLemmas.{length-nodes}
use Rattle.catalogue_core.proofs.EachOf.{all_append, all_split}
use Rattle.catalogue_core.proofs.ImportedAgain.{all_each}
use Rattle.catalogue_core.proofs.DistinctLists.{all_so, distinct_so, distinct_mapped, distinct_unmapped}
use Rattle.catalogue_core.proofs.DistinctLists.{distinct_beside, distinct_parts}
use Rattle.catalogue_core.proofs.EachAfter.{all_cut, all_moved}
use Rattle.catalogue_core.proofs.ImportedNumbers.{same_flip}
use Rattle.catalogue_core.proofs.Branches.{many, passing, passing-many, IsOnePlace, moved_same}
use Rattle.catalogue_core.proofs.Heights.{height-each, height_cut, height_moved}

-- ---- no two alike

distinct_cut : {A : Type 0} (e : A → A → Bool) (gone : A → Bool) (f : Forest A) → IsDistinct e (nodes f)
    → IsDistinct e (nodes (cut gone f))
unfolding IsDistinct
distinct_cut e gone Empty d = tt
distinct_cut e gone (Node a c o) d =
    let r = distinct_parts e (nodes c) (nodes o) d.1 in
    let s = all_split (λ y. e a y ≡ false) (nodes c) (nodes o) d.0 in
    let across = all_cut (λ x. AllByRecursion (λ y. e x y ≡ false) (nodes (cut gone o))) gone c (all_so (λ x. AllByRecursion (λ y. e x y ≡ false) (nodes o)) (λ x. AllByRecursion (λ y. e x y ≡ false) (nodes (cut gone o))) (λ x. all_cut (λ y. e x y ≡ false) gone o) (nodes c) r.2) in
    at (gone a) (distinct_cut e gone c r.0) (distinct_cut e gone o r.1) across (all_cut (λ y. e a y ≡ false) gone c s.0) (all_cut (λ y. e a y ≡ false) gone o s.1)
  where
    at : (b : Bool) → IsDistinct e (nodes (cut gone c)) → IsDistinct e (nodes (cut gone o))
        → AllByRecursion (λ x. AllByRecursion (λ y. e x y ≡ false) (nodes (cut gone o))) (nodes (cut gone c))
        → AllByRecursion (λ y. e a y ≡ false) (nodes (cut gone c))
        → AllByRecursion (λ y. e a y ≡ false) (nodes (cut gone o))
        → IsDistinct e (nodes (cond b (cut gone o) (Node a (cut gone c) (cut gone o))))
    at true l r x h k = r
    at false l r x h k = (all_append (λ y. e a y ≡ false) (nodes (cut gone c)) (nodes (cut gone o)) h k, distinct_beside e (nodes (cut gone c)) (nodes (cut gone o)) l r x)

-- ---- units

abbrev number : Unit → ℕ
number unit = unit.id

-- the number was given, where n is the next
abbrev IsGiven : ℕ → Unit → Type 0
IsGiven n unit = (1 ≤ unit.id) × (unit.id < n)

abbrev same_number : Unit → Unit → Bool
same_number a b = nat_eq a.id b.id

-- no more than one passes, where those that pass are alike and no two are
once : {X : Type 0} (e : X → X → Bool) (is : X → Bool) → ((a b : X) → is a ≡ true → is b ≡ true → e a b ≡ true)
    → (xs : List X) → IsDistinct e xs → many is xs ≤ 1
unfolding IsDistinct
once e is alike [] d = omega arith
once e is alike (x ∷ xs) d = at (is x) refl (once e is alike xs d.1)
  where
    none : {X : Type 0} (e : X → X → Bool) (is : X → Bool) → ((a b : X) → is a ≡ true → is b ≡ true → e a b ≡ true)
        → (x : X) → is x ≡ true → (xs : List X) → AllByRecursion (λ y. e x y ≡ false) xs → many is xs ≡ 0
    none e is alike x t [] h = refl
    none e is alike x t (y ∷ ys) h = elim (cases_Bool (is y)) [ inl k ↦ absurd (false≢true (sym h.0 ∙ alike x y t k)) | inr n ↦ rw n (let z = none e is alike x t ys h.1 in omega (arith, z)) ]

    at : (b : Bool) → is x ≡ b → many is xs ≤ 1 → cond b 1 0 + many is xs ≤ 1
    at true t l = (let z = none e is alike x t xs d.0 in omega (arith, z))
    at false n l = omega (arith, l)

one_unit : (u : ℕ) (f : Forest Unit) → IsDistinct nat_eq (map number (nodes f)) → passing (has_id u) f ≤ 1
one_unit u f d =
    let l = once same_number (has_id u) (λ a b h k. eq-eqb a.id b.id (sym (eqb-true u a.id h) ∙ eqb-true u b.id k)) (nodes f) (distinct_unmapped nat_eq number (nodes f) d) in
    let e = passing-many (has_id u) f in
    omega (arith, l, e)

-- ---- units are changed

-- the change leaves the number, where the description came from, and the description
pub record KeepsUnits (g : Unit → Unit) : Type 0 where
  pub id : (unit : Unit) → (g unit).id ≡ unit.id
  pub source : (unit : Unit) → (g unit).source ≡ unit.source
  pub legacy : (unit : Unit) → (g unit).legacy ≡ unit.legacy
  pub values : (unit : Unit) → (g unit).values ≡ unit.values

kept_unit : (boxes : List BoxKey) (g : Unit → Unit) → KeepsUnits g → (unit : Unit) → IsGoodUnit boxes unit
    → IsGoodUnit boxes (g unit)
kept_unit boxes g k unit h =
    record {
      source = subst (λ x. is_source x ≡ true) (sym (k.source unit)) h.source;
      legacy = subst (λ x. is_blank_text x ≡ false) (sym (k.legacy unit)) h.legacy;
      legacy_short = subst (λ x. length x ≤ most_bytes) (sym (k.legacy unit)) h.legacy_short;
      level_short = subst (λ (x : Values). length x.level ≤ most_bytes) (sym (k.values unit)) h.level_short;
      texts = subst (λ (x : Values). list_all is_good_text x.texts ≡ true) (sym (k.values unit)) h.texts;
      texts_count = subst (λ (x : Values). length x.texts ≡ 25) (sym (k.values unit)) h.texts_count;
      known = subst (λ (x : Values). list_all (λ box. list_any (is_same_box box) boxes) x.boxes ≡ true) (sym (k.values unit)) h.known;
      apart = subst (λ (x : Values). distinct x.boxes ≡ x.boxes) (sym (k.values unit)) h.apart;
    }

same_numbers : (g : Unit → Unit) → KeepsUnits g → (us : List Unit) → map number (map g us) ≡ map number us
same_numbers g k [] = refl
same_numbers g k (u ∷ us) = ap (λ n. n ∷ map number (map g us)) (k.id u) ∙ ap (λ ns. u.id ∷ ns) (same_numbers g k us)

same_pair : (g : Unit → Unit) → KeepsUnits g → (a b : Unit) → is_same_unit a b ≡ is_same_unit (g a) (g b)
same_pair g k a b = rw (k.source a, k.source b, k.legacy a, k.legacy b) refl

pub each_good : (c : Catalogue) (g : Unit → Unit) → KeepsUnits g → AreGoodUnits c
    → AreGoodUnits (record c { forest = each g c.forest })
each_good c g k h =
    record {
      each = all_each (IsGoodUnit c.containers) g c.forest (all_so (IsGoodUnit c.containers) (λ unit. IsGoodUnit c.containers (g unit)) (kept_unit c.containers g k) (nodes c.forest) h.each);
      ids = subst (IsDistinct nat_eq) (sym (ap (map number) (nodes-each g c.forest) ∙ same_numbers g k (nodes c.forest))) h.ids;
      pairs = subst (IsDistinct is_same_unit) (sym (nodes-each g c.forest))
          (distinct_mapped is_same_unit g (nodes c.forest) (distinct_so is_same_unit (λ a b. is_same_unit (g a) (g b)) (λ a b n. sym (same_pair g k a b) ∙ n) (nodes c.forest) h.pairs));
      given = all_each (IsGiven c.next) g c.forest (all_so (IsGiven c.next) (λ unit. IsGiven c.next (g unit)) (λ unit i. subst (λ n. (1 ≤ n) × (n < c.next)) (sym (k.id unit)) i) (nodes c.forest) h.given);
      next = h.next;
      few = subst (λ n. n ≤ most_units) (sym (size-each g c.forest)) h.few;
      depth = subst (λ n. n ≤ most_deep) (sym (height-each g c.forest)) h.depth;
    }

-- ---- a branch is removed

size_cut : {A : Type 0} (gone : A → Bool) (f : Forest A) → size (cut gone f) ≤ size f
size_cut gone Empty = omega arith
size_cut gone (Node a c o) = at (gone a) (size_cut gone c) (size_cut gone o)
  where
    at : (b : Bool) → size (cut gone c) ≤ size c → size (cut gone o) ≤ size o
        → size (cond b (cut gone o) (Node a (cut gone c) (cut gone o))) ≤ 1 + (size c + size o)
    at true x y = omega (arith, y)
    at false x y = omega (arith, x, y)

pub cut_good : (c : Catalogue) (gone : Unit → Bool) → AreGoodUnits c
    → AreGoodUnits (record c { forest = cut gone c.forest })
cut_good c gone h =
    let less = size_cut gone c.forest in
    let lower = height_cut gone c.forest in
    record {
      each = all_cut (IsGoodUnit c.containers) gone c.forest h.each;
      ids = distinct_mapped nat_eq number (nodes (cut gone c.forest)) (distinct_cut same_number gone c.forest (distinct_unmapped nat_eq number (nodes c.forest) h.ids));
      pairs = distinct_cut is_same_unit gone c.forest h.pairs;
      given = all_cut (IsGiven c.next) gone c.forest h.given;
      next = h.next;
      few = omega (arith, less, h.few);
      depth = omega (arith, lower, h.depth);
    }

-- ---- a branch goes below another unit

one_place : (p : Option ℕ) (f : Forest Unit) → IsDistinct nat_eq (map number (nodes f)) → has_place has_id p f ≡ true
    → IsOnePlace has_id p f
one_place None f d h = tt
one_place (Some v) f d h = (one_unit v f d, h)

-- what a Move asks for
pub record CanMove (c : Catalogue) (u : ℕ) (p : Option ℕ) : Type 0 where
  pub there : has_unit c.forest u ≡ true
  pub place : has_place has_id p c.forest ≡ true
  pub apart : is_into_itself u p c.forest ≡ false
  pub deep : depth_after u p c.forest ≤ most_deep

pub move_same : (c : Catalogue) (u : ℕ) (p : Option ℕ) → AreGoodUnits c → CanMove c u p
    → IsPermutation (nodes c.forest) (nodes (move_last has_id u p c.forest))
move_same c u p h m = moved_same has_id u p c.forest (one_unit u c.forest h.ids) m.there (one_place p c.forest h.ids m.place) m.apart

pub move_good : (c : Catalogue) (u : ℕ) (p : Option ℕ) → AreGoodUnits c → CanMove c u p
    → AreGoodUnits (record c { forest = move_last has_id u p c.forest })
move_good c u p h m =
    let f = move_last has_id u p c.forest in
    let same = move_same c u p h m in
    let count = length_permutation (nodes c.forest) (nodes f) same in
    let old = length-nodes c.forest in
    let new = length-nodes f in
    let high = height_moved u p c.forest (one_unit u c.forest h.ids) m.there (one_place p c.forest h.ids m.place) m.apart in
    record {
      each = all_moved (IsGoodUnit c.containers) u p c.forest h.each;
      ids = IsDistinct-IsPermutation nat_eq eqb_comm (map number (nodes c.forest)) (map number (nodes f)) (IsPermutation-map number (nodes c.forest) (nodes f) same) h.ids;
      pairs = IsDistinct-IsPermutation is_same_unit same_flip (nodes c.forest) (nodes f) same h.pairs;
      given = all_moved (IsGiven c.next) u p c.forest h.given;
      next = h.next;
      few = omega (arith, count, old, new, h.few);
      depth = omega (arith, high, h.depth, m.deep);
    }
