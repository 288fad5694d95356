-- Values that are the same change nothing.
use Rattle.std.proofs.Common.{◌≡◌, ℕ, Bool, true, false, not, cond, ◌&&◌, List, [], ◌∷◌, ◌++◌, Option, Some, None, refl}
use Rattle.std.proofs.Common.{sym, ap, ap₂, ◌∙◌, subst, nat_eq, append-nil}
use Rattle.std.specs.Cmp.Lexicographic.{pointwise}
use Rattle.std.specs.List.{IsDistinct}
use Rattle.std.specs.Prelude.{map, ◌||◌}
use Rattle.catalogue_core.proofs.UnitPlaces.{HaveOwnNumbers}
use Rattle.csv_import.proofs.Common.{AllByRecursion, AreGoodUnits, BoxKey, Bytes, Catalogue, Empty, Forest}
use Rattle.csv_import.proofs.Common.{KnowsItsContainers, Node, Unit, Values, all_distinct, all_of_found, all_so}
use Rattle.csv_import.proofs.Common.{all_split, and_parts, box_itself, bytes_eq, distinct, distinct_append, each}
use Rattle.csv_import.proofs.Common.{eqb-true, false≢true, filter, find, has_id, is_same_box, list_all, list_any, nodes}
use Rattle.csv_import.proofs.Common.{one_text, option_eq, or_right, same_box, same_values, with_boxes, with_values}

-- ---- the same values are one

all_equal : {X : Type 0} (same : X → X → Bool) → ((x y : X) → same x y ≡ true → x ≡ y) → (xs ys : List X)
    → pointwise same xs ys ≡ true → xs ≡ ys
all_equal same h [] [] e = refl
all_equal same h [] (y ∷ ys) e = absurd (false≢true e)
all_equal same h (x ∷ xs) [] e = absurd (false≢true e)
all_equal same h (x ∷ xs) (y ∷ ys) e =
    let parts = and_parts (same x y) (pointwise same xs ys) e in
    ap₂ (λ z zs. z ∷ zs) (h x y parts.0) (all_equal same h xs ys parts.1)

one_option : (x y : Option Bytes) → option_eq bytes_eq x y ≡ true → x ≡ y
one_option None None e = refl
one_option None (Some b) e = absurd (false≢true e)
one_option (Some a) None e = absurd (false≢true e)
one_option (Some a) (Some b) e = ap Some (one_text a b e)

pub one_description : (a b : Values) → same_values a b ≡ true → a ≡ b
one_description a b e =
    let x = and_parts (bytes_eq a.level b.level) (pointwise (option_eq bytes_eq) a.texts b.texts && pointwise is_same_box a.boxes b.boxes) e in
    let y = and_parts (pointwise (option_eq bytes_eq) a.texts b.texts) (pointwise is_same_box a.boxes b.boxes) x.1 in
    ap (λ t. record { level = t; texts = a.texts; boxes = a.boxes }) (one_text a.level b.level x.0)
    ∙ (ap (λ t. record { level = b.level; texts = t; boxes = a.boxes }) (all_equal (option_eq bytes_eq) one_option a.texts b.texts y.0)
    ∙ ap (λ t. record { level = b.level; texts = b.texts; boxes = t }) (all_equal is_same_box same_box a.boxes b.boxes y.1))

-- ---- the units stay

-- where it is found, no other unit has its number
others_apart : (n : ℕ) (us : List Unit) (values : Values)
    → AllByRecursion (λ m. nat_eq n m ≡ false) (map (λ (u : Unit). u.id) us)
    → AllByRecursion (λ u. has_id n u ≡ true → u.values ≡ values) us
others_apart n [] values h = tt
others_apart n (u ∷ us) values h = (λ e. absurd (false≢true (sym h.0 ∙ e)), others_apart n us values h.1)

its_values : (n : ℕ) (us : List Unit) (v : Unit) → HaveOwnNumbers us → find (has_id n) us ≡ Some v
    → AllByRecursion (λ u. has_id n u ≡ true → u.values ≡ v.values) us
unfolding IsDistinct
its_values n [] v d e = tt
its_values n (u ∷ us) v d e = at (has_id n u) refl e (its_values n us v d.1)
  where
    at : (b : Bool) → has_id n u ≡ b → cond b (Some u) (find (has_id n) us) ≡ Some v
        → (find (has_id n) us ≡ Some v → AllByRecursion (λ w. has_id n w ≡ true → w.values ≡ v.values) us)
        → (has_id n u ≡ true → u.values ≡ v.values) × AllByRecursion (λ w. has_id n w ≡ true → w.values ≡ v.values) us
    at true it k later =
        let same : u ≡ v = cc in
        let number : n ≡ u.id = eqb-true n u.id it in
        (λ h. ap (λ (w : Unit). w.values) same, others_apart n us v.values (subst (λ m. AllByRecursion (λ k. nat_eq m k ≡ false) (map (λ (w : Unit). w.id) us)) (sym number) d.0))
    at false other k later = (λ h. absurd (false≢true (sym other ∙ h)), later k)

each_stays : (g : Unit → Unit) (f : Forest Unit) → AllByRecursion (λ u. g u ≡ u) (nodes f) → each g f ≡ f
each_stays g Empty h = refl
each_stays g (Node u c o) h =
    let r = all_split (λ u. g u ≡ u) (nodes c) (nodes o) h.1 in
    ap (λ v. Node v (each g c) (each g o)) h.0 ∙ ap₂ (λ x y. Node u x y) (each_stays g c r.0) (each_stays g o r.1)

-- ---- the containers stay

none_left : (boxes bs : List BoxKey) → AllByRecursion (λ b. list_any (λ x. is_same_box x b) boxes ≡ true) bs
    → filter (λ b. not (list_any (λ x. is_same_box x b) boxes)) bs ≡ []
none_left boxes [] h = refl
none_left boxes (b ∷ bs) h =
    ap (λ k. cond (not k) (b ∷ filter (λ b. not (list_any (λ x. is_same_box x b) boxes)) bs) (filter (λ b. not (list_any (λ x. is_same_box x b) boxes)) bs)) h.0
    ∙ none_left boxes bs h.1

turned : (b : BoxKey) (boxes : List BoxKey) → list_any (is_same_box b) boxes ≡ true
    → list_any (λ x. is_same_box x b) boxes ≡ true
turned b [] h = h
turned b (x ∷ xs) h = at (is_same_box b x) refl h (turned b xs)
  where
    at : (k : Bool) → is_same_box b x ≡ k → (k || list_any (is_same_box b) xs) ≡ true
        → (list_any (is_same_box b) xs ≡ true → list_any (λ y. is_same_box y b) xs ≡ true)
        → list_any (λ y. is_same_box y b) (x ∷ xs) ≡ true
    at true e k more = ap (λ t. t || list_any (λ y. is_same_box y b) xs) (subst (λ (y : BoxKey). is_same_box y b ≡ true) (same_box b x e) (box_itself b))
    at false e k more = or_right (is_same_box x b) (list_any (λ y. is_same_box y b) xs) (more k)

all_turned : (boxes bs : List BoxKey) → list_all (λ b. list_any (is_same_box b) boxes) bs ≡ true
    → AllByRecursion (λ b. list_any (λ x. is_same_box x b) boxes ≡ true) bs
all_turned boxes [] h = tt
all_turned boxes (b ∷ bs) h = let parts = and_parts (list_any (is_same_box b) boxes) (list_all (λ b. list_any (is_same_box b) boxes) bs) h in (turned b boxes parts.0, all_turned boxes bs parts.1)

boxes_stay : (boxes bs : List BoxKey) → distinct boxes ≡ boxes → list_all (λ b. list_any (is_same_box b) boxes) bs ≡ true
    → with_boxes boxes bs ≡ boxes
boxes_stay boxes bs apart known =
    distinct_append boxes bs
    ∙ (ap₂ (λ xs ys. xs ++ ys) apart (none_left boxes (distinct bs) (all_distinct (λ b. list_any (λ x. is_same_box x b) boxes ≡ true) bs (all_turned boxes bs known)))
    ∙ append-nil boxes)

-- ---- all of it

-- a unit takes the values that it has
pub nothing_changes : (c : Catalogue) (id : ℕ) (v : Unit) (values : Values) → AreGoodUnits c → KnowsItsContainers c
    → find (has_id id) (nodes c.forest) ≡ Some v → same_values v.values values ≡ true → with_values id values c ≡ c
nothing_changes c id v values good knows found same =
    let is : v.values ≡ values = one_description v.values values same in
    let known = subst (λ (w : Values). list_all (λ b. list_any (is_same_box b) c.containers) w.boxes ≡ true) is (all_of_found (λ (u : Unit). list_all (λ b. list_any (is_same_box b) c.containers) u.values.boxes ≡ true) (has_id id) (nodes c.forest) v found knows.known) in
    ap₂ (λ f bs. made f bs)
    (each_stays (λ u. cond (has_id id u) (record u { values = values }) u) c.forest
    (all_so (λ u. has_id id u ≡ true → u.values ≡ v.values) (λ u. cond (has_id id u) (record u { values = values }) u ≡ u) (λ u h. at u (has_id id u) refl (λ e. h e ∙ is)) (nodes c.forest) (its_values id (nodes c.forest) v good.ids found)))
    (boxes_stay c.containers values.boxes knows.apart known)
  where
    made : Forest Unit → List BoxKey → Catalogue
    made f bs = record { forest = f; containers = bs; next = c.next }

    at : (u : Unit) (b : Bool) → has_id id u ≡ b → (has_id id u ≡ true → u.values ≡ values)
        → cond b (record u { values = values }) u ≡ u
    at u true e h = ap (λ (w : Values). record u { values = w }) (sym (h e))
    at u false e h = refl
