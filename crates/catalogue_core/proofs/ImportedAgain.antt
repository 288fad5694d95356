-- A file that was taken changes nothing when it is taken again.
use Rattle.std.proofs.Common.{◌≡◌, ℕ, ◌+◌, Bool, true, false, not, cond, ◌&&◌, ◌||◌, List, [], ◌∷◌, ◌++◌, length}
use Rattle.std.proofs.Common.{Option, Some, None, Ok, refl, sym, ap, ◌∙◌, subst, inl, inr, arith}
use Rattle.std.proofs.lemmas.List.Sums.{length-filter}
use Rattle.std.proofs.lemmas.Slice.Eq.{bytes_eq-Decides}
use Rattle.std.specs.Cmp.Lexicographic.{pointwise}
use Rattle.std.specs.Prelude.{filter}
use Rattle.catalogue_core.proofs.Common.{AllByRecursion, BoxKey, Bytes, Catalogue, Empty, Forest, New, Node, Result}
use Rattle.catalogue_core.proofs.Common.{Row, Unit, Values, and_from, and_parts, branches, bytes_eq, cases_Bool}
use Rattle.catalogue_core.proofs.Common.{catalogued_unit, count_by, distinct, each, false≢true, faults_below, find}
use Rattle.catalogue_core.proofs.Common.{flat_map, grown, has, has-each, has_legacy, is_changed, is_from, is_known}
use Rattle.catalogue_core.proofs.Common.{is_new, is_same, is_same_box, join, list_any, list_any-append, merge, merged}
use Rattle.catalogue_core.proofs.Common.{merged_boxes, merged_forest, new_unit, new_units, nodes, not-false}
use Rattle.catalogue_core.proofs.Common.{numbered_from, option_eq, option_map, option_map_or, or_first, or_left}
use Rattle.catalogue_core.proofs.Common.{or_right, revised, same_values, unwrap_or}
use Rattle.catalogue_core.proofs.EachOf.{all_append, all_split, all_filtered, all_and, all_true, all_distinct}
use Rattle.catalogue_core.proofs.EachOf.{all_of_found}
use Rattle.catalogue_core.proofs.FileRows.{AreApartRows}
use Rattle.catalogue_core.proofs.Imported.{new_rows, same_box, boxes_grow, distinct_again}
use Rattle.catalogue_core.proofs.Rooted.{has-join, nodes-join, grown_keeps, new_there}

-- ---- texts and values that are the same

pub same_text : (a : Bytes) → bytes_eq a a ≡ true
same_text a = grind (arith, bytes_eq-Decides a a)

pub one_text : (a b : Bytes) → bytes_eq a b ≡ true → a ≡ b
one_text a b e = grind (arith, bytes_eq-Decides a b)

pub other_way : (a b : Bytes) → bytes_eq a b ≡ false → bytes_eq b a ≡ false
other_way a b e = elim (cases_Bool (bytes_eq b a)) [ inl t ↦ absurd (false≢true (sym e ∙ (ap (λ x. bytes_eq x b) (sym (one_text b a t)) ∙ same_text b))) | inr f ↦ f ]

pointwise_same : {X : Type 0} (eq : X → X → Bool) → ((x : X) → eq x x ≡ true) → (xs : List X)
    → pointwise eq xs xs ≡ true
pointwise_same eq h [] = refl
pointwise_same eq h (x ∷ xs) = and_from (eq x x) (pointwise eq xs xs) (h x) (pointwise_same eq h xs)

same_option : (x : Option Bytes) → option_eq bytes_eq x x ≡ true
same_option None = refl
same_option (Some a) = same_text a

pub box_itself : (b : BoxKey) → is_same_box b b ≡ true
box_itself b = and_from (bytes_eq b.name b.name) (bytes_eq b.location b.location && bytes_eq b.kind b.kind) (same_text b.name) (and_from (bytes_eq b.location b.location) (bytes_eq b.kind b.kind) (same_text b.location) (same_text b.kind))

values_themselves : (v : Values) → same_values v v ≡ true
values_themselves v =
    and_from (bytes_eq v.level v.level) (pointwise (option_eq bytes_eq) v.texts v.texts && pointwise is_same_box v.boxes v.boxes) (same_text v.level)
    (and_from (pointwise (option_eq bytes_eq) v.texts v.texts) (pointwise is_same_box v.boxes v.boxes) (pointwise_same (option_eq bytes_eq) same_option v.texts) (pointwise_same is_same_box box_itself v.boxes))

-- ---- lists

none_kept : {X : Type 0} (p : X → Bool) (xs : List X) → AllByRecursion (λ x. p x ≡ false) xs → filter p xs ≡ []
none_kept p [] h = refl
none_kept p (x ∷ xs) h = ap (λ b. cond b (x ∷ filter p xs) (filter p xs)) h.0 ∙ none_kept p xs h.1

-- what holds of those that are kept holds of each that passes
all_unfiltered : {X : Type 0} (P : X → Type 0) (p : X → Bool) (xs : List X) → AllByRecursion P (filter p xs)
    → AllByRecursion (λ x. p x ≡ true → P x) xs
all_unfiltered P p [] h = tt
all_unfiltered P p (x ∷ xs) h = at (p x) refl h (all_unfiltered P p xs)
  where
    at : (b : Bool) → p x ≡ b → AllByRecursion P (cond b (x ∷ filter p xs) (filter p xs))
        → (AllByRecursion P (filter p xs) → AllByRecursion (λ x. p x ≡ true → P x) xs)
        → (p x ≡ true → P x) × AllByRecursion (λ x. p x ≡ true → P x) xs
    at true e k f = ((λ t. k.0), f k.1)
    at false e k f = ((λ t. absurd (false≢true (sym e ∙ t))), f k)

all_kept : {X : Type 0} (p : X → Bool) (xs : List X) → AllByRecursion (λ x. p x ≡ true) xs → filter p xs ≡ xs
all_kept p [] h = refl
all_kept p (x ∷ xs) h = ap (λ b. cond b (x ∷ filter p xs) (filter p xs)) h.0 ∙ ap (λ l. x ∷ l) (all_kept p xs h.1)

pub count_all : {X : Type 0} (p : X → Bool) (xs : List X) → AllByRecursion (λ x. p x ≡ true) xs
    → count_by p xs ≡ length xs
count_all p xs h = sym (length-filter p xs) ∙ ap length (all_kept p xs h)

count_none : {X : Type 0} (p : X → Bool) (xs : List X) → AllByRecursion (λ x. p x ≡ false) xs → count_by p xs ≡ 0
count_none p xs h = sym (length-filter p xs) ∙ ap length (none_kept p xs h)

-- ---- the containers, taken in again

any_filtered : (q p : BoxKey → Bool) → ((b : BoxKey) → p b ≡ false → q b ≡ false) → (xs : List BoxKey)
    → list_any q (filter p xs) ≡ list_any q xs
any_filtered q p f [] = refl
any_filtered q p f (x ∷ xs) = at (p x) refl (any_filtered q p f xs)
  where
    at : (b : Bool) → p x ≡ b → list_any q (filter p xs) ≡ list_any q xs
        → list_any q (cond b (x ∷ filter p xs) (filter p xs)) ≡ (q x || list_any q xs)
    at true e h = ap (λ b. q x || b) h
    at false e h = h ∙ sym (ap (λ b. b || list_any q xs) (f x e))

-- one of the containers is b
abbrev pub stands_box : BoxKey → List BoxKey → Bool
stands_box b xs = list_any (λ x. is_same_box x b) xs

apart_from : (x y b : BoxKey) → is_same_box x b ≡ false → not (is_same_box x y) ≡ false → is_same_box y b ≡ false
apart_from x y b h e = subst (λ z. is_same_box z b ≡ false) (same_box x y (not-false (is_same_box x y) e)) h

pub still_stands : (b : BoxKey) (xs : List BoxKey) → stands_box b (distinct xs) ≡ stands_box b xs
still_stands b [] = refl
still_stands b (x ∷ xs) = at (is_same_box x b) refl (still_stands b xs)
  where
    at : (c : Bool) → is_same_box x b ≡ c → stands_box b (distinct xs) ≡ stands_box b xs
        → (c || stands_box b (filter (λ later. not (is_same_box x later)) (distinct xs))) ≡ (c || stands_box b xs)
    at true e h = refl
    at false e h = any_filtered (λ y. is_same_box y b) (λ later. not (is_same_box x later)) (λ y f. apart_from x y b e f) (distinct xs) ∙ h

each_stands : (zs xs : List BoxKey) → ((b : BoxKey) → stands_box b xs ≡ true → stands_box b zs ≡ true)
    → AllByRecursion (λ b. stands_box b zs ≡ true) xs
each_stands zs [] f = tt
each_stands zs (x ∷ xs) f =
    (f x (or_left (is_same_box x x) (stands_box x xs) (box_itself x)), each_stands zs xs (λ b h. f b (or_right (is_same_box x b) (stands_box b xs) h)))

pub boxes_again : (boxes : List BoxKey) (rows : List Row)
    → merged_boxes rows (merged_boxes rows boxes) ≡ merged_boxes rows boxes
boxes_again boxes rows =
    let flat : List BoxKey = flat_map (λ row. row.values.boxes) rows in
    let old : List BoxKey = distinct (boxes ++ flat) in
    let all : AllByRecursion (λ b. stands_box b old ≡ true) flat =
    each_stands old flat (λ b h. still_stands b (boxes ++ flat) ∙ (list_any-append (λ x. is_same_box x b) boxes flat ∙ or_right (stands_box b boxes) (stands_box b flat) h)) in
    let none : filter (λ b. not (stands_box b old)) (distinct flat) ≡ [] =
    none_kept (λ b. not (stands_box b old)) (distinct flat) (all_weak (λ b. stands_box b old ≡ true) (λ b. not (stands_box b old) ≡ false) (λ b h. ap not h) (distinct flat) (all_distinct (λ b. stands_box b old ≡ true) flat all)) in
    boxes_grow old rows (distinct_again (boxes ++ flat)) ∙ (ap (λ l. old ++ l) none ∙ nothing_more old)
  where
    nothing_more : (xs : List BoxKey) → xs ++ [] ≡ xs
    nothing_more [] = refl
    nothing_more (x ∷ xs) = ap (λ l. x ∷ l) (nothing_more xs)

    all_weak : (P Q : BoxKey → Type 0) → ((b : BoxKey) → P b → Q b) → (xs : List BoxKey) → AllByRecursion P xs
        → AllByRecursion Q xs
    all_weak P Q f [] h = tt
    all_weak P Q f (x ∷ xs) h = (f x h.0, all_weak P Q f xs h.1)

-- ---- the row of a unit

row_itself : (rows : List Row) → AreApartRows rows
    → AllByRecursion (λ row. find (has_legacy row.legacy) rows ≡ Some row) rows
row_itself [] h = tt
row_itself (row ∷ rows) h = (
  ap (λ b. cond b (Some row) (find (has_legacy row.legacy) rows)) (same_text row.legacy),
  all_and (λ later. bytes_eq row.legacy later.legacy ≡ false) (λ later. find (has_legacy later.legacy) rows ≡ Some later) (λ later. find (has_legacy later.legacy) (row ∷ rows) ≡ Some later)
      (λ later e f. ap (λ b. cond b (Some row) (find (has_legacy later.legacy) rows)) (other_way row.legacy later.legacy e) ∙ f) rows h.0 (row_itself rows h.1),
)

-- the unit has the values of its row
abbrev Tells : Bytes → List Row → Unit → Type 0
Tells source rows unit =
    (row : Row) → bytes_eq unit.source source ≡ true → find (has_legacy unit.legacy) rows ≡ Some row → unit.values ≡ row.values

some_row : (a b : Row) → Some a ≡ Some b → a ≡ b
some_row a b e = cc

revised_tells : (source : Bytes) (rows : List Row) (u : Unit) → Tells source rows (revised source rows u)
revised_tells source rows u = at (bytes_eq u.source source) refl
  where
    at : (b : Bool) → bytes_eq u.source source ≡ b
        → Tells source rows (cond b (record u { values = unwrap_or (option_map (λ row. row.values) (find (has_legacy u.legacy) rows)) u.values }) u)
    at true e row h f = ap (λ r. unwrap_or (option_map (λ row. row.values) r) u.values) f
    at false e row h f = absurd (false≢true (sym e ∙ h))

-- a unit that has the values of its row keeps them
revised_same : (source : Bytes) (rows : List Row) (u : Unit) → Tells source rows u → revised source rows u ≡ u
revised_same source rows u t = at (bytes_eq u.source source) refl
  where
    found : (r : Option Row) → bytes_eq u.source source ≡ true → find (has_legacy u.legacy) rows ≡ r
        → record u { values = unwrap_or (option_map (λ row. row.values) r) u.values } ≡ u
    found None e f = refl
    found (Some row) e f = ap (λ v. record u { values = v }) (sym (t row e f))

    at : (b : Bool) → bytes_eq u.source source ≡ b
        → cond b (record u { values = unwrap_or (option_map (λ row. row.values) (find (has_legacy u.legacy) rows)) u.values }) u ≡ u
    at true e = found (find (has_legacy u.legacy) rows) e refl
    at false e = refl

-- the rows that get units are rows of the file
pub numbered_rows : (f : Forest Unit) (source : Bytes) (n : ℕ) (above news : List Row) (P : Row → Type 0)
    → AllByRecursion P news → AllByRecursion (λ x. P x.row) (numbered_from f source n above news)
numbered_rows f source n above [] P h = tt
numbered_rows f source n above (row ∷ news) P h = (h.0, numbered_rows f source (n + 1) (row ∷ above) news P h.1)

rows_numbered : (f : Forest Unit) (source : Bytes) (n : ℕ) (above news : List Row) (P : Row → Type 0)
    → AllByRecursion (λ x. P x.row) (numbered_from f source n above news) → AllByRecursion P news
rows_numbered f source n above [] P h = tt
rows_numbered f source n above (row ∷ news) P h = (h.0, rows_numbered f source (n + 1) (row ∷ above) news P h.1)

-- ---- what holds of every unit of the merged forest

all_branches : (P : New → Type 0) (p : Option ℕ) (ns : List New) → AllByRecursion P ns
    → AllByRecursion P (nodes (branches p ns))
all_branches P p [] h = tt
all_branches P p (x ∷ ns) h =
    at (option_eq Rattle.std.specs.Prelude.nat_eq x.parent p) (all_branches P (Some x.id) ns h.1) (all_branches P p ns h.1)
  where
    at : (b : Bool) → AllByRecursion P (nodes (branches (Some x.id) ns)) → AllByRecursion P (nodes (branches p ns))
        → AllByRecursion P (nodes (cond b (Node x (branches (Some x.id) ns) (branches p ns)) (branches p ns)))
    at true a c = (h.0, all_append P (nodes (branches (Some x.id) ns)) (nodes (branches p ns)) a c)
    at false a c = c

pub all_each : {A B : Type 0} (P : B → Type 0) (g : A → B) (f : Forest A) → AllByRecursion (λ a. P (g a)) (nodes f)
    → AllByRecursion P (nodes (each g f))
all_each P g Empty h = tt
all_each P g (Node a c o) h =
    let r = all_split (λ a. P (g a)) (nodes c) (nodes o) h.1 in
    (h.0, all_append P (nodes (each g c)) (nodes (each g o)) (all_each P g c r.0) (all_each P g o r.1))

pub all_join : {A : Type 0} (P : A → Type 0) (f g : Forest A) → AllByRecursion P (nodes f) → AllByRecursion P (nodes g)
    → AllByRecursion P (nodes (join f g))
all_join P f g h k = subst (AllByRecursion P) (sym (nodes-join f g)) (all_append P (nodes f) (nodes g) h k)

all_grown : (P : Unit → Type 0) (source : Bytes) (new : List New) (f : Forest Unit)
    → AllByRecursion (λ x. P (new_unit source x)) new → AllByRecursion P (nodes f)
    → AllByRecursion P (nodes (grown source new f))
all_grown P source new Empty n h = tt
all_grown P source new (Node u c o) n h =
    let r = all_split P (nodes c) (nodes o) h.1 in
    let below = all_each P (new_unit source) (branches (Some u.id) new) (all_branches (λ x. P (new_unit source x)) (Some u.id) new n) in (
      h.0,
      all_append P (nodes (join (grown source new c) (new_units source (Some u.id) new))) (nodes (grown source new o))
          (all_join P (grown source new c) (new_units source (Some u.id) new) (all_grown P source new c n r.0) below) (all_grown P source new o n r.1),
    )

pub all_merged : (P : Unit → Type 0) (source : Bytes) (rows : List Row) (new : List New) (f : Forest Unit)
    → AllByRecursion (λ x. P (new_unit source x)) new → AllByRecursion (λ u. P (revised source rows u)) (nodes f)
    → AllByRecursion P (nodes (merged_forest source rows new f))
all_merged P source rows new f n h =
    all_join P (grown source new (each (revised source rows) f)) (new_units source None new)
    (all_grown P source new (each (revised source rows) f) n (all_each P (revised source rows) f h))
    (all_each P (new_unit source) (branches None new) (all_branches (λ x. P (new_unit source x)) None new n))

-- ---- a forest that nothing is done to

each_same : (g : Unit → Unit) (f : Forest Unit) → AllByRecursion (λ u. g u ≡ u) (nodes f) → each g f ≡ f
each_same g Empty h = refl
each_same g (Node u c o) h =
    let r = all_split (λ u. g u ≡ u) (nodes c) (nodes o) h.1 in
    ap (λ v. Node v (each g c) (each g o)) h.0 ∙ (ap (λ k. Node u k (each g o)) (each_same g c r.0) ∙ ap (λ k. Node u c k) (each_same g o r.1))

join_none : (f : Forest Unit) → join f Empty ≡ f
join_none Empty = refl
join_none (Node u c o) = ap (λ k. Node u c k) (join_none o)

grown_none : (source : Bytes) (f : Forest Unit) → grown source [] f ≡ f
grown_none source Empty = refl
grown_none source (Node u c o) =
    ap (λ k. Node u k (grown source [] o)) (join_none (grown source [] c) ∙ grown_none source c) ∙ ap (λ k. Node u c k) (grown_none source o)

pub merged_none : (source : Bytes) (rows : List Row) (f : Forest Unit)
    → AllByRecursion (λ u. revised source rows u ≡ u) (nodes f) → merged_forest source rows [] f ≡ f
merged_none source rows f h =
    join_none (grown source [] (each (revised source rows) f))
    ∙ (grown_none source (each (revised source rows) f) ∙ each_same (revised source rows) f h)

-- ---- the file, taken in again

-- the catalogue after a file: each of its rows is known, and tells what its unit has
pub record HasTaken (source : Bytes) (rows : List Row) (f : Forest Unit) : Type 0 where
  pub known : AllByRecursion (λ row. is_known f source row ≡ true) rows
  pub answers : AllByRecursion (Tells source rows) (nodes f)

is_its : (source : Bytes) (x : New) → is_from source x.row.legacy (new_unit source x) ≡ true
is_its source x = and_from (bytes_eq source source) (bytes_eq x.row.legacy x.row.legacy) (same_text source) (same_text x.row.legacy)

pub is_from_revised : (source legacy : Bytes) (s : Bytes) (rows : List Row) (u : Unit)
    → is_from s legacy (revised source rows u) ≡ is_from s legacy u
is_from_revised source legacy s rows u = at (bytes_eq u.source source)
  where
    at : (b : Bool)
        → is_from s legacy (cond b (record u { values = unwrap_or (option_map (λ row. row.values) (find (has_legacy u.legacy) rows)) u.values }) u) ≡ is_from s legacy u
    at true = refl
    at false = refl

any_same : {A : Type 0} (p q : A → Bool) → ((x : A) → p x ≡ q x) → (xs : List A) → list_any p xs ≡ list_any q xs
any_same p q e [] = refl
any_same p q e (x ∷ xs) = ap (λ b. b || list_any p xs) (e x) ∙ ap (λ b. q x || b) (any_same p q e xs)

-- a unit that was known is known
still_known : (source : Bytes) (rows : List Row) (new : List New) (f : Forest Unit) (row : Row)
    → is_known f source row ≡ true → is_known (merged_forest source rows new f) source row ≡ true
still_known source rows new f row h =
    let is = is_from source row.legacy in
    has-join is (grown source new (each (revised source rows) f)) (new_units source None new)
    ∙ or_left (has is (grown source new (each (revised source rows) f))) (has is (new_units source None new))
    (grown_keeps source new is (each (revised source rows) f)
    (has-each is (revised source rows) f ∙ (any_same (λ u. is (revised source rows u)) is (is_from_revised source row.legacy source rows) (nodes f) ∙ h)))

-- the unit of a new row is known
now_known : (c : Catalogue) (source : Bytes) (rows : List Row)
    → AllByRecursion (λ row. is_known (merged_forest source rows (numbered_from c.forest source c.next [] (new_rows c source rows)) c.forest) source row ≡ true) (new_rows c source rows)
now_known c source rows =
    let new = numbered_from c.forest source c.next [] (new_rows c source rows) in
    rows_numbered c.forest source c.next [] (new_rows c source rows) (λ row. is_known (merged_forest source rows new c.forest) source row ≡ true)
    (each_row (new_rows c source rows) new (λ is. new_there c.forest source rows c.next (new_rows c source rows) is))
  where
    each_row : (news : List Row) (new : List New)
        → ((is : Unit → Bool) → AllByRecursion (λ x. is (new_unit source x) ≡ true → has is (merged_forest source rows (numbered_from c.forest source c.next [] (new_rows c source rows)) c.forest) ≡ true) new)
        → AllByRecursion (λ x. is_known (merged_forest source rows (numbered_from c.forest source c.next [] (new_rows c source rows)) c.forest) source x.row ≡ true) new
    each_row news [] f = tt
    each_row news (x ∷ new) f =
        ((f (is_from source x.row.legacy)).0 (is_its source x), each_row news new (λ is. (f is).1))

known_or_new : (c : Catalogue) (source : Bytes) (rows : List Row) (P : Row → Type 0)
    → ((row : Row) → is_known c.forest source row ≡ true → P row) → AllByRecursion P (new_rows c source rows)
    → AllByRecursion P rows
known_or_new c source rows P f h =
    all_and (λ row. not (is_known c.forest source row) ≡ true → P row) (λ row. Prim.Unit {0}) P (λ row g w. either row (is_known c.forest source row) refl g) rows (all_unfiltered P (λ row. not (is_known c.forest source row)) rows h) (all_true (λ row. Prim.Unit {0}) (λ row. tt) rows)
  where
    either : (row : Row) (b : Bool) → is_known c.forest source row ≡ b
        → (not (is_known c.forest source row) ≡ true → P row) → P row
    either row true e g = f row e
    either row false e g = g (ap not e)

pub has_taken : (c : Catalogue) (source : Bytes) (rows : List Row) → AreApartRows rows
    → HasTaken source rows (merged_forest source rows (numbered_from c.forest source c.next [] (new_rows c source rows)) c.forest)
has_taken c source rows apart =
    let news = new_rows c source rows in
    let new = numbered_from c.forest source c.next [] news in
    let itself = all_filtered (λ row. find (has_legacy row.legacy) rows ≡ Some row) (λ row. not (is_known c.forest source row)) rows (row_itself rows apart) in
    record {
      known = known_or_new c source rows (λ row. is_known (merged_forest source rows new c.forest) source row ≡ true) (still_known source rows new c.forest) (now_known c source rows);
      answers = all_merged (Tells source rows) source rows new c.forest
          (numbered_tells new (numbered_rows c.forest source c.next [] news (λ row. find (has_legacy row.legacy) rows ≡ Some row) itself))
          (all_true (λ u. Tells source rows (revised source rows u)) (revised_tells source rows) (nodes c.forest));
    }
  where
    numbered_tells : (new : List New) → AllByRecursion (λ x. find (has_legacy x.row.legacy) rows ≡ Some x.row) new
        → AllByRecursion (λ x. Tells source rows (new_unit source x)) new
    numbered_tells [] h = tt
    numbered_tells (x ∷ new) h =
        ((λ row e f. ap (λ r. r.values) (some_row x.row row (sym h.0 ∙ f))), numbered_tells new h.1)

-- the file changes nothing of such a catalogue
pub merge_again : (c : Catalogue) (source : Bytes) (rows : List Row) → HasTaken source rows c.forest
    → merged_boxes rows c.containers ≡ c.containers → merge c source rows ≡ Ok c
merge_again c source rows t b =
    let none : new_rows c source rows ≡ [] =
    none_kept (λ row. not (is_known c.forest source row)) rows (all_not rows t.known) in
    let same = merged_none source rows c.forest (all_same (nodes c.forest) t.answers) in
    let made : List Row → Result Catalogue (ℕ × ℕ) =
    λ new. or_first (faults_below c.forest source [] new) (merged c source rows (numbered_from c.forest source c.next [] new)) in
    let next : c.next + 0 ≡ c.next = omega arith in
    ap made none
    ∙ (ap (λ f. made_of f (merged_boxes rows c.containers) (c.next + 0)) same
    ∙ (ap (λ bs. made_of c.forest bs (c.next + 0)) b
    ∙ ap (λ n. made_of c.forest c.containers n) next))
  where
    made_of : Forest Unit → List BoxKey → ℕ → Result Catalogue (ℕ × ℕ)
    made_of f bs n = Ok (record { forest = f; containers = bs; next = n })

    all_not : (rs : List Row) → AllByRecursion (λ row. is_known c.forest source row ≡ true) rs
        → AllByRecursion (λ row. not (is_known c.forest source row) ≡ false) rs
    all_not [] h = tt
    all_not (row ∷ rs) h = (ap not h.0, all_not rs h.1)

    all_same : (us : List Unit) → AllByRecursion (Tells source rows) us
        → AllByRecursion (λ u. revised source rows u ≡ u) us
    all_same [] h = tt
    all_same (u ∷ us) h = (revised_same source rows u h.0, all_same us h.1)

-- ---- the counts

found_one : (f : Forest Unit) (is : Unit → Bool) (r : Option Unit) → find is (nodes f) ≡ r → has is f ≡ true
    → (u : Unit) × (r ≡ Some u) × (is u ≡ true)
found_one f is r e h = go (nodes f) r e h
  where
    go : (us : List Unit) (r : Option Unit) → find is us ≡ r → list_any is us ≡ true
        → (u : Unit) × (r ≡ Some u) × (is u ≡ true)
    go [] r e h = absurd (false≢true h)
    go (u ∷ us) r e h = at (is u) refl e h (go us r)
      where
        at : (b : Bool) → is u ≡ b → cond b (Some u) (find is us) ≡ r → (b || list_any is us) ≡ true
            → (find is us ≡ r → list_any is us ≡ true → (v : Unit) × (r ≡ Some v) × (is v ≡ true))
            → (v : Unit) × (r ≡ Some v) × (is v ≡ true)
        at true t k l g = (u, sym k, t)
        at false t k l g = g k l

-- each row leaves its unit as it was
row_same : (source : Bytes) (rows : List Row) (f : Forest Unit) (row : Row)
    → AllByRecursion (Tells source rows) (nodes f) → is_known f source row ≡ true
    → find (has_legacy row.legacy) rows ≡ Some row → is_same f source row ≡ true
row_same source rows f row t k r =
    let x = found_one f (is_from source row.legacy) (catalogued_unit f source row) refl k in
    let b = and_parts (bytes_eq x.0.source source) (bytes_eq x.0.legacy row.legacy) x.2 in
    let l = one_text x.0.legacy row.legacy b.1 in
    let u = all_of_found (Tells source rows) (is_from source row.legacy) (nodes f) x.0 x.1 t in
    let v = u row b.0 (ap (λ legacy. find (has_legacy legacy) rows) l ∙ r) in
    ap (λ o. option_map_or (λ unit. same_values unit.values row.values) o false) x.1 ∙ (ap (λ w. same_values w row.values) v ∙ values_themselves row.values)

pub rows_same : (source : Bytes) (rows : List Row) (f : Forest Unit) → AreApartRows rows → HasTaken source rows f
    → AllByRecursion (λ row. is_same f source row ≡ true) rows
rows_same source rows f apart t =
    all_and (λ row. is_known f source row ≡ true) (λ row. find (has_legacy row.legacy) rows ≡ Some row) (λ row. is_same f source row ≡ true)
    (λ row k r. row_same source rows f row t.answers k r) rows t.known (row_itself rows apart)

pub none_new : (source : Bytes) (rows : List Row) (f : Forest Unit) → HasTaken source rows f
    → count_by (is_new f source) rows ≡ 0
none_new source rows f t =
    count_none (is_new f source) rows (all_and (λ row. is_known f source row ≡ true) (λ row. Prim.Unit {0}) (λ row. is_new f source row ≡ false) (λ row k w. ap not k) rows t.known (all_true (λ row. Prim.Unit {0}) (λ row. tt) rows))

pub none_changed : (source : Bytes) (rows : List Row) (f : Forest Unit) → AreApartRows rows → HasTaken source rows f
    → count_by (is_changed f source) rows ≡ 0
none_changed source rows f apart t =
    count_none (is_changed f source) rows
    (all_and (λ row. is_known f source row ≡ true) (λ row. is_same f source row ≡ true) (λ row. is_changed f source row ≡ false)
    (λ row k s. ap (λ b. b && not (is_same f source row)) k ∙ ap not s) rows t.known (rows_same source rows f apart t))
