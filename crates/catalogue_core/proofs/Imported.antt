-- What an accepted import has made.
use Rattle.std.proofs.Common.{◌≡◌, ◌≤◌, ℕ, Bool, true, false, not, arith, cond, ◌&&◌, ◌||◌, List, [], ◌∷◌, ◌++◌, Ok}
use Rattle.std.proofs.Common.{Err, refl, sym, ap, ◌∙◌, subst}
use Rattle.std.proofs.Math.Bool.{and_comm}
use Rattle.std.proofs.lemmas.Slice.Eq.{bytes_eq-Decides}
use Rattle.std.specs.Prelude.{filter}
use Rattle.catalogue_core.specs.Intake.{take}
use Rattle.catalogue_core.proofs.Common.{BoxKey, Bytes, Catalogue, File, Intake, Result, Row, and_parts, bytes_eq}
use Rattle.catalogue_core.proofs.Common.{distinct, faults_below, file_of, filter-append, flat_map, is_known}
use Rattle.catalogue_core.proofs.Common.{is_same_box, list_any, merge, merged, merged_boxes, numbered_from, or_first}
use Rattle.catalogue_core.proofs.Common.{take_rows, with_file}

-- the rows of units that are not catalogued
abbrev pub new_rows : Catalogue → Bytes → List Row → List Row
new_rows c source rows = filter (λ row. not (is_known c.forest source row)) rows

pub record IsTaken (c : Catalogue) (source file : Bytes) (intake : Intake) : Type 0 where
  pub read : file_of file ≡ Ok intake.file
  pub placed : faults_below c.forest source [] (new_rows c source intake.file.rows) ≡ []
  pub is : intake.catalogue ≡ merged c source intake.file.rows (numbered_from c.forest source c.next [] (new_rows c source intake.file.rows))

pub first_ok : {A : Type 0} (faults : List (ℕ × ℕ)) (value : A) (got : A) → or_first faults value ≡ Ok got
    → (faults ≡ []) × (got ≡ value)
first_ok [] value got e = (refl, cc)
first_ok (fault ∷ faults) value got e = absurd (cc)

taken_at : (c : Catalogue) (source file : Bytes) (intake : Intake) (f : File) (r : Result Catalogue (ℕ × ℕ))
    → file_of file ≡ Ok f → merge c source f.rows ≡ r → with_file f r ≡ Ok intake → IsTaken c source file intake
taken_at c source file intake f (Err fault) h m e = absurd (cc)
taken_at c source file intake f (Ok made) h m e =
    let same : record { file = f; catalogue = made } ≡ intake = cc in
    let x = first_ok (faults_below c.forest source [] (new_rows c source f.rows)) (merged c source f.rows (numbered_from c.forest source c.next [] (new_rows c source f.rows))) made m in
    subst (IsTaken c source file) same (record { read = h; placed = x.0; is = x.1 })

taken_from : (c : Catalogue) (source file : Bytes) (intake : Intake) (r : Result File (ℕ × ℕ)) → file_of file ≡ r
    → take_rows c source r ≡ Ok intake → IsTaken c source file intake
taken_from c source file intake (Err fault) h e = absurd (cc)
taken_from c source file intake (Ok f) h e = taken_at c source file intake f (merge c source f.rows) h refl e

pub taken_is : (c : Catalogue) (source file : Bytes) (intake : Intake) → take c source file ≡ Ok intake
    → IsTaken c source file intake
unfolding take
taken_is c source file intake e = taken_from c source file intake (file_of file) refl e

-- containers keep their numbers

filter_keeps : {X : Type 0} (p : X → Bool) → ((x : X) → p x ≡ true) → (xs : List X) → filter p xs ≡ xs
filter_keeps p h [] = refl
filter_keeps p h (x ∷ xs) =
    ap (λ b. cond b (x ∷ filter p xs) (filter p xs)) (h x) ∙ ap (λ l. x ∷ l) (filter_keeps p h xs)

filter_both : {X : Type 0} (p q r : X → Bool) → ((x : X) → (p x && q x) ≡ r x) → (xs : List X)
    → filter p (filter q xs) ≡ filter r xs
filter_both p q r h [] = refl
filter_both p q r h (x ∷ xs) = at (p x) (q x) (r x) refl (h x) (filter_both p q r h xs)
  where
    at : (a b c : Bool) → p x ≡ a → (a && b) ≡ c → filter p (filter q xs) ≡ filter r xs
        → filter p (cond b (x ∷ filter q xs) (filter q xs)) ≡ cond c (x ∷ filter r xs) (filter r xs)
    at true true c pa e ih =
        subst (λ d. filter p (x ∷ filter q xs) ≡ cond d (x ∷ filter r xs) (filter r xs)) e (ap (λ d. cond d (x ∷ filter p (filter q xs)) (filter p (filter q xs))) pa ∙ ap (λ l. x ∷ l) ih)
    at true false c pa e ih = subst (λ d. filter p (filter q xs) ≡ cond d (x ∷ filter r xs) (filter r xs)) e ih
    at false true c pa e ih =
        subst (λ d. filter p (x ∷ filter q xs) ≡ cond d (x ∷ filter r xs) (filter r xs)) e (ap (λ d. cond d (x ∷ filter p (filter q xs)) (filter p (filter q xs))) pa ∙ ih)
    at false false c pa e ih = subst (λ d. filter p (filter q xs) ≡ cond d (x ∷ filter r xs) (filter r xs)) e ih

pub or_not : (a b : Bool) → (not a && not b) ≡ not (a || b)
or_not true b = refl
or_not false b = refl

pub distinct_append : (xs ys : List BoxKey)
    → distinct (xs ++ ys) ≡ distinct xs ++ filter (λ b. not (list_any (λ x. is_same_box x b) xs)) (distinct ys)
distinct_append [] ys = sym (filter_keeps (λ b. true) (λ b. refl) (distinct ys))
distinct_append (x ∷ xs) ys =
    ap (λ l. x ∷ l)
    (ap (filter (λ later. not (is_same_box x later))) (distinct_append xs ys)
    ∙ (filter-append (λ later. not (is_same_box x later)) (distinct xs) (filter (λ b. not (list_any (λ x. is_same_box x b) xs)) (distinct ys))
    ∙ ap (λ l. filter (λ later. not (is_same_box x later)) (distinct xs) ++ l)
    (filter_both (λ later. not (is_same_box x later)) (λ b. not (list_any (λ x. is_same_box x b) xs)) (λ b. not (is_same_box x b || list_any (λ x. is_same_box x b) xs)) (λ b. or_not (is_same_box x b) (list_any (λ x. is_same_box x b) xs)) (distinct ys))))

-- the containers that come
abbrev pub new_boxes : List BoxKey → List Row → List BoxKey
new_boxes boxes rows = filter (λ b. not (list_any (λ x. is_same_box x b) boxes)) (distinct (flat_map (λ row. row.values.boxes) rows))

pub boxes_grow : (boxes : List BoxKey) (rows : List Row) → distinct boxes ≡ boxes
    → merged_boxes rows boxes ≡ boxes ++ new_boxes boxes rows
boxes_grow boxes rows e =
    distinct_append boxes (flat_map (λ row. row.values.boxes) rows) ∙ ap (λ l. l ++ new_boxes boxes rows) e

same_texts : (a b : List ℕ) → bytes_eq a b ≡ true → a ≡ b
same_texts a b e = grind (arith, bytes_eq-Decides a b)

-- one container has one name, location and kind
pub same_box : (a b : BoxKey) → is_same_box a b ≡ true → a ≡ b
same_box a b e =
    let x = and_parts (bytes_eq a.name b.name) (bytes_eq a.location b.location && bytes_eq a.kind b.kind) e in
    let y = and_parts (bytes_eq a.location b.location) (bytes_eq a.kind b.kind) x.1 in
    let n = same_texts a.name b.name x.0 in
    let l = same_texts a.location b.location y.0 in
    let k = same_texts a.kind b.kind y.1 in
    ap (λ t. record { name = t; location = a.location; kind = a.kind }) n
    ∙ (ap (λ t. record { name = b.name; location = t; kind = a.kind }) l
    ∙ ap (λ t. record { name = b.name; location = b.location; kind = t }) k)

and_twice : (b : Bool) → (b && b) ≡ b
and_twice true = refl
and_twice false = refl

-- what a test keeps, it keeps of one of several equal ones too
kept_alone : (p : BoxKey → Bool) (y b : BoxKey) → p y ≡ false → (p b && not (is_same_box y b)) ≡ p b
kept_alone p y b e = at (is_same_box y b) refl
  where
    at : (c : Bool) → is_same_box y b ≡ c → (p b && not c) ≡ p b
    at true h = let n : p b ≡ false = subst (λ z. p z ≡ false) (same_box y b h) e in ap (λ x. x && false) n ∙ sym n
    at false h = right_true (p b)
      where
        right_true : (x : Bool) → (x && true) ≡ x
        right_true true = refl
        right_true false = refl

pub distinct_filter : (p : BoxKey → Bool) (ys : List BoxKey) → distinct (filter p ys) ≡ filter p (distinct ys)
distinct_filter p [] = refl
distinct_filter p (y ∷ ys) = at (p y) refl (distinct_filter p ys)
  where
    at : (b : Bool) → p y ≡ b → distinct (filter p ys) ≡ filter p (distinct ys)
        → distinct (cond b (y ∷ filter p ys) (filter p ys)) ≡ cond b (y ∷ filter p (filter (λ later. not (is_same_box y later)) (distinct ys))) (filter p (filter (λ later. not (is_same_box y later)) (distinct ys)))
    at true e ih =
        ap (λ l. y ∷ l)
        (ap (filter (λ later. not (is_same_box y later))) ih
        ∙ (filter_both (λ later. not (is_same_box y later)) p (λ b. not (is_same_box y b) && p b) (λ b. refl) (distinct ys)
        ∙ sym (filter_both p (λ later. not (is_same_box y later)) (λ b. not (is_same_box y b) && p b) (λ b. and_comm (p b) (not (is_same_box y b))) (distinct ys))))
    at false e ih = ih ∙ sym (filter_both p (λ later. not (is_same_box y later)) p (λ b. kept_alone p y b e) (distinct ys))

-- the containers are still distinct
pub distinct_again : (xs : List BoxKey) → distinct (distinct xs) ≡ distinct xs
distinct_again [] = refl
distinct_again (x ∷ xs) =
    let p : BoxKey → Bool = λ later. not (is_same_box x later) in
    ap (λ l. x ∷ l)
    (ap (filter p) (distinct_filter p (distinct xs) ∙ ap (filter p) (distinct_again xs))
    ∙ filter_both p p p (λ b. and_twice (not (is_same_box x b))) (distinct xs))

pub boxes_after : (c : Catalogue) (source file : Bytes) (intake : Intake) → take c source file ≡ Ok intake
    → distinct c.containers ≡ c.containers
    → intake.catalogue.containers ≡ c.containers ++ new_boxes c.containers intake.file.rows
boxes_after c source file intake e b =
    ap (λ m. m.containers) (taken_is c source file intake e).is ∙ boxes_grow c.containers intake.file.rows b

pub next_after : (c : Catalogue) (source file : Bytes) (intake : Intake) → take c source file ≡ Ok intake
    → c.next ≤ intake.catalogue.next
next_after c source file intake e =
    let x = ap (λ m. m.next) (taken_is c source file intake e).is in
    omega (arith, x)
