-- Which units name the container with a number.
use Rattle.std.proofs.Common.{◌≡◌, ℕ, zero, suc, Bool, true, List, [], ◌∷◌, Option, Some, None, inl, inr, refl, sym, ap}
use Rattle.std.proofs.Common.{ap₂, cond, ◌∙◌, nat_eq, arith}
use Rattle.std.proofs.lemmas.Bool.Decides.{nat_tests}
use Rattle.std.specs.Prelude.{◌&&◌, ◌||◌, filter}
use Rattle.std.specs.Str.{bytes_eq}
use Rattle.isad_core.specs.Texts.{Bytes}
use Rattle.catalogue_core.proofs.BoxPlaces.{numbers_are_places}
use Rattle.catalogue_core.proofs.ImportedAgain.{box_itself, one_text}
use Rattle.access.proofs.Common.{AllByRecursion, BoxKey, Unit, and_parts, box_number, cases_Bool, distinct, eq-eqb}
use Rattle.access.proofs.Common.{eqb-true, false≢true, is_same_box, list_all, list_any, names_container, nth, slice_get}
use Rattle.access.proofs.Common.{some_and}

one_box : (a b : BoxKey) → is_same_box a b ≡ true → a ≡ b
one_box a b h =
    let name = and_parts (bytes_eq a.name b.name) (bytes_eq a.location b.location && bytes_eq a.kind b.kind) h in
    let rest = and_parts (bytes_eq a.location b.location) (bytes_eq a.kind b.kind) name.1 in
    ap (λ (text : Bytes). record { name = text; location = a.location; kind = a.kind }) (one_text a.name b.name name.0)
    ∙ (ap (λ (text : Bytes). record { name = b.name; location = text; kind = a.kind }) (one_text a.location b.location rest.0)
    ∙ ap (λ (text : Bytes). record { name = b.name; location = b.location; kind = text }) (one_text a.kind b.kind rest.1))

-- where it stands among the containers
stands_at : (b : BoxKey) (xs : List BoxKey) → list_any (is_same_box b) xs ≡ true → (i : ℕ) × (slice_get xs i ≡ Some b)
stands_at b [] h = absurd (false≢true h)
stands_at b (x ∷ xs) h = elim (cases_Bool (is_same_box b x)) [
  | inl same ↦ (0, ap Some (sym (one_box b x same)))
  | inr other ↦ let later = stands_at b xs (rw other at h) in (suc later.0, later.1)
]

module _ (cs : List BoxKey) (apart : distinct cs ≡ cs) (b : BoxKey) where
  number_at : (n i : ℕ) → slice_get cs i ≡ Some b → nat_eq n (suc i) ≡ some_and (λ box. is_same_box box b) (nth cs n)
  number_at zero i here = grind (arith, nat_tests)
  number_at (suc j) i here = at (slice_get cs j) refl
    where
      same_place : j ≡ i → slice_get cs j ≡ Some b
      same_place e = ap (slice_get cs) e ∙ here

      at : (o : Option BoxKey) → slice_get cs j ≡ o → nat_eq (suc j) (suc i) ≡ some_and (λ box. is_same_box box b) o
      at None e = elim (cases_Bool (nat_eq (suc j) (suc i))) [
        | inl y ↦ let k : j ≡ i = (let s = eqb-true (suc j) (suc i) y in omega (arith, s)) in absurd (let bad : None ≡ Some b = sym e ∙ same_place k in cc)
        | inr n ↦ n
      ]
      at (Some box) e = elim (cases_Bool (is_same_box box b)) [
        | inl y ↦
            let mine : box_number cs b ≡ suc j = numbers_are_places cs j b apart (e ∙ ap Some (one_box box b y)) in
            let s : suc j ≡ suc i = sym mine ∙ numbers_are_places cs i b apart here in
            eq-eqb (suc j) (suc i) s ∙ sym y
        | inr n ↦ elim (cases_Bool (nat_eq (suc j) (suc i))) [
          | inl y ↦
              let k : j ≡ i = (let s = eqb-true (suc j) (suc i) y in omega (arith, s)) in
              let same : box ≡ b = (let both : Some box ≡ Some b = sym e ∙ same_place k in cc) in
              absurd (false≢true (sym n ∙ ap (λ x. is_same_box x b) same ∙ box_itself b))
          | inr m ↦ m ∙ sym n
        ]
      ]

-- a container has this number where it is the one that stands there
has_number : (cs : List BoxKey) → distinct cs ≡ cs → (b : BoxKey) → list_any (is_same_box b) cs ≡ true → (n : ℕ)
    → nat_eq n (box_number cs b) ≡ some_and (λ box. is_same_box box b) (nth cs n)
has_number cs apart b known n =
    let at = stands_at b cs known in
    ap (nat_eq n) (numbers_are_places cs at.0 b apart at.1) ∙ number_at cs apart b n at.0 at.1

-- the unit names this one, if any
abbrev pub names_it : Option BoxKey → Unit → Bool
names_it o unit = list_any (λ b. some_and (λ box. is_same_box box b) o) unit.values.boxes

pub names_one : (cs : List BoxKey) → distinct cs ≡ cs → (n : ℕ) (boxes : List BoxKey)
    → list_all (λ b. list_any (is_same_box b) cs) boxes ≡ true
    → list_any (λ b. nat_eq n (box_number cs b)) boxes ≡ list_any (λ b. some_and (λ box. is_same_box box b) (nth cs n)) boxes
names_one cs apart n [] known = refl
names_one cs apart n (b ∷ boxes) known =
    let parts = and_parts (list_any (is_same_box b) cs) (list_all (λ b. list_any (is_same_box b) cs) boxes) known in
    ap₂ ◌||◌ (has_number cs apart b parts.0 n) (names_one cs apart n boxes parts.1)

pub named : (cs : List BoxKey) → distinct cs ≡ cs → (n : ℕ) (units : List Unit)
    → AllByRecursion (λ (unit : Unit). list_all (λ b. list_any (is_same_box b) cs) unit.values.boxes ≡ true) units
    → filter (names_container cs n) units ≡ filter (names_it (nth cs n)) units
named cs apart n [] known = refl
named cs apart n (unit ∷ units) known =
    ap₂ (λ b l. cond b (unit ∷ l) l) (names_one cs apart n unit.values.boxes known.0) (named cs apart n units known.1)
