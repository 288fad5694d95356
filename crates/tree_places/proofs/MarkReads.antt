-- What the rows of a unit say of its mark.
use Rattle.std.proofs.Common.{◌≡◌, inl, inr, ℕ, zero, suc, pos, ◌+◌, ◌<◌, ◌≤◌, List, [], ◌∷◌, ◌++◌, map, filter, length}
use Rattle.std.proofs.Common.{take, get_or, Some, None, option_map, false, not, ◌==◌, nat_eq, Less, Equal, refl, sym}
use Rattle.std.proofs.Common.{ap, ap₂, ◌∙◌, arith}
use Rattle.std.specs.List.{find}
use Rattle.sqlite_rules.proofs.ListLemmas.{all_has}
use Rattle.isad_core.specs.declared.values.BoxKey.{BoxKey}
use Rattle.catalogue_core.specs.ContainerContents.{is_some_there}
use Rattle.catalogue_statements.proofs.Numbered.{length-counted}
use Rattle.catalogue_statements.specs.declared.row_types.Status.{Status}
use Rattle.tree_places.proofs.Common.{AllByRecursion, Forest, Has, HousingRow, IsPermutation, IsPermutation-sym, Mark}
use Rattle.tree_places.proofs.Common.{RepresentsHousings, RepresentsUnits, Rises, Span, Trees, Unit, box_number}
use Rattle.tree_places.proofs.Common.{by_number, cases_Bool, counted_from, eq-eqb, eqb-true, get_or-map, had}
use Rattle.tree_places.proofs.Common.{housing_places, int_cmp, int_cmp_total, length-map, length-take-le}
use Rattle.tree_places.proofs.Common.{length_permutation, mark_at, marks_at, ne_eqb, nodes, numbered_containers}
use Rattle.tree_places.proofs.Common.{take_all, take_more, tied_itself}

-- ---- the status

-- a unit is found by its number
pub found_unit : (units : List Unit) (id : ℕ) (u : Unit) → Rises by_number units → Has units u → id ≡ u.id
    → find (λ (x : Unit). nat_eq id x.id) units ≡ Some u
found_unit (x ∷ xs) id u up (inl e) same = rw (eq-eqb id x.id (same ∙ ap (λ (u : Unit). u.id) e)) (ap Some (sym e))
found_unit (x ∷ xs) id u up (inr h) same = elim (cases_Bool (nat_eq id x.id)) [
  | inl t ↦ absurd (
      let less : int_cmp (pos x.id) (pos u.id) ≡ Less = all_has (λ w. by_number x w ≡ Less) xs u up.0 h in
      let e : u.id ≡ x.id = sym same ∙ eqb-true id x.id t in
      let tied : int_cmp (pos x.id) (pos u.id) ≡ Equal =
      ap (λ n. int_cmp (pos x.id) (pos n)) e ∙ tied_itself int_cmp_total (pos x.id) in
      cc)
  | inr f ↦ rw f (found_unit xs id u up.1 h same)
]
found_unit [] id u up h same = absurd h

status_of : Unit → Status
status_of u = record { draft = u.draft; until = u.until }

some_same : (u : Unit) (s : Status) → Some s ≡ option_map status_of (Some u) → s ≡ status_of u
some_same u s e = cc

pub status_read : (db : Trees) (f : Forest Unit) (at : RepresentsUnits db f) (id : ℕ) (u : Unit) (s : Status)
    → Has (nodes f) u → id ≡ u.id
    → option_map (λ (x : Unit). (let y : Status = record { draft = x.draft; until = x.until } in y)) (find (λ (x : Unit). nat_eq id x.id) at.units) ≡ Some s
    → (s.draft ≡ u.draft) × (s.until ≡ u.until)
unfolding status_of
status_read db f at id u s there same told =
    let in_units : Has at.units u = had at.units (nodes f) (IsPermutation-sym (nodes f) at.units at.are) u there in
    let e : s ≡ status_of u =
    some_same u s (sym told ∙ ap (option_map status_of) (found_unit at.units id u at.rise in_units same)) in
    (ap (λ (x : Status). x.draft) e, ap (λ (x : Status). x.until) e)

-- ---- whether it names containers of its own

some_if_long : (n : ℕ) (boxes : List BoxKey) → n ≡ length boxes → not (n == 0) ≡ is_some_there boxes
some_if_long n [] e = ap not (eq-eqb n 0 e)
some_if_long n (b ∷ boxes) e = ap not (ne_eqb n 0 (λ z. let k : 0 ≡ length boxes + 1 = omega arith in absurd (omega arith)))

pub boxes_read : (db : Trees) (f : Forest Unit) (containers : List BoxKey) (at : RepresentsHousings db f containers) (id n : ℕ) (u : Unit) (ys : List HousingRow)
    → Has (nodes f) u → id ≡ u.id
    → IsPermutation (filter (λ (h : HousingRow). nat_eq id h.unit) at.housings) ys → n ≡ length ys
    → not (n == 0) ≡ is_some_there u.values.boxes
boxes_read db f containers at id n u ys there same perm long =
    let cell = λ (h : HousingRow). (let c : ℕ × ℕ = (h.ord, h.container) in c) in
    let theirs : IsPermutation (numbered_containers containers u.values) (housing_places u.id at.housings) =
    all_has (λ u. IsPermutation (numbered_containers containers u.values) (housing_places u.id at.housings)) (nodes f) u at.are there in
    let a = length_permutation (numbered_containers containers u.values) (housing_places u.id at.housings) theirs in
    let b = length-map (filter (λ (h : HousingRow). nat_eq u.id h.unit) at.housings) cell in
    let c = length_permutation (filter (λ (h : HousingRow). nat_eq id h.unit) at.housings) ys perm in
    let d : length (filter (λ (h : HousingRow). nat_eq id h.unit) at.housings) ≡ length (filter (λ (h : HousingRow). nat_eq u.id h.unit) at.housings) =
    ap (λ k. length (filter (λ (h : HousingRow). nat_eq k h.unit) at.housings)) same in
    let e = length-counted 1 u.values.boxes in
    let k = length-map (counted_from 1 u.values.boxes) (λ (box : ℕ × BoxKey). (let c : ℕ × ℕ = (box.0, box_number containers box.1) in c)) in
    some_if_long n u.values.boxes (long ∙ c ∙ d ∙ sym b ∙ a ∙ k ∙ e)

-- ---- mark by mark

pub blank_unit : Unit
blank_unit = record { id = 0; source = []; legacy = []; values = record { level = []; texts = []; boxes = [] }; draft = false; until = None }

pub marks_at-append : (xs ys : List Span) (us vs : List Unit) → length xs ≡ length us
    → marks_at (xs ++ ys) (us ++ vs) ≡ marks_at xs us ++ marks_at ys vs
marks_at-append [] ys [] vs e = refl
marks_at-append [] ys (u ∷ us) vs e = absurd (omega arith)
marks_at-append (x ∷ xs) ys [] vs e = absurd (omega arith)
marks_at-append (x ∷ xs) ys (u ∷ us) vs e = ap (λ l. mark_at x u ∷ l) (marks_at-append xs ys us vs (omega arith))

at_index : (P : Unit → Type 0) (units : List Unit) (i : ℕ) (d : Unit) → AllByRecursion P units → i < length units
    → P (get_or units i d)
at_index P [] i d all low = absurd (omega arith)
at_index P (u ∷ units) zero d all low = all.0
at_index P (u ∷ units) (suc i) d all low = at_index P units i d all.1 (omega arith)

-- the unit of a row, and what its mark adds
pub next_mark : (f : Forest Unit) (spans : List Span) (units : List Unit) (i : ℕ) (d : Span)
    → AllByRecursion (Has (nodes f)) units → map (λ (s : Span). s.id) spans ≡ map (λ (u : Unit). u.id) units
    → i < length spans
    → (u : Unit) × Has (nodes f) u × ((get_or spans i d).id ≡ u.id) × (marks_at (take i spans) (take i units) ++ mark_at (get_or spans i d) u ∷ [] ≡ marks_at (take (i + 1) spans) (take (i + 1) units))
next_mark f spans units i d all same low =
    let long : length spans ≡ length units =
    sym (length-map spans (λ (s : Span). s.id)) ∙ ap length same ∙ length-map units (λ (u : Unit). u.id) in
    let low' : i < length units = omega arith in
    let s = get_or spans i d in
    let u = get_or units i blank_unit in
    let short : length (take i spans) ≡ length (take i units) = length-take-le i spans (omega arith) ∙ sym (length-take-le i units (omega arith)) in (
      u,
      at_index (Has (nodes f)) units i blank_unit all low',
      sym (get_or-map (λ (s : Span). s.id) spans i d 0 low) ∙ ap (λ l. get_or l i 0) same ∙ get_or-map (λ (u : Unit). u.id) units i blank_unit 0 low',
      sym (marks_at-append (take i spans) (s ∷ []) (take i units) (u ∷ []) short)
          ∙ sym (ap (λ l. marks_at l (take (i + 1) units)) (take_more spans i d low) ∙ ap (marks_at (take i spans ++ s ∷ [])) (take_more units i blank_unit low')),
    )

pub mark_more : (f : Forest Unit) (spans : List Span) (units : List Unit) (i : ℕ) (s : Span) (mark : Mark)
    (marks more : List Mark)
    → AllByRecursion (Has (nodes f)) units → map (λ (s : Span). s.id) spans ≡ map (λ (u : Unit). u.id) units
    → i < length spans → s ≡ get_or spans i s
    → ((u : Unit) → Has (nodes f) u → s.id ≡ u.id → mark ≡ mark_at s u)
    → marks ≡ marks_at (take i spans) (take i units) → more ≡ marks ++ mark ∷ []
    → more ≡ marks_at (take (i + 1) spans) (take (i + 1) units)
mark_more f spans units i s mark marks more all same low here answers so_far pushed =
    let next = next_mark f spans units i s all same low in
    let answer = answers next.0 next.1 (ap (λ (x : Span). x.id) here ∙ next.2) in
    pushed ∙ ap₂ (λ l m. l ++ m ∷ []) so_far (answer ∙ ap (λ (x : Span). mark_at x next.0) here) ∙ next.3

pub all_marks : (spans : List Span) (units : List Unit) (i : ℕ)
    → map (λ (s : Span). s.id) spans ≡ map (λ (u : Unit). u.id) units → length spans ≤ i
    → marks_at (take i spans) (take i units) ≡ marks_at spans units
all_marks spans units i same high =
    let long : length spans ≡ length units =
    sym (length-map spans (λ (s : Span). s.id)) ∙ ap length same ∙ length-map units (λ (u : Unit). u.id) in
    ap (λ l. marks_at l (take i units)) (take_all i spans high) ∙ ap (marks_at spans) (take_all i units (omega arith))

pub marks_all : (spans : List Span) (units : List Unit) (i : ℕ) (marks : List Mark)
    → map (λ (s : Span). s.id) spans ≡ map (λ (u : Unit). u.id) units → length spans ≤ i
    → marks ≡ marks_at (take i spans) (take i units) → marks ≡ marks_at spans units
marks_all spans units i marks same high so_far = so_far ∙ all_marks spans units i same high
