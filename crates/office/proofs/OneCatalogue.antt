-- Tables tell the marks of one catalogue alone.
use Rattle.std.proofs.Common.{◌≡◌, ℕ, suc, ℤ, ◌+◌, Bool, true, false, nat_eq, List, [], ◌∷◌, map, filter, eq-eqb}
use Rattle.std.proofs.Common.{length, Option, Some, None, unwrap_or, refl, sym, ap, ap₂, subst, ◌∙◌, arith, Less}
use Rattle.std.proofs.lemmas.List.{length-map}
use Rattle.std.proofs.lemmas.List.Sorted.{IsPermutation-map, IsPermutation-sym, IsPermutation-trans, length_permutation}
use Rattle.std.specs.List.Sorted.{IsPermutation}
use Rattle.sqlite.specs.Order.{Row}
use Rattle.sqlite.specs.Values.{or_null}
use Rattle.sqlite.specs.declared.types.Value.TheVariants.{Int}
use Rattle.sqlite_trees.proofs.ListLemmas.{IsPermutation-filter, all-permutation, all_both, all_weaker}
use Rattle.isad_core.specs.declared.values.BoxKey.{BoxKey}
use Rattle.catalogue_core.proofs.EachOf.{all_split}
use Rattle.catalogue_core.specs.CatalogueMerge.{Catalogue, box_number}
use Rattle.catalogue_core.specs.ContainerContents.{is_some_there}
use Rattle.catalogue_core.specs.UnitMarks.{AreWalkMarks, mark_of}
use Rattle.office_tables.specs.Flags.{flag}
use Rattle.office_tables.specs.Order.{Rises}
use Rattle.office_tables.specs.RowNumbers.{HasNumbered}
use Rattle.office_tables.specs.Schema as tables
use Rattle.catalogue_statements.proofs.Moves.{other_number}
use Rattle.catalogue_statements.specs.Rows.{HousingRow, by_number, cells_of_unit, counted_from, housing_row}
use Rattle.catalogue_statements.specs.declared.office.OfficeRow.{OfficeRow}
use Rattle.office.proofs.Common.{AllByRecursion, Database, Empty, Forest, Mark, Node, Represents, RepresentsHousings}
use Rattle.office.proofs.Common.{RepresentsUnits, Trees, Unit, Version, each, find, housing_places, nodes}
use Rattle.office.proofs.Common.{numbered_containers}

-- ---- what the row of a unit tells of its mark

abbrev plain : Unit → Mark
plain u = record { id = u.id; lft = 0; rgt = 0; draft = u.draft; until = u.until; boxed = false; permit = false }

same_flag : (a b : Bool) → flag a ≡ flag b → a ≡ b
same_flag true true e = refl
same_flag false false e = refl
same_flag true false e = absurd (cc)
same_flag false true e = absurd (cc)

same_end : (a b : Option ℤ) → or_null Int a ≡ or_null Int b → a ≡ b
same_end None None e = refl
same_end (Some m) (Some n) e = cc
same_end None (Some n) e = absurd (cc)
same_end (Some m) None e = absurd (cc)

plain_told : (a b : Unit) → cells_of_unit a ≡ cells_of_unit b → plain a ≡ plain b
plain_told a b e =
    let id : a.id ≡ b.id = cc in
    let ends : or_null Int a.until ≡ or_null Int b.until = cc in
    let flags : flag a.draft ≡ flag b.draft = cc in
    let until = same_end a.until b.until ends in
    let draft = same_flag a.draft b.draft flags in
    rw (id, until, draft) refl

all_plain : (xs ys : List Unit) → map cells_of_unit xs ≡ map cells_of_unit ys → map plain xs ≡ map plain ys
all_plain [] [] e = refl
all_plain [] (y ∷ ys) e = absurd (cc)
all_plain (x ∷ xs) [] e = absurd (cc)
all_plain (x ∷ xs) (y ∷ ys) e =
    let head : cells_of_unit x ≡ cells_of_unit y = cc in
    let tail : map cells_of_unit xs ≡ map cells_of_unit ys = cc in
    ap₂ ◌∷◌ (plain_told x y head) (all_plain xs ys tail)

-- a unit's row is the one with its number
own_rows : (units : List Unit) → Rises by_number units
    → AllByRecursion (λ u. find (λ (m : Mark). nat_eq m.id u.id) (map plain units) ≡ Some (plain u)) units
own_rows [] up = tt
own_rows (x ∷ xs) up = (
  rw (eq-eqb x.id x.id refl) refl,
  all_both (λ u. by_number x u ≡ Less) (λ u. find (λ (m : Mark). nat_eq m.id u.id) (map plain xs) ≡ Some (plain u))
      (λ u. find (λ (m : Mark). nat_eq m.id u.id) (map plain (x ∷ xs)) ≡ Some (plain u))
      (λ u less found. rw (other_number x.id u.id less) found) xs up.0 (own_rows xs up.1),
)

-- ---- whether a unit has containers of its own

length-counted_from : {A : Type 0} (n : ℕ) (xs : List A) → length (counted_from n xs) ≡ length xs
length-counted_from n [] = refl
length-counted_from n (x ∷ xs) = ap suc (length-counted_from (n + 1) xs)

some_by_length : {A B : Type 0} (xs : List A) (ys : List B) → length xs ≡ length ys
    → is_some_there xs ≡ is_some_there ys
some_by_length [] [] e = refl
some_by_length [] (y ∷ ys) e = absurd (omega (arith, e))
some_by_length (x ∷ xs) [] e = absurd (omega (arith, e))
some_by_length (x ∷ xs) (y ∷ ys) e = refl

boxed_told : (containers : List BoxKey) (u : Unit) (housings : List HousingRow)
    → IsPermutation (numbered_containers containers u.values) (housing_places u.id housings)
    → is_some_there u.values.boxes ≡ is_some_there (housing_places u.id housings)
boxed_told containers u housings same =
    let many = length_permutation _ _ same in
    let all = length-map (counted_from 1 u.values.boxes) (λ (box : ℕ × BoxKey). (box.0, box_number containers box.1)) in
    some_by_length u.values.boxes (housing_places u.id housings) (sym (length-counted_from 1 u.values.boxes) ∙ sym all ∙ sym many)

-- ---- what the tables tell of a number

abbrev unknown : Mark
unknown = record { id = 0; lft = 0; rgt = 0; draft = false; until = None; boxed = false; permit = false }

abbrev told : List Mark → List HousingRow → ℕ → Mark
told plains housings n =
    record (unwrap_or (find (λ (m : Mark). nat_eq m.id n) plains) unknown) { boxed = is_some_there (housing_places n housings) }

one_told : (plains : List Mark) (housings : List HousingRow) (u : Unit)
    → find (λ (m : Mark). nat_eq m.id u.id) plains ≡ Some (plain u)
    → is_some_there u.values.boxes ≡ is_some_there (housing_places u.id housings)
    → mark_of u ≡ told plains housings u.id
one_told plains housings u found boxed = rw (found, sym boxed) refl

all_told : (db : Trees) (containers : List BoxKey) (f : Forest Unit) (units : RepresentsUnits db f) (housings : RepresentsHousings db f containers)
    → AllByRecursion (λ u. mark_of u ≡ told (map plain units.units) housings.housings u.id) (nodes f)
all_told db containers f units housings =
    let plains = map plain units.units in
    all_both (λ u. find (λ (m : Mark). nat_eq m.id u.id) plains ≡ Some (plain u)) (λ u. IsPermutation (numbered_containers containers u.values) (housing_places u.id housings.housings))
    (λ u. mark_of u ≡ told plains housings.housings u.id)
    (λ u found same. one_told plains housings.housings u found (boxed_told containers u housings.housings same))
    (nodes f)
    (all-permutation (λ u. find (λ (m : Mark). nat_eq m.id u.id) plains ≡ Some (plain u)) units.units (nodes f) (IsPermutation-sym (nodes f) units.units units.are) (own_rows units.units units.rise))
    housings.are

-- ---- a forest, by its nodes

each_alike : {A B : Type 0} (g h : A → B) (f : Forest A) → AllByRecursion (λ a. g a ≡ h a) (nodes f) → each g f ≡ each h f
each_alike g h Empty all = refl
each_alike g h (Node a c o) all =
    let parts = all_split (λ a. g a ≡ h a) (nodes c) (nodes o) all.1 in
    let below = each_alike g h c parts.0 in
    let beside = each_alike g h o parts.1 in
    rw (all.0, below, beside) refl

each_twice : {A B C : Type 0} (g : B → C) (h : A → B) (f : Forest A) → each g (each h f) ≡ each (λ a. g (h a)) f
each_twice g h Empty = refl
each_twice g h (Node a c o) =
    let below = each_twice g h c in
    let beside = each_twice g h o in
    rw (below, beside) refl

-- ---- housing, in two readings

same_housing : (a b : ℤ × HousingRow) → housing_row a ≡ housing_row b → a ≡ b
same_housing a b e =
    let key : a.0 ≡ b.0 = cc in
    let unit : a.1.unit ≡ b.1.unit = cc in
    let ord : a.1.ord ≡ b.1.ord = cc in
    let container : a.1.container ≡ b.1.container = cc in
    rw (key, unit, ord, container) refl

same_housings : (xs ys : List (ℤ × HousingRow)) → map housing_row xs ≡ map housing_row ys → xs ≡ ys
same_housings [] [] e = refl
same_housings [] (y ∷ ys) e = absurd (cc)
same_housings (x ∷ xs) [] e = absurd (cc)
same_housings (x ∷ xs) (y ∷ ys) e =
    let head : housing_row x ≡ housing_row y = cc in
    let tail : map housing_row xs ≡ map housing_row ys = cc in
    ap₂ ◌∷◌ (same_housing x y head) (same_housings xs ys tail)

housed_alike : (there : List Row) (xs ys : List HousingRow) → HasNumbered housing_row there xs → HasNumbered housing_row there ys
    → (n : ℕ) → is_some_there (housing_places n xs) ≡ is_some_there (housing_places n ys)
housed_alike there xs ys a b n =
    let same = same_housings a.numbered b.numbered (sym a.are ∙ b.are) in
    let theirs : IsPermutation ys (map (λ (x : ℤ × HousingRow). x.1) a.numbered) =
    subst (λ rows. IsPermutation ys (map (λ (x : ℤ × HousingRow). x.1) rows)) (sym same) b.tell in
    let alike = IsPermutation-trans xs _ ys a.tell (IsPermutation-sym ys _ theirs) in
    let places = IsPermutation-map (λ (h : HousingRow). (h.ord, h.container)) (filter (λ (h : HousingRow). nat_eq n h.unit) xs) _ (IsPermutation-filter (λ (h : HousingRow). nat_eq n h.unit) xs ys alike) in
    some_by_length (housing_places n xs) (housing_places n ys) (sym (length_permutation _ _ places))

told_alike : (plains : List Mark) (xs ys : List HousingRow) (n : ℕ)
    → is_some_there (housing_places n xs) ≡ is_some_there (housing_places n ys)
    → told plains xs n ≡ told plains ys n
told_alike plains xs ys n e = rw e refl

-- ---- two catalogues

module _ (places : Trees → Forest ℕ → Type 0) (one : (db : Trees) (f g : Forest ℕ) → places db f → places db g → f ≡ g)
    (version : Version) (db : Database) (o p : OfficeRow) (c d : Catalogue) (is : Represents places version db o c) (also : Represents places version db p d) where
  abbrev id_of : Unit → ℕ
  id_of u = u.id

  abbrev plains : List Mark
  plains = map plain is.catalogue.units.units

  abbrev housings : List HousingRow
  housings = is.catalogue.housings.housings

  of_first : each mark_of c.forest ≡ each (told plains housings) (each id_of c.forest)
  of_first =
      each_alike mark_of (λ u. told plains housings u.id) c.forest (all_told db.trees c.containers c.forest is.catalogue.units is.catalogue.housings)
      ∙ sym (each_twice (told plains housings) id_of c.forest)

  same_plains : map plain also.catalogue.units.units ≡ plains
  same_plains =
      all_plain also.catalogue.units.units is.catalogue.units.units (sym also.catalogue.units.rows ∙ is.catalogue.units.rows)

  of_second : each mark_of d.forest ≡ each (told plains housings) (each id_of d.forest)
  of_second =
      each_alike mark_of (λ u. told plains housings u.id) d.forest
      (all_weaker (λ u. mark_of u ≡ told (map plain also.catalogue.units.units) also.catalogue.housings.housings u.id) (λ u. mark_of u ≡ told plains housings u.id)
      (λ u e. e ∙ ap (λ marks. told marks also.catalogue.housings.housings u.id) same_plains
      ∙ told_alike plains also.catalogue.housings.housings housings u.id
      (housed_alike (db.trees tables.housing.tree) also.catalogue.housings.housings housings also.catalogue.housings.rows is.catalogue.housings.rows u.id))
      (nodes d.forest) (all_told db.trees d.containers d.forest also.catalogue.units also.catalogue.housings))
      ∙ sym (each_twice (told plains housings) id_of d.forest)

  marks_alike : each mark_of c.forest ≡ each mark_of d.forest
  marks_alike =
      of_first ∙ ap (each (told plains housings)) (one db.trees (each id_of c.forest) (each id_of d.forest) is.shown also.shown)
      ∙ sym of_second

  -- the marks of one are those of the other
  pub marks_of_both : (marks : List Mark) → AreWalkMarks c.forest marks → AreWalkMarks d.forest marks
  marks_of_both marks it = record {
    first = it.first;
    forest = it.forest;
    numbered = it.numbered;
    theirs = it.theirs ∙ marks_alike;
    walked = it.walked;
  }
