-- The units of a file's rows and their parents, known by their numbers in the source, and known still as rows are entered.
use Rattle.std.proofs.Common.{◌≡◌, ℕ, Bool, true, false, not, cond, ◌&&◌, ◌||◌, ◌<◌, ◌≤◌, ◌+◌, ◌++◌, length, get_or}
use Rattle.std.proofs.Common.{List, [], ◌∷◌, Option, Some, None, append_assoc, arith, refl, sym, ap, ap₂, ◌∙◌, subst}
use Rattle.std.proofs.Common.{min, suc}
use Rattle.std.specs.Prelude.{drop, take}
use Rattle.catalogue_core.proofs.EachOf.{none_found}
use Rattle.csv_import.specs.declared.row_entry.Entry.{Entry}
use Rattle.csv_import.proofs.Common.{AllByRecursion, AreToCome, Bytes, Catalogue, Counts, IfSome, IsAsked, IsTurn}
use Rattle.csv_import.proofs.Common.{IsTurnOfUnit, KnowsAsked, KnowsUnits, Row, TellsParentOfNew, TellsUnits, Unit}
use Rattle.csv_import.proofs.Common.{Values, alike_each, all-get_or, all_append, all_so, and_then, bytes_eq}
use Rattle.csv_import.proofs.Common.{catalogue_after, catalogued_unit, count_entry, drop_more, entry_of, false≢true}
use Rattle.csv_import.proofs.Common.{find, has_id, is_from, is_known, is_new, is_some, le-ltb, lt-ltb, nat_lt, new_at}
use Rattle.csv_import.proofs.Common.{new_unit, nodes, number_there, one_text, option_map, or_as_before, same_added}
use Rattle.csv_import.proofs.Common.{some_found, take_all, take_more, units_from, unwrap_or, with_new, with_rows}
use Rattle.csv_import.proofs.Common.{with_values}
use Rattle.csv_import.proofs.OneRow.{entered_known, entered_new, was_given}
use Rattle.csv_import.proofs.Pairs.{ArePair}
use Rattle.csv_import.proofs.RowsToCome.{AllCome, HaveCome, all_come, at_end, from_here, next_comes, none_come}
use Rattle.csv_import.proofs.RowsToCome.{one_entered}

-- a unit is catalogued where it has a number
pub is_known_by : (c : Catalogue) (source : Bytes) (row : Row)
    → is_some (number_there c source row.legacy) ≡ is_known c.forest source row
is_known_by c source row = at (find (is_from source row.legacy) (nodes c.forest)) refl
  where
    at : (r : Option Unit) → find (is_from source row.legacy) (nodes c.forest) ≡ r
        → is_some (number_there c source row.legacy) ≡ is_known c.forest source row
    at None e =
        ap (λ (u : Option Unit). is_some (option_map (λ (v : Unit). v.id) u)) e
        ∙ sym (none_found (is_from source row.legacy) (nodes c.forest) e)
    at (Some v) e =
        ap (λ (u : Option Unit). is_some (option_map (λ (v : Unit). v.id) u)) e
        ∙ sym (some_found (is_from source row.legacy) (nodes c.forest) v e)

pub none_known : (o : Option ℕ) → is_some o ≡ false → o ≡ None
none_known None e = refl
none_known (Some id) e = absurd (false≢true (sym e))

-- a row by the number that is kept for it
module _ (c : Catalogue) (source : Bytes) (row : Row) {kept : Option ℕ} {some : Bool} (is : kept ≡ number_there c source row.legacy) (told : some ≡ is_some kept) where
  pub known_here : {b : Bool} → some ≡ b → is_known c.forest source row ≡ b
  known_here here = sym (is_known_by c source row) ∙ (ap is_some (sym is) ∙ (sym told ∙ here))

  pub new_here : some ≡ false → number_there c source row.legacy ≡ None
  new_here here = none_known (number_there c source row.legacy) (ap is_some (sym is) ∙ (sym told ∙ here))

-- the parent that a row names
pub parent_here : (c : Catalogue) (source : Bytes) (numbers : Bytes → Option ℕ) {o : Option Bytes} {p : Bytes}
    → o ≡ Some p → IfSome o (λ parent. numbers parent ≡ number_there c source parent)
    → numbers p ≡ number_there c source p
parent_here c source numbers is told =
    subst (λ o. IfSome o (λ parent. numbers parent ≡ number_there c source parent)) is told

-- what is told of the row at this index, and of the parent of a new one
pub row_told : {c : Catalogue} {source : Bytes} {rows : List Row} {numbers : Bytes → Option ℕ} (i : ℕ) {row : Row}
    → KnowsUnits c source rows numbers → i < length rows → row ≡ get_or rows i row
    → (numbers row.legacy ≡ number_there c source row.legacy) × TellsParentOfNew c source numbers row
row_told {c = c} {source = source} {rows = rows} {numbers = numbers} i {row = row} knows low is = (
  subst (λ (r : Row). numbers r.legacy ≡ number_there c source r.legacy) (sym is) (all-get_or (λ (r : Row). numbers r.legacy ≡ number_there c source r.legacy) rows i row knows.each low),
  subst (TellsParentOfNew c source numbers) (sym is) (all-get_or (TellsParentOfNew c source numbers) rows i row knows.parents low),
)

-- and of the rows after it
pub told_here : (c : Catalogue) (source : Bytes) (rows : List Row) (numbers : Bytes → Option ℕ) (i : ℕ) (row : Row)
    → i < length rows → get_or rows i row ≡ row → TellsUnits c source (drop i rows) numbers
    → (numbers row.legacy ≡ number_there c source row.legacy) × TellsUnits c source (drop (i + 1) rows) numbers
told_here c source rows numbers i row low is told =
    subst (λ rest. TellsUnits c source rest numbers) (drop_more rows i row low ∙ ap (λ (r : Row). r ∷ drop (i + 1) rows) is) told

-- ---- they become known one after another

module _ (c : Catalogue) (source : Bytes) where
  -- nothing was asked for yet
  pub asked_nothing : (asked : Bytes → Bool) (numbers : Bytes → Option ℕ) → ((q : Bytes) → asked q ≡ false)
      → ((q : Bytes) → numbers q ≡ None) → KnowsAsked c source asked numbers
  asked_nothing asked numbers unasked none = record {
    right = λ q. subst (λ o. IfSome o (λ n. number_there c source q ≡ Some n)) (sym (none q)) tt;
    told = λ q yes. absurd (false≢true (sym (unasked q) ∙ yes));
  }

  -- ---- a row and its parent

  if_asked : (asked later : Bytes → Bool) → ((q : Bytes) → asked q ≡ true → later q ≡ true) → (p : Option Bytes)
      → IfSome p (λ parent. asked parent ≡ true) → IfSome p (λ parent. later parent ≡ true)
  if_asked asked later more None h = tt
  if_asked asked later more (Some parent) h = more parent h

  -- what was asked for stays asked for
  pub still_asked : (asked later : Bytes → Bool) → ((q : Bytes) → asked q ≡ true → later q ≡ true) → (rows : List Row)
      → AllByRecursion (IsAsked c source asked) rows → AllByRecursion (IsAsked c source later) rows
  still_asked asked later more rows all =
      all_so (IsAsked c source asked) (IsAsked c source later) (λ row it. record { unit = more row.legacy it.unit; parent = λ new. if_asked asked later more row.parent (it.parent new) }) rows all

  -- one row more was asked for
  pub one_asked : (asked later : Bytes → Bool) (rows : List Row) (i : ℕ) {row : Row} → i < length rows
      → row ≡ get_or rows i row → ((q : Bytes) → asked q ≡ true → later q ≡ true)
      → AllByRecursion (IsAsked c source asked) (take i rows) → IsAsked c source later row
      → AllByRecursion (IsAsked c source later) (take (i + 1) rows)
  one_asked asked later rows i {row} low is more before it =
      let one : take (i + 1) rows ≡ take i rows ++ row ∷ [] =
      take_more rows i row low ∙ ap (λ (r : Row). take i rows ++ r ∷ []) (sym is) in
      subst (AllByRecursion (IsAsked c source later)) (sym one)
      (all_append (IsAsked c source later) (take i rows) (row ∷ []) (still_asked asked later more (take i rows) before) (it, tt))

  abbrev IsTold : (Bytes → Option ℕ) → Row → Type 0
  IsTold numbers row = numbers row.legacy ≡ number_there c source row.legacy

  -- all rows were asked for
  pub all_known : (asked : Bytes → Bool) (numbers : Bytes → Option ℕ) (rows : List Row) (i : ℕ)
      → KnowsAsked c source asked numbers × AllByRecursion (IsAsked c source asked) (take i rows) → length rows ≤ i
      → KnowsUnits c source rows numbers
  all_known asked numbers rows i so behind =
      let it = so.0 in
      let all = subst (AllByRecursion (IsAsked c source asked)) (take_all i rows behind) so.1 in
      record {
        sound = it.right;
        each = all_so (IsAsked c source asked) (IsTold numbers) (λ row h. it.told row.legacy h.unit) rows all;
        parents = all_so (IsAsked c source asked) (TellsParentOfNew c source numbers) (λ row h new. parent_told row.parent (h.parent new)) rows all;
      }
    where
      parent_told : (p : Option Bytes) → IfSome p (λ parent. asked parent ≡ true)
          → IfSome p (λ parent. numbers parent ≡ number_there c source parent)
      parent_told None h = tt
      parent_told (Some parent) h = so.0.told parent h

-- one number more was asked for
module _ {c : Catalogue} {source : Bytes} {asked : Bytes → Bool} {numbers : Bytes → Option ℕ} (before : KnowsAsked c source asked numbers) (later : Bytes → Bool) (legacy : Bytes) (more : (q : Bytes) → later q ≡ (bytes_eq q legacy || asked q)) where
  -- again
  pub asked_again : {fresh : Bool} → fresh ≡ not (asked legacy) → fresh ≡ false → KnowsAsked c source later numbers
  asked_again noted known = record {
    right = before.right;
    told = λ q yes. at q (bytes_eq q legacy) refl (sym (more q) ∙ yes);
  }
    where
      turned : (b : Bool) → not b ≡ false → b ≡ true
      turned true h = refl
      turned false h = absurd (cc)

      was : asked legacy ≡ true
      was = turned (asked legacy) (sym noted ∙ known)

      at : (q : Bytes) (b : Bool) → bytes_eq q legacy ≡ b → (b || asked q) ≡ true
          → numbers q ≡ number_there c source q
      at q true e h = before.told q (ap asked (one_text q legacy e) ∙ was)
      at q false e h = before.told q h

  -- the catalogue has none
  pub asked_in_vain : None ≡ number_there c source legacy → KnowsAsked c source later numbers
  asked_in_vain is = record {
    right = before.right;
    told = λ q yes. at q (bytes_eq q legacy) refl (sym (more q) ∙ yes);
  }
    where
      none : (q : Bytes) (o : Option ℕ) → IfSome o (λ n. number_there c source q ≡ Some n)
          → None ≡ number_there c source q → o ≡ number_there c source q
      none q None h e = e
      none q (Some n) h e = absurd (let clash : None ≡ Some n = e ∙ h in cc)

      at : (q : Bytes) (b : Bool) → bytes_eq q legacy ≡ b → (b || asked q) ≡ true
          → numbers q ≡ number_there c source q
      at q true e h = none q (numbers q) (before.right q) (is ∙ ap (number_there c source) (sym (one_text q legacy e)))
      at q false e h = before.told q h

  -- it is catalogued
  pub asked_and_found : (after : Bytes → Option ℕ) (unit : ℕ) → Some unit ≡ number_there c source legacy
      → ((q : Bytes) → after q ≡ cond (bytes_eq q legacy) (Some unit) (numbers q)) → KnowsAsked c source later after
  asked_and_found after unit is kept = record {
    right = λ q. subst (λ o. IfSome o (λ n. number_there c source q ≡ Some n)) (sym (kept q)) (right_at q (bytes_eq q legacy) refl);
    told = λ q yes. kept q ∙ at q (bytes_eq q legacy) refl (sym (more q) ∙ yes);
  }
    where
      there : (q : Bytes) → bytes_eq q legacy ≡ true → Some unit ≡ number_there c source q
      there q e = is ∙ ap (number_there c source) (sym (one_text q legacy e))

      right_at : (q : Bytes) (b : Bool) → bytes_eq q legacy ≡ b
          → IfSome (cond b (Some unit) (numbers q)) (λ n. number_there c source q ≡ Some n)
      right_at q true e = sym (there q e)
      right_at q false e = before.right q

      at : (q : Bytes) (b : Bool) → bytes_eq q legacy ≡ b → (b || asked q) ≡ true
          → cond b (Some unit) (numbers q) ≡ number_there c source q
      at q true e h = there q e
      at q false e h = before.told q h

-- ---- they stay known

-- a unit that takes other values keeps its number, and so do all others
pub valued_still : (id : ℕ) (values : Values) (c : Catalogue) (source legacy : Bytes)
    → number_there (with_values id values c) source legacy ≡ number_there c source legacy
valued_still id values c source legacy =
    (alike_each (is_from source legacy) (λ u. cond (has_id id u) (record u { values = values }) u) (λ u. same (has_id id u) u) (λ u. number (has_id id u) u) c.forest).number
  where
    same : (b : Bool) (u : Unit)
        → is_from source legacy (cond b (record u { values = values }) u) ≡ is_from source legacy u
    same true u = refl
    same false u = refl

    number : (b : Bool) (u : Unit) → (cond b (record u { values = values }) u).id ≡ u.id
    number true u = refl
    number false u = refl

and_no : (a b : Bool) → b ≡ false → (a && b) ≡ false
and_no true b h = h
and_no false b h = refl

-- of another number, a new unit says nothing
others_still : (source : Bytes) (row : Row) (c : Catalogue) (legacy : Bytes) → bytes_eq row.legacy legacy ≡ false
    → number_there (with_new source row c) source legacy ≡ number_there c source legacy
others_still source row c legacy other =
    ap (option_map (λ (u : Unit). u.id))
    (same_added (is_from source legacy) (new_unit source (new_at c source row)) (and_no (bytes_eq source source) (bytes_eq row.legacy legacy) other) (new_at c source row).parent c.forest).found

pub number_still : (source : Bytes) (row : Row) (next : ℕ) (c : Catalogue) → IsTurn source row next c → (legacy : Bytes)
    → bytes_eq row.legacy legacy ≡ false
    → number_there (catalogue_after source (row ∷ []) c) source legacy ≡ number_there c source legacy
number_still source row next c turn legacy other = at (number_there c source row.legacy) refl
  where
    at : (r : Option ℕ) → number_there c source row.legacy ≡ r
        → number_there (catalogue_after source (row ∷ []) c) source legacy ≡ number_there c source legacy
    at (Some id) e =
        ap (λ d. number_there d source legacy) (entered_known turn e)
        ∙ valued_still id row.values c source legacy
    at None e =
        ap (λ d. number_there d source legacy) (entered_new turn e)
        ∙ others_still source row c legacy other

-- the units of the rows that are still to come
pub known_still : (source : Bytes) (row : Row) (rows : List Row) (next : ℕ) (c : Catalogue) (numbers : Bytes → Option ℕ)
    → AreToCome source (row ∷ rows) next c
    → TellsUnits c source rows numbers → TellsUnits (catalogue_after source (row ∷ []) c) source rows numbers
known_still source row rows next c numbers come it = each rows come.told.once.0 it
  where
    each : (rest : List Row) → AllByRecursion (λ (r : Row). bytes_eq row.legacy r.legacy ≡ false) rest
        → TellsUnits c source rest numbers → TellsUnits (catalogue_after source (row ∷ []) c) source rest numbers
    each [] h k = tt
    each (r ∷ rest) h k = (k.0 ∙ sym (number_still source row next c (one_entered source row rows next c come).turn r.legacy h.0), each rest h.1 k.1)

-- ---- their numbers, one after another

module _ (numbers : Bytes → Option ℕ) (rows : List Row) (i n : ℕ) (items : List ℕ) {row : Row} {kept : Option ℕ} {all : List ℕ} (low : i < length rows) (is : row ≡ get_or rows i row) (given : kept ≡ numbers row.legacy) (so_far : all ≡ items ++ units_from numbers n (drop i rows)) where
  number_next : all ≡ items ++ (unwrap_or kept n ∷ units_from numbers (n + cond (is_some kept) 0 1) (drop (i + 1) rows))
  number_next =
      so_far
      ∙ (ap (λ (rest : List Row). items ++ units_from numbers n rest) (drop_more rows i row low ∙ ap (λ (r : Row). r ∷ drop (i + 1) rows) (sym is))
      ∙ ap (λ (o : Option ℕ). items ++ (unwrap_or o n ∷ units_from numbers (n + cond (is_some o) 0 1) (drop (i + 1) rows))) (sym given))

  -- that of a catalogued unit
  pub known_next : {unit : ℕ} → kept ≡ Some unit → all ≡ (items ++ unit ∷ []) ++ units_from numbers n (drop (i + 1) rows)
  known_next {unit} some =
      let same : n + 0 ≡ n = omega arith in
      number_next
      ∙ (ap (λ (o : Option ℕ). items ++ (unwrap_or o n ∷ units_from numbers (n + cond (is_some o) 0 1) (drop (i + 1) rows))) some
      ∙ (ap (λ m. items ++ (unit ∷ units_from numbers m (drop (i + 1) rows))) same ∙ sym (append_assoc items (unit ∷ []) (units_from numbers n (drop (i + 1) rows)))))

  -- that of a new one
  pub new_next : kept ≡ None → all ≡ (items ++ n ∷ []) ++ units_from numbers (n + 1) (drop (i + 1) rows)
  new_next none =
      number_next
      ∙ (ap (λ (o : Option ℕ). items ++ (unwrap_or o n ∷ units_from numbers (n + cond (is_some o) 0 1) (drop (i + 1) rows))) none
      ∙ sym (append_assoc items (n ∷ []) (units_from numbers (n + 1) (drop (i + 1) rows))))

-- ---- rows that are entered one after another

-- a row is new where no number is known for its unit
pub counts_new : (c : Catalogue) (source : Bytes) (row : Row) {o : Option ℕ} → o ≡ number_there c source row.legacy
    → ◌≡◌ {A = ℕ} (cond (is_new c.forest source row) 1 0) (cond (is_some o) 0 1)
counts_new c source row {o} is =
    ap {B = ℕ} (λ (b : Bool). cond (not b) 1 0) (sym (is_known_by c source row) ∙ ap is_some (sym is))
    ∙ flipped (is_some o)
  where
    flipped : (b : Bool) → ◌≡◌ {A = ℕ} (cond (not b) 1 0) (cond b 0 1)
    flipped true = refl
    flipped false = refl

-- a catalogued unit has a number below the first new one
below_first : (o : Option ℕ) (unit first new : ℕ) → unit ≡ unwrap_or o (first + new) → IfSome o (λ id. id < first)
    → nat_lt unit first ≡ is_some o
below_first None unit first new is given = le-ltb unit first (omega (arith, is))
below_first (Some id) unit first new is given = lt-ltb unit first (omega (arith, is, given))

-- the unit at this index, and those after it
unit_here : (numbers : Bytes → Option ℕ) (rows : List Row) (units : List ℕ) (i n : ℕ) {row : Row} {unit : ℕ}
    → ArePair rows units i row unit → drop i units ≡ units_from numbers n (drop i rows)
    → (unit ≡ unwrap_or (numbers row.legacy) n) × (drop (i + 1) units ≡ units_from numbers (n + cond (is_some (numbers row.legacy)) 0 1) (drop (i + 1) rows))
unit_here numbers rows units i n {row} {unit} pair are =
    let these : unit ∷ drop (i + 1) units ≡ units_from numbers n (row ∷ drop (i + 1) rows) =
    sym (drop_more units i unit pair.within ∙ ap (λ u. u ∷ drop (i + 1) units) (sym pair.second))
    ∙ (are ∙ ap (units_from numbers n) (drop_more rows i row pair.low ∙ ap (λ (r : Row). r ∷ drop (i + 1) rows) (sym pair.first))) in
    (ap (λ l. get_or l 0 unit) these, ap (drop 1) these)

length_units : (numbers : Bytes → Option ℕ) (n : ℕ) (rows : List Row)
    → length (units_from numbers n rows) ≡ length rows
length_units numbers n [] = refl
length_units numbers n (row ∷ rows) =
    ap suc (length_units numbers (n + cond (is_some (numbers row.legacy)) 0 1) rows)

-- those before this index are entered, and it is told still which units the others have
pub record AreComing (source : Bytes) (rows : List Row) (numbers : Bytes → Option ℕ) (units : List ℕ) (next i : ℕ) (counts : Counts) (c d : Catalogue) : Type 0 where
  pub come : HaveCome source rows (drop i rows) next counts c d
  pub told : TellsUnits d source (drop i rows) numbers
  pub each : drop i units ≡ units_from numbers (next + counts.new) (drop i rows)

pub first_comes : {source : Bytes} {rows : List Row} {numbers : Bytes → Option ℕ} {units : List ℕ} {next : ℕ} {c : Catalogue}
    → AreToCome source rows next c → TellsUnits c source rows numbers → units ≡ units_from numbers next rows
    → AreComing source rows numbers units next 0 (record { changed = 0; new = 0; same = 0 }) c c
first_comes {source} {rows} {numbers} {units} {next} {c} come told each = record {
  come = none_come source rows next c come;
  told = told;
  each = (let same : next ≡ next + 0 = omega arith in each ∙ ap (λ n. units_from numbers n rows) same);
}

module _ {source : Bytes} {rows : List Row} {numbers : Bytes → Option ℕ} {units : List ℕ} {next i : ℕ} {counts : Counts} {c d : Catalogue} (coming : AreComing source rows numbers units next i counts c d) {row : Row} {unit : ℕ} (pair : ArePair rows units i row unit) where
  -- the row at this index has its turn, with the number that is told of it
  pub its_turn : AreToCome source rows next c → TellsUnits c source rows numbers
      → IsTurnOfUnit source row next unit d
  its_turn come told =
      let have = from_here source rows next counts c d i row pair.low (sym pair.first) coming.come in
      let here = told_here d source rows numbers i row pair.low (sym pair.first) coming.told in
      let turn = (one_entered source row (drop (i + 1) rows) (next + counts.new) d have.come).turn in
      let is = (unit_here numbers rows units i (next + counts.new) pair coming.each).0 in
      let known : numbers row.legacy ≡ number_there c source row.legacy =
      subst (λ (r : Row). numbers r.legacy ≡ number_there c source r.legacy) (sym pair.first) (all-get_or (λ (r : Row). numbers r.legacy ≡ number_there c source r.legacy) rows i row told pair.low) in
      let given = subst (λ n. IfSome (number_there c source row.legacy) (λ id. id < n)) (sym come.number) (was_given c source row.legacy come.units) in
      record {
        turn = subst (λ n. IsTurn source row n d) turn.number turn;
        unit_is = is ∙ ap₂ unwrap_or here.0 turn.number;
        known = below_first (numbers row.legacy) unit next counts.new is (subst (λ o. IfSome o (λ id. id < next)) (sym known) given) ∙ ap is_some here.0;
      }

  -- it is entered, and then come the others
  pub others_come : {became : Entry} {after : Counts} {later : ℕ} → later ≡ i + 1
      → became ≡ entry_of (catalogued_unit d.forest source row) row.values → after ≡ count_entry became counts
      → AreComing source rows numbers units next later after c (catalogue_after source (row ∷ []) d)
  others_come {became} {after} goes does counted =
      let rest = drop (i + 1) rows in
      let have = from_here source rows next counts c d i row pair.low (sym pair.first) coming.come in
      let here = told_here d source rows numbers i row pair.low (sym pair.first) coming.told in
      let one = one_entered source row rest (next + counts.new) d have.come in
      let come = subst (λ (n : Counts). HaveCome source rows rest next n c (catalogue_after source (row ∷ []) d)) (sym counted) (next_comes source rows row rest next counts c d became have does) in
      let made : (catalogue_after source (row ∷ []) d).next ≡ one.after.next =
      ap (λ r. (or_as_before d (and_then (with_rows source []) r)).next) one.placed in
      let sum : next + counts.new + cond (is_some (numbers row.legacy)) 0 1 ≡ next + after.new =
      omega (arith, come.come.number, made, one.rest.number, counts_new d source row here.0) in
      subst (λ n. AreComing source rows numbers units next n after c (catalogue_after source (row ∷ []) d)) (sym goes)
      (record {
        come = come;
        told = known_still source row rest (next + counts.new) d numbers have.come here.1;
        each = (unit_here numbers rows units i (next + counts.new) pair coming.each).1 ∙ ap (λ n. units_from numbers n rest) sum;
      })

module _ {source : Bytes} {rows : List Row} {numbers : Bytes → Option ℕ} {units : List ℕ} {next i : ℕ} {counts : Counts} {c d : Catalogue} (coming : AreComing source rows numbers units next i counts c d) where
  pub all_entered : AreToCome source rows next c → units ≡ units_from numbers next rows
      → i ≡ min (length rows) (length units) → AllCome source rows next counts c d
  all_entered come each last =
      let long = ap length each ∙ length_units numbers next rows in
      all_come source rows next counts c d come (at_end source rows next counts c d i (omega (arith, last, long)) coming.come)
