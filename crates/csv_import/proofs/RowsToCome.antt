-- Rows that are entered one after another: what holds of those that are still to come.
use Rattle.std.proofs.Common.{◌≡◌, ◌+◌, ◌<◌, ◌≤◌, ◌&&◌, ◌++◌, ℕ, Bool, true, false, not, cond, List, [], ◌∷◌, length}
use Rattle.std.proofs.Common.{length-append, Option, Some, None, Result, Ok, Err, refl, sym, ap, ap₂, ◌∙◌, subst, arith}
use Rattle.std.specs.Prelude.{drop, get_or}
use Rattle.catalogue_core.proofs.EachOf.{none_found}
use Rattle.catalogue_core.proofs.RowCounts.{changed_counts, new_counts, same_counts}
use Rattle.catalogue_statements.proofs.Untold.{boxes_within}
use Rattle.csv_import.specs.declared.row_entry.Entry.{Entry}
use Rattle.csv_import.specs.declared.row_entry.Entry.TheVariants as entry
use Rattle.csv_import.proofs.Common.{AllByRecursion, AreToCome, Arrival, BringUnits, Bytes, CanEnter, Catalogue, Counts}
use Rattle.csv_import.proofs.Common.{Empty, Forest, IsGoodRow, IsReady, IsTurn, Node, Row, Unit, add, and_then}
use Rattle.csv_import.proofs.Common.{arrivals_of, at_drop_all, catalogue_after, catalogued_unit, cause_at, count_by}
use Rattle.csv_import.proofs.Common.{count_entry, count_rows, counts_of, depth_there, distinct, distinct_again}
use Rattle.csv_import.proofs.Common.{drop_more, entry_of, find, flat_map, has, has_id, if_ok, is_changed, is_from}
use Rattle.csv_import.proofs.Common.{is_new, is_same, join, kept_within, knows, merge, new_at, new_unit, nodes}
use Rattle.csv_import.proofs.Common.{option_map, option_map_or, or_as_before, put_below, row_by_row, same_values, size}
use Rattle.csv_import.proofs.Common.{size-each, some_found, units_from, unless_cause, with_new, with_row, with_row_at}
use Rattle.csv_import.proofs.Common.{with_rows, with_values}
use Rattle.csv_import.proofs.GoodMerges.{legible_with, merged_boxes_are, merged_days, merged_good}

-- ---- a row counts once

abbrev pub changed_by : Entry → Bool
changed_by entry.Changed = true
changed_by entry.New = false
changed_by entry.Same = false

abbrev pub new_by : Entry → Bool
new_by entry.Changed = false
new_by entry.New = true
new_by entry.Same = false

abbrev pub same_by : Entry → Bool
same_by entry.Changed = false
same_by entry.New = false
same_by entry.Same = true

-- what became of the row tells how it is counted
pub record CountsAs (f : Forest Unit) (source : Bytes) (row : Row) (became : Entry) : Type 0 where
  pub changed : is_changed f source row ≡ changed_by became
  pub new : is_new f source row ≡ new_by became
  pub same : is_same f source row ≡ same_by became

pub counts_as : (f : Forest Unit) (source : Bytes) (row : Row)
    → CountsAs f source row (entry_of (catalogued_unit f source row) row.values)
counts_as f source row = at (find (is_from source row.legacy) (nodes f)) refl
  where
    there : (v : Unit) (same : Bool)
        → ((true && not same) ≡ changed_by (cond same entry.Same entry.Changed)) × (not true ≡ new_by (cond same entry.Same entry.Changed)) × (same ≡ same_by (cond same entry.Same entry.Changed))
    there v true = (refl, refl, refl)
    there v false = (refl, refl, refl)

    at : (r : Option Unit) → find (is_from source row.legacy) (nodes f) ≡ r
        → CountsAs f source row (entry_of (catalogued_unit f source row) row.values)
    at None e =
        let none : has (is_from source row.legacy) f ≡ false = none_found (is_from source row.legacy) (nodes f) e in
        let became : entry_of (catalogued_unit f source row) row.values ≡ entry.New = ap (λ u. entry_of u row.values) e in
        let same : is_same f source row ≡ false =
        ap (λ u. option_map_or (λ (unit : Unit). same_values unit.values row.values) u false) e in
        record {
          changed = ap (λ b. b && not (is_same f source row)) none ∙ sym (ap changed_by became);
          new = ap not none ∙ sym (ap new_by became);
          same = same ∙ sym (ap same_by became);
        }
    at (Some v) e =
        let some : has (is_from source row.legacy) f ≡ true = some_found (is_from source row.legacy) (nodes f) v e in
        let became : entry_of (catalogued_unit f source row) row.values ≡ entry_of (Some v) row.values =
        ap (λ u. entry_of u row.values) e in
        let same : is_same f source row ≡ same_values v.values row.values =
        ap (λ u. option_map_or (λ (unit : Unit). same_values unit.values row.values) u false) e in
        let it = there v (same_values v.values row.values) in
        record {
          changed = ap₂ (λ a b. a && not b) some same ∙ (it.0 ∙ sym (ap changed_by became));
          new = ap not some ∙ (it.1 ∙ sym (ap new_by became));
          same = same ∙ (it.2 ∙ sym (ap same_by became));
        }

-- ---- a catalogue only grows

size_joined : {A : Type 0} (f g : Forest A) → size f ≤ size (join f g)
size_joined Empty g = omega arith
size_joined (Node a c o) g = let more = size_joined o g in omega (arith, more)

size_put : {A : Type 0} (is : A → Bool) (g f : Forest A) → size f ≤ size (put_below is g f)
size_put is g Empty = omega arith
size_put is g (Node a c o) = at (is a) (size_joined c g) (size_put is g c) (size_put is g o)
  where
    at : (b : Bool) → size c ≤ size (join c g) → size c ≤ size (put_below is g c) → size o ≤ size (put_below is g o)
        → 1 + (size c + size o) ≤ 1 + (size (cond b (join c g) (put_below is g c)) + size (put_below is g o))
    at true x y z = omega (arith, x, z)
    at false x y z = omega (arith, y, z)

size_added : (p : Option ℕ) (u : Unit) (f : Forest Unit) → size f ≤ size (add has_id p u f)
size_added None u f = size_joined f (Node u Empty Empty)
size_added (Some q) u f = size_put (has_id q) (Node u Empty Empty) f

-- how a row leaves the catalogue
pub record Grows (source : Bytes) (row : Row) (c d : Catalogue) : Type 0 where
  pub size : size c.forest ≤ size d.forest
  pub next : d.next ≡ c.next + cond (is_new c.forest source row) 1 0

pub grows : (source : Bytes) (row : Row) (c d : Catalogue) → with_row source row c ≡ Ok d → Grows source row c d
grows source row c d e = at (find (is_from source row.legacy) (nodes c.forest)) refl
  where
    placed : (r : Option ℕ) → unless_cause row r (with_new source row c) ≡ Ok d → with_new source row c ≡ d
    placed None k = cc
    placed (Some cause) k = absurd (cc)

    at : (r : Option Unit) → find (is_from source row.legacy) (nodes c.forest) ≡ r → Grows source row c d
    at None f =
        let is = placed (cause_at (depth_there c source row.parent)) (sym (ap (λ (u : Option Unit). with_row_at (option_map (λ (v : Unit). v.id) u) source row c) f) ∙ e) in
        let new : is_new c.forest source row ≡ true =
        ap not (none_found (is_from source row.legacy) (nodes c.forest) f) in
        subst (Grows source row c) is
        (record {
          size = size_added (new_at c source row).parent (new_unit source (new_at c source row)) c.forest;
          next = ap (λ b. c.next + cond b 1 0) (sym new);
        })
    at (Some v) f =
        let is : ◌≡◌ {A = Result Catalogue (ℕ × ℕ)} (Ok (with_values v.id row.values c)) (Ok d) =
        sym (ap (λ (u : Option Unit). with_row_at (option_map (λ (v : Unit). v.id) u) source row c) f) ∙ e in
        let known : is_new c.forest source row ≡ false =
        ap not (some_found (is_from source row.legacy) (nodes c.forest) v f) in
        let same_size = size-each (λ (u : Unit). cond (has_id v.id u) (record u { values = row.values }) u) c.forest in
        let same_next : c.next ≡ c.next + 0 = omega arith in
        subst (Grows source row c) (ok_is (with_values v.id row.values c) is)
        (record {
          size = omega (arith, same_size);
          next = same_next ∙ ap (λ b. c.next + cond b 1 0) (sym known);
        })
      where
        ok_is : (x : Catalogue) → ◌≡◌ {A = Result Catalogue (ℕ × ℕ)} (Ok x) (Ok d) → x ≡ d
        ok_is x k = cc

-- so do several
all_grow : (source : Bytes) (rows : List Row) (c d : Catalogue) → with_rows source rows c ≡ Ok d
    → (size c.forest ≤ size d.forest) × (c.next ≤ d.next)
all_grow source [] c d e =
    let same : c ≡ d = cc in
    subst (λ (x : Catalogue). (size c.forest ≤ size x.forest) × (c.next ≤ x.next)) same (omega arith, omega arith)
all_grow source (row ∷ rows) c d e = at (with_row source row c) refl (λ x. all_grow source rows x d)
  where
    at : (r : Result Catalogue (ℕ × ℕ)) → with_row source row c ≡ r
        → ((x : Catalogue) → with_rows source rows x ≡ Ok d → (size x.forest ≤ size d.forest) × (x.next ≤ d.next))
        → (size c.forest ≤ size d.forest) × (c.next ≤ d.next)
    at (Ok x) f later =
        let one = grows source row c x f in
        let more = later x (sym (ap (and_then (with_rows source rows)) f) ∙ e) in
        let s = one.size in
        let n = one.next in
        let t = more.0 in
        let m = more.1 in
        (omega (arith, s, t), omega (arith, n, m))
    at (Err fault) f later = absurd (let no : Err fault ≡ Ok d = sym (ap (and_then (with_rows source rows)) f) ∙ e in cc)

-- ---- one row is entered, the others are to come

pub record OneEntered (source : Bytes) (row : Row) (rows : List Row) (next : ℕ) (c : Catalogue) : Type 0 where
  pub after : Catalogue
  pub placed : with_row source row c ≡ Ok after
  pub turn : IsTurn source row next c
  pub rest : AreToCome source rows (next + cond (is_new c.forest source row) 1 0) after

pub one_entered : (source : Bytes) (row : Row) (rows : List Row) (next : ℕ) (c : Catalogue)
    → AreToCome source (row ∷ rows) next c → OneEntered source row rows next c
one_entered source row rows next c it = at (with_row source row c) refl
  where
    at : (r : Result Catalogue (ℕ × ℕ)) → with_row source row c ≡ r → OneEntered source row rows next c
    at (Err fault) f = absurd (let no : Err fault ≡ Ok it.room.after = sym (ap (and_then (with_rows source rows)) f) ∙ it.room.placed in cc)
    at (Ok d) f =
        let one = grows source row c d f in
        let placed : with_rows source rows d ≡ Ok it.room.after =
        sym (ap (and_then (with_rows source rows)) f) ∙ it.room.placed in
        let later = all_grow source rows d it.room.after placed in
        let units = it.room.few in
        let numbers = it.room.numbers in
        let more = later.0 in
        let higher = later.1 in
        let alone : AllByRecursion IsGoodRow (row ∷ []) = (it.told.good.0, tt) in
        let merged : merge c source (row ∷ []) ≡ Ok d =
        sym (row_by_row c source (row ∷ []) it.units it.apart (tt, tt)) ∙ ap (and_then (with_rows source [])) f in
        let boxes = merged_boxes_are c source (row ∷ []) alone (tt, tt) it.units it.named d merged in
        let few = it.few_boxes in
        let step = one.next in
        let so = it.number in
        let fewer = boxes_within c.containers (row.values.boxes ++ []) in
        let named = length-append row.values.boxes [] in
        let both = length-append row.values.boxes (flat_map (λ (row : Row). row.values.boxes) rows) in
        let many = ap length boxes in
        record {
          after = d;
          placed = f;
          turn = record {
            good = it.told.good.0;
            units = it.units;
            knows = knows c it.units it.apart;
            kept = kept_within c it.units (omega (arith, few)) it.days it.legible;
            number = it.number;
            after = d;
            placed = f;
          };
          rest = record {
            named = it.named;
            told = record { good = it.told.good.1; legible = it.told.legible.1; once = it.told.once.1 };
            units = merged_good c source (row ∷ []) alone (tt, tt) it.units it.named d merged (omega (arith, more, units)) (omega (arith, higher, numbers));
            apart = subst (λ bs. distinct bs ≡ bs) (sym boxes) (distinct_again (c.containers ++ (row.values.boxes ++ [])));
            days = merged_days c source (row ∷ []) alone (tt, tt) it.units it.named d merged it.days;
            legible = legible_with c source (row ∷ []) alone (tt, tt) it.units it.named d merged (it.told.legible.0, tt) it.legible;
            few_boxes = omega (arith, many, fewer, named, both, few);
            room = record { after = it.room.after; placed = placed; few = units; numbers = numbers };
            number = omega (arith, so, step);
          };
        }

-- ---- some rows are entered, and these are the rest

pub record HaveCome (source : Bytes) (rows rest : List Row) (next : ℕ) (counts : Counts) (c d : Catalogue) : Type 0 where
  pub come : AreToCome source rest (next + counts.new) d
  pub ends : with_rows source rest d ≡ with_rows source rows c
  pub changed : counts.changed + count_rows is_changed source rest d ≡ count_rows is_changed source rows c
  pub new : counts.new + count_rows is_new source rest d ≡ count_rows is_new source rows c
  pub same : counts.same + count_rows is_same source rest d ≡ count_rows is_same source rows c

pub none_come : (source : Bytes) (rows : List Row) (next : ℕ) (c : Catalogue) → AreToCome source rows next c
    → HaveCome source rows rows next (record { changed = 0; new = 0; same = 0 }) c c
none_come source rows next c it = record {
  come = (let same : next ≡ next + 0 = omega arith in subst (λ n. AreToCome source rows n c) same it);
  ends = refl;
  changed = omega arith;
  new = omega arith;
  same = omega arith;
}

record CountsOne (became : Entry) (counts : Counts) : Type 0 where
  changed : (count_entry became counts).changed ≡ counts.changed + cond (changed_by became) 1 0
  new : (count_entry became counts).new ≡ counts.new + cond (new_by became) 1 0
  same : (count_entry became counts).same ≡ counts.same + cond (same_by became) 1 0

counts_one : (became : Entry) (counts : Counts) → CountsOne became counts
counts_one entry.Changed counts = record { changed = refl; new = omega arith; same = omega arith }
counts_one entry.New counts = record { changed = omega arith; new = refl; same = omega arith }
counts_one entry.Same counts = record { changed = omega arith; new = omega arith; same = refl }

pub next_comes : (source : Bytes) (rows : List Row) (row : Row) (rest : List Row) (next : ℕ) (counts : Counts) (c d : Catalogue) (became : Entry)
    → (h : HaveCome source rows (row ∷ rest) next counts c d)
    → became ≡ entry_of (catalogued_unit d.forest source row) row.values
    → HaveCome source rows rest next (count_entry became counts) c (catalogue_after source (row ∷ []) d)
next_comes source rows row rest next counts c d became h is =
    let it = one_entered source row rest (next + counts.new) d h.come in
    let made : catalogue_after source (row ∷ []) d ≡ it.after =
    ap (λ r. or_as_before d (and_then (with_rows source []) r)) it.placed in
    let counts_so : CountsAs d.forest source row became =
    subst (CountsAs d.forest source row) (sym is) (counts_as d.forest source row) in
    let number = ap {B = ℕ} (λ (b : Bool). cond b 1 0) counts_so.new in
    let by = counts_one became counts in
    let by_new = by.new in
    let sums : next + counts.new + cond (is_new d.forest source row) 1 0 ≡ next + (count_entry became counts).new =
    omega (arith, number, by_new) in
    subst (HaveCome source rows rest next (count_entry became counts) c) (sym made)
    (record {
      come = subst (λ n. AreToCome source rest n it.after) sums it.rest;
      ends = sym (ap (and_then (with_rows source rest)) it.placed) ∙ h.ends;
      changed = one is_changed counts.changed (count_entry became counts).changed (changed_by became) it.after by.changed it.placed counts_so.changed h.changed;
      new = one is_new counts.new (count_entry became counts).new (new_by became) it.after by.new it.placed counts_so.new h.new;
      same = one is_same counts.same (count_entry became counts).same (same_by became) it.after by.same it.placed counts_so.same h.same;
    })
  where
    one : (test : Forest Unit → Bytes → Row → Bool) (n m : ℕ) (by : Bool) (x : Catalogue) → m ≡ n + cond by 1 0
        → with_row source row d ≡ Ok x → test d.forest source row ≡ by
        → n + count_rows test source (row ∷ rest) d ≡ count_rows test source rows c
        → m + count_rows test source rest x ≡ count_rows test source rows c
    one test n m by x i e f k =
        let a = ap {B = ℕ} (λ (b : Bool). cond b 1 0) f in
        let b = ap (if_ok (count_rows test source rest)) e in
        omega (arith, a, b, i, k)

-- all rows are entered
pub record AllCome (source : Bytes) (rows : List Row) (next : ℕ) (counts : Counts) (c d : Catalogue) : Type 0 where
  pub is : catalogue_after source rows c ≡ d
  pub counts_are : counts ≡ counts_of c.forest source rows
  pub number : next + counts.new ≡ (catalogue_after source rows c).next

pub all_come : (source : Bytes) (rows : List Row) (next : ℕ) (counts : Counts) (c d : Catalogue)
    → AreToCome source rows next c → HaveCome source rows [] next counts c d → AllCome source rows next counts c d
all_come source rows next counts c d it h =
    let done : with_rows source rows c ≡ Ok d = sym h.ends in
    let x = h.changed in
    let y = h.new in
    let z = h.same in
    let changed = changed_counts c source rows it.units it.apart it.told.once d done in
    let new = new_counts c source rows it.units it.apart it.told.once d done in
    let same = same_counts c source rows it.units it.apart it.told.once d done in
    record {
      is = ap (or_as_before c) done;
      number = h.come.number ∙ sym (ap (λ r. (or_as_before c r).next) done);
      counts_are = made (omega (arith, x, changed)) (omega (arith, y, new)) (omega (arith, z, same));
    }
  where
    made : counts.changed ≡ count_by (is_changed c.forest source) rows
        → counts.new ≡ count_by (is_new c.forest source) rows → counts.same ≡ count_by (is_same c.forest source) rows
        → counts ≡ counts_of c.forest source rows
    made a b e =
        ap (λ n. record { changed = n; new = counts.new; same = counts.same }) a
        ∙ (ap (λ n. record { changed = count_by (is_changed c.forest source) rows; new = n; same = counts.same }) b
        ∙ ap (λ n. record { changed = count_by (is_changed c.forest source) rows; new = count_by (is_new c.forest source) rows; same = n }) e)

-- ---- the rows of a file

pub all_to_come : (source : Bytes) (rows : List Row) (c : Catalogue) → CanEnter source rows c
    → AreToCome source rows c.next c
all_to_come source rows c it = record {
  named = it.named;
  told = it.told;
  units = it.units;
  apart = it.apart;
  days = it.days;
  legible = it.legible;
  few_boxes = (let there = it.containers.few in let few = it.few_boxes in omega (arith, there, few));
  room = it.room;
  number = refl;
}

-- where they are ready, by the next number
pub to_come : {source : Bytes} {rows : List Row} {numbers : Bytes → Option ℕ} {next : ℕ} {c : Catalogue}
    → IsReady source rows numbers next c → AreToCome source rows next c
to_come {source} {rows} {numbers} {next} {c} it =
    subst (λ n. AreToCome source rows n c) (sym it.number) (all_to_come source rows c it.can)

pub are_brought : {source : Bytes} {rows : List Row} {numbers : Bytes → Option ℕ} {next : ℕ} {units : List ℕ} {arrivals : List Arrival} {c : Catalogue}
    → IsReady source rows numbers next c → units ≡ units_from numbers next rows
    → arrivals ≡ arrivals_of c.forest source next rows → BringUnits source rows numbers next units arrivals c
are_brought it each new = record { come = to_come it; known = it.known.each; each = each; new = new }

-- ---- going through a list

pub counted_few : (became : Entry) (counts : Counts) (n : ℕ) → counts.changed + counts.new + counts.same ≤ n
    → (count_entry became counts).changed + (count_entry became counts).new + (count_entry became counts).same ≤ n + 1
counted_few entry.Changed counts n few = omega (arith, few)
counted_few entry.New counts n few = omega (arith, few)
counted_few entry.Same counts n few = omega (arith, few)

-- the rows from the i-th on, when its turn comes
pub from_here : (source : Bytes) (rows : List Row) (next : ℕ) (counts : Counts) (c d : Catalogue) (i : ℕ) (row : Row)
    → i < length rows → get_or rows i row ≡ row
    → HaveCome source rows (drop i rows) next counts c d
    → HaveCome source rows (row ∷ drop (i + 1) rows) next counts c d
from_here source rows next counts c d i row low is h =
    subst (λ rest. HaveCome source rows rest next counts c d) (drop_more rows i row low ∙ ap (λ r. r ∷ drop (i + 1) rows) is) h

pub at_end : (source : Bytes) (rows : List Row) (next : ℕ) (counts : Counts) (c d : Catalogue) (i : ℕ) → length rows ≤ i
    → HaveCome source rows (drop i rows) next counts c d → HaveCome source rows [] next counts c d
at_end source rows next counts c d i high h =
    subst (λ rest. HaveCome source rows rest next counts c d) (at_drop_all (λ rest. rest) rows i high) h
