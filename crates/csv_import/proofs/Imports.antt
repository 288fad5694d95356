-- An office after the rows of a file were entered.
use Rattle.std.proofs.Common.{◌≡◌, ℕ, zero, suc, ◌+◌, ◌<◌, ◌≤◌, Bool, true, false, ◌||◌, List, [], ◌∷◌, ◌++◌, length}
use Rattle.std.proofs.Common.{map, Option, Some, None, Ok, sym, ap, subst, ◌∙◌, arith, append-nil, length-append, inl}
use Rattle.std.proofs.Common.{inr}
use Rattle.std.proofs.lemmas.List.Elements.{filter_map-append}
use Rattle.atom_csv.proofs.LegibleFiles.{file_legible}
use Rattle.atom_csv.proofs.ToldLemmas.{file_sound}
use Rattle.desk_core.specs.DeskRows.{HoldingRow}
use Rattle.desk_core.specs.LegibleDesks.{IsLegible}
use Rattle.desk_core.specs.declared.reader.Place.TheVariants.{Shelf}
use Rattle.catalogue_core.proofs.GoodRows.{good_rows}
use Rattle.catalogue_core.proofs.MergedNodes.{merged_nodes}
use Rattle.catalogue_core.proofs.NamedBoxes.{named_all, named_from, named_told}
use Rattle.catalogue_core.proofs.NodeLemmas.{length-nodes}
use Rattle.catalogue_core.proofs.UnitsAfter.{length-numbered}
use Rattle.catalogue_core.specs.LegibleCatalogues.{IsLegibleCatalogue}
use Rattle.office_core.proofs.Words.{numbered_within}
use Rattle.office_core.specs.ImportReply as reply
use Rattle.office_core.specs.State.{State}
use Rattle.office_core.specs.Words.{numbers_to}
use Rattle.office_core.specs.declared.command.Command.TheVariants as command
use Rattle.state_encoding.proofs.LegibleRows.{desk_legible}
use Rattle.state_encoding.specs.DeskEncoding.{holding_row, holding_rows}
use Rattle.state_encoding.specs.OfficeRows.{tables}
use Rattle.refinement.proofs.Judged.{distinct_ids, orders_there}
use Rattle.refinement.specs.AccessConditions.{CanBeJudged}
use Rattle.csv_import.proofs.Common.{AllByRecursion, AreGoodContainers, AreGoodUnits, AreTexts, BadName, BoxKey, Bytes}
use Rattle.csv_import.proofs.Common.{CanEnter, Catalogue, File, FitsIn, Full, HasEntered, HasImported, HasItsUnit}
use Rattle.csv_import.proofs.Common.{IsSomeDay, IsSoundOffice, New, Row, Taken, Unit, Version, after, all_append}
use Rattle.csv_import.proofs.Common.{all_distinct, all_so, and_parts, apart_rows, bad_file, boxes_grow, cases_Bool}
use Rattle.csv_import.proofs.Common.{catalogue_after, catalogued_unit, cons_option, counts_of, distinct, distinct_again}
use Rattle.csv_import.proofs.Common.{false≢true, file_of, filter_map, first_that_holds, flat_map, gate, has_taken}
use Rattle.csv_import.proofs.Common.{import_outcome, intake_of, is_blank_text, is_container, is_full, is_same}
use Rattle.csv_import.proofs.Common.{is_source, kept, knows, le-ltb, leb-true, length-map, length_permutation, merge}
use Rattle.csv_import.proofs.Common.{merged, most_containers, most_unit_numbers, most_units, nat_le, nat_lt, new_boxes}
use Rattle.csv_import.proofs.Common.{new_of, new_unit, nodes, numbered_from, office_settings, option_map, option_map_or}
use Rattle.csv_import.proofs.Common.{or_as_before, or_first, refusal, result_of, revised, row_by_row, rows_same}
use Rattle.csv_import.proofs.Common.{same_values, size, taken_row_by_row, too_much, unless, when, with_file}
use Rattle.csv_import.proofs.Common.{with_import, with_rows}
use Rattle.csv_import.proofs.FileBounds.{file_bounded}
use Rattle.csv_import.proofs.GoodMerges.{legible_with, merged_days, merged_good}
use Rattle.csv_import.proofs.SameValues.{one_description}

-- ---- containers that come are on the shelf

none_more : {Y : Type 0} (f : ℕ → Option Y) (n m : ℕ) → ((k : ℕ) → n < k → f k ≡ None)
    → filter_map f (numbers_to (n + m)) ≡ filter_map f (numbers_to n)
none_more f n zero h = ap (λ k. filter_map f (numbers_to k)) (let e : n + 0 ≡ n = omega arith in e)
none_more f n (suc m) h =
    ap (λ k. filter_map f (numbers_to k)) (let e : n + suc m ≡ suc (n + m) = omega arith in e)
    ∙ (filter_map-append f (numbers_to (n + m)) (suc (n + m) ∷ [])
    ∙ (ap (λ o. filter_map f (numbers_to (n + m)) ++ cons_option o []) (h (suc (n + m)) (omega arith))
    ∙ (append-nil (filter_map f (numbers_to (n + m))) ∙ none_more f n m h)))

module _ (s : State) (made : Catalogue) (more : List BoxKey) (grown : made.containers ≡ s.catalogue.containers ++ more) (known : (c : ℕ) → is_container s c ≡ false → s.place c ≡ Shelf) where
  on_the_shelf : (k : ℕ) → length s.catalogue.containers < k → holding_row k (s.place k) ≡ None
  on_the_shelf k high = ap (holding_row k) (known k (elim (cases_Bool (is_container s k)) [
    | inl there ↦ absurd (let low = numbered_within s.catalogue.containers k there in omega (arith, low, high))
    | inr none ↦ none
  ]))

  holdings_stay : holding_rows (record s { catalogue = made }) ≡ holding_rows s
  holdings_stay =
      ap (λ n. filter_map (λ c. holding_row c (s.place c)) (numbers_to n)) (ap length grown ∙ length-append s.catalogue.containers more)
      ∙ none_more (λ c. holding_row c (s.place c)) (length s.catalogue.containers) (length more) on_the_shelf

  pub desk_stays : (version : Version) → (tables version (record s { catalogue = made })).desk ≡ (tables version s).desk
  desk_stays version = ap (λ (rows : List HoldingRow). record (tables version s).desk { holdings = rows }) holdings_stay

-- ---- units that come

pub merged_size : (c : Catalogue) (source : Bytes) (rows news : List Row) → AreGoodUnits c
    → size (merged c source rows (numbered_from c.forest source c.next [] news)).forest ≡ size c.forest + length news
merged_size c source rows news g =
    let new : List New = numbered_from c.forest source c.next [] news in
    let old : List Unit = map (revised source rows) (nodes c.forest) in
    let come : List Unit = map (new_unit source) new in
    let all = (merged c source rows new).forest in
    let p = merged_nodes source rows c.next news c.forest g.ids (all_so (λ (u : Unit). (1 ≤ u.id) × (u.id < c.next)) (λ u. u.id < c.next) (λ u k. k.1) (nodes c.forest) g.given) in
    let a = length_permutation (nodes all) (old ++ come) p in
    let b = length-append old come in
    let d = length-map (nodes c.forest) (revised source rows) in
    let e = length-map new (new_unit source) in
    let f = length-numbered c.forest source c.next [] news in
    let h = length-nodes all in
    let i = length-nodes c.forest in
    omega (arith, a, b, d, e, f, h, i)

its_unit : (source : Bytes) (r : Option Unit) (row : Row)
    → option_map_or (λ (unit : Unit). same_values unit.values row.values) r false ≡ true
    → option_map (λ (unit : Unit). unit.values) r ≡ Some row.values
its_unit source None row e = absurd (false≢true e)
its_unit source (Some unit) row e = ap Some (one_description unit.values row.values e)

-- ---- the office

module _ (s : State) (source bytes : Bytes) (file : File) (read : file_of bytes ≡ Ok file) (g : IsSoundOffice s) (named : is_source source ≡ true) (fits : FitsIn source file s) where
  abbrev news : List Row
  news = new_of s.catalogue.forest source file.rows

  abbrev pub made : Catalogue
  made = merged s.catalogue source file.rows (numbered_from s.catalogue.forest source s.catalogue.next [] (new_of s.catalogue.forest source file.rows))

  abbrev pub now : State
  now = record s { catalogue = merged s.catalogue source file.rows (numbered_from s.catalogue.forest source s.catalogue.next [] (new_of s.catalogue.forest source file.rows)) }

  merge_is : merge s.catalogue source file.rows ≡ Ok made
  merge_is = ap (λ faults. or_first faults made) fits.faults

  placed : with_rows source file.rows s.catalogue ≡ Ok made
  placed = row_by_row s.catalogue source file.rows g.sound.units g.sound.desk.boxes (file_sound bytes file read).once ∙ merge_is

  pub entered_is : catalogue_after source file.rows s.catalogue ≡ made
  entered_is = ap (or_as_before s.catalogue) placed

  taken_as : intake_of s source bytes ≡ Ok (record { file = file; catalogue = made })
  taken_as = taken_row_by_row s.catalogue source bytes file read g.sound.units g.sound.desk.boxes ∙ ap (with_file file) placed

  pub after_is : after s (command.Import source bytes) ≡ now
  after_is = ap (with_import s) taken_as

  abbrev count_room : ℕ
  count_room = length (new_of s.catalogue.forest source file.rows)

  room : (size s.catalogue.forest + count_room ≤ most_units) × (s.catalogue.next + count_room ≤ most_unit_numbers + 1)
  room =
      let parts = and_parts (nat_le (size s.catalogue.forest + count_room) most_units) (nat_le (s.catalogue.next + count_room) (most_unit_numbers + 1)) fits.room in
      (leb-true (size s.catalogue.forest + count_room) most_units parts.0, leb-true (s.catalogue.next + count_room) (most_unit_numbers + 1) parts.1)

  few : size made.forest ≤ most_units
  few = (let a = merged_size s.catalogue source file.rows news g.sound.units in let b = room.0 in omega (arith, a, b))

  numbers : made.next ≤ most_unit_numbers + 1
  numbers = (let a = length-numbered s.catalogue.forest source s.catalogue.next [] news in let b = room.1 in omega (arith, a, b))

  units : AreGoodUnits made
  units = merged_good s.catalogue source file.rows (good_rows bytes file read) (apart_rows bytes file read) g.sound.units named made merge_is few numbers

  days : AllByRecursion (λ (u : Unit). IsSomeDay u.until) (nodes made.forest)
  days = merged_days s.catalogue source file.rows (good_rows bytes file read) (apart_rows bytes file read) g.sound.units named made merge_is g.sound.days.closures

  legible : IsLegibleCatalogue made
  legible = legible_with s.catalogue source file.rows (good_rows bytes file read) (apart_rows bytes file read) g.sound.units named made merge_is (file_legible bytes file read) g.texts.catalogue

  apart : distinct made.containers ≡ made.containers
  apart = distinct_again (s.catalogue.containers ++ flat_map (λ (row : Row). row.values.boxes) file.rows)

  pub can_enter : CanEnter source file.rows s.catalogue
  can_enter = record {
    named = named;
    told = record { good = good_rows bytes file read; legible = file_legible bytes file read; once = (file_sound bytes file read).once };
    units = g.sound.units;
    containers = g.sound.containers;
    apart = g.sound.desk.boxes;
    days = g.sound.days.closures;
    legible = g.texts.catalogue;
    few_boxes = (file_bounded bytes file read).boxes;
    room = record { after = made; placed = placed; few = few; numbers = numbers };
  }

  pub texts_stay : AreTexts now
  texts_stay = record { country = g.texts.country; repo = g.texts.repo; catalogue = legible; readers = g.texts.readers }

  pub same_desk : (version : Version) → (tables version now).desk ≡ (tables version s).desk
  same_desk version = desk_stays s made (new_boxes s.catalogue.containers file.rows) (boxes_grow s.catalogue.containers file.rows g.sound.desk.boxes) g.sound.desk.places.known version

  good_containers : length made.containers ≤ most_containers → AreGoodContainers made
  good_containers within =
      let named_box : BoxKey → Type 0 = λ (box : BoxKey). is_blank_text box.name ≡ false in
      let come = flat_map (λ (row : Row). row.values.boxes) file.rows in
      record {
        named = named_all made.containers (all_distinct named_box (s.catalogue.containers ++ come) (all_append named_box s.catalogue.containers come (named_from s.catalogue.containers g.sound.containers.named) (named_told file.rows (good_rows bytes file read))));
        few = within;
      }

  judged_now : length made.containers ≤ most_containers → CanBeJudged now
  judged_now within = record {
    catalogue = kept made units (good_containers within) days legible;
    containers = knows made units apart;
    units = distinct_ids made units;
    desk = λ version. subst IsLegible (sym (same_desk version)) (desk_legible version s g);
    permits = g.sound.desk.permits.known;
    orders = orders_there s g.sound.desk.filed;
  }

  has_entered : HasEntered source file.rows made
  has_entered = record {
    units = units;
    each = all_so (λ (row : Row). is_same made.forest source row ≡ true) (HasItsUnit made.forest source) (λ row e. its_unit source (catalogued_unit made.forest source row) row e) file.rows
        (rows_same source file.rows made.forest (apart_rows bytes file read) (has_taken s.catalogue source file.rows (apart_rows bytes file read)));
  }

  pub has_imported : HasImported source file now
  has_imported =
      let settings = office_settings s g in
      record {
        settings = record { country = settings.country; repo = settings.repo; seats = settings.seats; daily = settings.daily; hands = settings.hands; run_size = settings.run_size; day = settings.day };
        judged = judged_now;
        entered = λ within. has_entered;
      }

  -- ---- what is told of it

  full_is : is_full made ≡ nat_lt most_containers (length made.containers)
  full_is =
      ap (λ (b : Bool). b || (nat_lt (most_unit_numbers + 1) made.next || nat_lt most_containers (length made.containers))) (le-ltb most_units (size made.forest) few)
      ∙ ap (λ (b : Bool). b || nat_lt most_containers (length made.containers)) (le-ltb (most_unit_numbers + 1) made.next numbers)

  pub refusal_is : refusal s (command.Import source bytes) ≡ first_that_holds (when (nat_lt most_containers (length made.containers)) Full ∷ gate now ∷ [])
  refusal_is =
      ap (λ (t : Taken). first_that_holds (unless (is_source source) BadName ∷ bad_file t ∷ too_much t ∷ gate (with_import s t) ∷ [])) taken_as
      ∙ (ap (λ (b : Bool). first_that_holds (unless b BadName ∷ None ∷ when (is_full made) Full ∷ gate now ∷ [])) named
      ∙ ap (λ (b : Bool). first_that_holds (when b Full ∷ gate now ∷ [])) full_is)

  pub told_is : result_of s (command.Import source bytes) ≡ import_outcome source file (counts_of s.catalogue.forest source file.rows) now
  told_is = ap (reply.told_of s.catalogue.forest source) taken_as
