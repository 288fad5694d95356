-- Carrying out an import: the rows are entered, and then the outcome is judged.
use Rattle.std.proofs.Common.{◌≡◌, ℕ, ℤ, Bool, true, false, cond, ◌≤◌, List, [], ◌∷◌, length, map, Option, Some, None}
use Rattle.std.proofs.Common.{Result, Ok, Err, refl, sym, ap, subst, ◌∙◌}
use Rattle.sqlite.specs.State as store
use Rattle.sqlite_trees.specs.declared.store.Store as kept_in
use Rattle.atom_csv.specs.Causes.{cause_number}
use Rattle.atom_csv.specs.declared.cause.Cause.{Cause}
use Rattle.desk_core.specs.declared.refusal.Refusal.{Refusal}
use Rattle.catalogue_statements.specs.Settings.{AreLegibleSettings}
use Rattle.desk_store.specs.Representation.{RepresentsDesk}
use Rattle.office_core.specs.State.{State}
use Rattle.office_core.specs.declared.command.Command.{Command}
use Rattle.office_core.specs.declared.command.Command.TheVariants as command
use Rattle.office_core.specs.declared.done.Done.{Done}
use Rattle.office_core.specs.declared.done.Done.TheVariants as done
use Rattle.state_encoding.specs.OfficeRows.{tables}
use Rattle.refinement.proofs.Frames.{desk_kept}
use Rattle.refinement.proofs.Tellings.{looked_crash}
use Rattle.refinement.specs.AccessConditions.{RepresentsWhole}
use Rattle.refinement.specs.CommandSteps.{CarriesOut, CarriesOutStep}
use Rattle.access.proofs.Passing.{if_ok_with}
use Rattle.access.specs.Gate.{gate_reply, unless_refused}
use Rattle.csv_import.specs.PendingImport.{ReadsCatalogue}
use Rattle.csv_import.specs.declared.row_entry.Outcome.{Outcome}
use Rattle.csv_import.specs.declared.row_plan.Planned.{Planned}
use Rattle.csv_import.specs.declared.row_plan.Planned.TheVariants as plans
use Rattle.csv_import.proofs.Common.{Answers, AreGoodUnits, BadFile, Bytes, CanBePlaced, Catalogue, Counts, Database}
use Rattle.csv_import.proofs.Common.{File, FitsIn, Forest, Full, Goes, HasCleanDisk, HasLegibleSettings}
use Rattle.csv_import.proofs.Common.{HasNumberedUnits, HaveUnits, Held, IsAborted, IsOk, IsReady, IsSoundOffice}
use Rattle.csv_import.proofs.Common.{KnowsUnits, LeavesUnchanged, OfficeRow, Remark, Reply, Represents}
use Rattle.csv_import.proofs.Common.{RepresentsEntering, RepresentsLegible, RepresentsNumbered, RepresentsSettings}
use Rattle.csv_import.proofs.Common.{RepresentsState, Row, StoreFault, Trees, Updates, Version, accepted, after}
use Rattle.csv_import.proofs.Common.{by_number, catalogue_after, catalogue_trees, counts_of, cut_then, does_then, early}
use Rattle.csv_import.proofs.Common.{excused_then, file_of, first_that_holds, gate, goes_then, has_room, import_outcome}
use Rattle.csv_import.proofs.Common.{is_refused, is_source, le-ltb, ltb-false, most_containers, nat_lt, next_with_room}
use Rattle.csv_import.proofs.Common.{number_there, office_of, office_settings, on_err_then, on_ok_then, plan_of}
use Rattle.csv_import.proofs.Common.{refusal, refused, remarks, reply_after, result_of, state, when, ⊤}
use Rattle.csv_import.proofs.Counting.{no_room_there, room_there}
use Rattle.csv_import.proofs.Frames.{entering_of}
use Rattle.csv_import.proofs.Refused.{faulty, fits_planned, full}
use Rattle.csv_import.proofs.Imports.{after_is, can_enter, entered_is, has_imported, now, refusal_is, same_desk}
use Rattle.csv_import.proofs.Imports.{texts_stay, told_is}

pub settings_shown : (s : State) → HasLegibleSettings s → AreLegibleSettings (office_of s)
settings_shown s it = record { country = it.country; repo = it.repo; seats = it.seats; daily = it.daily; hands = it.hands; run_size = it.run_size; day = it.day }

-- the containers were counted, and there are no more than an office may have
pub few_containers : (s : State) {many : Bool} → many ≡ nat_lt most_containers (length s.catalogue.containers)
    → many ≡ false → length s.catalogue.containers ≤ most_containers
few_containers s counted few = ltb-false most_containers (length s.catalogue.containers) (sym counted ∙ few)

-- then the gate has the last word
pub judged_few : (s : State) (made : Done) → length s.catalogue.containers ≤ most_containers
    → reply_after s made ≡ gate_reply s made
judged_few s made few = ap (λ (b : Bool). cond b (Err Full) (gate_reply s made)) (le-ltb most_containers (length s.catalogue.containers) few)

-- by the remarks and the translations that were told
pub judged_by : (source : Bytes) (file : File) (counts : Counts) (s : State) {made : Reply} {marks : List Remark} {translations : ℕ}
    → length s.catalogue.containers ≤ most_containers
    → made ≡ gate_reply s (done.Import counts.changed counts.new marks counts.same translations)
    → marks ≡ remarks s.catalogue.forest source file.rows → translations ≡ file.translations
    → made ≡ reply_after s (import_outcome source file counts s)
judged_by source file counts s {marks = marks} {translations = translations} few is remarked translated =
    is
    ∙ (ap (λ (l : List Remark). gate_reply s (done.Import counts.changed counts.new l counts.same translations)) remarked
    ∙ (ap (λ k. gate_reply s (done.Import counts.changed counts.new (remarks s.catalogue.forest source file.rows) counts.same k)) translated
    ∙ sym (judged_few s (import_outcome source file counts s) few)))

-- the rows' units are there, once they are entered; the same rows and units may be told otherwise
pub have_units : (source : Bytes) (file : File) (units : List ℕ) (s : State)
    → length s.catalogue.containers ≤ most_containers → HasNumberedUnits source file units s
    → (rows : List Row) → rows ≡ file.rows → (result_of : List ℕ) → result_of ≡ units
    → HaveUnits source rows result_of s.catalogue
have_units source file units s within has rows same result_of alike =
    subst (λ us. HaveUnits source rows us s.catalogue) (sym alike)
    (subst (λ rs. HaveUnits source rs units s.catalogue) (sym same) (record { entered = has.imported.entered within; numbered = has.numbered }))

-- the tables can be read as those of a catalogue that takes rows
pub shown_legible : (places : Trees → Forest ℕ → Type 0) (version : Version) (db : Database) (s : State)
    → IsSoundOffice s → RepresentsState places version db s
    → RepresentsLegible places version db (office_of s) s.catalogue
shown_legible places version db s g it =
    record { tables = it.catalogue; settings = settings_shown s (office_settings s g) }

-- rows that can be placed and for which there is room, by the next number
pub fits_now : (source : Bytes) (file : File) (today : ℤ) (numbers : Bytes → Option ℕ) (new next : ℕ) (s : State)
    → (today ≡ s.day) × (is_source source ≡ true) × CanBePlaced source file new s × KnowsUnits s.catalogue source file.rows numbers
    → Some next ≡ next_with_room new s.catalogue
    → (today ≡ s.day) × (is_source source ≡ true) × FitsIn source file s × KnowsUnits s.catalogue source file.rows numbers × (next ≡ s.catalogue.next)
fits_now source file today numbers new next s so is =
    let placed = so.2 in
    let room = room_there new s.catalogue next is in
    (so.0, so.1, record { faults = placed.faults; room = ap (λ n. has_room n s.catalogue) (sym placed.new_is) ∙ room.0 }, so.3, room.1)

-- a step that is refused for too many containers, or on which the gate has the last word
judged_step : (places : Trees → Forest ℕ → Type 0) (version : Version) (s t : State) (asked : Command) (db : Database)
    → after s asked ≡ t
    → refusal s asked ≡ first_that_holds (when (nat_lt most_containers (length t.catalogue.containers)) Full ∷ gate t ∷ [])
    → (r : Reply) → r ≡ reply_after t (result_of s asked) → RepresentsState places version db t
    → CarriesOutStep places version s asked r db
judged_step places version s t asked db becomes last r is shown =
    at (nat_lt most_containers (length t.catalogue.containers)) (gate t) refl refl
  where
    refuse : (why : Refusal) → refusal s asked ≡ Some why → r ≡ Err why → CarriesOutStep places version s asked r db
    refuse why some so =
        let one = refused s asked why some in
        record { told = so ∙ sym (ap (λ (p : State × Reply). p.1) one); represents = λ ok. absurd (let bad : IsOk (let r : Reply = Err why in r) = subst IsOk so ok in cc) }

    accept : refusal s asked ≡ None → r ≡ Ok (result_of s asked) → CarriesOutStep places version s asked r db
    accept none so =
        let one = accepted s asked none in
        record { told = so ∙ sym (ap (λ (p : State × Reply). p.1) one); represents = λ ok. subst (RepresentsState places version db) (sym (ap (λ (p : State × Reply). p.0) one ∙ becomes)) shown }

    at : (many : Bool) (why : Option Refusal) → nat_lt most_containers (length t.catalogue.containers) ≡ many
        → gate t ≡ why → CarriesOutStep places version s asked r db
    at true why e f =
        refuse Full (last ∙ ap (λ (b : Bool). first_that_holds (when b Full ∷ gate t ∷ [])) e) (is ∙ ap (λ (b : Bool). cond b (Err Full) (gate_reply t (result_of s asked))) e)
    at false (Some why) e f =
        refuse why (last ∙ (ap (λ (b : Bool). first_that_holds (when b Full ∷ gate t ∷ [])) e ∙ ap (λ w. first_that_holds (w ∷ [])) f))
        (is ∙ (ap (λ (b : Bool). cond b (Err Full) (gate_reply t (result_of s asked))) e ∙ ap (λ w. unless_refused w (result_of s asked)) f))
    at false None e f =
        accept (last ∙ (ap (λ (b : Bool). first_that_holds (when b Full ∷ gate t ∷ [])) e ∙ ap (λ w. first_that_holds (w ∷ [])) f))
        (is ∙ (ap (λ (b : Bool). cond b (Err Full) (gate_reply t (result_of s asked))) e ∙ ap (λ w. unless_refused w (result_of s asked)) f))

-- the day, the source, the units of the rows, and the next number, where there is room
abbrev IsFitting : ℤ → Bytes → File → (Bytes → Option ℕ) → ℕ → State → Type 0
IsFitting today source file numbers next s =
    (today ≡ s.day) × (is_source source ≡ true) × FitsIn source file s × KnowsUnits s.catalogue source file.rows numbers × (next ≡ s.catalogue.next)

-- what a call that entered the rows did, and how it counted them
abbrev Entered : {S : Type 0} → kept_in.Ghosts S → (Trees → Forest ℕ → Type 0) → Version → Bytes → (Bytes → Option ℕ)
    → ℕ → Held S → Held S → Outcome → List Row → Type 0
Entered g places version source numbers next before after outcome rows =
    Updates g catalogue_trees (RepresentsLegible places version) before after (let r : Result Outcome StoreFault = Ok outcome in r) (IsReady source rows numbers next) (λ _. ⊤) (catalogue_after source rows)
    × ReadsCatalogue g (RepresentsLegible places version) (IsReady source rows numbers next) before after (let r : Result Outcome StoreFault = Ok outcome in r)
    (λ c made. (made.counts ≡ counts_of c.forest source rows) × (map Some made.units.items ≡ map (λ row. number_there (catalogue_after source rows c) source row.legacy) rows))

module _ {S : Type 0} (g : kept_in.Ghosts S) (places : Trees → Forest ℕ → Type 0) (version : Version) (today : ℤ) (source bytes : Bytes) (file : File) (read : file_of bytes ≡ Ok file) (numbers : Bytes → Option ℕ) (next : ℕ) (held mid after_it : Held S) (r : Result Reply StoreFault) (outcome : Outcome) where
  abbrev before : store.State
  before = state g held

  abbrev b : store.State
  b = state g mid

  abbrev c : store.State
  c = state g after_it

  abbrev counts : Counts
  counts = outcome.counts

  abbrev units : List ℕ
  units = outcome.units.items

  abbrev Known : State → Type 0
  Known = IsFitting today source file numbers next

  ready : (s : State) → IsSoundOffice s → Known s → IsReady source file.rows numbers next s.catalogue
  ready s sound so = record { can = can_enter s source bytes file read sound so.1 so.2; known = so.3; number = so.4 }

  module _ (come : Entered g places version source numbers next held mid outcome file.rows) where
    shown_now : HasCleanDisk b → (s : State) → (sound : IsSoundOffice s) → (so : Known s)
        → RepresentsState places version before.now s
        → RepresentsState places version b.now (now s source bytes file read sound so.1 so.2)
    shown_now clean s sound so it =
        let named = so.1 in
        let fits = so.2 in
        let shown = come.0.represents_updated clean (office_of s) s.catalogue (shown_legible places version before.now s sound it) (ready s sound so) in
        record {
          catalogue = subst (λ (k : Catalogue). RepresentsNumbered places version b.now (office_of s) k) (entered_is s source bytes file read sound named fits) shown.tables;
          desk = subst (RepresentsDesk b.now.trees) (sym (same_desk s source bytes file read sound named fits version)) (desk_kept before.now b.now catalogue_trees (come.0.only clean) (tables version s).desk refl it.desk);
          texts = texts_stay s source bytes file read sound named fits;
        }

    -- the outcome, and the units of the rows
    has_numbered : HasCleanDisk b → (s : State) → (sound : IsSoundOffice s) → (so : Known s)
        → RepresentsState places version before.now s
        → HasNumberedUnits source file units (now s source bytes file read sound so.1 so.2)
    has_numbered clean s sound so it = record {
      imported = has_imported s source bytes file read sound so.1 so.2;
      numbered =
          (come.1 clean (office_of s) s.catalogue (shown_legible places version before.now s sound it) (ready s sound so)).1
          ∙ ap (λ (k : Catalogue). map (λ (row : Row). number_there k source row.legacy) file.rows) (entered_is s source bytes file read sound so.1 so.2);
    }

    imports_so : Answers g (RepresentsWhole places version) mid after_it r (λ _. ⊤) (HasNumberedUnits source file units) (λ _ s reply. HasNumberedUnits source file units s → today ≡ s.day → reply ≡ reply_after s (import_outcome source file counts s))
        → CarriesOut places version (λ s. (today ≡ s.day) × (is_source source ≡ true) × FitsIn source file s × KnowsUnits s.catalogue source file.rows numbers × (next ≡ s.catalogue.next)) (command.Import source bytes) before c r
    imports_so answers =
        let asked = command.Import source bytes in
        let still = λ (clean : HasCleanDisk c). early (looked_crash r b c answers.looks answers.aborts) clean in
        record {
          steps = λ clean s sound so it.
              let named = so.1 in
              let fits = so.2 in
              let at_b = still clean in
              let t = now s source bytes file read sound named fits in
              let shown = shown_now at_b s sound so it in
              let has = has_numbered at_b s sound so it in
              let counts_are = (come.1 at_b (office_of s) s.catalogue (shown_legible places version before.now s sound it) (ready s sound so)).0 in
              if_ok_with r (LeavesUnchanged b c) (λ reply. HasNumberedUnits source file units t → today ≡ t.day → reply ≡ reply_after t (import_outcome source file counts t)) (λ reply. CarriesOutStep places version s asked reply c.now)
              (λ reply looked is.
              judged_step places version s t asked c.now (after_is s source bytes file read sound named fits) (refusal_is s source bytes file read sound named fits) reply
              (is has so.0 ∙ ap (reply_after t) (ap (λ (n : Counts). import_outcome source file n t) counts_are ∙ sym (told_is s source bytes file read sound named fits)))
              (subst (λ (db : Database). RepresentsState places version db t) (sym (looked.same clean)) shown))
              answers.looks (answers.answers clean tt t shown);
          goes = on_ok_then r (LeavesUnchanged b c) (Goes before c) (λ looked. goes_then come.0.goes looked.goes) answers.looks;
          aborts = on_err_then r (IsAborted b c) (IsAborted before c) (λ cut. cut_then come.0.goes.on cut) answers.aborts;
          faults = λ s sound so it.
              excused_then _ come.0.goes.on r answers.aborts (λ at_b. answers.faults tt (now s source bytes file read sound so.1 so.2) (shown_now at_b s sound so it) tt (has_numbered at_b s sound so it));
        }

-- the same, where the rows are told otherwise
pub imports : {S : Type 0} {g : kept_in.Ghosts S} {places : Trees → Forest ℕ → Type 0} {version : Version} {today : ℤ} {source bytes : Bytes} {file : File} (read : file_of bytes ≡ Ok file) {numbers : Bytes → Option ℕ} {next : ℕ} {held mid after_it : Held S} {r : Result Reply StoreFault} {outcome : Outcome} {rows : List Row}
    → rows ≡ file.rows
    → Updates g catalogue_trees (RepresentsLegible places version) held mid (let r : Result Outcome StoreFault = Ok outcome in r) (IsReady source rows numbers next) (λ _. ⊤) (catalogue_after source rows)
    → ReadsCatalogue g (RepresentsLegible places version) (IsReady source rows numbers next) held mid (let r : Result Outcome StoreFault = Ok outcome in r)
    (λ c made. (made.counts ≡ counts_of c.forest source rows) × (map Some made.units.items ≡ map (λ row. number_there (catalogue_after source rows c) source row.legacy) rows))
    → Answers g (RepresentsWhole places version) mid after_it r (λ _. ⊤) (HasNumberedUnits source file outcome.units.items) (λ _ s reply. HasNumberedUnits source file outcome.units.items s → today ≡ s.day → reply ≡ reply_after s (import_outcome source file outcome.counts s))
    → CarriesOut places version (IsFitting today source file numbers next) (command.Import source bytes) (state g held) (state g after_it) r
imports {g = g} {places = places} {version = version} {today = today} {source = source} {bytes = bytes} {file = file} read {numbers = numbers} {next = next} {held = held} {mid = mid} {after_it = after_it} {r = r} {outcome = outcome} same made finds answers =
    imports_so g places version today source bytes file read numbers next held mid after_it r outcome (subst (Entered g places version source numbers next held mid outcome) same (made, finds)) answers

-- the rows are ready to be entered
pub ready_for : {today : ℤ} {source : Bytes} (bytes : Bytes) {file : File} (read : file_of bytes ≡ Ok file) {numbers : Bytes → Option ℕ} {next : ℕ} {rows : List Row}
    → rows ≡ file.rows → (s : State) → IsSoundOffice s
    → (today ≡ s.day) × (is_source source ≡ true) × FitsIn source file s × KnowsUnits s.catalogue source file.rows numbers × (next ≡ s.catalogue.next)
    → IsReady source rows numbers next s.catalogue
ready_for {source = source} bytes {file = file} read {numbers = numbers} {next = next} same s sound so =
    subst (λ (rs : List Row). IsReady source rs numbers next s.catalogue) (sym same) (record { can = can_enter s source bytes file read sound so.1 so.2; known = so.3; number = so.4 })

-- ---- step by step: more and more is known of the state

-- the day and the source
abbrev HasBegun : ℤ → Bytes → State → Type 0
HasBegun today source s = (today ≡ s.day) × (is_source source ≡ true)

-- and the units of the rows
abbrev IsLookedUp : ℤ → Bytes → File → (Bytes → Option ℕ) → State → Type 0
IsLookedUp today source file numbers s =
    (today ≡ s.day) × (is_source source ≡ true) × KnowsUnits s.catalogue source file.rows numbers

-- and how many are new, where all can be placed
abbrev IsPlaced : ℤ → Bytes → File → (Bytes → Option ℕ) → ℕ → State → Type 0
IsPlaced today source file numbers new s =
    (today ≡ s.day) × (is_source source ≡ true) × CanBePlaced source file new s × KnowsUnits s.catalogue source file.rows numbers

-- the plan was made of the rows as they are told
planned_so : {places : Trees → Forest ℕ → Type 0} {version : Version} {today : ℤ} {source : Bytes} (file : File) {numbers : Bytes → Option ℕ} {rows : List Row} (plan : Planned) (a b : store.State)
    → rows ≡ file.rows
    → (HasCleanDisk b → (o : OfficeRow) (k : Catalogue) → Represents places version a.now o k → AreGoodUnits k → (q : Bytes) → KnowsUnits k q rows numbers → by_number plan ≡ plan_of k.forest q rows)
    → HasCleanDisk b → (s : State) → IsSoundOffice s → IsLookedUp today source file numbers s
    → RepresentsState places version a.now s → by_number plan ≡ plan_of s.catalogue.forest source file.rows
planned_so {source = source} file {numbers = numbers} plan a b same planned clean s sound so it =
    planned clean (office_of s) s.catalogue it.catalogue sound.sound.units source (subst (λ (rs : List Row). KnowsUnits s.catalogue source rs numbers) (sym same) so.2) ∙ ap (plan_of s.catalogue.forest source) same

module _ {places : Trees → Forest ℕ → Type 0} {version : Version} {today : ℤ} {source bytes : Bytes} {file : File} (read : file_of bytes ≡ Ok file) {numbers : Bytes → Option ℕ} {rows : List Row} (same : rows ≡ file.rows) {a b : store.State} (looked : LeavesUnchanged a b) where
  pub when_known : {c : store.State} {r : Result Reply StoreFault}
      → (HasCleanDisk b → (o : OfficeRow) (k : Catalogue) → RepresentsEntering version a.now o k → AreGoodUnits k → KnowsUnits k source rows numbers)
      → CarriesOut places version (IsLookedUp today source file numbers) (command.Import source bytes) b c r
      → CarriesOut places version (HasBegun today source) (command.Import source bytes) a c r
  when_known result_of last = does_then looked last (λ clean s sound so it.
      (so.0, so.1, subst (λ (rs : List Row). KnowsUnits s.catalogue source rs numbers) same (result_of clean (office_of s) s.catalogue (entering_of version a.now (office_of s) s.catalogue it.catalogue.catalogue) sound.sound.units)))

  module _ {plan : Planned} (planned : HasCleanDisk b → (o : OfficeRow) (k : Catalogue) → Represents places version a.now o k → AreGoodUnits k → (q : Bytes) → KnowsUnits k q rows numbers → by_number plan ≡ plan_of k.forest q rows) where
    pub when_placed : {new : ℕ} {c : store.State} {r : Result Reply StoreFault} → plan ≡ plans.Fits new
        → CarriesOut places version (IsPlaced today source file numbers new) (command.Import source bytes) b c r
        → CarriesOut places version (IsLookedUp today source file numbers) (command.Import source bytes) a c r
    when_placed {new = new} is last = does_then looked last (λ clean s sound so it. (so.0, so.1, fits_planned s source file new (sym (ap by_number is) ∙ planned_so file plan a b same planned clean s sound so it), so.2))

    pub refused_row : {row number : ℕ} {cause : Cause} → plan ≡ plans.Faulty row cause → number ≡ cause_number cause
        → CarriesOut places version (IsLookedUp today source file numbers) (command.Import source bytes) a b (Ok (Err (BadFile row number)))
    refused_row {row} {number} is numbered =
        is_refused looked (λ clean s sound so it. faulty s source bytes file read sound so.1 row number (ap (λ n. Err (row, n)) numbered ∙ sym (ap by_number is) ∙ planned_so file plan a b same planned clean s sound so it))

  module _ {new : ℕ} {found : Option ℕ} (result_of : HasCleanDisk b → (k : Catalogue) (o : OfficeRow) → RepresentsSettings places version a.now k o → found ≡ next_with_room new k) where
    pub when_roomy : {next : ℕ} {c : store.State} {r : Result Reply StoreFault} → found ≡ Some next
        → CarriesOut places version (IsFitting today source file numbers next) (command.Import source bytes) b c r
        → CarriesOut places version (IsPlaced today source file numbers new) (command.Import source bytes) a c r
    when_roomy {next = next} is last = does_then looked last (λ clean s sound so it. fits_now source file today numbers new next s so (sym is ∙ result_of clean s.catalogue (office_of s) it.catalogue))

    pub refused_full : found ≡ None
        → CarriesOut places version (IsPlaced today source file numbers new) (command.Import source bytes) a b (Ok (Err Full))
    refused_full is = is_refused looked (λ clean s sound so it. full s source bytes file read sound so.1 new so.2 (no_room_there new s.catalogue (sym is ∙ result_of clean s.catalogue (office_of s) it.catalogue)))
