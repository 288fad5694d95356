-- The marks that an office keeps: when they stay those of its tables.
use Rattle.std.proofs.Common.{◌≡◌, ℕ, true, IsTrue, IfOk, List, Option, Some, Result, Ok, Err, refl, sym, ap, subst, ◌∙◌}
use Rattle.std.specs.Result.{result_ok}
use Rattle.std.specs.Prelude.{OnOk}
use Rattle.sqlite.specs.State.{State}
use Rattle.catalogue_core.specs.CatalogueMerge.{Catalogue}
use Rattle.catalogue_statements.specs.declared.office.OfficeRow.{OfficeRow}
use Rattle.office_tables.specs.Schema as tables
use Rattle.office_core.specs.State as office
use Rattle.refinement.proofs.Frames.{catalogue_kept}
use Rattle.refinement.specs.QueryAnswers.{AnswersQuery}
use Rattle.public_queries.specs.InformedAnswers.{AnswersKnowing}
use Rattle.office.proofs.Common.{Answer, AreKept, AreOfLent, AreOfTables, Database, Forest, HasCleanDisk, IsAsBefore}
use Rattle.office.proofs.Common.{IsAtRest, LeavesUnchanged, Mark, OnlyTouches, Query, Represents, RepresentsState}
use Rattle.office.proofs.Common.{Shows, StoreFault, TellOf, Trees, Version, early, office_of, on_ok_then}
use Rattle.office.proofs.Common.{reading_room_trees}

-- ---- they stay

module _ (places : Trees → Forest ℕ → Type 0) (version : Version) (kept : Option (List Mark)) where
  -- where nothing is changed
  pub kept_as_before : (a z : State) → (HasCleanDisk z → HasCleanDisk a) → (HasCleanDisk z → IsAsBefore a z)
      → (HasCleanDisk z → AreKept places version a kept) → AreKept places version z kept
  kept_as_before a z before same it clean opened =
      subst (λ (db : Database). AreOfTables places version db kept) (sym ((same clean).now opened)) (it clean (before clean) ((same clean).was_open opened))

  -- where a command touched the tables of the reading room alone
  pub kept_spared : ((old new : Trees) (f : Forest ℕ) → new tables.link.tree ≡ old tables.link.tree → places old f → places new f)
      → (a z : State) → (HasCleanDisk z → HasCleanDisk a)
      → (HasCleanDisk z → IsTrue z.is_open → IsTrue a.is_open)
      → (HasCleanDisk a → IsAtRest version a) → (HasCleanDisk z → IsAtRest version z)
      → (HasCleanDisk z → OnlyTouches reading_room_trees a.now z.now)
      → (HasCleanDisk z → AreKept places version a kept) → AreKept places version z kept
  kept_spared same a z before was_open rest_a rest_z only it clean opened row c shown =
      let at_a = before clean in
      let open_a = was_open clean opened in
      let schema = (rest_a at_a).schema_is open_a ∙ sym ((rest_z clean).schema_is opened) in
      it clean at_a open_a row c
      (catalogue_kept z.now a.now reading_room_trees (λ tree table other. sym (only clean tree table other)) places same version row c refl schema shown)

-- ---- what a call touches that reads first

pub read_alone : (a b : State) → LeavesUnchanged a b → HasCleanDisk b → OnlyTouches reading_room_trees a.now b.now
read_alone a b looked clean tree table other = ap (λ (db : Database). db.trees tree) (looked.same clean)

pub touches_after : {X : Type 0} (a b c : State) (r : Result X StoreFault) → LeavesUnchanged a b → HasCleanDisk b
    → OnOk r (OnlyTouches reading_room_trees b.now c.now) → OnOk r (OnlyTouches reading_room_trees a.now c.now)
touches_after a b c r looked at_b only =
    on_ok_then r (OnlyTouches reading_room_trees b.now c.now) (OnlyTouches reading_room_trees a.now c.now)
    (λ it tree table other. it tree table other ∙ ap (λ (db : Database). db.trees tree) (looked.same at_b)) only

-- ---- in a transaction over the tables whose marks are kept

-- what is kept is right of the tables that are lent
pub kept_lent : (places : Trees → Forest ℕ → Type 0) (version : Version) (a b : State) → (HasCleanDisk b → HasCleanDisk a)
    → (HasCleanDisk b → Shows a b a.now a.committed true) → (kept : Option (List Mark)) → AreKept places version a kept
    → AreOfLent places version b kept
kept_lent places version a b clean_a begins kept it clean =
    let begun = begins clean in
    subst (λ (db : Database). AreOfTables places version db kept) (sym begun.now_is) (it (clean_a clean) begun.was_open)

-- also after a look
pub still_lent : (places : Trees → Forest ℕ → Type 0) (version : Version) (a b : State) → LeavesUnchanged a b
    → (kept : Option (List Mark)) → AreOfLent places version a kept → AreOfLent places version b kept
still_lent places version a b looked kept it clean =
    subst (λ (db : Database). AreOfTables places version db kept) (sym (looked.same clean)) (it (early looked.goes.on.crash clean))

-- what is kept then is right of the tables before
pub kept_within : (places : Trees → Forest ℕ → Type 0) (version : Version) (a b m : State)
    → (HasCleanDisk m → HasCleanDisk b) → (HasCleanDisk b → Shows a b a.now a.committed true)
    → (kept last : Option (List Mark))
    → (HasCleanDisk m → AreOfTables places version b.now kept → AreOfTables places version b.now last)
    → AreKept places version a kept → HasCleanDisk m → AreKept places version a last
kept_within places version a b m clean_b begins kept last stays it at_m at_a opened =
    let begun = begins (clean_b at_m) in
    let before = subst (λ (db : Database). AreOfTables places version db kept) (sym begun.now_is) (it at_a opened) in
    subst (λ (db : Database). AreOfTables places version db last) begun.now_is (stays at_m before)

-- ---- marks that are read before any are kept

module _ (places : Trees → Forest ℕ → Type 0) (version : Version) (z : State) where
  pub marks_read : (r : Result (List Mark) StoreFault)
      → (HasCleanDisk z → IsTrue z.is_open → (row : OfficeRow) (c : Catalogue) → Represents places version z.now row c → IfOk r (λ forest. TellOf c (Some forest)))
      → IfOk r (λ forest. AreKept places version z (Some forest))
  marks_read (Ok forest) tells = tells
  marks_read (Err fault) tells = tt

  -- without them, none are kept
  pub marks_taken : (r : Result (List Mark) StoreFault) → IfOk r (λ forest. AreKept places version z (Some forest)) → AreKept places version z (result_ok r)
  marks_taken (Ok forest) it = it
  marks_taken (Err fault) it = λ clean opened row c shown. tt

-- ---- a question that is asked of the tables whose marks are kept

pub answers_known : {places : Trees → Forest ℕ → Type 0} {version : Version} (kept : Option (List Mark)) {asked : Query} {a b m : State} {r : Result Answer StoreFault}
    → (HasCleanDisk m → HasCleanDisk b) → (HasCleanDisk b → HasCleanDisk a)
    → (HasCleanDisk b → Shows a b a.now a.committed true)
    → AreKept places version a kept
    → AnswersKnowing places version (λ (s : office.State). TellOf s.catalogue kept) asked b m r
    → AnswersQuery places version asked b m r
answers_known {places} {version} kept {asked} {a} {b} {m} {r} clean_b clean_a begins it does =
    let tells = λ (clean : HasCleanDisk m) (s : office.State) (shown : RepresentsState places version b.now s).
    let at_b = clean_b clean in
    it (clean_a at_b) (begins at_b).was_open (office_of s) s.catalogue
    (subst (λ (db : Database). Represents places version db (office_of s) s.catalogue) (begins at_b).now_is shown.catalogue) in
    record {
      answers = λ clean s sound shown. does.answers clean s sound (tells clean s shown) shown;
      looks = does.looks;
      aborts = does.aborts;
      faults = λ s sound shown clean free. does.faults s sound (tells clean s shown) shown clean free;
    }
