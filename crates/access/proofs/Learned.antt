-- What the steps of a call that reads have told so far, of whatever the tables show.
use Rattle.std.proofs.Common.{◌≡◌, ℕ, List, Ok, Err, Result, sym, subst}
use Rattle.std.proofs.lemmas.Result.{IfOk-weaker}
use Rattle.sqlite.specs.Effect.{Database}
use Rattle.sqlite.specs.State.{State}
use Rattle.sqlite_trees.specs.declared.store.Store as store
use Rattle.desk_core.specs.DeskRows.{Desk}
use Rattle.catalogue_core.specs.Bounds.{IsBounded, IsKept}
use Rattle.office_tables.proofs.CallEnds as calls
use Rattle.office_tables.specs.Calls.{Answers, RepresentsAlone}
use Rattle.office_tables.specs.RowNumbers.{HasNumbered, HoldsNumbered}
use Rattle.office_tables.specs.Schema as schema
use Rattle.office_tables.specs.Step.{IsAborted, LeavesUnchanged}
use Rattle.office_tables.specs.TableStatements.{LooksUp}
use Rattle.catalogue_statements.specs.Representation.{Represents, RepresentsHousings}
use Rattle.catalogue_statements.specs.Rows.{HousingRow, housing_row}
use Rattle.catalogue_statements.specs.declared.office.OfficeRow.{OfficeRow}
use Rattle.desk_store.specs.Representation.{IsLegible, RepresentsDeskAlone}
use Rattle.office_core.specs.State.{State as Office}
use Rattle.refinement.proofs.Tellings.{looked_crash}
use Rattle.refinement.specs.Representation.{office_of}
use Rattle.access.proofs.Common.{CanBeJudged, Catalogue, Forest, HasCleanDisk, Held, IsErr, IsErrAnd, RepresentsWhole}
use Rattle.access.proofs.Common.{StoreFault, Trees, Unit, Version, cut_then, each, early, excused_then, looks_nowhere}
use Rattle.access.proofs.Common.{looks_passed_later, looks_then, looks_well, on_err_then, on_ok_then, same_fault, state}
use Rattle.access.proofs.Common.{tables, ⊤}

-- the steps changed nothing, and this is known of the model that the tables show
pub record Learned {Stays Model : Type 0} (represents : Database → Stays → Model → Type 0) (a b : State) (fact : Stays → Model → Type 0) : Type 0 where
  pub looks : LeavesUnchanged a b
  pub told : HasCleanDisk b → (s : Stays) (m : Model) → represents a.now s m → fact s m

-- what was known before, and what the next step tells
pub record Also (Before Now : Type 0) : Type 0 where
  pub before : Before
  pub now : Now

-- what was shown before is still shown
still_shown : {Stays Model : Type 0} (represents : Database → Stays → Model → Type 0) {a b : State} → LeavesUnchanged a b
    → HasCleanDisk b → (s : Stays) (m : Model) → represents a.now s m → represents b.now s m
still_shown represents looked clean s m shown = subst (λ (db : Database). represents db s m) (sym (looked.same clean)) shown

module _ {Stays Model : Type 0} {represents : Database → Stays → Model → Type 0} where
  -- before any step
  pub learned_nothing : {a : State} {fact : Stays → Model → Type 0} → ((s : Stays) (m : Model) → fact s m)
      → Learned represents a a fact
  learned_nothing always = record { looks = looks_nowhere; told = λ clean s m shown. always s m }

  -- by one step or several, and then by more
  pub learned_then : {a b c : State} {fact more : Stays → Model → Type 0} → Learned represents a b fact
      → Learned represents b c more → Learned represents a c (λ s m. Also (fact s m) (more s m))
  learned_then first next = record {
    looks = looks_then first.looks next.looks;
    told = λ clean s m shown.
        let before = early next.looks.goes.on.crash clean in
        record { before = first.told before s m shown; now = next.told clean s m (still_shown represents first.looks before s m shown) };
  }

  -- so something else is known
  pub learned_so : {a b : State} {fact other : Stays → Model → Type 0} → Learned represents a b fact
      → ((s : Stays) (m : Model) → fact s m → other s m) → Learned represents a b other
  learned_so it means = record { looks = it.looks; told = λ clean s m shown. means s m (it.told clean s m shown) }

module _ {S X Stays Model : Type 0} {g : store.Ghosts S} {represents : Database → Stays → Model → Type 0} {kept may : Model → Type 0} where
  -- by a call
  pub learned_by : {before after : Held S} {x : X} {answer : Stays → Model → X → Type 0}
      → Answers g represents before after (Ok x) may kept answer
      → Learned represents (state g before) (state g after) (λ s m. answer s m x)
  learned_by it = record { looks = it.looks; told = λ clean s m shown. it.answers clean s m shown }

  -- by a call after others
  pub learned_more : {a : State} {mid after : Held S} {x : X} {fact : Stays → Model → Type 0} {answer : Stays → Model → X → Type 0}
      → Learned represents a (state g mid) fact → Answers g represents mid after (Ok x) may kept answer
      → Learned represents a (state g after) (λ s m. Also (fact s m) (answer s m x))
  learned_more first it = learned_then first (learned_by it)

-- ---- how a call ends that has learned this

module _ {S X Stays Model : Type 0} {g : store.Ghosts S} {represents : Database → Stays → Model → Type 0} {kept may : Model → Type 0} {before after : Held S}
    {answer : Stays → Model → X → Type 0} where
  pub ends_so : {x : X} {fact : Stays → Model → Type 0} → Learned represents (state g before) (state g after) fact
      → ((s : Stays) (m : Model) → fact s m → answer s m x) → Answers g represents before after (Ok x) may kept answer
  ends_so it means = calls.tells_well it.looks (λ clean s m shown. means s m (it.told clean s m shown))

  -- the result of its last step is its own
  pub ends_by : {mid : Held S} {r : Result X StoreFault} {fact : Stays → Model → Type 0} {told : Stays → Model → X → Type 0}
      → Learned represents (state g before) (state g mid) fact → Answers g represents mid after r may kept told
      → ((s : Stays) (m : Model) → fact s m → (x : X) → told s m x → answer s m x)
      → Answers g represents before after r may kept answer
  ends_by {mid = mid} {r = r} {told = told} it last means =
      let a = state g before in
      let b = state g mid in
      let c = state g after in
      let still = λ (clean : HasCleanDisk c). early (looked_crash r b c last.looks last.aborts) clean in
      record {
        answers = λ clean s m shown. IfOk-weaker r (told s m) (answer s m) (means s m (it.told (still clean) s m shown))
            (last.answers clean s m (still_shown represents it.looks (still clean) s m shown));
        looks = on_ok_then r (LeavesUnchanged b c) (LeavesUnchanged a c) (λ on. looks_then it.looks on) last.looks;
        aborts = on_err_then r (IsAborted b c) (IsAborted a c) (λ cut. cut_then it.looks.goes.on cut) last.aborts;
        faults = λ s m shown allowed within. excused_then _ it.looks.goes.on r last.aborts
            (λ at_b. last.faults s m (still_shown represents it.looks at_b s m shown) allowed within);
      }

  module _ {e : StoreFault} {r : Result X StoreFault} (handed : IsErr r × IsErrAnd r (λ f. f ≡ e)) where
    -- the fault of its first step
    pub fault_first : {Y : Type 0} {told : Stays → Model → Y → Type 0}
        → Answers g represents before after (Err e) may kept told → Answers g represents before after r may kept answer
    fault_first failed = calls.tells_not (same_fault handed) failed.aborts failed.faults

    -- of a later one
    pub fault_later : {Y : Type 0} {mid : Held S} {told : Stays → Model → Y → Type 0}
        → LeavesUnchanged (state g before) (state g mid) → Answers g represents mid after (Err e) may kept told
        → Answers g represents before after r may kept answer
    fault_later looked failed =
        calls.tells_cut (same_fault handed) looked failed.aborts
        (λ s m shown allowed within at_b clean free. failed.faults s m (still_shown represents looked at_b s m shown) allowed within clean free)

-- ---- what is told of a part of the tables, as told of all

-- the rows of housings, beside nothing
abbrev pub HoldsHousings : Database → ⊤ → List HousingRow → Type 0
HoldsHousings db beside xs = HasNumbered housing_row (db.trees schema.housing.tree) xs

-- this is told of the rows that represent the housings of the state
pub record ToldOfHousings (s : Office) (told : List HousingRow → Type 0) : Type 0 where
  pub db : Trees
  pub shown : RepresentsHousings db s.catalogue.forest s.catalogue.containers
  pub is : told shown.housings

module _ {S X : Type 0} {g : store.Ghosts S} {before after : Held S} {r : Result X StoreFault} {places : Trees → Forest ℕ → Type 0} {version : Version} where
  pub of_desk : {told : ⊤ → Desk → X → Type 0}
      → Answers g RepresentsDeskAlone before after r (λ _. ⊤) IsLegible told
      → Answers g (RepresentsWhole places version) before after r (λ _. ⊤) CanBeJudged (λ _ s x. told tt (tables version s).desk x)
  of_desk it = record {
    answers = λ clean beside s all. it.answers clean tt (tables version s).desk all.desk;
    looks = it.looks;
    aborts = it.aborts;
    faults = λ beside s all may judged. it.faults tt (tables version s).desk all.desk tt (judged.desk version);
  }

  pub of_catalogue : {low : Catalogue → Type 0} {told : OfficeRow → Catalogue → X → Type 0}
      → Answers g (Represents places version) before after r low IsKept told
      → Answers g (RepresentsWhole places version) before after r (λ s. low s.catalogue) CanBeJudged (λ _ s x. told (office_of s) s.catalogue x)
  of_catalogue it = record {
    answers = λ clean beside s all. it.answers clean (office_of s) s.catalogue all.catalogue;
    looks = it.looks;
    aborts = it.aborts;
    faults = λ beside s all may judged. it.faults (office_of s) s.catalogue all.catalogue may judged.catalogue;
  }

  pub of_places : {told : ⊤ → Forest ℕ → X → Type 0}
      → Answers g (RepresentsAlone places) before after r (λ _. ⊤) IsBounded told
      → Answers g (RepresentsWhole places version) before after r (λ _. ⊤) CanBeJudged (λ _ s x. told tt (each (λ (u : Unit). u.id) s.catalogue.forest) x)
  of_places it = record {
    answers = λ clean beside s all. it.answers clean tt (each (λ (u : Unit). u.id) s.catalogue.forest) all.catalogue.shown;
    looks = it.looks;
    aborts = it.aborts;
    faults = λ beside s all may judged. it.faults tt (each (λ (u : Unit). u.id) s.catalogue.forest) all.catalogue.shown tt judged.catalogue.places;
  }

  pub of_housings : {told : List HousingRow → X → Type 0}
      → LooksUp g (HoldsNumbered schema.housing housing_row) before after r (λ _. ⊤) (λ _. ⊤) told
      → Answers g (RepresentsWhole places version) before after r (λ _. ⊤) CanBeJudged (λ _ s x. ToldOfHousings s (λ xs. told xs x))
  of_housings {told = told} it = record {
    answers = λ clean beside s all.
        let housings = all.catalogue.catalogue.housings in
        IfOk-weaker r (told housings.housings) (λ x. ToldOfHousings s (λ xs. told xs x))
        (λ x is. record { db = (state g before).now.trees; shown = housings; is = is })
        (it.answers clean housings.housings housings.rows tt);
    looks = it.reads.looks;
    aborts = it.reads.aborts;
    faults = λ beside s all may judged. let housings = all.catalogue.catalogue.housings in it.faults housings.housings housings.rows tt;
  }

-- ---- a look-up of housings

module _ {S X : Type 0} {g : store.Ghosts S} {before after : Held S} where
  pub learned_look : {x : X} {answer : List HousingRow → X → Type 0}
      → LooksUp g (HoldsNumbered schema.housing housing_row) before after (Ok x) (λ _. ⊤) (λ _. ⊤) answer
      → Learned HoldsHousings (state g before) (state g after) (λ _ xs. answer xs x)
  learned_look it = record { looks = it.reads.looks; told = λ clean beside xs stored. it.answers clean xs stored tt }

  pub look_ends_so : {x : X} {answer : List HousingRow → X → Type 0} {fact : ⊤ → List HousingRow → Type 0}
      → Learned HoldsHousings (state g before) (state g after) fact
      → ((xs : List HousingRow) → fact tt xs → answer xs x)
      → LooksUp g (HoldsNumbered schema.housing housing_row) before after (Ok x) (λ _. ⊤) (λ _. ⊤) answer
  look_ends_so it means = looks_well it.looks (λ clean xs stored _. means xs (it.told clean tt xs stored))

  -- the fault of a later step
  pub look_fault : {e : StoreFault} {r : Result X StoreFault} {mid : Held S} {Y : Type 0} {told : List HousingRow → Y → Type 0}
      {answer : List HousingRow → X → Type 0}
      → IsErr r × IsErrAnd r (λ f. f ≡ e) → LeavesUnchanged (state g before) (state g mid)
      → LooksUp g (HoldsNumbered schema.housing housing_row) mid after (Err e) (λ _. ⊤) (λ _. ⊤) told
      → LooksUp g (HoldsNumbered schema.housing housing_row) before after r (λ _. ⊤) (λ _. ⊤) answer
  look_fault handed looked failed =
      looks_passed_later handed looked failed
      (λ at_b xs stored _. failed.faults xs (still_shown HoldsHousings looked at_b tt xs stored) tt)
