-- Tables against which there is none of the causes 1 to 9: what is told of the state that they show is told of their rows.
use Rattle.std.proofs.Common.{◌≡◌, ℕ, Bool, Some, Result, Ok, Err, IfErr, sym, ap}
use Rattle.std.proofs.lemmas.Result.{IfOk-weaker}
use Rattle.sqlite.specs.State.{State}
use Rattle.sqlite_trees.specs.declared.store.Store as store
use Rattle.office_tables.specs.Calls.{Answers}
use Rattle.refinement.proofs.Tellings.{looked_crash}
use Rattle.refinement.specs.AccessConditions.{CanBeJudged, RepresentsWhole}
use Rattle.access.specs.DayRules.{breaks_day_rules}
use Rattle.adoption.proofs.Common.{AreGoodTables, BlamesDisk, Forest, GoodTablesRepresentTheirState, HasCleanDisk, Held}
use Rattle.adoption.proofs.Common.{IfOk, Judges, OwnRow, StoreFault, Trees, Version, day_is_broken, described_state}
use Rattle.adoption.proofs.Common.{own_row_of, rows_in, state, ⊤}
use Rattle.adoption.proofs.CauseLemmas.{own_row_is}

for_each : (r : Result Bool StoreFault) (A B : Type 0) (P : Bool → Type 0) → (A → B → IfOk r P)
    → IfOk r (λ broken. A → B → P broken)
for_each (Ok broken) A B P is = is
for_each (Err e) A B P is = tt

module _ (places : Trees → Forest ℕ → Type 0) (v : Version) {S : Type 0} (g : store.Ghosts S) (before after : Held S) (r : Result Bool StoreFault) (own : OwnRow) where
  abbrev old : State
  old = state g before

  abbrev new : State
  new = state g after

  -- what is told where the tables show a state
  abbrev pub TellsTheDay : Type 0
  TellsTheDay = Answers g (RepresentsWhole places v) before after r (λ _. ⊤) CanBeJudged (λ _ s broken. CanBeJudged s → own.today ≡ s.day → own.limits.hands ≡ s.settings.hands → broken ≡ breaks_day_rules s)

  module _ (law : GoodTablesRepresentTheirState places v old.now) (told : TellsTheDay) where
    day_told : HasCleanDisk new → own_row_of v old.now.trees ≡ Some own → AreGoodTables v old.now
        → IfOk r (λ broken. broken ≡ day_is_broken (rows_in v old.now.trees))
    day_told clean mine good =
        let it = law good in
        let is = own_row_is v old.now.trees own (sym mine) in
        let s = described_state v old.now in
        IfOk-weaker r (λ broken. CanBeJudged s → own.today ≡ s.day → own.limits.hands ≡ s.settings.hands → broken ≡ breaks_day_rules s) (λ broken. broken ≡ day_is_broken (rows_in v old.now.trees))
        (λ broken answers. answers it.judged (ap (λ (o : OwnRow). o.today) is) (ap (λ (o : OwnRow). o.limits.hands) is))
        (told.answers clean tt s it.represents)

    pub day_judged : (HasCleanDisk new → IfErr r (BlamesDisk old new))
        → Judges g before after r (λ s. AreGoodTables v s.now) (λ s broken. own_row_of v s.now.trees ≡ Some own → AreGoodTables v s.now → broken ≡ day_is_broken (rows_in v s.now.trees))
    day_judged blames = record {
      reads = record { crash = looked_crash r old new told.looks told.aborts; looks = told.looks; aborts = told.aborts };
      answers = λ clean. for_each r (own_row_of v old.now.trees ≡ Some own) (AreGoodTables v old.now) (λ broken. broken ≡ day_is_broken (rows_in v old.now.trees)) (day_told clean);
      disk = blames;
      faults = λ good clean free. let it = law good in told.faults tt (described_state v old.now) it.represents tt it.judged clean free;
    }
