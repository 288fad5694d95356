-- The marks in memory after a command that changed the catalogue.
use Rattle.std.proofs.Common.{◌≡◌, [], ◌∷◌, ℕ, ℤ, Bool, true, false, List, Option, Some, None, Result, Ok, Err}
use Rattle.std.proofs.Common.{refl, sym, ap, subst, ◌∙◌}
use Rattle.std.specs.Prelude.{IsOk, OnErr}
use Rattle.sqlite.specs.State.{State}
use Rattle.sqlite_trees.specs.declared.store.Store as trees
use Rattle.catalogue_core.specs.CatalogueMerge.{Catalogue}
use Rattle.catalogue_core.specs.Statuses.{chosen, with_closure, with_status}
use Rattle.access.proofs.Gates.{told_if}
use Rattle.catalogue_commands.proofs.KnownMarks.{known_if}
use Rattle.office_tables.specs.Schema as tables
use Rattle.office_core.specs.Rules as machine
use Rattle.office_core.specs.Soundness.{NamesDays}
use Rattle.office_core.specs.State as office
use Rattle.office_core.specs.declared.command.Command.TheVariants as command
use Rattle.office_core.specs.declared.machine.Reply.{Reply}
use Rattle.office.specs.CallTransactions.{Applies}
use Rattle.office.specs.KeptMarks.{Follows}
use Rattle.office.proofs.Common.{AreKept, AreSound, AreSoundIf, Command, Database, FollowsChange, FollowsReply, Forest}
use Rattle.office.proofs.Common.{HasCleanDisk, Held, IfOk, IsAsBefore, IsErr, IsIn, IsOffice, IsSoundOffice}
use Rattle.office.proofs.Common.{KnowsIf, Mark, NamesTexts, Refusal, Represents, RepresentsState, StoreFault, TakesStep}
use Rattle.office.proofs.Common.{TellOf, TellOne, Trees, Version, after, always_sound_office, decide, early}
use Rattle.office.proofs.Common.{is_shown, named, of_named, office_of, refusal, result_of, spares_catalogue, state}
use Rattle.office.proofs.Common.{step}
use Rattle.office.proofs.KeptMarks.{kept_as_before, kept_spared}
use Rattle.office.proofs.NamedNumbers.{step_named}
use Rattle.office.proofs.OneCatalogue.{marks_of_both}

-- ---- the units after a status or a closure

-- a command that is accepted has its effect
accepted_after : (s : office.State) (asked : Command) → IsOk (step s asked).1 → (step s asked).0 ≡ after s asked
accepted_after s asked ok = at (refusal s asked) ok
  where
    at : (why : Option Refusal) → IsOk (decide why s (after s asked) (result_of s asked)).1
        → (decide why s (after s asked) (result_of s asked)).0 ≡ after s asked
    at None ok = refl
    at (Some why) ok = absurd (cc)

-- also if its numbers were named
named_after : (s : office.State) → IsSoundOffice s → (asked : Command) → IsOk (step s asked).1
    → (step s asked).0 ≡ after s (of_named asked)
named_after s sound asked ok =
    let same = step_named s sound asked in
    sym (ap (λ (p : office.State × machine.Reply). p.0) same)
    ∙ accepted_after s (of_named asked) (subst (λ (p : office.State × machine.Reply). IsOk p.1) (sym same) ok)

pub status_followed : (old new : Option (List Mark)) (u : ℕ) (draft whole : Bool)
    → ((c : Catalogue) → KnowsIf c old → KnowsIf (with_status (chosen whole (named u) c) draft c) new)
    → FollowsChange true (command.SetStatus u draft whole) old new
status_followed old new u draft whole told s sound ok it =
    subst (λ (t : office.State). TellOf t.catalogue new) (sym (named_after s sound (command.SetStatus u draft whole) ok))
    (told_if (with_status (chosen whole (named u) s.catalogue) draft s.catalogue) new (told s.catalogue (known_if s sound old it)))

pub closure_followed : (old new : Option (List Mark)) (u : ℕ) (until : Option ℤ)
    → ((c : Catalogue) → KnowsIf c old → KnowsIf (with_closure (named u) until c) new)
    → FollowsChange true (command.SetClosure u until) old new
closure_followed old new u until told s sound ok it =
    subst (λ (t : office.State). TellOf t.catalogue new) (sym (named_after s sound (command.SetClosure u until) ok))
    (told_if (with_closure (named u) until s.catalogue) new (told s.catalogue (known_if s sound old it)))

-- ---- the tables of a sound office

pub noted : {S : Type 0} (g : trees.Ghosts S) (places : Trees → Forest ℕ → Type 0) (version : Version) → TellOne places
    → (inside whole : Held S) → inside ≡ whole
    → (HasCleanDisk (state g whole) → (s : office.State) × is_shown g places version whole s)
    → AreSound places version (state g inside)
noted g places version one inside whole same shown = record {
  one = one;
  shows = subst (λ h. HasCleanDisk (state g h) → (s : office.State) × is_shown g places version h s) (sym same) shown;
}

module _ {S : Type 0} (g : trees.Ghosts S) (before done : Held S) where
  abbrev a : State
  a = state g before

  abbrev z : State
  z = state g done

  module _ {places : Trees → Forest ℕ → Type 0} {version : Version} {asked : Command} {r : Result Reply StoreFault} (days : NamesDays asked) (texts : NamesTexts asked) (does : Applies places version g before done asked r) (sound : AreSound places version a) where
    clean_a : HasCleanDisk z → HasCleanDisk a
    clean_a clean = early does.crash clean

    -- the state after the command, or the one before, if nothing was done
    shows : HasCleanDisk z → (o : Result Reply StoreFault) → r ≡ o → (s : office.State) × (IsSoundOffice s × IsIn places version s z)
    shows clean (Ok reply) e =
        let old = sound.shows (clean_a clean) in
        let it : TakesStep places version old.0 asked reply.done z =
        subst (λ o. IfOk o (λ (x : Reply). TakesStep places version old.0 asked x.done z)) e (does.steps clean old.0 old.1.0 old.1.1) in
        ((step old.0 asked).0, (always_sound_office old.0 (asked ∷ []) (days, tt) (texts, tt) old.1.0, it.1))
    shows clean (Err fault) e =
        let old = sound.shows (clean_a clean) in
        let same : IsAsBefore a z = subst (λ o. OnErr o (IsAsBefore a z)) e (does.busy clean) in
        (old.0, (old.1.0, λ opened. subst (λ (db : Database). RepresentsState places version db old.0) (sym (same.now opened)) (old.1.1 (same.was_open opened))))

    pub still_sound : AreSound places version z
    still_sound = record { one = sound.one; shows = λ clean. shows clean r refl }

    -- the marks are those of the tables after the command
    pub followed : (reply : Reply) → r ≡ Ok reply → IsOk reply.done → (old new : Option (List Mark))
        → (HasCleanDisk z → AreKept places version a old) → FollowsChange true asked old new → AreKept places version z new
    followed reply e ok old new kept follows clean opened row c shown =
        let was = sound.shows (clean_a clean) in
        let s = was.0 in
        let it : TakesStep places version s asked reply.done z =
        subst (λ o. IfOk o (λ (x : Reply). TakesStep places version s asked x.done z)) e (does.steps clean s was.1.0 was.1.1) in
        let open_a = does.was_open clean opened in
        let told : TellOf s.catalogue old = kept clean (clean_a clean) open_a (office_of s) s.catalogue (was.1.1 open_a).catalogue in
        let now : TellOf (step s asked).0.catalogue new = follows s was.1.0 (subst IsOk it.0 ok) told in
        each new now (it.1 opened).catalogue
      where
        each : (new : Option (List Mark)) → TellOf (step (sound.shows (clean_a clean)).0 asked).0.catalogue new
            → Represents places version z.now (office_of (step (sound.shows (clean_a clean)).0 asked).0) (step (sound.shows (clean_a clean)).0 asked).0.catalogue
            → TellOf c new
        each None now there = tt
        each (Some marks) now there =
            marks_of_both places sound.one version z.now (office_of (step (sound.shows (clean_a clean)).0 asked).0) row (step (sound.shows (clean_a clean)).0 asked).0.catalogue c there shown marks now

-- ---- what is kept stays right

pub kept_on : {S : Type 0} (g : trees.Ghosts S) (before done : Held S) {places : Trees → Forest ℕ → Type 0} {version : Version}
    → ((old new : Trees) (f : Forest ℕ) → new tables.link.tree ≡ old tables.link.tree → places old f → places new f)
    → (sound : Bool) (asked : Command) (r : Result Reply StoreFault) (old new : Option (List Mark))
    → NamesDays asked → NamesTexts asked → IsOffice version (state g before) → Applies places version g before done asked r
    → AreSoundIf sound places version (state g before)
    → (HasCleanDisk (state g done) → AreKept places version (state g before) old) → Follows sound asked r old new
    → AreKept places version (state g done) new
kept_on g before done {places} {version} same sound asked (Err e) old new days texts rest does noted it follows =
    subst (AreKept places version (state g done)) (sym follows)
    (kept_as_before places version old (state g before) (state g done) (λ clean. early does.crash clean) does.busy it)
kept_on g before done {places} {version} same sound asked (Ok reply) old new days texts rest does noted it follows =
    at reply.done refl (spares_catalogue asked) refl sound noted follows
  where
    at : (d : machine.Reply) → reply.done ≡ d → (b : Bool) → spares_catalogue asked ≡ b → (sound : Bool) → AreSoundIf sound places version (state g before)
        → FollowsReply sound b asked d old new → AreKept places version (state g done) new
    at (Err why) e b s sound noted follows =
        subst (AreKept places version (state g done)) (sym follows)
        (kept_as_before places version old (state g before) (state g done) (λ clean. early does.crash clean) (λ clean. does.refused clean (subst IsErr (sym e) refl)) it)
    at (Ok d) e true s sound noted follows =
        subst (AreKept places version (state g done)) (sym follows)
        (kept_spared places version old same (state g before) (state g done) (λ clean. early does.crash clean) does.was_open rest.rests does.office.rests
        (λ clean. does.only s clean (subst IsOk (sym e) refl)) it)
    at (Ok d) e false s false noted follows =
        subst (AreKept places version (state g done)) (sym follows) (λ clean opened row c shown. tt)
    at (Ok d) e false s true noted follows =
        followed g before done days texts does (noted refl) reply refl (subst IsOk (sym e) refl) old new it follows
