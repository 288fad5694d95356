-- A command's transaction, from its begin to its end.
use Rattle.std.proofs.Common.{rules, ◌≡◌, ℕ, true, IsTrue, Option, Some, None, Result, Ok, Err, OnOk, refl, sym, ap}
use Rattle.std.proofs.Common.{subst, ◌∙◌}
use Rattle.std.proofs.lemmas.Result.{IfOk-weaker}
use Rattle.std.specs.Prelude.{IsOk}
use Rattle.sqlite.specs.State.{State}
use Rattle.sqlite_trees.specs.declared.store.Store as trees
use Rattle.office_tables.proofs.Touching.{nothing_touched}
use Rattle.office_tables.specs.Transactions.{Committed, IsEnded}
use Rattle.office_tables.specs.declared.fault.StoreFault.TheVariants as fault
use Rattle.office_core.specs.Json.{reply_text}
use Rattle.office_core.specs.Rules as machine
use Rattle.office_core.specs.State as office
use Rattle.office_core.specs.declared.machine.Reply.{Reply}
use Rattle.refinement.specs.CommandSteps.{CarriesOutStep}
use Rattle.office.specs.CallTransactions.{Applies, Replies}
use Rattle.office.specs.Transactions.{Settles}
use Rattle.office.proofs.Common.{Command, Database, Forest, Goes, GoesOn, HasCleanDisk, Held, IfErr, IfOk, IsAsBefore}
use Rattle.office.proofs.Common.{IsAtRest, IsErr, IsIn, IsOffice, IsSoundOffice, MayFind, OnlyTouches, Refusal}
use Rattle.office.proofs.Common.{RepresentsState, Shows, StoreFault, Survives, TakesStep, Trees, Version, after, decide}
use Rattle.office.proofs.Common.{early, reading_room_trees, refusal, refused, result_of, spares_catalogue, state, step}
use Rattle.office.proofs.Common.{survives_then, went}
use Rattle.office.proofs.States.{found_committed, shown_begun}

-- a step that is refused changes nothing
pub refused_same : (s : office.State) (asked : Command) → IsErr (step s asked).1 → (step s asked).0 ≡ s
refused_same s asked h = at (refusal s asked) h
  where
    at : (why : Option Refusal) → IsErr (decide why s (after s asked) (result_of s asked)).1
        → (decide why s (after s asked) (result_of s asked)).0 ≡ s
    at (Some why) h = refl
    at None h = absurd (cc)

-- a command that is refused is its step, where nothing is done for it
refused_at_once : (places : Trees → Forest ℕ → Type 0) (version : Version) (a : State) (s : office.State) (asked : Command) (why : Refusal)
    → refusal s asked ≡ Some why → IsIn places version s a
    → TakesStep places version s asked (Err why) a
refused_at_once places version a s asked why is here =
    let one : step s asked ≡ (s, Err why) = refused s asked why is in
    (sym (ap (λ (p : office.State × machine.Reply). p.1) one), λ opened. subst (RepresentsState places version a.now) (sym (ap (λ (p : office.State × machine.Reply). p.0) one)) (here opened))

-- and the whole call then is that step
module _ {S : Type 0} (g : trees.Ghosts S) (before : Held S) {places : Trees → Forest ℕ → Type 0} {version : Version} {asked : Command} {why : Refusal} {r : Result Reply StoreFault} where
  pub refused_whole : IsOffice version (state g before) → ((s : office.State) → refusal s asked ≡ Some why)
      → IfOk r (λ reply. reply.done ≡ Err why) → IfOk r (λ reply. reply.json ≡ reply_text (Err why))
      → IfErr r (λ e. e ≡ fault.Memory)
      → Applies places version g before before asked r
  refused_whole rest is same bytes full =
      let a = state g before in
      record {
        office = rest;
        steps = λ clean s sound here.
            IfOk-weaker r _ (λ (reply : Reply). TakesStep places version s asked reply.done a)
            (λ reply same. subst (λ (done : machine.Reply). TakesStep places version s asked done a) (sym same) (refused_at_once places version a s asked why (is s) here)) same;
        was_open = search rules;
        kept = search rules;
        only = λ spares clean. IfOk-weaker r _ (λ (reply : Reply). IsOk reply.done → OnlyTouches reading_room_trees a.now a.now) (λ reply same ok. nothing_touched reading_room_trees a.now) same;
        bytes = search rules;
        refused = search rules;
        busy = search rules;
        faults = search rules;
        crash = search rules;
      }

-- what was done was taken back: all is as it was before the transaction
taken_back : (version : Version) (a b m z : State) → IsAtRest version a → Shows a b a.now a.committed true → GoesOn b m
    → IsEnded m z → IsAsBefore a z
taken_back version a b m z rest begun on ended =
    let back = ended.back (on.mode ∙ begun.mode) in
    record {
      was_open = λ h. begun.was_open;
      now = λ h. back.now h ∙ on.committed ∙ begun.committed_is ∙ sym (rest.settled begun.was_open);
      committed = λ h. back.committed h ∙ on.committed ∙ begun.committed_is;
      ended = back.ended;
    }

-- a step that was committed, or taken back where it is a refusal
module _ (places : Trees → Forest ℕ → Type 0) (version : Version) (a b m z : State) (s : office.State) (asked : Command) where
  stepped : IsAtRest version a → Shows a b a.now a.committed true → IsIn places version s a → GoesOn b m
      → (reply : machine.Reply) → CarriesOutStep places version s asked reply m.now
      → (IsOk reply → Committed m z) → (IsErr reply → IsEnded m z) → TakesStep places version s asked reply z
  stepped rest begun is on (Ok done) does committed ended =
      (does.told, λ h. subst (λ (db : Database). RepresentsState places version db (step s asked).0) (sym (committed refl).now) (does.represents refl))
  stepped rest begun is on (Err why) does committed ended =
      let back = taken_back version a b m z rest begun on (ended refl) in
      let same = refused_same s asked (subst IsErr does.told refl) in
      (does.told, λ h. subst (λ (db : Database). RepresentsState places version db (step s asked).0) (sym (back.now h)) (subst (RepresentsState places version a.now) (sym same) (is begun.was_open)))

-- ---- the whole of it: the transaction begins, the command is carried out and replied to, and the transaction ends

module _ {S : Type 0} (g : trees.Ghosts S) (before begun done after : Held S) where
  abbrev a : State
  a = state g before

  abbrev b : State
  b = state g begun

  abbrev m : State
  m = state g done

  abbrev z : State
  z = state g after

  module _ {places : Trees → Forest ℕ → Type 0} {version : Version} {asked : Command} {outcome r : Result Reply StoreFault} (rest : IsOffice version a) (first : Survives a b (λ _. ⊥)) (begins : HasCleanDisk b → Shows a b a.now a.committed true)
      (does : Replies places version g begun done asked outcome) (last : Settles g done after outcome r) where
    second : Survives b m (λ _. ⊥)
    second = went outcome b m does.goes does.aborts

    clean_m : HasCleanDisk z → HasCleanDisk m
    clean_m clean = early last.crash clean

    clean_b : HasCleanDisk z → HasCleanDisk b
    clean_b clean = early second (clean_m clean)

    was_open : HasCleanDisk z → IsTrue z.is_open → IsTrue a.is_open
    was_open clean opened = (begins (clean_b clean)).was_open

    -- what a reply tells of the step
    carried : (x : Reply) → outcome ≡ Ok x → HasCleanDisk z → (s : office.State) → IsSoundOffice s
        → IsIn places version s a → CarriesOutStep places version s asked x.done m.now
    carried x same clean s sound is =
        subst (λ o. IfOk o (λ reply. CarriesOutStep places version s asked reply.done m.now)) same (does.steps (clean_m clean) s sound (shown_begun places version s a b (begins (clean_b clean)) is))

    went_on : (x : Reply) → outcome ≡ Ok x → HasCleanDisk z → GoesOn b m
    went_on x same clean = (subst (λ o. OnOk o (Goes b m)) same does.goes).on.within (clean_m clean)

    takes : HasCleanDisk z → (s : office.State) → IsSoundOffice s → IsIn places version s a
        → IfOk r (λ reply. TakesStep places version s asked reply.done z)
    takes clean s sound is = at r last.same (last.committed clean) (last.refused clean)
      where
        at : (r : Result Reply StoreFault) → IfOk r (λ x. outcome ≡ Ok x) → IfOk r (λ x. IsOk x.done → Committed m z)
            → IfOk r (λ x. IsErr x.done → IsEnded m z) → IfOk r (λ x. TakesStep places version s asked x.done z)
        at (Ok x) same committed ended =
            stepped places version a b m z s asked (rest.rests (early first (clean_b clean))) (begins (clean_b clean)) is (went_on x same clean) x.done (carried x same clean s sound is) committed ended
        at (Err e) same committed ended = tt

    finds : Survives a z (MayFind places version asked a)
    finds =
        let so_far = survives_then a b m (λ _. ⊥) (λ _. ⊥) (λ _. ⊥) (λ _ db none. none) (λ _ db none. none) first second in
        survives_then a m z (λ _. ⊥) _ (MayFind places version asked a) (λ _ db none. absurd none)
        (λ clean db it s sound is. found_committed places version (step s asked).0 m.now ((carried it.0 it.1 clean s sound is).represents it.2) db it.3)
        so_far last.crash

    -- a command of the reading room touched its tables alone
    spared : spares_catalogue asked ≡ true → HasCleanDisk z
        → IfOk r (λ reply. IsOk reply.done → OnlyTouches reading_room_trees a.now z.now)
    spared spares clean = at r last.same (last.committed clean)
      where
        touched : (x : Reply) → outcome ≡ Ok x → OnlyTouches reading_room_trees b.now m.now
        touched x same = subst (λ o. OnOk o (OnlyTouches reading_room_trees b.now m.now)) same (does.only spares (clean_m clean))

        at : (r : Result Reply StoreFault) → IfOk r (λ x. outcome ≡ Ok x) → IfOk r (λ x. IsOk x.done → Committed m z)
            → IfOk r (λ reply. IsOk reply.done → OnlyTouches reading_room_trees a.now z.now)
        at (Ok x) same committed = λ ok tree table other.
            ap (λ (db : Database). db.trees tree) (committed ok).now ∙ touched x same tree table other
            ∙ ap (λ (db : Database). db.trees tree) (begins (clean_b clean)).now_is
        at (Err e) same committed = tt

    pub applies : Applies places version g before after asked r
    applies = record {
      office = search rules;
      steps = takes;
      was_open = was_open;
      kept = search rules;
      only = spared;
      bytes = search rules;
      refused = search rules;
      busy = search rules;
      faults = search rules;
      crash = finds;
    }
