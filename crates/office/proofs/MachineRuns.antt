-- Calls on an office, one after another, are a run of the machine.
use Rattle.std.proofs.Common.{◌≡◌, List, [], ◌∷◌, map, Option, Some, None, refl, sym, ap, subst, ◌∙◌}
use Rattle.office_core.specs.MixedRuns.{next_state, told_of, state_after_all, all_told}
use Rattle.office_core.specs.State.{State}
use Rattle.office.specs.Runs.{Follows}
use Rattle.office.proofs.Common.{AreCalls, Call, IsAcceptance, IsMachinesRun, LeaveOpen, Returned, all_heard}
use Rattle.office.proofs.Common.{as_returned, heard, with_first, with_heard}

module _ {M : Type 0} (represents : M → State → Type 0) (is_intact is_open : M → Type 0) where
  intact_before : (calls : List Call) (old new : M) → AreCalls represents is_intact is_open old new calls
      → is_intact new → is_intact old
  intact_before [] old new same intact = subst (λ (m : M). is_intact m) (sym same) intact
  intact_before (call ∷ later) old new it intact = it.1.intact (intact_before later it.0 new it.2 intact)

  -- what leaves an office open that was so, leaves one open that was so, too
  still_open : (was now : Type 0) (calls : List Call) → (was → now) → LeaveOpen was calls → LeaveOpen now calls
  still_open was now [] still h = still h
  still_open was now (call ∷ later) still h = h

  left_open : (calls : List Call) (old new : M) → AreCalls represents is_intact is_open old new calls → is_intact new
      → LeaveOpen (is_open old) calls → is_open new
  left_open [] old new same intact h = subst (λ (m : M). is_open m) same h
  left_open (call ∷ later) old new it intact h =
      left_open later it.0 new it.2 intact (still_open (IsAcceptance call.told) (is_open it.0) later (it.1.kept (intact_before later it.0 new it.2 intact)) h)

  runs : (calls : List Call) (old new : M) → AreCalls represents is_intact is_open old new calls → is_intact new
      → (s : State) → represents old s
      → represents new (state_after_all s (heard calls)) × (all_heard calls ≡ map as_returned (all_told s (heard calls)))
  runs [] old new same intact s is = (subst (λ (m : M). represents m s) same is, refl)
  runs (call ∷ later) old new it intact s is =
      at call.told (it.1.follows (intact_before later it.0 new it.2 intact) s is) (λ t shown. runs later it.0 new it.2 intact t shown)
    where
      at : (told : Option Returned) → Follows represents is_intact is_open s call.asked told it.0
          → ((t : State) → represents it.0 t → represents new (state_after_all t (heard later)) × (all_heard later ≡ map as_returned (all_told t (heard later))))
          → represents new (state_after_all s (with_heard call.asked told (heard later))) × (with_first told (all_heard later) ≡ map as_returned (all_told s (with_heard call.asked told (heard later))))
      at (Some told) follows on =
          let rest = on (next_state s call.asked) follows.0 in
          (rest.0, ap (λ (t : Returned). t ∷ all_heard later) follows.1 ∙ ap (λ (ts : List Returned). as_returned (told_of s call.asked) ∷ ts) rest.1)
      at None follows on = on s follows

  pub machines_run : (calls : List Call) (old new : M) → AreCalls represents is_intact is_open old new calls
      → IsMachinesRun represents is_intact is_open old new calls
  machines_run calls old new are intact s is =
      let (shown, told) = runs calls old new are intact s is in
      (shown, told, left_open calls old new are intact)
