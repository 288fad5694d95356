use Rattle.std.proofs.Common.{[], ◌∷◌, Result, subst, sym}
use Rattle.office_core.specs.declared.machine.Busy.{Busy}
use Rattle.office_core.specs.declared.machine.Reply.{Reply}
use Rattle.office.proofs.Common.{Call, HasCleanDisk, IfOk, IsAtRest, IsCall, IsIn, StoreFault, TakesStep}
use Rattle.office.proofs.Common.{always_sound_office, command_call, early, has_clean_disk, is_shown, is_still_open}
use Rattle.office.proofs.Common.{state}
use Rattle.office.proofs.Machines.{applied_call}
use Rattle.office.proofs.offices.Office.apply.Goals as goal
use Rattle.office.proofs.offices.Office.apply.Goals.{in-Ok, in-Err}

pub returns-clause-steps : goal.returns-clause-steps
returns-clause-steps g c clean s sound is =
    let there = subst (λ h. IsIn g.P.Places.represents g.P.Versioned.version s (state g.S.Store h)) (sym c.self.view_is) is in
    let takes : Reply → Type 0 = λ reply. TakesStep g.P.Places.represents g.P.Versioned.version s c.args.command.now reply.done (state g.S.Store c.apply_keeping.new.closed) in
    let it = c.apply_keeping.ensures.applies.steps clean s sound there in
    elim c.match-apply_keeping.branch [
      | in-Ok w ↦ subst (λ r. IfOk r takes) (sym w.result-is) (subst (λ r. IfOk r takes) w.in-Ok.is it)
      | in-Err w ↦ subst (λ r. IfOk r takes) (sym w.result-is) tt
    ]

pub returns-clause-sound : goal.returns-clause-sound
returns-clause-sound g c s sound =
    let named = c.names_days_and_texts.ensures in
    always_sound_office s (c.args.command.now ∷ []) (named.days, tt) (named.texts, tt) sound

pub returns-clause-call : goal.returns-clause-call
returns-clause-call g c =
    let asked = c.args.command.now in
    let named = c.names_days_and_texts.ensures in
    let does = c.apply_keeping.ensures.applies in
    let now = c.apply_keeping.new.closed in
    let call = applied_call g.S.Store g.P.Places.represents g.P.Versioned.version c.self.inside.closed now asked c.apply_keeping.result
    (early does.crash) does.was_open does.kept does.steps
    (λ s sound. always_sound_office s (asked ∷ []) (named.days, tt) (named.texts, tt) sound) does.busy does.bytes in
    let is : Call → Type 0 = λ call. IsCall (is_shown g.S.Store g.P.Places.represents g.P.Versioned.version) (has_clean_disk g.S.Store) (is_still_open g.S.Store) c.args.self.now now call in
    let it : is (command_call asked c.apply_keeping.result) =
    subst (λ old. IsCall (is_shown g.S.Store g.P.Places.represents g.P.Versioned.version) (has_clean_disk g.S.Store) (is_still_open g.S.Store) old now (command_call asked c.apply_keeping.result)) c.self.view_is call in
    elim c.match-apply_keeping.branch [
      | in-Ok w ↦ subst (λ (r : Result Reply Busy). is (command_call asked r)) (sym w.result-is)
          (subst (λ (r : Result Reply StoreFault). is (command_call asked r)) w.in-Ok.is it)
      | in-Err w ↦ subst (λ (r : Result Reply Busy). is (command_call asked r)) (sym w.result-is)
          (subst (λ (r : Result Reply StoreFault). is (command_call asked r)) w.in-Err.is it)
    ]

pub returns-clause-rested : goal.returns-clause-rested
returns-clause-rested g c = subst (λ h. HasCleanDisk (state g.S.Store h) → IsAtRest g.P.Versioned.version (state g.S.Store h)) c.self.view_is c.self.invariant.0.rests
