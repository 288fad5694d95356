use Rattle.std.proofs.Common.{sym, subst, ◌∙◌}
use Rattle.office.proofs.Common.{HasAdoptCause, HasCleanDisk, early, state}
use Rattle.office.proofs.Adoptions.{adopted, adopted_sound, adopted_shown, found_open, inspected_on, office_found, open_before, store_cause}
use Rattle.office.proofs.KeptMarks.{kept_as_before}
use Rattle.office.proofs.offices.Office.adopt.Goals as goal

pub invariant_of-result : goal.invariant_of-result
invariant_of-result g c =
    let ahead = c.read_ahead-kept.ensures in
    let b = state g.S.Store c.read_ahead-kept.result.1 in
    let d = state g.S.Store c.confirm_open.new.conn in
    let found = c.in-Ok-confirm_open.ensures in
    let clean_b : HasCleanDisk d → HasCleanDisk b = early found.crash in
    rw c.of.ensures (
      office_found g.P.Versioned.version b d ahead.office clean_b found.still_open (found.crash.limit ∙ ahead.office.unlimited),
      kept_as_before g.P.Places.represents g.P.Versioned.version c.read_ahead-kept.result.0 b d clean_b
          (λ clean. open_before b d (ahead.same (clean_b clean)).ended (found.still_open clean)) (λ clean. ahead.marks),
      λ no. absurd cc,
    )

pub returns-in-Ok-confirm_open-clause-opens : goal.returns-in-Ok-confirm_open-clause-opens
returns-in-Ok-confirm_open-clause-opens g c =
    let ahead = c.read_ahead-kept.ensures in
    let looked = found_open (inspected_on c.in-Ok.ensures.looks ahead.same ahead.crash) c.in-Ok-confirm_open.ensures in
    rw c.of.ensures (adopted looked (sym c.fault_for.ensures ∙ c.in_default.is))

pub returns-in-Ok-confirm_open-clause-sound : goal.returns-in-Ok-confirm_open-clause-sound
returns-in-Ok-confirm_open-clause-sound g c =
    let ahead = c.read_ahead-kept.ensures in
    let looked = found_open (inspected_on c.in-Ok.ensures.looks ahead.same ahead.crash) c.in-Ok-confirm_open.ensures in
    rw c.of.ensures (adopted_sound looked (sym c.fault_for.ensures ∙ c.in_default.is) g.P.Places.represents g.met.P.CheckedPlaces.shows_said c.schema.ensures.live)

pub returns-in-Ok-confirm_open-clause-represents : goal.returns-in-Ok-confirm_open-clause-represents
returns-in-Ok-confirm_open-clause-represents g c =
    let ahead = c.read_ahead-kept.ensures in
    let looked = found_open (inspected_on c.in-Ok.ensures.looks ahead.same ahead.crash) c.in-Ok-confirm_open.ensures in
    rw c.of.ensures (adopted_shown looked (sym c.fault_for.ensures ∙ c.in_default.is) g.P.Places.represents g.met.P.CheckedPlaces.shows_said c.schema.ensures.live)

pub returns-in-Err-clause-cause : goal.returns-in-Err-clause-cause
returns-in-Err-clause-cause g c clean =
    let v = g.P.Versioned.version in
    let old = state g.S.Store c.args.conn in
    let new = state g.S.Store c.look_over.new.conn in
    let it = c.in-Err.ensures.looks in
    subst (HasAdoptCause v old new) (sym c.from.ensures) (store_cause v old new c.in-Err.fault (it.disk clean) (it.faults clean))
