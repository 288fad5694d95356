use Rattle.std.proofs.Common.{◌+◌, ap, arith, length, subst}
use Rattle.std.specs.Prelude.{◌≤◌}
use Rattle.csv_import.proofs.Common.{IfSome, catalogue_passed, does_pass, most_unit_numbers, office_of, office_settings}
use Rattle.csv_import.proofs.Common.{state}
use Rattle.csv_import.proofs.Carried.{imports, ready_for, refused_full, refused_row, settings_shown, shown_legible}
use Rattle.csv_import.proofs.Carried.{when_known, when_placed, when_roomy}
use Rattle.csv_import.proofs.Frames.{entering_of}
use Rattle.csv_import.proofs.catalogue_import.import_read.Goals as goal

pub returns-in_err-catalogued : goal.returns-in_err-catalogued
returns-in_err-catalogued g c bytes read =
    let told = c.in_err-catalogued.ensures.answers in
    does_pass _ c.from_residual.ensures told.aborts
    (λ s sound so it. told.faults (office_of s) s.catalogue (entering_of g.P.Versioned.version (state g.S.Store c.args.tables.now).now (office_of s) s.catalogue it.catalogue.catalogue) tt sound.sound.units)

pub returns-in_err-new : goal.returns-in_err-new
returns-in_err-new g c bytes read =
    let told = c.in_err-new.ensures.answers in
    when_known read c.as_slice-rows.ensures c.in_ok-catalogued.ensures.answers.looks c.in_ok-catalogued.ensures.answers.answers
    (catalogue_passed _ c.from_residual-in_err-new.ensures told.aborts told.faults)

pub returns-in-Faulty : goal.returns-in-Faulty
returns-in-Faulty g c bytes read =
    when_known read c.as_slice-rows.ensures c.in_ok-catalogued.ensures.answers.looks c.in_ok-catalogued.ensures.answers.answers
    (refused_row read c.as_slice-rows.ensures c.in_ok-new.ensures.answers.looks c.in_ok-new.ensures.answers.answers c.in-Faulty.is c.number-cause.ensures)

pub returns-in_err-next : goal.returns-in_err-next
returns-in_err-next g c bytes read =
    let told = c.in_err-next.ensures.answers in
    when_known read c.as_slice-rows.ensures c.in_ok-catalogued.ensures.answers.looks c.in_ok-catalogued.ensures.answers.answers
    (when_placed read c.as_slice-rows.ensures c.in_ok-new.ensures.answers.looks c.in_ok-new.ensures.answers.answers c.in-Fits.is
    (does_pass _ c.from_residual-in_err-next.ensures told.aborts (λ s sound so it. told.faults s.catalogue (office_of s) it.catalogue tt (settings_shown s (office_settings s sound)))))

pub returns-in_default : goal.returns-in_default
returns-in_default g c bytes read =
    when_known read c.as_slice-rows.ensures c.in_ok-catalogued.ensures.answers.looks c.in_ok-catalogued.ensures.answers.answers
    (when_placed read c.as_slice-rows.ensures c.in_ok-new.ensures.answers.looks c.in_ok-new.ensures.answers.answers c.in-Fits.is
    (refused_full read c.as_slice-rows.ensures c.in_ok-next.ensures.answers.looks c.in_ok-next.ensures.answers.answers c.in_default.is))

pub invariant_of-import : goal.invariant_of-import
invariant_of-import g c =
    let same = ap length c.as_slice-rows.ensures in
    let low = subst (λ o. IfSome o (λ n. n ≤ most_unit_numbers + 1)) c.in-Some.is c.in_ok-next.ensures.low in
    record { few = omega (arith, c.requires.few, same, low) }

pub returns-in_err-outcome : goal.returns-in_err-outcome
returns-in_err-outcome g c bytes read =
    let made = c.in_err-outcome.ensures.updates in
    when_known read c.as_slice-rows.ensures c.in_ok-catalogued.ensures.answers.looks c.in_ok-catalogued.ensures.answers.answers
    (when_placed read c.as_slice-rows.ensures c.in_ok-new.ensures.answers.looks c.in_ok-new.ensures.answers.answers c.in-Fits.is
    (when_roomy read c.as_slice-rows.ensures c.in_ok-next.ensures.answers.looks c.in_ok-next.ensures.answers.answers c.in-Some.is
    (does_pass _ c.from_residual-in_err-outcome.ensures made.aborts (λ s sound so it.
    made.faults (office_of s) s.catalogue (shown_legible g.P.Places.represents g.P.Versioned.version _ s sound it) (ready_for bytes read c.as_slice-rows.ensures s sound so) tt))))

pub returns : goal.returns
returns g c bytes read =
    when_known read c.as_slice-rows.ensures c.in_ok-catalogued.ensures.answers.looks c.in_ok-catalogued.ensures.answers.answers
    (when_placed read c.as_slice-rows.ensures c.in_ok-new.ensures.answers.looks c.in_ok-new.ensures.answers.answers c.in-Fits.is
    (when_roomy read c.as_slice-rows.ensures c.in_ok-next.ensures.answers.looks c.in_ok-next.ensures.answers.answers c.in-Some.is
    (imports read c.as_slice-rows.ensures c.in_ok-outcome.ensures.updates c.in_ok-outcome.ensures.finds (c.judge.ensures.answers c.args.source.now))))
