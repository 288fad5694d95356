use Rattle.std.proofs.Common.{rules, sym, ◌∙◌}
use Rattle.catalogue_store.proofs.Common.{counted_from}
use Rattle.catalogue_store.proofs.BoxReads.{found_is}
use Rattle.catalogue_store.proofs.ValueCauses.{box_found, legible_counted}
use Rattle.catalogue_store.proofs.unit_values.container_of.Goals as goal

pub returns-clause-key : goal.returns-clause-key
returns-clause-key g c clean boxes at b is =
    let got = c.in_ok-key.ensures.answers clean (counted_from 1 boxes) at tt in
    found_is boxes b c.in-Some.key c.args.number got.0 is got.1.0 (sym got.2 ∙ c.in-Some.is)

pub returns-in_err-key-clause-faults : goal.returns-in_err-key-clause-faults
returns-in_err-key-clause-faults g c boxes at legible b known is clean free =
    let why = c.in_err-key.ensures.faults (counted_from 1 boxes) at (legible_counted 1 boxes legible) clean free in
    search (rules, why)

pub returns-in_default-clause-faults : goal.returns-in_default-clause-faults
returns-in_default-clause-faults g c boxes at legible b known is clean free =
    let got = c.in_ok-key.ensures.answers clean (counted_from 1 boxes) at tt in
    absurd (box_found boxes b c.args.number got.0 known is got.1.0 (sym got.2 ∙ c.in_default.is))
