use Rattle.std.proofs.Common.{cond, filter, map, Some, None, refl, sym, ap, ◌∙◌}
use Rattle.office_tables.proofs.Reading.{first_shown}
use Rattle.catalogue_statements.proofs.FoundUnits.{none_found, one_told}
use Rattle.public_queries.proofs.Common.{IsPermutation-refl, Standing, has_id, legible_units, published_standing}
use Rattle.public_queries.proofs.Common.{standing_of, state, tells_passed, tells_well}
use Rattle.public_queries.proofs.own_rows.find_published.Goals as goal

pub returns-in_err-standing : goal.returns-in_err-standing
returns-in_err-standing g c =
    let read = c.in_err-standing.ensures in
    record {
      answers = tells_passed {after = c.find_standing.new.tables} _ c.from_residual.ensures read.reads.aborts (λ o k it may kept.
          let at = it.catalogue.units in
          read.faults at.units at.rows (legible_units (state g.S.Store c.args.tables.now).now.trees k at kept));
    }

pub returns-in_default : goal.returns-in_default
returns-in_default g c =
    let read = c.in_ok-standing.ensures in
    record {
      answers = tells_well read.reads.looks (λ clean o k it.
          let at = it.catalogue.units in
          let rows = filter (has_id c.args.unit) at.units in
          let first = first_shown standing_of (has_id c.args.unit) at.units (map standing_of rows) refl ∙ (sym (read.answers clean at.units at.rows at.rise) ∙ c.in_default.is) in
          sym (ap published_standing (none_found (state g.S.Store c.args.tables.now).now.trees k.forest at c.args.unit rows (IsPermutation-refl rows) standing_of first)));
    }

pub returns-then-standing : goal.returns-then-standing
returns-then-standing g c =
    let read = c.in_ok-standing.ensures in
    record {
      answers = tells_well read.reads.looks (λ clean o k it.
          let at = it.catalogue.units in
          let rows = filter (has_id c.args.unit) at.units in
          let first = first_shown standing_of (has_id c.args.unit) at.units (map standing_of rows) refl ∙ (sym (read.answers clean at.units at.rows at.rise) ∙ c.in-Some.is) in
          let found = one_told (state g.S.Store c.args.tables.now).now.trees k.forest at c.args.unit rows (IsPermutation-refl rows) standing_of c.in-Some.standing first in
          let draft = sym (ap (λ (told : Standing). told.draft) found.4) ∙ c.if-standing.true in
          sym (ap published_standing found.3 ∙ ap (λ b. cond b None (Some (standing_of found.0))) draft));
    }

pub returns : goal.returns
returns g c =
    let read = c.in_ok-standing.ensures in
    record {
      answers = tells_well read.reads.looks (λ clean o k it.
          let at = it.catalogue.units in
          let rows = filter (has_id c.args.unit) at.units in
          let first = first_shown standing_of (has_id c.args.unit) at.units (map standing_of rows) refl ∙ (sym (read.answers clean at.units at.rows at.rise) ∙ c.in-Some.is) in
          let found = one_told (state g.S.Store c.args.tables.now).now.trees k.forest at c.args.unit rows (IsPermutation-refl rows) standing_of c.in-Some.standing first in
          let public = sym (ap (λ (told : Standing). told.draft) found.4) ∙ c.if-standing.false in
          ap Some found.4 ∙ sym (ap published_standing found.3 ∙ ap (λ b. cond b None (Some (standing_of found.0))) public));
    }
