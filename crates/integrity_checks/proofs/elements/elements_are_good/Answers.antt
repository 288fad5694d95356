use Rattle.std.proofs.Common.{[], refl, ◌∙◌}
use Rattle.office_tables.specs.Schema as tables
use Rattle.integrity_checks.proofs.Common.{found_in, in_any_order, in_table, is_excused, is_query, state, was_open}
use Rattle.integrity_checks.proofs.ExaminationEnds.{examined, passes_of}
use Rattle.integrity_checks.proofs.JudgedElements.{elements_text, elements_terms, elements_names, elements_mean}
use Rattle.integrity_checks.proofs.JudgedElements.{elements_judged}
use Rattle.integrity_checks.proofs.UnitsThere.{elements_have_units}
use Rattle.integrity_checks.proofs.elements.elements_are_good.Goals as goal

pub gather-requires-clause-ours : goal.gather-requires-clause-ours
gather-requires-clause-ours g c = let v = g.P.Versioned.version in is_query tables.element elements_terms [] elements_names elements_text v (elements_mean v)

pub returns-in_err-all : goal.returns-in_err-all
returns-in_err-all g c =
    let v = g.P.Versioned.version in
    passes_of c.from_residual.ensures c.in_err-all.ensures.reads (is_excused tables.element elements_terms [] elements_names elements_text v (elements_mean v) refl (state g.S.Store c.args.tables.now) (state g.S.Store c.gather.new.tables) _ c.in_err-all.ensures.ran)

pub returns : goal.returns
returns g c = examined c.in_ok-all.ensures.reads.looks (λ clean version units_read.
    let v = g.P.Versioned.version in
    let old = state g.S.Store c.args.tables.now in
    let new = state g.S.Store c.gather.new.tables in
    let of = found_in old c.in_ok-all.all (c.in_ok-all.ensures.ran clean) in
    let all = of.1 in
    let got = in_table tables.element elements_terms [] elements_names elements_text v (elements_mean v) in_any_order (λ a b. refl) old new of.0 all.rows all.shown in
    let kept = elements_have_units old v of.0 c.in_ok-all.ensures.live (was_open tables.element elements_terms [] elements_names elements_text v (elements_mean v) old new of.0 all.rows all.shown) in
    all.holds ∙ elements_judged v old.now.trees units_read kept got.0 all.rows got.1 got.3)
