use Rattle.std.proofs.Common.{[], refl, ◌&&◌, sym, ap, ◌∙◌}
use Rattle.office_tables.specs.Schema as tables
use Rattle.integrity_checks.proofs.Common.{found_in, is_excused, is_query, state}
use Rattle.integrity_checks.proofs.ExaminationEnds.{examined, passes_of}
use Rattle.integrity_checks.proofs.JudgedUnits.{units_text, units_terms, units_names, units_mean, units_told}
use Rattle.integrity_checks.proofs.units.units_are_good.Goals as goal

pub gather-requires-clause-ours : goal.gather-requires-clause-ours
gather-requires-clause-ours g c = let v = g.P.Versioned.version in is_query tables.unit units_terms [] units_names units_text v (units_mean v)

pub returns-in_err-all : goal.returns-in_err-all
returns-in_err-all g c =
    let v = g.P.Versioned.version in
    passes_of c.from_residual.ensures c.in_err-all.ensures.reads (is_excused tables.unit units_terms [] units_names units_text v (units_mean v) refl (state g.S.Store c.args.tables.now) (state g.S.Store c.gather.new.tables) _ c.in_err-all.ensures.ran)

pub returns-then-all : goal.returns-then-all
returns-then-all g c = examined c.in_ok-all.ensures.reads.looks (λ clean version placed depth.
    let old = state g.S.Store c.args.tables.now in
    let it = c.in_ok-all.all in
    let (has, all, other) = found_in old it (c.in_ok-all.ensures.ran clean) in
    ap (λ b. b && c.are_placed-fit.result) (sym c.if-all.true)
    ∙ units_told g.P.Versioned.version version c.args.next old (state g.S.Store c.gather.new.tables) all.rows it.numbers.items it.are_good c.args.placed.items c.args.height c.are_placed-fit.result
    has all.shown all.holds placed depth c.are_placed-fit.ensures)

pub returns-else-all : goal.returns-else-all
returns-else-all g c = examined c.in_ok-all.ensures.reads.looks (λ clean version placed depth.
    let old = state g.S.Store c.args.tables.now in
    let it = c.in_ok-all.all in
    let (has, all, other) = found_in old it (c.in_ok-all.ensures.ran clean) in
    c.if-all.false ∙ ap (λ b. b && c.are_placed-fit.result) (sym c.if-all.false)
    ∙ units_told g.P.Versioned.version version c.args.next old (state g.S.Store c.gather.new.tables) all.rows it.numbers.items it.are_good c.args.placed.items c.args.height c.are_placed-fit.result
    has all.shown all.holds placed depth c.are_placed-fit.ensures)
