use Rattle.std.proofs.Common.{◌≡◌, refl, nat_le, ◌&&◌, sym, ap, ◌∙◌}
use Rattle.office_tables.specs.Schema as tables
use Rattle.integrity_checks.proofs.Common.{found_in, is_excused, is_query, state}
use Rattle.integrity_checks.proofs.ExaminationEnds.{examined, passes_of}
use Rattle.integrity_checks.proofs.JudgedHousings.{housings_text, housings_terms, by_unit_and_ord, housings_names}
use Rattle.integrity_checks.proofs.JudgedHousings.{housings_mean, housings_told}
use Rattle.integrity_checks.proofs.housing.housings_are_good.Goals as goal
use Rattle.integrity_checks.proofs.housing.housings_are_good.Goals.{then-all, else-all}

pub gather-requires-clause-ours : goal.gather-requires-clause-ours
gather-requires-clause-ours g c = let v = g.P.Versioned.version in is_query tables.housing housings_terms by_unit_and_ord housings_names housings_text v (housings_mean v)

pub returns-in_err-all : goal.returns-in_err-all
returns-in_err-all g c =
    let v = g.P.Versioned.version in
    passes_of c.from_residual.ensures c.in_err-all.ensures.reads (is_excused tables.housing housings_terms by_unit_and_ord housings_names housings_text v (housings_mean v) refl (state g.S.Store c.args.tables.now) (state g.S.Store c.gather.new.tables) _ c.in_err-all.ensures.ran)

pub returns-then-is_filled : goal.returns-then-is_filled
returns-then-is_filled g c = examined c.in_ok-all.ensures.reads.looks (λ clean version units_read as_many.
    let old = state g.S.Store c.args.tables.now in
    let it = c.in_ok-all.all in
    let (has, all, other) = found_in old it (c.in_ok-all.ensures.ran clean) in
    let full = nat_le it.highest it.count in
    let is : c.if-all.value ≡ (it.are_good && full) = elim c.if-all.branch [
      | then-all w ↦ w.value-is ∙ w.is_filled.ensures ∙ ap (λ b. b && full) (sym w.if-all.true)
      | else-all w ↦ w.value-is ∙ w.if-all.false ∙ ap (λ b. b && full) (sym w.if-all.false)
    ] in
    ap (λ b. b && nat_le it.last c.args.containers) (sym (sym is ∙ c.if-is_filled.true))
    ∙ housings_told g.P.Versioned.version old (state g.S.Store c.gather.new.tables) all.rows it.are_good it.unit it.count it.highest it.last c.args.containers has all.shown all.holds
    c.in_ok-all.ensures.live units_read as_many)

pub returns-else-is_filled : goal.returns-else-is_filled
returns-else-is_filled g c = examined c.in_ok-all.ensures.reads.looks (λ clean version units_read as_many.
    let old = state g.S.Store c.args.tables.now in
    let it = c.in_ok-all.all in
    let (has, all, other) = found_in old it (c.in_ok-all.ensures.ran clean) in
    let full = nat_le it.highest it.count in
    let is : c.if-all.value ≡ (it.are_good && full) = elim c.if-all.branch [
      | then-all w ↦ w.value-is ∙ w.is_filled.ensures ∙ ap (λ b. b && full) (sym w.if-all.true)
      | else-all w ↦ w.value-is ∙ w.if-all.false ∙ ap (λ b. b && full) (sym w.if-all.false)
    ] in
    c.if-is_filled.false ∙ ap (λ b. b && nat_le it.last c.args.containers) (sym (sym is ∙ c.if-is_filled.false))
    ∙ housings_told g.P.Versioned.version old (state g.S.Store c.gather.new.tables) all.rows it.are_good it.unit it.count it.highest it.last c.args.containers has all.shown all.holds
    c.in_ok-all.ensures.live units_read as_many)
