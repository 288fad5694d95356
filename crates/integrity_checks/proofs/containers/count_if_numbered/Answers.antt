use Rattle.std.proofs.Common.{◌≡◌, refl, ap, ◌∙◌, sym, nat_le, ◌&&◌, true, false}
use Rattle.office_tables.specs.Schema as tables
use Rattle.integrity_checks.proofs.Common.{found_in, is_excused, is_query, state}
use Rattle.integrity_checks.proofs.ExaminationEnds.{examined, passes_of}
use Rattle.integrity_checks.proofs.JudgedContainers.{containers_text, containers_terms, by_id, containers_names}
use Rattle.integrity_checks.proofs.JudgedContainers.{containers_mean, numbered_so}
use Rattle.integrity_checks.proofs.containers.count_if_numbered.Goals as goal
use Rattle.integrity_checks.proofs.containers.count_if_numbered.Goals.{then-all, else-all}

pub gather-requires-clause-ours : goal.gather-requires-clause-ours
gather-requires-clause-ours g c = let v = g.P.Versioned.version in is_query tables.container containers_terms by_id containers_names containers_text v (containers_mean v)

pub returns-in_err-all : goal.returns-in_err-all
returns-in_err-all g c =
    let v = g.P.Versioned.version in
    passes_of c.from_residual.ensures c.in_err-all.ensures.reads (is_excused tables.container containers_terms by_id containers_names containers_text v (containers_mean v) refl (state g.S.Store c.args.tables.now) (state g.S.Store c.gather.new.tables) _ c.in_err-all.ensures.ran)

pub returns-then-are_sound : goal.returns-then-are_sound
returns-then-are_sound g c = examined c.in_ok-all.ensures.reads.looks (λ clean.
    let old = state g.S.Store c.args.tables.now in
    let it = c.in_ok-all.all in
    let (has, all, other) = found_in old it (c.in_ok-all.ensures.ran clean) in
    let few = nat_le it.count 100000 in
    let is : c.if-all.are_sound ≡ (it.are_good && few) = elim c.if-all.branch [
      | then-all w ↦ w.are_sound-is ∙ ap (λ b. b && few) (sym w.if-all.true)
      | else-all w ↦ w.are_sound-is ∙ w.if-all.false ∙ ap (λ b. b && few) (sym w.if-all.false)
    ] in
    numbered_so g.P.Versioned.version old (state g.S.Store c.gather.new.tables) all.rows it.count it.are_good true has all.shown all.holds.0 all.holds.1 (sym is ∙ c.if-are_sound.true))

pub returns-else-are_sound : goal.returns-else-are_sound
returns-else-are_sound g c = examined c.in_ok-all.ensures.reads.looks (λ clean.
    let old = state g.S.Store c.args.tables.now in
    let it = c.in_ok-all.all in
    let (has, all, other) = found_in old it (c.in_ok-all.ensures.ran clean) in
    let few = nat_le it.count 100000 in
    let is : c.if-all.are_sound ≡ (it.are_good && few) = elim c.if-all.branch [
      | then-all w ↦ w.are_sound-is ∙ ap (λ b. b && few) (sym w.if-all.true)
      | else-all w ↦ w.are_sound-is ∙ w.if-all.false ∙ ap (λ b. b && few) (sym w.if-all.false)
    ] in
    numbered_so g.P.Versioned.version old (state g.S.Store c.gather.new.tables) all.rows it.count it.are_good false has all.shown all.holds.0 all.holds.1 (sym is ∙ c.if-are_sound.false))
