use Rattle.std.proofs.Common.{ℕ, List, ◌∷◌, [], refl, sym, subst, ◌∙◌}
use Rattle.desk_core.specs.declared.reader.Place.TheVariants.{Desk}
use Rattle.office_tables.specs.Schema as schema
use Rattle.desk_commands.proofs.Common.{HasCleanDisk, RepresentsDesk, TakesEachOnce, desk_legible, early, goes_then}
use Rattle.desk_commands.proofs.Common.{next_run, reading_room_trees, state, tables, touched_again, touched_wider}
use Rattle.desk_commands.proofs.Common.{with_all_placed, with_run}
use Rattle.desk_commands.proofs.Spared.{does_pass, spared}
use Rattle.desk_commands.proofs.Fetched.{taken_once}
use Rattle.desk_commands.proofs.OneStep.{does_pass_later, does_well}
use Rattle.desk_commands.proofs.RunMade.{runs_out, runs_with}
use Rattle.desk_commands.proofs.run_creation.bring.Goals as goal

pub returns-in_err-run : goal.returns-in_err-run
returns-in_err-run g c =
    let made = c.in_err-run.ensures.updates in
    does_pass _ c.from_residual.ensures made.aborts
    (λ s sound so it. made.faults tt (tables g.P.Versioned.version s).desk it.desk tt (desk_legible g.P.Versioned.version s sound, subst TakesEachOnce (sym so.1) (taken_once g.P.Versioned.version s sound)))

pub returns-in_default : goal.returns-in_default
returns-in_default g c =
    let v = g.P.Versioned.version in
    let made = c.in_ok-run.ensures in
    does_well made.updates.goes (λ spares. spared made.updates.call refl) (λ clean s sound so it.
    runs_out v s sound g.P.Places.represents _ c.args.due.now so.1 so.2 (sym c.in_default.is ∙ made.number clean (tables v s).desk it.desk))

pub returns-in_err-move_all : goal.returns-in_err-move_all
returns-in_err-move_all g c =
    let v = g.P.Versioned.version in
    let made = c.in_ok-run.ensures.updates in
    let moved = c.in_err-move_all.ensures.updates in
    does_pass_later _ c.from_residual-in_err-move_all.ensures made.goes.on moved.aborts (λ s sound so it at_b.
    let desk = (tables v s).desk in
    moved.faults tt (with_run (next_run desk) c.args.today c.args.due.now desk) (made.represents_updated at_b tt desk it.desk tt) tt tt)

pub returns : goal.returns
returns g c =
    let v = g.P.Versioned.version in
    let a = state g.S.Store c.args.tables.now in
    let b = state g.S.Store c.record_run.new.tables in
    let d = state g.S.Store c.move_all.new.tables in
    let made = c.in_ok-run.ensures.updates in
    let moved = c.in_ok-move_all.ensures.updates in
    let touched = schema.run.tree ∷ schema.run_line.tree ∷ schema.holding.tree ∷ [] in
    let goes = goes_then made.goes moved.goes in
    let only = λ (clean : HasCleanDisk d).
    let at_b = early moved.goes.on.crash clean in
    touched_again touched a.now b.now d.now (touched_wider (schema.run.tree ∷ schema.run_line.tree ∷ []) touched a.now b.now refl (made.only at_b)) (touched_wider (schema.holding.tree ∷ []) touched b.now d.now refl (moved.only clean)) in
    rw c.get.ensures.same (does_well goes (λ spares clean. touched_wider touched reading_room_trees a.now d.now refl (only clean)) (λ clean s sound so it.
    let desk = (tables v s).desk in
    let at_b = early moved.goes.on.crash clean in
    let put = with_run (next_run desk) c.args.today c.args.due.now desk in
    let placed = moved.represents_updated clean tt put (made.represents_updated at_b tt desk it.desk tt) tt in
    runs_with v s sound g.P.Places.represents g.met.P.Places.shows_same a.now d.now c.args.today c.args.due.now c.in-Some.run' so.0 so.1 so.2
    (sym c.in-Some.is ∙ c.in_ok-run.ensures.number at_b desk it.desk) it (goes.schema clean) (only clean)
    (subst (λ (l : List ℕ). RepresentsDesk d.now.trees (with_all_placed Desk l put)) c.requires.theirs placed)))
