use Rattle.std.proofs.Common.{◌≡◌, ℤ, true, false, refl, sym, subst, ◌∙◌}
use Rattle.std.specs.Prelude.{option_copied}
use Rattle.known_units.specs.declared.changes.UnitChange.TheVariants as change
use Rattle.office_core.specs.declared.command.Command.TheVariants as command
use Rattle.office_core.specs.declared.done.Done.TheVariants as done
use Rattle.catalogue_commands.proofs.Common.{IsAfter, OthersAreOpen, TellOf, catalogue_passed, has_unit, is_later, passed_freely}
use Rattle.catalogue_commands.proofs.Common.{passed_where, state}
use Rattle.catalogue_commands.proofs.Closed.{closes, closes_near, ends}
use Rattle.catalogue_commands.proofs.KnownMarks.{known_if}
use Rattle.catalogue_commands.proofs.closure.close_known.Goals as goal

pub returns-in_err-set_closure : goal.returns-in_err-set_closure
returns-in_err-set_closure g c = let made = c.in_err-set_closure.ensures.updates in catalogue_passed _ c.from_residual.ensures made.aborts made.faults

pub returns-then-not-is_in_force : goal.returns-then-not-is_in_force
returns-then-not-is_in_force g c =
    let a = state g.S.Store c.args.tables.now in
    let b = state g.S.Store c.set_closure.new.tables in
    let u = c.args.unit in
    let given = option_copied c.args.known in
    let made = c.in_ok-set_closure.ensures.updates in
    let past : is_later c.args.today c.args.until ≡ false = sym c.requires.lasts ∙ c.if-not-is_in_force.true in
    rw c.get.ensures.same (passed_freely g.P.Places.represents g.P.Versioned.version (λ s. (c.args.today ≡ s.day) × (has_unit s.catalogue.forest u ≡ true) × TellOf s.catalogue given) (command.SetClosure u c.args.until) c.args.today (done.SetClosure u) a b
    (closes u c.args.until g.P.Places.represents g.P.Versioned.version given a b c.args.today c.requires.calendar made.represents_updated made.only)
    (λ s sound so. ends u c.args.until s sound (subst (λ (day : ℤ). is_later day c.args.until ≡ false) so.0 past)) made.goes)

pub returns : goal.returns
returns g c =
    let a = state g.S.Store c.args.tables.now in
    let b = state g.S.Store c.set_closure.new.tables in
    let u = c.args.unit in
    let given = option_copied c.args.known in
    let made = c.in_ok-set_closure.ensures.updates in
    let passed = rw (c.get.ensures.same, c.closure_of-change.ensures) at c.pass_gate_changed.ensures.answers in
    passed_where g.S.Store g.P.Places.represents g.P.Versioned.version (λ s. (c.args.today ≡ s.day) × (has_unit s.catalogue.forest u ≡ true) × TellOf s.catalogue given) (command.SetClosure u c.args.until) c.args.today (done.SetClosure u) a c.set_closure.new.tables c.pass_gate_changed.new.tables c.pass_gate_changed.result (λ s. OthersAreOpen u s × IsAfter (change.Closure c.args.until) u given s)
    (closes u c.args.until g.P.Places.represents g.P.Versioned.version given a b c.args.today c.requires.calendar made.represents_updated made.only)
    (λ s sound so. (closes_near u c.args.until s sound c.requires.calendar, record { before = s.catalogue; is = refl; known = known_if s sound given so.2 })) made.goes passed
