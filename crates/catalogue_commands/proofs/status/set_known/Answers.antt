use Rattle.std.proofs.Common.{◌≡◌, Bool, true, None, refl, sym, subst}
use Rattle.std.specs.Prelude.{option_copied}
use Rattle.known_units.specs.declared.changes.UnitChange.TheVariants as change
use Rattle.office_core.specs.declared.command.Command.TheVariants as command
use Rattle.office_core.specs.declared.done.Done.TheVariants as done
use Rattle.catalogue_commands.proofs.Common.{IsAfter, OthersAreOpen, TellOf, after, catalogue_passed, gate, has_unit, passed_freely}
use Rattle.catalogue_commands.proofs.Common.{passed_where, state}
use Rattle.catalogue_commands.proofs.Statused.{publishes, sets, sets_near}
use Rattle.catalogue_commands.proofs.KnownMarks.{known_if}
use Rattle.catalogue_commands.proofs.status.set_known.Goals as goal

pub returns-in_err-units : goal.returns-in_err-units
returns-in_err-units g c = let made = c.in_err-units.ensures.updates in catalogue_passed _ c.from_residual.ensures made.aborts made.faults

pub returns-then-not-draft : goal.returns-then-not-draft
returns-then-not-draft g c =
    let a = state g.S.Store c.args.tables.now in
    let b = state g.S.Store c.set_status.new.tables in
    let u = c.args.unit in
    let given = option_copied c.args.known in
    let made = c.in_ok-units.ensures.updates in
    passed_freely g.P.Places.represents g.P.Versioned.version (λ s. (c.args.today ≡ s.day) × (has_unit s.catalogue.forest u ≡ true) × TellOf s.catalogue given) (command.SetStatus u c.args.draft c.args.whole) c.args.today (done.SetStatus c.in_ok-units.units) a b
    (sets u c.args.draft c.args.whole g.P.Places.represents g.P.Versioned.version given a b c.args.today c.in_ok-units.units made.represents_updated made.only c.in_ok-units.ensures.count)
    (λ s sound so. subst (λ (draft : Bool). gate (after s (command.SetStatus u draft c.args.whole)) ≡ None) (sym c.if-not-draft.true) (publishes u c.args.whole s sound)) made.goes

pub returns : goal.returns
returns g c =
    let a = state g.S.Store c.args.tables.now in
    let b = state g.S.Store c.set_status.new.tables in
    let u = c.args.unit in
    let given = option_copied c.args.known in
    let made = c.in_ok-units.ensures.updates in
    passed_where g.S.Store g.P.Places.represents g.P.Versioned.version (λ s. (c.args.today ≡ s.day) × (has_unit s.catalogue.forest u ≡ true) × TellOf s.catalogue given) (command.SetStatus u c.args.draft c.args.whole) c.args.today (done.SetStatus c.in_ok-units.units) a c.set_status.new.tables c.pass_gate_changed.new.tables c.pass_gate_changed.result (λ s. OthersAreOpen u s × IsAfter (change.Status c.args.draft c.args.whole) u given s)
    (sets u c.args.draft c.args.whole g.P.Places.represents g.P.Versioned.version given a b c.args.today c.in_ok-units.units made.represents_updated made.only c.in_ok-units.ensures.count)
    (λ s sound so. (sets_near u c.args.draft c.args.whole s sound so.1, record { before = s.catalogue; is = refl; known = known_if s sound given so.2 })) made.goes c.pass_gate_changed.ensures.answers
