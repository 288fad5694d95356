use Rattle.std.proofs.Common.{ℕ, Option, Ok, refl, subst}
use Rattle.office_core.specs.declared.command.Command.TheVariants as command
use Rattle.desk_commands.proofs.Common.{CarriesOutSparing, state, tables, ⊤}
use Rattle.desk_commands.proofs.Spared.{desk_passed, spared}
use Rattle.desk_commands.proofs.OneStep.{does_well}
use Rattle.desk_commands.proofs.Registered.{reply_for, registers}
use Rattle.desk_commands.proofs.registration.register.Goals as goal

pub returns-in_err-ticket : goal.returns-in_err-ticket
returns-in_err-ticket g c = let made = c.in_err-ticket.ensures.updates in desk_passed _ c.from_residual.ensures made.aborts made.faults

pub returns-in_default : goal.returns-in_default
returns-in_default g c =
    let v = g.P.Versioned.version in
    let made = c.in_ok-ticket.ensures.updates in
    subst (λ (k : Option ℕ). CarriesOutSparing g.P.Places.represents v (λ _. ⊤) (command.Register c.args.name.now c.args.until) (state g.S.Store c.args.tables.now) (state g.S.Store c.add_reader.new.tables) (Ok (reply_for k))) c.in_default.is
    (does_well made.goes (λ spares. spared made.call refl) (λ clean s sound so it. registers v s sound c.args.name.now c.args.until g.P.Places.represents g.met.P.Places.shows_same _ _ c.requires.named c.requires.text it (made.goes.schema clean) (made.only clean)
    c.in_ok-ticket.field-0 (c.in_ok-ticket.ensures.number clean (tables v s).desk it.desk) (made.represents_updated clean tt (tables v s).desk it.desk tt)))

pub returns : goal.returns
returns g c =
    let v = g.P.Versioned.version in
    let made = c.in_ok-ticket.ensures.updates in
    rw c.get.ensures.same (subst (λ (k : Option ℕ). CarriesOutSparing g.P.Places.represents v (λ _. ⊤) (command.Register c.args.name.now c.args.until) (state g.S.Store c.args.tables.now) (state g.S.Store c.add_reader.new.tables) (Ok (reply_for k))) c.in-Some.is
    (does_well made.goes (λ spares. spared made.call refl) (λ clean s sound so it. registers v s sound c.args.name.now c.args.until g.P.Places.represents g.met.P.Places.shows_same _ _ c.requires.named c.requires.text it (made.goes.schema clean) (made.only clean)
    c.in_ok-ticket.field-0 (c.in_ok-ticket.ensures.number clean (tables v s).desk it.desk) (made.represents_updated clean tt (tables v s).desk it.desk tt))))
