use Rattle.std.proofs.Common.{◌≡◌, ℕ, true, refl}
use Rattle.office_core.specs.declared.command.Command.TheVariants as command
use Rattle.office.proofs.Common.{Command, asks_access}
use Rattle.office.proofs.commands.perform_knowing.Goals as goal

-- there are four such commands
others : {X : Type 0} (asked : Command) → asks_access asked ≡ true → ((t c : ℕ) → asked ≡ command.Order t c → ⊥)
    → (asked ≡ command.Run → ⊥) → ((c t : ℕ) → asked ≡ command.Issue c t → ⊥)
    → ((t u : ℕ) → asked ≡ command.Revoke t u → ⊥) → X
others (command.Order t c) is order run issue revoke = absurd (order t c refl)
others command.Run is order run issue revoke = absurd (run refl)
others (command.Issue c t) is order run issue revoke = absurd (issue c t refl)
others (command.Revoke t u) is order run issue revoke = absurd (revoke t u refl)
others (command.OpenDay day) is order run issue revoke = absurd (cc)
others (command.Import source file) is order run issue revoke = absurd (cc)
others (command.SetStatus u draft whole) is order run issue revoke = absurd (cc)
others (command.SetClosure u until) is order run issue revoke = absurd (cc)
others (command.Move u parent) is order run issue revoke = absurd (cc)
others (command.Remove u) is order run issue revoke = absurd (cc)
others (command.Register name until) is order run issue revoke = absurd (cc)
others (command.Renew t until) is order run issue revoke = absurd (cc)
others (command.TakeSeat t) is order run issue revoke = absurd (cc)
others (command.LeaveSeat t) is order run issue revoke = absurd (cc)
others (command.Cancel o) is order run issue revoke = absurd (cc)
others command.Reshelve is order run issue revoke = absurd (cc)
others (command.Return c) is order run issue revoke = absurd (cc)
others (command.Permit t u until) is order run issue revoke = absurd (cc)

pub returns-in_default-clause-performs : goal.returns-in_default-clause-performs
returns-in_default-clause-performs g c =
    others c.args.command.now c.requires.asks c.in_default.not-Order c.in_default.not-Run c.in_default.not-Issue c.in_default.not-Revoke
