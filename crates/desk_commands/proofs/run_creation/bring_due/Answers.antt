use Rattle.std.proofs.Common.{◌∙◌}
use Rattle.desk_commands.proofs.run_creation.bring_due.Goals as goal

pub bring-requires : goal.bring-requires
bring-requires g c = record { theirs = c.deref.ensures.value ∙ c.in_ok-containers.ensures }
