use Rattle.std.proofs.Common.{codes, rules}
use Rattle.program.proofs.Named.{needs_at}
use Rattle.program.proofs.words.named_task.Goals as goal

pub init-requires-clause-settings : goal.init-requires-clause-settings
init-requires-clause-settings c = (needs_at c.args.name.now (codes "init") _ c.requires (search rules)).1

pub settings-requires : goal.settings-requires
settings-requires c = needs_at c.args.name.now (codes "trial") _ c.requires (search rules)
