use Rattle.std.proofs.Common.{refl}
use Rattle.program.proofs.Common.{channels}
use Rattle.program.proofs.StoreLemmas.{import_as_task, init_as_task, init_done, migrate_as_task}
use Rattle.program.proofs.commands.do_task.Goals as goal

pub returns-in-Init-clause-done : goal.returns-in-Init-clause-done
returns-in-Init-clause-done g c =
    let before = channels c.args.reader.now c.args.out.now (g.P.Port.history c.args.port.now) in
    init_done _ _ _ c.args.task _ _ before c.init.result.0 c.in-Init.is c.init.ensures.done

pub returns-in-Import-clause-fault : goal.returns-in-Import-clause-fault
returns-in-Import-clause-fault g c =
    let told = g.P.Port.history c.args.port.now in
    let before = channels c.args.reader.now c.args.out.now told in
    let after = channels c.args.reader.now c.import.new.out told in
    import_as_task _ _ _ c.args.task _ _ _ before after c.import.result.0 c.in-Import.is (refl, refl) c.import.ensures.fault

pub returns-in-Migrate-clause-fault : goal.returns-in-Migrate-clause-fault
returns-in-Migrate-clause-fault g c =
    let told = g.P.Port.history c.args.port.now in
    let before = channels c.args.reader.now c.args.out.now told in
    let after = channels c.args.reader.now c.migrate.new.out told in
    migrate_as_task _ _ _ c.args.task _ before after c.migrate.result.0 c.in-Migrate.is (refl, refl) c.migrate.ensures.fault

pub returns-in-Init-clause-fault : goal.returns-in-Init-clause-fault
returns-in-Init-clause-fault g c =
    let before = channels c.args.reader.now c.args.out.now (g.P.Port.history c.args.port.now) in
    init_as_task _ _ _ c.args.task _ _ before c.init.result.0 c.in-Init.is c.init.ensures.fault
