use Rattle.std.proofs.Common.{◌≡◌, ap, ◌∙◌}
use Rattle.sqlite.proofs.Callers.{memory_is_clean}
use Rattle.sqlite.specs.Steps.{over_memory}
use Rattle.adoption.proofs.Common.{Database, no_schema, state}
use Rattle.adoption.proofs.NewTables.{making, made_desk}
use Rattle.adoption.proofs.own_tables.new_tables.Goals as goal

pub returns : goal.returns
returns g c =
    let a = state over_memory c.begin.new.conn in
    let b = state over_memory c.create_desk.new.conn in
    let begun = c.in_ok-begin.ensures.begun (memory_is_clean c.begin.new.conn) in
    let blank : a.now.schema ≡ no_schema = ap (λ (db : Database). db.schema) begun.now_is ∙ c.in_ok-model.ensures.empty.2 in
    let made = c.in_ok-create_desk.ensures.made a.now (making a blank begun.mode) in
    let represents = c.in_ok-create.ensures.represents b.now (made_desk a b made.1) (memory_is_clean c.create.new.conn) in
    record { ours = represents.catalogue.schema_is }
