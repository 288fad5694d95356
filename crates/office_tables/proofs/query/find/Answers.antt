use Rattle.std.proofs.Common.{rules}
use Rattle.office_tables.proofs.Common.{HasCleanDisk, state}
use Rattle.office_tables.proofs.Sparing.{query_spares, own_last}
use Rattle.office_tables.proofs.Calls.{early, known_in, read_cut, read_looks, cut_looks, on_ok_from}
use Rattle.office_tables.proofs.query.find.Goals as goal

pub returns-in_err-rows-clause-reads : goal.returns-in_err-rows-clause-reads
returns-in_err-rows-clause-reads g c =
    let old = state g.S.Store c.args.conn.now in
    let new = state g.S.Store c.query_all.new.self in
    let known = λ (clean : HasCleanDisk old). let it = c.requires.here clean in known_in _ c.args.sql.now c.requires.command old it.1 it.2 it.3.is it.3.plain in
    let cut = read_cut c.args.sql.now _ old new c.requires.command known c.in_err-rows.field-0.0 c.in_err-rows.ensures.err c.query_all.ensures.survives in
    let spared = λ (clean : HasCleanDisk new). query_spares c.args.sql.now _ old new (known (early c.query_all.ensures.survives clean)).plain c.in_err-rows.field-0.0 (c.in_err-rows.ensures.err clean) in
    record { crash = cut.crash; looks = search rules; aborts = search (rules, cut); spares = λ clean. let it = spared clean in search (rules, it) }

pub returns-clause-reads : goal.returns-clause-reads
returns-clause-reads g c =
    let old = state g.S.Store c.args.conn.now in
    let new = state g.S.Store c.query_all.new.self in
    let known = λ (clean : HasCleanDisk old). let it = c.requires.here clean in known_in _ c.args.sql.now c.requires.command old it.1 it.2 it.3.is it.3.plain in
    let looks = read_looks c.args.sql.now _ old new c.requires.command known _ c.in_ok-rows.ensures.ok c.query_all.ensures.survives in
    record { crash = looks.goes.on.crash; looks = on_ok_from c.read_all.result _ looks; aborts = cut_looks c.read_all.result old new looks; spares = λ clean. own_last old new looks c.read_all.result c.read_all.ensures.fair clean }
