use Rattle.std.proofs.Common.{◌≡◌, [], List}
use Rattle.sqlite.specs.Given.{HasGiven}
use Rattle.office_tables.proofs.Common.{HasCleanDisk, IsUnchanged, Row, Survives, state}
use Rattle.office_tables.proofs.streamed_rows.take_rows.Given as goal

abbrev pub invariant-rows : goal.invariant-rows
invariant-rows g l =
    let old = state g.S.Store l.fn.conn in
    let now = state g.S.Store l.rows.conn.now in
    (l.rows.conn.ghost_name ≡ l.initial.rows.conn.ghost_name) × Survives old now (λ _. ⊥)
    × (HasCleanDisk now → (given : List Row) × HasGiven g.S.Store l.sql [] l.rows.conn.now given × IsUnchanged old now × g.G.Gathering.holds given l.gathered)
