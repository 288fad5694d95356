use Rattle.std.proofs.Common.{List, [], refl, rules, arith}
use Rattle.sqlite.specs.Listing.{understood}
use Rattle.office_tables.proofs.Common.{CommitsShowing, Gathers, HasCleanDisk, IsPlain, Row, State, Survives}
use Rattle.office_tables.proofs.Common.{begun_plain, never_commits, state, survives_weaker}
use Rattle.office_tables.proofs.Calls.{early}
use Rattle.office_tables.proofs.Gatherings.{shown_from, query_fails_from}
use Rattle.office_tables.proofs.streamed_rows.take_rows.Goals as goal

commits_nothing : (sql : List _) (params : Row) (old new : State) → (HasCleanDisk old → IsPlain (understood old.now.schema sql)) → Survives old new (CommitsShowing sql params old) → Survives old new (λ _. ⊥)
commits_nothing sql params old new plain s = survives_weaker old new _ _ (λ clean db. never_commits sql params old db (plain (early s clean))) s

pub returns-in_err-rows-clause-crash : goal.returns-in_err-rows-clause-crash
returns-in_err-rows-clause-crash g c =
    let old = state g.S.Store c.args.conn.now in
    let new = state g.S.Store c.query.follows.lender-at-none in
    let held = c.query.follows.holds-at-none in
    let kept : Survives old new (CommitsShowing c.args.sql.now [] old) = search rules in
    commits_nothing c.args.sql.now [] old new c.requires.plain kept

pub rows-init : goal.rows-init
rows-init g c =
    let made = c.in_ok-rows.ensures in (
      refl,
      commits_nothing _ _ _ _ c.requires.plain made.survives,
      λ clean.
          let begun = begun_plain g.S.Store _ _ c.args.conn.now _ (c.requires.plain (early made.survives clean)) (made.begun clean) in
          ([], begun.0, begun.1, c.requires.begins),
    )

pub returns-in_err-row-clause-stops : goal.returns-in_err-row-clause-stops
returns-in_err-row-clause-stops g c clean =
    let first = state g.S.Store c.args.conn.now in
    let old = state g.S.Store c.rows.rows.conn.now in
    let moved = c.next.follows.holds-at-none in
    let now = c.next.follows.lender-at-none.conn.now in
    let late : HasCleanDisk (state g.S.Store now) = search rules in
    let was = c.rows.invariant.2 (omega (arith, moved.survives.clean)) in
    let failed = (rw (c.in_err-row.was) at (moved.err late)) c.args.sql.now [] was.0 was.1 in
    let plain = c.requires.plain (early c.rows.invariant.1 (omega (arith, moved.survives.clean))) in
    let all = query_fails_from c.args.sql.now [] first old (state g.S.Store now) plain was.2 c.rows.invariant.1 _ failed in
    search (rules, all)

pub returns-in_default-clause-gathers : goal.returns-in_default-clause-gathers
returns-in_default-clause-gathers g c clean =
    let first = state g.S.Store c.args.conn.now in
    let old = state g.S.Store c.rows.rows.conn.now in
    let moved = c.next.follows.holds-at-none in
    let now = c.next.follows.lender-at-none.conn.now in
    let late : HasCleanDisk (state g.S.Store now) = search rules in
    let was = c.rows.invariant.2 (omega (arith, moved.survives.clean)) in
    let shown = (rw (c.in_ok-row.was, c.in_default.is) at (moved.ok late)) c.args.sql.now [] was.0 was.1 in
    let plain = c.requires.plain (early c.rows.invariant.1 (omega (arith, moved.survives.clean))) in
    let all = shown_from c.args.sql.now [] first old (state g.S.Store now) plain was.2 was.0 shown in
    let both : Gathers g.G.Gathering.holds c.args.sql.now [] first (state g.S.Store now) c.rows.gathered = record { rows = was.0; shown = all; holds = was.3 } in
    search (rules, both)
