use Rattle.std.proofs.Common.{rules, Ok, ◌≡◌}
use Rattle.office_tables.proofs.Common.{state, survives_weaker}
use Rattle.office_tables.proofs.Errors.{stops}
use Rattle.office_tables.proofs.Transactions.{commits, committed_inside, commit_cause, commit_commits}
use Rattle.office_tables.proofs.transaction.commit.Goals as goal

pub returns-in_err-execute-clause-stopped : goal.returns-in_err-execute-clause-stopped
returns-in_err-execute-clause-stopped g c clean =
    let stopped = stops _ _ (state g.S.Store c.args.conn.now) (state g.S.Store c.execute.new.self) c.in_err-execute.field-0.0 (c.in_err-execute.ensures.runs clean) in
    search (rules, stopped)

pub returns-in_err-execute-clause-crash : goal.returns-in_err-execute-clause-crash
returns-in_err-execute-clause-crash g c = survives_weaker (state g.S.Store c.args.conn.now) (state g.S.Store c.execute.new.self) _ (λ db. db ≡ (state g.S.Store c.args.conn.now).now.trees) (λ _ db h. commit_commits (state g.S.Store c.args.conn.now) db h) c.execute.ensures.survives

pub returns-clause-inside : goal.returns-clause-inside
returns-clause-inside g c clean = committed_inside (state g.S.Store c.args.conn.now) (state g.S.Store c.execute.new.self) (Ok c.in_ok-execute.field-0) (c.in_ok-execute.ensures.runs clean)

pub returns-clause-committed : goal.returns-clause-committed
returns-clause-committed g c clean = commits (state g.S.Store c.args.conn.now) (state g.S.Store c.execute.new.self) (Ok c.in_ok-execute.field-0) (c.in_ok-execute.ensures.runs clean)

pub returns-clause-crash : goal.returns-clause-crash
returns-clause-crash g c = survives_weaker (state g.S.Store c.args.conn.now) (state g.S.Store c.execute.new.self) _ (λ db. db ≡ (state g.S.Store c.args.conn.now).now.trees) (λ _ db h. commit_commits (state g.S.Store c.args.conn.now) db h) c.execute.ensures.survives

pub returns-in_err-execute-clause-faults : goal.returns-in_err-execute-clause-faults
returns-in_err-execute-clause-faults g c clean inside =
    let why = commit_cause (state g.S.Store c.args.conn.now) (state g.S.Store c.execute.new.self) c.in_err-execute.field-0.0 (c.in_err-execute.ensures.runs clean) inside in
    search (rules, why)
