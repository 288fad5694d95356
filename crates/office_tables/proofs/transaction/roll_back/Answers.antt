use Rattle.office_tables.proofs.Common.{state, survives_weaker}
use Rattle.office_tables.proofs.Transactions.{rolls_back, rolls_nothing, roll_back_commits}
use Rattle.office_tables.proofs.transaction.roll_back.Goals as goal

pub returns-clause-back : goal.returns-clause-back
returns-clause-back g c clean inside = rolls_back (state g.S.Store c.args.conn.now) (state g.S.Store c.execute.new.self) c.execute.result (c.execute.ensures.runs clean) inside

pub returns-clause-nothing : goal.returns-clause-nothing
returns-clause-nothing g c clean outside = rolls_nothing (state g.S.Store c.args.conn.now) (state g.S.Store c.execute.new.self) c.execute.result (c.execute.ensures.runs clean) outside

pub returns-clause-crash : goal.returns-clause-crash
returns-clause-crash g c = survives_weaker (state g.S.Store c.args.conn.now) (state g.S.Store c.execute.new.self) _ (λ _. ⊥) (λ _ db h. roll_back_commits (state g.S.Store c.args.conn.now) db h) c.execute.ensures.survives
