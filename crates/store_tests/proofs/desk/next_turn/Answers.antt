use Rattle.std.proofs.Common.{◌≡◌, true, IsTrue, ap, ◌∙◌, Result, Ok, Err, OnOk}
use Rattle.sqlite.specs.Effect.{Database}
use Rattle.sqlite.specs.Held.{state}
use Rattle.sqlite.specs.State.{State, HasCleanDisk, Shows, Survives}
use Rattle.office_tables.proofs.Calls.{early}
use Rattle.office_tables.specs.Step.{AreTables, InTransaction}
use Rattle.office_tables.specs.Transactions.{Committed}
use Rattle.office_tables.specs.Versions.{Version, First}
use Rattle.store_tests.proofs.desk.next_turn.Goals as goal

-- what was done is committed, and another transaction begins
turned : {X E : Type 0} (v : Version) (a b d : State) (r : Result X E) → AreTables v a
    → Survives a b (λ db. db ≡ a.now.trees) → Survives b d (λ _. ⊥)
    → (HasCleanDisk b → IsTrue a.in_transaction) → (HasCleanDisk b → Committed a b)
    → (HasCleanDisk d → OnOk r (Shows b d b.now b.committed true)) → OnOk r (InTransaction v d)
turned v a b d (Ok x) are ab bd inside committed begun = λ clean.
    let at_b = early bd clean in
    let it = begun clean in
    (ap (λ (db : Database). db.schema) (it.now_is ∙ (committed at_b).now) ∙ are (early ab at_b) (inside at_b), it.mode)
turned v a b d (Err e) are ab bd inside committed begun = tt

pub returns : goal.returns
returns g c =
    let a = state g.S.Store c.args.conn.now in
    let b = state g.S.Store c.commit.new.conn in
    let d = state g.S.Store c.begin.new.conn in
    let done = c.in_ok-commit.ensures in
    record { inside = turned First a b d c.begin.result c.requires.are c.commit.ensures.crash c.begin.ensures.crash done.inside done.committed c.begin.ensures.begun }
