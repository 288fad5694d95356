-- What a crash finds in a call whose result is handed on, and in one that follows another.
use Rattle.std.proofs.Common.{Result, Ok, Err, OnOk, OnErr}
use Rattle.sqlite.specs.State.{State}
use Rattle.refinement.proofs.Common.{Continues, Goes, IsAborted, Survives}

pub continued : {X E : Type 0} (r : Result X E) (a b : State) → OnOk r (Continues a b) → OnErr r (IsAborted a b)
    → Survives a b (λ _. ⊥)
continued (Ok x) a b on cut = on.crash
continued (Err e) a b on cut = cut.crash

pub went : {X E : Type 0} (r : Result X E) (a b : State) → OnOk r (Goes a b) → OnErr r (IsAborted a b)
    → Survives a b (λ _. ⊥)
went (Ok x) a b goes cut = goes.on.crash
went (Err e) a b goes cut = cut.crash
