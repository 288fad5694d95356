-- What a call answers or leaves, by another clause of it.
use Rattle.std.proofs.Common.{Ok, Err, Result, OnOk}
use Rattle.std.specs.Prelude.{IfOk}

pub if_ok_by : {X E : Type 0} (r : Result X E) (P : Type 0) (Q : X → Type 0) → (P → IfOk r Q) → OnOk r P → IfOk r Q
if_ok_by (Ok x) P Q f p = f p
if_ok_by (Err e) P Q f p = tt

pub on_ok_by : {X E : Type 0} (r : Result X E) (P Q : Type 0) → (P → OnOk r Q) → OnOk r P → OnOk r Q
on_ok_by (Ok x) P Q f p = f p
on_ok_by (Err e) P Q f p = tt
