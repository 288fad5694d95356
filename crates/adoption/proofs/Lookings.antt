-- Calls that look, one after the other.
use Rattle.std.proofs.Common.{Result, Ok, Err}
use Rattle.sqlite.specs.State.{State}
use Rattle.adoption.specs.ReadOnlyCalls.{Looks}
use Rattle.adoption.proofs.Common.{LeavesUnchanged, StoreFault, cut_then, looks_then}

pub looked_well : {X : Type 0} (a b : State) (x : X) → LeavesUnchanged a b → Looks a b (Ok x)
looked_well a b x one = record { crash = one.goes.on.crash; looks = one; aborts = tt }

pub looked_then : {X : Type 0} (a b c : State) (r : Result X StoreFault) → LeavesUnchanged a b → Looks b c r
    → Looks a c r
looked_then a b c (Ok x) one two = looked_well a c x (looks_then one two.looks)
looked_then a b c (Err e) one two = let cut = cut_then one.goes.on two.aborts in record { crash = cut.crash; looks = tt; aborts = cut }
