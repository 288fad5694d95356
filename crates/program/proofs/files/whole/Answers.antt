use Rattle.std.proofs.Common.{◌∙◌, ◌++◌, ℕ, List, Option, Some, None, Result, Ok, Err, IfOk, OnOk, append-nil, ap}
use Rattle.std.proofs.Common.{subst, sym}
use Rattle.program.specs.ReadFiles.{AreAllOf}
use Rattle.program.proofs.Common.{Consumes, IsAtEnd}
use Rattle.program.proofs.files.whole.Goals as goal

-- what was read to the end of a reader is all that it had left
are_all : (left after : Option (List ℕ)) (bytes : List ℕ) → Consumes left after bytes → IsAtEnd after → AreAllOf left bytes
are_all None after bytes read ended = tt
are_all (Some held) None bytes read ended = absurd read
are_all (Some held) (Some rest) bytes read ended = sym (read ∙ ap (λ xs. bytes ++ xs) ended ∙ append-nil bytes)

all_if_read : {V E : Type 0} → (left after : Option (List ℕ)) (bytes : V → List ℕ) (result : Result V E)
    → IfOk result (λ v. Consumes left after (bytes v)) → OnOk result (IsAtEnd after)
    → IfOk result (λ v. AreAllOf left (bytes v))
all_if_read left after bytes (Ok v) read ended = are_all left after (bytes v) read ended
all_if_read left after bytes (Err e) read ended = tt

pub returns : goal.returns
returns g c =
    let of_left = all_if_read _ _ (λ v. v.items) c.read_to_end.result c.read_to_end.ensures.bytes c.read_to_end.ensures.end in
    subst (λ left. IfOk c.read_to_end.result (λ v. AreAllOf left v.items)) c.new.ensures.bytes of_left
