use Rattle.std.proofs.Common.{◌≡◌, fold, map, Bor}
use Rattle.atom_csv.proofs.Common.{Bytes, string_bytes, trimmed_entry, with_entry}
use Rattle.atom_csv.proofs.joined.add_entries.Given as goal

abbrev pub invariant-loop-part : goal.invariant-loop-part
invariant-loop-part l =
    string_bytes l.text ≡ fold with_entry (string_bytes l.fn.text) (map (λ (part : Bor Bytes). trimmed_entry part.now) l.yielded)
