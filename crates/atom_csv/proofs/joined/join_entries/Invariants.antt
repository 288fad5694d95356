use Rattle.std.proofs.Common.{◌≡◌, fold, take, []}
use Rattle.atom_csv.proofs.Common.{flat_map, string_bytes, told_by, trimmed_fields, value, with_entry}
use Rattle.atom_csv.proofs.joined.join_entries.Given as goal

abbrev pub invariant-loop-column : goal.invariant-loop-column
invariant-loop-column l = string_bytes l.text
    ≡ fold with_entry [] (flat_map (λ k. told_by k (value k l.header (trimmed_fields l.row))) (take l.column-index l.column-items))
