-- How often keys occur in a list.
use Rattle.std.specs.Prelude.{ℕ, Bool, List, nat_lt}
use Rattle.std.specs.declared.cmp.Ordering.{Ordering}
use Rattle.std.specs.List.{list_any, count_by}
use Rattle.std.specs.Ordering.{is_eq}

-- how often a key occurs
abbrev pub key_count : {K : Type 0} → (K → K → Ordering) → K → List K → ℕ
key_count cmp key keys = count_by (λ other. is_eq (cmp key other)) keys

-- whether some key occurs more than `most` times
abbrev pub key_occurs_more_than : {K : Type 0} → (K → K → Ordering) → ℕ → List K → Bool
key_occurs_more_than cmp most keys = list_any (λ key. nat_lt most (key_count cmp key keys)) keys
