-- The list of the tops, printed from their heads, is that of what the public may know.
use Rattle.std.proofs.Common.{◌≡◌, ℕ, [], ◌∷◌, ◌++◌, ap}
use Rattle.std.specs.Fmt.{decimal}
use Rattle.std.specs.Prelude.{map}
use Rattle.office_core.specs.State.{State}
use Rattle.office_core.specs.declared.query.Query.TheVariants as query
use Rattle.public_queries.proofs.Common.{Shown, Text, all_bare, answer, head_line, head_of, line, press}
use Rattle.public_queries.proofs.Common.{published_units, tops, tops_text}
use Rattle.public_queries.proofs.HeadsPrinted.{same_beside}

-- the list of the tops, printed from their heads
pub fonds_printed : (s : State)
    → answer s query.Fonds ≡ Text (tops_text (all_bare (press s).at [] s.day (map head_of (published_units (tops s.catalogue.forest)))))
fonds_printed s =
    ap Text
    (same_beside s.day (λ (top : ℕ × Shown). line (decimal top.0 ++ 32 ∷ head_line top.1)) (λ n a b e. ap (λ l. line (decimal n ++ 32 ∷ l)) e) (press s) [] s.catalogue.forest)
