-- The line of a refusal for a container.
use Rattle.std.proofs.Common.{◌≡◌, ◌∙◌, ◌++◌, ℕ, List, ap, ap₂, append_assoc, codes, sym}
use Rattle.std.specs.Fmt.{decimal}
use Rattle.desk_core.specs.Refusals.{refusal_name, refusal_number}
use Rattle.desk_core.specs.declared.refusal.Refusal.{Refusal}
use Rattle.desk_core.specs.declared.refusal.Refusal.TheVariants.{WithReader}
use Rattle.program.specs.Faults.{line_of_refusal}

abbrev in_pieces : ℕ → ℕ → List ℕ → List ℕ
in_pieces container code name =
    codes "refused " ++ decimal code ++ codes " " ++ name ++ codes " container " ++ decimal container ++ codes "\n"

for_container : (container : ℕ) → in_pieces container 21 (codes "WithReader") ≡ line_of_refusal (WithReader container)
for_container container =
    ap (λ (l : List ℕ). l ++ codes "\n")
    (append_assoc (codes "refused " ++ decimal 21 ++ codes " " ++ codes "WithReader") (codes " container ") (decimal container))

pub reader_line : (why : Refusal) (container code : ℕ) (name line : List ℕ) → why ≡ WithReader container
    → code ≡ refusal_number why → name ≡ refusal_name why
    → line ≡ codes "refused " ++ decimal code ++ codes " " ++ name ++ codes " container " ++ decimal container ++ codes "\n"
    → line ≡ line_of_refusal why
reader_line why container code name line is code_is name_is told =
    told ∙ (ap₂ (in_pieces container) (code_is ∙ ap refusal_number is) (name_is ∙ ap refusal_name is) ∙ (for_container container ∙ sym (ap line_of_refusal is)))
