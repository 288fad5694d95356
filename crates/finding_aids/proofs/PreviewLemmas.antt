-- What the code prints of a file's rows are the finding aids of the merged catalogue.
use Rattle.std.proofs.Common.{◌≡◌, ℕ, List, [], ◌∷◌, ◌++◌, None, Ok, Err, refl, sym, ap, ◌∙◌}
use Rattle.std.proofs.Math.Path.{fun_ext}
use Rattle.isad_core.specs.Boxes.{distinct}
use Rattle.atom_csv.specs.ReadProgress.{IfBad}
use Rattle.atom_csv.specs.declared.file.FileFault.{FileFault}
use Rattle.atom_csv.specs.declared.file.FileFault.TheVariants.{Bad, Memory}
use Rattle.finding_aids.specs.Preview.{after_merging}
use Rattle.finding_aids.proofs.Common.{AreNumbered, BTreeMap, BoxKey, Bytes, Empty, Forest, PublicUnit, Repository, Row}
use Rattle.finding_aids.proofs.Common.{Texts, Tree, aid, box_number, empty_catalogue, faults, filter, flat_map, grove}
use Rattle.finding_aids.proofs.Common.{is_known, merge, merged, not, number_by, numbered_from, or_first, seen_below}
use Rattle.finding_aids.proofs.Common.{shown_by, unwrap_or}

-- ---- every row of a file is new

all_new : (rows : List Row) → filter (λ row. not (is_known Empty [] row)) rows ≡ rows
all_new [] = refl
all_new (row ∷ rows) = ap (λ (rest : List Row). row ∷ rest) (all_new rows)

merge-rows : (rows : List Row)
    → merge empty_catalogue [] rows ≡ or_first (faults rows) (merged empty_catalogue [] rows (numbered_from Empty [] 1 [] rows))
merge-rows rows = ap (λ (new : List Row). or_first (faults new) (merged empty_catalogue [] rows (numbered_from Empty [] 1 [] new))) (all_new rows)

-- ---- what is shown, by the numbers of the code

numbers_by : (seen : List BoxKey) (numbers : BTreeMap Texts ℕ) → AreNumbered seen numbers
    → number_by numbers ≡ box_number (distinct seen)
numbers_by seen numbers h = fun_ext (λ b. ap (λ o. unwrap_or o 0) (h.numbered b))

-- ---- both together

pub previewed : (at : Repository) (rows : List Row) (trees : List Tree) (numbers : BTreeMap Texts ℕ) (text : Bytes)
    → faults rows ≡ []
    → grove trees ≡ seen_below None (numbered_from Empty [] 1 [] rows)
    → AreNumbered (flat_map (λ row. row.values.boxes) rows) numbers
    → text ≡ [] ++ aid (shown_by at (number_by numbers) [] 0 (grove trees))
    → after_merging at (merge empty_catalogue [] rows) ≡ Ok text
previewed at rows trees numbers text none planted numbered printed =
    let seen = flat_map (λ (row : Row). row.values.boxes) rows in
    let public = seen_below None (numbered_from Empty [] 1 [] rows) in
    ap (after_merging at) (merge-rows rows)
    ∙ (ap (λ (fs : List (ℕ × ℕ)). after_merging at (or_first fs (merged empty_catalogue [] rows (numbered_from Empty [] 1 [] rows)))) none
    ∙ ap Ok
    (ap (λ (n : BoxKey → ℕ). aid (shown_by at n [] 0 public)) (sym (numbers_by seen numbers numbered))
    ∙ (ap (λ (f : Forest PublicUnit). aid (shown_by at (number_by numbers) [] 0 f)) (sym planted) ∙ sym printed)))

pub preview_refused : (at : Repository) (rows : List Row) (row cause : ℕ)
    → (later : List (ℕ × ℕ)) × (faults rows ≡ (row, cause) ∷ later)
    → after_merging at (merge empty_catalogue [] rows) ≡ Err (row, cause)
preview_refused at rows row cause h =
    ap (after_merging at) (merge-rows rows ∙ ap (λ (fs : List (ℕ × ℕ)). or_first fs (merged empty_catalogue [] rows (numbered_from Empty [] 1 [] rows))) h.1)

-- a fault that tells a row and its cause tells what follows from them
pub bad_after : (P Q : ℕ → ℕ → Type 0) → ((row cause : ℕ) → P row cause → Q row cause) → (e : FileFault) → IfBad e P
    → IfBad e Q
bad_after P Q f Memory h = tt
bad_after P Q f (Bad row cause) h = f row cause h

-- what was printed from nothing on
pub printed_whole : (at : Repository) (number : BoxKey → ℕ) (text start : Bytes) (ids : List Bytes) (given trees : List Tree)
    → start ≡ [] → ids ≡ [] → given ≡ trees
    → text ≡ start ++ aid (shown_by at number ids 0 (grove given))
    → text ≡ [] ++ aid (shown_by at number [] 0 (grove trees))
printed_whole at number text start ids given trees none top same h =
    h ∙ (ap (λ (s : Bytes). s ++ aid (shown_by at number ids 0 (grove given))) none
    ∙ (ap (λ (i : List Bytes). [] ++ aid (shown_by at number i 0 (grove given))) top
    ∙ ap (λ (ts : List Tree). [] ++ aid (shown_by at number [] 0 (grove ts))) same))
