-- Only the permits for units that are there bear on what is open.
use Rattle.std.proofs.Common.{◌≡◌, ℕ, ℤ, Bool, true, false, cond, not, List, [], ◌∷◌, ◌++◌, filter, nat_eq, refl, sym}
use Rattle.std.proofs.Common.{ap, ap₂, ◌∙◌}
use Rattle.std.specs.Prelude.{◌&&◌, ◌||◌}
use Rattle.catalogue_core.specs.ContainerContents.{is_open}
use Rattle.office_core.specs.State.{Permit}
use Rattle.access.proofs.Common.{AllByRecursion, BoxKey, Empty, Forest, Node, Unit, all_append, all_filtered, all_split}
use Rattle.access.proofs.Common.{eqb-true, false≢true, int_le, is_permitted, is_some_there, is_unit_closed}
use Rattle.access.proofs.Common.{is_withheld_from, list_all, list_any, nodes, paths_below}
use Rattle.access.proofs.BranchesApart.{lies, lying}

all_ways : (P : Unit → Type 0) (A : List Unit) (f : Forest Unit) → AllByRecursion P A → AllByRecursion P (nodes f)
    → AllByRecursion (AllByRecursion P) (paths_below A f)
all_ways P A Empty above all = tt
all_ways P A (Node a c o) above all =
    let rest = all_split P (nodes c) (nodes o) all.1 in
    let B = A ++ a ∷ [] in
    let here = all_append P A (a ∷ []) above (all.0, tt) in
    (here, all_append (AllByRecursion P) (paths_below B c) (paths_below A o) (all_ways P B c here rest.0) (all_ways P A o above rest.1))

module _ (p q : ℕ → Bool) where
  abbrev pub IsAlike : Unit → Type 0
  IsAlike unit = p unit.id ≡ q unit.id

  any_alike : (way : List Unit) → AllByRecursion IsAlike way
      → list_any (λ (unit : Unit). p unit.id) way ≡ list_any (λ (unit : Unit). q unit.id) way
  any_alike [] all = refl
  any_alike (unit ∷ way) all = ap₂ ◌||◌ all.0 (any_alike way all.1)

  seen_alike : (day : ℤ) (ways : List (List Unit)) → AllByRecursion (AllByRecursion IsAlike) ways
      → list_all (λ way. not (is_withheld_from p day way)) ways ≡ list_all (λ way. not (is_withheld_from q day way)) ways
  seen_alike day [] all = refl
  seen_alike day (way ∷ ways) all =
      ap₂ ◌&&◌ (ap (λ b. not (list_any (λ (unit : Unit). unit.draft) way || (list_any (is_unit_closed day) way && not (false || b)))) (any_alike way all.0)) (seen_alike day ways all.1)

  pub open_alike : (f : Forest Unit) (box : BoxKey) (day : ℤ) → AllByRecursion IsAlike (nodes f)
      → is_open f box p day ≡ is_open f box q day
  unfolding is_open
  open_alike f box day all =
      ap (λ b. is_some_there (lying box [] f) && b) (seen_alike day (lying box [] f) (all_filtered (AllByRecursion IsAlike) (lies box) (paths_below [] f) (all_ways IsAlike [] f tt all)))

-- the permits for other units are not asked
pub permitted_left : (q : ℕ → Bool) (day : ℤ) (permits : List Permit) (v : ℕ) → q v ≡ true
    → is_permitted day (filter (λ (permit : Permit). q permit.unit) permits) v ≡ is_permitted day permits v
permitted_left q day [] v kept = refl
permitted_left q day (permit ∷ permits) v kept =
    at (q permit.unit) (nat_eq permit.unit v) refl refl (permitted_left q day permits v kept)
  where
    at : (stays same : Bool) → q permit.unit ≡ stays → nat_eq permit.unit v ≡ same
        → is_permitted day (filter (λ (permit : Permit). q permit.unit) permits) v ≡ is_permitted day permits v
        → is_permitted day (cond stays (permit ∷ filter (λ (permit : Permit). q permit.unit) permits) (filter (λ (permit : Permit). q permit.unit) permits)) v ≡ ((nat_eq permit.unit v && int_le day permit.until) || is_permitted day permits v)
    at true same e is later = ap (λ b. (nat_eq permit.unit v && int_le day permit.until) || b) later
    at false true e is later = absurd (false≢true (sym e ∙ ap q (eqb-true permit.unit v is) ∙ kept))
    at false false e is later = later ∙ sym (ap (λ b. (b && int_le day permit.until) || is_permitted day permits v) is)
