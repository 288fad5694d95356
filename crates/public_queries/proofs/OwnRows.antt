-- What a row tells of a unit, and that a draft is not shown, wherever it is.
use Rattle.std.proofs.Common.{◌≡◌, ℕ, Bool, true, false, cond, not, ◌&&◌, List, [], ◌∷◌, ◌++◌, Option, Some, None, refl}
use Rattle.std.proofs.Common.{ap, subst, ◌∙◌}
use Rattle.std.specs.List.{find}
use Rattle.std.specs.Prelude.{map}
use Rattle.public_queries.proofs.Common.{AllByRecursion, Forest, Standing, Unit, all_split, eqb-true, has_id, head_of}
use Rattle.public_queries.proofs.Common.{is_open_on, nodes, path, published_standing, shows_last, standing_of, ℤ}
use Rattle.public_queries.proofs.Standing.{Stands}

-- ---- what a row tells

-- a standing that is told is that of a unit which is no draft
pub record Published (found : Option Unit) (standing : Standing) : Type 0 where
  pub unit : Unit
  pub is : found ≡ Some unit
  pub no_draft : unit.draft ≡ false
  pub told : standing ≡ standing_of unit

pub published : (found : Option Unit) (standing : Standing) → Some standing ≡ published_standing found
    → Published found standing
published None standing e = absurd (let clash : Some standing ≡ None = e in cc)
published (Some unit) standing e = at unit.draft refl e
  where
    at : (b : Bool) → unit.draft ≡ b → Some standing ≡ cond b None (Some (standing_of unit))
        → Published (Some unit) standing
    at true d e = absurd (let clash : Some standing ≡ None = e in cc)
    at false d e = record {
      unit = unit;
      is = refl;
      no_draft = d;
      told = (let same : Some standing ≡ Some (standing_of unit) = e in cc);
    }

-- ---- a unit that is not shown

never : (b : Bool) → (b && false) ≡ false
never true = refl
never false = refl

pub shows_no_draft : (day : ℤ) (above : List Unit) (node : Unit) → not node.draft ≡ false
    → shows_last day (map head_of (above ++ node ∷ [])) ≡ false
shows_no_draft day [] node e = e
shows_no_draft day (x ∷ []) node e =
    ap (λ b. is_open_on day (head_of x) && b) e ∙ never (is_open_on day (head_of x))
shows_no_draft day (x ∷ y ∷ above) node e =
    ap (λ b. is_open_on day (head_of x) && b) (shows_no_draft day (y ∷ above) node e)
    ∙ never (is_open_on day (head_of x))

-- the units of a path are found by their numbers
module _ (day : ℤ) (u : ℕ) (f : Forest Unit) (each : AllByRecursion (λ (x : Unit). find (has_id x.id) (nodes f) ≡ Some x) (path (has_id u) f)) where
  module _ (it : Stands (has_id u) f) where
    all : AllByRecursion (λ (x : Unit). find (has_id x.id) (nodes f) ≡ Some x) (it.above ++ it.node ∷ [])
    all = subst (AllByRecursion (λ (x : Unit). find (has_id x.id) (nodes f) ≡ Some x)) it.way each

    pub found_node : find (has_id u) (nodes f) ≡ Some it.node
    found_node =
        ap (λ n. find (has_id n) (nodes f)) (eqb-true u it.node.id it.passes)
        ∙ (all_split (λ (x : Unit). find (has_id x.id) (nodes f) ≡ Some x) it.above (it.node ∷ []) all).1.0
