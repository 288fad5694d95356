-- Rows of units that are all different, by a number of the unit and one of their own.
use Rattle.std.proofs.Common.{◌≡◌, ℕ, Bool, false, not, ◌&&◌, List, [], ◌∷◌, ◌++◌, refl, sym, ap, ◌∙◌, subst, nat_eq}
use Rattle.std.proofs.Common.{inl, inr, map}
use Rattle.std.specs.List.{IsDistinct}
use Rattle.state_encoding.proofs.Common.{AllByRecursion, BoxKey, In, In-append, In-map, Unit, all_append, and_left}
use Rattle.state_encoding.proofs.Common.{and_right, any_from_In, distinct, distinct_again, distinct_filter, false≢true}
use Rattle.state_encoding.proofs.Common.{filter, flat_map, flat_map-cons, head_apart, is_same_box, not-true}
use Rattle.state_encoding.proofs.Common.{other_number, unit_number}
use Rattle.state_encoding.proofs.RowsByNumber.{each_in, in_each, in_filter}

-- ---- lists of lists

-- what stands in the rows of units is a row of one
pub record Of {R : Type 0} (rows : Unit → List R) (us : List Unit) (r : R) : Type 0 where
  pub unit : Unit
  pub there : In unit us
  pub own : In r (rows unit)

pub in_flat_map : {R : Type 0} (rows : Unit → List R) (us : List Unit) (r : R) → In r (flat_map rows us) → Of rows us r
in_flat_map rows [] r i = absurd i
in_flat_map rows (u ∷ us) r i = elim (In-append (rows u) (flat_map rows us) r (subst (In r) (flat_map-cons rows u us) i)) [
  | inl a ↦ record { unit = u; there = inl refl; own = a }
  | inr b ↦ let o = in_flat_map rows us r b in record { unit = o.unit; there = inr o.there; own = o.own }
]

distinct_beside : {R : Type 0} (e : R → R → Bool) (xs ys : List R) → IsDistinct e xs → IsDistinct e ys
    → ((x y : R) → In x xs → In y ys → e x y ≡ false) → IsDistinct e (xs ++ ys)
unfolding IsDistinct
distinct_beside e [] ys d f h = f
distinct_beside e (x ∷ xs) ys d f h =
    (all_append (λ y. e x y ≡ false) xs ys d.0 (in_each (λ y. e x y ≡ false) ys (λ y i. h x y (inl refl) i)), distinct_beside e xs ys d.1 f (λ z y i j. h z y (inr i) j))

-- ---- rows of units

module _ {R : Type 0} (first second : R → ℕ) (rows : Unit → List R) (own : (u : Unit) → AllByRecursion (λ r. first r ≡ u.id) (rows u)) where
  abbrev same : R → R → Bool
  same a b = nat_eq (first a) (first b) && nat_eq (second a) (second b)

  one_apart : (rs : List R) → IsDistinct nat_eq (map second rs)
      → IsDistinct (λ a b. nat_eq (first a) (first b) && nat_eq (second a) (second b)) rs
  unfolding IsDistinct
  one_apart [] d = tt
  one_apart (r ∷ rs) d = (others rs d.0, one_apart rs d.1)
    where
      others : (xs : List R) → AllByRecursion (λ n. nat_eq (second r) n ≡ false) (map second xs)
          → AllByRecursion (λ x. (nat_eq (first r) (first x) && nat_eq (second r) (second x)) ≡ false) xs
      others [] h = tt
      others (x ∷ xs) h = (and_right (nat_eq (first r) (first x)) (nat_eq (second r) (second x)) h.0, others xs h.1)

  -- where the units have numbers of their own, and the rows of each unit too
  pub pairs_apart : (us : List Unit) → IsDistinct nat_eq (map unit_number us)
      → ((u : Unit) → In u us → IsDistinct nat_eq (map second (rows u)))
      → IsDistinct (λ a b. nat_eq (first a) (first b) && nat_eq (second a) (second b)) (flat_map rows us)
  unfolding IsDistinct
  pairs_apart [] d h = tt
  pairs_apart (u ∷ us) d h =
      let p = head_apart u.id (map unit_number us) d in
      subst (IsDistinct same) (sym (flat_map-cons rows u us))
      (distinct_beside same (rows u) (flat_map rows us) (one_apart (rows u) (h u (inl refl))) (pairs_apart us p.1 (λ v i. h v (inr i)))
      (λ a b i j.
      let o = in_flat_map rows us b j in
      let x : first a ≡ u.id = each_in (λ r. first r ≡ u.id) (rows u) a (own u) i in
      let y : first b ≡ o.unit.id = each_in (λ r. first r ≡ o.unit.id) (rows o.unit) b (own o.unit) o.own in
      and_left (nat_eq (first a) (first b)) (nat_eq (second a) (second b))
      (other_number (first a) (first b) (λ e. false≢true (sym p.0 ∙ any_from_In (map unit_number us) u.id (subst (λ n. In n (map unit_number us)) (sym y ∙ (sym e ∙ x)) (In-map unit_number us o.unit o.there)))))))

-- ---- containers

pub all_different : (boxes : List BoxKey) → distinct boxes ≡ boxes → IsDistinct is_same_box boxes
unfolding IsDistinct
all_different [] e = tt
all_different (b ∷ rest) e =
    let p : BoxKey → Bool = λ later. not (is_same_box b later) in
    let kept : filter p (distinct rest) ≡ rest = tails b b (filter p (distinct rest)) rest e in
    let again : distinct rest ≡ rest =
    ap distinct (sym kept) ∙ (distinct_filter p (distinct rest) ∙ (ap (filter p) (distinct_again rest) ∙ kept)) in
    (in_each (λ x. is_same_box b x ≡ false) rest (λ x i. not-true (is_same_box b x) (in_filter p (distinct rest) x (subst (In x) (sym kept) i)).1), all_different rest again)
  where
    tails : (a b : BoxKey) (xs ys : List BoxKey) → (a ∷ xs) ≡ (b ∷ ys) → xs ≡ ys
    tails a b xs ys e = cc
