-- What the path of a row's unit says of it.
use Rattle.std.proofs.Common.{◌≡◌, ℕ, Bool, true, false, cond, List, [], ◌∷◌, ◌++◌, map, Option, Some, None, refl, sym}
use Rattle.std.proofs.Common.{ap, ap₂, subst, ◌∙◌, inl, inr, nat_eq, append_assoc}
use Rattle.std.specs.List.{IsDistinct}
use Rattle.tree_core.proofs.Lists.{eqb_comm}
use Rattle.catalogue_core.proofs.EachOf.{none_found}
use Rattle.catalogue_core.proofs.UnitPlaces.{HaveOwnNumbers}
use Rattle.catalogue_core.specs.Members.{StandsIn}
use Rattle.office_core.specs.declared.done.Remark.TheVariants.{LacksEssential, LevelTooHigh}
use Rattle.csv_import.proofs.Common.{AllByRecursion, Bytes, Empty, Forest, HasItsUnit, Node, Remark, Row, Unit, Values}
use Rattle.csv_import.proofs.Common.{eq-eqb, find, find-append, has, has_id, is_from, is_level_above, lacks_essential}
use Rattle.csv_import.proofs.Common.{last_but_one, nodes, option_map, option_to_list, or_else, path, rank_of, remark_if}
use Rattle.csv_import.proofs.Common.{remark_on, remarks, some_found}

-- ---- lists

-- the last of some units, where there is one
data Ending (us : List Unit) : Type 0 where
  Nothing : us ≡ [] → Ending us
  With : (front : List Unit) (last : Unit) → us ≡ front ++ last ∷ [] → Ending us

ending : (us : List Unit) → Ending us
ending [] = Nothing refl
ending (u ∷ us) = elim (ending us) [
  | Nothing e ↦ With [] u (ap (λ l. u ∷ l) e)
  | With front last e ↦ With (u ∷ front) last (ap (λ l. u ∷ l) e)
]

-- the number of the last but one
last_but_two : (us : List Unit) (p v : Unit) → last_but_one (map (λ (u : Unit). u.id) (us ++ p ∷ v ∷ [])) ≡ Some p.id
last_but_two [] p v = refl
last_but_two (x ∷ []) p v = refl
last_but_two (x ∷ y ∷ []) p v = refl
last_but_two (x ∷ y ∷ z ∷ us) p v = last_but_two (y ∷ z ∷ us) p v

-- ---- levels

-- a row's remark by its own rank and that above it, as they were told
pub remarked_by : (n : ℕ) {own above rank other : Option ℕ} {high b : Bool} → high ≡ is_level_above own above → own ≡ rank
    → above ≡ other → high ≡ b → remark_if b (LevelTooHigh n) ≡ remark_if (is_level_above rank other) (LevelTooHigh n)
remarked_by n told own_is above_is is =
    ap (λ (b : Bool). remark_if b (LevelTooHigh n)) (sym is ∙ (told ∙ ap₂ is_level_above own_is above_is))

-- ---- paths

-- a path ends with the unit that is found
pub path_ends : (is : Unit → Bool) (f : Forest Unit) (v : Unit) → find is (nodes f) ≡ Some v
    → (above : List Unit) × (path is f ≡ above ++ v ∷ [])
path_ends is Empty v e = absurd (cc)
path_ends is (Node a c o) v e =
    at (is a) (find is (nodes c)) refl (ap (λ (r : Option Unit). cond (is a) (Some a) r) (sym (find-append is (nodes c) (nodes o))) ∙ e) (path_ends is c) (path_ends is o)
  where
    at : (b : Bool) (r : Option Unit) → find is (nodes c) ≡ r
        → cond b (Some a) (or_else (find is (nodes c)) (find is (nodes o))) ≡ Some v
        → ((w : Unit) → find is (nodes c) ≡ Some w → (above : List Unit) × (path is c ≡ above ++ w ∷ []))
        → ((w : Unit) → find is (nodes o) ≡ Some w → (above : List Unit) × (path is o ≡ above ++ w ∷ []))
        → (above : List Unit) × (cond b (a ∷ []) (cond (has is c) (a ∷ path is c) (path is o)) ≡ above ++ v ∷ [])
    at true r h k below beside = ([], (let same : a ≡ v = cc in ap (λ (u : Unit). u ∷ []) same))
    at false (Some w) h k below beside =
        let found : Some w ≡ Some v = sym (ap (λ (r : Option Unit). or_else r (find is (nodes o))) h) ∙ k in
        let same : w ≡ v = cc in
        let rest = below w h in
        (a ∷ rest.0, ap (λ (b : Bool). cond b (a ∷ path is c) (path is o)) (some_found is (nodes c) w h) ∙ ap (λ l. a ∷ l) (rest.1 ∙ ap (λ (u : Unit). rest.0 ++ u ∷ []) same))
    at false None h k below beside =
        let found : find is (nodes o) ≡ Some v = sym (ap (λ (r : Option Unit). or_else r (find is (nodes o))) h) ∙ k in
        let rest = beside v found in
        (rest.0, ap (λ (b : Bool). cond b (a ∷ path is c) (path is o)) (none_found is (nodes c) h) ∙ rest.1)

stands_left : (u : Unit) (xs ys : List Unit) → StandsIn u xs → StandsIn u (xs ++ ys)
stands_left u [] ys h = absurd h
stands_left u (x ∷ xs) ys (inl e) = inl e
stands_left u (x ∷ xs) ys (inr h) = inr (stands_left u xs ys h)

stands_right : (u : Unit) (xs ys : List Unit) → StandsIn u ys → StandsIn u (xs ++ ys)
stands_right u [] ys h = h
stands_right u (x ∷ xs) ys h = inr (stands_right u xs ys h)

-- a path goes through units that are there
on_path : (is : Unit → Bool) (f : Forest Unit) (u : Unit) → StandsIn u (path is f) → StandsIn u (nodes f)
on_path is Empty u h = absurd h
on_path is (Node a c o) u h = at (is a) (has is c) h (on_path is c u) (on_path is o u)
  where
    at : (b d : Bool) → StandsIn u (cond b (a ∷ []) (cond d (a ∷ path is c) (path is o)))
        → (StandsIn u (path is c) → StandsIn u (nodes c)) → (StandsIn u (path is o) → StandsIn u (nodes o))
        → StandsIn u (a ∷ (nodes c ++ nodes o))
    at true d (inl e) below beside = inl e
    at true d (inr none) below beside = absurd none
    at false true (inl e) below beside = inl e
    at false true (inr k) below beside = inr (stands_left u (nodes c) (nodes o) (below k))
    at false false k below beside = inr (stands_right u (nodes c) (nodes o) (beside k))

-- a unit that is there is found by its number
by_number : (us : List Unit) (u : Unit) → HaveOwnNumbers us → StandsIn u us → find (has_id u.id) us ≡ Some u
unfolding IsDistinct
by_number [] u d h = absurd h
by_number (v ∷ us) u d (inl e) =
    ap (λ (b : Bool). cond b (Some v) (find (has_id u.id) us)) (eq-eqb u.id v.id (ap (λ (w : Unit). w.id) e))
    ∙ ap Some (sym e)
by_number (v ∷ us) u d (inr h) =
    ap (λ (b : Bool). cond b (Some v) (find (has_id u.id) us)) (other us d.0 h) ∙ by_number us u d.1 h
  where
    flip : (m n : ℕ) → nat_eq m n ≡ false → nat_eq n m ≡ false
    flip m n e = eqb_comm n m ∙ e

    other : (ws : List Unit) → AllByRecursion (λ n. nat_eq v.id n ≡ false) (map (λ (w : Unit). w.id) ws) → StandsIn u ws
        → nat_eq u.id v.id ≡ false
    other [] a k = absurd k
    other (w ∷ ws) a (inl e) = flip v.id u.id (subst (λ (x : Unit). nat_eq v.id x.id ≡ false) (sym e) a.0)
    other (w ∷ ws) a (inr k) = other ws a.1 k

-- ---- remarks

last_two : (row : ℕ) (xs : List Unit) (p v : Unit)
    → remark_on row (xs ++ p ∷ v ∷ []) ≡ remark_if (is_level_above (rank_of v.values.level) (rank_of p.values.level)) (LevelTooHigh row)
last_two row [] p v = refl
last_two row (x ∷ []) p v = refl
last_two row (x ∷ y ∷ []) p v = refl
last_two row (x ∷ y ∷ z ∷ xs) p v = last_two row (y ∷ z ∷ xs) p v

its_values : (f : Forest Unit) (source : Bytes) (row : Row) (v : Unit)
    → find (is_from source row.legacy) (nodes f) ≡ Some v → HasItsUnit f source row → v.values ≡ row.values
its_values f source row v e h =
    let both : Some v.values ≡ Some row.values = sym (ap (option_map (λ (unit : Unit). unit.values)) e) ∙ h in cc

module _ (f : Forest Unit) (source : Bytes) (row : Row) (v : Unit) (found : find (is_from source row.legacy) (nodes f) ≡ Some v) where
  abbrev IsTop : Type 0
  IsTop = HasItsUnit f source row → remark_if (lacks_essential row.values) (LacksEssential row.row) ≡ remark_on row.row (path (is_from source row.legacy) f)

  -- the unit right above
  pub record IsBelow (parent : ℕ) : Type 0 where
    pub above : Unit
    pub found_above : find (has_id parent) (nodes f) ≡ Some above
    pub remarked : HasItsUnit f source row
        → remark_if (is_level_above (rank_of row.values.level) (rank_of above.values.level)) (LevelTooHigh row.row) ≡ remark_on row.row (path (is_from source row.legacy) f)

  -- it is alone on its path
  stands_alone : path (is_from source row.legacy) f ≡ v ∷ [] → IsTop
  stands_alone way h =
      sym (ap (remark_on row.row) way ∙ ap (λ (x : Values). remark_if (lacks_essential x) (LacksEssential row.row)) (its_values f source row v found h))

  -- it has one above it
  stands_below : (front : List Unit) (p : Unit) → HaveOwnNumbers (nodes f)
      → path (is_from source row.legacy) f ≡ front ++ p ∷ v ∷ [] → IsBelow p.id
  stands_below front p own way =
      let there : StandsIn p (nodes f) =
      on_path (is_from source row.legacy) f p (subst (StandsIn p) (sym way) (stands_right p front (p ∷ v ∷ []) (inl refl))) in
      record {
        above = p;
        found_above = by_number (nodes f) p own there;
        remarked = λ h.
            ap (λ (x : Values). remark_if (is_level_above (rank_of x.level) (rank_of p.values.level)) (LevelTooHigh row.row)) (sym (its_values f source row v found h))
            ∙ sym (ap (remark_on row.row) way ∙ last_two row.row front p v);
      }

  two_last : (ends front : List Unit) (p : Unit) → path (is_from source row.legacy) f ≡ ends ++ v ∷ []
      → ends ≡ front ++ p ∷ [] → path (is_from source row.legacy) f ≡ front ++ p ∷ v ∷ []
  two_last ends front p way is = way ∙ (ap (λ (us : List Unit). us ++ v ∷ []) is ∙ append_assoc front (p ∷ []) (v ∷ []))

  above_is : (front : List Unit) (p : Unit) → path (is_from source row.legacy) f ≡ front ++ p ∷ v ∷ []
      → last_but_one (map (λ (u : Unit). u.id) (path (is_from source row.legacy) f)) ≡ Some p.id
  above_is front p way = ap (λ (us : List Unit). last_but_one (map (λ (u : Unit). u.id) us)) way ∙ last_but_two front p v

  pub top_remark : last_but_one (map (λ (u : Unit). u.id) (path (is_from source row.legacy) f)) ≡ None
      → HasItsUnit f source row
      → remark_if (lacks_essential row.values) (LacksEssential row.row) ≡ remark_on row.row (path (is_from source row.legacy) f)
  top_remark none =
      let ends = path_ends (is_from source row.legacy) f v found in
      elim (ending ends.0) [
        | Nothing e ↦ stands_alone (ends.1 ∙ ap (λ (us : List Unit). us ++ v ∷ []) e)
        | With front p e ↦ absurd (let some : None ≡ Some p.id = sym none ∙ above_is front p (two_last ends.0 front p ends.1 e) in cc)
      ]

  pub is_below : (parent : ℕ) → HaveOwnNumbers (nodes f)
      → last_but_one (map (λ (u : Unit). u.id) (path (is_from source row.legacy) f)) ≡ Some parent → IsBelow parent
  is_below parent own some =
      let ends = path_ends (is_from source row.legacy) f v found in
      elim (ending ends.0) [
        | Nothing e ↦ absurd (let none : None ≡ Some parent = sym (ap (λ (us : List Unit). last_but_one (map (λ (u : Unit). u.id) us)) (ends.1 ∙ ap (λ (us : List Unit). us ++ v ∷ []) e)) ∙ some in cc)
        | With front p e ↦
            let way = two_last ends.0 front p ends.1 e in
            let same : Some p.id ≡ Some parent = sym (above_is front p way) ∙ some in
            let number : p.id ≡ parent = cc in
            subst IsBelow number (stands_below front p own way)
      ]

-- ---- one row after another

pub told_more : (f : Forest Unit) (source : Bytes) (row : Row) (rest : List Row) (told all : List Remark) (r : Option Remark)
    → all ≡ told ++ remarks f source (row ∷ rest)
    → option_to_list r ≡ remark_on row.row (path (is_from source row.legacy) f)
    → all ≡ (told ++ option_to_list r) ++ remarks f source rest
told_more f source row rest told all r e is =
    e ∙ (ap (λ l. told ++ (l ++ remarks f source rest)) (sym is) ∙ sym (append_assoc told (option_to_list r) (remarks f source rest)))
