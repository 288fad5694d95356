-- The heads of units that are not drafts.
use Rattle.std.proofs.Common.{◌≡◌, inl, inr, ℕ, Bool, true, false, cond, not, List, [], ◌∷◌, Option, Some, None, refl}
use Rattle.std.proofs.Common.{sym, ap, ◌∙◌}
use Rattle.std.specs.List.{find}
use Rattle.std.specs.Prelude.{filter, map}
use Rattle.public_queries.proofs.Common.{AllByRecursion, Forest, Has, Head, RepresentsUnits, Standing, Trees, Unit}
use Rattle.public_queries.proofs.Common.{and_parts, cons_option, eqb-true, filter_map, found_one, has_id, head_of, is_published}
use Rattle.public_queries.proofs.Common.{is_open_on, is_unit_closed, nodes, option_map, public_head, published_standing}
use Rattle.public_queries.proofs.Common.{published_units, shows_last, standing_of, ℤ}
use Rattle.public_queries.proofs.OwnRows.{Published}

-- what is read by number of units that are there, where drafts are left out
pub heads_published : (db : Trees) (f : Forest Unit) (at : RepresentsUnits db f) (units : List Unit)
    → AllByRecursion (Has (nodes f)) units
    → filter_map (λ id. public_head (find (has_id id) (nodes f))) (map (λ (u : Unit). u.id) units) ≡ map head_of (published_units units)
heads_published db f at [] h = refl
heads_published db f at (u ∷ units) h =
    ap (λ o. cons_option (public_head o) (filter_map (λ id. public_head (find (has_id id) (nodes f))) (map (λ (u : Unit). u.id) units))) (found_one db f at u.id u h.0 refl)
    ∙ by u.draft _ (heads_published db f at units h.1)
  where
    by : (b : Bool) (rest : List Head) → rest ≡ map head_of (published_units units)
        → cons_option (cond b None (Some (head_of u))) rest ≡ map head_of (cond (not b) (u ∷ published_units units) (published_units units))
    by true rest e = e
    by false rest e = ap (λ l. head_of u ∷ l) e

-- drafts among them may be left out before
pub drafts_left_out : (found : ℕ → Option Unit) (ids : List ℕ)
    → filter_map (λ id. public_head (found id)) (filter (λ id. is_published (found id)) ids) ≡ filter_map (λ id. public_head (found id)) ids
drafts_left_out found [] = refl
drafts_left_out found (id ∷ ids) = at (found id) refl (drafts_left_out found ids)
  where
    heads : List ℕ → List Head
    heads = filter_map (λ id. public_head (found id))

    kept : List ℕ
    kept = filter (λ id. is_published (found id)) ids

    by : (u : Unit) → found id ≡ Some u → heads kept ≡ heads ids → (b : Bool) → u.draft ≡ b
        → heads (cond (not b) (id ∷ kept) kept) ≡ cons_option (cond b None (Some (head_of u))) (heads ids)
    by u is later true k = later
    by u is later false k =
        ap (λ o. cons_option (public_head o) (heads kept)) is
        ∙ ap (λ b. cons_option (cond b None (Some (head_of u))) (heads kept)) k ∙ ap (λ l. head_of u ∷ l) later

    at : (one : Option Unit) → found id ≡ one → heads kept ≡ heads ids
        → heads (cond (is_published one) (id ∷ kept) kept) ≡ cons_option (public_head one) (heads ids)
    at None is later = later
    at (Some u) is later = by u is later u.draft refl

-- the same of units that are found by their numbers
pub heads_found : (f : Forest Unit) (units : List Unit)
    → AllByRecursion (λ (x : Unit). find (has_id x.id) (nodes f) ≡ Some x) units
    → filter_map (λ id. public_head (find (has_id id) (nodes f))) (map (λ (u : Unit). u.id) units) ≡ map head_of (published_units units)
heads_found f [] h = refl
heads_found f (u ∷ units) h =
    ap (λ o. cons_option (public_head o) (filter_map (λ id. public_head (find (has_id id) (nodes f))) (map (λ (u : Unit). u.id) units))) h.0
    ∙ by u.draft _ (heads_found f units h.1)
  where
    by : (b : Bool) (rest : List Head) → rest ≡ map head_of (published_units units)
        → cons_option (cond b None (Some (head_of u))) rest ≡ map head_of (cond (not b) (u ∷ published_units units) (published_units units))
    by true rest e = e
    by false rest e = ap (λ l. head_of u ∷ l) e

-- no unit is a draft on a path whose last unit is shown
pub all_published : (day : ℤ) (units : List Unit) → shows_last day (map head_of units) ≡ true
    → published_units units ≡ units
all_published day [] h = refl
all_published day (u ∷ []) h = ap (λ b. cond b (u ∷ []) []) h
all_published day (u ∷ v ∷ units) h =
    let parts = and_parts (is_open_on day (head_of u)) (shows_last day (map head_of (v ∷ units))) h in
    let own = and_parts (not u.draft) (not (is_unit_closed day u)) parts.0 in
    ap (λ b. cond b (u ∷ published_units (v ∷ units)) (published_units (v ∷ units))) own.0
    ∙ ap (λ l. u ∷ l) (all_published day (v ∷ units) parts.1)

-- ---- one head

-- without a standing there is none
pub no_head : (found : Option Unit) → None ≡ published_standing found → None ≡ public_head found
no_head None e = refl
no_head (Some unit) e = at unit.draft e
  where
    at : (b : Bool) → None ≡ cond b None (Some (standing_of unit)) → None ≡ cond b None (Some (head_of unit))
    at true e = refl
    at false e = absurd (let clash : None ≡ Some (standing_of unit) = e in cc)

-- and with one it is the unit's
pub same_public : (found : Option Unit) (standing : Standing) → Published found standing
    → option_map head_of found ≡ public_head found
same_public found standing it =
    ap (option_map head_of) it.is
    ∙ sym (ap public_head it.is ∙ ap (λ b. cond b None (Some (head_of it.unit))) it.no_draft)

-- a unit that is found by a number is there, and has it
pub found_there : (n : ℕ) (xs : List Unit) (u : Unit) → find (has_id n) xs ≡ Some u → Has xs u × (n ≡ u.id)
found_there n [] u e = absurd (let clash : None ≡ Some u = e in cc)
found_there n (x ∷ xs) u e = at (has_id n x) refl e (found_there n xs u)
  where
    at : (b : Bool) → has_id n x ≡ b → cond b (Some x) (find (has_id n) xs) ≡ Some u
        → (find (has_id n) xs ≡ Some u → Has xs u × (n ≡ u.id)) → Has (x ∷ xs) u × (n ≡ u.id)
    at true h e later =
        let same : Some x ≡ Some u = e in
        let is : u ≡ x = cc in
        (inl is, eqb-true n x.id h ∙ sym (ap (λ (y : Unit). y.id) is))
    at false h e later = let it = later e in (inr it.0, it.1)
