-- Every unit of what the public may know is published.
use Rattle.std.proofs.Common.{◌≡◌, Bool, true, false, cond, ◌||◌, List, [], ◌∷◌, ◌++◌, Some, refl, sym, ap, ◌∙◌, subst}
use Rattle.std.proofs.Common.{inl, inr}
use Rattle.std.specs.Prelude.{ℤ}
use Rattle.catalogue_core.proofs.Common.{AllByRecursion, Empty, Forest, IsPublished, Node, PublicUnit, StandsIn}
use Rattle.catalogue_core.proofs.Common.{TellsOf, Told, Unit, before_last, each, is_unit_closed, last_of, list_any}
use Rattle.catalogue_core.proofs.Common.{list_any-append, nodes, paths_below, public, public_of, public_unit, stub_of}
use Rattle.catalogue_core.proofs.DistinctLists.{all_so}
use Rattle.catalogue_core.proofs.EachOf.{all_append}

pub stands_left : {X : Type 0} (x : X) (xs ys : List X) → StandsIn x xs → StandsIn x (xs ++ ys)
stands_left x [] ys h = absurd h
stands_left x (z ∷ zs) ys (inl e) = inl e
stands_left x (z ∷ zs) ys (inr h) = inr (stands_left x zs ys h)

pub stands_right : {X : Type 0} (x : X) (xs ys : List X) → StandsIn x ys → StandsIn x (xs ++ ys)
stands_right x [] ys h = h
stands_right x (z ∷ zs) ys h = inr (stands_right x zs ys h)

abbrev pub wider : (day : ℤ) (ways more : List (List Unit))
    → ((way : List Unit) → StandsIn way ways → StandsIn way more) → (told : PublicUnit) → IsPublished day ways told
    → IsPublished day more told
wider day ways more f told p =
    record { way = p.way; stands = f p.way p.stands; no_draft = p.no_draft; open_above = p.open_above; answers = p.answers }

pub before_last-push : {X : Type 0} (xs : List X) (x : X) → before_last (xs ++ x ∷ []) ≡ xs
before_last-push [] x = refl
before_last-push (y ∷ []) x = refl
before_last-push (y ∷ z ∷ zs) x = ap (λ l. y ∷ l) (before_last-push (z ∷ zs) x)

pub last_of-push : (xs : List Unit) (x : Unit) → last_of (xs ++ x ∷ []) ≡ Some x
last_of-push [] x = refl
last_of-push (y ∷ []) x = refl
last_of-push (y ∷ z ∷ zs) x = last_of-push (z ∷ zs) x

pub none_pushed : (test : Unit → Bool) (w : List Unit) (unit : Unit) → list_any test w ≡ false → test unit ≡ false
    → list_any test (w ++ unit ∷ []) ≡ false
none_pushed test w unit h e =
    list_any-append test w (unit ∷ []) ∙ (ap (λ b. b || (test unit || false)) h ∙ ap (λ b. b || false) e)

pub told_of : (day : ℤ) (unit : Unit) (b : Bool) → is_unit_closed day unit ≡ b
    → public_unit (unit, b) ≡ cond (is_unit_closed day unit) (stub_of unit unit.until) (Told unit.id unit.values)
told_of day unit true e = ap (λ b. cond b (stub_of unit unit.until) (Told unit.id unit.values)) (sym e)
told_of day unit false e = ap (λ b. cond b (stub_of unit unit.until) (Told unit.id unit.values)) (sym e)

-- the unit itself
abbrev pub here : (day : ℤ) (w : List Unit) (unit : Unit) (ways : List (List Unit)) → unit.draft ≡ false
    → list_any (λ (u : Unit). u.draft) w ≡ false → list_any (is_unit_closed day) w ≡ false
    → IsPublished day ((w ++ unit ∷ []) ∷ ways) (public_unit (unit, is_unit_closed day unit))
here day w unit ways d h k =
    record {
      way = w ++ unit ∷ [];
      stands = inl refl;
      no_draft = none_pushed (λ (u : Unit). u.draft) w unit h d;
      open_above = subst (λ l. list_any (is_unit_closed day) l ≡ false) (sym (before_last-push w unit)) k;
      answers = subst (λ l. TellsOf day l (public_unit (unit, is_unit_closed day unit))) (sym (last_of-push w unit)) (told_of day unit (is_unit_closed day unit) refl);
    }

below_at : (day : ℤ) (w : List Unit) (unit : Unit) (c : Forest Unit) (b : Bool) → is_unit_closed day unit ≡ b
    → (b ≡ false → AllByRecursion (IsPublished day (paths_below (w ++ unit ∷ []) c)) (nodes (public_of day c)))
    → AllByRecursion (IsPublished day (paths_below (w ++ unit ∷ []) c)) (nodes (each public_unit (cond b Empty (public (λ (u : Unit). u.draft) (is_unit_closed day) c))))
below_at day w unit c true e h = tt
below_at day w unit c false e h = h refl

pub published_below : (day : ℤ) (w : List Unit) (f : Forest Unit) → list_any (λ (u : Unit). u.draft) w ≡ false
    → list_any (is_unit_closed day) w ≡ false → AllByRecursion (IsPublished day (paths_below w f)) (nodes (public_of day f))
published_below day w Empty h k = tt
published_below day w (Node unit c o) h k =
    at unit.draft refl (published_below day w o h k)
    (λ d e. published_below day (w ++ unit ∷ []) c (none_pushed (λ (u : Unit). u.draft) w unit h d) (none_pushed (is_unit_closed day) w unit k e))
  where
    beside : AllByRecursion (IsPublished day (paths_below w o)) (nodes (public_of day o))
        → AllByRecursion (IsPublished day (paths_below w (Node unit c o))) (nodes (public_of day o))
    beside = all_so (IsPublished day (paths_below w o)) (IsPublished day (paths_below w (Node unit c o))) (wider day (paths_below w o) (paths_below w (Node unit c o)) (λ way s. inr (stands_right way (paths_below (w ++ unit ∷ []) c) (paths_below w o) s))) (nodes (public_of day o))

    at : (b : Bool) → unit.draft ≡ b → AllByRecursion (IsPublished day (paths_below w o)) (nodes (public_of day o))
        → (unit.draft ≡ false → is_unit_closed day unit ≡ false → AllByRecursion (IsPublished day (paths_below (w ++ unit ∷ []) c)) (nodes (public_of day c)))
        → AllByRecursion (IsPublished day (paths_below w (Node unit c o))) (nodes (each public_unit (cond b (public (λ (u : Unit). u.draft) (is_unit_closed day) o) (Node (unit, is_unit_closed day unit) (cond (is_unit_closed day unit) Empty (public (λ (u : Unit). u.draft) (is_unit_closed day) c)) (public (λ (u : Unit). u.draft) (is_unit_closed day) o)))))
    at true d p q = beside p
    at false d p q = (
      here day w unit (paths_below (w ++ unit ∷ []) c ++ paths_below w o) d h k,
      all_append (IsPublished day (paths_below w (Node unit c o))) (nodes (each public_unit (cond (is_unit_closed day unit) Empty (public (λ (u : Unit). u.draft) (is_unit_closed day) c)))) (nodes (public_of day o))
          (all_so (IsPublished day (paths_below (w ++ unit ∷ []) c)) (IsPublished day (paths_below w (Node unit c o))) (wider day (paths_below (w ++ unit ∷ []) c) (paths_below w (Node unit c o)) (λ way s. inr (stands_left way (paths_below (w ++ unit ∷ []) c) (paths_below w o) s))) (nodes (each public_unit (cond (is_unit_closed day unit) Empty (public (λ (u : Unit). u.draft) (is_unit_closed day) c))))
          (below_at day w unit c (is_unit_closed day unit) refl (q d)))
          (beside p),
    )
