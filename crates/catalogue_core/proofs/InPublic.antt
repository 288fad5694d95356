-- What is published stands in what the public may know.
use Rattle.std.proofs.Common.{◌≡◌, Bool, true, false, cond, List, [], ◌∷◌, ◌++◌, Some, refl, sym, ap, ◌∙◌, subst, inl}
use Rattle.std.proofs.Common.{inr, ◌⊎◌, append_assoc}
use Rattle.std.specs.Prelude.{ℤ}
use Rattle.catalogue_core.specs.PublicationLaws.{PublishedInPublic, PublicIsPublished}
use Rattle.catalogue_core.proofs.Common.{AllByRecursion, Empty, Forest, IsPublished, Node, PublicUnit, StandsIn}
use Rattle.catalogue_core.proofs.Common.{TellsOf, Unit, before_last, each, is_unit_closed, last_of, list_any}
use Rattle.catalogue_core.proofs.Common.{list_any-append, nodes, or_parts, paths, paths_below, public, public_of}
use Rattle.catalogue_core.proofs.Common.{public_unit}
use Rattle.catalogue_core.proofs.PublishedUnits.{stands_left, stands_right, last_of-push, told_of, published_below}

-- ---- ways

-- where it stands, on the left or on the right
either : {X : Type 0} (x : X) (xs ys : List X) → StandsIn x (xs ++ ys) → StandsIn x xs ⊎ StandsIn x ys
either x [] ys h = inr h
either x (z ∷ zs) ys (inl e) = inl (inl e)
either x (z ∷ zs) ys (inr h) = elim (either x zs ys h) [ inl l ↦ inl (inr l) | inr r ↦ inr r ]

-- each way into a forest goes on from what is above it
goes_on : (above way : List Unit) (f : Forest Unit) → StandsIn way (paths_below above f)
    → (next : Unit) × (rest : List Unit) × (way ≡ above ++ next ∷ rest)
goes_on above way Empty h = absurd h
goes_on above way (Node unit children others) (inl e) = (unit, [], e)
goes_on above way (Node unit children others) (inr h) = elim (either way (paths_below (above ++ unit ∷ []) children) (paths_below above others) h) [
  | inl low ↦
      let it = goes_on (above ++ unit ∷ []) way children low in
      (unit, it.0 ∷ it.1, it.2 ∙ append_assoc above (unit ∷ []) (it.0 ∷ it.1))
  | inr beside ↦ goes_on above way others beside
]

before_more : (above : List Unit) (unit next : Unit) (rest : List Unit)
    → before_last (above ++ unit ∷ (next ∷ rest)) ≡ above ++ unit ∷ before_last (next ∷ rest)
before_more [] unit next rest = refl
before_more (x ∷ []) unit next rest = refl
before_more (x ∷ y ∷ above) unit next rest = ap (λ l. x ∷ l) (before_more (y ∷ above) unit next rest)

-- none of a list, so none in the midst of it
none_within : (test : Unit → Bool) (above : List Unit) (unit : Unit) (rest : List Unit)
    → list_any test (above ++ unit ∷ rest) ≡ false → test unit ≡ false
none_within test above unit rest h =
    let k = or_parts (list_any test above) (list_any test (unit ∷ rest)) (sym (list_any-append test above (unit ∷ rest)) ∙ h) in
    (or_parts (test unit) (list_any test rest) k.1).0

-- ---- what is told

tells_so : (day : ℤ) (above : List Unit) (unit : Unit) (told : PublicUnit)
    → TellsOf day (last_of (above ++ unit ∷ [])) told → told ≡ public_unit (unit, is_unit_closed day unit)
tells_so day above unit told t =
    let k : TellsOf day (Some unit) told = subst (λ o. TellsOf day o told) (last_of-push above unit) t in
    k ∙ sym (told_of day unit (is_unit_closed day unit) refl)

public_stands : (day : ℤ) (above : List Unit) (f : Forest Unit) (told : PublicUnit) (way : List Unit)
    → StandsIn way (paths_below above f) → list_any (λ (unit : Unit). unit.draft) way ≡ false
    → list_any (is_unit_closed day) (before_last way) ≡ false → TellsOf day (last_of way) told
    → StandsIn told (nodes (public_of day f))
public_stands day above Empty told way s d c t = absurd s
public_stands day above (Node unit children others) told way (inl e) d c t =
    let own : unit.draft ≡ false =
    none_within (λ (u : Unit). u.draft) above unit [] (subst (λ w. list_any (λ (u : Unit). u.draft) w ≡ false) e d) in
    let is = tells_so day above unit told (subst (λ w. TellsOf day (last_of w) told) e t) in
    rw own (inl is)
public_stands day above (Node unit children others) told way (inr h) d c t = elim (either way (paths_below (above ++ unit ∷ []) children) (paths_below above others) h) [
  | inl low ↦
      let it = goes_on (above ++ unit ∷ []) way children low in
      let e : way ≡ above ++ unit ∷ (it.0 ∷ it.1) = it.2 ∙ append_assoc above (unit ∷ []) (it.0 ∷ it.1) in
      let own : unit.draft ≡ false =
      none_within (λ (u : Unit). u.draft) above unit (it.0 ∷ it.1) (subst (λ w. list_any (λ (u : Unit). u.draft) w ≡ false) e d) in
      let shown : is_unit_closed day unit ≡ false =
      none_within (is_unit_closed day) above unit (before_last (it.0 ∷ it.1)) (ap (list_any (is_unit_closed day)) (sym (before_more above unit it.0 it.1)) ∙ subst (λ w. list_any (is_unit_closed day) (before_last w) ≡ false) e c) in
      below own shown (public_stands day (above ++ unit ∷ []) children told way low d c t)
  | inr beside ↦ aside unit.draft (public_stands day above others told way beside d c t)
]
  where
    below : unit.draft ≡ false → is_unit_closed day unit ≡ false → StandsIn told (nodes (public_of day children))
        → StandsIn told (nodes (public_of day (Node unit children others)))
    below own shown s = rw (own, shown) (inr (stands_left told (nodes (public_of day children)) (nodes (public_of day others)) s))

    aside : (b : Bool) → StandsIn told (nodes (public_of day others))
        → StandsIn told (nodes (each public_unit (cond b (public (λ (u : Unit). u.draft) (is_unit_closed day) others) (Node (unit, is_unit_closed day unit) (cond (is_unit_closed day unit) Empty (public (λ (u : Unit). u.draft) (is_unit_closed day) children)) (public (λ (u : Unit). u.draft) (is_unit_closed day) others)))))
    aside true s = s
    aside false s = inr (stands_right told (nodes (each public_unit (cond (is_unit_closed day unit) Empty (public (λ (u : Unit). u.draft) (is_unit_closed day) children)))) (nodes (public_of day others)) s)

pub published_in_public : PublishedInPublic
published_in_public day f told p = public_stands day [] f told p.way p.stands p.no_draft p.open_above p.answers

all_stand : {X : Type 0} (P : X → Type 0) (xs : List X) (x : X) → AllByRecursion P xs → StandsIn x xs → P x
all_stand P [] x h s = absurd s
all_stand P (y ∷ ys) x h (inl e) = subst P (sym e) h.0
all_stand P (y ∷ ys) x h (inr s) = all_stand P ys x h.1 s

pub public_is_published : PublicIsPublished
public_is_published day f told s =
    all_stand (IsPublished day (paths f)) (nodes (public_of day f)) told (published_below day [] f refl refl) s
