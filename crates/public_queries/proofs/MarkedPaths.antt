-- What the marks of a path tell of its units.
use Rattle.std.proofs.Common.{◌≡◌, ℕ, Bool, true, false, not, cond, ◌&&◌, List, [], ◌∷◌, ◌++◌, Option, Some, None}
use Rattle.std.proofs.Common.{nat_eq, refl, sym, ap, ap₂, ◌∙◌}
use Rattle.std.specs.List.{find}
use Rattle.std.specs.Prelude.{map}
use Rattle.known_forest.specs.KnownMarks.{has_id as has_mark}
use Rattle.catalogue_core.specs.ContainerContents.{is_some_there}
use Rattle.public_queries.proofs.Common.{AreMarks, AreWalkMarks, Forest, Mark, Unit, are_clear, ends_closed, has_id}
use Rattle.public_queries.proofs.Common.{head_of, is_clear, is_later, is_open_on, is_published, is_unit_closed, mark_of}
use Rattle.public_queries.proofs.Common.{nodes, nodes-each, shows_last, shows_marked, without_number, ℤ}

-- the first mark is that of the first unit, and the others are those of the others
pub first_and_others : (m : Mark) (ms : List Mark) (u : Unit) (us : List Unit) → AreMarks (u ∷ us) (m ∷ ms)
    → (without_number m ≡ mark_of u) × AreMarks us ms
first_and_others m ms u us e =
    let both : without_number m ∷ map without_number ms ≡ mark_of u ∷ map mark_of us = e in
    let here : without_number m ≡ mark_of u = cc in
    let rest : map without_number ms ≡ map mark_of us = cc in
    (here, rest)

pub no_units : {X : Type 0} (m : Mark) (ms : List Mark) → AreMarks [] (m ∷ ms) → X
no_units m ms e = absurd (let k : without_number m ∷ map without_number ms ≡ [] = e in cc)

pub no_marks : {X : Type 0} (u : Unit) (us : List Unit) → AreMarks (u ∷ us) [] → X
no_marks u us e = absurd (let k : [] ≡ mark_of u ∷ map mark_of us = e in cc)

draft_same : (m : Mark) (u : Unit) → without_number m ≡ mark_of u → m.draft ≡ u.draft
draft_same m u e = ap (λ (x : Mark). x.draft) e

until_same : (m : Mark) (u : Unit) → without_number m ≡ mark_of u → m.until ≡ u.until
until_same m u e = ap (λ (x : Mark). x.until) e

pub id_same : (m : Mark) (u : Unit) → without_number m ≡ mark_of u → m.id ≡ u.id
id_same m u e = ap (λ (x : Mark). x.id) e

pub boxed_same : (m : Mark) (u : Unit) → without_number m ≡ mark_of u → m.boxed ≡ is_some_there u.values.boxes
boxed_same m u e = ap (λ (x : Mark). x.boxed) e

-- their numbers
pub ids_same : (units : List Unit) (marks : List Mark) → AreMarks units marks
    → map (λ (mark : Mark). mark.id) marks ≡ map (λ (u : Unit). u.id) units
ids_same [] [] e = refl
ids_same [] (m ∷ ms) e = no_units m ms e
ids_same (u ∷ us) [] e = no_marks u us e
ids_same (u ∷ us) (m ∷ ms) e =
    let parts = first_and_others m ms u us e in
    ap₂ ◌∷◌ (id_same m u parts.0) (ids_same us ms parts.1)

-- whether a unit is no draft, by the mark that is found by its number
abbrev pub is_published_mark : Option Mark → Bool
is_published_mark None = false
is_published_mark (Some mark) = not mark.draft

pub published_same : (id : ℕ) (units : List Unit) (marks : List Mark) → AreMarks units marks
    → is_published_mark (find (has_mark id) marks) ≡ is_published (find (has_id id) units)
published_same id [] [] e = refl
published_same id [] (m ∷ ms) e = no_units m ms e
published_same id (u ∷ us) [] e = no_marks u us e
published_same id (u ∷ us) (m ∷ ms) e =
    let parts = first_and_others m ms u us e in
    ap (λ b. is_published_mark (cond b (Some m) (find (has_mark id) ms))) (ap (nat_eq id) (id_same m u parts.0))
    ∙ at (has_id id u) (draft_same m u parts.0) (published_same id us ms parts.1)
  where
    at : (b : Bool) → m.draft ≡ u.draft → is_published_mark (find (has_mark id) ms) ≡ is_published (find (has_id id) us)
        → is_published_mark (cond b (Some m) (find (has_mark id) ms)) ≡ is_published (cond b (Some u) (find (has_id id) us))
    at true same later = ap not same
    at false same later = later

-- all units of a forest
pub marks_in_order : (f : Forest Unit) (marks : List Mark) → AreWalkMarks f marks → AreMarks (nodes f) marks
marks_in_order f marks it =
    ap (map without_number) it.walked ∙ sym (nodes-each without_number it.forest) ∙ ap nodes it.theirs ∙ nodes-each mark_of f

module _ (day : ℤ) where
  clear_same : (m : Mark) (u : Unit) → without_number m ≡ mark_of u → is_clear day m ≡ is_open_on day (head_of u)
  clear_same m u e =
      ap₂ (λ draft (until : Option ℤ). not draft && not (is_later day until)) (draft_same m u e) (until_same m u e)

  pub shows_marked-push : (above : List Mark) (last : Mark)
      → shows_marked day (above ++ last ∷ []) ≡ (are_clear day above && not last.draft)
  shows_marked-push [] last = refl
  shows_marked-push (mark ∷ []) last = at (is_clear day mark)
    where
      at : (a : Bool) → (a && not last.draft) ≡ ((a && true) && not last.draft)
      at true = refl
      at false = refl
  shows_marked-push (mark ∷ next ∷ above) last =
      ap (λ b. is_clear day mark && b) (shows_marked-push (next ∷ above) last)
      ∙ at (is_clear day mark) (are_clear day (next ∷ above))
    where
      at : (a b : Bool) → (a && (b && not last.draft)) ≡ ((a && b) && not last.draft)
      at true b = refl
      at false b = refl

  pub ends_closed-push : (above : List Mark) (last : Mark)
      → ends_closed day (above ++ last ∷ []) ≡ is_later day last.until
  ends_closed-push [] last = refl
  ends_closed-push (mark ∷ []) last = refl
  ends_closed-push (mark ∷ next ∷ above) last = ends_closed-push (next ∷ above) last

  -- whether the public is shown the last unit
  pub shows_same : (units : List Unit) (marks : List Mark) → AreMarks units marks
      → shows_marked day marks ≡ shows_last day (map head_of units)
  shows_same [] [] e = refl
  shows_same [] (m ∷ ms) e = no_units m ms e
  shows_same (u ∷ us) [] e = no_marks u us e
  shows_same (u ∷ []) (m ∷ []) e = ap not (draft_same m u (first_and_others m [] u [] e).0)
  shows_same (u ∷ []) (m ∷ n ∷ ms) e = no_units n ms (first_and_others m (n ∷ ms) u [] e).1
  shows_same (u ∷ v ∷ us) (m ∷ []) e = no_marks v us (first_and_others m [] u (v ∷ us) e).1
  shows_same (u ∷ v ∷ us) (m ∷ n ∷ ms) e =
      let parts = first_and_others m (n ∷ ms) u (v ∷ us) e in
      ap₂ ◌&&◌ (clear_same m u parts.0) (shows_same (v ∷ us) (n ∷ ms) parts.1)

  -- whether the last unit is closed
  pub ends_same : (above : List Unit) (node : Unit) (marks : List Mark) → AreMarks (above ++ node ∷ []) marks
      → ends_closed day marks ≡ is_unit_closed day node
  ends_same [] node [] e = no_marks node [] e
  ends_same [] node (m ∷ []) e = ap (is_later day) (until_same m node (first_and_others m [] node [] e).0)
  ends_same [] node (m ∷ n ∷ ms) e = no_units n ms (first_and_others m (n ∷ ms) node [] e).1
  ends_same (x ∷ above) node [] e = no_marks x (above ++ node ∷ []) e
  ends_same (x ∷ []) node (m ∷ []) e = no_marks node [] (first_and_others m [] x (node ∷ []) e).1
  ends_same (x ∷ []) node (m ∷ n ∷ ms) e =
      ends_same [] node (n ∷ ms) (first_and_others m (n ∷ ms) x (node ∷ []) e).1
  ends_same (x ∷ y ∷ above) node (m ∷ []) e =
      no_marks y (above ++ node ∷ []) (first_and_others m [] x (y ∷ (above ++ node ∷ [])) e).1
  ends_same (x ∷ y ∷ above) node (m ∷ n ∷ ms) e =
      ends_same (y ∷ above) node (n ∷ ms) (first_and_others m (n ∷ ms) x (y ∷ (above ++ node ∷ [])) e).1
