-- What a change of marks tells of the units whose marks they are.
use Rattle.std.proofs.Common.{if◌then◌else◌, ◌≡◌, ℕ, ℤ, Bool, true, false, ◌||◌, List, Option, nat_eq, refl, sym, ap}
use Rattle.std.proofs.Common.{subst, ◌∙◌}
use Rattle.std.specs.List.{list_any}
use Rattle.tree_core.specs.Forest.{Forest, HasDistinctIds, branch, each}
use Rattle.visibility.specs.declared.marks.Mark.{Mark}
use Rattle.known_forest.specs.KnownMarks.{AreMarksOf, has_id as has_mark, is_chosen as is_chosen_mark}
use Rattle.catalogue_core.specs.CatalogueMerge.{Catalogue}
use Rattle.catalogue_core.specs.Statuses.{chosen, chosen_units, is_chosen, with_closure, with_status}
use Rattle.catalogue_core.specs.UnitMarks.{mark_of, without_number}
use Rattle.catalogue_core.specs.Units.{Unit, has_id}
use Rattle.known_units.specs.KnownUnits.{KnowsUnits}
use Rattle.known_units.proofs.Marked.{each-each, mark_id, same_ids, unit_id}

-- each of some marks is changed, and the units whose marks these are change alike
module _ (t : Mark → Bool) (s : Unit → Bool) (put : Mark → Mark) (change : Unit → Unit) where
  abbrev put_if : Mark → Mark
  put_if m = if t m then put m else m

  abbrev change_if : Unit → Unit
  change_if u = if s u then change u else u

  -- a change of marks, and the same of units
  pub record IsAlike : Type 0 where
    pub numberless : (m : Mark) → t (without_number m) ≡ t m
    pub chosen_alike : (u : Unit) → t (mark_of u) ≡ s u
    pub put_numberless : (m : Mark) → without_number (put m) ≡ put (without_number m)
    pub marked : (u : Unit) → mark_of (change u) ≡ put (mark_of u)
    pub same_id : (u : Unit) → (change u).id ≡ u.id

  module _ (alike : IsAlike) where
    mark_alike : (m : Mark) → without_number (put_if m) ≡ put_if (without_number m)
    mark_alike m =
        at (t m) ∙ ap (λ b. if b then put (without_number m) else without_number m) (sym (alike.numberless m))
      where
        at : (b : Bool) → without_number (if b then put m else m) ≡ (if b then put (without_number m) else without_number m)
        at true = alike.put_numberless m
        at false = refl

    unit_alike : (u : Unit) → put_if (mark_of u) ≡ mark_of (change_if u)
    unit_alike u = ap (λ b. if b then put (mark_of u) else mark_of u) (alike.chosen_alike u) ∙ at (s u)
      where
        at : (b : Bool) → (if b then put (mark_of u) else mark_of u) ≡ mark_of (if b then change u else u)
        at true = sym (alike.marked u)
        at false = refl

    id_alike : (u : Unit) → (change_if u).id ≡ u.id
    id_alike u = at (s u)
      where
        at : (b : Bool) → (if b then change u else u).id ≡ u.id
        at true = alike.same_id u
        at false = refl

    pub followed : (f : Forest Unit) (marks new : List Mark) (it : KnowsUnits f marks)
        → AreMarksOf (each put_if it.walk.forest) new → KnowsUnits (each change_if f) new
    followed f marks new it made =
        let m = it.walk.forest in
        record {
          walk = record {
            first = made.first;
            forest = each put_if m;
            numbered = made.numbered;
            theirs =
                each-each without_number put_if m ∙ (λ i. each (λ x. mark_alike x i) m) ∙ sym (each-each put_if without_number m)
                ∙ ap (each put_if) it.walk.theirs ∙ each-each put_if mark_of f ∙ (λ i. each (λ x. unit_alike x i) f)
                ∙ sym (each-each mark_of change_if f);
            walked = made.walked;
          };
          distinct = subst HasDistinctIds (sym (each-each unit_id change_if f ∙ (λ i. each (λ x. id_alike x i) f))) it.distinct;
        }

no_other : (b : Bool) → b ≡ (b || false)
no_other true = refl
no_other false = refl

-- the marks of the chosen units are chosen
chosen_alike : (whole : Bool) (u : ℕ) (m : Forest Mark) (f : Forest Unit) → each mark_id m ≡ each unit_id f → (x : Unit)
    → is_chosen_mark whole u m (mark_of x) ≡ is_chosen (chosen_units whole u (each unit_id f)) x
chosen_alike true u m f same x = ap (λ ids. list_any (λ id. nat_eq id x.id) (branch (nat_eq u) ids)) same
chosen_alike false u m f same x = no_other (nat_eq u x.id)

chosen_numberless : (whole : Bool) (u : ℕ) (m : Forest Mark) (x : Mark)
    → is_chosen_mark whole u m (without_number x) ≡ is_chosen_mark whole u m x
chosen_numberless true u m x = refl
chosen_numberless false u m x = refl

pub status_followed : (c : Catalogue) (marks new : List Mark) (it : KnowsUnits c.forest marks) (whole : Bool) (u : ℕ) (draft : Bool)
    → AreMarksOf (each (λ m. if is_chosen_mark whole u it.walk.forest m then record m { draft = draft } else m) it.walk.forest) new
    → KnowsUnits (with_status (chosen whole u c) draft c).forest new
status_followed c marks new it whole u draft =
    followed (is_chosen_mark whole u it.walk.forest) (is_chosen (chosen whole u c)) (λ (m : Mark). record m { draft = draft }) (λ (x : Unit). record x { draft = draft })
    (record {
      numberless = chosen_numberless whole u it.walk.forest;
      chosen_alike = chosen_alike whole u it.walk.forest c.forest (same_ids c.forest it.walk.forest it.walk.theirs);
      put_numberless = λ m. refl;
      marked = λ x. refl;
      same_id = λ x. refl;
    })
    c.forest marks new it

pub closure_followed : (c : Catalogue) (marks new : List Mark) (it : KnowsUnits c.forest marks) (u : ℕ) (until : Option ℤ)
    → AreMarksOf (each (λ m. if has_mark u m then record m { until = until } else m) it.walk.forest) new
    → KnowsUnits (with_closure u until c).forest new
closure_followed c marks new it u until =
    followed (has_mark u) (has_id u) (λ (m : Mark). record m { until = until }) (λ (x : Unit). record x { until = until })
    (record {
      numberless = λ m. refl;
      chosen_alike = λ x. refl;
      put_numberless = λ m. refl;
      marked = λ x. refl;
      same_id = λ x. refl;
    })
    c.forest marks new it
