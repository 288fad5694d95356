-- An office that keeps nothing but what is published answers the public alike.
use Rattle.std.proofs.Common.{◌≡◌, ℤ, Bool, true, false, cond, Option, Some, None, refl, sym, ap, ap₂, ◌∙◌}
use Rattle.visibility.specs.Marks.{is_later}
use Rattle.visibility.specs.Visibility.{public}
use Rattle.catalogue_core.proofs.PublicPaths.{drafts, known_of, known_where}
use Rattle.office_core.proofs.Common.{AnswersAlike, BoxKey, Empty, Forest, Node, State, Unit, all_true, box_number}
use Rattle.office_core.proofs.Common.{boxes_told, each, false≢true, flat_map, is_unit_closed, nodes, public_forest}
use Rattle.office_core.proofs.Common.{public_of, public_unit, published_forest, published_part, published_unit, stub_of}
use Rattle.office_core.proofs.NoLeak.{answers_alike}

module _ (day : ℤ) where
  abbrev kept_of : Unit → Unit
  kept_of u = published_unit (u, is_unit_closed day u)

  same_closed : (u : Unit) → is_unit_closed day (kept_of u) ≡ is_unit_closed day u
  same_closed u = at (is_unit_closed day u) refl
    where
      at : (b : Bool) → is_unit_closed day u ≡ b → is_later day (cond b u.until None) ≡ b
      at true e = e
      at false e = refl

  same_known : (u : Unit) → known_of day (kept_of u) ≡ known_of day u
  same_known u = ap (λ b. public_unit (kept_of u, b)) (same_closed u) ∙ at (is_unit_closed day u) refl
    where
      stub : (o : Option ℤ) → is_later day o ≡ true → stub_of (published_unit (u, true)) o ≡ stub_of u o
      stub None e = absurd (false≢true e)
      stub (Some until) e = refl

      at : (b : Bool) → is_unit_closed day u ≡ b → public_unit (published_unit (u, b), b) ≡ public_unit (u, b)
      at true e = stub u.until e
      at false e = refl

  -- what is published of these trees, by whether the first unit is a draft and whether it is closed
  abbrev kept_where : Unit → Forest Unit → Forest Unit → Bool → Bool → Forest Unit
  kept_where u c o draft closed =
      each published_unit (cond draft (public drafts (is_unit_closed day) o) (Node (u, is_unit_closed day u) (cond closed Empty (public drafts (is_unit_closed day) c)) (public drafts (is_unit_closed day) o)))

  published_again : (f : Forest Unit) → public_of day (published_forest day f) ≡ public_of day f
  published_again Empty = refl
  published_again (Node u c o) = at u.draft refl (is_unit_closed day u) refl (published_again c) (published_again o)
    where
      low : (closed : Bool) → public_of day (published_forest day c) ≡ public_of day c
          → each public_unit (cond closed Empty (public drafts (is_unit_closed day) (each published_unit (cond closed Empty (public drafts (is_unit_closed day) c))))) ≡ each public_unit (cond closed Empty (public drafts (is_unit_closed day) c))
      low true e = refl
      low false e = e

      at : (draft : Bool) → u.draft ≡ draft → (closed : Bool) → is_unit_closed day u ≡ closed
          → public_of day (published_forest day c) ≡ public_of day c
          → public_of day (published_forest day o) ≡ public_of day o
          → public_of day (kept_where u c o draft closed) ≡ known_where day u c o draft closed
      at true d closed e below beside = beside
      at false d closed e below beside =
          let kept_low : Forest Unit = each published_unit (cond closed Empty (public drafts (is_unit_closed day) c)) in
          let kept_beside : Forest Unit = published_forest day o in
          ap (λ b. known_where day (kept_of u) kept_low kept_beside b (is_unit_closed day (kept_of u))) d
          ∙ (ap (λ b. known_where day (kept_of u) kept_low kept_beside false b) (same_closed u ∙ e)
          ∙ (ap (λ unit. Node unit (each public_unit (cond closed Empty (public drafts (is_unit_closed day) kept_low))) (public_of day kept_beside)) (same_known u)
          ∙ ap₂ (Node (known_of day u)) (low closed below) beside))

pub published_part_answers : (s : State) → AnswersAlike s (published_part s)
published_part_answers s =
    answers_alike s (published_part s)
    (record {
      country = refl;
      repo = refl;
      day = refl;
      forest = sym (published_again s.day s.catalogue.forest);
      numbers = all_true (λ (box : BoxKey). box_number s.catalogue.containers box ≡ box_number s.catalogue.containers box) (λ box. refl) (flat_map boxes_told (nodes (public_forest s)));
    })
