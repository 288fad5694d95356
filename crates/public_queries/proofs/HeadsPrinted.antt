-- Units of which the head line alone is printed: their heads tell as much as what the public may know of them.
use Rattle.std.proofs.Common.{◌≡◌, ℕ, Bool, true, false, cond, not, List, [], ◌∷◌, ◌++◌, Option, Some, None, refl, sym}
use Rattle.std.proofs.Common.{ap, ap₂, ◌∙◌}
use Rattle.std.specs.Prelude.{map}
use Rattle.public_queries.proofs.Common.{BoxKey, Bytes, Closed, Empty, Forest, Full, Node, Press, Repository, Shown}
use Rattle.public_queries.proofs.Common.{Told, Unit, all_bare, bare_body, code_of, flat_map, head_alone}
use Rattle.public_queries.proofs.Common.{head_identifiers, head_line, head_of, identifier, identifier_of, int_lt}
use Rattle.public_queries.proofs.Common.{is_later, is_unit_closed, known_of, number_known, pages_side_by_side}
use Rattle.public_queries.proofs.Common.{public_number, public_of, published_units, shown_unit, stub_of, tops, ℤ}
use Rattle.public_queries.proofs.Standing.{public_draft, public_node}

module _ (day : ℤ) where
  pub known_id : (a : Unit) → identifier_of (known_of day a) ≡ identifier a.values
  known_id a = at (is_unit_closed day a) a.until
    where
      at : (b : Bool) (until : Option ℤ)
          → identifier_of (cond b (stub_of a until) (Told a.id a.values)) ≡ identifier a.values
      at true None = refl
      at true (Some d) = refl
      at false until = refl

  pub known_ids : (w : List Unit) → map identifier_of (map (known_of day) w) ≡ head_identifiers (map head_of w)
  known_ids [] = refl
  known_ids (a ∷ w) = ap₂ ◌∷◌ (known_id a) (known_ids w)

  -- a head line needs no more than the head
  pub same_head : (at : Repository) (boxes : List BoxKey) (ids : List Bytes) (a : Unit)
      → head_line (shown_unit at boxes ids 0 (known_of day a)) ≡ head_line (head_alone at ids day (head_of a))
  same_head at boxes ids a = by a.until
    where
      by : (until : Option ℤ)
          → head_line (shown_unit at boxes ids 0 (cond (is_later day until) (stub_of a until) (Told a.id a.values)))
          ≡ head_line (record { depth = 0; code = code_of at.country at.repo ids; level = a.values.level; title = (head_of a).title; body = bare_body day until })
      by None = refl
      by (Some d) = on (int_lt day d)
        where
          on : (b : Bool)
              → head_line (shown_unit at boxes ids 0 (cond b (stub_of a (Some d)) (Told a.id a.values))) ≡ head_line (record { depth = 0; code = code_of at.country at.repo ids; level = a.values.level; title = (head_of a).title; body = cond b (Closed d) (Full [] []) })
          on true = refl
          on false = refl

  -- ---- units side by side, of which the head line alone is printed

  module _ (print : ℕ × Shown → Bytes) (alike : (n : ℕ) (a b : Shown) → head_line a ≡ head_line b → print (n, a) ≡ print (n, b)) (press : Press) (above : List Bytes) where
    pub same_beside : (f : Forest Unit)
        → flat_map print (pages_side_by_side press above (public_of day f)) ≡ flat_map print (all_bare press.at above day (map head_of (published_units (tops f))))
    same_beside Empty = refl
    same_beside (Node a c o) = at a.draft refl (same_beside o)
      where
        rest : List Unit
        rest = published_units (tops o)

        at : (b : Bool) → a.draft ≡ b
            → flat_map print (pages_side_by_side press above (public_of day o)) ≡ flat_map print (all_bare press.at above day (map head_of rest))
            → flat_map print (pages_side_by_side press above (public_of day (Node a c o))) ≡ flat_map print (all_bare press.at above day (map head_of (published_units (tops (Node a c o)))))
        at true e more =
            ap (λ f. flat_map print (pages_side_by_side press above f)) (public_draft day a c o e) ∙ more
            ∙ sym (ap (λ b. flat_map print (all_bare press.at above day (map head_of (cond (not b) (a ∷ rest) rest)))) e)
        at false e more =
            ap (λ f. flat_map print (pages_side_by_side press above f)) (public_node day a c o e)
            ∙ ap₂ ◌++◌ one more
            ∙ sym (ap (λ b. flat_map print (all_bare press.at above day (map head_of (cond (not b) (a ∷ rest) rest)))) e)
          where
            shown : List Bytes → Shown
            shown ids = shown_unit press.at press.containers ids 0 (known_of day a)

            one : print (public_number (known_of day a), shown (above ++ identifier_of (known_of day a) ∷ [])) ≡ print (a.id, head_alone press.at (above ++ identifier a.values ∷ []) day (head_of a))
            one =
                ap (λ n. print (n, shown (above ++ identifier_of (known_of day a) ∷ []))) (number_known day a)
                ∙ ap (λ n. print (a.id, shown (above ++ n ∷ []))) (known_id a)
                ∙ alike a.id (shown (above ++ identifier a.values ∷ [])) (head_alone press.at (above ++ identifier a.values ∷ []) day (head_of a)) (same_head press.at press.containers (above ++ identifier a.values ∷ []) a)
