-- Where a container is and who waits for it, as the rows of the desk tell.
use Rattle.std.proofs.Common.{◌≡◌, ℕ, Bool, true, false, cond, ◌&&◌, nat_eq, List, [], ◌∷◌, map, filter, Some, refl}
use Rattle.std.proofs.Common.{sym, ap, subst, ◌∙◌, inl, inr}
use Rattle.std.proofs.Math.Bool.{and_comm}
use Rattle.desk_core.specs.declared.reader.Place.TheVariants.{Desk}
use Rattle.catalogue_core.specs.Members.{StandsIn}
use Rattle.office_tables.proofs.Rows.{same_test}
use Rattle.desk_store.specs.Orders.{IsAt}
use Rattle.office_core.specs.State.{State}
use Rattle.state_encoding.proofs.TableLaws.{reads_back}
use Rattle.refinement.proofs.Common.{HoldingRow, IsSoundDesk, Order, OrderRow, Out, Place, Shelf, cons_option}
use Rattle.refinement.proofs.Common.{filter_map, find, flipped, holding_rows, in_filter, in_rows, nth, option_map}
use Rattle.refinement.proofs.Common.{order_from, order_row, order_rows, place_from, place_in}

-- ---- where a container is

of_row : (row : HoldingRow) (p : Place) → IsAt (Some row) p → place_from row ≡ p
of_row row Shelf is = absurd is
of_row row Desk is = rw is refl
of_row row (Out o) is = rw (is.0, is.1) refl

placed_as : (c : ℕ) (rows : List HoldingRow) (p : Place) → IsAt (find (λ (h : HoldingRow). nat_eq c h.container) rows) p
    → place_in rows c ≡ p
placed_as c [] p is = sym is
placed_as c (row ∷ rows) p is =
    ap (λ b. cond b (place_from row) (place_in rows c)) (flipped row.container c)
    ∙ at (nat_eq c row.container) (placed_as c rows p) is
  where
    at : (b : Bool) → (IsAt (find (λ (h : HoldingRow). nat_eq c h.container) rows) p → place_in rows c ≡ p)
        → IsAt (cond b (Some row) (find (λ (h : HoldingRow). nat_eq c h.container) rows)) p
        → cond b (place_from row) (place_in rows c) ≡ p
    at true rest is = of_row row p is
    at false rest is = rest is

-- what the rows tell of a container's place is its place
pub place_shown : (s : State) → IsSoundDesk s → (c : ℕ) (p : Place)
    → IsAt (find (λ (h : HoldingRow). nat_eq c h.container) (holding_rows s)) p → p ≡ s.place c
place_shown s sound c p is =
    sym (placed_as c (holding_rows s) p is) ∙ ap (λ (place : ℕ → Place). place c) (reads_back s sound).places

-- ---- who waits

-- the order of a row waits for the container
abbrev pub waits_in : ℕ → OrderRow → Bool
waits_in c row = nat_eq 1 row.state && nat_eq c row.container

module _ {Y : Type 0} (s : State) (tell : ℕ → Order → Y) where
  -- an order that has a row
  pub told_row : (row : OrderRow) → StandsIn row (order_rows s)
      → option_map (tell row.id) (nth s.orders row.id) ≡ Some (tell row.id (order_from row))
  told_row row k =
      let i = in_rows (order_row s) s.orders row k in
      subst (λ (r : OrderRow). option_map (tell r.id) (nth s.orders r.id) ≡ Some (tell r.id (order_from r))) (sym i.3) (ap (option_map (tell i.0)) i.2)

  -- orders that have rows, by their numbers
  pub told_rows : (rows : List OrderRow) → ((row : OrderRow) → StandsIn row rows → StandsIn row (order_rows s))
      → filter_map (λ o. option_map (tell o) (nth s.orders o)) (map (λ (row : OrderRow). row.id) rows) ≡ map (λ (row : OrderRow). tell row.id (order_from row)) rows
  told_rows [] within = refl
  told_rows (row ∷ rows) within =
      ap (λ o. cons_option o (filter_map (λ o. option_map (tell o) (nth s.orders o)) (map (λ (row : OrderRow). row.id) rows))) (told_row row (within row (inl refl)))
      ∙ ap (λ l. tell row.id (order_from row) ∷ l) (told_rows rows (λ r k. within r (inr k)))

  -- those that wait for a container
  pub told_queue : IsSoundDesk s → (c : ℕ)
      → filter_map (λ o. option_map (tell o) (nth s.orders o)) (s.queue c) ≡ map (λ (row : OrderRow). tell row.id (order_from row)) (filter (waits_in c) (order_rows s))
  told_queue sound c =
      ap (λ (queue : ℕ → List ℕ). filter_map (λ o. option_map (tell o) (nth s.orders o)) (queue c)) (sym (reads_back s sound).queues)
      ∙ ap (λ rows. filter_map (λ o. option_map (tell o) (nth s.orders o)) (map (λ (row : OrderRow). row.id) rows))
      (same_test (λ (row : OrderRow). nat_eq row.container c && nat_eq row.state 1) (waits_in c)
      (λ (row : OrderRow). ap (λ b. b && nat_eq row.state 1) (flipped row.container c) ∙ ap (λ b. nat_eq c row.container && b) (flipped row.state 1) ∙ and_comm (nat_eq c row.container) (nat_eq 1 row.state))
      (order_rows s))
      ∙ told_rows (filter (waits_in c) (order_rows s)) (λ row k. (in_filter (waits_in c) (order_rows s) row k).0)
