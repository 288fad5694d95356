-- What the row of an order tells of it.
use Rattle.std.proofs.Common.{◌≡◌, ℕ, Bool, true, false, cond, nat_eq, Option, Some, None, refl, ap, subst}
use Rattle.desk_store.specs.Orders.{IsThere, order_with}
use Rattle.desk_store.specs.Orders as store
use Rattle.desk_store.specs.declared.orders.PlacedOrder.{PlacedOrder}
use Rattle.office_core.specs.State.{Done, State}
use Rattle.refinement.proofs.Common.{Cancelled, End, Ended, Order, OrderRow, Version, Waiting, WithItsReader}
use Rattle.refinement.proofs.Common.{container_of, is_some, nth, option_map, order_row, some_and, standing, stands_as}
use Rattle.refinement.proofs.Common.{state_number, tables, waits}
use Rattle.refinement.proofs.RowsOfLists.{found_row}

ended_at : (past : Option End) → nat_eq (state_number (option_map Ended past)) 1 ≡ false
ended_at None = refl
ended_at (Some Done) = refl
ended_at (Some Cancelled) = refl

waits_at : (w h : Bool) (past : Option End)
    → nat_eq (state_number (cond w (Some Waiting) (cond h (Some WithItsReader) (option_map Ended past)))) 1 ≡ w
waits_at true h past = refl
waits_at false true past = refl
waits_at false false past = ended_at past

waits_as : (container : Option ℕ) (in_queue in_place : ℕ → Bool) (past : Option End)
    → nat_eq (state_number (stands_as container in_queue in_place past)) 1 ≡ some_and in_queue container
waits_as None in_queue in_place past = refl
waits_as (Some c) in_queue in_place past = waits_at (in_queue c) (in_place c) past

module _ (s : State) where
  -- an order waits exactly where its row says so
  pub waits_by_row : (o : ℕ) → nat_eq (state_number (standing s o)) 1 ≡ waits s o
  waits_by_row o = waits_as (container_of s o) (λ c. Rattle.office_core.specs.Words.stands o (s.queue c)) (λ c. Rattle.office_core.specs.SoundDesk.is_out_for o (s.place c)) (s.past o)

  pub row_of_order : (version : Version) (o : ℕ)
      → order_with o (tables version s).desk ≡ option_map (order_row s o) (nth s.orders o)
  row_of_order version o = found_row (order_row s) (λ (row : OrderRow). row.id) (λ n x. refl) o s.orders

  -- what is told of an order that was not placed, and of one that was
  pub not_placed : (version : Version) (o : ℕ) → IsThere (order_with o (tables version s).desk) None
      → is_some (container_of s o) ≡ false
  not_placed version o it =
      at (nth s.orders o) (subst (λ (row : Option OrderRow). IsThere row None) (row_of_order version o) it)
    where
      at : (order : Option Order) → IsThere (option_map (order_row s o) order) None
          → is_some (option_map (λ (order : Order). order.container) order) ≡ false
      at None it = refl
      at (Some order) it = absurd it

  pub record IsPlaced (o : ℕ) (placed : PlacedOrder) : Type 0 where
    pub known : is_some (container_of s o) ≡ true
    pub state : store.order_state_number placed.state ≡ state_number (standing s o)

  pub was_placed : (version : Version) (o : ℕ) (placed : PlacedOrder)
      → IsThere (order_with o (tables version s).desk) (Some placed) → IsPlaced o placed
  was_placed version o placed it =
      at (nth s.orders o) refl (subst (λ (row : Option OrderRow). IsThere row (Some placed)) (row_of_order version o) it)
    where
      at : (order : Option Order) → nth s.orders o ≡ order → IsThere (option_map (order_row s o) order) (Some placed)
          → IsPlaced o placed
      at None is it = absurd (cc)
      at (Some order) is it = record { known = ap (λ (order : Option Order). is_some (option_map (λ (order : Order). order.container) order)) is; state = it.3 }
