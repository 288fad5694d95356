-- An order that is cancelled, in the rows of the desk.
use Rattle.std.proofs.Common.{◌≡◌, ℕ, true, false, nat_eq, List, [], ◌∷◌, Option, Some, None, Ok, refl, sym, ap, subst}
use Rattle.std.proofs.Common.{◌∙◌}
use Rattle.office_tables.specs.Schema as schema
use Rattle.desk_store.specs.declared.orders.OrderState.TheVariants as states
use Rattle.desk_store.specs.declared.orders.PlacedOrder.{PlacedOrder}
use Rattle.office_core.specs.declared.command.Command.TheVariants as command
use Rattle.office_core.specs.declared.done.Done.TheVariants as done
use Rattle.refinement.proofs.OrderRows.{not_placed, waits_by_row, was_placed}
use Rattle.desk_commands.proofs.Common.{Cancelled, CarriesOutStep, Command, Database, Forest, IsSoundOffice, IsThere}
use Rattle.desk_commands.proofs.Common.{OnlyTouches, OrderNotWaiting, OrderRow, RepresentsDesk, RepresentsState}
use Rattle.desk_commands.proofs.Common.{Standing, State, Trees, UnknownOrder, Version, accepts, cancelled, container_of}
use Rattle.desk_commands.proofs.Common.{false≢true, is_cancelled, is_out_for, is_some, only_cancels, order_rows}
use Rattle.desk_commands.proofs.Common.{order_state_number, order_with, refusal, rows_moved, some_and, stands}
use Rattle.desk_commands.proofs.Common.{stands_past, state_number, tables, waits, with_order_state, with_state}

module _ (version : Version) (s : State) (o : ℕ) where
  pub unknown_order : {found : Option PlacedOrder} → IsThere (order_with o (tables version s).desk) found → found ≡ None
      → refusal s (command.Cancel o) ≡ Some UnknownOrder
  unknown_order it is =
      let unknown = not_placed s version o (subst (λ (found : Option PlacedOrder). IsThere (order_with o (tables version s).desk) found) is it) in
      rw unknown refl

  -- the row tells whether the order waits
  pub known_order : {found : Option PlacedOrder} {placed : PlacedOrder} → IsThere (order_with o (tables version s).desk) found
      → found ≡ Some placed
      → (is_some (container_of s o) ≡ true) × (waits s o ≡ nat_eq (order_state_number placed.state) 1)
  known_order {placed = placed} it is =
      let there = was_placed s version o placed (subst (λ (found : Option PlacedOrder). IsThere (order_with o (tables version s).desk) found) is it) in
      (there.known, sym (waits_by_row s o) ∙ ap (λ n. nat_eq n 1) (sym there.state))

  pub not_waiting : is_some (container_of s o) ≡ true → waits s o ≡ false
      → refusal s (command.Cancel o) ≡ Some OrderNotWaiting
  not_waiting known not_so = rw (known, not_so) refl

module _ (places : Trees → Forest ℕ → Type 0) (version : Version) (s : State) (o : ℕ) where
  abbrev asked : Command
  asked = command.Cancel o

  rows_after : IsSoundOffice s → (c : ℕ) → container_of s o ≡ Some c → stands o (s.queue c) ≡ true
      → order_rows (cancelled s o (Some c)) ≡ with_state o 4 (order_rows s)
  rows_after sound c is waiting =
      let t = cancelled s o (Some c) in
      rows_moved s t o (only_cancels s o c) refl
      ∙ ap (λ (x : Option Standing). with_state o (state_number x) (order_rows s))
      (stands_past (container_of t o) (λ k. stands o (t.queue k)) (λ k. is_out_for o (t.place k)) (t.past o) c Cancelled (is_cancelled s o c sound.sound.desk.filed is waiting))

  pub cancels : IsSoundOffice s
      → ((old new : Trees) (f : Forest ℕ) → new schema.link.tree ≡ old schema.link.tree → places old f → places new f)
      → (before now : Database) → waits s o ≡ true → RepresentsState places version before s
      → now.schema ≡ before.schema → OnlyTouches (schema.orders.tree ∷ []) before now
      → RepresentsDesk now.trees (with_order_state o states.Cancelled (tables version s).desk)
      → CarriesOutStep places version s asked (Ok (done.Cancel o)) now
  cancels sound same before now waiting it schema_is only shown = at (container_of s o) refl waiting
    where
      at : (container : Option ℕ) → container_of s o ≡ container → some_and (λ c. stands o (s.queue c)) container ≡ true
          → CarriesOutStep places version s asked (Ok (done.Cancel o)) now
      at None is w = absurd (false≢true w)
      at (Some c) is w =
          let known : is_some (container_of s o) ≡ true = ap is_some is in
          let why : refusal s asked ≡ None = rw (known, waiting) refl in
          accepts places version s asked same before now (schema.orders.tree ∷ []) refl why tt it schema_is only
          (cancelled s o (Some c)) (ap (cancelled s o) is) refl refl
          (with_order_state o states.Cancelled (tables version s).desk) shown
          (ap (λ (rows : List OrderRow). record (tables version s).desk { orders = rows }) (rows_after sound c is w))
          (done.Cancel o) refl
