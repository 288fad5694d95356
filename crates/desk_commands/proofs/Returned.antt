-- A container that comes back, in the rows of the desk.
use Rattle.std.proofs.Common.{◌≡◌, ℕ, true, false, List, [], ◌∷◌, Option, Some, None, Ok, refl, sym, ap, ◌∙◌}
use Rattle.desk_core.specs.declared.reader.Place.TheVariants.{Desk}
use Rattle.office_tables.specs.Schema as schema
use Rattle.desk_store.specs.declared.orders.OrderState.TheVariants as states
use Rattle.office_core.proofs.Places.{out_known}
use Rattle.office_core.specs.declared.command.Command.TheVariants as command
use Rattle.office_core.specs.declared.done.Done.TheVariants as done
use Rattle.desk_commands.proofs.Common.{CarriesOutStep, Command, Database, Done, Forest, HoldingRow, IsSoundOffice}
use Rattle.desk_commands.proofs.Common.{NotIssued, OnlyTouches, OrderRow, Out, Place, Refusal, RepresentsDesk}
use Rattle.desk_commands.proofs.Common.{RepresentsState, Shelf, Standing, State, Trees, UnknownContainer, Version}
use Rattle.desk_commands.proofs.Common.{accepts, container_of, handed_over, is_container, is_out, is_out_for}
use Rattle.desk_commands.proofs.Common.{is_returned, is_some, only_returns, order_out, order_rows, place_after, refusal}
use Rattle.desk_commands.proofs.Common.{returned, rows_moved, stands, stands_past, state_number, tables, unwrap_or}
use Rattle.desk_commands.proofs.Common.{with_state}

module _ (places : Trees → Forest ℕ → Type 0) (version : Version) (s : State) (c : ℕ) where
  abbrev asked : Command
  asked = command.Return c

  pub unknown_container : (why : Refusal) → why ≡ UnknownContainer → is_container s c ≡ false
      → refusal s asked ≡ Some why
  unknown_container why is unknown = let first : refusal s asked ≡ Some UnknownContainer = rw unknown refl in first ∙ ap Some (sym is)

  pub not_issued : is_container s c ≡ true → is_out s c ≡ false → refusal s asked ≡ Some NotIssued
  not_issued known in_house = rw (known, in_house) refl

  module _ (o : ℕ) (out : s.place c ≡ Out o) where
    rows_after : IsSoundOffice s → order_rows (returned s c (Out o)) ≡ with_state o 3 (order_rows s)
    rows_after sound =
        let t = returned s c (Out o) in
        rows_moved s t o (only_returns s c o out) refl
        ∙ ap (λ (x : Option Standing). with_state o (state_number x) (order_rows s))
        (stands_past (container_of t o) (λ k. stands o (t.queue k)) (λ k. is_out_for o (t.place k)) (t.past o) c Done (is_returned s c o out sound.sound.desk.filed))

    pub returns_to_desk : IsSoundOffice s
        → ((old new : Trees) (f : Forest ℕ) → new schema.link.tree ≡ old schema.link.tree → places old f → places new f)
        → (before now : Database) → RepresentsState places version before s → now.schema ≡ before.schema
        → OnlyTouches (schema.orders.tree ∷ schema.holding.tree ∷ []) before now
        → RepresentsDesk now.trees (handed_over c Desk o states.Done (tables version s).desk)
        → CarriesOutStep places version s asked (Ok (done.Return o)) now
    returns_to_desk sound same before now it schema_is only shown =
        let known : is_container s c ≡ true =
        out_known s c o sound.sound.desk.filed sound.sound.desk.orders (ap order_out out) in
        let is_away : is_out s c ≡ true = ap (λ p. is_some (order_out p)) out in
        let why : refusal s asked ≡ None = rw (known, is_away) refl in
        accepts places version s asked same before now (schema.orders.tree ∷ schema.holding.tree ∷ []) refl why tt it schema_is only
        (returned s c (Out o)) (ap (returned s c) out) refl refl
        (handed_over c Desk o states.Done (tables version s).desk) shown
        (ap (λ (rows : List OrderRow). record (tables version (returned s c (Out o))).desk { orders = rows }) (rows_after sound)
        ∙ ap (λ (rows : List HoldingRow). record (tables version s).desk { orders = with_state o 3 (order_rows s); holdings = rows }) (place_after s c Desk known))
        (done.Return o) (ap (λ p. done.Return (unwrap_or (order_out p) 0)) out)

-- in every other place it is not out
pub in_house : (p : Place) → ((o : ℕ) → p ≡ Out o → ⊥) → is_some (order_out p) ≡ false
in_house Shelf other = refl
in_house Desk other = refl
in_house (Out o) other = absurd (other o refl)
