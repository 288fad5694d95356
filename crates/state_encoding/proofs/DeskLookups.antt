-- What the tables of a state know: tickets, containers, units and orders.
use Rattle.std.proofs.Common.{◌≡◌, ℕ, ◌≤◌, Bool, true, ◌&&◌, Option, Some, None, refl, sym, ap, ◌∙◌, inl, inr, arith}
use Rattle.std.proofs.lemmas.Int.{ints}
use Rattle.std.specs.Prelude.{ℤ, nat_eq}
use Rattle.catalogue_core.specs.Sources.{is_between}
use Rattle.state_encoding.proofs.Common.{ContainerRow, Order, OrderRow, ReaderRow, RunRow, State, Unit, UnitRow}
use Rattle.state_encoding.proofs.Common.{Version, and_from, and_parts, cases_eq, container_row, eq-eqb, has_unit}
use Rattle.state_encoding.proofs.Common.{int_le, is_container, is_container_there, is_registered, is_some, is_ticket}
use Rattle.state_encoding.proofs.Common.{is_unit_there, le-leb, leb-true, list_any, list_any-map, nat_le, nodes, nth}
use Rattle.state_encoding.proofs.Common.{option_map, order_row, order_rows, other_number, reader_row, run_row, some_and}
use Rattle.state_encoding.proofs.Common.{tables, unit_row, ◌≤ℤ◌}
use Rattle.state_encoding.proofs.Members.{any_same}
use Rattle.state_encoding.proofs.NumberedRows.{any_numbered, known_numbered, rows_are_numbered, numbered-rows}

-- ---- tests

pub flipped : (n m : ℕ) → nat_eq n m ≡ nat_eq m n
flipped n m = elim (cases_eq n m) [ inl e ↦ eq-eqb n m e ∙ sym (eq-eqb m n (sym e)) | inr ne ↦ other_number n m ne ∙ sym (other_number m n (λ e. ne (sym e))) ]

pub is_some-map : {X Y : Type 0} (f : X → Y) (r : Option X) → is_some (option_map f r) ≡ is_some r
is_some-map f None = refl
is_some-map f (Some x) = refl

pub some_and-map : {X Y : Type 0} (p : Y → Bool) (f : X → Y) (r : Option X)
    → some_and p (option_map f r) ≡ some_and (λ x. p (f x)) r
some_and-map p f None = refl
some_and-map p f (Some x) = refl

pub some_is : {X : Type 0} (r : Option X) → is_some r ≡ true → (x : X) × (r ≡ Some x)
some_is None h = absurd (Rattle.std.proofs.lemmas.Bool.false≢true h)
some_is (Some x) h = (x, refl)

pub between : (low high n : ℕ) → low ≤ n → n ≤ high → is_between low high n ≡ true
between low high n l h = and_from (nat_le low n) (nat_le n high) (le-leb low n l) (le-leb n high h)

pub is_between_so : (low high n : ℕ) → is_between low high n ≡ true → (low ≤ n) × (n ≤ high)
is_between_so low high n e = let b = and_parts (nat_le low n) (nat_le n high) e in (leb-true low n b.0, leb-true n high b.1)

pub not_later : (a b : ℤ) → a ≤ℤ b → int_le a b ≡ true
not_later a b h = grind (arith, ints, h)

pub is_not_later : (a b : ℤ) → int_le a b ≡ true → a ≤ℤ b
is_not_later a b h = grind (arith, ints, h)

-- ---- the tables of a state

module _ (version : Version) (s : State) where
  pub registered : (ticket : ℕ) → is_registered (tables version s).desk ticket ≡ is_ticket s ticket
  registered ticket =
      known_numbered (λ (row : ReaderRow). row.ticket) (tables version s).desk.readers ticket (rows_are_numbered reader_row (λ row. row.ticket) (λ n x. refl) 1 s.readers)
      ∙ (ap is_some (numbered-rows reader_row s.readers ticket) ∙ is_some-map (reader_row ticket) (nth s.readers ticket))

  pub container_there : (c : ℕ) → is_container_there (tables version s) c ≡ is_container s c
  container_there c =
      known_numbered (λ (row : ContainerRow). row.id) (tables version s).catalogue.containers c (rows_are_numbered container_row (λ row. row.id) (λ n x. refl) 1 s.catalogue.containers)
      ∙ (ap is_some (numbered-rows container_row s.catalogue.containers c) ∙ is_some-map (container_row c) (nth s.catalogue.containers c))

  pub unit_there : (u : ℕ) → is_unit_there (tables version s) u ≡ has_unit s.catalogue.forest u
  unit_there u =
      list_any-map (λ (row : UnitRow). nat_eq row.id u) unit_row (nodes s.catalogue.forest)
      ∙ any_same (λ (unit : Unit). nat_eq unit.id u) (λ unit. nat_eq u unit.id) (nodes s.catalogue.forest) (λ unit. flipped unit.id u)

  -- an order of that number that passes
  pub order_there : (p : OrderRow → Bool) (o : ℕ)
      → list_any (λ (row : OrderRow). nat_eq row.id o && p row) (order_rows s) ≡ some_and (λ (order : Order). p (order_row s o order)) (nth s.orders o)
  order_there p o =
      any_numbered (λ (row : OrderRow). row.id) p (order_rows s) o (rows_are_numbered (order_row s) (λ row. row.id) (λ n x. refl) 1 s.orders)
      ∙ (ap (some_and p) (numbered-rows (order_row s) s.orders o) ∙ some_and-map p (order_row s o) (nth s.orders o))

  pub run_there : (n : ℕ)
      → list_any (λ (row : RunRow). nat_eq row.id n) (tables version s).desk.runs ≡ is_some (nth s.runs n)
  run_there n =
      known_numbered (λ (row : RunRow). row.id) (tables version s).desk.runs n (rows_are_numbered run_row (λ row. row.id) (λ n x. refl) 1 s.runs)
      ∙ (ap is_some (numbered-rows run_row s.runs n) ∙ is_some-map (run_row n) (nth s.runs n))
