-- What a run may take, from the orders that wait and where their containers are.
use Rattle.std.proofs.Common.{◌≡◌, ℕ, pos, Bool, true, false, cond, not, ◌&&◌, ◌||◌, nat_eq, List, [], ◌∷◌, map, filter}
use Rattle.std.proofs.Common.{find, Some, Less, refl, ap, ap₂, ◌∙◌}
use Rattle.desk_core.specs.declared.reader.Place.TheVariants.{Desk as AtTheDesk}
use Rattle.desk_store.proofs.Common.{AreByNumber, AreCounted, ContainerOrder, Desk, HoldingLine, HoldingRow, IsAt}
use Rattle.desk_store.proofs.Common.{OrderRow, Out, Place, Shelf, ascending-filter, ascending-map, candidates_of}
use Rattle.desk_store.proofs.Common.{counted_rises, filter-map, firsts_of, int_cmp, is_earliest, is_first_waiting}
use Rattle.desk_store.proofs.Common.{is_on_shelf, list_any, nat_lt, on_shelf, waits_for}
use Rattle.desk_store.proofs.Common.{line_of}
use Rattle.desk_store.proofs.PickingRows.{first_of}

abbrev pub waits : OrderRow → Bool
waits o = nat_eq 1 o.state

pub rising : (orders : List OrderRow) → AreCounted (λ (o : OrderRow). o.id) orders
    → AreByNumber (λ (o : ContainerOrder). o.order) (map first_of (filter waits orders))
rising orders counted =
    ascending-map (λ (a b : ContainerOrder). int_cmp (pos a.order) (pos b.order) ≡ Less) first_of (filter waits orders)
    (ascending-filter _ waits orders (counted_rises (λ (o : OrderRow). o.id) 1 orders counted))

-- ---- those that are kept

pub filter_both : {X : Type 0} (p q : X → Bool) (xs : List X) → filter p (filter q xs) ≡ filter (λ x. q x && p x) xs
filter_both p q [] = refl
filter_both p q (x ∷ xs) =
    elim (q x) as (λ b. filter p (cond b (x ∷ filter q xs) (filter q xs)) ≡ cond (b && p x) (x ∷ filter (λ x. q x && p x) xs) (filter (λ x. q x && p x) xs)) [
      | true ↦ ap (λ l. cond (p x) (x ∷ l) l) (filter_both p q xs)
      | false ↦ filter_both p q xs
    ]

filter_same : {X : Type 0} (p q : X → Bool) → ((x : X) → p x ≡ q x) → (xs : List X) → filter p xs ≡ filter q xs
filter_same p q same [] = refl
filter_same {X} p q same (x ∷ xs) =
    ap₂ (λ (b : Bool) (l : List X). cond b (x ∷ l) l) (same x) (filter_same p q same xs)

any_waiting : (c n : ℕ) (xs : List OrderRow)
    → list_any (λ (y : ContainerOrder). nat_eq c y.container && nat_lt y.order n) (map first_of (filter waits xs)) ≡ list_any (λ (y : OrderRow). waits_for c y && nat_lt y.id n) xs
any_waiting c n [] = refl
any_waiting c n (x ∷ xs) =
    elim (waits x) as (λ b. list_any (λ (y : ContainerOrder). nat_eq c y.container && nat_lt y.order n) (map first_of (cond b (x ∷ filter waits xs) (filter waits xs)))
    ≡ (((b && nat_eq c x.container) && nat_lt x.id n) || list_any (λ (y : OrderRow). waits_for c y && nat_lt y.id n) xs)) [
      | true ↦ ap (λ b. (nat_eq c x.container && nat_lt x.id n) || b) (any_waiting c n xs)
      | false ↦ any_waiting c n xs
    ]

-- the first of those that wait
pub firsts_are : (d : Desk) (orders : List ContainerOrder) → orders ≡ map first_of (filter waits d.orders)
    → filter (λ (o : ContainerOrder). is_earliest o orders) orders ≡ firsts_of d
firsts_are d orders are =
    ap (λ (l : List ContainerOrder). filter (λ (o : ContainerOrder). is_earliest o l) l) are
    ∙ filter-map (λ (o : ContainerOrder). is_earliest o (map first_of (filter waits d.orders))) first_of (filter waits d.orders)
    ∙ ap (map first_of) (filter_both (λ (o : OrderRow). is_earliest (first_of o) (map first_of (filter waits d.orders))) waits d.orders ∙ filter_same _ _ each d.orders)
  where
    each : (o : OrderRow) → (waits o && is_earliest (first_of o) (map first_of (filter waits d.orders))) ≡ is_first_waiting d o
    each o = ap (λ b. waits o && not b) (any_waiting o.container o.id d.orders)

-- those of them that are on the shelf are what a run may take
pub candidates_are : (d : Desk) → on_shelf d (firsts_of d) ≡ candidates_of d
candidates_are d =
    filter-map (λ (o : ContainerOrder). is_on_shelf d o.container) first_of (filter (is_first_waiting d) d.orders)
    ∙ ap (map first_of) (filter_both (λ (o : OrderRow). is_on_shelf d o.container) (is_first_waiting d) d.orders)

-- ---- where a container is

abbrev pub is_shelf : Place → Bool
is_shelf Shelf = true
is_shelf AtTheDesk = false
is_shelf (Out o) = false

-- a container without a row is on the shelf
pub shelf_is : (c : ℕ) (rows : List HoldingRow) (place : Place) → IsAt (find (λ (h : HoldingRow). nat_eq c h.container) rows) place
    → is_shelf place ≡ not (list_any (λ (h : HoldingRow). nat_eq c h.container) rows)
shelf_is c [] place at = ap is_shelf at
shelf_is c (row ∷ rows) place at = here (nat_eq c row.container) (shelf_is c rows place) at
  where
    taken : (p : Place) → IsAt (Some row) p → is_shelf p ≡ false
    taken Shelf at = absurd at
    taken AtTheDesk at = refl
    taken (Out o) at = refl

    here : (b : Bool) → (IsAt (find (λ (h : HoldingRow). nat_eq c h.container) rows) place → is_shelf place ≡ not (list_any (λ (h : HoldingRow). nat_eq c h.container) rows))
        → IsAt (cond b (Some row) (find (λ (h : HoldingRow). nat_eq c h.container) rows)) place
        → is_shelf place ≡ not (b || list_any (λ (h : HoldingRow). nat_eq c h.container) rows)
    here true rest at = taken place at
    here false rest at = rest at

any_held : (c : ℕ) (xs : List HoldingRow)
    → list_any (λ (h : HoldingLine). nat_eq c h.container) (map line_of xs) ≡ list_any (λ (h : HoldingRow). nat_eq c h.container) xs
any_held c [] = refl
any_held c (x ∷ xs) = ap (λ b. nat_eq c x.container || b) (any_held c xs)

-- those whose containers have no row are left
pub held_kept : (d : Desk) (lines : List HoldingLine) (known : List ℕ) → lines ≡ map line_of d.holdings
    → ((c : ℕ) → list_any (nat_eq c) known ≡ list_any (λ (h : HoldingLine). nat_eq c h.container) lines)
    → (orders : List ContainerOrder) → filter (λ (o : ContainerOrder). not (list_any (nat_eq o.container) known)) orders ≡ on_shelf d orders
held_kept d lines known are met orders =
    filter_same (λ (o : ContainerOrder). not (list_any (nat_eq o.container) known)) (λ (o : ContainerOrder). is_on_shelf d o.container)
    (λ o. ap not (met o.container ∙ ap (list_any (λ (h : HoldingLine). nat_eq o.container h.container)) are ∙ any_held o.container d.holdings)) orders
