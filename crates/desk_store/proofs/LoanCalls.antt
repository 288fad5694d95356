-- With whom containers are: the tickets of the orders that they are out with.
use Rattle.std.proofs.Common.{◌≡◌, ℕ, ◌+◌, ◌<◌, Bool, true, false, cond, ◌||◌, List, [], ◌∷◌, ◌++◌, map, filter, length, take}
use Rattle.std.proofs.Common.{Option, Some, None, refl, sym, ap, ◌∙◌}
use Rattle.std.specs.Prelude.{get_or}
use Rattle.desk_store.specs.Holdings.{issued_of, ticket_of}
use Rattle.desk_store.proofs.Common.{ContainerOrder, Desk, HoldingLine, HoldingRow, IfSome, OrderRow, cons_option}
use Rattle.desk_store.proofs.Common.{filter_map, filter_map-append, is_held, is_one_of, is_some, issued_among, issued_by}
use Rattle.desk_store.proofs.Common.{line_of, lines_among, list_any, loan_by, loans_in, option_map, take_more}

-- ---- what is told of one more

pub one_more : {A B : Type 0} (tell : A → Option B) (xs : List A) (i : ℕ) (x : A) (done : List B) (found : Option B)
    → i < length xs → done ≡ filter_map tell (take i xs) → found ≡ tell (get_or xs i x)
    → done ++ cons_option found [] ≡ filter_map tell (take (i + 1) xs)
one_more tell xs i x done found low so is =
    ap (λ l. l ++ cons_option found []) so ∙ ap (λ y. filter_map tell (take i xs) ++ cons_option y []) is
    ∙ sym (filter_map-append tell (take i xs) (get_or xs i x ∷ []))
    ∙ sym (ap (filter_map tell) (take_more xs i x low))

-- ---- the loans of lines

abbrev pub loan_at : List OrderRow → HoldingLine → Option ContainerOrder
loan_at orders h = loan_by orders h.container h.held_by

pub loans_of_lines : (orders : List OrderRow) (xs : List HoldingRow)
    → filter_map (loan_at orders) (map line_of xs) ≡ filter_map (issued_by orders) xs
loans_of_lines orders [] = refl
loans_of_lines orders (x ∷ xs) = ap (cons_option (issued_by orders x)) (loans_of_lines orders xs)

-- ---- the loans of some containers

own_loan : (orders : List OrderRow) (c : ℕ) (held_by : Option ℕ)
    → IfSome (loan_by orders c held_by) (λ loan. loan.container ≡ c)
own_loan orders c None = tt
own_loan orders c (Some o) = at (ticket_of orders o)
  where
    at : (t : Option ℕ)
        → IfSome (option_map (λ t. let loan : ContainerOrder = record { container = c; order = o; ticket = t } in loan) t) (λ loan. loan.container ≡ c)
    at None = tt
    at (Some t) = refl

module _ (p : ℕ → Bool) where
  abbrev chosen : ContainerOrder → Bool
  chosen loan = p loan.container

  one_chosen : (c : ℕ) (found : Option ContainerOrder) (some all : List ContainerOrder)
      → IfSome found (λ loan. loan.container ≡ c) → some ≡ filter chosen all
      → cond (p c) (cons_option found some) some ≡ filter chosen (cons_option found all)
  one_chosen c None some all own so = elim (p c) as (λ b. cond b some some ≡ filter chosen all) [ true ↦ so | false ↦ so ]
  one_chosen c (Some loan) some all own so =
      ap (λ (k : ℕ). cond (p k) (loan ∷ some) some) (sym own)
      ∙ ap (λ (l : List ContainerOrder). cond (p loan.container) (loan ∷ l) l) so

  some_loans : (orders : List OrderRow) (xs : List HoldingRow)
      → filter_map (issued_by orders) (filter (λ (h : HoldingRow). p h.container) xs) ≡ filter chosen (filter_map (issued_by orders) xs)
  some_loans orders [] = refl
  some_loans orders (x ∷ xs) =
      let rest = filter (λ (h : HoldingRow). p h.container) xs in
      elim (p x.container) as (λ b. filter_map (issued_by orders) (cond b (x ∷ rest) rest) ≡ cond b (cons_option (issued_by orders x) (filter_map (issued_by orders) rest)) (filter_map (issued_by orders) rest)) [ true ↦ refl | false ↦ refl ]
      ∙ one_chosen x.container (issued_by orders x) (filter_map (issued_by orders) rest) (filter_map (issued_by orders) xs) (own_loan orders x.container x.held_by) (some_loans orders xs)

-- the loans of their lines are those of all loans whose containers are among these
pub loans_among : (containers : List ℕ) (d : Desk) → loans_in d (lines_among containers d) ≡ issued_among containers d
loans_among containers d =
    loans_of_lines d.orders (filter (λ (h : HoldingRow). is_one_of h.container containers) d.holdings)
    ∙ some_loans (λ c. is_one_of c containers) d.orders d.holdings

-- ---- nothing is out

none_held : (orders : List OrderRow) (xs : List HoldingRow) → list_any is_held xs ≡ false
    → filter_map (issued_by orders) xs ≡ []
none_held orders [] none = refl
none_held orders (x ∷ xs) none = at x.held_by (none_held orders xs) none
  where
    at : (held_by : Option ℕ) → (list_any is_held xs ≡ false → filter_map (issued_by orders) xs ≡ [])
        → (is_some held_by || list_any is_held xs) ≡ false
        → cons_option (loan_by orders x.container held_by) (filter_map (issued_by orders) xs) ≡ []
    at None rest none = rest none
    at (Some o) rest none = absurd (let clash : true ≡ false = none in cc)

pub none_issued : (d : Desk) → list_any is_held d.holdings ≡ false → issued_of d ≡ []
none_issued d = none_held d.orders d.holdings
