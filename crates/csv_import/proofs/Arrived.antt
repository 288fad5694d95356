-- The units that rows bring, told one after another before any is entered.
use Rattle.std.proofs.Common.{◌≡◌, ℕ, ◌+◌, ◌-◌, ◌<◌, ◌≤◌, Bool, true, false, not, cond, List, [], ◌∷◌, ◌++◌, drop}
use Rattle.std.proofs.Common.{get_or, length, length-append, append_assoc, append-nil, Option, Some, None, refl, sym}
use Rattle.std.proofs.Common.{ap, ◌∙◌, subst, arith}
use Rattle.csv_import.proofs.Common.{Arrival, Bytes, Catalogue, Forest, KnowsNumbers, KnowsUnits, Row, TellsParentOfNew}
use Rattle.csv_import.proofs.Common.{Unit, arrival_at, arrivals_from, arrivals_of, bytes_eq, drop_all, drop_more}
use Rattle.csv_import.proofs.Common.{is_known, is_some, new_of, number_there, option_and_then, or_there, parent_number}
use Rattle.csv_import.proofs.KnownUnits.{known_here, row_told}

module _ (f : Forest Unit) (source : Bytes) (next : ℕ) where
  -- the rest of the rows is to be looked at; of the others it is told what they bring
  pub record AreTold (numbers : Bytes → Option ℕ) (told : List Arrival) (all rest : List Row) : Type 0 where
    pub above : List Row
    pub knows : KnowsNumbers f source (next + length told) above numbers
    pub are : arrivals_of f source next all ≡ told ++ arrivals_from f source (next + length told) above (new_of f source rest)

  abbrev sorted : Bool → Row → List Row → List Row
  sorted known row rest = cond (not known) (row ∷ new_of f source rest) (new_of f source rest)

  -- the unit that a row brings
  abbrev brought_by : List Arrival → List Row → Row → Arrival
  brought_by told above row =
      record { unit = next + length told; parent = option_and_then (parent_number f source (next + length told) above) row.parent }

module _ {f : Forest Unit} {source : Bytes} {next : ℕ} where
  -- the row's unit is catalogued
  pub brings_none : {numbers : Bytes → Option ℕ} {told : List Arrival} {all rest : List Row} {row : Row}
      → (it : AreTold f source next numbers told all (row ∷ rest))
      → None ≡ arrival_at f source (next + length told) it.above row → AreTold f source next numbers told all rest
  brings_none {told = told} {rest = rest} {row = row} it e = record {
    above = it.above;
    knows = it.knows;
    are = it.are ∙ ap (λ (b : Bool). told ++ arrivals_from f source (next + length told) it.above (sorted f source next b row rest)) (known (is_known f source row) e);
  }
    where
      known : (b : Bool) → None ≡ cond b None (Some (brought_by f source next told it.above row)) → b ≡ true
      known true h = refl
      known false h = absurd (cc)

  -- it is new
  pub brings_one : {numbers after : Bytes → Option ℕ} {told : List Arrival} {all rest : List Row} {row : Row} {one : Arrival} {n : ℕ}
      → (it : AreTold f source next numbers told all (row ∷ rest))
      → Some one ≡ arrival_at f source (next + length told) it.above row → n ≡ next + length told
      → ((q : Bytes) → after q ≡ cond (bytes_eq q row.legacy) (Some n) (numbers q))
      → AreTold f source next after (told ++ one ∷ []) all rest
  brings_one {numbers = numbers} {told = told} {rest = rest} {row = row} {one = one} it e given kept =
      let so = brought (is_known f source row) e in
      let n = next + length told in
      let more = λ (q : Bytes). kept q ∙ ap (λ m. cond (bytes_eq q row.legacy) (Some m) (numbers q)) given in
      let longer = length-append told (one ∷ []) in
      let up : n + 1 ≡ next + length (told ++ one ∷ []) = omega (arith, longer) in
      let down : next + length (told ++ one ∷ []) - 1 ≡ n = omega (arith, longer) in
      record {
        above = row ∷ it.above;
        knows = λ legacy.
            ap (λ m. cond (bytes_eq legacy row.legacy) (Some m) (parent_number f source m it.above legacy)) down
            ∙ (numbered legacy (bytes_eq legacy row.legacy)
            ∙ sym (ap (λ o. or_there o (parent_number f source n [] legacy)) (more legacy)));
        are =
            it.are ∙ (ap (λ (b : Bool). told ++ arrivals_from f source n it.above (sorted f source next b row rest)) so.0
            ∙ (ap (λ (a : Arrival). told ++ (a ∷ arrivals_from f source (n + 1) (row ∷ it.above) (new_of f source rest))) (sym so.1)
            ∙ (sym (append_assoc told (one ∷ []) (arrivals_from f source (n + 1) (row ∷ it.above) (new_of f source rest)))
            ∙ ap (λ m. (told ++ one ∷ []) ++ arrivals_from f source m (row ∷ it.above) (new_of f source rest)) up)));
      }
    where
      brought : (b : Bool) → Some one ≡ cond b None (Some (brought_by f source next told it.above row))
          → (b ≡ false) × (one ≡ brought_by f source next told it.above row)
      brought true h = absurd (cc)
      brought false h = (refl, cc)

      numbered : (legacy : Bytes) (b : Bool)
          → cond b (Some (next + length told)) (parent_number f source (next + length told) it.above legacy) ≡ or_there (cond b (Some (next + length told)) (numbers legacy)) (parent_number f source (next + length told) [] legacy)
      numbered legacy true = refl
      numbered legacy false = it.knows legacy

  -- all rows are behind
  pub all_told : {numbers : Bytes → Option ℕ} {told : List Arrival} {all : List Row} (i : ℕ)
      → AreTold f source next numbers told all (drop i all) → length all ≤ i → told ≡ arrivals_of f source next all
  all_told {numbers = numbers} {told = told} {all = all} i here behind =
      let it = subst (AreTold f source next numbers told all) (drop_all i all behind) here in
      sym (it.are ∙ append-nil told)

-- ---- what a row brings, by the number that is kept for it

module _ (c : Catalogue) (source : Bytes) (row : Row) {kept : Option ℕ} (is : kept ≡ number_there c source row.legacy) (n : ℕ) (above : List Row) where
  abbrev brings : Bool → Option ℕ → Option Arrival
  brings known parent = cond known None (Some (record { unit = n; parent = parent }))

  abbrev parent_here : Option ℕ
  parent_here = option_and_then (parent_number c.forest source n above) row.parent

  pub none_here : {unit : ℕ} → kept ≡ Some unit → None ≡ arrival_at c.forest source n above row
  none_here some = sym (ap (λ b. brings b parent_here) (known_here c source row is refl (ap is_some some)))

  pub one_here : {parent : Option ℕ} → kept ≡ None → parent ≡ parent_here
      → Some (record { unit = n; parent = parent }) ≡ arrival_at c.forest source n above row
  one_here none at_parent =
      ap (brings false) at_parent ∙ sym (ap (λ b. brings b parent_here) (known_here c source row is refl (ap is_some none)))

-- ---- the row at its turn, as it is told what it brings by the number that comes next

pub arrival_here : {c : Catalogue} {source : Bytes} {rows : List Row} {known numbers : Bytes → Option ℕ} {next n : ℕ} {told : List Arrival} {found : Option Arrival} (i : ℕ) {row : Row}
    → KnowsUnits c source rows known → i < length rows → row ≡ get_or rows i row → n ≡ next + length told
    → AreTold c.forest source next numbers told rows (drop i rows)
    → (known row.legacy ≡ number_there c source row.legacy → TellsParentOfNew c source known row → (above : List Row) → KnowsNumbers c.forest source n above numbers → found ≡ arrival_at c.forest source n above row)
    → (it : AreTold c.forest source next numbers told rows (row ∷ drop (i + 1) rows)) × (found ≡ arrival_at c.forest source (next + length told) it.above row)
arrival_here {c = c} {source = source} {rows = rows} {numbers = numbers} {next = next} {told = told} {found = found} i {row = row} knows low is given here brings =
    let it = subst (AreTold c.forest source next numbers told rows) (drop_more rows i row low ∙ ap (λ (r : Row). r ∷ drop (i + 1) rows) (sym is)) here in
    let so = row_told i knows low is in
    (it, subst (λ m. KnowsNumbers c.forest source m it.above numbers → found ≡ arrival_at c.forest source m it.above row) given (brings so.0 so.1 it.above) it.knows)
