-- Rows that are looked at one after another, before any is entered.
use Rattle.std.proofs.Common.{◌≡◌, ℕ, suc, ◌+◌, ◌<◌, ◌≤◌, Bool, true, false, not, cond, List, [], ◌∷◌, ◌++◌, drop}
use Rattle.std.proofs.Common.{length, Option, Some, None, refl, sym, ap, ap₂, subst, ◌∙◌, get_or, arith}
use Rattle.std.proofs.lemmas.Slice.Eq.{bytes_eq-Decides}
use Rattle.atom_csv.specs.Causes.{cause_number}
use Rattle.atom_csv.specs.declared.cause.Cause.{Cause}
use Rattle.atom_csv.specs.declared.cause.Cause.TheVariants.{NoParent, TooDeep}
use Rattle.csv_import.specs.declared.row_plan.Placing.{Placing}
use Rattle.csv_import.specs.declared.row_plan.Placing.TheVariants as placing
use Rattle.csv_import.specs.declared.row_plan.Planned.TheVariants as planned
use Rattle.csv_import.proofs.Common.{Bytes, Catalogue, Forest, KnowsDepths, KnowsUnits, Row, TellsParentOfNew, Unit}
use Rattle.csv_import.proofs.Common.{at_depth, by_number, bytes_eq, cause_at, depth_under, drop_all, drop_more}
use Rattle.csv_import.proofs.Common.{faults_below, is_known, most_deep, nat_lt, new_of, number_there, option_map}
use Rattle.csv_import.proofs.Common.{option_to_list, or_first, or_there, placing_of, plan_of}
use Rattle.csv_import.proofs.KnownUnits.{row_told}

module _ (f : Forest Unit) (source : Bytes) where
  -- the rest of the rows is to be looked at, and so many of the others are new
  pub record IsPlanned (below : Bytes → Option ℕ) (new : ℕ) (all rest : List Row) : Type 0 where
    pub above : List Row
    pub knows : KnowsDepths f source above below
    pub faults : faults_below f source [] (new_of f source all) ≡ faults_below f source above (new_of f source rest)
    pub count : length (new_of f source all) ≡ new + length (new_of f source rest)

  -- how deep a row below a catalogued unit lies was asked for, and is known from then on
  pub knows_parent : (above : List Row) (below after : Bytes → Option ℕ) (p : Bytes) (d : ℕ)
      → KnowsDepths f source above below
      → below p ≡ None → depth_under f source (Some p) [] ≡ Some d
      → ((q : Bytes) → after q ≡ cond (bytes_eq q p) (Some d) (below q))
      → KnowsDepths f source above after
  knows_parent above below after p d knows none depth more parent =
      at (bytes_eq parent p) refl ∙ sym (ap (λ o. or_there o (depth_under f source (Some parent) [])) (more parent))
    where
      at : (b : Bool) → bytes_eq parent p ≡ b
          → depth_under f source (Some parent) above ≡ or_there (cond b (Some d) (below parent)) (depth_under f source (Some parent) [])
      at true e =
          let same : parent ≡ p = (bytes_eq-Decides parent p).0 e in
          ap (λ q. depth_under f source (Some q) above) same ∙ (knows p ∙ (ap (λ o. or_there o (depth_under f source (Some p) [])) none ∙ depth))
      at false e = knows parent

  abbrev sorted : Bool → Row → List Row → List Row
  sorted known row rest = cond (not known) (row ∷ new_of f source rest) (new_of f source rest)

  -- the row's unit is catalogued
  known_so : (above : List Row) (row : Row) → placing.Known ≡ placing_of f source above row
      → is_known f source row ≡ true
  known_so above row e = at (is_known f source row) (depth_under f source row.parent above) e
    where
      at : (b : Bool) (d : Option ℕ) → placing.Known ≡ cond b placing.Known (at_depth d) → b ≡ true
      at true d h = refl
      at false None h = absurd (cc)
      at false (Some d) h = deep (nat_lt most_deep d) h
        where
          deep : (k : Bool) → placing.Known ≡ cond k (placing.Faulty TooDeep) (placing.Fits (suc d)) → false ≡ true
          deep true h = absurd (cc)
          deep false h = absurd (cc)

  -- the row is new, and lies so deep or cannot be placed
  record ComesAt (above : List Row) (row : Row) (d : ℕ) : Type 0 where
    come : is_known f source row ≡ false
    depth : depth_under f source row.parent above ≡ Some d
    fits : nat_lt most_deep d ≡ false

  comes_at : (above : List Row) (row : Row) (k : ℕ) → placing.Fits k ≡ placing_of f source above row
      → (d : ℕ) × ComesAt above row d × (k ≡ suc d)
  comes_at above row k e = at (is_known f source row) (depth_under f source row.parent above) refl refl e
    where
      at : (b : Bool) (o : Option ℕ) → is_known f source row ≡ b → depth_under f source row.parent above ≡ o
          → placing.Fits k ≡ cond b placing.Known (at_depth o) → (d : ℕ) × ComesAt above row d × (k ≡ suc d)
      at true o i j h = absurd (cc)
      at false None i j h = absurd (cc)
      at false (Some d) i j h = deep (nat_lt most_deep d) refl h
        where
          deep : (b : Bool) → nat_lt most_deep d ≡ b
              → placing.Fits k ≡ cond b (placing.Faulty TooDeep) (placing.Fits (suc d))
              → (d : ℕ) × ComesAt above row d × (k ≡ suc d)
          deep true t h = absurd (cc)
          deep false t h = (d, record { come = i; depth = j; fits = t }, cc)

  new_first : (row : Row) (rest : List Row) → is_known f source row ≡ false
      → new_of f source (row ∷ rest) ≡ row ∷ new_of f source rest
  new_first row rest e = ap (λ (b : Bool). sorted b row rest) e

  told_cause : (row : Row) (above rest : List Row) (cause : Option ℕ)
      → cause_at (depth_under f source row.parent above) ≡ cause
      → faults_below f source above (row ∷ rest) ≡ option_to_list (option_map (λ cause. (row.row, cause)) cause) ++ faults_below f source (row ∷ above) rest
  told_cause row above rest cause e =
      ap (λ (o : Option ℕ). option_to_list (option_map (λ cause. (row.row, cause)) o) ++ faults_below f source (row ∷ above) rest) e

  cause_so : (above : List Row) (row : Row) (cause : Cause) → placing.Faulty cause ≡ placing_of f source above row
      → (is_known f source row ≡ false) × (cause_at (depth_under f source row.parent above) ≡ Some (cause_number cause))
  cause_so above row cause e = at (is_known f source row) (depth_under f source row.parent above) e
    where
      at : (b : Bool) (o : Option ℕ) → placing.Faulty cause ≡ cond b placing.Known (at_depth o)
          → (b ≡ false) × (cause_at o ≡ Some (cause_number cause))
      at true o h = absurd (cc)
      at false None h = (refl, (let same : cause ≡ NoParent = cc in ap (λ k. Some (cause_number k)) (sym same)))
      at false (Some d) h = deep (nat_lt most_deep d) h
        where
          deep : (k : Bool) → placing.Faulty cause ≡ cond k (placing.Faulty TooDeep) (placing.Fits (suc d))
              → (false ≡ false) × (cond k (Some 12) None ≡ Some (cause_number cause))
          deep true h = (refl, (let same : cause ≡ TooDeep = cc in ap (λ k. Some (cause_number k)) (sym same)))
          deep false h = absurd (cc)

-- ---- one row after another

module _ {f : Forest Unit} {source : Bytes} where
  pub begins : {below : Bytes → Option ℕ} {all : List Row} → KnowsDepths f source [] below
      → IsPlanned f source below 0 all all
  begins knows = record {
    above = [];
    knows = knows;
    faults = refl;
    count = omega arith;
  }

  pub goes_known : {below known : Bytes → Option ℕ} {new : ℕ} {all rest : List Row} {row : Row}
      → (it : IsPlanned f source below new all (row ∷ rest)) → KnowsDepths f source it.above known
      → placing.Known ≡ placing_of f source it.above row → IsPlanned f source known new all rest
  goes_known {new = new} {rest = rest} {row = row} it knows e =
      let same : new_of f source (row ∷ rest) ≡ new_of f source rest =
      ap (λ (b : Bool). sorted f source b row rest) (known_so f source it.above row e) in
      record {
        above = it.above;
        knows = knows;
        faults = it.faults ∙ ap (faults_below f source it.above) same;
        count = it.count ∙ ap (λ rows. new + length rows) same;
      }

  pub goes_new : {below after : Bytes → Option ℕ} (known : Bytes → Option ℕ) {new : ℕ} {all rest : List Row} {row : Row} {k : ℕ}
      → (it : IsPlanned f source below new all (row ∷ rest)) → KnowsDepths f source it.above known
      → placing.Fits k ≡ placing_of f source it.above row
      → ((q : Bytes) → after q ≡ cond (bytes_eq q row.legacy) (Some k) (known q))
      → IsPlanned f source after (new + 1) all rest
  goes_new known {new = new} {rest = rest} {row = row} {k = k} it knows e more =
      let at = comes_at f source it.above row k e in
      let d = at.0 in
      let come = at.1 in
      let none : cause_at (depth_under f source row.parent it.above) ≡ None =
      ap cause_at come.depth ∙ ap (λ (b : Bool). cond b (Some 12) None) come.fits in
      record {
        above = row ∷ it.above;
        knows = λ parent. deeper d come.depth at.2 parent (bytes_eq parent row.legacy) ∙ sym (ap (λ o. or_there o (depth_under f source (Some parent) [])) (more parent));
        faults = it.faults ∙ (ap (faults_below f source it.above) (new_first f source row rest come.come) ∙ told_cause f source row it.above (new_of f source rest) None none);
        count = it.count ∙ (ap (λ rows. new + length rows) (new_first f source row rest come.come) ∙ omega arith);
      }
    where
      deeper : (d : ℕ) → depth_under f source row.parent it.above ≡ Some d → k ≡ suc d → (parent : Bytes) (b : Bool)
          → cond b (option_map suc (depth_under f source row.parent it.above)) (depth_under f source (Some parent) it.above) ≡ or_there (cond b (Some k) (known parent)) (depth_under f source (Some parent) [])
      deeper d depth is parent true = ap (option_map suc) depth ∙ ap Some (sym is)
      deeper d depth is parent false = knows parent

  -- ---- the end

  pub ends_faulty : {below : Bytes → Option ℕ} {new : ℕ} {all rest : List Row} {row : Row} {cause : Cause}
      → (it : IsPlanned f source below new all (row ∷ rest)) → placing.Faulty cause ≡ placing_of f source it.above row
      → by_number (planned.Faulty row.row cause) ≡ plan_of f source all
  ends_faulty {all = all} {rest = rest} {row = row} {cause = cause} it e =
      let so = cause_so f source it.above row cause e in
      let first : faults_below f source [] (new_of f source all) ≡ (row.row, cause_number cause) ∷ faults_below f source (row ∷ it.above) (new_of f source rest) =
      it.faults ∙ (ap (faults_below f source it.above) (new_first f source row rest so.0) ∙ told_cause f source row it.above (new_of f source rest) (Some (cause_number cause)) so.1) in
      sym (ap (λ (faults : List (ℕ × ℕ)). or_first faults (length (new_of f source all))) first)

  -- all rows are behind
  pub ends_well : {below : Bytes → Option ℕ} {new : ℕ} {all : List Row} (i : ℕ)
      → IsPlanned f source below new all (drop i all) → length all ≤ i → by_number (planned.Fits new) ≡ plan_of f source all
  ends_well {below = below} {new = new} {all = all} i here behind =
      let it = subst (IsPlanned f source below new all) (drop_all i all behind) here in
      let many : length (new_of f source all) ≡ new = (let n = it.count in omega (arith, n)) in
      sym (ap₂ (λ (faults : List (ℕ × ℕ)) n. or_first faults n) it.faults many)

-- ---- the row at its turn, as it was placed

pub placed_here : {c : Catalogue} {source : Bytes} {rows : List Row} {numbers below : Bytes → Option ℕ} {new : ℕ} {found : Placing} (after : Bytes → Option ℕ) (i : ℕ) {row : Row}
    → KnowsUnits c source rows numbers → i < length rows → row ≡ get_or rows i row
    → IsPlanned c.forest source below new rows (drop i rows)
    → (numbers row.legacy ≡ number_there c source row.legacy → TellsParentOfNew c source numbers row → (above : List Row) → KnowsDepths c.forest source above below → (found ≡ placing_of c.forest source above row) × KnowsDepths c.forest source above after)
    → (it : IsPlanned c.forest source below new rows (row ∷ drop (i + 1) rows)) × (found ≡ placing_of c.forest source it.above row) × KnowsDepths c.forest source it.above after
placed_here {c = c} {source = source} {rows = rows} {below = below} {new = new} after i {row = row} known low is here placed =
    let it = subst (IsPlanned c.forest source below new rows) (drop_more rows i row low ∙ ap (λ (r : Row). r ∷ drop (i + 1) rows) (sym is)) here in
    let told = row_told i known low is in
    let so = placed told.0 told.1 it.above it.knows in
    (it, so.0, so.1)
