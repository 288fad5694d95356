-- What stands right above the units of rows.
use Rattle.std.proofs.Common.{◌≡◌, ℕ, ◌+◌, ◌≤◌, min, List, [], ◌∷◌, ◌++◌, append-nil, drop, get_or, length, map, Option}
use Rattle.std.proofs.Common.{Some, None, refl, sym, ap, ap₂, subst, ◌∙◌, nat_eq, arith}
use Rattle.office_core.specs.declared.done.Remark.TheVariants.{LacksEssential, LevelTooHigh}
use Rattle.csv_import.proofs.Common.{AreGoodUnits, Bytes, Catalogue, Forest, HasItsUnit, HasParent, HaveParents}
use Rattle.csv_import.proofs.Common.{HaveUnits, Remark, Row, Unit, all-get_or, drop_all, drop_more, each, find}
use Rattle.csv_import.proofs.Common.{get_or-map, has_id, is_from, is_level_above, lacks_essential, last_but_one}
use Rattle.csv_import.proofs.Common.{length-map, nodes, number_above, number_there, numbers_of, option_map}
use Rattle.csv_import.proofs.Common.{option_to_list, path, rank_of, remark_if, remark_on, remarks, right_above}
use Rattle.csv_import.proofs.FoundPaths.{path_by_number}
use Rattle.csv_import.proofs.OneRow.{is_found}
use Rattle.csv_import.proofs.Pairs.{ArePair}
use Rattle.csv_import.proofs.Remarked.{is_below, told_more, top_remark}

-- ---- one row's

pub last_number : (us : List Unit)
    → last_but_one (map (λ (u : Unit). u.id) us) ≡ option_map (λ (u : Unit). u.id) (last_but_one us)
last_number [] = refl
last_number (u ∷ []) = refl
last_number (u ∷ v ∷ []) = refl
last_number (u ∷ v ∷ w ∷ us) = last_number (v ∷ w ∷ us)

-- its unit is there
pub there : (f : Forest Unit) (source : Bytes) (row : Row) → HasItsUnit f source row
    → (v : Unit) × (find (is_from source row.legacy) (nodes f) ≡ Some v)
there f source row h = at (find (is_from source row.legacy) (nodes f)) h
  where
    at : (r : Option Unit) → option_map (λ (u : Unit). u.values) r ≡ Some row.values → (v : Unit) × (r ≡ Some v)
    at None e = absurd (cc)
    at (Some v) e = (v, refl)

module _ {c : Catalogue} {source : Bytes} {row : Row} {up : Option ℕ} (has : HasParent source row up c) where
  up_is : last_but_one (map (λ (u : Unit). u.id) (path (is_from source row.legacy) c.forest)) ≡ up
  up_is = last_number (path (is_from source row.legacy) c.forest) ∙ sym has.above

  -- the unit right above it, and what is remarked by its level
  pub below : {parent : ℕ} → up ≡ Some parent
      → (above : Unit) × (find (has_id parent) (nodes c.forest) ≡ Some above)
      × (remark_if (is_level_above (rank_of row.values.level) (rank_of above.values.level)) (LevelTooHigh row.row) ≡ remark_on row.row (path (is_from source row.legacy) c.forest))
  below {parent} is =
      let unit = there c.forest source row has.its in
      let it = is_below c.forest source row unit.0 unit.1 parent has.units.ids (up_is ∙ is) in
      (it.above, it.found_above, it.remarked has.its)

  pub remarked_top : up ≡ None
      → remark_if (lacks_essential row.values) (LacksEssential row.row) ≡ remark_on row.row (path (is_from source row.legacy) c.forest)
  remarked_top is =
      let unit = there c.forest source row has.its in
      top_remark c.forest source row unit.0 unit.1 (up_is ∙ is) has.its

-- ---- the same by the unit's number

module _ (c : Catalogue) (source : Bytes) (good : AreGoodUnits c) where
  above_number : (row : Row) (id : ℕ) → Some id ≡ number_there c source row.legacy
      → right_above (nat_eq id) (each (λ (u : Unit). u.id) c.forest) ≡ number_above c.forest source row
  above_number row id e =
      let is = is_found c source row.legacy id good (sym e) in
      ap (λ n. right_above (nat_eq n) (each (λ (u : Unit). u.id) c.forest)) (sym is.number)
      ∙ (ap last_but_one (path_by_number c source row.legacy is.unit good is.by_source) ∙ last_number (path (is_from source row.legacy) c.forest))

  pub above_numbers : (units : List ℕ) (rows : List Row)
      → map Some units ≡ map (λ (row : Row). number_there c source row.legacy) rows
      → map (λ unit. right_above (nat_eq unit) (each (λ (u : Unit). u.id) c.forest)) units ≡ map (number_above c.forest source) rows
  above_numbers [] [] e = refl
  above_numbers [] (row ∷ rows) e = absurd (cc)
  above_numbers (id ∷ units) [] e = absurd (cc)
  above_numbers (id ∷ units) (row ∷ rows) e =
      let first : Some id ≡ number_there c source row.legacy = cc in
      let rest : map Some units ≡ map (λ (row : Row). number_there c source row.legacy) rows = cc in
      ap₂ (λ up ups. up ∷ ups) (above_number row id first) (above_numbers units rows rest)

-- the units right above those of the rows, as they were read
pub have_parents : {c : Catalogue} {source : Bytes} {rows : List Row} {units : List ℕ} {parents : List (Option ℕ)}
    → HaveUnits source rows units c → parents ≡ map (λ unit. right_above (nat_eq unit) (numbers_of c)) units
    → HaveParents source rows parents c
have_parents {c} {source} {rows} {units} has above =
    record { entered = has.entered; above = above ∙ above_numbers c source has.entered.units units rows has.numbered }

-- ---- one row after another

-- the row at this index stands below the parent there
pub parent_at : {c : Catalogue} {source : Bytes} {rows : List Row} {parents : List (Option ℕ)} {i : ℕ} {row : Row} {parent : Option ℕ}
    → HaveParents source rows parents c → ArePair rows parents i row parent → HasParent source row parent c
parent_at {c} {source} {rows} {parents} {i} {row} {parent} have pair = record {
  units = have.entered.units;
  its = subst (HasItsUnit c.forest source) (sym pair.first) (all-get_or (HasItsUnit c.forest source) rows i row have.entered.each pair.low);
  above = pair.second ∙ (ap (λ l. get_or l i parent) have.above ∙ (get_or-map (number_above c.forest source) rows i row parent pair.low ∙ ap (number_above c.forest source) (sym pair.first)));
}

-- what is remarked so far, with the remark on the row at this index, and what is known besides
pub one_remarked : {c : Catalogue} {source : Bytes} {rows : List Row} {parents : List (Option ℕ)} {i next : ℕ} {row : Row} {parent : Option ℕ} {more : List Remark} {Before After : Type 0} (told : List Remark) (r : Option Remark)
    → HaveParents source rows parents c → ArePair rows parents i row parent → next ≡ i + 1
    → more ≡ told ++ option_to_list r
    → (remarks c.forest source rows ≡ told ++ remarks c.forest source (drop i rows)) × Before
    → (Before → HasParent source row parent c → After × (option_to_list r ≡ remark_on row.row (path (is_from source row.legacy) c.forest)))
    → (remarks c.forest source rows ≡ more ++ remarks c.forest source (drop next rows)) × After
one_remarked {c} {source} {rows} {parents} {i} {next} {row} {parent} {more} told r have pair after grown so is =
    let now = is so.1 (parent_at have pair) in
    let rest : drop i rows ≡ row ∷ drop (i + 1) rows =
    drop_more rows i row pair.low ∙ ap (λ (x : Row). x ∷ drop (i + 1) rows) (sym pair.first) in (
      told_more c.forest source row (drop (i + 1) rows) told (remarks c.forest source rows) r (so.0 ∙ ap (λ (l : List Row). told ++ remarks c.forest source l) rest) now.1
          ∙ (ap (λ l. l ++ remarks c.forest source (drop (i + 1) rows)) (sym grown) ∙ ap (λ n. more ++ remarks c.forest source (drop n rows)) (sym after)),
      now.0,
    )

-- all rows are behind
pub told_all : {c : Catalogue} {source : Bytes} {rows : List Row} {parents : List (Option ℕ)} (i : ℕ) (told : List Remark)
    → HaveParents source rows parents c → i ≡ min (length rows) (length parents)
    → remarks c.forest source rows ≡ told ++ remarks c.forest source (drop i rows)
    → told ≡ remarks c.forest source rows
told_all {c} {source} {rows} {parents} i told have last so =
    let long : length parents ≡ length rows = ap length have.above ∙ length-map rows (number_above c.forest source) in
    let behind : length rows ≤ i = omega (arith, last, long) in
    sym (so ∙ (ap (λ (l : List Row). told ++ remarks c.forest source l) (drop_all i rows behind) ∙ append-nil told))
