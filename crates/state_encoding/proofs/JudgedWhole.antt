-- All tables: the catalogue's and the desk's together.
use Rattle.std.proofs.Common.{◌≡◌, ℕ, true, [], ◌∷◌, List, None, refl, sym, ap, ◌∙◌, nat_eq, inl, inr, map}
use Rattle.state_encoding.proofs.Common.{ContainerRow, HasGoodCatalogueRows, HasNoCause, HasNoDeskCause, In}
use Rattle.state_encoding.proofs.Common.{In-permutation, IsCatalogueOf, IsSound, IsSoundCatalogue, OfficeRows}
use Rattle.state_encoding.proofs.Common.{PassingRowsAreSound, SaysASoundState, SoundTablesPass, State, UnitRow, Version}
use Rattle.state_encoding.proofs.Common.{and_parts, any_passes, are_numbered_from, around, catalogue_tests}
use Rattle.state_encoding.proofs.Common.{day_is_broken, desk_tests, eq-eqb, eqb-true, false≢true, first_held, has_id}
use Rattle.state_encoding.proofs.Common.{holdings_are_bad, list_any, nodes, or_cases, orders_are_bad, readers_are_bad}
use Rattle.state_encoding.proofs.Common.{runs_are_bad, state_of, tables, unit_row}
use Rattle.state_encoding.proofs.Judging.{none_held, hold_none, none_before, none_behind, none_in_both}
use Rattle.state_encoding.proofs.RowsByNumber.{in_map}
use Rattle.state_encoding.proofs.told.ToldCatalogue.{no_cause, catalogue_is_said}
use Rattle.state_encoding.proofs.ShownCatalogue.{catalogue_is_shown}

-- ---- the rows of a sound state

no_desk_cause : (t : OfficeRows) → HasNoDeskCause t → first_held (desk_tests t) ≡ None
no_desk_cause t h =
    hold_none (readers_are_bad (around t) t.desk) (orders_are_bad (around t) t.desk ∷ holdings_are_bad (around t) t.desk ∷ runs_are_bad (around t) t.desk ∷ day_is_broken t ∷ []) h.readers
    (hold_none (orders_are_bad (around t) t.desk) (holdings_are_bad (around t) t.desk ∷ runs_are_bad (around t) t.desk ∷ day_is_broken t ∷ []) h.orders
    (hold_none (holdings_are_bad (around t) t.desk) (runs_are_bad (around t) t.desk ∷ day_is_broken t ∷ []) h.holdings
    (hold_none (runs_are_bad (around t) t.desk) (day_is_broken t ∷ []) h.runs
    (hold_none (day_is_broken t) [] h.day refl))))

pub sound_catalogue : (s : State) → IsSound s → IsSoundCatalogue s
sound_catalogue s g = record { settings = g.settings; today = g.days.today; closures = g.days.closures; units = g.units; containers = g.containers; boxes = g.desk.boxes }

pub tables_are_shown : (version : Version) (s : State) → SoundTablesPass version s → HasNoCause version s
tables_are_shown version s passes g =
    let c = catalogue_is_shown version s (sound_catalogue s g) in
    let d = passes g in
    (record { catalogue = c.0; desk = d.keys }, none_in_both (catalogue_tests version (tables version s)) (desk_tests (tables version s)) c.1 (no_desk_cause (tables version s) d.causes))

-- ---- rows without a cause

desk_has_none : (t : OfficeRows) → first_held (desk_tests t) ≡ None → HasNoDeskCause t
desk_has_none t h =
    let a = none_held (readers_are_bad (around t) t.desk) (orders_are_bad (around t) t.desk ∷ holdings_are_bad (around t) t.desk ∷ runs_are_bad (around t) t.desk ∷ day_is_broken t ∷ []) h in
    let b = none_held (orders_are_bad (around t) t.desk) (holdings_are_bad (around t) t.desk ∷ runs_are_bad (around t) t.desk ∷ day_is_broken t ∷ []) a.1 in
    let c = none_held (holdings_are_bad (around t) t.desk) (runs_are_bad (around t) t.desk ∷ day_is_broken t ∷ []) b.1 in
    let d = none_held (runs_are_bad (around t) t.desk) (day_is_broken t ∷ []) c.1 in
    let e = none_held (day_is_broken t) [] d.1 in
    record { readers = a.0; orders = b.0; holdings = c.0; runs = d.0; day = e.0 }

-- a row for which a test holds
record Found (u : ℕ) (rows : List UnitRow) : Type 0 where
  row : UnitRow
  there : In row rows
  is : row.id ≡ u

found : (u : ℕ) (rows : List UnitRow) → list_any (λ (row : UnitRow). nat_eq row.id u) rows ≡ true → Found u rows
found u [] h = absurd (false≢true h)
found u (row ∷ rows) h = elim (or_cases (nat_eq row.id u) (list_any (λ (row : UnitRow). nat_eq row.id u) rows) h) [
  | inl e ↦ record { row = row; there = inl refl; is = eqb-true row.id u e }
  | inr k ↦ let r = found u rows k in record { row = r.row; there = inr r.there; is = r.is }
]

good_catalogue : (version : Version) (t : OfficeRows) → IsSoundCatalogue (state_of t)
    → IsCatalogueOf version t (state_of t) → first_held (catalogue_tests version t) ≡ None → HasGoodCatalogueRows t
good_catalogue version t g c h =
    record {
      containers = (and_parts (are_numbered_from (λ (row : ContainerRow). row.id) 1 t.catalogue.containers) _ (no_cause version t h).containers).0;
      apart = g.boxes;
      placed = λ u e.
          let f = found u t.catalogue.units e in
          let us = nodes (state_of t).catalogue.forest in
          let r = in_map unit_row us f.row (In-permutation (map unit_row us) t.catalogue.units f.row c.units f.there) in
          any_passes (has_id u) us r.it r.there (eq-eqb u r.it.id (sym (ap (λ (row : UnitRow). row.id) r.is ∙ f.is)));
    }

pub rows_are_said : (version : Version) (t : OfficeRows) → PassingRowsAreSound version t → SaysASoundState version t
rows_are_said version t passes keys h =
    let first = none_before (catalogue_tests version t) (desk_tests t) h in
    let c = catalogue_is_said version t keys.catalogue first in
    let g = c.0 in
    let d = passes (good_catalogue version t g c.1 first) (record { keys = keys.desk; causes = desk_has_none t (none_behind (catalogue_tests version t) (desk_tests t) h) }) in (
      record {
        settings = g.settings;
        days = record { today = g.today; readers = d.days.readers; orders = d.days.orders; runs = d.days.runs; permits = d.days.permits; closures = g.closures };
        units = g.units;
        containers = g.containers;
        permits = d.permits;
        desk = d.desk;
      },
      record { catalogue = c.1; desk = d.rows },
    )
