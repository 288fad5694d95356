-- Rows with none of the causes 1 to 9 say a state that is sound but for the rules of the day, and are that state's rows of the desk.
use Rattle.std.proofs.Common.{◌≡◌, true, map, None, sym, ap, ◌∙◌, inl, inr, nat_eq}
use Rattle.tree_core.proofs.Lookups.{any_passes}
use Rattle.office_core.specs.State.{State, is_container}
use Rattle.state_encoding.proofs.SaidOrders.{HoldingParts, holding_parts, place_cases, said_filed, orders_again}
use Rattle.state_encoding.proofs.SaidPlaces.{said_orders, order_days, holdings_again}
use Rattle.state_encoding.proofs.SaidReaders.{said_readers, reader_days, readers_again, said_seats, seats_again}
use Rattle.state_encoding.proofs.SaidReaders.{said_permits, permit_days, permits_placed, permits_again}
use Rattle.state_encoding.proofs.SaidTexts.{texts_said}
use Rattle.state_encoding.proofs.told.ToldCatalogue.{catalogue_is_said, no_cause}
use Rattle.state_encoding.specs.DeskSoundness.{HasGoodCatalogueRows}
use Rattle.state_encoding.specs.RowSoundness.{IsCatalogueOf, IsSoundCatalogue}
use Rattle.adoption.proofs.Common.{ContainerRow, Desk, HoldingRow, In-permutation, IsSoundButForTheDay}
use Rattle.adoption.proofs.Common.{MeetsCatalogueKeys, MeetsDeskKeys, OfficeRows, OrdersParts, ReaderParts, RunParts}
use Rattle.adoption.proofs.Common.{Trees, UnitRow, Version, and_parts, are_good_holdings, are_numbered_from, around}
use Rattle.adoption.proofs.Common.{catalogue_cause, eq-eqb, eqb-true, false≢true, has_id, in_map, legible_rows}
use Rattle.adoption.proofs.Common.{lines_again, nodes, not_bad, rows_in, run_days, runs_again, said_container}
use Rattle.adoption.proofs.Common.{said_runs, some_in, state_of, tables, unit_row}
use Rattle.adoption.proofs.desk.ShownDesk.{reader_facts, order_facts, run_facts}
use Rattle.adoption.proofs.tables.Causeless.{ArePassed}

good_catalogue : (version : Version) (t : OfficeRows) → IsSoundCatalogue (state_of t)
    → IsCatalogueOf version t (state_of t) → catalogue_cause version t ≡ None → HasGoodCatalogueRows t
good_catalogue version t sound rows none = record {
  containers = (and_parts (are_numbered_from (λ (row : ContainerRow). row.id) 1 t.catalogue.containers) _ (no_cause version t none).containers).0;
  apart = sound.boxes;
  placed = λ u there.
      let f = some_in (λ (row : UnitRow). nat_eq row.id u) t.catalogue.units there in
      let units = nodes (state_of t).catalogue.forest in
      let r = in_map unit_row units f.0 (In-permutation (map unit_row units) t.catalogue.units f.0 rows.units f.1) in
      any_passes (has_id u) units r.0 r.1 (eq-eqb u r.0.id (sym (ap (λ (row : UnitRow). row.id) (sym r.2) ∙ eqb-true f.0.id u f.2)));
}

same_desk : (a b : Desk) → a.readers ≡ b.readers → a.seats ≡ b.seats → a.orders ≡ b.orders → a.holdings ≡ b.holdings
    → a.runs ≡ b.runs → a.run_lines ≡ b.run_lines → a.permits ≡ b.permits → a ≡ b
same_desk a b p q r s t u v = λ i. record { readers = p i; seats = q i; orders = r i; holdings = s i; runs = t i; run_lines = u i; permits = v i }

module _ (version : Version) (db : Trees) (passed : ArePassed version db) (named : MeetsCatalogueKeys (rows_in version db).catalogue) (keys : MeetsDeskKeys (rows_in version db).desk) where
  abbrev t : OfficeRows
  t = rows_in version db

  abbrev s : State
  s = state_of t

  catalogue_facts : IsSoundCatalogue s × IsCatalogueOf version t s
  catalogue_facts = catalogue_is_said version t named passed.catalogue

  c : HasGoodCatalogueRows t
  c = good_catalogue version t catalogue_facts.0 catalogue_facts.1 passed.catalogue

  r : ReaderParts t
  r = reader_facts version db passed

  o : OrdersParts t
  o = order_facts version db passed

  p : RunParts t
  p = run_facts version db passed

  pub q : HoldingParts t
  q = holding_parts t keys o (not_bad (are_good_holdings (around t) t.desk) passed.holdings)

  pub said_again : (v : Version) → (tables v s).desk ≡ t.desk
  said_again v =
      same_desk (tables v s).desk t.desk (readers_again t keys r) (seats_again t keys r) (orders_again t keys o q) (holdings_again t keys q c) (runs_again t keys o p) (lines_again t keys o p) (permits_again t keys r)

  pub holding_known : (row : HoldingRow) → Rattle.catalogue_core.specs.Members.StandsIn row t.desk.holdings
      → is_container s row.container ≡ true
  holding_known row k = said_container t row.container c.containers ∙ q.there row k

  pub sound_but : IsSoundButForTheDay s
  sound_but = record {
    catalogue = catalogue_facts.0;
    days = record { readers = reader_days t keys r; orders = order_days t r o c; runs = run_days t keys o p; permits = permit_days t keys r };
    filed = said_filed t keys o q;
    orders = said_orders t r o c;
    seats = said_seats t keys r;
    places = λ n none. elim (place_cases t.desk.holdings n) [
      | inl shelf ↦ shelf
      | inr held ↦ absurd (false≢true (sym none ∙ (ap (is_container s) (sym held.for_it) ∙ holding_known held.row held.stands)))
    ];
    runs = said_runs t keys o p;
    readers = said_readers t keys r;
    permits = said_permits t keys r;
    units = permits_placed t keys r c.placed;
    texts = texts_said t (legible_rows version db);
  }
