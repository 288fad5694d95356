-- Of a state that is sound but for the rules of the day, and whose rows of the desk have been judged, it can be told who may see what.
use Rattle.std.proofs.Common.{◌≡◌, ◌<◌, ◌^◌, true, sym, subst, inr, arith}
use Rattle.isad_core.proofs.DayLemmas.{is_day_number-true}
use Rattle.isad_core.specs.Days.{is_day_number}
use Rattle.desk_core.specs.LegibleDesks.{IsKnownPlace, IsLegible, IsLegibleHolding, IsLegibleOrder, IsLegibleReader}
use Rattle.catalogue_core.proofs.KeptCatalogues.{kept, knows}
use Rattle.catalogue_core.specs.Members.{StandsIn}
use Rattle.office_core.proofs.Words.{numbered_within}
use Rattle.office_core.specs.State.{State}
use Rattle.state_encoding.proofs.DeskLookups.{is_between_so}
use Rattle.state_encoding.proofs.SaidOrders.{HoldingKind, AtDesk, OutWith}
use Rattle.refinement.proofs.Judged.{distinct_ids, orders_there}
use Rattle.refinement.specs.AccessConditions.{CanBeJudged}
use Rattle.adoption.proofs.Common.{HoldingRow, IsSoundButForTheDay, IsUtf8, MeetsCatalogueKeys, MeetsDeskKeys}
use Rattle.adoption.proofs.Common.{OfficeRows, OrdersParts, PermitRow, ReaderParts, ReaderRow, RunParts, RunRow}
use Rattle.adoption.proofs.Common.{SeatRow, Trees, Version, all_in, all_of_in, legible_rows, rows_in, state_of}
use Rattle.adoption.proofs.desk.Again.{q, said_again, holding_known, sound_but}
use Rattle.adoption.proofs.desk.ShownDesk.{reader_facts, order_facts, run_facts}
use Rattle.adoption.proofs.tables.Causeless.{ArePassed}

is_place : (t : OfficeRows) (row : HoldingRow) → HoldingKind t row → IsKnownPlace row.place row.held_by
is_place t row (AtDesk one none) = subst (IsKnownPlace row.place) (sym none) one
is_place t row (OutWith o two some out) = subst (IsKnownPlace row.place) (sym some) (inr two)

module _ (version : Version) (db : Trees) (passed : ArePassed version db) (named : MeetsCatalogueKeys (rows_in version db).catalogue) (keys : MeetsDeskKeys (rows_in version db).desk) where
  abbrev t : OfficeRows
  t = rows_in version db

  abbrev s : State
  s = state_of t

  good : IsSoundButForTheDay s
  good = sound_but version db passed named keys

  r : ReaderParts t
  r = reader_facts version db passed

  o : OrdersParts t
  o = order_facts version db passed

  p : RunParts t
  p = run_facts version db passed

  holdings_legible : (row : HoldingRow) → StandsIn row t.desk.holdings → IsLegibleHolding row
  holdings_legible row k =
      let low = numbered_within s.catalogue.containers row.container (holding_known version db passed named keys row k) in
      let few = good.catalogue.containers.few in
      record { number = omega (arith, low, few); place = is_place t row ((q version db passed named keys).kinds row k) }

  seats_legible : (row : SeatRow) → StandsIn row t.desk.seats → row.seat < 2 ^ 32
  seats_legible row k =
      let it = (r.seats row k).1 in
      let most = (is_between_so 1 200 s.settings.seats good.catalogue.settings.seats).1 in
      omega (arith, it, most)

  legible : IsLegible t.desk
  legible = record {
    readers = all_of_in IsLegibleReader t.desk.readers (λ row k. record { name = all_in (λ (row : ReaderRow). IsUtf8 row.name) t.desk.readers row (legible_rows version db).readers k; until = is_day_number-true row.until (r.readers row k).1 });
    seats = all_of_in (λ (row : SeatRow). row.seat < 2 ^ 32) t.desk.seats seats_legible;
    orders = all_of_in IsLegibleOrder t.desk.orders (λ row k. let it = o.orders row k in record { day = is_day_number-true row.day it.is_day; some_state = it.state.0; state = it.state.1 });
    holdings = all_of_in IsLegibleHolding t.desk.holdings holdings_legible;
    runs = all_of_in (λ (row : RunRow). is_day_number row.day ≡ true) t.desk.runs (λ row k. is_day_number-true row.day (p.days row k).0);
    permits = all_of_in (λ (row : PermitRow). is_day_number row.until ≡ true) t.desk.permits (λ row k. is_day_number-true row.until (r.permits row k).day);
  }

  pub can_be_judged : CanBeJudged s
  can_be_judged = record {
    catalogue = kept s.catalogue good.catalogue.units good.catalogue.containers good.catalogue.closures good.texts.catalogue;
    containers = knows s.catalogue good.catalogue.units good.catalogue.boxes;
    units = distinct_ids s.catalogue good.catalogue.units;
    desk = λ v. subst IsLegible (sym (said_again version db passed named keys v)) legible;
    permits = good.permits.known;
    orders = orders_there s good.filed;
  }
