-- What is told of a ticket's permits is what the rules tell of them.
use Rattle.std.proofs.Common.{◌≡◌, ◌<◌, ℕ, pos, true, false, Less, List, [], ◌∷◌, map, Option, Some, None, refl, ap}
use Rattle.std.proofs.Common.{subst, ◌∙◌}
use Rattle.std.specs.Ordering.{int_cmp}
use Rattle.office_tables.proofs.Sorted.{only_order}
use Rattle.office_tables.proofs.numbered.Counted.{below_less}
use Rattle.office_tables.specs.Order.{IsOrdered, Rises}
use Rattle.desk_store.specs.Permits.{by_permitted_unit, permits_of}
use Rattle.desk_store.specs.declared.reader_permits.Permit.{Permit as Told}
use Rattle.office_core.specs.State.{Permit}
use Rattle.office_core.specs.declared.query.Query.TheVariants as query
use Rattle.refinement.proofs.PermitsShown.{permits_shown, told_of, by_unit_total}
use Rattle.desk_queries.proofs.Common.{AllByRecursion, ByUnit, IsSoundOffice, Json, Reader, State, Unknown}
use Rattle.desk_queries.proofs.Common.{UnknownTicket, Version, answer, compact_text, is_some, is_ticket, known_json}
use Rattle.desk_queries.proofs.Common.{list, map-map, nth, option_map, permit_data, permit_json, tables}

above : (u : ℕ) (permits : List Permit) → AllByRecursion (λ (p : Permit). u < p.unit) permits
    → AllByRecursion (λ (p : Told). int_cmp (pos u) (pos p.unit) ≡ Less) (map told_of permits)
above u [] all = tt
above u (p ∷ permits) all = (below_less u p.unit all.0, above u permits all.1)

rises : (permits : List Permit) → ByUnit permits → Rises by_permitted_unit (map told_of permits)
rises [] by = tt
rises (p ∷ permits) by = (above p.unit permits by.0, rises permits by.1)

module _ (version : Version) (s : State) (sound : IsSoundOffice s) (t : ℕ) where
  -- they are told by unit
  pub permits_told : (all : List Told) → IsOrdered by_permitted_unit (permits_of t (tables version s).desk) all
      → map permit_data all ≡ map permit_json (s.permits t)
  permits_told all ordered =
      let shown = permits_shown version s sound.sound.desk.permits t in
      let it : IsOrdered by_permitted_unit (map told_of (s.permits t)) all =
      subst (λ (l : List Told). IsOrdered by_permitted_unit l all) shown ordered in
      ap (map permit_data) (only_order by_permitted_unit by_unit_total (map told_of (s.permits t)) all (rises (s.permits t) (sound.sound.desk.permits.by_unit t)) it.1 it.0)
      ∙ map-map permit_data told_of (s.permits t)

  pub no_ticket : is_ticket s t ≡ false → Unknown UnknownTicket ≡ answer s (query.ReaderPermits t)
  no_ticket none = at (nth s.readers t) none
    where
      at : (reader : Option Reader) → is_some reader ≡ false
          → Unknown UnknownTicket ≡ known_json UnknownTicket (option_map (λ (reader : Reader). list (map permit_json (s.permits t))) reader)
      at None e = refl
      at (Some reader) e = absurd (cc)

  pub has_ticket : is_ticket s t ≡ true
      → Json (compact_text (list (map permit_json (s.permits t)))) ≡ answer s (query.ReaderPermits t)
  has_ticket some = at (nth s.readers t) some
    where
      at : (reader : Option Reader) → is_some reader ≡ true
          → Json (compact_text (list (map permit_json (s.permits t)))) ≡ known_json UnknownTicket (option_map (λ (reader : Reader). list (map permit_json (s.permits t))) reader)
      at None e = absurd (cc)
      at (Some reader) e = refl
