use Rattle.std.proofs.Common.{Ok, refl, ◌≡◌, true, ◌∷◌, [], ap, ◌∙◌, filter, map}
use Rattle.isad_core.specs.Days.{is_day_number}
use Rattle.office_tables.specs.Flags.{flag}
use Rattle.catalogue_statements.specs.Standings.{standing_of}
use Rattle.catalogue_statements.specs.declared.row_types.Standing.{Standing}
use Rattle.catalogue_statements.proofs.Common.{IfOk-weaker, IfSome, Int, IsLegibleUnit, IsUtf8, Text, Unit, all_weaker}
use Rattle.catalogue_statements.proofs.Common.{ascending-filter, by_number, first_shown, has_id, known_query, looks_up}
use Rattle.catalogue_statements.proofs.Common.{only_order, or_null}
use Rattle.catalogue_statements.proofs.UnitQueries.{standing_text, standing_columns, standing_names, standing_means}
use Rattle.catalogue_statements.proofs.UnitQueries.{numbered_finds, numbered_faults, by_number_total}
use Rattle.catalogue_statements.proofs.units.find_standing.Goals as goal

pub find_one-requires : goal.find_one-requires
find_one-requires g c = known_query (standing_means g.P.Versioned.version)

pub returns : goal.returns
returns g c =
    looks_up g.P.Versioned.version c.find_one.ensures.reads (rw c.cell.ensures at c.find_one.ensures.ran)
    (λ v has found xs stored up.
    let rising = ascending-filter _ (has_id c.args.id) xs up in
    IfOk-weaker c.find_one.result _ _ (λ first it.
    let all = numbered_finds _ _ c.args.id v has standing_text standing_columns standing_names (standing_means v) xs stored (λ (s : Standing). Text s.level ∷ Int (flag s.draft) ∷ or_null Int s.until ∷ []) (λ l. l) standing_of (λ _. refl) (Ok it.0) it.1 in
    it.2 ∙ first_shown standing_of (has_id c.args.id) xs it.0 (all.2 ∙ ap (map standing_of) (only_order by_number by_number_total (filter (has_id c.args.id) xs) all.0 rising all.1.1 all.1.0))) found)
    (λ v has missed xs stored legible free.
    numbered_faults _ _ c.args.id v has standing_text standing_columns standing_names (standing_means v) xs stored (λ (s : Standing). Text s.level ∷ Int (flag s.draft) ∷ or_null Int s.until ∷ []) (λ _. []) standing_of (λ _. refl) c.find_one.result
    (λ (s : Standing). IsUtf8 s.level × IfSome s.until (λ day. is_day_number day ≡ true)) refl (all_weaker IsLegibleUnit (λ (u : Unit). IsUtf8 u.values.level × IfSome u.until (λ day. is_day_number day ≡ true)) (λ u h. (h.level, h.until)) xs legible) free missed)
