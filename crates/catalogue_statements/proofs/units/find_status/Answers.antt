use Rattle.std.proofs.Common.{Ok, refl, ◌∷◌, [], map, filter, ap, ◌∙◌, SFits}
use Rattle.std.specs.Int.{w32}
use Rattle.office_tables.specs.Flags.{flag}
use Rattle.catalogue_statements.specs.declared.row_types.Status.{Status}
use Rattle.catalogue_statements.proofs.Common.{IfOk-weaker, IfSome, Int, IsLegibleUnit, Unit, all_weaker}
use Rattle.catalogue_statements.proofs.Common.{ascending-filter, by_number, first_shown, has_id, known_query, looks_up}
use Rattle.catalogue_statements.proofs.Common.{only_order, or_null}
use Rattle.catalogue_statements.proofs.UnitQueries.{status_text, status_columns, status_names, status_means}
use Rattle.catalogue_statements.proofs.UnitQueries.{numbered_finds, numbered_faults, until_fits, by_number_total}
use Rattle.catalogue_statements.proofs.units.find_status.Goals as goal

abbrev status : Unit → Status
status u = record { draft = u.draft; until = u.until }

pub find_one-requires : goal.find_one-requires
find_one-requires g c = known_query (status_means g.P.Versioned.version)

pub returns : goal.returns
returns g c =
    looks_up g.P.Versioned.version c.find_one.ensures.reads (rw c.cell.ensures at c.find_one.ensures.ran)
    (λ v has found xs stored up.
    let rising = ascending-filter _ (has_id c.args.id) xs up in
    IfOk-weaker c.find_one.result _ _ (λ first it.
    let all = numbered_finds _ _ c.args.id v has status_text status_columns status_names (status_means v) xs stored (λ (s : Status). Int (flag s.draft) ∷ or_null Int s.until ∷ []) (λ l. l) status (λ _. refl) (Ok it.0) it.1 in
    it.2 ∙ first_shown status (has_id c.args.id) xs it.0 (all.2 ∙ ap (map status) (only_order by_number by_number_total (filter (has_id c.args.id) xs) all.0 rising all.1.1 all.1.0))) found)
    (λ v has missed xs stored legible free.
    numbered_faults _ _ c.args.id v has status_text status_columns status_names (status_means v) xs stored (λ (s : Status). Int (flag s.draft) ∷ or_null Int s.until ∷ []) (λ _. []) status (λ _. refl) c.find_one.result
    (λ (s : Status). IfSome s.until (SFits w32)) refl (all_weaker IsLegibleUnit (λ (u : Unit). IfSome u.until (SFits w32)) until_fits xs legible) free missed)
