use Rattle.std.proofs.Common.{Ok, refl, ◌∷◌, [], slice_get, ap, ◌∙◌}
use Rattle.catalogue_statements.proofs.Common.{IfOk-weaker, IsLegibleUnit, IsUtf8, Text, Unit, all_weaker, known_query}
use Rattle.catalogue_statements.proofs.Common.{looks_up}
use Rattle.catalogue_statements.proofs.UnitQueries.{level_text, level_columns, level_names, level_means, numbered_finds}
use Rattle.catalogue_statements.proofs.UnitQueries.{numbered_faults}
use Rattle.catalogue_statements.proofs.units.find_level.Goals as goal

pub find_one-requires : goal.find_one-requires
find_one-requires g c = known_query (level_means g.P.Versioned.version)

pub returns : goal.returns
returns g c =
    looks_up g.P.Versioned.version c.find_one.ensures.reads (rw c.cell.ensures at c.find_one.ensures.ran)
    (λ v has found xs stored _. IfOk-weaker c.find_one.result _ _ (λ first it.
    let all = numbered_finds _ _ c.args.id v has level_text level_columns level_names (level_means v) xs stored (λ t. Text t ∷ []) (λ l. l) (λ (u : Unit). u.values.level) (λ _. refl) (Ok it.0) it.1 in
    (all.0, all.1, it.2 ∙ ap (λ l. slice_get l 0) all.2)) found)
    (λ v has missed xs stored legible free.
    numbered_faults _ _ c.args.id v has level_text level_columns level_names (level_means v) xs stored (λ t. Text t ∷ []) (λ _. []) (λ (u : Unit). u.values.level) (λ _. refl) c.find_one.result
    IsUtf8 refl (all_weaker IsLegibleUnit (λ (u : Unit). IsUtf8 u.values.level) (λ u h. h.level) xs legible) free missed)
