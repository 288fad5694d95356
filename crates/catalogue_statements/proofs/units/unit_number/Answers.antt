use Rattle.std.proofs.Common.{Ok, [], slice_get, ap, ◌∙◌}
use Rattle.std.specs.Bool.{⊤}
use Rattle.catalogue_statements.proofs.Common.{IfOk-weaker, Unit, all_of, known_query, looks_up}
use Rattle.catalogue_statements.proofs.UnitQueries.{from_means, from_finds, from_faults}
use Rattle.catalogue_statements.proofs.units.unit_number.Goals as goal

pub find_one-requires : goal.find_one-requires
find_one-requires g c = known_query (from_means g.P.Versioned.version)

pub returns : goal.returns
returns g c =
    looks_up g.P.Versioned.version c.find_one.ensures.reads (rw (c.words.ensures, c.words-2.ensures) at c.find_one.ensures.ran)
    (λ v has found xs stored _. IfOk-weaker c.find_one.result _ _ (λ first it.
    let all = from_finds _ _ c.args.source.now c.args.legacy.now v has xs stored (λ l. l) (Ok it.0) it.1 in
    (all.0, all.1, it.2 ∙ ap (λ l. slice_get l 0) all.2)) found)
    (λ v has missed xs stored _ free. from_faults _ _ c.args.source.now c.args.legacy.now v has xs stored (λ _. []) c.find_one.result (λ _. ⊤) (all_of (λ (_ : Unit). ⊤) (λ _. tt) xs) free missed)
