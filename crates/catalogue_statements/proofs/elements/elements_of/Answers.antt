use Rattle.catalogue_statements.proofs.Common.{known_query, looks_up}
use Rattle.catalogue_statements.proofs.ElementStatements.{elements_means, elements_found, elements_faults}
use Rattle.catalogue_statements.proofs.elements.elements_of.Goals as goal

pub find-requires : goal.find-requires
find-requires g c = known_query (elements_means g.P.Versioned.version)

pub returns : goal.returns
returns g c =
    looks_up g.P.Versioned.version c.find.ensures.reads (rw c.cell.ensures at c.find.ensures.ran)
    (λ v has found xs stored _. elements_found _ _ c.args.unit v has xs stored (λ found. found.items) c.find.result found)
    (λ v has missed xs stored legible free. elements_faults _ _ c.args.unit v has xs stored (λ found. found.items) c.find.result legible free missed)
