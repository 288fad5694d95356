use Rattle.catalogue_statements.proofs.Common.{known_query, looks_up}
use Rattle.catalogue_statements.proofs.ElementStatements.{first_means, first_found, first_faults}
use Rattle.catalogue_statements.proofs.elements.first_elements.Goals as goal

pub find-requires : goal.find-requires
find-requires g c = known_query (first_means g.P.Versioned.version)

pub returns : goal.returns
returns g c =
    looks_up g.P.Versioned.version c.find.ensures.reads (rw (c.cell.ensures, c.cell-2.ensures) at c.find.ensures.ran)
    (λ v has found xs stored _. first_found _ _ c.args.unit c.args.most v has xs stored (λ found. found.items) c.find.result found)
    (λ v has missed xs stored legible free. first_faults _ _ c.args.unit c.args.most v has xs stored (λ found. found.items) c.find.result legible free missed)
