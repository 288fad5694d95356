use Rattle.std.proofs.Common.{refl}
use Rattle.catalogue_statements.proofs.Common.{known_change, puts_numbered}
use Rattle.catalogue_statements.proofs.ElementStatements.{insert_element_means, insert_element_puts}
use Rattle.catalogue_statements.proofs.ElementStatements.{insert_element_faults}
use Rattle.catalogue_statements.proofs.elements.insert_element.Goals as goal

pub change-requires : goal.change-requires
change-requires g c = known_change (insert_element_means g.P.Versioned.version) refl

pub returns : goal.returns
returns g c =
    puts_numbered g.P.Versioned.version c.change.ensures.leaves (rw (c.cell.ensures, c.cell-2.ensures, c.words.ensures) at c.change.ensures.ran)
    (λ v has ran. insert_element_puts _ _ c.args.unit c.args.k c.args.value.now v has c.change.result ran)
    (λ v has ran xs texts room free. insert_element_faults _ _ c.args.unit c.args.k c.args.value.now v has room.0 xs (record { rows = texts }) room.1 free c.change.ensures.live c.change.result ran)
