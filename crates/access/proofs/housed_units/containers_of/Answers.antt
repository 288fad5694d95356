use Rattle.std.proofs.Common.{ap, ◌∙◌}
use Rattle.std.specs.Prelude.{map}
use Rattle.catalogue_statements.specs.declared.row_types.Housing.{Housing}
use Rattle.access.proofs.Common.{is_one_of, looks_full, looks_nowhere}
use Rattle.access.proofs.Learned.{learned_look, look_ends_so, look_fault}
use Rattle.access.proofs.NearRows.{of_unit}
use Rattle.access.proofs.housed_units.containers_of.Goals as goal

pub returns-in_err-housings : goal.returns-in_err-housings
returns-in_err-housings g c = look_fault c.from_residual.ensures looks_nowhere c.in_err-housings.ensures

pub returns-in_err-numbers_of : goal.returns-in_err-numbers_of
returns-in_err-numbers_of g c = looks_full c.from_residual-in_err-numbers_of.ensures c.in_ok-housings.ensures.reads.looks

pub returns : goal.returns
returns g c =
    look_ends_so (learned_look c.in_ok-housings.ensures) (λ xs found n.
    ap (is_one_of n) (c.in_ok-numbers_of.ensures ∙ ap (map (λ (h : Housing). h.container)) (c.deref.ensures.value ∙ found.2))
    ∙ of_unit xs found.0 c.args.unit n found.1.0)
