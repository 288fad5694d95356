use Rattle.catalogue_statements.proofs.TextReads.{AreTold}
use Rattle.catalogue_store.proofs.unit_values.texts_by_element.Given as goal

abbrev pub invariant-loop-element : goal.invariant-loop-element
invariant-loop-element l = AreTold l.texts l.yielded
