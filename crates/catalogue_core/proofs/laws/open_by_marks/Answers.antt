use Rattle.catalogue_core.proofs.OpenLemmas.{open_by_marks, marks_say_clean, numbers_tell_nothing}
use Rattle.catalogue_core.proofs.laws.open_by_marks.Goals as goal

pub returns-clause-open : goal.returns-clause-open
returns-clause-open c = open_by_marks

pub returns-clause-numbers : goal.returns-clause-numbers
returns-clause-numbers c = numbers_tell_nothing

pub returns-clause-clean : goal.returns-clause-clean
returns-clause-clean c = marks_say_clean
