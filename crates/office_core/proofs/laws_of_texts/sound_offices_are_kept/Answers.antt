use Rattle.office_core.proofs.KeptOffices.{office_kept, office_knows, office_places, office_settings}
use Rattle.office_core.proofs.laws_of_texts.sound_offices_are_kept.Goals as goal

pub returns-clause-catalogue : goal.returns-clause-catalogue
returns-clause-catalogue c = office_kept

pub returns-clause-containers : goal.returns-clause-containers
returns-clause-containers c = office_knows

pub returns-clause-places : goal.returns-clause-places
returns-clause-places c = office_places

pub returns-clause-settings : goal.returns-clause-settings
returns-clause-settings c = office_settings
