use Rattle.std.proofs.Common.{Ok, List, [], slice_get, ap, ◌∙◌}
use Rattle.catalogue_statements.proofs.Common.{IfOk-weaker, OfficeRow, answered, caused, known_query, state}
use Rattle.catalogue_statements.proofs.OfficeStatements.{office_is_means, office_is_finds, office_is_faults}
use Rattle.catalogue_statements.proofs.office.find_office.Goals as goal

pub find_one-requires : goal.find_one-requires
find_one-requires g c = known_query (office_is_means g.P.Versioned.version)

pub returns-clause-row : goal.returns-clause-row
returns-clause-row g c clean version o stored =
    answered (state g.S.Store c.args.tables.now) c.find_one.result _ (c.find_one.ensures.ran clean) (λ ran. IfOk-weaker c.find_one.result _ _ (λ first it.
    it.2 ∙ ap (λ (l : List OfficeRow). slice_get l 0) (office_is_finds _ _ g.P.Versioned.version ran.0 version o stored (λ l. l) (Ok it.0) it.1)) ran.1)

pub returns-clause-faults : goal.returns-clause-faults
returns-clause-faults g c version o stored legible clean free =
    caused (state g.S.Store c.args.tables.now) (state g.S.Store c.find_one.new.tables) c.find_one.result (c.find_one.ensures.ran clean) (λ ran. office_is_faults _ _ g.P.Versioned.version ran.0 version o stored (λ _. []) c.find_one.result legible free ran.2)
