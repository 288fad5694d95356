use Rattle.std.proofs.Common.{ℤ, List, [], length, sym, ap, ◌∙◌}
use Rattle.desk_store.specs.declared.reader_permits.Permit.{Permit}
use Rattle.access.proofs.Common.{allows, ends_well, eqb-true, is_clean_for, list_all, looks_nowhere}
use Rattle.access.proofs.Learned.{ends_so, fault_first, learned_by, of_desk}
use Rattle.access.proofs.OpenByUnits.{all_there, none_open, open_by, open_to_public}
use Rattle.access.proofs.openness.is_open_by.Goals as goal

pub returns-then-is_empty-clause-answers : goal.returns-then-is_empty-clause-answers
returns-then-is_empty-clause-answers g c =
    let units = c.args.units.now in
    ends_well looks_nowhere _ (λ clean s it judged day known container are.
    none_open s judged container units are c.args.ticket (eqb-true (length units) 0 (sym c.if-is_empty.ensures)))

pub returns-then-is_public-clause-answers : goal.returns-then-is_public-clause-answers
returns-then-is_public-clause-answers g c =
    let units = c.args.units.now in
    ends_well looks_nowhere _ (λ clean s it judged day known container are.
    let f = s.catalogue.forest in
    let told = c.in_ok-is_public.ensures f (record { walk = known; distinct = judged.units }) (all_there s judged container units are) in
    open_to_public s judged container units are c.args.ticket (sym c.if-is_empty.ensures)
    (ap (λ (day : ℤ). list_all (is_clean_for (allows day []) day f) units) (sym day) ∙ sym told ∙ c.if-is_public.true))

pub returns-in_err-permits-clause-answers : goal.returns-in_err-permits-clause-answers
returns-in_err-permits-clause-answers g c = fault_first c.from_residual-in_err-permits.ensures (of_desk c.in_err-permits.ensures.answers.call)

pub returns-clause-answers : goal.returns-clause-answers
returns-clause-answers g c =
    let units = c.args.units.now in
    let permits = c.in_ok-permits.permits.items in
    ends_so (learned_by (of_desk c.in_ok-permits.ensures.answers.call)) (λ _ s read judged day known container are.
    let f = s.catalogue.forest in
    let told = c.in_ok-is_open.ensures f (record { walk = known; distinct = judged.units }) (all_there s judged container units are) in
    open_by s judged container units are c.args.ticket (sym c.if-is_empty.ensures) g.P.Versioned.version permits read.0 c.in_ok-is_open.is_open
    (told ∙ ap (λ (l : List Permit). list_all (is_clean_for (allows c.args.today l) c.args.today f) units) c.deref.ensures.value
    ∙ ap (λ (day : ℤ). list_all (is_clean_for (allows day permits) day f) units) day))
