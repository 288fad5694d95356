use Rattle.std.proofs.Common.{ap, refl, sym, ◌∙◌}
use Rattle.csv_import.proofs.Common.{Values, all_places, as_updates, cut_after, early, makes_not, makes_passed}
use Rattle.csv_import.proofs.Common.{same_values}
use Rattle.csv_import.proofs.Afterwards.{makes_fault, makes_nothing, makes_same, makes_then}
use Rattle.csv_import.proofs.Frames.{at_next, kept_at, knows_at, makes_valued, values_told}
use Rattle.csv_import.proofs.OneRow.{entry_told, is_valued, not_untold, told_of_it}
use Rattle.csv_import.proofs.SameValues.{nothing_changes}
use Rattle.csv_import.proofs.row_entry.enter_known.Goals as goal

pub returns-in_err-found-clause-updates : goal.returns-in_err-found-clause-updates
returns-in_err-found-clause-updates g c =
    let told = c.in_err-found.ensures.answers in
    makes_passed _ c.from_residual.ensures told.aborts (λ o k it may kept.
    told.faults o (at_next o.next_unit k) (record { version = g.P.Versioned.version; catalogue = it; places = all_places k may.units }) (knows_at o.next_unit k may.there.knows) (kept_at o.next_unit k may.kept))

pub returns-in_default-clause-updates : goal.returns-in_default-clause-updates
returns-in_default-clause-updates g c =
    let told = c.in_ok-found.ensures.answers.call in
    makes_not refl (cut_after told.looks.goes.on) (λ o k it may kept clean free.
    absurd (not_untold k c.args.unit may.there.there (sym c.in_default.is ∙ values_told may told clean it)))

pub returns-then-are_same-clause-updates : goal.returns-then-are_same-clause-updates
returns-then-are_same-clause-updates g c =
    let told = c.in_ok-found.ensures.answers.call in
    makes_nothing told.looks (λ o k it may clean.
    let v = is_valued k c.args.unit may.there.there in
    let is = told_of_it k c.args.unit v.unit c.in-Some.found v.by_number (sym c.in-Some.is ∙ values_told may told clean it) in
    let alike = ap (λ (w : Values). same_values w c.args.values.now) (sym is) ∙ (sym c.are_same.ensures ∙ c.if-are_same.true) in
    sym (nothing_changes k c.args.unit v.unit c.args.values.now may.units may.there.knows v.by_number alike))

pub returns-then-are_same-clause-told : goal.returns-then-are_same-clause-told
returns-then-are_same-clause-told g c clean o k it may u found =
    let told = values_told may c.in_ok-found.ensures.answers.call clean it in
    entry_told k c.args.unit c.args.values.now found (sym c.in-Some.is ∙ told) c.are_same.ensures c.if-are_same.true

pub returns-in_err-enter_values-clause-updates : goal.returns-in_err-enter_values-clause-updates
returns-in_err-enter_values-clause-updates g c =
    makes_fault _ c.from_residual-in_err-enter_values.ensures
    (makes_then c.in_ok-found.ensures.answers.looks (makes_valued c.args.unit c.args.values.now (as_updates (c.in_err-enter_values.ensures.updates g.P.Versioned.version))) refl
    (λ o k it allowed clean. record { within = tt; allowed = allowed; same = refl }))

pub returns-clause-updates : goal.returns-clause-updates
returns-clause-updates g c =
    makes_same
    (makes_then c.in_ok-found.ensures.answers.looks (makes_valued c.args.unit c.args.values.now (as_updates (c.in_ok-enter_values.ensures.updates g.P.Versioned.version))) refl
    (λ o k it allowed clean. record { within = tt; allowed = allowed; same = refl }))

pub returns-clause-told : goal.returns-clause-told
returns-clause-told g c clean o k it may u found =
    let at_b = early (c.in_ok-enter_values.ensures.updates g.P.Versioned.version).goes.on.crash clean in
    let told = values_told may c.in_ok-found.ensures.answers.call at_b it in
    entry_told k c.args.unit c.args.values.now found (sym c.in-Some.is ∙ told) c.are_same.ensures c.if-are_same.false
