use Rattle.std.proofs.Common.{◌≡◌, Option, refl, sym, subst}
use Rattle.csv_import.proofs.Common.{IfOk, Unit, entry_of, looks_nowhere}
use Rattle.csv_import.proofs.Afterwards.{makes_then}
use Rattle.csv_import.proofs.OneRow.{entered_known, entered_new, is_found, may_change, may_come, none_there, turn_known}
use Rattle.csv_import.proofs.OneRow.{turn_new}
use Rattle.csv_import.proofs.row_entry.enter_row.Goals as goal

pub returns-then-lt-clause-updates : goal.returns-then-lt-clause-updates
returns-then-lt-clause-updates g c =
    makes_then looks_nowhere c.enter_known.ensures.updates refl
    (λ o k it so clean. (let number = turn_known so c.lt.ensures c.if-lt.true in record { within = tt; allowed = may_change so.turn number; same = sym (entered_known so.turn number) }))

pub returns-then-lt-clause-told : goal.returns-then-lt-clause-told
returns-then-lt-clause-told g c clean o k it so =
    let row = c.args.row.now in
    let number = turn_known so c.lt.ensures c.if-lt.true in
    let v = is_found k c.args.import.now.source.now row.legacy c.args.unit so.turn.units number in
    subst (λ (u : Option Unit). IfOk c.enter_known.result (λ entry. entry ≡ entry_of u row.values)) (sym v.by_source)
    (c.enter_known.ensures.told clean o k it (may_change so.turn number) v.unit v.by_number)

pub returns-clause-updates : goal.returns-clause-updates
returns-clause-updates g c =
    makes_then looks_nowhere c.enter_new.ensures.updates refl
    (λ o k it so clean. (let new = turn_new so c.lt.ensures c.if-lt.false in record { within = tt; allowed = may_come new.1 new.0; same = sym (entered_new new.1 new.0) }))

pub returns-clause-told : goal.returns-clause-told
returns-clause-told g c clean o k it so =
    let row = c.args.row.now in
    let there = none_there k c.args.import.now.source.now row.legacy (turn_new so c.lt.ensures c.if-lt.false).0 in
    subst (λ (u : Option Unit). IfOk c.enter_new.result (λ entry. entry ≡ entry_of u row.values)) (sym there) c.enter_new.ensures.told
