use Rattle.std.proofs.Common.{◌≡◌, true, false, Option, sym, ap, subst, ◌∙◌}
use Rattle.csv_import.proofs.Common.{Bytes, IfSome, contains_text, is_some, or_right, tells_passed_later}
use Rattle.csv_import.proofs.Noted.{noted_itself, still_noted}
use Rattle.csv_import.proofs.Tellings.{tells_later, tells_of}
use Rattle.csv_import.proofs.numbers.look_up_row.Goals as goal

pub returns-then-is_some-clause-answers : goal.returns-then-is_some-clause-answers
returns-then-is_some-clause-answers g c =
    let legacy = c.args.row.now.legacy in
    let own = noted_itself (contains_text c.args.asked.now) (contains_text c.look_up.new.asked) legacy c.in_ok-look_up.ensures.asked in
    tells_of c.in_ok-look_up.ensures.answers (λ o k it is good knows.
    let now = is good knows in
    let known : is_some c.kept_number.result ≡ true = sym c.is_some.ensures ∙ c.if-is_some.true in
    (now, record { unit = own; parent = λ new. absurd (let clash : false ≡ true = sym (ap is_some (c.kept_number.ensures ∙ (now.told legacy own ∙ new))) ∙ known in cc) }))

pub returns-in_default-clause-answers : goal.returns-in_default-clause-answers
returns-in_default-clause-answers g c =
    let own = noted_itself (contains_text c.args.asked.now) (contains_text c.look_up.new.asked) c.args.row.now.legacy c.in_ok-look_up.ensures.asked in
    tells_of c.in_ok-look_up.ensures.answers (λ o k it is good knows.
    (is good knows, record { unit = own; parent = λ new. subst (λ (p : Option Bytes). IfSome p (λ parent. contains_text c.look_up.new.asked parent ≡ true)) (sym c.in_default.is) tt }))

pub returns-in_err-look_up-2-clause-answers : goal.returns-in_err-look_up-2-clause-answers
returns-in_err-look_up-2-clause-answers g c =
    let told = c.in_err-look_up-2.ensures.answers in
    tells_passed_later _ c.from_residual-in_err-look_up-2.ensures c.in_ok-look_up.ensures.answers.looks told.aborts (λ o k it may good. told.faults o k it may good)

pub returns-clause-answers : goal.returns-clause-answers
returns-clause-answers g c =
    let first = c.in_ok-look_up.ensures in
    let second = c.in_ok-look_up-2.ensures in
    let legacy = c.args.row.now.legacy in
    let mid = contains_text c.look_up.new.asked in
    let later = contains_text c.look_up-2.new.asked in
    let own = still_noted mid later c.in-Some.parent second.asked legacy (noted_itself (contains_text c.args.asked.now) mid legacy first.asked) in
    let its_parent = noted_itself mid later c.in-Some.parent second.asked in
    tells_later first.answers.looks second.answers (λ clean o k it is good knows.
    (is good (first.answers.answers clean o k it good knows), record { unit = own; parent = λ new. subst (λ (p : Option Bytes). IfSome p (λ parent. later parent ≡ true)) (sym c.in-Some.is) its_parent }))

pub returns-clause-more : goal.returns-clause-more
returns-clause-more g c q was = c.in_ok-look_up-2.ensures.asked q ∙ or_right _ _ (c.in_ok-look_up.ensures.asked q ∙ or_right _ _ was)

pub returns-then-is_some-clause-more : goal.returns-then-is_some-clause-more
returns-then-is_some-clause-more g c q was = c.in_ok-look_up.ensures.asked q ∙ or_right _ _ was

pub returns-in_default-clause-more : goal.returns-in_default-clause-more
returns-in_default-clause-more g c q was = c.in_ok-look_up.ensures.asked q ∙ or_right _ _ was
