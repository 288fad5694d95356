use Rattle.std.proofs.Common.{◌≡◌, Some, None, [], sym, ap, ◌∙◌}
use Rattle.public_queries.specs.declared.visible_unit.Seen.{Seen}
use Rattle.public_queries.proofs.Common.{Closed, Head, cut_after, head_of, option_map, tells_well}
use Rattle.public_queries.proofs.visible_unit.seen_closed.Goals as goal

none_some : {X : Type 0} (x : X) → None ≡ Some x → ⊥
none_some x e = absurd (cc)

same : {X : Type 0} (x y : X) → Some x ≡ Some y → x ≡ y
same x y e = cc

pub returns-in_default : goal.returns-in_default
returns-in_default g c =
    let told = c.in_ok-head.ensures.answers in
    record {
      answers = record {
        answers = λ clean o k it. tt;
        looks = tt;
        aborts = cut_after told.looks.goes.on;
        faults = λ o k it may kept clean free. absurd (none_some (head_of may.0) (sym c.in_default.is ∙ told.answers clean o k it ∙ ap (option_map head_of) may.2));
      };
    }

pub returns-in_default-until : goal.returns-in_default-until
returns-in_default-until g c =
    let told = c.in_ok-head.ensures.answers in
    record {
      answers = record {
        answers = λ clean o k it. tt;
        looks = tt;
        aborts = cut_after told.looks.goes.on;
        faults = λ o k it may kept clean free.
            let head = same c.in-Some.head (head_of may.0) (sym c.in-Some.is ∙ told.answers clean o k it ∙ ap (option_map head_of) may.2) in
            absurd (none_some may.1 (sym c.in_default-until.is ∙ ap (λ (h : Head). h.until) head ∙ may.3));
      };
    }

pub returns : goal.returns
returns g c =
    let told = c.in_ok-head.ensures.answers in
    record {
      answers = tells_well told.looks (λ clean o k it u until found is.
          let head = same c.in-Some.head (head_of u) (sym c.in-Some.is ∙ told.answers clean o k it ∙ ap (option_map head_of) found) in
          let day = same c.in-Some-until.until until (sym c.in-Some-until.is ∙ ap (λ (h : Head). h.until) head ∙ is) in
          ap (λ (h : Head). (let s : Seen = record { identifier = h.identifier; level = h.level; title = c.in_ok-new.field-0; body = Closed c.in-Some-until.until } in s)) head
          ∙ ap (λ text. (let s : Seen = record { identifier = (head_of u).identifier; level = u.values.level; title = text; body = Closed c.in-Some-until.until } in s)) c.in_ok-new.ensures
          ∙ ap (λ d. (let s : Seen = record { identifier = (head_of u).identifier; level = u.values.level; title = []; body = Closed d } in s)) day);
    }
