use Rattle.std.proofs.Common.{◌≡◌, Some, None, sym, ap, ◌∙◌}
use Rattle.public_queries.proofs.Common.{Unit, cut_after, looks_nowhere, option_map, tells_passed, tells_well}
use Rattle.public_queries.proofs.PageNeeds.{of_last, of_others}
use Rattle.public_queries.proofs.page_needs.read_level.Goals as goal

none_some : {X : Type 0} (x : X) → None ≡ Some x → ⊥
none_some x e = absurd (cc)

same : {X : Type 0} (x y : X) → Some x ≡ Some y → x ≡ y
same x y e = cc

pub returns-then-not-is_empty : goal.returns-then-not-is_empty
returns-then-not-is_empty g c =
    record {
      answers = tells_well looks_nowhere (λ clean o k it u marked.
          c.in_ok-new.ensures ∙ sym (of_others c.args.below.now u (sym c.is_empty.ensures ∙ c.if-not-is_empty.true)));
    }

pub returns-in_err-level : goal.returns-in_err-level
returns-in_err-level g c =
    let why = c.in_err-level.ensures.answers in
    record {
      answers = tells_passed _ c.from_residual-in_err-level.ensures why.aborts (λ o k it may kept.
          why.faults o k (record { version = g.P.Versioned.version; catalogue = it.catalogue; places = may.1.tellable.places }) tt kept);
    }

pub returns-in_default : goal.returns-in_default
returns-in_default g c =
    let told = c.in_ok-level.ensures.answers in
    record {
      answers = record {
        answers = λ clean o k it. tt;
        looks = tt;
        aborts = cut_after told.looks.goes.on;
        faults = λ o k it may kept clean free.
            absurd (none_some may.0.values.level
            (sym c.in_default.is ∙ told.answers clean o k (record { version = g.P.Versioned.version; catalogue = it.catalogue; places = may.1.tellable.places })
            ∙ ap (option_map (λ (u : Unit). u.values.level)) may.1.found));
      };
    }

pub returns : goal.returns
returns g c =
    let told = c.in_ok-level.ensures.answers in
    record {
      answers = tells_well told.looks (λ clean o k it u marked.
          same c.in-Some.level u.values.level
          (sym c.in-Some.is ∙ told.answers clean o k (record { version = g.P.Versioned.version; catalogue = it.catalogue; places = marked.tellable.places }) ∙ ap (option_map (λ (u : Unit). u.values.level)) marked.found)
          ∙ sym (of_last c.args.below.now u (sym c.is_empty.ensures ∙ c.if-not-is_empty.false)));
    }
