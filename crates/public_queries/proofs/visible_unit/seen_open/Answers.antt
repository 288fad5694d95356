use Rattle.std.proofs.Common.{◌≡◌, Some, None, sym, ap, ◌∙◌}
use Rattle.public_queries.proofs.Common.{cut_after, option_map, seen_values, tells_passed, tells_well}
use Rattle.public_queries.proofs.AidUnits.{seen_read, values_read}
use Rattle.public_queries.proofs.visible_unit.seen_open.Goals as goal

none_some : {X : Type 0} (x : X) → None ≡ Some x → ⊥
none_some x e = absurd (cc)

same : {X : Type 0} (x y : X) → Some x ≡ Some y → x ≡ y
same x y e = cc

pub returns-in_err-found : goal.returns-in_err-found
returns-in_err-found g c =
    let told = c.in_err-found.ensures.answers in
    record {
      answers = tells_passed _ c.from_residual.ensures told.aborts (λ o k it may kept. told.faults o k (record { version = g.P.Versioned.version; catalogue = it.catalogue; places = may.0.places }) may.0.containers kept);
    }

pub returns-in_default : goal.returns-in_default
returns-in_default g c =
    let told = c.in_ok-found.ensures.answers in
    record {
      answers = record {
        answers = λ clean o k it. tt;
        looks = tt;
        aborts = cut_after told.looks.goes.on;
        faults = λ o k it may kept clean free.
            absurd (none_some (values_read k.containers may.1)
            (sym c.in_default.is ∙ told.answers clean o k (record { version = g.P.Versioned.version; catalogue = it.catalogue; places = may.0.places })
            ∙ ap (option_map (values_read k.containers)) may.2));
      };
    }

pub returns : goal.returns
returns g c =
    let told = c.in_ok-found.ensures.answers in
    record {
      answers = tells_well told.looks (λ clean o k it tellable u found.
          let values = same c.in-Some.found (values_read k.containers u)
          (sym c.in-Some.is ∙ told.answers clean o k (record { version = g.P.Versioned.version; catalogue = it.catalogue; places = tellable.places }) ∙ ap (option_map (values_read k.containers)) found) in
          c.in_ok-seen_values.ensures ∙ ap seen_values values ∙ seen_read k.containers u);
    }
