use Rattle.std.proofs.Common.{◌≡◌, [], ◌∷◌, ◌++◌, Bool, sym, subst, ap, ◌∙◌}
use Rattle.catalogue_store.proofs.Common.{IfOk, chosen_units, cut_after, looks_nowhere, same_fault, spares_full}
use Rattle.catalogue_store.proofs.Common.{tells_not, tells_well}
use Rattle.catalogue_store.proofs.status_and_closure.units_under.Goals as goal

pub returns-then-whole : goal.returns-then-whole
returns-then-whole g c =
    let told = c.branch-alloc.ensures.answers in
    record {
      answers = record {
        call = record {
          answers = λ clean beside f it. subst (λ (whole : Bool). IfOk c.branch-alloc.result (λ ids. ids.items ≡ chosen_units whole c.args.unit f)) (sym c.if-whole.true) (told.answers clean tt f it);
          looks = told.looks;
          aborts = told.aborts;
          faults = told.faults;
        };
        spares = told.spares;
      };
    }

pub returns-in_err-push : goal.returns-in_err-push
returns-in_err-push g c =
    record { answers = tells_not (same_fault c.from_residual.ensures) (cut_after looks_nowhere.goes.on) (spares_full looks_nowhere) (λ beside f it may kept clean free. tt) }

pub returns : goal.returns
returns g c =
    record {
      answers = tells_well looks_nowhere
          (λ clean beside f it. subst (λ (whole : Bool). c.push.new.self.items ≡ chosen_units whole c.args.unit f) (sym c.if-whole.false) (c.in_ok-push.ensures.items ∙ ap (λ l. l ++ c.args.unit ∷ []) c.new-one.ensures.items));
    }
