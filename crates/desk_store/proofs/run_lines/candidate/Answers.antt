use Rattle.std.proofs.Common.{◌≡◌, Some, None, sym, ap, ◌∙◌, refl}
use Rattle.desk_store.proofs.Common.{container_with, cut_after, looks_nowhere, option_map, same_fault, spares_known}
use Rattle.desk_store.proofs.Common.{state}
use Rattle.desk_store.proofs.BoxRows.{Numbered}
use Rattle.desk_store.proofs.BroughtRows.{line_told}
use Rattle.desk_store.proofs.TellingCalls.{ends_not, ends_well}
use Rattle.desk_store.proofs.run_lines.candidate.Goals as goal

pub returns-in_err-written : goal.returns-in_err-written
returns-in_err-written g c = record { answers = ends_not looks_nowhere c.in_err-written.ensures.answers.aborts c.in_err-written.ensures.answers.spares (λ s shown may kept. c.in_err-written.ensures.answers.faults tt s shown tt kept) (same_fault c.from_residual.ensures) }

pub returns-in_default : goal.returns-in_default
returns-in_default g c =
    let b = state g.S.Store c.box_of.new.tables in
    record {
      answers = record {
        call = record {
          answers = λ clean beside s shown. tt;
          looks = tt;
          aborts = cut_after c.in_ok-written.ensures.answers.looks.goes.on;
          faults = λ beside s shown may kept clean free.
              absurd (let none : option_map (λ (b : Numbered). b.1) (Some may.0) ≡ None = ap (option_map (λ (b : Numbered). b.1)) (sym may.1) ∙ sym (c.in_ok-written.ensures.answers.answers clean tt s shown) ∙ c.in_default.is in cc);
        };
        spares = spares_known c.in_ok-written.ensures.answers.looks;
      };
    }

pub returns : goal.returns
returns g c =
    record {
      answers = ends_well c.in_ok-written.ensures.answers.looks _ (λ clean s shown.
          rw (c.get.ensures.same, c.get-2.ensures.same, c.get-3.ensures.same) (line_told c.args.line.now s c.in-Some.written (container_with c.args.line.now.container s) refl (sym (c.in_ok-written.ensures.answers.answers clean tt s shown) ∙ c.in-Some.is)));
    }
