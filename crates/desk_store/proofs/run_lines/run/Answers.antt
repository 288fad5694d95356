use Rattle.std.proofs.Common.{None, refl, sym, ◌∙◌}
use Rattle.desk_store.proofs.Common.{RepresentsQueues, early, looks_then, run_with, same_fault, state}
use Rattle.desk_store.proofs.BroughtCalls.{none_told, run_told, known_lines}
use Rattle.desk_store.proofs.ToldCalls.{shown_on, shown_back}
use Rattle.desk_store.proofs.TellingCalls.{ends_not, ends_well}
use Rattle.desk_store.proofs.run_lines.run.Goals as goal

pub returns-in_default : goal.returns-in_default
returns-in_default g c =
    record {
      answers = ends_well c.in_ok-made.ensures.reads.looks None (λ clean s shown.
          let there = c.in_ok-made.ensures.answers clean s.desk.runs shown.desk.runs shown.desk.run_numbers in
          none_told s (run_with c.args.run s.desk) (sym there ∙ c.in_default.is));
    }

pub returns-in_err-lines : goal.returns-in_err-lines
returns-in_err-lines g c = record { answers = ends_not c.in_ok-made.ensures.reads.looks c.in_err-lines.ensures.reads.aborts c.in_err-lines.ensures.reads.spares (λ s shown may kept. c.in_err-lines.ensures.faults s.desk.run_lines shown.desk.run_lines tt) (same_fault c.from_residual-in_err-lines.ensures) }

pub returns-in_err-told : goal.returns-in_err-told
returns-in_err-told g c =
    let l = state g.S.Store c.lines_with.new.tables in
    record {
      answers = ends_not (looks_then c.in_ok-made.ensures.reads.looks c.in_ok-lines.ensures.reads.looks) c.in_err-told.ensures.answers.aborts c.in_err-told.ensures.answers.spares (λ s shown may kept clean.
          let before = early c.in_err-told.ensures.answers.aborts.crash clean in
          let shown_b = shown_back RepresentsQueues (state g.S.Store c.find_day.new.tables) l c.in_ok-lines.ensures.reads.looks before s shown in
          let are = c.in_ok-lines.ensures.answers before s.desk.run_lines shown_b.desk.run_lines tt in
          c.in_err-told.ensures.answers.faults tt s shown (rw c.deref.ensures.value (known_lines c.args.run s c.in_ok-lines.lines.items are may)) kept clean) (same_fault c.from_residual-in_err-told.ensures);
    }

pub returns : goal.returns
returns g c =
    let one = c.in_ok-made.ensures.reads.looks in
    let two = looks_then one c.in_ok-lines.ensures.reads.looks in
    let three = c.in_ok-told.ensures.answers.looks in
    record {
      answers = ends_well (looks_then two three) _ (λ clean s shown.
          let at_l = early three.goes.on.crash clean in
          let at_b = early c.in_ok-lines.ensures.reads.crash at_l in
          let shown_b = shown_on RepresentsQueues one at_b s shown in
          let shown_l = shown_on RepresentsQueues two at_l s shown in
          let there = c.in_ok-made.ensures.answers at_b s.desk.runs shown.desk.runs shown.desk.run_numbers in
          let are = c.in_ok-lines.ensures.answers at_l s.desk.run_lines shown_b.desk.run_lines tt in
          run_told c.args.run s (run_with c.args.run s.desk) c.in-Some.made c.in_ok-lines.lines.items c.in_ok-told.told.items refl (sym there ∙ c.in-Some.is) are
          (rw c.deref.ensures.value at (c.in_ok-told.ensures.answers.answers clean tt s shown_l)));
    }
