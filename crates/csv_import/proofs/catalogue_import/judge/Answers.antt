use Rattle.std.proofs.Common.{◌≡◌, Bool, true, Err, ap, cond, length, subst, sym, ◌∙◌}
use Rattle.office_core.specs.ImportReply as reply
use Rattle.access.specs.Gate.{gate_reply}
use Rattle.csv_import.proofs.Common.{Database, Full, RepresentsState, early, import_outcome, looks_then}
use Rattle.csv_import.proofs.Common.{most_containers, nat_lt, office_of, tells_passed}
use Rattle.csv_import.proofs.Carried.{few_containers, have_units, judged_by, settings_shown}
use Rattle.csv_import.proofs.Tellings.{tells_cut_later, tells_so, told_again, told_later}
use Rattle.csv_import.proofs.catalogue_import.judge.Goals as goal

pub returns-in_err-has_many_containers : goal.returns-in_err-has_many_containers
returns-in_err-has_many_containers g c =
    let told = c.in_err-has_many_containers.ensures.answers in
    record { answers = λ source. tells_passed _ c.from_residual.ensures told.aborts (λ beside s it may has. told.faults s.catalogue (office_of s) it.catalogue tt (settings_shown s has.imported.settings)) }

pub returns-then-branch : goal.returns-then-branch
returns-then-branch g c =
    let told = c.in_ok-has_many_containers.ensures.answers in
    record {
      answers = λ source. tells_so told.looks (λ clean beside s it has day.
          let many : nat_lt most_containers (length s.catalogue.containers) ≡ true = sym (told.answers clean s.catalogue (office_of s) it.catalogue) ∙ c.if-branch.true in
          sym (ap (λ (b : Bool). cond b (Err Full) (gate_reply s (import_outcome source c.args.file.now c.args.outcome.now.counts s))) many));
    }

pub returns-in_err-remarks : goal.returns-in_err-remarks
returns-in_err-remarks g c =
    let counted = c.in_ok-has_many_containers.ensures.answers in
    record {
      answers = λ source.
          let told = c.in_err-remarks.ensures.answers source in
          tells_cut_later c.has_many_containers.new.tables _ c.from_residual-in_err-remarks.ensures counted.looks told.aborts (λ beside s it may has at_b clean free.
          let within = few_containers s (counted.answers at_b s.catalogue (office_of s) it.catalogue) c.if-branch.false in
          let still = subst (λ (db : Database). RepresentsState g.P.Places.represents g.P.Versioned.version db s) (sym (counted.looks.same at_b)) it in
          told.faults (office_of s) s.catalogue still.catalogue (have_units source c.args.file.now c.args.outcome.now.units.items s within has _ c.as_slice.ensures _ c.deref.ensures.value) (has.imported.judged within).catalogue clean free);
    }

pub returns : goal.returns
returns g c =
    let counted = c.in_ok-has_many_containers.ensures.answers in
    let file = c.args.file.now in
    let outcome = c.args.outcome.now in
    record {
      answers = λ source.
          let told = c.in_ok-remarks.ensures.answers source in
          told_again c.pass_gate.ensures.answers (looks_then counted.looks told.looks)
          (λ clean beside s it may has.
          let at_b = early told.looks.goes.on.crash clean in
          (tt, has.imported.judged (few_containers s (counted.answers at_b s.catalogue (office_of s) it.catalogue) c.if-branch.false)))
          (λ clean beside s it made is has day.
          let now = told_later counted.looks told clean (office_of s) s.catalogue it.catalogue in
          let few = few_containers s (counted.answers now.0 s.catalogue (office_of s) it.catalogue) c.if-branch.false in
          let marks = now.1 (have_units source file outcome.units.items s few has _ c.as_slice.ensures _ c.deref.ensures.value) in
          judged_by source file outcome.counts s few (is (has.imported.judged few) day) (marks ∙ ap (reply.remarks s.catalogue.forest source) c.as_slice.ensures) c.from.ensures);
    }
