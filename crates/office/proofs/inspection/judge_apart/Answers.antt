use Rattle.std.proofs.Common.{rules, subst}
use Rattle.office_tables.proofs.Sparing.{if_err_then}
use Rattle.office.proofs.Common.{BlamesDisk, Database, IfOk, Inspects, IsVerdict, early, state}
use Rattle.office.proofs.Adoptions.{blames_outside, outer_blames}
use Rattle.office.proofs.HandedOn.{handed_on}
use Rattle.office.proofs.inspection.judge_apart.Goals as goal

pub returns-in_err-begin : goal.returns-in_err-begin
returns-in_err-begin g c =
    let begun = state g.S.Store c.begin.new.conn in
    let it = c.in_err-begin.ensures in
    let e = c.in_err-begin.field-0.0 in
    handed_on (Inspects g.S.Store c.args.conn.now c.begin.new.conn g.P.Versioned.version) _ e c.from_residual.ensures
    (record {
      answers = λ clean. tt;
      back = search rules;
      disk = λ clean. outer_blames (state g.S.Store c.args.conn.now) begun e (it.faults clean (c.requires.outside (early it.crash clean)));
      faults = λ clean ordered. it.faults clean (c.requires.outside (early it.crash clean));
      crash = it.crash;
    })

pub returns : goal.returns
returns g c =
    let old = state g.S.Store c.args.conn.now in
    let begun = state g.S.Store c.begin.new.conn in
    let judged = state g.S.Store c.judge-verdict.new.conn in
    let new = state g.S.Store c.roll_back.new.conn in
    let told = c.judge-verdict.ensures in
    record {
      answers = λ clean.
          let clean_judged = early c.roll_back.ensures.crash clean in
          let clean_begun = early told.reads.crash clean_judged in
          subst (λ (db : Database). IfOk c.judge-verdict.result (IsVerdict g.P.Versioned.version db)) (c.in_ok-begin.ensures.begun clean_begun).now_is (told.answers clean_judged);
      back = search rules;
      disk = λ clean.
          let clean_judged = early c.roll_back.ensures.crash clean in
          let clean_begun = early told.reads.crash clean_judged in
          if_err_then c.judge-verdict.result (BlamesDisk begun judged) (BlamesDisk old new)
          (blames_outside old begun judged new c.begin.ensures.crash.counts c.roll_back.ensures.crash.counts (c.in_ok-begin.ensures.begun clean_begun).is_open)
          (told.disk clean_judged);
      faults = search rules;
      crash = search rules;
    }
