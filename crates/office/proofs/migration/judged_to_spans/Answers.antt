use Rattle.std.proofs.Common.{[], ◌∷◌, ◌∙◌, subst, sym}
use Rattle.office_tables.proofs.Causes.{outer_cause}
use Rattle.office_tables.specs.Schema as tables
use Rattle.office.specs.Migration.{MigratesIfSound}
use Rattle.office.proofs.Common.{Database, First, OnlyTouches, RepresentsLinkRows, RepresentsState, continues_then}
use Rattle.office.proofs.Common.{cut_then, early, state, state_in}
use Rattle.office.proofs.Adoptions.{store_cause}
use Rattle.office.proofs.HandedOn.{handed_on}
use Rattle.office.proofs.Migrations.{cause_of_call, migrated, shows_its_state}
use Rattle.office.proofs.migration.judged_to_spans.Goals as goal

pub returns-in_err-verdict : goal.returns-in_err-verdict
returns-in_err-verdict g c =
    let old = state g.S.Store c.args.conn.now in
    let new = state g.S.Store c.judge.new.conn in
    let e = c.in_err-verdict.field-0.0 in
    let told = c.in_err-verdict.ensures in
    handed_on (MigratesIfSound g.S.Store c.args.conn.now c.judge.new.conn) _ _ c.from_residual.ensures
    (record {
      same = λ clean opened. tt;
      inside = tt;
      goes = tt;
      aborts = told.reads.aborts;
      cause = λ clean opened.
          store_cause First old new e (told.disk clean)
          (λ ordered. outer_cause old new (c.requires.inside (early told.reads.crash clean)) e (told.faults ordered clean c.requires.unlimited));
    })

pub returns-in_err-to_spans : goal.returns-in_err-to_spans
returns-in_err-to_spans g c =
    let old = state g.S.Store c.args.conn.now in
    let mid = state g.S.Store c.judge.new.conn in
    let new = state g.S.Store c.to_spans.new.conn in
    let e = c.in_err-to_spans.field-0.0 in
    let reads = c.in_ok-verdict.ensures.reads in
    let failed = c.in_err-to_spans.ensures in
    handed_on (MigratesIfSound g.S.Store c.args.conn.now c.to_spans.new.conn) _ _ c.from_residual-in_err-to_spans.ensures
    (record {
      same = λ clean opened. tt;
      inside = tt;
      goes = tt;
      aborts = cut_then reads.looks.goes.on failed.aborts;
      cause = λ clean opened.
          let clean_mid = early failed.aborts.crash clean in
          let its_state = shows_its_state old.now c.in_ok-verdict.verdict (sym c.fault_for.ensures ∙ c.in_default.is) (c.in_ok-verdict.ensures.answers clean_mid) (c.schema.ensures.live opened).0 in
          cause_of_call old mid new e (failed.disk clean)
          (λ ordered.
          let shown = subst (λ (db : Database). RepresentsState RepresentsLinkRows First db (state_in First old.now.trees)) (sym (reads.looks.same clean_mid)) (its_state ordered).represents in
          outer_cause mid new ((reads.looks.goes.on.within clean_mid).mode ∙ c.requires.inside (early reads.crash clean_mid)) e
          (failed.faults (state_in First old.now.trees) shown (its_state ordered).sound clean (reads.crash.limit ∙ c.requires.unlimited)))
          reads.crash.counts (reads.looks.goes.on.within clean_mid).opened;
    })

pub returns : goal.returns
returns g c =
    let old = state g.S.Store c.args.conn.now in
    let new = state g.S.Store c.to_spans.new.conn in
    let reads = c.in_ok-verdict.ensures.reads in
    let made = c.in_ok-to_spans.ensures in
    record {
      same = λ clean opened.
          let clean_mid = early made.goes.crash clean in
          let same = reads.looks.same clean_mid in
          migrated old.now c.in_ok-verdict.verdict (sym c.fault_for.ensures ∙ c.in_default.is) (c.in_ok-verdict.ensures.answers clean_mid) (c.schema.ensures.live opened).0 new.now
          (λ s shown. made.represents clean s (subst (λ (db : Database). RepresentsState RepresentsLinkRows First db s) (sym same) shown))
          (subst (λ (db : Database). OnlyTouches (tables.office.tree ∷ tables.link.tree ∷ []) db new.now) same (made.only clean));
      inside = made.inside;
      goes = continues_then reads.looks.goes.on made.goes;
      aborts = tt;
      cause = λ clean opened. tt;
    }
