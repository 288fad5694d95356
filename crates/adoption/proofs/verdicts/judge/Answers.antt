use Rattle.std.proofs.Common.{◌≡◌, sym, ap, subst, ◌∙◌}
use Rattle.row_decoding.proofs.ReadCalls.{before}
use Rattle.adoption.proofs.Common.{Database, IsVersionVerdict, StandInOrder, cell_cause, looks_then, state}
use Rattle.adoption.proofs.JudgmentEnds.{judged, passes_later, still_known}
use Rattle.adoption.proofs.verdicts.judge.Goals as goal

pub returns-in-Some : goal.returns-in-Some
returns-in-Some g c =
    let one = c.in_ok-verdict.ensures in
    judged one.reads.looks (λ clean. subst (IsVersionVerdict g.P.Versioned.version (state g.S.Store c.args.conn.now).now) c.in-Some.is (one.answers clean))

pub returns-then-not-branch : goal.returns-then-not-branch
returns-then-not-branch g c =
    let one = c.in_ok-verdict.ensures in
    judged one.reads.looks (λ clean. record {
      version_is = subst (IsVersionVerdict g.P.Versioned.version (state g.S.Store c.args.conn.now).now) c.in_default.is (one.answers clean);
      schema_is_not = λ is.
          let yes = c.in_ok-are_ours.ensures.answers.1 (ap (λ (db : Database). db.schema) (one.reads.looks.same clean) ∙ is) in
          let no = c.if-not-branch.true in
          absurd (cc);
    })

pub returns-in_err-cause : goal.returns-in_err-cause
returns-in_err-cause g c =
    let looked = c.in_ok-verdict.ensures.reads.looks in
    passes_later c.from_residual-in_err-cause.ensures looked c.in_err-cause.ensures (still_known StandInOrder looked)

pub returns-in-Some-2 : goal.returns-in-Some-2
returns-in-Some-2 g c =
    let v = g.P.Versioned.version in
    let one = c.in_ok-verdict.ensures in
    let two = c.in_ok-cause.ensures in
    judged (looks_then one.reads.looks two.reads.looks) (λ clean.
    let clean_mid = before _ _ two.reads.looks clean in
    let same = one.reads.looks.same clean_mid in
    let told = subst (λ (db : Database). StandInOrder db → c.in_ok-cause.field-0 ≡ cell_cause v db.trees) same (two.answers clean) in (
      record {
        version_is = subst (IsVersionVerdict v (state g.S.Store c.args.conn.now).now) c.in_default.is (one.answers clean_mid);
        schema_is = ap (λ (db : Database). db.schema) (sym same) ∙ c.in_ok-are_ours.ensures.answers.0 c.if-not-branch.false;
      },
      λ ordered. sym (told ordered) ∙ c.in-Some-2.is,
    ))

pub returns-in-None : goal.returns-in-None
returns-in-None g c =
    let v = g.P.Versioned.version in
    let one = c.in_ok-verdict.ensures in
    let two = c.in_ok-cause.ensures in
    judged (looks_then one.reads.looks two.reads.looks) (λ clean.
    let clean_mid = before _ _ two.reads.looks clean in
    let same = one.reads.looks.same clean_mid in
    let told = subst (λ (db : Database). StandInOrder db → c.in_ok-cause.field-0 ≡ cell_cause v db.trees) same (two.answers clean) in (
      record {
        version_is = subst (IsVersionVerdict v (state g.S.Store c.args.conn.now).now) c.in_default.is (one.answers clean_mid);
        schema_is = ap (λ (db : Database). db.schema) (sym same) ∙ c.in_ok-are_ours.ensures.answers.0 c.if-not-branch.false;
      },
      λ ordered. sym (told ordered) ∙ c.in-None.is,
    ))
