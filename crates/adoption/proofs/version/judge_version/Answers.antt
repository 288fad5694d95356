use Rattle.std.proofs.Common.{◌≡◌, inl, inr, rules, length, slice_index_or, sym, ap, ap₂, subst, ◌∙◌}
use Rattle.adoption.proofs.Common.{AreVersions, IsVersionVerdict, ShowsVersions, column, number_in, state}
use Rattle.adoption.proofs.Common.{verdict_of_version, version_number}
use Rattle.adoption.proofs.JudgmentEnds.{judged}
use Rattle.adoption.proofs.VersionLemmas.{one_row, version_judged}
use Rattle.adoption.proofs.version.judge_version.Goals as goal

pub returns-in_default : goal.returns-in_default
returns-in_default g c =
    let one = c.in_ok-rows.ensures in
    judged one.reads.looks (λ clean. inl (subst (AreVersions (state g.S.Store c.args.conn.now).now) c.in_default.is (one.answers clean)))

pub returns-then-len-ne1 : goal.returns-then-len-ne1
returns-then-len-ne1 g c =
    let one = c.in_ok-rows.ensures in
    judged one.reads.looks (λ clean. inr (c.in-Some.rows.items, subst (AreVersions (state g.S.Store c.args.conn.now).now) c.in-Some.is (one.answers clean), λ is. search (rules, c.if-len-ne1.true, is)))

pub returns : goal.returns
returns g c = judged c.in_ok-rows.ensures.reads.looks (λ clean.
    let version = g.P.Versioned.version in
    let db = (state g.S.Store c.args.conn.now).now in
    let rows = c.in-Some.rows.items in
    let row = c.index.result.now in
    let shown = subst (AreVersions db) c.in-Some.is (c.in_ok-rows.ensures.answers clean) in
    let long : length rows ≡ 1 = search rules in
    let first : row ≡ slice_index_or rows 0 row = search rules in
    let only = subst (ShowsVersions db) (one_row rows row long first) shown in
    let told = c.number_in-told.ensures ∙ ap number_in c.cell.ensures in
    let same : c.other_version.result ≡ verdict_of_version (version_number version) (number_in (column row 0)) =
    c.other_version.ensures ∙ ap₂ verdict_of_version c.number.ensures told in
    subst (IsVersionVerdict version db) (sym same) (version_judged db row only version))
