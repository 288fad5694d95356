use Rattle.std.proofs.Common.{refl, rules}
use Rattle.office_tables.proofs.StatementEnds.{found_in}
use Rattle.office_tables.specs.Schema as tables
use Rattle.row_decoding.proofs.TableReads.{is_query, is_excused}
use Rattle.adoption.proofs.Common.{state}
use Rattle.adoption.proofs.JudgmentEnds.{judged, passes_of}
use Rattle.adoption.proofs.OwnRowLemmas.{own_text, own_terms, by_one, own_names, own_means, scanned_office}
use Rattle.adoption.proofs.OwnRowLemmas.{office_risen, judged_one, judged_not_one}
use Rattle.adoption.proofs.own_row.own_row.Goals as goal

pub gather-requires-clause-ours : goal.gather-requires-clause-ours
gather-requires-clause-ours g c = let v = g.P.Versioned.version in is_query tables.office own_terms by_one own_names own_text v (own_means v)

pub returns-in_err-all : goal.returns-in_err-all
returns-in_err-all g c =
    let v = g.P.Versioned.version in
    let stopped = c.in_err-all.ensures in
    passes_of c.in_err-all.field-0.0 c.from_residual.ensures stopped.reads.aborts (λ clean. (stopped.reads.spares clean).disk)
    (λ known. is_excused tables.office own_terms by_one own_names own_text v (own_means v) refl (state g.S.Store c.args.tables.now) (state g.S.Store c.gather.new.tables) _ stopped.ran)

pub returns-then-all-ne1 : goal.returns-then-all-ne1
returns-then-all-ne1 g c = judged c.in_ok-all.ensures.reads.looks (λ clean.
    let v = g.P.Versioned.version in
    let old = state g.S.Store c.args.tables.now in
    let of = found_in old c.in_ok-all.all (c.in_ok-all.ensures.ran clean) in
    let all = of.1 in
    let got = scanned_office old (state g.S.Store c.gather.new.tables) all.rows v of.0 c.in_ok-all.ensures.live all.shown in
    (of.0, got.0, λ ordered. judged_not_one v got.1 all.rows c.in_ok-all.all.count c.in_ok-all.all.told got.3 all.holds (old.now.trees 14) got.2 (office_risen v old.now of.0 ordered) c.if-all-ne1.true))

pub returns : goal.returns
returns g c = judged c.in_ok-all.ensures.reads.looks (λ clean.
    let v = g.P.Versioned.version in
    let old = state g.S.Store c.args.tables.now in
    let of = found_in old c.in_ok-all.all (c.in_ok-all.ensures.ran clean) in
    let all = of.1 in
    let got = scanned_office old (state g.S.Store c.gather.new.tables) all.rows v of.0 c.in_ok-all.ensures.live all.shown in
    let one = judged_one v got.1 all.rows c.in_ok-all.all.count c.in_ok-all.all.told got.3 all.holds (old.now.trees 14) got.2 c.if-all-ne1.false in
    (of.0, got.0, λ _. search (rules, one)))
