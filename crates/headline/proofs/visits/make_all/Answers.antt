use Rattle.std.proofs.Common.{[], ◌∙◌, refl}
use Rattle.std.proofs.lemmas.List.{length-set}
use Rattle.headline.proofs.Common.{RepresentsSpanRows, Second, has_clean_disk, is_shown, is_still_open}
use Rattle.headline.proofs.Runs.{all_made, and_one, not_yet}
use Rattle.headline.proofs.visits.make_all.Goals as goal

pub loop-visit-init : goal.loop-visit-init
loop-visit-init g c = (refl, refl, ([], tt, refl, tt, tt))

pub loop-visit-preserved : goal.loop-visit-preserved
loop-visit-preserved g c =
    let (same, rest, all) = c.loop-visit.invariant in
    let l = c.loop-visit-test.true in (
      length-set c.loop-visit.visits c.loop-visit.visit-index c.make_visit.new.visit ∙ same,
      not_yet c.args.visits.now c.loop-visit.visits c.loop-visit.visit-index c.visit-item.result c.make_visit.new.visit l same rest,
      and_one g.R.Read.remaining g.W.Write.contents (is_shown g.S.Store RepresentsSpanRows Second) (has_clean_disk g.S.Store) (is_still_open g.S.Store) c.args.visits.now c.loop-visit.visits c.loop-visit.visit-index c.visit-item.result c.make_visit.new.visit c.args.office.now c.loop-visit.office c.make_visit.new.office l same rest all c.make_visit.ensures,
    )

pub returns : goal.returns
returns g c =
    let (same, _, all) = c.loop-visit.invariant in
    all_made g.R.Read.remaining g.W.Write.contents (is_shown g.S.Store RepresentsSpanRows Second) (has_clean_disk g.S.Store) (is_still_open g.S.Store) c.args.visits.now c.loop-visit.visits c.loop-visit.visit-index c.args.office.now c.loop-visit.office c.loop-visit-test.false same all
