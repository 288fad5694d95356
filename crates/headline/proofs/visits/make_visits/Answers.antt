use Rattle.headline.proofs.Runs.{the_work}
use Rattle.headline.proofs.visits.make_visits.Goals as goal

pub returns : goal.returns
returns g c =
    let (visits, made, are, days, texts) = c.make_all.ensures in
    record {
      visits = visits;
      made = made;
      machines = λ clean s is. the_work g.S.Store visits c.args.office.now c.make_all.new.office are days texts clean s is;
    }
