use Rattle.office_tables.proofs.CallEnds.{making_last}
use Rattle.adoption.proofs.NewTables.{made_desk}
use Rattle.office.proofs.Common.{MakesTables, continued, early, on_ok_both, state}
use Rattle.office.proofs.HandedOn.{handed_on}
use Rattle.office.proofs.NewTables.{making, shows_none}
use Rattle.office.proofs.new_office.make_tables.Goals as goal

pub returns-in_err-create_desk : goal.returns-in_err-create_desk
returns-in_err-create_desk g c =
    let a = state g.S.Store c.args.conn.now in
    let it = c.in_err-create_desk.ensures in
    handed_on (MakesTables g.P.Places.represents g.P.Versioned.version g.S.Store c.args.conn.now c.create_desk.new.conn c.args.row.now) _ _ c.from_residual.ensures
    (record { represents = λ clean. tt; goes = tt; aborts = it.aborts a.now (making a c.requires.blank); faults = λ clean free. it.faults a.now (making a c.requires.blank) clean })

pub returns : goal.returns
returns g c =
    let a = state g.S.Store c.args.conn.now in
    let b = state g.S.Store c.create_desk.new.conn in
    let d = state g.S.Store c.create.new.conn in
    let r = c.create.result in
    let step = c.in_ok-create_desk.ensures.made a.now (making a c.requires.blank) in
    let desk = made_desk a b step.1 in
    let left = c.create.ensures.leaves b.now desk in
    let whole = making_last a b d step.0 r left.goes left.aborts left.disk (λ _. left.faults) in
    record {
      represents = λ clean.
          let at_b = early (continued r b d left.goes left.aborts) clean in
          on_ok_both r _ _ _ (λ represents kept. record { catalogue = represents; desk = shows_none a b d.now.trees step.1 at_b kept }) (c.create.ensures.represents b.now desk clean) (c.create.ensures.desk b.now desk clean);
      goes = whole.goes;
      aborts = whole.aborts;
      faults = whole.faults;
    }
