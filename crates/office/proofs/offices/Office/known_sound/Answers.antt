use Rattle.office.proofs.Followed.{noted}
use Rattle.office.proofs.offices.Office.known_sound.Goals as goal

pub invariant_of-result : goal.invariant_of-result
invariant_of-result g c = (
  c.self.invariant.0,
  c.self.invariant.1,
  λ known. noted g.S.Store g.P.Places.represents g.P.Versioned.version g.met.P.CheckedPlaces.tells_one c.self.inside.closed c.args.self c.self.view_is c.requires.sound,
)
