use Rattle.std.proofs.Common.{[], ◌∷◌, ◌++◌, Option, option_map, sym, ap, subst, ◌∙◌}
use Rattle.integrity_checks.specs.declared.housing.Housed.{Housed}
use Rattle.integrity_checks.specs.declared.housing.Housings.{Housings}
use Rattle.integrity_checks.proofs.Common.{AreSummedUp, row_of_housed}
use Rattle.integrity_checks.proofs.JudgedHousings.{one_unread, same_unit, next_filled, next_above}
use Rattle.integrity_checks.proofs.housing.HousingsGathering.take.Goals as goal
use Rattle.integrity_checks.proofs.housing.HousingsGathering.take.Goals.{then-not-is_filled, else-not-is_filled}

pub returns-in_default-clause-takes : goal.returns-in_default-clause-takes
returns-in_default-clause-takes c = λ rows held.
    let all = c.args.self.now in
    one_unread rows c.args.row.now all.are_good all.unit all.count all.highest all.last held (sym c.housed_in.ensures ∙ ap (λ (o : Option Housed). option_map row_of_housed o) c.in_default.is)

pub returns-then-housed-self-clause-takes : goal.returns-then-housed-self-clause-takes
returns-then-housed-self-clause-takes c = λ rows held.
    let all = c.args.self.now in
    same_unit rows c.args.row.now all.are_good all.unit all.count all.highest all.last held (row_of_housed c.in-Some.housed) (sym c.housed_in.ensures ∙ ap (λ (o : Option Housed). option_map row_of_housed o) c.in-Some.is)
    c.higher-self.result c.higher-self.ensures c.if-housed-self.true c.higher-self-then-housed-self.result c.higher-self-then-housed-self.ensures

pub returns-clause-takes : goal.returns-clause-takes
returns-clause-takes c = λ rows held.
    let all = c.args.self.now in
    let said = sym c.housed_in.ensures ∙ ap (λ (o : Option Housed). option_map row_of_housed o) c.in-Some.is in
    elim c.if-not-is_filled.branch [
      | then-not-is_filled w ↦ subst (λ (s : Housings). AreSummedUp (rows ++ c.args.row.now ∷ []) s.are_good c.in-Some.housed.unit 1 c.in-Some.housed.ord s.last) (sym w.self-is)
          (next_above rows c.args.row.now all.are_good all.unit all.count all.highest all.last held (row_of_housed c.in-Some.housed) said c.higher-self.result c.higher-self.ensures c.if-housed-self.false (sym c.is_filled.ensures ∙ w.if-not-is_filled.true))
      | else-not-is_filled w ↦ subst (λ (s : Housings). AreSummedUp (rows ++ c.args.row.now ∷ []) s.are_good c.in-Some.housed.unit 1 c.in-Some.housed.ord s.last) (sym w.self-is)
          (next_filled rows c.args.row.now all.are_good all.unit all.count all.highest all.last held (row_of_housed c.in-Some.housed) said c.higher-self.result c.higher-self.ensures c.if-housed-self.false (sym c.is_filled.ensures ∙ w.if-not-is_filled.false))
    ]
