use Rattle.std.proofs.Common.{List, Option, subst}
use Rattle.catalogue_core.specs.Bounds.{IsKept}
use Rattle.office_tables.proofs.CallEnds.{tells_well}
use Rattle.public_queries.proofs.AidCalls.{tells_as}
use Rattle.office.proofs.Common.{Mark, Represents, TellOf, looks_nowhere}
use Rattle.office.proofs.kept_marks.kept_or_read.Goals as goal

pub returns-in-Some : goal.returns-in-Some
returns-in-Some g c =
    record {
      answers = tells_well looks_nowhere (λ clean o k it tell. subst (λ (kept : Option (List Mark)). TellOf k kept) c.in-Some.is tell);
    }

pub returns-in-None : goal.returns-in-None
returns-in-None g c =
    record {
      answers = tells_as g.S.Store (Represents g.P.Places.represents g.P.Versioned.version) IsKept c.args.tables.now c.all_marks.new.tables c.all_marks.result _ _ _ _
          (λ k may. may) (λ o k forest walk tell. walk) c.all_marks.ensures.answers;
    }
