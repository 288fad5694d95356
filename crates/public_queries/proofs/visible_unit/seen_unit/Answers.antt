use Rattle.std.proofs.Common.{sym, ap, ◌∙◌}
use Rattle.std.specs.Prelude.{find}
use Rattle.public_queries.proofs.Common.{IsKept, Kept, Represents, has_id, nodes, public_unit, seen_of}
use Rattle.public_queries.proofs.AidCalls.{tells_as}
use Rattle.public_queries.proofs.AidUnits.{closed_until, seen_stub}
use Rattle.public_queries.proofs.visible_unit.seen_unit.Goals as goal

pub returns-then-unit : goal.returns-then-unit
returns-then-unit g c =
    record {
      answers = tells_as g.S.Store (Represents g.P.Places.represents g.P.Versioned.version) IsKept c.args.tables.now c.seen_closed.new.tables c.seen_closed.result _ _ _ _
          (λ k may.
          let stub = sym (ap (λ (x : Kept). x.stub) may.3) ∙ c.if-unit.true in
          let until = closed_until c.args.today may.1.0.0 (sym may.2.stub ∙ stub) in
          (may.1.0.0, until.0, ap (λ n. find (has_id n) (nodes k.forest)) (ap (λ (x : Kept). x.id) may.3) ∙ may.2.found, until.1))
          (λ o k seen told tellable row of is.
          let stub = sym (ap (λ (x : Kept). x.stub) is) ∙ c.if-unit.true in
          let until = closed_until c.args.today row.0.0 (sym of.stub ∙ stub) in
          told row.0.0 until.0 (ap (λ n. find (has_id n) (nodes k.forest)) (ap (λ (x : Kept). x.id) is) ∙ of.found) until.1
          ∙ sym (ap (λ b. seen_of k.containers (public_unit (row.0.0, b))) stub ∙ seen_stub k.containers row.0.0 until.0 until.1))
          c.seen_closed.ensures.answers;
    }

pub returns-else-unit : goal.returns-else-unit
returns-else-unit g c =
    record {
      answers = tells_as g.S.Store (Represents g.P.Places.represents g.P.Versioned.version) IsKept c.args.tables.now c.seen_open.new.tables c.seen_open.result _ _ _ _
          (λ k may. (may.0, may.1.0.0, ap (λ n. find (has_id n) (nodes k.forest)) (ap (λ (x : Kept). x.id) may.3) ∙ may.2.found))
          (λ o k seen told tellable row of is.
          let stub = sym (ap (λ (x : Kept). x.stub) is) ∙ c.if-unit.false in
          told tellable row.0.0 (ap (λ n. find (has_id n) (nodes k.forest)) (ap (λ (x : Kept). x.id) is) ∙ of.found)
          ∙ sym (ap (λ b. seen_of k.containers (public_unit (row.0.0, b))) stub))
          c.seen_open.ensures.answers;
    }
