use Rattle.std.proofs.Common.{length, ap, ◌∙◌, refl, subst, sym}
use Rattle.office_tables.specs.Faults.{HasCause}
use Rattle.public_queries.proofs.Common.{IsKept, LeavesUnchanged, Represents, aid, cut_after, has_id, looks_nowhere}
use Rattle.public_queries.proofs.Common.{public_units, repository_of, state, tells_passed, tree, walk}
use Rattle.public_queries.proofs.AidCalls.{tells_then}
use Rattle.public_queries.proofs.AidPrinted.{along_all}
use Rattle.public_queries.proofs.AidUnits.{rows_of}
use Rattle.public_queries.proofs.aids.branch_text.Goals as goal

pub returns : goal.returns
returns g c =
    let day = c.args.known.now.day in
    record {
      answers = tells_then g.S.Store (Represents g.P.Places.represents g.P.Versioned.version) IsKept c.args.tables.now c.args.tables.now c.units_text.new.tables c.units_text.result _ _ _ _ looks_nowhere
          (λ at_b o k it may.
          (may.0, walk 0 (public_units day (tree (has_id c.args.unit) k.forest)), record { each = rows_of day k (has_id c.args.unit) may.1.distinct; told = c.deref.ensures.value ∙ c.in_ok-kept.ensures.kept k.forest may.1 }))
          (λ at_b o k it text told tellable knows.
          told tellable (walk 0 (public_units day (tree (has_id c.args.unit) k.forest))) (record { each = rows_of day k (has_id c.args.unit) knows.distinct; told = c.deref.ensures.value ∙ c.in_ok-kept.ensures.kept k.forest knows })
          ∙ ap aid (along_all (repository_of c.args.known.now) k.containers (length c.args.above.items) (public_units day (tree (has_id c.args.unit) k.forest)) c.args.above.items refl))
          c.units_text.ensures.answers;
    }

pub returns-in_err-kept : goal.returns-in_err-kept
returns-in_err-kept g c =
    let a = state g.S.Store c.args.tables.now in
    let here : LeavesUnchanged a a = looks_nowhere in
    record {
      answers = tells_passed _ c.from_residual.ensures (cut_after here.goes.on)
          (λ o k it may kept clean free. subst (HasCause a a) (sym (c.in_err-kept.ensures.faults k kept may.1)) tt);
    }
