use Rattle.std.proofs.Common.{ℕ, ap, ◌∙◌}
use Rattle.std.specs.List.{find}
use Rattle.catalogue_store.proofs.HeadForests.{below_in}
use Rattle.public_queries.proofs.Common.{IsKept, Represents, filter_map, has_id, looks_nowhere, nodes, part_below}
use Rattle.public_queries.proofs.Common.{public_head, state, tells_full, tops}
use Rattle.public_queries.proofs.AidCalls.{tells_then}
use Rattle.public_queries.proofs.PublicHeads.{drafts_left_out, heads_published}
use Rattle.public_queries.proofs.public_heads.public_heads_below.Goals as goal

pub returns-in_err-below : goal.returns-in_err-below
returns-in_err-below g c = record { answers = tells_full c.from_residual.ensures looks_nowhere }

pub returns-in_err-units : goal.returns-in_err-units
returns-in_err-units g c = record { answers = tells_full c.from_residual-in_err-units.ensures looks_nowhere }

pub returns : goal.returns
returns g c =
    let unit = c.args.unit in
    record {
      answers = tells_then g.S.Store (Represents g.P.Places.represents g.P.Versioned.version) IsKept c.args.tables.now c.args.tables.now c.public_heads.new.tables c.public_heads.result _ _ _ _ looks_nowhere
          (λ at_b o k it may. may)
          (λ at_b o k it heads told knows.
          let found = λ (id : ℕ). find (has_id id) (nodes k.forest) in
          told ∙ ap (filter_map (λ id. public_head (found id))) (c.deref-2.ensures.value ∙ c.in_ok-units.ensures k.forest knows)
          ∙ drafts_left_out found c.deref.result.now
          ∙ ap (filter_map (λ id. public_head (found id))) (c.deref.ensures.value ∙ c.in_ok-below.ensures k.forest knows)
          ∙ heads_published (state g.S.Store c.args.tables.now).now.trees k.forest it.catalogue.units (tops (part_below has_id unit k.forest)) (below_in unit k.forest))
          c.public_heads.ensures.answers;
    }
