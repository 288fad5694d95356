use Rattle.std.proofs.Common.{ℕ, List, ◌++◌, nat_eq, ap, ap₂, sym, ◌∙◌}
use Rattle.std.specs.Prelude.{◌||◌}
use Rattle.refinement.proofs.Doings.{tells_full}
use Rattle.access.proofs.Common.{Unit, branch, branch-each, has_id, is_one_of, list_any, list_any-append, looks_then}
use Rattle.access.proofs.Common.{names_container, nearest, says_so}
use Rattle.access.proofs.Learned.{ends_so, fault_first, fault_later, learned_by, learned_more, of_housings, of_places}
use Rattle.access.proofs.NearRows.{branch_named}
use Rattle.access.proofs.near_loans.containers_near.Goals as goal

pub returns-in_err-branch : goal.returns-in_err-branch
returns-in_err-branch g c = record { answers = fault_first c.from_residual.ensures (of_places c.in_err-branch.ensures.answers.call) }

pub returns-in_err-containers : goal.returns-in_err-containers
returns-in_err-containers g c =
    record { answers = fault_later c.from_residual-in_err-containers.ensures c.in_ok-branch.ensures.answers.looks (of_housings c.in_err-containers.ensures) }

pub returns-in_err-around : goal.returns-in_err-around
returns-in_err-around g c =
    record {
      answers = fault_later c.from_residual-in_err-around.ensures
          (looks_then c.in_ok-branch.ensures.answers.looks c.in_ok-containers.ensures.reads.looks) c.in_err-around.ensures.answers;
    }

pub returns-in_err-extend_from_slice : goal.returns-in_err-extend_from_slice
returns-in_err-extend_from_slice g c =
    record {
      answers = tells_full c.from_residual-in_err-extend_from_slice.ensures
          (looks_then (looks_then c.in_ok-branch.ensures.answers.looks c.in_ok-containers.ensures.reads.looks) c.in_ok-around.ensures.answers.looks);
    }

pub returns : goal.returns
returns g c =
    let u = c.args.unit in
    let below = c.in_ok-containers.containers.items in
    record {
      answers = ends_so (learned_more (learned_more (learned_by (of_places c.in_ok-branch.ensures.answers.call)) (of_housings c.in_ok-containers.ensures))
          c.in_ok-around.ensures.answers) (λ _ s so n.
          let f = s.catalogue.forest in
          let housings = so.before.now.shown in
          let ids = c.deref.ensures.value ∙ so.before.before ∙ branch-each (nat_eq u) (λ (u : Unit). u.id) f in
          ap (is_one_of n) (c.in_ok-extend_from_slice.ensures.items ∙ ap (λ (l : List ℕ). below ++ l) c.deref-2.ensures.value)
          ∙ list_any-append (λ m. nat_eq m n) below c.in_ok-around.around.items
          ∙ ap₂ ◌||◌ (so.before.now.is n ∙ ap (list_any (λ unit. list_any (says_so n unit) housings.housings)) ids
          ∙ branch_named so.before.now.db f s.catalogue.containers housings n u) (so.now n)
          ∙ sym (list_any-append (names_container s.catalogue.containers n) (branch (has_id u) f) (nearest u f)));
    }
