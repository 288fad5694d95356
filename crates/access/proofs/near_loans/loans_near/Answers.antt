use Rattle.std.proofs.Common.{ℕ, nat_eq, ap, sym, subst, ◌∙◌}
use Rattle.std.proofs.Math.Dec.{eqb}
use Rattle.std.proofs.lemmas.List.Filters.{dedup_is}
use Rattle.std.proofs.lemmas.Map.Keys.{IsStrictlyIncreasing-dedup}
use Rattle.std.specs.List.Sorted.{IsStrictlyIncreasing}
use Rattle.std.specs.Prelude.{filter}
use Rattle.desk_store.proofs.LoanCalls.{none_issued}
use Rattle.desk_store.specs.Holdings.{issued_of}
use Rattle.access.proofs.Common.{ContainerOrder, fun_ext, is_named_near, is_one_of, list_any-IsPermutation, looks_then}
use Rattle.access.proofs.Common.{tables}
use Rattle.access.proofs.Learned.{ends_so, fault_first, fault_later, learned_by, learned_more, of_desk}
use Rattle.access.proofs.NearRows.{any_once}
use Rattle.access.proofs.near_loans.loans_near.Goals as goal

pub returns-in_err-is_some_out : goal.returns-in_err-is_some_out
returns-in_err-is_some_out g c = record { answers = fault_first c.from_residual.ensures (of_desk c.in_err-is_some_out.ensures.answers.call) }

-- nothing is out
pub returns-then-not-branch : goal.returns-then-not-branch
returns-then-not-branch g c =
    record {
      answers = ends_so (learned_by (of_desk c.in_ok-is_some_out.ensures.answers.call)) (λ _ s is.
          c.new.ensures.items
          ∙ sym (ap (filter (λ (loan : ContainerOrder). is_named_near c.args.unit s loan.container)) (none_issued (tables g.P.Versioned.version s).desk (sym is ∙ c.if-not-branch.true))));
    }

pub returns-in_err-containers : goal.returns-in_err-containers
returns-in_err-containers g c =
    record { answers = fault_later c.from_residual-in_err-containers.ensures c.in_ok-is_some_out.ensures.answers.looks c.in_err-containers.ensures.answers }

pub issued_among-requires : goal.issued_among-requires
issued_among-requires g c =
    let once = dedup_is eqb _ c.dedup.new.self.items c.dedup.ensures.filtered in
    record { rise = subst IsStrictlyIncreasing (sym (c.deref.ensures.value ∙ once)) (IsStrictlyIncreasing-dedup _ c.sort_unstable.ensures.sorted) }

pub returns-in_err-loans : goal.returns-in_err-loans
returns-in_err-loans g c =
    record {
      answers = fault_later c.from_residual-in_err-loans.ensures
          (looks_then c.in_ok-is_some_out.ensures.answers.looks c.in_ok-containers.ensures.answers.looks) (of_desk c.in_err-loans.ensures.answers.call);
    }

pub returns : goal.returns
returns g c =
    let u = c.args.unit in
    let once = dedup_is eqb _ c.dedup.new.self.items c.dedup.ensures.filtered in
    record {
      answers = ends_so (learned_more (learned_more (learned_by (of_desk c.in_ok-is_some_out.ensures.answers.call)) c.in_ok-containers.ensures.answers)
          (of_desk c.in_ok-loans.ensures.answers.call)) (λ _ s so.
          let d = (tables g.P.Versioned.version s).desk in
          let same = λ (n : ℕ). ap (is_one_of n) (c.deref.ensures.value ∙ once) ∙ any_once (λ m. nat_eq m n) _
          ∙ sym (list_any-IsPermutation (λ m. nat_eq m n) _ _ c.sort_unstable.ensures.permutation)
          ∙ so.before.now n in
          so.now ∙ ap (λ chosen. filter chosen (issued_of d)) (fun_ext (λ (loan : ContainerOrder). same loan.container)));
    }
