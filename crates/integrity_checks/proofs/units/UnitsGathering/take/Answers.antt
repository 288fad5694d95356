use Rattle.std.proofs.Common.{ℕ, sym, ◌∙◌}
use Rattle.row_decoding.proofs.GatheredRows.{one_read, one_unread}
use Rattle.integrity_checks.proofs.Common.{described_in_answer}
use Rattle.integrity_checks.proofs.units.UnitsGathering.take.Goals as goal

pub returns-in_ok-push-in-Some-clause-takes : goal.returns-in_ok-push-in-Some-clause-takes
returns-in_ok-push-in-Some-clause-takes c = λ rows so_far.
    one_read described_in_answer c.args.row.now (λ n. n) c.args.self.now.numbers.items c.args.self.now.are_good rows so_far c.in-Some.number c.push.new.self.items c.in_ok-push-in-Some.ensures.items (sym c.in-Some.is ∙ c.described_in.ensures)

pub returns-in-None-clause-takes : goal.returns-in-None-clause-takes
returns-in-None-clause-takes c = λ rows so_far.
    one_unread described_in_answer c.args.row.now (λ (n : ℕ). n) c.args.self.now.numbers.items c.args.self.now.are_good rows so_far (sym c.in-None.is ∙ c.described_in.ensures)
