use Rattle.std.proofs.Common.{arith, rules}
use Rattle.program.proofs.Common.{Consumes-kept, Consumes-trans}
use Rattle.program.proofs.Calls.{made_one}
use Rattle.program.proofs.streams.read_within.Goals as goal
use Rattle.program.proofs.streams.read_within.Goals.{in-Ok+in_ok-extend_from_slice-in-Ok, in-Err-Interrupted}

pub returns-in_err-extend_from_slice-in-Ok-clause-front : goal.returns-in_err-extend_from_slice-in-Ok-clause-front
returns-in_err-extend_from_slice-in-Ok-clause-front g c = (_, Consumes-trans _ _ _ _ _ (rw c.begin_stream.ensures at c.loop-read.invariant.came) c.in-Ok.ensures.bytes.0)

pub loop-read-preserved : goal.loop-read-preserved
loop-read-preserved g c = record {
  came = elim c.match-read.branch [
    | in-Ok+in_ok-extend_from_slice-in-Ok w ↦ search (rules, Consumes-trans)
    | in-Err-Interrupted w ↦ search (rules, Consumes-kept)
  ];
  made = made_one c.loop-read._read c.begin_stream.new.self c.loop-read.reader c.read.new.self c.loop-read.invariant.made c.read.ensures.calls;
  good = search rules;
  turns = omega (arith, c.read.ensures.turns, c.loop-read.invariant.turns);
}
