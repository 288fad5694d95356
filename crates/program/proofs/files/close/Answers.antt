use Rattle.std.proofs.Common.{◌∙◌, ap, inl, not, refl}
use Rattle.program.proofs.ClosedLemmas.{brought_over, left_over}
use Rattle.program.proofs.files.close.Goals as goal

pub returns-in-Ok : goal.returns-in-Ok
returns-in-Ok g c outside =
    brought_over c.args.conn c.in-Ok.files (λ clean. c.is_autocommit.ensures.settled (c.is_autocommit.ensures.value ∙ ap not (outside clean)))
    c.in-Ok.ensures.copied

pub returns-in-Err : goal.returns-in-Err
returns-in-Err g c outside =
    left_over c.args.conn c.close.result (λ clean. c.is_autocommit.ensures.settled (c.is_autocommit.ensures.value ∙ ap not (outside clean)))
    (λ f. inl refl) c.in-Err.store c.close.ensures c.in-Err.ensures.err.0
