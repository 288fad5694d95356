use Rattle.std.proofs.Common.{map, ap, subst, ◌∙◌}
use Rattle.desk_store.proofs.Common.{IfOk-weaker, IsPermutation, kept_all, known_query, line_of, looks_up, only_order}
use Rattle.desk_store.proofs.LoanRows.{lines_means, lines_finds, lines_faults, by_container, by_container_total}
use Rattle.desk_store.proofs.loans.holding_lines.Goals as goal

pub find-requires : goal.find-requires
find-requires g c = known_query (lines_means g.P.Versioned.version)

pub returns : goal.returns
returns g c =
    looks_up g.P.Versioned.version c.find.ensures.reads c.find.ensures.ran
    (λ v has found xs stored up.
    IfOk-weaker c.find.result _ _ (λ all it. it.2 ∙ ap (map line_of) (only_order by_container by_container_total xs it.0 up it.1.1 (subst (λ l. IsPermutation l it.0) (kept_all xs) it.1.0)))
    (lines_finds _ _ v has xs stored (λ found. found.items) c.find.result found))
    (λ v has missed xs stored _ free. lines_faults _ _ v has xs stored (λ found. found.items) c.find.result free missed)
