use Rattle.desk_store.proofs.Common.{known_query, looks_up}
use Rattle.desk_store.proofs.RunRows.{last_run_means, last_run_finds, last_run_faults}
use Rattle.desk_store.proofs.runs.last_run.Goals as goal

pub find_number-requires : goal.find_number-requires
find_number-requires g c = known_query (last_run_means g.P.Versioned.version)

pub returns : goal.returns
returns g c =
    looks_up g.P.Versioned.version c.find_number.ensures.reads c.find_number.ensures.ran
    (λ v has found xs stored counted. last_run_finds _ _ v has xs stored counted c.find_number.result found)
    (λ v has missed xs stored both free. last_run_faults _ _ v has xs stored both.0 c.find_number.result both.1 free missed)
