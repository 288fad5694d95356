use Rattle.std.proofs.Common.{refl}
use Rattle.sqlite_value.proofs.OrderLemmas.{then-Equal}
use Rattle.office_tables.specs.Schema as tables
use Rattle.row_decoding.proofs.Common.{by_rowid, read_run, run_in_answer, run_record}
use Rattle.row_decoding.proofs.TableReads.{is_query, examines}
use Rattle.row_decoding.proofs.TableTexts.{by_first, runs_text, runs_terms, runs_names, runs_mean}
use Rattle.row_decoding.proofs.tables.runs.Goals as goal

pub read_rows-requires : goal.read_rows-requires
read_rows-requires g c = let v = g.P.Versioned.version in record { ours = is_query tables.run runs_terms by_first runs_names runs_text v (runs_mean v) }

pub returns : goal.returns
returns g c =
    let v = g.P.Versioned.version in
    examines tables.run runs_terms by_first runs_names runs_text v (runs_mean v) refl run_record run_in_answer read_run by_rowid (λ _. refl) (λ a b. then-Equal _) c.read_rows.ensures.reads c.read_rows.ensures.ran
