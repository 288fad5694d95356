use Rattle.std.proofs.Common.{[], refl}
use Rattle.office_tables.specs.Schema as tables
use Rattle.row_decoding.proofs.Common.{in_any_order, read_run_line, run_line_in_answer, run_line_record}
use Rattle.row_decoding.proofs.TableReads.{is_query, examines}
use Rattle.row_decoding.proofs.TableTexts.{run_lines_text, run_lines_terms, run_lines_names, run_lines_mean}
use Rattle.row_decoding.proofs.tables.run_lines.Goals as goal

pub read_rows-requires : goal.read_rows-requires
read_rows-requires g c = let v = g.P.Versioned.version in record { ours = is_query tables.run_line run_lines_terms [] run_lines_names run_lines_text v (run_lines_mean v) }

pub returns : goal.returns
returns g c =
    let v = g.P.Versioned.version in
    examines tables.run_line run_lines_terms [] run_lines_names run_lines_text v (run_lines_mean v) refl run_line_record run_line_in_answer read_run_line in_any_order (λ _. refl) (λ a b. refl) c.read_rows.ensures.reads c.read_rows.ensures.ran
