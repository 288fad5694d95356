use Rattle.std.proofs.Common.{ℕ, [], refl}
use Rattle.office_tables.specs.Schema as tables
use Rattle.row_decoding.proofs.Common.{in_any_order, read_number}
use Rattle.row_decoding.proofs.TableReads.{is_query, examines}
use Rattle.row_decoding.proofs.TableTexts.{container_numbers_text, container_numbers_terms, container_numbers_names}
use Rattle.row_decoding.proofs.TableTexts.{container_numbers_mean}
use Rattle.row_decoding.proofs.tables.container_numbers.Goals as goal

pub read_rows-requires : goal.read_rows-requires
read_rows-requires g c = let v = g.P.Versioned.version in record { ours = is_query tables.container container_numbers_terms [] container_numbers_names container_numbers_text v (container_numbers_mean v) }

pub returns : goal.returns
returns g c =
    let v = g.P.Versioned.version in
    examines tables.container container_numbers_terms [] container_numbers_names container_numbers_text v (container_numbers_mean v) refl (λ (n : ℕ). n) read_number read_number in_any_order (λ _. refl) (λ a b. refl) c.read_rows.ensures.reads c.read_rows.ensures.ran
