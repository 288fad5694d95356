use Rattle.std.proofs.Common.{[], refl}
use Rattle.office_tables.specs.Schema as tables
use Rattle.row_decoding.proofs.Common.{in_any_order, permit_in_answer, permit_record, read_permit}
use Rattle.row_decoding.proofs.TableReads.{is_query, examines}
use Rattle.row_decoding.proofs.TableTexts.{permits_text, permits_terms, permits_names, permits_mean}
use Rattle.row_decoding.proofs.tables.permits.Goals as goal

pub read_rows-requires : goal.read_rows-requires
read_rows-requires g c = let v = g.P.Versioned.version in record { ours = is_query tables.permit permits_terms [] permits_names permits_text v (permits_mean v) }

pub returns : goal.returns
returns g c =
    let v = g.P.Versioned.version in
    examines tables.permit permits_terms [] permits_names permits_text v (permits_mean v) refl permit_record permit_in_answer read_permit in_any_order (λ _. refl) (λ a b. refl) c.read_rows.ensures.reads c.read_rows.ensures.ran
