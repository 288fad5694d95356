use Rattle.std.proofs.Common.{[], refl}
use Rattle.office_tables.specs.Schema as tables
use Rattle.row_decoding.proofs.Common.{holding_in_answer, holding_record, in_any_order, read_holding}
use Rattle.row_decoding.proofs.TableReads.{is_query, examines}
use Rattle.row_decoding.proofs.TableTexts.{holdings_text, holdings_terms, holdings_names, holdings_mean}
use Rattle.row_decoding.proofs.tables.holdings.Goals as goal

pub read_rows-requires : goal.read_rows-requires
read_rows-requires g c = let v = g.P.Versioned.version in record { ours = is_query tables.holding holdings_terms [] holdings_names holdings_text v (holdings_mean v) }

pub returns : goal.returns
returns g c =
    let v = g.P.Versioned.version in
    examines tables.holding holdings_terms [] holdings_names holdings_text v (holdings_mean v) refl holding_record holding_in_answer read_holding in_any_order (λ _. refl) (λ a b. refl) c.read_rows.ensures.reads c.read_rows.ensures.ran
