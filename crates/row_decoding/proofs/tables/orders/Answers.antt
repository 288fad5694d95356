use Rattle.std.proofs.Common.{refl}
use Rattle.sqlite_value.proofs.OrderLemmas.{then-Equal}
use Rattle.office_tables.specs.Schema as tables
use Rattle.row_decoding.proofs.Common.{by_rowid, order_in_answer, order_record, read_order}
use Rattle.row_decoding.proofs.TableReads.{is_query, examines}
use Rattle.row_decoding.proofs.TableTexts.{by_first, orders_text, orders_terms, orders_names, orders_mean}
use Rattle.row_decoding.proofs.tables.orders.Goals as goal

pub read_rows-requires : goal.read_rows-requires
read_rows-requires g c = let v = g.P.Versioned.version in record { ours = is_query tables.orders orders_terms by_first orders_names orders_text v (orders_mean v) }

pub returns : goal.returns
returns g c =
    let v = g.P.Versioned.version in
    examines tables.orders orders_terms by_first orders_names orders_text v (orders_mean v) refl order_record order_in_answer read_order by_rowid (λ _. refl) (λ a b. then-Equal _) c.read_rows.ensures.reads c.read_rows.ensures.ran
