use Rattle.std.proofs.Common.{not, ◌||◌, ap, ◌∙◌}
use Rattle.std.proofs.lemmas.Map.Text.{btree_set_updates_text}
use Rattle.std.specs.String.{string_bytes}
use Rattle.csv_import.proofs.Common.{Bytes, bytes_eq, contains_text}
use Rattle.csv_import.proofs.Noted.{added_or_there}
use Rattle.csv_import.proofs.legacy.note.Goals as goal

pub returns-clause-new : goal.returns-clause-new
returns-clause-new c = c.in_ok-is_new.ensures.added ∙ ap (λ (bs : Bytes). not (contains_text c.args.noted.now bs)) (c.in_ok-key.ensures.ok ∙ c.as_str.ensures)

pub returns-clause-noted : goal.returns-clause-noted
returns-clause-noted c q =
    let old = c.args.noted.now in
    let bytes = string_bytes c.in_ok-key.key in
    btree_set_updates_text bytes old c.insert.new.self _ c.in_ok-is_new.ensures.updates q
    ∙ (added_or_there bytes q (contains_text old q)
    ∙ ap (λ (bs : Bytes). bytes_eq q bs || contains_text old q) (c.in_ok-key.ensures.ok ∙ c.as_str.ensures))
