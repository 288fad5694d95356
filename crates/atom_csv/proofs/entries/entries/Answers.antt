use Rattle.std.proofs.Common.{rules, lit<, Bor}
use Rattle.std.proofs.lemmas.Iterator.{YieldsList-from_map_by}
use Rattle.std.proofs.lemmas.Iterator.Consumers.{YieldsList-at, map_from_collect}
use Rattle.std.proofs.lemmas.Iterator.Splits.{YieldsList-from_str_split}
use Rattle.atom_csv.proofs.Common.{Bytes, trimmed_entry}
use Rattle.atom_csv.proofs.entries.entries.Goals as goal

pub returns : goal.returns
returns c =
    let cut = YieldsList-from_str_split 124 c.args.text.now (lit< tt) c.split.ensures.text c.split.ensures.has_more c.split.ensures.pattern in
    map_from_collect _ c.collect.ensures.ran
    (YieldsList-from_map_by _ (λ (x : Bor Bytes). x.now) trimmed_entry (YieldsList-at c.map.ensures.source cut) c.map.ensures.closure (λ x r q k. search rules))
