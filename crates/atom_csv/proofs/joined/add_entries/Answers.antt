use Rattle.std.proofs.Common.{◌∙◌, ap, sym, refl, lit<, Bor, map, fold, [], ◌∷◌}
use Rattle.std.proofs.lemmas.Iterator.Consumers.{YieldsList-at, YieldsList-end}
use Rattle.std.proofs.lemmas.Iterator.Splits.{YieldsList-from_str_split}
use Rattle.atom_csv.proofs.Common.{Bytes, fold-append, map-append, string_bytes, trimmed_entry, with_entry}
use Rattle.atom_csv.proofs.EntryLemmas.{entries_seen}
use Rattle.atom_csv.proofs.joined.add_entries.Goals as goal

pub loop-part-init : goal.loop-part-init
loop-part-init c = refl

pub loop-part-preserved : goal.loop-part-preserved
loop-part-preserved c =
    let told : Bor Bytes → Bytes = λ part. trimmed_entry part.now in
    let start = string_bytes c.args.text.now in
    let before = map told c.loop-part.yielded in
    c.in_ok-add.ensures
    ∙ (ap (with_entry (string_bytes c.loop-part.text)) c.entry.ensures
    ∙ (ap (λ (t : Bytes). with_entry t (told c.in-Some.part)) c.loop-part.invariant
    ∙ sym (ap (fold with_entry start) (map-append told c.loop-part.yielded (c.in-Some.part ∷ [])) ∙ fold-append with_entry start before (told c.in-Some.part ∷ []))))

pub returns : goal.returns
returns c =
    let cut = YieldsList-from_str_split 124 c.args.value.now (lit< tt) c.split-part-items.ensures.text c.split-part-items.ensures.has_more c.split-part-items.ensures.pattern in
    let all = YieldsList-end (YieldsList-at c.into_iter-part-iterator.ensures.into_iter_gives cut) c.loop-part.yielded _ c.loop-part.yielded_by _ _ c.in-None.is c.next.ensures.steps in
    c.loop-part.invariant ∙ ap (fold with_entry (string_bytes c.args.text.now)) (entries_seen c.loop-part.yielded ∙ ap (map trimmed_entry) all.0)
