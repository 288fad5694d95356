use Rattle.std.proofs.Common.{◌≡◌, List, Option, None, rules, map-id, sym, ap, ◌∙◌}
use Rattle.std.proofs.lemmas.Iterator.{YieldsList, YieldsList-from_slice, items_from_drains}
use Rattle.std.proofs.lemmas.Iterator.Consumers.{YieldsList-at, YieldsList-from_copied, YieldsList-from_filter}
use Rattle.std.specs.Iterator.{Drains}
use Rattle.access.proofs.Common.{Mark, last_or}
use Rattle.access.proofs.housed_units.last_boxed.Goals as goal

last_of : {S A : Type 0} {steps : S → Option A → S → Type 0} {s : S} {all : List A} (r : Option A)
    → ((xs : List A) × Drains steps s xs × (r ≡ last_or None xs)) → YieldsList steps (λ x. x) s all → r ≡ last_or None all
last_of r ran it =
    let way = ran.1.1 in
    ran.2 ∙ ap (last_or None) (sym (map-id ran.0) ∙ items_from_drains ran.0 (way.0, way.1, λ _. (ran.1.0, way.2)) it)

pub returns : goal.returns
returns c =
    let marks = YieldsList-at c.copied.ensures.source (YieldsList-from_slice c.args.path.now c.iter.ensures.rest) in
    last_of c.last.result c.last.ensures.ran
    (YieldsList-from_filter _ (λ (mark : Mark). mark.boxed) (YieldsList-at c.filter.ensures.source (YieldsList-from_copied marks))
    c.filter.ensures.closure (λ x b q k. search rules))
