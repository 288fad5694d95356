use Rattle.std.proofs.Common.{◌≡◌, Option, is_none, sym, ap, subst, ◌∙◌}
use Rattle.std.specs.Prelude.{IfSome}
use Rattle.catalogue_core.specs.Moves.{height as height_of}
use Rattle.integrity_checks.proofs.Common.{AreUnitsPlaced, Placed, encoding, looks_then, places_in, places_said, state}
use Rattle.integrity_checks.proofs.CatalogueDefects.{bad_places, bad_units, good_units, units_are_read}
use Rattle.integrity_checks.proofs.ExaminationEnds.{earlier, examined, examined_last, passes_later, still}
use Rattle.integrity_checks.proofs.catalogue_check.load_check.Goals as goal

pub returns-in_default : goal.returns-in_default
returns-in_default g c =
    let one = c.in_ok-placed.ensures in
    examined one.reads.looks (λ clean. bad_places g.P.Versioned.version (state g.S.Store c.args.tables.now).now.trees c.args.next (sym (one.answers clean).defect ∙ ap (λ (o : Option Placed). is_none o) c.in_default.is))

pub returns-in_err-units_are_good : goal.returns-in_err-units_are_good
returns-in_err-units_are_good g c = passes_later c.from_residual-in_err-units_are_good.ensures c.in_ok-placed.ensures.reads.looks c.in_err-units_are_good.ensures

pub returns-then-not-branch : goal.returns-then-not-branch
returns-then-not-branch g c =
    let v = g.P.Versioned.version in
    let db = (state g.S.Store c.args.tables.now).now.trees in
    let one = c.in_ok-placed.ensures in
    let two = c.in_ok-units_are_good.ensures in
    examined (looks_then one.reads.looks two.reads.looks) (λ clean.
    let told = one.answers (earlier two clean) in
    let units = subst (λ (o : Option Placed). IfSome o (λ (p : Placed). AreUnitsPlaced (places_in (encoding v) db) p.units.items)) c.in-Some.is told.units in
    let deep = subst (λ (o : Option Placed). IfSome o (λ (p : Placed). p.height ≡ height_of (places_said (places_in (encoding v) db)))) c.in-Some.is told.height in
    bad_units v db c.args.next (sym told.defect ∙ ap (λ (o : Option Placed). is_none o) c.in-Some.is) (sym (still one.reads.looks two clean v units deep) ∙ c.if-not-branch.true))

pub returns : goal.returns
returns g c =
    let v = g.P.Versioned.version in
    let db = (state g.S.Store c.args.tables.now).now.trees in
    let one = c.in_ok-placed.ensures in
    let two = c.in_ok-units_are_good.ensures in
    examined_last (looks_then one.reads.looks two.reads.looks) c.check_contents.ensures (λ clean told follows.
    let placed = one.answers (earlier two clean) in
    let units = subst (λ (o : Option Placed). IfSome o (λ (p : Placed). AreUnitsPlaced (places_in (encoding v) db) p.units.items)) c.in-Some.is placed.units in
    let deep = subst (λ (o : Option Placed). IfSome o (λ (p : Placed). p.height ≡ height_of (places_said (places_in (encoding v) db)))) c.in-Some.is placed.height in
    let fine = sym (still one.reads.looks two clean v units deep) ∙ c.if-not-branch.false in
    follows v (units_are_read v db c.args.next fine) ∙ good_units v db c.args.next (sym placed.defect ∙ ap (λ (o : Option Placed). is_none o) c.in-Some.is) fine)
