use Rattle.std.proofs.Common.{◌≡◌, Some, None, sym, ap, ◌∙◌}
use Rattle.catalogue_core.specs.Units.{Unit as Described}
use Rattle.catalogue_statements.proofs.FoundUnits.{none_found, one_told}
use Rattle.tree_places.proofs.MarkCauses.{legible_units}
use Rattle.csv_import.proofs.Common.{rank_of, state, tells_passed}
use Rattle.csv_import.proofs.Tellings.{tells_so}
use Rattle.csv_import.proofs.remarks.rank_there.Goals as goal

pub returns-in_err-level : goal.returns-in_err-level
returns-in_err-level g c =
    let a = state g.S.Store c.args.tables.now in
    record { answers = tells_passed _ c.from_residual.ensures c.in_err-level.ensures.reads.aborts (λ o k it may kept clean free. (let at = it.catalogue.units in c.in_err-level.ensures.faults at.units at.rows (legible_units a.now.trees k at kept) clean free)) }

pub returns-in_default : goal.returns-in_default
returns-in_default g c =
    let a = state g.S.Store c.args.tables.now in
    record {
      answers = tells_so c.in_ok-level.ensures.reads.looks (λ clean o k it unit is.
          let at = it.catalogue.units in
          let got = c.in_ok-level.ensures.answers clean at.units at.rows tt in
          let none = none_found a.now.trees k.forest at c.args.unit got.0 got.1.0 (λ (u : Described). u.values.level) (sym got.2 ∙ c.in_default.is) in
          let clash : None ≡ Some unit = sym none ∙ is in
          absurd (cc));
    }

pub returns : goal.returns
returns g c =
    let a = state g.S.Store c.args.tables.now in
    record {
      answers = tells_so c.in_ok-level.ensures.reads.looks (λ clean o k it unit is.
          let at = it.catalogue.units in
          let got = c.in_ok-level.ensures.answers clean at.units at.rows tt in
          let found = one_told a.now.trees k.forest at c.args.unit got.0 got.1.0 (λ (u : Described). u.values.level) c.in-Some.level (sym got.2 ∙ c.in-Some.is) in
          let both : Some found.0 ≡ Some unit = sym found.3 ∙ is in
          let same : found.0 ≡ unit = cc in
          c.rank.ensures ∙ ap rank_of (c.as_str.ensures ∙ (found.4 ∙ ap (λ (u : Described). u.values.level) same)));
    }
