use Rattle.std.proofs.Common.{ℕ, List, Ok, sym, subst, ◌∙◌, refl}
use Rattle.office_core.specs.declared.command.Command.TheVariants as command
use Rattle.office_core.specs.declared.done.Done.TheVariants as done
use Rattle.desk_commands.proofs.Common.{CarriesOutStep, RepresentsDesk, Shelf, state, tables, with_all_placed}
use Rattle.desk_commands.proofs.Spared.{desk_passed}
use Rattle.desk_commands.proofs.OneStep.{desk_made}
use Rattle.desk_commands.proofs.Reshelved.{reshelves}
use Rattle.desk_commands.proofs.shelf_return.shelve.Goals as goal

pub returns-in_err-move_all : goal.returns-in_err-move_all
returns-in_err-move_all g c =
    let made = c.in_err-move_all.ensures.updates in
    desk_passed _ c.from_residual.ensures made.aborts (λ beside d shown may kept. made.faults beside d shown may tt)

pub returns : goal.returns
returns g c =
    let v = g.P.Versioned.version in
    let b = state g.S.Store c.move_all.new.tables in
    desk_made c.in_ok-move_all.ensures.updates refl (λ s sound so it. tt) (λ s sound so it schema only put.
    subst (λ (l : List ℕ). CarriesOutStep g.P.Places.represents v s command.Reshelve (Ok (done.Reshelve l)) b.now) (sym so.0)
    (reshelves v s sound g.P.Places.represents g.met.P.Places.shows_same _ _ so.1 it schema only
    (subst (λ (l : List ℕ). RepresentsDesk b.now.trees (with_all_placed Shelf l (tables v s).desk)) (c.deref.ensures.value ∙ so.0) put)))
