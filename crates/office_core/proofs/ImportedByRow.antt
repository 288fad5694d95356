-- An import that goes row by row gives what is taken, and tells what is told.
use Rattle.std.proofs.Common.{ℕ, sym, ap, ◌∙◌}
use Rattle.atom_csv.proofs.ToldLemmas.{file_sound}
use Rattle.catalogue_core.proofs.RowCounts.{changed_counts, new_counts, same_counts}
use Rattle.catalogue_core.proofs.RowsMerged.{taken_row_by_row}
use Rattle.catalogue_core.specs.EntryByRow.{count_rows}
use Rattle.office_core.specs.ImportByRow.{FaultsRowByRow, TakesRowByRow}
use Rattle.office_core.specs.ImportReply.{told_of}
use Rattle.office_core.specs.declared.done.Done.{Done}
use Rattle.office_core.specs.declared.done.Done.TheVariants as done
use Rattle.office_core.proofs.Common.{IsSound, State, count_by, is_changed, is_new, is_same, remarks, with_file}

pub takes_row_by_row : (s : State) → IsSound s → TakesRowByRow s
takes_row_by_row s g source file read made f e =
    let all = taken_row_by_row s.catalogue source file read f g.units g.desk.boxes ∙ ap (with_file read) e in
    let once = (file_sound file read f).once in
    let changed = changed_counts s.catalogue source read.rows g.units g.desk.boxes once made e in
    let new = new_counts s.catalogue source read.rows g.units g.desk.boxes once made e in
    let same = same_counts s.catalogue source read.rows g.units g.desk.boxes once made e in
    let answers : ℕ → ℕ → ℕ → Done =
    λ a b d. done.Import a b (remarks made.forest source read.rows) d read.translations in
    let rows = read.rows in
    let forest = s.catalogue.forest in (
      all,
      ap (told_of forest source) all
          ∙ (ap (λ n. answers n (count_by (is_new forest source) rows) (count_by (is_same forest source) rows)) (sym changed)
          ∙ (ap (λ n. answers (count_rows is_changed source rows s.catalogue) n (count_by (is_same forest source) rows)) (sym new)
          ∙ ap (answers (count_rows is_changed source rows s.catalogue) (count_rows is_new source rows s.catalogue)) (sym same))),
    )

pub faults_row_by_row : (s : State) → IsSound s → FaultsRowByRow s
faults_row_by_row s g source file read fault f e =
    taken_row_by_row s.catalogue source file read f g.units g.desk.boxes ∙ ap (with_file read) e
