-- An accepted import that is done again changes nothing.
use Rattle.std.proofs.Common.{◌≡◌, ℕ, List, [], ◌∷◌, length, Some, None, Ok, Err, refl, sym, ap, ◌∙◌, subst}
use Rattle.catalogue_core.proofs.FileRows.{AreApartRows, apart_rows}
use Rattle.catalogue_core.specs.Intake.{take}
use Rattle.office_core.specs.ImportReply.{told_of}
use Rattle.office_core.specs.declared.command.Command.TheVariants as command
use Rattle.office_core.specs.declared.done.Done.{Done}
use Rattle.office_core.specs.declared.done.Done.TheVariants as done
use Rattle.office_core.proofs.Common.{BadName, Bytes, Check, File, Full, HasTaken, ImportsAgain, Intake, IsTaken}
use Rattle.office_core.proofs.Common.{Remark, Reply, Row, State, Taken, bad_file, boxes_again, count_all, count_by}
use Rattle.office_core.proofs.Common.{decide, file_of, first_that_holds, gate, has_taken, intake_of, is_full, is_new}
use Rattle.office_core.proofs.Common.{is_same, is_source, merge, merge_again, merged_boxes, none_changed, none_new}
use Rattle.office_core.proofs.Common.{remarks, rows_same, step, take_rows, taken_is, too_much, unless, when, with_file}
use Rattle.office_core.proofs.Common.{with_import}
use Rattle.office_core.proofs.Steps.{step_at}
use Rattle.office_core.proofs.PassedChecks.{passed_import}

-- ---- the step, done again

-- what an import does, once its file was taken
abbrev stepped : State → Bytes → Taken → State × Reply
stepped t source r =
    decide (first_that_holds (unless (is_source source) BadName ∷ bad_file r ∷ too_much r ∷ gate (with_import t r) ∷ [])) t (with_import t r) (told_of t.catalogue.forest source r)

none_holds : (t new : State) (d : Done) (a b c : Check) → a ≡ None → b ≡ None → c ≡ None
    → decide (first_that_holds (a ∷ None ∷ b ∷ c ∷ [])) t new d ≡ (new, Ok d)
none_holds t new d (Some why) b c ea eb ec = absurd (cc)
none_holds t new d None (Some why) c ea eb ec = absurd (cc)
none_holds t new d None None (Some why) ea eb ec = absurd (cc)
none_holds t new d None None None ea eb ec = refl

abbrev done_reply : Done → Reply
done_reply d = Ok d

abbrev replied : State → Done → State × Reply
replied t d = (t, Ok d)

abbrev DoneAgain : State → Bytes → Bytes → List Remark → ℕ → Type 0
DoneAgain t source file marks translations =
    (read : File) × (file_of file ≡ Ok read)
    × (step t (command.Import source file) ≡ (t, Ok (done.Import 0 0 marks (length read.rows) translations)))

module _ (s : State) (source file : Bytes) (intake : Intake) (e : intake_of s source file ≡ Ok intake) where
  it : IsTaken s.catalogue source file intake
  it = taken_is s.catalogue source file intake e

  rows : List Row
  rows = intake.file.rows

  apart : AreApartRows intake.file.rows
  apart = apart_rows file intake.file it.read

  after_it : HasTaken source intake.file.rows intake.catalogue.forest
  after_it = subst (λ c. HasTaken source intake.file.rows c.forest) (sym it.is) (has_taken s.catalogue source intake.file.rows apart)

  boxes_kept : merged_boxes intake.file.rows intake.catalogue.containers ≡ intake.catalogue.containers
  boxes_kept = subst (λ c. merged_boxes intake.file.rows c.containers ≡ c.containers) (sym it.is) (boxes_again s.catalogue.containers intake.file.rows)

  merged_same : merge intake.catalogue source intake.file.rows ≡ Ok intake.catalogue
  merged_same = merge_again intake.catalogue source intake.file.rows after_it boxes_kept

  taken_same : take intake.catalogue source file ≡ Ok intake
  unfolding take
  taken_same = ap (take_rows intake.catalogue source) it.read ∙ ap (with_file intake.file) merged_same

  told_same : told_of intake.catalogue.forest source (Ok intake) ≡ done.Import 0 0 (remarks intake.catalogue.forest source intake.file.rows) (length intake.file.rows) intake.file.translations
  told_same =
      let marks = remarks intake.catalogue.forest source intake.file.rows in
      let f = intake.catalogue.forest in
      ap (λ n. done.Import n (count_by (is_new f source) intake.file.rows) marks (count_by (is_same f source) intake.file.rows) intake.file.translations) (none_changed source intake.file.rows f apart after_it)
      ∙ (ap (λ n. done.Import 0 n marks (count_by (is_same f source) intake.file.rows) intake.file.translations) (none_new source intake.file.rows f after_it)
      ∙ ap (λ n. done.Import 0 0 marks n intake.file.translations) (count_all (is_same f source) intake.file.rows (rows_same source intake.file.rows f apart after_it)))

  step_again : unless (is_source source) BadName ≡ None → when (is_full intake.catalogue) Full ≡ None
      → gate (with_import s (Ok intake)) ≡ None
      → DoneAgain (with_import s (Ok intake)) source file (remarks intake.catalogue.forest source intake.file.rows) intake.file.translations
  step_again a b c =
      let t = with_import s (Ok intake) in (
        intake.file,
        it.read,
        ap (stepped t source) taken_same
            ∙ (none_holds t (with_import t (Ok intake)) (told_of t.catalogue.forest source (Ok intake)) (unless (is_source source) BadName) (when (is_full intake.catalogue) Full) (gate t) a b c
            ∙ ap (replied t) told_same),
      )

same_reply : (a b : Done) → done_reply a ≡ done_reply b → a ≡ b
same_reply a b e = cc

same_marks : (c n s t c' n' s' t' : ℕ) (m m' : List Remark) → done.Import c n m s t ≡ done.Import c' n' m' s' t'
    → (m ≡ m') × (t ≡ t')
same_marks c n s t c' n' s' t' m m' e = (cc, cc)

accepted : (s : State) (source file : Bytes) (r : Taken) → intake_of s source file ≡ r
    → unless (is_source source) BadName ≡ None → bad_file r ≡ None → too_much r ≡ None → gate (with_import s r) ≡ None
    → (changed new : ℕ) (marks : List Remark) (same translations : ℕ)
    → done_reply (told_of s.catalogue.forest source r) ≡ done_reply (done.Import changed new marks same translations)
    → DoneAgain (with_import s r) source file marks translations
accepted s source file (Err fault) e a b c d changed new marks same translations t = absurd (cc)
accepted s source file (Ok intake) e a b c d changed new marks same translations t =
    let x = same_marks _ _ _ _ changed new same translations _ marks (same_reply _ _ t) in
    subst (λ m. DoneAgain (with_import s (Ok intake)) source file m translations) x.0
    (subst (λ n. DoneAgain (with_import s (Ok intake)) source file (remarks intake.catalogue.forest source intake.file.rows) n) x.1 (step_again s source file intake e a c d))

pub imports_again : (s : State) → ImportsAgain s
imports_again s source file changed new marks same translations =
    step_at (λ t reply. reply ≡ Ok (done.Import changed new marks same translations) → DoneAgain t source file marks translations) s (command.Import source file)
    (λ why e. absurd (cc))
    (λ ok e. accepted s source file (intake_of s source file) refl (passed_import s source file ok).named (passed_import s source file ok).faultless (passed_import s source file ok).room (passed_import s source file ok).gate_passed changed new marks same translations e)
