-- What is known about a file's rows before any is entered: whether each can be placed, and how many are new.
use Rattle.std.specs.Prelude.{◌≡◌, ℕ, suc, if◌then◌else◌, nat_lt, List, [], filter, length, Option, Some, None, Result}
use Rattle.std.specs.Prelude.{Ok, Err}
use Rattle.isad_core.specs.Limits.{most_deep}
use Rattle.isad_core.specs.Texts.{Bytes}
use Rattle.atom_csv.specs.Causes.{cause_number}
use Rattle.atom_csv.specs.declared.cause.Cause.TheVariants.{NoParent, TooDeep}
use Rattle.atom_csv.specs.declared.file.Row.{Row}
use Rattle.tree_core.specs.Forest.{Forest}
use Rattle.catalogue_core.specs.Intake.{is_new}
use Rattle.catalogue_core.specs.CatalogueMerge.{depth_under, faults_below, is_known, or_first}
use Rattle.catalogue_core.specs.Units.{Unit}
use Rattle.csv_import.specs.declared.row_plan.Placing.{Placing}
use Rattle.csv_import.specs.declared.row_plan.Placing.TheVariants as placing
use Rattle.csv_import.specs.declared.row_plan.Planned.{Planned}
use Rattle.csv_import.specs.declared.row_plan.Planned.TheVariants as plan

-- ---- all rows

-- the rows of units that are not catalogued, in file order
abbrev pub new_of : Forest Unit → Bytes → List Row → List Row
new_of f source rows = filter (is_new f source) rows

-- what a plan tells, with the number of the cause
abbrev pub by_number : Planned → Result ℕ (ℕ × ℕ)
by_number (plan.Fits new) = Ok new
by_number (plan.Faulty row cause) = Err (row, cause_number cause)

-- how many rows are new, or the first of them that cannot be placed, and why
abbrev pub plan_of : Forest Unit → Bytes → List Row → Result ℕ (ℕ × ℕ)
plan_of f source rows = or_first (faults_below f source [] (new_of f source rows)) (length (new_of f source rows))

-- ---- one row

-- how a new row at this depth is placed, or why it cannot be
abbrev pub at_depth : Option ℕ → Placing
at_depth None = placing.Faulty NoParent
at_depth (Some depth) = if nat_lt most_deep depth then placing.Faulty TooDeep else placing.Fits (suc depth)

-- how a row is placed: `above` has the new rows above it in the file, the nearest first
abbrev pub placing_of : Forest Unit → Bytes → List Row → Row → Placing
placing_of f source above row =
    if is_known f source row then placing.Known else at_depth (depth_under f source row.parent above)

-- the first depth if there is one, otherwise the second
abbrev pub or_there : Option ℕ → Option ℕ → Option ℕ
or_there None there = there
or_there (Some depth) there = Some depth

-- `below` gives the depth of a row right below each of the new rows above, and below each catalogued unit whose path
-- was read; below any other parent it is as in the catalogue
abbrev pub KnowsDepths : Forest Unit → Bytes → List Row → (Bytes → Option ℕ) → Type 0
KnowsDepths f source above below =
    (parent : Bytes) → depth_under f source (Some parent) above ≡ or_there (below parent) (depth_under f source (Some parent) [])
