-- A file that is imported into an office.
use Rattle.std.specs.Prelude.{◌≡◌, ℕ, ◌+◌, ◌≤◌, Bool, true, nat_le, nat_lt, ◌&&◌, if◌then◌else◌, List, [], length, map}
use Rattle.std.specs.Prelude.{Option, Some, None, Err}
use Rattle.isad_core.specs.Limits.{most_containers, most_unit_numbers, most_units}
use Rattle.isad_core.specs.Texts.{Bytes}
use Rattle.atom_csv.specs.declared.file.File.{File}
use Rattle.tree_core.specs.Forest.{size}
use Rattle.desk_core.specs.declared.refusal.Refusal.TheVariants.{Full}
use Rattle.catalogue_core.specs.CatalogueMerge.{Catalogue, faults_below}
use Rattle.catalogue_core.specs.EntryByRow.{number_there}
use Rattle.office_core.specs.ImportReply.{remarks}
use Rattle.office_core.specs.Rules.{Reply}
use Rattle.office_core.specs.SoundOffice.{HasLegibleSettings}
use Rattle.office_core.specs.State.{State}
use Rattle.office_core.specs.declared.done.Done.{Done}
use Rattle.office_core.specs.declared.done.Done.TheVariants as done
use Rattle.access.specs.Gate.{gate_reply}
use Rattle.refinement.specs.AccessConditions.{CanBeJudged}
use Rattle.csv_import.specs.RowPlan.{new_of}
use Rattle.csv_import.specs.Remarks.{HasEntered}
use Rattle.csv_import.specs.declared.row_entry.Counts.{Counts}

-- an office may have this many more units, each with a number of its own
abbrev pub has_room : ℕ → Catalogue → Bool
has_room new c = nat_le (size c.forest + new) most_units && nat_le (c.next + new) (most_unit_numbers + 1)

-- the number of the next new unit, or none if there is no room for so many more
abbrev pub next_with_room : ℕ → Catalogue → Option ℕ
next_with_room new c = if has_room new c then Some c.next else None

-- the rows of the file can all be placed, and this many of them are new
pub record CanBePlaced (source : Bytes) (file : File) (new : ℕ) (s : State) : Type 0 where
  pub faults : faults_below s.catalogue.forest source [] (new_of s.catalogue.forest source file.rows) ≡ []
  pub new_is : new ≡ length (new_of s.catalogue.forest source file.rows)

-- the rows can all be placed, and there is room for the new ones
pub record FitsIn (source : Bytes) (file : File) (s : State) : Type 0 where
  pub faults : faults_below s.catalogue.forest source [] (new_of s.catalogue.forest source file.rows) ≡ []
  pub room : has_room (length (new_of s.catalogue.forest source file.rows)) s.catalogue ≡ true

-- the outcome of a file whose rows were entered; their entry led to this state
abbrev pub import_outcome : Bytes → File → Counts → State → Done
import_outcome source file counts s = done.Import counts.changed counts.new (remarks s.catalogue.forest source file.rows) counts.same file.translations

-- `Full` if there are more containers than an office may have; otherwise the outcome, unless the gate refuses it
abbrev pub reply_after : State → Done → Reply
reply_after s done = if nat_lt most_containers (length s.catalogue.containers) then Err Full else gate_reply s done

-- A state after a file was entered. Its settings can be read. If it has no more containers than an office may have, it
-- can also be judged, and it has the rows of the file.
pub record HasImported (source : Bytes) (file : File) (s : State) : Type 0 where
  pub settings : HasLegibleSettings s
  pub judged : length s.catalogue.containers ≤ most_containers → CanBeJudged s
  pub entered : length s.catalogue.containers ≤ most_containers → HasEntered source file.rows s.catalogue

-- the same, and these are the units of the file's rows
pub record HasNumberedUnits (source : Bytes) (file : File) (units : List ℕ) (s : State) : Type 0 where
  pub imported : HasImported source file s
  pub numbered : map Some units ≡ map (λ row. number_there s.catalogue source row.legacy) file.rows
