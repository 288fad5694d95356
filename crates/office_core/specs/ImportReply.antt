-- The reply to an import, and why an import is refused.
use Rattle.std.specs.Prelude.{None, ℕ, Bool, true, false, not, ◌||◌, List, [], ◌∷◌, Option, Some, Ok, Err, is_some}
use Rattle.std.specs.Prelude.{nat_lt, count_by}
use Rattle.std.specs.List.{list_all, flat_map}
use Rattle.isad_core.specs.Texts.{Bytes, is_blank_text}
use Rattle.isad_core.specs.Levels.{rank_of}
use Rattle.isad_core.specs.Values.{text_of}
use Rattle.isad_core.specs.declared.element.Element.TheVariants.{ReferenceCode, Title, Dates, Extent, Creator}
use Rattle.isad_core.specs.declared.values.Values.{Values}
use Rattle.atom_csv.specs.declared.file.Row.{Row}
use Rattle.tree_core.specs.Forest.{Forest, path}
use Rattle.desk_core.specs.Refusals.{Check, when}
use Rattle.desk_core.specs.declared.refusal.Refusal.TheVariants.{BadFile, Full}
use Rattle.catalogue_core.specs.Units.{Unit, is_from}
use Rattle.office_core.specs.declared.done.Done.{Done}
use Rattle.office_core.specs.declared.done.Done.TheVariants as done
use Rattle.office_core.specs.declared.done.Remark.{Remark}
use Rattle.office_core.specs.declared.done.Remark.TheVariants.{LevelTooHigh, LacksEssential}
use Rattle.catalogue_core.specs.Intake.{is_full, Taken, is_same, is_new, is_changed}

abbrev pub bad_file : Taken → Check
bad_file (Ok intake) = None
bad_file (Err (row, cause)) = Some (BadFile row cause)

abbrev pub too_much : Taken → Check
too_much (Ok intake) = when (is_full intake.catalogue) Full
too_much (Err fault) = None

-- ---- remarks, which refuse nothing

-- a known level belongs above another known level
abbrev pub is_level_above : Option ℕ → Option ℕ → Bool
is_level_above (Some rank) (Some other) = nat_lt rank other
is_level_above _ _ = false

-- one of the six elements is missing that are essential for international exchange (ISAD(G) I.12):
-- reference code, title, creator, dates, extent and level
abbrev pub lacks_essential : Values → Bool
lacks_essential values =
    is_blank_text values.level
    || not (list_all (λ element. is_some (text_of element values)) (ReferenceCode ∷ Title ∷ Creator ∷ Dates ∷ Extent ∷ []))

abbrev pub remark_if : Bool → Remark → List Remark
remark_if true remark = remark ∷ []
remark_if false remark = []

-- the remark on a row by the path of its unit: a top that lacks an essential element, or a level that
-- belongs above that of the unit right above
abbrev pub remark_on : ℕ → List Unit → List Remark
remark_on row [] = []
remark_on row (top ∷ []) = remark_if (lacks_essential top.values) (LacksEssential row)
remark_on row (parent ∷ unit ∷ []) =
    remark_if (is_level_above (rank_of unit.values.level) (rank_of parent.values.level)) (LevelTooHigh row)
remark_on row (first ∷ parent ∷ unit ∷ path) = remark_on row (parent ∷ unit ∷ path)

-- in the order of the rows, judged on the forest after the file
abbrev pub remarks : Forest Unit → Bytes → List Row → List Remark
remarks f source rows = flat_map (λ row. remark_on row.row (path (is_from source row.legacy) f)) rows

-- ---- the reply, from the forest before the import and the file as it was taken

abbrev pub told_of : Forest Unit → Bytes → Taken → Done
told_of f source (Ok intake) =
    done.Import
    (count_by (is_changed f source) intake.file.rows)
    (count_by (is_new f source) intake.file.rows)
    (remarks intake.catalogue.forest source intake.file.rows)
    (count_by (is_same f source) intake.file.rows)
    intake.file.translations
told_of f source (Err fault) = done.Import 0 0 [] 0 0
