-- What imports, moves and statuses make of small catalogues. Each expected reply and text was worked out by hand from
-- the written rules.
use Rattle.std.specs.Prelude.{◌≡◌, true, [], ◌∷◌, None, Some, Ok, codes}
use Rattle.desk_core.specs.declared.refusal.Refusal.TheVariants.{WithReader, BadFile, Full}
use Rattle.office_core.specs.declared.command.Command.TheVariants.{Import, SetStatus, Move}
use Rattle.office_core.specs.declared.query.Query.TheVariants.{Fonds, Aid, Page}
use Rattle.office_core.specs.declared.query.Answer.TheVariants.{Text}
use Rattle.office_core.specs.declared.done.Done.TheVariants as done
use Rattle.office_core.specs.declared.done.Remark.TheVariants.{LevelTooHigh, LacksEssential}
use Rattle.office_core.specs.Rules.{replies}
use Rattle.office_core.specs.WorkedAnswers.{AnswerIs}
use Rattle.office_core.specs.WorkedExamples.{RepliesAre, import, draft, refusal_reply, import_reply, docks}
use Rattle.office_core.specs.WorkedExamples.{docks_renamed, docks_and_mersey, docks_strayed, docks_strayed_with_another}
use Rattle.office_core.specs.WorkedExamples.{two_boxes, two_boxes_turned, file_in_an_item, subfonds_in_an_odd_place}
use Rattle.office_core.specs.WorkedExamples.{boxes_and_5, boxes_with_9_and_5, boxes_with_9_and_two, one_number_left}

-- ---- whose units a file changes

-- a file changes only the units of its own source, even if other sources use the same numbers
abbrev pub SourcesApart : Type 0
SourcesApart =
    RepliesAre
    (import docks ∷ Import (codes "b") docks ∷ Import (codes "b") docks_renamed ∷ import docks ∷ Import (codes "b") docks_renamed ∷ [])
    (import_reply 0 2 0 0 (LacksEssential 2 ∷ []) ∷ import_reply 0 2 0 0 (LacksEssential 2 ∷ []) ∷ import_reply 1 0 1 0 (LacksEssential 2 ∷ []) ∷ import_reply 0 0 2 0 (LacksEssential 2 ∷ []) ∷ import_reply 0 0 2 0 (LacksEssential 2 ∷ []) ∷ [])

-- a known row already has its place: an unknown parent is not a fault in it, but is one in a new row
abbrev pub KnownRowsStay : Type 0
KnownRowsStay =
    RepliesAre
    (import docks ∷ import docks_strayed ∷ import docks_strayed_with_another ∷ [])
    (import_reply 0 2 0 0 (LacksEssential 2 ∷ []) ∷ import_reply 0 0 1 0 [] ∷ refusal_reply (BadFile 3 11) ∷ [])

-- the same containers in another order are a change
abbrev pub BoxesTurned : Type 0
BoxesTurned =
    RepliesAre
    (import two_boxes ∷ import two_boxes_turned ∷ import two_boxes_turned ∷ import two_boxes ∷ [])
    (import_reply 0 1 0 0 (LacksEssential 2 ∷ []) ∷ import_reply 1 0 0 0 (LacksEssential 2 ∷ []) ∷ import_reply 0 0 1 0 (LacksEssential 2 ∷ []) ∷ import_reply 1 0 0 0 (LacksEssential 2 ∷ []) ∷ [])

-- a level is compared with that of the unit right above, not of the top
abbrev pub LevelsOfParents : Type 0
LevelsOfParents =
    RepliesAre
    (import file_in_an_item ∷ Import (codes "b") subfonds_in_an_odd_place ∷ [])
    (import_reply 0 3 0 0 (LacksEssential 2 ∷ LevelTooHigh 4 ∷ []) ∷ import_reply 0 3 0 0 (LacksEssential 2 ∷ LevelTooHigh 3 ∷ []) ∷ [])

-- if one unit number is left, a file with two new rows is too large, which is checked before the box that it would take
-- from its reader; a file with one new row fits, and gets the last number
abbrev pub TooMuchBeforeTheGate : Type 0
TooMuchBeforeTheGate =
    replies one_number_left (import boxes_with_9_and_two ∷ import boxes_with_9_and_5 ∷ import boxes_and_5 ∷ import boxes_with_9_and_5 ∷ [])
    ≡ refusal_reply Full ∷ refusal_reply (WithReader 2) ∷ import_reply 0 1 4 0 (LacksEssential 2 ∷ LacksEssential 3 ∷ LacksEssential 4 ∷ LacksEssential 5 ∷ LacksEssential 6 ∷ []) ∷ refusal_reply (WithReader 2) ∷ []

-- ---- statuses

-- each unit of a branch is counted, including one that already had the status
abbrev pub BranchCounted : Type 0
BranchCounted =
    RepliesAre
    (import docks ∷ draft 2 ∷ SetStatus 1 true true ∷ SetStatus 1 true true ∷ draft 2 ∷ [])
    (import_reply 0 2 0 0 (LacksEssential 2 ∷ []) ∷ Ok (done.SetStatus 1) ∷ Ok (done.SetStatus 2) ∷ Ok (done.SetStatus 2) ∷ Ok (done.SetStatus 1) ∷ [])

-- ---- where units stand

-- new units come after the old ones, even if the file has them first, and a unit that is moved comes after all of them
pub record LastPlaces : Type 0 where
  pub new_children : AnswerIs (import docks ∷ import docks_and_mersey ∷ []) (Page 1) (Text (codes "GB 0999 HUL [Fonds] Hull Dock Company\n  Unit 2: GB 0999 HUL/1 [Series] Minutes\n  Unit 3: GB 0999 HUL/2 [Series] Plans\n"))
  pub new_tops : AnswerIs (import docks ∷ import docks_and_mersey ∷ []) Fonds (Text (codes "1 GB 0999 HUL [Fonds] Hull Dock Company\n4 GB 0999 MER [Fonds] Mersey Docks\n"))
  pub in_walk_order : AnswerIs (import docks ∷ import docks_and_mersey ∷ []) (Aid 1) (Text (codes "GB 0999 HUL [Fonds] Hull Dock Company\n  GB 0999 HUL/1 [Series] Minutes\n  GB 0999 HUL/2 [Series] Plans\n"))
  pub moved_where_it_was : AnswerIs (import docks ∷ import docks_and_mersey ∷ Move 2 (Some 1) ∷ []) (Page 1) (Text (codes "GB 0999 HUL [Fonds] Hull Dock Company\n  Unit 3: GB 0999 HUL/2 [Series] Plans\n  Unit 2: GB 0999 HUL/1 [Series] Minutes\n"))
  pub moved_below : AnswerIs (import docks ∷ import docks_and_mersey ∷ Move 4 (Some 1) ∷ []) (Page 1) (Text (codes "GB 0999 HUL [Fonds] Hull Dock Company\n  Unit 2: GB 0999 HUL/1 [Series] Minutes\n  Unit 3: GB 0999 HUL/2 [Series] Plans\n  Unit 4: GB 0999 HUL/MER [Fonds] Mersey Docks\n"))
  pub moved_to_the_top : AnswerIs (import docks ∷ import docks_and_mersey ∷ Move 1 None ∷ []) Fonds (Text (codes "4 GB 0999 MER [Fonds] Mersey Docks\n1 GB 0999 HUL [Fonds] Hull Dock Company\n"))
  pub strayed_stays : AnswerIs (import docks ∷ import docks_strayed ∷ []) (Aid 1) (Text (codes "GB 0999 HUL [Fonds] Hull Dock Company\n  GB 0999 HUL/1 [Series] Minutes\n"))

-- containers are shown in the unit's order, with the numbers that they got when they were first imported
pub record BoxesInOrder : Type 0 where
  pub first : AnswerIs (import two_boxes ∷ []) (Page 1) (Text (codes "GB 0999 [-] Plans\n  Container 1: Box 1\n  Container 2: Box 2\n"))
  pub turned : AnswerIs (import two_boxes ∷ import two_boxes_turned ∷ []) (Page 1) (Text (codes "GB 0999 [-] Plans\n  Container 2: Box 2\n  Container 1: Box 1\n"))
