-- The replies and the effects of imports and moves, in cases where a small catalogue is enough to show a wrong rule.
-- Each expected reply and text was worked out by hand from the written rules.
use Rattle.std.specs.Prelude.{◌≡◌, ◌-◌, ℤ, List, [], ◌∷◌, None, Option, Some, Ok, codes, map}
use Rattle.isad_core.specs.Limits.{most_deep}
use Rattle.isad_core.specs.Texts.{Bytes}
use Rattle.tree_core.specs.Forest.{nodes}
use Rattle.desk_core.specs.declared.refusal.Refusal.TheVariants.{WithReader, TooDeep}
use Rattle.catalogue_core.specs.Units.{Unit}
use Rattle.office_core.specs.declared.command.Command.{Command}
use Rattle.office_core.specs.declared.command.Command.TheVariants.{Import, SetClosure, Move, TakeSeat, Order, Run}
use Rattle.office_core.specs.declared.command.Command.TheVariants.{Issue, Return}
use Rattle.office_core.specs.declared.query.Query.TheVariants.{Aid, Page}
use Rattle.office_core.specs.declared.query.Answer.TheVariants.{Text}
use Rattle.office_core.specs.declared.done.Done.TheVariants as done
use Rattle.office_core.specs.declared.done.Remark.TheVariants.{LacksEssential}
use Rattle.office_core.specs.Rules.{state_after}
use Rattle.office_core.specs.WorkedAnswers.{AnswerIs}
use Rattle.office_core.specs.WorkedExamples.{RepliesAre, new_office, import, publish, draft, close, ann, order}
use Rattle.office_core.specs.WorkedExamples.{issue_reply, refusal_reply, import_reply, february_1, march_1, year_2030}
use Rattle.office_core.specs.WorkedExamples.{docks, docks_and_mersey, lock_gates, chain}

-- ---- remarks

-- a fonds in a bundle in a series: a bundle has no rank
abbrev pub fonds_in_a_bundle : Bytes
fonds_in_a_bundle = codes "legacyId,parentId,title,levelOfDescription\n1,,Top,Series\n2,1,Mid,Bundle\n3,2,Low,Fonds\n"

-- a level without a rank is compared with no other level
abbrev pub LevelsWithoutRank : Type 0
LevelsWithoutRank = RepliesAre (import fonds_in_a_bundle ∷ []) (import_reply 0 3 0 0 (LacksEssential 2 ∷ []) ∷ [])

-- a fonds with all six elements, six that lack one each, and a unit below the first that lacks all
abbrev pub one_missing : Bytes
one_missing =
    codes "legacyId,parentId,identifier,title,eventActors,eventDates,extentAndMedium,levelOfDescription\n1,,A,Plans,Smith,1901,3 boxes,Fonds\n2,,,Plans,Smith,1901,3 boxes,Fonds\n3,,A,,Smith,1901,3 boxes,Fonds\n4,,A,Plans,,1901,3 boxes,Fonds\n5,,A,Plans,Smith,,3 boxes,Fonds\n6,,A,Plans,Smith,1901,,Fonds\n7,,A,Plans,Smith,1901,3 boxes,\n8,1,,,,,,\n"

-- each of the six is looked for, in tops only
abbrev pub OneMissing : Type 0
OneMissing =
    RepliesAre (import one_missing ∷ [])
    (import_reply 0 8 0 0 (LacksEssential 3 ∷ LacksEssential 4 ∷ LacksEssential 5 ∷ LacksEssential 6 ∷ LacksEssential 7 ∷ LacksEssential 8 ∷ []) ∷ [])

-- ---- what counts as a change

-- the fonds and its series, which has another level
abbrev pub docks_of_another_level : Bytes
docks_of_another_level =
    codes "legacyId,parentId,identifier,title,levelOfDescription,publicationStatus\n1,,HUL,Hull Dock Company,Fonds,Published\n2,1,1,Minutes,Sub-series,Published\n"

-- the fonds and its series, which has another reference code
abbrev pub docks_of_another_code : Bytes
docks_of_another_code =
    codes "legacyId,parentId,identifier,title,levelOfDescription,publicationStatus\n1,,HUL,Hull Dock Company,Fonds,Published\n2,1,7,Minutes,Series,Published\n"

-- another level alone is a change, and so is another reference code; another status is not
abbrev pub ChangedAlone : Type 0
ChangedAlone =
    RepliesAre
    (import docks ∷ import docks_of_another_level ∷ import docks_of_another_level ∷ import docks ∷ import docks_of_another_code ∷ import docks_of_another_code ∷ [])
    (import_reply 0 2 0 0 (LacksEssential 2 ∷ []) ∷ import_reply 1 0 1 0 (LacksEssential 2 ∷ []) ∷ import_reply 0 0 2 0 (LacksEssential 2 ∷ []) ∷ import_reply 1 0 1 0 (LacksEssential 2 ∷ []) ∷ import_reply 1 0 1 0 (LacksEssential 2 ∷ []) ∷ import_reply 0 0 2 0 (LacksEssential 2 ∷ []) ∷ [])

-- ---- new units below drafts and closed units

-- the fonds and its series, the fonds a draft
abbrev pub docks_in_draft : Bytes
docks_in_draft =
    codes "legacyId,parentId,identifier,title,levelOfDescription,publicationStatus\n1,,HUL,Hull Dock Company,Fonds,Draft\n2,1,1,Minutes,Series,Published\n"

-- a new unit has the status of its own row and no closure, whatever the unit above it has
pub record NewBelow : Type 0 where
  pub known_draft : AnswerIs (import docks ∷ draft 1 ∷ import docks_and_mersey ∷ publish 1 ∷ []) (Page 1) (Text (codes "GB 0999 HUL [Fonds] Hull Dock Company\n  Unit 2: GB 0999 HUL/1 [Series] Minutes\n  Unit 3: GB 0999 HUL/2 [Series] Plans\n"))
  pub new_draft : AnswerIs (import docks_in_draft ∷ publish 1 ∷ []) (Aid 1) (Text (codes "GB 0999 HUL [Fonds] Hull Dock Company\n  GB 0999 HUL/1 [Series] Minutes\n"))
  pub closed : AnswerIs (import docks ∷ close 1 year_2030 ∷ import docks_and_mersey ∷ SetClosure 1 None ∷ []) (Page 1) (Text (codes "GB 0999 HUL [Fonds] Hull Dock Company\n  Unit 2: GB 0999 HUL/1 [Series] Minutes\n  Unit 3: GB 0999 HUL/2 [Series] Plans\n"))

-- ---- closures

-- the end of the closure of each unit, in walk order
abbrev pub closures_after : List Command → List (Option ℤ)
closures_after asked = map (λ (unit : Unit). unit.until) (nodes (state_after new_office asked).catalogue.forest)

-- a closure until a day that is not later than today is stored, and replaces another
pub record ClosuresKept : Type 0 where
  pub past : closures_after (import docks ∷ close 2 february_1 ∷ []) ≡ None ∷ Some february_1 ∷ []
  pub today : closures_after (import docks ∷ close 2 march_1 ∷ []) ≡ None ∷ Some march_1 ∷ []
  pub shortened : closures_after (import docks ∷ close 2 year_2030 ∷ close 2 february_1 ∷ []) ≡ None ∷ Some february_1 ∷ []
  pub shown : AnswerIs (import docks ∷ close 2 year_2030 ∷ close 2 february_1 ∷ []) (Aid 2) (Text (codes "GB 0999 HUL/1 [Series] Minutes\n"))

-- ---- moves

-- a branch that would lie too deep, below drafts, while a reader has its container: the move is refused as too deep,
-- and one unit further up because its container would be withheld
abbrev pub TooDeepBeforeTheGate : Type 0
TooDeepBeforeTheGate =
    RepliesAre
    (import (chain (most_deep - 1)) ∷ Import (codes "b") lock_gates ∷ ann ∷ Order 1 1 ∷ Run ∷ TakeSeat 1 ∷ Issue 1 1 ∷ Move most_deep (Some (most_deep - 1)) ∷ Move most_deep (Some (most_deep - 2)) ∷ Return 1 ∷ Move most_deep (Some (most_deep - 1)) ∷ Move most_deep (Some (most_deep - 2)) ∷ [])
    (import_reply 0 (most_deep - 1) 0 0 (LacksEssential 2 ∷ []) ∷ import_reply 0 2 0 0 (LacksEssential 2 ∷ []) ∷ Ok (done.Register 1) ∷ order 1 ∷ Ok (done.Run 1 1) ∷ Ok (done.TakeSeat 1) ∷ issue_reply 1 ∷ refusal_reply TooDeep ∷ refusal_reply (WithReader 1) ∷ Ok (done.Return 1) ∷ refusal_reply TooDeep ∷ Ok (done.Move most_deep) ∷ [])
