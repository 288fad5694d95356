-- A small office, worked out by hand: two seats, three orders a day, one container in hand, runs of two.
use Rattle.std.specs.Prelude.{◌≡◌, ◌+◌, ◌++◌, ℕ, zero, suc, ℤ, pos, true, false, List, [], ◌∷◌, Some, None, Ok, Err}
use Rattle.std.specs.Prelude.{codes, decimal, replicate}
use Rattle.isad_core.specs.Limits.{most_permits, most_unit_numbers}
use Rattle.isad_core.specs.Texts.{Bytes}
use Rattle.tree_core.specs.Forest.{Forest, Empty, Node}
use Rattle.desk_core.specs.declared.refusal.Refusal.{Refusal}
use Rattle.catalogue_core.specs.Units.{Unit}
use Rattle.office_core.specs.declared.command.Command.{Command}
use Rattle.office_core.specs.declared.command.Command.TheVariants as command
use Rattle.office_core.specs.declared.done.Done.TheVariants as done
use Rattle.office_core.specs.declared.done.Remark.{Remark}
use Rattle.office_core.specs.Words.{update_at}
use Rattle.office_core.specs.State.{State, Permit, start}
use Rattle.office_core.specs.Rules.{Reply, replies, state_after}

-- ---- days

abbrev pub february_1 : ℤ
february_1 = pos 19754

abbrev pub march_1 : ℤ
march_1 = pos 19783

abbrev pub march_2 : ℤ
march_2 = pos 19784

abbrev pub march_31 : ℤ
march_31 = pos 19813

abbrev pub april_1 : ℤ
april_1 = pos 19814

abbrev pub year_end : ℤ
year_end = pos 20088

abbrev pub year_2030 : ℤ
year_2030 = pos 21915

-- ---- the office, on 1 March 2024

abbrev pub new_office : State
new_office = start (record { country = codes "GB"; repo = codes "0999"; seats = 2; daily = 3; hands = 1; run_size = 2 }) march_1

-- the replies to these commands, from the new office on
abbrev pub RepliesAre : List Command → List Reply → Type 0
RepliesAre asked told = replies new_office asked ≡ told

-- ---- commands

abbrev pub import : Bytes → Command
import file = command.Import (codes "a") file

abbrev pub ann : Command
ann = command.Register (codes "Ann") year_end

abbrev pub bob : Command
bob = command.Register (codes "Bob") year_end

abbrev pub publish : ℕ → Command
publish unit = command.SetStatus unit false false

abbrev pub draft : ℕ → Command
draft unit = command.SetStatus unit true false

abbrev pub close : ℕ → ℤ → Command
close unit until = command.SetClosure unit (Some until)

-- ---- replies

abbrev pub order : ℕ → Reply
order o = Ok (done.Order o)

abbrev pub issue_reply : ℕ → Reply
issue_reply o = Ok (done.Issue o)

abbrev pub refusal_reply : Refusal → Reply
refusal_reply why = Err why

-- the reply to an import, with the numbers of rows that changed a unit, made one, left one unchanged, or are
-- translations
abbrev pub import_reply : (changed new same translations : ℕ) → List Remark → Reply
import_reply changed new same translations remarks = Ok (done.Import changed new remarks same translations)

-- ---- files

-- a fonds and its series
abbrev pub docks : Bytes
docks =
    codes "legacyId,parentId,identifier,title,levelOfDescription,publicationStatus\n1,,HUL,Hull Dock Company,Fonds,Published\n2,1,1,Minutes,Series,Published\n"

-- four units, each in a container of its own
abbrev pub boxes : Bytes
boxes =
    codes "legacyId,identifier,title,publicationStatus,physicalObjectName,physicalObjectLocation\n1,A,Plans,Published,Box 1,Strongroom 2\n2,B,Minutes,Published,Box 2,Strongroom 1\n3,C,Maps,Published,Box 3,Strongroom 1\n4,D,Deeds,Published,Box 4,Strongroom 1\n"

-- the same, with the second in another container
abbrev pub boxes_with_9 : Bytes
boxes_with_9 =
    codes "legacyId,identifier,title,publicationStatus,physicalObjectName,physicalObjectLocation\n1,A,Plans,Published,Box 1,Strongroom 2\n2,B,Minutes,Published,Box 9,Strongroom 1\n3,C,Maps,Published,Box 3,Strongroom 1\n4,D,Deeds,Published,Box 4,Strongroom 1\n"

-- the same, with the second a draft
abbrev pub boxes_with_draft : Bytes
boxes_with_draft =
    codes "legacyId,identifier,title,publicationStatus,physicalObjectName,physicalObjectLocation\n1,A,Plans,Published,Box 1,Strongroom 2\n2,B,Minutes,Draft,Box 2,Strongroom 1\n3,C,Maps,Published,Box 3,Strongroom 1\n4,D,Deeds,Published,Box 4,Strongroom 1\n"

-- a unit in a container, and one below it that is in that container too
abbrev pub lock_gates : Bytes
lock_gates =
    codes "legacyId,parentId,identifier,title,publicationStatus,physicalObjectName\n1,,P,Plans,Published,Box 1\n2,1,1,Lock gates,Published,\n"

-- the same, with the lower one in a container of its own
abbrev pub lock_gates_apart : Bytes
lock_gates_apart =
    codes "legacyId,parentId,identifier,title,publicationStatus,physicalObjectName\n1,,P,Plans,Published,Box 1\n2,1,1,Lock gates,Published,Box 2\n"

-- a parent that comes later
abbrev pub parent_later : Bytes
parent_later = codes "legacyId,parentId,title\n1,,Top\n3,2,Low\n2,1,Mid\n"

-- a unit in English and in French
abbrev pub translated : Bytes
translated = codes "legacyId,culture,title\n1,en,Minutes\n1,fr,Registres\n"

abbrev pub told_twice : Bytes
told_twice = codes "legacyId,title\n1,Minutes\n1,Registres\n"

-- a fonds with a creator, a series, a sub-series and a file
abbrev pub smith : Bytes
smith =
    codes "legacyId,parentId,identifier,title,levelOfDescription,publicationStatus,eventActors\n1,,HUL,Docks,Fonds,Published,Smith\n2,1,1,Minutes,Series,Published,\n3,2,A,Board,Sub-series,Published,\n4,3,7,1901,File,Published,\n"

-- a series above a fonds
abbrev pub upside_down : Bytes
upside_down = codes "legacyId,parentId,title,levelOfDescription\n1,,Top,Series\n2,1,Low,Fonds\n"

-- units one below another, n of them: `1,` then `2,1` and so on
abbrev pub chain_lines : ℕ → Bytes
chain_lines zero = []
chain_lines (suc n) = chain_lines n ++ (decimal (suc n) ++ 44 ∷ (number_or_none n ++ 10 ∷ []))
  where
    number_or_none : ℕ → Bytes
    number_or_none zero = []
    number_or_none (suc m) = decimal (suc m)

abbrev pub chain : ℕ → Bytes
chain n = codes "legacyId,parentId\n" ++ chain_lines n

-- a series in a series, the higher with a scope and with conditions of access
abbrev pub harbour : Bytes
harbour =
    codes "legacyId,parentId,identifier,title,levelOfDescription,publicationStatus,scopeAndContent,accessConditions\n1,,HUL,Docks,Series,Published,Ships,Open\n2,1,1,Minutes,Series,Published,,\n"

-- the fonds and its series, which has another title
abbrev pub docks_renamed : Bytes
docks_renamed =
    codes "legacyId,parentId,identifier,title,levelOfDescription,publicationStatus\n1,,HUL,Hull Dock Company,Fonds,Published\n2,1,1,Minute books,Series,Published\n"

-- another series and another fonds before the fonds and its series
abbrev pub docks_and_mersey : Bytes
docks_and_mersey =
    codes "legacyId,parentId,identifier,title,levelOfDescription,publicationStatus\n3,1,2,Plans,Series,Published\n4,,MER,Mersey Docks,Fonds,Published\n1,,HUL,Hull Dock Company,Fonds,Published\n2,1,1,Minutes,Series,Published\n"

-- the series with an unknown parent
abbrev pub docks_strayed : Bytes
docks_strayed =
    codes "legacyId,parentId,identifier,title,levelOfDescription,publicationStatus\n2,9,1,Minutes,Series,Published\n"

-- the same, and another series with that parent
abbrev pub docks_strayed_with_another : Bytes
docks_strayed_with_another =
    codes "legacyId,parentId,identifier,title,levelOfDescription,publicationStatus\n2,9,1,Minutes,Series,Published\n3,9,2,Plans,Series,Published\n"

-- a unit in two containers
abbrev pub two_boxes : Bytes
two_boxes = codes "legacyId,title,publicationStatus,physicalObjectName\n1,Plans,Published,Box 1|Box 2\n"

-- the same, the containers the other way round
abbrev pub two_boxes_turned : Bytes
two_boxes_turned = codes "legacyId,title,publicationStatus,physicalObjectName\n1,Plans,Published,Box 2|Box 1\n"

-- a file in an item in a fonds
abbrev pub file_in_an_item : Bytes
file_in_an_item = codes "legacyId,parentId,title,levelOfDescription\n1,,Top,Fonds\n2,1,Mid,Item\n3,2,Low,File\n"

-- a subfonds in a fonds in a series
abbrev pub subfonds_in_an_odd_place : Bytes
subfonds_in_an_odd_place = codes "legacyId,parentId,title,levelOfDescription\n1,,Top,Series\n2,1,Mid,Fonds\n3,2,Low,Subfonds\n"

-- four units in their containers, and a fifth
abbrev pub boxes_and_5 : Bytes
boxes_and_5 = boxes ++ codes "5,E,Charts,Published,Box 5,Strongroom 1\n"

-- the same, with the second in another container
abbrev pub boxes_with_9_and_5 : Bytes
boxes_with_9_and_5 = boxes_with_9 ++ codes "5,E,Charts,Published,Box 5,Strongroom 1\n"

-- and a sixth
abbrev pub boxes_with_9_and_two : Bytes
boxes_with_9_and_two = boxes_with_9_and_5 ++ codes "6,F,Log books,Published,Box 6,Strongroom 1\n"

-- ---- an office that has one unit number left, where Ann has container 2

-- the next unit number is n
abbrev pub with_next : ℕ → State → State
with_next n s = record s { catalogue = record s.catalogue { next = n } }

abbrev pub one_number_left : State
one_number_left =
    with_next most_unit_numbers
    (state_after new_office (import boxes ∷ ann ∷ command.Order 1 2 ∷ command.Run ∷ command.TakeSeat 1 ∷ command.Issue 2 1 ∷ []))

-- ---- an office with one unit more than a ticket may have permits for, where Ann has permits for all but the last

-- a published unit with a title
abbrev pub titled : ℕ → Unit
titled n =
    record {
      id = n;
      source = codes "a";
      legacy = decimal n;
      values = record { level = codes "Fonds"; texts = None ∷ Some (codes "Minutes") ∷ replicate 23 None; boxes = [] };
      draft = false;
      until = None;
    }

-- n units side by side, numbered from `first`
abbrev pub titled_units : (first n : ℕ) → Forest Unit
titled_units first zero = Empty
titled_units first (suc n) = Node (titled first) Empty (titled_units (suc first) n)

-- permits for n units, numbered from `first`
abbrev pub permits_from : (first n : ℕ) → List Permit
permits_from first zero = []
permits_from first (suc n) = record { unit = first; until = march_31 } ∷ permits_from (suc first) n

abbrev pub with_most_permits : State
with_most_permits =
    record new_office {
      catalogue = record { forest = titled_units 1 (suc most_permits); containers = []; next = most_permits + 2 };
      readers = record { name = codes "Ann"; until = year_end } ∷ [];
      permits = update_at new_office.permits 1 (permits_from 1 most_permits);
    }
