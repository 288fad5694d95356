-- The answers where more than one thing could be listed, and about what is closed, expired or of an earlier day. Each
-- expected text was written by hand.
use Rattle.std.specs.Prelude.{[], ◌∷◌, codes}
use Rattle.isad_core.specs.Texts.{Bytes}
use Rattle.desk_core.specs.declared.refusal.Refusal.TheVariants.{UnknownUnit}
use Rattle.office_core.specs.declared.command.Command.TheVariants.{OpenDay, Remove, Renew, TakeSeat, Order, Run, Issue}
use Rattle.office_core.specs.declared.command.Command.TheVariants.{Permit, Revoke}
use Rattle.office_core.specs.declared.query.Query.TheVariants.{Fonds, Aid, Page, ReaderOrders, Queue, RunSlip}
use Rattle.office_core.specs.declared.query.Query.TheVariants.{IssuedNow, ReaderPermits}
use Rattle.office_core.specs.declared.query.Answer.TheVariants.{Text, Json, Unknown}
use Rattle.office_core.specs.WorkedAnswers.{AnswerIs}
use Rattle.office_core.specs.WorkedExamples.{import, close, ann, bob, february_1, march_1, march_2, march_31, year_2030}
use Rattle.office_core.specs.WorkedExamples.{docks, boxes, lock_gates, harbour}

-- a closed unit is shown by its head line only: among the tops, on its parent's page, and by an aid of its own
pub record ClosedShown : Type 0 where
  pub closed_top : AnswerIs (import docks ∷ close 1 year_2030 ∷ []) Fonds (Text (codes "1 GB 0999 HUL [Fonds] closed until 2030-01-01\n"))
  pub closed_child : AnswerIs (import docks ∷ close 2 year_2030 ∷ []) (Page 1) (Text (codes "GB 0999 HUL [Fonds] Hull Dock Company\n  Unit 2: GB 0999 HUL/1 [Series] closed until 2030-01-01\n"))
  pub aid_of_a_closed_top : AnswerIs (import docks ∷ close 1 year_2030 ∷ []) (Aid 1) (Text (codes "GB 0999 HUL [Fonds] closed until 2030-01-01\n"))
  pub aid_of_a_closed_unit : AnswerIs (import docks ∷ close 2 year_2030 ∷ []) (Aid 2) (Text (codes "GB 0999 HUL/1 [Series] closed until 2030-01-01\n"))
  pub none_below : AnswerIs (import docks ∷ close 1 year_2030 ∷ []) (Aid 2) (Unknown UnknownUnit)

-- the slip of a run has the run's own number and day, whenever it is requested
pub record OldSlips : Type 0 where
  pub first : AnswerIs (import boxes ∷ ann ∷ Order 1 1 ∷ Order 1 2 ∷ Order 1 3 ∷ Run ∷ Run ∷ OpenDay march_2 ∷ []) (RunSlip 1)
      (Text (codes "Run 1  2024-03-01\nStrongroom 1         Box 2                 2        2       1\nStrongroom 2         Box 1                 1        1       1\n"))
  pub second : AnswerIs (import boxes ∷ ann ∷ Order 1 1 ∷ Order 1 2 ∷ Order 1 3 ∷ Run ∷ OpenDay march_2 ∷ Run ∷ []) (RunSlip 2)
      (Text (codes "Run 2  2024-03-02\nStrongroom 1         Box 3                 3        3       1\n"))

-- lists: a queue and a reader's orders by order, what is out by container, and permits by unit, including expired ones
pub record Lists : Type 0 where
  pub queue_of_two : AnswerIs (import boxes ∷ ann ∷ bob ∷ Order 2 1 ∷ Order 1 1 ∷ []) (Queue 1)
      (Json (codes "{\"container\":1,\"name\":\"Box 1\",\"out\":null,\"place\":\"shelf\",\"waiting\":[{\"order\":1,\"ticket\":2},{\"order\":2,\"ticket\":1}]}"))
  pub orders_of_a_reader : AnswerIs (import boxes ∷ ann ∷ Order 1 2 ∷ Order 1 1 ∷ []) (ReaderOrders 1)
      (Json (codes "{\"name\":\"Ann\",\"orders\":[{\"container\":2,\"order\":1,\"state\":\"waiting\"},{\"container\":1,\"order\":2,\"state\":\"waiting\"}],\"seat\":null,\"ticket\":1,\"until\":\"2024-12-31\"}"))
  pub two_issued : AnswerIs (import boxes ∷ ann ∷ bob ∷ Order 1 2 ∷ Order 2 1 ∷ Run ∷ TakeSeat 1 ∷ TakeSeat 2 ∷ Issue 2 1 ∷ Issue 1 2 ∷ []) IssuedNow
      (Json (codes "[{\"container\":1,\"order\":2,\"ticket\":2},{\"container\":2,\"order\":1,\"ticket\":1}]"))
  pub expired_permits : AnswerIs (import lock_gates ∷ ann ∷ Permit 1 2 march_1 ∷ Permit 1 1 march_31 ∷ OpenDay march_2 ∷ []) (ReaderPermits 1)
      (Json (codes "[{\"unit\":1,\"until\":\"2024-03-31\"},{\"unit\":2,\"until\":\"2024-03-01\"}]"))

-- a permit keeps its later day, even if it is past
abbrev pub PermitKept : Type 0
PermitKept =
    AnswerIs (import lock_gates ∷ ann ∷ Permit 1 2 march_1 ∷ OpenDay march_2 ∷ Permit 1 2 february_1 ∷ []) (ReaderPermits 1)
    (Json (codes "[{\"unit\":2,\"until\":\"2024-03-01\"}]"))

-- a fonds and its series with a creator and a container each, and a file below the series that has neither
abbrev pub smith_and_jones : Bytes
smith_and_jones =
    codes "legacyId,parentId,identifier,title,levelOfDescription,publicationStatus,eventActors,physicalObjectName\n1,,HUL,Docks,Fonds,Published,Smith,Box 1\n2,1,1,Minutes,Series,Published,Jones,Box 2\n3,2,7,1901,File,Published,,\n"

-- if two units above have a value or a container, the nearer one is shown
pub record NearestAbove : Type 0 where
  pub file : AnswerIs (import smith_and_jones ∷ []) (Page 3) (Text (codes "GB 0999 HUL/1/7 [File] 1901\n  3.2.1 Name of creator(s): Jones (from GB 0999 HUL/1)\n  Container 2: Box 2 (from GB 0999 HUL/1)\n"))
  pub series : AnswerIs (import smith_and_jones ∷ []) (Page 2) (Text (codes "GB 0999 HUL/1 [Series] Minutes\n  3.2.1 Name of creator(s): Jones\n  Container 2: Box 2\n  Unit 3: GB 0999 HUL/1/7 [File] 1901\n"))

-- a page has its elements in the order of the standard
abbrev pub LinesInOrder : Type 0
LinesInOrder =
    AnswerIs (import harbour ∷ []) (Page 1)
    (Text (codes "GB 0999 HUL [Series] Docks\n  3.3.1 Scope and content: Ships\n  3.4.1 Conditions governing access: Open\n  Unit 2: GB 0999 HUL/1 [Series] Minutes\n"))

-- ---- what is easily attributed to another

-- two containers with the same name and location
abbrev pub two_kinds : Bytes
two_kinds =
    codes "legacyId,title,publicationStatus,physicalObjectName,physicalObjectLocation,physicalObjectType\n1,Plans,Published,Box 1,East,Map case\n2,Minutes,Published,Box 1,East,Folder\n"

abbrev pub two_series : Bytes
two_series =
    codes "legacyId,parentId,identifier,title,levelOfDescription,publicationStatus\n1,,HUL,Hull Dock Company,Fonds,Published\n2,1,1,Minutes,Series,Published\n3,1,2,Maps,Series,Published\n"

-- each reader has their own name, day, orders and permits; a slip is sorted by kind if name and location are the same;
-- the number of a removed unit is not given again; and a page lists the units below in their order
pub record ToldApart : Type 0 where
  pub orders : AnswerIs (import boxes ∷ ann ∷ bob ∷ Order 1 2 ∷ Order 2 1 ∷ []) (ReaderOrders 2)
      (Json (codes "{\"name\":\"Bob\",\"orders\":[{\"container\":1,\"order\":2,\"state\":\"waiting\"}],\"seat\":null,\"ticket\":2,\"until\":\"2024-12-31\"}"))
  pub renewed : AnswerIs (ann ∷ Renew 1 march_31 ∷ []) (ReaderOrders 1) (Json (codes "{\"name\":\"Ann\",\"orders\":[],\"seat\":null,\"ticket\":1,\"until\":\"2024-03-31\"}"))
  pub permits : AnswerIs (import lock_gates ∷ ann ∷ bob ∷ Permit 2 1 march_31 ∷ []) (ReaderPermits 1) (Json (codes "[]"))
  pub revoked : AnswerIs (import lock_gates ∷ ann ∷ bob ∷ Permit 1 1 march_31 ∷ Permit 2 1 march_31 ∷ Revoke 2 1 ∷ []) (ReaderPermits 1) (Json (codes "[{\"unit\":1,\"until\":\"2024-03-31\"}]"))
  pub kinds : AnswerIs (import two_kinds ∷ ann ∷ Order 1 1 ∷ Order 1 2 ∷ Run ∷ []) (RunSlip 1)
      (Text (codes "Run 1  2024-03-01\nEast                 Box 1                 2        2       1\nEast                 Box 1                 1        1       1\n"))
  pub numbers : AnswerIs (import docks ∷ Remove 2 ∷ import docks ∷ []) (Aid 3) (Text (codes "GB 0999 HUL/1 [Series] Minutes\n"))
  pub children : AnswerIs (import two_series ∷ []) (Page 1) (Text (codes "GB 0999 HUL [Fonds] Hull Dock Company\n  Unit 2: GB 0999 HUL/1 [Series] Minutes\n  Unit 3: GB 0999 HUL/2 [Series] Maps\n"))
