-- Replies and answers as JSON (RFC 8259): keys in byte order, no white space.
use Rattle.std.specs.Prelude.{ℕ, ℤ, List, [], ◌∷◌, Option, Some, None, Ok, Err, codes, map}
use Rattle.serde_json.specs.Data.{Data, unsigned, null, number, string, array, object, Items, no_items, item, Members}
use Rattle.serde_json.specs.Data.{no_members, member}
use Rattle.serde_json.specs.Written.{compact_text}
use Rattle.isad_core.specs.Texts.{Bytes}
use Rattle.isad_core.specs.Days.{day_text}
use Rattle.desk_core.specs.Refusals.{refusal_number, refusal_name}
use Rattle.desk_core.specs.declared.refusal.Refusal.{Refusal}
use Rattle.desk_core.specs.declared.refusal.Refusal.TheVariants.{WithReader, BadFile}
use Rattle.office_core.specs.declared.done.Done.{Done}
use Rattle.office_core.specs.declared.done.Done.TheVariants as done
use Rattle.office_core.specs.declared.done.Remark.{Remark}
use Rattle.office_core.specs.declared.done.Remark.TheVariants.{LevelTooHigh, LacksEssential}
use Rattle.office_core.specs.Rules.{Reply}

-- ---- values

abbrev pub count : ℕ → Data
count n = number (unsigned n)

abbrev pub date : ℤ → Data
date day = string (day_text day)

abbrev pub list : List Data → Data
list values = array (items values)
  where
    items : List Data → Items
    items [] = no_items
    items (value ∷ rest) = item value (items rest)

abbrev pub or_null : Option Data → Data
or_null None = null
or_null (Some value) = value

-- an object of these members, in this order
abbrev pub fields : List (Bytes × Data) → Data
fields pairs = object (members pairs)
  where
    members : List (Bytes × Data) → Members
    members [] = no_members
    members ((key, value) ∷ rest) = member key value (members rest)

-- ---- commands

abbrev pub remark_json : Remark → Data
remark_json (LevelTooHigh row) = fields ((codes "kind", count 1) ∷ (codes "row", count row) ∷ [])
remark_json (LacksEssential row) = fields ((codes "kind", count 2) ∷ (codes "row", count row) ∷ [])

abbrev pub done_json : Done → Data
done_json (done.OpenDay day) = fields ((codes "day", date day) ∷ [])
done_json (done.Import changed new remarks same translations) =
    fields
    ((codes "changed", count changed)
    ∷ (codes "new", count new)
    ∷ (codes "remarks", list (map remark_json remarks))
    ∷ (codes "same", count same)
    ∷ (codes "translations", count translations)
    ∷ [])
done_json (done.SetStatus units) = fields ((codes "units", count units) ∷ [])
done_json (done.SetClosure unit) = fields ((codes "unit", count unit) ∷ [])
done_json (done.Move unit) = fields ((codes "unit", count unit) ∷ [])
done_json (done.Remove units) = fields ((codes "units", count units) ∷ [])
done_json (done.Register ticket) = fields ((codes "ticket", count ticket) ∷ [])
done_json (done.Renew ticket) = fields ((codes "ticket", count ticket) ∷ [])
done_json (done.TakeSeat seat) = fields ((codes "seat", count seat) ∷ [])
done_json (done.LeaveSeat seat) = fields ((codes "seat", count seat) ∷ [])
done_json (done.Order order) = fields ((codes "order", count order) ∷ [])
done_json (done.Cancel order) = fields ((codes "order", count order) ∷ [])
done_json (done.Run run taken) = fields ((codes "run", count run) ∷ (codes "taken", count taken) ∷ [])
done_json (done.Reshelve containers) = fields ((codes "containers", list (map count containers)) ∷ [])
done_json (done.Issue order) = fields ((codes "order", count order) ∷ [])
done_json (done.Return order) = fields ((codes "order", count order) ∷ [])
done_json (done.Permit ticket unit until) =
    fields ((codes "ticket", count ticket) ∷ (codes "unit", count unit) ∷ (codes "until", date until) ∷ [])
done_json (done.Revoke unit) = fields ((codes "unit", count unit) ∷ [])

-- a refusal with its number and name; `WithReader` also has its container, and `BadFile` its row and cause
abbrev pub refusal_json : Refusal → Data
refusal_json (WithReader container) =
    fields ((codes "code", count 21) ∷ (codes "container", count container) ∷ (codes "refused", string (codes "WithReader")) ∷ [])
refusal_json (BadFile row cause) =
    fields
    ((codes "cause", count cause)
    ∷ (codes "code", count 22)
    ∷ (codes "refused", string (codes "BadFile"))
    ∷ (codes "row", count row)
    ∷ [])
refusal_json why = fields ((codes "code", count (refusal_number why)) ∷ (codes "refused", string (refusal_name why)) ∷ [])

-- a reply as data, and its bytes
abbrev pub reply_json : Reply → Data
reply_json (Ok told) = done_json told
reply_json (Err why) = refusal_json why

abbrev pub reply_text : Reply → Bytes
reply_text reply = compact_text (reply_json reply)
