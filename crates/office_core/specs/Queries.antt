-- The answers of the office. A question changes nothing.
use Rattle.std.specs.Prelude.{ℕ, Bool, true, false, ◌&&◌, ◌||◌, cond, List, [], ◌∷◌, length, filter, filter_map, map}
use Rattle.std.specs.Prelude.{Option, Some, None, option_map, nat_eq, codes}
use Rattle.serde_json.specs.Data.{Data, string}
use Rattle.serde_json.specs.Written.{compact_text}
use Rattle.isad_core.specs.Texts.{Bytes}
use Rattle.isad_core.specs.PrintedDescriptions.{page}
use Rattle.isad_core.specs.declared.values.BoxKey.{BoxKey}
use Rattle.isad_core.specs.declared.display.Page.{Page}
use Rattle.tree_core.specs.Forest.{Forest, has}
use Rattle.desk_core.specs.Slips.{slip}
use Rattle.desk_core.specs.declared.run.Candidate.{Candidate}
use Rattle.desk_core.specs.declared.reader.Place.{Place}
use Rattle.desk_core.specs.declared.reader.Place.TheVariants.{Shelf, Desk, Out}
use Rattle.desk_core.specs.declared.refusal.Refusal.{Refusal}
use Rattle.desk_core.specs.declared.refusal.Refusal.TheVariants.{UnknownUnit, UnknownTicket, UnknownContainer}
use Rattle.desk_core.specs.declared.refusal.Refusal.TheVariants.{UnknownRun}
use Rattle.catalogue_core.specs.PublicForest.{PublicUnit, public_of}
use Rattle.office_core.specs.declared.query.Query.{Query}
use Rattle.office_core.specs.declared.query.Query.TheVariants as query
use Rattle.office_core.specs.declared.query.Answer.{Answer}
use Rattle.office_core.specs.declared.query.Answer.TheVariants.{Text, Json, Unknown}
use Rattle.office_core.specs.Words.{nth, numbers_to, some_and}
use Rattle.desk_core.specs.Decisions.{order_out}
use Rattle.office_core.specs.State.{Reader, Line, Run, Permit, State, is_by, waits, container_of, seat_of, containers}
use Rattle.office_core.specs.Json.{count, date, list, or_null, fields}
use Rattle.catalogue_core.specs.Pages.{Press, has_public_number, fonds_text, aid_of, page_of}

-- the public may ask for the list of fonds, a finding aid and a page; all other questions are the desk's
abbrev pub is_public : Query → Bool
is_public query.Fonds = true
is_public (query.Aid u) = true
is_public (query.Page u) = true
is_public _ = false

-- ---- public questions, answered from what the public may know of the forest

-- how units are printed in this office
abbrev pub press : State → Press
press s =
    record {
      at = record { country = s.settings.country; repo = s.settings.repo };
      containers = s.catalogue.containers;
    }

abbrev pub public_forest : State → Forest PublicUnit
public_forest s = public_of s.day s.catalogue.forest

abbrev pub page_answer : Option Page → Answer
page_answer None = Unknown UnknownUnit
page_answer (Some shown) = Text (page shown)

-- a unit that is not part of what the public may know is unknown, whether it exists or not
abbrev pub public_answer : Press → Forest PublicUnit → Query → Answer
public_answer press f query.Fonds = Text (fonds_text press f)
public_answer press f (query.Aid u) = cond (has (has_public_number u) f) (Text (aid_of press u f)) (Unknown UnknownUnit)
public_answer press f (query.Page u) = page_answer (page_of press u f)
public_answer press f _ = Unknown UnknownUnit

-- ---- what the desk asks

abbrev pub order_json : State → ℕ → Option Data
order_json s o =
    option_map
    (λ order. fields
    ((codes "container", count order.container)
    ∷ (codes "order", count o)
    ∷ (codes "state", string (cond (waits s o) (codes "waiting") (codes "out")))
    ∷ []))
    (nth s.orders o)

-- an order is out if its container is out with it
abbrev pub is_out_now : State → ℕ → Bool
is_out_now s o = some_and (λ c. some_and (nat_eq o) (order_out (s.place c))) (container_of s o)

-- the ticket's orders that wait or are out, by number
abbrev pub live_orders : State → ℕ → List ℕ
live_orders s t = filter (λ o. is_by s t o && (waits s o || is_out_now s o)) (numbers_to (length s.orders))

abbrev pub reader_json : State → ℕ → Reader → Data
reader_json s t reader =
    fields
    ((codes "name", string reader.name)
    ∷ (codes "orders", list (filter_map (order_json s) (live_orders s t)))
    ∷ (codes "seat", or_null (option_map count (seat_of s t)))
    ∷ (codes "ticket", count t)
    ∷ (codes "until", date reader.until)
    ∷ [])

abbrev pub place_name : Place → Bytes
place_name Shelf = codes "shelf"
place_name Desk = codes "desk"
place_name (Out o) = codes "out"

abbrev pub waiting_json : State → ℕ → Option Data
waiting_json s o =
    option_map (λ order. fields ((codes "order", count o) ∷ (codes "ticket", count order.ticket) ∷ [])) (nth s.orders o)

abbrev pub queue_json : State → ℕ → BoxKey → Data
queue_json s c box =
    fields
    ((codes "container", count c)
    ∷ (codes "name", string box.name)
    ∷ (codes "out", or_null (option_map count (order_out (s.place c))))
    ∷ (codes "place", string (place_name (s.place c)))
    ∷ (codes "waiting", list (filter_map (waiting_json s) (s.queue c)))
    ∷ [])

abbrev pub issued_json : State → ℕ → Option Data
issued_json s c = with_order (order_out (s.place c))
  where
    with_order : Option ℕ → Option Data
    with_order None = None
    with_order (Some o) =
        option_map
        (λ order. fields ((codes "container", count c) ∷ (codes "order", count o) ∷ (codes "ticket", count order.ticket) ∷ []))
        (nth s.orders o)

-- a line of a run, with what is written on its container
abbrev pub candidate_of : State → Line → Option Candidate
candidate_of s line =
    option_map
    (λ box. record {
      container = line.container;
      order = line.order;
      ticket = line.ticket;
      location = box.location;
      name = box.name;
      kind = box.kind;
    })
    (nth s.catalogue.containers line.container)

abbrev pub permit_json : Permit → Data
permit_json permit = fields ((codes "unit", count permit.unit) ∷ (codes "until", date permit.until) ∷ [])

-- what is known is the answer; anything else is unknown
abbrev pub known_json : Refusal → Option Data → Answer
known_json why None = Unknown why
known_json why (Some told) = Json (compact_text told)

abbrev pub run_answer : State → ℕ → Option Run → Answer
run_answer s n None = Unknown UnknownRun
run_answer s n (Some run) = Text (slip n run.day (filter_map (candidate_of s) run.lines))

abbrev pub desk_answer : State → Query → Answer
desk_answer s (query.ReaderOrders t) = known_json UnknownTicket (option_map (reader_json s t) (nth s.readers t))
desk_answer s (query.Queue c) = known_json UnknownContainer (option_map (queue_json s c) (nth s.catalogue.containers c))
desk_answer s (query.RunSlip n) = run_answer s n (nth s.runs n)
desk_answer s query.IssuedNow = Json (compact_text (list (filter_map (issued_json s) (containers s))))
desk_answer s (query.ReaderPermits t) =
    known_json UnknownTicket (option_map (λ reader. list (map permit_json (s.permits t))) (nth s.readers t))
desk_answer s query.Fonds = Unknown UnknownUnit
desk_answer s (query.Aid u) = Unknown UnknownUnit
desk_answer s (query.Page u) = Unknown UnknownUnit

-- ---- all of them

abbrev pub answer : State → Query → Answer
answer s asked = cond (is_public asked) (public_answer (press s) (public_forest s) asked) (desk_answer s asked)
