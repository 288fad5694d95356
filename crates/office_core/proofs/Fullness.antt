-- The limits are those of the rules, and what is full is refused.
use Rattle.std.proofs.Common.{◌≡◌, ℕ, ◌+◌, ◌≤◌, Bool, true, false, not, ◌&&◌, [], ◌∷◌, length, Some, None, refl, ◌∙◌}
use Rattle.std.specs.Prelude.{nat_lt, nat_le}
use Rattle.isad_core.specs.Days.{day_text}
use Rattle.desk_core.specs.Names.{is_name}
use Rattle.office_core.specs.Fullness.{HasItsLimits, HasItsSettings, IsFullExactly, RefusesTickets, RefusesRuns}
use Rattle.office_core.specs.Fullness.{RefusesOrders, RefusesPermits, MayOrder, RefusesWhereFull}
use Rattle.office_core.proofs.Common.{AlreadyOrdered, BadName, DailyLimit, Full, NotAvailable, NothingToMove, State}
use Rattle.office_core.proofs.Common.{TicketExpired, UnknownTicket, UnknownUnit, and_parts, first_that_holds}
use Rattle.office_core.proofs.Common.{has_ordered, has_permit, has_unit, is_between, is_empty, is_expired, is_ticket}
use Rattle.office_core.proofs.Common.{le-leb, le-ltb, leb-true, lt-leb, lt-ltb, most_containers, most_daily, most_hands}
use Rattle.office_core.proofs.Common.{most_orders, most_permits, most_run_size, most_runs, most_seats, most_tickets}
use Rattle.office_core.proofs.Common.{most_unit_numbers, most_units, opens, or_right, orders_of_run, orders_placed}
use Rattle.office_core.proofs.Common.{size, unless, when}

pub its_limits : HasItsLimits
unfolding day_text
its_limits = record { units = refl; unit_numbers = refl; containers = refl; seats = refl; daily = refl; hands = refl; run_size = refl; tickets = refl; orders = refl; runs = refl; permits = refl; deep = refl; bytes = refl; name_bytes = refl; source_bytes = refl; connections = refl; rows = refl; last_row = refl; late_row = refl; first_day = refl; last_day = refl }

-- ---- settings

between : (low high n : ℕ) → is_between low high n ≡ true → (low ≤ n) × (n ≤ high)
between low high n h = let k = and_parts (nat_le low n) (nat_le n high) h in (leb-true low n k.0, leb-true n high k.1)

is_within : (low high n : ℕ) → low ≤ n → n ≤ high → is_between low high n ≡ true
is_within low high n l u = rw (le-leb low n l, le-leb n high u) refl

pub its_settings : HasItsSettings
its_settings =
    record {
      only = λ it good. record {
        seats = between 1 most_seats it.seats good.seats;
        daily = between 1 most_daily it.daily good.daily;
        hands = between 1 most_hands it.hands good.hands;
        run_size = between 1 most_run_size it.run_size good.run_size;
      };
      all = λ it h. record {
        country = refl;
        repo = refl;
        seats = is_within 1 most_seats it.seats h.seats.0 h.seats.1;
        daily = is_within 1 most_daily it.daily h.daily.0 h.daily.1;
        hands = is_within 1 most_hands it.hands h.hands.0 h.hands.1;
        run_size = is_within 1 most_run_size it.run_size h.run_size.0 h.run_size.1;
      };
    }

-- ---- imports

pub is_full_exactly : IsFullExactly
is_full_exactly =
    record {
      room = λ c u n k. rw (le-ltb most_units (size c.forest) u, le-ltb (most_unit_numbers + 1) c.next n, le-ltb most_containers (length c.containers) k) refl;
      units = λ c u. rw (lt-ltb most_units (size c.forest) u) refl;
      numbers = λ c n. or_right (nat_lt most_units (size c.forest)) _ (rw (lt-ltb (most_unit_numbers + 1) c.next n) refl);
      containers = λ c k. or_right (nat_lt most_units (size c.forest)) _ (or_right (nat_lt (most_unit_numbers + 1) c.next) _ (lt-ltb most_containers (length c.containers) k));
    }

-- ---- the desk

last_told : (b : Bool) → first_that_holds (when b Full ∷ []) ≡ when b Full
last_told true = refl
last_told false = refl

named : (n f : Bool) → n ≡ true → first_that_holds (unless n BadName ∷ when f Full ∷ []) ≡ when f Full
named n f h = rw h (last_told f)

unnamed : (n f : Bool) → n ≡ false → first_that_holds (unless n BadName ∷ when f Full ∷ []) ≡ Some BadName
unnamed n f h = rw h refl

tickets : (s : State) → RefusesTickets s
tickets s =
    record {
      full = λ name until h. named (is_name name) (nat_le most_tickets (length s.readers)) h;
      bad_name = λ name until h. unnamed (is_name name) (nat_le most_tickets (length s.readers)) h;
    }

fetching : (n f : Bool) → n ≡ false → first_that_holds (when n NothingToMove ∷ when f Full ∷ []) ≡ when f Full
fetching n f h = rw h (last_told f)

idle : (n f : Bool) → n ≡ true → first_that_holds (when n NothingToMove ∷ when f Full ∷ []) ≡ Some NothingToMove
idle n f h = rw h refl

runs : (s : State) → RefusesRuns s
runs s =
    record {
      full = λ h. fetching (is_empty (orders_of_run s)) (nat_le most_runs (length s.runs)) h;
      nothing = λ h. idle (is_empty (orders_of_run s)) (nat_le most_runs (length s.runs)) h;
    }

ordering : (k e a o d f : Bool) → k ≡ true → e ≡ false → a ≡ true → o ≡ false
    → first_that_holds (unless k UnknownTicket ∷ when e TicketExpired ∷ unless a NotAvailable ∷ when o AlreadyOrdered ∷ when d DailyLimit ∷ when f Full ∷ []) ≡ first_that_holds (when d DailyLimit ∷ when f Full ∷ [])
ordering k e a o d f hk he ha ho = rw (hk, he, ha, ho) refl

limited : (d f : Bool) → d ≡ true → first_that_holds (when d DailyLimit ∷ when f Full ∷ []) ≡ Some DailyLimit
limited d f h = rw h refl

in_time : (d f : Bool) → d ≡ false → first_that_holds (when d DailyLimit ∷ when f Full ∷ []) ≡ when f Full
in_time d f h = rw h (last_told f)

orders : (s : State) (t c : ℕ) → MayOrder s t c → RefusesOrders s t c
orders s t c m =
    let daily : Bool = nat_le s.settings.daily (orders_placed s t s.day) in
    let all : Bool = nat_le most_orders (length s.orders) in
    let at = ordering (is_ticket s t) (is_expired s t) (opens s t c) (has_ordered s t c) daily all m.ticket m.valid m.available m.not_yet in
    record {
      full = λ l. at ∙ in_time daily all (lt-leb s.settings.daily (orders_placed s t s.day) l);
      day = λ l. at ∙ limited daily all (le-leb s.settings.daily (orders_placed s t s.day) l);
    }

permitting : (k u h f : Bool) → k ≡ true → u ≡ true → h ≡ false
    → first_that_holds (unless k UnknownTicket ∷ unless u UnknownUnit ∷ when (not h && f) Full ∷ []) ≡ when f Full
permitting k u h f ek eu eh = rw (ek, eu, eh) (last_told f)

prolonging : (k u h f : Bool) → k ≡ true → u ≡ true → h ≡ true
    → first_that_holds (unless k UnknownTicket ∷ unless u UnknownUnit ∷ when (not h && f) Full ∷ []) ≡ None
prolonging k u h f ek eu eh = rw (ek, eu, eh) refl

unknown_unit : (k u h f : Bool) → k ≡ true → u ≡ false
    → first_that_holds (unless k UnknownTicket ∷ unless u UnknownUnit ∷ when (not h && f) Full ∷ []) ≡ Some UnknownUnit
unknown_unit k u h f ek eu = rw (ek, eu) refl

permits : (s : State) (t : ℕ) → is_ticket s t ≡ true → RefusesPermits s t
permits s t k =
    let all : Bool = nat_le most_permits (length (s.permits t)) in
    record {
      full = λ u until h p. permitting (is_ticket s t) (has_unit s.catalogue.forest u) (has_permit s t u) all k h p;
      later = λ u until h p. prolonging (is_ticket s t) (has_unit s.catalogue.forest u) (has_permit s t u) all k h p;
      unknown = λ u until h. unknown_unit (is_ticket s t) (has_unit s.catalogue.forest u) (has_permit s t u) all k h;
    }

pub refuses_where_full : (s : State) → RefusesWhereFull s
refuses_where_full s = record { tickets = tickets s; runs = runs s; orders = orders s; permits = permits s }
