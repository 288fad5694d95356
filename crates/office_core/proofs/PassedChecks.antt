-- What holds where no check of a command holds: a fact for each check, by its name. A check that is added is a field
-- of its command's record, and a name in the pattern below it.
use Rattle.std.proofs.Common.{◌≡◌, ℕ, ℤ, Bool, true, false, not, ◌&&◌, nat_le, nat_lt, int_lt, length, Option, None}
use Rattle.desk_core.specs.Names.{is_name}
use Rattle.office_core.specs.declared.command.Command.TheVariants as command
use Rattle.office_core.proofs.Common.{BadName, Bytes, State, after, bad_file, checks, containers, depth_after, first}
use Rattle.office_core.proofs.Common.{gate, has_id, has_ordered, has_permit, has_place, has_unit, held_count, intake_of}
use Rattle.office_core.proofs.Common.{is_by, is_container, is_desk, is_empty, is_expired, is_into_itself, is_out}
use Rattle.office_core.proofs.Common.{is_seated, is_some, is_source, is_ticket, list_any, lowest_withheld, most_deep}
use Rattle.office_core.proofs.Common.{most_orders, most_permits, most_runs, most_tickets, opens, orders_of_run}
use Rattle.office_core.proofs.Common.{orders_placed, some_and, too_much, unless, waits}
use Rattle.office_core.proofs.Steps.{Passes, held_not, held_so, passes_gate}

-- ---- the desk

pub record PassedDay (s : State) (day : ℤ) : Type 0 where
  pub later : int_lt s.day day ≡ true
  pub all_back : list_any (is_out s) (containers s) ≡ false

pub passed_day : (s : State) (day : ℤ) → Passes (checks s (command.OpenDay day)) → PassedDay s day
passed_day s day (later, (all_back, none)) = record { later = held_so _ _ later; all_back = held_not _ _ all_back }

pub record PassedRegister (s : State) (name : Bytes) : Type 0 where
  pub named : is_name name ≡ true
  pub room : nat_le most_tickets (length s.readers) ≡ false

pub passed_register : (s : State) (name : Bytes) (until : ℤ) → Passes (checks s (command.Register name until)) → PassedRegister s name
passed_register s name until (named, (room, none)) = record { named = held_so _ _ named; room = held_not _ _ room }

pub record PassedTakeSeat (s : State) (t : ℕ) : Type 0 where
  pub known : is_ticket s t ≡ true
  pub valid : is_expired s t ≡ false
  pub stands : is_seated s t ≡ false

pub passed_take_seat : (s : State) (t : ℕ) → Passes (checks s (command.TakeSeat t)) → PassedTakeSeat s t
passed_take_seat s t (known, (valid, (stands, (seat, none)))) = record {
  known = held_so _ _ known;
  valid = held_not _ _ valid;
  stands = held_not _ _ stands;
}

pub record PassedLeaveSeat (s : State) (t : ℕ) : Type 0 where
  pub known : is_ticket s t ≡ true
  pub seated : is_seated s t ≡ true
  pub holds_none : nat_lt 0 (held_count s t) ≡ false

pub passed_leave_seat : (s : State) (t : ℕ) → Passes (checks s (command.LeaveSeat t)) → PassedLeaveSeat s t
passed_leave_seat s t (known, (seated, (holds_none, none))) = record {
  known = held_so _ _ known;
  seated = held_so _ _ seated;
  holds_none = held_not _ _ holds_none;
}

pub record PassedOrder (s : State) (t c : ℕ) : Type 0 where
  pub known : is_ticket s t ≡ true
  pub valid : is_expired s t ≡ false
  pub is_open : opens s t c ≡ true
  pub new : has_ordered s t c ≡ false
  pub daily : nat_le s.settings.daily (orders_placed s t s.day) ≡ false
  pub room : nat_le most_orders (length s.orders) ≡ false

pub passed_order : (s : State) (t c : ℕ) → Passes (checks s (command.Order t c)) → PassedOrder s t c
passed_order s t c (known, (valid, (is_open, (new, (daily, (room, none)))))) = record {
  known = held_so _ _ known;
  valid = held_not _ _ valid;
  is_open = held_so _ _ is_open;
  new = held_not _ _ new;
  daily = held_not _ _ daily;
  room = held_not _ _ room;
}

pub passed_cancel : (s : State) (o : ℕ) → Passes (checks s (command.Cancel o)) → waits s o ≡ true
passed_cancel s o (known, (waiting, none)) = held_so _ _ waiting

pub record PassedRun (s : State) : Type 0 where
  pub due : is_empty (orders_of_run s) ≡ false
  pub room : nat_le most_runs (length s.runs) ≡ false

pub passed_run : (s : State) → Passes (checks s command.Run) → PassedRun s
passed_run s (due, (room, none)) = record { due = held_not _ _ due; room = held_not _ _ room }

pub record PassedIssue (s : State) (c t : ℕ) : Type 0 where
  pub known : is_container s c ≡ true
  pub at_desk : is_desk (s.place c) ≡ true
  pub first_waits : some_and (is_by s t) (first (s.queue c)) ≡ true
  pub valid : is_expired s t ≡ false
  pub seated : is_seated s t ≡ true
  pub hands : nat_le s.settings.hands (held_count s t) ≡ false
  pub is_open : opens s t c ≡ true

pub passed_issue : (s : State) (c t : ℕ) → Passes (checks s (command.Issue c t)) → PassedIssue s c t
passed_issue s c t (known, (at_desk, (first_waits, (valid, (seated, (hands, (is_open, none))))))) = record {
  known = held_so _ _ known;
  at_desk = held_so _ _ at_desk;
  first_waits = held_so _ _ first_waits;
  valid = held_not _ _ valid;
  seated = held_so _ _ seated;
  hands = held_not _ _ hands;
  is_open = held_so _ _ is_open;
}

pub passed_return : (s : State) (c : ℕ) → Passes (checks s (command.Return c)) → is_container s c ≡ true
passed_return s c (known, (out, none)) = held_so _ _ known

pub record PassedPermit (s : State) (t u : ℕ) : Type 0 where
  pub known : is_ticket s t ≡ true
  pub unit : has_unit s.catalogue.forest u ≡ true
  pub room : (not (has_permit s t u) && nat_le most_permits (length (s.permits t))) ≡ false

pub passed_permit : (s : State) (t u : ℕ) (until : ℤ) → Passes (checks s (command.Permit t u until)) → PassedPermit s t u
passed_permit s t u until (known, (unit, (room, none))) = record {
  known = held_so _ _ known;
  unit = held_so _ _ unit;
  room = held_not _ _ room;
}

pub record PassedRevoke (s : State) (t u : ℕ) : Type 0 where
  pub known : is_ticket s t ≡ true
  pub unit : has_unit s.catalogue.forest u ≡ true
  pub permitted : has_permit s t u ≡ true
  pub none_withheld : is_some (lowest_withheld (after s (command.Revoke t u))) ≡ false

pub passed_revoke : (s : State) (t u : ℕ) → Passes (checks s (command.Revoke t u)) → PassedRevoke s t u
passed_revoke s t u (known, (unit, (permitted, (gate_passed, none)))) = record {
  known = held_so _ _ known;
  unit = held_so _ _ unit;
  permitted = held_so _ _ permitted;
  none_withheld = passes_gate (after s (command.Revoke t u)) gate_passed;
}

-- ---- the catalogue

pub record PassedImport (s : State) (source file : Bytes) : Type 0 where
  pub named : unless (is_source source) BadName ≡ None
  pub faultless : bad_file (intake_of s source file) ≡ None
  pub room : too_much (intake_of s source file) ≡ None
  pub gate_passed : gate (after s (command.Import source file)) ≡ None

pub passed_import : (s : State) (source file : Bytes) → Passes (checks s (command.Import source file)) → PassedImport s source file
passed_import s source file (named, (faultless, (room, (gate_passed, none)))) = record {
  named = named;
  faultless = faultless;
  room = room;
  gate_passed = gate_passed;
}

-- of a change of a unit, which leaves the office so
pub record PassedChange (s next : State) (u : ℕ) : Type 0 where
  pub known : has_unit s.catalogue.forest u ≡ true
  pub none_withheld : is_some (lowest_withheld next) ≡ false

pub passed_status : (s : State) (u : ℕ) (draft whole : Bool) → Passes (checks s (command.SetStatus u draft whole)) → PassedChange s (after s (command.SetStatus u draft whole)) u
passed_status s u draft whole (known, (gate_passed, none)) = record {
  known = held_so _ _ known;
  none_withheld = passes_gate (after s (command.SetStatus u draft whole)) gate_passed;
}

pub passed_closure : (s : State) (u : ℕ) (until : Option ℤ) → Passes (checks s (command.SetClosure u until)) → PassedChange s (after s (command.SetClosure u until)) u
passed_closure s u until (known, (gate_passed, none)) = record {
  known = held_so _ _ known;
  none_withheld = passes_gate (after s (command.SetClosure u until)) gate_passed;
}

pub passed_remove : (s : State) (u : ℕ) → Passes (checks s (command.Remove u)) → PassedChange s (after s (command.Remove u)) u
passed_remove s u (known, (gate_passed, none)) = record {
  known = held_so _ _ known;
  none_withheld = passes_gate (after s (command.Remove u)) gate_passed;
}

pub record PassedMove (s : State) (u : ℕ) (parent : Option ℕ) : Type 0 where
  pub known : has_unit s.catalogue.forest u ≡ true
  pub place : has_place has_id parent s.catalogue.forest ≡ true
  pub apart : is_into_itself u parent s.catalogue.forest ≡ false
  pub shallow : nat_lt most_deep (depth_after u parent s.catalogue.forest) ≡ false
  pub none_withheld : is_some (lowest_withheld (after s (command.Move u parent))) ≡ false

pub passed_move : (s : State) (u : ℕ) (parent : Option ℕ) → Passes (checks s (command.Move u parent)) → PassedMove s u parent
passed_move s u parent (known, (place, (apart, (shallow, (gate_passed, none))))) = record {
  known = held_so _ _ known;
  place = held_so _ _ place;
  apart = held_not _ _ apart;
  shallow = held_not _ _ shallow;
  none_withheld = passes_gate (after s (command.Move u parent)) gate_passed;
}
