-- The texts of replies, computed.
use Rattle.std.proofs.Common.{refl}
use Rattle.std.specs.Fmt.{digits}
use Rattle.serde_json.proofs.OnLiterals.{serde_json_on_literals}
use Rattle.isad_core.specs.Days.{day_text}
use Rattle.office_core.specs.WorkedTexts.{EachReply, EachRefusal}

pub each_reply : EachReply
unfolding digits day_text serde_json_on_literals
each_reply = record { open_day = refl; import = refl; set_status = refl; set_closure = refl; move = refl; remove = refl; register = refl; renew = refl; take_seat = refl; leave_seat = refl; order = refl; cancel = refl; run = refl; reshelve = refl; issue = refl; back = refl; permit = refl; revoke = refl }

pub each_refusal : EachRefusal
unfolding digits day_text serde_json_on_literals
each_refusal = record { unknown_unit = refl; unknown_ticket = refl; unknown_container = refl; ticket_expired = refl; not_available = refl; already_ordered = refl; daily_limit = refl; no_seat_free = refl; already_seated = refl; not_seated = refl; holds_containers = refl; unknown_order = refl; order_not_waiting = refl; not_at_desk = refl; not_first = refl; hands_full = refl; not_issued = refl; day_not_later = refl; still_issued = refl; into_itself = refl; with_reader = refl; bad_file = refl; full = refl; nothing_to_move = refl; too_deep = refl; unknown_run = refl; bad_name = refl; no_permit = refl }
