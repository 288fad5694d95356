-- The members of a JSON body (RFC 8259), and the command that they make.
use Rattle.std.specs.Prelude.{ℕ, ℤ, Bool, true, false, Option, Some, None, option_map, option_and_then, if◌then◌else◌}
use Rattle.std.specs.Prelude.{codes}
use Rattle.std.specs.Str.{bytes_eq, is_utf8}
use Rattle.serde_json.specs.Data.{Data, null}
use Rattle.serde_json.specs.Read.{read}
use Rattle.serde_json.specs.Find.{get, as_number, as_u64, as_str, as_bool}
use Rattle.isad_core.specs.Texts.{Bytes}
use Rattle.isad_core.specs.Days.{day_of}
use Rattle.office_core.specs.declared.command.Command.{Command}
use Rattle.office_core.specs.declared.command.Command.TheVariants as command
use Rattle.http_messages.specs.declared.body_form.Form.{Form}
use Rattle.http_messages.specs.declared.body_form.Form.TheVariants as form

-- the JSON value of a body in UTF-8; if a member occurs twice, the last one is kept
abbrev pub value_of : Bytes → Option Data
value_of body = if is_utf8 body then read body else None

-- ---- one member, if it is there and of its kind. A value that is not an object has none.

-- a whole number from 0 to 18446744073709551615, in digits only
abbrev pub as_whole : Data → Option ℕ
as_whole value = option_and_then as_u64 (as_number value)

abbrev pub as_day : Data → Option ℤ
as_day value = option_and_then day_of (as_str value)

abbrev pub null_or : {X : Type 0} → (Data → Option X) → Data → Option (Option X)
null_or as_value null = Some None
null_or as_value value = option_map Some (as_value value)

abbrev pub draft_of : Bytes → Option Bool
draft_of status =
    if bytes_eq status (codes "published") then Some false
    else if bytes_eq status (codes "draft") then Some true
    else None

abbrev pub as_draft : Data → Option Bool
as_draft value = option_and_then draft_of (as_str value)

abbrev pub number_at : Bytes → Data → Option ℕ
number_at key value = option_and_then as_whole (get key value)

abbrev pub text_at : Bytes → Data → Option Bytes
text_at key value = option_and_then as_str (get key value)

abbrev pub day_at : Bytes → Data → Option ℤ
day_at key value = option_and_then as_day (get key value)

abbrev pub draft_at : Bytes → Data → Option Bool
draft_at key value = option_and_then as_draft (get key value)

abbrev pub number_or_null_at : Bytes → Data → Option (Option ℕ)
number_or_null_at key value = option_and_then (null_or as_whole) (get key value)

abbrev pub day_or_null_at : Bytes → Data → Option (Option ℤ)
day_or_null_at key value = option_and_then (null_or as_day) (get key value)

-- false if it is missing
abbrev pub or_false : Option Data → Option Bool
or_false None = Some false
or_false (Some value) = as_bool value

abbrev pub flag_at : Bytes → Data → Option Bool
flag_at key value = or_false (get key value)

-- ---- the members of a command

abbrev pub of_one : {A : Type 0} → (A → Command) → Option A → Option Command
of_one make a = option_map make a

abbrev pub of_two : {A B : Type 0} → (A → B → Command) → Option A → Option B → Option Command
of_two make a b = option_and_then (λ x. option_map (make x) b) a

abbrev pub of_three : {A B C : Type 0} → (A → B → C → Command) → Option A → Option B → Option C → Option Command
of_three make a b c = option_and_then (λ x. of_two (make x) b c) a

abbrev pub command_of_form : Form → Data → Option Command
command_of_form form.Order v = of_two command.Order (number_at (codes "ticket") v) (number_at (codes "container") v)
command_of_form form.OpenDay v = of_one command.OpenDay (day_at (codes "day") v)
command_of_form form.SetStatus v =
    of_three command.SetStatus (number_at (codes "unit") v) (draft_at (codes "status") v) (flag_at (codes "branch") v)
command_of_form form.SetClosure v = of_two command.SetClosure (number_at (codes "unit") v) (day_or_null_at (codes "until") v)
command_of_form form.Move v = of_two command.Move (number_at (codes "unit") v) (number_or_null_at (codes "parent") v)
command_of_form form.Remove v = of_one command.Remove (number_at (codes "unit") v)
command_of_form form.Register v = of_two command.Register (text_at (codes "name") v) (day_at (codes "until") v)
command_of_form form.Renew v = of_two command.Renew (number_at (codes "ticket") v) (day_at (codes "until") v)
command_of_form form.TakeSeat v = of_one command.TakeSeat (number_at (codes "ticket") v)
command_of_form form.LeaveSeat v = of_one command.LeaveSeat (number_at (codes "ticket") v)
command_of_form form.Cancel v = of_one command.Cancel (number_at (codes "order") v)
command_of_form form.Issue v = of_two command.Issue (number_at (codes "container") v) (number_at (codes "ticket") v)
command_of_form form.Return v = of_one command.Return (number_at (codes "container") v)
command_of_form form.Permit v =
    of_three command.Permit (number_at (codes "ticket") v) (number_at (codes "unit") v) (day_at (codes "until") v)
command_of_form form.Revoke v = of_two command.Revoke (number_at (codes "ticket") v) (number_at (codes "unit") v)

-- the command whose members a body gives, or none if it does not give them
abbrev pub command_in : Form → Bytes → Option Command
command_in asked body = option_and_then (command_of_form asked) (value_of body)
