-- What each path leads to, by the table of the routes.
use Rattle.std.specs.Prelude.{ℕ, ◌&&◌, ◌==◌, Bool, true, false, not, List, [], ◌∷◌, length, map, nat_le, Option, Some}
use Rattle.std.specs.Prelude.{None, option_map, option_and_then, if◌then◌else◌, codes}
use Rattle.std.specs.List.{list_all, list_any}
use Rattle.std.specs.Char.{is_ascii_digit}
use Rattle.std.specs.Str.{is_utf8}
use Rattle.std.specs.Str.Parse.{digits_value}
use Rattle.isad_core.specs.Texts.{Bytes}
use Rattle.office_core.specs.declared.command.Command.{Command}
use Rattle.office_core.specs.declared.command.Command.TheVariants as command
use Rattle.office_core.specs.declared.query.Query.{Query}
use Rattle.office_core.specs.declared.query.Query.TheVariants as query
use Rattle.http_messages.specs.declared.body_form.Form.{Form}
use Rattle.http_messages.specs.declared.table.Numbered.{Numbered}
use Rattle.http_messages.specs.declared.table.Numbered.TheVariants as numbered
use Rattle.http_messages.specs.declared.table.Leads.{Leads}
use Rattle.http_messages.specs.declared.table.Leads.TheVariants as leads
use Rattle.http_messages.specs.declared.table.TheConstants.{TABLE}

-- what a path leads to
pub data Route : Type 0 where
  Asks : Query → Route  -- GET
  Does : Command → Route  -- POST; the body is not looked at
  TakesFile : Bytes → Route  -- POST; the body is the file of an import from that source
  TakesForm : Form → Route  -- POST; the body is a JSON object

-- ---- what a pattern leads to

-- 1 to 10 digits, the first not 0
abbrev pub is_number : Bytes → Bool
is_number [] = false
is_number (b ∷ bytes) =
    not (b == 48) && (is_ascii_digit b && (list_all is_ascii_digit bytes && nat_le (length bytes) 9))

abbrev pub number_from_digits : Bytes → Option ℕ
number_from_digits digits = if is_number digits then Some (digits_value 10 digits) else None

abbrev pub question : Numbered → ℕ → Query
question numbered.Aid unit = query.Aid unit
question numbered.Page unit = query.Page unit
question numbered.RunSlip run = query.RunSlip run
question numbered.ReaderOrders ticket = query.ReaderOrders ticket
question numbered.Queue container = query.Queue container
question numbered.ReaderPermits ticket = query.ReaderPermits ticket

-- by the pattern's parameter
abbrev pub leads_to : Leads → Bytes → Option Route
leads_to (leads.Asks asked) parameter = Some (Asks asked)
leads_to (leads.AsksOf asked) parameter = option_map (λ n. Asks (question asked n)) (number_from_digits parameter)
leads_to leads.Run parameter = Some (Does command.Run)
leads_to leads.Reshelve parameter = Some (Does command.Reshelve)
leads_to leads.Import parameter = Some (TakesFile parameter)
leads_to (leads.TakesForm asked) parameter = Some (TakesForm asked)

-- ---- how a path is looked up

-- what a path has in the place of a parameter: at least one byte, and no slash
abbrev pub segment : Bytes → Option Bytes
segment bytes = if list_any (λ b. b == 47) bytes then None else Some bytes

-- the parameter in a path of the pattern. It begins with a brace, 123, and ends the pattern; without one it is empty.
abbrev pub parameter_in : Bytes → Bytes → Option Bytes
parameter_in [] [] = Some []
parameter_in [] (b ∷ path) = None
parameter_in (a ∷ pattern) [] = None
parameter_in (a ∷ pattern) (b ∷ path) =
    if a == 123 then segment (b ∷ path) else if a == b then parameter_in pattern path else None

abbrev pub or_else : Option Route → Option Route → Option Route
or_else None other = other
or_else (Some route) other = Some route

abbrev pub first_route : List (Bytes × Leads) → Bytes → Option Route
first_route [] path = None
first_route ((pattern, to) ∷ others) path =
    or_else (option_and_then (leads_to to) (parameter_in pattern path)) (first_route others path)

-- the patterns of the table
abbrev pub route_table : List (Bytes × Leads)
route_table = map (λ line. (line.0.now, line.1)) TABLE

abbrev pub route_of : Bytes → Option Route
route_of path = if is_utf8 path then first_route route_table path else None

-- ---- methods

abbrev pub is_post : Route → Bool
is_post (Asks asked) = false
is_post (Does asked) = true
is_post (TakesFile source) = true
is_post (TakesForm asked) = true

abbrev pub method_name : Bool → Bytes
method_name true = codes "POST"
method_name false = codes "GET"

abbrev pub method_of : Route → Bytes
method_of route = method_name (is_post route)
