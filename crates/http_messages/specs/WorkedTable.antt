-- All routes, written by hand. The table of the code has these and no others.
use Rattle.std.specs.Prelude.{◌≡◌, List, [], ◌∷◌, Option, Some, map, option_map, codes}
use Rattle.isad_core.specs.Texts.{Bytes}
use Rattle.office_core.specs.declared.command.Command.TheVariants as command
use Rattle.office_core.specs.declared.query.Query.{Query}
use Rattle.office_core.specs.declared.query.Query.TheVariants as query
use Rattle.http_messages.specs.declared.body_form.Form.TheVariants as form
use Rattle.http_messages.specs.declared.table.Leads.{Leads}
use Rattle.http_messages.specs.Routes.{Route, Asks, Does, TakesFile, TakesForm, leads_to, method_of, route_table}

-- a method, a pattern of paths, and what it leads to if the pattern's parameter is 7
abbrev pub TableLine : Type 0
TableLine = Bytes × Bytes × Route

abbrev pub get_line : Bytes → Query → TableLine
get_line pattern asked = (codes "GET", pattern, Asks asked)

abbrev pub post_line : Bytes → Route → TableLine
post_line pattern route = (codes "POST", pattern, route)

abbrev pub all_lines : List TableLine
all_lines =
    get_line (codes "/public/fonds") query.Fonds
    ∷ get_line (codes "/public/aid/{unit}") (query.Aid 7)
    ∷ get_line (codes "/public/units/{unit}") (query.Page 7)
    ∷ post_line (codes "/public/orders") (TakesForm form.Order)
    ∷ get_line (codes "/desk/runs/{run}") (query.RunSlip 7)
    ∷ get_line (codes "/desk/readers/{ticket}") (query.ReaderOrders 7)
    ∷ get_line (codes "/desk/queue/{container}") (query.Queue 7)
    ∷ get_line (codes "/desk/permits/{ticket}") (query.ReaderPermits 7)
    ∷ get_line (codes "/desk/issued") query.IssuedNow
    ∷ post_line (codes "/desk/import/{source}") (TakesFile (codes "7"))
    ∷ post_line (codes "/desk/day") (TakesForm form.OpenDay)
    ∷ post_line (codes "/desk/status") (TakesForm form.SetStatus)
    ∷ post_line (codes "/desk/closure") (TakesForm form.SetClosure)
    ∷ post_line (codes "/desk/move") (TakesForm form.Move)
    ∷ post_line (codes "/desk/remove") (TakesForm form.Remove)
    ∷ post_line (codes "/desk/register") (TakesForm form.Register)
    ∷ post_line (codes "/desk/renew") (TakesForm form.Renew)
    ∷ post_line (codes "/desk/seat") (TakesForm form.TakeSeat)
    ∷ post_line (codes "/desk/leave") (TakesForm form.LeaveSeat)
    ∷ post_line (codes "/desk/cancel") (TakesForm form.Cancel)
    ∷ post_line (codes "/desk/run") (Does command.Run)
    ∷ post_line (codes "/desk/reshelve") (Does command.Reshelve)
    ∷ post_line (codes "/desk/issue") (TakesForm form.Issue)
    ∷ post_line (codes "/desk/return") (TakesForm form.Return)
    ∷ post_line (codes "/desk/permit") (TakesForm form.Permit)
    ∷ post_line (codes "/desk/revoke") (TakesForm form.Revoke)
    ∷ []

-- what the table has for a pattern
abbrev pub table_line : Bytes × Leads → Option TableLine
table_line (pattern, to) = option_map (λ route. (method_of route, pattern, route)) (leads_to to (codes "7"))

pub record Tabled : Type 0 where
  pub lines : map table_line route_table ≡ map Some all_lines
