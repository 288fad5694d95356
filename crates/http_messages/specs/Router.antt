-- What the routes in the code mean, and how its router is made.
use Rattle.std.specs.Prelude.{Result, Ok, Err, List, [], ◌∷◌}
use Rattle.matchit.specs.Rows.{RowsOf}
use Rattle.matchit.specs.Router.{RouteOf, route_from}
use Rattle.matchit.specs.Order.{placed}
use Rattle.matchit.specs.Route.{Scan, parse_route}
use Rattle.matchit.specs.declared.error.InsertError.{InsertError}
use Rattle.isad_core.specs.Texts.{Bytes}
use Rattle.office_core.specs.declared.command.Command.TheVariants as command
use Rattle.http_messages.specs.declared.routes.Route.{Route}
use Rattle.http_messages.specs.declared.routes.Route.TheVariants as held
use Rattle.http_messages.specs.declared.table.Leads.{Leads}
use Rattle.http_messages.specs.Routes as routes
use Rattle.http_messages.specs.Routes.{route_table}

abbrev pub route_in : Route → routes.Route
route_in (held.Asks asked) = routes.Asks asked
route_in held.Run = routes.Does command.Run
route_in held.Reshelve = routes.Does command.Reshelve
route_in (held.TakesFile source) = routes.TakesFile source.now
route_in (held.TakesForm asked) = routes.TakesForm asked

-- ---- the router

-- the rows of a router with one more pattern
abbrev pub with_read : Result Scan InsertError → Leads → RowsOf (RouteOf Leads) → RowsOf (RouteOf Leads)
with_read (Ok read) to rows = placed (read.pattern, route_from read to) rows
with_read (Err why) to rows = rows

abbrev pub with_all_routes : RowsOf (RouteOf Leads) → List (Bytes × Leads) → RowsOf (RouteOf Leads)
with_all_routes rows [] = rows
with_all_routes rows ((text, to) ∷ others) = with_all_routes (with_read (parse_route text) to rows) others

abbrev pub rows_of_table : RowsOf (RouteOf Leads)
rows_of_table = with_all_routes [] route_table

-- what the first parameter of a match took of the path
abbrev pub first_part : List (Bytes × Bytes) → Bytes
first_part [] = []
first_part ((name, part) ∷ others) = part
