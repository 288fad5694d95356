-- The numbers that commands and questions name, as the tables can hold them.
use Rattle.std.specs.Prelude.{ℕ, ◌^◌, nat_lt, cond, option_map}
use Rattle.office_core.specs.declared.command.Command.{Command}
use Rattle.office_core.specs.declared.command.Command.TheVariants as command
use Rattle.office_core.specs.declared.query.Query.{Query}
use Rattle.office_core.specs.declared.query.Query.TheVariants as query

-- A number that is too great for the tables names nothing, and neither does 0: it stands for all of these.
abbrev pub named : ℕ → ℕ
named n = cond (nat_lt n (2 ^ 63)) n 0

-- the same command, of things that the tables can hold
abbrev pub of_named : Command → Command
of_named (command.SetStatus u draft whole) = command.SetStatus (named u) draft whole
of_named (command.SetClosure u until) = command.SetClosure (named u) until
of_named (command.Move u parent) = command.Move (named u) (option_map named parent)
of_named (command.Remove u) = command.Remove (named u)
of_named (command.Renew t until) = command.Renew (named t) until
of_named (command.TakeSeat t) = command.TakeSeat (named t)
of_named (command.LeaveSeat t) = command.LeaveSeat (named t)
of_named (command.Order t c) = command.Order (named t) (named c)
of_named (command.Cancel o) = command.Cancel (named o)
of_named (command.Issue c t) = command.Issue (named c) (named t)
of_named (command.Return c) = command.Return (named c)
of_named (command.Permit t u until) = command.Permit (named t) (named u) until
of_named (command.Revoke t u) = command.Revoke (named t) (named u)
of_named asked = asked

-- the same question
abbrev pub asks_named : Query → Query
asks_named (query.Aid u) = query.Aid (named u)
asks_named (query.Page u) = query.Page (named u)
asks_named (query.ReaderOrders t) = query.ReaderOrders (named t)
asks_named (query.Queue c) = query.Queue (named c)
asks_named (query.RunSlip r) = query.RunSlip (named r)
asks_named (query.ReaderPermits t) = query.ReaderPermits (named t)
asks_named asked = asked
