-- A run that is made, in the rows of the desk.
use Rattle.std.proofs.Common.{◌≡◌, ℕ, suc, true, false, cond, nat_eq, List, [], ◌∷◌, length, map, Option, Some, None}
use Rattle.std.proofs.Common.{Ok, Err, refl, sym, ap, subst, ◌∙◌}
use Rattle.std.proofs.Math.Path.{fun_ext}
use Rattle.std.proofs.lemmas.List.Elements.{All-from_recursion, recursion_from_All}
use Rattle.std.specs.Prelude.{ℤ}
use Rattle.desk_core.specs.DeskRows.{Desk as Rows}
use Rattle.desk_core.specs.declared.reader.Place.TheVariants.{Desk}
use Rattle.office_tables.specs.Schema as schema
use Rattle.desk_store.proofs.PickingCalls.{candidates_are}
use Rattle.desk_store.specs.Runs as stored
use Rattle.office_core.specs.declared.command.Command.TheVariants as command
use Rattle.office_core.specs.declared.done.Done.TheVariants as done
use Rattle.desk_commands.specs.RunCreation.{open_orders, taken_by}
use Rattle.desk_commands.proofs.Common.{All-permutation, CarriesOutStep, ContainerOrder, Database, Forest, Full}
use Rattle.desk_commands.proofs.Common.{HoldingRow, IsNumberOf, IsPermutation, IsPermutation-sym, IsPermutation-trans}
use Rattle.desk_commands.proofs.Common.{IsSoundOffice, Limits, NothingToMove, OnlyTouches, OrderRow, Place}
use Rattle.desk_commands.proofs.Common.{RepresentsDesk, RepresentsState, RunLineRow, RunRow, State, Trees, Version}
use Rattle.desk_commands.proofs.Common.{accepts, all_placed, fetched, fetched_out, firsts_of, goes_same, holding_rows}
use Rattle.desk_commands.proofs.Common.{is_empty, limits_of, most_runs, nat_le, new_run, numbers_to, on_shelf}
use Rattle.desk_commands.proofs.Common.{order_rows, orders_of_run, refusal, refuses, rows_of, run_line_rows, run_row}
use Rattle.desk_commands.proofs.Common.{some_and, tables, with_all_placed, with_run}
use Rattle.desk_commands.proofs.Fetched.{as_many, brought, none_left, none_taken, one_left, same_lines, taken_within}
use Rattle.desk_commands.proofs.MovedAll.{all_moved, rows_stay}
use Rattle.desk_commands.proofs.Registered.{rows_end}

-- lines in another order are shown as well
pub lines_moved : (db : Trees) (d : Rows) (ls : List RunLineRow) → IsPermutation d.run_lines ls → RepresentsDesk db d
    → RepresentsDesk db (record d { run_lines = ls })
lines_moved db d ls same it = record {
  readers = it.readers;
  tickets = it.tickets;
  few_tickets = it.few_tickets;
  seats = it.seats;
  seats_rise = it.seats_rise;
  orders = it.orders;
  order_numbers = it.order_numbers;
  few_orders = it.few_orders;
  holdings = it.holdings;
  holdings_rise = it.holdings_rise;
  runs = it.runs;
  run_numbers = it.run_numbers;
  few_runs = it.few_runs;
  run_lines = record {
    numbered = it.run_lines.numbered;
    are = it.run_lines.are;
    rise = it.run_lines.rise;
    tell = IsPermutation-trans ls d.run_lines _ (IsPermutation-sym d.run_lines ls same) it.run_lines.tell;
  };
  line_runs =
      recursion_from_All (λ (l : RunLineRow). IsNumberOf d.runs l.run) ls
      (All-permutation (λ (l : RunLineRow). IsNumberOf d.runs l.run) d.run_lines ls same
      (All-from_recursion (λ (l : RunLineRow). IsNumberOf d.runs l.run) d.run_lines it.line_runs));
  permits = it.permits;
  permit_tickets = it.permit_tickets;
}

-- what a run takes, by the orders that were found of those that were told
pub due_taken : (version : Version) (s : State) {limits : Limits} {waiting due : List ContainerOrder}
    → due ≡ open_orders s limits.run (on_shelf (tables version s).desk waiting) → limits ≡ limits_of s
    → waiting ≡ firsts_of (tables version s).desk → due ≡ taken_by version s
due_taken version s {waiting = waiting} found allowed told =
    found
    ∙ ap (λ (l : Limits). open_orders s l.run (on_shelf (tables version s).desk waiting)) allowed
    ∙ ap (λ l. open_orders s s.settings.run_size (on_shelf (tables version s).desk l)) told
    ∙ ap (open_orders s s.settings.run_size) (candidates_are (tables version s).desk)

module _ (version : Version) (s : State) (sound : IsSoundOffice s) where
  abbrev taken : List ContainerOrder
  taken = taken_by version s

  abbrev containers_taken : List ℕ
  containers_taken = map (λ (o : ContainerOrder). o.container) taken

  abbrev desk : Rows
  desk = (tables version s).desk

  -- the desk with the run, its lines as they are put
  abbrev pub run_made : Rows
  run_made = with_all_placed Desk containers_taken (with_run (Some (suc (length s.runs))) s.day taken desk)

  orders_stay : order_rows (fetched s) ≡ order_rows s
  orders_stay = rows_stay s (fetched s) (λ o. goes_same s (fetched s) o refl (λ c. refl) (λ c. ap (λ p. some_and (nat_eq o) p) (fetched_out s c)) refl) refl

  holdings_moved : holding_rows (fetched s) ≡ all_placed Desk containers_taken (holding_rows s)
  holdings_moved =
      ap (λ (place : ℕ → Place). rows_of place (numbers_to (length s.catalogue.containers))) (fun_ext (λ c. ap (λ b. cond b Desk (s.place c)) (brought version s sound c)))
      ∙ all_moved s.place Desk (length s.catalogue.containers) containers_taken (taken_within version s sound)

  desk_after : (tables version (fetched s)).desk ≡ record run_made { run_lines = run_line_rows (fetched s) }
  desk_after =
      ap (λ (rows : List OrderRow). record (tables version (fetched s)).desk { orders = rows }) orders_stay
      ∙ ap (λ (rows : List HoldingRow). record (tables version (fetched s)).desk { orders = order_rows s; holdings = rows }) holdings_moved
      ∙ ap (λ (rows : List RunRow). record desk { holdings = all_placed Desk containers_taken (holding_rows s); runs = rows; run_lines = run_line_rows (fetched s) }) (rows_end run_row s.runs (new_run s))

  pub nothing_due : is_empty taken ≡ true → refusal s command.Run ≡ Some NothingToMove
  nothing_due none = let nobody : is_empty (orders_of_run s) ≡ true = none_taken version s sound ∙ none in rw nobody refl

  module _ (places : Trees → Forest ℕ → Type 0) where
    no_number_left : (db : Database) → is_empty taken ≡ false → nat_le most_runs (length s.runs) ≡ true
        → CarriesOutStep places version s command.Run (Err Full) db
    no_number_left db some full =
        let due : is_empty (orders_of_run s) ≡ false = none_taken version s sound ∙ some in
        let why : refusal s command.Run ≡ Some Full = rw (due, full) refl in
        refuses places version s command.Run db Full why

    runs : ((old new : Trees) (f : Forest ℕ) → new schema.link.tree ≡ old schema.link.tree → places old f → places new f)
        → (before now : Database) → is_empty taken ≡ false → nat_le most_runs (length s.runs) ≡ false
        → RepresentsState places version before s → now.schema ≡ before.schema
        → OnlyTouches (schema.run.tree ∷ schema.run_line.tree ∷ schema.holding.tree ∷ []) before now
        → RepresentsDesk now.trees run_made
        → CarriesOutStep places version s command.Run (Ok (done.Run (suc (length s.runs)) (length taken))) now
    runs same before now some room it schema_is only shown =
        let due : is_empty (orders_of_run s) ≡ false = none_taken version s sound ∙ some in
        let why : refusal s command.Run ≡ None = rw (due, room) refl in
        accepts places version s command.Run same before now (schema.run.tree ∷ schema.run_line.tree ∷ schema.holding.tree ∷ []) refl why tt it schema_is only
        (fetched s) refl refl refl (record run_made { run_lines = run_line_rows (fetched s) })
        (lines_moved now.trees run_made (run_line_rows (fetched s)) (same_lines version s sound) shown)
        desk_after
        (done.Run (suc (length s.runs)) (length taken)) (ap (λ n. done.Run (suc (length s.runs)) n) (as_many version s sound))

    -- no number is left
    pub runs_out : (db : Database) (due : List ContainerOrder) → due ≡ taken → is_empty due ≡ false
        → None ≡ stored.next_run desk → CarriesOutStep places version s command.Run (Err Full) db
    runs_out db due is some number = no_number_left db (ap is_empty (sym is) ∙ some) (none_left version s number)

    -- the tables show the desk with what was taken
    pub runs_with : ((old new : Trees) (f : Forest ℕ) → new schema.link.tree ≡ old schema.link.tree → places old f → places new f)
        → (before now : Database) (day : ℤ) (due : List ContainerOrder) (run : ℕ) → day ≡ s.day → due ≡ taken
        → is_empty due ≡ false → Some run ≡ stored.next_run desk
        → RepresentsState places version before s → now.schema ≡ before.schema
        → OnlyTouches (schema.run.tree ∷ schema.run_line.tree ∷ schema.holding.tree ∷ []) before now
        → RepresentsDesk now.trees (with_all_placed Desk (map (λ (o : ContainerOrder). o.container) due) (with_run (stored.next_run desk) day due desk))
        → CarriesOutStep places version s command.Run (Ok (done.Run run (length due))) now
    runs_with same before now day due run today is some number it schema_is only shown =
        let left = one_left version s run number in
        let next : stored.next_run desk ≡ Some (suc (length s.runs)) = sym number ∙ ap Some left.1 in
        let of_taken = subst (λ (os : List ContainerOrder). RepresentsDesk now.trees (with_all_placed Desk (map (λ (o : ContainerOrder). o.container) os) (with_run (stored.next_run desk) day os desk))) is shown in
        let of_today = subst (λ (x : ℤ). RepresentsDesk now.trees (with_all_placed Desk containers_taken (with_run (stored.next_run desk) x taken desk))) today of_taken in
        let with_next = subst (λ (k : Option ℕ). RepresentsDesk now.trees (with_all_placed Desk containers_taken (with_run k s.day taken desk))) next of_today in
        subst (λ (n : ℕ). CarriesOutStep places version s command.Run (Ok (done.Run n (length due))) now) (sym left.1)
        (subst (λ (os : List ContainerOrder). CarriesOutStep places version s command.Run (Ok (done.Run (suc (length s.runs)) (length os))) now) (sym is)
        (runs same before now (ap is_empty (sym is) ∙ some) left.0 it schema_is only with_next))
