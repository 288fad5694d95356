-- What the rules preserve.
use Rattle.std.specs.Prelude.{◌≡◌, ◌≢◌, ℕ, zero, suc, ◌≤◌, Bool, true, cond, List, [], ◌∷◌, length, Option, Some, None}
use Rattle.std.specs.Prelude.{Ok, option_map, ◌⊎◌}
use Rattle.office_core.specs.Words.{nth, stands}
use Rattle.desk_core.specs.Decisions.{order_out}
use Rattle.office_core.specs.State.{Order, End, Done, Cancelled, State, container_of, is_by}
use Rattle.office_core.specs.SoundDesk.{is_out_for, IsGoodHolder}
use Rattle.office_core.specs.declared.command.Command.TheVariants as command
use Rattle.office_core.specs.declared.done.Done.TheVariants as done
use Rattle.office_core.specs.declared.done.Remark.{Remark}
use Rattle.isad_core.specs.Texts.{Bytes}
use Rattle.atom_csv.specs.FileContents.{file_of}
use Rattle.atom_csv.specs.declared.file.File.{File}
use Rattle.office_core.specs.Rules.{step}

-- ---- orders

pub data Standing : Type 0 where
  Waiting : Standing
  WithItsReader : Standing
  Ended : (how : End) → Standing

abbrev pub stands_as : Option ℕ → (ℕ → Bool) → (ℕ → Bool) → Option End → Option Standing
stands_as None in_queue in_place past = None
stands_as (Some c) in_queue in_place past =
    cond (in_queue c) (Some Waiting) (cond (in_place c) (Some WithItsReader) (option_map Ended past))

-- An order waits if it is in its container's queue, and is out if its container is out with it; otherwise it has ended
-- as `past` records. A number that is not an order's has no standing.
abbrev pub standing : State → ℕ → Option Standing
standing s o = stands_as (container_of s o) (λ c. stands o (s.queue c)) (λ c. is_out_for o (s.place c)) (s.past o)

-- Two orders that are out have different containers.
abbrev pub OutApart : State → Type 0
OutApart s = (o p : ℕ) → o ≢ p → standing s o ≡ Some WithItsReader → standing s p ≡ Some WithItsReader → container_of s o ≢ container_of s p

-- What one command may do to an order: it begins to wait, goes out, is cancelled or is done.
abbrev pub OrderGoes : Option Standing → Option Standing → Type 0
OrderGoes None (Some Waiting) = Unit {0}
OrderGoes (Some Waiting) (Some WithItsReader) = Unit {0}
OrderGoes (Some Waiting) (Some (Ended Cancelled)) = Unit {0}
OrderGoes (Some WithItsReader) (Some (Ended Done)) = Unit {0}
OrderGoes _ _ = ⊥

abbrev pub OrdersGoOn : State → State → Type 0
OrdersGoOn s t = (o : ℕ) → (standing t o ≡ standing s o) ⊎ OrderGoes (standing s o) (standing t o)

-- The order waits for the container, and no order with a lower number does.
pub record IsFirstWaiting (s : State) (c o : ℕ) : Type 0 where
  pub waits : standing s o ≡ Some Waiting
  pub for_it : container_of s o ≡ Some c
  pub least : (p : ℕ) → standing s p ≡ Some Waiting → container_of s p ≡ Some c → o ≤ p

-- An accepted `Issue` serves the first order that waits for the container. It is the ticket's order, and is out
-- afterwards.
abbrev pub IssuesTheFirst : State → Type 0
IssuesTheFirst s =
    (c t o : ℕ) → (step s (command.Issue c t)).1 ≡ Ok (done.Issue o)
    → IsFirstWaiting s c o × (is_by s t o ≡ true) × (standing (step s (command.Issue c t)).0 o ≡ Some WithItsReader)

-- Each container that is out is open, on this day, to the reader of the order that it is out with.
abbrev pub OpenToHolders : State → Type 0
OpenToHolders s = (c o : ℕ) → order_out (s.place c) ≡ Some o → (order : Order) × (nth s.orders o ≡ Some order) × IsGoodHolder s c order.ticket

-- ---- numbers

-- n numbers, from m on
abbrev pub numbers_from : ℕ → ℕ → List ℕ
numbers_from m zero = []
numbers_from m (suc n) = m ∷ numbers_from (suc m) n

-- ---- an import that is repeated

-- An accepted import that is repeated at once changes nothing. Its reply counts every row as one that left its unit
-- unchanged, with the same remarks and translations.
abbrev pub ImportsAgain : State → Type 0
ImportsAgain s =
    (source file : Bytes) (changed new : ℕ) (remarks : List Remark) (same translations : ℕ)
    → (step s (command.Import source file)).1 ≡ Ok (done.Import changed new remarks same translations)
    → (read : File)
    × (file_of file ≡ Ok read)
    × (step (step s (command.Import source file)).0 (command.Import source file)
    ≡ ((step s (command.Import source file)).0, Ok (done.Import 0 0 remarks (length read.rows) translations)))
