-- Tickets that take seats and leave them, in the rows of the desk.
use Rattle.std.proofs.Common.{◌≡◌, ℕ, ℤ, nat_eq, List, [], ◌∷◌, map, Option, Some, None, Ok, refl, sym, ap, ◌∙◌}
use Rattle.tree_core.proofs.Lists.{list_any-map}
use Rattle.desk_core.specs.Decisions as decision
use Rattle.desk_core.specs.declared.reader.Reader.{Reader as Sitter}
use Rattle.office_tables.specs.Schema as schema
use Rattle.desk_store.specs.Seats.{MayTake, taken_seats, with_seat}
use Rattle.desk_store.specs.declared.taken_seats.TakenSeat.{TakenSeat}
use Rattle.office_core.specs.declared.command.Command.TheVariants as command
use Rattle.office_core.specs.declared.done.Done.TheVariants as done
use Rattle.refinement.proofs.SeatsShown.{free_is, is_free, risen, sat, sits_by_row, some_placed}
use Rattle.refinement.specs.Sitters.{sitter, sitter_of}
use Rattle.desk_commands.specs.Seats.{MayLeave, MaySit}
use Rattle.desk_commands.proofs.Common.{CarriesOutStep, Database, Forest, IsPermutation, IsSoundOffice, Limits}
use Rattle.desk_commands.proofs.Common.{OnlyTouches, Reader, Refusal, RepresentsDesk, RepresentsState, SeatRow, State}
use Rattle.desk_commands.proofs.Common.{Trees, Version, accepts, after, checks, first_that_holds, held_count, int_lt}
use Rattle.desk_commands.proofs.Common.{is_seat_of, is_seated, is_some, leave_seat_checks, leave_seat_facts, limits_of}
use Rattle.desk_commands.proofs.Common.{list_any, list_any-IsPermutation, lowest_free_seat, nth, option_map}
use Rattle.desk_commands.proofs.Common.{passed_take_seat, passes, refusal, seat_of, seat_rows, some_and, tables}
use Rattle.desk_commands.proofs.Common.{take_seat_checks, take_seat_facts, unwrap_or}

module _ (s : State) (sound : IsSoundOffice s) (t : ℕ) where
  -- ---- the checks, of the reader as the desk sees him

  leave_at : (o : Option Reader)
      → first_that_holds (leave_seat_checks (leave_seat_facts (option_map (sitter_of s t) o)))
      ≡ first_that_holds (leave_seat_checks (record { known = is_some o; seated = is_seated s t; held = held_count s t }))
  leave_at None = refl
  leave_at (Some reader) = rw (some_placed (is_seat_of t) s.seats) refl

  pub leave_checked : first_that_holds (leave_seat_checks (leave_seat_facts (sitter s t))) ≡ refusal s (command.LeaveSeat t)
  leave_checked = leave_at (nth s.readers t)

  take_at : (taken : List ℕ) → decision.free_seat taken s.settings.seats ≡ lowest_free_seat s → (o : Option Reader)
      → first_that_holds (take_seat_checks (take_seat_facts (option_map (sitter_of s t) o) s.day taken (limits_of s)))
      ≡ first_that_holds (take_seat_checks (record { known = is_some o; expired = some_and (λ reader. int_lt reader.until s.day) o; seated = is_seated s t; free = lowest_free_seat s }))
  take_at taken free None = refl
  take_at taken free (Some reader) = rw (some_placed (is_seat_of t) s.seats, free) refl

  -- the numbers of the rows, in whatever order, tell the least free seat
  pub least_free : (taken : List ℕ)
      → ((k : ℕ) → list_any (nat_eq k) taken ≡ list_any (nat_eq k) (map (λ (r : SeatRow). r.seat) (seat_rows s)))
      → decision.free_seat taken s.settings.seats ≡ lowest_free_seat s
  least_free taken same = ap (decision.free_seat taken) (sym sound.sound.desk.seats.count) ∙ free_is taken s.seats same

  pub take_checked : (today : ℤ) (limits : Limits) (taken : List ℕ) → today ≡ s.day → limits ≡ limits_of s
      → decision.free_seat taken s.settings.seats ≡ lowest_free_seat s
      → first_that_holds (take_seat_checks (take_seat_facts (sitter s t) today taken limits)) ≡ refusal s (command.TakeSeat t)
  take_checked today limits taken day is free =
      ap (λ d. first_that_holds (take_seat_checks (take_seat_facts (sitter s t) d taken limits))) day
      ∙ ap (λ l. first_that_holds (take_seat_checks (take_seat_facts (sitter s t) s.day taken l))) is
      ∙ take_at taken free (nth s.readers t)

  seat_at : (k : ℕ) (o : Option Reader) → decision.reader_seat (option_map (sitter_of s t) o) ≡ Some k
      → seat_of s t ≡ Some k
  seat_at k None e = absurd (cc)
  seat_at k (Some reader) e = e

  pub may_leave : (who : Option Sitter) (k : ℕ) → who ≡ sitter s t
      → None ≡ first_that_holds (leave_seat_checks (leave_seat_facts who)) → decision.reader_seat who ≡ Some k
      → MayLeave s t k
  may_leave who k is passes seat = record {
    allowed = sym leave_checked ∙ ap (λ w. first_that_holds (leave_seat_checks (leave_seat_facts w))) (sym is) ∙ sym passes;
    seat = seat_at k (nth s.readers t) (ap decision.reader_seat (sym is) ∙ seat);
  }

  pub must_stay : (who : Option Sitter) (why : Refusal) → who ≡ sitter s t
      → Some why ≡ first_that_holds (leave_seat_checks (leave_seat_facts who))
      → refusal s (command.LeaveSeat t) ≡ Some why
  must_stay who why is holds =
      sym leave_checked ∙ ap (λ w. first_that_holds (leave_seat_checks (leave_seat_facts w))) (sym is) ∙ sym holds

  -- the seats that are taken, in whatever order
  pub numbers_told : (version : Version) {taken : List TakenSeat} {numbers seen : List ℕ}
      → taken ≡ taken_seats (tables version s).desk → IsPermutation (map (λ (r : TakenSeat). r.seat) taken) numbers
      → seen ≡ numbers
      → (k : ℕ) → list_any (nat_eq k) seen ≡ list_any (nat_eq k) (map (λ (r : SeatRow). r.seat) (seat_rows s))
  numbers_told version {taken} {numbers} are same shown k =
      ap (list_any (nat_eq k)) shown
      ∙ sym (list_any-IsPermutation (nat_eq k) (map (λ (r : TakenSeat). r.seat) taken) numbers same)
      ∙ ap (λ l. list_any (nat_eq k) (map (λ (r : TakenSeat). r.seat) l)) are
      ∙ list_any-map (nat_eq k) (λ (r : TakenSeat). r.seat) (taken_seats (tables version s).desk)
      ∙ list_any-map (λ (r : TakenSeat). nat_eq k r.seat) (λ (r : SeatRow). (let x : TakenSeat = record { seat = r.seat; ticket = r.ticket } in x)) (seat_rows s)
      ∙ sym (list_any-map (nat_eq k) (λ (r : SeatRow). r.seat) (seat_rows s))

  module _ (today : ℤ) (limits : Limits) (who : Option Sitter) (day : today ≡ s.day) (allowed : limits ≡ limits_of s) (is : who ≡ sitter s t)
      (taken : List ℕ) (same : (k : ℕ) → list_any (nat_eq k) taken ≡ list_any (nat_eq k) (map (λ (r : SeatRow). r.seat) (seat_rows s))) where
    checked : first_that_holds (take_seat_checks (take_seat_facts who today taken limits)) ≡ refusal s (command.TakeSeat t)
    checked =
        ap (λ w. first_that_holds (take_seat_checks (take_seat_facts w today taken limits))) is
        ∙ take_checked today limits taken day allowed (least_free taken same)

    pub may_sit : (k : ℕ) → None ≡ first_that_holds (take_seat_checks (take_seat_facts who today taken limits))
        → decision.free_seat taken limits.seats ≡ Some k → MaySit s t k
    may_sit k passes free = record {
      allowed = sym checked ∙ sym passes;
      seat = sym (least_free taken same) ∙ ap (λ (l : Limits). decision.free_seat taken l.seats) (sym allowed) ∙ free;
    }

    pub must_stand : (why : Refusal)
        → Some why ≡ first_that_holds (take_seat_checks (take_seat_facts who today taken limits))
        → refusal s (command.TakeSeat t) ≡ Some why
    must_stand why holds = sym checked ∙ sym holds

  -- ---- the rows

  module _ (version : Version) (places : Trees → Forest ℕ → Type 0) (same : (old new : Trees) (f : Forest ℕ) → new schema.link.tree ≡ old schema.link.tree → places old f → places new f)
      (before now : Database) (it : RepresentsState places version before s) (schema_is : now.schema ≡ before.schema) (only : OnlyTouches (schema.seat.tree ∷ []) before now) (k : ℕ) where
    pub leaves : MayLeave s t k → RepresentsDesk now.trees (with_seat k None (tables version s).desk)
        → CarriesOutStep places version s (command.LeaveSeat t) (Ok (done.LeaveSeat k)) now
    leaves may shown =
        accepts places version s (command.LeaveSeat t) same before now (schema.seat.tree ∷ []) refl may.allowed tt it schema_is only
        (after s (command.LeaveSeat t)) refl refl refl (with_seat k None (tables version s).desk) shown
        (ap (λ (rows : List SeatRow). record (tables version s).desk { seats = rows }) (risen t k s.seats sound.sound.desk.seats.once may.seat))
        (done.LeaveSeat k) (ap (λ seat. done.LeaveSeat (unwrap_or seat 0)) may.seat)

    pub sits : MaySit s t k → RepresentsDesk now.trees (with_seat k (Some t) (tables version s).desk)
        → CarriesOutStep places version s (command.TakeSeat t) (Ok (done.TakeSeat k)) now
    sits may shown =
        accepts places version s (command.TakeSeat t) same before now (schema.seat.tree ∷ []) refl may.allowed tt it schema_is only
        (after s (command.TakeSeat t)) refl refl refl (with_seat k (Some t) (tables version s).desk) shown
        (ap (λ (rows : List SeatRow). record (tables version s).desk { seats = rows }) (sat t k s.seats may.seat))
        (done.TakeSeat k) (ap (λ seat. done.TakeSeat (unwrap_or seat 0)) may.seat)

  -- nobody sits there, and the ticket sits nowhere
  pub may_take : (version : Version) (k : ℕ) → MaySit s t k → MayTake k (Some t) (tables version s).desk
  may_take version k may =
      let ok = passed_take_seat s t (passes (checks s (command.TakeSeat t)) may.allowed) in
      (is_free k s.seats may.seat, sits_by_row t 1 s.seats ∙ ok.stands)
