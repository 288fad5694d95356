-- A permit that is granted, in the rows of the desk.
use Rattle.std.proofs.Common.{◌≡◌, ℕ, ℤ, ◌<◌, pos, Bool, true, false, not, cond, ◌&&◌, ◌||◌, nat_eq, List, [], ◌∷◌}
use Rattle.std.proofs.Common.{length, map, Some, None, Ok, Less, inl, inr, refl, sym, ap, subst, ◌∙◌, arith}
use Rattle.std.specs.Ordering.{int_cmp}
use Rattle.sqlite.specs.Order.{Row}
use Rattle.sqlite.specs.declared.types.Value.TheVariants.{Int}
use Rattle.catalogue_core.specs.UnitLookup.{has_unit}
use Rattle.catalogue_core.specs.Units.{Unit, has_id}
use Rattle.office_tables.proofs.Sorted.{only_order}
use Rattle.office_tables.proofs.numbered.Counted.{below_less}
use Rattle.office_tables.specs.Order.{IsOrdered, Rises}
use Rattle.office_tables.specs.Schema as schema
use Rattle.catalogue_statements.specs.Rows.{cells_of_unit}
use Rattle.desk_store.specs.Permits.{HasUnitRow, MayHave, by_permitted_unit, desk_with_permit, permits_of}
use Rattle.desk_store.specs.declared.reader_permits.Permit.{Permit as Told}
use Rattle.office_core.proofs.Counts.{numbered_from_one}
use Rattle.office_core.specs.declared.command.Command.TheVariants as command
use Rattle.office_core.specs.declared.done.Done.TheVariants as done
use Rattle.refinement.proofs.PermitsShown.{granted_rows, permits_reordered, permits_shown, told_of, by_unit_total}
use Rattle.desk_commands.specs.Permits.{MayPermit, later_of, until_for}
use Rattle.desk_commands.proofs.Common.{AllByRecursion, ByUnit, CarriesOutStep, Database, Forest, Full, IsPermutation}
use Rattle.desk_commands.proofs.Common.{IsSoundOffice, OnlyTouches, Permit, RepresentsDesk, RepresentsState, StandsIn}
use Rattle.desk_commands.proofs.Common.{State, Trees, UnknownTicket, UnknownUnit, Version, accepts, after, checks}
use Rattle.desk_commands.proofs.Common.{eqb-true, find, granted_until, has_permit, held_so, int_lt, is_some, is_ticket}
use Rattle.desk_commands.proofs.Common.{length-map, length-rows, list_any, list_any-IsPermutation, most_permits, nat_le}
use Rattle.desk_commands.proofs.Common.{nodes, numbered_within, option_map, passed_permit, passes, permit_rows}
use Rattle.desk_commands.proofs.Common.{reader_row, refusal, rowid, some_in, tables}

-- ---- the permits that are read

all_above : (n : ℕ) (ps : List Permit) → AllByRecursion (λ (q : Permit). n < q.unit) ps
    → AllByRecursion (λ (y : Told). int_cmp (pos n) (pos y.unit) ≡ Less) (map told_of ps)
all_above n [] above = tt
all_above n (p ∷ ps) above = (below_less n p.unit above.0, all_above n ps above.1)

rise : (ps : List Permit) → ByUnit ps → Rises by_permitted_unit (map told_of ps)
rise [] by = tt
rise (p ∷ ps) by = (all_above p.unit ps by.0, rise ps by.1)

-- they are the ticket's, as the state has them
pub read_are : (version : Version) (s : State) → IsSoundOffice s → (t : ℕ) (held : List Told)
    → IsOrdered by_permitted_unit (permits_of t (tables version s).desk) held → held ≡ map told_of (s.permits t)
read_are version s sound t held ordered =
    let good = sound.sound.desk.permits in
    let is = permits_shown version s good t in
    only_order by_permitted_unit by_unit_total (map told_of (s.permits t)) held (rise (s.permits t) (good.by_unit t)) ordered.1 (subst (λ l. IsPermutation l held) is ordered.0)

some_until : (u : ℕ) (ps : List Permit)
    → is_some (until_for u (map told_of ps)) ≡ list_any (λ (p : Permit). nat_eq p.unit u) ps
some_until u [] = refl
some_until u (p ∷ ps) = at (nat_eq p.unit u) (some_until u ps)
  where
    at : (b : Bool) → is_some (until_for u (map told_of ps)) ≡ list_any (λ (p : Permit). nat_eq p.unit u) ps
        → is_some (option_map (λ (q : Told). q.until) (cond b (Some (told_of p)) (find (λ (q : Told). nat_eq q.unit u) (map told_of ps)))) ≡ (b || list_any (λ (p : Permit). nat_eq p.unit u) ps)
    at true rest = refl
    at false rest = rest

later_until : (u : ℕ) (day : ℤ) (ps : List Permit)
    → later_of (until_for u (map told_of ps)) day ≡ granted_until u day ps
later_until u day [] = refl
later_until u day (p ∷ ps) = at (nat_eq p.unit u) (later_until u day ps)
  where
    at : (b : Bool) → later_of (until_for u (map told_of ps)) day ≡ granted_until u day ps
        → later_of (option_map (λ (q : Told). q.until) (cond b (Some (told_of p)) (find (λ (q : Told). nat_eq q.unit u) (map told_of ps)))) day ≡ cond b (cond (int_lt p.until day) day p.until) (granted_until u day ps)
    at true rest = refl
    at false rest = rest

module _ (version : Version) (s : State) (sound : IsSoundOffice s) (t u : ℕ) {held told : List Told} (same : held ≡ told) (ordered : IsOrdered by_permitted_unit (permits_of t (tables version s).desk) told) where
  read : IsOrdered by_permitted_unit (permits_of t (tables version s).desk) held
  read = subst (IsOrdered by_permitted_unit (permits_of t (tables version s).desk)) (sym same) ordered

  pub has_read : is_some (until_for u held) ≡ has_permit s t u
  has_read = ap (λ l. is_some (until_for u l)) (read_are version s sound t held read) ∙ some_until u (s.permits t)

  pub many_read : length held ≡ length (s.permits t)
  many_read = ap length (read_are version s sound t held read) ∙ length-map (s.permits t) told_of

  pub later_read : (day : ℤ) → later_of (until_for u held) day ≡ granted_until u day (s.permits t)
  later_read day = ap (λ l. later_of (until_for u l) day) (read_are version s sound t held read) ∙ later_until u day (s.permits t)

  pub full_is : (not (is_some (until_for u held)) && nat_le most_permits (length held)) ≡ (not (has_permit s t u) && nat_le most_permits (length (s.permits t)))
  full_is =
      ap (λ b. not b && nat_le most_permits (length held)) has_read
      ∙ ap (λ n. not (has_permit s t u) && nat_le most_permits n) many_read

-- ---- the checks

pub no_ticket : (s : State) (t u : ℕ) (day : ℤ) → is_ticket s t ≡ false
    → refusal s (command.Permit t u day) ≡ Some UnknownTicket
no_ticket s t u day unknown = rw unknown refl

pub no_unit : (s : State) (t u : ℕ) (day : ℤ) → is_ticket s t ≡ true → has_unit s.catalogue.forest u ≡ false
    → refusal s (command.Permit t u day) ≡ Some UnknownUnit
no_unit s t u day ticket unknown = rw (ticket, unknown) refl

pub last_check : (s : State) (t u : ℕ) (day : ℤ) (b : Bool) → is_ticket s t ≡ true
    → has_unit s.catalogue.forest u ≡ true → (not (has_permit s t u) && nat_le most_permits (length (s.permits t))) ≡ b
    → refusal s (command.Permit t u day) ≡ cond b (Some Full) None
last_check s t u day true ticket unit full = rw (ticket, unit, full) refl
last_check s t u day false ticket unit room = rw (ticket, unit, room) refl

-- ---- the rows

has_number : {X : Type 0} (f : X → Row) (key : X → ℕ) → ((x : X) → rowid (f x) ≡ Int (pos (key x)))
    → (u : ℕ) (xs : List X) → (x : X) → StandsIn x xs → nat_eq u (key x) ≡ true → HasUnitRow u (λ _. map f xs)
has_number f key is u [] x there same = absurd there
has_number f key is u (y ∷ ys) x there same = elim there [
  | inl e ↦ (f y, inl refl, is y ∙ ap (λ n. Int (pos n)) (ap key (sym e) ∙ sym (eqb-true u (key x) same)))
  | inr later ↦ let found = has_number f key is u ys x later same in (found.0, inr found.1, found.2)
]

has_unit_row : (places : Trees → Forest ℕ → Type 0) (version : Version) (s : State) (db : Database) (u : ℕ)
    → RepresentsState places version db s → has_unit s.catalogue.forest u ≡ true → HasUnitRow u db.trees
has_unit_row places version s db u it there =
    let shown = it.catalogue.catalogue.units in
    let found = some_in (has_id u) shown.units (sym (list_any-IsPermutation (has_id u) (nodes s.catalogue.forest) shown.units shown.are) ∙ there) in
    subst (λ (rows : List Row). HasUnitRow u (λ _. rows)) (sym shown.rows) (has_number cells_of_unit (λ (x : Unit). x.id) (λ x. refl) u shown.units found.0 found.1 found.2)

module _ (version : Version) (s : State) (sound : IsSoundOffice s) (t u : ℕ) (asked until : ℤ) (may : MayPermit s t u asked until) where
  pub may_have : (places : Trees → Forest ℕ → Type 0) (db : Database) → RepresentsState places version db s
      → MayHave t u db.trees (tables version s).desk
  may_have places db it =
      let ok = passed_permit s t u asked (passes (checks s (command.Permit t u asked)) may.allowed) in
      let known = ok.known in
      let within = numbered_within s.readers t known in
      let many = length-rows reader_row 1 s.readers in
      ((numbered_from_one s.readers t known, omega (arith, within, many)), has_unit_row places version s db u it ok.unit)

  pub permits : (places : Trees → Forest ℕ → Type 0)
      → ((old new : Trees) (f : Forest ℕ) → new schema.link.tree ≡ old schema.link.tree → places old f → places new f)
      → (before now : Database) → RepresentsState places version before s → now.schema ≡ before.schema
      → OnlyTouches (schema.permit.tree ∷ []) before now
      → RepresentsDesk now.trees (desk_with_permit t u until (tables version s).desk)
      → CarriesOutStep places version s (command.Permit t u asked) (Ok (done.Permit t u until)) now
  permits places same before now it schema_is only shown =
      let next = after s (command.Permit t u asked) in
      let known = held_so (is_ticket s t) _ (passes (checks s (command.Permit t u asked)) may.allowed).0 in
      let reordered = granted_rows s t u asked sound.sound.desk.permits (numbered_from_one s.readers t known) (numbered_within s.readers t known) in
      let stands = subst (λ day. RepresentsDesk now.trees (desk_with_permit t u day (tables version s).desk)) may.stands shown in
      accepts places version s (command.Permit t u asked) same before now (schema.permit.tree ∷ []) refl may.allowed tt it schema_is only
      next refl refl refl (tables version next).desk
      (permits_reordered now.trees (desk_with_permit t u (granted_until u asked (s.permits t)) (tables version s).desk) (permit_rows next) reordered stands)
      refl (done.Permit t u until) (ap (done.Permit t u) (sym may.stands))
