-- A permit that is taken back, in the rows of the desk.
use Rattle.std.proofs.Common.{◌≡◌, ℕ, Bool, true, false, not, cond, List, [], ◌∷◌, filter, Some, inl, inr, refl, sym}
use Rattle.std.proofs.Common.{ap, subst, ◌∙◌, nat_eq}
use Rattle.isad_core.specs.Days.{is_day_number}
use Rattle.tree_core.proofs.Lists.{eqb_comm}
use Rattle.catalogue_core.proofs.DistinctLists.{all_so}
use Rattle.catalogue_core.specs.UnitLookup.{has_unit}
use Rattle.catalogue_core.specs.Units.{Unit, has_id}
use Rattle.office_tables.specs.Schema as schema
use Rattle.desk_store.specs.Permits.{desk_without_permit, is_permit}
use Rattle.office_core.specs.AccessRestrictions.{MayRevoke}
use Rattle.office_core.specs.declared.command.Command.TheVariants as command
use Rattle.refinement.proofs.PermitsShown.{revoked_rows}
use Rattle.access.proofs.OpenByPermits.{IsAlike, permitted_left}
use Rattle.access.proofs.OpenElsewhere.{none_left, stays_permitted, still_open}
use Rattle.access.specs.Gate.{OthersAreOpen}
use Rattle.desk_commands.proofs.Common.{AllByRecursion, AreTexts, CanBeJudged, Database, Forest, IsLegible}
use Rattle.desk_commands.proofs.Common.{IsSoundOffice, NoPermit, OnlyTouches, Permit, PermitRow, RepresentsDesk}
use Rattle.desk_commands.proofs.Common.{RepresentsState, State, Trees, UnknownTicket, UnknownUnit, Version, after}
use Rattle.desk_commands.proofs.Common.{cases_eq, cut, desk_step, eqb-true, first_that_holds, gate, has_permit}
use Rattle.desk_commands.proofs.Common.{is_permitted, is_ticket, judged_now, nodes, permit_rows, put_here, put_there}
use Rattle.desk_commands.proofs.Common.{refusal, revoked, tables, update_at}

all_kept : {X : Type 0} (P : X → Type 0) (p : X → Bool) (xs : List X) → AllByRecursion P xs
    → AllByRecursion P (filter p xs)
all_kept P p [] all = tt
all_kept P p (x ∷ xs) all = at (p x) (all_kept P p xs all.1)
  where
    at : (b : Bool) → AllByRecursion P (filter p xs) → AllByRecursion P (cond b (x ∷ filter p xs) (filter p xs))
    at true rest = (all.0, rest)
    at false rest = rest

-- ---- the checks

pub no_ticket : (s : State) (t u : ℕ) → is_ticket s t ≡ false → refusal s (command.Revoke t u) ≡ Some UnknownTicket
no_ticket s t u unknown = rw unknown refl

pub no_unit : (s : State) (t u : ℕ) → is_ticket s t ≡ true → has_unit s.catalogue.forest u ≡ false
    → refusal s (command.Revoke t u) ≡ Some UnknownUnit
no_unit s t u ticket unknown = rw (ticket, unknown) refl

pub no_permit : (s : State) (t u : ℕ) → is_ticket s t ≡ true → has_unit s.catalogue.forest u ≡ true
    → has_permit s t u ≡ false → refusal s (command.Revoke t u) ≡ Some NoPermit
no_permit s t u ticket unit none = rw (ticket, unit, none) refl

-- only the gate is left to be asked
pub gate_is_left : (s : State) (t u : ℕ) → MayRevoke s t u
    → refusal s (command.Revoke t u) ≡ first_that_holds (gate (after s (command.Revoke t u)) ∷ [])
gate_is_left s t u has = rw (has.ticket, has.unit, has.permit) refl

-- ---- the rows

module _ (s : State) (sound : IsSoundOffice s) (t u : ℕ) where
  abbrev next : State
  next = after s (command.Revoke t u)

  legible : (version : Version) → IsLegible (tables version next).desk
  legible version =
      let were = (judged_now s sound).desk version in
      record {
        readers = were.readers;
        seats = were.seats;
        orders = were.orders;
        holdings = were.holdings;
        runs = were.runs;
        permits = subst (AllByRecursion (λ (p : PermitRow). is_day_number p.until ≡ true)) (sym (revoked_rows t u s))
            (all_kept (λ (p : PermitRow). is_day_number p.until ≡ true) (λ row. not (is_permit t u row)) (permit_rows s) were.permits);
      }

  only_readers : (n : ℕ) → is_ticket s n ≡ false → update_at s.permits t (revoked u (s.permits t)) n ≡ []
  only_readers n unknown = elim (cases_eq n t) [
    | inl same ↦
        let none : s.permits t ≡ [] = ap s.permits (sym same) ∙ sound.sound.desk.permits.known n unknown in
        ap (update_at s.permits t (revoked u (s.permits t))) same ∙ put_here s.permits t (revoked u (s.permits t)) ∙ ap (revoked u) none
    | inr other ↦ put_there s.permits t (revoked u (s.permits t)) n other ∙ sound.sound.desk.permits.known n unknown
  ]

  pub judged : CanBeJudged next
  judged =
      let were = judged_now s sound in
      record {
        catalogue = were.catalogue;
        containers = were.containers;
        units = were.units;
        desk = legible;
        permits = only_readers;
        orders = were.orders;
      }

  texts : AreTexts s → AreTexts next
  texts are = record { country = are.country; repo = are.repo; catalogue = are.catalogue; readers = are.readers }

  pub represents : (places : Trees → Forest ℕ → Type 0)
      → ((old new : Trees) (f : Forest ℕ) → new schema.link.tree ≡ old schema.link.tree → places old f → places new f)
      → (version : Version) (before now : Database) → RepresentsState places version before s
      → now.schema ≡ before.schema → OnlyTouches (schema.permit.tree ∷ []) before now
      → RepresentsDesk now.trees (desk_without_permit t u (tables version s).desk) → RepresentsState places version now next
  represents places same version before now it schema_is only shown =
      desk_step places same version s next before now (schema.permit.tree ∷ []) refl schema_is only it (desk_without_permit t u (tables version s).desk) shown
      (ap (λ (rows : List PermitRow). record (tables version s).desk { permits = rows }) (revoked_rows t u s)) refl refl (texts it.texts)

  -- ---- the gate

  abbrev left : ℕ → List Permit
  left = update_at s.permits t (revoked u (s.permits t))

  -- for other units the permits are those that there were
  for_others : (n v : ℕ) → nat_eq u v ≡ false → is_permitted s.day (s.permits n) v ≡ is_permitted s.day (left n) v
  for_others n v other = at (nat_eq t n) refl
    where
      at : (b : Bool) → nat_eq t n ≡ b
          → is_permitted s.day (s.permits n) v ≡ is_permitted s.day (cond b (revoked u (s.permits t)) (s.permits n)) v
      at false e = refl
      at true e =
          ap (λ k. is_permitted s.day (s.permits k) v) (sym (eqb-true t n e))
          ∙ sym (permitted_left (λ w. not (nat_eq w u)) s.day (s.permits t) v (ap not (eqb_comm v u ∙ other)))

  -- of what is out only what is near the unit can be withheld by that
  pub revokes_near : OthersAreOpen u next
  revokes_near c far =
      let f = s.catalogue.forest in
      let rest = cut (has_id u) f in
      still_open s sound f left c (λ n box is was.
      let permitted = is_permitted s.day (s.permits n) in
      let permitted_now = is_permitted s.day (left n) in
      stays_permitted s sound u c far box is permitted_now permitted_now (all_so (λ (unit : Unit). has_id u unit ≡ false) (IsAlike permitted_now permitted_now) (λ unit other. refl) (nodes rest) (none_left u f))
      ∙ sym (stays_permitted s sound u c far box is permitted permitted_now (all_so (λ (unit : Unit). has_id u unit ≡ false) (IsAlike permitted permitted_now) (λ unit other. for_others n unit.id other) (nodes rest) (none_left u f)))
      ∙ was)
