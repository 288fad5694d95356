-- Permits that are told, granted and taken back, on the whole desk.
use Rattle.std.proofs.Common.{◌≡◌, ℕ, ◌+◌, ◌<◌, ℤ, pos, List, [], ◌∷◌, length, map, filter, get_or, Bool, false, not}
use Rattle.std.proofs.Common.{nat_eq, Equal, Result, Err, OnOk, inl, inr, refl, sym, ap, ap₂, subst, ◌∙◌, arith}
use Rattle.sqlite_rules.specs.Lists.{Has}
use Rattle.sqlite_trees.specs.declared.store.Store as store
use Rattle.office_tables.specs.NumberedStatements.{PutsNumbered, ThinsNumbered}
use Rattle.office_tables.specs.Schema as tables
use Rattle.desk_store.proofs.Common.{AllByRecursion, Desk, Goes, HasCleanDisk, HasNumbered, HasUnitRow, Held, Int}
use Rattle.desk_store.proofs.Common.{IsLegible, IsNumberOf, IsOrdered, IsPermutation, IsSorted, MayHave, OnlyTouches}
use Rattle.desk_store.proofs.Common.{PermitRow, PutsRow, RepresentsDesk, RepresentsDeskAlone, Row, State, StoreFault}
use Rattle.desk_store.proofs.Common.{StoreUpdates, Trees, all-filter, by_permitted_unit, cases_Bool, cut_then}
use Rattle.desk_store.proofs.Common.{desk_with_permit, desk_without_permit, early, eqb-true, get_or-map, goes_then, had}
use Rattle.desk_store.proofs.Common.{has_at, has_filtered, int_cmp, int_cmp_total, is_lt, is_permit, last_cause}
use Rattle.desk_store.proofs.Common.{last_touched, length-map, list_any, next_rowid, on_err_then, on_ok_both}
use Rattle.desk_store.proofs.Common.{on_ok_then, one_more, or_from, ordering_then, permit_cells, rowid, state}
use Rattle.desk_store.proofs.Common.{still_unlimited, tied_itself, told_permuted, untouched, untouched_last}
use Rattle.desk_store.proofs.Common.{with_permit_row, without_permit, ⊤}
use Rattle.desk_store.proofs.Frames.{with_permits}
use Rattle.desk_store.proofs.PermitRows.{by_ticket, permit_of, told_of}

-- ---- what is told

-- of one ticket the units alone make the order
not_below : (a b : ℤ × PermitRow) (t : ℕ) → a.1.ticket ≡ t → b.1.ticket ≡ t → is_lt (by_ticket a b) ≡ false
    → is_lt (by_permitted_unit (told_of a) (told_of b)) ≡ false
not_below a b t at_a at_b h =
    let tied : int_cmp (pos a.1.ticket) (pos b.1.ticket) ≡ Equal =
    ap₂ (λ m n. int_cmp (pos m) (pos n)) at_a at_b ∙ tied_itself int_cmp_total (pos t) in
    ap (λ o. is_lt (ordering_then o (int_cmp (pos a.1.unit) (pos b.1.unit)))) (sym tied) ∙ h

module _ (t : ℕ) (there : List Row) (ps : List PermitRow) (at : HasNumbered permit_cells there ps) where
  abbrev theirs : List (ℤ × PermitRow)
  theirs = filter (λ (x : ℤ × PermitRow). nat_eq t x.1.ticket) at.numbered

  abbrev of_ticket : PermitRow → Bool
  of_ticket p = nat_eq t p.ticket

  told_sorted : (ys : List (ℤ × PermitRow)) → IsPermutation theirs ys → IsSorted by_ticket ys
      → IsSorted by_permitted_unit (map told_of ys)
  told_sorted ys same sorted = λ k d low high.
      let own = λ (x : ℤ × PermitRow) (h : Has ys x). sym (eqb-true t x.1.ticket (has_filtered (λ (x : ℤ × PermitRow). nat_eq t x.1.ticket) at.numbered x (had theirs ys same x h)).1) in
      let e : ℤ × PermitRow = (pos 0, record { ticket = t; unit = d.unit; until = d.until }) in
      let size = length-map ys told_of in
      let next : k + 1 < length ys = omega (arith, high, size) in
      let here : k < length ys = omega (arith, next) in
      let less = not_below (get_or ys (k + 1) e) (get_or ys k e) t (own (get_or ys (k + 1) e) (has_at ys (k + 1) e next)) (own (get_or ys k e) (has_at ys k e here)) (sorted k e low next) in
      ap₂ (λ a b. is_lt (by_permitted_unit a b)) (get_or-map told_of ys (k + 1) e d next) (get_or-map told_of ys k e d here) ∙ less

  pub told_ordered : (ys : List (ℤ × PermitRow)) → IsOrdered by_ticket theirs ys
      → IsOrdered by_permitted_unit (map permit_of (filter of_ticket ps)) (map told_of ys)
  told_ordered ys ordered =
      (told_permuted permit_cells permit_of there ps at of_ticket ys ordered.0, told_sorted ys ordered.0 ordered.1)

-- ---- the ticket has no permit any more

-- those that are left are of tickets that were given
tickets_left : (t u : ℕ) (d : Desk) (db : Trees) → RepresentsDesk db d
    → AllByRecursion (λ (p : PermitRow). IsNumberOf d.readers p.ticket) (without_permit t u d.permits)
tickets_left t u d db shown =
    all-filter (λ (p : PermitRow). IsNumberOf d.readers p.ticket) (λ p. not (is_permit t u p)) d.permits shown.permit_tickets

none_left : (t u : ℕ) (ps : List PermitRow) → list_any (is_permit t u) (without_permit t u ps) ≡ false
none_left t u [] = refl
none_left t u (p ∷ ps) = elim (cases_Bool (is_permit t u p)) [
  | inl found ↦ rw found (none_left t u ps)
  | inr other ↦ rw other (or_from _ _ other (none_left t u ps))
]

-- ---- a permit is taken back

module _ {S : Type 0} (g : store.Ghosts S) (before after : Held S) (r : Result Unit StoreFault) where
  abbrev old : State
  old = state g before

  abbrev new : State
  new = state g after

  pub takes_back : (t u : ℕ) → ThinsNumbered g tables.permit permit_cells before after r (without_permit t u)
      → StoreUpdates g (tables.permit.tree ∷ []) RepresentsDeskAlone before after r (λ _. ⊤) IsLegible (desk_without_permit t u)
  takes_back t u thins = record {
    call = record {
      represents_updated = λ clean beside d shown may. on_ok_both r _ _ _ (λ touches has. with_permits old.now new.now d shown _ touches has (tickets_left t u d old.now.trees shown)) (thins.only clean) (thins.rows clean d.permits shown.permits);
      only = thins.only;
      goes = thins.leaves.goes;
      aborts = thins.leaves.aborts;
      faults = λ beside d shown may kept. thins.faults;
    };
    spares = λ clean. untouched_last (tables.permit.tree ∷ []) old new r (thins.leaves.spares clean);
  }

-- ---- a permit is granted: first the one that there is goes

module _ {S : Type 0} (g : store.Ghosts S) (before mid after : Held S) (t u : ℕ) (until : ℤ) where
  abbrev a : State
  a = state g before

  abbrev b : State
  b = state g mid

  abbrev c : State
  c = state g after

  abbrev row : PermitRow
  row = record { ticket = t; unit = u; until = until }

  pub not_cleared : (e : StoreFault)
      → ThinsNumbered {X = Unit} g tables.permit permit_cells before mid (Err e) (without_permit t u)
      → StoreUpdates {X = Unit} g (tables.permit.tree ∷ []) RepresentsDeskAlone before mid (Err e) (MayHave t u a.now.trees) IsLegible (desk_with_permit t u until)
  not_cleared e thins = record {
    call = record {
      represents_updated = λ clean beside d shown may. tt;
      only = λ clean. tt;
      goes = tt;
      aborts = thins.leaves.aborts;
      faults = λ beside d shown may kept. thins.faults;
    };
    spares = λ clean. untouched (tables.permit.tree ∷ []) a b e (thins.leaves.spares clean);
  }

  module _ (goes : Goes a b) (only : HasCleanDisk b → OnlyTouches (tables.permit.tree ∷ []) a.now b.now) (left : HasCleanDisk b → (ps : List PermitRow) → HasNumbered permit_cells (a.now.trees tables.permit.tree) ps → HasNumbered permit_cells (b.now.trees tables.permit.tree) (without_permit t u ps))
      (r : Result Unit StoreFault) (puts : PutsNumbered g tables.permit permit_cells mid after r row (λ s ps. (list_any (is_permit t u) ps ≡ false) × HasUnitRow u s.now.trees)) where
    still_there : HasCleanDisk b → HasUnitRow u a.now.trees → HasUnitRow u b.now.trees
    still_there clean known =
        subst (λ rows. (row : Row) × Has rows row × (rowid row ≡ Int (pos u))) (sym (only clean tables.unit.tree refl refl)) known

    row_put : HasCleanDisk b
        → PutsRow tables.permit.tree (permit_cells (next_rowid (b.now.trees tables.permit.tree), row)) b.now c.now
        → (ps : List PermitRow) → HasNumbered permit_cells (a.now.trees tables.permit.tree) ps
        → HasNumbered permit_cells (c.now.trees tables.permit.tree) (with_permit_row t u until ps)
    row_put clean at ps stored =
        one_more permit_cells (λ _. refl) (b.now.trees tables.permit.tree) (c.now.trees tables.permit.tree) (without_permit t u ps) (next_rowid (b.now.trees tables.permit.tree)) row (left clean ps stored) at.rows at.fresh

    pub rows_granted : HasCleanDisk c → (ps : List PermitRow)
        → HasNumbered permit_cells (a.now.trees tables.permit.tree) ps
        → OnOk r (HasNumbered permit_cells (c.now.trees tables.permit.tree) (with_permit_row t u until ps))
    rows_granted clean ps stored =
        on_ok_then r _ _ (λ at. row_put (early puts.leaves.crash clean) at ps stored) (puts.puts clean)

    put : HasCleanDisk b
        → PutsRow tables.permit.tree (permit_cells (next_rowid (b.now.trees tables.permit.tree), row)) b.now c.now
        → (d : Desk) → RepresentsDesk a.now.trees d → IsNumberOf d.readers t
        → RepresentsDesk c.now.trees (desk_with_permit t u until d)
    put clean at d shown given =
        with_permits a.now c.now d shown (with_permit_row t u until d.permits) (λ tree known other. at.only tree known other ∙ only clean tree known other)
        (row_put clean at d.permits shown.permits) (given, tickets_left t u d a.now.trees shown)

    pub grants : StoreUpdates g (tables.permit.tree ∷ []) RepresentsDeskAlone before after r (MayHave t u a.now.trees) IsLegible (desk_with_permit t u until)
    grants =
        let leaves = puts.leaves in
        let back = early leaves.crash in
        record {
          call = record {
            represents_updated = λ clean beside d shown may. on_ok_then r _ _ (λ at. put (back clean) at d shown may.0) (puts.puts clean);
            only = λ clean. on_ok_then r _ _ (λ (at : PutsRow tables.permit.tree (permit_cells (next_rowid (b.now.trees tables.permit.tree), row)) b.now c.now) tree known other. at.only tree known other ∙ only (back clean) tree known other) (puts.puts clean);
            goes = on_ok_then r _ _ (goes_then goes) leaves.goes;
            aborts = on_err_then r _ _ (cut_then goes.on) leaves.aborts;
            faults = λ beside d shown may kept clean free. last_cause a b c goes.on r leaves.aborts clean (λ cleaner.
                puts.faults (without_permit t u d.permits) (left cleaner d.permits shown.permits) (none_left t u d.permits, still_there cleaner may.1) clean (still_unlimited a b goes.on free));
          };
          spares = λ clean. last_touched (tables.permit.tree ∷ []) a b c goes.on only r leaves.aborts clean (untouched_last (tables.permit.tree ∷ []) b c r (leaves.spares clean));
        }
