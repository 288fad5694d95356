-- The first defect of the desk, part by part.
use Rattle.std.proofs.Common.{◌≡◌, ℕ, List, length, Bool, true, false, cond, not, ◌&&◌, ◌||◌, nat_le, Some, None, refl}
use Rattle.std.proofs.Common.{sym, ap, ◌∙◌}
use Rattle.desk_core.specs.DeskCauses.{Around}
use Rattle.office_tables.specs.Schema as tables
use Rattle.integrity_checks.specs.declared.desk_defect.DeskDefect.TheVariants.{Readers, Orders, Holdings, Runs}
use Rattle.integrity_checks.proofs.Common.{ReaderRow, Trees, are_numbered_from, defect_beside_readers, defect_of_desk}
use Rattle.integrity_checks.proofs.Common.{defect_of_orders, defect_of_past, desk_in, good_holdings_in, good_permits_in}
use Rattle.integrity_checks.proofs.Common.{good_runs_in, good_seats_in, has_unread, holdings_are_defective}
use Rattle.integrity_checks.proofs.Common.{is_good_permit, is_good_reader, is_good_seat, list_all, most_tickets}
use Rattle.integrity_checks.proofs.Common.{not-not, number_registered, or-true, orders_are_defective, read_permit}
use Rattle.integrity_checks.proofs.Common.{read_reader, read_seat, readers_in, runs_are_defective}
use Rattle.integrity_checks.proofs.Surroundings.{not_defective, all_read_well}

pub was_good : (good bad : Bool) → good ≡ not bad → good ≡ true → bad ≡ false
was_good good bad is h = sym (not-not bad) ∙ ap not (sym is ∙ h)

pub was_bad : (good bad : Bool) → good ≡ not bad → good ≡ false → bad ≡ true
was_bad good bad is h = sym (not-not bad) ∙ ap not (sym is ∙ h)

turned : {X : Type 0} (b : Bool) (x y : X) → cond (not b) x y ≡ cond b y x
turned true x y = refl
turned false x y = refl

-- ---- readers

cards : (us up gs gp : Bool) → ((us || up) || not (gs && gp)) ≡ not ((not us && gs) && (not up && gp))
cards true up gs gp = refl
cards false true true gp = refl
cards false true false gp = refl
cards false false true true = refl
cards false false true false = refl
cards false false false gp = refl

good_readers : (ur n f r us up gs gp : Bool) → ur ≡ false → (n && (f && r)) ≡ true
    → ((ur || (us || up)) || not (n && (f && (r && (gs && gp))))) ≡ not ((not us && gs) && (not up && gp))
good_readers true n f r us up gs gp h k = absurd (cc)
good_readers false false f r us up gs gp h k = absurd (cc)
good_readers false true false r us up gs gp h k = absurd (cc)
good_readers false true true false us up gs gp h k = absurd (cc)
good_readers false true true true us up gs gp h k = cards us up gs gp

unregistered : (ur n f r us up gs gp : Bool) → (ur || not (n && (f && r))) ≡ true
    → ((ur || (us || up)) || not (n && (f && (r && (gs && gp))))) ≡ true
unregistered true n f r us up gs gp h = refl
unregistered false false f r us up gs gp h = or-true (us || up)
unregistered false true false r us up gs gp h = or-true (us || up)
unregistered false true true false us up gs gp h = or-true (us || up)
unregistered false true true true us up gs gp h = absurd (cc)

not_counted : (bad : Bool) (n : ℕ) → cond bad None (Some n) ≡ None → bad ≡ true
not_counted true n h = refl
not_counted false n h = absurd (cc)

module _ (a : Around) (db : Trees) where
  abbrev readers : List ReaderRow
  readers = readers_in db

  abbrev numbered : Bool
  numbered = are_numbered_from (λ (row : ReaderRow). row.ticket) 1 readers

  pub defect_of_cards : (n : ℕ) → number_registered db ≡ Some n → defect_beside_readers a db ≡ defect_of_desk a db
  defect_of_cards n some =
      let well = all_read_well db (not_defective db n some).0 in
      sym (turned (good_seats_in a db && good_permits_in a db) (Some Readers) (defect_of_orders a db))
      ∙ sym (ap (λ b. cond b (Some Readers) (defect_of_orders a db))
      (good_readers (has_unread read_reader (db tables.reader.tree)) numbered (nat_le (length readers) most_tickets) (list_all is_good_reader readers)
      (has_unread read_seat (db tables.seat.tree)) (has_unread read_permit (db tables.permit.tree)) (list_all (is_good_seat a (desk_in db)) (desk_in db).seats) (list_all (is_good_permit a (desk_in db)) (desk_in db).permits)
      well.0 well.1))

  pub bad_readers : number_registered db ≡ None → Some Readers ≡ defect_of_desk a db
  bad_readers none =
      sym (ap (λ b. cond b (Some Readers) (defect_of_orders a db))
      (unregistered (has_unread read_reader (db tables.reader.tree)) numbered (nat_le (length readers) most_tickets) (list_all is_good_reader readers)
      (has_unread read_seat (db tables.seat.tree)) (has_unread read_permit (db tables.permit.tree)) (list_all (is_good_seat a (desk_in db)) (desk_in db).seats) (list_all (is_good_permit a (desk_in db)) (desk_in db).permits)
      (not_counted _ (length readers) none)))

  -- ---- seats and permits

  pub bad_seats : good_seats_in a db ≡ false → Some Readers ≡ defect_beside_readers a db
  bad_seats h = sym (ap (λ b. cond (b && good_permits_in a db) (defect_of_orders a db) (Some Readers)) h)

  pub bad_permits : good_seats_in a db ≡ true → good_permits_in a db ≡ false → Some Readers ≡ defect_beside_readers a db
  bad_permits h k = sym (ap (λ b. cond (b && good_permits_in a db) (defect_of_orders a db) (Some Readers)) h ∙ ap (λ b. cond b (defect_of_orders a db) (Some Readers)) k)

  pub good_cards : good_seats_in a db ≡ true → good_permits_in a db ≡ true
      → defect_of_orders a db ≡ defect_beside_readers a db
  good_cards h k = sym (ap (λ b. cond (b && good_permits_in a db) (defect_of_orders a db) (Some Readers)) h ∙ ap (λ b. cond b (defect_of_orders a db) (Some Readers)) k)

  -- ---- orders

  pub bad_orders : orders_are_defective a db ≡ true → Some Orders ≡ defect_of_orders a db
  bad_orders h = sym (ap (λ b. cond b (Some Orders) (defect_of_past a db)) h)

  pub sound_orders : orders_are_defective a db ≡ false → defect_of_past a db ≡ defect_of_orders a db
  sound_orders h = sym (ap (λ b. cond b (Some Orders) (defect_of_past a db)) h)

  -- ---- holdings and runs

  pub bad_holdings : good_holdings_in a db ≡ false → Some Holdings ≡ defect_of_past a db
  bad_holdings h = sym (ap (λ b. cond b (Some Holdings) (cond (runs_are_defective a db) (Some Runs) None)) (was_bad _ (holdings_are_defective a db) refl h))

  pub bad_runs : good_holdings_in a db ≡ true → good_runs_in a db ≡ false → Some Runs ≡ defect_of_past a db
  bad_runs h k =
      sym (ap (λ b. cond b (Some Holdings) (cond (runs_are_defective a db) (Some Runs) None)) (was_good _ (holdings_are_defective a db) refl h)
      ∙ ap (λ b. cond b (Some Runs) None) (was_bad _ (runs_are_defective a db) refl k))

  pub no_defect : good_holdings_in a db ≡ true → good_runs_in a db ≡ true → None ≡ defect_of_past a db
  no_defect h k =
      sym (ap (λ b. cond b (Some Holdings) (cond (runs_are_defective a db) (Some Runs) None)) (was_good _ (holdings_are_defective a db) refl h)
      ∙ ap (λ b. cond b (Some Runs) None) (was_good _ (runs_are_defective a db) refl k))
