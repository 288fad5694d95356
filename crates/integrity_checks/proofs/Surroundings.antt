-- What the desk is held against, as it was read.
use Rattle.std.proofs.Common.{◌≡◌, ℕ, ℤ, List, length, map, Bool, true, false, cond, not, nat_eq, Option, Some, None}
use Rattle.std.proofs.Common.{inl, inr, refl, sym, ap, ◌∙◌}
use Rattle.desk_core.specs.declared.consistency.context.Around.{Around}
use Rattle.desk_core.specs.declared.reader.Limits.{Limits}
use Rattle.office_tables.specs.Schema as tables
use Rattle.integrity_checks.specs.DeskChecks.{is_numbered}
use Rattle.integrity_checks.proofs.Common.{AreRead, Row, Surrounds, Trees, and_parts, any_read, are_registered_well}
use Rattle.integrity_checks.proofs.Common.{around_in, cases_Bool, desk_in, has_unread, in_any_order, list_any}
use Rattle.integrity_checks.proofs.Common.{list_any-IsPermutation, number_registered, option_map_or, or_parts}
use Rattle.integrity_checks.proofs.Common.{read_number, read_reader, readers_are_defective, readers_in, same_rows}

-- ---- the readers

none_is_none : (n : ℕ) → None ≡ Some n → ⊥
none_is_none n h = absurd cc

pub not_defective : (db : Trees) (n : ℕ) → number_registered db ≡ Some n
    → (readers_are_defective db ≡ false) × (length (readers_in db) ≡ n)
not_defective db n h = elim (cases_Bool (readers_are_defective db)) [
  | inl bad ↦ absurd (none_is_none n (sym (ap (λ b. cond b None (Some (length (readers_in db)))) bad) ∙ h))
  | inr sound ↦ (sound, ap (λ (o : Option ℕ). option_map_or (λ k. k) o 0) (sym (ap (λ b. cond b None (Some (length (readers_in db)))) sound) ∙ h))
]

not_true : (b : Bool) → not b ≡ false → b ≡ true
not_true true h = refl
not_true false h = sym h

pub all_read_well : (db : Trees) → readers_are_defective db ≡ false
    → (has_unread read_reader (db tables.reader.tree) ≡ false) × (are_registered_well (readers_in db) ≡ true)
all_read_well db h =
    let parts = or_parts (has_unread read_reader (db tables.reader.tree)) (not (are_registered_well (readers_in db))) h in
    (parts.0, not_true (are_registered_well (readers_in db)) parts.1)

-- ---- units and containers

pub numbers_met : {all : Bool} (table : List Row) (numbers : List ℕ)
    → AreRead in_any_order read_number table (map (λ n. n) numbers) all → (n : ℕ)
    → is_numbered table n ≡ list_any (nat_eq n) numbers
numbers_met table numbers it n =
    any_read read_number (nat_eq n) table ∙ list_any-IsPermutation (λ row. option_map_or (nat_eq n) (read_number row) false) table it.stored it.same
    ∙ sym (any_read read_number (nat_eq n) it.stored) ∙ ap (list_any (nat_eq n)) (sym it.are ∙ sym (same_rows numbers))

pub surrounded : (s : Around) (limits : Limits) (today : ℤ) (db : Trees) → limits.seats ≡ s.seats
    → limits.daily ≡ s.daily → limits.run ≡ s.run_size → today ≡ s.day
    → ((n : ℕ) → is_numbered (db tables.unit.tree) n ≡ list_any (nat_eq n) s.units)
    → ((n : ℕ) → is_numbered (db tables.container.tree) n ≡ list_any (nat_eq n) s.containers)
    → number_registered db ≡ Some s.readers → Surrounds s (around_in limits today db) (desk_in db)
surrounded s limits today db seats daily run day units containers count =
    let is = not_defective db s.readers count in
    record {
      seats = seats;
      daily = daily;
      run_size = run;
      day = day;
      units = units;
      containers = containers;
      tickets = (and_parts _ _ (all_read_well db is.0).1).0;
      readers = is.1;
    }
