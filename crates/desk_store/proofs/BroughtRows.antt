-- The statement on the day of a run: what its text means, what it tells, and why it fails. And the lines of a run, as they are told.
use Rattle.std.proofs.Common.{◌≡◌, ℕ, pos, Bool, List, [], ◌∷◌, ◌++◌, map, filter, find, codes, true, cond, Option}
use Rattle.std.proofs.Common.{Some, None, Result, IfOk, IfErr, nat_eq, inl, inr, refl, sym, ap, ap₂, subst, ◌∙◌}
use Rattle.std.specs.declared.cmp.Ordering.{Ordering}
use Rattle.sqlite.specs.Listing.{understood}
use Rattle.sqlite_tied.specs.Compute.{everything}
use Rattle.desk_store.specs.declared.run_lines.RunDay.{RunDay}
use Rattle.desk_store.proofs.Common.{AllByRecursion, AllZip, Binary, BoxKey, Command, Compare, ContainerOrder, Eq}
use Rattle.desk_store.proofs.Common.{Finds, HasCause, Holds, Int, IsOrdered, IsToldLine, IsTotalOrder, IsUnlimited}
use Rattle.desk_store.proofs.Common.{Means, Misses, Row, RunRow, Select, State, Storage, StoreFault, Term, Version}
use Rattle.desk_store.proofs.Common.{asking, by_one_int, cases_Bool, col, container_with, eqb-true, int_cmp}
use Rattle.desk_store.proofs.Common.{int_cmp_total, is_day_number, le_refl, on_total, only, op2, option_map, run}
use Rattle.desk_store.proofs.Common.{run_cells, same_number, schema, select_faults, select_finds}
use Rattle.desk_store.proofs.BoxRows.{Numbered}
use Rattle.desk_store.proofs.CardRows.{in_order}

abbrev pub by_run : RunRow → RunRow → Ordering
by_run a b = int_cmp (pos a.id) (pos b.id)

pub by_run_total : IsTotalOrder by_run
by_run_total = on_total (λ (r : RunRow). pos r.id) int_cmp_total

abbrev pub day_of : RunRow → RunDay
day_of r = record { day = r.day }

abbrev pub day_cells : RunDay → Row
day_cells r = Int r.day ∷ []

abbrev IsCalendarDay : RunDay → Type 0
IsCalendarDay r = is_day_number r.day ≡ true

abbrev with_its_number : List Term
with_its_number = op2 (Compare Eq Binary) (col 1 0) (col 0 0) ∷ []

abbrev pub day_text : List ℕ
day_text = codes "SELECT day FROM run WHERE id = ?1 ORDER BY id"

abbrev pub day_command : Command
day_command = Select (asking run with_its_number (col 1 2 ∷ []) in_order) (codes "day" ∷ [])

pub day_means : (v : Version) → Means v day_text 1 day_command
unfolding understood everything
day_means v = record { is = refl; plain = (refl, refl); whole = (le_refl _, refl, refl); unlisted = refl }

module _ (old new : State) (n : ℕ) (v : Version) (has : old.now.schema ≡ schema v) (xs : List RunRow) (stored : Holds run run_cells old xs) {X : Type 0} (items : X → List RunDay) (r : Result X StoreFault) where
  pub day_finds : IfOk r (λ found. Finds day_cells day_text (Int (pos n) ∷ []) old new (items found))
      → IfOk r (λ found. (ys : List RunRow) × IsOrdered by_run (filter (λ (x : RunRow). nat_eq n x.id) xs) ys × (items found ≡ map day_of ys))
  day_finds =
      select_finds v run day_text with_its_number (col 1 2 ∷ []) in_order (codes "day" ∷ []) (Int (pos n) ∷ []) (day_means v) old new has run_cells xs stored
      (λ (x : RunRow). nat_eq n x.id) (λ x. only (same_number x.id n)) (λ x. day_cells (day_of x)) (λ (x : RunRow). Int (pos x.id) ∷ []) (λ _. refl) by_run (λ _. refl) (λ a b. by_one_int (pos a.id) (pos b.id))
      day_cells items day_of (λ _. refl) r

  pub day_faults : AllByRecursion (λ (x : RunRow). is_day_number x.day ≡ true) xs → IsUnlimited old
      → IfErr r (Misses day_cells IsCalendarDay day_text (Int (pos n) ∷ []) old new) → IfErr r (HasCause old new)
  day_faults legible free =
      select_faults v run day_text with_its_number (col 1 2 ∷ []) in_order (codes "day" ∷ []) (Int (pos n) ∷ []) (day_means v) old new has run_cells xs stored
      (λ (x : RunRow). nat_eq n x.id) (λ x. only (same_number x.id n)) (λ x. day_cells (day_of x)) (λ (x : RunRow). Int (pos x.id) ∷ []) (λ _. refl) by_run (λ _. refl) (λ a b. by_one_int (pos a.id) (pos b.id))
      day_cells items day_of (λ _. refl) IsCalendarDay refl free legible r

-- ---- what is found

found_by : {A : Type 0} (p : A → Bool) (xs : List A) (x : A) → find p xs ≡ Some x → p x ≡ true
found_by p [] x e = absurd (cc)
found_by p (y ∷ ys) x e = elim (cases_Bool (p y)) [
  | inl there ↦ (let k : Some y ≡ Some x = sym (ap (λ b. cond b (Some y) (find p ys)) there) ∙ e in let same : y ≡ x = cc in subst (λ z. p z ≡ true) same there)
  | inr other ↦ found_by p ys x (sym (ap (λ b. cond b (Some y) (find p ys)) other) ∙ e)
]

-- it is the run that was asked for
pub same_run : (n : ℕ) (xs : List RunRow) (x : RunRow) → find (λ (x : RunRow). nat_eq n x.id) xs ≡ Some x → n ≡ x.id
same_run n xs x e = eqb-true n x.id (found_by (λ (x : RunRow). nat_eq n x.id) xs x e)

-- ---- a line that is told

pub line_told : (l : ContainerOrder) (s : Storage) (w : BoxKey) (box : Option Numbered)
    → container_with l.container s ≡ box → option_map (λ (b : Numbered). b.1) box ≡ Some w
    → IsToldLine s l (record { container = l.container; order = l.order; ticket = l.ticket; location = w.location; name = w.name; kind = w.kind })
line_told l s w None e is = absurd (cc)
line_told l s w (Some b) e is =
    let same : b.1 ≡ w = cc in
    let number : l.container ≡ b.0 =
    eqb-true l.container b.0 (found_by (λ (b : Numbered). nat_eq l.container b.0) s.containers b e) in
    record { box = w; known = e ∙ ap₂ (λ (n : ℕ) (k : BoxKey). let it : Option Numbered = Some (n, k) in it) (sym number) same; is = refl }

pub zip_more : {A B : Type 0} (P : A → B → Type 0) (xs : List A) (ys : List B) (x : A) (y : B) → AllZip P xs ys → P x y
    → AllZip P (xs ++ x ∷ []) (ys ++ y ∷ [])
zip_more P [] [] x y all p = (p, tt)
zip_more P [] (b ∷ bs) x y all p = absurd all
zip_more P (a ∷ rest) [] x y all p = absurd all
zip_more P (a ∷ rest) (b ∷ bs) x y all p = (all.0, zip_more P rest bs x y all.1 p)
