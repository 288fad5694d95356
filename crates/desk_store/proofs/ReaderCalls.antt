-- A reader more, on the whole desk: first the next ticket is read, then the row is put.
use Rattle.std.proofs.Common.{◌≡◌, ℕ, suc, ◌+◌, ◌<◌, ℤ, pos, false, cond, nat_eq, List, [], ◌∷◌, ◌++◌, map, length}
use Rattle.std.proofs.Common.{Option, Some, None, Ok, Err, inl, inr, refl, sym, ap, subst, ◌∙◌, arith}
use Rattle.sqlite_trees.specs.declared.store.Store as store
use Rattle.isad_core.specs.Texts.{Bytes}
use Rattle.office_tables.specs.Schema as tables
use Rattle.desk_store.proofs.Common.{Database, Desk, Goes, HasCause, HasCleanDisk, Held, Holds, IsAborted, IsLegible}
use Rattle.desk_store.proofs.Common.{IsSame, IsUnlimited, LeavesUnchanged, OnlyTouches, PutsRow, ReaderRow}
use Rattle.desk_store.proofs.Common.{RepresentsDesk, RepresentsDeskAlone, Spares, State, StoreFault, StoreUpdates}
use Rattle.desk_store.proofs.Common.{cases_Bool, counted_free, counted_more, cut_then, early, goes_then, length-append}
use Rattle.desk_store.proofs.Common.{list_any, looked_spares, ltb-true, makes_well, most_tickets, nat_lt, next_cause}
use Rattle.desk_store.proofs.Common.{next_ticket, put_end, put_row, put_rows, reader, reader_cells, state}
use Rattle.desk_store.proofs.Common.{still_unlimited, untouched, with_reader, ⊤}
use Rattle.desk_store.proofs.Frames.{with_readers}

-- where there is a next ticket, it is one more than those that were given
next_is : (d : Desk) (t : ℕ) → Some t ≡ next_ticket d → (t ≡ 1 + length d.readers) × (length d.readers < most_tickets)
next_is d t h = elim (cases_Bool (nat_lt (length d.readers) most_tickets)) [
  | inl left ↦ (let e : Some t ≡ Some (suc (length d.readers)) = h ∙ ap (λ b. cond b (Some (suc (length d.readers))) None) left in let k : t ≡ suc (length d.readers) = cc in k ∙ omega arith, ltb-true (length d.readers) most_tickets left)
  | inr none ↦ absurd (let e : Some t ≡ None = h ∙ ap (λ b. cond b (Some (suc (length d.readers))) None) none in cc)
]

module _ {S : Type 0} (g : store.Ghosts S) (before mid after : Held S) (name : Bytes) (until : ℤ) (ticket : ℕ) where
  abbrev a : State
  a = state g before

  abbrev b : State
  b = state g mid

  abbrev c : State
  c = state g after

  abbrev row : ReaderRow
  row = record { ticket = ticket; name = name; until = until }

  module _ (looked : LeavesUnchanged a b) (is : HasCleanDisk b → (d : Desk) → RepresentsDesk a.now.trees d → Some ticket ≡ next_ticket d) where
    still_shown : HasCleanDisk b → (d : Desk) → RepresentsDesk a.now.trees d → RepresentsDesk b.now.trees d
    still_shown clean d shown = subst (λ (db : Database). RepresentsDesk db.trees d) (sym (looked.same clean)) shown

    put : HasCleanDisk b → PutsRow tables.reader.tree (reader_cells row) b.now c.now → (d : Desk)
        → RepresentsDesk a.now.trees d → RepresentsDesk c.now.trees (with_reader (next_ticket d) name until d)
    put clean puts d shown =
        let at = is clean d shown in
        let n = next_is d ticket at in
        let few = n.1 in
        let there = still_shown clean d shown in
        subst (λ o. RepresentsDesk c.now.trees (with_reader o name until d)) at
        (with_readers b.now c.now d there (d.readers ++ row ∷ []) puts.only
        (puts.rows ∙ ap (put_row (reader_cells row)) there.readers ∙ put_rows reader_cells (λ (r : ReaderRow). pos r.ticket) (λ _. refl) row d.readers
        ∙ ap (map reader_cells) (put_end (λ (r : ReaderRow). r.ticket) 1 d.readers row shown.tickets n.0))
        (counted_more (λ (r : ReaderRow). r.ticket) 1 d.readers row shown.tickets n.0)
        (let size = length-append d.readers (row ∷ []) in omega (arith, size, few)) (let size = length-append d.readers (row ∷ []) in omega (arith, size)))

    pub added : Goes b c → (HasCleanDisk c → PutsRow tables.reader.tree (reader_cells row) b.now c.now)
        → StoreUpdates g (tables.reader.tree ∷ []) RepresentsDeskAlone before after (Ok (Some ticket)) (λ _. ⊤) IsLegible (λ d. with_reader (next_ticket d) name until d)
    added goes puts =
        let back = early goes.on.crash in
        makes_well (goes_then looked.goes goes)
        (λ clean. subst (λ (db : Database). OnlyTouches (tables.reader.tree ∷ []) db c.now) (looked.same (back clean)) (puts clean).only)
        (λ clean beside d shown may. put (back clean) (puts clean) d shown)

    pub failed : (e : StoreFault) → IsAborted b c → (HasCleanDisk c → Spares IsSame b c e)
        → ((xs : List ReaderRow) → Holds reader reader_cells b xs → list_any (λ (r : ReaderRow). nat_eq ticket r.ticket) xs ≡ false → HasCleanDisk c → IsUnlimited b → HasCause b c e)
        → StoreUpdates {X = Option ℕ} g (tables.reader.tree ∷ []) RepresentsDeskAlone before after (Err e) (λ _. ⊤) IsLegible (λ d. with_reader (next_ticket d) name until d)
    failed e cut spares why = record {
      call = record {
        represents_updated = λ clean beside d shown may. tt;
        only = λ clean. tt;
        goes = tt;
        aborts = cut_then looked.goes.on cut;
        faults = λ beside d shown may kept clean free. next_cause a b c looked.goes.on cut clean e (λ cleaner.
            why d.readers (still_shown cleaner d shown).readers (counted_free (λ (r : ReaderRow). r.ticket) 1 d.readers ticket shown.tickets (next_is d ticket (is cleaner d shown)).0) clean (still_unlimited a b looked.goes.on free));
      };
      spares = λ clean. untouched (tables.reader.tree ∷ []) a c e (looked_spares looked (early cut.crash clean) e (spares clean));
    }
