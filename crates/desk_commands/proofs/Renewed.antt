-- A ticket that gets another last day, in the rows of the desk.
use Rattle.std.proofs.Common.{◌≡◌, ℕ, zero, suc, ◌+◌, ◌<◌, true, false, nat_eq, List, [], ◌∷◌, length, map, Some, None}
use Rattle.std.proofs.Common.{Ok, refl, sym, ap, subst, ◌∙◌, arith}
use Rattle.std.specs.Prelude.{ℤ}
use Rattle.office_tables.specs.Schema as schema
use Rattle.desk_store.specs.Readers as store
use Rattle.office_core.specs.declared.command.Command.TheVariants as command
use Rattle.office_core.specs.declared.done.Done.TheVariants as done
use Rattle.refinement.proofs.RowsOfLists.{other}
use Rattle.desk_commands.proofs.Common.{AreTexts, CarriesOutStep, Command, Database, Forest, OnlyTouches, PermitRow}
use Rattle.desk_commands.proofs.Common.{Reader, ReaderRow, Reply, RepresentsDesk, RepresentsState, State, Trees}
use Rattle.desk_commands.proofs.Common.{UnknownTicket, Version, accepted, after, always_texts, desk_step, flat_map}
use Rattle.desk_commands.proofs.Common.{is_some, is_ticket, nat_tests, nth, numbers_to, permit_row, permit_rows}
use Rattle.desk_commands.proofs.Common.{reader_row, refusal, renewed, rows_from, same_number, tables, with_last_day}

before : (n t : ℕ) → t < n → nat_eq t n ≡ false
before n t less = grind (arith, nat_tests, less)

-- rows with greater numbers stay
later_stay : (until : ℤ) (t n : ℕ) (xs : List Reader) → t < n
    → store.renewed_readers t until (rows_from reader_row n xs) ≡ rows_from reader_row n xs
later_stay until t n [] less = refl
later_stay until t n (x ∷ xs) less =
    rw (before n t less) (ap (λ rows. reader_row n x ∷ rows) (later_stay until t (suc n) xs (omega (arith, less))))

renewed_from : (until : ℤ) (n j : ℕ) (xs : List Reader)
    → rows_from reader_row n (renewed until xs (suc j)) ≡ store.renewed_readers (n + j) until (rows_from reader_row n xs)
renewed_from until n j [] = refl
renewed_from until n zero (x ∷ xs) =
    let e : n ≡ n + 0 = omega arith in
    subst (λ k. record { ticket = n; name = x.name; until = until } ∷ rows_from reader_row (suc n) xs ≡ store.renewed_readers k until (reader_row n x ∷ rows_from reader_row (suc n) xs)) e
    (rw (same_number n) (ap (λ rows. record { ticket = n; name = x.name; until = until } ∷ rows) (sym (later_stay until n (suc n) xs (omega arith)))))
renewed_from until n (suc j) (x ∷ xs) =
    let e : suc n + j ≡ n + suc j = omega arith in
    rw (other n j) (ap (λ rows. reader_row n x ∷ rows) (subst (λ k. rows_from reader_row (suc n) (renewed until xs (suc j)) ≡ store.renewed_readers k until (rows_from reader_row (suc n) xs)) e (renewed_from until (suc n) j xs)))

renewed_rows : (until : ℤ) (t : ℕ) (xs : List Reader) → is_some (nth xs t) ≡ true
    → rows_from reader_row 1 (renewed until xs t) ≡ store.renewed_readers t until (rows_from reader_row 1 xs)
renewed_rows until zero xs h = absurd (cc)
renewed_rows until (suc j) xs h = let e : 1 + j ≡ suc j = omega arith in subst (λ k. rows_from reader_row 1 (renewed until xs (suc j)) ≡ store.renewed_readers k until (rows_from reader_row 1 xs)) e (renewed_from until 1 j xs)

as_many : (until : ℤ) (xs : List Reader) (t : ℕ) → length (renewed until xs t) ≡ length xs
as_many until xs zero = refl
as_many until [] (suc n) = refl
as_many until (x ∷ xs) (suc zero) = refl
as_many until (x ∷ xs) (suc (suc n)) = ap suc (as_many until xs (suc n))

module _ (version : Version) (s : State) (t : ℕ) (until : ℤ) where
  abbrev asked : Command
  asked = command.Renew t until

  abbrev next : State
  next = after s asked

  permits_same : permit_rows next ≡ permit_rows s
  permits_same = ap (λ n. flat_map (λ t. map (permit_row t) (s.permits t)) (numbers_to n)) (as_many until s.readers t)

  desk_after : is_ticket s t ≡ true → (tables version next).desk ≡ with_last_day t until (tables version s).desk
  desk_after known =
      ap (λ (rows : List ReaderRow). record (tables version next).desk { readers = rows }) (renewed_rows until t s.readers known)
      ∙ ap (λ (rows : List PermitRow). record (with_last_day t until (tables version s).desk) { permits = rows }) permits_same

  pub not_known : is_ticket s t ≡ false → refusal s asked ≡ Some UnknownTicket
  not_known unknown = rw unknown refl

  pub renews : (places : Trees → Forest ℕ → Type 0)
      → ((old new : Trees) (f : Forest ℕ) → new schema.link.tree ≡ old schema.link.tree → places old f → places new f)
      → (before now : Database) → is_ticket s t ≡ true → RepresentsState places version before s
      → now.schema ≡ before.schema → OnlyTouches (schema.reader.tree ∷ []) before now
      → RepresentsDesk now.trees (with_last_day t until (tables version s).desk)
      → CarriesOutStep places version s asked (Ok (done.Renew t)) now
  renews places same before now known it schema_is only shown =
      let why : refusal s asked ≡ None = rw known refl in
      let one = accepted s asked why in
      let texts = always_texts s (asked ∷ []) (tt, tt) it.texts in
      record {
        told = sym (ap (λ (p : State × Reply). p.1) one);
        represents = λ ok. subst (RepresentsState places version now) (sym (ap (λ (p : State × Reply). p.0) one))
            (desk_step places same version s next before now (schema.reader.tree ∷ []) refl schema_is only it (with_last_day t until (tables version s).desk) shown (desk_after known) refl refl
            (subst (λ (p : State × Reply). AreTexts p.0) one texts));
      }
