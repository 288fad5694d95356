-- A reader who is registered, in the rows of the desk.
use Rattle.std.proofs.Common.{◌≡◌, ℕ, suc, ◌+◌, Bool, true, false, cond, List, [], ◌∷◌, ◌++◌, length, map, Option, Some}
use Rattle.std.proofs.Common.{None, Ok, Err, refl, sym, ap, subst, ◌∙◌, arith}
use Rattle.std.specs.Prelude.{ℤ}
use Rattle.isad_core.specs.Texts.{Bytes}
use Rattle.desk_core.specs.DeskRows.{Desk}
use Rattle.office_tables.specs.Schema as schema
use Rattle.office_core.specs.declared.command.Command.TheVariants as command
use Rattle.office_core.specs.declared.done.Done.TheVariants as done
use Rattle.desk_commands.proofs.Common.{CarriesOutStep, Command, Database, Forest, Full, IsOk, IsSoundOffice, IsUtf8}
use Rattle.desk_commands.proofs.Common.{OnlyTouches, PermitRow, Reader, ReaderRow, Reply, RepresentsDesk}
use Rattle.desk_commands.proofs.Common.{RepresentsState, State, Trees, Version, accepted, after, always_texts}
use Rattle.desk_commands.proofs.Common.{desk_step, flat_map, is_name, is_some, length-append, length-rows, most_tickets}
use Rattle.desk_commands.proofs.Common.{nat_le, nat_lt, nat_tests, next_ticket, nth, numbers_to, permit_row}
use Rattle.desk_commands.proofs.Common.{permit_rows, reader_row, refusal, refused, rows_from, tables, with_reader}

rows_more : {X Y : Type 0} (row : ℕ → X → Y) (n : ℕ) (xs : List X) (x : X)
    → rows_from row n (xs ++ x ∷ []) ≡ rows_from row n xs ++ row (n + length xs) x ∷ []
rows_more row n [] x = ap (λ k. row k x ∷ []) (let e : n ≡ n + 0 = omega arith in e)
rows_more row n (y ∷ xs) x = ap (λ rows. row n y ∷ rows) (rows_more row (suc n) xs x ∙ ap (λ k. rows_from row (suc n) xs ++ row k x ∷ []) (let e : suc n + length xs ≡ n + suc (length xs) = omega arith in e))

-- the last row has the next number
pub rows_end : {X Y : Type 0} (row : ℕ → X → Y) (xs : List X) (x : X)
    → rows_from row 1 (xs ++ x ∷ []) ≡ rows_from row 1 xs ++ row (suc (length xs)) x ∷ []
rows_end row xs x = rows_more row 1 xs x ∙ ap (λ k. rows_from row 1 xs ++ row k x ∷ []) (let e : 1 + length xs ≡ suc (length xs) = omega arith in e)

past_end : {X : Type 0} (xs : List X) → is_some (nth xs (suc (length xs))) ≡ false
past_end [] = refl
past_end (x ∷ xs) = past_end xs

pub one_longer : {X : Type 0} (xs : List X) (x : X) → length (xs ++ x ∷ []) ≡ suc (length xs)
one_longer xs x = length-append xs (x ∷ []) ∙ (let e : length xs + 1 ≡ suc (length xs) = omega arith in e)

flat_none : {X Y : Type 0} (f : X → List Y) (xs : List X) (x : X) → f x ≡ [] → flat_map f (xs ++ x ∷ []) ≡ flat_map f xs
flat_none f [] x none = ap (λ l. l ++ []) none
flat_none f (y ∷ xs) x none = ap (λ l. f y ++ l) (flat_none f xs x none)

-- what is told of the ticket, or of none
abbrev pub reply_for : Option ℕ → Reply
reply_for None = Err Full
reply_for (Some ticket) = Ok (done.Register ticket)

module _ (version : Version) (s : State) (sound : IsSoundOffice s) (name : Bytes) (until : ℤ) where
  abbrev asked : Command
  asked = command.Register name until

  abbrev new : Reader
  new = record { name = name; until = until }

  abbrev next : State
  next = after s asked

  abbrev desk : Desk
  desk = (tables version s).desk

  -- who has no ticket yet has no permit
  permits_same : permit_rows next ≡ permit_rows s
  permits_same =
      ap (λ n. flat_map (λ t. map (permit_row t) (s.permits t)) (numbers_to n)) (one_longer s.readers new)
      ∙ flat_none (λ t. map (permit_row t) (s.permits t)) (numbers_to (length s.readers)) (suc (length s.readers))
      (ap (map (permit_row (suc (length s.readers)))) (sound.sound.desk.permits.known (suc (length s.readers)) (past_end s.readers)))

  desk_after : (tables version next).desk ≡ with_reader (Some (suc (length s.readers))) name until desk
  desk_after =
      ap (λ (rows : List ReaderRow). record (tables version next).desk { readers = rows }) (rows_end reader_row s.readers new)
      ∙ ap (λ (rows : List PermitRow). record (with_reader (Some (suc (length s.readers))) name until desk) { permits = rows }) permits_same

  next_is : (b : Bool) → nat_le most_tickets (length s.readers) ≡ b
      → next_ticket desk ≡ cond b None (Some (suc (length s.readers)))
  next_is b e = ap (λ n. cond (nat_lt n most_tickets) (Some (suc n)) None) (length-rows reader_row 1 s.readers) ∙ at b e
    where
      at : (b : Bool) → nat_le most_tickets (length s.readers) ≡ b
          → cond (nat_lt (length s.readers) most_tickets) (Some (suc (length s.readers))) None ≡ cond b None (Some (suc (length s.readers)))
      at true e = let less : nat_lt (length s.readers) most_tickets ≡ false = grind (arith, nat_tests, e) in rw less refl
      at false e = let less : nat_lt (length s.readers) most_tickets ≡ true = grind (arith, nat_tests, e) in rw less refl

  refused_full : is_name name ≡ true → nat_le most_tickets (length s.readers) ≡ true → refusal s asked ≡ Some Full
  refused_full named full = rw (named, full) refl

  not_refused : is_name name ≡ true → nat_le most_tickets (length s.readers) ≡ false → refusal s asked ≡ None
  not_refused named room = rw (named, room) refl

  pub registers : (places : Trees → Forest ℕ → Type 0)
      → ((old new : Trees) (f : Forest ℕ) → new schema.link.tree ≡ old schema.link.tree → places old f → places new f)
      → (before later : Database)
      → is_name name ≡ true → IsUtf8 name → RepresentsState places version before s → later.schema ≡ before.schema
      → OnlyTouches (schema.reader.tree ∷ []) before later
      → (ticket : Option ℕ) → ticket ≡ next_ticket desk
      → RepresentsDesk later.trees (with_reader (next_ticket desk) name until desk)
      → CarriesOutStep places version s asked (reply_for ticket) later
  registers places same before later named utf8 it schema_is only ticket is shown =
      at (nat_le most_tickets (length s.readers)) refl
    where
      at : (b : Bool) → nat_le most_tickets (length s.readers) ≡ b
          → CarriesOutStep places version s asked (reply_for ticket) later
      at true e =
          let none = is ∙ next_is true e in
          let one = refused s asked Full (refused_full named e) in
          record {
            told = ap reply_for none ∙ sym (ap (λ (p : State × Reply). p.1) one);
            represents = λ ok. absurd (let bad : IsOk (reply_for None) = subst (λ k. IsOk (reply_for k)) none ok in cc);
          }
      at false e =
          let some = is ∙ next_is false e in
          let one = accepted s asked (not_refused named e) in
          let made = subst (λ k. RepresentsDesk later.trees (with_reader k name until desk)) (next_is false e) shown in
          let texts = always_texts s (asked ∷ []) (utf8, tt) it.texts in
          record {
            told = ap reply_for some ∙ sym (ap (λ (p : State × Reply). p.1) one);
            represents = λ ok. subst (RepresentsState places version later) (sym (ap (λ (p : State × Reply). p.0) one))
                (desk_step places same version s next before later (schema.reader.tree ∷ []) refl schema_is only it (with_reader (Some (suc (length s.readers))) name until desk) made desk_after refl refl
                (subst (λ (p : State × Reply). Rattle.office_core.specs.SoundOffice.AreTexts p.0) one texts));
          }
