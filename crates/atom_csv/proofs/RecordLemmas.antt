-- The records of a text, one taken off.
use Rattle.std.proofs.Common.{◌≡◌, ◌∙◌, ◌+◌, ◌≤◌, ◌<◌, ℕ, zero, suc, Bool, true, false, List, [], ◌∷◌, length, Option}
use Rattle.std.proofs.Common.{Some, None, refl, sym, ap, subst, arith}
use Rattle.csv.specs.Machine.{next_record}
use Rattle.csv.specs.Reading.{records_from}
use Rattle.csv.specs.declared.parser.Config.{Config}
use Rattle.csv.specs.declared.parser.State.TheVariants as st
use Rattle.atom_csv.proofs.Common.{Read, State, default_config, ends_at_end, field_after, fields_after, if◌then◌else◌}
use Rattle.atom_csv.proofs.Common.{is_end, records_next, step}

-- a record takes a byte at least
shorter : (cfg : Config) (s : State) (fields : List (List ℕ)) (field : List ℕ) (c : ℕ) (rest : List ℕ) (p : Read)
    → next_record cfg s fields field (c ∷ rest) ≡ Some p → length p.2 ≤ length rest
unfolding next_record
shorter cfg s fields field c [] p e = go (is_end (step cfg s c).1) e
  where
    last : (b : Bool) (f : List (List ℕ)) → (if b then Some (f, st.StartRecord, []) else None) ≡ Some p → length p.2 ≤ 0
    last true f e =
        let same : (f, st.StartRecord, []) ≡ p = cc in
        subst (λ (q : Read). length q.2 ≤ 0) same (omega arith)
    last false f e = cc

    go : (b : Bool)
        → (if b then Some (fields_after (step cfg s c).1 fields field, (step cfg s c).0, []) else next_record cfg (step cfg s c).0 (fields_after (step cfg s c).1 fields field) (field_after (step cfg s c).1 c field) []) ≡ Some p
        → length p.2 ≤ 0
    go true e =
        let same : (fields_after (step cfg s c).1 fields field, (step cfg s c).0, []) ≡ p = cc in
        subst (λ (q : Read). length q.2 ≤ 0) same (omega arith)
    go false e = last (ends_at_end (step cfg s c).0) _ e
shorter cfg s fields field c (d ∷ rest) p e =
    go (is_end (step cfg s c).1) (shorter cfg (step cfg s c).0 (fields_after (step cfg s c).1 fields field) (field_after (step cfg s c).1 c field) d rest p) e
  where
    go : (b : Bool)
        → (next_record cfg (step cfg s c).0 (fields_after (step cfg s c).1 fields field) (field_after (step cfg s c).1 c field) (d ∷ rest) ≡ Some p → length p.2 ≤ length rest)
        → (if b then Some (fields_after (step cfg s c).1 fields field, (step cfg s c).0, d ∷ rest) else next_record cfg (step cfg s c).0 (fields_after (step cfg s c).1 fields field) (field_after (step cfg s c).1 c field) (d ∷ rest)) ≡ Some p
        → length p.2 ≤ length (d ∷ rest)
    go true later e =
        let same : (fields_after (step cfg s c).1 fields field, (step cfg s c).0, d ∷ rest) ≡ p = cc in
        subst (λ (q : Read). length q.2 ≤ length (d ∷ rest)) same (omega arith)
    go false later e = omega (arith, later e)

-- what is left after the last record of an empty text gives none
none_after : (cfg : Config) (s : State) (p : Read) → next_record cfg s [] [] [] ≡ Some p
    → next_record cfg p.1 [] [] p.2 ≡ None
unfolding next_record
none_after cfg s p e = go (ends_at_end s) e
  where
    go : (b : Bool) → (if b then Some ([] ∷ [], st.StartRecord, []) else None) ≡ Some p
        → next_record cfg p.1 [] [] p.2 ≡ None
    go true e =
        let same : ([] ∷ [], st.StartRecord, []) ≡ p = cc in
        subst (λ (q : Read). next_record cfg q.1 [] [] q.2 ≡ None) same refl
    go false e = cc

none_from : (cfg : Config) (n : ℕ) (s : State) (xs : List ℕ) → next_record cfg s [] [] xs ≡ None
    → records_from cfg n s xs ≡ []
unfolding records_from
none_from cfg zero s xs e = refl
none_from cfg (suc n) s xs e = ap (records_next (records_from cfg n)) e

-- how many records are asked for makes no difference, where it is more than there are bytes
pub records_enough : (cfg : Config) (n m : ℕ) (s : State) (xs : List ℕ) → length xs < n → length xs < m
    → records_from cfg n s xs ≡ records_from cfg m s xs
unfolding records_from
records_enough cfg zero m s xs h k = absurd (omega arith)
records_enough cfg (suc n) zero s xs h k = absurd (omega arith)
records_enough cfg (suc n) (suc m) s xs h k =
    go xs h k (next_record cfg s [] [] xs) refl (λ s xs h k. records_enough cfg n m s xs h k)
  where
    go : (xs : List ℕ) → length xs < suc n → length xs < suc m → (o : Option Read) → next_record cfg s [] [] xs ≡ o
        → ((s : State) (xs : List ℕ) → length xs < n → length xs < m → records_from cfg n s xs ≡ records_from cfg m s xs)
        → records_next (records_from cfg n) o ≡ records_next (records_from cfg m) o
    go xs h k None e later = refl
    go [] h k (Some p) e later =
        let after = none_after cfg s p e in
        ap (λ rs. p.0 ∷ rs) (none_from cfg n p.1 p.2 after ∙ sym (none_from cfg m p.1 p.2 after))
    go (c ∷ xs) h k (Some p) e later =
        let less = shorter cfg s [] [] c xs p e in
        ap (λ rs. p.0 ∷ rs) (later p.1 p.2 (omega arith) (omega arith))

-- the records of a text, the first taken off
pub records_taken : (s : State) (xs : List ℕ) (p : Read) → next_record default_config s [] [] xs ≡ Some p
    → records_from default_config (length xs + 1) s xs ≡ p.0 ∷ records_from default_config (length p.2 + 1) p.1 p.2
unfolding records_from
records_taken s xs p e =
    let one : length xs + 1 ≡ suc (length xs) = omega arith in
    ap (λ n. records_from default_config n s xs) one
    ∙ (ap (records_next (records_from default_config (length xs))) e ∙ ap (λ rs. p.0 ∷ rs) (go xs e))
  where
    go : (xs : List ℕ) → next_record default_config s [] [] xs ≡ Some p
        → records_from default_config (length xs) p.1 p.2 ≡ records_from default_config (length p.2 + 1) p.1 p.2
    go [] e =
        let after = none_after default_config s p e in
        sym (none_from default_config (length p.2 + 1) p.1 p.2 after)
    go (c ∷ xs) e =
        let less = shorter default_config s [] [] c xs p e in
        records_enough default_config (length (c ∷ xs)) (length p.2 + 1) p.1 p.2 (omega arith) (omega arith)

pub records_none : (s : State) (xs : List ℕ) → next_record default_config s [] [] xs ≡ None
    → records_from default_config (length xs + 1) s xs ≡ []
records_none s xs e = none_from default_config (length xs + 1) s xs e
