-- Rows whose numbers are free.
use Rattle.std.proofs.Common.{◌≡◌, ℕ, ℤ, pos, List, [], ◌∷◌, map, Bool, false, ◌||◌, nat_eq, refl, sym, ap₂, subst, ◌∙◌}
use Rattle.sqlite_rules.proofs.PlaceLemmas.{next_is_free}
use Rattle.office_tables.proofs.Common.{Chosen, Has, Int, IsTable, Rises, Row, all_from, int_cmp, is_taken, list_any}
use Rattle.office_tables.proofs.Common.{next_rowid, or_from, or_parts, rowid, value_cmp-Int}
use Rattle.office_tables.proofs.Rows.{map_has, table_rises}
use Rattle.office_tables.proofs.Tests.{same_nat}

-- no row has a number that no record has
pub not_there : {A : Type 0} (row : A → Row) (number : A → ℕ) (keyed : (x : A) → rowid (row x) ≡ Int (pos (number x))) (n : ℕ) (new : Row)
    → rowid new ≡ Int (pos n)
    → (xs : List A) → list_any (λ x. nat_eq n (number x)) xs ≡ false → is_taken (map row xs) new ≡ false
not_there row number keyed n new is [] none = refl
not_there row number keyed n new is (x ∷ xs) none =
    let parts = or_parts _ _ none in
    or_from _ _ (rw (keyed x, is, value_cmp-Int (pos (number x)) (pos n)) (same_nat (number x) n ∙ parts.0)) (not_there row number keyed n new is xs parts.1)

-- the number after the last is free
pub next_free : {A : Type 0} (row : A → Row) (key : A → ℤ) (keyed : (x : A) → rowid (row x) ≡ Int (key x)) (xs : List A) (rows : List Row) (rest : Row)
    → rows ≡ map row xs → Rises (λ a b. int_cmp (key a) (key b)) xs
    → is_taken rows (Int (next_rowid rows) ∷ rest) ≡ false
next_free row key keyed xs rows rest stored rise =
    next_is_free Chosen rows rest (subst IsTable (sym stored) (table_rises row key keyed xs rise))
    (all_from _ rows (λ r h. let x = map_has row xs r (subst (λ l. Has l r) stored h) in rw (x.2, keyed x.0) refl))

-- a test of rows that is one of records
pub any_mapped : {A : Type 0} (row : A → Row) (test : Row → Bool) (is : A → Bool) → ((x : A) → test (row x) ≡ is x)
    → (xs : List A) → list_any test (map row xs) ≡ list_any is xs
any_mapped row test is same [] = refl
any_mapped row test is same (x ∷ xs) = ap₂ ◌||◌ (same x) (any_mapped row test is same xs)
