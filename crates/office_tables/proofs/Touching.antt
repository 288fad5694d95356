-- That only some tables are touched.
use Rattle.std.proofs.Common.{◌≡◌, ◌≢◌, inl, inr, sym, ℕ, true, false, ◌||◌, nat_eq, List, [], ◌∷◌, ◌++◌, map, refl}
use Rattle.std.proofs.Common.{subst, ◌∙◌, arith}
use Rattle.office_tables.specs.Versions.{Version}
use Rattle.office_tables.proofs.Common.{AllByRecursion, Database, OnlyTouches, Table, Trees, and_parts, cases_Bool}
use Rattle.office_tables.proofs.Common.{list_all, list_any, nat_tests, schema, table_trees}

apart : (n t : ℕ) → list_any (nat_eq n) (t ∷ []) ≡ false → n ≢ t
apart n t h e = let k : list_any (nat_eq t) (t ∷ []) ≡ false = subst (λ m. list_any (nat_eq m) (t ∷ []) ≡ false) e h in grind (arith, nat_tests, k)

of_trees : (old new : Trees) (t : ℕ) (tables : List Table)
    → AllByRecursion (λ (table : Table). table.tree ≢ t → new table.tree ≡ old table.tree) tables
    → AllByRecursion (λ n. list_any (nat_eq n) (t ∷ []) ≡ false → new n ≡ old n) (map (λ (table : Table). table.tree) tables)
of_trees old new t [] h = tt
of_trees old new t (table ∷ tables) h = (λ e. h.0 (apart table.tree t e), of_trees old new t tables h.1)

trees_are : (v : Version) → map (λ (table : Table). table.tree) (schema v).tables ≡ table_trees
trees_are v = refl

-- what holds of each number of a list holds of one that is among them
among : (P : ℕ → Type 0) (ns : List ℕ) → AllByRecursion P ns → (n : ℕ) → list_any (nat_eq n) ns ≡ true → P n
among P [] all n there = absurd (cc)
among P (m ∷ ns) all n there = elim (cases_Bool (nat_eq n m)) [
  | inl same ↦ subst P (let e : m ≡ n = grind (arith, nat_tests, same) in e) all.0
  | inr other ↦ among P ns all.1 n (rw other at there)
]

pub touched : (v : Version) (old new : Database) (t : ℕ)
    → AllByRecursion (λ (table : Table). table.tree ≢ t → new.trees table.tree ≡ old.trees table.tree) (schema v).tables
    → OnlyTouches (t ∷ []) old new
touched v old new t h =
    among (λ n. list_any (nat_eq n) (t ∷ []) ≡ false → new.trees n ≡ old.trees n) table_trees
    (subst (λ ns. AllByRecursion (λ n. list_any (nat_eq n) (t ∷ []) ≡ false → new.trees n ≡ old.trees n) ns) (trees_are v) (of_trees old.trees new.trees t (schema v).tables h))

none_of : (n : ℕ) (a b : List ℕ) → list_any (nat_eq n) (a ++ b) ≡ false
    → (list_any (nat_eq n) a ≡ false) × (list_any (nat_eq n) b ≡ false)
none_of n [] b h = (refl, h)
none_of n (x ∷ a) b h = elim (nat_eq n x) as (λ k. (k || list_any (nat_eq n) (a ++ b)) ≡ false → ((k || list_any (nat_eq n) a) ≡ false) × (list_any (nat_eq n) b ≡ false)) [
  | true ↦ λ e. absurd (cc)
  | false ↦ λ e. none_of n a b e
] h

pub touched_then : (a b : List ℕ) (old mid new : Database) → OnlyTouches a old mid → OnlyTouches b mid new
    → OnlyTouches (a ++ b) old new
touched_then a b old mid new p q tree there h = let k = none_of tree a b h in q tree there k.1 ∙ p tree there k.0

pub touched_again : (a : List ℕ) (old mid new : Database) → OnlyTouches a old mid → OnlyTouches a mid new
    → OnlyTouches a old new
touched_again a old mid new p q tree there h = q tree there h ∙ p tree there h

pub nothing_touched : (a : List ℕ) (db : Database) → OnlyTouches a db db
nothing_touched a db tree there h = refl

-- tables that are named, and more of them
pub touched_wider : (a b : List ℕ) (old new : Database) → list_all (λ t. list_any (nat_eq t) b) a ≡ true
    → OnlyTouches a old new → OnlyTouches b old new
touched_wider a b old new all only tree there none = only tree there (apart_too a all)
  where
    apart_too : (a : List ℕ) → list_all (λ t. list_any (nat_eq t) b) a ≡ true → list_any (nat_eq tree) a ≡ false
    apart_too [] h = refl
    apart_too (t ∷ a) h =
        let parts = and_parts _ _ h in
        elim (cases_Bool (nat_eq tree t)) [
          | inl same ↦ absurd (let e : t ≡ tree = grind (arith, nat_tests, same) in let there : list_any (nat_eq tree) b ≡ true = subst (λ n. list_any (nat_eq n) b ≡ true) e parts.0 in let clash : true ≡ false = sym there ∙ none in cc)
          | inr other ↦ rw other (apart_too a parts.1)
        ]
