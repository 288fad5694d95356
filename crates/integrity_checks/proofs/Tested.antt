-- Rows that are read, and judged one by one.
use Rattle.std.proofs.Common.{◌≡◌, List, [], ◌∷◌, map, Bool, true, false, cond, not, ◌&&◌, ◌||◌, Option, Some, None}
use Rattle.std.proofs.Common.{is_none, filter_map, refl, sym, ap, ap₂}
use Rattle.integrity_checks.proofs.Common.{AllByRecursion, Row, cons_option, from, has_unread, list_all, option_map_or}
use Rattle.integrity_checks.proofs.Common.{or_parts, or_right, true≢false}

pub all_same : {A : Type 0} (p q : A → Bool) (xs : List A) → AllByRecursion (λ x. p x ≡ q x) xs
    → list_all p xs ≡ list_all q xs
all_same p q [] h = refl
all_same p q (x ∷ xs) h = ap₂ ◌&&◌ h.0 (all_same p q xs h.1)

-- ---- what a query shows of rows

module _ {X : Type 0} (says reads : Row → Option X) (show : Row → Row) (same : (row : Row) → says (show row) ≡ reads row) where
  pub said_shown : (ys : List Row) → filter_map says (map show ys) ≡ filter_map reads ys
  said_shown [] = refl
  said_shown (y ∷ ys) = ap₂ (λ (o : Option X) (l : List X). cons_option o l) (same y) (said_shown ys)

  pub unread_shown : (ys : List Row) → has_unread says (map show ys) ≡ has_unread reads ys
  unread_shown [] = refl
  unread_shown (y ∷ ys) = ap₂ (λ (o : Option X) (b : Bool). is_none o || b) (same y) (unread_shown ys)

-- ---- rows that cannot be read, or are not good

module _ {X : Type 0} (read : Row → Option X) (good : X → Bool) where
  abbrev pub passes : Row → Bool
  passes row = option_map_or good (read row) false

  pub judged : (rows : List Row)
      → (has_unread read rows || not (list_all good (filter_map read rows))) ≡ not (list_all passes rows)
  judged [] = refl
  judged (row ∷ rows) = at (judged rows) (read row)
    where
      at : (has_unread read rows || not (list_all good (filter_map read rows))) ≡ not (list_all passes rows)
          → (o : Option X)
          → ((is_none o || has_unread read rows) || not (list_all good (cons_option o (filter_map read rows)))) ≡ not (option_map_or good o false && list_all passes rows)
      at more None = refl
      at more (Some x) = elim (good x) as (λ b. (has_unread read rows || not (b && list_all good (filter_map read rows))) ≡ not (b && list_all passes rows)) [
        | true ↦ more
        | false ↦ or_right (has_unread read rows) true refl
      ]

-- ---- rows of which something is made where they are good

module _ {X Y : Type 0} (read : Row → Option X) (good : X → Bool) (make : X → Y) where
  abbrev pub tested : Row → Option Y
  tested row = from (read row) (λ x. cond (good x) (Some (make x)) None)

  abbrev made : X → Option Y
  made x = cond (good x) (Some (make x)) None

  pub unread_tested : (rows : List Row)
      → has_unread tested rows ≡ (has_unread read rows || not (list_all good (filter_map read rows)))
  unread_tested [] = refl
  unread_tested (row ∷ rows) = at (unread_tested rows) (read row)
    where
      at : has_unread tested rows ≡ (has_unread read rows || not (list_all good (filter_map read rows)))
          → (o : Option X)
          → (is_none (from o made) || has_unread tested rows) ≡ ((is_none o || has_unread read rows) || not (list_all good (cons_option o (filter_map read rows))))
      at more None = refl
      at more (Some x) = elim (good x) as (λ b. (is_none (cond b (Some (make x)) None) || has_unread tested rows) ≡ (has_unread read rows || not (b && list_all good (filter_map read rows)))) [
        | true ↦ more
        | false ↦ sym (or_right (has_unread read rows) true refl)
      ]

  pub same_tested : (rows : List Row) → has_unread tested rows ≡ false
      → filter_map tested rows ≡ map make (filter_map read rows)
  same_tested [] all = refl
  same_tested (row ∷ rows) all = at (same_tested rows (or_parts _ _ all).1) (read row) (or_parts _ _ all).0
    where
      at : filter_map tested rows ≡ map make (filter_map read rows) → (o : Option X) → is_none (from o made) ≡ false
          → cons_option (from o made) (filter_map tested rows) ≡ map make (cons_option o (filter_map read rows))
      at more None h = absurd (true≢false h)
      at more (Some x) h = elim (good x) as (λ b. is_none (cond b (Some (make x)) None) ≡ false → cons_option (cond b (Some (make x)) None) (filter_map tested rows) ≡ (make x ∷ map make (filter_map read rows))) [
        | true ↦ λ _. ap (λ l. make x ∷ l) more
        | false ↦ λ k. absurd (true≢false k)
      ] h
