-- One row more is gathered.
use Rattle.std.proofs.Common.{◌≡◌, List, [], ◌∷◌, ◌++◌, map, Bool, false, not, ◌||◌, Option, Some, None, option_map}
use Rattle.std.proofs.Common.{is_none, filter_map, refl, sym, ap, ap₂, ◌∙◌}
use Rattle.std.proofs.Math.Bool.{or-true, or-false}
use Rattle.std.proofs.lemmas.List.{append-nil}
use Rattle.std.proofs.lemmas.List.Folds.{list_any-append}
use Rattle.row_decoding.proofs.Common.{AreGathered, Row, cons_option, has_unread}

map_more : {A B : Type 0} (f : A → B) (xs : List A) (x : A) → map f (xs ++ x ∷ []) ≡ map f xs ++ f x ∷ []
map_more f [] x = refl
map_more f (y ∷ ys) x = ap (λ l. f y ∷ l) (map_more f ys x)

module _ {Told : Type 0} (says : Row → Option Told) (row : Row) where
  filter_more : (rows : List Row)
      → filter_map says (rows ++ row ∷ []) ≡ filter_map says rows ++ cons_option (says row) []
  filter_more [] = refl
  filter_more (r ∷ rows) = at (filter_more rows) (says r)
    where
      at : filter_map says (rows ++ row ∷ []) ≡ filter_map says rows ++ cons_option (says row) [] → (o : Option Told)
          → cons_option o (filter_map says (rows ++ row ∷ [])) ≡ cons_option o (filter_map says rows) ++ cons_option (says row) []
      at more None = more
      at more (Some x) = ap (λ l. x ∷ l) more

  unread_more : (rows : List Row)
      → has_unread says (rows ++ row ∷ []) ≡ (has_unread says rows || (is_none (says row) || false))
  unread_more rows = list_any-append (λ r. is_none (says r)) rows (row ∷ [])

  module _ {X : Type 0} (told : X → Told) (kept : List X) (all : Bool) (rows : List Row) (so_far : AreGathered told says rows kept all) where
    pub one_read : (x : X) (more : List X) → more ≡ kept ++ x ∷ [] → option_map told (Some x) ≡ says row
        → AreGathered told says (rows ++ row ∷ []) more all
    one_read x more is said = record {
      are = ap (map told) is ∙ map_more told kept x ∙ ap₂ ◌++◌ so_far.are (ap (λ o. cons_option o []) said) ∙ sym (filter_more rows);
      all = so_far.all ∙ ap not (sym (unread_more rows ∙ ap (λ o. has_unread says rows || (is_none o || false)) (sym said) ∙ or-false (has_unread says rows)));
    }

    pub one_unread : option_map told None ≡ says row → AreGathered told says (rows ++ row ∷ []) kept false
    one_unread said = record {
      are = so_far.are ∙ sym (append-nil (filter_map says rows)) ∙ ap (λ o. filter_map says rows ++ cons_option o []) said ∙ sym (filter_more rows);
      all = ap not (sym (unread_more rows ∙ ap (λ o. has_unread says rows || (is_none o || false)) (sym said) ∙ or-true (has_unread says rows)));
    }
