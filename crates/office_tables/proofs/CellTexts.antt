-- What cells say, and that the texts which they say are UTF-8.
use Rattle.std.proofs.Common.{◌≡◌, true, false, Bool, List, [], ◌∷◌, None, Some, Option, filter_map, cond, refl, ap}
use Rattle.std.proofs.Common.{subst, IsUtf8, inl, inr}
use Rattle.std.proofs.lemmas.Str.{IsUtf8-from_is_utf8, is_utf8-from_IsUtf8}
use Rattle.std.specs.Str.{is_utf8}
use Rattle.isad_core.specs.Texts.{Bytes}
use Rattle.office_tables.specs.Cells.{text_in, from}
use Rattle.office_tables.proofs.Common.{AllByRecursion, Blob, Int, Null, Real, Row, Text, Value, cases_Bool}
use Rattle.office_tables.proofs.Common.{cons_option}

-- what is made of a cell is made of what it says
pub from_first : {X Y : Type 0} (said : Option X) (make : X → Option Y) (y : Y) → from said make ≡ Some y
    → (x : X) × (said ≡ Some x) × (make x ≡ Some y)
from_first None make y h = absurd cc
from_first (Some x) make y h = (x, refl, h)

pub says_text : (t : Bytes) → IsUtf8 t → text_in (Text t) ≡ Some t
says_text t u = ap (λ b. cond b (Some t) None) (is_utf8-from_IsUtf8 t u)

pub says_nothing : (t : Bytes) → ¬ (IsUtf8 t) → text_in (Text t) ≡ None
says_nothing t not_utf8 = elim (cases_Bool (is_utf8 t)) [
  | inl is ↦ absurd (not_utf8 (IsUtf8-from_is_utf8 t is))
  | inr isnt ↦ ap (λ b. cond b (Some t) None) isnt
]

utf8_if : (t u : Bytes) (b : Bool) → is_utf8 t ≡ b → cond b (Some t) None ≡ Some u → IsUtf8 u
utf8_if t u true is h = let same : t ≡ u = cc in subst IsUtf8 same (IsUtf8-from_is_utf8 t is)
utf8_if t u false is h = absurd cc

pub is_text : (v : Value) (u : Bytes) → text_in v ≡ Some u → IsUtf8 u
is_text Null u h = absurd cc
is_text (Int n) u h = absurd cc
is_text (Real x) u h = absurd cc
is_text (Text t) u h = utf8_if t u (is_utf8 t) refl h
is_text (Blob b) u h = absurd cc

-- what holds of each row that is read holds of all of them
pub all_read : {X : Type 0} (read : Row → Option X) (P : X → Type 0) → ((row : Row) (x : X) → read row ≡ Some x → P x)
    → (rows : List Row) → AllByRecursion P (filter_map read rows)
all_read {X} read P each [] = tt
all_read {X} read P each (row ∷ rows) = at (all_read read P each rows) (read row) refl
  where
    at : AllByRecursion P (filter_map read rows) → (o : Option X) → read row ≡ o
        → AllByRecursion P (cons_option o (filter_map read rows))
    at more None is = more
    at more (Some x) is = (each row x is, more)
