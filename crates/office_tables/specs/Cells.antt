-- What the cells of rows of doubtful origin mean. A cell with a value that its column cannot have means nothing.
use Rattle.std.specs.Prelude.{ℕ, ℤ, pos, Bool, true, false, cond, List, Option, Some, None, option_map, option_and_then}
use Rattle.std.specs.Prelude.{is_none}
use Rattle.std.specs.List.{list_any}
use Rattle.std.specs.Ordering.{int_eq}
use Rattle.std.specs.Str.{is_utf8}
use Rattle.sqlite.specs.declared.types.Value.{Value}
use Rattle.sqlite.specs.declared.types.Value.TheVariants.{Null, Int, Real, Text, Blob}
use Rattle.sqlite.specs.Order.{Row}
use Rattle.isad_core.specs.Texts.{Bytes}

-- ---- cells

-- a whole number
abbrev pub whole_in : Value → Option ℤ
whole_in (Int n) = Some n
whole_in _ = None

-- a number, from 0 on
abbrev pub number_in : Value → Option ℕ
number_in (Int (pos n)) = Some n
number_in _ = None

-- a text, which is UTF-8
abbrev pub text_in : Value → Option Bytes
text_in (Text t) = cond (is_utf8 t) (Some t) None
text_in _ = None

-- 0 for no, or 1 for yes
abbrev pub flag_in : Value → Option Bool
flag_in (Int n) = cond (int_eq n (pos 0)) (Some false) (cond (int_eq n (pos 1)) (Some true) None)
flag_in _ = None

-- null, or else what the cell means
abbrev pub or_null_in : {X : Type 0} → (Value → Option X) → Value → Option (Option X)
or_null_in says Null = Some None
or_null_in says (Int n) = option_map Some (says (Int n))
or_null_in says (Real x) = option_map Some (says (Real x))
or_null_in says (Text t) = option_map Some (says (Text t))
or_null_in says (Blob b) = option_map Some (says (Blob b))

-- ---- rows

-- what is made of a cell, if it means something
abbrev pub from : {X Y : Type 0} → Option X → (X → Option Y) → Option Y
from said make = option_and_then make said

-- some row cannot be read
abbrev pub has_unread : {X : Type 0} → (Row → Option X) → List Row → Bool
has_unread read rows = list_any (λ row. is_none (read row)) rows
