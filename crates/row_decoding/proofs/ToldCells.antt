-- What a cell is that says something.
use Rattle.std.proofs.Common.{◌≡◌, ℕ, ℤ, pos, negsuc, Bool, true, false, cond, Option, Some, None, refl, ap, ◌∙◌, arith}
use Rattle.std.proofs.lemmas.Bool.Decides.{Decides-int_eq}
use Rattle.std.specs.Ordering.{int_eq}
use Rattle.std.specs.Prelude.{option_map}
use Rattle.std.specs.Str.{is_utf8}
use Rattle.sqlite.specs.Values.{or_null}
use Rattle.sqlite.specs.declared.types.Value.{Value}
use Rattle.sqlite.specs.declared.types.Value.TheVariants.{Null, Int, Real, Text, Blob}
use Rattle.isad_core.specs.Texts.{Bytes}
use Rattle.office_tables.specs.Flags.{flag}
use Rattle.row_decoding.proofs.Common.{flag_in, number_in, or_null_in, text_in, whole_in}

pub is_number : (v : Value) (n : ℕ) → number_in v ≡ Some n → v ≡ Int (pos n)
is_number Null n h = absurd cc
is_number (Int (pos m)) n h = let same : m ≡ n = cc in ap (λ k. Int (pos k)) same
is_number (Int (negsuc m)) n h = absurd cc
is_number (Real x) n h = absurd cc
is_number (Text t) n h = absurd cc
is_number (Blob b) n h = absurd cc

pub is_whole : (v : Value) (n : ℤ) → whole_in v ≡ Some n → v ≡ Int n
is_whole Null n h = absurd cc
is_whole (Int m) n h = let same : m ≡ n = cc in ap Int same
is_whole (Real x) n h = absurd cc
is_whole (Text t) n h = absurd cc
is_whole (Blob b) n h = absurd cc

text_if : (t u : Bytes) (b : Bool) → cond b (Some t) None ≡ Some u → Text t ≡ Text u
text_if t u true h = let same : t ≡ u = cc in ap Text same
text_if t u false h = absurd cc

pub is_text : (v : Value) (t : Bytes) → text_in v ≡ Some t → v ≡ Text t
is_text Null t h = absurd cc
is_text (Int m) t h = absurd cc
is_text (Real x) t h = absurd cc
is_text (Text u) t h = text_if u t (is_utf8 u) h
is_text (Blob b) t h = absurd cc

int_is : (n m : ℤ) → int_eq n m ≡ true → n ≡ m
int_is n m h = grind (arith, Decides-int_eq n m)

flag_if : (n : ℤ) (b nil one : Bool) → int_eq n (pos 0) ≡ nil → int_eq n (pos 1) ≡ one
    → cond nil (Some false) (cond one (Some true) None) ≡ Some b → Int n ≡ Int (flag b)
flag_if n b true one is _ h = let same : false ≡ b = cc in ap Int (int_is n (pos 0) is) ∙ ap (λ c. Int (flag c)) same
flag_if n b false true _ is h = let same : true ≡ b = cc in ap Int (int_is n (pos 1) is) ∙ ap (λ c. Int (flag c)) same
flag_if n b false false _ _ h = absurd cc

pub is_flag : (v : Value) (b : Bool) → flag_in v ≡ Some b → v ≡ Int (flag b)
is_flag Null b h = absurd cc
is_flag (Int n) b h = flag_if n b (int_eq n (pos 0)) (int_eq n (pos 1)) refl refl h
is_flag (Real x) b h = absurd cc
is_flag (Text t) b h = absurd cc
is_flag (Blob c) b h = absurd cc

-- or null
module _ {X : Type 0} (says : Value → Option X) (whole : X → ℤ) (is : (v : Value) (x : X) → says v ≡ Some x → v ≡ Int (whole x)) where
  some_is : (v : Value) (s : Option X) (o : Option X) → says v ≡ s → option_map Some s ≡ Some o
      → v ≡ or_null Int (option_map whole o)
  some_is v None o said h = absurd cc
  some_is v (Some x) o said h = let same : Some x ≡ o = cc in is v x said ∙ ap (λ (p : Option X). or_null Int (option_map whole p)) same

  pub is_or_null : (v : Value) (o : Option X) → or_null_in says v ≡ Some o → v ≡ or_null Int (option_map whole o)
  is_or_null Null o h = let same : None ≡ o = cc in ap (λ (p : Option X). or_null Int (option_map whole p)) same
  is_or_null (Int n) o h = some_is (Int n) (says (Int n)) o refl h
  is_or_null (Real x) o h = some_is (Real x) (says (Real x)) o refl h
  is_or_null (Text t) o h = some_is (Text t) (says (Text t)) o refl h
  is_or_null (Blob b) o h = some_is (Blob b) (says (Blob b)) o refl h
