-- Lemmas on bodies.
use Rattle.std.proofs.Common.{◌≡◌, Bool, true, false, Some, None, refl, sym}
use Rattle.std.proofs.lemmas.Str.{IsUtf8-from_is_utf8, is_utf8-from_IsUtf8}
use Rattle.std.specs.Str.{is_utf8}
use Rattle.serde_json.specs.Data.{Data}
use Rattle.serde_json.specs.Read.{read}
use Rattle.http_messages.specs.Members.{value_of}
use Rattle.http_messages.proofs.Common.{Bytes, IsUtf8}

pub some_value : (body : Bytes) (d : Data) → IsUtf8 body → read body ≡ Some d → Some d ≡ value_of body
some_value body d u e = let t = is_utf8-from_IsUtf8 body u in rw t (sym e)

pub no_value : (body : Bytes) → (IsUtf8 body → read body ≡ None) → None ≡ value_of body
no_value body h = by_cases (is_utf8 body) refl
  where
    by_cases : (b : Bool) → is_utf8 body ≡ b → None ≡ value_of body
    by_cases true e = let t = e in rw t (sym (h (IsUtf8-from_is_utf8 body e)))
    by_cases false e = let t = e in rw t refl

pub never_true : false ≡ true → ⊥
never_true e = cc
