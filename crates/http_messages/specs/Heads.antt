-- A request's head, and what is checked before its body is read (RFC 9112, sections 3, 6 and 9; RFC 9110, 10.1.1).
use Rattle.std.specs.Prelude.{◌≡◌, ℕ, ◌≤◌, ◌⊎◌, ◌&&◌, ◌||◌, not, Bool, false, List, [], ◌∷◌, length, take, drop, map}
use Rattle.std.specs.Prelude.{count_by, nat_lt, ◌==◌, Option, Some, None, option_map, unwrap_or, if◌then◌else◌, codes}
use Rattle.std.specs.List.{list_all, list_any, find}
use Rattle.std.specs.Str.{str_eq_ignore_ascii_case, bytes_eq}
use Rattle.std.specs.Str.Parse.{digits_value}
use Rattle.std.specs.Char.{is_ascii_digit}
use Rattle.httparse.specs.Grammar.{RequestHead, ReadsRequest, skip_ows, is_ows}
use Rattle.httparse.specs.Spans.{name_and_value}
use Rattle.isad_core.specs.Texts.{Bytes}
use Rattle.http_messages.specs.declared.head_verdict.TheConstants.{FIELDS, LONGEST}
use Rattle.http_messages.specs.declared.status.Status.{Status}
use Rattle.http_messages.specs.declared.status.Status.TheVariants.{BadRequest, NotImplemented, TooLarge}

-- what a head asks for
pub record Request : Type 0 where
  pub method : Bytes
  pub target : Bytes
  pub length : Option ℕ  -- of its body, where one is given
  pub waits : Bool  -- the body comes after 100 Continue
  pub closes : Bool  -- the connection is closed after the answer

abbrev pub body_length : Request → ℕ
body_length request = unwrap_or request.length 0

-- the verdict on a head
pub data Verdict : Type 0 where
  -- it is answered with this status and the connection closed; and whether it is a HEAD, whose answer has no body
  Refused : Status → Bool → Verdict
  Accepted : Request → Verdict

-- ---- fields

-- a name and a value, without the white space around it
abbrev pub Field : Type 0
Field = Bytes × Bytes

-- the field has this name, in any ASCII case
abbrev pub is_named : Bytes → Field → Bool
is_named name field = str_eq_ignore_ascii_case field.0 name

abbrev pub hosts : List Field → ℕ
hosts fields = count_by (is_named (codes "host")) fields

-- the items of a list, which are separated by commas
abbrev pub onto_first : ℕ → List Bytes → List Bytes
onto_first b [] = (b ∷ []) ∷ []
onto_first b (item ∷ items) = (b ∷ item) ∷ items

abbrev pub list_items : Bytes → List Bytes
list_items [] = [] ∷ []
list_items (b ∷ bytes) = if b == 44 then [] ∷ list_items bytes else onto_first b (list_items bytes)

-- `close`, in any ASCII case, between white space
abbrev pub is_close : Bytes → Bool
is_close item = begins (skip_ows item)
  where
    begins : Bytes → Bool
    begins rest = str_eq_ignore_ascii_case (take 5 rest) (codes "close") && list_all is_ows (drop 5 rest)

-- a field of options, one of which is `close`
abbrev pub asks_close : Field → Bool
asks_close field = is_named (codes "connection") field && list_any is_close (list_items field.1)

-- the field that waits for 100 Continue
abbrev pub is_continue_expectation : Field → Bool
is_continue_expectation field = is_named (codes "expect") field && str_eq_ignore_ascii_case field.1 (codes "100-continue")

-- ---- the length of a body

-- one or more digits, and nothing else
abbrev pub is_digits : Bytes → Bool
is_digits bytes = if length bytes == 0 then false else list_all is_ascii_digit bytes

-- the digits from the first that is not 0
abbrev pub strip_zeros : Bytes → Bytes
strip_zeros [] = []
strip_zeros (b ∷ bytes) = if b == 48 then strip_zeros bytes else b ∷ bytes

-- the two stand for the same number
abbrev pub same_number : Bytes → Bytes → Bool
same_number a b = bytes_eq (strip_zeros a) (strip_zeros b)

-- the field gives this length, or gives none
abbrev pub agrees : Bytes → Field → Bool
agrees said field = not (is_named (codes "content-length") field) || (is_digits field.1 && same_number field.1 said)

abbrev pub longest_body : ℕ
longest_body = LONGEST

-- ---- the checks, in order; the first that holds refuses the head

abbrev pub is_head : Bytes → Bool
is_head method = bytes_eq method (codes "HEAD")

abbrev pub is_body : Option ℕ → Bool
is_body None = false
is_body (Some n) = nat_lt 0 n

abbrev pub accept : Bytes → Bytes → ℕ → List Field → Option ℕ → Verdict
accept method target minor fields size =
    Accepted (record {
      method = method;
      target = target;
      length = size;
      waits = minor == 1 && (is_body size && list_any is_continue_expectation fields);
      closes = minor == 0 || list_any asks_close fields;
    })

abbrev pub weigh_size : Bytes → Bytes → ℕ → List Field → ℕ → Verdict
weigh_size method target minor fields size =
    if nat_lt longest_body size then Refused TooLarge (is_head method)
    else accept method target minor fields (Some size)

abbrev pub weigh_length : Bytes → Bytes → ℕ → List Field → Option Bytes → Verdict
weigh_length method target minor fields None = accept method target minor fields None
weigh_length method target minor fields (Some said) =
    if list_all is_ascii_digit said && list_all (agrees said) fields
    then weigh_size method target minor fields (digits_value 10 said)
    else Refused BadRequest (is_head method)

abbrev pub first_length : List Field → Option Bytes
first_length fields = option_map (λ field. field.1) (find (is_named (codes "content-length")) fields)

abbrev pub weigh : Bytes → Bytes → ℕ → List Field → Verdict
weigh method target minor fields =
    if nat_lt 1 (hosts fields) || (minor == 1 && (hosts fields == 0)) then Refused BadRequest (is_head method)
    else if list_any (is_named (codes "transfer-encoding")) fields then Refused NotImplemented (is_head method)
    else weigh_length method target minor fields (first_length fields)

-- ---- over the grammar of RFC 9112, as httparse's default configuration takes it

abbrev pub most_fields : ℕ
most_fields = FIELDS

-- the block is one whole request head that has no more fields than it may
abbrev pub IsHeadOf : Bytes → RequestHead → Type 0
IsHeadOf block head = ReadsRequest block head [] × (length head.fields ≤ most_fields)

abbrev pub verdict_on : RequestHead → Verdict
verdict_on head = weigh head.method head.target head.minor (map name_and_value head.fields)

-- the verdict on a block; one that is not a head has no method
abbrev pub JudgesHead : Bytes → Verdict → Type 0
JudgesHead block verdict =
    ((head : RequestHead) × IsHeadOf block head × (verdict ≡ verdict_on head))
    ⊎ (((head : RequestHead) → IsHeadOf block head → ⊥) × (verdict ≡ Refused BadRequest false))
