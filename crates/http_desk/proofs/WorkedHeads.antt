-- Heads of worked requests, and sessions of two messages from their pieces.
use Rattle.std.proofs.Common.{◌≡◌, ◌<◌, ◌≤◌, ℕ, List, [], ◌∷◌, ◌++◌, length, take, refl, sym, ap, ◌∙◌, lit<, inl, true}
use Rattle.std.proofs.Common.{false, codes, append-nil, Some, None}
use Rattle.std.proofs.Math.Utf8.{encode}
use Rattle.std.proofs.lemmas.List.Elements.{All-nil, All-cons}
use Rattle.std.proofs.lemmas.List.Sums.{AllPass-from_list_all}
use Rattle.std.specs.List.{All}
use Rattle.std.specs.Str.{is_utf8, chars}
use Rattle.httparse.specs.Grammar.{Field, IsField, RequestHead, IsRequestHead, print_request, crlf, is_token_byte}
use Rattle.httparse.specs.Grammar.{is_uri_byte, is_value_byte, trim_ows, IsToken}
use Rattle.http_messages.specs.HeadScan.{scan}
use Rattle.http_desk.proofs.Common.{Accepted, Begins, BodyCut, Bytes, Cut, End, HasHead, IsBlank, IsUtf8-from_is_utf8}
use Rattle.http_desk.proofs.Common.{Message, Nothing, Request, Session, Stands, State, StaysOpen, Verdict, Whole}
use Rattle.http_desk.proofs.Common.{continue_if, draft_head, list_all, list_request, longest_head, message_text}
use Rattle.http_desk.proofs.Common.{page_request, register_head, scan_take_more, state_after_message, text_after_all}
use Rattle.http_desk.proofs.Common.{verdict_on}

-- ---- heads

token : (bytes : Bytes) → list_all is_token_byte bytes ≡ true → 0 < length bytes → IsToken bytes
token bytes e h = (h, AllPass-from_list_all is_token_byte bytes e)

is_field : (name raw : Bytes) → list_all is_token_byte name ≡ true → 0 < length name → list_all is_value_byte raw ≡ true
    → IsField (record { name = name; raw = raw; end = crlf })
is_field name raw e h f = record { name = token name e h; raw = AllPass-from_list_all is_value_byte raw f }

abbrev head_of : (method target : Bytes) → List Field → RequestHead
head_of method target fields =
    record { blank = []; method = method; target = target; minor = 1; line_end = crlf; fields = fields; last = crlf }

abbrev host : Field
host = record { name = codes "Host"; raw = codes " x"; end = crlf }

abbrev size : Bytes → Field
size digits = record { name = codes "Content-Length"; raw = digits; end = crlf }

host_is : IsField host
unfolding is_token_byte
host_is = is_field (codes "Host") (codes " x") refl (lit< tt) refl

size_is : (digits : Bytes) → list_all is_value_byte digits ≡ true → IsField (size digits)
unfolding is_token_byte
size_is digits h = is_field (codes "Content-Length") digits refl (lit< tt) h

abbrev list_head : RequestHead
list_head = head_of (codes "GET") (codes "/public/fonds") (host ∷ [])

abbrev page_head : RequestHead
page_head = head_of (codes "GET") (codes "/public/units/2") (host ∷ [])

abbrev registering : RequestHead
registering = head_of (codes "POST") (codes "/desk/register") (host ∷ size (codes " 35") ∷ [])

abbrev drafting : RequestHead
drafting = head_of (codes "POST") (codes "/desk/status") (host ∷ size (codes " 27") ∷ [])

one_field : All IsField (host ∷ [])
one_field = All-cons IsField host [] host_is (All-nil IsField)

two_fields : (digits : Bytes) → list_all is_value_byte digits ≡ true → All IsField (host ∷ size digits ∷ [])
two_fields digits h = All-cons IsField host (size digits ∷ []) host_is (All-cons IsField (size digits) [] (size_is digits h) (All-nil IsField))

list_is : IsRequestHead list_head
unfolding is_token_byte is_utf8 chars encode
list_is = record {
  method = token (codes "GET") refl (lit< tt);
  target = (lit< tt, AllPass-from_list_all is_uri_byte (codes "/public/fonds") refl);
  target_text = IsUtf8-from_is_utf8 (codes "/public/fonds") refl;
  minor = lit< tt;
  fields = one_field;
}

page_is : IsRequestHead page_head
unfolding is_token_byte is_utf8 chars encode
page_is = record {
  method = token (codes "GET") refl (lit< tt);
  target = (lit< tt, AllPass-from_list_all is_uri_byte (codes "/public/units/2") refl);
  target_text = IsUtf8-from_is_utf8 (codes "/public/units/2") refl;
  minor = lit< tt;
  fields = one_field;
}

registering_is : IsRequestHead registering
unfolding is_token_byte is_utf8 chars encode
registering_is = record {
  method = token (codes "POST") refl (lit< tt);
  target = (lit< tt, AllPass-from_list_all is_uri_byte (codes "/desk/register") refl);
  target_text = IsUtf8-from_is_utf8 (codes "/desk/register") refl;
  minor = lit< tt;
  fields = two_fields (codes " 35") refl;
}

drafting_is : IsRequestHead drafting
unfolding is_token_byte is_utf8 chars encode
drafting_is = record {
  method = token (codes "POST") refl (lit< tt);
  target = (lit< tt, AllPass-from_list_all is_uri_byte (codes "/desk/status") refl);
  target_text = IsUtf8-from_is_utf8 (codes "/desk/status") refl;
  minor = lit< tt;
  fields = two_fields (codes " 27") refl;
}

has_head : (block more : Bytes) (head : RequestHead) (verdict : Verdict)
    → scan (take longest_head block) ≡ Whole (length block)
    → IsRequestHead head → block ≡ print_request head ++ [] → length head.fields ≤ 64 → verdict ≡ verdict_on head
    → HasHead (block ++ more) block verdict more
has_head block more head verdict ends is printed few worth = record {
  ends = scan_take_more longest_head block more (length block) ends;
  whole = refl;
  judged = inl (head, ((is, printed), few), worth);
}

abbrev pub asks_for : Bytes → Request
asks_for target = record { method = codes "GET"; target = target; length = None; waits = false; closes = false }

abbrev pub orders_at : Bytes → ℕ → Request
orders_at target count =
    record { method = codes "POST"; target = target; length = Some count; waits = false; closes = false }

pub list_has : (more : Bytes)
    → HasHead (list_request ++ more) list_request (Accepted (asks_for (codes "/public/fonds"))) more
unfolding scan print_request trim_ows
list_has more = has_head list_request more list_head (Accepted (asks_for (codes "/public/fonds"))) refl list_is refl (lit< tt) refl

pub page_has : (more : Bytes)
    → HasHead (page_request ++ more) page_request (Accepted (asks_for (codes "/public/units/2"))) more
unfolding scan print_request trim_ows
page_has more = has_head page_request more page_head (Accepted (asks_for (codes "/public/units/2"))) refl page_is refl (lit< tt) refl

pub register_has : (more : Bytes)
    → HasHead (register_head ++ more) register_head (Accepted (orders_at (codes "/desk/register") 35)) more
unfolding scan print_request trim_ows
register_has more = has_head register_head more registering (Accepted (orders_at (codes "/desk/register") 35)) refl registering_is refl (lit< tt) refl

pub draft_has : (more : Bytes)
    → HasHead (draft_head ++ more) draft_head (Accepted (orders_at (codes "/desk/status") 27)) more
unfolding scan print_request trim_ows
draft_has more = has_head draft_head more drafting (Accepted (orders_at (codes "/desk/status") 27)) refl drafting_is refl (lit< tt) refl

-- ---- sessions

pub two_texts : (s t : State) (m n : Message) (a b : Bytes) → message_text false s m ≡ a → state_after_message s m ≡ t
    → message_text false t n ≡ b
    → a ++ b ≡ text_after_all s (m ∷ n ∷ []) ++ []
two_texts s t m n a b e kept f =
    let later : message_text false (state_after_message s m) n ≡ b = ap (λ x. message_text false x n) kept ∙ f in
    sym (append-nil (text_after_all s (m ∷ n ∷ [])) ∙ (λ i. e i ++ (later i ++ [])) ∙ ap (λ l. a ++ l) (append-nil b))

pub nothing_is_blank : IsBlank []
unfolding scan
nothing_is_blank = (lit< tt, refl)

-- two messages are answered, and the input ends
abbrev pub two_answered : (s t u : State) (input more : Bytes) (m n : Message) (a b : Bytes) → Begins input m more
    → Begins more n [] → StaysOpen m → StaysOpen n
    → message_text false s m ≡ a → state_after_message s m ≡ t → message_text false t n ≡ b → state_after_message t n ≡ u
    → Session s input (a ++ b) End u
two_answered s t u input more m n a b first second stays stays2 e kept f left = record {
  messages = m ∷ n ∷ [];
  rest = [];
  out = [];
  cut = (more, first, ([], second, refl));
  stay = (stays, (stays2, tt));
  few = lit< tt;
  stops = record { last = Nothing; stands = nothing_is_blank; ends = refl; written = refl; leaves = sym (ap (λ x. state_after_message x n) kept ∙ left) };
  says = two_texts s t m n a b e kept f;
}

-- one message is answered, and the input ends inside the body of the next
abbrev pub one_answered : (s t : State) (input more : Bytes) (m : Message) (next : Request) (a : Bytes)
    → Begins input m more → StaysOpen m
    → message_text false s m ≡ a → state_after_message s m ≡ t → Stands more (BodyCut next) → continue_if next.waits ≡ []
    → Session s input a Cut t
one_answered s t input more m next a first stays e kept stands none = record {
  messages = m ∷ [];
  rest = more;
  out = [];
  cut = (more, first, refl);
  stay = (stays, tt);
  few = lit< tt;
  stops = record { last = BodyCut next; stands = stands; ends = tt; written = sym none; leaves = sym kept };
  says = sym (append-nil (text_after_all s (m ∷ [])) ∙ append-nil (message_text false s m) ∙ e);
}
