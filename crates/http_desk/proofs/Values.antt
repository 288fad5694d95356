-- The strings of a value that is read from a JSON text in UTF-8 are UTF-8.
use Rattle.std.proofs.Common.{ℕ, zero, suc, List, [], ◌∷◌, length, IsUtf8, Option, Some, None, Ordering, Less, Equal}
use Rattle.std.proofs.Common.{Greater}
use Rattle.std.specs.Cmp.Lexicographic.{slice_cmp}
use Rattle.std.specs.Ordering.{nat_cmp, match_ordering}
use Rattle.std.specs.Str.{is_utf8}
use Rattle.json.specs.Json.{Parse, parse_map, after_end_array, read_key, items_step, members_step, items, members}
use Rattle.json.specs.Json.{value_with, value, if_last}
use Rattle.json.specs.Json as json
use Rattle.json.specs.Lex.{tokens}
use Rattle.json.specs.Token.{Token}
use Rattle.json.specs.Token as kinds
use Rattle.serde_json.specs.Data.{Data, put}
use Rattle.serde_json.specs.Data as values
use Rattle.serde_json.specs.Find.{get_member, get, as_str}
use Rattle.serde_json.specs.Read.{number_of, of_json, of_items, of_members, max_depth, read}
use Rattle.http_desk.proofs.Common.{AllByRecursion, Bytes, IfSome, IsUtf8-from_is_utf8, text_at, value_of}
use Rattle.http_desk.proofs.Options.{each_map, known_map, known_then, if_then}
use Rattle.http_desk.proofs.Strings.{HasText, tokens_have_texts}

-- ---- what the tokens say

-- each string in it is UTF-8; a key may be any bytes
abbrev mutual
  IsLegible : json.Json → Type 0
  IsLegible json.null = Unit {0}
  IsLegible (json.boolean b) = Unit {0}
  IsLegible (json.number s) = Unit {0}
  IsLegible (json.string s) = IsUtf8 s
  IsLegible (json.array js) = AreLegible js
  IsLegible (json.object ms) = HaveLegible ms

  AreLegible : json.Items → Type 0
  AreLegible json.no_items = Unit {0}
  AreLegible (json.item j js) = IsLegible j × AreLegible js

  HaveLegible : json.Members → Type 0
  HaveLegible json.no_members = Unit {0}
  HaveLegible (json.member k j ms) = IsLegible j × HaveLegible ms

abbrev AllTexts : List Token → Type 0
AllTexts ts = AllByRecursion HasText ts

-- what is read is so, and what is left has texts
abbrev Reads : {A : Type 0} → (A → Type 0) → Option (A × List Token) → Type 0
Reads P o = IfSome o (λ r. P r.0 × AllTexts r.1)

mapped : {A B : Type 0} (P : A → Type 0) (Q : B → Type 0) (f : A → B) (o : Option (A × List Token))
    → ((a : A) → P a → Q (f a)) → Reads P o → Reads Q (parse_map f o)
mapped P Q f None h r = tt
mapped P Q f (Some p) h r = (h p.0 r.0, r.1)

array_ends : (ts : List Token) → AllTexts ts → IfSome (after_end_array ts) AllTexts
array_ends [] u = tt
array_ends (kinds.begin_object ∷ ts) u = tt
array_ends (kinds.end_object ∷ ts) u = tt
array_ends (kinds.begin_array ∷ ts) u = tt
array_ends (kinds.end_array ∷ ts) u = u.1
array_ends (kinds.key s ∷ ts) u = tt
array_ends (kinds.string s ∷ ts) u = tt
array_ends (kinds.number s ∷ ts) u = tt
array_ends (kinds.boolean b ∷ ts) u = tt
array_ends (kinds.null ∷ ts) u = tt
array_ends (kinds.bad ∷ ts) u = tt

key_read : (ts : List Token) → AllTexts ts → IfSome (read_key ts) (λ r. AllTexts r.1)
key_read [] u = tt
key_read (kinds.begin_object ∷ ts) u = tt
key_read (kinds.end_object ∷ ts) u = u.1
key_read (kinds.begin_array ∷ ts) u = tt
key_read (kinds.end_array ∷ ts) u = tt
key_read (kinds.key s ∷ ts) u = u.1
key_read (kinds.string s ∷ ts) u = tt
key_read (kinds.number s ∷ ts) u = tt
key_read (kinds.boolean b ∷ ts) u = tt
key_read (kinds.null ∷ ts) u = tt
key_read (kinds.bad ∷ ts) u = tt

module _ (p : Parse json.Json) (h : (ts : List Token) → AllTexts ts → Reads IsLegible (p ts)) where
  one_item : (more : Parse json.Items) → ((ts : List Token) → AllTexts ts → Reads AreLegible (more ts))
      → (ts : List Token) → AllTexts ts
      → (o : Option (List Token)) → IfSome o AllTexts → Reads AreLegible (items_step p more ts o)
  one_item more k ts u (Some rest) e = (tt, e)
  one_item more k ts u None e =
      known_then (λ r. AreLegible r.0 × AllTexts r.1) (λ r. IsLegible r.0 × AllTexts r.1) _ (p ts) (h ts u)
      (λ q r. mapped AreLegible AreLegible (json.item q.0) (more q.1) (λ js l. (r.0, l)) (k q.1 r.1))

  items_read : (n : ℕ) (ts : List Token) → AllTexts ts → Reads AreLegible (items p n ts)
  unfolding items
  items_read zero ts u = tt
  items_read (suc n) ts u = one_item (items p n) (items_read n) ts u (after_end_array ts) (array_ends ts u)

  one_member : (more : Parse json.Members) → ((ts : List Token) → AllTexts ts → Reads HaveLegible (more ts))
      → (o : Option Bytes) (ts : List Token) → AllTexts ts
      → Reads HaveLegible (members_step p more o ts)
  one_member more k None ts u = (tt, u)
  one_member more k (Some key) ts u =
      known_then (λ r. HaveLegible r.0 × AllTexts r.1) (λ r. IsLegible r.0 × AllTexts r.1) _ (p ts) (h ts u)
      (λ q r. mapped HaveLegible HaveLegible (json.member key q.0) (more q.1) (λ ms l. (r.0, l)) (k q.1 r.1))

  members_read : (n : ℕ) (ts : List Token) → AllTexts ts → Reads HaveLegible (members p n ts)
  unfolding members
  members_read zero ts u = tt
  members_read (suc n) ts u =
      known_then (λ r. HaveLegible r.0 × AllTexts r.1) (λ r. AllTexts r.1) _ (read_key ts) (key_read ts u)
      (λ q r. one_member (members p n) (members_read n) q.0 q.1 r)

one_value : (a : Parse json.Items) (o : Parse json.Members)
    → ((ts : List Token) → AllTexts ts → Reads AreLegible (a ts))
    → ((ts : List Token) → AllTexts ts → Reads HaveLegible (o ts)) → (ts : List Token) → AllTexts ts
    → Reads IsLegible (value_with a o ts)
one_value a o h k [] u = tt
one_value a o h k (kinds.begin_object ∷ ts) u = mapped HaveLegible IsLegible json.object (o ts) (λ ms l. l) (k ts u.1)
one_value a o h k (kinds.end_object ∷ ts) u = tt
one_value a o h k (kinds.begin_array ∷ ts) u = mapped AreLegible IsLegible json.array (a ts) (λ js l. l) (h ts u.1)
one_value a o h k (kinds.end_array ∷ ts) u = tt
one_value a o h k (kinds.key s ∷ ts) u = tt
one_value a o h k (kinds.string s ∷ ts) u = u
one_value a o h k (kinds.number s ∷ ts) u = u
one_value a o h k (kinds.boolean b ∷ ts) u = u
one_value a o h k (kinds.null ∷ ts) u = u
one_value a o h k (kinds.bad ∷ ts) u = tt

value_read : (depth : ℕ) (ts : List Token) → AllTexts ts → Reads IsLegible (value depth ts)
unfolding value
value_read zero ts u = one_value (λ l. None) (λ l. None) (λ l v. tt) (λ l v. tt) ts u
value_read (suc depth) ts u =
    one_value (λ l. items (value depth) (length l) l) (λ l. members (value depth) (length l) l)
    (λ l v. items_read (value depth) (value_read depth) (length l) l v) (λ l v. members_read (value depth) (value_read depth) (length l) l v) ts u

-- ---- the values

abbrev mutual
  pub HasStrings : Data → Type 0
  HasStrings values.null = Unit {0}
  HasStrings (values.boolean b) = Unit {0}
  HasStrings (values.number n) = Unit {0}
  HasStrings (values.string s) = IsUtf8 s
  HasStrings (values.array ds) = ItemsHaveStrings ds
  HasStrings (values.object ms) = MembersHaveStrings ms

  ItemsHaveStrings : values.Items → Type 0
  ItemsHaveStrings values.no_items = Unit {0}
  ItemsHaveStrings (values.item d ds) = HasStrings d × ItemsHaveStrings ds

  MembersHaveStrings : values.Members → Type 0
  MembersHaveStrings values.no_members = Unit {0}
  MembersHaveStrings (values.member k d ms) = HasStrings d × MembersHaveStrings ms

ordered : {A : Type 0} (P : A → Type 0) (o : Ordering) (a b c : A) → P a → P b → P c → P (match_ordering o a b c)
ordered P Less a b c h i j = h
ordered P Equal a b c h i j = i
ordered P Greater a b c h i j = j

put_in : (k : Bytes) (d : Data) (ms : values.Members) → HasStrings d → MembersHaveStrings ms
    → MembersHaveStrings (put k d ms)
put_in k d values.no_members h u = (h, tt)
put_in k d (values.member l e ms) h u =
    ordered MembersHaveStrings (slice_cmp nat_cmp k l) (values.member k d (values.member l e ms)) (values.member l d ms) (values.member l e (put k d ms))
    (h, u) (h, u.1) (u.0, put_in k d ms h u.1)

mutual
  json_made : (j : json.Json) → IsLegible j → IfSome (of_json j) HasStrings
  json_made json.null u = tt
  json_made (json.boolean b) u = tt
  json_made (json.number s) u = each_map HasStrings values.number (number_of s) (λ n. tt)
  json_made (json.string s) u = u
  json_made (json.array js) u =
      known_map HasStrings ItemsHaveStrings values.array (of_items js) (items_made js u) (λ ds k. k)
  json_made (json.object ms) u =
      known_map HasStrings MembersHaveStrings values.object (of_members ms values.no_members) (members_made ms values.no_members u tt) (λ found k. k)

  items_made : (js : json.Items) → AreLegible js → IfSome (of_items js) ItemsHaveStrings
  items_made json.no_items u = tt
  items_made (json.item j js) u =
      known_then ItemsHaveStrings HasStrings _ (of_json j) (json_made j u.0)
      (λ d h. known_map ItemsHaveStrings ItemsHaveStrings (values.item d) (of_items js) (items_made js u.1) (λ ds k. (h, k)))

  members_made : (ms : json.Members) (found : values.Members) → HaveLegible ms → MembersHaveStrings found
      → IfSome (of_members ms found) MembersHaveStrings
  members_made json.no_members found u h = h
  members_made (json.member k j ms) found u h =
      known_then MembersHaveStrings HasStrings _ (of_json j) (json_made j u.0) (λ d l. members_made ms (put k d found) u.1 (put_in k d found l h))

last_has : (j : json.Json) (ts : List Token) → IsLegible j → IfSome (if_last j ts) IsLegible
last_has j [] u = u
last_has j (t ∷ ts) u = tt

read_has : (text : Bytes) → IsUtf8 text → IfSome (read text) HasStrings
read_has text u =
    known_then HasStrings IsLegible of_json _
    (known_then IsLegible (λ r. IsLegible r.0 × AllTexts r.1) _ (value max_depth (tokens text)) (value_read max_depth (tokens text) (tokens_have_texts text u)) (λ p r. last_has p.0 p.1 r.0))
    json_made

pub values_have : (body : Bytes) → IfSome (value_of body) HasStrings
values_have body = if_then HasStrings (is_utf8 body) (read body) (λ e. read_has body (IsUtf8-from_is_utf8 body e))

-- ---- a member

member_has : (k : Bytes) (ms : values.Members) → MembersHaveStrings ms → IfSome (get_member k ms) HasStrings
member_has k values.no_members u = tt
member_has k (values.member l e ms) u =
    ordered (λ (o : Option Data). IfSome o HasStrings) (slice_cmp nat_cmp k l) (get_member k ms) (Some e) (get_member k ms) (member_has k ms u.1) u.0 (member_has k ms u.1)

found_has : (k : Bytes) (d : Data) → HasStrings d → IfSome (get k d) HasStrings
found_has k values.null u = tt
found_has k (values.boolean b) u = tt
found_has k (values.number n) u = tt
found_has k (values.string s) u = tt
found_has k (values.array ds) u = tt
found_has k (values.object ms) u = member_has k ms u

string_has : (d : Data) → HasStrings d → IfSome (as_str d) IsUtf8
string_has values.null u = tt
string_has (values.boolean b) u = tt
string_has (values.number n) u = tt
string_has (values.string s) u = u
string_has (values.array ds) u = tt
string_has (values.object ms) u = tt

pub texts_at : (key : Bytes) (value : Data) → HasStrings value → IfSome (text_at key value) IsUtf8
texts_at key value u = known_then IsUtf8 HasStrings as_str (get key value) (found_has key value u) string_has
