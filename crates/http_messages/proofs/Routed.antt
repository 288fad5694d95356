-- What a path leads to in the router of the table, and by the definitions.
use Rattle.std.proofs.Common.{◌≡◌, ◌<◌, ◌≤◌, ◌+◌, ◌-◌, ◌==◌, ℕ, zero, suc, List, [], ◌∷◌, length, map, drop, get_or}
use Rattle.std.proofs.Common.{Option, Some, None, Bool, true, false, cond, refl, sym, ap, ◌∙◌, subst, arith, lit<}
use Rattle.std.proofs.lemmas.List.{take_rest}
use Rattle.std.proofs.lemmas.Str.{IsUtf8-from_ascii, IsUtf8-from_is_utf8, is_utf8-from_IsUtf8, IsUtf8-drop}
use Rattle.std.proofs.lemmas.Str.{IsCharBoundary-after_ascii}
use Rattle.std.specs.Str.{is_utf8}
use Rattle.matchit.proofs.OnLiterals.{matchit_on_literals}
use Rattle.matchit.specs.Params.{walk, wild_from, wild_stop, part_of, AllText}
use Rattle.matchit.specs.Router.{RouteOf}
use Rattle.matchit.specs.Rows.{RowsOf, param_token}
use Rattle.matchit.specs.Seek.{first, has_slash}
use Rattle.http_messages.specs.Router.{rows_of_table, first_part}
use Rattle.http_messages.specs.Routes.{or_else}
use Rattle.http_messages.specs.declared.table.Leads.{Leads}
use Rattle.http_messages.proofs.Common.{Bytes, IsAscii, IsUtf8, Route, first_route, leads_to, leb, list_all, list_any}
use Rattle.http_messages.proofs.Common.{ltb, nat_tests, parameter_in, route_of, route_table, ◌&&◌}
use Rattle.http_messages.proofs.Bodies.{never_true}
use Rattle.http_messages.proofs.Matched.{hits, picked, settled, all_shaped, all_apart, all_apart_from, AllBytes}
use Rattle.http_messages.proofs.Matched.{first_picked, picked_settled, none_picked, both_left, both_right}

-- ---- the rows of the router

abbrev tokens : Bytes → List ℕ
tokens [] = []
tokens (a ∷ pattern) = cond (a == 123) (param_token ∷ []) (a ∷ tokens pattern)

abbrev has_parameter : Bytes → Bool
has_parameter pattern = list_any (λ a. a == 123) pattern

-- how many bytes stand before the parameter
abbrev front : Bytes → ℕ
front [] = 0
front (a ∷ pattern) = cond (a == 123) 0 (suc (front pattern))

-- where the parameter's name begins and ends
abbrev name_at : Bytes → ℕ × ℕ
name_at pattern = (front pattern + 1, length pattern - 1)

abbrev row : Bytes × Leads → List ℕ × RouteOf Leads
row (pattern, to) = (
  tokens pattern,
  record { pattern = tokens pattern; text = pattern; names = cond (has_parameter pattern) (name_at pattern ∷ []) []; value = to },
)

abbrev rows : RowsOf (RouteOf Leads)
rows = map row route_table

abbrev is_ascii : Bytes → Bool
is_ascii bytes = list_all (λ b. ltb b 128) bytes

-- the pattern and the name of its parameter are ASCII
abbrev is_plain : Bytes × Leads → Bool
is_plain (pattern, to) = is_ascii pattern && is_ascii (part_of pattern (name_at pattern).0 (name_at pattern).1)

table_rows : rows_of_table ≡ settled rows
unfolding matchit_on_literals
table_rows = refl

rows_shaped : all_shaped (settled rows) ≡ true
rows_shaped = refl

rows_apart : all_apart rows ≡ true
rows_apart = refl

settled_apart : all_apart (settled rows) ≡ true
settled_apart = refl

table_plain : list_all is_plain route_table ≡ true
table_plain = refl

-- ---- what a pattern takes

byte_below : (a : ℕ) (t : Bytes) → is_ascii (a ∷ t) ≡ true → a < 128
byte_below a t h = let e : ltb a 128 ≡ true = both_left (ltb a 128) (is_ascii t) h in grind (arith, nat_tests)

bytes_below : (a : ℕ) (t : Bytes) → is_ascii (a ∷ t) ≡ true → is_ascii t ≡ true
bytes_below a t h = both_right (ltb a 128) (is_ascii t) h

no_token : (a : ℕ) → a < 128 → (a == param_token) ≡ false
no_token a h = grind (arith, nat_tests)

same_slash : (bytes : Bytes) → list_any (λ b. b == 47) bytes ≡ has_slash bytes
same_slash [] = refl
same_slash (b ∷ bytes) = by (same_slash bytes) (b == 47) refl
  where
    by : list_any (λ c. c == 47) bytes ≡ has_slash bytes → (v : Bool) → (b == 47) ≡ v
        → list_any (λ c. c == 47) (b ∷ bytes) ≡ has_slash (b ∷ bytes)
    by more true e = rw e refl
    by more false e = rw e more

-- a path that the row does not take has no parameter
missed : (t p : Bytes) → is_ascii t ≡ true → hits (tokens t) p ≡ false → parameter_in t p ≡ None
missed [] [] l h = absurd (never_true (sym h))
missed [] (b ∷ p) l h = refl
missed (a ∷ t) [] l h = refl
missed (a ∷ t) (b ∷ p) l h = by (λ g. missed t p (bytes_below a t l) g) (a == 123) refl
  where
    by_byte : (hits (tokens t) p ≡ false → parameter_in t p ≡ None) → (v : Bool) → (a == b) ≡ v → (a == 123) ≡ false
        → parameter_in (a ∷ t) (b ∷ p) ≡ None
    by_byte deep false e f = rw (f, e) refl
    by_byte deep true e f =
        let n = no_token a (byte_below a t l) in
        rw (f, e) (deep (rw (f, n, e) at h))

    by_slash : (v : Bool) → has_slash (b ∷ p) ≡ v → (a == 123) ≡ true → parameter_in (a ∷ t) (b ∷ p) ≡ None
    by_slash false e f = absurd (never_true (sym (rw (f, e) at h)))
    by_slash true e f = let any : list_any (λ c. c == 47) (b ∷ p) ≡ true = same_slash (b ∷ p) ∙ e in rw (f, any) refl

    by : (hits (tokens t) p ≡ false → parameter_in t p ≡ None) → (v : Bool) → (a == 123) ≡ v
        → parameter_in (a ∷ t) (b ∷ p) ≡ None
    by deep true f = by_slash (has_slash (b ∷ p)) refl f
    by deep false f = by_byte deep (a == b) refl f

past_byte : (b : ℕ) (p : Bytes) → b < 128 → IsUtf8 (b ∷ p) → IsUtf8 p
past_byte b p h u = IsUtf8-drop (b ∷ p) 1 u (IsCharBoundary-after_ascii (b ∷ p) 0 u (omega arith) h)

-- in a path that the row takes, the parameter is all that follows what stands before it in the pattern
record Taken (t p : Bytes) : Type 0 where
  within : front t ≤ length p
  parameter : parameter_in t p ≡ Some (drop (front t) p)
  whole : has_parameter t ≡ false → drop (front t) p ≡ []
  text : IsUtf8 p → IsUtf8 (drop (front t) p)

taken : (t p : Bytes) → is_ascii t ≡ true → hits (tokens t) p ≡ true → Taken t p
taken [] [] l h = record { within = omega arith; parameter = refl; whole = λ f. refl; text = λ u. u }
taken [] (b ∷ p) l h = absurd (never_true h)
taken (a ∷ t) [] l h = by (a == 123) refl
  where
    by : (v : Bool) → (a == 123) ≡ v → Taken (a ∷ t) []
    by true f = absurd (never_true (rw f at h))
    by false f = absurd (never_true (rw f at h))
taken (a ∷ t) (b ∷ p) l h = by (λ g. taken t p (bytes_below a t l) g) (a == 123) refl
  where
    by_slash : (v : Bool) → has_slash (b ∷ p) ≡ v → (a == 123) ≡ true → Taken (a ∷ t) (b ∷ p)
    by_slash true e f = absurd (never_true (rw (f, e) at h))
    by_slash false e f =
        let none : list_any (λ c. c == 47) (b ∷ p) ≡ false = same_slash (b ∷ p) ∙ e in
        record { within = rw f (omega arith); parameter = rw (f, none) refl; whole = λ g. absurd (never_true (sym (rw f at g))); text = rw f (λ u. u) }

    by : (hits (tokens t) p ≡ true → Taken t p) → (v : Bool) → (a == 123) ≡ v → Taken (a ∷ t) (b ∷ p)
    by deep true f = by_slash (has_slash (b ∷ p)) refl f
    by deep false f =
        let n = no_token a (byte_below a t l) in
        let both : (a == b && hits (tokens t) p) ≡ true = rw (f, n) at h in
        let e : (a == b) ≡ true = both_left (a == b) (hits (tokens t) p) both in
        let more = deep (both_right (a == b) (hits (tokens t) p) both) in
        let fits = more.within in
        let small : a < 128 = byte_below a t l in
        let below : b < 128 = grind (arith, nat_tests) in
        record {
          within = rw f (omega arith);
          parameter = rw (f, e) more.parameter;
          whole = λ g. rw f (more.whole (rw f at g));
          text = rw f (λ u. more.text (past_byte b p below u));
        }

-- ---- what a router says of the parameter

pairs : (a b c d : ℕ) → a ≡ c → b ≡ d → ◌≡◌ {A = ℕ × ℕ} (a, b) (c, d)
pairs a b c d e f = λ i. (e i, f i)

begins : (t p : Bytes) (len k at : ℕ) → len ≡ at + length p → is_ascii t ≡ true → has_parameter t ≡ true
    → hits (tokens t) p ≡ true
    → wild_from (tokens t) len k at ≡ (k + front t, at + front t)
begins [] p len k at n l q h = absurd (never_true q)
begins (a ∷ t) [] len k at n l q h = by (a == 123) refl
  where
    by : (v : Bool) → (a == 123) ≡ v → wild_from (tokens (a ∷ t)) len k at ≡ (k + front (a ∷ t), at + front (a ∷ t))
    by true f = absurd (never_true (rw f at h))
    by false f = absurd (never_true (rw f at h))
begins (a ∷ t) (b ∷ p) len k at n l q h =
    by (λ m. begins t p len (k + 1) (at + 1) m (bytes_below a t l)) (a == 123) refl
  where
    by : (len ≡ at + 1 + length p → has_parameter t ≡ true → hits (tokens t) p ≡ true → wild_from (tokens t) len (k + 1) (at + 1) ≡ (k + 1 + front t, at + 1 + front t))
        → (v : Bool) → (a == 123) ≡ v → wild_from (tokens (a ∷ t)) len k at ≡ (k + front (a ∷ t), at + front (a ∷ t))
    by deep true f = rw f (pairs k at (k + 0) (at + 0) (omega arith) (omega arith))
    by deep false f =
        let small : a < 128 = byte_below a t l in
        let m = no_token a small in
        let both : (a == b && hits (tokens t) p) ≡ true = rw (f, m) at h in
        let byte : ltb a param_token ≡ true = grind (arith, nat_tests) in
        let on : ltb at len ≡ true = grind (arith, nat_tests) in
        let more = deep (omega (arith, n)) (rw f at q) (both_right (a == b) (hits (tokens t) p) both) in
        rw (f, byte, on) (more ∙ pairs (k + 1 + front t) (at + 1 + front t) (k + suc (front t)) (at + suc (front t)) (omega arith) (omega arith))

tokens_end : (t : Bytes) → has_parameter t ≡ true → length (tokens t) ≡ front t + 1
tokens_end [] q = absurd (never_true q)
tokens_end (a ∷ t) q = by (λ g. tokens_end t g) (a == 123) refl
  where
    by : (has_parameter t ≡ true → length (tokens t) ≡ front t + 1) → (v : Bool) → (a == 123) ≡ v
        → length (tokens (a ∷ t)) ≡ front (a ∷ t) + 1
    by deep true f = rw f refl
    by deep false f = let more = deep (rw f at q) in rw f (omega (arith, more))

last_false : (a b : Bool) → (a && b && false) ≡ false
last_false true true = refl
last_false true false = refl
last_false false true = refl
last_false false false = refl

ends : (t p : Bytes) → has_parameter t ≡ true → wild_stop (tokens t) (front t) p (front t) ≡ length p
ends t p q =
    let len = tokens_end t q in
    let last : ltb (front t + 1) (length (tokens t)) ≡ false = grind (arith, nat_tests) in
    rw last (rw (last_false (ltb (front t) (length (tokens t))) (get_or (tokens t) (front t) 0 == param_token)) refl)

part_taken : (t p : Bytes) → front t ≤ length p → part_of p (front t) (length p) ≡ drop (front t) p
part_taken t p h =
    let low : leb (front t) (length p) ≡ true = grind (arith, nat_tests) in
    let high : leb (length p) (length p) ≡ true = grind (arith, nat_tests) in
    rw (low, high) (take_rest p (front t))

ascii_all : (bytes : Bytes) → is_ascii bytes ≡ true → IsAscii bytes
ascii_all [] h i = lit< tt
ascii_all (b ∷ bytes) h zero = byte_below b bytes h
ascii_all (b ∷ bytes) h (suc i) = ascii_all bytes (bytes_below b bytes h) i

-- the first part is what the row took, and all parts are text
abbrev Says : RouteOf Leads → Bytes → Bytes → Type 0
Says r p part = AllText (walk r.pattern r.text p r.names 0 0) × (first_part (walk r.pattern r.text p r.names 0 0) ≡ part)

says : (t : Bytes) (to : Leads) (p : Bytes) → is_plain (t, to) ≡ true → IsUtf8 p → hits (tokens t) p ≡ true
    → Says (row (t, to)).1 p (drop (front t) p)
says t to p l u h = by (has_parameter t) refl
  where
    ascii : is_ascii t ≡ true
    ascii = both_left (is_ascii t) (is_ascii (part_of t (name_at t).0 (name_at t).1)) l

    name : IsUtf8 (part_of t (name_at t).0 (name_at t).1)
    name = IsUtf8-from_ascii _ (ascii_all _ (both_right (is_ascii t) (is_ascii (part_of t (name_at t).0 (name_at t).1)) l))

    it : Taken t p
    it = taken t p ascii h

    by : (v : Bool) → has_parameter t ≡ v → Says (row (t, to)).1 p (drop (front t) p)
    by false q = rw q (tt, sym (it.whole q))
    by true q =
        let place : wild_from (tokens t) (length p) 0 0 ≡ (front t, front t) =
        begins t p (length p) 0 0 (omega arith) ascii q h
        ∙ pairs (0 + front t) (0 + front t) (front t) (front t) (omega arith) (omega arith) in
        let stop = ends t p q in
        let part = part_taken t p it.within in
        rw (q, place, stop, part) ((name, it.text u, tt), refl)

-- ---- the whole table

-- what is found leads where the definitions say
abbrev Finds : Bytes → Option (RouteOf Leads) → Option Route → Type 0
Finds p None to = None ≡ to
Finds p (Some r) to = AllText (walk r.pattern r.text p r.names 0 0) × (leads_to r.value (first_part (walk r.pattern r.text p r.names 0 0)) ≡ to)

or_nothing : (a : Option Route) → or_else a None ≡ a
or_nothing None = refl
or_nothing (Some route) = refl

finds : (lines : List (Bytes × Leads)) (p : Bytes) → IsUtf8 p → list_all is_plain lines ≡ true
    → all_apart (map row lines) ≡ true
    → Finds p (picked (map row lines) p) (first_route lines p)
finds [] p u l a = refl
finds ((t, to) ∷ others) p u l a =
    by (finds others p u (both_right (is_plain (t, to)) (list_all is_plain others) l) (both_right apart (all_apart (map row others)) a)) (hits (tokens t) p) refl
  where
    apart : Bool
    apart = all_apart_from (tokens t) (map row others)

    plain : is_plain (t, to) ≡ true
    plain = both_left (is_plain (t, to)) (list_all is_plain others) l

    ascii : is_ascii t ≡ true
    ascii = both_left (is_ascii t) (is_ascii (part_of t (name_at t).0 (name_at t).1)) plain

    by : Finds p (picked (map row others) p) (first_route others p) → (v : Bool) → hits (tokens t) p ≡ v
        → Finds p (picked (map row ((t, to) ∷ others)) p) (first_route ((t, to) ∷ others) p)
    by more false h = let none = missed t p ascii h in rw (h, none) more
    by more true h =
        let rest : picked (map row others) p ≡ None =
        none_picked (tokens t) (map row others) p (both_left apart (all_apart (map row others)) a) h in
        let none : None ≡ first_route others p = rw rest at more in
        let parameter = (taken t p ascii h).parameter in
        let said = says t to p plain u h in
        rw (h, parameter, ← none) (said.0, ap (leads_to to) said.1 ∙ sym (or_nothing (leads_to to (drop (front t) p))))

table_finds : (p : Bytes) → AllBytes p → IsUtf8 p → Finds p (first rows_of_table p) (route_of p)
table_finds p h u =
    let same : first rows_of_table p ≡ picked rows p =
    ap (λ r. first r p) table_rows ∙ first_picked (settled rows) p h rows_shaped settled_apart ∙ picked_settled rows p rows_apart in
    let text = is_utf8-from_IsUtf8 p u in
    rw (same, text) (finds route_table p u table_plain rows_apart)

pub leads_on : (held : RowsOf (RouteOf Leads)) (p q : Bytes) (r : RouteOf Leads) → AllBytes p → IsUtf8 p
    → held ≡ rows_of_table → first held p ≡ Some r → q ≡ p
    → AllText (walk r.pattern r.text q r.names 0 0) × (leads_to r.value (first_part (walk r.pattern r.text q r.names 0 0)) ≡ route_of p)
leads_on held p q r h u t e f =
    subst (λ o. AllText (walk r.pattern r.text o r.names 0 0) × (leads_to r.value (first_part (walk r.pattern r.text o r.names 0 0)) ≡ route_of p)) (sym f)
    (subst (λ o. Finds p o (route_of p)) (ap (λ l. first l p) (sym t) ∙ e) (table_finds p h u))

pub leads_nowhere : (held : RowsOf (RouteOf Leads)) (p : Bytes) → AllBytes p → IsUtf8 p → held ≡ rows_of_table
    → first held p ≡ None → None ≡ route_of p
leads_nowhere held p h u t e = subst (λ o. Finds p o (route_of p)) (ap (λ l. first l p) (sym t) ∙ e) (table_finds p h u)

-- a path that is no text leads nowhere
pub no_route : (p : Bytes) → (IsUtf8 p → ⊥) → None ≡ route_of p
no_route p unread = by (is_utf8 p) refl
  where
    by : (v : Bool) → is_utf8 p ≡ v → None ≡ route_of p
    by true e = absurd (unread (IsUtf8-from_is_utf8 p e))
    by false e = rw e refl
