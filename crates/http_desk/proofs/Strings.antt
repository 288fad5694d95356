-- The strings among the tokens of a JSON text in UTF-8 are UTF-8: they are cut out at ASCII bytes, and an escape stands
-- for a character.
use Rattle.std.proofs.Common.{◌≡◌, ℕ, ◌<◌, ◌+◌, ◌-◌, Bool, true, false, cond, ◌&&◌, ◌||◌, ◌==◌, List, [], ◌∷◌, ◌++◌}
use Rattle.std.proofs.Common.{length, take, drop, get_or, IsUtf8, Option, Some, None, refl, sym, subst, arith}
use Rattle.std.proofs.Common.{append_assoc, nat_lt}
use Rattle.std.proofs.Math.Seq.{take-append_seam, drop-append-add, get_or-append_seam}
use Rattle.std.proofs.lemmas.Bool.{and_parts, eqb-true}
use Rattle.std.proofs.lemmas.List.{append-nil, length-append}
use Rattle.std.specs.Char.{digit_value, is_digit, encode_utf8, IsScalar}
use Rattle.json.specs.Ascii as ascii
use Rattle.json.specs.Lex.{Lexeme, Mode, Class, class, string_token, operator_lexeme, lex_byte, lex, begins_colon}
use Rattle.json.specs.Lex.{if_allowed, place_token, may_begin, may_close, Place, punctuate, tokens}
use Rattle.json.specs.Lex as lexing
use Rattle.json.specs.Text.{code_unit, short_escape, is_high_surrogate, is_low_surrogate, surrogate_pair, Within, plain}
use Rattle.json.specs.Text.{after_backslash, after_u, after_high, prepend, content}
use Rattle.json.specs.Token.{Token}
use Rattle.json.specs.Token as kinds
use Rattle.json.specs.Word.{literal, number_before, after_number, head, ends_word, word}
use lib.Utf8.{low_scalar}
use Rattle.http_desk.proofs.Common.{AllByRecursion, IfSome, IsCharBoundary-after_ascii, IsCharBoundary-before_ascii}
use Rattle.http_desk.proofs.Common.{IsUtf8-append, IsUtf8-drop, IsUtf8-encode, IsUtf8-take, encode_ascii, nat_eq}
use Rattle.http_desk.proofs.Common.{nat_tests, starts_with}
use Rattle.http_desk.proofs.Options.{known_map, known_then, either_way, if_some, if_then}

-- ---- texts are cut at ASCII bytes

cut : (p xs : List ℕ) (x : ℕ) → x < 128 → IsUtf8 (p ++ x ∷ xs) → IsUtf8 p × IsUtf8 xs
cut p xs x small u =
    let bs = p ++ x ∷ xs in
    let there = get_or-append_seam p x xs 0 in
    let within : length p < length bs = omega (arith, length-append p (x ∷ xs)) in
    let low : get_or bs (length p) 0 < 128 = omega (arith, there) in (
      subst IsUtf8 (take-append_seam p (x ∷ xs)) (IsUtf8-take bs (length p) u (IsCharBoundary-before_ascii bs (length p) within low)),
      subst IsUtf8 (drop-append-add p (x ∷ xs) 1) (IsUtf8-drop bs (length p + 1) u (IsCharBoundary-after_ascii bs (length p) u within low)),
    )

past : (x : ℕ) (xs : List ℕ) → x < 128 → IsUtf8 (x ∷ xs) → IsUtf8 xs
past x xs small u = (cut [] xs x small u).1

one_byte : (x : ℕ) → x < 128 → IsUtf8 (x ∷ [])
one_byte x small = subst IsUtf8 (encode_ascii x small) (IsUtf8-encode x (low_scalar x (omega arith)))

-- ---- the content of a string

prepended : (p : List ℕ) (o : Option (List ℕ)) → IsUtf8 p → IfSome o IsUtf8 → IfSome (prepend p o) IsUtf8
prepended p o u h = known_map IsUtf8 IsUtf8 (λ s. p ++ s) o h (λ s v. IsUtf8-append p s u v)

-- what is told of what follows, where a string is being read
abbrev Says : Within → List ℕ → Type 0
Says plain xs = (p : List ℕ) → IsUtf8 (p ++ xs) → IfSome (content plain xs) (λ s. IsUtf8 (p ++ s))
Says after_backslash xs = IsUtf8 xs → IfSome (content after_backslash xs) IsUtf8
Says after_u xs = IsUtf8 xs → IfSome (content after_u xs) IsUtf8
Says (after_high h) xs = is_high_surrogate h ≡ true → IsUtf8 xs → IfSome (content (after_high h) xs) IsUtf8

by_byte : (x : ℕ) (xs : List ℕ) → Says plain xs → Says after_backslash xs → Says plain (x ∷ xs)
unfolding content
by_byte x xs more slash p u =
    either_way (λ s. IsUtf8 (p ++ s)) (x == ascii.quote) _ _
    (λ e. subst IsUtf8 (sym (append-nil p)) (cut p xs x (omega (arith, eqb-true x 34 e)) u).0)
    (λ _. either_way (λ s. IsUtf8 (p ++ s)) (x == ascii.backslash) _ _
    (λ e. let parts = cut p xs x (omega (arith, eqb-true x 92 e)) u in after p (content after_backslash xs) parts.0 (slash parts.1))
    (λ _. none_or (nat_lt x ascii.space) (more (p ++ x ∷ []) (subst IsUtf8 (sym (append_assoc p (x ∷ []) xs)) u))))
  where
    after : (p : List ℕ) (o : Option (List ℕ)) → IsUtf8 p → IfSome o IsUtf8 → IfSome o (λ s. IsUtf8 (p ++ s))
    after p None u h = tt
    after p (Some s) u h = IsUtf8-append p s u h

    next : (o : Option (List ℕ)) → IfSome o (λ s. IsUtf8 ((p ++ x ∷ []) ++ s))
        → IfSome (prepend (x ∷ []) o) (λ s. IsUtf8 (p ++ s))
    next None h = tt
    next (Some s) h = subst IsUtf8 (append_assoc p (x ∷ []) s) h

    none_or : (b : Bool) → IfSome (content plain xs) (λ s. IsUtf8 ((p ++ x ∷ []) ++ s))
        → IfSome (cond b None (prepend (x ∷ []) (content plain xs))) (λ s. IsUtf8 (p ++ s))
    none_or true h = tt
    none_or false h = next (content plain xs) h

plain_says : (xs : List ℕ) → Says plain xs → IsUtf8 xs → IfSome (content plain xs) IsUtf8
plain_says xs more u = more [] u

abbrev IsShort : Option ℕ → ℕ → Type 0
IsShort o x = IfSome o (λ c. (c < 128) × (x < 128))

short_is : (x : ℕ) → IsShort (short_escape x) x
unfolding short_escape
short_is x =
    either_way P ((x == ascii.quote) || (x == ascii.backslash) || (x == ascii.slash)) _ _ (λ e. let low : x < 128 = grind (arith, nat_tests, e) in (low, low))
    (λ _. one 98 8 _ (omega arith) (omega arith) (one 102 12 _ (omega arith) (omega arith) (one 110 10 _ (omega arith) (omega arith)
    (one 114 13 _ (omega arith) (omega arith) (one 116 9 _ (omega arith) (omega arith) tt)))))
  where
    P : ℕ → Type 0
    P c = (c < 128) × (x < 128)

    one : (y c : ℕ) (o : Option ℕ) → y < 128 → c < 128 → IfSome o P → IfSome (cond (x == y) (Some c) o) P
    one y c o low small h = either_way P (x == y) (Some c) o (λ e. (small, omega (arith, eqb-true x y e))) (λ _. h)

by_slash : (x : ℕ) (xs : List ℕ) → Says plain xs → Says after_u xs → Says after_backslash (x ∷ xs)
unfolding content
by_slash x xs more spelt u =
    either_way IsUtf8 (x == ascii.lower_u) _ _ (λ e. spelt (past x xs (omega (arith, eqb-true x 117 e)) u))
    (λ _. known_then IsUtf8 (λ c. (c < 128) × (x < 128)) _ (short_escape x) (short_is x)
    (λ c low. prepended (c ∷ []) (content plain xs) (one_byte c low.0) (plain_says xs more (past x xs low.1 u))))

-- ---- escapes of four hex digits

low_digit : (a : ℕ) → is_digit a 16 ≡ true → (a < 128) × (digit_value a < 16)
low_digit a e = grind (arith, nat_tests, e)

record Spells (a b c d u : ℕ) : Type 0 where
  ascii : (a < 128) × (b < 128) × (c < 128) × (d < 128)
  fits : u < 65536

units : (a b c d : ℕ) → IfSome (code_unit a b c d) (Spells a b c d)
unfolding code_unit
units a b c d =
    if_some (Spells a b c d) _ _ (λ e.
    let first = and_parts (is_digit a 16 && is_digit b 16 && is_digit c 16) (is_digit d 16) e in
    let second = and_parts (is_digit a 16 && is_digit b 16) (is_digit c 16) first.0 in
    let third = and_parts (is_digit a 16) (is_digit b 16) second.0 in
    let x = low_digit a third.0 in
    let y = low_digit b third.1 in
    let z = low_digit c second.1 in
    let w = low_digit d first.1 in
    record { ascii = (x.0, y.0, z.0, w.0); fits = omega (arith, x.1, y.1, z.1, w.1) })

past_four : (a b c d : ℕ) (xs : List ℕ) → (a < 128) × (b < 128) × (c < 128) × (d < 128) → IsUtf8 (a ∷ b ∷ c ∷ d ∷ xs)
    → IsUtf8 xs
past_four a b c d xs low u =
    past d xs low.3 (past c (d ∷ xs) low.2 (past b (c ∷ d ∷ xs) low.1 (past a (b ∷ c ∷ d ∷ xs) low.0 u)))

no_surrogate : (u : ℕ) → u < 65536 → is_high_surrogate u ≡ false → is_low_surrogate u ≡ false → IsScalar u
no_surrogate u fits e f = grind (arith, nat_tests, fits, e, f)

pair_scalar : (h l : ℕ) → is_high_surrogate h ≡ true → is_low_surrogate l ≡ true → IsScalar (surrogate_pair h l)
pair_scalar h l e f = grind (arith, nat_tests, e, f)

by_four : (a b c d : ℕ) (xs : List ℕ) → Says plain xs → ((h : ℕ) → Says (after_high h) xs)
    → Says after_u (a ∷ b ∷ c ∷ d ∷ xs)
unfolding content
by_four a b c d xs more high u =
    known_then IsUtf8 (Spells a b c d) _ (code_unit a b c d) (units a b c d)
    (λ n spells.
    let rest = past_four a b c d xs spells.ascii u in
    either_way IsUtf8 (is_high_surrogate n) _ _ (λ e. high n e rest)
    (λ e. either_way IsUtf8 (is_low_surrogate n) _ _ (λ _. tt)
    (λ f. prepended (encode_utf8 n) (content plain xs) (IsUtf8-encode n (no_surrogate n spells.fits e f)) (plain_says xs more rest))))

by_six : (h s t a b c d : ℕ) (xs : List ℕ) → Says plain xs → Says (after_high h) (s ∷ t ∷ a ∷ b ∷ c ∷ d ∷ xs)
unfolding content
by_six h s t a b c d xs more e u =
    if_then IsUtf8 ((s == ascii.backslash) && (t == ascii.lower_u)) _
    (λ both.
    let parts = and_parts (s == ascii.backslash) (t == ascii.lower_u) both in
    let four = past t (a ∷ b ∷ c ∷ d ∷ xs) (omega (arith, eqb-true t 117 parts.1)) (past s (t ∷ a ∷ b ∷ c ∷ d ∷ xs) (omega (arith, eqb-true s 92 parts.0)) u) in
    known_then IsUtf8 (Spells a b c d) _ (code_unit a b c d) (units a b c d)
    (λ l spells. if_then IsUtf8 (is_low_surrogate l) _
    (λ f. prepended (encode_utf8 (surrogate_pair h l)) (content plain xs) (IsUtf8-encode (surrogate_pair h l) (pair_scalar h l e f))
    (plain_says xs more (past_four a b c d xs spells.ascii four)))))

says : (w : Within) (xs : List ℕ) → Says w xs
unfolding content
says plain [] = λ p u. tt
says plain (x ∷ xs) = by_byte x xs (says plain xs) (says after_backslash xs)
says after_backslash [] = λ u. tt
says after_backslash (x ∷ xs) = by_slash x xs (says plain xs) (says after_u xs)
says after_u [] = λ u. tt
says after_u (a ∷ []) = λ u. tt
says after_u (a ∷ b ∷ []) = λ u. tt
says after_u (a ∷ b ∷ c ∷ []) = λ u. tt
says after_u (a ∷ b ∷ c ∷ d ∷ xs) = by_four a b c d xs (says plain xs) (λ h. says (after_high h) xs)
says (after_high h) [] = λ e u. tt
says (after_high h) (s ∷ []) = λ e u. tt
says (after_high h) (s ∷ t ∷ []) = λ e u. tt
says (after_high h) (s ∷ t ∷ a ∷ []) = λ e u. tt
says (after_high h) (s ∷ t ∷ a ∷ b ∷ []) = λ e u. tt
says (after_high h) (s ∷ t ∷ a ∷ b ∷ c ∷ []) = λ e u. tt
says (after_high h) (s ∷ t ∷ a ∷ b ∷ c ∷ d ∷ xs) = by_six h s t a b c d xs (says plain xs)

-- ---- lexemes

-- a string among the tokens is UTF-8
abbrev pub HasText : Token → Type 0
HasText (kinds.string s) = IsUtf8 s
HasText _ = Unit {0}

abbrev HasTextIn : Lexeme → Type 0
HasTextIn (lexing.token t) = HasText t
HasTextIn lexing.comma = Unit {0}
HasTextIn lexing.colon = Unit {0}

either_text : (b : Bool) (t u : Token) → HasText t → HasText u → HasText (cond b t u)
either_text true t u h k = h
either_text false t u h k = k

either_lexeme : (b : Bool) (l k : Lexeme) → HasTextIn l → HasTextIn k → HasTextIn (cond b l k)
either_lexeme true l k h i = h
either_lexeme false l k h i = i

numbers_have : (t : List ℕ) (o : Option (List ℕ)) → HasText (number_before t o)
numbers_have t None = tt
numbers_have t (Some rest) =
    either_text (ends_word rest) (kinds.number (take (length t - length rest) t)) kinds.bad tt tt

literals_have : (name t : List ℕ) (made : Token) → HasText made → HasText (literal name made t)
literals_have name t made h =
    either_text (starts_with nat_eq t name && ends_word (drop (length name) t)) made kinds.bad h tt

words_have : (t : List ℕ) → HasText (word t)
unfolding word
words_have t =
    let true_or = literal ascii.true_text (kinds.boolean true) t in
    let false_or = literal ascii.false_text (kinds.boolean false) t in
    let null_or = literal ascii.null_text kinds.null t in
    let number_or = number_before t (after_number t) in
    either_text (head t == ascii.lower_t) true_or (cond (head t == ascii.lower_f) false_or (cond (head t == ascii.lower_n) null_or number_or)) (literals_have ascii.true_text t (kinds.boolean true) tt)
    (either_text (head t == ascii.lower_f) false_or (cond (head t == ascii.lower_n) null_or number_or) (literals_have ascii.false_text t (kinds.boolean false) tt)
    (either_text (head t == ascii.lower_n) null_or number_or (literals_have ascii.null_text t kinds.null tt) (numbers_have t (after_number t))))

operators_have : (x : ℕ) → HasTextIn (operator_lexeme x)
operators_have x =
    either_lexeme (x == ascii.open_brace) _ _ tt (either_lexeme (x == ascii.close_brace) _ _ tt (either_lexeme (x == ascii.open_bracket) _ _ tt
    (either_lexeme (x == ascii.close_bracket) _ _ tt (either_lexeme (x == ascii.comma) _ _ tt tt))))

strings_have : (o : Option (List ℕ)) → IfSome o IsUtf8 → HasText (string_token o)
strings_have None h = tt
strings_have (Some s) h = h

abbrev IsQuote : Class → Type 0
IsQuote lexing.quote = Unit {0}
IsQuote _ = ⊥

is_quote : (q b o s : Bool)
    → IsQuote (cond q lexing.quote (cond b lexing.backslash (cond o lexing.operator (cond s lexing.space lexing.other))))
    → q ≡ true
is_quote true b o s h = refl
is_quote false true o s h = absurd h
is_quote false false true s h = absurd h
is_quote false false false true h = absurd h
is_quote false false false false h = absurd h

abbrev AllText : List Lexeme → Type 0
AllText ls = AllByRecursion HasTextIn ls

lexed_byte : (m : Mode) (c : Class) (x : ℕ) (xs : List ℕ) (k : Mode → List Lexeme) → ((n : Mode) → AllText (k n))
    → (IsQuote c → IsUtf8 xs) → AllText (lex_byte m c x xs k)
lexed_byte lexing.between lexing.quote x xs k h u =
    (strings_have (content plain xs) (plain_says xs (says plain xs) (u tt)), h lexing.in_string)
lexed_byte lexing.between lexing.backslash x xs k h u = (tt, h lexing.in_word)
lexed_byte lexing.between lexing.operator x xs k h u = (operators_have x, h lexing.between)
lexed_byte lexing.between lexing.space x xs k h u = h lexing.between
lexed_byte lexing.between lexing.other x xs k h u = (words_have (x ∷ xs), h lexing.in_word)
lexed_byte lexing.in_word lexing.quote x xs k h u = h lexing.in_word
lexed_byte lexing.in_word lexing.backslash x xs k h u = h lexing.in_word
lexed_byte lexing.in_word lexing.operator x xs k h u = (operators_have x, h lexing.between)
lexed_byte lexing.in_word lexing.space x xs k h u = h lexing.between
lexed_byte lexing.in_word lexing.other x xs k h u = h lexing.in_word
lexed_byte lexing.in_string lexing.quote x xs k h u = h lexing.between
lexed_byte lexing.in_string lexing.backslash x xs k h u = h lexing.in_escape
lexed_byte lexing.in_string lexing.operator x xs k h u = h lexing.in_string
lexed_byte lexing.in_string lexing.space x xs k h u = h lexing.in_string
lexed_byte lexing.in_string lexing.other x xs k h u = h lexing.in_string
lexed_byte lexing.in_escape c x xs k h u = h lexing.in_string

-- p is what was read
lexed : (m : Mode) (p xs : List ℕ) → IsUtf8 (p ++ xs) → AllText (lex m xs)
unfolding lex
lexed m p [] u = tt
lexed m p (x ∷ xs) u =
    lexed_byte m (class x) x xs (λ next. lex next xs) (λ n. lexed n (p ++ x ∷ []) xs (subst IsUtf8 (sym (append_assoc p (x ∷ []) xs)) u))
    (λ q. (cut p xs x (omega (arith, eqb-true x 34 (is_quote _ _ _ _ q))) u).1)

-- ---- tokens

allowed : (b : Bool) (t : Token) (k : Place → List Token) (next : Place) → HasText t → AllByRecursion HasText (k next)
    → AllByRecursion HasText (if_allowed b t k next)
allowed true t k next h more = (h, more)
allowed false t k next h more = (tt, tt)

placed : (p : Place) (t : Token) (before_colon : Bool) (k : Place → List Token) → HasText t
    → ((q : Place) → AllByRecursion HasText (k q)) → AllByRecursion HasText (place_token p t before_colon k)
placed p kinds.begin_object b k h more = allowed (may_begin p) kinds.begin_object k lexing.fresh tt (more lexing.fresh)
placed p kinds.end_object b k h more =
    allowed (may_close p) kinds.end_object k lexing.after_value tt (more lexing.after_value)
placed p kinds.begin_array b k h more = allowed (may_begin p) kinds.begin_array k lexing.fresh tt (more lexing.fresh)
placed p kinds.end_array b k h more =
    allowed (may_close p) kinds.end_array k lexing.after_value tt (more lexing.after_value)
placed p (kinds.key s) b k h more = (tt, tt)
placed p (kinds.string s) true k h more =
    allowed (may_begin p) (kinds.key s) k lexing.after_key tt (more lexing.after_key)
placed p (kinds.string s) false k h more =
    allowed (may_begin p) (kinds.string s) k lexing.after_value h (more lexing.after_value)
placed p (kinds.number s) b k h more =
    allowed (may_begin p) (kinds.number s) k lexing.after_value tt (more lexing.after_value)
placed p (kinds.boolean c) b k h more =
    allowed (may_begin p) (kinds.boolean c) k lexing.after_value tt (more lexing.after_value)
placed p kinds.null b k h more = allowed (may_begin p) kinds.null k lexing.after_value tt (more lexing.after_value)
placed p kinds.bad b k h more = (tt, tt)

punctuated : (p : Place) (ls : List Lexeme) → AllText ls → AllByRecursion HasText (punctuate p ls)
unfolding punctuate
punctuated lexing.fresh [] h = tt
punctuated lexing.after_value [] h = tt
punctuated lexing.after_comma [] h = (tt, tt)
punctuated lexing.after_key [] h = (tt, tt)
punctuated lexing.fresh (lexing.token t ∷ ls) h =
    placed lexing.fresh t (begins_colon ls) (λ next. punctuate next ls) h.0 (λ q. punctuated q ls h.1)
punctuated lexing.after_value (lexing.token t ∷ ls) h =
    placed lexing.after_value t (begins_colon ls) (λ next. punctuate next ls) h.0 (λ q. punctuated q ls h.1)
punctuated lexing.after_comma (lexing.token t ∷ ls) h =
    placed lexing.after_comma t (begins_colon ls) (λ next. punctuate next ls) h.0 (λ q. punctuated q ls h.1)
punctuated lexing.after_key (lexing.token t ∷ ls) h =
    placed lexing.after_key t (begins_colon ls) (λ next. punctuate next ls) h.0 (λ q. punctuated q ls h.1)
punctuated lexing.fresh (lexing.comma ∷ ls) h = (tt, tt)
punctuated lexing.after_value (lexing.comma ∷ ls) h = punctuated lexing.after_comma ls h.1
punctuated lexing.after_comma (lexing.comma ∷ ls) h = (tt, tt)
punctuated lexing.after_key (lexing.comma ∷ ls) h = (tt, tt)
punctuated lexing.fresh (lexing.colon ∷ ls) h = (tt, tt)
punctuated lexing.after_value (lexing.colon ∷ ls) h = (tt, tt)
punctuated lexing.after_comma (lexing.colon ∷ ls) h = (tt, tt)
punctuated lexing.after_key (lexing.colon ∷ ls) h = punctuated lexing.fresh ls h.1

pub tokens_have_texts : (text : List ℕ) → IsUtf8 text → AllByRecursion HasText (tokens text)
tokens_have_texts text u = punctuated lexing.fresh (lex lexing.between text) (lexed lexing.between [] text u)
