-- The fields of a text that is UTF-8 are UTF-8: what cuts fields, and what is left out of them, is ASCII.
use Rattle.std.proofs.Common.{◌≡◌, ◌∙◌, ◌<◌, ◌++◌, ◌∷◌, [], ℕ, zero, suc, ◌+◌, Bool, true, false, List, Option, Some}
use Rattle.std.proofs.Common.{None, length, take, drop, get_or, refl, sym, ap, subst, arith, append_assoc}
use Rattle.std.proofs.Common.{length-append}
use Rattle.std.specs.Prelude.{IsUtf8}
use Rattle.csv.specs.Machine.{next_record}
use Rattle.csv.specs.Reading.{records_from, strip_bom}
use Rattle.csv.specs.declared.parser.Action.{Action}
use Rattle.csv.specs.declared.parser.Action.TheVariants as act
use Rattle.csv.specs.declared.parser.State.TheVariants as st
use Rattle.atom_csv.proofs.Common.{AllByRecursion, Bytes, IsCharBoundary-after_ascii, IsCharBoundary-before_ascii}
use Rattle.atom_csv.proofs.Common.{IsUtf8-append, IsUtf8-drop, IsUtf8-nil, IsUtf8-past_char, IsUtf8-take, Read, State}
use Rattle.atom_csv.proofs.Common.{default_config, ends_at_end, eqb-true, false≢true, field_after, fields_after}
use Rattle.atom_csv.proofs.Common.{if◌then◌else◌, in_field, is_bom, is_end, records, records_next, start_field}
use Rattle.atom_csv.proofs.Common.{start_record, step, ◌&&◌, ◌==◌, ◌||◌}

-- ---- a text that is cut at an ASCII byte

at_seam : (xs ys : Bytes) (b : ℕ) → get_or (xs ++ b ∷ ys) (length xs) 0 ≡ b
at_seam [] ys b = refl
at_seam (x ∷ xs) ys b = at_seam xs ys b

front_of : (xs ys : Bytes) → take (length xs) (xs ++ ys) ≡ xs
front_of [] ys = refl
front_of (x ∷ xs) ys = ap (λ l. x ∷ l) (front_of xs ys)

rest_of : (xs ys : Bytes) (b : ℕ) → drop (suc (length xs)) (xs ++ b ∷ ys) ≡ ys
rest_of [] ys b = refl
rest_of (x ∷ xs) ys b = rest_of xs ys b

-- both parts are texts
pub cut_at_ascii : (xs ys : Bytes) (b : ℕ) → b < 128 → IsUtf8 (xs ++ b ∷ ys) → IsUtf8 xs × IsUtf8 ys
cut_at_ascii xs ys b low u =
    let text = xs ++ b ∷ ys in
    let at = at_seam xs ys b in
    let count = length-append xs (b ∷ ys) in
    let inside : length xs < length text = omega (arith, count) in
    let ascii : get_or text (length xs) 0 < 128 = omega (arith, at, low) in
    let next : length xs + 1 ≡ suc (length xs) = omega arith in (
      subst IsUtf8 (front_of xs (b ∷ ys)) (IsUtf8-take text (length xs) u (IsCharBoundary-before_ascii text (length xs) inside ascii)),
      subst IsUtf8 (ap (λ n. drop n text) next ∙ rest_of xs ys b) (IsUtf8-drop text (length xs + 1) u (IsCharBoundary-after_ascii text (length xs) u inside ascii)),
    )

-- ---- one byte of a file

-- no file has comments
IsNoComment : State → Type 0
IsNoComment st.InComment = ⊥
IsNoComment _ = Unit {0}

-- a byte that does not join the field at hand is ASCII
Joins : ℕ → Action → Type 0
Joins b act.Copy = Unit {0}
Joins b _ = b < 128

GoesOn : ℕ → State × Action → Type 0
GoesOn b to = IsNoComment to.0 × Joins b to.1

either : (b : ℕ) (test : Bool) (x y : State × Action) → (test ≡ true → GoesOn b x) → GoesOn b y
    → GoesOn b (if test then x else y)
either b true x y h k = h refl
either b false x y h k = k

is_small : (n b : ℕ) → n < 128 → (b == n) ≡ true → b < 128
is_small n b low e = let same = eqb-true b n e in omega (arith, same, low)

break_small : (b : ℕ) → ((b == 13) || (b == 10)) ≡ true → b < 128
break_small b e = at (b == 13) refl e
  where
    at : (c : Bool) → (b == 13) ≡ c → (c || (b == 10)) ≡ true → b < 128
    at true f h = is_small 13 b (omega arith) f
    at false f h = is_small 10 b (omega arith) h

after_break : (b : ℕ) → ((b == 13) || (b == 10)) ≡ true
    → GoesOn b (if b == 13 then st.AfterCr else st.StartRecord, act.EndRecord)
unfolding IsNoComment Joins GoesOn
after_break b e = (at (b == 13), break_small b e)
  where
    at : (c : Bool) → IsNoComment (if c then st.AfterCr else st.StartRecord)
    at true = tt
    at false = tt

in_field_on : (b : ℕ) → GoesOn b (in_field default_config b)
unfolding IsNoComment Joins GoesOn
in_field_on b =
    either b (b == 44) _ _ (λ e. (tt, is_small 44 b (omega arith) e))
    (either b ((b == 13) || (b == 10)) _ _ (after_break b) (tt, tt))

start_field_on : (b : ℕ) → GoesOn b (start_field default_config b)
unfolding IsNoComment Joins GoesOn
start_field_on b = either b (b == 34) _ _ (λ e. (tt, is_small 34 b (omega arith) e)) (in_field_on b)

start_record_on : (b : ℕ) → GoesOn b (start_record default_config b)
unfolding IsNoComment Joins GoesOn
start_record_on b = either b ((b == 13) || (b == 10)) _ _ (λ e. (tt, break_small b e)) (start_field_on b)

step_on : (s : State) (b : ℕ) → IsNoComment s → GoesOn b (step default_config s b)
unfolding IsNoComment Joins GoesOn
step_on st.StartRecord b h = start_record_on b
step_on st.StartField b h = start_field_on b
step_on st.InField b h = in_field_on b
step_on st.InQuoted b h = either b (b == 34) _ _ (λ e. (tt, is_small 34 b (omega arith) e)) (tt, tt)
step_on st.InEscape b h = (tt, tt)
step_on st.AfterQuote b h = either b (b == 34) _ _ (λ e. (tt, tt)) (in_field_on b)
step_on st.InComment b h = absurd h
step_on st.AfterCr b h = either b (b == 10) _ _ (λ e. (tt, is_small 10 b (omega arith) e)) (start_record_on b)

-- ---- the field at hand with all that follows is a text, and stays one

more : (fields : List Bytes) (field : Bytes) → AllByRecursion IsUtf8 fields → IsUtf8 field
    → AllByRecursion IsUtf8 (fields ++ field ∷ [])
more [] field h u = (u, tt)
more (f ∷ fields) field h u = (h.0, more fields field h.1 u)

fields_on : (a : Action) (b : ℕ) (fields : List Bytes) (field rest : Bytes) → Joins b a → AllByRecursion IsUtf8 fields
    → IsUtf8 (field ++ b ∷ rest)
    → AllByRecursion IsUtf8 (fields_after a fields field) × IsUtf8 (field_after a b field ++ rest)
unfolding Joins
fields_on act.Copy b fields field rest low h u = (h, subst IsUtf8 (sym (append_assoc field (b ∷ []) rest)) u)
fields_on act.Skip b fields field rest low h u = let c = cut_at_ascii field rest b low u in (h, IsUtf8-append field rest c.0 c.1)
fields_on act.EndField b fields field rest low h u = let c = cut_at_ascii field rest b low u in (more fields field h c.0, c.1)
fields_on act.EndRecord b fields field rest low h u = let c = cut_at_ascii field rest b low u in (more fields field h c.0, c.1)

-- an action that ends a record leaves no field at hand
ended : (a : Action) (b : ℕ) (field rest : Bytes) → is_end a ≡ true → IsUtf8 (field_after a b field ++ rest)
    → IsUtf8 rest
ended act.Copy b field rest e u = absurd (false≢true e)
ended act.Skip b field rest e u = absurd (false≢true e)
ended act.EndField b field rest e u = absurd (false≢true e)
ended act.EndRecord b field rest e u = u

-- a record of texts was read, and what follows is a text
IsLegibleRead : Option Read → Type 0
IsLegibleRead None = Unit {0}
IsLegibleRead (Some read) = AllByRecursion IsUtf8 read.0 × IsNoComment read.1 × IsUtf8 read.2

no_more : (xs : Bytes) → xs ++ [] ≡ xs
no_more [] = refl
no_more (x ∷ xs) = ap (λ l. x ∷ l) (no_more xs)

next_on : (bytes : Bytes) (s : State) (fields : List Bytes) (field : Bytes) → IsNoComment s
    → AllByRecursion IsUtf8 fields → IsUtf8 (field ++ bytes)
    → IsLegibleRead (next_record default_config s fields field bytes)
unfolding IsNoComment GoesOn IsLegibleRead next_record
next_on [] s fields field n h u = at (ends_at_end s)
  where
    at : (b : Bool) → IsLegibleRead (if b then Some (fields ++ (field ∷ []), st.StartRecord, []) else None)
    at true = (more fields field h (subst IsUtf8 (no_more field) u), tt, IsUtf8-nil)
    at false = tt
next_on (b ∷ rest) s fields field n h u =
    let to = step default_config s b in
    let on = step_on s b n in
    let f = fields_on to.1 b fields field rest on.1 h u in
    at (is_end to.1) refl f (next_on rest to.0 (fields_after to.1 fields field) (field_after to.1 b field) on.0 f.0 f.1) on.0
  where
    at : (e : Bool) → is_end (step default_config s b).1 ≡ e
        → AllByRecursion IsUtf8 (fields_after (step default_config s b).1 fields field) × IsUtf8 (field_after (step default_config s b).1 b field ++ rest)
        → IsLegibleRead (next_record default_config (step default_config s b).0 (fields_after (step default_config s b).1 fields field) (field_after (step default_config s b).1 b field) rest)
        → IsNoComment (step default_config s b).0
        → IsLegibleRead (if e then Some (fields_after (step default_config s b).1 fields field, (step default_config s b).0, rest)
        else next_record default_config (step default_config s b).0 (fields_after (step default_config s b).1 fields field) (field_after (step default_config s b).1 b field) rest)
    at true e f later on = (f.0, on, ended (step default_config s b).1 b field rest e f.1)
    at false e f later on = later

-- ---- all records

records_on : (n : ℕ) (s : State) (bytes : Bytes) → IsNoComment s → IsUtf8 bytes
    → AllByRecursion (AllByRecursion IsUtf8) (records_from default_config n s bytes)
unfolding IsLegibleRead records_from
records_on zero s bytes h u = tt
records_on (suc n) s bytes h u =
    at (next_record default_config s [] [] bytes) (next_on bytes s [] [] h tt u) (records_on n)
  where
    at : (r : Option Read) → IsLegibleRead r
        → ((t : State) (rest : Bytes) → IsNoComment t → IsUtf8 rest → AllByRecursion (AllByRecursion IsUtf8) (records_from default_config n t rest))
        → AllByRecursion (AllByRecursion IsUtf8) (records_next (records_from default_config n) r)
    at None k later = tt
    at (Some read) k later = (k.0, later read.1 read.2 k.1 k.2)

pub records_legible : (bytes : Bytes) → IsUtf8 bytes
    → AllByRecursion (AllByRecursion IsUtf8) (records default_config bytes)
unfolding IsNoComment
records_legible bytes u = records_on (length bytes + 1) st.StartRecord bytes tt u

-- ---- the byte order mark is one character

mark_parts : (a b c : ℕ) → is_bom a b c ≡ true → (a ≡ 0xEF) × (b ≡ 0xBB) × (c ≡ 0xBF)
mark_parts a b c e = at (a == 0xEF) (b == 0xBB) refl refl e
  where
    at : (x y : Bool) → (a == 0xEF) ≡ x → (b == 0xBB) ≡ y → (x && y && (c == 0xBF)) ≡ true
        → (a ≡ 0xEF) × (b ≡ 0xBB) × (c ≡ 0xBF)
    at true true f g h = (eqb-true a 0xEF f, eqb-true b 0xBB g, eqb-true c 0xBF h)
    at true false f g h = absurd (false≢true h)
    at false y f g h = absurd (false≢true h)

pub past_mark : (bytes : Bytes) → IsUtf8 bytes → IsUtf8 (strip_bom bytes)
unfolding strip_bom lib.Utf8.encode
past_mark [] u = u
past_mark (a ∷ []) u = u
past_mark (a ∷ b ∷ []) u = u
past_mark (a ∷ b ∷ c ∷ rest) u = at (is_bom a b c) refl
  where
    at : (m : Bool) → is_bom a b c ≡ m → IsUtf8 (if m then rest else a ∷ b ∷ c ∷ rest)
    at true e = let p = mark_parts a b c e in IsUtf8-past_char (a ∷ b ∷ c ∷ rest) rest 0xFEFF u (cc)
    at false e = u
