-- A character begins with one byte of those that begin characters (UTF-8).
use Rattle.std.proofs.Common.{◌≡◌, ℕ, ◌+◌, ◌<◌, ◌≤◌, Bool, true, false, cond, List, [], ◌∷◌, ◌++◌, length, filter, map}
use Rattle.std.proofs.Common.{suc, eqb, subst, ⊎_elim, refl, sym, ap, ◌∙◌, arith, ltb, lt-ltb, ◌/◌, ◌%◌}
use Rattle.std.proofs.lemmas.Str.{encodes-chars}
use Rattle.std.specs.Str.{IsUtf8, chars}
use lib.Utf8.{encode, encodes}
use Rattle.isad_core.specs.Texts.{is_line_break, one_line, single_breaks, byte_or_space}
use Rattle.desk_core.proofs.Common.{begins_character, cases_Bool, characters, eqb-true, filter-append, le-leb, le-ltb}
use Rattle.desk_core.proofs.Common.{length-append, length-map, lt-leb, ltb-true, ne_eqb}

characters-append : (xs ys : List ℕ) → characters (xs ++ ys) ≡ characters xs + characters ys
characters-append xs ys = ap length (filter-append begins_character xs ys) ∙ length-append _ _

-- a byte that begins a character, and one that goes on with it
begins-ascii : (b : ℕ) → b < 128 → begins_character b ≡ true
begins-ascii b low = rw (lt-ltb b 128 low) refl

begins-high : (b : ℕ) → 192 ≤ b → begins_character b ≡ true
begins-high b high = let wide : 128 ≤ b = omega arith in rw (le-ltb b 128 wide, le-leb 192 b high) refl

begins-next : (n : ℕ) → begins_character (128 + n % 64) ≡ false
begins-next n =
    let part : n % 64 < 64 = omega arith in
    let low : 128 ≤ 128 + n % 64 = omega arith in
    let high : 128 + n % 64 < 192 = omega arith in
    rw (le-ltb (128 + n % 64) 128 low, lt-leb 192 (128 + n % 64) high) refl

-- the bytes of a character: one where it is below 128, else two, three or four
abbrev encoded : ℕ → Bool → Bool → Bool → List ℕ
encoded c one two three =
    cond one (c ∷ []) (cond two ((192 + c / 64) ∷ (128 + c % 64) ∷ []) (cond three ((224 + c / 4096) ∷ (128 + c / 64 % 64) ∷ (128 + c % 64) ∷ []) ((240 + c / 262144) ∷ (128 + c / 4096 % 64) ∷ (128 + c / 64 % 64) ∷ (128 + c % 64) ∷ [])))

by_width : (c : ℕ) (one two three : Bool) → ltb c 128 ≡ one → characters (encoded c one two three) ≡ 1
by_width c true two three e = rw (begins-ascii c (ltb-true c 128 e)) refl
by_width c false true three e = rw (begins-high (192 + c / 64) (omega arith), begins-next c) refl
by_width c false false true e =
    rw (begins-high (224 + c / 4096) (omega arith), begins-next (c / 64), begins-next c) refl
by_width c false false false e =
    rw (begins-high (240 + c / 262144) (omega arith), begins-next (c / 4096), begins-next (c / 64), begins-next c) refl

characters-encode : (c : ℕ) → characters (encode c) ≡ 1
unfolding encode
characters-encode c = by_width c (ltb c 128) (ltb c 2048) (ltb c 65536) refl

characters-encodes : (cs : List ℕ) → characters (encodes cs) ≡ length cs
characters-encodes [] = refl
characters-encodes (c ∷ cs) =
    let one : characters (encode c) ≡ 1 = characters-encode c in
    let others : characters (encodes cs) ≡ length cs = characters-encodes cs in
    characters-append (encode c) (encodes cs) ∙ omega arith

pub characters-is : (text : List ℕ) → IsUtf8 text → characters text ≡ length (chars text)
characters-is text utf8 =
    ap characters (sym (encodes-chars text utf8)) ∙ characters-encodes (chars text)

-- ---- of a text on one line

-- what is no carriage return stands as it is, and so does one that no line feed follows
single_breaks-past : (b : ℕ) (rest : List ℕ) → eqb b 13 ≡ false → single_breaks (b ∷ rest) ≡ b ∷ single_breaks rest
single_breaks-past b [] other = refl
single_breaks-past b (d ∷ rest) other = rw other refl

single_breaks-return : (d : ℕ) (rest : List ℕ) → eqb d 10 ≡ false
    → single_breaks (13 ∷ d ∷ rest) ≡ 13 ∷ single_breaks (d ∷ rest)
single_breaks-return d rest other = rw other refl

characters-first : (b : ℕ) (rest : List ℕ) → begins_character b ≡ true → characters (b ∷ rest) ≡ suc (characters rest)
characters-first b rest begins = rw begins refl

characters-next : (n : ℕ) (rest : List ℕ) → characters ((128 + n % 64) ∷ rest) ≡ characters rest
characters-next n rest = rw (begins-next n) refl

next_past : (n : ℕ) (rest : List ℕ)
    → characters (single_breaks ((128 + n % 64) ∷ rest)) ≡ characters (single_breaks rest)
next_past n rest =
    ap characters (single_breaks-past (128 + n % 64) rest (ne_eqb (128 + n % 64) 13 (λ e. omega arith)))
    ∙ characters-next n (single_breaks rest)

first_past : (b : ℕ) (rest : List ℕ) → begins_character b ≡ true → eqb b 13 ≡ false
    → characters (single_breaks (b ∷ rest)) ≡ suc (characters (single_breaks rest))
first_past b rest begins other =
    ap characters (single_breaks-past b rest other) ∙ characters-first b (single_breaks rest) begins

-- a character that is no carriage return is one more
char_past : (c : ℕ) (rest : List ℕ) → eqb c 13 ≡ false → (one two three : Bool) → ltb c 128 ≡ one
    → characters (single_breaks (encoded c one two three ++ rest)) ≡ suc (characters (single_breaks rest))
char_past c rest other true two three e = first_past c rest (begins-ascii c (ltb-true c 128 e)) other
char_past c rest other false true three e =
    first_past (192 + c / 64) ((128 + c % 64) ∷ rest) (begins-high (192 + c / 64) (omega arith)) (ne_eqb (192 + c / 64) 13 (λ e. omega arith)) ∙ ap suc (next_past c rest)
char_past c rest other false false true e =
    first_past (224 + c / 4096) ((128 + c / 64 % 64) ∷ (128 + c % 64) ∷ rest) (begins-high (224 + c / 4096) (omega arith)) (ne_eqb (224 + c / 4096) 13 (λ e. omega arith)) ∙ ap suc (next_past (c / 64) ((128 + c % 64) ∷ rest) ∙ next_past c rest)
char_past c rest other false false false e =
    first_past (240 + c / 262144) ((128 + c / 4096 % 64) ∷ (128 + c / 64 % 64) ∷ (128 + c % 64) ∷ rest) (begins-high (240 + c / 262144) (omega arith)) (ne_eqb (240 + c / 262144) 13 (λ e. omega arith)) ∙ ap suc (next_past (c / 4096) ((128 + c / 64 % 64) ∷ (128 + c % 64) ∷ rest) ∙ next_past (c / 64) ((128 + c % 64) ∷ rest) ∙ next_past c rest)

-- and so is a carriage return before a character that is no line feed
return_past : (c : ℕ) (rest : List ℕ) → eqb c 10 ≡ false → (one two three : Bool)
    → characters (single_breaks (13 ∷ (encoded c one two three ++ rest))) ≡ suc (characters (single_breaks (encoded c one two three ++ rest)))
return_past c rest other true two three = ap characters (single_breaks-return c rest other)
return_past c rest other false true three =
    ap characters (single_breaks-return (192 + c / 64) ((128 + c % 64) ∷ rest) (ne_eqb (192 + c / 64) 10 (λ e. omega arith)))
return_past c rest other false false true =
    ap characters (single_breaks-return (224 + c / 4096) ((128 + c / 64 % 64) ∷ (128 + c % 64) ∷ rest) (ne_eqb (224 + c / 4096) 10 (λ e. omega arith)))
return_past c rest other false false false =
    ap characters (single_breaks-return (240 + c / 262144) ((128 + c / 4096 % 64) ∷ (128 + c / 64 % 64) ∷ (128 + c % 64) ∷ rest) (ne_eqb (240 + c / 262144) 10 (λ e. omega arith)))

past-encode : (c : ℕ) (rest : List ℕ) → eqb c 13 ≡ false
    → characters (single_breaks (encode c ++ rest)) ≡ suc (characters (single_breaks rest))
unfolding encode
past-encode c rest other = char_past c rest other (ltb c 128) (ltb c 2048) (ltb c 65536) refl

past-return : (c : ℕ) (rest : List ℕ) → eqb c 10 ≡ false
    → characters (single_breaks (13 ∷ (encode c ++ rest))) ≡ suc (characters (single_breaks (encode c ++ rest)))
unfolding encode
past-return c rest other = return_past c rest other (ltb c 128) (ltb c 2048) (ltb c 65536)

abbrev Counts : List ℕ → Type 0
Counts cs = characters (single_breaks (encodes cs)) ≡ length (single_breaks cs)

counts-break : (ds : List ℕ) → Counts ds → Counts (13 ∷ 10 ∷ ds)
unfolding encode
counts-break ds so_far = ap suc so_far

counts-return : (d : ℕ) (ds : List ℕ) → eqb d 10 ≡ false → Counts (d ∷ ds) → Counts (13 ∷ d ∷ ds)
unfolding encode
counts-return d ds other so_far =
    past-return d (encodes ds) other ∙ ap suc so_far ∙ sym (ap length (single_breaks-return d ds other))

counts-last : Counts (13 ∷ [])
unfolding encode
counts-last = refl

counts-char : (c : ℕ) (cs : List ℕ) → eqb c 13 ≡ false → Counts cs → Counts (c ∷ cs)
counts-char c cs other so_far =
    past-encode c (encodes cs) other ∙ ap suc so_far ∙ sym (ap length (single_breaks-past c cs other))

counts : (cs : List ℕ) → Counts cs
counts [] = refl
counts (c ∷ []) =
    ⊎_elim (λ same. subst (λ (n : ℕ). Counts (n ∷ [])) (sym (eqb-true c 13 same)) counts-last) (λ other. counts-char c [] other refl) (cases_Bool (eqb c 13))
counts (c ∷ d ∷ ds) =
    ⊎_elim
    (λ same. subst (λ (n : ℕ). Counts (n ∷ d ∷ ds)) (sym (eqb-true c 13 same))
    (⊎_elim (λ feed. subst (λ (n : ℕ). Counts (13 ∷ n ∷ ds)) (sym (eqb-true d 10 feed)) (counts-break ds (counts ds)))
    (λ other. counts-return d ds other (counts (d ∷ ds))) (cases_Bool (eqb d 10))))
    (λ other. counts-char c (d ∷ ds) other (counts (d ∷ ds)))
    (cases_Bool (eqb c 13))

begins-spaced : (b : ℕ) → begins_character (byte_or_space b) ≡ begins_character b
begins-spaced b =
    ⊎_elim
    (λ breaks. rw breaks (sym (begins-ascii b (⊎_elim (λ cr. let e : b ≡ 13 = eqb-true b 13 cr in omega arith) (λ not_cr. let e : b ≡ 10 = eqb-true b 10 (rw not_cr at breaks) in omega arith) (cases_Bool (eqb b 13))))))
    (λ other. rw other refl) (cases_Bool (is_line_break b))

characters-spaced : (text : List ℕ) → characters (map byte_or_space text) ≡ characters text
characters-spaced [] = refl
characters-spaced (b ∷ text) =
    rw (begins-spaced b) (elim (begins_character b) as (λ begins. length (cond begins (byte_or_space b ∷ filter begins_character (map byte_or_space text)) (filter begins_character (map byte_or_space text))) ≡ length (cond begins (b ∷ filter begins_character text) (filter begins_character text))) [
      | true ↦ ap suc (characters-spaced text)
      | false ↦ characters-spaced text
    ])

pub characters-one_line : (text : List ℕ) → IsUtf8 text → characters (one_line text) ≡ length (one_line (chars text))
characters-one_line text utf8 =
    characters-spaced (single_breaks text) ∙ ap (λ bytes. characters (single_breaks bytes)) (sym (encodes-chars text utf8))
    ∙ counts (chars text) ∙ sym (length-map (single_breaks (chars text)) byte_or_space)
