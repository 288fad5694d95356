-- The records of a text are texts.
use Rattle.std.proofs.Common.{◌≡◌, ◌∙◌, ◌+◌, ◌≤◌, ◌<◌, ◌++◌, ℕ, zero, suc, Bool, true, false, List, [], ◌∷◌, Option}
use Rattle.std.proofs.Common.{Some, None, refl, sym, ap, subst, arith, append_assoc, append-nil, cond, ◌/◌, ◌%◌, nat_lt}
use Rattle.std.specs.Str.{IsUtf8}
use Rattle.csv.proofs.RecordFacts.{text-more}
use Rattle.csv.specs.Machine.{next_record}
use Rattle.csv.specs.Reading.{strip_bom}
use Rattle.csv.specs.Records.{AllText}
use Rattle.csv.specs.declared.parser.Action.{Action}
use Rattle.csv.specs.declared.parser.Action.TheVariants as act
use Rattle.csv.specs.declared.parser.State.TheVariants as st
use borrow.Author.Tests.{ltb-false}
use lib.Utf8.{encode, encodes, scalars}
use Rattle.atom_csv.proofs.Common.{AllByRecursion, IsUtf8-append, IsUtf8-from_ascii, IsUtf8-nil, IsUtf8-past_char, Read}
use Rattle.atom_csv.proofs.Common.{State, and_parts, default_config, encode_ascii, ends_at_end, eqb-true, field_after}
use Rattle.atom_csv.proofs.Common.{fields_after, if◌then◌else◌, is_bom, is_end, le-ltb, ltb-true, ne_eqb, slice_index}
use Rattle.atom_csv.proofs.Common.{step, ◌&&◌, ◌==◌}

after_high : State → State
after_high st.StartRecord = st.InField
after_high st.StartField = st.InField
after_high st.InField = st.InField
after_high st.InQuoted = st.InQuoted
after_high st.AfterQuote = st.InField
after_high st.InEscape = st.InQuoted
after_high st.InComment = st.InComment
after_high st.AfterCr = st.InField

act_high : State → Action
act_high st.InComment = act.Skip
act_high _ = act.Copy

-- a byte that is no ASCII only joins the field
step_high : (s : State) (b : ℕ) → 128 ≤ b → step default_config s b ≡ (after_high s, act_high s)
unfolding after_high act_high
step_high s b h = go s (ne_eqb b 44 (λ e. omega arith)) (ne_eqb b 34 (λ e. omega arith)) (ne_eqb b 13 (λ e. omega arith)) (ne_eqb b 10 (λ e. omega arith))
  where
    go : (s : State) → (b == 44) ≡ false → (b == 34) ≡ false → (b == 13) ≡ false → (b == 10) ≡ false
        → step default_config s b ≡ (after_high s, act_high s)
    go st.StartRecord comma quote cr lf = rw (cr, lf, quote, comma) refl
    go st.StartField comma quote cr lf = rw (quote, comma, cr, lf) refl
    go st.InField comma quote cr lf = rw (comma, cr, lf) refl
    go st.InQuoted comma quote cr lf = rw quote refl
    go st.AfterQuote comma quote cr lf = rw (quote, comma, cr, lf) refl
    go st.InEscape comma quote cr lf = refl
    go st.InComment comma quote cr lf = rw lf refl
    go st.AfterCr comma quote cr lf = rw (lf, cr, quote, comma) refl

is_comment : State → Bool
is_comment st.InComment = true
is_comment _ = false

copies : (s : State) → is_comment s ≡ false → (act_high s ≡ act.Copy) × (is_comment (after_high s) ≡ false)
unfolding after_high act_high is_comment
copies st.StartRecord e = (refl, refl)
copies st.StartField e = (refl, refl)
copies st.InField e = (refl, refl)
copies st.InQuoted e = (refl, refl)
copies st.AfterQuote e = (refl, refl)
copies st.InEscape e = (refl, refl)
copies st.InComment e = cc
copies st.AfterCr e = (refl, refl)

-- one byte, by what the machine makes of it
byte : (fields : List (List ℕ)) (field : List ℕ) (b : ℕ) (rest : List ℕ) → State × Action → Option Read
byte fields field b rest q = if is_end q.1 then Some (fields_after q.1 fields field, q.0, rest)
    else next_record default_config q.0 (fields_after q.1 fields field) (field_after q.1 b field) rest

run_copy : (s : State) (fields : List (List ℕ)) (field bs rest : List ℕ) → is_comment s ≡ false
    → AllByRecursion (λ b. 128 ≤ b) bs
    → (s2 : State) × (next_record default_config s fields field (bs ++ rest) ≡ next_record default_config s2 fields (field ++ bs) rest)
unfolding next_record byte
run_copy s fields field [] rest e high =
    (s, ap (λ f. next_record default_config s fields f rest) (sym (append-nil field)))
run_copy s fields field (b ∷ bs) rest e high =
    let c = copies s e in
    let later = run_copy (after_high s) fields (field ++ b ∷ []) bs rest c.1 high.1 in
    let step_is : step default_config s b ≡ (after_high s, act.Copy) =
    step_high s b high.0 ∙ ap (λ a. (after_high s, a)) c.0 in
    (later.0, ap (byte fields field b (bs ++ rest)) step_is ∙ (later.1 ∙ ap (λ f. next_record default_config later.0 fields f rest) (append_assoc field (b ∷ []) bs)))

run_skip : (fields : List (List ℕ)) (field bs rest : List ℕ) → AllByRecursion (λ b. 128 ≤ b) bs
    → next_record default_config st.InComment fields field (bs ++ rest) ≡ next_record default_config st.InComment fields field rest
unfolding next_record byte after_high act_high
run_skip fields field [] rest high = refl
run_skip fields field (b ∷ bs) rest high =
    ap (byte fields field b (bs ++ rest)) (step_high st.InComment b high.0) ∙ run_skip fields field bs rest high.1

encode_high : (c : ℕ) → 128 ≤ c → AllByRecursion (λ b. 128 ≤ b) (encode c)
unfolding encode
encode_high c h = go (nat_lt c 128) (nat_lt c 2048) (nat_lt c 65536) (le-ltb c 128 h)
  where
    go : (x y z : Bool) → x ≡ false
        → AllByRecursion (λ b. 128 ≤ b) (cond x (c ∷ []) (cond y ((192 + c / 64) ∷ (128 + c % 64) ∷ []) (cond z ((224 + c / 4096) ∷ (128 + c / 64 % 64) ∷ (128 + c % 64) ∷ []) ((240 + c / 262144) ∷ (128 + c / 4096 % 64) ∷ (128 + c / 64 % 64) ∷ (128 + c % 64) ∷ []))))
    go true y z e = cc
    go false true z e = (omega arith, (omega arith, tt))
    go false false true e = (omega arith, (omega arith, (omega arith, tt)))
    go false false false e = (omega arith, (omega arith, (omega arith, (omega arith, tt))))

all_text : (a : Action) (fields : List (List ℕ)) (field : List ℕ) → AllText fields → IsUtf8 field
    → AllText (fields_after a fields field)
all_text act.EndField fields field fs f = text-more fields field fs f
all_text act.EndRecord fields field fs f = text-more fields field fs f
all_text act.Skip fields field fs f = fs
all_text act.Copy fields field fs f = fs

one_text : (a : Action) (field : List ℕ) (c : ℕ) → IsUtf8 field → c < 128 → IsUtf8 (field_after a c field)
one_text act.Copy field c f small = IsUtf8-append field (c ∷ []) f (IsUtf8-from_ascii (c ∷ []) (λ i. ascii i))
  where
    ascii : (i : ℕ) → slice_index (c ∷ []) i < 128
    ascii zero = small
    ascii (suc i) = omega arith
one_text act.EndField field c f small = IsUtf8-nil
one_text act.Skip field c f small = f
one_text act.EndRecord field c f small = IsUtf8-nil

scalar_high : (c : ℕ) (cs : List ℕ) → scalars (c ∷ cs) ≡ true → (IsUtf8 (encode c)) × (scalars cs ≡ true)
scalar_high c cs e =
    let parts = and_parts _ _ e in
    ((c ∷ [], (ap (λ b. b && true) parts.0, append-nil (encode c))), parts.1)

comment_is : (s : State) → is_comment s ≡ true → s ≡ st.InComment
unfolding is_comment
comment_is st.InComment e = refl
comment_is st.StartRecord e = cc
comment_is st.StartField e = cc
comment_is st.InField e = cc
comment_is st.InQuoted e = cc
comment_is st.AfterQuote e = cc
comment_is st.InEscape e = cc
comment_is st.AfterCr e = cc

-- the rest of a read, after one byte that is ASCII
byte_text : (cs : List ℕ) (ok : scalars cs ≡ true) (fields : List (List ℕ)) (field : List ℕ) (c : ℕ) (p : Read)
    → c < 128 → AllText fields → IsUtf8 field
    → ((s : State) (fields : List (List ℕ)) (field : List ℕ) → AllText fields → IsUtf8 field → next_record default_config s fields field (encodes cs) ≡ Some p → AllText p.0 × IsUtf8 p.2)
    → (q : State × Action) → byte fields field c (encodes cs) q ≡ Some p → AllText p.0 × IsUtf8 p.2
unfolding byte
byte_text cs ok fields field c p small fs f later (s, a) e = go (is_end a) e
  where
    go : (b : Bool)
        → (if b then Some (fields_after a fields field, s, encodes cs) else next_record default_config s (fields_after a fields field) (field_after a c field) (encodes cs)) ≡ Some p
        → AllText p.0 × IsUtf8 p.2
    go true e =
        let same : (fields_after a fields field, s, encodes cs) ≡ p = cc in
        subst (λ (q : Read). AllText q.0 × IsUtf8 q.2) same (all_text a fields field fs f, (cs, (ok, refl)))
    go false e = later s (fields_after a fields field) (field_after a c field) (all_text a fields field fs f) (one_text a field c f small) e

read_text : (cs : List ℕ) → scalars cs ≡ true → (s : State) (fields : List (List ℕ)) (field : List ℕ) (p : Read)
    → AllText fields → IsUtf8 field
    → next_record default_config s fields field (encodes cs) ≡ Some p → AllText p.0 × IsUtf8 p.2
unfolding next_record byte
read_text [] ok s fields field p fs f e = go (ends_at_end s) e
  where
    go : (b : Bool) → (if b then Some (fields ++ field ∷ [], st.StartRecord, []) else None) ≡ Some p
        → AllText p.0 × IsUtf8 p.2
    go true e =
        let same : (fields ++ field ∷ [], st.StartRecord, []) ≡ p = cc in
        subst (λ (q : Read). AllText q.0 × IsUtf8 q.2) same (text-more fields field fs f, IsUtf8-nil)
    go false e = cc
read_text (c ∷ cs) ok s fields field p fs f e =
    let parts = scalar_high c cs ok in
    go (nat_lt c 128) (is_comment s) refl refl parts.0 parts.1 (λ s fields field fs f e. read_text cs parts.1 s fields field p fs f e)
  where
    go : (b k : Bool) → nat_lt c 128 ≡ b → is_comment s ≡ k → IsUtf8 (encode c) → scalars cs ≡ true
        → ((s : State) (fields : List (List ℕ)) (field : List ℕ) → AllText fields → IsUtf8 field → next_record default_config s fields field (encodes cs) ≡ Some p → AllText p.0 × IsUtf8 p.2)
        → AllText p.0 × IsUtf8 p.2
    go true k is comment text ok later =
        let small : c < 128 = ltb-true _ _ is in
        byte_text cs ok fields field c p small fs f later (step default_config s c)
        (ap (λ bs. next_record default_config s fields field (bs ++ encodes cs)) (sym (encode_ascii c small)) ∙ e)
    go false false is comment text ok later =
        let run = run_copy s fields field (encode c) (encodes cs) comment (encode_high c (ltb-false _ _ is)) in
        later run.0 fields (field ++ encode c) fs (IsUtf8-append field (encode c) f text) (sym run.1 ∙ e)
    go false true is comment text ok later =
        let at = comment_is s comment in
        let run = run_skip fields field (encode c) (encodes cs) (encode_high c (ltb-false _ _ is)) in
        later st.InComment fields field fs f (sym run ∙ (ap (λ t. next_record default_config t fields field (encodes (c ∷ cs))) (sym at) ∙ e))

-- a record of a text is text, and so is what follows it
pub record_text : (s : State) (xs : List ℕ) (p : Read) → IsUtf8 xs → next_record default_config s [] [] xs ≡ Some p
    → AllText p.0 × IsUtf8 p.2
unfolding AllText
record_text s xs p (cs, (ok, is)) e =
    read_text cs ok s [] [] p tt IsUtf8-nil (ap (next_record default_config s [] []) is ∙ e)

-- ---- the byte order mark

-- a text without its byte order mark is a text
pub unmarked_text : (xs : List ℕ) → IsUtf8 xs → IsUtf8 (strip_bom xs)
unfolding strip_bom encode
unmarked_text [] text = text
unmarked_text (a ∷ []) text = text
unmarked_text (a ∷ b ∷ []) text = text
unmarked_text (a ∷ b ∷ c ∷ rest) text = go (is_bom a b c) refl
  where
    go : (m : Bool) → is_bom a b c ≡ m → IsUtf8 (if m then rest else a ∷ b ∷ c ∷ rest)
    go false e = text
    go true e =
        let parts = and_parts (((a == 0xEF) && (b == 0xBB))) (c == 0xBF) e in
        let first = and_parts (a == 0xEF) (b == 0xBB) parts.0 in
        let is : a ∷ b ∷ c ∷ rest ≡ encode 0xFEFF ++ rest =
        ap (λ (x : ℕ). x ∷ b ∷ c ∷ rest) (eqb-true a 0xEF first.0)
        ∙ (ap (λ (y : ℕ). 0xEF ∷ y ∷ c ∷ rest) (eqb-true b 0xBB first.1) ∙ ap (λ (z : ℕ). 0xEF ∷ 0xBB ∷ z ∷ rest) (eqb-true c 0xBF parts.1)) in
        IsUtf8-past_char (a ∷ b ∷ c ∷ rest) rest 0xFEFF text is
