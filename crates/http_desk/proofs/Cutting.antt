-- An input has one message at its front, if any.
use Rattle.std.proofs.Common.{◌≡◌, ◌≢◌, ◌<◌, ◌≤◌, inl, inr, ℕ, [], ◌∷◌, ◌++◌, length, take, take_all, refl, sym, ap}
use Rattle.std.proofs.Common.{◌∙◌, subst, arith, false, Bool, length-append}
use Rattle.httparse.proofs.GrammarLemmas.{request_unique}
use Rattle.http_messages.specs.HeadScan.{scan}
use Rattle.http_messages.specs.Heads.{Refused}
use Rattle.http_messages.specs.declared.head_scan.HeadScanState.{HeadScanState}
use Rattle.http_messages.specs.declared.head_scan.Scan.{Scan}
use Rattle.http_desk.proofs.Common.{Accepted, Answers, Begins, BodyCut, Bytes, Fails, HasHead, HeadCut, JudgesHead}
use Rattle.http_desk.proofs.Common.{Last, Lead, Message, NoHead, Nothing, Open, Refuses, Request, Stands, Status}
use Rattle.http_desk.proofs.Common.{Verdict, Whole, body_length, is_busy, longest_head, verdict_on}

-- two splits of a list at one place
pub split_unique : (a c b d : Bytes) → a ++ b ≡ c ++ d → length a ≡ length c → (a ≡ c) × (b ≡ d)
split_unique [] [] b d e l = (refl, e)
split_unique [] (y ∷ c) b d e l = absurd (cc)
split_unique (x ∷ a) [] b d e l = absurd (cc)
split_unique (x ∷ a) (y ∷ c) b d e l =
    let tails : a ++ b ≡ c ++ d = cc in
    let heads : x ≡ y = cc in
    let lengths : length a ≡ length c = omega arith in
    let (f, g) = split_unique a c b d tails lengths in
    ((λ i. heads i ∷ f i), g)

-- a block has one worth
pub verdict_unique : (block : Bytes) (v w : Verdict) → JudgesHead block v → JudgesHead block w → v ≡ w
verdict_unique block v w (inl (h, a, e)) (inl (k, b, f)) =
    e ∙ ap verdict_on (request_unique block h k [] [] a.0 b.0).0 ∙ sym f
verdict_unique block v w (inl (h, a, e)) (inr (none, f)) = absurd (none h a)
verdict_unique block v w (inr (none, e)) (inl (k, b, f)) = absurd (none k b)
verdict_unique block v w (inr (none, e)) (inr (none2, f)) = e ∙ sym f

pub record SameHead (v w : Verdict) (more more2 : Bytes) : Type 0 where
  pub verdicts : v ≡ w
  pub mores : more ≡ more2

pub head_unique : (input b c : Bytes) (v w : Verdict) (more more2 : Bytes) → HasHead input b v more
    → HasHead input c w more2 → SameHead v w more more2
head_unique input b c v w more more2 x y =
    let ends : Whole (length b) ≡ Whole (length c) = sym x.ends ∙ y.ends in
    let lengths : length b ≡ length c = cc in
    let (blocks, mores) = split_unique b c more more2 (sym x.whole ∙ y.whole) lengths in
    record { verdicts = verdict_unique c v w (subst (λ l. JudgesHead l v) blocks x.judged) y.judged; mores = mores }

pub record SameMessage (m n : Message) (rest rest2 : Bytes) : Type 0 where
  pub messages : m ≡ n
  pub rests : rest ≡ rest2

same_request : (r q : Request) → Accepted r ≡ Accepted q → r ≡ q
same_request r q e = cc

pub begins_unique : (input : Bytes) (m n : Message) (rest rest2 : Bytes) → Begins input m rest → Begins input n rest2
    → SameMessage m n rest rest2
begins_unique input m n rest rest2 x y =
    let same = head_unique input x.block y.block (Accepted m.request) (Accepted n.request) (m.body ++ rest) (n.body ++ rest2) x.head y.head in
    let requests = same_request m.request n.request same.verdicts in
    let lengths : length m.body ≡ length n.body = x.complete ∙ ap body_length requests ∙ sym y.complete in
    let (bodies, rests) = split_unique m.body n.body rest rest2 same.mores lengths in
    record { messages = λ i. record { request = requests i; body = bodies i }; rests = rests }

-- ---- what stands last

open_not_whole : (p : HeadScanState) (n : ℕ) (s : Scan) → s ≡ Open p → s ≡ Whole n → ⊥
open_not_whole p n s e f = cc

open_same : (p q : HeadScanState) (s : Scan) → s ≡ Open p → s ≡ Open q → p ≡ q
open_same p q s e f = cc

same_bare : (s t : Status) (b c : Bool) → Refused s b ≡ Refused t c → Refuses s b ≡ Refuses t c
same_bare s t b c e =
    let f : s ≡ t = cc in
    let g : b ≡ c = cc in
    λ i. Refuses (f i) (g i)

not_both : (s : Status) (b : Bool) (r : Request) → Refused s b ≡ Accepted r → ⊥
not_both s b r e = cc

-- a message that came whole is not cut in its body
cut_not_whole : (input block more rest : Bytes) (r : Request) (m : Message) → HasHead input block (Accepted r) more
    → length more < body_length r → Begins input m rest → ⊥
cut_not_whole input block more rest r m h short b =
    let same = head_unique input block b.block (Accepted r) (Accepted m.request) more (m.body ++ rest) h b.head in
    let requests = same_request r m.request same.verdicts in
    let lengths : body_length r ≡ length m.body = ap body_length requests ∙ sym b.complete in
    let all = ap length same.mores in
    omega (arith, length-append m.body rest)

-- the same, with what is open at the front
open_front : (input : Bytes) (p : HeadScanState) → length input < longest_head → scan input ≡ Open p
    → scan (take longest_head input) ≡ Open p
open_front input p short e =
    let all : length input ≤ longest_head = omega arith in
    ap scan (take_all longest_head input all) ∙ e

-- what stands last, by where the first head ends: not at all, or there
Front : Bytes → Last → Type 0
Front input Nothing = (length input < longest_head) × (scan (take longest_head input) ≡ Open Lead)
Front input HeadCut = (length input < longest_head) × (p : HeadScanState) × (p ≢ Lead) × (scan (take longest_head input) ≡ Open p)
Front input NoHead = (longest_head ≤ length input) × (p : HeadScanState) × (scan (take longest_head input) ≡ Open p)
Front input (BodyCut request) = (n : ℕ) × (scan (take longest_head input) ≡ Whole n)
Front input (Refuses status bare) = (n : ℕ) × (scan (take longest_head input) ≡ Whole n)
Front input (Answers message) = (n : ℕ) × (scan (take longest_head input) ≡ Whole n)
Front input (Fails leave bare) = Unit {0}

front_of : (input : Bytes) (l : Last) → Stands input l → Front input l
unfolding Front
front_of input Nothing h = (h.0, open_front input Lead h.0 h.1)
front_of input HeadCut h = (h.0, h.1, h.2, open_front input h.1 h.0 h.3)
front_of input NoHead h = h
front_of input (BodyCut request) h = (length h.0, h.2.ends)
front_of input (Refuses status bare) h = (length h.0, h.2.ends)
front_of input (Answers message) h = (length h.1.block, h.1.head.ends)
front_of input (Fails leave bare) h = tt

stands_one : (input : Bytes) (l k : Last) → Stands input l → Front input l → Stands input k → Front input k
    → is_busy l ≡ false → is_busy k ≡ false → l ≡ k
unfolding Front
stands_one input Nothing Nothing x f y g a b = refl
stands_one input Nothing HeadCut x f y g a b = absurd (g.2 (open_same g.1 Lead _ g.3 f.1))
stands_one input Nothing NoHead x f y g a b = absurd (omega (arith, f.0, g.0))
stands_one input Nothing (BodyCut r) x f y g a b = absurd (open_not_whole _ _ _ f.1 g.1)
stands_one input Nothing (Refuses s c) x f y g a b = absurd (open_not_whole _ _ _ f.1 g.1)
stands_one input Nothing (Answers m) x f y g a b = absurd (open_not_whole _ _ _ f.1 g.1)
stands_one input Nothing (Fails c d) x f y g a b = absurd (cc)
stands_one input HeadCut Nothing x f y g a b = absurd (f.2 (open_same f.1 Lead _ f.3 g.1))
stands_one input HeadCut HeadCut x f y g a b = refl
stands_one input HeadCut NoHead x f y g a b = absurd (omega (arith, f.0, g.0))
stands_one input HeadCut (BodyCut r) x f y g a b = absurd (open_not_whole _ _ _ f.3 g.1)
stands_one input HeadCut (Refuses s c) x f y g a b = absurd (open_not_whole _ _ _ f.3 g.1)
stands_one input HeadCut (Answers m) x f y g a b = absurd (open_not_whole _ _ _ f.3 g.1)
stands_one input HeadCut (Fails c d) x f y g a b = absurd (cc)
stands_one input NoHead Nothing x f y g a b = absurd (omega (arith, f.0, g.0))
stands_one input NoHead HeadCut x f y g a b = absurd (omega (arith, f.0, g.0))
stands_one input NoHead NoHead x f y g a b = refl
stands_one input NoHead (BodyCut r) x f y g a b = absurd (open_not_whole _ _ _ f.2 g.1)
stands_one input NoHead (Refuses s c) x f y g a b = absurd (open_not_whole _ _ _ f.2 g.1)
stands_one input NoHead (Answers m) x f y g a b = absurd (open_not_whole _ _ _ f.2 g.1)
stands_one input NoHead (Fails c d) x f y g a b = absurd (cc)
stands_one input (BodyCut q) Nothing x f y g a b = absurd (open_not_whole _ _ _ g.1 f.1)
stands_one input (BodyCut q) HeadCut x f y g a b = absurd (open_not_whole _ _ _ g.3 f.1)
stands_one input (BodyCut q) NoHead x f y g a b = absurd (open_not_whole _ _ _ g.2 f.1)
stands_one input (BodyCut q) (BodyCut r) x f y g a b =
    ap BodyCut (same_request q r (head_unique input _ _ _ _ _ _ x.2 y.2).verdicts)
stands_one input (BodyCut q) (Refuses s c) x f y g a b =
    absurd (not_both s c q (head_unique input _ _ _ _ _ _ y.2 x.2).verdicts)
stands_one input (BodyCut q) (Answers m) x f y g a b = absurd (cut_not_whole input x.0 x.1 y.0 q m x.2 x.3 y.1)
stands_one input (BodyCut q) (Fails c d) x f y g a b = absurd (cc)
stands_one input (Refuses t e) Nothing x f y g a b = absurd (open_not_whole _ _ _ g.1 f.1)
stands_one input (Refuses t e) HeadCut x f y g a b = absurd (open_not_whole _ _ _ g.3 f.1)
stands_one input (Refuses t e) NoHead x f y g a b = absurd (open_not_whole _ _ _ g.2 f.1)
stands_one input (Refuses t e) (BodyCut r) x f y g a b =
    absurd (not_both t e r (head_unique input _ _ _ _ _ _ x.2 y.2).verdicts)
stands_one input (Refuses t e) (Refuses s c) x f y g a b =
    same_bare t s e c (head_unique input _ _ _ _ _ _ x.2 y.2).verdicts
stands_one input (Refuses t e) (Answers m) x f y g a b =
    absurd (not_both t e m.request (head_unique input _ _ _ _ _ _ x.2 y.1.head).verdicts)
stands_one input (Refuses t e) (Fails c d) x f y g a b = absurd (cc)
stands_one input (Answers n) Nothing x f y g a b = absurd (open_not_whole _ _ _ g.1 f.1)
stands_one input (Answers n) HeadCut x f y g a b = absurd (open_not_whole _ _ _ g.3 f.1)
stands_one input (Answers n) NoHead x f y g a b = absurd (open_not_whole _ _ _ g.2 f.1)
stands_one input (Answers n) (BodyCut r) x f y g a b = absurd (cut_not_whole input y.0 y.1 x.0 r n y.2 y.3 x.1)
stands_one input (Answers n) (Refuses s c) x f y g a b =
    absurd (not_both s c n.request (head_unique input _ _ _ _ _ _ y.2 x.1.head).verdicts)
stands_one input (Answers n) (Answers m) x f y g a b = ap Answers (begins_unique input n m x.0 y.0 x.1 y.1).messages
stands_one input (Answers n) (Fails c d) x f y g a b = absurd (cc)
stands_one input (Fails c d) k x f y g a b = absurd (cc)

-- where the office is not busy, one thing stands last
pub stands_unique : (input : Bytes) (l k : Last) → Stands input l → Stands input k → is_busy l ≡ false
    → is_busy k ≡ false → l ≡ k
stands_unique input l k x y a b = stands_one input l k x (front_of input l x) y (front_of input k y) a b
