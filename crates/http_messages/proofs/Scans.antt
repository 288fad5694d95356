-- Lemmas on where a head ends.
use Rattle.std.proofs.Common.{◌⊎◌, inl, inr, min, zero, take_all, ◌≡◌, ◌<◌, ◌≤◌, ℕ, suc, ◌+◌, ◌-◌, drop, List, [], ◌∷◌}
use Rattle.std.proofs.Common.{◌++◌, length, take, refl, sym, ap, ◌∙◌, arith, zero-add, Option, None, Some, length-take}
use Rattle.std.proofs.Math.Seq.{take-add}
use Rattle.std.proofs.lemmas.Bool.{cases_lt}
use Rattle.http_messages.specs.HeadScan.{scan}
use Rattle.http_messages.specs.declared.head_scan.HeadScanState.{HeadScanState}
use Rattle.http_messages.specs.declared.head_scan.HeadScanState.TheVariants.{Lead}
use Rattle.http_messages.specs.declared.head_scan.Scan.{Scan}
use Rattle.http_messages.specs.declared.head_scan.Scan.TheVariants.{Whole, Open}
use Rattle.http_messages.proofs.Common.{found_after, next_place, one_more, scan_from}

-- what is found after n bytes more
abbrev pub later : ℕ → Scan → Scan
later n (Whole k) = Whole (n + k)
later n (Open p) = Open p

pub later_none : (s : Scan) → later 0 s ≡ s
later_none (Whole k) = ap Whole (zero-add k)
later_none (Open p) = refl

one_more_whole : (s : Scan) (n : ℕ) → one_more s ≡ Whole n → (k : ℕ) × (s ≡ Whole k) × (n ≡ k + 1)
one_more_whole (Whole k) n e = (k, refl, cc)
one_more_whole (Open p) n e = absurd (cc)

within_after : (o : Option HeadScanState) (more : HeadScanState → Scan) (len n : ℕ)
    → ((q : HeadScanState) (k : ℕ) → more q ≡ Whole k → k ≤ len)
    → found_after o more ≡ Whole n → n ≤ suc len
within_after None more len n h e = let one : n ≡ 1 = cc in omega arith
within_after (Some q) more len n h e =
    let (k, f, s) = one_more_whole (more q) n e in
    let below : k ≤ len = h q k f in
    omega arith

pub within_from : (p : HeadScanState) (bytes : List ℕ) (n : ℕ) → scan_from p bytes ≡ Whole n → n ≤ length bytes
within_from p [] n e = absurd (cc)
within_from p (b ∷ bytes) n e =
    within_after (next_place p b) (λ q. scan_from q bytes) (length bytes) n (λ q k f. within_from q bytes k f) e

-- a head lies within the bytes
pub scan_within : (bytes : List ℕ) (n : ℕ) → scan bytes ≡ Whole n → n ≤ length bytes
unfolding scan
scan_within bytes n e = within_from Lead bytes n e

more_after : (o : Option HeadScanState) (more longer : HeadScanState → Scan) (n : ℕ)
    → ((q : HeadScanState) (k : ℕ) → more q ≡ Whole k → longer q ≡ Whole k)
    → found_after o more ≡ Whole n → found_after o longer ≡ Whole n
more_after None more longer n h e = e
more_after (Some q) more longer n h e =
    let (k, f, s) = one_more_whole (more q) n e in
    ap one_more (h q k f) ∙ ap Whole (sym s)

more_from : (p : HeadScanState) (bytes rest : List ℕ) (n : ℕ) → scan_from p bytes ≡ Whole n
    → scan_from p (bytes ++ rest) ≡ Whole n
more_from p [] rest n e = absurd (cc)
more_from p (b ∷ bytes) rest n e =
    more_after (next_place p b) (λ q. scan_from q bytes) (λ q. scan_from q (bytes ++ rest)) n (λ q k f. more_from q bytes rest k f) e

-- what follows a head changes nothing
pub scan_more : (bytes rest : List ℕ) (n : ℕ) → scan bytes ≡ Whole n → scan (bytes ++ rest) ≡ Whole n
unfolding scan
scan_more bytes rest n e = more_from Lead bytes rest n e

later_later : (n : ℕ) (s : Scan) → one_more (later n s) ≡ later (suc n) s
later_later n (Whole k) = let e : (n + k) + 1 ≡ suc n + k = omega arith in ap Whole e
later_later n (Open p) = refl

on_after : (o : Option HeadScanState) (more : HeadScanState → Scan) (longer : HeadScanState → Scan) (q : HeadScanState) (n : ℕ) (s : Scan)
    → ((r : HeadScanState) → more r ≡ Open q → longer r ≡ later n s)
    → found_after o more ≡ Open q → found_after o longer ≡ later (suc n) s
on_after None more longer q n s h e = absurd (cc)
on_after (Some r) more longer q n s h e = ap one_more (h r (still_open (more r) e)) ∙ later_later n s
  where
    still_open : (t : Scan) → one_more t ≡ Open q → t ≡ Open q
    still_open (Whole k) f = absurd (cc)
    still_open (Open p) f = f

on_from : (p q : HeadScanState) (bytes rest : List ℕ) → scan_from p bytes ≡ Open q
    → scan_from p (bytes ++ rest) ≡ later (length bytes) (scan_from q rest)
on_from p q [] rest e =
    let same : p ≡ q = cc in
    sym (later_none (scan_from p rest)) ∙ ap (λ x. later 0 (scan_from x rest)) same
on_from p q (b ∷ bytes) rest e =
    on_after (next_place p b) (λ r. scan_from r bytes) (λ r. scan_from r (bytes ++ rest)) q (length bytes)
    (scan_from q rest) (λ r f. on_from r q bytes rest f) e

take_in_two : (a b : ℕ) (bytes : List ℕ) → a ≤ b → take b bytes ≡ take a bytes ++ take (b - a) (drop a bytes)
take_in_two a b bytes h =
    let whole : b ≡ a + (b - a) = omega arith in
    ap (λ n. take n bytes) whole ∙ take-add a (b - a) bytes

-- where the bytes before a place end no head, the search goes on from there
pub scan_from_there : (seen end : ℕ) (bytes : List ℕ) (place : HeadScanState) → seen ≤ end → end ≤ length bytes
    → scan (take seen bytes) ≡ Open place
    → scan (take end bytes) ≡ later seen (scan_from place (take (end - seen) (drop seen bytes)))
unfolding scan
scan_from_there seen end bytes place low high e =
    let whole = take_in_two seen end bytes low in
    let count : length (take seen bytes) ≡ seen = omega (arith, length-take seen bytes) in
    ap (scan_from Lead) whole ∙ on_from Lead place (take seen bytes) (take (end - seen) (drop seen bytes)) e
    ∙ ap (λ n. later n (scan_from place (take (end - seen) (drop seen bytes)))) count

take_least : (limit : ℕ) (bytes : List ℕ) → (length bytes < limit) ⊎ (limit ≤ length bytes)
    → take (min (length bytes) limit) bytes ≡ take limit bytes
take_least limit bytes (inl h) =
    let e : min (length bytes) limit ≡ length bytes = omega arith in
    ap (λ n. take n bytes) e ∙ take_all (length bytes) bytes (omega arith) ∙ sym (take_all limit bytes (omega arith))
take_least limit bytes (inr h) =
    let e : min (length bytes) limit ≡ limit = omega arith in
    ap (λ n. take n bytes) e

-- what is found further on, within a limit, counts from the start
pub scan_go_on : (seen end limit : ℕ) (bytes : List ℕ) (place : HeadScanState) (found : Scan)
    → seen ≤ end → end ≡ min (length bytes) limit → scan (take seen bytes) ≡ Open place
    → found ≡ scan_from place (take (end - seen) (drop seen bytes)) → later seen found ≡ scan (take limit bytes)
scan_go_on seen end limit bytes place found low e led f =
    let high : end ≤ length bytes = omega arith in
    ap (later seen) f ∙ sym (scan_from_there seen end bytes place low high led) ∙ ap (λ n. scan (take n bytes)) e
    ∙ ap scan (take_least limit bytes (cases_lt (length bytes) limit))

take_front : (n : ℕ) (xs ys : List ℕ) → (more : List ℕ) × (take n (xs ++ ys) ≡ take n xs ++ more)
take_front zero xs ys = ([], refl)
take_front (suc n) [] ys = (take (suc n) ys, refl)
take_front (suc n) (x ∷ xs) ys = let (more, e) = take_front n xs ys in (more, ap (λ l. x ∷ l) e)

-- and so it is within a limit
pub scan_take_more : (limit : ℕ) (bytes rest : List ℕ) (n : ℕ) → scan (take limit bytes) ≡ Whole n
    → scan (take limit (bytes ++ rest)) ≡ Whole n
scan_take_more limit bytes rest n e =
    let (more, f) = take_front limit bytes rest in
    ap scan f ∙ scan_more (take limit bytes) more n e

-- a head that ends within the limit is no longer than the bytes
pub scan_take_within : (limit : ℕ) (bytes : List ℕ) (n : ℕ) → scan (take limit bytes) ≡ Whole n → n ≤ length bytes
scan_take_within limit bytes n e =
    let h : n ≤ length (take limit bytes) = scan_within (take limit bytes) n e in
    omega (arith, length-take limit bytes)

-- an open head that isn't longer than the limit
pub scan_take_open : (limit : ℕ) (items new : List ℕ) (p : HeadScanState) → new ≡ items → length items < limit
    → scan (take limit items) ≡ Open p → (length new < limit) × (scan new ≡ Open p)
scan_take_open limit items new p e h f =
    let short : length items ≤ limit = omega arith in
    (rw e h, ap scan (e ∙ sym (take_all limit items short)) ∙ f)

pub scan_take_limit : (limit : ℕ) (bytes : List ℕ) (n : ℕ) → scan (take limit bytes) ≡ Whole n → n ≤ limit
scan_take_limit limit bytes n e =
    let h : n ≤ length (take limit bytes) = scan_within (take limit bytes) n e in
    omega (arith, length-take limit bytes)
