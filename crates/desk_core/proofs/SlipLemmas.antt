-- The lines of a slip: their order, and what a format with places writes.
use Rattle.std.proofs.Common.{◌≡◌, ℕ, ◌-◌, ◌^◌, ◌<◌, ◌≤◌, List, [], ◌∷◌, ◌++◌, length, map, take, replicate, refl, sym}
use Rattle.std.proofs.Common.{ap, ◌∙◌, arith, lt-ltb, suc, append_assoc, Bor}
use Rattle.std.proofs.Padding.{padded_integral_right, styled_decimal_is}
use Rattle.std.proofs.lemmas.Fmt.{IsAscii-decimal}
use Rattle.std.specs.Cmp.Lexicographic.{on_texts}
use Rattle.std.specs.Str.{IsAscii}
use Rattle.desk_core.proofs.Common.{Candidate, IsSortedBy, IsStableBy, IsTotalOrder, at_right, characters, decimal}
use Rattle.desk_core.proofs.Common.{flat_map, format_spec, in_order, is_lt, is_shelved_before, nat_cmp_total, on_total}
use Rattle.desk_core.proofs.Common.{ranks_by, shelf_order, slip_line, slip_numbers, styled_decimal, take_all}
use Rattle.desk_core.proofs.Common.{then_total}
use Rattle.desk_core.proofs.OrderLemmas.{in_order-map, sorted-is}

-- ASCII has a byte for each character
characters-ascii : (text : List ℕ) → IsAscii text → characters text ≡ length text
characters-ascii [] ascii = refl
characters-ascii (b ∷ text) ascii =
    rw (lt-ltb b 128 (ascii 0)) (let rest : characters text ≡ length text = characters-ascii text (λ i. ascii (suc i)) in omega arith)

-- what `{:>places}` writes of a number
pub styled_decimal-at_right : (n places : ℕ) → n < 2 ^ 64
    → styled_decimal (format_spec 32 3 0 places (2 ^ 64 - 1)) n ≡ at_right places (decimal n)
styled_decimal-at_right n places small =
    let wide : characters (decimal n) ≡ length (decimal n) = characters-ascii (decimal n) (IsAscii-decimal n small) in
    styled_decimal_is (format_spec 32 3 0 places (2 ^ 64 - 1)) n
    ∙ padded_integral_right (format_spec 32 3 0 places (2 ^ 64 - 1)) (decimal n) refl refl (λ e. omega arith) (λ e. omega arith) (omega arith)
    ∙ ap (λ n'. replicate (places - n') 32 ++ decimal n) (sym wide)

-- three columns with a space before each, and a line feed
abbrev pub columns : (container order ticket : List ℕ) → List ℕ
columns container order ticket =
    (32 ∷ []) ++ (container ++ ((32 ∷ []) ++ (order ++ ((32 ∷ []) ++ (ticket ++ (10 ∷ []))))))

pub slip_numbers-is : (c : Candidate)
    → columns (at_right 6 (decimal c.container)) (at_right 8 (decimal c.order)) (at_right 7 (decimal c.ticket)) ≡ slip_numbers c
slip_numbers-is c = simp append_assoc

-- ---- the order of the lines

pub shelf_order-ranks : IsTotalOrder shelf_order
shelf_order-ranks =
    then_total (on_texts (λ (c : Candidate). c.location)) (then_total (on_texts (λ (c : Candidate). c.name)) (then_total (on_texts (λ (c : Candidate). c.kind)) (on_total (λ (c : Candidate). c.container) nat_cmp_total)))

flat_map-map : {X Y Z : Type 0} (f : X → Y) (g : Y → List Z) (xs : List X)
    → flat_map g (map f xs) ≡ flat_map (λ x. g (f x)) xs
flat_map-map f g [] = refl
flat_map-map f g (x ∷ xs) = ap (λ zs. g (f x) ++ zs) (flat_map-map f g xs)

-- lines of what is lent, in order
pub lines-of_lent : (candidates : List Candidate) (lent sorted items : List (Bor Candidate)) (n : ℕ)
    → map (λ (b : Bor Candidate). b.now) lent ≡ candidates
    → IsSortedBy (λ (a b : Bor Candidate). is_lt (shelf_order a.now b.now)) sorted
    → IsStableBy (λ (a b : Bor Candidate). is_lt (shelf_order a.now b.now)) lent sorted → items ≡ sorted
    → length items ≤ n
    → flat_map (λ (b : Bor Candidate). slip_line b.now) (take n items) ≡ flat_map slip_line (in_order is_shelved_before candidates)
lines-of_lent candidates lent sorted items n shows rising stable same whole =
    ap (flat_map (λ (b : Bor Candidate). slip_line b.now)) (take_all n items whole ∙ same)
    ∙ sym (flat_map-map (λ (b : Bor Candidate). b.now) slip_line sorted)
    ∙ ap (λ queue. flat_map slip_line (map (λ (b : Bor Candidate). b.now) queue)) (sorted-is _ (ranks_by shelf_order-ranks (λ (b : Bor Candidate). b.now)) lent sorted rising stable)
    ∙ ap (flat_map slip_line) (in_order-map (λ (b : Bor Candidate). b.now) is_shelved_before lent)
    ∙ ap (λ all. flat_map slip_line (in_order is_shelved_before all)) shows
