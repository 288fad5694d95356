-- Lemmas on what stands where a head is looked for.
use Rattle.std.proofs.Common.{◌≡◌, ◌<◌, ◌≤◌, ◌⊎◌, inl, inr, ℕ, List, length, ◌++◌, take, take_all, ap, sym, ◌∙◌, arith}
use Rattle.std.proofs.Math.Seq.{take-append_seam}
use Rattle.http_messages.specs.HeadScan.{scan}
use Rattle.http_messages.specs.declared.head_scan.HeadScanState.{HeadScanState}
use Rattle.http_messages.specs.declared.head_scan.Scan.{Scan}
use Rattle.http_desk.specs.declared.input_buffer.Filled.{Filled}
use Rattle.http_desk.specs.declared.input_buffer.Filled.TheVariants.{More}
use Rattle.http_desk.proofs.Common.{IsBlank, IsHeadCut, Lead, LeadReturn, Middle, Open, Start, StartReturn}
use Rattle.http_desk.proofs.Common.{longest_head, scan_take_open}

-- an open head is nothing but empty lines, or it has begun
pub blank_or_cut : (input : List ℕ) (p : HeadScanState) → length input < longest_head → scan input ≡ Open p
    → IsBlank input ⊎ IsHeadCut input
blank_or_cut input Lead h e = inl (h, e)
blank_or_cut input LeadReturn h e = inr (h, LeadReturn, (λ q. absurd (cc)), e)
blank_or_cut input Start h e = inr (h, Start, (λ q. absurd (cc)), e)
blank_or_cut input StartReturn h e = inr (h, StartReturn, (λ q. absurd (cc)), e)
blank_or_cut input Middle h e = inr (h, Middle, (λ q. absurd (cc)), e)

-- what was seen of a buffer stays seen when more comes
pub led_on : (n : ℕ) (items new got : List ℕ) (p : HeadScanState) → n ≡ length items → new ≡ items ++ got
    → length items < longest_head → scan (take longest_head items) ≡ Open p → scan (take n new) ≡ Open p
led_on n items new got p e f short seen =
    let few : length items ≤ longest_head = omega arith in
    (λ i. scan (take (e i) (f i))) ∙ ap scan (take-append_seam items got) ∙ ap scan (sym (take_all longest_head items few)) ∙ seen

-- what was looked at in a buffer
pub looked : {items held : List ℕ} {found known : Scan} → held ≡ items → found ≡ scan (take longest_head held)
    → found ≡ known → scan (take longest_head items) ≡ known
looked same e is = ap (λ b. scan (take longest_head b)) (sym same) ∙ sym e ∙ is

-- where nothing came, the head is as open as it was
pub still_open : {items held new : List ℕ} {found : Scan} {place : HeadScanState} {filled : Filled} (known : Filled) → held ≡ items
    → found ≡ scan (take longest_head held) → found ≡ Open place → filled ≡ known → (known ≡ More → ⊥)
    → ((filled ≡ More → ⊥) → new ≡ items) → length items < longest_head
    → (length new < longest_head) × (scan new ≡ Open place)
still_open {items = items} {new = new} {place = place} known same e is filled none kept short =
    scan_take_open longest_head items new place (kept (λ more. none (sym filled ∙ more))) short (looked same e is)
