-- Lemmas on verdicts.
use Rattle.std.proofs.Common.{◌≡◌, ℕ, List, Bool, true, false, refl, sym}
use Rattle.std.proofs.lemmas.Bool.{not-true}
use Rattle.std.specs.Prelude.{◌==◌}
use Rattle.http_messages.specs.declared.status.Status.TheVariants.{NotImplemented}
use Rattle.http_messages.proofs.Common.{Field, Refused, codes, first_length, hosts, is_head, is_named, list_any, nat_lt}
use Rattle.http_messages.proofs.Common.{not, weigh, weigh_length, ◌&&◌, ◌||◌}

abbrev hosts_bad : ℕ → List Field → Bool
hosts_bad minor pairs = nat_lt 1 (hosts pairs) || (minor == 1 && (hosts pairs == 0))

pub weigh_coded : (m t : List ℕ) (minor : ℕ) (pairs : List Field)
    → true ≡ not (nat_lt 1 (hosts pairs) || (minor == 1 && (hosts pairs == 0)))
    → list_any (is_named (codes "transfer-encoding")) pairs ≡ true
    → weigh m t minor pairs ≡ Refused NotImplemented (is_head m)
weigh_coded m t minor pairs h e = let g = not-true (hosts_bad minor pairs) (sym h) in rw (g, e) refl

pub weigh_on : (m t : List ℕ) (minor : ℕ) (pairs : List Field)
    → true ≡ not (nat_lt 1 (hosts pairs) || (minor == 1 && (hosts pairs == 0)))
    → list_any (is_named (codes "transfer-encoding")) pairs ≡ false
    → weigh m t minor pairs ≡ weigh_length m t minor pairs (first_length pairs)
weigh_on m t minor pairs h e = let g = not-true (hosts_bad minor pairs) (sym h) in rw (g, e) refl
