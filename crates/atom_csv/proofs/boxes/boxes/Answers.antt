use Rattle.std.proofs.Common.{◌≡◌, ◌∙◌, ap, ap₂, arith, take, filter, List, length, ℕ, Bor}
use Rattle.atom_csv.proofs.Common.{BoxKey, Bytes, borrowed_fields, distinct, entries, entry_at, is_named_box}
use Rattle.atom_csv.proofs.Common.{is_same_box, list_any, take-length, triples}
use Rattle.atom_csv.proofs.BoxLemmas.{Told, holds_more, key_of, length-triples}
use Rattle.atom_csv.proofs.boxes.boxes.Goals as goal

pub loop-i-init : goal.loop-i-init
loop-i-init c = record {
  kept = c.new-2.ensures;
  stood = λ q. ap (λ (ks : List Told). list_any (λ k. is_same_box q (key_of k)) ks) c.new.ensures.empty;
}

pub loop-i-preserved : goal.loop-i-preserved
loop-i-preserved c =
    let place : c.entry_at-location.result.now ≡ entry_at (borrowed_fields c.in_ok-locations.locations.items) c.loop-i.i =
    c.entry_at-location.ensures ∙ ap (λ (xs : List (Bor Bytes)). entry_at (borrowed_fields xs) c.loop-i.i) c.as_slice.ensures.value in
    let sort : c.entry_at.result.now ≡ entry_at (borrowed_fields c.in_ok-kinds.kinds.items) c.loop-i.i =
    c.entry_at.ensures ∙ ap (λ (xs : List (Bor Bytes)). entry_at (borrowed_fields xs) c.loop-i.i) c.as_slice-in-loop-i.ensures.value in
    holds_more c.as_slice-name-items.result.now (borrowed_fields c.in_ok-locations.locations.items) (borrowed_fields c.in_ok-kinds.kinds.items) c.loop-i.i _ c.add.new.self.known c.add.new.self.boxes
    c.entry_at-location.result.now c.entry_at.result.now c.loop-i-test.true place sort (c.in_ok-add.ensures _ c.loop-i.invariant)

pub returns : goal.returns
returns c =
    let names = c.as_slice-name-items.result.now in
    let locations = borrowed_fields c.in_ok-locations.locations.items in
    let kinds = borrowed_fields c.in_ok-kinds.kinds.items in
    let full : c.loop-i.i ≡ length (triples (borrowed_fields names) locations kinds) = omega (arith, length-triples names locations kinds) in
    let named = ap borrowed_fields c.as_slice-name-items.ensures.value ∙ c.in_ok-names.ensures in
    c.loop-i.invariant.kept
    ∙ (ap (λ (n : ℕ). distinct (filter is_named_box (take n (triples (borrowed_fields names) locations kinds)))) full
    ∙ (ap (λ (bs : List BoxKey). distinct (filter is_named_box bs)) (take-length (triples (borrowed_fields names) locations kinds))
    ∙ (ap (λ (ns : List Bytes). distinct (filter is_named_box (triples ns locations kinds))) named
    ∙ ap₂ (λ (ls ks : List Bytes). distinct (filter is_named_box (triples (entries c.args.names.now) ls ks))) c.in_ok-locations.ensures c.in_ok-kinds.ensures)))
