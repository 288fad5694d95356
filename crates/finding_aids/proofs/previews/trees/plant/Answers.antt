use Rattle.std.proofs.Common.{◌≡◌, ℕ, suc, ◌+◌, length, get_or, List, None, refl, subst, ◌∙◌, arith}
use Rattle.finding_aids.proofs.Common.{HasGrown, Slot, nil_from_length, the_lemmas}
use Rattle.finding_aids.proofs.PlantLemmas.{grown_all, grown_draft, grown_none, grove-reverse, grown_published}
use Rattle.finding_aids.proofs.PlantLemmas.{height_of_all-reverse, last_slot, parent_below}
use Rattle.finding_aids.proofs.previews.trees.plant.Goals as goal

pub loop-slot-init : goal.loop-slot-init
loop-slot-init c =
    rw c.new-tops.ensures.items (grown_none c.args.rows.now c.in_ok-slots.slots.items c.args.places.now c.requires.placed c.requires.shallow c.in_ok-slots.ensures.places c.in_ok-slots.ensures.bare)

pub put-requires : goal.put-requires
put-requires c =
    let rows = c.args.rows.now in
    let x = c.index-rows-index.result in
    let at : c.len-index.result ≡ length c.pop.new.self.items = omega (arith, c.len-index.ensures) in
    let is : x ≡ get_or rows (length c.pop.new.self.items) x = subst (λ (n : ℕ). x ≡ get_or rows n x) at c.index-rows-index.is in
    let before = subst (λ (s : List Slot). HasGrown rows s c.loop-slot.tops.items) c.in-Some.ensures.items c.loop-slot.invariant in
    let last = last_slot rows c.pop.new.self.items c.in-Some.slot c.loop-slot.tops.items x before is in
    parent_below rows c.pop.new.self.items c.in-Some.slot c.loop-slot.tops.items x last

pub loop-slot-preserved : goal.loop-slot-preserved
loop-slot-preserved c =
    let rows = c.args.rows.now in
    let x = c.index-rows-index.result in
    let at : c.len-index.result ≡ length c.pop.new.self.items = omega (arith, c.len-index.ensures) in
    let is : x ≡ get_or rows (length c.pop.new.self.items) x = subst (λ (n : ℕ). x ≡ get_or rows n x) at c.index-rows-index.is in
    let before = subst (λ (s : List Slot). HasGrown rows s c.loop-slot.tops.items) c.in-Some.ensures.items c.loop-slot.invariant in
    let last = last_slot rows c.pop.new.self.items c.in-Some.slot c.loop-slot.tops.items x before is in
    grown_draft rows c.pop.new.self.items c.in-Some.slot c.loop-slot.tops.items x last is c.if-row.false

pub loop-slot-preserved-in-Continue-branch-2 : goal.loop-slot-preserved-in-Continue-branch-2
loop-slot-preserved-in-Continue-branch-2 c =
    let rows = c.args.rows.now in
    let x = c.index-rows-index.result in
    let at : c.len-index.result ≡ length c.pop.new.self.items = omega (arith, c.len-index.ensures) in
    let is : x ≡ get_or rows (length c.pop.new.self.items) x = subst (λ (n : ℕ). x ≡ get_or rows n x) at c.index-rows-index.is in
    let before = subst (λ (s : List Slot). HasGrown rows s c.loop-slot.tops.items) c.in-Some.ensures.items c.loop-slot.invariant in
    let last = last_slot rows c.pop.new.self.items c.in-Some.slot c.loop-slot.tops.items x before is in
    let id : c.len-index.result + 1 ≡ suc (length c.pop.new.self.items) = omega arith in
    grown_published rows c.pop.new.self.items c.put.new.slots.items c.in-Some.slot c.loop-slot.tops.items c.put.new.tops.items x _ last is c.if-row.true
    (simp the_lemmas id) (simp the_lemmas refl) (simp the_lemmas c.reverse.ensures.items) c.in_ok-put.ensures.places c.in_ok-put.ensures.ok

pub returns-clause-grove : goal.returns-clause-grove
returns-clause-grove c =
    let none : length c.loop-slot.slots.items ≡ 0 = omega (arith, c.in_default.ensures.cases) in
    let gone = nil_from_length c.loop-slot.slots.items none in
    rw c.reverse-2.ensures.items (grove-reverse c.loop-slot.tops.items ∙ grown_all c.args.rows.now c.loop-slot.tops.items
    (subst (λ (s : List Slot). HasGrown c.args.rows.now s c.loop-slot.tops.items) gone c.loop-slot.invariant))

pub returns-clause-low : goal.returns-clause-low
returns-clause-low c =
    let low = c.loop-slot.invariant.low None tt in
    rw (c.reverse-2.ensures.items, height_of_all-reverse c.loop-slot.tops.items) (omega arith)
