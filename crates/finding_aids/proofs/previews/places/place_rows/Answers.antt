use Rattle.std.proofs.Common.{◌≡◌, ◌<◌, ◌∷◌, List, ℕ, None, Some, length, take, drop, arith, sym, subst, ◌∙◌, ◌+◌}
use Rattle.finding_aids.proofs.Common.{Row, faults, get_by_text, length-take-le, place_below}
use Rattle.finding_aids.proofs.PlaceLemmas.{fault_deep, fault_missing, placing_more, rows_around, rows_to}
use Rattle.finding_aids.proofs.previews.places.place_rows.Goals as goal

pub returns-in_default-clause-bad : goal.returns-in_default-clause-bad
returns-in_default-clause-bad c =
    let rows = c.args.rows.now in
    let i = c.loop-index.index in
    let x = c.index-rows-index.result in
    let within : i < length rows = omega arith in
    let around = rows_around rows i x within c.index-rows-index.is in
    let found : place_below (get_by_text c.loop-index.known) c.loop-index.places.items x.parent ≡ None =
    rw (← c.as_slice.ensures.value, ← c.as_ref.ensures.value) (sym c.place_of.ensures ∙ c.in_default.is) in
    rw c.bad.ensures (subst (λ (r : List Row). (later : List (ℕ × ℕ)) × (faults r ≡ (x.row, 11) ∷ later)) (sym around)
    (fault_missing (take i rows) x (drop (i + 1) rows) (get_by_text c.loop-index.known) c.loop-index.places.items c.loop-index.invariant found))

pub returns-then-place-gt-MAX_DEPTH-clause-bad : goal.returns-then-place-gt-MAX_DEPTH-clause-bad
returns-then-place-gt-MAX_DEPTH-clause-bad c =
    let rows = c.args.rows.now in
    let i = c.loop-index.index in
    let x = c.index-rows-index.result in
    let within : i < length rows = omega arith in
    let around = rows_around rows i x within c.index-rows-index.is in
    let found : place_below (get_by_text c.loop-index.known) c.loop-index.places.items x.parent ≡ Some c.in-Some.place =
    rw (← c.as_slice.ensures.value, ← c.as_ref.ensures.value) (sym c.place_of.ensures ∙ c.in-Some.is) in
    rw c.bad-then-place-gt-MAX_DEPTH.ensures (subst (λ (r : List Row). (later : List (ℕ × ℕ)) × (faults r ≡ (x.row, 12) ∷ later)) (sym around)
    (fault_deep (take i rows) x (drop (i + 1) rows) (get_by_text c.loop-index.known) c.loop-index.places.items c.in-Some.place c.loop-index.invariant found c.if-place-gt-MAX_DEPTH.true))

pub loop-index-preserved : goal.loop-index-preserved
loop-index-preserved c =
    let rows = c.args.rows.now in
    let i = c.loop-index.index in
    let x = c.index-rows-index.result in
    let within : i < length rows = omega arith in
    let found : place_below (get_by_text c.loop-index.known) c.loop-index.places.items x.parent ≡ Some c.in-Some.place =
    rw (← c.as_slice.ensures.value, ← c.as_ref.ensures.value) (sym c.place_of.ensures ∙ c.in-Some.is) in
    let count : length (take i rows) ≡ i = length-take-le i rows (omega arith) in
    rw (rows_to rows i x within c.index-rows-index.is, c.in_ok-push.ensures.items)
    (placing_more (take i rows) x (get_by_text c.loop-index.known) (get_by_text c.remember.new.kept) c.loop-index.places.items c.in-Some.place
    c.loop-index.invariant found c.if-place-gt-MAX_DEPTH.false (rw count c.in_ok-remember.ensures))
