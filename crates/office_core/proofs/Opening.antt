-- A permit closes nothing: the one fact on the catalogue that the desk needs.
use Rattle.std.proofs.Common.{◌≡◌, ℕ, Bool, true, false, not, cond, ◌&&◌, ◌||◌, List, [], ◌∷◌, refl, subst, arith}
use Rattle.std.specs.Prelude.{ℤ, nat_lt, int_lt}
use Rattle.catalogue_core.specs.ContainerContents.{is_open}
use Rattle.office_core.proofs.Common.{BoxKey, Forest, Permit, Unit, and_parts, contents, eqb-true, false≢true, granted}
use Rattle.office_core.proofs.Common.{int_le, ints, is_permitted, is_some_there, is_unit_closed, is_withheld_from}
use Rattle.office_core.proofs.Common.{list_all, list_any, nat_eq, or_right}

any_weaker : {X : Type 0} (p q : X → Bool) → ((x : X) → p x ≡ true → q x ≡ true) → (xs : List X) → list_any p xs ≡ true
    → list_any q xs ≡ true
any_weaker p q f [] h = h
any_weaker p q f (x ∷ xs) h = at (p x) (q x) (f x) (any_weaker p q f xs) h
  where
    at : (a b : Bool) → (a ≡ true → b ≡ true) → (list_any p xs ≡ true → list_any q xs ≡ true)
        → (a || list_any p xs) ≡ true → (b || list_any q xs) ≡ true
    at a true g r k = refl
    at true false g r k = absurd (false≢true (g refl))
    at false false g r k = r k

all_weaker : {X : Type 0} (p q : X → Bool) → ((x : X) → p x ≡ true → q x ≡ true) → (xs : List X) → list_all p xs ≡ true
    → list_all q xs ≡ true
all_weaker p q f [] h = h
all_weaker p q f (x ∷ xs) h =
    let k = and_parts (p x) (list_all p xs) h in
    both (q x) (list_all q xs) (f x k.0) (all_weaker p q f xs k.1)
  where
    both : (a b : Bool) → a ≡ true → b ≡ true → (a && b) ≡ true
    both true b g r = r
    both false b g r = absurd (false≢true g)

seen_at : (draft closed a b : Bool) → (a ≡ true → b ≡ true) → not (draft || (closed && not a)) ≡ true
    → not (draft || (closed && not b)) ≡ true
seen_at true closed a b f h = h
seen_at false false a b f h = refl
seen_at false true true true f h = refl
seen_at false true true false f h = absurd (false≢true (f refl))
seen_at false true false b f h = absurd (false≢true h)

opens_at : (some a b : Bool) → (a ≡ true → b ≡ true) → (some && a) ≡ true → (some && b) ≡ true
opens_at true a b f h = f h
opens_at false a b f h = h

pub open_more : (f : Forest Unit) (box : BoxKey) (day : ℤ) (old new : ℕ → Bool)
    → ((u : ℕ) → old u ≡ true → new u ≡ true) → is_open f box old day ≡ true → is_open f box new day ≡ true
unfolding is_open
open_more f box day old new more h =
    opens_at (is_some_there (contents f box)) (list_all (λ path. not (is_withheld_from old day path)) (contents f box)) (list_all (λ path. not (is_withheld_from new day path)) (contents f box))
    (all_weaker (λ path. not (is_withheld_from old day path)) (λ path. not (is_withheld_from new day path))
    (λ path. seen_at (list_any (λ (unit : Unit). unit.draft) path) (list_any (is_unit_closed day) path) (list_any (λ (unit : Unit). old unit.id) path) (list_any (λ (unit : Unit). new unit.id) path) (any_weaker (λ (unit : Unit). old unit.id) (λ (unit : Unit). new unit.id) (λ unit. more unit.id) path))
    (contents f box)) h

-- a permit that is granted

or_both : (a b c d : Bool) → (a ≡ true → c ≡ true) → (b ≡ true → d ≡ true) → (a || b) ≡ true → (c || d) ≡ true
or_both a b true d f g h = refl
or_both true b false d f g h = absurd (false≢true (f refl))
or_both false b false d f g h = g h

and_second : (a b c : Bool) → (b ≡ true → c ≡ true) → (a && b) ≡ true → (a && c) ≡ true
and_second true b c f h = f h
and_second false b c f h = h

before_later : (a b c : ℤ) → int_lt b c ≡ true → int_le a b ≡ true → int_le a c ≡ true
before_later a b c h k = grind (arith, ints)

later_day : (today u v : ℤ) (b : Bool) → int_lt u v ≡ b → int_le today u ≡ true → int_le today (cond b v u) ≡ true
later_day today u v true e h = before_later today u v e h
later_day today u v false e h = h

granted_at : (today : ℤ) (u : ℕ) (until : ℤ) (p : Permit) (ps : List Permit) (v : ℕ) (same before : Bool)
    → nat_eq p.unit u ≡ same → (is_permitted today ps v ≡ true → is_permitted today (granted u until ps) v ≡ true)
    → is_permitted today (p ∷ ps) v ≡ true
    → is_permitted today (cond same (record { unit = u; until = cond (int_lt p.until until) until p.until } ∷ ps) (cond before (record { unit = u; until = until } ∷ (p ∷ ps)) (p ∷ granted u until ps))) v ≡ true
granted_at today u until p ps v true before e ih h =
    or_both (nat_eq p.unit v && int_le today p.until) (is_permitted today ps v) (nat_eq u v && int_le today (cond (int_lt p.until until) until p.until)) (is_permitted today ps v)
    (λ k. subst (λ w. (nat_eq w v && int_le today (cond (int_lt p.until until) until p.until)) ≡ true) (eqb-true p.unit u e) (and_second (nat_eq p.unit v) (int_le today p.until) (int_le today (cond (int_lt p.until until) until p.until)) (later_day today p.until until (int_lt p.until until) refl) k))
    (λ k. k) h
granted_at today u until p ps v false true e ih h =
    or_right (nat_eq u v && int_le today until) (is_permitted today (p ∷ ps) v) h
granted_at today u until p ps v false false e ih h =
    or_both (nat_eq p.unit v && int_le today p.until) (is_permitted today ps v) (nat_eq p.unit v && int_le today p.until) (is_permitted today (granted u until ps) v) (λ k. k) ih h

granted_more : (today : ℤ) (u : ℕ) (until : ℤ) (ps : List Permit) → (v : ℕ) → is_permitted today ps v ≡ true
    → is_permitted today (granted u until ps) v ≡ true
granted_more today u until [] v h = absurd (false≢true h)
granted_more today u until (p ∷ ps) v h =
    granted_at today u until p ps v (nat_eq p.unit u) (nat_lt u p.unit) refl (granted_more today u until ps v) h

pub granted_opens : (f : Forest Unit) (box : BoxKey) (today : ℤ) (u : ℕ) (until : ℤ) (ps : List Permit)
    → is_open f box (is_permitted today ps) today ≡ true
    → is_open f box (is_permitted today (granted u until ps)) today ≡ true
granted_opens f box today u until ps h =
    open_more f box today (is_permitted today ps) (is_permitted today (granted u until ps)) (granted_more today u until ps) h
