-- Lemmas on the words of the rules.
use Rattle.std.proofs.Common.{◌≡◌, ◌≢◌, ℕ, zero, suc, ◌<◌, ◌≤◌, Bool, true, false, not, cond, ◌||◌, List, [], ◌∷◌, ◌++◌}
use Rattle.std.proofs.Common.{length, Some, None, refl, sym, ap, ◌∙◌, subst, inl, inr, arith}
use Rattle.std.proofs.Math.Bool.{or-false}
use Rattle.office_core.proofs.Common.{AllByRecursion, IsAscending, cases_eq, eq-eqb, eqb-true, false≢true, is_some}
use Rattle.office_core.proofs.Common.{nat_eq, ne_eqb, nth, or_right, stands, update_at, without}

pub same_number : (n : ℕ) → nat_eq n n ≡ true
same_number n = eq-eqb n n refl

pub other_number : (n m : ℕ) → n ≢ m → nat_eq n m ≡ false
other_number n m h = ne_eqb n m h

pub put_here : {X : Type 0} (f : ℕ → X) (n : ℕ) (x : X) → update_at f n x n ≡ x
put_here f n x = ap (λ b. cond b x (f n)) (same_number n)

pub put_there : {X : Type 0} (f : ℕ → X) (n : ℕ) (x : X) (m : ℕ) → m ≢ n → update_at f n x m ≡ f m
put_there f n x m h = ap (λ b. cond b x (f m)) (other_number n m (λ e. h (sym e)))

-- what holds at n with the new value and elsewhere with the old one
pub put_each : {X : Type 0} (P : ℕ → X → Type 0) (f : ℕ → X) (n : ℕ) (x : X) → P n x → ((m : ℕ) → m ≢ n → P m (f m))
    → (m : ℕ) → P m (update_at f n x m)
put_each P f n x here there m =
    elim (cases_eq m n) [
      | inl e ↦ subst (λ k. P k (update_at f n x k)) (sym e) (subst (P n) (sym (put_here f n x)) here)
      | inr h ↦ subst (P m) (sym (put_there f n x m h)) (there m h)
    ]

pub or_assoc : (a b c : Bool) → ((a || b) || c) ≡ (a || (b || c))
or_assoc true b c = refl
or_assoc false b c = refl

pub stands-push : (o n : ℕ) (ns : List ℕ) → stands o (ns ++ n ∷ []) ≡ (stands o ns || nat_eq o n)
stands-push o n [] = or-false (nat_eq o n)
stands-push o n (m ∷ ms) = ap (λ b. nat_eq o m || b) (stands-push o n ms) ∙ sym (or_assoc (nat_eq o m) (stands o ms) (nat_eq o n))

kept_or_not : (o n m : ℕ) (rest : List ℕ) (b : Bool) → nat_eq n m ≡ b → o ≢ n
    → stands o rest ≡ stands o (without n rest)
    → (nat_eq o m || stands o rest) ≡ stands o (cond (not b) (m ∷ without n rest) (without n rest))
kept_or_not o n m rest true e h ih = ap (λ b. b || stands o rest) (other_number o m (λ k. h (k ∙ sym (eqb-true n m e)))) ∙ ih
kept_or_not o n m rest false e h ih = ap (λ b. nat_eq o m || b) ih

pub stands-without_other : (o n : ℕ) (ns : List ℕ) → o ≢ n → stands o (without n ns) ≡ stands o ns
stands-without_other o n [] h = refl
stands-without_other o n (m ∷ ms) h =
    sym (kept_or_not o n m ms (nat_eq n m) refl h (sym (stands-without_other o n ms h)))

gone_or_not : (n m : ℕ) (rest : List ℕ) (b : Bool) → nat_eq n m ≡ b → stands n rest ≡ false
    → stands n (cond (not b) (m ∷ rest) rest) ≡ false
gone_or_not n m rest true e ih = ih
gone_or_not n m rest false e ih = ap (λ b. b || stands n rest) e ∙ ih

pub stands-without_same : (n : ℕ) (ns : List ℕ) → stands n (without n ns) ≡ false
stands-without_same n [] = refl
stands-without_same n (m ∷ ms) = gone_or_not n m (without n ms) (nat_eq n m) refl (stands-without_same n ms)

-- numbers in ascending order

pub below_none : (n : ℕ) (ms : List ℕ) → AllByRecursion (λ m. n < m) ms → stands n ms ≡ false
below_none n [] h = refl
below_none n (m ∷ ms) h = ap (λ b. b || stands n ms) (other_number n m (λ e. omega (arith, h.0, e))) ∙ below_none n ms h.1

all_without_at : (P : ℕ → Type 0) (n m : ℕ) (ms : List ℕ) (b : Bool) → P m → AllByRecursion P ms
    → AllByRecursion P (cond b (m ∷ ms) ms)
all_without_at P n m ms true p h = (p, h)
all_without_at P n m ms false p h = h

pub all_without : (P : ℕ → Type 0) (n : ℕ) (ms : List ℕ) → AllByRecursion P ms → AllByRecursion P (without n ms)
all_without P n [] h = tt
all_without P n (m ∷ ms) h = all_without_at P n m (without n ms) (not (nat_eq n m)) h.0 (all_without P n ms h.1)

pub ascending_at : (m : ℕ) (ms : List ℕ) (b : Bool) → AllByRecursion (λ k. m < k) ms → IsAscending ms
    → IsAscending (cond b (m ∷ ms) ms)
ascending_at m ms true h a = (h, a)
ascending_at m ms false h a = a

pub ascending-without : (n : ℕ) (ms : List ℕ) → IsAscending ms → IsAscending (without n ms)
ascending-without n [] h = tt
ascending-without n (m ∷ ms) h =
    ascending_at m (without n ms) (not (nat_eq n m)) (all_without (λ k. m < k) n ms h.0) (ascending-without n ms h.1)

pub all-push : (P : ℕ → Type 0) (ms : List ℕ) (n : ℕ) → AllByRecursion P ms → P n → AllByRecursion P (ms ++ n ∷ [])
all-push P [] n h p = (p, tt)
all-push P (m ∷ ms) n h p = (h.0, all-push P ms n h.1 p)

pub ascending-push : (ms : List ℕ) (n : ℕ) → IsAscending ms → AllByRecursion (λ m. m < n) ms
    → IsAscending (ms ++ n ∷ [])
ascending-push [] n a h = (tt, tt)
ascending-push (m ∷ ms) n a h = (all-push (λ k. m < k) ms n a.0 h.0, ascending-push ms n a.1 h.1)

-- each number of a list has what each number that stands in it has
pub all_from_stands : (P : ℕ → Type 0) (ms : List ℕ) → ((m : ℕ) → stands m ms ≡ true → P m) → AllByRecursion P ms
all_from_stands P [] h = tt
all_from_stands P (m ∷ ms) h = (h m (ap (λ b. b || stands m ms) (same_number m)), all_from_stands P ms (λ k e. h k (or_right (nat_eq k m) (stands k ms) e)))

-- the n-th

pub numbered_within : {X : Type 0} (xs : List X) (n : ℕ) → is_some (nth xs n) ≡ true → n ≤ length xs
numbered_within xs zero h = omega arith
numbered_within [] (suc n) h = absurd (false≢true h)
numbered_within (x ∷ xs) (suc zero) h = omega arith
numbered_within (x ∷ xs) (suc (suc n)) h = let e = numbered_within xs (suc n) h in omega (arith, e)

pub numbered-push : {X : Type 0} (xs : List X) (x : X) (n : ℕ) → n ≢ suc (length xs) → nth (xs ++ x ∷ []) n ≡ nth xs n
numbered-push xs x zero h = refl
numbered-push [] x (suc zero) h = absurd (h refl)
numbered-push [] x (suc (suc n)) h = refl
numbered-push (y ∷ ys) x (suc zero) h = refl
numbered-push (y ∷ ys) x (suc (suc n)) h = numbered-push ys x (suc n) (λ e. h (ap suc e))

pub numbered-push_last : {X : Type 0} (xs : List X) (x : X) → nth (xs ++ x ∷ []) (suc (length xs)) ≡ Some x
numbered-push_last [] x = refl
numbered-push_last (y ∷ ys) x = numbered-push_last ys x

pub numbered_past : {X : Type 0} (xs : List X) (n : ℕ) → length xs < n → nth xs n ≡ None
numbered_past xs zero h = refl
numbered_past [] (suc n) h = refl
numbered_past (x ∷ xs) (suc zero) h = absurd (omega arith)
numbered_past (x ∷ xs) (suc (suc n)) h = let e : length xs < suc n = omega arith in numbered_past xs (suc n) e
