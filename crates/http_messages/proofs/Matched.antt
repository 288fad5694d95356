-- Which of a router's rows a path finds, where a parameter stands at the end of a row alone and no two rows take one
-- path.
use Rattle.std.proofs.Common.{◌≡◌, ◌<◌, ◌≤◌, ◌-◌, ◌==◌, ℕ, zero, suc, List, [], ◌∷◌, length, drop, get_or, Option, Some}
use Rattle.std.proofs.Common.{None, Bool, true, false, cond, refl, ap, ◌∙◌, subst, arith, drop_of_length-le}
use Rattle.matchit.specs.Order.{placed}
use Rattle.matchit.specs.Rows.{RowsOf, comes_before}
use Rattle.matchit.specs.Seek.{own, step, or_else, seek, first, param_step, has_slash, segment, longest_from}
use Rattle.http_messages.proofs.Common.{ltb, nat_tests, not, ◌&&◌, ◌||◌}
use Rattle.http_messages.proofs.Bodies.{never_true}

-- ---- the words

abbrev is_nil : List ℕ → Bool
is_nil [] = true
is_nil (x ∷ t) = false

-- bytes, and at their end a parameter or nothing
abbrev pub is_shaped : List ℕ → Bool
is_shaped [] = true
is_shaped (x ∷ t) = cond (x == 256) (is_nil t) (ltb x 256 && is_shaped t)

-- the row takes the path
abbrev pub hits : List ℕ → List ℕ → Bool
hits [] [] = true
hits [] (b ∷ p) = false
hits (x ∷ t) [] = false
hits (x ∷ t) (b ∷ p) = cond (x == 256) (not (has_slash (b ∷ p))) (x == b && hits t p)

-- no path is taken by both
abbrev pub are_apart : List ℕ → List ℕ → Bool
are_apart [] [] = false
are_apart [] (y ∷ u) = true
are_apart (x ∷ t) [] = true
are_apart (x ∷ t) (y ∷ u) = cond (x == 256 || y == 256) false (not (x == y) || are_apart t u)

module _ {K : Type 0} where
  abbrev pub all_shaped : RowsOf K → Bool
  all_shaped [] = true
  all_shaped ((t, key) ∷ rs) = is_shaped t && all_shaped rs

  abbrev pub all_apart_from : List ℕ → RowsOf K → Bool
  all_apart_from t [] = true
  all_apart_from t ((u, key) ∷ rs) = are_apart t u && all_apart_from t rs

  abbrev pub all_apart : RowsOf K → Bool
  all_apart [] = true
  all_apart ((t, key) ∷ rs) = all_apart_from t rs && all_apart rs

  -- the key of the first row that takes the path
  abbrev pub picked : RowsOf K → List ℕ → Option K
  picked [] p = None
  picked ((t, key) ∷ rs) p = or_else (cond (hits t p) (Some key) None) (picked rs p)

  -- the rows in the order of a router
  abbrev pub settled : RowsOf K → RowsOf K
  settled [] = []
  settled (r ∷ rs) = placed r (settled rs)

-- each number is a byte
abbrev pub AllBytes : List ℕ → Type 0
AllBytes p = (k : ℕ) → get_or p k 0 < 256

-- ---- tests

pub both_left : (a b : Bool) → (a && b) ≡ true → a ≡ true
both_left true b e = refl
both_left false b e = e

pub both_right : (a b : Bool) → (a && b) ≡ true → b ≡ true
both_right true b e = e
both_right false b e = absurd (never_true e)

is_nil_nil : (t : List ℕ) → is_nil t ≡ true → t ≡ []
is_nil_nil [] e = refl
is_nil_nil (x ∷ t) e = absurd (never_true e)

pub or_else_nothing : {K : Type 0} (a : Option K) → or_else a None ≡ a
or_else_nothing None = refl
or_else_nothing (Some k) = refl

pub or_else_grouped : {K : Type 0} (a b c : Option K) → or_else (or_else a b) c ≡ or_else a (or_else b c)
or_else_grouped None b c = refl
or_else_grouped (Some k) b c = refl

-- ---- rows that go on with one token

step_shaped : {K : Type 0} (b : ℕ) (rs : RowsOf K) → b < 256 → all_shaped rs ≡ true → all_shaped (step b rs) ≡ true
step_shaped b [] h s = refl
step_shaped b (([], key) ∷ rs) h s = step_shaped b rs h s
step_shaped {K} b ((x ∷ t, key) ∷ rs) h s =
    by (step_shaped b rs h (both_right (is_shaped (x ∷ t)) (all_shaped rs) s)) (x == b) refl
  where
    by : all_shaped (step b rs) ≡ true → (v : Bool) → (x == b) ≡ v → all_shaped (step b ((x ∷ t, key) ∷ rs)) ≡ true
    by more false e = rw e more
    by more true e =
        let n : (x == 256) ≡ false = grind (arith, nat_tests) in
        let one = both_left (is_shaped (x ∷ t)) (all_shaped rs) s in
        let tail : is_shaped t ≡ true = both_right (ltb x 256) (is_shaped t) (rw n at one) in
        rw (e, tail) more

step_apart_from : {K : Type 0} (b : ℕ) (t : List ℕ) (rs : RowsOf K) → b < 256 → all_apart_from (b ∷ t) rs ≡ true
    → all_apart_from t (step b rs) ≡ true
step_apart_from b t [] h s = refl
step_apart_from b t (([], key) ∷ rs) h s = step_apart_from b t rs h s
step_apart_from {K} b t ((y ∷ u, key) ∷ rs) h s =
    by (step_apart_from b t rs h (both_right (are_apart (b ∷ t) (y ∷ u)) (all_apart_from (b ∷ t) rs) s)) (y == b) refl
  where
    by : all_apart_from t (step b rs) ≡ true → (v : Bool) → (y == b) ≡ v
        → all_apart_from t (step b ((y ∷ u, key) ∷ rs)) ≡ true
    by more false e = rw e more
    by more true e =
        let n : (b == 256) ≡ false = grind (arith, nat_tests) in
        let m : (y == 256) ≡ false = grind (arith, nat_tests) in
        let i : (b == y) ≡ true = grind (arith, nat_tests) in
        let one = both_left (are_apart (b ∷ t) (y ∷ u)) (all_apart_from (b ∷ t) rs) s in
        let tail : are_apart t u ≡ true = rw (n, m, i) at one in
        rw (e, tail) more

step_apart : {K : Type 0} (b : ℕ) (rs : RowsOf K) → b < 256 → all_apart rs ≡ true → all_apart (step b rs) ≡ true
step_apart b [] h s = refl
step_apart b (([], key) ∷ rs) h s = step_apart b rs h (both_right (all_apart_from [] rs) (all_apart rs) s)
step_apart {K} b ((x ∷ t, key) ∷ rs) h s =
    by (step_apart b rs h (both_right (all_apart_from (x ∷ t) rs) (all_apart rs) s)) (x == b) refl
  where
    by : all_apart (step b rs) ≡ true → (v : Bool) → (x == b) ≡ v → all_apart (step b ((x ∷ t, key) ∷ rs)) ≡ true
    by more false e = rw e more
    by more true e =
        let same : x ≡ b = grind (arith, nat_tests) in
        let from : all_apart_from (b ∷ t) rs ≡ true =
        subst (λ y. all_apart_from (y ∷ t) rs ≡ true) same (both_left (all_apart_from (x ∷ t) rs) (all_apart rs) s) in
        rw (e, step_apart_from b t rs h from) more

-- beside a parameter nothing goes on with a byte
alone : {K : Type 0} (b x : ℕ) (t : List ℕ) (rs : RowsOf K) → (x == 256) ≡ true → all_apart_from (x ∷ t) rs ≡ true
    → step b rs ≡ []
alone b x t [] e s = refl
alone b x t (([], key) ∷ rs) e s = alone b x t rs e s
alone b x t ((y ∷ u, key) ∷ rs) e s =
    absurd (never_true (rw e at (both_left (are_apart (x ∷ t) (y ∷ u)) (all_apart_from (x ∷ t) rs) s)))

no_catch : {K : Type 0} (rs : RowsOf K) → all_shaped rs ≡ true → step 257 rs ≡ []
no_catch [] s = refl
no_catch (([], key) ∷ rs) s = no_catch rs s
no_catch {K} ((x ∷ t, key) ∷ rs) s = by (no_catch rs (both_right (is_shaped (x ∷ t)) (all_shaped rs) s)) (x == 257) refl
  where
    one : is_shaped (x ∷ t) ≡ true
    one = both_left (is_shaped (x ∷ t)) (all_shaped rs) s

    by : step 257 rs ≡ [] → (v : Bool) → (x == 257) ≡ v → step 257 ((x ∷ t, key) ∷ rs) ≡ []
    by more false e = rw e more
    by more true e =
        let n : (x == 256) ≡ false = grind (arith, nat_tests) in
        let m : ltb x 256 ≡ false = grind (arith, nat_tests) in
        absurd (never_true (rw (n, m) at one))

-- ---- what a parameter takes

param_step_nothing : {K : Type 0} (p : List ℕ) → (param_step {K = K} [] p).1 ≡ []
unfolding param_step
param_step_nothing {K} p =
    elim (has_slash p) as (λ v. (cond {A = ℕ × RowsOf K} v (0, []) (length p, [])).1 ≡ []) [
      | true ↦ refl
      | false ↦ refl
    ]

seek_nothing : {K : Type 0} (k : ℕ) (p : List ℕ) → seek {K = K} k [] p ≡ None
unfolding seek
seek_nothing k [] = refl
seek_nothing (suc k) (b ∷ p) = seek_nothing k p
seek_nothing {K} zero (b ∷ p) =
    simp (seek_nothing {K = K} 0 p, param_step_nothing {K = K} (b ∷ p), seek_nothing {K = K} (((param_step {K = K} [] (b ∷ p)).0) - 1) p)

seek_on : {K : Type 0} (k : ℕ) (rs : RowsOf K) (p : List ℕ) → seek k rs p ≡ seek 0 rs (drop k p)
unfolding seek
seek_on zero rs p = refl
seek_on (suc k) rs [] = refl
seek_on (suc k) rs (b ∷ p) = seek_on k rs p

-- nothing follows a parameter
longest_nothing : {K : Type 0} (seg : List ℕ) (rs : RowsOf K) → all_shaped rs ≡ true
    → longest_from seg [] (step 256 rs) ≡ []
longest_nothing seg [] s = refl
longest_nothing seg (([], key) ∷ rs) s = longest_nothing seg rs s
longest_nothing {K} seg ((x ∷ t, key) ∷ rs) s =
    by (longest_nothing seg rs (both_right (is_shaped (x ∷ t)) (all_shaped rs) s)) (x == 256) refl
  where
    by : longest_from seg [] (step 256 rs) ≡ [] → (v : Bool) → (x == 256) ≡ v
        → longest_from seg [] (step 256 ((x ∷ t, key) ∷ rs)) ≡ []
    by more false e = rw e more
    by more true e =
        let one = both_left (is_shaped (x ∷ t)) (all_shaped rs) s in
        let none : t ≡ [] = is_nil_nil t (rw e at one) in
        rw (e, none) more

param_takes : {K : Type 0} (b : ℕ) (p : List ℕ) (rs : RowsOf K) → all_shaped rs ≡ true
    → seek ((param_step (step 256 rs) (b ∷ p)).0 - 1) (param_step (step 256 rs) (b ∷ p)).1 p
    ≡ cond (has_slash (b ∷ p)) None (own (step 256 rs))
unfolding param_step seek
param_takes {K} b p rs s = rw (longest_nothing (segment (b ∷ p)) rs s) (by (has_slash (b ∷ p)))
  where
    rest : RowsOf K
    rest = step 256 rs

    past : length p ≤ suc (length p) - 1
    past = omega arith

    by : (v : Bool)
        → seek ((cond {A = ℕ × RowsOf K} v (0, []) (suc (length p), step 256 rs)).0 - 1) (cond {A = ℕ × RowsOf K} v (0, []) (suc (length p), step 256 rs)).1 p
        ≡ cond v None (own (step 256 rs))
    by true = seek_nothing {K = K} 0 p
    by false = seek_on (suc (length p) - 1) (step 256 rs) p ∙ ap (seek 0 (step 256 rs)) (drop_of_length-le p past)

-- ---- the first row that takes the path

own_picked : {K : Type 0} (rs : RowsOf K) → own rs ≡ picked rs []
own_picked [] = refl
own_picked (([], key) ∷ rs) = refl
own_picked ((x ∷ t, key) ∷ rs) = own_picked rs

-- rows that go on with the byte come before a parameter
step_picked : {K : Type 0} (b : ℕ) (p : List ℕ) (rs : RowsOf K) → b < 256 → all_shaped rs ≡ true → all_apart rs ≡ true
    → or_else (picked (step b rs) p) (cond (has_slash (b ∷ p)) None (own (step 256 rs))) ≡ picked rs (b ∷ p)
step_picked {K} b p [] h s a = elim (has_slash (b ∷ p)) as (λ v. cond {A = Option K} v None None ≡ None) [ true ↦ refl | false ↦ refl ]
step_picked b p (([], key) ∷ rs) h s a = step_picked b p rs h s (both_right (all_apart_from [] rs) (all_apart rs) a)
step_picked {K} b p ((x ∷ t, key) ∷ rs) h s a =
    by_param (step_picked b p rs h (both_right (is_shaped (x ∷ t)) (all_shaped rs) s) (both_right (all_apart_from (x ∷ t) rs) (all_apart rs) a)) (x == 256) refl
  where
    one : is_shaped (x ∷ t) ≡ true
    one = both_left (is_shaped (x ∷ t)) (all_shaped rs) s

    by_byte : or_else (picked (step b rs) p) (cond (has_slash (b ∷ p)) None (own (step 256 rs))) ≡ picked rs (b ∷ p)
        → (v : Bool) → (x == b) ≡ v → (x == 256) ≡ false
        → or_else (picked (step b ((x ∷ t, key) ∷ rs)) p) (cond (has_slash (b ∷ p)) None (own (step 256 ((x ∷ t, key) ∷ rs)))) ≡ picked ((x ∷ t, key) ∷ rs) (b ∷ p)
    by_byte more false e n = rw (e, n) more
    by_byte more true e n =
        rw (e, n) (or_else_grouped (cond (hits t p) (Some key) None) (picked (step b rs) p) (cond (has_slash (b ∷ p)) None (own (step 256 rs)))
        ∙ ap (or_else (cond (hits t p) (Some key) None)) more)

    by_slash : or_else (picked (step b rs) p) (cond (has_slash (b ∷ p)) None (own (step 256 rs))) ≡ picked rs (b ∷ p)
        → (v : Bool) → has_slash (b ∷ p) ≡ v → (x == 256) ≡ true → (x == b) ≡ false → t ≡ []
        → or_else (picked (step b ((x ∷ t, key) ∷ rs)) p) (cond (has_slash (b ∷ p)) None (own (step 256 ((x ∷ t, key) ∷ rs)))) ≡ picked ((x ∷ t, key) ∷ rs) (b ∷ p)
    by_slash more true e n m none = rw (n, m, e) (rw e at more)
    by_slash more false e n m none =
        let nothing = alone b x t rs n (both_left (all_apart_from (x ∷ t) rs) (all_apart rs) a) in
        rw (n, m, e, none, nothing) refl

    by_param : or_else (picked (step b rs) p) (cond (has_slash (b ∷ p)) None (own (step 256 rs))) ≡ picked rs (b ∷ p)
        → (v : Bool) → (x == 256) ≡ v
        → or_else (picked (step b ((x ∷ t, key) ∷ rs)) p) (cond (has_slash (b ∷ p)) None (own (step 256 ((x ∷ t, key) ∷ rs)))) ≡ picked ((x ∷ t, key) ∷ rs) (b ∷ p)
    by_param more false n = by_byte more (x == b) refl n
    by_param more true n =
        let m : (x == b) ≡ false = grind (arith, nat_tests) in
        by_slash more (has_slash (b ∷ p)) refl n m (is_nil_nil t (rw n at one))

tail_bytes : (b : ℕ) (p : List ℕ) → AllBytes (b ∷ p) → AllBytes p
tail_bytes b p h = λ k. h (suc k)

-- a router finds the row that takes the path
pub first_picked : {K : Type 0} (rs : RowsOf K) (p : List ℕ) → AllBytes p → all_shaped rs ≡ true → all_apart rs ≡ true
    → first rs p ≡ picked rs p
unfolding seek
first_picked rs [] h s a = own_picked rs
first_picked {K} rs (b ∷ p) h s a =
    let byte : b < 256 = h 0 in
    let deeper = first_picked (step b rs) p (tail_bytes b p h) (step_shaped b rs byte s) (step_apart b rs byte a) in
    rw (no_catch rs s, param_takes b p rs s, deeper, or_else_nothing (cond (has_slash (b ∷ p)) None (own (step 256 rs)))) (step_picked b p rs byte s a)

-- ---- rows that are put in their places

pub excluded : (t u p : List ℕ) → are_apart t u ≡ true → hits t p ≡ true → hits u p ≡ false
excluded [] [] p a h = absurd (never_true a)
excluded [] (y ∷ u) [] a h = refl
excluded [] (y ∷ u) (b ∷ p) a h = absurd (never_true h)
excluded (x ∷ t) [] [] a h = absurd (never_true h)
excluded (x ∷ t) [] (b ∷ p) a h = refl
excluded (x ∷ t) (y ∷ u) [] a h = absurd (never_true h)
excluded (x ∷ t) (y ∷ u) (b ∷ p) a h = by_first (λ d g. excluded t u p d g) (x == 256) refl
  where
    by_both : (are_apart t u ≡ true → hits t p ≡ true → hits u p ≡ false) → (v : Bool) → (y == b) ≡ v
        → (x == 256) ≡ false → (y == 256) ≡ false → hits (y ∷ u) (b ∷ p) ≡ false
    by_both deep false e n m = rw (m, e) refl
    by_both deep true e n m =
        let there : (x == b && hits t p) ≡ true = rw n at h in
        let i : (x == b) ≡ true = both_left (x == b) (hits t p) there in
        let j : (x == y) ≡ true = grind (arith, nat_tests) in
        let deeper : are_apart t u ≡ true = rw (n, m, j) at a in
        rw (m, e) (deep deeper (both_right (x == b) (hits t p) there))

    by_second : (are_apart t u ≡ true → hits t p ≡ true → hits u p ≡ false) → (v : Bool) → (y == 256) ≡ v
        → (x == 256) ≡ false → hits (y ∷ u) (b ∷ p) ≡ false
    by_second deep true m n = absurd (never_true (rw (n, m) at a))
    by_second deep false m n = by_both deep (y == b) refl n m

    by_first : (are_apart t u ≡ true → hits t p ≡ true → hits u p ≡ false) → (v : Bool) → (x == 256) ≡ v
        → hits (y ∷ u) (b ∷ p) ≡ false
    by_first deep true n = absurd (never_true (rw n at a))
    by_first deep false n = by_second deep (y == 256) refl n

pub none_picked : {K : Type 0} (t : List ℕ) (rs : RowsOf K) (p : List ℕ) → all_apart_from t rs ≡ true → hits t p ≡ true
    → picked rs p ≡ None
none_picked t [] p a h = refl
none_picked t ((u, key) ∷ rs) p a h =
    let not_this = excluded t u p (both_left (are_apart t u) (all_apart_from t rs) a) h in
    rw not_this (none_picked t rs p (both_right (are_apart t u) (all_apart_from t rs) a) h)

apart_placed : {K : Type 0} (t u : List ℕ) (key : K) (rs : RowsOf K) → are_apart t u ≡ true → all_apart_from t rs ≡ true
    → all_apart_from t (placed (u, key) rs) ≡ true
apart_placed t u key [] one a = rw one refl
apart_placed t u key ((v, other) ∷ rs) one a =
    by (apart_placed t u key rs one (both_right (are_apart t v) (all_apart_from t rs) a)) (comes_before u v) refl
  where
    by : all_apart_from t (placed (u, key) rs) ≡ true → (b : Bool) → comes_before u v ≡ b
        → all_apart_from t (placed (u, key) ((v, other) ∷ rs)) ≡ true
    by more true e = rw (e, one) a
    by more false e = let this = both_left (are_apart t v) (all_apart_from t rs) a in rw (e, this) more

apart_settled : {K : Type 0} (t : List ℕ) (rs : RowsOf K) → all_apart_from t rs ≡ true
    → all_apart_from t (settled rs) ≡ true
apart_settled t [] a = refl
apart_settled t ((u, key) ∷ rs) a =
    apart_placed t u key (settled rs) (both_left (are_apart t u) (all_apart_from t rs) a) (apart_settled t rs (both_right (are_apart t u) (all_apart_from t rs) a))

picked_placed : {K : Type 0} (t : List ℕ) (key : K) (rs : RowsOf K) (p : List ℕ) → all_apart_from t rs ≡ true
    → picked (placed (t, key) rs) p ≡ or_else (cond (hits t p) (Some key) None) (picked rs p)
picked_placed t key [] p a = refl
picked_placed {K} t key ((u, other) ∷ rs) p a =
    by_place (picked_placed t key rs p (both_right (are_apart t u) (all_apart_from t rs) a)) (comes_before t u) refl
  where
    by_hit : (b : Bool) → hits t p ≡ b
        → or_else (cond (hits u p) (Some other) None) (or_else (cond (hits t p) (Some key) None) (picked rs p))
        ≡ or_else (cond (hits t p) (Some key) None) (or_else (cond (hits u p) (Some other) None) (picked rs p))
    by_hit false h = rw h refl
    by_hit true h = let none = excluded t u p (both_left (are_apart t u) (all_apart_from t rs) a) h in rw (h, none) refl

    by_place : picked (placed (t, key) rs) p ≡ or_else (cond (hits t p) (Some key) None) (picked rs p) → (b : Bool)
        → comes_before t u ≡ b
        → picked (placed (t, key) ((u, other) ∷ rs)) p ≡ or_else (cond (hits t p) (Some key) None) (picked ((u, other) ∷ rs) p)
    by_place more true e = rw e refl
    by_place more false e = rw e (ap (or_else (cond (hits u p) (Some other) None)) more ∙ by_hit (hits t p) refl)

-- a router's order does not matter
pub picked_settled : {K : Type 0} (rs : RowsOf K) (p : List ℕ) → all_apart rs ≡ true
    → picked (settled rs) p ≡ picked rs p
picked_settled [] p a = refl
picked_settled ((t, key) ∷ rs) p a =
    picked_placed t key (settled rs) p (apart_settled t rs (both_left (all_apart_from t rs) (all_apart rs) a))
    ∙ ap (or_else (cond (hits t p) (Some key) None)) (picked_settled rs p (both_right (all_apart_from t rs) (all_apart rs) a))
