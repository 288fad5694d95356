-- Keys that are sorted: equal ones stand side by side.
use Rattle.std.proofs.Common.{◌≡◌, ℕ, suc, ◌+◌, ◌-◌, ◌<◌, ◌≤◌, Bool, true, false, ◌||◌, cond, List, [], ◌∷◌, length}
use Rattle.std.proofs.Common.{get_or, drop, drop-cons, zero-add, refl, sym, ap, ◌∙◌, subst, inl, inr, arith, nat_le}
use Rattle.std.proofs.Common.{nat_lt}
use Rattle.std.proofs.lemmas.Cmp.{tied_itself, alike_right}
use Rattle.std.specs.declared.cmp.Ordering.{Ordering}
use Rattle.desk_core.specs.KeyCounts.{key_count, key_occurs_more_than}
use Rattle.desk_core.proofs.Common.{Contains-from_In, Equal, Greater, In, IsPermutation, IsSorted, IsTotalOrder, Less}
use Rattle.desk_core.proofs.Common.{any_agree, any_none, cases_Bool, drop_all, false≢true, is_eq, is_lt, le-leb, le-ltb}
use Rattle.desk_core.proofs.Common.{leb-false, list_any, list_any-IsPermutation, lt-leb, ltb-false, none_any, or_from}
use Rattle.desk_core.proofs.Common.{or_parts, ordering_reverse, ranks_by, sorted_far, sum_by-IsPermutation}
use Rattle.desk_core.proofs.Counts.{count_cons, count_agree, count_none}
use Rattle.desk_core.proofs.Tests.{false_together}

-- Whether a key stands there too often, told key by key: so many of the last one stood just before.
abbrev pub run_over : {K : Type 0} → (K → K → Ordering) → ℕ → K → ℕ → List K → Bool
run_over cmp most last before [] = false
run_over cmp most last before (key ∷ keys) =
    cond (is_eq (cmp last key)) (nat_le most before || run_over cmp most last (suc before) keys) (nat_le most 0 || run_over cmp most key 1 keys)

any_some : {X : Type 0} (p : X → Bool) (xs : List X) → list_any p xs ≡ true → (x : X) × In x xs × (p x ≡ true)
any_some p [] h = absurd (false≢true h)
any_some p (x ∷ xs) h = elim (cases_Bool (p x)) [
  | inl t ↦ (x, inl refl, t)
  | inr f ↦ let r = any_some p xs (rw f at h) in (r.0, inr r.1, r.2)
]

is_equal : (o : Ordering) → is_eq o ≡ true → o ≡ Equal
is_equal Less h = absurd (false≢true h)
is_equal Equal h = refl
is_equal Greater h = absurd (false≢true h)

module _ {K : Type 0} {R : K → K → Ordering} (o : IsTotalOrder R) where
  -- none of the keys is before this one
  abbrev NoneBefore : K → List K → Type 0
  NoneBefore k ks = (y : K) → In y ks → is_lt (R y k) ≡ false

  abbrev Rises : List K → Type 0
  Rises [] = Unit {0}
  Rises (k ∷ ks) = NoneBefore k ks × Rises ks

  rises : (ks : List K)
      → ((i j : ℕ) (d : K) → i ≤ j → j < length ks → is_lt (R (get_or ks j d) (get_or ks i d)) ≡ false) → Rises ks
  rises [] up = tt
  rises (k ∷ ks) up = (λ y i. above y (Contains-from_In ks y i), rises ks (λ i j d le lt. up (suc i) (suc j) d (omega arith) (omega arith)))
    where
      above : (y : K) → (j : ℕ) × (j < length ks) × (get_or ks j y ≡ y) → is_lt (R y k) ≡ false
      above y (j, lt, e) = subst (λ z. is_lt (R z k) ≡ false) e (up 0 (suc j) y (omega arith) (omega (arith, lt)))

  -- a key that is not the last one, and above it, is none of those that follow
  differs : (a b : Ordering) → a ≡ ordering_reverse b → is_lt b ≡ false → is_eq a ≡ false → a ≡ Less
  differs Less b e l n = refl
  differs Equal b e l n = absurd (false≢true (sym n))
  differs Greater Less e l n = absurd (false≢true (sym l))
  differs Greater Equal e l n = cc
  differs Greater Greater e l n = cc

  none_like : (last k : K) (ks : List K) → is_lt (R k last) ≡ false → is_eq (R last k) ≡ false → NoneBefore k ks
      → (y : K) → In y ks → is_eq (R last y) ≡ false
  none_like last k ks low apart none y i =
      elim (cases_Bool (is_eq (R last y))) [
        | inr f ↦ f
        | inl t ↦
            let less = differs (R last k) (R k last) (o.antisymm last k) low apart in
            let same = o.congr last y k (is_equal (R last y) t) in
            absurd (false≢true (sym (none y i) ∙ ap is_lt (sym same ∙ less)))
      ]

  cons : (q k : K) (ks : List K) → key_count R q (k ∷ ks) ≡ cond (is_eq (R q k)) 1 0 + key_count R q ks
  cons q k ks = count_cons (λ y. is_eq (R q y)) k ks

  most_of : (b : Bool) (n : ℕ) → cond b n 0 ≤ n
  most_of true n = omega arith
  most_of false n = omega arith

  -- where no key is told too often, none stands there too often
  within : (most : ℕ) (last : K) (before : ℕ) (ks : List K) → NoneBefore last ks → Rises ks → before ≤ most
      → run_over R most last before ks ≡ false → (q : K) → cond (is_eq (R q last)) before 0 + key_count R q ks ≤ most
  within most last before [] low up le h q = let m = most_of (is_eq (R q last)) before in omega (arith, m, le)
  within most last before (k ∷ ks) low up le h q =
      elim (cases_Bool (is_eq (R last k))) [
        | inl t ↦
            let parts = or_parts (nat_le most before) (run_over R most last (suc before) ks) (rw t at h) in
            let lt = leb-false most before parts.0 in
            let rest = within most last (suc before) ks (λ y i. low y (inr i)) up.1 (omega (arith, lt)) parts.1 q in
            let alike = ap is_eq (alike_right o last k q (is_equal (R last k) t)) in
            again (is_eq (R q last)) (is_eq (R q k)) alike (key_count R q ks) (key_count R q (k ∷ ks)) (cons q k ks) rest
        | inr f ↦
            let parts = or_parts (nat_le most 0) (run_over R most k 1 ks) (rw f at h) in
            let lt = leb-false most 0 parts.0 in
            let rest = within most k 1 ks up.0 up.1 (omega (arith, lt)) parts.1 q in
            elim (cases_Bool (is_eq (R q last))) [
              | inr n ↦ let w = cons q k ks in rw n (omega (arith, w, rest))
              | inl s ↦
                  let same = is_equal (R q last) s in
                  let not_here : is_eq (R q k) ≡ false = ap is_eq (o.congr q last k same) ∙ f in
                  let none = count_none (λ y. is_eq (R q y)) ks (any_none (λ y. is_eq (R q y)) ks (λ y i. ap is_eq (o.congr q last y same) ∙ none_like last k ks (low k (inl refl)) f up.0 y i)) in
                  let w : key_count R q (k ∷ ks) ≡ 0 =
                  cons q k ks ∙ ap (λ b. cond b 1 0 + key_count R q ks) not_here ∙ zero-add (key_count R q ks) ∙ none in
                  rw s (omega (arith, w, le))
            ]
      ]
    where
      again : (b c : Bool) → b ≡ c → (n m : ℕ) → m ≡ cond c 1 0 + n → cond b (suc before) 0 + n ≤ most
          → cond b before 0 + m ≤ most
      again true true e n m f h = omega (arith, f, h)
      again true false e n m f h = absurd (false≢true (sym e))
      again false true e n m f h = absurd (false≢true e)
      again false false e n m f h = omega (arith, f, h)

  -- and the other way round
  told : (most : ℕ) (last : K) (before : ℕ) (ks : List K)
      → ((q : K) → cond (is_eq (R q last)) before 0 + key_count R q ks ≤ most) → run_over R most last before ks ≡ false
  told most last before [] h = refl
  told most last before (k ∷ ks) h =
      elim (cases_Bool (is_eq (R last k))) [
        | inl t ↦
            let itself = ap is_eq (tied_itself o last) in
            let here = h last in
            let w = cons last k ks in
            let lt : before < most =
            room (is_eq (R last last)) (is_eq (R last k)) itself t (key_count R last ks) (key_count R last (k ∷ ks)) w here in
            rw t (or_from (nat_le most before) (run_over R most last (suc before) ks) (lt-leb most before lt)
            (told most last (suc before) ks (λ q. more (is_eq (R q last)) (is_eq (R q k)) (ap is_eq (alike_right o last k q (is_equal (R last k) t))) (key_count R q ks) (key_count R q (k ∷ ks)) (cons q k ks) (h q))))
        | inr f ↦
            let itself = ap is_eq (tied_itself o k) in
            let here = h k in
            let w : key_count R k (k ∷ ks) ≡ 1 + key_count R k ks =
            cons k k ks ∙ ap (λ b. cond b 1 0 + key_count R k ks) itself in
            let lt : 0 < most = omega (arith, w, here) in
            rw f (or_from (nat_le most 0) (run_over R most k 1 ks) (lt-leb most 0 lt)
            (told most k 1 ks (λ q. let u = cons q k ks in let v = h q in omega (arith, u, v))))
      ]
    where
      room : (b c : Bool) → b ≡ true → c ≡ true → (n m : ℕ) → m ≡ cond c 1 0 + n → cond b before 0 + m ≤ most
          → before < most
      room true true e f n m w h = omega (arith, w, h)
      room true false e f n m w h = absurd (false≢true f)
      room false c e f n m w h = absurd (false≢true e)

      more : (b c : Bool) → b ≡ c → (n m : ℕ) → m ≡ cond c 1 0 + n → cond b before 0 + m ≤ most
          → cond b (suc before) 0 + n ≤ most
      more true true e n m w h = omega (arith, w, h)
      more true false e n m w h = absurd (false≢true (sym e))
      more false true e n m w h = absurd (false≢true e)
      more false false e n m w h = omega (arith, w, h)

  none_over : (most : ℕ) (ks : List K) → ((q : K) → key_count R q ks ≤ most) → key_occurs_more_than R most ks ≡ false
  none_over most ks h = any_none (λ k. nat_lt most (key_count R k ks)) ks (λ k i. le-ltb most (key_count R k ks) (h k))

  all_within : (most : ℕ) (ks : List K) → key_occurs_more_than R most ks ≡ false → (q : K) → key_count R q ks ≤ most
  all_within most ks h q =
      elim (cases_Bool (list_any (λ y. is_eq (R q y)) ks)) [
        | inr f ↦ let none = count_none (λ y. is_eq (R q y)) ks f in omega (arith, none)
        | inl t ↦
            let s = any_some (λ y. is_eq (R q y)) ks t in
            let same : key_count R q ks ≡ key_count R s.0 ks =
            count_agree (λ y. is_eq (R q y)) (λ y. is_eq (R s.0 y)) ks (λ y i. ap is_eq (o.congr q s.0 y (is_equal (R q s.0) s.2))) in
            let le = ltb-false most (key_count R s.0 ks) (none_any (λ k. nat_lt most (key_count R k ks)) ks s.0 h s.1) in
            omega (arith, same, le)
      ]

  -- told key by key, of sorted keys
  pub runs_told : (most : ℕ) (ks : List K) (d : K) → IsSorted R ks
      → run_over R most (get_or ks 0 d) 0 ks ≡ key_occurs_more_than R most ks
  runs_told most [] d up = refl
  runs_told most (k ∷ ks) d up =
      let order = ranks_by o (λ (x : K). x) in
      let rise = rises (k ∷ ks) (λ i j e le lt. sorted_far (λ x y. is_lt (R x y)) order (k ∷ ks) up i j e le lt) in
      let none : (y : K) → In y (k ∷ ks) → is_lt (R y k) ≡ false =
      λ y i. elim i [ inl e ↦ ap is_lt (ap (λ z. R z k) e ∙ tied_itself o k) | inr j ↦ rise.0 y j ] in
      false_together (run_over R most k 0 (k ∷ ks)) (key_occurs_more_than R most (k ∷ ks))
      (λ h. none_over most (k ∷ ks) (λ q. let w = within most k 0 (k ∷ ks) none rise (omega arith) h q in omega (arith, w)))
      (λ h. told most k 0 (k ∷ ks) (λ q. let w = all_within most (k ∷ ks) h q in zero_too (is_eq (R q k)) (key_count R q (k ∷ ks)) w))
    where
      zero_too : (b : Bool) (n : ℕ) → n ≤ most → cond b 0 0 + n ≤ most
      zero_too true n h = omega (arith, h)
      zero_too false n h = omega (arith, h)

-- in whatever order the keys are
pub over_permuted : {K : Type 0} (R : K → K → Ordering) (most : ℕ) (xs ys : List K) → IsPermutation xs ys
    → key_occurs_more_than R most ys ≡ key_occurs_more_than R most xs
over_permuted R most xs ys p =
    any_agree (λ k. nat_lt most (key_count R k ys)) (λ k. nat_lt most (key_count R k xs)) ys (λ k. ap (nat_lt most) (sum_by-IsPermutation (λ y. cond (is_eq (R k y)) 1 0) xs ys p))
    ∙ sym (list_any-IsPermutation (λ k. nat_lt most (key_count R k xs)) xs ys p)

-- ---- the loop over sorted keys

module _ {K : Type 0} (R : K → K → Ordering) (most : ℕ) where
  same_run : (x y : K) (a b n m : ℕ) (ys zs : List K) → x ≡ y → a ≡ b → n ≡ m → ys ≡ zs
      → (nat_le most a || run_over R most x n ys) ≡ (nat_le most b || run_over R most y m zs)
  same_run x y a b n m ys zs ex ea en ey =
      ap (λ v. nat_le most a || run_over R most v n ys) ex
      ∙ ap (λ v. nat_le most v || run_over R most y n ys) ea
      ∙ ap (λ v. nat_le most b || run_over R most y v ys) en
      ∙ ap (λ v. nat_le most b || run_over R most y m v) ey

  pub met : (ks : List K) (i first next : ℕ) (d : K) → i < length ks → first ≤ i
      → next ≡ cond (is_eq (R (get_or ks first d) (get_or ks i d))) first i
      → run_over R most (get_or ks first d) (i - first) (drop i ks) ≡ (nat_le most (i - next) || run_over R most (get_or ks next d) (i + 1 - next) (drop (i + 1) ks))
  met ks i first next d lt le is =
      let more : suc i ≡ i + 1 = omega arith in
      ap (run_over R most (get_or ks first d) (i - first)) (drop-cons ks i d lt)
      ∙ elim (cases_Bool (is_eq (R (get_or ks first d) (get_or ks i d)))) [
        | inl t ↦
            let at : next ≡ first = is ∙ ap (λ b. cond b first i) t in
            let far : i - first ≡ i - next = ap (λ n. i - n) (sym at) in
            let on : suc (i - first) ≡ i + 1 - next = omega (arith, at, le) in
            ap (λ b. cond b (nat_le most (i - first) || run_over R most (get_or ks first d) (suc (i - first)) (drop (suc i) ks)) (nat_le most 0 || run_over R most (get_or ks i d) 1 (drop (suc i) ks))) t
            ∙ same_run (get_or ks first d) (get_or ks next d) (i - first) (i - next) (suc (i - first)) (i + 1 - next) (drop (suc i) ks) (drop (i + 1) ks) (ap (λ n. get_or ks n d) (sym at)) far on (ap (λ n. drop n ks) more)
        | inr f ↦
            let at : next ≡ i = is ∙ ap (λ b. cond b first i) f in
            let far : 0 ≡ i - next = omega (arith, at) in
            let on : 1 ≡ i + 1 - next = omega (arith, at) in
            ap (λ b. cond b (nat_le most (i - first) || run_over R most (get_or ks first d) (suc (i - first)) (drop (suc i) ks)) (nat_le most 0 || run_over R most (get_or ks i d) 1 (drop (suc i) ks))) f
            ∙ same_run (get_or ks i d) (get_or ks next d) 0 (i - next) 1 (i + 1 - next) (drop (suc i) ks) (drop (i + 1) ks) (ap (λ n. get_or ks n d) (sym at)) far on (ap (λ n. drop n ks) more)
      ]

  -- the key at i stands too often
  pub met_over : (o : IsTotalOrder R) (ks : List K) (i first next : ℕ) → i < length ks → first ≤ i
      → ((d : K) → next ≡ cond (is_eq (R (get_or ks first d) (get_or ks i d))) first i)
      → ((d : K) → run_over R most (get_or ks first d) (i - first) (drop i ks) ≡ run_over R most (get_or ks 0 d) 0 ks)
      → most ≤ i - next → IsSorted R ks → true ≡ key_occurs_more_than R most ks
  met_over o [] i first next lt le is so over up = absurd (omega arith)
  met_over o (k ∷ ks) i first next lt le is so over up =
      sym (ap (λ b. b || run_over R most (get_or (k ∷ ks) next k) (i + 1 - next) (drop (i + 1) (k ∷ ks))) (le-leb most (i - next) over))
      ∙ sym (met (k ∷ ks) i first next k lt le (is k))
      ∙ so k
      ∙ runs_told o most (k ∷ ks) k up

  pub met_none : (ks : List K) (i first next : ℕ) (d : K) → i < length ks → first ≤ i
      → next ≡ cond (is_eq (R (get_or ks first d) (get_or ks i d))) first i
      → run_over R most (get_or ks first d) (i - first) (drop i ks) ≡ run_over R most (get_or ks 0 d) 0 ks
      → i - next < most
      → run_over R most (get_or ks next d) (i + 1 - next) (drop (i + 1) ks) ≡ run_over R most (get_or ks 0 d) 0 ks
  met_none ks i first next d lt le is so below =
      sym (ap (λ b. b || run_over R most (get_or ks next d) (i + 1 - next) (drop (i + 1) ks)) (lt-leb most (i - next) below))
      ∙ sym (met ks i first next d lt le is)
      ∙ so

  pub met_all : (o : IsTotalOrder R) (ks : List K) (i first : ℕ) → length ks ≤ i
      → ((d : K) → run_over R most (get_or ks first d) (i - first) (drop i ks) ≡ run_over R most (get_or ks 0 d) 0 ks)
      → IsSorted R ks → false ≡ key_occurs_more_than R most ks
  met_all o [] i first le so up = refl
  met_all o (k ∷ ks) i first le so up =
      sym (ap (run_over R most (get_or (k ∷ ks) first k) (i - first)) (drop_all i (k ∷ ks) le))
      ∙ so k
      ∙ runs_told o most (k ∷ ks) k up
