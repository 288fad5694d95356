-- Walks over marks with bounds up to which they skip.
use Rattle.std.proofs.Common.{if◌then◌else◌, ◌≡◌, ℕ, ℤ, suc, ◌+◌, ◌-◌, ◌*◌, ◌<◌, ◌≤◌, Bool, true, false, not, cond}
use Rattle.std.proofs.Common.{◌&&◌, ◌||◌, List, [], ◌∷◌, ◌++◌, length, max, refl, sym, ap, ◌∙◌, nat_lt, arith, map}
use Rattle.std.proofs.Common.{append_assoc, append-nil, inl, inr, get_or, drop, drop-cons}
use Rattle.std.proofs.Math.Bool.{and-true, and_assoc, or-false, or-true}
use Rattle.std.proofs.lemmas.Bool.{cases_Bool, cond-false, le-ltb, lt-ltb}
use Rattle.std.proofs.lemmas.List.{drop_all, map-append}
use Rattle.std.proofs.lemmas.List.Folds.{list_any-append}
use Rattle.std.specs.List.{list_all, list_any}
use Rattle.tree_core.specs.Forest.{Empty, Forest, Node, nodes, size, walk}
use Rattle.visibility.specs.MarkSteps.{clean_below, is_clean}
use Rattle.visibility.specs.Marks.{is_closed, withholds, IsNumbered, contents_paths, public_walk}
use Rattle.visibility.specs.Visibility.{sharing_paths, public}
use Rattle.visibility.specs.declared.marks.Kept.{Kept}
use Rattle.visibility.specs.declared.marks.Mark.{Mark}

-- ---- the containers above
-- the loop over marks, as a function of the marks that are left
abbrev pub clean_from : ℤ → Bool → ℕ → ℕ → List Mark → Bool
clean_from today above skip opened [] = true
clean_from today above skip opened (m ∷ ms) =
    if nat_lt m.lft skip then clean_from today above skip opened ms
    else if m.boxed then clean_from today above m.rgt opened ms
    else (is_clean today (above || nat_lt m.lft opened) m && clean_from today above skip (if m.permit then max opened m.rgt else opened) ms)

-- what begins below the first bound is passed over
clean_past : (today : ℤ) (above : Bool) (skip opened k : ℕ) (f : Forest Mark) (tail : List Mark) → IsNumbered k f
    → k + 2 * size f ≤ skip
    → clean_from today above skip opened (nodes f ++ tail) ≡ clean_from today above skip opened tail
clean_past today above skip opened k Empty tail n le = refl
clean_past today above skip opened k (Node m c o) tail n le =
    let here : m.lft < skip = omega (arith, n.0) in
    rw (lt-ltb m.lft skip here, append_assoc (nodes c) (nodes o) tail) (clean_past today above skip opened (k + 1) c (nodes o ++ tail) n.2 (omega arith) ∙ clean_past today above skip opened (k + 2 * size c + 2) o tail n.3 (omega arith))

regroup : (a b c d : Bool) → (a && (b && (c && d))) ≡ ((a && (b && c)) && d)
regroup a b c d = ap (λ x. a && x) (sym (and_assoc b c d)) ∙ sym (and_assoc a (b && c) d)

-- one mark that is looked at: w says whether a permit stands above it, and n is the bound after it
clean_step : (today : ℤ) (above w : Bool) (skip opened n : ℕ) (m : Mark) (ms : List Mark) → skip ≤ m.lft
    → m.boxed ≡ false → (above || nat_lt m.lft opened) ≡ w → (if m.permit then max opened m.rgt else opened) ≡ n →
    clean_from today above skip opened (m ∷ ms) ≡ (is_clean today w m && clean_from today above skip n ms)
clean_step today above w skip opened n m ms le b under after =
    rw (le-ltb m.lft skip le, b)
    (ap (λ x. is_clean today x m && clean_from today above skip (if m.permit then max opened m.rgt else opened) ms) under
    ∙ ap (λ x. is_clean today w m && clean_from today above skip x ms) after)

below_step : (today : ℤ) (opened w : Bool) (m : Mark) (c o : Forest Mark) → m.boxed ≡ false → (opened || m.permit) ≡ w
    → (is_clean today opened m && (clean_below today w c && clean_below today opened o)) ≡ clean_below today opened (Node m c o)
below_step today opened w m c o b e =
    rw b (ap (λ x. is_clean today opened m && (clean_below today x c && clean_below today opened o)) (sym e))

-- a forest whose marks all lie under a permit
clean_under : (today : ℤ) (above : Bool) (skip opened k : ℕ) (f : Forest Mark) (tail : List Mark) → IsNumbered k f
    → skip ≤ k → k + 2 * size f ≤ opened →
    (s : ℕ) × (s ≤ k + 2 * size f) × (clean_from today above skip opened (nodes f ++ tail) ≡ (clean_below today true f && clean_from today above s opened tail))
clean_under today above skip opened k Empty tail n le under = (skip, omega arith, refl)
clean_under today above skip opened k (Node m c o) tail n le under =
    let here : skip ≤ m.lft = omega (arith, n.0) in
    elim (cases_Bool m.boxed) [
      | inl b ↦
          let past : k + 1 + 2 * size c ≤ m.rgt = omega (arith, n.1) in
          let low : m.rgt ≤ k + 2 * size c + 2 = omega (arith, n.1) in
          let r = clean_under today above m.rgt opened (k + 2 * size c + 2) o tail n.3 low (omega arith) in
          (r.0, omega (arith, r.1), rw (le-ltb m.lft skip here, b, append_assoc (nodes c) (nodes o) tail) (clean_past today above m.rgt opened (k + 1) c (nodes o ++ tail) n.2 past ∙ r.2))
      | inr b ↦
          let inside : m.lft < opened = omega (arith, n.0) in
          let is : (above || nat_lt m.lft opened) ≡ true =
          ap (λ x. above || x) (lt-ltb m.lft opened inside) ∙ or-true above in
          let stays : (if m.permit then max opened m.rgt else opened) ≡ opened =
          elim m.permit as (λ p. cond p (max opened m.rgt) opened ≡ opened) [ true ↦ omega (arith, n.1) | false ↦ refl ] in
          let r = clean_under today above skip opened (k + 1) c (nodes o ++ tail) n.2 (omega arith) (omega arith) in
          let q = clean_under today above r.0 opened (k + 2 * size c + 2) o tail n.3 (omega (arith, r.1)) (omega arith) in (
            q.0,
            omega (arith, q.1),
            ap (λ xs. clean_from today above skip opened (m ∷ xs)) (append_assoc (nodes c) (nodes o) tail)
                ∙ clean_step today above true skip opened opened m (nodes c ++ (nodes o ++ tail)) here b is stays
                ∙ ap (λ x. is_clean today true m && x) (r.2 ∙ ap (λ x. clean_below today true c && x) q.2)
                ∙ regroup (is_clean today true m) (clean_below today true c) (clean_below today true o) (clean_from today above q.0 opened tail)
                ∙ ap (λ x. x && clean_from today above q.0 opened tail) (below_step today true true m c o b refl),
          )
    ]

-- a forest of which no mark lies under a permit of this branch
clean_walk : (today : ℤ) (above : Bool) (skip opened k : ℕ) (f : Forest Mark) (tail : List Mark) → IsNumbered k f
    → skip ≤ k → opened ≤ k →
    (s : ℕ) × (t : ℕ) × (s ≤ k + 2 * size f) × (t ≤ k + 2 * size f) × (clean_from today above skip opened (nodes f ++ tail) ≡ (clean_below today above f && clean_from today above s t tail))
clean_walk today above skip opened k Empty tail n le out = (skip, opened, omega arith, omega arith, refl)
clean_walk today above skip opened k (Node m c o) tail n le out =
    let here : skip ≤ m.lft = omega (arith, n.0) in
    let outside : opened ≤ m.lft = omega (arith, n.0) in
    let is : (above || nat_lt m.lft opened) ≡ above =
    ap (λ x. above || x) (le-ltb m.lft opened outside) ∙ or-false above in
    elim (cases_Bool m.boxed) [
      | inl b ↦
          let past : k + 1 + 2 * size c ≤ m.rgt = omega (arith, n.1) in
          let low : m.rgt ≤ k + 2 * size c + 2 = omega (arith, n.1) in
          let r = clean_walk today above m.rgt opened (k + 2 * size c + 2) o tail n.3 low (omega arith) in
          (r.0, r.1, omega (arith, r.2), omega (arith, r.3), rw (le-ltb m.lft skip here, b, append_assoc (nodes c) (nodes o) tail) (clean_past today above m.rgt opened (k + 1) c (nodes o ++ tail) n.2 past ∙ r.4))
      | inr b ↦ elim (cases_Bool m.permit) [
        | inl y ↦
            let after : (if m.permit then max opened m.rgt else opened) ≡ m.rgt = rw y (omega (arith, n.1)) in
            let r = clean_under today above skip m.rgt (k + 1) c (nodes o ++ tail) n.2 (omega arith) (omega (arith, n.1)) in
            let q = clean_walk today above r.0 m.rgt (k + 2 * size c + 2) o tail n.3 (omega (arith, r.1)) (omega (arith, n.1)) in (
              q.0,
              q.1,
              omega (arith, q.2),
              omega (arith, q.3),
              ap (λ xs. clean_from today above skip opened (m ∷ xs)) (append_assoc (nodes c) (nodes o) tail)
                  ∙ clean_step today above above skip opened m.rgt m (nodes c ++ (nodes o ++ tail)) here b is after
                  ∙ ap (λ x. is_clean today above m && x) (r.2 ∙ ap (λ x. clean_below today true c && x) q.4)
                  ∙ regroup (is_clean today above m) (clean_below today true c) (clean_below today above o) (clean_from today above q.0 q.1 tail)
                  ∙ ap (λ x. x && clean_from today above q.0 q.1 tail) (below_step today above true m c o b (ap (λ x. above || x) y ∙ or-true above)),
            )
        | inr y ↦
            let after : (if m.permit then max opened m.rgt else opened) ≡ opened = rw y refl in
            let r = clean_walk today above skip opened (k + 1) c (nodes o ++ tail) n.2 (omega arith) (omega arith) in
            let q = clean_walk today above r.0 r.1 (k + 2 * size c + 2) o tail n.3 (omega (arith, r.2)) (omega (arith, r.3)) in (
              q.0,
              q.1,
              omega (arith, q.2),
              omega (arith, q.3),
              ap (λ xs. clean_from today above skip opened (m ∷ xs)) (append_assoc (nodes c) (nodes o) tail)
                  ∙ clean_step today above above skip opened opened m (nodes c ++ (nodes o ++ tail)) here b is after
                  ∙ ap (λ x. is_clean today above m && x) (r.4 ∙ ap (λ x. clean_below today above c && x) q.4)
                  ∙ regroup (is_clean today above m) (clean_below today above c) (clean_below today above o) (clean_from today above q.0 q.1 tail)
                  ∙ ap (λ x. x && clean_from today above q.0 q.1 tail) (below_step today above above m c o b (ap (λ x. above || x) y ∙ or-false above)),
            )
      ]
    ]

pub clean_all : (today : ℤ) (above : Bool) (k : ℕ) (f : Forest Mark) → IsNumbered k f
    → clean_from today above 0 0 (nodes f) ≡ clean_below today above f
clean_all today above k f n =
    let r = clean_walk today above 0 0 k f [] n (omega arith) (omega arith) in
    ap (clean_from today above 0 0) (sym (append-nil (nodes f))) ∙ r.4 ∙ and-true (clean_below today above f)

-- ---- the same by paths
abbrev pub is_draft : Mark → Bool
is_draft m = m.draft

abbrev pub has_permit : Mark → Bool
has_permit m = m.permit

-- what is known of the path above a forest of which nothing is withheld from above
pub record Clear (today : ℤ) (above opened : Bool) (path : List Mark) : Type 0 where
  pub no_draft : list_any is_draft path ≡ false
  pub opened_is : opened ≡ (above || list_any has_permit path)
  pub not_closed : (list_any (is_closed today) path && not opened) ≡ false

-- one more mark on a path: d, c and p say that it is a draft, closed, and has a permit
last_mark : (d cs c above ps p : Bool) → (cs && not (above || ps)) ≡ false
    → not ((d || false) || ((cs || (c || false)) && not (above || (ps || (p || false))))) ≡ (not d && ((above || ps) || p || not c))
last_mark true cs c above ps p h = refl
last_mark false true c true ps p h = refl
last_mark false true c false true p h = refl
last_mark false true c false false p h = cc
last_mark false false true true ps p h = refl
last_mark false false true false true p h = refl
last_mark false false true false false true h = refl
last_mark false false true false false false h = refl
last_mark false false false true ps p h = refl
last_mark false false false false true p h = refl
last_mark false false false false false true h = refl
last_mark false false false false false false h = refl

last_closed : (d cs c opened p : Bool) → (cs && not opened) ≡ false → (not d && (opened || p || not c)) ≡ true
    → ((cs || (c || false)) && not (opened || p)) ≡ false
last_closed true cs c opened p h k = cc
last_closed false true c true p h k = refl
last_closed false true c false p h k = cc
last_closed false false true true p h k = refl
last_closed false false true false true h k = refl
last_closed false false true false false h k = cc
last_closed false false false opened p h k = refl

last_draft : (d b : Bool) → (not d && b) ≡ true → (d || false) ≡ false
last_draft true b k = cc
last_draft false b k = refl

last_permit : (above ps p : Bool) → ((above || ps) || p) ≡ (above || (ps || (p || false)))
last_permit true ps p = refl
last_permit false true p = refl
last_permit false false true = refl
last_permit false false false = refl

withholds_last : (today : ℤ) (above opened : Bool) (path : List Mark) (m : Mark) → Clear today above opened path
    → not (withholds today above (path ++ m ∷ [])) ≡ is_clean today opened m
withholds_last today above opened path m h =
    rw (list_any-append is_draft path (m ∷ []), list_any-append (is_closed today) path (m ∷ []), list_any-append has_permit path (m ∷ []), h.no_draft, h.opened_is)
    (last_mark m.draft (list_any (is_closed today) path) (is_closed today m) above (list_any has_permit path) m.permit (ap (λ o. list_any (is_closed today) path && not o) (sym h.opened_is) ∙ h.not_closed))

clear_last : (today : ℤ) (above opened : Bool) (path : List Mark) (m : Mark) → Clear today above opened path
    → is_clean today opened m ≡ true → Clear today above (opened || m.permit) (path ++ m ∷ [])
clear_last today above opened path m h clean = record {
  no_draft = list_any-append is_draft path (m ∷ []) ∙ rw h.no_draft (last_draft m.draft (opened || m.permit || not (is_closed today m)) clean);
  opened_is = ap (λ o. o || m.permit) h.opened_is ∙ last_permit above (list_any has_permit path) m.permit ∙ ap (λ b. above || b) (sym (list_any-append has_permit path (m ∷ [])));
  not_closed = ap (λ b. b && not (opened || m.permit)) (list_any-append (is_closed today) path (m ∷ [])) ∙ last_closed m.draft (list_any (is_closed today) path) (is_closed today m) opened m.permit h.not_closed clean;
}

pub list_all-append : {X : Type 0} (p : X → Bool) (xs ys : List X)
    → list_all p (xs ++ ys) ≡ (list_all p xs && list_all p ys)
list_all-append p [] ys = refl
list_all-append p (x ∷ xs) ys =
    ap (λ b. p x && b) (list_all-append p xs ys) ∙ sym (and_assoc (p x) (list_all p xs) (list_all p ys))

abbrev pub is_seen : ℤ → Bool → List Mark → Bool
is_seen today above path = not (withholds today above path)

abbrev pub is_boxed : Mark → Bool
is_boxed m = m.boxed

pub clean_below-paths : (today : ℤ) (above opened : Bool) (path : List Mark) (f : Forest Mark)
    → Clear today above opened path
    → clean_below today opened f ≡ list_all (is_seen today above) (sharing_paths is_boxed path f)
clean_below-paths today above opened path Empty h = refl
clean_below-paths today above opened path (Node m c o) h = elim (cases_Bool m.boxed) [
  | inl b ↦ rw b (clean_below-paths today above opened path o h)
  | inr b ↦ elim (cases_Bool (is_clean today opened m)) [
    | inl clean ↦
        let all : List (List Mark) → Bool = list_all (is_seen today above) in
        let paths = sharing_paths is_boxed (path ++ m ∷ []) c in
        let more = sharing_paths is_boxed path o in
        let below = clean_below-paths today above (opened || m.permit) (path ++ m ∷ []) c (clear_last today above opened path m h clean) in
        let beside = clean_below-paths today above opened path o h in
        cond-false m.boxed (clean_below today opened o) (is_clean today opened m && (clean_below today (opened || m.permit) c && clean_below today opened o)) b
        ∙ ap (λ x. is_clean today opened m && x) (ap (λ x. x && clean_below today opened o) below ∙ ap (λ x. all paths && x) beside ∙ sym (list_all-append (is_seen today above) paths more))
        ∙ ap (λ x. x && all (paths ++ more)) (sym (withholds_last today above opened path m h))
        ∙ sym (ap all (cond-false m.boxed more ((path ++ m ∷ []) ∷ (paths ++ more)) b))
    | inr bad ↦
        let all : List (List Mark) → Bool = list_all (is_seen today above) in
        let paths = sharing_paths is_boxed (path ++ m ∷ []) c in
        let more = sharing_paths is_boxed path o in
        let inner = clean_below today (opened || m.permit) c && clean_below today opened o in
        cond-false m.boxed (clean_below today opened o) (is_clean today opened m && inner) b
        ∙ ap (λ x. x && inner) bad
        ∙ ap (λ x. x && all (paths ++ more)) (sym (withholds_last today above opened path m h ∙ bad))
        ∙ sym (ap all (cond-false m.boxed more ((path ++ m ∷ []) ∷ (paths ++ more)) b))
  ]
]

-- a unit with what lies below it
pub contents_clean : (today : ℤ) (above : Bool) (unit : Mark) (below : Forest Mark)
    → (is_clean today above unit && clean_below today (above || unit.permit) below) ≡ list_all (is_seen today above) (contents_paths unit below)
contents_clean today above unit below =
    let none : Clear today above above [] =
    record { no_draft = refl; opened_is = sym (or-false above); not_closed = refl } in
    let first = withholds_last today above above [] unit none in
    elim (cases_Bool (is_clean today above unit)) [
      | inl clean ↦
          ap (λ x. is_clean today above unit && x) (clean_below-paths today above (above || unit.permit) (unit ∷ []) below (clear_last today above above [] unit none clean))
          ∙ ap (λ x. x && list_all (is_seen today above) (sharing_paths is_boxed (unit ∷ []) below)) (sym first)
      | inr bad ↦
          ap (λ x. x && clean_below today (above || unit.permit) below) bad
          ∙ ap (λ x. x && list_all (is_seen today above) (sharing_paths is_boxed (unit ∷ []) below)) (sym (first ∙ bad))
    ]

-- ---- the steps of the loop, where T is the day as calls have it
-- a mark that is not clean
pub stops : (today T : ℤ) (above w : Bool) (ms : List Mark) (i skip opened : ℕ) (m : Mark) (k : ℕ) (f : Forest Mark)
    → T ≡ today → i < length ms → m ≡ get_or ms i m → skip ≤ m.lft → m.boxed ≡ false
    → w ≡ (above || nat_lt m.lft opened) → false ≡ is_clean T w m
    → clean_from T above skip opened (drop i ms) ≡ clean_from T above 0 0 ms → IsNumbered k f → ms ≡ nodes f
    → false ≡ clean_below today above f
stops today T above w ms i skip opened m k f same l item le b is bad so_far n e =
    let here : clean_from T above skip opened (m ∷ drop (suc i) ms) ≡ false =
    rw (le-ltb m.lft skip le, b) (ap (λ x. is_clean T x m && clean_from T above skip (if m.permit then max opened m.rgt else opened) (drop (suc i) ms)) (sym is) ∙ ap (λ x. x && clean_from T above skip (if m.permit then max opened m.rgt else opened) (drop (suc i) ms)) (sym bad)) in
    let rest : m ∷ drop (suc i) ms ≡ drop i ms =
    ap (λ x. x ∷ drop (suc i) ms) item ∙ sym (drop-cons ms i m l) in
    sym here ∙ ap (clean_from T above skip opened) rest ∙ so_far ∙ ap (clean_from T above 0 0) e ∙ clean_all T above k f n ∙ ap (λ t. clean_below t above f) same

pub passes_all : (today T : ℤ) (above : Bool) (ms : List Mark) (i skip opened k : ℕ) (f : Forest Mark) → T ≡ today
    → length ms ≤ i → clean_from T above skip opened (drop i ms) ≡ clean_from T above 0 0 ms → IsNumbered k f
    → ms ≡ nodes f → true ≡ clean_below today above f
passes_all today T above ms i skip opened k f same le so_far n e =
    ap (clean_from T above skip opened) (sym (drop_all i ms le)) ∙ so_far ∙ ap (clean_from T above 0 0) e ∙ clean_all T above k f n ∙ ap (λ t. clean_below t above f) same

head_same : (x y : Mark) (xs ys : List Mark) → x ∷ xs ≡ y ∷ ys → x ≡ y
head_same x y xs ys e = cc

tail_same : (x y : Mark) (xs ys : List Mark) → x ∷ xs ≡ y ∷ ys → xs ≡ ys
tail_same x y xs ys e = cc

-- what is said of the first mark and of the others
pub contents_are : (today T : ℤ) (above w r : Bool) (ms : List Mark) (first : Mark) (rest : List Mark) (unit : Mark) (below : Forest Mark) (k : ℕ)
    → T ≡ today → ms ≡ first ∷ rest → w ≡ (above || first.permit) → is_clean T above first ≡ true
    → IsNumbered k (Node unit below Empty) → ms ≡ nodes (Node unit below Empty)
    → ((k : ℕ) (f : Forest Mark) → IsNumbered k f → rest ≡ nodes f → r ≡ clean_below T w f)
    → r ≡ list_all (is_seen today above) (contents_paths unit below)
contents_are today T above w r ms first rest unit below k same parts is clean n e says =
    let both = sym parts ∙ e in
    let one : first ≡ unit = head_same first unit rest (nodes below ++ []) both in
    let others : rest ≡ nodes below = tail_same first unit rest (nodes below ++ []) both ∙ append-nil (nodes below) in
    says (k + 1) below n.2 others
    ∙ ap (λ o. clean_below T o below) (is ∙ ap (λ (m : Mark). above || m.permit) one)
    ∙ sym (ap (λ x. x && clean_below T (above || unit.permit) below) (ap (is_clean T above) (sym one) ∙ clean))
    ∙ contents_clean T above unit below
    ∙ ap (λ t. list_all (is_seen t above) (contents_paths unit below)) same

-- ---- what the public sees
abbrev row : ℤ → ℕ → Mark → Kept
row today depth m = record { id = m.id; depth = depth; stub = is_closed today m }

-- the loop over marks, as a function of the marks that are left
abbrev pub kept_from : ℤ → ℕ → ℕ → ℕ → List Mark → List Kept
kept_from today start skip i [] = []
kept_from today start skip i (m ∷ ms) =
    if nat_lt m.lft skip then kept_from today start skip (i + 1) ms
    else if m.draft then kept_from today start m.rgt (i + 1) ms
    else row today (2 * i - (m.lft - start)) m ∷ kept_from today start (if is_closed today m then m.rgt else skip) (i + 1) ms

kept_past : (today : ℤ) (start skip i k : ℕ) (f : Forest Mark) (tail : List Mark) → IsNumbered k f
    → k + 2 * size f ≤ skip
    → kept_from today start skip i (nodes f ++ tail) ≡ kept_from today start skip (i + size f) tail
kept_past today start skip i k Empty tail n le = ap (λ j. kept_from today start skip j tail) (omega arith)
kept_past today start skip i k (Node m c o) tail n le =
    let here : m.lft < skip = omega (arith, n.0) in
    let next : i + 1 + size c + size o ≡ i + (1 + (size c + size o)) = omega arith in
    rw (lt-ltb m.lft skip here, append_assoc (nodes c) (nodes o) tail)
    (kept_past today start skip (i + 1) (k + 1) c (nodes o ++ tail) n.2 (omega arith) ∙ kept_past today start skip (i + 1 + size c) (k + 2 * size c + 2) o tail n.3 (omega arith)
    ∙ ap (λ j. kept_from today start skip j tail) next)

-- the rows of what the public sees, below d nodes
abbrev kept_at : ℤ → ℕ → Forest Mark → List Kept
kept_at today d f =
    map (λ (seen : (Mark × Bool) × ℕ). record { id = seen.0.0.id; depth = seen.1; stub = seen.0.1 })
    (walk d (public (λ (mark : Mark). mark.draft) (is_closed today) f))

kept_walk : (today : ℤ) (start skip i k d : ℕ) (f : Forest Mark) (tail : List Mark) → IsNumbered k f → skip ≤ k
    → k + d ≡ start + 2 * i → d ≤ i →
    (s : ℕ) × (s ≤ k + 2 * size f) × (kept_from today start skip i (nodes f ++ tail) ≡ kept_at today d f ++ kept_from today start s (i + size f) tail)
kept_walk today start skip i k d Empty tail n le at up =
    (skip, omega arith, ap (λ j. kept_from today start skip j tail) (omega arith))
kept_walk today start skip i k d (Node m c o) tail n le at up =
    let here : skip ≤ m.lft = omega (arith, n.0) in
    let depth : 2 * i - (m.lft - start) ≡ d = omega (arith, n.0) in
    let next : i + 1 + size c + size o ≡ i + (1 + (size c + size o)) = omega arith in
    let past : k + 1 + 2 * size c ≤ m.rgt = omega (arith, n.1) in
    let low : m.rgt ≤ k + 2 * size c + 2 = omega (arith, n.1) in
    elim (cases_Bool m.draft) [
      | inl b ↦
          let r = kept_walk today start m.rgt (i + 1 + size c) (k + 2 * size c + 2) d o tail n.3 low (omega arith) (omega arith) in (
            r.0,
            omega (arith, r.1),
            rw (le-ltb m.lft skip here, b, append_assoc (nodes c) (nodes o) tail)
                (kept_past today start m.rgt (i + 1) (k + 1) c (nodes o ++ tail) n.2 past ∙ r.2 ∙ ap (λ j. kept_at today d o ++ kept_from today start r.0 j tail) next),
          )
      | inr b ↦ elim (cases_Bool (is_closed today m)) [
        | inl x ↦
            let r = kept_walk today start m.rgt (i + 1 + size c) (k + 2 * size c + 2) d o tail n.3 low (omega arith) (omega arith) in (
              r.0,
              omega (arith, r.1),
              rw (le-ltb m.lft skip here, b, x, append_assoc (nodes c) (nodes o) tail)
                  (ap (λ n. record { id = m.id; depth = n; stub = true } ∷ kept_from today start (m.rgt) (i + 1) (nodes c ++ (nodes o ++ tail))) depth
                  ∙ ap (λ xs. record { id = m.id; depth = d; stub = true } ∷ xs)
                  (kept_past today start m.rgt (i + 1) (k + 1) c (nodes o ++ tail) n.2 past ∙ r.2 ∙ ap (λ j. kept_at today d o ++ kept_from today start r.0 j tail) next)),
            )
        | inr x ↦
            let r = kept_walk today start skip (i + 1) (k + 1) (1 + d) c (nodes o ++ tail) n.2 (omega arith) (omega arith) (omega arith) in
            let q = kept_walk today start r.0 (i + 1 + size c) (k + 2 * size c + 2) d o tail n.3 (omega (arith, r.1)) (omega arith) (omega arith) in (
              q.0,
              omega (arith, q.1),
              rw (le-ltb m.lft skip here, b, x, append_assoc (nodes c) (nodes o) tail)
                  (ap (λ n. record { id = m.id; depth = n; stub = false } ∷ kept_from today start (skip) (i + 1) (nodes c ++ (nodes o ++ tail))) depth
                  ∙ ap (λ xs. record { id = m.id; depth = d; stub = false } ∷ xs)
                  (r.2 ∙ ap (λ xs. kept_at today (1 + d) c ++ xs) (q.2 ∙ ap (λ j. kept_at today d o ++ kept_from today start q.0 j tail) next)
                  ∙ sym (append_assoc (kept_at today (1 + d) c) (kept_at today d o) (kept_from today start q.0 (i + (1 + (size c + size o))) tail))
                  ∙ ap (λ xs. xs ++ kept_from today start q.0 (i + (1 + (size c + size o))) tail) (sym (map-append _ (walk (1 + d) (public (λ (mark : Mark). mark.draft) (is_closed today) c)) (walk d (public (λ (mark : Mark). mark.draft) (is_closed today) o)))))),
            )
      ]
    ]

pub kept_all : (today : ℤ) (k : ℕ) (f : Forest Mark) → IsNumbered k f
    → kept_from today k 0 0 (nodes f) ≡ public_walk today f
kept_all today k f n =
    let r = kept_walk today k 0 0 k 0 f [] n (omega arith) (omega arith) (omega arith) in
    ap (kept_from today k 0 0) (sym (append-nil (nodes f))) ∙ r.2 ∙ append-nil (public_walk today f)

-- the start is the first mark's number
pub kept_done : (today T : ℤ) (ms : List Mark) (start i skip k : ℕ) (f : Forest Mark) (rows : List Kept) → T ≡ today
    → length ms ≤ i → rows ++ kept_from T start skip i (drop i ms) ≡ kept_from T start 0 0 ms → IsNumbered k f
    → ms ≡ nodes f
    → ((m : Mark) (c o : Forest Mark) → f ≡ Node m c o → start ≡ m.lft) → rows ≡ public_walk today f
kept_done today T ms start i skip k Empty rows same le so_far n e first =
    sym (append-nil rows) ∙ ap (λ xs. rows ++ kept_from T start skip i xs) (sym (drop_all i ms le)) ∙ so_far ∙ ap (kept_from T start 0 0) e
kept_done today T ms start i skip k (Node m c o) rows same le so_far n e first =
    sym (append-nil rows) ∙ ap (λ xs. rows ++ kept_from T start skip i xs) (sym (drop_all i ms le)) ∙ so_far ∙ ap (kept_from T start 0 0) e
    ∙ ap (λ j. kept_from T j 0 0 (nodes (Node m c o))) (first m c o refl ∙ n.0) ∙ kept_all T k (Node m c o) n
    ∙ ap (λ t. public_walk t (Node m c o)) same

pub first_number : (ms : List Mark) (d : Mark) (f : Forest Mark) → ms ≡ nodes f → (m : Mark) (c o : Forest Mark)
    → f ≡ Node m c o → (get_or ms 0 d).lft ≡ m.lft
first_number ms d f e m c o is = ap (λ (xs : List Mark). (get_or xs 0 d).lft) (e ∙ ap nodes is)

pub kept_none : (today : ℤ) (ms : List Mark) (f : Forest Mark) → length ms ≡ 0 → ms ≡ nodes f → [] ≡ public_walk today f
kept_none today ms Empty z e = refl
kept_none today ms (Node m c o) z e = absurd (omega (arith, z, ap length e))
