-- The nodes of a forest whose ids do not repeat, after a branch is cut away or moved. `id` says the id of what stands in a node.
use Rattle.std.proofs.Common.{◌≡◌, ℕ, Bool, true, false, not, ◌||◌, List, [], ◌∷◌, ◌++◌, map, Option, Some, None, refl}
use Rattle.std.proofs.Common.{sym, ap, ◌∙◌, subst, nat_eq, inl, inr, arith, append-nil, append_assoc}
use Rattle.std.specs.List.{filter}
use Rattle.std.specs.List.Sorted.{IsPermutation}
use Rattle.tree_core.proofs.Common.{Empty, Forest, HasDistinctIds, IsPermutation-append_comm, IsPermutation-append_left}
use Rattle.tree_core.proofs.Common.{IsPermutation-append_right, IsPermutation-cons, IsPermutation-sym}
use Rattle.tree_core.proofs.Common.{IsPermutation-trans, Node, branch, cases_Bool, cut, each, eqb-true, false≢true}
use Rattle.tree_core.proofs.Common.{filter-append, has, has_place, join, list_any, list_any-IsPermutation}
use Rattle.tree_core.proofs.Common.{list_any-append, move_last, nodes, put_below, tree}
use Rattle.tree_core.proofs.Lists.{In, In-map, any_from_In}
use Rattle.tree_core.proofs.LinkPaths.{parts}
use Rattle.tree_core.proofs.Adding.{pull, perm_same}
use Rattle.tree_core.proofs.EachLemmas.{nodes-each, has-each, cut-each, branch-each}
use Rattle.tree_core.proofs.SpanShifts.{distinct_cut, tree_apart}

-- ---- whatever stands in the nodes

none_here : {A : Type 0} (t : A → Bool) (a : A) (c o : Forest A) → has t (Node a c o) ≡ false
    → (t a ≡ false) × (has t c ≡ false) × (has t o ≡ false)
none_here t a c o h =
    let all : (t a || (has t c || has t o)) ≡ false =
    ap (λ b. t a || b) (sym (list_any-append t (nodes c) (nodes o))) ∙ h in
    let none : (t a ≡ false) × (has t c ≡ false) × (has t o ≡ false) = grind arith in
    none

nothing_cut : {A : Type 0} (t : A → Bool) (f : Forest A) → has t f ≡ false → cut t f ≡ f
nothing_cut t Empty h = refl
nothing_cut t (Node a c o) h = let n = none_here t a c o h in rw (n.0, nothing_cut t c n.1, nothing_cut t o n.2) refl

nothing_put : {A : Type 0} (t : A → Bool) (g f : Forest A) → has t f ≡ false → put_below t g f ≡ f
nothing_put t g Empty h = refl
nothing_put t g (Node a c o) h = let n = none_here t a c o h in rw (n.0, nothing_put t g c n.1, nothing_put t g o n.2) refl

joined_nodes : {A : Type 0} (f g : Forest A) → nodes (join f g) ≡ nodes f ++ nodes g
joined_nodes Empty g = refl
joined_nodes (Node a c o) g =
    ap (λ xs. a ∷ xs) (ap (λ xs. nodes c ++ xs) (joined_nodes o g) ∙ sym (append_assoc (nodes c) (nodes o) (nodes g)))

-- ---- nodes that have ids

module _ {A : Type 0} (id : A → ℕ) where
  -- no id stands twice
  abbrev pub Once : Forest A → Type 0
  Once f = HasDistinctIds (each id f)

  record Pieces (a : A) (c o : Forest A) : Type 0 where
    pub below : Once c
    pub beside : Once o
    pub not_below : has (λ x. nat_eq (id a) (id x)) c ≡ false
    pub not_beside : has (λ x. nat_eq (id a) (id x)) o ≡ false
    pub apart : (n : ℕ) → has (λ x. nat_eq n (id x)) c ≡ true → has (λ x. nat_eq n (id x)) o ≡ false

  pieces : (a : A) (c o : Forest A) → Once (Node a c o) → Pieces a c o
  pieces a c o d =
      let p = parts (id a) (each id c) (each id o) d in
      record {
        below = p.children_distinct;
        beside = p.others_distinct;
        not_below = sym (has-each (nat_eq (id a)) id c) ∙ p.not_below;
        not_beside = sym (has-each (nat_eq (id a)) id o) ∙ p.not_beside;
        apart = λ n h. sym (has-each (nat_eq n) id o) ∙ p.apart n (has-each (nat_eq n) id c ∙ h);
      }

  data Where (u : ℕ) (a : A) (c o : Forest A) : Type 0 where
    Here : nat_eq u (id a) ≡ true → has (λ x. nat_eq u (id x)) c ≡ false → has (λ x. nat_eq u (id x)) o ≡ false
        → Where u a c o
    Below : nat_eq u (id a) ≡ false → has (λ x. nat_eq u (id x)) c ≡ true → has (λ x. nat_eq u (id x)) o ≡ false
        → Where u a c o
    Beside : nat_eq u (id a) ≡ false → has (λ x. nat_eq u (id x)) c ≡ false → has (λ x. nat_eq u (id x)) o ≡ true
        → Where u a c o

  find_where : (u : ℕ) (a : A) (c o : Forest A) → Pieces a c o → has (λ x. nat_eq u (id x)) (Node a c o) ≡ true
      → Where u a c o
  find_where u a c o p h =
      let some : (nat_eq u (id a) || (has (λ x. nat_eq u (id x)) c || has (λ x. nat_eq u (id x)) o)) ≡ true =
      ap (λ b. nat_eq u (id a) || b) (sym (list_any-append (λ x. nat_eq u (id x)) (nodes c) (nodes o))) ∙ h in
      elim (cases_Bool (nat_eq u (id a))) [
        | inl e ↦
            let same = eqb-true u (id a) e in
            Here e (ap (λ n. has (λ x. nat_eq n (id x)) c) same ∙ p.not_below) (ap (λ n. has (λ x. nat_eq n (id x)) o) same ∙ p.not_beside)
        | inr n ↦ elim (cases_Bool (has (λ x. nat_eq u (id x)) c)) [
          | inl e ↦ Below n e (p.apart u e)
          | inr m ↦ Beside n m (rw (n, m) at some)
        ]
      ]

  -- a forest is a branch and the rest
  pub branch_and_rest : (u : ℕ) (f : Forest A) → Once f → has (λ x. nat_eq u (id x)) f ≡ true
      → IsPermutation (nodes (tree (λ x. nat_eq u (id x)) f) ++ nodes (cut (λ x. nat_eq u (id x)) f)) (nodes f)
  branch_and_rest u Empty d h = absurd (false≢true h)
  branch_and_rest u (Node a c o) d h =
      let p = pieces a c o d in
      let t = λ (x : A). nat_eq u (id x) in
      let all = nodes (tree t (Node a c o)) ++ nodes (cut t (Node a c o)) in
      let C = nodes c in
      let O = nodes o in
      elim (find_where u a c o p h) [
        | Here e m n ↦
            let is : all ≡ a ∷ (C ++ O) = rw (e, nothing_cut t o n) (ap (λ xs. a ∷ (xs ++ O)) (append-nil C)) in
            perm_same all (a ∷ (C ++ O)) is
        | Below e m n ↦
            let T = nodes (tree t c) in
            let R = nodes (cut t c) in
            let is : all ≡ T ++ (a ∷ (R ++ O)) = rw (e, m, nothing_cut t o n) refl in
            let rest : IsPermutation (T ++ (R ++ O)) (C ++ O) =
            subst (λ xs. IsPermutation xs (C ++ O)) (append_assoc T R O) (IsPermutation-append_left O (T ++ R) C (branch_and_rest u c p.below m)) in
            IsPermutation-trans all (T ++ (a ∷ (R ++ O))) (a ∷ (C ++ O)) (perm_same all (T ++ (a ∷ (R ++ O))) is)
            (IsPermutation-trans (T ++ (a ∷ (R ++ O))) (a ∷ (T ++ (R ++ O))) (a ∷ (C ++ O)) (IsPermutation-sym (a ∷ (T ++ (R ++ O))) (T ++ (a ∷ (R ++ O))) (pull (a ∷ []) T (R ++ O)))
            (IsPermutation-cons a (T ++ (R ++ O)) (C ++ O) rest))
        | Beside e m n ↦
            let T = nodes (tree t o) in
            let R = nodes (cut t o) in
            let is : all ≡ T ++ (a ∷ (C ++ R)) = rw (e, m, nothing_cut t c m) refl in
            IsPermutation-trans all (T ++ (a ∷ (C ++ R))) (a ∷ (C ++ O)) (perm_same all (T ++ (a ∷ (C ++ R))) is)
            (IsPermutation-trans (T ++ (a ∷ (C ++ R))) ((a ∷ C) ++ (T ++ R)) (a ∷ (C ++ O)) (IsPermutation-sym ((a ∷ C) ++ (T ++ R)) (T ++ (a ∷ (C ++ R))) (pull (a ∷ C) T R))
            (IsPermutation-append_right (a ∷ C) (T ++ R) O (branch_and_rest u o p.beside n)))
      ]

  put_nodes : (v : ℕ) (g f : Forest A) → Once f → has (λ x. nat_eq v (id x)) f ≡ true
      → IsPermutation (nodes (put_below (λ x. nat_eq v (id x)) g f)) (nodes g ++ nodes f)
  put_nodes v g Empty d h = absurd (false≢true h)
  put_nodes v g (Node a c o) d h =
      let p = pieces a c o d in
      let t = λ (x : A). nat_eq v (id x) in
      let all = nodes (put_below t g (Node a c o)) in
      let G = nodes g in
      let C = nodes c in
      let O = nodes o in
      elim (find_where v a c o p h) [
        | Here e m n ↦
            let is : all ≡ (a ∷ C) ++ (G ++ O) =
            rw (e, nothing_put t g o n, joined_nodes c g) (ap (λ xs. a ∷ xs) (append_assoc C G O)) in
            IsPermutation-trans all ((a ∷ C) ++ (G ++ O)) (G ++ (a ∷ (C ++ O))) (perm_same all ((a ∷ C) ++ (G ++ O)) is) (pull (a ∷ C) G O)
        | Below e m n ↦
            let P = nodes (put_below t g c) in
            let is : all ≡ a ∷ (P ++ O) = rw (e, nothing_put t g o n) refl in
            let inner : IsPermutation (P ++ O) (G ++ (C ++ O)) =
            subst (IsPermutation (P ++ O)) (append_assoc G C O) (IsPermutation-append_left O P (G ++ C) (put_nodes v g c p.below m)) in
            IsPermutation-trans all (a ∷ (P ++ O)) (G ++ (a ∷ (C ++ O))) (perm_same all (a ∷ (P ++ O)) is)
            (IsPermutation-trans (a ∷ (P ++ O)) (a ∷ (G ++ (C ++ O))) (G ++ (a ∷ (C ++ O))) (IsPermutation-cons a (P ++ O) (G ++ (C ++ O)) inner) (pull (a ∷ []) G (C ++ O)))
        | Beside e m n ↦
            let P = nodes (put_below t g o) in
            let is : all ≡ (a ∷ C) ++ P = rw (e, nothing_put t g c m) refl in
            IsPermutation-trans all ((a ∷ C) ++ P) (G ++ (a ∷ (C ++ O))) (perm_same all ((a ∷ C) ++ P) is)
            (IsPermutation-trans ((a ∷ C) ++ P) ((a ∷ C) ++ (G ++ O)) (G ++ (a ∷ (C ++ O))) (IsPermutation-append_right (a ∷ C) P (G ++ O) (put_nodes v g o p.beside n)) (pull (a ∷ C) G O))
      ]

  once_cut : (u : ℕ) (f : Forest A) → Once f → Once (cut (λ x. nat_eq u (id x)) f)
  once_cut u f d = subst HasDistinctIds (sym (cut-each (nat_eq u) id f)) (distinct_cut u (each id f) d)

  -- a move leaves the nodes that were there
  pub moved_nodes : (u : ℕ) (p : Option ℕ) (f : Forest A) → Once f → has (λ x. nat_eq u (id x)) f ≡ true
      → has_place (λ n x. nat_eq n (id x)) p (cut (λ x. nat_eq u (id x)) f) ≡ true
      → IsPermutation (nodes (move_last (λ n x. nat_eq n (id x)) u p f)) (nodes f)
  moved_nodes u None f d h there =
      let T = tree (λ x. nat_eq u (id x)) f in
      let R = cut (λ x. nat_eq u (id x)) f in
      subst (λ xs. IsPermutation xs (nodes f)) (sym (joined_nodes R T)) (IsPermutation-trans (nodes R ++ nodes T) (nodes T ++ nodes R) (nodes f) (IsPermutation-append_comm (nodes R) (nodes T)) (branch_and_rest u f d h))
  moved_nodes u (Some v) f d h there =
      let T = tree (λ x. nat_eq u (id x)) f in
      let R = cut (λ x. nat_eq u (id x)) f in
      IsPermutation-trans (nodes (put_below (λ x. nat_eq v (id x)) T R)) (nodes T ++ nodes R) (nodes f) (put_nodes v T R (once_cut u f d) there) (branch_and_rest u f d h)

  -- ---- what is left

  -- the ids of a branch
  abbrev pub branch_ids : ℕ → Forest A → List ℕ
  branch_ids u f = branch (nat_eq u) (each id f)

  pub gone_there : (u : ℕ) (f : Forest A) (a : A) → In a (nodes (tree (λ x. nat_eq u (id x)) f))
      → list_any (nat_eq (id a)) (branch_ids u f) ≡ true
  gone_there u f a h =
      ap (list_any (nat_eq (id a))) (branch-each (nat_eq u) id f)
      ∙ any_from_In (map id (nodes (tree (λ x. nat_eq u (id x)) f))) (id a) (In-map id (nodes (tree (λ x. nat_eq u (id x)) f)) a h)

  pub left_apart : (u : ℕ) (f : Forest A) (a : A) → Once f → has (λ x. nat_eq u (id x)) f ≡ true
      → In a (nodes (cut (λ x. nat_eq u (id x)) f)) → list_any (nat_eq (id a)) (branch_ids u f) ≡ false
  left_apart u f a d h i =
      let rest = cut (λ x. nat_eq u (id x)) f in
      let there : has (nat_eq (id a)) (cut (nat_eq u) (each id f)) ≡ true =
      ap (has (nat_eq (id a))) (sym (cut-each (nat_eq u) id f)) ∙ ap (list_any (nat_eq (id a))) (nodes-each id rest) ∙ any_from_In (map id (nodes rest)) (id a) (In-map id (nodes rest) a i) in
      elim (cases_Bool (list_any (nat_eq (id a)) (branch_ids u f))) [
        | inl y ↦ absurd (false≢true (sym (tree_apart u (id a) (each id f) d (has-each (nat_eq u) id f ∙ h) y) ∙ there))
        | inr n ↦ n
      ]

  none_kept : (ids : List ℕ) (xs : List A) → ((a : A) → In a xs → list_any (nat_eq (id a)) ids ≡ true)
      → filter (λ a. not (list_any (nat_eq (id a)) ids)) xs ≡ []
  none_kept ids [] all = refl
  none_kept ids (x ∷ xs) all = rw (all x (inl refl)) (none_kept ids xs (λ a i. all a (inr i)))

  all_kept : (ids : List ℕ) (xs : List A) → ((a : A) → In a xs → list_any (nat_eq (id a)) ids ≡ false)
      → filter (λ a. not (list_any (nat_eq (id a)) ids)) xs ≡ xs
  all_kept ids [] all = refl
  all_kept ids (x ∷ xs) all = rw (all x (inl refl)) (ap (λ l. x ∷ l) (all_kept ids xs (λ a i. all a (inr i))))

  pub kept_nodes : (u : ℕ) (f : Forest A) → Once f → has (λ x. nat_eq u (id x)) f ≡ true
      → filter (λ a. not (list_any (nat_eq (id a)) (branch_ids u f))) (nodes (tree (λ x. nat_eq u (id x)) f) ++ nodes (cut (λ x. nat_eq u (id x)) f)) ≡ nodes (cut (λ x. nat_eq u (id x)) f)
  kept_nodes u f d h =
      let T = nodes (tree (λ x. nat_eq u (id x)) f) in
      let R = nodes (cut (λ x. nat_eq u (id x)) f) in
      let ids = branch_ids u f in
      filter-append (λ a. not (list_any (nat_eq (id a)) ids)) T R
      ∙ ap (λ xs. xs ++ filter (λ a. not (list_any (nat_eq (id a)) ids)) R) (none_kept ids T (gone_there u f))
      ∙ all_kept ids R (λ a i. left_apart u f a d h i)

  -- what is not of the branch is still there
  pub still_there : (u n : ℕ) (f : Forest A) → Once f → has (λ x. nat_eq u (id x)) f ≡ true
      → has (λ x. nat_eq n (id x)) f ≡ true → list_any (nat_eq n) (branch_ids u f) ≡ false
      → has (λ x. nat_eq n (id x)) (cut (λ x. nat_eq u (id x)) f) ≡ true
  still_there u n f d h there gone =
      let t = λ (x : A). nat_eq n (id x) in
      let T = tree (λ x. nat_eq u (id x)) f in
      let R = cut (λ x. nat_eq u (id x)) f in
      let both : (has t T || has t R) ≡ true =
      sym (list_any-append t (nodes T) (nodes R))
      ∙ list_any-IsPermutation t (nodes T ++ nodes R) (nodes f) (branch_and_rest u f d h) ∙ there in
      let not_in : has t T ≡ false =
      sym (ap (list_any (nat_eq n)) (branch-each (nat_eq u) id f) ∙ sym (ap (list_any (nat_eq n)) (nodes-each id T)) ∙ has-each (nat_eq n) id T)
      ∙ gone in
      rw not_in at both
