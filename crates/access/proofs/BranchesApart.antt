-- What lies in a container is the same without a branch, where its unit does not lie there, and none of its units names the
-- container.
use Rattle.std.proofs.Common.{◌≡◌, ℕ, ℤ, Bool, true, false, cond, not, ◌&&◌, List, [], ◌∷◌, ◌++◌, append_assoc, filter}
use Rattle.std.proofs.Common.{nat_eq, Option, Some, None, refl, sym, ap, ap₂, ◌∙◌}
use Rattle.std.specs.Prelude.{◌||◌}
use Rattle.tree_core.proofs.LinkPaths.{parts}
use Rattle.tree_core.proofs.SpanShifts.{cut_none}
use Rattle.visibility.proofs.MarkWalks.{list_all-append}
use Rattle.catalogue_core.specs.ContainerContents.{is_open}
use Rattle.access.proofs.Common.{AllByRecursion, BoxKey, Empty, Forest, HasDistinctIds, Node, Unit, and_parts}
use Rattle.access.proofs.Common.{append-nil, branch, containers_of, cut, cut-each, each, eqb-true, filter-append}
use Rattle.access.proofs.Common.{fun_ext, has, has-each, has_id, housed_below, is_same_box, is_some_there}
use Rattle.access.proofs.Common.{is_withheld_from, last_or, list_all, list_any, list_any-append, names_some, near}
use Rattle.access.proofs.Common.{nodes, option_to_list, or-false, own_or, path, paths_below, tree}

-- ---- truths

pub neither : (a b : Bool) → (a || b) ≡ false → (a ≡ false) × (b ≡ false)
neither true b e = absurd (cc)
neither false b e = (refl, e)

none_in : {X : Type 0} (p : X → Bool) (xs ys : List X) → list_any p (xs ++ ys) ≡ false
    → (list_any p xs ≡ false) × (list_any p ys ≡ false)
none_in p xs ys e = neither (list_any p xs) (list_any p ys) (sym (list_any-append p xs ys) ∙ e)

abbrev id_of : Unit → ℕ
id_of unit = unit.id

housed_more : (above : List BoxKey) (A : List Unit) (u : Unit)
    → housed_below above (A ++ u ∷ []) ≡ own_or u.values.boxes (housed_below above A)
housed_more above [] u = refl
housed_more above (x ∷ A) u = housed_more (own_or x.values.boxes above) A u

module _ (box : BoxKey) where
  abbrev pub in_it : List BoxKey → Bool
  in_it boxes = list_any (is_same_box box) boxes

  abbrev pub names_box : Unit → Bool
  names_box unit = in_it unit.values.boxes

  abbrev pub lies : List Unit → Bool
  lies way = in_it (containers_of way)

  abbrev pub lying : List Unit → Forest Unit → List (List Unit)
  lying A f = filter lies (paths_below A f)

  -- what does not lie there, and names it not, hands it down to nothing
  lies_no_more : (A : List Unit) (unit : Unit) → lies A ≡ false → names_box unit ≡ false → lies (A ++ unit ∷ []) ≡ false
  lies_no_more A unit above own = ap in_it (housed_more [] A unit) ∙ by_boxes unit.values.boxes own
    where
      by_boxes : (boxes : List BoxKey) → in_it boxes ≡ false → in_it (own_or boxes (containers_of A)) ≡ false
      by_boxes [] e = above
      by_boxes (b ∷ boxes) e = e

  -- a unit lies where the nearest that names some names the container
  pub by_nearest : (found : Option Unit) (above : List BoxKey) → in_it above ≡ list_any names_box (option_to_list found)
      → (way : List Unit)
      → in_it (housed_below above way) ≡ list_any names_box (option_to_list (last_or found (filter names_some way)))
  by_nearest found above so [] = so
  by_nearest found above so (unit ∷ way) = at unit.values.boxes refl (λ found above so. by_nearest found above so way)
    where
      at : (boxes : List BoxKey) → unit.values.boxes ≡ boxes
          → ((found : Option Unit) (above : List BoxKey) → in_it above ≡ list_any names_box (option_to_list found) → in_it (housed_below above way) ≡ list_any names_box (option_to_list (last_or found (filter names_some way))))
          → in_it (housed_below (own_or boxes above) way) ≡ list_any names_box (option_to_list (last_or found (cond (is_some_there boxes) (unit ∷ filter names_some way) (filter names_some way))))
      at [] is further = further found above so
      at (b ∷ boxes) is further = further (Some unit) (b ∷ boxes) (sym (ap in_it is) ∙ sym (or-false (names_box unit)))

  parted : (A : List Unit) (a : Unit) (c o : Forest Unit)
      → lying A (Node a c o) ≡ cond (lies (A ++ a ∷ [])) ((A ++ a ∷ []) ∷ (lying (A ++ a ∷ []) c ++ lying A o)) (lying (A ++ a ∷ []) c ++ lying A o)
  parted A a c o = ap (λ l. cond (lies (A ++ a ∷ [])) ((A ++ a ∷ []) ∷ l) l) (filter-append lies (paths_below (A ++ a ∷ []) c) (paths_below A o))

  nothing_below : (A : List Unit) (f : Forest Unit) → lies A ≡ false → list_any names_box (nodes f) ≡ false
      → lying A f ≡ []
  nothing_below A Empty above none = refl
  nothing_below A (Node a c o) above none =
      let one = neither (names_box a) (list_any names_box (nodes c ++ nodes o)) none in
      let two = none_in names_box (nodes c) (nodes o) one.1 in
      let here = lies_no_more A a above one.0 in
      parted A a c o
      ∙ ap (λ b. cond b ((A ++ a ∷ []) ∷ (lying (A ++ a ∷ []) c ++ lying A o)) (lying (A ++ a ∷ []) c ++ lying A o)) here
      ∙ ap₂ ◌++◌ (nothing_below (A ++ a ∷ []) c here two.0) (nothing_below A o above two.1)

  module _ (u : ℕ) where
    abbrev pub gone : Forest Unit → Forest Unit
    gone f = cut (has_id u) f

    has_by_id : (f : Forest Unit) → has (nat_eq u) (each id_of f) ≡ has (has_id u) f
    has_by_id f = has-each (nat_eq u) id_of f

    -- the place of the unit: here, below, or beside
    at_node : (A : List Unit) (a : Unit) (c o : Forest Unit) (is below : Bool) → nat_eq u a.id ≡ is
        → has (has_id u) c ≡ below → HasDistinctIds (each id_of (Node a c o))
        → lies (A ++ cond is (a ∷ []) (cond below (a ∷ path (has_id u) c) (path (has_id u) o))) ≡ false
        → list_any names_box (nodes (cond is (Node a c Empty) (cond below (tree (has_id u) c) (tree (has_id u) o)))) ≡ false
        → ((B : List Unit) → HasDistinctIds (each id_of c) → lies (B ++ path (has_id u) c) ≡ false → list_any names_box (branch (has_id u) c) ≡ false → lying B c ≡ lying B (gone c))
        → (HasDistinctIds (each id_of o) → lies (A ++ path (has_id u) o) ≡ false → list_any names_box (branch (has_id u) o) ≡ false → lying A o ≡ lying A (gone o))
        → lying A (Node a c o) ≡ lying A (cond is (gone o) (Node a (gone c) (gone o)))
    at_node A a c o true below here inside d shut none in_c in_o =
        let p = parts a.id (each id_of c) (each id_of o) d in
        let one = neither (names_box a) (list_any names_box (nodes c ++ [])) none in
        let quiet : list_any names_box (nodes c) ≡ false =
        ap (list_any names_box) (sym (append-nil (nodes c))) ∙ one.1 in
        let absent : has (has_id u) o ≡ false =
        sym (has_by_id o) ∙ ap (λ n. has (nat_eq n) (each id_of o)) (eqb-true u a.id here) ∙ p.not_beside in
        parted A a c o
        ∙ ap (λ b. cond b ((A ++ a ∷ []) ∷ (lying (A ++ a ∷ []) c ++ lying A o)) (lying (A ++ a ∷ []) c ++ lying A o)) shut
        ∙ ap (λ l. l ++ lying A o) (nothing_below (A ++ a ∷ []) c shut quiet)
        ∙ ap (lying A) (sym (cut_none (has_id u) o absent))
    at_node A a c o false true here inside d shut none in_c in_o =
        let p = parts a.id (each id_of c) (each id_of o) d in
        let absent : has (has_id u) o ≡ false = sym (has_by_id o) ∙ p.apart u (has_by_id c ∙ inside) in
        let below : lies ((A ++ a ∷ []) ++ path (has_id u) c) ≡ false =
        ap lies (append_assoc A (a ∷ []) (path (has_id u) c)) ∙ shut in
        parted A a c o
        ∙ ap₂ (λ x y. cond (lies (A ++ a ∷ [])) ((A ++ a ∷ []) ∷ (x ++ y)) (x ++ y)) (in_c (A ++ a ∷ []) p.children_distinct below none) (ap (lying A) (sym (cut_none (has_id u) o absent)))
        ∙ sym (parted A a (gone c) (gone o))
    at_node A a c o false false here inside d shut none in_c in_o =
        let p = parts a.id (each id_of c) (each id_of o) d in
        parted A a c o
        ∙ ap₂ (λ x y. cond (lies (A ++ a ∷ [])) ((A ++ a ∷ []) ∷ (x ++ y)) (x ++ y)) (ap (lying (A ++ a ∷ [])) (sym (cut_none (has_id u) c inside))) (in_o p.others_distinct shut none)
        ∙ sym (parted A a (gone c) (gone o))

    same_lying : (A : List Unit) (f : Forest Unit) → HasDistinctIds (each id_of f)
        → lies (A ++ path (has_id u) f) ≡ false → list_any names_box (branch (has_id u) f) ≡ false
        → lying A f ≡ lying A (gone f)
    same_lying A Empty d shut none = refl
    same_lying A (Node a c o) d shut none =
        at_node A a c o (nat_eq u a.id) (has (has_id u) c) refl refl d shut none
        (λ B apart shut none. same_lying B c apart shut none) (λ apart shut none. same_lying A o apart shut none)

    -- what is seen of all that lies there, is seen of what is left
    module _ (seen : List Unit → Bool) where
      of_rest : (b : Bool) (way : List Unit) (ways : List (List Unit)) → list_all seen (cond b (way ∷ ways) ways) ≡ true
          → (cond b (seen way) true ≡ true) × (list_all seen ways ≡ true)
      of_rest true way ways all = and_parts (seen way) (list_all seen ways) all
      of_rest false way ways all = (refl, all)

      with_rest : (b : Bool) (way : List Unit) (ways : List (List Unit)) → cond b (seen way) true ≡ true
          → list_all seen ways ≡ true → list_all seen (cond b (way ∷ ways) ways) ≡ true
      with_rest true way ways one all = ap₂ ◌&&◌ one all
      with_rest false way ways one all = all

      left_here : (A : List Unit) (a : Unit) (c o : Forest Unit) (is : Bool)
          → list_all seen (lying A (Node a c o)) ≡ true
          → ((B : List Unit) → list_all seen (lying B c) ≡ true → list_all seen (lying B (gone c)) ≡ true)
          → (list_all seen (lying A o) ≡ true → list_all seen (lying A (gone o)) ≡ true)
          → list_all seen (lying A (cond is (gone o) (Node a (gone c) (gone o)))) ≡ true
      left_here A a c o is all in_c in_o =
          let B = A ++ a ∷ [] in
          let one = of_rest (lies B) B (lying B c ++ lying A o) (ap (list_all seen) (sym (parted A a c o)) ∙ all) in
          let two = and_parts (list_all seen (lying B c)) (list_all seen (lying A o)) (sym (list_all-append seen (lying B c) (lying A o)) ∙ one.1) in
          at is one.0 (in_c B two.0) (in_o two.1)
        where
          at : (is : Bool) → cond (lies (A ++ a ∷ [])) (seen (A ++ a ∷ [])) true ≡ true
              → list_all seen (lying (A ++ a ∷ []) (gone c)) ≡ true → list_all seen (lying A (gone o)) ≡ true
              → list_all seen (lying A (cond is (gone o) (Node a (gone c) (gone o)))) ≡ true
          at true own below beside = beside
          at false own below beside =
              let B = A ++ a ∷ [] in
              ap (list_all seen) (parted A a (gone c) (gone o))
              ∙ with_rest (lies B) B (lying B (gone c) ++ lying A (gone o)) own (list_all-append seen (lying B (gone c)) (lying A (gone o)) ∙ ap₂ ◌&&◌ below beside)

      pub fewer : (A : List Unit) (f : Forest Unit) → list_all seen (lying A f) ≡ true
          → list_all seen (lying A (gone f)) ≡ true
      fewer A Empty all = all
      fewer A (Node a c o) all =
          left_here A a c o (nat_eq u a.id) all (λ B below. fewer B c below) (λ beside. fewer A o beside)

  -- something lies there where a unit names it
  own_alone : (A : List Unit) (unit : Unit) → lies A ≡ false → lies (A ++ unit ∷ []) ≡ names_box unit
  own_alone A unit above = ap in_it (housed_more [] A unit) ∙ by_boxes unit.values.boxes
    where
      by_boxes : (boxes : List BoxKey) → in_it (own_or boxes (containers_of A)) ≡ in_it boxes
      by_boxes [] = above
      by_boxes (b ∷ boxes) = refl

  some_here : (A : List Unit) (a : Unit) (c o : Forest Unit) → lies A ≡ false
      → (lies (A ++ a ∷ []) ≡ false → is_some_there (lying (A ++ a ∷ []) c) ≡ list_any names_box (nodes c))
      → is_some_there (lying A o) ≡ list_any names_box (nodes o)
      → is_some_there (lying A (Node a c o)) ≡ list_any names_box (nodes (Node a c o))
  some_here A a c o above in_c in_o =
      let B = A ++ a ∷ [] in
      ap is_some_there (parted A a c o) ∙ some_kept (lies B) B (lying B c ++ lying A o) ∙ ap (λ b. lies B || b) (some_append (lying B c) (lying A o)) ∙ at (names_box a) refl
    where
      some_kept : (b : Bool) (x : List Unit) (xs : List (List Unit))
          → is_some_there (cond b (x ∷ xs) xs) ≡ (b || is_some_there xs)
      some_kept true x xs = refl
      some_kept false x xs = refl

      some_append : (xs ys : List (List Unit)) → is_some_there (xs ++ ys) ≡ (is_some_there xs || is_some_there ys)
      some_append [] ys = refl
      some_append (x ∷ xs) ys = refl

      at : (x : Bool) → names_box a ≡ x
          → (lies (A ++ a ∷ []) || (is_some_there (lying (A ++ a ∷ []) c) || is_some_there (lying A o))) ≡ (names_box a || list_any names_box (nodes c ++ nodes o))
      at true e =
          ap (λ b. b || (is_some_there (lying (A ++ a ∷ []) c) || is_some_there (lying A o))) (own_alone A a above ∙ e)
          ∙ sym (ap (λ b. b || list_any names_box (nodes c ++ nodes o)) e)
      at false e =
          let shut = own_alone A a above ∙ e in
          ap (λ b. b || (is_some_there (lying (A ++ a ∷ []) c) || is_some_there (lying A o))) shut
          ∙ ap₂ ◌||◌ (in_c shut) in_o
          ∙ sym (list_any-append names_box (nodes c) (nodes o))
          ∙ sym (ap (λ b. b || list_any names_box (nodes c ++ nodes o)) e)

  pub some_named : (A : List Unit) (f : Forest Unit) → lies A ≡ false
      → is_some_there (lying A f) ≡ list_any names_box (nodes f)
  some_named A Empty above = refl
  some_named A (Node a c o) above =
      some_here A a c o above (λ shut. some_named (A ++ a ∷ []) c shut) (some_named A o above)

-- The same lies there without the branch as with it.
pub lying_without : (f : Forest Unit) (u : ℕ) (box : BoxKey) → HasDistinctIds (each id_of f)
    → list_any (names_box box) (near u f) ≡ false → lying box [] f ≡ lying box [] (cut (has_id u) f)
lying_without f u box d none =
    let apart = none_in (names_box box) (branch (has_id u) f) (option_to_list (last_or None (filter names_some (path (has_id u) f)))) none in
    same_lying box u [] f d (by_nearest box None [] refl (path (has_id u) f) ∙ apart.1) apart.0

-- The container is as open without the branch as with it.
pub open_without : (f : Forest Unit) (u : ℕ) (box : BoxKey) (permitted : ℕ → Bool) (day : ℤ)
    → HasDistinctIds (each id_of f) → list_any (names_box box) (near u f) ≡ false
    → is_open f box permitted day ≡ is_open (cut (has_id u) f) box permitted day
unfolding is_open
open_without f u box permitted day d none =
    ap (λ (found : List (List Unit)). is_some_there found && list_all (λ way. not (is_withheld_from permitted day way)) found) (lying_without f u box d none)

-- ---- a change of the units of a branch

pub each_same : (g : Unit → Unit) (f : Forest Unit) → AllByRecursion (λ (unit : Unit). g unit ≡ unit) (nodes f)
    → each g f ≡ f
each_same g Empty all = refl
each_same g (Node a c o) all =
    let rest = both (nodes c) (nodes o) all.1 in
    ap (λ x. Node x (each g c) (each g o)) all.0 ∙ ap₂ (Node a) (each_same g c rest.0) (each_same g o rest.1)
  where
    both : (xs ys : List Unit) → AllByRecursion (λ (unit : Unit). g unit ≡ unit) (xs ++ ys)
        → AllByRecursion (λ (unit : Unit). g unit ≡ unit) xs × AllByRecursion (λ (unit : Unit). g unit ≡ unit) ys
    both [] ys all = (tt, all)
    both (x ∷ xs) ys all = let rest = both xs ys all.1 in ((all.0, rest.0), rest.1)

-- what is changed is within the branch
pub cut_alike : (g : Unit → Unit) (u : ℕ) (f : Forest Unit) → ((unit : Unit) → (g unit).id ≡ unit.id)
    → AllByRecursion (λ (unit : Unit). g unit ≡ unit) (nodes (cut (has_id u) f))
    → cut (has_id u) (each g f) ≡ cut (has_id u) f
cut_alike g u f ids all =
    sym (cut-each (has_id u) g f)
    ∙ ap (λ is. each g (cut is f)) (fun_ext (λ (unit : Unit). ap (nat_eq u) (ids unit)))
    ∙ each_same g (cut (has_id u) f) all
