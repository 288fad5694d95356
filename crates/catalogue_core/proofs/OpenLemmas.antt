-- Marks of what a container is attached to decide whether it is open.
use Rattle.std.proofs.Common.{◌≡◌, inl, inr, ℕ, ◌+◌, ◌*◌, ℤ, Bool, true, false, cond, not, ◌&&◌, ◌||◌, List, [], ◌∷◌}
use Rattle.std.proofs.Common.{◌++◌, map, filter, Some, None, nat_eq, refl, sym, ap, ap₂, subst, ◌∙◌, append_assoc}
use Rattle.tree_core.proofs.LinkPaths.{parts, other_id}
use Rattle.visibility.proofs.MarkWalks.{list_all-append}
use Rattle.visibility.proofs.Sharing.{open_by_paths}
use Rattle.visibility.specs.Marks.{is_closed as is_mark_closed, withholds, contents_paths, IsNumbered}
use Rattle.visibility.specs.declared.marks.Mark.{Mark}
use Rattle.catalogue_core.specs.ContainerContents.{is_open}
use Rattle.catalogue_core.specs.OpenMarks.{with_permit, mark_for, is_opened_above, is_clean_by_marks, OpenByMarks}
use Rattle.catalogue_core.specs.OpenMarks.{NumbersTellNothing, MarksSayClean}
use Rattle.catalogue_core.specs.UnitMarks.{mark_of, without_number}
use Rattle.catalogue_core.proofs.Common.{BoxKey, Empty, Forest, HasDistinctIds, Node, StandsIn, Unit, any_agree}
use Rattle.catalogue_core.proofs.Common.{cases_Bool, containers_of, each, eq-eqb, false≢true, filter-append, has}
use Rattle.catalogue_core.proofs.Common.{has-each, has_id, housed_below, is_same_box, is_some_there, is_unit_closed}
use Rattle.catalogue_core.proofs.Common.{is_withheld_from, list_all, list_any, list_any-append, list_any-map}
use Rattle.catalogue_core.proofs.Common.{map-append, nodes, nodes-each, own_or, path, paths_below, sharing_paths, size}
use Rattle.catalogue_core.proofs.Common.{size-each, tree}
use Rattle.catalogue_core.proofs.Members.{some_from, has_filtered}
use Rattle.catalogue_core.proofs.PublishedUnits.{before_last-push}

-- ---- lists

all_map : {A B : Type 0} (p : B → Bool) (g : A → B) (xs : List A) → list_all p (map g xs) ≡ list_all (λ x. p (g x)) xs
all_map p g [] = refl
all_map p g (x ∷ xs) = ap (λ b. p (g x) && b) (all_map p g xs)

all_agree : {A : Type 0} (p q : A → Bool) (xs : List A) → ((x : A) → StandsIn x xs → p x ≡ q x)
    → list_all p xs ≡ list_all q xs
all_agree p q [] h = refl
all_agree p q (x ∷ xs) h = ap₂ ◌&&◌ (h x (inl refl)) (all_agree p q xs (λ y i. h y (inr i)))

-- one element more, where a test lets it pass
all_kept : {A : Type 0} (p : A → Bool) (b : Bool) (x : A) (xs : List A)
    → list_all p (cond b (x ∷ xs) xs) ≡ (cond b (p x) true && list_all p xs)
all_kept p true x xs = refl
all_kept p false x xs = refl

some_kept : {A : Type 0} (b : Bool) (x : A) (xs : List A) → is_some_there (cond b (x ∷ xs) xs) ≡ (b || is_some_there xs)
some_kept true x xs = refl
some_kept false x xs = refl

some_append : {A : Type 0} (xs ys : List A) → is_some_there (xs ++ ys) ≡ (is_some_there xs || is_some_there ys)
some_append [] ys = refl
some_append (x ∷ xs) ys = refl

-- ---- the containers of the last unit of a path

housed_more : (above : List BoxKey) (A : List Unit) (u : Unit)
    → housed_below above (A ++ u ∷ []) ≡ own_or u.values.boxes (housed_below above A)
housed_more above [] u = refl
housed_more above (x ∷ A) u = housed_more (own_or x.values.boxes above) A u

-- ---- what shares containers, below a path

abbrev boxed : Unit → Bool
boxed u = is_some_there u.values.boxes

sharing_above : (A B : List Unit) (f : Forest Unit)
    → sharing_paths boxed (A ++ B) f ≡ map (λ way. A ++ way) (sharing_paths boxed B f)
sharing_above A B Empty = refl
sharing_above A B (Node u c o) =
    elim (boxed u) as (λ b. cond b (sharing_paths boxed (A ++ B) o) (((A ++ B) ++ u ∷ []) ∷ (sharing_paths boxed ((A ++ B) ++ u ∷ []) c ++ sharing_paths boxed (A ++ B) o))
    ≡ map (λ way. A ++ way) (cond b (sharing_paths boxed B o) ((B ++ u ∷ []) ∷ (sharing_paths boxed (B ++ u ∷ []) c ++ sharing_paths boxed B o)))) [
      | true ↦ sharing_above A B o
      | false ↦
          ap (λ w. w ∷ (sharing_paths boxed w c ++ sharing_paths boxed (A ++ B) o)) (append_assoc A B (u ∷ []))
          ∙ ap (λ l. (A ++ (B ++ u ∷ [])) ∷ l)
          (ap₂ ◌++◌ (sharing_above A (B ++ u ∷ []) c) (sharing_above A B o) ∙ sym (map-append (λ way. A ++ way) (sharing_paths boxed (B ++ u ∷ []) c) (sharing_paths boxed B o)))
    ]

abbrev boxed_mark : Mark → Bool
boxed_mark m = m.boxed

sharing_marks : (permitted : ℕ → Bool) (A : List Unit) (f : Forest Unit)
    → sharing_paths boxed_mark (map (mark_for permitted) A) (each (mark_for permitted) f) ≡ map (map (mark_for permitted)) (sharing_paths boxed A f)
sharing_marks permitted A Empty = refl
sharing_marks permitted A (Node u c o) =
    elim (boxed u) as (λ b. cond b (sharing_paths boxed_mark (map (mark_for permitted) A) (each (mark_for permitted) o)) ((map (mark_for permitted) A ++ mark_for permitted u ∷ []) ∷ (sharing_paths boxed_mark (map (mark_for permitted) A ++ mark_for permitted u ∷ []) (each (mark_for permitted) c) ++ sharing_paths boxed_mark (map (mark_for permitted) A) (each (mark_for permitted) o)))
    ≡ map (map (mark_for permitted)) (cond b (sharing_paths boxed A o) ((A ++ u ∷ []) ∷ (sharing_paths boxed (A ++ u ∷ []) c ++ sharing_paths boxed A o)))) [
      | true ↦ sharing_marks permitted A o
      | false ↦
          ap (λ w. w ∷ (sharing_paths boxed_mark w (each (mark_for permitted) c) ++ sharing_paths boxed_mark (map (mark_for permitted) A) (each (mark_for permitted) o))) (sym (map-append (mark_for permitted) A (u ∷ [])))
          ∙ ap (λ l. map (mark_for permitted) (A ++ u ∷ []) ∷ l)
          (ap₂ ◌++◌ (sharing_marks permitted (A ++ u ∷ []) c) (sharing_marks permitted A o) ∙ sym (map-append (map (mark_for permitted)) (sharing_paths boxed (A ++ u ∷ []) c) (sharing_paths boxed A o)))
    ]

-- ---- truths

four : (p s a t b : Bool) → (p && ((s && a) && (t && b))) ≡ ((p && (s && t)) && (a && b))
four false s a t b = refl
four true false a t b = refl
four true true a false false = and_false a
  where
    and_false : (a : Bool) → (a && false) ≡ false
    and_false true = refl
    and_false false = refl
four true true a false true = and_false a
  where
    and_false : (a : Bool) → (a && false) ≡ false
    and_false true = refl
    and_false false = refl
four true true a true b = refl

own : (b h p s a t o : Bool)
    → (cond b p true && ((cond b s true && a) && (cond h t true && o))) ≡ (cond h t true && (cond b (p && s) true && (a && o)))
own true h p s a t o = four p s a (cond h t true) o ∙ turn p s (cond h t true) a o
  where
    turn : (p s t a o : Bool) → ((p && (s && t)) && (a && o)) ≡ (t && ((p && s) && (a && o)))
    turn false s true a o = refl
    turn false s false a o = refl
    turn true false true a o = refl
    turn true false false a o = refl
    turn true true true a o = refl
    turn true true false a o = refl
own false h p s a t o = turn a (cond h t true) o
  where
    turn : (a t o : Bool) → (a && (t && o)) ≡ (t && (a && o))
    turn true t o = refl
    turn false true o = refl
    turn false false o = refl

handed : (h p s a t o : Bool)
    → (cond h p true && ((cond h s true && a) && (cond h t true && o))) ≡ (cond h (p && (s && t)) true && (a && o))
handed true p s a t o = four p s a t o
handed false p s a t o = refl

module _ (box : BoxKey) (permitted : ℕ → Bool) (today : ℤ) where
  abbrev in_it : List BoxKey → Bool
  in_it boxes = list_any (is_same_box box) boxes

  abbrev names_it : Unit → Bool
  names_it u = in_it u.values.boxes

  abbrev seen : List Unit → Bool
  seen way = not (is_withheld_from permitted today way)

  abbrev lies_there : List Unit → Bool
  lies_there way = in_it (containers_of way)

  -- ---- marks of a way

  abbrev mark : Unit → Mark
  mark = mark_for permitted

  same_closed : (u : Unit) → is_mark_closed today (mark u) ≡ is_unit_closed today u
  same_closed u = elim u.until as (λ o. is_mark_closed today (record (mark u) { until = o }) ≡ is_unit_closed today (record u { until = o })) [ None ↦ refl | Some day ↦ refl ]

  seen_marks : (way : List Unit) → not (withholds today false (map mark way)) ≡ seen way
  seen_marks way =
      ap not (ap₂ ◌||◌ (list_any-map (λ (m : Mark). m.draft) mark way)
      (ap₂ ◌&&◌ (list_any-map (is_mark_closed today) mark way ∙ any_agree (λ u. is_mark_closed today (mark u)) (is_unit_closed today) way same_closed)
      (ap (λ b. not (false || b)) (list_any-map (λ (m : Mark). m.permit) mark way))))

  -- whether nothing is withheld of a unit and of what shares its containers, each by its whole path
  abbrev clean_there : List Unit → Unit → Forest Unit → Bool
  clean_there A u c = list_all seen ((A ++ u ∷ []) ∷ sharing_paths boxed (A ++ u ∷ []) c)

  clean_marks : (A : List Unit) (u : Unit) (c : Forest Unit)
      → is_clean_by_marks today (map mark (A ++ u ∷ [])) (Node (mark u) (each mark c) Empty) ≡ clean_there A u c
  clean_marks A u c =
      let M = map mark A in
      let ways = contents_paths (mark u) (each mark c) in
      let own_ways = (u ∷ []) ∷ sharing_paths boxed (u ∷ []) c in
      let are : ways ≡ map (map mark) own_ways = ap (λ l. (mark u ∷ []) ∷ l) (sharing_marks permitted (u ∷ []) c) in
      ap (λ l. not (withholds today false l) && list_all (λ way. not (withholds today (is_opened_above l) way)) ways) (map-append mark A (u ∷ []))
      ∙ ap (λ l. not (withholds today false (M ++ mark u ∷ [])) && list_all (λ way. not (withholds today (list_any (λ (m : Mark). m.permit) l) way)) ways) (before_last-push M (mark u))
      ∙ open_by_paths today M (mark u) (each mark c)
      ∙ ap (list_all (λ way. not (withholds today false (M ++ way)))) are
      ∙ all_map (λ way. not (withholds today false (M ++ way))) (map mark) own_ways
      ∙ all_agree (λ way. not (withholds today false (M ++ map mark way))) (λ way. seen (A ++ way)) own_ways (λ way h. ap (λ l. not (withholds today false l)) (sym (map-append mark A way)) ∙ seen_marks (A ++ way))
      ∙ sym (all_map seen (λ way. A ++ way) own_ways)
      ∙ ap (λ l. list_all seen ((A ++ u ∷ []) ∷ l)) (sym (sharing_above A (u ∷ []) c))

  -- ---- what lies in the container, unit by unit that names it

  abbrev clean_all : List Unit → Forest Unit → Bool
  clean_all A Empty = true
  clean_all A (Node u c o) = cond (names_it u) (clean_there A u c) true && (clean_all (A ++ u ∷ []) c && clean_all A o)

  below_it : List Unit → Forest Unit → List (List Unit)
  below_it A g = filter lies_there (paths_below A g)

  parted : (A : List Unit) (u : Unit) (c o : Forest Unit)
      → list_all seen (below_it A (Node u c o)) ≡ (cond (lies_there (A ++ u ∷ [])) (seen (A ++ u ∷ [])) true && (list_all seen (below_it (A ++ u ∷ []) c) && list_all seen (below_it A o)))
  unfolding below_it
  parted A u c o =
      let B = A ++ u ∷ [] in
      all_kept seen (lies_there B) B (filter lies_there (paths_below B c ++ paths_below A o))
      ∙ ap (λ l. cond (lies_there B) (seen B) true && list_all seen l) (filter-append lies_there (paths_below B c) (paths_below A o))
      ∙ ap (λ b. cond (lies_there B) (seen B) true && b) (list_all-append seen (filter lies_there (paths_below B c)) (filter lies_there (paths_below A o)))

  abbrev shared : List Unit → Forest Unit → Bool
  shared A g = list_all seen (sharing_paths boxed A g)

  -- what is seen of a unit with what lies below and beside it, where it lies in the container or not, names it or not,
  -- and names any or none
  abbrev Agrees : List Unit → Unit → Forest Unit → Forest Unit → Bool → Bool → Bool → Type 0
  Agrees A u c o lies names some =
      (cond lies (seen (A ++ u ∷ [])) true && ((cond lies (shared (A ++ u ∷ []) c) true && clean_all (A ++ u ∷ []) c) && (cond (lies_there A) (shared A o) true && clean_all A o)))
      ≡ (cond (lies_there A) (list_all seen (cond some (sharing_paths boxed A o) ((A ++ u ∷ []) ∷ (sharing_paths boxed (A ++ u ∷ []) c ++ sharing_paths boxed A o)))) true
      && (cond names (clean_there A u c) true && (clean_all (A ++ u ∷ []) c && clean_all A o)))

  by_boxes : (A : List Unit) (u : Unit) (c o : Forest Unit) (boxes : List BoxKey)
      → containers_of (A ++ u ∷ []) ≡ own_or boxes (containers_of A)
      → Agrees A u c o (lies_there (A ++ u ∷ [])) (in_it boxes) (is_some_there boxes)
  by_boxes A u c o [] e =
      subst (λ b. Agrees A u c o b false false) (sym (ap in_it e))
      (handed (lies_there A) (seen (A ++ u ∷ [])) (shared (A ++ u ∷ []) c) (clean_all (A ++ u ∷ []) c) (shared A o) (clean_all A o)
      ∙ ap (λ s. cond (lies_there A) (seen (A ++ u ∷ []) && s) true && (clean_all (A ++ u ∷ []) c && clean_all A o)) (sym (list_all-append seen (sharing_paths boxed (A ++ u ∷ []) c) (sharing_paths boxed A o))))
  by_boxes A u c o (b ∷ boxes) e =
      subst (λ l. Agrees A u c o l (in_it (b ∷ boxes)) true) (sym (ap in_it e))
      (own (in_it (b ∷ boxes)) (lies_there A) (seen (A ++ u ∷ [])) (shared (A ++ u ∷ []) c) (clean_all (A ++ u ∷ []) c) (shared A o) (clean_all A o))

  nothing_below : (h : Bool) → true ≡ (cond h true true && true)
  nothing_below true = refl
  nothing_below false = refl

  unit_by_unit : (A : List Unit) (g : Forest Unit)
      → list_all seen (below_it A g) ≡ (cond (lies_there A) (shared A g) true && clean_all A g)
  unfolding below_it
  unit_by_unit A Empty = nothing_below (lies_there A)
  unit_by_unit A (Node u c o) =
      let B = A ++ u ∷ [] in
      parted A u c o
      ∙ ap (λ b. cond (lies_there B) (seen B) true && b) (ap₂ ◌&&◌ (unit_by_unit B c) (unit_by_unit A o))
      ∙ by_boxes A u c o u.values.boxes (housed_more [] A u)

  -- ---- and some unit names it where something lies in it

  some_names : (A : List Unit) (g : Forest Unit) → lies_there A ≡ false
      → is_some_there (below_it A g) ≡ is_some_there (filter names_it (nodes g))
  unfolding below_it
  some_names A Empty h = refl
  some_names A (Node u c o) h =
      let B = A ++ u ∷ [] in
      some_kept (lies_there B) B (filter lies_there (paths_below B c ++ paths_below A o))
      ∙ ap (λ l. lies_there B || is_some_there l) (filter-append lies_there (paths_below B c) (paths_below A o))
      ∙ ap (λ b. lies_there B || b) (some_append (filter lies_there (paths_below B c)) (filter lies_there (paths_below A o)) ∙ ap (λ b. is_some_there (below_it B c) || b) (some_names A o h))
      ∙ by_test (λ e. some_names B c e) u.values.boxes (housed_more [] A u)
      ∙ sym (some_kept (names_it u) u (filter names_it (nodes c ++ nodes o)) ∙ ap (λ l. names_it u || is_some_there l) (filter-append names_it (nodes c) (nodes o))
      ∙ ap (λ b. names_it u || b) (some_append (filter names_it (nodes c)) (filter names_it (nodes o))))
    where
      rest : (lies_there (A ++ u ∷ []) ≡ false → is_some_there (below_it (A ++ u ∷ []) c) ≡ is_some_there (filter names_it (nodes c)))
          → (b : Bool) → lies_there (A ++ u ∷ []) ≡ b
          → (lies_there (A ++ u ∷ []) || (is_some_there (below_it (A ++ u ∷ []) c) || is_some_there (filter names_it (nodes o)))) ≡ (b || (is_some_there (filter names_it (nodes c)) || is_some_there (filter names_it (nodes o))))
      rest ih true e = ap (λ l. l || (is_some_there (below_it (A ++ u ∷ []) c) || is_some_there (filter names_it (nodes o)))) e
      rest ih false e = ap₂ (λ l s. l || (s || is_some_there (filter names_it (nodes o)))) e (ih e)

      by_test : (lies_there (A ++ u ∷ []) ≡ false → is_some_there (below_it (A ++ u ∷ []) c) ≡ is_some_there (filter names_it (nodes c)))
          → (boxes : List BoxKey) → containers_of (A ++ u ∷ []) ≡ own_or boxes (containers_of A)
          → (lies_there (A ++ u ∷ []) || (is_some_there (below_it (A ++ u ∷ []) c) || is_some_there (filter names_it (nodes o)))) ≡ (in_it boxes || (is_some_there (filter names_it (nodes c)) || is_some_there (filter names_it (nodes o))))
      by_test ih [] e = rest ih false (ap in_it e ∙ h)
      by_test ih (b ∷ boxes) e = rest ih (in_it (b ∷ boxes)) (ap in_it e)

  -- ---- by the numbers of the units

  clean_of : List Unit → Forest Unit → Unit → Bool
  clean_of A g u = is_clean_by_marks today (map mark (A ++ path (has_id u.id) g)) (each mark (tree (has_id u.id) g))

  by_numbers : (A : List Unit) (g : Forest Unit) → HasDistinctIds (each (λ (u : Unit). u.id) g)
      → clean_all A g ≡ list_all (clean_of A g) (filter names_it (nodes g))
  unfolding clean_of
  by_numbers A Empty d = refl
  by_numbers A (Node a c o) d =
      let p = parts a.id (each (λ (u : Unit). u.id) c) (each (λ (u : Unit). u.id) o) d in
      let g = Node a c o in
      let B = A ++ a ∷ [] in
      let here : clean_there A a c ≡ clean_of A g a = sym (clean_marks A a c) ∙ sym (rw (eq-eqb a.id a.id refl) refl) in
      let below : clean_all B c ≡ list_all (clean_of A g) (filter names_it (nodes c)) =
      by_numbers B c p.children_distinct ∙ all_agree (clean_of B c) (clean_of A g) (filter names_it (nodes c)) (λ u h.
      let there = in_part u c (has_filtered names_it (nodes c) u h).0 in
      let not_a = other_id a.id u.id (each (λ (u : Unit). u.id) c) p.not_below (has-each (nat_eq u.id) (λ (u : Unit). u.id) c ∙ there) in
      sym (rw (not_a, there) (ap (λ l. is_clean_by_marks today (map mark l) (each mark (tree (has_id u.id) c))) (sym (append_assoc A (a ∷ []) (path (has_id u.id) c)))))) in
      let beside : clean_all A o ≡ list_all (clean_of A g) (filter names_it (nodes o)) =
      by_numbers A o p.others_distinct ∙ all_agree (clean_of A o) (clean_of A g) (filter names_it (nodes o)) (λ u h.
      let there = in_part u o (has_filtered names_it (nodes o) u h).0 in
      let there' = has-each (nat_eq u.id) (λ (u : Unit). u.id) o ∙ there in
      let not_a = other_id a.id u.id (each (λ (u : Unit). u.id) o) p.not_beside there' in
      let not_c : has (has_id u.id) c ≡ false =
      sym (has-each (nat_eq u.id) (λ (u : Unit). u.id) c)
      ∙ not_first u.id (each (λ (u : Unit). u.id) c) (each (λ (u : Unit). u.id) o) p.apart there' in
      sym (rw (not_a, not_c) refl)) in
      ap₂ (λ x y. cond (names_it a) x true && y) here (ap₂ ◌&&◌ below beside)
      ∙ sym (all_kept (clean_of A g) (names_it a) a (filter names_it (nodes c ++ nodes o))
      ∙ ap (λ l. cond (names_it a) (clean_of A g a) true && list_all (clean_of A g) l) (filter-append names_it (nodes c) (nodes o))
      ∙ ap (λ b. cond (names_it a) (clean_of A g a) true && b) (list_all-append (clean_of A g) (filter names_it (nodes c)) (filter names_it (nodes o))))
    where
      in_part : (u : Unit) (g : Forest Unit) → StandsIn u (nodes g) → has (has_id u.id) g ≡ true
      in_part u g h = some_from (has_id u.id) (nodes g) u h (eq-eqb u.id u.id refl)

      not_first : (x : ℕ) (c o : Forest ℕ) → ((y : ℕ) → has (nat_eq y) c ≡ true → has (nat_eq y) o ≡ false)
          → has (nat_eq x) o ≡ true → has (nat_eq x) c ≡ false
      not_first x c o apart h = elim (cases_Bool (has (nat_eq x) c)) [ inl t ↦ absurd (false≢true (sym (apart x t) ∙ h)) | inr n ↦ n ]

pub open_by_marks : OpenByMarks
unfolding is_open below_it clean_of
open_by_marks f box permitted today d =
    ap₂ ◌&&◌ (some_names box permitted today [] f refl) (unit_by_unit box permitted today [] f ∙ by_numbers box permitted today [] f d)

-- ---- numbers

any_bare : (p : Mark → Bool) → ((m : Mark) → p (without_number m) ≡ p m) → (marks : List Mark)
    → list_any p marks ≡ list_any p (map without_number marks)
any_bare p same marks = sym (list_any-map p without_number marks ∙ any_agree (λ m. p (without_number m)) p marks same)

bare_closed : (today : ℤ) (m : Mark) → is_mark_closed today (without_number m) ≡ is_mark_closed today m
bare_closed today m = elim m.until as (λ o. is_mark_closed today (without_number (record m { until = o })) ≡ is_mark_closed today (record m { until = o })) [ None ↦ refl | Some day ↦ refl ]

bare_way : (today : ℤ) (above : Bool) (way : List Mark)
    → not (withholds today above way) ≡ not (withholds today above (map without_number way))
bare_way today above way =
    ap not (ap₂ ◌||◌ (any_bare (λ (m : Mark). m.draft) (λ _. refl) way)
    (ap₂ ◌&&◌ (any_bare (is_mark_closed today) (bare_closed today) way) (ap (λ b. not (above || b)) (any_bare (λ (m : Mark). m.permit) (λ _. refl) way))))

bare_above : (path : List Mark) → is_opened_above path ≡ is_opened_above (map without_number path)
bare_above [] = refl
bare_above (m ∷ []) = refl
bare_above (m ∷ n ∷ path) = ap (λ b. m.permit || b) (bare_above (n ∷ path))

bare_sharing : (A : List Mark) (f : Forest Mark)
    → sharing_paths boxed_mark (map without_number A) (each without_number f) ≡ map (map without_number) (sharing_paths boxed_mark A f)
bare_sharing A Empty = refl
bare_sharing A (Node m c o) =
    elim m.boxed as (λ b. cond b (sharing_paths boxed_mark (map without_number A) (each without_number o)) ((map without_number A ++ without_number m ∷ []) ∷ (sharing_paths boxed_mark (map without_number A ++ without_number m ∷ []) (each without_number c) ++ sharing_paths boxed_mark (map without_number A) (each without_number o)))
    ≡ map (map without_number) (cond b (sharing_paths boxed_mark A o) ((A ++ m ∷ []) ∷ (sharing_paths boxed_mark (A ++ m ∷ []) c ++ sharing_paths boxed_mark A o)))) [
      | true ↦ bare_sharing A o
      | false ↦
          ap (λ w. w ∷ (sharing_paths boxed_mark w (each without_number c) ++ sharing_paths boxed_mark (map without_number A) (each without_number o))) (sym (map-append without_number A (m ∷ [])))
          ∙ ap (λ l. map without_number (A ++ m ∷ []) ∷ l)
          (ap₂ ◌++◌ (bare_sharing (A ++ m ∷ []) c) (bare_sharing A o) ∙ sym (map-append (map without_number) (sharing_paths boxed_mark (A ++ m ∷ []) c) (sharing_paths boxed_mark A o)))
    ]

pub numbers_tell_nothing : NumbersTellNothing
numbers_tell_nothing today path Empty = bare_way today false path
numbers_tell_nothing today path (Node unit below others) =
    let ways = contents_paths unit below in
    let above = is_opened_above path in
    ap₂ ◌&&◌ (bare_way today false path)
    (all_agree (λ way. not (withholds today above way)) (λ way. not (withholds today above (map without_number way))) ways (λ way h. bare_way today above way)
    ∙ sym (all_map (λ way. not (withholds today above way)) (map without_number) ways)
    ∙ ap (list_all (λ way. not (withholds today above way))) (ap (λ l. (without_number unit ∷ []) ∷ l) (sym (bare_sharing (unit ∷ []) below)))
    ∙ ap (λ b. list_all (λ way. not (withholds today b way)) (contents_paths (without_number unit) (each without_number below))) (bare_above path))

-- ---- the marks that are read

tree_alone : (is : Unit → Bool) (f : Forest Unit) → has is f ≡ true
    → (u : Unit) × (c : Forest Unit) × (tree is f ≡ Node u c Empty)
tree_alone is Empty h = absurd (false≢true h)
tree_alone is (Node u c o) h = elim (cases_Bool (is u)) [
  | inl t ↦ (u, c, rw t refl)
  | inr n ↦ elim (cases_Bool (has is c)) [
    | inl y ↦ let it = tree_alone is c y in (it.0, it.1, rw (n, y) it.2)
    | inr m ↦ let it = tree_alone is o (rw (n, list_any-append is (nodes c) (nodes o), m) at h) in (it.0, it.1, rw (n, m) it.2)
  ]
]

alone : (g : Forest Mark) (u : Mark) (c : Forest Mark) → each without_number g ≡ Node u c Empty
    → (m : Mark) × (b : Forest Mark) × (g ≡ Node m b Empty)
alone Empty u c e = absurd (cc)
alone (Node m b Empty) u c e = (m, b, refl)
alone (Node m b (Node x y z)) u c e = absurd (let k : Node (without_number x) (each without_number y) (each without_number z) ≡ Empty = cc in cc)

-- permits change no numbers, and numbers no permits
numbered_permits : (permitted : ℕ → Bool) (k : ℕ) (f : Forest Mark) → IsNumbered k f
    → IsNumbered k (each (with_permit permitted) f)
numbered_permits permitted k Empty h = tt
numbered_permits permitted k (Node m c o) h =
    let n = size-each (with_permit permitted) c in
    let low = h.0 in
    let high : m.rgt ≡ k + 2 * size (each (with_permit permitted) c) + 1 = h.1 ∙ ap (λ s. k + 2 * s + 1) (sym n) in
    (low, high, numbered_permits permitted (k + 1) c h.2, subst (λ s. IsNumbered (k + 2 * s + 2) (each (with_permit permitted) o)) (sym n) (numbered_permits permitted (k + 2 * size c + 2) o h.3))

permits_after : (permitted : ℕ → Bool) (marks : List Mark)
    → map without_number (map (with_permit permitted) marks) ≡ map (with_permit permitted) (map without_number marks)
permits_after permitted [] = refl
permits_after permitted (m ∷ marks) =
    ap (λ l. without_number (with_permit permitted m) ∷ l) (permits_after permitted marks)

permits_below : (permitted : ℕ → Bool) (f : Forest Mark)
    → each without_number (each (with_permit permitted) f) ≡ each (with_permit permitted) (each without_number f)
permits_below permitted Empty = refl
permits_below permitted (Node m c o) =
    ap₂ (Node (without_number (with_permit permitted m))) (permits_below permitted c) (permits_below permitted o)

marks_for : (permitted : ℕ → Bool) (units : List Unit)
    → map (with_permit permitted) (map mark_of units) ≡ map (mark_for permitted) units
marks_for permitted [] = refl
marks_for permitted (u ∷ units) = ap (λ l. mark_for permitted u ∷ l) (marks_for permitted units)

forest_for : (permitted : ℕ → Bool) (f : Forest Unit)
    → each (with_permit permitted) (each mark_of f) ≡ each (mark_for permitted) f
forest_for permitted Empty = refl
forest_for permitted (Node u c o) = ap₂ (Node (mark_for permitted u)) (forest_for permitted c) (forest_for permitted o)

pub marks_say_clean : MarksSayClean
marks_say_clean f unit permitted today marks branch path_clean contents_clean there way walk says_path says_contents =
    let for = with_permit permitted in
    let shape = tree_alone (has_id unit) f there in
    let only = alone walk.forest (mark_of shape.0) (each mark_of shape.1) (walk.theirs ∙ ap (each mark_of) shape.2) in
    let alike : each for walk.forest ≡ Node (for only.0) (each for only.1) Empty = ap (each for) only.2 in
    let says = says_contents walk.first (for only.0) (each for only.1) (subst (IsNumbered walk.first) alike (numbered_permits permitted walk.first walk.forest walk.numbered)) (ap (map for) walk.walked ∙ sym (nodes-each for walk.forest) ∙ ap nodes alike) in
    ap₂ ◌&&◌ says_path says
    ∙ ap (is_clean_by_marks today (map for marks)) (sym alike)
    ∙ numbers_tell_nothing today (map for marks) (each for walk.forest)
    ∙ ap (λ l. is_clean_by_marks today l (each without_number (each for walk.forest))) (permits_after permitted marks ∙ ap (map for) way ∙ marks_for permitted (path (has_id unit) f))
    ∙ ap (is_clean_by_marks today (map (mark_for permitted) (path (has_id unit) f))) (permits_below permitted walk.forest ∙ ap (each for) walk.theirs ∙ forest_for permitted (tree (has_id unit) f))
