-- What a forest of marks tells of the units whose marks they are.
use Rattle.std.proofs.Common.{◌≡◌, ℕ, Bool, true, false, cond, List, ap, sym, subst, ◌∙◌, map, nat_eq, refl}
use Rattle.std.specs.Prelude.{Option, Result, Ok, Err, IfOk, ◌+◌, ◌*◌}
use Rattle.tree_core.proofs.EachLemmas.{path-each, tree-each}
use Rattle.tree_core.proofs.TopsLemmas.{part_below-each, tops-each}
use Rattle.tree_core.specs.Forest.{Empty, Forest, HasDistinctIds, Node, each, has, nodes, path, size, tree}
use Rattle.tree_core.specs.Tops.{part_below, tops}
use Rattle.visibility.specs.Marks.{IsNumbered}
use Rattle.visibility.specs.declared.marks.Mark.{Mark}
use Rattle.known_forest.specs.KnownMarks.{AreMarksOf, has_id as has_mark}
use Rattle.catalogue_core.specs.UnitMarks.{AreMarks, AreWalkMarks, mark_of, without_number}
use Rattle.catalogue_core.specs.Units.{Unit, has_id}
use Rattle.known_units.specs.KnownUnits.{KnowsUnits}

-- ---- other things in the nodes

pub each-each : {A B C : Type 0} (g : B → C) (h : A → B) (f : Forest A) → each g (each h f) ≡ each (λ a. g (h a)) f
each-each g h Empty = refl
each-each g h (Node a c o) =
    ap (λ x. Node (g (h a)) x (each g (each h o))) (each-each g h c) ∙ ap (λ x. Node (g (h a)) (each (λ a. g (h a)) c) x) (each-each g h o)

abbrev pub mark_id : Mark → ℕ
mark_id mark = mark.id

abbrev pub unit_id : Unit → ℕ
unit_id unit = unit.id

-- the marks have the units' ids
pub same_ids : (f : Forest Unit) (m : Forest Mark) → each without_number m ≡ each mark_of f
    → each mark_id m ≡ each unit_id f
same_ids f m e = sym (each-each mark_id without_number m) ∙ ap (each mark_id) e ∙ each-each mark_id mark_of f

pub marks_are : (f : Forest Unit) (marks : List Mark) (it : KnowsUnits f marks) → AreMarksOf it.walk.forest marks
marks_are f marks it = record {
  first = it.walk.first;
  numbered = it.walk.numbered;
  distinct = subst HasDistinctIds (sym (same_ids f it.walk.forest it.walk.theirs)) it.distinct;
  walked = it.walk.walked;
}

-- ---- a path

pub path_told : (f : Forest Unit) (m : Forest Mark) (u : ℕ) (marks : List Mark) → each without_number m ≡ each mark_of f
    → marks ≡ path (has_mark u) m → AreMarks (path (has_id u) f) marks
path_told f m u marks e is =
    ap (map without_number) is ∙ sym (path-each (has_mark u) without_number m) ∙ ap (path (has_mark u)) e
    ∙ path-each (has_mark u) mark_of f

-- ---- a branch

-- a part of a numbered forest is numbered from some number on
pub record PartNumbered (f : Forest Mark) : Type 0 where
  pub from : ℕ
  pub numbered : IsNumbered from f

tree_numbered : (is : Mark → Bool) (k : ℕ) (f : Forest Mark) → IsNumbered k f → PartNumbered (tree is f)
tree_numbered is k Empty n = record { from = k; numbered = n }
tree_numbered is k (Node a c o) n =
    at (is a) (has is c) (tree_numbered is (k + 1) c n.2) (tree_numbered is (k + 2 * size c + 2) o n.3)
  where
    at : (b d : Bool) → PartNumbered (tree is c) → PartNumbered (tree is o)
        → PartNumbered (cond b (Node a c Empty) (cond d (tree is c) (tree is o)))
    at true d x y = record { from = k; numbered = (n.0, n.1, n.2, tt) }
    at false true x y = x
    at false false x y = y

pub branch_told : (f : Forest Unit) (marks : List Mark) (it : KnowsUnits f marks) (u : ℕ) (part : List Mark)
    → part ≡ nodes (tree (has_mark u) it.walk.forest) → AreWalkMarks (tree (has_id u) f) part
branch_told f marks it u part is =
    let m = it.walk.forest in
    let numbers = tree_numbered (has_mark u) it.walk.first m it.walk.numbered in
    record {
      first = numbers.from;
      forest = tree (has_mark u) m;
      numbered = numbers.numbered;
      theirs = tree-each (has_mark u) without_number m ∙ ap (tree (has_mark u)) it.walk.theirs ∙ sym (tree-each (has_mark u) mark_of f);
      walked = is;
    }

-- ---- right below

pub below_told : (f : Forest Unit) (m : Forest Mark) (p : Option ℕ) (ids : List ℕ)
    → each without_number m ≡ each mark_of f → ids ≡ map mark_id (tops (part_below has_mark p m))
    → ids ≡ map unit_id (tops (part_below has_id p f))
below_told f m p ids e is =
    is ∙ sym (tops-each mark_id (part_below has_mark p m)) ∙ sym (ap tops (part_below-each nat_eq mark_id p m))
    ∙ ap (λ g. tops (part_below nat_eq p g)) (same_ids f m e) ∙ ap tops (part_below-each nat_eq unit_id p f)
    ∙ tops-each unit_id (part_below has_id p f)

-- ---- a result

pub if_ok : {X E : Type 0} (r : Result X E) (P Q : X → Type 0) → ((x : X) → P x → Q x) → IfOk r P → IfOk r Q
if_ok (Ok x) P Q f h = f x h
if_ok (Err e) P Q f h = tt
