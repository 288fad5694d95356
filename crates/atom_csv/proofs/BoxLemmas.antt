-- Containers, one more at a time.
use Rattle.std.proofs.Common.{◌≡◌, ◌∙◌, ◌+◌, ◌<◌, ◌++◌, ◌∷◌, [], ℕ, suc, Bool, true, false, List, length, take, get_or}
use Rattle.std.proofs.Common.{refl, sym, ap, ap₂, subst, arith, Bor, cond, Ordering}
use Rattle.std.proofs.Math.Bool.{and_assoc}
use Rattle.std.proofs.Math.ListN.{get_or-map}
use Rattle.std.proofs.lemmas.List.{append-nil}
use Rattle.std.proofs.lemmas.List.FromFn.{get_or-enumerate_from, length-enumerate_from}
use Rattle.std.proofs.lemmas.Map.Text.{is_eq-slice_cmp}
use Rattle.std.specs.BTreeSet.{BTreeSet, contains}
use Rattle.std.specs.Cmp.Lexicographic.{slice_cmp}
use Rattle.std.specs.Ordering.{is_eq, nat_cmp, ordering_then}
use Rattle.std.specs.Prelude.{not, filter}
use Rattle.std.specs.declared.cmp.Ordering.TheVariants as ord
use Rattle.isad_core.proofs.BoxLemmas.{distinct_more, stood_more}
use Rattle.atom_csv.proofs.Common.{BoxKey, Bytes, HoldsContainers, borrowed_fields, box_with, bytes_eq, distinct}
use Rattle.atom_csv.proofs.Common.{entry_at, enumerate_from, filter-append, has_box, has_no_bytes, if◌then◌else◌}
use Rattle.atom_csv.proofs.Common.{is_named_box, is_same_box, length-map, list_any, take-suc, triple, triples, ◌&&◌}
use Rattle.atom_csv.proofs.Common.{◌||◌}

-- ---- the set in which the code keeps them

abbrev pub Told : Type 0
Told = Bor Bytes × Bor Bytes × Bor Bytes

abbrev pub key_of : Told → BoxKey
key_of k = box_with k.0.now k.1.now k.2.now

-- how the set orders them
abbrev pub compared : Told → Told → Ordering
compared a b = ordering_then (ordering_then (slice_cmp nat_cmp a.0.now b.0.now) (slice_cmp nat_cmp a.1.now b.1.now)) (slice_cmp nat_cmp a.2.now b.2.now)

eq_then : (a b : Ordering) → is_eq (ordering_then a b) ≡ (is_eq a && is_eq b)
eq_then ord.Less b = refl
eq_then ord.Equal b = refl
eq_then ord.Greater b = refl

pub same_compared : (a b : Told) → is_eq (compared a b) ≡ is_same_box (key_of a) (key_of b)
same_compared a b =
    eq_then _ (slice_cmp nat_cmp a.2.now b.2.now)
    ∙ (ap₂ (λ x y. x && y) (eq_then (slice_cmp nat_cmp a.0.now b.0.now) (slice_cmp nat_cmp a.1.now b.1.now) ∙ ap₂ (λ x y. x && y) (is_eq-slice_cmp a.0.now b.0.now) (is_eq-slice_cmp a.1.now b.1.now)) (is_eq-slice_cmp a.2.now b.2.now)
    ∙ and_assoc (bytes_eq a.0.now b.0.now) (bytes_eq a.1.now b.1.now) (bytes_eq a.2.now b.2.now))

any_compared : (a : Told) (ks : List Told)
    → list_any (λ k. is_eq (compared a k)) ks ≡ list_any (λ k. is_same_box (key_of a) (key_of k)) ks
any_compared a [] = refl
any_compared a (k ∷ ks) = ap₂ (λ x y. x || y) (same_compared a k) (any_compared a ks)

pub contains_has : (known : BTreeSet Told) (a : Told) → contains compared known a ≡ has_box known (key_of a)
contains_has known a = any_compared a known.keys

-- what a query stands for, by reference
abbrev pub lent : Bytes → Bor Bytes
lent text = record { ref_ptr = (0, 0); now = text }

abbrev pub asked : BoxKey → Told
asked q = (lent q.name, lent q.location, lent q.kind)

pub has_more : (old new : BTreeSet Told) (k : Told)
    → ((q : Told) → contains compared new q ≡ cond (is_eq (compared k q)) true (contains compared old q))
    → (q : BoxKey) → has_box new q ≡ (is_same_box (key_of k) q || has_box old q)
has_more old new k updates q =
    sym (contains_has new (asked q)) ∙ (updates (asked q) ∙ (ap₂ (λ (b c : Bool). cond b true c) (same_compared k (asked q)) (contains_has old (asked q)) ∙ go (is_same_box (key_of k) q)))
  where
    go : (b : Bool) → cond b true (has_box old q) ≡ (b || has_box old q)
    go true = refl
    go false = refl

-- ---- one more container

length_seen : (xs : List (Bor Bytes)) → length (borrowed_fields xs) ≡ length xs
length_seen [] = refl
length_seen (x ∷ xs) = ap suc (length_seen xs)

-- the triples, one more at a time
triples_more : (names : List (Bor Bytes)) (locations kinds : List Bytes) (i : ℕ) (d : Bor Bytes) → i < length names
    → take (i + 1) (triples (borrowed_fields names) locations kinds)
    ≡ take i (triples (borrowed_fields names) locations kinds) ++ box_with (get_or names i d).now (entry_at locations i) (entry_at kinds i) ∷ []
triples_more names locations kinds i d lt =
    let next : i + 1 ≡ suc i = omega arith in
    let long : length (triples (borrowed_fields names) locations kinds) ≡ length names =
    length-map (enumerate_from 0 (borrowed_fields names)) (triple locations kinds) ∙ (length-enumerate_from 0 (borrowed_fields names) ∙ length_seen names) in
    let there : i < length (borrowed_fields names) = subst (λ n. i < n) (sym (length_seen names)) lt in
    let within : i < length (triples (borrowed_fields names) locations kinds) = subst (λ n. i < n) (sym long) lt in
    let zero_i : 0 + i ≡ i = omega arith in
    ap (λ n. take n (triples (borrowed_fields names) locations kinds)) next
    ∙ (take-suc (triples (borrowed_fields names) locations kinds) i (triple locations kinds (0, d.now)) within
    ∙ ap (λ b. take i (triples (borrowed_fields names) locations kinds) ++ b ∷ [])
    (get_or-map (triple locations kinds) (enumerate_from 0 (borrowed_fields names)) i (0, d.now)
    ∙ (ap (triple locations kinds) (get_or-enumerate_from 0 (borrowed_fields names) i (0, d.now) there)
    ∙ ap₂ (λ n text. triple locations kinds (n, text)) zero_i (get_or-map (λ (x : Bor Bytes). x.now) names i d))))

-- the triples with a name, one more
pub named_more : (names : List (Bor Bytes)) (locations kinds : List Bytes) (i : ℕ) (d : Bor Bytes) → i < length names
    → filter is_named_box (take i (triples (borrowed_fields names) locations kinds))
    ++ (if has_no_bytes (get_or names i d).now then [] else box_with (get_or names i d).now (entry_at locations i) (entry_at kinds i) ∷ [])
    ≡ filter is_named_box (take (i + 1) (triples (borrowed_fields names) locations kinds))
named_more names locations kinds i d lt =
    let before = take i (triples (borrowed_fields names) locations kinds) in
    let b = box_with (get_or names i d).now (entry_at locations i) (entry_at kinds i) in
    ap (λ bs. filter is_named_box before ++ bs) (go (has_no_bytes (get_or names i d).now))
    ∙ sym (ap (filter is_named_box) (triples_more names locations kinds i d lt) ∙ filter-append is_named_box before (b ∷ []))
  where
    go : (e : Bool) → (if e then [] else box_with (get_or names i d).now (entry_at locations i) (entry_at kinds i) ∷ [])
        ≡ cond (not e) (box_with (get_or names i d).now (entry_at locations i) (entry_at kinds i) ∷ []) []
    go true = refl
    go false = refl

-- ---- what is kept, after one more was told

abbrev pub Set : Type 0
Set = BTreeSet Told

-- a blank name adds nothing
pub holds_blank : (known : Set) (boxes told : List BoxKey) (b : BoxKey) → has_no_bytes b.name ≡ true
    → HoldsContainers known boxes told
    → HoldsContainers known boxes (told ++ (if has_no_bytes b.name then [] else b ∷ []))
holds_blank known boxes told b blank h =
    subst (HoldsContainers known boxes) (sym (ap (λ (e : Bool). told ++ (if e then [] else b ∷ [])) blank ∙ append-nil told)) h

stood_after : (old new : Set) (boxes told : List BoxKey) (b : BoxKey) → HoldsContainers old boxes told
    → ((q : BoxKey) → has_box new q ≡ (is_same_box b q || has_box old q))
    → (q : BoxKey) → has_box new q ≡ list_any (is_same_box q) (told ++ b ∷ [])
stood_after old new boxes told b h added q = added q ∙ (ap (λ s. is_same_box b q || s) (h.stood q) ∙ sym (stood_more told b q))

-- one that stood is kept once
holds_again : (old new : Set) (boxes told : List BoxKey) (b : BoxKey) → HoldsContainers old boxes told
    → ((q : BoxKey) → has_box new q ≡ (is_same_box b q || has_box old q)) → has_box old b ≡ true
    → HoldsContainers new boxes (told ++ b ∷ [])
holds_again old new boxes told b h added stood = record {
  kept = h.kept ∙ sym (distinct_more told b ∙ (ap (λ (s : Bool). distinct told ++ (if s then [] else b ∷ [])) (sym (h.stood b) ∙ stood) ∙ append-nil (distinct told)));
  stood = stood_after old new boxes told b h added;
}

-- a new one is added
holds_new : (old new : Set) (boxes told : List BoxKey) (b : BoxKey) → HoldsContainers old boxes told
    → ((q : BoxKey) → has_box new q ≡ (is_same_box b q || has_box old q)) → has_box old b ≡ false
    → HoldsContainers new (boxes ++ b ∷ []) (told ++ b ∷ [])
holds_new old new boxes told b h added stood = record {
  kept = ap (λ bs. bs ++ b ∷ []) h.kept ∙ sym (distinct_more told b ∙ ap (λ (s : Bool). distinct told ++ (if s then [] else b ∷ [])) (sym (h.stood b) ∙ stood));
  stood = stood_after old new boxes told b h added;
}

named_told : (known : Set) (boxes told : List BoxKey) (b : BoxKey) → has_no_bytes b.name ≡ false
    → HoldsContainers known boxes (told ++ b ∷ [])
    → HoldsContainers known boxes (told ++ (if has_no_bytes b.name then [] else b ∷ []))
named_told known boxes told b there h =
    subst (HoldsContainers known boxes) (sym (ap (λ (e : Bool). told ++ (if e then [] else b ∷ [])) there)) h

not_false : (b : Bool) → false ≡ not b → b ≡ true
not_false true e = refl
not_false false e = cc

not_true : (b : Bool) → true ≡ not b → b ≡ false
not_true true e = cc
not_true false e = refl

pub holds_known : (old new : Set) (boxes told : List BoxKey) (b : BoxKey) (is_new : Bool) → has_no_bytes b.name ≡ false
    → ((q : BoxKey) → has_box new q ≡ (is_same_box b q || has_box old q))
    → is_new ≡ not (has_box old b) → is_new ≡ false → HoldsContainers old boxes told
    → HoldsContainers new boxes (told ++ (if has_no_bytes b.name then [] else b ∷ []))
holds_known old new boxes told b is_new there added is none h =
    named_told new boxes told b there (holds_again old new boxes told b h added (not_false (has_box old b) (sym none ∙ is)))

pub holds_added : (old new : Set) (boxes after told : List BoxKey) (b item : BoxKey) (is_new : Bool)
    → has_no_bytes b.name ≡ false → ((q : BoxKey) → has_box new q ≡ (is_same_box b q || has_box old q))
    → is_new ≡ not (has_box old b) → is_new ≡ true → item ≡ b → after ≡ boxes ++ item ∷ [] → HoldsContainers old boxes told
    → HoldsContainers new after (told ++ (if has_no_bytes b.name then [] else b ∷ []))
holds_added old new boxes after told b item is_new there added is told_new same pushed h =
    subst (λ bs. HoldsContainers new bs (told ++ (if has_no_bytes b.name then [] else b ∷ []))) (sym (pushed ∙ ap (λ x. boxes ++ x ∷ []) same))
    (named_told new (boxes ++ b ∷ []) told b there (holds_new old new boxes told b h added (not_true (has_box old b) (sym told_new ∙ is))))

pub length-triples : (names : List (Bor Bytes)) (locations kinds : List Bytes)
    → length (triples (borrowed_fields names) locations kinds) ≡ length names
length-triples names locations kinds =
    length-map (enumerate_from 0 (borrowed_fields names)) (triple locations kinds) ∙ (length-enumerate_from 0 (borrowed_fields names) ∙ length_seen names)

pub holds_more : (names : List (Bor Bytes)) (locations kinds : List Bytes) (i : ℕ) (d : Bor Bytes) (known : Set) (boxes : List BoxKey) (location kind : Bytes)
    → i < length names
    → location ≡ entry_at locations i → kind ≡ entry_at kinds i
    → HoldsContainers known boxes (filter is_named_box (take i (triples (borrowed_fields names) locations kinds))
    ++ (if has_no_bytes (get_or names i d).now then [] else box_with (get_or names i d).now location kind ∷ []))
    → HoldsContainers known boxes (filter is_named_box (take (i + 1) (triples (borrowed_fields names) locations kinds)))
holds_more names locations kinds i d known boxes location kind lt place sort h =
    subst (HoldsContainers known boxes)
    (ap₂ (λ l k. filter is_named_box (take i (triples (borrowed_fields names) locations kinds)) ++ (if has_no_bytes (get_or names i d).now then [] else box_with (get_or names i d).now l k ∷ [])) place sort
    ∙ named_more names locations kinds i d lt)
    h
