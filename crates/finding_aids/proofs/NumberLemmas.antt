-- The numbers of containers, one more at a time.
use Rattle.std.proofs.Common.{◌≡◌, ℕ, suc, ◌+◌, Bool, true, false, cond, List, [], ◌∷◌, ◌++◌, length, Option, Some}
use Rattle.std.proofs.Common.{None, Result, Ok, Err, refl, sym, ap, ◌∙◌, arith, add-one, inl, inr}
use Rattle.std.specs.Borrow.{Bor}
use Rattle.std.specs.Ordering.{is_eq}
use Rattle.std.specs.Result.{OnOk}
use Rattle.isad_core.proofs.BoxLemmas.{distinct_more}
use Rattle.isad_core.specs.Boxes.{distinct, is_same_box}
use Rattle.atom_csv.proofs.BoxLemmas.{same_compared}
use Rattle.catalogue_core.proofs.DistinctFront.{found_any, known_distinct}
use Rattle.catalogue_core.proofs.Imported.{same_box}
use Rattle.finding_aids.proofs.Common.{AreNumbered, BTreeMap, BoxKey, Bytes, Texts, append-nil, btree_map_len}
use Rattle.finding_aids.proofs.Common.{cases_Bool, compare_container, get_by, if◌then◌else◌, is_at, is_some}
use Rattle.finding_aids.proofs.Common.{mapped_number, number_among, option_map}
use Rattle.finding_aids.proofs.PlantLemmas.{length-push}

-- ---- what the map finds

abbrev lent : Bytes → Bor Bytes
lent text = record { ref_ptr = (0, 0); now = text }

abbrev texts_of : BoxKey → Texts
texts_of b = (lent b.name, lent b.location, lent b.kind)

pub number_set : (old new : BTreeMap Texts ℕ) (b : BoxKey) (name location kind : Bytes) (number : ℕ)
    → name ≡ b.name → location ≡ b.location → kind ≡ b.kind
    → ((q : Texts) → get_by (compare_container q.0.now q.1.now q.2.now) new ≡ cond (is_at (compare_container name location kind) q) (Some number) (get_by (compare_container q.0.now q.1.now q.2.now) old))
    → (q : BoxKey) → mapped_number new q ≡ (if is_same_box b q then Some number else mapped_number old q)
number_set old new b name location kind number n l k updates q =
    updates (texts_of q)
    ∙ (ap (λ (text : Bytes). cond (is_eq (compare_container text location kind (texts_of q))) (Some number) (mapped_number old q)) n
    ∙ (ap (λ (text : Bytes). cond (is_eq (compare_container b.name text kind (texts_of q))) (Some number) (mapped_number old q)) l
    ∙ (ap (λ (text : Bytes). cond (is_eq (compare_container b.name b.location text (texts_of q))) (Some number) (mapped_number old q)) k
    ∙ ap (λ (same : Bool). if same then Some number else mapped_number old q) (same_compared (texts_of b) (texts_of q)))))

pub number_found : (numbers : BTreeMap Texts ℕ) (b : BoxKey) (name location kind : Bytes) → name ≡ b.name
    → location ≡ b.location → kind ≡ b.kind
    → get_by (compare_container name location kind) numbers ≡ mapped_number numbers b
number_found numbers b name location kind n l k =
    ap (λ (text : Bytes). get_by (compare_container text location kind) numbers) n
    ∙ (ap (λ (text : Bytes). get_by (compare_container b.name text kind) numbers) l
    ∙ ap (λ (text : Bytes). get_by (compare_container b.name b.location text) numbers) k)

-- ---- numbers among containers

-- the containers that were told, with one more
distinct_next : (seen : List BoxKey) (b : BoxKey)
    → distinct (seen ++ b ∷ []) ≡ distinct seen ++ (if is_some (number_among (distinct seen) b) then [] else b ∷ [])
distinct_next seen b =
    distinct_more seen b
    ∙ ap (λ (any : Bool). distinct seen ++ (if any then [] else b ∷ [])) (sym (found_any (distinct seen) b ∙ known_distinct seen b))

-- the last container is found where no other is
abbrev or_last : Option ℕ → Option ℕ → Option ℕ
or_last None last = last
or_last (Some n) last = Some n

number_in-push : (cs : List BoxKey) (b q : BoxKey)
    → number_among (cs ++ b ∷ []) q ≡ or_last (number_among cs q) (if is_same_box b q then Some (length cs + 1) else None)
number_in-push [] b q = refl
number_in-push (c ∷ cs) b q =
    elim (cases_Bool (is_same_box c q)) [
      | inl same ↦ rw same refl
      | inr differs ↦ rw differs (ap (option_map suc) (number_in-push cs b q) ∙ later (number_among cs q) (is_same_box b q))
    ]
  where
    later : (o : Option ℕ) (same : Bool)
        → option_map suc (or_last o (if same then Some (length cs + 1) else None)) ≡ or_last (option_map suc o) (if same then Some (suc (length cs) + 1) else None)
    later (Some n) same = refl
    later None false = refl
    later None true = ap Some (omega arith)

-- ---- one more container

pub numbered_again : (seen : List BoxKey) (b : BoxKey) (numbers : BTreeMap Texts ℕ) → AreNumbered seen numbers
    → is_some (mapped_number numbers b) ≡ true
    → AreNumbered (seen ++ b ∷ []) numbers
numbered_again seen b numbers h stood =
    let known : is_some (number_among (distinct seen) b) ≡ true = ap is_some (sym (h.numbered b)) ∙ stood in
    let same : distinct (seen ++ b ∷ []) ≡ distinct seen =
    distinct_next seen b ∙ (ap (λ (any : Bool). distinct seen ++ (if any then [] else b ∷ [])) known ∙ append-nil (distinct seen)) in
    record {
      numbered = λ q. h.numbered q ∙ ap (λ (cs : List BoxKey). number_among cs q) (sym same);
      count = h.count ∙ ap length (sym same);
    }

pub none_from : (o : Option ℕ) → is_some o ≡ false → o ≡ None
none_from None h = refl
none_from (Some n) h = absurd (cc)

pub numbered_new : (seen : List BoxKey) (b : BoxKey) (old new : BTreeMap Texts ℕ) (number : ℕ) → AreNumbered seen old
    → is_some (mapped_number old b) ≡ false
    → number ≡ btree_map_len old + 1
    → ((q : BoxKey) → mapped_number new q ≡ (if is_same_box b q then Some number else mapped_number old q))
    → btree_map_len new ≡ btree_map_len old + 1 → AreNumbered (seen ++ b ∷ []) new
numbered_new seen b old new number h missing next sets grows =
    let unknown : is_some (number_among (distinct seen) b) ≡ false = ap is_some (sym (h.numbered b)) ∙ missing in
    let more : distinct (seen ++ b ∷ []) ≡ distinct seen ++ b ∷ [] =
    distinct_next seen b ∙ ap (λ (any : Bool). distinct seen ++ (if any then [] else b ∷ [])) unknown in
    let is : number ≡ length (distinct seen) + 1 = next ∙ ap (λ n. n + 1) h.count in
    record {
      numbered = λ q. sets q ∙ (here q (is_same_box b q) refl is unknown ∙ (sym (number_in-push (distinct seen) b q) ∙ ap (λ (cs : List BoxKey). number_among cs q) (sym more)));
      count = grows ∙ (ap (λ n. n + 1) h.count ∙ (add-one (length (distinct seen)) ∙ (sym (length-push (distinct seen) b) ∙ ap length (sym more))));
    }
  where
    first : (o : Option ℕ) → o ≡ or_last o None
    first None = refl
    first (Some n) = refl

    here : (q : BoxKey) (same : Bool) → is_same_box b q ≡ same → number ≡ length (distinct seen) + 1
        → is_some (number_among (distinct seen) b) ≡ false
        → (if same then Some number else mapped_number old q) ≡ or_last (number_among (distinct seen) q) (if same then Some (length (distinct seen) + 1) else None)
    here q true e is unknown =
        ap Some is ∙ sym (ap (λ (o : Option ℕ). or_last o (Some (length (distinct seen) + 1))) (ap (number_among (distinct seen)) (sym (same_box b q e)) ∙ none_from (number_among (distinct seen) b) unknown))
    here q false e is unknown = h.numbered q ∙ first (number_among (distinct seen) q)

-- two facts of an outcome, and what follows from them
pub on_ok_both : {T E P Q R : Type 0} → (r : Result T E) → (P → Q → R) → OnOk r P → OnOk r Q → OnOk r R
on_ok_both (Ok x) f p q = f p q
on_ok_both (Err e) f p q = tt
