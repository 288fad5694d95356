use Rattle.std.proofs.Common.{◌≡◌, ◌∙◌, ◌+◌, ◌<◌, ◌++◌, ◌∷◌, [], ℕ, suc, List, ap, sym, arith, fold, take, get_or}
use Rattle.std.proofs.Common.{length}
use Rattle.std.proofs.lemmas.Grind.{flat_map-append}
use Rattle.std.proofs.lemmas.List.{append-nil}
use Rattle.atom_csv.proofs.Common.{Bytes, Column, Fields, columns_of, flat_map, fold-append, take-length, take-suc}
use Rattle.atom_csv.proofs.Common.{told_by, trimmed_fields, value, with_entry}
use Rattle.atom_csv.proofs.EntryLemmas.{fold_joined}
use Rattle.atom_csv.proofs.joined.join_entries.Goals as goal

-- one more column's entries
more : (told : Column → List Bytes) (ks : List Column) (i : ℕ) (d : Column) → i < length ks
    → fold with_entry [] (flat_map told (take (i + 1) ks)) ≡ fold with_entry (fold with_entry [] (flat_map told (take i ks))) (told (get_or ks i d))
more told ks i d lt =
    let next : i + 1 ≡ suc i = omega arith in
    ap (λ n. fold with_entry [] (flat_map told (take n ks))) next
    ∙ (ap (λ js. fold with_entry [] (flat_map told js)) (take-suc ks i d lt)
    ∙ (ap (fold with_entry []) (flat_map-append told (take i ks) (get_or ks i d ∷ []) ∙ ap (λ t. flat_map told (take i ks) ++ t) (append-nil (told (get_or ks i d))))
    ∙ fold-append with_entry [] (flat_map told (take i ks)) (told (get_or ks i d))))

step : (header fields : Fields) (ks : List Column) (i : ℕ) (d : Column) (text after held : Bytes) → i < length ks
    → text ≡ fold with_entry [] (flat_map (λ k. told_by k (value k header fields)) (take i ks)) → held ≡ value (get_or ks i d) header fields
    → after ≡ fold with_entry text (told_by (get_or ks i d) held)
    → after ≡ fold with_entry [] (flat_map (λ k. told_by k (value k header fields)) (take (i + 1) ks))
step header fields ks i d text after held lt so_far is added =
    added ∙ (ap (λ v. fold with_entry text (told_by (get_or ks i d) v)) is
    ∙ (ap (λ t. fold with_entry t (told_by (get_or ks i d) (value (get_or ks i d) header fields))) so_far ∙ sym (more (λ k. told_by k (value k header fields)) ks i d lt)))

pub loop-column-preserved : goal.loop-column-preserved
loop-column-preserved c =
    step c.args.header.now (trimmed_fields c.args.row.now) c.columns-column-items.result.now c.loop-column.column-index _ _ _ _
    c.loop-column-test.true c.loop-column.invariant c.value.ensures c.in_ok-add_told.ensures

pub returns : goal.returns
returns c =
    let told : Column → List Bytes = λ k. told_by k (value k c.args.header.now (trimmed_fields c.args.row.now)) in
    let ks = c.columns-column-items.result.now in
    let full : c.loop-column.column-index ≡ length ks = omega arith in
    c.loop-column.invariant
    ∙ (ap (λ (n : ℕ). fold with_entry [] (flat_map told (take n ks))) full
    ∙ (ap (λ (js : List Column). fold with_entry [] (flat_map told js)) (take-length ks ∙ c.columns-column-items.ensures) ∙ fold_joined (flat_map told (columns_of c.args.element))))
