-- Entries that are joined one after another.
use Rattle.std.proofs.Common.{◌≡◌, ◌∙◌, ◌++◌, ◌∷◌, [], ◌⊎◌, inl, inr, ℕ, suc, Bool, true, false, List, length, map}
use Rattle.std.proofs.Common.{fold, refl, sym, ap, arith, append_assoc, append-nil, Bor, cond}
use Rattle.std.specs.Prelude.{codes, not}
use Rattle.atom_csv.proofs.Common.{Bytes, borrowed_fields, entries_joined, filter-append, has_no_bytes, if◌then◌else◌}
use Rattle.atom_csv.proofs.Common.{ne_eqb, nonblank_entries, trimmed_entry, with_entry, ◌==◌}

pub entries_seen : (parts : List (Bor Bytes))
    → map (λ part. trimmed_entry part.now) parts ≡ map trimmed_entry (borrowed_fields parts)
entries_seen [] = refl
entries_seen (p ∷ ps) = ap (λ es. trimmed_entry p.now ∷ es) (entries_seen ps)

joined_more : (e : Bytes) (es : List Bytes) (f : Bytes)
    → entries_joined ((e ∷ es) ++ f ∷ []) ≡ entries_joined (e ∷ es) ++ codes "; " ++ f
joined_more e [] f = refl
joined_more e (d ∷ es) f =
    ap (λ t. e ++ codes "; " ++ t) (joined_more d es f)
    ∙ (sym (append_assoc (e ++ codes "; ") (entries_joined (d ∷ es) ++ codes "; ") f) ∙ ap (λ t. t ++ f) (sym (append_assoc (e ++ codes "; ") (entries_joined (d ∷ es)) (codes "; "))))

some_length : (n : ℕ) → (suc n == 0) ≡ false
some_length n = ne_eqb (suc n) 0 (λ e. omega arith)

pub cons_there : (b : ℕ) (text : Bytes) → has_no_bytes (b ∷ text) ≡ false
cons_there b text = some_length (length text)

front_there : (a b : Bytes) → has_no_bytes a ≡ false → has_no_bytes (a ++ b) ≡ false
front_there [] b e = cc
front_there (x ∷ a) b e = cons_there x (a ++ b)

joined_there : (e : Bytes) (es : List Bytes) → has_no_bytes e ≡ false → has_no_bytes (entries_joined (e ∷ es)) ≡ false
joined_there e [] there = there
joined_there e (d ∷ es) there = front_there (e ++ codes "; ") (entries_joined (d ∷ es)) (front_there e (codes "; ") there)

-- the entries that are there: none, or a first one that is not blank
Starts : List Bytes → Type 0
Starts es = (es ≡ []) ⊎ ((e : Bytes) × (rest : List Bytes) × (es ≡ e ∷ rest) × (has_no_bytes e ≡ false))

filled_starts : (es : List Bytes) → Starts (nonblank_entries es)
unfolding Starts
filled_starts [] = inl refl
filled_starts (e ∷ es) = go (has_no_bytes e) refl (filled_starts es)
  where
    go : (b : Bool) → has_no_bytes e ≡ b
        → (nonblank_entries es ≡ []) ⊎ ((f : Bytes) × (rest : List Bytes) × (nonblank_entries es ≡ f ∷ rest) × (has_no_bytes f ≡ false))
        → (cond (not b) (e ∷ nonblank_entries es) (nonblank_entries es) ≡ []) ⊎ ((f : Bytes) × (rest : List Bytes) × (cond (not b) (e ∷ nonblank_entries es) (nonblank_entries es) ≡ f ∷ rest) × (has_no_bytes f ≡ false))
    go true is later = later
    go false is later = inr (e, nonblank_entries es, refl, is)

-- one more entry that is not blank
added_there : (fs : List Bytes) (e : Bytes) → Starts fs
    → (if has_no_bytes (entries_joined fs) then e else entries_joined fs ++ codes "; " ++ e) ≡ entries_joined (fs ++ e ∷ [])
unfolding Starts
added_there fs e starts = elim starts [
  | inl none ↦ ap (λ (gs : List Bytes). if has_no_bytes (entries_joined gs) then e else entries_joined gs ++ codes "; " ++ e) none ∙ sym (ap (λ (gs : List Bytes). entries_joined (gs ++ e ∷ [])) none)
  | inr some ↦
      let (f, rest, is, there) = some in
      ap (λ (gs : List Bytes). if has_no_bytes (entries_joined gs) then e else entries_joined gs ++ codes "; " ++ e) is
      ∙ (ap (λ (b : Bool). if b then e else entries_joined (f ∷ rest) ++ codes "; " ++ e) (joined_there f rest there)
      ∙ (sym (joined_more f rest e) ∙ sym (ap (λ (gs : List Bytes). entries_joined (gs ++ e ∷ [])) is)))
]

added : (es : List Bytes) (e : Bytes)
    → with_entry (entries_joined (nonblank_entries es)) e ≡ entries_joined (nonblank_entries (es ++ e ∷ []))
added es e = go (has_no_bytes e) refl ∙ ap entries_joined (sym (filter-append _ es (e ∷ [])))
  where
    go : (b : Bool) → has_no_bytes e ≡ b
        → (if b then entries_joined (nonblank_entries es) else if has_no_bytes (entries_joined (nonblank_entries es)) then e else entries_joined (nonblank_entries es) ++ codes "; " ++ e) ≡ entries_joined (nonblank_entries es ++ cond (not b) (e ∷ []) [])
    go true is = ap entries_joined (sym (append-nil (nonblank_entries es)))
    go false is = added_there (nonblank_entries es) e (filled_starts es)

-- entries added in turn are the entries joined
joined_from : (es fs : List Bytes)
    → fold with_entry (entries_joined (nonblank_entries es)) fs ≡ entries_joined (nonblank_entries (es ++ fs))
joined_from es [] = ap (λ gs. entries_joined (nonblank_entries gs)) (sym (append-nil es))
joined_from es (f ∷ fs) =
    ap (λ t. fold with_entry t fs) (added es f) ∙ (joined_from (es ++ f ∷ []) fs ∙ ap (λ gs. entries_joined (nonblank_entries gs)) (append_assoc es (f ∷ []) fs))

pub fold_joined : (fs : List Bytes) → fold with_entry [] fs ≡ entries_joined (nonblank_entries fs)
fold_joined fs = joined_from [] fs
