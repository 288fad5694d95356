-- What ON DELETE CASCADE does to the children of a row.
use Rattle.std.proofs.Common.{◌≡◌, ◌≢◌, inl, inr, ℕ, zero, suc, ℤ, List, [], ◌∷◌, ◌++◌, length, map, filter, Bool, true}
use Rattle.std.proofs.Common.{false, not, Ok, refl, sym, ap, subst, subst₂, ◌∙◌, arith, append-nil, length-append}
use Rattle.std.specs.Cmp.{both_ways, tied_itself}
use Rattle.std.specs.declared.cmp.Ordering.TheVariants.{Equal}
use Rattle.sqlite_rules.specs.declared.action.Deed.TheVariants.{Delete}
use Rattle.office_tables.proofs.Common.{Acts, ActsOn, AllByRecursion, Applies, AreChildren, Has, Int, Keys, Leads}
use Rattle.office_tables.proofs.Common.{Rises, Row, Schema, Settles, Trees, Work, action_edit, all_from, all_of}
use Rattle.office_tables.proofs.Common.{filter-map, filter_same, has_rowid, int_cmp, int_cmp_total, is_child_of, is_eq}
use Rattle.office_tables.proofs.Common.{list_any, rowid, some_from, some_has, taken_by, without_all, works}
use Rattle.office_tables.proofs.Rows.{by_key, same_key, eq_from, has_map, map_has, without_all_is, tests as tests_of}
use Rattle.office_tables.proofs.Steps.{is_referred_to, no_works_there}

-- the children are deleted, if there are any
pub data IsCascade (schema : Schema) (keys : Keys) (w : Work) (old new : Trees) : Type 0 where
  no_child : AreChildren old w [] → new ≡ old → IsCascade schema keys w old new
  children : (id : ℤ) (ids : List ℤ) → AreChildren old w (id ∷ ids)
      → Applies schema keys old (action_edit old w (id ∷ ids)) new → IsCascade schema keys w old new

module _ (schema : Schema) (keys : Keys) where
  one_work : (n : ℕ) (db final : Trees) (bare : Work) (below : List Work)
      → is_referred_to schema bare.child.tree ≡ false
      → Acts schema keys (Leads schema keys n) db (record bare { deed = Delete; depth = 0 }) below (Ok final)
      → (mid : Trees) × IsCascade schema keys (record bare { deed = Delete; depth = 0 }) db mid × Leads schema keys n mid below (Ok final)
  one_work n db final bare below alone h = on h.0 h.1 h.2
    where
      on : (ids : List ℤ) → AreChildren db (record bare { deed = Delete; depth = 0 }) ids
          → ActsOn schema keys (Leads schema keys n) db (record bare { deed = Delete; depth = 0 }) below (Ok final) ids
          → (mid : Trees) × IsCascade schema keys (record bare { deed = Delete; depth = 0 }) db mid × Leads schema keys n mid below (Ok final)
      on [] are h = (db, no_child are refl, h)
      on (id ∷ ids) are (inl refused) = absurd (let e = refused.2 in cc)
      on (id ∷ ids) are (inr (inl big)) = absurd (let e = big.3 in cc)
      on (id ∷ ids) are (inr (inr went)) =
          (went.0, children id ids are went.1, subst (λ ws. Leads schema keys n went.0 ws (Ok final)) none went.2)
        where
          none : below ++ works schema keys 1 bare.child.tree (taken_by db (action_edit db (record bare { deed = Delete; depth = 0 }) (id ∷ ids))) [] ≡ below
          none =
              ap (λ ws. below ++ ws) (no_works_there schema keys 1 bare.child.tree (taken_by db (action_edit db (record bare { deed = Delete; depth = 0 }) (id ∷ ids))) [] alone)
              ∙ append-nil below

  last_of_two : (a b w : Work) (below : List Work) → a ∷ b ∷ [] ≡ below ++ w ∷ [] → (below ≡ a ∷ []) × (w ≡ b)
  last_of_two a b w [] e = absurd (omega (arith, ap length e))
  last_of_two a b w (x ∷ []) e = (cc, cc)
  last_of_two a b w (x ∷ y ∷ zs) e = absurd (omega (arith, ap length e, length-append zs (w ∷ [])))

  last_of_one : (a w : Work) (below : List Work) → a ∷ [] ≡ below ++ w ∷ [] → (below ≡ []) × (w ≡ a)
  last_of_one a w [] e = (refl, cc)
  last_of_one a w (x ∷ zs) e = absurd (omega (arith, ap length e, length-append zs (w ∷ [])))

  pub two_works : (db final : Trees) (a b : Work) → is_referred_to schema a.child.tree ≡ false
      → is_referred_to schema b.child.tree ≡ false
      → Settles schema keys db (record a { deed = Delete; depth = 0 } ∷ record b { deed = Delete; depth = 0 } ∷ []) (Ok final)
      → (mid : Trees) × IsCascade schema keys (record b { deed = Delete; depth = 0 }) db mid × IsCascade schema keys (record a { deed = Delete; depth = 0 }) mid final
  two_works db final a b first second (zero, h) = absurd (let e = h.0 in omega (arith, ap length e))
  two_works db final a b first second (suc n, h) =
      let A = record a { deed = Delete; depth = 0 } in
      let B = record b { deed = Delete; depth = 0 } in
      let ends = last_of_two A B h.1 h.0 h.2 in
      let acts = subst₂ (λ ws w. Acts schema keys (Leads schema keys n) db w ws (Ok final)) ends.0 ends.1 h.3 in
      let one = one_work n db final b (A ∷ []) second acts in
      rest n one.0 one.1 one.2
    where
      rest : (n : ℕ) (mid : Trees) → IsCascade schema keys (record b { deed = Delete; depth = 0 }) db mid
          → Leads schema keys n mid (record a { deed = Delete; depth = 0 } ∷ []) (Ok final)
          → (mid : Trees) × IsCascade schema keys (record b { deed = Delete; depth = 0 }) db mid × IsCascade schema keys (record a { deed = Delete; depth = 0 }) mid final
      rest zero mid done h = absurd (let e = h.0 in omega (arith, ap length e))
      rest (suc n) mid done h =
          let A = record a { deed = Delete; depth = 0 } in
          let ends = last_of_one A h.1 h.0 h.2 in
          let acts = subst₂ (λ ws w. Acts schema keys (Leads schema keys n) mid w ws (Ok final)) ends.0 ends.1 h.3 in
          let one = one_work n mid final a [] first acts in
          let same : one.0 ≡ final = settled n one.0 one.2 in
          (mid, done, subst (IsCascade schema keys A mid) same one.1)
        where
          settled : (n : ℕ) (last : Trees) → Leads schema keys n last [] (Ok final) → last ≡ final
          settled zero last h = let e = h.1 in cc
          settled (suc n) last h = absurd (omega (arith, ap length h.2, length-append h.0 (h.1 ∷ [])))

  last_of_three : (a b c w : Work) (below : List Work) → a ∷ b ∷ c ∷ [] ≡ below ++ w ∷ []
      → (below ≡ a ∷ b ∷ []) × (w ≡ c)
  last_of_three a b c w [] e = absurd (omega (arith, ap length e))
  last_of_three a b c w (x ∷ []) e = absurd (omega (arith, ap length e))
  last_of_three a b c w (x ∷ y ∷ []) e = (cc, cc)
  last_of_three a b c w (x ∷ y ∷ z ∷ zs) e = absurd (omega (arith, ap length e, length-append zs (w ∷ [])))

  pub three_works : (db final : Trees) (a b c : Work) → is_referred_to schema a.child.tree ≡ false
      → is_referred_to schema b.child.tree ≡ false → is_referred_to schema c.child.tree ≡ false
      → Settles schema keys db (record a { deed = Delete; depth = 0 } ∷ record b { deed = Delete; depth = 0 } ∷ record c { deed = Delete; depth = 0 } ∷ []) (Ok final)
      → (first : Trees) × (second : Trees) × IsCascade schema keys (record c { deed = Delete; depth = 0 }) db first × IsCascade schema keys (record b { deed = Delete; depth = 0 }) first second
      × IsCascade schema keys (record a { deed = Delete; depth = 0 }) second final
  three_works db final a b c alone_a alone_b alone_c (zero, h) = absurd (let e = h.0 in omega (arith, ap length e))
  three_works db final a b c alone_a alone_b alone_c (suc n, h) =
      let A = record a { deed = Delete; depth = 0 } in
      let B = record b { deed = Delete; depth = 0 } in
      let C = record c { deed = Delete; depth = 0 } in
      let ends = last_of_three A B C h.1 h.0 h.2 in
      let acts = subst₂ (λ ws w. Acts schema keys (Leads schema keys n) db w ws (Ok final)) ends.0 ends.1 h.3 in
      let one = one_work n db final c (A ∷ B ∷ []) alone_c acts in
      let rest = two_works one.0 final a b alone_a alone_b (n, one.2) in
      (one.0, rest.0, one.1, rest.1, rest.2)

  -- a cascade leaves the other tables as they were
  pub cascade_apart : (w : Work) (old new : Trees) → IsCascade schema keys w old new
      → AllByRecursion (λ t. t.tree ≢ w.child.tree → new t.tree ≡ old t.tree) schema.tables
  cascade_apart w old new (no_child are same) =
      all_of (λ t. t.tree ≢ w.child.tree → new t.tree ≡ old t.tree) (λ t _. ap (λ (d : Trees). d t.tree) same) schema.tables
  cascade_apart w old new (children id ids are applies) = applies.tables

-- the children of a table of typed records, which are those that pass a test
module _ (schema : Schema) (keys : Keys) (bare : Work) {A : Type 0} (row : A → Row) (key : A → ℤ) (keyed : (x : A) → rowid (row x) ≡ Int (key x)) (old new : Trees) (xs : List A)
    (stored : old bare.child.tree ≡ map row xs) (up : Rises (by_key row key keyed) xs) (is_child : A → Bool)
    (tests : (x : A) → list_any (is_child_of (record bare { deed = Delete; depth = 0 }) (row x)) bare.moves ≡ is_child x) where
  abbrev w : Work
  w = record bare { deed = Delete; depth = 0 }

  gone : (ids : List ℤ) → AreChildren old w ids → (x : A) → Has xs x
      → list_any (λ id. has_rowid id (row x)) ids ≡ is_child x
  gone ids are x has = both_ways (list_any (λ id. has_rowid id (row x)) ids) (is_child x) there back
    where
      there : list_any (λ id. has_rowid id (row x)) ids ≡ true → is_child x ≡ true
      there h =
          let some = some_has (λ id. has_rowid id (row x)) ids h in
          let from = are.sound some.0 some.1 in
          let y = map_has row xs from.0 (subst (λ l. Has l from.0) stored from.1) in
          let known : Int (key y.0) ≡ Int some.0 = sym (keyed y.0) ∙ ap rowid (sym y.2) ∙ from.3 in
          let same_id : key y.0 ≡ some.0 = cc in
          let tied : int_cmp (key x) (key y.0) ≡ Equal =
          eq_from _ (ap (λ id. is_eq (int_cmp (key x) id)) same_id ∙ sym (tests_of row key keyed some.0 x) ∙ some.2) in
          ap is_child (same_key row key keyed xs x y.0 up has y.1 tied) ∙ sym (tests y.0) ∙ ap (λ r. list_any (is_child_of w r) bare.moves) (sym y.2) ∙ from.2

      back : is_child x ≡ true → list_any (λ id. has_rowid id (row x)) ids ≡ true
      back h =
          let had = are.complete (row x) (key x) (subst (λ l. Has l (row x)) (sym stored) (has_map row xs x has)) (tests x ∙ h) (keyed x) in
          some_from (λ id. has_rowid id (row x)) ids (key x) had (tests_of row key keyed (key x) x ∙ ap is_eq (tied_itself int_cmp_total (key x)))

  left : (ids : List ℤ) → AreChildren old w ids
      → without_all (old bare.child.tree) ids ≡ map row (filter (λ x. not (is_child x)) xs)
  left ids are =
      ap (λ l. without_all l ids) stored
      ∙ without_all_is ids (map row xs)
      ∙ filter-map (λ r. not (list_any (λ id. has_rowid id r) ids)) row xs
      ∙ ap (map row) (filter_same (λ x. not (list_any (λ id. has_rowid id (row x)) ids)) (λ x. not (is_child x)) xs
      (all_from (λ x. not (list_any (λ id. has_rowid id (row x)) ids) ≡ not (is_child x)) xs (λ x h. ap not (gone ids are x h))))

  pub cascade_rows : IsCascade schema keys w old new → new bare.child.tree ≡ map row (filter (λ x. not (is_child x)) xs)
  cascade_rows (no_child are same) = ap (λ (d : Trees). d bare.child.tree) same ∙ left [] are
  cascade_rows (children id ids are applies) = applies.rows ∙ left (id ∷ ids) are
