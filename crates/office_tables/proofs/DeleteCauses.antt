-- Why a DELETE fails: no rule of the tables refuses it, nor what it sets off.
use Rattle.std.proofs.Common.{◌≡◌, ◌≢◌, inl, inr, ℕ, ℤ, zero, suc, List, [], ◌∷◌, ◌++◌, length, slice_get, nat_lt, Bool}
use Rattle.std.proofs.Common.{true, false, ◌||◌, ◌==◌, Option, Some, None, Ok, Err, refl, sym, ap, subst, ◌∙◌, eqb-true}
use Rattle.std.proofs.Common.{eq-eqb, append-nil}
use Rattle.std.proofs.lemmas.Bool.{both_ways}
use Rattle.sqlite.specs.Command.TheVariants.{Delete}
use Rattle.sqlite.specs.Effect.{Answers}
use Rattle.sqlite.specs.Listing.{understood}
use Rattle.sqlite_rules.specs.Action.{Writes}
use Rattle.sqlite_rules.specs.declared.action.Deed.TheVariants as deed
use Rattle.sqlite_rules.specs.declared.error.Refusal.{Refusal}
use Rattle.sqlite_rules.specs.declared.error.Refusal.TheVariants.{Violates}
use Rattle.sqlite_trees.specs.Tree.{with_tree}
use Rattle.office_tables.specs.Faults.{HasCause}
use Rattle.office_tables.proofs.Common.{Acts, ActsOn, All, AllByRecursion, Applies, AtPlace, BadReference, Check}
use Rattle.office_tables.proofs.Common.{Database, Datatype, Does, Edited, Enforced, Error, Executes, ForeignKey, Given}
use Rattle.office_tables.proofs.Common.{Has, IsLive, IsPlain, IsRefused, IsUnlimited, Keeps, Keys, Leads, Mismatch}
use Rattle.office_tables.proofs.Common.{Mode, NoRowid, NotNull, Obeys, OnRows, ParentKey, PrimaryKey, Program, Queried}
use Rattle.office_tables.proofs.Common.{Reference, Refers, RefusesQuery, Row, Schema, State, Table, TooDeep, Trees}
use Rattle.office_tables.proofs.Common.{Unique, Work, WritesRows, Written, action_edit, all_has, and_from, and_parts}
use Rattle.office_tables.proofs.Common.{cases_Bool, cases_eq, command_of, due, edit_of, false_from_ne_true, fault_of}
use Rattle.office_tables.proofs.Common.{has_null, ids_of, is_held, keeps_at, keeps_from, list_any, mode_of, not-true}
use Rattle.office_tables.proofs.Common.{not_from_false, one_step, or_right, parent_is_table, parent_key, references_fit}
use Rattle.office_tables.proofs.Common.{refers_from, some_from, some_has, statement_of, taken_by, test_from, test_has}
use Rattle.office_tables.proofs.Common.{without_all, without_all_has, works}
use Rattle.office_tables.proofs.Causes.{failed_cause}
use Rattle.office_tables.proofs.Failures.{IsWhole, Refused, fails_as}
use Rattle.office_tables.proofs.Steps.{is_referred_to, no_works_there, plain, points, went, same_value}
use Rattle.office_tables.proofs.Refusals.{same_error}

-- ---- fewer rows

-- the rows were all there before
abbrev pub AreFewer : Schema → Trees → Trees → Type 0
AreFewer schema old new = (t : Table) (row : Row) → Has schema.tables t → Has (new t.tree) row → Has (old t.tree) row

-- keys that are unique stay so among fewer rows
fewer_unique : (schema : Schema) (old new : Trees) → AreFewer schema old new → Keeps Unique schema old
    → Keeps Unique schema new
fewer_unique schema old new fewer keeps = keeps_from Unique schema new (λ t row listed there. test_from _ schema.indexes (λ i known. not_from_false _ (false_from_ne_true _ (λ clash.
    let parts = and_parts _ _ clash in
    let other = some_has _ (new t.tree) parts.1 in
    both_ways _ (not-true _ (test_has _ schema.indexes i (keeps_at Unique schema old t row keeps listed (fewer t row listed there)) known))
    (and_from _ _ parts.0 (some_from _ (old t.tree) other.0 (fewer t other.0 listed other.1) other.2))))))

-- without some rows of one tree there are fewer
left_fewer : (schema : Schema) (db : Trees) (tree : ℕ) (ids : List ℤ)
    → AreFewer schema db (with_tree db tree (without_all (db tree) ids))
left_fewer schema db tree ids t row listed there = elim (cases_Bool (t.tree == tree)) [
  | inl same ↦ subst (λ k. Has (db k) row) (sym (eqb-true t.tree tree same)) (without_all_has ids (db tree) row (rw same at there))
  | inr other ↦ rw other at there
]

-- ---- no rule refuses

no_bad_reference : (schema : Schema) (keys : Keys) (table : Table) (removes : Bool)
    → references_fit schema table false true ≡ true → (keys_off : Bool)
    → (keys_off || references_fit schema table false removes) ≡ true
no_bad_reference schema keys table true fit off = or_right off _ fit
no_bad_reference schema keys table false fit off = or_right off _ refl

never_false : {b : Bool} → b ≡ true → b ≡ false → ⊥
never_false is not = let clash : true ≡ false = sym is ∙ not in cc

-- an edit that only takes rows out is not refused
not_refused : (schema : Schema) (keys : Keys) (db : Trees) (table : Table) (ids : List ℤ) → Keeps Unique schema db
    → references_fit schema table false true ≡ true
    → (why : Refusal) → IsRefused schema keys db (edit_of db table ids Given 0 []) why → ⊥
not_refused schema keys db table ids unique fit (Violates Datatype) h = never_false refl h
not_refused schema keys db table ids unique fit (Violates NotNull) h = never_false refl h
not_refused schema keys db table ids unique fit (Violates Check) h = never_false refl h
not_refused schema keys db table ids unique fit (Violates PrimaryKey) h = never_false refl h
not_refused schema keys db table ids unique fit (Violates Unique) h =
    h (fewer_unique schema db (with_tree db table.tree (without_all (db table.tree) ids)) (left_fewer schema db table.tree ids) unique)
not_refused schema keys db table ids unique fit (Violates ForeignKey) h = h
not_refused schema keys db table ids unique fit Mismatch h = never_false refl h
not_refused schema keys db table ids unique fit NoRowid h = never_false refl h
not_refused schema keys db table ids unique fit BadReference h =
    never_false (no_bad_reference schema keys table (nat_lt 0 (length ids)) fit _) h
not_refused schema keys db table ids unique fit TooDeep h = h

-- a deletion of children from a table that no key refers to
pub record IsLeaf (schema : Schema) (w : Work) : Type 0 where
  pub bare : Work
  pub is : w ≡ record bare { deed = deed.Delete; depth = 0 }
  pub alone : is_referred_to schema bare.child.tree ≡ false
  pub fit : references_fit schema bare.child false true ≡ true

module _ (schema : Schema) (keys : Keys) (why : Refusal) where
  -- no work of the stack is refused, if the next is not
  one_not : (n : ℕ)
      → ((db : Trees) (stack : List Work) → Keeps Unique schema db → AllByRecursion (IsLeaf schema) stack → Leads schema keys n db stack (Err (Some why)) → ⊥)
      → (db : Trees) (below : List Work) (bare : Work) → Keeps Unique schema db
      → is_referred_to schema bare.child.tree ≡ false → references_fit schema bare.child false true ≡ true
      → AllByRecursion (IsLeaf schema) below
      → Acts schema keys (Leads schema keys n) db (record bare { deed = deed.Delete; depth = 0 }) below (Err (Some why))
      → ⊥
  one_not n rest db below bare unique alone fit leaves h = on h.0 h.2
    where
      on : (ids : List ℤ)
          → ActsOn schema keys (Leads schema keys n) db (record bare { deed = deed.Delete; depth = 0 }) below (Err (Some why)) ids
          → ⊥
      on [] h = rest db below unique leaves h
      on (id ∷ ids) (inl refused) = not_refused schema keys db bare.child (id ∷ ids) unique fit refused.0 refused.1
      on (id ∷ ids) (inr (inl big)) = let e = big.3 in cc
      on (id ∷ ids) (inr (inr goes)) =
          let edit = action_edit db (record bare { deed = deed.Delete; depth = 0 }) (id ∷ ids) in
          let none = no_works_there schema keys 1 bare.child.tree (taken_by db edit) [] alone in
          rest goes.0 below (goes.1.fits.rules Unique (λ e. cc)) leaves (subst (λ ws. Leads schema keys n goes.0 ws (Err (Some why))) (ap (λ ws. below ++ ws) none ∙ append-nil below) goes.2)

  split : (below : List Work) (w : Work) → AllByRecursion (IsLeaf schema) (below ++ w ∷ [])
      → AllByRecursion (IsLeaf schema) below × IsLeaf schema w
  split [] w h = (tt, h.0)
  split (x ∷ below) w h = let parts = split below w h.1 in ((h.0, parts.0), parts.1)

  never : (n : ℕ) (db : Trees) (stack : List Work) → Keeps Unique schema db → AllByRecursion (IsLeaf schema) stack
      → Leads schema keys n db stack (Err (Some why)) → ⊥
  never zero db stack unique leaves h = let e = h.1 in cc
  never (suc n) db stack unique leaves h =
      let parts = split h.0 h.1 (subst (AllByRecursion (IsLeaf schema)) h.2 leaves) in
      let leaf = parts.1 in
      one_not n (never n) db h.0 leaf.bare unique leaf.alone leaf.fit parts.0 (subst (λ w. Acts schema keys (Leads schema keys n) db w h.0 (Err (Some why))) leaf.is h.3)

  -- nor is the deletion that set them off
  never_refused : (db : Trees) (table : Table) (ids : List ℤ) → Keeps Unique schema db
      → references_fit schema table false true ≡ true
      → ((olds : List Row) → AllByRecursion (IsLeaf schema) (works schema keys 0 table.tree olds []))
      → Writes schema keys db (edit_of db table ids Given 0 []) (Err (Some why)) → ⊥
  never_refused db table ids unique fit leaves (inl refused) =
      not_refused schema keys db table ids unique fit refused.0 refused.1
  never_refused db table ids unique fit leaves (inr (inl big)) = let e = big.3 in cc
  never_refused db table ids unique fit leaves (inr (inr goes)) =
      never goes.2.0 goes.0 (works schema keys 0 table.tree (taken_by db (edit_of db table ids Given 0 [])) []) (goes.1.fits.rules Unique (λ e. cc)) (leaves _) goes.2.1

-- ---- the keys of what is left

-- No key refers to the tree, whose rows are fewer, and the others are as they were: each row that is left has its parents.
module _ (schema : Schema) (old new : Trees) (tree : ℕ) (alone : is_referred_to schema tree ≡ false) (fewer : AreFewer schema old new) (others : AllByRecursion (λ t. t.tree ≢ tree → new t.tree ≡ old t.tree) schema.tables) where
  elsewhere : (t : Table) (ref : Reference) (key : ParentKey) → Has schema.tables t → Has t.references ref
      → parent_key schema.tables ref ≡ Some key → key.0 ≢ tree
  elsewhere t ref key listed known is same = never_false
      (some_from (λ (t : Table). list_any (λ ref. points tree (parent_key schema.tables ref)) t.references) schema.tables t listed
      (some_from (λ ref. points tree (parent_key schema.tables ref)) t.references ref known (ap (points tree) is ∙ eq-eqb key.0 tree same))) alone

  held_still : (t : Table) (ref : Reference) (row : Row) → Has schema.tables t → Has t.references ref
      → (o : Option ParentKey) → parent_key schema.tables ref ≡ o
      → is_held new ref.columns row o ≡ is_held old ref.columns row o
  held_still t ref row listed known None is = refl
  held_still t ref row listed known (Some key) is =
      let parent = parent_is_table schema.tables ref key is in
      let same : new key.0 ≡ old key.0 =
      subst (λ k. new k ≡ old k) parent.2 (all_has _ schema.tables parent.0 others parent.1 (λ e. elsewhere t ref key listed known is (sym parent.2 ∙ e))) in
      rw same refl

  still_refers : Keeps ForeignKey schema old → Refers All schema new
  still_refers keeps = refers_from All schema new (λ t ref row listed known _ there.
      ap (λ b. has_null ref.columns row || b) (held_still t ref row listed known _ refl)
      ∙ test_has _ t.references ref (keeps_at ForeignKey schema old t row keeps listed (fewer t row listed there)) known)

-- ---- a DELETE

pub data IsDeleteRefusal (limit : Option ℕ) (mode : Mode) (params : Row) (schema : Schema) (table : Table) (q : Program) (db : Trees) (e : Error) : Type 0 where
  -- the condition does not type, or the limit on steps is reached
  by_query : RefusesQuery limit (record { schema = schema; trees = db }) q params e
      → IsDeleteRefusal limit mode params schema table q db e
  -- a rule, also of a table whose rows are deleted with these
  by_rule : (rows : List Row) → Answers (record { schema = schema; trees = db }) q params rows → (why : Refusal)
      → Writes schema mode.keys db (edit_of db table (ids_of rows) Given 0 []) (Err (Some why))
      → IsDeleteRefusal limit mode params schema table q db e
  -- a foreign key, once the rows are gone
  by_key : (rows : List Row) → Answers (record { schema = schema; trees = db }) q params rows → (after : Trees)
      → Writes schema mode.keys db (edit_of db table (ids_of rows) Given 0 []) (Ok after)
      → (Refers (due mode) schema after → ⊥) → IsDeleteRefusal limit mode params schema table q db e

module _ (schema : Schema) (at : ℕ) (any : Table) (is : slice_get schema.tables at ≡ Some (plain any)) where
  delete_refused : (limit : Option ℕ) (mode : Mode) (params : Row) (text : List ℕ) (q : Program) (before : Database) (e : Error)
      → before.schema ≡ schema
      → Does limit mode params before text None (Delete at q) (Err (Some e))
      → IsDeleteRefusal limit mode params schema (plain any) q before.trees e
  delete_refused limit mode params text q before e has h =
      let does = subst (λ s. Does limit mode params (record before { schema = s }) text None (Delete at q) (Err (Some e))) has h in
      let on = subst (λ o. AtPlace (λ t. OnRows (record { limit = limit; keys = mode.keys; schema = schema; table = t; params = params }) mode None (Delete at q) before.trees) o (Err (Some e))) is does in
      go on
    where
      queried : (stop : Option Error)
          → Queried limit (record { schema = schema; trees = before.trees }) q params (Err stop) → stop ≡ Some e
          → IsDeleteRefusal limit mode params schema (plain any) q before.trees e
      queried None h f = absurd h
      queried (Some x) h f = let same : x ≡ e = cc in by_query (subst (RefusesQuery limit (record { schema = schema; trees = before.trees }) q params) same h)

      edited : (rows : List Row) → Answers (record { schema = schema; trees = before.trees }) q params rows
          → (stop : Option Error)
          → Edited schema mode.keys before.trees (edit_of before.trees (plain any) (ids_of rows) Given 0 []) (Err stop)
          → stop ≡ Some e → IsDeleteRefusal limit mode params schema (plain any) q before.trees e
      edited rows answer stop (None, writes, s) f = absurd (let clash : None ≡ Some e = sym s ∙ f in cc)
      edited rows answer stop (Some why, writes, s) f = by_rule rows answer why writes

      tested : (w : Written)
          → WritesRows (record { limit = limit; keys = mode.keys; schema = schema; table = plain any; params = params }) before.trees (Delete at q) (Ok w)
          → (Refers (due mode) schema w.trees → ⊥)
          → IsDeleteRefusal limit mode params schema (plain any) q before.trees e
      tested w deleted broken =
          let given = went deleted in
          let written = went given.2 in
          by_key given.0 given.1 written.0 written.1 (subst (λ db. Refers (due mode) schema db → ⊥) (ap (λ (it : Written). it.trees) (same_value written.2)) broken)

      go : OnRows (record { limit = limit; keys = mode.keys; schema = schema; table = plain any; params = params }) mode None (Delete at q) before.trees (Err (Some e))
          → IsDeleteRefusal limit mode params schema (plain any) q before.trees e
      go (inl (stop, inl (s, refused, p), q)) = queried s refused (sym (same_error p) ∙ sym (same_error q))
      go (inl (stop, inr (rows, answer, inl (s, refused, p)), q)) =
          edited rows answer s refused (sym (same_error p) ∙ sym (same_error q))
      go (inl (stop, inr (rows, answer, inr (next, writes, p)), q)) = absurd (cc)
      go (inr (w, deleted, inl (stop, broken, q))) = tested w deleted broken.0
      go (inr (w, deleted, inr (defect, sound, inl shown))) = absurd (let k = shown.1 in cc)
      go (inr (w, deleted, inr (defect, sound, inr last))) = absurd (let k = last.2 in cc)

-- a DELETE whose condition types, of a table whose foreign keys fit, where each work that it sets off is a leaf's and no row loses a parent
module _ (sql : List ℕ) (params : Row) (old new : State) (schema : Schema) (has : old.now.schema ≡ schema) (at : ℕ) (q : Program) (is : command_of (understood schema sql) ≡ Delete at q)
    (bare : IsPlain (understood schema sql)) (whole : IsWhole (length sql) (length params) (understood schema sql)) (any : Table) (placed : slice_get schema.tables at ≡ Some (plain any))
    (accepted : (db : Trees) (e : Error) → RefusesQuery None (record { schema = schema; trees = db }) q params e → ⊥) (fit : references_fit schema (plain any) false true ≡ true) where
  module _ (leaves : (olds : List Row) → AllByRecursion (IsLeaf schema) (works schema Enforced 0 any.tree olds []))
      (parents : (rows : List Row) → Answers (record { schema = schema; trees = old.now.trees }) q params rows → Obeys schema old.now.trees → (after : Trees)
      → Writes schema Enforced old.now.trees (edit_of old.now.trees (plain any) (ids_of rows) Given 0 []) (Ok after)
      → Refers All schema after) where
    pub delete_cause : IsLive old → IsUnlimited old → (e : Error) → Executes sql params old new (Err e)
        → HasCause old new (fault_of e)
    delete_cause live free e h = elim (fails_as sql params old new schema has (Delete at q) is bare whole refl e h) [
      | inl refused ↦ absurd (why_not refused)
      | inr failed ↦ failed_cause old new e failed.1
    ]
      where
        no_refusal : Obeys schema old.now.trees
            → IsDeleteRefusal None (mode_of old) params schema (plain any) q old.now.trees e → ⊥
        no_refusal obeys (by_query refused) = accepted old.now.trees e refused
        no_refusal obeys (by_rule rows answer why writes) =
            never_refused schema Enforced why old.now.trees (plain any) (ids_of rows) (obeys.rules Unique) fit leaves writes
        no_refusal obeys (by_key rows answer after writes broken) = broken (parents rows answer obeys after writes)

        why_not : Refused old new params (Delete at q) (statement_of sql (understood schema sql)) e → ⊥
        why_not it = elim it.why [
          | inl misplaced ↦ elim misplaced [
            | inl turn ↦ elim turn.1 [ inl begins ↦ (let k = begins.0 in cc) | inr ends ↦ elim ends.0 [ inl k ↦ cc | inr k ↦ cc ] ]
            | inr named ↦ elim named.2 [ inl k ↦ cc | inr k ↦ cc ]
          ]
          | inr does ↦
              let obeys = subst (λ s. Obeys s old.now.trees) has (live it.same.0.was_open).0.obeys in
              no_refusal obeys (subst (λ limit. IsDeleteRefusal limit (mode_of old) params schema (plain any) q old.now.trees e) free
              (delete_refused schema at any placed old.step_limit (mode_of old) params (statement_of sql (understood schema sql)) q old.now e has does.1))
        ]

  -- no key refers to the table
  pub leaf_cause : is_referred_to schema any.tree ≡ false → IsLive old → IsUnlimited old → (e : Error)
      → Executes sql params old new (Err e) → HasCause old new (fault_of e)
  leaf_cause alone = delete_cause
      (λ olds. subst (AllByRecursion (IsLeaf schema)) (sym (no_works_there schema Enforced 0 any.tree olds [] alone)) tt)
      (λ rows answer obeys after writes.
      let edit = edit_of old.now.trees (plain any) (ids_of rows) Given 0 [] in
      let applies = one_step schema Enforced old.now.trees after edit (no_works_there schema Enforced 0 any.tree (taken_by old.now.trees edit) [] alone) writes in
      still_refers schema old.now.trees after any.tree alone (fewer rows after applies) applies.tables (obeys.rules ForeignKey))
    where
      fewer : (rows : List Row) (after : Trees)
          → Applies schema Enforced old.now.trees (edit_of old.now.trees (plain any) (ids_of rows) Given 0 []) after
          → AreFewer schema old.now.trees after
      fewer rows after applies t row listed there = elim (cases_eq t.tree any.tree) [
        | inl same ↦ subst (λ k. Has (old.now.trees k) row) (sym same) (without_all_has (ids_of rows) (old.now.trees any.tree) row (subst (λ l. Has l row) applies.rows (subst (λ k. Has (after k) row) same there)))
        | inr other ↦ subst (λ l. Has l row) (all_has _ schema.tables t applies.tables listed other) there
      ]
