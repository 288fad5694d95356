-- Why a definition fails: none that is understood, and whose names are free, is refused.
use Rattle.std.proofs.Common.{◌≡◌, ◌⊎◌, inl, inr, ℕ, List, [], length, slice_get, Bool, true, false, Ok, Err, Result}
use Rattle.std.proofs.Common.{Some, None, IsUtf8, refl, sym, ap, subst, ◌∙◌, arith}
use Rattle.std.proofs.lemmas.Str.{IsUtf8-from_is_utf8}
use Rattle.sqlite.specs.Change.{created, indexed, is_used}
use Rattle.sqlite.specs.Listing.{understood}
use Rattle.sqlite_catalog.proofs.StepLemmas.{empty_unique}
use Rattle.sqlite_catalog.specs.Calls.{IsBadName, RefusesTable, RefusesIndex}
use Rattle.sqlite_catalog.specs.declared.error.Refusal.{Refusal}
use Rattle.sqlite_catalog.specs.declared.error.Refusal.TheVariants.{Invalid, NameTaken, BadName, TooBig, BadKey}
use Rattle.sqlite_catalog.specs.declared.error.Refusal.TheVariants.{BadText, Violates}
use Rattle.sqlite_resolve.specs.declared.error.CompileError.{CompileError}
use Rattle.office_tables.specs.Faults.{HasCause}
use Rattle.office_tables.specs.Text.{IsAlone}
use Rattle.office_tables.proofs.Common.{AllByRecursion, Compiled, CreateIndex, CreateTable, Database, Defines}
use Rattle.office_tables.proofs.Common.{DefinesIndex, DefinesTable, Does, Error, Executes, Gives, HasMade, IsDatabase}
use Rattle.office_tables.proofs.Common.{IsFreeName, IsLive, IsNoText, IsPlain, Keeps, MakesIndex, MakesSequence}
use Rattle.office_tables.proofs.Common.{MakesTable, Mode, Part, Schema, State, Table, Then, Unique, all_has, fault_of}
use Rattle.office_tables.proofs.Common.{lacks_sequence, ltb-true, mode_of, no_rows, some_from, test_has}
use Rattle.office_tables.proofs.Causes.{failed_cause}
use Rattle.office_tables.proofs.Failures.{IsWhole, fails_as}
use Rattle.office_tables.proofs.Steps.{same_value}
use Rattle.office_tables.proofs.Refusals.{never_misplaced}

clash : (b : Bool) → b ≡ false → b ≡ true → ⊥
clash b off on = let it : false ≡ true = sym off ∙ on in cc

-- what the text defines, where SQLite found something in it
found : {A E : Type 0} {spec : Result A E} {made other : A} → spec ≡ Ok made → spec ≡ Ok other → other ≡ made
found is h = same_value (sym h ∙ is)

invalid : {A E : Type 0} {spec : Result A E} {made : A} {e : E} → spec ≡ Ok made → spec ≡ Err e → ⊥
invalid {made} {e} is h = let it : Ok made ≡ Err e = sym is ∙ h in cc

whole_of : (text : List ℕ) (c : Result Compiled CompileError) → IsPlain c → IsAlone text c → IsWhole (length text) 0 c
whole_of text (Ok c) plain alone = (omega (arith, alone.0), sym (ap length alone.1), plain.1)
whole_of text (Err e) plain alone = alone

-- a part that did not stop at its first step stopped later
stopped : {A B : Type 0} (First : Part A) (Next : A → Part B) (e : Error) → Then First Next (Err (Some e))
    → First (Err (Some e)) ⊎ ((a : A) × First (Ok a) × Next a (Err (Some e)))
stopped First Next e (inl (stop, h, is)) = inl (subst (λ s. First (Err s)) (let same : stop ≡ Some e = cc in same) h)
stopped First Next e (inr on) = inr on

module _ (there : List Table) (before after : Schema) (text : List ℕ) (utf8 : IsUtf8 text) where
  no_text : (e : Error) → IsNoText text e → ⊥
  no_text e h = h.0 utf8

  bad_name : (name : List ℕ) → IsFreeName before name → (is_own : Bool) → IsBadName name is_own → ⊥
  bad_name name named is_own (inl none) = none (IsUtf8-from_is_utf8 name named.utf8)
  bad_name name named is_own (inr own) = clash _ named.unreserved own.0

  module _ (defines : DefinesTable there before text after) where
    accepts_table : (why : Refusal) → RefusesTable before text why → ⊥
    accepts_table (Invalid e) h = invalid defines.defined h
    accepts_table NameTaken (table, is, used) =
        let used' = rw (found defines.defined is) at used in
        elim used' [
          | inl taken ↦ clash _ defines.allowed.named.free taken
          | inr guard ↦ clash _ defines.allowed.guards (some_from (λ i. is_used before i.name) _ guard.0 guard.1 guard.2)
        ]
    accepts_table BadName (table, is, bad) = let bad' = rw (found defines.defined is) at bad in bad_name defines.table.name defines.allowed.named _ bad'
    accepts_table TooBig (table, is, big) =
        let big' = rw (found defines.defined is) at big in
        elim big' [
          | inl trees ↦ omega (arith, trees, ltb-true _ _ defines.allowed.trees)
          | inr (inl reals) ↦ omega (arith, reals, ltb-true _ _ defines.allowed.reals)
          | inr (inr key) ↦ omega (arith, key.2, ltb-true _ _ (test_has _ defines.table.uniques key.0 defines.allowed.key_reals key.1))
        ]
    accepts_table BadKey (table, is, bad) = let bad' = rw (found defines.defined is) at bad in clash _ bad' defines.allowed.formed
    accepts_table BadText (table, is, bad) = let bad' = rw (found defines.defined is) at bad in clash _ bad' defines.allowed.fit
    accepts_table (Violates rule) h = absurd h

    makes_table : (db : Database) → db.schema ≡ before → (e : Error) → MakesTable text db (Err (Some e)) → ⊥
    makes_table db has e (inl none) = no_text e none
    makes_table db has e (inr refused) =
        accepts_table refused.0 (subst (λ s. RefusesTable s text refused.0) has refused.1)

    makes_sequence : (db made : Database) → db.schema ≡ before → MakesTable text db (Ok made) → (e : Error)
        → MakesSequence made (Err (Some e)) → ⊥
    makes_sequence db made has it e h =
        let is : made.schema ≡ created before defines.table =
        it.is ∙ ap (λ s. created s it.table) has ∙ ap (created before) (found defines.defined it.defined) in
        let plain : lacks_sequence made.schema ≡ false = ap lacks_sequence is ∙ defines.uncounted in
        let none = rw plain at h in
        cc

    defines_table : (mode : Mode) (db : Database) → db.schema ≡ before → (e : Error)
        → Defines mode (Then (MakesTable text db) MakesSequence) (Err (Some e)) → ⊥
    defines_table mode db has e h = elim (stopped (Then (MakesTable text db) MakesSequence) (λ made. Gives (no_rows mode.in_doubt, made)) e h) [
      | inl made ↦ elim (stopped (MakesTable text db) MakesSequence e made) [ inl refused ↦ makes_table db has e refused | inr late ↦ makes_sequence db late.0 has late.1 e late.2 ]
      | inr done ↦ let k = done.2 in cc
    ]

    -- a table that is understood is made, or the store failed
    pub table_cause : (old new : State) → old.now.schema ≡ before → (e : Error) → Executes text [] old new (Err e)
        → HasCause old new (fault_of e)
    table_cause old new has e h =
        elim (fails_as text [] old new before has CreateTable defines.says.is defines.says.plain (whole_of text (understood before text) defines.says.plain defines.says.alone) refl e h) [
          | inl refused ↦ elim refused.why [
            | inl wrong ↦ absurd (never_misplaced old CreateTable e refl wrong)
            | inr does ↦ absurd (defines_table (mode_of old) old.now has e (subst (λ t. Does old.step_limit (mode_of old) [] old.now t None CreateTable (Err (Some e))) defines.says.whole does.1))
          ]
          | inr failed ↦ failed_cause old new e failed.1
        ]

  module _ (defines : DefinesIndex there before text after) (db : Database) (has : db.schema ≡ before) (sound : IsDatabase db) (empty : db.trees defines.table.tree ≡ []) where
    accepts_index : (why : Refusal) → RefusesIndex before db.trees defines.table text why → ⊥
    accepts_index (Invalid e) h = invalid defines.defined h
    accepts_index NameTaken (index, is, used) = let used' = rw (found defines.defined is) at used in clash _ defines.allowed.named.free used'
    accepts_index BadName (index, is, bad) =
        let bad' = rw (found defines.defined is) at bad in
        elim bad' [ inl name ↦ bad_name defines.index.name defines.allowed.named _ name | inr owner ↦ owner (IsUtf8-from_is_utf8 _ defines.allowed.utf8) ]
    accepts_index TooBig (index, is, big) =
        let big' = rw (found defines.defined is) at big in
        elim big' [
          | inl trees ↦ omega (arith, trees, ltb-true _ _ defines.allowed.trees)
          | inr (inl reals) ↦ omega (arith, reals, ltb-true _ _ defines.allowed.reals)
          | inr (inr key) ↦ omega (arith, key, ltb-true _ _ defines.allowed.key_reals)
        ]
    accepts_index BadKey h = absurd h
    accepts_index BadText (index, is, bad) = let bad' = rw (found defines.defined is) at bad in clash _ bad' defines.allowed.fit
    accepts_index (Violates rule) (index, is, unique, broken) =
        broken (subst (λ s. Keeps Unique (indexed s defines.table index) db.trees) has
        (empty_unique db.schema db.trees defines.table _ (record { rules = λ rule _. sound.obeys.rules rule; indexed = sound.obeys.indexed }) refl empty))

    makes_index : (e : Error) → MakesIndex text db defines.table (Err (Some e)) → ⊥
    makes_index e (inl none) = no_text e none
    makes_index e (inr refused) =
        accepts_index refused.0 (subst (λ s. RefusesIndex s db.trees defines.table text refused.0) has refused.1)

    defines_index : (mode : Mode) → (e : Error) → Defines mode (MakesIndex text db defines.table) (Err (Some e)) → ⊥
    defines_index mode e h = elim (stopped (MakesIndex text db defines.table) (λ made. Gives (no_rows mode.in_doubt, made)) e h) [ inl refused ↦ makes_index e refused | inr done ↦ let k = done.2 in cc ]

  -- an index that is understood, on a table that has no rows yet, is made, or the store failed
  pub index_cause : (defines : DefinesIndex there before text after) (start : Database) (old new : State) → IsLive old
      → HasMade there before start old.now → (e : Error) → Executes text [] old new (Err e)
      → HasCause old new (fault_of e)
  index_cause defines start old new live made e h =
      let has = made.schema_is in
      elim (fails_as text [] old new before has (CreateIndex defines.at) defines.says.is defines.says.plain (whole_of text (understood before text) defines.says.plain defines.says.alone) refl e h) [
        | inl refused ↦ elim refused.why [
          | inl wrong ↦ absurd (never_misplaced old (CreateIndex defines.at) e refl wrong)
          | inr does ↦
              let placed : slice_get old.now.schema.tables defines.at ≡ Some defines.table =
              ap (λ (s : Schema). slice_get s.tables defines.at) has ∙ defines.place in
              let it = subst (λ t. Does old.step_limit (mode_of old) [] old.now t None (CreateIndex defines.at) (Err (Some e))) defines.says.whole does.1 in
              let empty = all_has (λ (t : Table). old.now.trees t.tree ≡ []) defines.more defines.table (subst (λ ts. AllByRecursion (λ (t : Table). old.now.trees t.tree ≡ []) ts) defines.rest made.empty) defines.among in
              absurd (defines_index defines old.now has (live refused.same.0.was_open).0 empty (mode_of old) e (rw placed at it))
        ]
        | inr failed ↦ failed_cause old new e failed.1
      ]
