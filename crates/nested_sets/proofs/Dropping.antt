-- What DROP of the table of links leaves, and that only the store refuses it: no foreign key refers to the table, and
-- what the others refer to stays.
use Rattle.std.proofs.Common.{◌≡◌, ◌∙◌, inl, inr, ℕ, List, [], ◌∷◌, length, codes, Bool, true, false, ◌||◌, ◌&&◌, Ok}
use Rattle.std.proofs.Common.{Err, Option, Some, None, refl, sym, ap, subst, subst₂, if◌then◌else◌}
use Rattle.std.specs.Bool.{MatchBool}
use Rattle.sqlite.proofs.Callers.{IsPlain, command_of, statement_of, runs_as}
use Rattle.sqlite.proofs.StateLemmas.{survives_weaker}
use Rattle.sqlite.specs.Does.{Does, Tally, Drops, Empties, Leaves, HoldWithout, is_acted_on}
use Rattle.sqlite.specs.Listing.{understood}
use Rattle.sqlite.specs.Rowids.TheVariants.{Given}
use Rattle.sqlite.specs.Rows.{Task, Outcome, Gives, Edited}
use Rattle.sqlite.specs.State.{CommitsBy}
use Rattle.sqlite.specs.declared.error.Error.{Error}
use Rattle.sqlite.specs.declared.run.Mode.{Mode}
use Rattle.sqlite_rules.specs.Calls.{ids_of}
use Rattle.sqlite_schema.specs.Names.{same_name}
use Rattle.sqlite_schema.specs.Rules.{Refers, Keeps, parent_key, has_parent, has_null, is_held}
use Rattle.sqlite_schema.specs.declared.schema.Among.TheVariants.{All}
use Rattle.sqlite_schema.specs.declared.schema.Constraint.TheVariants.{ForeignKey}
use Rattle.sqlite_schema.specs.declared.schema.Keys.TheVariants.{Enforced}
use Rattle.sqlite_tied.specs.Compute.{everything}
use Rattle.sqlite_value.specs.Keys.{joined}
use Rattle.office_tables.proofs.Creations.{naming}
use Rattle.office_tables.proofs.Errors.{stops}
use Rattle.office_tables.proofs.Failures.{IsWhole, fails_as}
use Rattle.office_tables.proofs.Steps.{went, same_value}
use Rattle.office_tables.specs.declared.fault.StoreFault.TheVariants as fault
use Rattle.nested_sets.proofs.Common.{AllByRecursion, BlamesDisk, Command, Continues, Database, DropTable, Executes}
use Rattle.nested_sets.proofs.Common.{First, HasCause, HasCleanDisk, HasMade, IsAborted, IsDatabase, IsLive}
use Rattle.nested_sets.proofs.Common.{IsMisplaced, KeepsRows, Knows, MayCommit, Says, Shows, State, StoreFault}
use Rattle.nested_sets.proofs.Common.{Survives, Table, Trees, Writes, all_weaker, catalogue_schema, early, edit_of}
use Rattle.nested_sets.proofs.Common.{element, failed_cause, fault_of, housing, le_refl, link, list_all, mode_of}
use Rattle.nested_sets.proofs.Common.{permit, schema, stopped, to_unit}

abbrev pub drop_text : List ℕ
drop_text = codes "DROP TABLE link"

abbrev pub drop_command : Command
drop_command = DropTable 12

pub drop_says : Says (schema First) drop_text drop_command
unfolding understood everything naming
drop_says = record { is = refl; plain = (refl, refl); whole = refl; alone = (refl, refl) }

unacted : is_acted_on (schema First) Enforced link ≡ false
unfolding joined same_name
unacted = refl

whole : IsWhole (length drop_text) 0 (understood (schema First) drop_text)
unfolding understood everything naming
whole = (le_refl _, refl, refl)

abbrev is_drop : Command → Bool
is_drop (DropTable at) = true
is_drop _ = false

in_place : (s : State) (e : Error) → IsMisplaced s drop_command e → ⊥
in_place s e (inl (code, inl begins)) = let h : true ≡ false = ap is_drop begins.0 in cc
in_place s e (inl (code, inr (inl commits, none))) = let h : true ≡ false = ap is_drop commits in cc
in_place s e (inl (code, inr (inr rolls, none))) = let h : true ≡ false = ap is_drop rolls in cc
in_place s e (inr (code, name, inl releases, none)) = let h : true ≡ false = ap is_drop releases in cc
in_place s e (inr (code, name, inr rolls, none)) = let h : true ≡ false = ap is_drop rolls in cc

-- ---- what the others refer to

abbrev old_tables : List Table
old_tables = (schema First).tables

abbrev left : List Table
left = catalogue_schema.tables

same_parent : (n : ℕ) → parent_key old_tables (to_unit n) ≡ parent_key left (to_unit n)
unfolding joined same_name
same_parent n = refl

still_referred : (n : ℕ) (db : Trees) (t : ℕ)
    → AllByRecursion (λ row. list_all (has_parent old_tables db row) (to_unit n ∷ []) ≡ true) (db t)
    → AllByRecursion (λ row. list_all (has_parent left db row) (to_unit n ∷ []) ≡ true) (db t)
still_referred n db t =
    all_weaker (λ row. list_all (has_parent old_tables db row) (to_unit n ∷ []) ≡ true) (λ row. list_all (has_parent left db row) (to_unit n ∷ []) ≡ true)
    (λ row h. subst (λ key. ((has_null (n ∷ []) row || is_held db (n ∷ []) row key) && true) ≡ true) (same_parent n) h) (db t)

-- what refers to a unit still does
refers_still : (db : Trees) → Refers All (schema First) db → Refers All catalogue_schema db
refers_still db h =
    let of_run = h.1.1.1.1 in
    let of_office = of_run.1.1.1 in
    let housings = still_referred 1 db housing.tree of_office.1.1.1.1.0 in
    let elements = still_referred 1 db element.tree of_office.1.1.0 in
    let permits = still_referred 2 db permit.tree of_run.1.1.0 in
    (h.0, (h.1.0, (h.1.1.0, (h.1.1.1.0, (of_run.0, (of_run.1.0, (permits, (of_office.0, (of_office.1.0, (elements, (of_office.1.1.1.0, (housings, tt))))))))))))

-- ---- what it does

module _ (limit : Option ℕ) where
  abbrev task : Task
  task = record { limit = limit; keys = Enforced; schema = schema First; table = link; params = [] }

  abbrev mode : Mode
  mode = record { keys = Enforced; in_doubt = false; may_wait = false }

  -- no row goes before the table goes
  none_goes : (db : Trees) (out : Outcome Trees) → Empties task db out → out ≡ Ok db
  none_goes db out h = subst (λ b. MatchBool b (Edited (schema First) Enforced db (edit_of db link (ids_of (db link.tree)) Given 0 []) out) (Gives db out)) unacted h

  pub dropped : (db : Trees) (tally : Tally) (after : Database) → Drops task mode db (Ok (tally, after))
      → (after.schema ≡ catalogue_schema) × KeepsRows left db after.trees
  dropped db tally after h =
      let emptied = went h in
      let uncounted = went emptied.2 in
      let tested = went uncounted.2 in
      let last = went tested.2 in
      let same : uncounted.0 ≡ db = same_value uncounted.1 ∙ same_value (none_goes db (Ok emptied.0) emptied.1) in
      let is : after ≡ last.0 = ap (λ (p : Tally × Database). p.1) (same_value last.2) in
      (ap (λ (d : Database). d.schema) is ∙ last.1.0, subst₂ (λ (d : Trees) (a : Database). KeepsRows left d a.trees) same (sym is) last.1.1)

  no_stop : (stop : Option Error) (db : Trees) → Leaves catalogue_schema db (λ _. ⊥) (Err stop) → ⊥
  no_stop None db h = h
  no_stop (Some e) db h = h

  -- it is not refused where each row that refers to a unit has one
  pub never_refused : (db : Trees) → Refers All (schema First) db → (e : Error) → Drops task mode db (Err (Some e)) → ⊥
  never_refused db refers e (inl (stop, h, is)) = let k : ◌≡◌ {A = Outcome Trees} (Err stop) (Ok db) = none_goes db (Err stop) h in cc
  never_refused db refers e (inr (emptied, h, inl (stop, k, is))) = cc
  never_refused db refers e (inr (emptied, h, inr (now, k, inl (stop, tested, is)))) =
      let same : now ≡ db = same_value k ∙ same_value (none_goes db (Ok emptied) h) in
      tested.0 (subst (λ d. HoldWithout task d All) (sym same) (refers, refers_still db refers))
  never_refused db refers e (inr (emptied, h, inr (now, k, inr (defect, tested, inl (stop, leaves, is))))) =
      no_stop stop now leaves
  never_refused db refers e (inr (emptied, h, inr (now, k, inr (defect, tested, inr (after, leaves, is))))) = cc

module _ (old new : State) (has : old.now.schema ≡ schema First) where
  meant : (out : Outcome (Tally × Database))
      → Does old.step_limit (mode_of old) [] old.now drop_text None drop_command out
      → Drops (task old.step_limit) (mode old.step_limit) old.now.trees out
  meant out h = subst (λ s. Does old.step_limit (mode_of old) [] (record old.now { schema = s }) drop_text None drop_command out) has h

  pub drops : (count : ℕ) → Executes drop_text [] old new (Ok count)
      → HasMade left catalogue_schema old.now new.now × Shows old new new.now (if old.in_transaction then old.committed else new.now) old.in_transaction
  drops count h =
      let w = subst (λ t. Writes old new None drop_command t [] count) drop_says.whole (runs_as drop_text [] old new (schema First) has drop_command drop_says.is drop_says.plain count h) in
      let it = dropped old.step_limit old.now.trees w.tally new.now (meant (Ok (w.tally, new.now)) w.changed) in
      (record { schema_is = it.0; kept = it.1; empty = tt }, w.shown)

  -- the store failed
  pub drop_cause : IsLive old → (e : Error) → Executes drop_text [] old new (Err e) → HasCause old new (fault_of e)
  drop_cause live e h = elim (fails_as drop_text [] old new (schema First) has drop_command drop_says.is drop_says.plain whole refl e h) [
    | inl refused ↦ elim refused.why [
      | inl wrong ↦ absurd (in_place old e wrong)
      | inr does ↦
          let it = subst (λ t. Does old.step_limit (mode_of old) [] old.now t None drop_command (Err (Some e))) drop_says.whole does.1 in
          let sound : IsDatabase old.now = (live refused.same.0.was_open).0 in
          let refers = subst (λ s. Keeps ForeignKey s old.now.trees) has (sound.obeys.rules ForeignKey) in
          absurd (never_refused old.step_limit old.now.trees refers e (meant (Err (Some e)) it))
    ]
    | inr failed ↦ failed_cause old new e failed.1
  ]

-- the disk is blamed for what it caused
pub blames : (old new : State) (f : StoreFault) → HasCause old new f → BlamesDisk old new f
blames old new fault.Memory h = tt
blames old new fault.Disk h = h
blames old new fault.Schema h = tt

-- ---- what it leaves of the transaction

module _ (old new : State) (known : HasCleanDisk old → Knows drop_text drop_command old) (survives : Survives old new (CommitsBy drop_text [] old)) where
  commits_as : Knows drop_text drop_command old → (db : Trees) → CommitsBy drop_text [] old db
      → MayCommit old None drop_command (statement_of drop_text (understood old.now.schema drop_text)) [] db
  unfolding CommitsBy
  commits_as it db h =
      let known = sym h.1.is in
      let bare = subst IsPlain (sym known) it.plain in
      subst₂ (λ k t. MayCommit old None k t [] db) (ap command_of known ∙ it.is) (ap (statement_of drop_text) known) (rw (bare.0, bare.1) at h.2)

  outside : (text : List ℕ) (db : Trees) → MayCommit old None drop_command text [] db → old.in_transaction ≡ false
  outside text db (inl end) = elim end.0 [ inl e ↦ absurd (let h : true ≡ false = ap is_drop e in cc) | inr e ↦ absurd (let h : true ≡ false = ap is_drop e.2 in cc) ]
  outside text db (inr write) = write.0

  crash : Survives old new (λ _. ⊥)
  crash = survives_weaker old new (CommitsBy drop_text [] old) (λ _. ⊥)
      (λ clean db h.
      let it = known (early survives clean) in
      let none = outside (statement_of drop_text (understood old.now.schema drop_text)) db (commits_as it db h) in
      let e : true ≡ false = sym it.inside ∙ none in
      cc)
      survives

  pub drop_cut : (e : Error) → (HasCleanDisk new → Executes drop_text [] old new (Err e)) → IsAborted old new
  drop_cut e runs = record { crash = crash; aborts = λ clean. stopped old new (known (early survives clean)).inside (stops drop_text [] old new e (runs clean)) }

  pub drop_continues : (HasCleanDisk new → Shows old new new.now (if old.in_transaction then old.committed else new.now) old.in_transaction)
      → Continues old new
  drop_continues done = record {
    crash = crash;
    within = λ clean.
        let it = done clean in
        let inside = (known (early survives clean)).inside in
        record { opened = it.is_open ∙ sym it.was_open; committed = it.committed_is ∙ ap (λ k. if k then old.committed else new.now) inside; mode = it.mode };
  }
