-- Why a write is refused, whatever the schema is.
use Rattle.std.proofs.Common.{◌≡◌, inl, inr, ℕ, zero, suc, List, [], ◌∷◌, ◌++◌, length, slice_get, true, false, Option}
use Rattle.std.proofs.Common.{Some, None, Err, Result, refl, sym, ap, subst, ◌∙◌, append-nil, length-append, arith}
use Rattle.sqlite_rules.specs.declared.error.Refusal.{Refusal}
use Rattle.office_tables.proofs.Common.{Applies, AtPlace, Chosen, Command, ConstraintViolation, Database, Does, Edit}
use Rattle.office_tables.proofs.Common.{Edited, Error, ForeignKey, Insert, IsMisplaced, IsRefused, IsSource, Leads}
use Rattle.office_tables.proofs.Common.{Mode, OnRows, Refers, RefusesSource, Row, Schema, Source, Sourced}
use Rattle.office_tables.proofs.Common.{SqliteFailure, State, Table, Trees, Written, due, edit_error, edit_of, no_works}
use Rattle.office_tables.proofs.Common.{one_step, taken_by, works}
use Rattle.office_tables.proofs.Steps.{plain, went, same_value}
use Rattle.office_tables.proofs.Calls.{is_write}

-- a write is in no wrong place
pub never_misplaced : (s : State) (command : Command) (e : Error) → is_write command ≡ true → IsMisplaced s command e
    → ⊥
never_misplaced s command e write (inl (code, inl begins)) = let h : false ≡ true = sym (ap is_write begins.0) ∙ write in cc
never_misplaced s command e write (inl (code, inr (inl commits, none))) = let h : false ≡ true = sym (ap is_write commits) ∙ write in cc
never_misplaced s command e write (inl (code, inr (inr rolls, none))) = let h : false ≡ true = sym (ap is_write rolls) ∙ write in cc
never_misplaced s command e write (inr (code, name, inl releases, none)) = let h : false ≡ true = sym (ap is_write releases) ∙ write in cc
never_misplaced s command e write (inr (code, name, inr rolls, none)) = let h : false ≡ true = sym (ap is_write rolls) ∙ write in cc

pub data IsInsertRefusal (limit : Option ℕ) (mode : Mode) (params : Row) (schema : Schema) (table : Table) (from : Source) (db : Trees) (e : Error) : Type 0 where
  -- the values do not type, or the limit on steps is reached
  by_source : RefusesSource limit (record { schema = schema; trees = db }) params from e
      → IsInsertRefusal limit mode params schema table from db e
  -- a rule of the table
  by_rule : (rows : List Row) → IsSource (record { schema = schema; trees = db }) params from rows → (why : Refusal)
      → IsRefused schema mode.keys db (edit_of db table [] Chosen 0 rows) why → e ≡ edit_error why
      → IsInsertRefusal limit mode params schema table from db e
  -- a foreign key, once the row is there
  by_key : (rows : List Row) (after : Trees) → IsSource (record { schema = schema; trees = db }) params from rows
      → Applies schema mode.keys db (edit_of db table [] Chosen 0 rows) after → (Refers (due mode) schema after → ⊥)
      → e ≡ SqliteFailure (ConstraintViolation ForeignKey)
      → IsInsertRefusal limit mode params schema table from db e

pub same_error : {X : Type 0} {a b : Option Error} → ◌≡◌ {A = Result X (Option Error)} (Err a) (Err b) → a ≡ b
same_error e = cc

-- an edit that sets off no action is refused by a rule alone
pub edit_refused : (schema : Schema) (mode : Mode) (db : Trees) (edit : Edit) (e : Error)
    → works schema mode.keys 0 edit.table.tree (taken_by db edit) edit.news ≡ [] → (stop : Option Error)
    → Edited schema mode.keys db edit (Err stop) → stop ≡ Some e
    → (why : Refusal) × IsRefused schema mode.keys db edit why × (e ≡ edit_error why)
edit_refused schema mode db edit e idle stop (w, inl refused, is) f =
    let same : w ≡ Some refused.0 = cc in
    let it : Some e ≡ Some (edit_error refused.0) = sym f ∙ is ∙ rw same refl in
    (refused.0, refused.1, cc)
edit_refused schema mode db edit e idle stop (w, inr (inl big), is) f = absurd (let same : w ≡ None = cc in let it : Some e ≡ None = sym f ∙ is ∙ rw same refl in cc)
edit_refused schema mode db edit e idle stop (w, inr (inr went), is) f = absurd (settled went.2.0 (rw idle at went.2.1))
  where
    settled : (n : ℕ) → Leads schema mode.keys n went.0 [] (Err w) → ⊥
    settled zero h = let k = h.1 in cc
    settled (suc n) h = absurd (omega (arith, ap length h.2, length-append h.0 (h.1 ∷ [])))

module _ (schema : Schema) (at : ℕ) (any : Table) (is : slice_get schema.tables at ≡ Some (plain any)) where
  pub insert_refused : (limit : Option ℕ) (mode : Mode) (params : Row) (text : List ℕ) (from : Source) (before : Database) (e : Error)
      → before.schema ≡ schema
      → Does limit mode params before text None (Insert at from) (Err (Some e))
      → IsInsertRefusal limit mode params schema (plain any) from before.trees e
  insert_refused limit mode params text from before e has h =
      let does = subst (λ s. Does limit mode params (record before { schema = s }) text None (Insert at from) (Err (Some e))) has h in
      let on = subst (λ o. AtPlace (λ t. OnRows (record { limit = limit; keys = mode.keys; schema = schema; table = t; params = params }) mode None (Insert at from) before.trees) o (Err (Some e))) is does in
      go on
    where
      sourced : (stop : Option Error)
          → Sourced limit (record { schema = schema; trees = before.trees }) (params ++ []) from (Err stop)
          → stop ≡ Some e → IsInsertRefusal limit mode params schema (plain any) from before.trees e
      sourced None h f = absurd h
      sourced (Some x) h f = let same : x ≡ e = cc in by_source (rw (same, append-nil params) at h)

      go : OnRows (record { limit = limit; keys = mode.keys; schema = schema; table = plain any; params = params }) mode None (Insert at from) before.trees (Err (Some e))
          → IsInsertRefusal limit mode params schema (plain any) from before.trees e
      go (inl (stop, inl (s, refused, p), q)) = sourced s refused (sym (same_error p) ∙ sym (same_error q))
      go (inl (stop, inr (rows, given, inl counted), q)) = absurd (let k = counted.1 in cc)
      go (inl (stop, inr (rows, given, inr (counter, c, inl (s, edited, p))), q)) =
          let it = edit_refused schema mode before.trees (edit_of before.trees (plain any) [] Chosen 0 rows) e (no_works schema mode.keys 0 (plain any).tree _) s edited (sym (same_error p) ∙ sym (same_error q)) in
          by_rule rows (rw (append-nil params) at given) it.0 it.1 it.2
      go (inl (stop, inr (rows, given, inr (counter, c, inr (mid, edited, inl last))), q)) = absurd (let k = last.1 in cc)
      go (inl (stop, inr (rows, given, inr (counter, c, inr (mid, edited, inr last))), q)) = absurd (let k = last.2 in cc)
      go (inr (w, inserted, inl (stop, tested, q))) =
          let given = went inserted in
          let written = went (went given.2).2 in
          let counted = went written.2 in
          let trees : w.trees ≡ written.0 =
          ap (λ (it : Written). it.trees) (same_value counted.2) ∙ same_value counted.1 in
          let edit = edit_of before.trees (plain any) [] Chosen 0 given.0 in
          let step = one_step schema mode.keys before.trees written.0 edit (no_works schema mode.keys 0 any.tree edit.news) written.1 in
          by_key given.0 w.trees (subst (λ p. IsSource (record { schema = schema; trees = before.trees }) p from given.0) (append-nil params) given.1) (subst (Applies schema mode.keys before.trees edit) (sym trees) step) tested.0 (let k : Some e ≡ Some (SqliteFailure (ConstraintViolation ForeignKey)) = same_error q ∙ tested.1 in cc)
      go (inr (w, inserted, inr (defect, tested, inl shown))) = absurd (let k = shown.1 in cc)
      go (inr (w, inserted, inr (defect, tested, inr last))) = absurd (let k = last.2 in cc)
