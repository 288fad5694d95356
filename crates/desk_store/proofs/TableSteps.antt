-- How the steps of a creation of tables follow one another.
use Rattle.std.proofs.Common.{◌≡◌, ℕ, List, [], Result, Ok, Err, OnOk, OnErr, IfErr, sym, subst}
use Rattle.sqlite.specs.Schema.{Schema}
use Rattle.sqlite.specs.Table.{Table}
use Rattle.sqlite_trees.specs.declared.store.Store as store
use Rattle.office_tables.specs.Creation.{DefinesTable, IsMaking}
use Rattle.desk_store.specs.TableCreation.{Makes}
use Rattle.desk_store.proofs.Common.{Continues, Database, HasCause, HasCleanDisk, Held, IsAborted, StoreFault}
use Rattle.desk_store.proofs.Common.{continues_then, cut_then, last_cause, on_err_then, on_ok_then, state}

-- a step fails
pub makes_not : {S : Type 0} {g : store.Ghosts S} {here next last : Schema} {before after : Held S} {r : Result Unit StoreFault} {e : StoreFault}
    → r ≡ Err e → Makes g here next before after (Err e) → Makes g here last before after r
makes_not {S} {g} {here} {next} {last} {before} {after} is step =
    subst (Makes g here last before after) (sym is) (record { made = λ start making. tt; faults = step.faults; aborts = step.aborts })

-- the next step is made of what the steps before it left
pub makes_next : {S : Type 0} {g : store.Ghosts S} {here next last : Schema} {before mid after : Held S} {x : Unit} {r : Result Unit StoreFault}
    → Makes g here next before mid (Ok x) → Makes g next last mid after r → Makes g here last before after r
makes_next {S} {g} {here} {next} {last} {before} {mid} {after} {x} {r} first then =
    let a = state g before in
    let b = state g mid in
    let c = state g after in
    record {
      made = λ start making.
          let step = first.made start making in
          on_ok_then r (Continues b c × IsMaking [] last start c) (Continues a c × IsMaking [] last start c) (λ it. (continues_then step.0 it.0, it.1)) (then.made start step.1);
      faults = λ start making clean.
          let step = first.made start making in
          last_cause a b c step.0 r (then.aborts start step.1) clean (λ _. then.faults start step.1 clean);
      aborts = λ start making.
          let step = first.made start making in
          on_err_then r (IsAborted b c) (IsAborted a c) (cut_then step.0) (then.aborts start step.1);
    }

-- one table is made
pub makes_one : {S : Type 0} (g : store.Ghosts S) {text : List ℕ} {here next : Schema} (before after : Held S) (r : Result Unit StoreFault)
    → DefinesTable [] here text next
    → ((there : List Table) (start : Database) (from to : Schema) → IsMaking there from start (state g before) → DefinesTable there from text to → OnOk r (Continues (state g before) (state g after) × IsMaking there to start (state g after)))
    → ((there : List Table) (start : Database) (from to : Schema) → IsMaking there from start (state g before) → DefinesTable there from text to → HasCleanDisk (state g after) → IfErr r (HasCause (state g before) (state g after)))
    → ((there : List Table) (start : Database) (from to : Schema) → IsMaking there from start (state g before) → DefinesTable there from text to → OnErr r (IsAborted (state g before) (state g after)))
    → Makes g here next before after r
makes_one g {text} {here} {next} before after r defined made faults cut = record {
  made = λ start making. made [] start here next making defined;
  faults = λ start making clean. faults [] start here next making defined clean;
  aborts = λ start making. cut [] start here next making defined;
}
