-- A command of one step that changes tables, and what two looks tell before it.
use Rattle.std.proofs.Common.{◌≡◌, ℕ, true, List, Ok, Result, nat_eq, subst, sym}
use Rattle.sqlite.specs.State as store
use Rattle.sqlite_trees.specs.declared.store.Store as trees
use Rattle.desk_core.specs.DeskRows.{Desk}
use Rattle.office_tables.proofs.Causes.{still_unlimited}
use Rattle.office_tables.proofs.LaterCauses.{next_cause}
use Rattle.office_tables.specs.Calls.{Answers, Updates}
use Rattle.office_tables.specs.Faults.{HasCause, IsUnlimited}
use Rattle.office_tables.specs.declared.fault.StoreFault.{StoreFault}
use Rattle.desk_store.specs.Storage.{IsLegibleStorage, RepresentsQueues, Storage}
use Rattle.desk_commands.proofs.Common.{CarriesOutSparing, CarriesOutStep, Command, Continues, Database, Forest, Goes}
use Rattle.desk_commands.proofs.Common.{HasCleanDisk, Held, IsAborted, IsErr, IsErrAnd, IsLegible, IsSoundOffice}
use Rattle.desk_commands.proofs.Common.{OnlyTouches, Reply, RepresentsDesk, RepresentsDeskAlone, RepresentsState}
use Rattle.desk_commands.proofs.Common.{RepresentsWhole, State, Trees, Version, cut_then, desk_legible, early}
use Rattle.desk_commands.proofs.Common.{legible_storage, list_all, list_any, reading_room_trees, shows_storage}
use Rattle.desk_commands.proofs.Common.{spares_catalogue, state, storage_of, tables, ⊤}
use Rattle.desk_commands.proofs.Spared.{does_pass, spared}

-- it went well
pub does_well : {places : Trees → Forest ℕ → Type 0} {version : Version} {known : State → Type 0} {asked : Command} {a b : store.State} {reply : Reply}
    → Goes a b → (spares_catalogue asked ≡ true → HasCleanDisk b → OnlyTouches reading_room_trees a.now b.now)
    → (HasCleanDisk b → (s : State) → IsSoundOffice s → known s → RepresentsState places version a.now s → CarriesOutStep places version s asked reply b.now)
    → CarriesOutSparing places version known asked a b (Ok reply)
does_well went only steps = record {
  carries = record { steps = steps; goes = went; aborts = tt; faults = λ s sound so it clean free. tt };
  only = only;
}

-- a later step failed, after others that changed tables
pub does_pass_later : {places : Trees → Forest ℕ → Type 0} {version : Version} {known : State → Type 0} {asked : Command} {a b c : store.State} (e : StoreFault) {r : Result Reply StoreFault}
    → IsErr r × IsErrAnd r (λ f. f ≡ e) → Continues a b → IsAborted b c
    → ((s : State) → IsSoundOffice s → known s → RepresentsState places version a.now s → HasCleanDisk b → HasCleanDisk c → IsUnlimited b → HasCause b c e)
    → CarriesOutSparing places version known asked a c r
does_pass_later {a = a} {b = b} {c = c} e handed on cut why =
    does_pass e handed (cut_then on cut) (λ s sound so it clean free. next_cause a b c on cut clean e (λ at_b. why s sound so it at_b clean (still_unlimited a b on free)))

-- it changed the desk
pub desk_made : {S X : Type 0} {g : trees.Ghosts S} {places : Trees → Forest ℕ → Type 0} {version : Version} {known : State → Type 0} {asked : Command} {before after : Held S} {x : X} {touched : List ℕ} {may kept : Desk → Type 0} {made : Desk → Desk} {reply : Reply}
    → Updates g touched RepresentsDeskAlone before after (Ok x) may kept made
    → list_all (λ t. list_any (nat_eq t) reading_room_trees) touched ≡ true
    → ((s : State) → IsSoundOffice s → known s → RepresentsState places version (state g before).now s → may (tables version s).desk)
    → ((s : State) → IsSoundOffice s → known s → RepresentsState places version (state g before).now s → (state g after).now.schema ≡ (state g before).now.schema → OnlyTouches touched (state g before).now (state g after).now → RepresentsDesk (state g after).now.trees (made (tables version s).desk) → CarriesOutStep places version s asked reply (state g after).now)
    → CarriesOutSparing places version known asked (state g before) (state g after) (Ok reply)
desk_made {version = version} made within needs step =
    does_well made.goes (λ spares. spared made within) (λ clean s sound so it. step s sound so it (made.goes.schema clean) (made.only clean) (made.represents_updated clean tt (tables version s).desk it.desk (needs s sound so it)))

-- a change of the desk failed
pub desk_failed : {places : Trees → Forest ℕ → Type 0} {version : Version} {known : State → Type 0} {asked : Command} {old new : store.State} (may : Desk → Type 0) (e : StoreFault) {r : Result Reply StoreFault}
    → IsErr r × IsErrAnd r (λ f. f ≡ e) → IsAborted old new
    → ((beside : ⊤) (d : Desk) → RepresentsDeskAlone old.now beside d → may d → IsLegible d → HasCleanDisk new → IsUnlimited old → HasCause old new e)
    → ((s : State) → IsSoundOffice s → known s → RepresentsState places version old.now s → may (tables version s).desk)
    → CarriesOutSparing places version known asked old new r
desk_failed {version = version} may e handed cut faults needs =
    does_pass e handed cut (λ s sound so it. faults tt (tables version s).desk it.desk (needs s sound so it) (desk_legible version s sound))

-- a look at the containers and the desk failed
pub storage_passed : {places : Trees → Forest ℕ → Type 0} {version : Version} {known : State → Type 0} {asked : Command} {old new : store.State} (e : StoreFault) {r : Result Reply StoreFault}
    → IsErr r × IsErrAnd r (λ f. f ≡ e) → IsAborted old new
    → ((beside : ⊤) (storage : Storage) → RepresentsQueues old.now beside storage → ⊤ → IsLegibleStorage storage → HasCleanDisk new → IsUnlimited old → HasCause old new e)
    → CarriesOutSparing places version known asked old new r
storage_passed {places = places} {version = version} {old = old} e handed cut faults =
    does_pass e handed cut (λ s sound so it. faults tt (storage_of version s) (shows_storage version s places old.now sound it) tt (legible_storage version s sound))

-- the first look was at the desk, the other one at the office
pub both_told : {S X Y : Type 0} {g : trees.Ghosts S} {places : Trees → Forest ℕ → Type 0} {version : Version} {before mid after : Held S} {x : X} {y : Y} {may kept : Desk → Type 0} {other_may other_kept : State → Type 0} {told : ⊤ → Desk → X → Type 0} {answer : ⊤ → State → Y → Type 0}
    → Answers g RepresentsDeskAlone before mid (Ok x) may kept told
    → Answers g (RepresentsWhole places version) mid after (Ok y) other_may other_kept answer
    → HasCleanDisk (state g after) → (s : State) → RepresentsState places version (state g before).now s
    → told tt (tables version s).desk x × answer tt s y
both_told {places = places} {version = version} first second clean s it =
    let at_b = early second.looks.goes.on.crash clean in
    (first.answers at_b tt (tables version s).desk it.desk, second.answers clean tt s (subst (λ (db : Database). RepresentsState places version db s) (sym (first.looks.same at_b)) it))
