-- An office of version 1, judged and brought to version 2.
use Rattle.std.proofs.Common.{◌≡◌, [], ◌∷◌, ◌≤◌, None, IsTrue, inl, inr, sym, arith, subst, ◌∙◌}
use Rattle.sqlite.specs.State.{State}
use Rattle.office_tables.specs.Schema as tables
use Rattle.office_tables.specs.declared.fault.StoreFault.TheVariants as store
use Rattle.nested_sets.specs.Representation.{RepresentsSpanRows}
use Rattle.row_completeness.proofs.KeptPlaces.{links_represent}
use Rattle.office_core.specs.State as office
use Rattle.adoption.specs.OrderedTables.{StandInOrder}
use Rattle.adoption.specs.Tables.{RepresentsItsState}
use Rattle.adoption.specs.declared.verdict.Verdict.{Verdict}
use Rattle.adoption.specs.declared.verdict.Verdict.TheVariants as verdict
use Rattle.office.specs.Migration.{IsMigrated}
use Rattle.office.specs.declared.faults.OpenFault.{OpenFault}
use Rattle.office.specs.declared.faults.OpenFault.TheVariants as fault
use Rattle.office.proofs.Common.{BlamesDisk, Database, First, HasAdoptCause, HasOuterCause, IsDatabase, IsVerdict}
use Rattle.office.proofs.Common.{OnlyTouches, RepresentsLinkRows, RepresentsState, Second, StoreFault}
use Rattle.office.proofs.Common.{fault_for_verdict, open_fault_of, state_in}
use Rattle.office.proofs.Adoptions.{none_refused, sound_shown}

-- tables that are judged to be a sound office's
module _ (db : Database) (told : Verdict) (none : fault_for_verdict told ≡ None) (is : IsVerdict First db told) where
  pub judged_sound : IsVerdict First db verdict.Sound
  judged_sound = subst (IsVerdict First db) (none_refused told none) is

  module _ (live : IsDatabase db) where
    -- if they are ordered, they show the state that their rows say
    pub shows_its_state : StandInOrder db → RepresentsItsState RepresentsLinkRows First db
    shows_its_state ordered =
        sound_shown RepresentsLinkRows First links_represent db (record { schema_is = judged_sound.0.schema_is; live = live; ordered = ordered; causeless = judged_sound.1 ordered })

    pub migrated : (new : Database)
        → ((s : office.State) → RepresentsState RepresentsLinkRows First db s → RepresentsState RepresentsSpanRows Second new s)
        → OnlyTouches (tables.office.tree ∷ tables.link.tree ∷ []) db new → IsMigrated db new
    migrated new brings only = record {
      judged = judged_sound;
      sound = λ ordered. (shows_its_state ordered).sound;
      represents = λ ordered. brings (state_in First db.trees) (shows_its_state ordered).represents;
      only = only;
    }

-- ---- why not

-- a call that follows the judging blames the disk for its own failures only, and not the tables if they are ordered
pub cause_of_call : (old mid new : State) (f : StoreFault) → BlamesDisk mid new f
    → (StandInOrder old.now → HasOuterCause mid new f) → old.faults ≤ mid.faults → mid.is_open ≡ old.is_open
    → HasAdoptCause First old new (open_fault_of f)
cause_of_call old mid new store.Memory blames why counts opened = tt
cause_of_call old mid new store.Disk blames why counts opened = elim blames [
  | inl more ↦ inl (omega arith)
  | inr shut ↦ inr (sym opened ∙ shut)
]
cause_of_call old mid new store.Schema blames why counts opened = λ ordered. absurd (why ordered)

-- what was the cause inside the transaction is one of the whole call
module _ (before old new after : State) (counts : before.faults ≤ old.faults) (counts_after : new.faults ≤ after.faults) (same : old.now ≡ before.now) (opened : IsTrue old.is_open) where
  pub cause_outside : (f : OpenFault) → HasAdoptCause First old new f → HasAdoptCause First before after f
  cause_outside fault.Memory why = tt
  cause_outside fault.Disk why = elim why [
    | inl more ↦ inl (omega arith)
    | inr shut ↦ absurd cc
  ]
  cause_outside fault.Schema why =
      λ ordered. subst (λ (db : Database). IsVerdict First db verdict.OtherTables) same (why (subst StandInOrder (sym same) ordered))
  cause_outside fault.NoOffice why = subst (λ (db : Database). IsVerdict First db verdict.NoOffice) same why
  cause_outside fault.OldVersion why = subst (λ (db : Database). IsVerdict First db verdict.OldVersion) same why
  cause_outside fault.NewVersion why = subst (λ (db : Database). IsVerdict First db verdict.NewVersion) same why
  cause_outside (fault.Unsound n) why = subst (λ (db : Database). IsVerdict First db (verdict.Unsound n)) same why
