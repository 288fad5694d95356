-- Connections that were served, one after the other.
use Rattle.std.proofs.Common.{◌≡◌, ◌∙◌, ◌||◌, ◌⊎◌, ◌+◌, ◌≤◌, ◌++◌, ℕ, Bool, true, false, inl, inr, List, [], ◌∷◌}
use Rattle.std.proofs.Common.{Option, ap, ap₂, refl, sym, subst, arith}
use Rattle.office_core.specs.State.{State}
use Rattle.http_desk.proofs.Openings.{session_open}
use Rattle.http_desk.specs.BusyMessages.{WasBusyWith}
use Rattle.http_desk.specs.declared.streams.Calls.{Calls}
use Rattle.program.specs.Connections.{Serves}
use Rattle.program.proofs.Common.{AllByRecursion, AreSessions, Bytes, Command, Connection, Ended, History, IsHeard}
use Rattle.program.proofs.Common.{Keeps, SessionsLeaveOpen, StaysFoundOrAny, Stream, Through, WereBusyWith}
use Rattle.program.proofs.Common.{after_failing, after_leaving, after_one, calls_of, spent}

-- what has not failed before has failed where this call did
pub failed_so : (new fault old : Bool) → new ≡ (fault || old) → old ≡ false → new ≡ fault
failed_so new true old is none = is
failed_so new false old is none = is ∙ none

-- the calls on what was not called before
pub no_more_calls : (now before most : ℕ) → now ≤ before + most → before ≡ 0 → now ≤ most
no_more_calls now before most within none = omega (arith, within, none)

-- a port is left with a reader and a writer, as their streams then are
pub left_so : (told told_after : Option History) (left held : Option Bytes) (reads writes : Calls) (reader writer : Stream)
    (end : Ended) → told_after ≡ after_leaving told (spent left reads) (spent held writes) end
    → left ≡ reader.bytes → held ≡ writer.bytes → reads ≡ calls_of reader → writes ≡ calls_of writer
    → told_after ≡ after_leaving told (spent reader.bytes (calls_of reader)) (spent writer.bytes (calls_of writer)) end
left_so told told_after left held reads writes reader writer end was gone put read written =
    was ∙ ap₂ (λ r w. after_leaving told r w end) (ap₂ spent gone read) (ap₂ spent put written)

all_weaker : (P Q : Command → Type 0) → ((command : Command) → P command → Q command) → (commands : List Command)
    → AllByRecursion P commands → AllByRecursion Q commands
all_weaker P Q so [] all = tt
all_weaker P Q so (first ∷ others) all = (so first all.0, all_weaker P Q so others all.1)

-- after so many connections, one more
pub and_one : {M : Type 0} (represents : M → State → Type 0) (is_intact is_open : M → Type 0) (recovers : M → List Command → State → Type 0) (n : ℕ) (told told_mid told_after : Option History) (first mid last : M)
    → Serves represents is_intact is_open recovers n told told_mid first mid true → (is_intact last → is_intact mid)
    → (it : Connection) → IsHeard it → told_after ≡ after_one told_mid it
    → Through represents is_intact mid last (λ s t. Keeps (is_open mid) (is_open last) (recovers mid) (recovers last) s it.input it.output it.end t)
    → Serves represents is_intact is_open recovers (n + 1) told told_after first last true
and_one represents is_intact is_open recovers n told told_mid told_after first mid last so_far back it heard answers through =
    record {
      connections = it ∷ so_far.connections;
      heard = (heard, so_far.heard);
      answers = answers ∙ ap (λ h. after_one h it) so_far.answers;
      few = let all = so_far.whole refl in omega arith;
      whole = λ _. let all = so_far.whole refl in omega arith;
      sessions = λ intact s shown.
          let (between, there, before) = so_far.sessions (back intact) s shown in
          let (t, then, talked) = through intact between there in (
            t,
            then,
            (
              (between, before.0, talked.0),
              (λ h. talked.1 (session_open _ (is_open mid) before.1 between t it.input it.output it.end talked.0 h)),
              λ asked found.
                  let (more, busy, finds) = before.2 asked found in
                  let Busy = λ (command : Command). WereBusyWith so_far.connections s between before.0 command ⊎ WasBusyWith talked.0 command in
                  let still = all_weaker (WereBusyWith so_far.connections s between before.0) Busy (λ command was. inl was) more busy in
                  elim (talked.2 (more ++ asked) finds) [
                    | inl same ↦ (more, still, same)
                    | inr (command, was, after) ↦ (command ∷ more, (inr was, still), after)
                  ],
            ),
          );
    }

-- after so many connections, none could be taken
pub and_none : {M : Type 0} (represents : M → State → Type 0) (is_intact is_open : M → Type 0) (recovers : M → List Command → State → Type 0) (n most : ℕ) (told told_mid told_after : Option History) (first mid last : M)
    → Serves represents is_intact is_open recovers n told told_mid first mid true → n ≤ most
    → told_after ≡ after_failing told_mid → last ≡ mid
    → Serves represents is_intact is_open recovers most told told_after first last false
and_none {M} represents is_intact is_open recovers n most told told_mid told_after first mid last so_far within answers same =
    let few = so_far.few in
    record {
      connections = so_far.connections;
      heard = so_far.heard;
      answers = answers ∙ ap after_failing so_far.answers;
      few = omega (arith, few, within);
      whole = λ all. absurd cc;
      sessions = subst (λ (m : M). Through represents is_intact first m (λ s t. (are : AreSessions so_far.connections s t) × (SessionsLeaveOpen (is_open first) so_far.connections s t are → is_open m)
          × StaysFoundOrAny (recovers first) (recovers m) (WereBusyWith so_far.connections s t are) s t)) (sym same) so_far.sessions;
    }

-- what was served by a machine, as its office is seen
pub seen_as : {M N : Type 0} {RM : M → State → Type 0} {IM OM : M → Type 0} {FM : M → List Command → State → Type 0} {most : ℕ} {told told_after : Option History} {old new : M} {all : Bool}
    (R : N → State → Type 0) (I O : N → Type 0) (F : N → List Command → State → Type 0) (a b : N) (it : Serves RM IM OM FM most told told_after old new all)
    → Through R I a b (λ s t. (are : AreSessions it.connections s t) × (SessionsLeaveOpen (O a) it.connections s t are → O b)
    × StaysFoundOrAny (F a) (F b) (WereBusyWith it.connections s t are) s t)
    → Serves R I O F most told told_after a b all
seen_as R I O F a b it sessions = record {
  connections = it.connections;
  heard = it.heard;
  answers = it.answers;
  few = it.few;
  whole = it.whole;
  sessions = sessions;
}

-- nobody was served
pub unserved : {M : Type 0} (represents : M → State → Type 0) (is_intact is_open : M → Type 0) (recovers : M → List Command → State → Type 0) (told : Option History) (office : M)
    → Serves represents is_intact is_open recovers 0 told told office office true
unserved represents is_intact is_open recovers told office = record {
  connections = [];
  heard = tt;
  answers = refl;
  few = omega arith;
  whole = λ _. refl;
  sessions = λ intact s shown. (s, shown, (refl, (λ stays. stays), λ asked found. ([], tt, found)));
}

-- what was known of the port before
pub known_as : {M : Type 0} (represents : M → State → Type 0) (is_intact is_open : M → Type 0) (recovers : M → List Command → State → Type 0) (most : ℕ) (told told_mid told_after : Option History) (old new : M) (all : Bool)
    → told_mid ≡ told → Serves represents is_intact is_open recovers most told_mid told_after old new all
    → Serves represents is_intact is_open recovers most told told_after old new all
known_as represents is_intact is_open recovers most told told_mid told_after old new all same it =
    subst (λ h. Serves represents is_intact is_open recovers most h told_after old new all) same it
