-- Sessions and calls make one run of the machine.
use Rattle.std.proofs.Common.{◌≡◌, List, [], ◌∷◌, ◌++◌, refl, sym, ap, ◌∙◌, subst, None, Some}
use Rattle.catalogue_core.proofs.EachOf.{all_append, all_split}
use Rattle.office_core.proofs.OrderLaws.{out_apart, issues_the_first}
use Rattle.office_core.proofs.Published.{only_published}
use Rattle.office_core.proofs.SoundDesk.{open_to_holders}
use Rattle.office_core.proofs.StaysSound.{always_sound}
use Rattle.office_core.proofs.Texts.{always_sound_office}
use Rattle.office_core.specs.Rules.{state_after, step}
use Rattle.http_desk.specs.Headline.{KeepsTheRules, IsOneRun, MakeVisits}
use Rattle.http_desk.specs.Runs.{Answered}
use Rattle.http_desk.proofs.Common.{AllBring, AllByRecursion, AllHappen, AreVisits, ByHttp, CallsNameDays}
use Rattle.http_desk.proofs.Common.{CallsNameTexts, Command, Directly, Happens, IsOk, IsSound, NamesDays, NamesTexts}
use Rattle.http_desk.proofs.Common.{Replied, State, ToDo, ToTell, Visit, VisitBrings, VisitLeavesOpen, VisitsLeaveOpen}
use Rattle.http_desk.proofs.Meanings.{runs_the_machine}
use Rattle.http_desk.proofs.Openings.{not_known, visits_open}

keeps_the_rules : (s : State) → IsSound s → KeepsTheRules s
keeps_the_rules s h = record {
  sound = h;
  apart = out_apart s;
  first = issues_the_first s h.desk.filed;
  open_to_holders = open_to_holders s h.desk;
  shown = only_published s;
}

-- the commands of visits whose calls are so named, and the machine's state after them
record HasRun (Bring : List Command → Type 0) (CallsAreNamed : Type 0) (s new : State) : Type 0 where
  commands : List Command
  bring : Bring commands
  days : AllByRecursion NamesDays commands
  texts : CallsAreNamed → AllByRecursion NamesTexts commands
  leaves : new ≡ state_after s commands

one_visit : (s new : State) (visit : Visit) → CallsNameDays visit → (happens : Happens s visit new)
    → HasRun (VisitBrings s visit new happens) (CallsNameTexts visit) s new
one_visit s new (ByHttp input output end) named session =
    let it = runs_the_machine s new input output end session in
    record { commands = it.0; bring = it.1; days = it.1.days; texts = λ _. it.1.texts; leaves = it.1.leaves }
one_visit s new (Directly (ToDo command) (Some told)) named h =
    record { commands = command ∷ []; bring = refl; days = (named, tt); texts = λ text. (text, tt); leaves = h.1 }
one_visit s new (Directly (ToTell query) (Some told)) named h = record { commands = []; bring = refl; days = tt; texts = λ _. tt; leaves = h.1 }
one_visit s new (Directly (ToDo command) None) named h = record { commands = []; bring = refl; days = tt; texts = λ _. tt; leaves = h }
one_visit s new (Directly (ToTell query) None) named h = record { commands = []; bring = refl; days = tt; texts = λ _. tt; leaves = h }

after_both : (first others : List Command) (s : State)
    → state_after s (first ++ others) ≡ state_after (state_after s first) others
after_both [] others s = refl
after_both (asked ∷ first) others s = after_both first others (step s asked).0

two_runs : (s mid new : State) (visit : Visit) (later : List Visit) (happens : Happens s visit mid)
    (others : AllHappen mid later new)
    → HasRun (VisitBrings s visit mid happens) (CallsNameTexts visit) s mid
    → HasRun (AllBring mid later new others) (AllByRecursion CallsNameTexts later) mid new
    → HasRun (AllBring s (visit ∷ later) new (mid, happens, others)) (AllByRecursion CallsNameTexts (visit ∷ later)) s new
two_runs s mid new visit later happens others one more = record {
  commands = one.commands ++ more.commands;
  bring = (one.commands, more.commands, refl, one.bring, more.bring);
  days = all_append NamesDays one.commands more.commands one.days more.days;
  texts = λ named. all_append NamesTexts one.commands more.commands (one.texts named.0) (more.texts named.1);
  leaves = more.leaves ∙ ap (λ x. state_after x more.commands) one.leaves ∙ sym (after_both one.commands more.commands s);
}

all_visits : (s new : State) (visits : List Visit) (happen : AllHappen s visits new)
    → AllByRecursion CallsNameDays visits
    → HasRun (AllBring s visits new happen) (AllByRecursion CallsNameTexts visits) s new
all_visits s new [] same named = record { commands = []; bring = refl; days = tt; texts = λ _. tt; leaves = same }
all_visits s new (visit ∷ later) (mid, happens, more) named =
    two_runs s mid new visit later happens more (one_visit s mid visit named.0 happens) (all_visits mid new later more named.1)

pub one_run : (s new : State) (visits : List Visit) (happen : AllHappen s visits new)
    → AllByRecursion CallsNameDays visits → IsSound s → IsOneRun s visits new happen
one_run s new visits happen named sound =
    let run = all_visits s new visits happen named in
    record {
      commands = run.commands;
      bring = run.bring;
      days = run.days;
      texts = run.texts;
      leaves = run.leaves;
      keeps = λ before later e.
          let both = all_split NamesDays before later (subst (λ (l : List Command). AllByRecursion NamesDays l) e run.days) in
          keeps_the_rules (state_after s before) (always_sound s before both.0 sound);
      office = λ named good before later e.
          let days = all_split NamesDays before later (subst (λ (l : List Command). AllByRecursion NamesDays l) e run.days) in
          let texts = all_split NamesTexts before later (subst (λ (l : List Command). AllByRecursion NamesTexts l) e (run.texts named)) in
          always_sound_office s before days.0 texts.0 good;
    }

module _ {M : Type 0} (represents : M → State → Type 0) (is_intact is_open : M → Type 0) where
  intact_before : (visits : List Visit) (old new : M) → AreVisits represents is_intact is_open old new visits
      → is_intact new → is_intact old
  intact_before [] old new same intact = subst (λ (m : M). is_intact m) (sym same) intact
  intact_before (visit ∷ later) old new it intact = it.1.intact (intact_before later it.0 new it.2 intact)

  all_happen : (visits : List Visit) (old new : M) → AreVisits represents is_intact is_open old new visits
      → is_intact new
      → (s : State) → represents old s
      → (t : State) × represents new t × ((all : AllHappen s visits t) × (VisitsLeaveOpen (is_open old) s visits t all → is_open new))
  all_happen [] old new same intact s is =
      (s, subst (λ (m : M). represents m s) same is, (refl, λ stays. subst (λ (m : M). is_open m) same stays))
  all_happen (visit ∷ later) old new it intact s is =
      let (mid, shown, one) = it.1.happens (intact_before later it.0 new it.2 intact) s is in
      let (t, shown_too, more) = all_happen later it.0 new it.2 intact mid shown in
      (t, shown_too, ((mid, one.0, more.0), λ h. more.1 (visits_open (VisitLeavesOpen (is_open old) s visit mid one.0) (is_open it.0) one.1 mid t later more.0 h)))

  pub the_headline : (visits : List Visit) (old new : M) → AreVisits represents is_intact is_open old new visits
      → AllByRecursion CallsNameDays visits → is_intact new
      → (s : State) → represents old s → IsSound s
      → (t : State) × represents new t × (happen : AllHappen s visits t) × IsOneRun s visits t happen × (VisitsLeaveOpen (is_open old) s visits t happen → is_open new)
  the_headline visits old new are named intact s is sound =
      let (t, shown, all) = all_happen visits old new are intact s is in
      (t, shown, all.0, one_run s t visits all.0 named sound, all.1)

  pub make_visits : (recovers : M → List Command → State → Type 0) → MakeVisits represents is_intact is_open recovers
  make_visits recovers = record {
    talk = λ left left_after held held_after old new end (read, written, consumed, appended, through) intact open_. (
      read,
      written,
      consumed,
      appended,
      record { intact = intact; was_open = open_; happens = λ i s is. let (t, shown, kept) = through i s is in (t, shown, (kept.0, kept.1)) },
    );
    apply = λ old new command reply intact open_ kept step. record {
      intact = intact;
      was_open = open_;
      happens = λ i s is. let (shown, done, json) = step i s is in (_, shown, ((λ j. Replied (done j) (json j), refl), λ accepted. kept i (subst IsOk (sym done) accepted)));
    };
    ask = λ old new query told intact open_ answers. record {
      intact = intact;
      was_open = open_;
      happens = λ i s is. let (shown, same) = answers i s is in (s, shown, ((ap Answered same, refl), λ never. absurd never));
    };
    busy = λ old new asked intact open_ stays. record { intact = intact; was_open = open_; happens = λ i s is. (s, stays i s is, (refl, not_known (is_open old) (is_open new) s s asked refl)) };
  }
