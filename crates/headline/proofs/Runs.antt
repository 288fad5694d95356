-- Visits to an office over nested sets, one after the other, are the machine's.
use Rattle.std.proofs.Common.{◌≡◌, ◌<◌, ◌≤◌, ◌+◌, ◌∙◌, ◌++◌, ℕ, List, [], ◌∷◌, Option, Some, Result, Ok, Err, ap, arith}
use Rattle.std.proofs.Common.{drop, get_or, length, refl, set, subst, sym, take}
use Rattle.std.proofs.lemmas.List.{drop-set-lt, drop_more, take_all, take_more, take_more_set}
use Rattle.std.specs.Io.KnownBytes.{Appends, Consumes}
use Rattle.std.specs.List.{AllByRecursion}
use Rattle.sqlite.specs.Held.{Held}
use Rattle.sqlite_trees.specs.declared.store.Store as trees
use Rattle.isad_core.specs.Texts.{Bytes}
use Rattle.office_core.specs.Rules.{state_after}
use Rattle.office_core.specs.SoundOffice.{IsSoundOffice}
use Rattle.office_core.specs.State.{State}
use Rattle.office_core.specs.declared.command.Command.{Command}
use Rattle.office_core.specs.declared.machine.Busy.{Busy}
use Rattle.office_core.specs.declared.machine.Reply.{Reply}
use Rattle.office_core.specs.declared.query.Answer.{Answer}
use Rattle.office_core.specs.declared.query.Query.{Query}
use Rattle.http_desk.proofs.OneRun.{the_headline}
use Rattle.http_desk.proofs.PublicAsks.{sessions_show_only_published}
use Rattle.http_desk.specs.Exchanges.{AtEndIf, StaysFailed, Talks}
use Rattle.http_desk.specs.Headline.{IsOneRun}
use Rattle.http_desk.specs.Streams.{Stream}
use Rattle.http_desk.specs.declared.session_end.Ended.{Ended}
use Rattle.http_desk.specs.declared.session_end.Next.TheVariants.{Ends}
use Rattle.state_encoding.specs.DeskEncoding.{holding_rows, order_rows}
use Rattle.office.specs.Runs.{IsAcceptance, IsCall, Returned, command_call, question_call}
use Rattle.office.specs.Runs as office
use Rattle.headline.specs.Headline.{AllAnsweredInPublic, AreMachines}
use Rattle.headline.specs.declared.visits.Visit.{Visit as Asked}
use Rattle.headline.proofs.Common.{AllHappen, Answered, AreMade, AreVisits, ByHttp, CallsNameDays, CallsNameTexts}
use Rattle.headline.proofs.Common.{Directly, Heard, IsConversation, IsMade, IsVisited, Replied, RepresentsSpanRows}
use Rattle.headline.proofs.Common.{Second, ToDo, ToTell, Visit, VisitsLeaveOpen, WereMade, has_clean_disk, heard_answer}
use Rattle.headline.proofs.Common.{heard_reply, is_shown, is_still_open, next_state}
use Rattle.headline.proofs.Rows.{orders_apart, places_apart}

-- one visit more
pub one_more_visit : {M : Type 0} (represents : M → State → Type 0) (is_intact is_open : M → Type 0) (visits : List Visit)
    (visit : Visit) (old mid new : M) → AreVisits represents is_intact is_open old mid visits
    → IsVisited represents is_intact is_open mid new visit
    → AreVisits represents is_intact is_open old new (visits ++ visit ∷ [])
one_more_visit represents is_intact is_open [] visit old mid new same it =
    (new, subst (λ m. IsVisited represents is_intact is_open m new visit) (sym same) it, refl)
one_more_visit represents is_intact is_open (first ∷ visits) visit old mid new (between, was, are) it =
    (between, was, one_more_visit represents is_intact is_open visits visit between mid new are it)

pub one_more_made : {R W : Type 0} (remaining : R → Option Bytes) (contents : W → Option Bytes)
    (befores afters : List (Asked R W)) (visits : List Visit) (before after : Asked R W) (visit : Visit)
    → AreMade remaining contents befores afters visits → IsMade remaining contents before after visit
    → AreMade remaining contents (befores ++ before ∷ []) (afters ++ after ∷ []) (visits ++ visit ∷ [])
one_more_made remaining contents [] [] [] before after visit are it = (it, tt)
one_more_made remaining contents (x ∷ befores) (y ∷ afters) (z ∷ visits) before after visit are it =
    (are.0, one_more_made remaining contents befores afters visits before after visit are.1 it)
one_more_made remaining contents [] [] (z ∷ visits) before after visit are it = absurd are
one_more_made remaining contents [] (y ∷ afters) visits before after visit are it = absurd are
one_more_made remaining contents (x ∷ befores) [] visits before after visit are it = absurd are
one_more_made remaining contents (x ∷ befores) (y ∷ afters) [] before after visit are it = absurd are

pub one_more_such : {X : Type 0} (P : X → Type 0) (xs : List X) (x : X) → AllByRecursion P xs → P x
    → AllByRecursion P (xs ++ x ∷ [])
one_more_such P [] x all it = (it, tt)
one_more_such P (y ∷ xs) x all it = (all.0, one_more_such P xs x all.1 it)

-- the first in a list, and what follows, if the lists are equal from there on
same_first : {X : Type 0} (xs ys : List X) (i : ℕ) (d : X) → i < length xs → i < length ys → drop i xs ≡ drop i ys
    → (get_or xs i d ≡ get_or ys i d) × (drop (i + 1) xs ≡ drop (i + 1) ys)
same_first xs ys i d l m same =
    let both : get_or xs i d ∷ drop (i + 1) xs ≡ get_or ys i d ∷ drop (i + 1) ys =
    sym (drop_more xs i d l) ∙ (same ∙ drop_more ys i d m) in
    (cc, cc)

-- what is not visited yet stays as it was
pub not_yet : {X : Type 0} (old now : List X) (i : ℕ) (d after : X) → i < length old → length now ≡ length old
    → drop i now ≡ drop i old → drop (i + 1) (set now i after) ≡ drop (i + 1) old
not_yet old now i d after l same rest =
    let m : i < length now = subst (λ n. i < n) (sym same) l in
    let s : i < i + 1 = omega arith in
    drop-set-lt (i + 1) now i after s ∙ (same_first now old i d m l rest).1

pub and_one : {R W M : Type 0} (remaining : R → Option Bytes) (contents : W → Option Bytes)
    (represents : M → State → Type 0) (is_intact is_open : M → Type 0) (old now : List (Asked R W)) (i : ℕ) (d after : Asked R W)
    (first mid last : M) → i < length old → length now ≡ length old → drop i now ≡ drop i old
    → WereMade remaining contents represents is_intact is_open (take i old) (take i now) first mid
    → (happened : Visit) × IsMade remaining contents (get_or now i d) after happened
    × IsVisited represents is_intact is_open mid last happened × CallsNameDays happened × CallsNameTexts happened
    → WereMade remaining contents represents is_intact is_open (take (i + 1) old) (take (i + 1) (set now i after)) first last
and_one remaining contents represents is_intact is_open old now i d after first mid last l same rest (all, made, are, days, texts) (one, is_made, was, day, text) =
    let m : i < length now = subst (λ n. i < n) (sym same) l in
    let whole = one_more_made remaining contents (take i old) (take i now) all (get_or now i d) after one made is_made in
    let there : take (i + 1) old ≡ take i old ++ get_or now i d ∷ [] =
    take_more old i d l ∙ ap (λ it. take i old ++ it ∷ []) (sym (same_first now old i d m l rest).0) in (
      all ++ one ∷ [],
      subst (λ xs. AreMade remaining contents xs (take (i + 1) (set now i after)) (all ++ one ∷ [])) (sym there)
          (subst (λ ys. AreMade remaining contents (take i old ++ get_or now i d ∷ []) ys (all ++ one ∷ [])) (sym (take_more_set now i after m)) whole),
      one_more_visit represents is_intact is_open all one first mid last are was,
      one_more_such CallsNameDays all one days day,
      one_more_such CallsNameTexts all one texts text,
    )

-- when none is left
pub all_made : {R W M : Type 0} (remaining : R → Option Bytes) (contents : W → Option Bytes)
    (represents : M → State → Type 0) (is_intact is_open : M → Type 0) (old now : List (Asked R W)) (i : ℕ) (first last : M)
    → length old ≤ i → length now ≡ length old
    → WereMade remaining contents represents is_intact is_open (take i old) (take i now) first last
    → WereMade remaining contents represents is_intact is_open old now first last
all_made remaining contents represents is_intact is_open old now i first last none same all =
    let none_now : length now ≤ i = omega (arith, none, same) in
    subst (λ befores. WereMade remaining contents represents is_intact is_open befores now first last) (take_all i old none)
    (subst (λ afters. WereMade remaining contents represents is_intact is_open (take i old) afters first last) (take_all i now none_now) all)

all_in_public : (s : State) (visits : List Visit) (t : State) (happen : AllHappen s visits t)
    → AllAnsweredInPublic s visits t happen
all_in_public s [] t same = tt
all_in_public s (ByHttp input output end ∷ later) t (mid, session, more) =
    (sessions_show_only_published s mid input output end session, all_in_public mid later t more)
all_in_public s (Directly asked told ∷ later) t (mid, called, more) = all_in_public mid later t more

-- what visits to an office whose state is sound, with its texts, have led to
pub machines_work : {M : Type 0} (represents : M → State → Type 0) (is_intact is_open : M → Type 0)
    → ((office : M) (t : State) → represents office t → IsSoundOffice t)
    → (visits : List Visit) (old new : M) → AreVisits represents is_intact is_open old new visits
    → AllByRecursion CallsNameDays visits → AllByRecursion CallsNameTexts visits → is_intact new
    → (s : State) → represents old s
    → (t : State) × represents new t × (happen : AllHappen s visits t) × (run : IsOneRun s visits t happen)
    × ((before later : List Command) → run.commands ≡ before ++ later → IsSoundOffice (state_after s before))
    × AllAnsweredInPublic s visits t happen × (VisitsLeaveOpen (is_open old) s visits t happen → is_open new)
machines_work represents is_intact is_open sound visits old new are days texts intact s is =
    let good = sound old s is in
    let (t, shown, happen, run, leaves) = the_headline represents is_intact is_open visits old new are days intact s is good.sound in
    (t, shown, happen, run, run.office texts good, all_in_public s visits t happen, leaves)

-- ---- a session over streams is a visit

-- what `talk` promises of a new source and a new sink, whose reader and writer are had back
pub of_talk : {R W M : Type 0} (remaining : R → Option Bytes) (contents : W → Option Bytes)
    (represents : M → State → Type 0) (is_intact is_open : M → Type 0) (recovers : M → List Command → State → Type 0)
    (reader reader_after : R) (writer writer_after : W) (source source_after sink sink_after : Stream) (end : Ended)
    (old new : M)
    → Talks represents is_intact is_open recovers source.bytes source_after.bytes sink.bytes sink_after.bytes old end new
    → AtEndIf source_after.bytes (Ends end) → StaysFailed is_intact is_open old new
    → source.bytes ≡ remaining reader → sink.bytes ≡ contents writer
    → remaining reader_after ≡ source_after.bytes → contents writer_after ≡ sink_after.bytes
    → IsConversation remaining contents represents is_intact is_open reader reader_after writer writer_after end old new
of_talk remaining contents represents is_intact is_open recovers reader reader_after writer writer_after source source_after sink sink_after end old new session at_end store read written left held =
    let (input, output, gone, put, through) = session in (
      input,
      output,
      subst (λ bytes. Consumes bytes (remaining reader_after) input) read (subst (λ bytes. Consumes source.bytes bytes input) (sym left) gone),
      subst (λ bytes. Appends bytes (contents writer_after) output) written (subst (λ bytes. Appends sink.bytes bytes output) (sym held) put),
      subst (λ bytes. AtEndIf bytes (Ends end)) (sym left) at_end,
      record {
        intact = store.intact;
        was_open = store.was_open;
        happens = λ intact s is. let (t, shown, kept) = through intact s is in (t, shown, (kept.0, kept.1));
      },
    )

-- ---- a call of an office is a visit

abbrev heard_as : Returned → Heard
heard_as (office.Replied reply json) = Replied reply json
heard_as (office.Answered answer) = Answered answer

pub of_command : {M : Type 0} (represents : M → State → Type 0) (is_intact is_open : M → Type 0) (command : Command)
    (told : Result Reply Busy) (old new : M) → IsCall represents is_intact is_open old new (command_call command told)
    → IsVisited represents is_intact is_open old new (Directly (ToDo command) (heard_reply told))
of_command represents is_intact is_open command (Ok reply) old new call = record {
  intact = call.intact;
  was_open = call.was_open;
  happens = λ i s is.
      let (shown, told) = call.follows i s is in
      (next_state s (ToDo command), shown, ((ap heard_as told, refl), λ accepted. call.kept i (subst (λ (it : Returned). IsAcceptance (Some it)) (sym told) accepted)));
}
of_command represents is_intact is_open command (Err busy) old new call = record {
  intact = call.intact;
  was_open = call.was_open;
  happens = λ i s is. (s, call.follows i s is, (refl, λ never. absurd never));
}

pub of_question : {M : Type 0} (represents : M → State → Type 0) (is_intact is_open : M → Type 0) (query : Query)
    (told : Result Answer Busy) (old new : M) → IsCall represents is_intact is_open old new (question_call query told)
    → IsVisited represents is_intact is_open old new (Directly (ToTell query) (heard_answer told))
of_question represents is_intact is_open query (Ok answer) old new call = record {
  intact = call.intact;
  was_open = call.was_open;
  happens = λ i s is. let (shown, told) = call.follows i s is in (s, shown, ((ap heard_as told, refl), λ never. absurd never));
}
of_question represents is_intact is_open query (Err busy) old new call = record {
  intact = call.intact;
  was_open = call.was_open;
  happens = λ i s is. (s, call.follows i s is, (refl, λ never. absurd never));
}

-- ---- an office over nested sets

pub the_work : {S : Type 0} (g : trees.Ghosts S) (visits : List Visit) (old new : Held S)
    → AreVisits (is_shown g RepresentsSpanRows Second) (has_clean_disk g) (is_still_open g) old new visits
    → AllByRecursion CallsNameDays visits → AllByRecursion CallsNameTexts visits → has_clean_disk g new
    → (s : State) → is_shown g RepresentsSpanRows Second old s → AreMachines g old new s visits
the_work g visits old new are days texts clean s is =
    let (t, shown, happen, run, sound, public, leaves) =
    machines_work (is_shown g RepresentsSpanRows Second) (has_clean_disk g) (is_still_open g) (λ office t it. it.0) visits old new are days texts clean s is in
    record {
      state_then = t;
      shown = shown;
      happen = happen;
      run = run;
      sound = sound;
      public = public;
      rows = λ opened.
          let desk = (shown.1 opened).desk in
          record { orders = (order_rows t, desk.orders, orders_apart t); places = (holding_rows t, desk.holdings, places_apart t) };
      is_open = leaves;
    }
