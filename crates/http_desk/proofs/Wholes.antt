-- The session of the whole input: what follows a closing answer means nothing.
use Rattle.std.proofs.Common.{◌≡◌, ℕ, suc, List, [], ◌++◌, length, length-append, Option, None, Some, Bool, inl, inr}
use Rattle.std.proofs.Common.{sym, ap, ◌∙◌, subst, append-nil, arith}
use Rattle.office_core.specs.declared.machine.Machine as machine
use Rattle.http_messages.specs.HeadScan.{scan}
use Rattle.http_desk.specs.declared.session_end.Ended.TheVariants.{Bound}
use Rattle.http_desk.proofs.Common.{Answers, AtEndIf, BodyCut, Bytes, Closed, Command, Cut, End, Ended, Ends, Fails}
use Rattle.http_desk.proofs.Common.{HeadCut, IsBusyWith, IsClosing, IsTooLong, Keeps, Last, NoHead, Nothing, ReadFault}
use Rattle.http_desk.proofs.Common.{Refuses, SomeHead, Stands, State, Talks, TalksWhole, Verdict, WriteFault}
use Rattle.http_desk.proofs.Common.{longest_head, take-append-le}
use Rattle.http_desk.proofs.Turns.{head_more, begins_more}
use Rattle.http_desk.proofs.Sessions.{cuts_longer}

too_long_more : (input more : Bytes) → IsTooLong input → IsTooLong (input ++ more)
too_long_more input more (long, place, is_open) =
    (omega (arith, length-append input more), place, ap scan (take-append-le longest_head input more long) ∙ is_open)

some_head_more : (input more : Bytes) (test : Verdict → Bool) → SomeHead input test → SomeHead (input ++ more) test
some_head_more input more test (block, rest, verdict, h, e) =
    (block, rest ++ more, verdict, head_more input block verdict rest more h, e)

stands_more : (number : ℕ) (input more : Bytes) (last : Last) → IsClosing number last → Stands input last
    → Stands (input ++ more) last
stands_more number input more Nothing c x = absurd c
stands_more number input more HeadCut c x = absurd c
stands_more number input more (BodyCut r) c x = absurd c
stands_more number input more NoHead c x = too_long_more input more x
stands_more number input more (Refuses status bare) c x = (x.0, x.1 ++ more, head_more input x.0 _ x.1 more x.2)
stands_more number input more (Answers m) c x = (x.0 ++ more, begins_more input m x.0 more x.1)
stands_more number input more (Fails leave bare) c x = record {
  continue_due = λ e. some_head_more input more _ (x.continue_due e);
  to_head = λ e. some_head_more input more _ (x.to_head e);
}

busy_more : (input more : Bytes) (command : Command) (last : Last) → IsBusyWith input last command
    → IsBusyWith (input ++ more) last command
busy_more input more command (Fails leave bare) (message, rest, begins, asks) =
    (message, rest ++ more, begins_more input message rest more begins, asks)
busy_more input more command _ never = absurd never

-- what follows a closing answer means nothing
pub nothing_follows : (was now : Type 0) (had has : List Command → State → Type 0) (s : State) (input out more : Bytes) (new : State)
    → Keeps was now had has s input out Closed new → Keeps was now had has s (input ++ more) out Closed new
nothing_follows was now had has s input out more new (a, kept, found) = (
  record {
    messages = a.messages;
    rest = a.rest ++ more;
    out = a.out;
    cut = cuts_longer input a.messages a.rest more a.cut;
    stay = a.stay;
    few = a.few;
    stops = record {
      last = a.stops.last;
      stands = stands_more (suc (length a.messages)) a.rest more a.stops.last a.stops.ends a.stops.stands;
      ends = a.stops.ends;
      written = a.stops.written;
      leaves = a.stops.leaves;
    };
    says = a.says;
  },
  kept,
  (λ asked before. elim (found asked before) [
    | inl still ↦ inl still
    | inr (command, busy, after) ↦ inr (command, busy_more a.rest more command a.stops.last busy, after)
  ]),
)

all_read : (xs ys read : Bytes) → xs ≡ read ++ ys → ys ≡ [] → read ≡ xs
all_read xs ys read e f = sym (e ∙ ap (λ l. read ++ l) f ∙ append-nil read)

pub talks_whole : {M : Type 0} (o : machine.Ghosts M) (a b c d : Option Bytes) (old new : M) (end : Ended)
    → Talks o.represents o.is_intact o.is_open o.recovers a b c d old end new → AtEndIf b (Ends end)
    → TalksWhole o.represents o.is_intact o.is_open o.recovers a c d old end new
talks_whole o None b c d old new end t at_end = tt
talks_whole o (Some xs) None c d old new end (read, written, q, p, through) at_end =
    absurd q
talks_whole o (Some xs) (Some ys) c d old new End (read, written, q, p, through) at_end =
    λ h. (written, p, λ i s x. let (t, y, session) = through i s x in (t, y, subst (λ l. Keeps (o.is_open old) (o.is_open new) (o.recovers old) (o.recovers new) s l written End t) (all_read xs ys read q at_end) session))
talks_whole o (Some xs) (Some ys) c d old new Cut (read, written, q, p, through) at_end =
    λ h. (written, p, λ i s x. let (t, y, session) = through i s x in (t, y, subst (λ l. Keeps (o.is_open old) (o.is_open new) (o.recovers old) (o.recovers new) s l written Cut t) (all_read xs ys read q at_end) session))
talks_whole o (Some xs) (Some ys) c d old new Closed (read, written, q, p, through) at_end =
    λ h. (written, p, λ i s x. let (t, y, session) = through i s x in (t, y, subst (λ l. Keeps (o.is_open old) (o.is_open new) (o.recovers old) (o.recovers new) s l written Closed t) (sym q) (nothing_follows (o.is_open old) (o.is_open new) (o.recovers old) (o.recovers new) s read written ys t session)))
talks_whole o (Some xs) (Some ys) c d old new ReadFault t at_end = λ h. absurd h
talks_whole o (Some xs) (Some ys) c d old new WriteFault t at_end = λ h. absurd h
talks_whole o (Some xs) (Some ys) c d old new Bound t at_end = λ h. absurd h
