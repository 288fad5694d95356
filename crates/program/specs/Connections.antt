-- Connections that were served, one after the other.
use Rattle.std.specs.Prelude.{◌≡◌, ◌≢◌, ◌≤◌, ◌+◌, ◌*◌, ◌++◌, ◌⊎◌, ℕ, Bool, true, false, List, [], ◌∷◌, length, Option}
use Rattle.std.specs.Prelude.{Some, None}
use Rattle.std.specs.List.{AllByRecursion}
use Rattle.std.specs.Io.KnownBytes.{Appends, Consumes}
use Rattle.std.specs.Net.Addr.{ipv4_octets}
use Rattle.std.specs.Net.Socket.{v4_ip, v4_port}
use Rattle.std.specs.declared.net.socket_addr.SocketAddr.{SocketAddr}
use Rattle.std.specs.declared.net.socket_addr.SocketAddr.TheVariants.{V4, V6}
use Rattle.isad_core.specs.Texts.{Bytes}
use Rattle.office_core.specs.State.{State}
use Rattle.office_core.specs.declared.command.Command.{Command}
use Rattle.http_desk.specs.StreamFaults.{IsFlushed, TellsBound, is_read_fault, is_write_fault}
use Rattle.http_desk.specs.AcceptedMessages.{LeavesOpen}
use Rattle.http_desk.specs.BusyMessages.{WasBusyWith}
use Rattle.http_desk.specs.Session.{Session, most_answers}
use Rattle.http_desk.specs.Streams.{Stream, most_reads}
use Rattle.http_desk.specs.Exchanges.{AtEndIf, Keeps, Through}
use Rattle.http_desk.specs.declared.session_end.Ended.{Ended}
use Rattle.http_desk.specs.declared.session_end.Ended.TheVariants.{Bound}
use Rattle.http_desk.specs.declared.session_end.Next.TheVariants.{Ends}

-- the address 127.0.0.1, which no other machine reaches, with this port
abbrev pub IsHere : ℕ → SocketAddr → Type 0
IsHere port (V4 address) = (ipv4_octets (v4_ip address) ≡ 127 ∷ 0 ∷ 0 ∷ 1 ∷ []) × (v4_port address ≡ port)
IsHere port (V6 address) = ⊥

-- What is known of a port, the last first. The numbers that it was bound to. For each connection that was taken: the
-- bytes that its reader still had, and those that its writer held. For each one that was left: its reader and writer as
-- they were then, and how its session ended. And how often none could be taken.
pub record History : Type 0 where
  pub numbers : List ℕ
  pub taken : List (Option Bytes × Option Bytes)
  pub left : List (Stream × (Stream × Ended))
  pub failures : ℕ

abbrev pub after_listening : Option History → ℕ → Option History
after_listening None number = None
after_listening (Some before) number = Some (record before { numbers = number ∷ before.numbers })

-- it could be bound to that number, or could not
abbrev pub after_binding : Bool → Option History → ℕ → Option History
after_binding true told number = after_listening told number
after_binding false told number = told

abbrev pub after_taking : Option History → Option Bytes → Option Bytes → Option History
after_taking None left held = None
after_taking (Some before) left held = Some (record before { taken = (left, held) ∷ before.taken })

abbrev pub after_failing : Option History → Option History
after_failing None = None
after_failing (Some before) = Some (record before { failures = before.failures + 1 })

abbrev pub after_leaving : Option History → Stream → Stream → Ended → Option History
after_leaving None reader writer end = None
after_leaving (Some before) reader writer end = Some (record before { left = (reader, (writer, end)) ∷ before.left })

-- A connection that was served: what its reader still had and its writer held when it was taken; the session with its
-- client; and its reader and writer as they were when it was left.
pub record Connection : Type 0 where
  pub left : Option Bytes
  pub held : Option Bytes
  pub input : Bytes
  pub output : Bytes
  pub end : Ended
  pub reader : Stream
  pub writer : Stream

-- The input is what its reader gave, and the output what its writer took. The end of the session agrees with the calls
-- on both: all that was written was flushed, unless a write fault or a bound is told, and no more reads were made than
-- the messages of a session may take.
pub record IsHeard (it : Connection) : Type 0 where
  pub read : Consumes it.left it.reader.bytes it.input
  pub written : Appends it.held it.writer.bytes it.output
  pub at_end : AtEndIf it.reader.bytes (Ends it.end)
  pub read_fault : it.reader.failed ≡ is_read_fault (Ends it.end)
  pub write_fault : it.writer.failed ≡ is_write_fault (Ends it.end)
  pub bound : it.reader.interrupted ≡ false → it.writer.interrupted ≡ false → it.end ≢ Bound
  pub used_up : TellsBound it.reader it.writer (Ends it.end)
  pub flushed : IsFlushed it.writer (Ends it.end)
  pub calls : it.reader.calls ≤ most_answers * most_reads

-- what is known of a port after one more connection, and after a list of connections, the last first
abbrev pub after_one : Option History → Connection → Option History
after_one before it = after_leaving (after_taking before it.left it.held) it.reader it.writer it.end

abbrev pub after_all : Option History → List Connection → Option History
after_all before [] = before
after_all before (it ∷ earlier) = after_one (after_all before earlier) it

-- the same where all were served, or where the next one could not be taken
abbrev pub after_last : Bool → Option History → Option History
after_last true told = told
after_last false told = after_failing told

-- their sessions lead from one state to another
abbrev pub AreSessions : List Connection → State → State → Type 0
AreSessions [] s t = s ≡ t
AreSessions (it ∷ earlier) s t = (mid : State) × AreSessions earlier s mid × Session mid it.input it.output it.end t

-- the last of their messages is a command that was accepted; if there are no messages, the office was open before
abbrev pub SessionsLeaveOpen : Type 0 → (connections : List Connection) (s t : State) → AreSessions connections s t
    → Type 0
SessionsLeaveOpen was_open [] s t same = was_open
SessionsLeaveOpen was_open (it ∷ earlier) s t (mid, before, session) =
    LeavesOpen (SessionsLeaveOpen was_open earlier s mid before) session

-- the last message of one of their sessions asks this command, and 503 is answered
abbrev pub WereBusyWith : (connections : List Connection) (s t : State) → AreSessions connections s t → Command → Type 0
WereBusyWith [] s t same command = ⊥
WereBusyWith (it ∷ earlier) s t (mid, before, session) command =
    WereBusyWith earlier s mid before command ⊎ WasBusyWith session command

-- What a crash found before, it finds afterwards, or that after one of some commands more, with which the office was
-- busy.
abbrev pub StaysFoundOrAny : (found finds : List Command → State → Type 0) → (Command → Type 0) → State → State
    → Type 0
StaysFoundOrAny found finds BusyWith s t = (asked : List Command) → found asked s
    → (more : List Command) × AllByRecursion BusyWith more × finds (more ++ asked) t

-- A connection was heard and left. When it was taken, its reader still had `left`, and its writer held `held`.
abbrev pub AnswersConnection : {M : Type 0} → (M → State → Type 0) → (M → Type 0) → (M → Type 0)
    → (M → List Command → State → Type 0) → Option Bytes → Option Bytes → Option History → Option History
    → M → M → Type 0
AnswersConnection represents is_intact is_open recovers left held told told_after old new =
    (it : Connection) × (it.left ≡ left) × (it.held ≡ held) × IsHeard it
    × (told_after ≡ after_leaving told it.reader it.writer it.end)
    × Through represents is_intact old new
    (λ s t. Keeps (is_open old) (is_open new) (recovers old) (recovers new) s it.input it.output it.end t)

-- One connection was taken, heard and left; or none could be taken, and the office is as it was.
abbrev pub ServesOne : {M : Type 0} → (M → State → Type 0) → (M → Type 0) → (M → Type 0)
    → (M → List Command → State → Type 0) → Option History → Option History → M → M → Bool → Type 0
ServesOne represents is_intact is_open recovers told told_after old new true =
    (it : Connection) × IsHeard it × (told_after ≡ after_one told it)
    × Through represents is_intact old new
    (λ s t. Keeps (is_open old) (is_open new) (recovers old) (recovers new) s it.input it.output it.end t)
ServesOne represents is_intact is_open recovers told told_after old new false =
    (told_after ≡ after_failing told) × (new ≡ old)

-- Connections were taken, heard and left: exactly `most` if `all` is true, and otherwise `most` at most, until one
-- could not be taken. Their sessions lead the office from one state to another, as long as its store has returned what
-- was written. An office that they leave open is then open. What a crash found before, it finds then, or that after one
-- of the commands with which the office was busy.
pub record Serves {M : Type 0} (represents : M → State → Type 0) (is_intact is_open : M → Type 0)
    (recovers : M → List Command → State → Type 0) (most : ℕ) (told told_after : Option History) (old new : M)
    (all : Bool) : Type 0 where
  pub connections : List Connection
  pub heard : AllByRecursion IsHeard connections
  pub answers : told_after ≡ after_last all (after_all told connections)
  pub few : length connections ≤ most
  pub whole : all ≡ true → length connections ≡ most
  pub sessions : Through represents is_intact old new
      (λ s t. (are : AreSessions connections s t) × (SessionsLeaveOpen (is_open old) connections s t are → is_open new)
      × StaysFoundOrAny (recovers old) (recovers new) (WereBusyWith connections s t are) s t)
