-- What a request is for, as the code tells it before the office is asked.
use Rattle.std.specs.Prelude.{◌≢◌}
use Rattle.office_core.specs.MixedRuns.{ToDo, ToTell}
use Rattle.http_messages.specs.declared.status.Status.TheVariants.{Fine}
use Rattle.http_messages.specs.Replies.{answer_in}
use Rattle.http_desk.specs.Runs.{Meaning, Fixed, Puts}
use Rattle.http_desk.specs.declared.requests.Purpose.{Purpose}
use Rattle.http_desk.specs.declared.requests.Purpose.TheVariants as purpose

abbrev pub meaning_of : Purpose → Meaning
meaning_of (purpose.Command command) = Puts (ToDo command)
meaning_of (purpose.Question query) = Puts (ToTell query)
meaning_of (purpose.Nothing told) = Fixed (answer_in told)

-- it is for a command, or has an answer that is no success
abbrev pub IsNoQuestion : Purpose → Type 0
IsNoQuestion (purpose.Command command) = Unit {0}
IsNoQuestion (purpose.Question query) = ⊥
IsNoQuestion (purpose.Nothing told) = (answer_in told).status ≢ Fine
