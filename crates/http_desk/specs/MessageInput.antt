-- What was found at the front of an input.
use Rattle.std.specs.Prelude.{◌≡◌, ℕ, ◌<◌, ◌≤◌, ◌⊎◌, List, ◌++◌, take, length, Option}
use Rattle.std.specs.Io.KnownBytes.{Consumes, IsAtEnd}
use Rattle.http_messages.specs.declared.head_scan.Scan.TheVariants.{Whole as Ends}
use Rattle.http_desk.specs.declared.message_input.FoundHead.{FoundHead}
use Rattle.http_desk.specs.declared.message_input.FoundHead.TheVariants.{Whole, TooLong, Blank, Cut, Failed, Bound}
use Rattle.http_desk.specs.declared.message_input.FoundHead.TheVariants.{NoMemory}
use Rattle.http_desk.specs.declared.message_input.FoundBody.{FoundBody}
use Rattle.http_desk.specs.declared.message_input.FoundBody.TheVariants.{Whole as BodyWhole, Cut as BodyCut}
use Rattle.http_desk.specs.declared.message_input.FoundBody.TheVariants.{Failed as BodyFailed, Bound as BodyBound}
use Rattle.http_desk.specs.declared.message_input.FoundBody.TheVariants.{NoMemory as BodyNoMemory}
use Rattle.http_messages.specs.HeadScan.{scan}
use Rattle.http_desk.specs.Messages.{IsBlank, IsHeadCut, IsTooLong, longest_head}

-- what a reader gave was added at the end of a buffer
abbrev pub ReadsIntoBuffer : Option (List ℕ) → Option (List ℕ) → List ℕ → List ℕ → Type 0
ReadsIntoBuffer left left_after buffer buffer_after = (got : List ℕ) × Consumes left left_after got
    × (buffer_after ≡ buffer ++ got)

-- what was found at the front of the input
abbrev pub FindsHead : List ℕ → FoundHead → Type 0
FindsHead input (Whole size) = (scan (take longest_head input) ≡ Ends size) × (size ≤ length input) × (size ≤ longest_head)
FindsHead input TooLong = IsTooLong input
FindsHead input Blank = IsBlank input
FindsHead input Cut = IsHeadCut input
FindsHead input Failed = IsBlank input ⊎ IsHeadCut input
FindsHead input Bound = Unit {0}
FindsHead input NoMemory = Unit {0}

-- the input has ended, if this is what was found
abbrev pub AtEndIfHead : Option (List ℕ) → FoundHead → Type 0
AtEndIfHead left Blank = IsAtEnd left
AtEndIfHead left Cut = IsAtEnd left
AtEndIfHead left _ = Unit {0}

abbrev pub FindsBody : ℕ → List ℕ → FoundBody → Type 0
FindsBody end input BodyWhole = end ≤ length input
FindsBody end input BodyCut = length input < end
FindsBody end input BodyFailed = length input < end
FindsBody end input BodyBound = Unit {0}
FindsBody end input BodyNoMemory = Unit {0}

abbrev pub AtEndIfBody : Option (List ℕ) → FoundBody → Type 0
AtEndIfBody left BodyCut = IsAtEnd left
AtEndIfBody left _ = Unit {0}
