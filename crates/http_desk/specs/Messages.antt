-- How an input is cut into messages (RFC 9112, sections 2.2, 6 and 8).
use Rattle.std.specs.Prelude.{◌≡◌, ◌≢◌, ℕ, ◌<◌, ◌≤◌, ◌++◌, Bool, true, false, List, [], ◌∷◌, length, take}
use Rattle.isad_core.specs.Texts.{Bytes}
use Rattle.http_messages.specs.declared.head_scan.HeadScanState.{HeadScanState}
use Rattle.http_messages.specs.declared.head_scan.HeadScanState.TheVariants.{Lead}
use Rattle.http_messages.specs.declared.head_scan.Scan.TheVariants.{Whole, Open}
use Rattle.http_messages.specs.declared.status.Status.{Status}
use Rattle.http_messages.specs.HeadScan.{scan}
use Rattle.http_desk.specs.declared.message_input.TheConstants.{HEAD_LIMIT}
use Rattle.http_messages.specs.Heads.{Request, Verdict, Refused, Accepted, JudgesHead, is_head, body_length}

-- ---- heads

abbrev pub longest_head : ℕ
longest_head = HEAD_LIMIT

-- the input has only empty lines, and fewer bytes than a head may have
abbrev pub IsBlank : Bytes → Type 0
IsBlank input = (length input < longest_head) × (scan input ≡ Open Lead)

-- a head has begun and has not ended, and the input has fewer bytes than a head may have
abbrev pub IsHeadCut : Bytes → Type 0
IsHeadCut input = (length input < longest_head) × (place : HeadScanState) × (place ≢ Lead) × (scan input ≡ Open place)

-- no head ends within the limit
abbrev pub IsTooLong : Bytes → Type 0
IsTooLong input = (longest_head ≤ length input) × (place : HeadScanState) × (scan (take longest_head input) ≡ Open place)

-- the input begins with a block that ends with the empty line after a head, within the limit, and this is the verdict
-- on it; the empty lines before the head belong to the block
pub record HasHead (input block : Bytes) (verdict : Verdict) (more : Bytes) : Type 0 where
  pub ends : scan (take longest_head input) ≡ Whole (length block)
  pub whole : input ≡ block ++ more
  pub judged : JudgesHead block verdict

-- ---- messages

pub record Message : Type 0 where
  pub request : Request
  pub body : Bytes

-- the input begins with this message, and goes on with the rest
pub record Begins (input : Bytes) (message : Message) (rest : Bytes) : Type 0 where
  pub block : Bytes
  pub head : HasHead input block (Accepted message.request) (message.body ++ rest)
  pub complete : length message.body ≡ body_length message.request

-- the input is these messages, and then the rest
abbrev pub Cuts : Bytes → List Message → Bytes → Type 0
Cuts input [] rest = input ≡ rest
Cuts input (message ∷ messages) rest = (more : Bytes) × Begins input message more × Cuts more messages rest

-- ---- what may stand in the place of the last message

pub data Last : Type 0 where
  Nothing : Last  -- no more than empty lines
  HeadCut : Last  -- the input stops inside a head
  BodyCut : Request → Last  -- it stops inside the body of this request
  NoHead : Last  -- a head that is too long
  Refuses : Status → Bool → Last  -- a head that is refused, of a HEAD or not
  Answers : Message → Last  -- a message
  -- the office is busy: 503 is answered, after 100 Continue or without it, with its body or without it
  Fails : Bool → Bool → Last

-- whether a whole head waits for 100 Continue; a refused head does not
abbrev pub waits_for_continue : Verdict → Bool
waits_for_continue (Refused status bare) = false
waits_for_continue (Accepted request) = request.waits

abbrev pub is_bare : Verdict → Bool
is_bare (Refused status bare) = bare
is_bare (Accepted request) = is_head request.method

-- the input begins with a whole head that passes this test
abbrev pub SomeHead : Bytes → (Verdict → Bool) → Type 0
SomeHead input test = (block more : Bytes) × (verdict : Verdict) × HasHead input block verdict more
    × (test verdict ≡ true)

-- 100 Continue is written only if it is due, and the body of 503 is left out only for a HEAD
pub record MayFail (input : Bytes) (leave bare : Bool) : Type 0 where
  pub continue_due : leave ≡ true → SomeHead input waits_for_continue
  pub to_head : bare ≡ true → SomeHead input is_bare

abbrev pub Stands : Bytes → Last → Type 0
Stands input Nothing = IsBlank input
Stands input HeadCut = IsHeadCut input
Stands input (BodyCut request) = (block more : Bytes) × HasHead input block (Accepted request) more
    × (length more < body_length request)
Stands input NoHead = IsTooLong input
Stands input (Refuses status bare) = (block more : Bytes) × HasHead input block (Refused status bare) more
Stands input (Answers message) = (rest : Bytes) × Begins input message rest
Stands input (Fails leave bare) = MayFail input leave bare
