-- Small cases of the definitions. The expected results were written by hand.
use Rattle.std.specs.Prelude.{◌≡◌, ℕ, Bool, true, false, List, [], ◌∷◌, Option, Some, None, codes}
use Rattle.isad_core.specs.Texts.{Bytes}
use Rattle.office_core.specs.declared.command.Command.TheVariants.{Order, Move, SetStatus}
use Rattle.http_messages.specs.declared.status.Status.TheVariants.{BadRequest, TooLarge, NotImplemented}
use Rattle.http_messages.specs.declared.body_form.Form.TheVariants as form
use Rattle.http_messages.specs.Heads.{Verdict, Refused, Accepted, Field, most_fields, weigh}
use Rattle.http_messages.specs.Targets.{path_of}
use Rattle.http_messages.specs.Members.{command_in}

pub record Paths : Type 0 where
  pub query : path_of (codes "/a?b?c") ≡ codes "/a"
  pub absolute : path_of (codes "HTTP://x:80/a?b") ≡ codes "/a"
  pub authority_alone : path_of (codes "http://x?/a") ≡ codes "/"
  pub number_sign : path_of (codes "http://x#/a") ≡ codes "#/a"
  pub star : path_of (codes "*") ≡ codes "*"

abbrev pub host : Field
host = (codes "Host", codes "x")

abbrev pub Weighs : Bytes → ℕ → List Field → Verdict → Type 0
Weighs method minor fields verdict = weigh method (codes "/") minor fields ≡ verdict

-- a GET with a Host and these fields gets this verdict
abbrev pub With : List Field → Verdict → Type 0
With fields verdict = Weighs (codes "GET") 1 (host ∷ fields) verdict

abbrev pub takes : Option ℕ → Bool → Bool → Verdict
takes size waits closes =
    Accepted (record { method = codes "GET"; target = codes "/"; length = size; waits = waits; closes = closes })

abbrev pub says_length : Bytes → Field
says_length text = (codes "Content-Length", text)

abbrev pub expects : Bytes → Field
expects what = (codes "EXPECT", what)

abbrev pub chunked_field : Field
chunked_field = (codes "Transfer-Encoding", codes "chunked")

abbrev pub options : Bytes → Field
options text = (codes "connection", text)

pub record Weighed : Type 0 where
  pub no_host : Weighs (codes "GET") 1 [] (Refused BadRequest false)
  pub no_host_needed : Weighs (codes "GET") 0 [] (takes None false true)
  pub two_hosts : Weighs (codes "HEAD") 0 (host ∷ host ∷ []) (Refused BadRequest true)
  pub chunked : With (says_length (codes "x") ∷ chunked_field ∷ []) (Refused NotImplemented false)
  pub signed : With (says_length (codes "+5") ∷ []) (Refused BadRequest false)
  pub listed : With (says_length (codes "5, 5") ∷ []) (Refused BadRequest false)
  pub empty_length : With (says_length [] ∷ []) (Refused BadRequest false)
  pub two_that_agree : With (says_length (codes "5") ∷ says_length (codes "05") ∷ []) (takes (Some 5) false false)
  pub two_that_differ : With (says_length (codes "5") ∷ says_length (codes "6") ∷ []) (Refused BadRequest false)
  pub too_large : With (says_length (codes "8388609") ∷ []) (Refused TooLarge false)
  pub far_too_large : With (says_length (codes "9999999999999999999999999") ∷ []) (Refused TooLarge false)
  pub largest :
      With (says_length (codes "8388608") ∷ expects (codes "100-Continue") ∷ []) (takes (Some 8388608) true false)
  pub no_body_to_wait_for :
      With (says_length (codes "0") ∷ expects (codes "100-continue") ∷ []) (takes (Some 0) false false)
  pub option_close : With (options (codes "keep-alive, Close") ∷ []) (takes None false true)
  pub another_option : With (options (codes "keep-alive") ∷ options (codes "closed") ∷ []) (takes None false false)
  -- a head has at most 64 fields
  pub fields : most_fields ≡ 64

pub record Read : Type 0 where
  pub order : command_in form.Order (codes "{\"ticket\":1,\"x\":null,\"container\":2}") ≡ Some (Order 1 2)
  pub last_counts : command_in form.Order (codes "{\"ticket\":\"x\",\"ticket\":1,\"container\":2}") ≡ Some (Order 1 2)
  pub text_for_number : command_in form.Order (codes "{\"ticket\":1,\"container\":\"x\"}") ≡ None
  pub missing_parent : command_in form.Move (codes "{\"unit\":2}") ≡ None
  pub null_parent : command_in form.Move (codes "{\"unit\":2,\"parent\":null}") ≡ Some (Move 2 None)
  pub no_branch : command_in form.SetStatus (codes "{\"unit\":2,\"status\":\"draft\"}") ≡ Some (SetStatus 2 true false)
  pub null_branch : command_in form.SetStatus (codes "{\"unit\":2,\"status\":\"draft\",\"branch\":null}") ≡ None
  pub no_object : command_in form.TakeSeat (codes "7") ≡ None
