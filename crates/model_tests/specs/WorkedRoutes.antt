-- Paths and what they lead to, and bodies and the commands that they give. The expected results were written by hand.
use Rattle.std.specs.Prelude.{◌≡◌, ◌++◌, true, false, [], ◌∷◌, map, Some, None, codes, pos}
use Rattle.isad_core.specs.Texts.{Bytes}
use Rattle.office_core.specs.declared.command.Command.{Command}
use Rattle.office_core.specs.declared.command.Command.TheVariants as command
use Rattle.office_core.specs.declared.query.Query.TheVariants as query
use Rattle.http_messages.specs.declared.body_form.Form.{Form}
use Rattle.http_messages.specs.declared.body_form.Form.TheVariants as form
use Rattle.http_messages.specs.Members.{command_in}
use Rattle.http_messages.specs.Routes.{Asks, Does, TakesFile, TakesForm, method_of, route_of}

pub record Routed : Type 0 where
  pub lists : map route_of (codes "/public/fonds" ∷ codes "/desk/issued" ∷ []) ≡ Some (Asks query.Fonds) ∷ Some (Asks query.IssuedNow) ∷ []
  pub public_pages : map route_of (codes "/public/aid/3" ∷ codes "/public/units/12" ∷ [])
      ≡ Some (Asks (query.Aid 3)) ∷ Some (Asks (query.Page 12)) ∷ []
  pub desk_pages : map route_of (codes "/desk/runs/4" ∷ codes "/desk/readers/5" ∷ codes "/desk/queue/6" ∷ codes "/desk/permits/7" ∷ [])
      ≡ Some (Asks (query.RunSlip 4)) ∷ Some (Asks (query.ReaderOrders 5)) ∷ Some (Asks (query.Queue 6))
      ∷ Some (Asks (query.ReaderPermits 7)) ∷ []
  pub without_bodies : map route_of (codes "/desk/run" ∷ codes "/desk/reshelve" ∷ []) ≡ Some (Does command.Run) ∷ Some (Does command.Reshelve) ∷ []
  pub import : route_of (codes "/desk/import/hull-docks") ≡ Some (TakesFile (codes "hull-docks"))
  pub catalogue : map route_of (codes "/desk/day" ∷ codes "/desk/status" ∷ codes "/desk/closure" ∷ codes "/desk/move" ∷ codes "/desk/remove" ∷ [])
      ≡ Some (TakesForm form.OpenDay) ∷ Some (TakesForm form.SetStatus) ∷ Some (TakesForm form.SetClosure)
      ∷ Some (TakesForm form.Move) ∷ Some (TakesForm form.Remove) ∷ []
  pub readers : map route_of (codes "/desk/register" ∷ codes "/desk/renew" ∷ codes "/desk/seat" ∷ codes "/desk/leave" ∷ codes "/desk/permit"
      ∷ codes "/desk/revoke" ∷ [])
      ≡ Some (TakesForm form.Register) ∷ Some (TakesForm form.Renew) ∷ Some (TakesForm form.TakeSeat)
      ∷ Some (TakesForm form.LeaveSeat) ∷ Some (TakesForm form.Permit) ∷ Some (TakesForm form.Revoke) ∷ []
  pub orders : map route_of (codes "/public/orders" ∷ codes "/desk/cancel" ∷ codes "/desk/issue" ∷ codes "/desk/return" ∷ [])
      ≡ Some (TakesForm form.Order) ∷ Some (TakesForm form.Cancel) ∷ Some (TakesForm form.Issue)
      ∷ Some (TakesForm form.Return) ∷ []
  pub ten_digits : route_of (codes "/public/units/1234567890") ≡ Some (Asks (query.Page 1234567890))
  pub eleven_digits : route_of (codes "/public/units/12345678901") ≡ None
  pub letter : route_of (codes "/public/units/x") ≡ None
  pub letter_later : route_of (codes "/public/units/1x") ≡ None
  pub no_source : route_of (codes "/desk/import/") ≡ None
  pub two_sources : route_of (codes "/desk/import/a/b") ≡ None
  pub longer : route_of (codes "/desk/days") ≡ None
  pub other : route_of (codes "/desk/duy") ≡ None
  pub of_file : method_of (TakesFile []) ≡ codes "POST"

-- the command that a body gives
abbrev pub Gives : Form → Bytes → Command → Type 0
Gives asked body given = command_in asked body ≡ Some given

pub record Given : Type 0 where
  pub order : Gives form.Order (codes "{\"ticket\":1,\"container\":2}") (command.Order 1 2)
  pub day : Gives form.OpenDay (codes "{\"day\":\"2024-03-01\"}") (command.OpenDay (pos 19783))
  pub published : Gives form.SetStatus (codes "{\"unit\":2,\"status\":\"published\",\"branch\":true}") (command.SetStatus 2 false true)
  pub other_status : command_in form.SetStatus (codes "{\"unit\":2,\"status\":\"open\"}") ≡ None
  pub closure : Gives form.SetClosure (codes "{\"unit\":2,\"until\":\"2024-03-01\"}") (command.SetClosure 2 (Some (pos 19783)))
  pub move : Gives form.Move (codes "{\"unit\":2,\"parent\":1}") (command.Move 2 (Some 1))
  pub remove : Gives form.Remove (codes "{\"unit\":2}") (command.Remove 2)
  pub register : Gives form.Register (codes "{\"name\":\"Ada\",\"until\":\"2024-03-01\"}") (command.Register (codes "Ada") (pos 19783))
  pub renew : Gives form.Renew (codes "{\"ticket\":1,\"until\":\"2024-03-01\"}") (command.Renew 1 (pos 19783))
  pub seat : Gives form.TakeSeat (codes "{\"ticket\":1}") (command.TakeSeat 1)
  pub leave : Gives form.LeaveSeat (codes "{\"ticket\":1}") (command.LeaveSeat 1)
  pub cancel : Gives form.Cancel (codes "{\"order\":3}") (command.Cancel 3)
  pub issue : Gives form.Issue (codes "{\"ticket\":1,\"container\":2}") (command.Issue 2 1)
  pub return : Gives form.Return (codes "{\"container\":2}") (command.Return 2)
  pub permit : Gives form.Permit (codes "{\"ticket\":1,\"unit\":2,\"until\":\"2024-03-01\"}") (command.Permit 1 2 (pos 19783))
  pub revoke : Gives form.Revoke (codes "{\"ticket\":1,\"unit\":2}") (command.Revoke 1 2)
  pub no_text : command_in form.TakeSeat (codes "{\"ticket\":1,\"x\":\"" ++ 255 ∷ codes "\"}") ≡ None
