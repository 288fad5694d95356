-- What the public is answered is the same in offices whose public parts are equal.
use Rattle.std.proofs.Common.{◌≡◌, ℕ, List, [], ◌∷◌, ◌++◌, refl, sym, ap, ◌∙◌, subst, true, false, Bool, Option, None}
use Rattle.std.proofs.Common.{Some, cond, codes}
use Rattle.std.specs.Prelude.{◌==◌}
use Rattle.std.specs.Str.{is_utf8}
use Rattle.office_core.specs.Queries.{is_public}
use Rattle.office_core.specs.declared.query.Query.{Query}
use Rattle.http_messages.proofs.Bodies.{never_true}
use Rattle.http_messages.specs.declared.body_form.Form.TheVariants as form
use Rattle.http_messages.specs.declared.table.Leads.{Leads}
use Rattle.http_messages.specs.declared.table.Leads.TheVariants as leads
use Rattle.http_messages.specs.declared.table.Numbered.{Numbered}
use Rattle.http_messages.specs.declared.table.Numbered.TheVariants as numbered
use Rattle.http_desk.proofs.Common.{AllByRecursion, Answer, AnswersAlike, Asks, Bytes, Does, IsPublicGet, Message}
use Rattle.http_desk.proofs.Common.{Request, Route, State, TakesFile, TakesForm, answer_text, by_route, continue_if}
use Rattle.http_desk.proofs.Common.{first_route, is_head, leads_to, message_text, number_from_digits, of_told}
use Rattle.http_desk.proofs.Common.{option_and_then, option_map, or_else, parameter_in, path_of, question, response}
use Rattle.http_desk.proofs.Common.{route_of, route_table, state_after_messages, text_after_all}

-- ---- routes below /public

-- the route is the public's: one of its questions, or an order
abbrev pub IsOpen : Option Route → Type 0
IsOpen None = Unit {0}
IsOpen (Some (Asks asked)) = is_public asked ≡ true
IsOpen (Some (Does asked)) = ⊥
IsOpen (Some (TakesFile source)) = ⊥
IsOpen (Some (TakesForm form.Order)) = Unit {0}
IsOpen (Some (TakesForm _)) = ⊥

either_open : (a b : Option Route) → IsOpen a → IsOpen b → IsOpen (or_else a b)
either_open None b x y = y
either_open (Some route) b x y = x

then_open : (updates : Bytes → Option Route) (o : Option Bytes) → ((y : Bytes) → IsOpen (updates y))
    → IsOpen (option_and_then updates o)
then_open updates None h = tt
then_open updates (Some y) h = h y

map_open : (asks : ℕ → Query) (o : Option ℕ) → ((n : ℕ) → IsOpen (Some (Asks (asks n))))
    → IsOpen (option_map (λ n. Asks (asks n)) o)
map_open asks None h = tt
map_open asks (Some n) h = h n

-- the pattern and the beginning of a path differ
abbrev differ : Bytes → Bytes → Bool
differ [] path = false
differ (a ∷ pattern) [] = false
differ (a ∷ pattern) (b ∷ path) = cond (a == 123) false (cond (a == b) (differ pattern path) true)

none_taken : (pattern path x : Bytes) → differ pattern path ≡ true → parameter_in pattern (path ++ x) ≡ None
none_taken [] path x d = absurd (never_true d)
none_taken (a ∷ pattern) [] x d = absurd (never_true d)
none_taken (a ∷ pattern) (b ∷ path) x d = by (λ e. none_taken pattern path x e) (a == 123) refl
  where
    by_byte : (differ pattern path ≡ true → parameter_in pattern (path ++ x) ≡ None) → (v : Bool) → (a == b) ≡ v
        → (a == 123) ≡ false
        → parameter_in (a ∷ pattern) (b ∷ (path ++ x)) ≡ None
    by_byte deep true e f = rw (f, e) (deep (rw (f, e) at d))
    by_byte deep false e f = rw (f, e) refl

    by : (differ pattern path ≡ true → parameter_in pattern (path ++ x) ≡ None) → (v : Bool) → (a == 123) ≡ v
        → parameter_in (a ∷ pattern) (b ∷ (path ++ x)) ≡ None
    by deep true f = absurd (never_true (rw f at d))
    by deep false f = by_byte deep (a == b) refl f

abbrev unless : Bool → Type 0 → Type 0 → Type 0
unless true this others = others
unless false this others = this × others

-- each line leads to an open route, unless its pattern is not below /public
abbrev AreOpen : List (Bytes × Leads) → Type 0
AreOpen [] = Unit {0}
AreOpen ((pattern, to) ∷ others) =
    unless (differ pattern (codes "/public/")) ((y : Bytes) → IsOpen (leads_to to y)) (AreOpen others)

first_open : (lines : List (Bytes × Leads)) (x : Bytes) → AreOpen lines
    → IsOpen (first_route lines (codes "/public/" ++ x))
first_open [] x h = tt
first_open ((pattern, to) ∷ others) x h =
    by (λ more. first_open others x more) (differ pattern (codes "/public/")) refl h
  where
    by : (AreOpen others → IsOpen (first_route others (codes "/public/" ++ x))) → (v : Bool)
        → differ pattern (codes "/public/") ≡ v
        → unless v ((y : Bytes) → IsOpen (leads_to to y)) (AreOpen others)
        → IsOpen (first_route ((pattern, to) ∷ others) (codes "/public/" ++ x))
    by deep true e more = let none = none_taken pattern (codes "/public/") x e in rw none (deep more)
    by deep false e (this, more) =
        either_open _ _ (then_open (leads_to to) (parameter_in pattern (codes "/public/" ++ x)) this) (deep more)

table_open : AreOpen route_table
table_open = ((λ y. refl), (asks_of numbered.Aid (λ n. refl), (asks_of numbered.Page (λ n. refl), ((λ y. tt), tt))))
  where
    asks_of : (asked : Numbered) → ((n : ℕ) → IsOpen (Some (Asks (question asked n)))) → (y : Bytes)
        → IsOpen (leads_to (leads.AsksOf asked) y)
    asks_of asked h y = map_open (question asked) (number_from_digits y) h

pub public_routes : (x : Bytes) → IsOpen (route_of (codes "/public/" ++ x))
public_routes x =
    elim (is_utf8 (codes "/public/" ++ x)) as (λ b. IsOpen (cond b (first_route route_table (codes "/public/" ++ x)) None)) [ true ↦ first_open route_table x table_open | false ↦ tt ]

-- ---- one message

-- the answers are the same, and nothing changes
pub record IsAlike (s t : State) (a b : Answer × State) : Type 0 where
  pub answers : a.0 ≡ b.0
  pub kept : a.1 ≡ s
  pub kept_too : b.1 ≡ t

get_alike : (s t : State) (request : Request) (body : Bytes) (route : Option Route) → AnswersAlike s t
    → request.method ≡ codes "GET" → IsOpen route
    → IsAlike s t (by_route s request body route) (by_route t request body route)
get_alike s t request body None same e o = record { answers = refl; kept = refl; kept_too = refl }
get_alike s t request body (Some (Asks asked)) same e o =
    rw e (record { answers = ap of_told (same asked o); kept = refl; kept_too = refl })
get_alike s t request body (Some (Does asked)) same e o = absurd o
get_alike s t request body (Some (TakesFile source)) same e o = absurd o
get_alike s t request body (Some (TakesForm asked)) same e o =
    rw e (record { answers = refl; kept = refl; kept_too = refl })

pub message_alike : (s t : State) (m : Message) → AnswersAlike s t → IsPublicGet m
    → IsAlike s t (response s m.request m.body) (response t m.request m.body)
message_alike s t m same p =
    get_alike s t m.request m.body (route_of (path_of m.request.target)) same p.method
    (subst (λ path. IsOpen (route_of path)) (sym p.path) (public_routes p.below))

said : Bool → Message → Answer → Bytes
said closing m a = continue_if m.request.waits ++ answer_text (is_head m.request.method) closing a

pub text_alike : (s t : State) (closing : Bool) (m : Message) → AnswersAlike s t → IsPublicGet m
    → message_text closing s m ≡ message_text closing t m
text_alike s t closing m same p = unfold said in ap (λ a. said closing m a) (message_alike s t m same p).answers

-- ---- all messages

pub record AreAllAlike (s t : State) (ms : List Message) : Type 0 where
  pub texts : text_after_all s ms ≡ text_after_all t ms
  pub kept : state_after_messages s ms ≡ s
  pub kept_too : state_after_messages t ms ≡ t

pub all_alike : (s t : State) (ms : List Message) → AnswersAlike s t → AllByRecursion IsPublicGet ms
    → AreAllAlike s t ms
all_alike s t [] same p = record { texts = refl; kept = refl; kept_too = refl }
all_alike s t (m ∷ ms) same p =
    let one = message_alike s t m same p.0 in
    let more = all_alike s t ms same p.1 in
    record {
      texts = (λ i. text_alike s t false m same p.0 i ++ text_after_all (one.kept i) ms)
          ∙ ap (λ l. message_text false t m ++ l) more.texts
          ∙ (λ i. message_text false t m ++ text_after_all (sym one.kept_too i) ms);
      kept = ap (λ x. state_after_messages x ms) one.kept ∙ more.kept;
      kept_too = ap (λ x. state_after_messages x ms) one.kept_too ∙ more.kept_too;
    }
