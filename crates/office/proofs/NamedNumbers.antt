-- A number that is too great for the tables names nothing, and neither does 0: what names either is refused alike.
use Rattle.std.proofs.Common.{◌≡◌, ℕ, ◌≤◌, ◌<◌, ◌^◌, Bool, true, false, cond, List, ◌∷◌, length, Option, Some, None}
use Rattle.std.proofs.Common.{Err, [], ◌||◌, refl, sym, ap, subst, ◌∙◌, arith, inl, inr}
use Rattle.std.proofs.lemmas.Result.{IfOk-weaker}
use Rattle.std.specs.Prelude.{Result, map, nat_eq}
use Rattle.sqlite.specs.State as store
use Rattle.desk_core.specs.Decisions.{is_desk}
use Rattle.desk_core.specs.Refusals.{Check, first_that_holds, known_container, unless, when}
use Rattle.desk_core.specs.declared.refusal.Refusal.TheVariants as refusal
use Rattle.catalogue_core.specs.UnitLookup.{has_unit}
use Rattle.catalogue_store.specs.Heads.{head_of}
use Rattle.office_core.proofs.Words.{numbered_within}
use Rattle.office_core.specs.Rules.{Reply}
use Rattle.office_core.specs.State.{State}
use Rattle.office_core.specs.Words.{first, nth, some_and}
use Rattle.office_core.specs.declared.command.Command.TheVariants as command
use Rattle.office_core.specs.declared.query.Answer.TheVariants.{Unknown}
use Rattle.office_core.specs.declared.query.Query.TheVariants as query
use Rattle.refinement.specs.CommandSteps.{CarriesOut, CarriesOutStep}
use Rattle.public_queries.proofs.AidAnswers.{far_off}
use Rattle.public_queries.proofs.PageAnswers.{hidden}
use Rattle.public_queries.proofs.Standing.{nowhere}
use Rattle.public_queries.specs.HeadLines.{shows_last}
use Rattle.public_queries.specs.InformedAnswers.{AnswersKnowing}
use Rattle.office.proofs.Common.{AllByRecursion, Answer, Command, Database, Forest, IsSoundOffice, Order, Query}
use Rattle.office.proofs.Common.{Refusal, RepresentsState, Run, StoreFault, Trees, Unit, Version, after, answer}
use Rattle.office.proofs.Common.{asks_named, cases_Bool, checks, container_of, decide, eqb-true, false≢true, has_id}
use Rattle.office.proofs.Common.{is_by, is_container, is_expired, is_some, is_ticket, known_json, list_any, ltb-false}
use Rattle.office.proofs.Common.{named, nat_lt, nodes, of_named, opens, option_map, result_of, run_answer}
use Rattle.office.proofs.Common.{spares_catalogue, step}

-- What does the same with each number that names nothing does the same with what stands for it.
named_same : {X : Type 0} (names : ℕ → Bool) (f : ℕ → X) (refused : X) → ((n : ℕ) → names n ≡ false → f n ≡ refused)
    → names 0 ≡ false → ((n : ℕ) → 2 ^ 63 ≤ n → names n ≡ false) → (n : ℕ) → f (named n) ≡ f n
named_same names f refused unknown none great n = elim (cases_Bool (nat_lt n (2 ^ 63))) [
  | inl low ↦ ap (λ is_low. f (cond is_low n 0)) low
  | inr high ↦ ap (λ is_low. f (cond is_low n 0)) high ∙ (unknown 0 none ∙ sym (unknown n (great n (ltb-false n (2 ^ 63) high))))
]

no_place : {X : Type 0} (xs : List X) → length xs < 2 ^ 63 → (n : ℕ) → 2 ^ 63 ≤ n → is_some (nth xs n) ≡ false
no_place xs few n great = elim (cases_Bool (is_some (nth xs n))) [
  | inl there ↦ let within = numbered_within xs n there in absurd (omega (arith, few, within, great))
  | inr none ↦ none
]

some_passes : {X : Type 0} (test : X → Bool) (x : Option X) → is_some x ≡ false → some_and test x ≡ false
some_passes test None none = refl
some_passes test (Some x) none = absurd (false≢true (sym none))

none_mapped : {X Y : Type 0} (f : X → Y) (x : Option X) → is_some x ≡ false → is_some (option_map f x) ≡ false
none_mapped f None none = refl
none_mapped f (Some x) none = none

none_left : {X Y : Type 0} (f : X → Y) (x : Option X) → is_some x ≡ false → option_map f x ≡ None
none_left f None none = refl
none_left f (Some x) none = absurd (false≢true (sym none))

no_run : (s : State) (n : ℕ) (x : Option Run) → is_some x ≡ false → run_answer s n x ≡ Unknown refusal.UnknownRun
no_run s n None none = refl
no_run s n (Some run) none = absurd (false≢true (sym none))

-- ---- steps

refused_step : (s : State) (asked : Command) (why : Refusal) → first_that_holds (checks s asked) ≡ Some why
    → step s asked ≡ (s, Err why)
refused_step s asked why holds = ap (λ held. decide held s (after s asked) (result_of s asked)) holds

first_holds : (b : Bool) (why : Refusal) (rest : List Check) → b ≡ false → first_that_holds (unless b why ∷ rest) ≡ Some why
first_holds b why rest e = ap (λ c. first_that_holds (unless c why ∷ rest)) e

-- a check that holds, behind the others
abbrev why_second : Bool → Refusal → Refusal → Refusal
why_second true why then = then
why_second false why then = why

second_holds : (b c : Bool) (why then : Refusal) (rest : List Check) → c ≡ false
    → first_that_holds (unless b why ∷ unless c then ∷ rest) ≡ Some (why_second b why then)
second_holds false c why then rest e = refl
second_holds true c why then rest e = ap (λ b. first_that_holds (unless b then ∷ rest)) e

abbrev why_third : Bool → Bool → Refusal → Refusal → Refusal → Refusal
why_third false held why other then = why
why_third true true why other then = other
why_third true false why other then = then

third_holds : (b held c : Bool) (why other then : Refusal) (rest : List Check) → c ≡ false
    → first_that_holds (unless b why ∷ when held other ∷ unless c then ∷ rest) ≡ Some (why_third b held why other then)
third_holds false held c why other then rest e = refl
third_holds true true c why other then rest e = refl
third_holds true false c why other then rest e = ap (λ b. first_that_holds (unless b then ∷ rest)) e

abbrev why_not_first : Bool → Bool → Refusal
why_not_first false at_desk = refusal.UnknownContainer
why_not_first true false = refusal.NotAtDesk
why_not_first true true = refusal.NotFirst

not_first : (known at_desk is_first : Bool) (rest : List Check) → is_first ≡ false
    → first_that_holds (known_container known ∷ unless at_desk refusal.NotAtDesk ∷ unless is_first refusal.NotFirst ∷ rest) ≡ Some (why_not_first known at_desk)
not_first false at_desk is_first rest e = refl
not_first true false is_first rest e = refl
not_first true true is_first rest e = ap (λ b. first_that_holds (unless b refusal.NotFirst ∷ rest)) e

module _ (s : State) (sound : IsSoundOffice s) where
  great_ticket : (t : ℕ) → 2 ^ 63 ≤ t → is_ticket s t ≡ false
  great_ticket = let few = sound.sound.desk.readers.few in no_place s.readers (omega (arith, few))

  great_container : (c : ℕ) → 2 ^ 63 ≤ c → is_container s c ≡ false
  great_container = let few = sound.sound.containers.few in no_place s.catalogue.containers (omega (arith, few))

  great_order : (o : ℕ) → 2 ^ 63 ≤ o → is_some (nth s.orders o) ≡ false
  great_order = let few = sound.sound.desk.orders.few in no_place s.orders (omega (arith, few))

  great_run : (n : ℕ) → 2 ^ 63 ≤ n → is_some (nth s.runs n) ≡ false
  great_run = let few = sound.sound.desk.runs.few in no_place s.runs (omega (arith, few))

  -- each unit has a number that was given
  not_given : (u : ℕ) → ((n : ℕ) → 1 ≤ n → n < s.catalogue.next → u ≡ n → ⊥) → has_unit s.catalogue.forest u ≡ false
  not_given u apart = at (nodes s.catalogue.forest) sound.sound.units.given
    where
      at : (units : List Unit)
          → AllByRecursion (λ (unit : Unit). (1 ≤ unit.id) × (unit.id < s.catalogue.next)) units
          → list_any (has_id u) units ≡ false
      at [] given = refl
      at (x ∷ xs) given = elim (cases_Bool (nat_eq u x.id)) [
        | inl same ↦ absurd (apart x.id given.0.0 given.0.1 (eqb-true u x.id same))
        | inr other ↦ ap (λ it. it || list_any (has_id u) xs) other ∙ at xs given.1
      ]

  no_unit_0 : has_unit s.catalogue.forest 0 ≡ false
  no_unit_0 = not_given 0 (λ n from low same. omega (arith, from, same))

  great_unit : (u : ℕ) → 2 ^ 63 ≤ u → has_unit s.catalogue.forest u ≡ false
  great_unit u great = not_given u (λ n from low same. let few = sound.sound.units.next.1 in omega (arith, few, low, same, great))

  unit_same : {X : Type 0} (f : ℕ → X) (refused : X)
      → ((u : ℕ) → has_unit s.catalogue.forest u ≡ false → f u ≡ refused) → (u : ℕ) → f (named u) ≡ f u
  unit_same f refused unknown = named_same (has_unit s.catalogue.forest) f refused unknown no_unit_0 great_unit

  ticket_same : {X : Type 0} (f : ℕ → X) (refused : X)
      → ((t : ℕ) → is_ticket s t ≡ false → f t ≡ refused) → (t : ℕ) → f (named t) ≡ f t
  ticket_same f refused unknown = named_same (is_ticket s) f refused unknown refl great_ticket

  container_same : {X : Type 0} (f : ℕ → X) (refused : X)
      → ((c : ℕ) → is_container s c ≡ false → f c ≡ refused) → (c : ℕ) → f (named c) ≡ f c
  container_same f refused unknown = named_same (is_container s) f refused unknown refl great_container

  -- an order that waits is of a ticket that was given
  none_first : (t c : ℕ) → is_ticket s t ≡ false → some_and (is_by s t) (first (s.queue c)) ≡ false
  none_first t c unknown = at (first (s.queue c))
    where
      by : (o : ℕ) (x : Option Order) → nth s.orders o ≡ x → some_and (λ (order : Order). nat_eq order.ticket t) x ≡ false
      by o None e = refl
      by o (Some order) e = elim (cases_Bool (nat_eq order.ticket t)) [
        | inl same ↦ absurd (false≢true (sym unknown ∙ (ap (is_ticket s) (sym (eqb-true order.ticket t same)) ∙ (sound.sound.desk.orders.each o order e).ticket)))
        | inr other ↦ other
      ]

      at : (o : Option ℕ) → some_and (is_by s t) o ≡ false
      at None = refl
      at (Some o) = by o (nth s.orders o) refl

  parent_same : (u : ℕ) (parent : Option ℕ) → step s (command.Move u (option_map named parent)) ≡ step s (command.Move u parent)
  parent_same u None = refl
  parent_same u (Some p) =
      unit_same (λ n. step s (command.Move u (Some n))) _
      (λ n none. refused_step s (command.Move u (Some n)) _ (second_holds (has_unit s.catalogue.forest u) (has_unit s.catalogue.forest n) refusal.UnknownUnit refusal.UnknownUnit _ none)) p

  -- what names nothing is refused, or asks for nothing, alike
  pub step_named : (asked : Command) → step s (of_named asked) ≡ step s asked
  step_named (command.OpenDay day) = refl
  step_named (command.Import source file) = refl
  step_named (command.SetStatus u draft whole) =
      unit_same (λ n. step s (command.SetStatus n draft whole)) _
      (λ n none. refused_step s (command.SetStatus n draft whole) _ (first_holds (has_unit s.catalogue.forest n) refusal.UnknownUnit _ none)) u
  step_named (command.SetClosure u until) =
      unit_same (λ n. step s (command.SetClosure n until)) _
      (λ n none. refused_step s (command.SetClosure n until) _ (first_holds (has_unit s.catalogue.forest n) refusal.UnknownUnit _ none)) u
  step_named (command.Move u parent) =
      unit_same (λ n. step s (command.Move n (option_map named parent))) _
      (λ n none. refused_step s (command.Move n (option_map named parent)) _ (first_holds (has_unit s.catalogue.forest n) refusal.UnknownUnit _ none)) u
      ∙ parent_same u parent
  step_named (command.Remove u) =
      unit_same (λ n. step s (command.Remove n)) _
      (λ n none. refused_step s (command.Remove n) _ (first_holds (has_unit s.catalogue.forest n) refusal.UnknownUnit _ none)) u
  step_named (command.Register name until) = refl
  step_named (command.Renew t until) =
      ticket_same (λ n. step s (command.Renew n until)) _
      (λ n none. refused_step s (command.Renew n until) _ (first_holds (is_ticket s n) refusal.UnknownTicket _ none)) t
  step_named (command.TakeSeat t) =
      ticket_same (λ n. step s (command.TakeSeat n)) _
      (λ n none. refused_step s (command.TakeSeat n) _ (first_holds (is_ticket s n) refusal.UnknownTicket _ none)) t
  step_named (command.LeaveSeat t) =
      ticket_same (λ n. step s (command.LeaveSeat n)) _
      (λ n none. refused_step s (command.LeaveSeat n) _ (first_holds (is_ticket s n) refusal.UnknownTicket _ none)) t
  step_named (command.Order t c) =
      ticket_same (λ n. step s (command.Order n (named c))) _
      (λ n none. refused_step s (command.Order n (named c)) _ (first_holds (is_ticket s n) refusal.UnknownTicket _ none)) t
      ∙ container_same (λ n. step s (command.Order t n)) _
      (λ n none. refused_step s (command.Order t n) _ (third_holds (is_ticket s t) (is_expired s t) (opens s t n) refusal.UnknownTicket refusal.TicketExpired refusal.NotAvailable _ (some_passes _ (nth s.catalogue.containers n) none))) c
  step_named (command.Cancel o) =
      named_same (λ n. is_some (nth s.orders n)) (λ n. step s (command.Cancel n)) _
      (λ n none. refused_step s (command.Cancel n) _ (first_holds (is_some (container_of s n)) refusal.UnknownOrder _ (none_mapped _ (nth s.orders n) none))) refl great_order o
  step_named command.Run = refl
  step_named command.Reshelve = refl
  step_named (command.Issue c t) =
      container_same (λ n. step s (command.Issue n (named t))) _
      (λ n none. refused_step s (command.Issue n (named t)) _ (first_holds (is_container s n) refusal.UnknownContainer _ none)) c
      ∙ ticket_same (λ n. step s (command.Issue c n)) _
      (λ n none. refused_step s (command.Issue c n) _ (not_first (is_container s c) (is_desk (s.place c)) (some_and (is_by s n) (first (s.queue c))) _ (none_first n c none))) t
  step_named (command.Return c) =
      container_same (λ n. step s (command.Return n)) _
      (λ n none. refused_step s (command.Return n) _ (first_holds (is_container s n) refusal.UnknownContainer _ none)) c
  step_named (command.Permit t u until) =
      ticket_same (λ n. step s (command.Permit n (named u) until)) _
      (λ n none. refused_step s (command.Permit n (named u) until) _ (first_holds (is_ticket s n) refusal.UnknownTicket _ none)) t
      ∙ unit_same (λ n. step s (command.Permit t n until)) _
      (λ n none. refused_step s (command.Permit t n until) _ (second_holds (is_ticket s t) (has_unit s.catalogue.forest n) refusal.UnknownTicket refusal.UnknownUnit _ none)) u
  step_named (command.Revoke t u) =
      ticket_same (λ n. step s (command.Revoke n (named u))) _
      (λ n none. refused_step s (command.Revoke n (named u)) _ (first_holds (is_ticket s n) refusal.UnknownTicket _ none)) t
      ∙ unit_same (λ n. step s (command.Revoke t n)) _
      (λ n none. refused_step s (command.Revoke t n) _ (second_holds (is_ticket s t) (has_unit s.catalogue.forest n) refusal.UnknownTicket refusal.UnknownUnit _ none)) u

  -- there is no such unit
  no_page : (u : ℕ) → has_unit s.catalogue.forest u ≡ false → Unknown refusal.UnknownUnit ≡ answer s (query.Page u)
  no_page u none =
      hidden s sound u (ap (λ (way : List Unit). shows_last s.day (map head_of way)) (nowhere (has_id u) s.catalogue.forest none).0)

  pub answer_named : (asked : Query) → answer s (asks_named asked) ≡ answer s asked
  answer_named query.Fonds = refl
  answer_named (query.Aid u) = unit_same (λ n. answer s (query.Aid n)) _ (λ n none. sym (far_off s sound n none)) u
  answer_named (query.Page u) = unit_same (λ n. answer s (query.Page n)) _ (λ n none. sym (no_page n none)) u
  answer_named (query.ReaderOrders t) =
      ticket_same (λ n. answer s (query.ReaderOrders n)) _ (λ n none. ap (known_json refusal.UnknownTicket) (none_left _ (nth s.readers n) none)) t
  answer_named (query.Queue c) =
      container_same (λ n. answer s (query.Queue n)) _ (λ n none. ap (known_json refusal.UnknownContainer) (none_left _ (nth s.catalogue.containers n) none)) c
  answer_named (query.RunSlip r) =
      named_same (λ n. is_some (nth s.runs n)) (λ n. answer s (query.RunSlip n)) _ (λ n none. no_run s n (nth s.runs n) none) refl great_run r
  answer_named query.IssuedNow = refl
  answer_named (query.ReaderPermits t) =
      ticket_same (λ n. answer s (query.ReaderPermits n)) _ (λ n none. ap (known_json refusal.UnknownTicket) (none_left _ (nth s.readers n) none)) t

-- ---- calls

carried_named : (places : Trees → Forest ℕ → Type 0) (version : Version) (s : State) (asked other : Command) (reply : Reply) (now : Database)
    → step s other ≡ step s asked → CarriesOutStep places version s other reply now
    → CarriesOutStep places version s asked reply now
carried_named places version s asked other reply now same made = record {
  told = made.told ∙ ap (λ (done : State × Reply). done.1) same;
  represents = λ well. subst (λ (done : State × Reply). RepresentsState places version now done.0) same (made.represents well);
}

-- the command with its numbers named is of the same kind
pub spares_named : (asked : Command) → spares_catalogue (of_named asked) ≡ spares_catalogue asked
spares_named (command.OpenDay day) = refl
spares_named (command.Import source file) = refl
spares_named (command.SetStatus u draft whole) = refl
spares_named (command.SetClosure u until) = refl
spares_named (command.Move u parent) = refl
spares_named (command.Remove u) = refl
spares_named (command.Register name until) = refl
spares_named (command.Renew t until) = refl
spares_named (command.TakeSeat t) = refl
spares_named (command.LeaveSeat t) = refl
spares_named (command.Order t c) = refl
spares_named (command.Cancel o) = refl
spares_named command.Run = refl
spares_named command.Reshelve = refl
spares_named (command.Issue c t) = refl
spares_named (command.Return c) = refl
spares_named (command.Permit t u until) = refl
spares_named (command.Revoke t u) = refl

pub performs_named : (places : Trees → Forest ℕ → Type 0) (version : Version) (known : State → Type 0) (asked : Command) (old new : store.State) (r : Result Reply StoreFault)
    → CarriesOut places version known (of_named asked) old new r → CarriesOut places version known asked old new r
performs_named places version known asked old new r made = record {
  steps = λ clean s sound so it. IfOk-weaker r (λ reply. CarriesOutStep places version s (of_named asked) reply new.now) (λ reply. CarriesOutStep places version s asked reply new.now)
      (λ reply. carried_named places version s asked (of_named asked) reply new.now (step_named s sound asked)) (made.steps clean s sound so it);
  goes = made.goes;
  aborts = made.aborts;
  faults = made.faults;
}

pub responds_named : (places : Trees → Forest ℕ → Type 0) (version : Version) (known : State → Type 0) (asked : Query) (old new : store.State) (r : Result Answer StoreFault)
    → AnswersKnowing places version known (asks_named asked) old new r
    → AnswersKnowing places version known asked old new r
responds_named places version known asked old new r made = record {
  answers = λ clean s sound so it. IfOk-weaker r (λ told. told ≡ answer s (asks_named asked)) (λ told. told ≡ answer s asked) (λ told e. e ∙ answer_named s sound asked) (made.answers clean s sound so it);
  looks = made.looks;
  aborts = made.aborts;
  faults = made.faults;
}
