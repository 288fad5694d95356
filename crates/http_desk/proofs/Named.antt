-- A request's command names days of the calendar, and a text that is UTF-8.
use Rattle.std.proofs.Common.{ℕ, true, false, List, [], ◌∷◌, IsUtf8, Option, None, Some, cond, codes}
use Rattle.std.proofs.lemmas.Bool.{and_parts}
use Rattle.std.specs.Prelude.{◌==◌, ◌&&◌, ◌+◌, ◌*◌}
use Rattle.std.specs.Str.{is_utf8}
use Rattle.serde_json.specs.Data.{Data}
use Rattle.serde_json.specs.Data as values
use Rattle.serde_json.specs.Find.{get, as_str}
use Rattle.isad_core.proofs.DayLemmas.{is_day_number-so}
use Rattle.catalogue_core.specs.GoodCatalogues.{IsSomeDay}
use Rattle.office_core.specs.declared.command.Command.TheVariants as command
use Rattle.http_messages.specs.declared.body_form.Form.{Form}
use Rattle.http_messages.specs.declared.body_form.Form.TheVariants as form
use Rattle.http_messages.specs.declared.table.Leads.{Leads}
use Rattle.http_messages.specs.declared.table.Leads.TheVariants as leads
use Rattle.http_desk.proofs.Common.{Asks, Bytes, Command, Does, IfSome, IsDayNumber, NamesDays, NamesTexts, Route}
use Rattle.http_desk.proofs.Common.{TakesFile, TakesForm, as_day, command_in, command_of_form, day_at, day_of}
use Rattle.http_desk.proofs.Common.{day_or_null_at, draft_at, first_route, flag_at, leads_to, null_or, number_at}
use Rattle.http_desk.proofs.Common.{number_from_digits, number_of_date, number_or_null_at, or_else, parameter_in}
use Rattle.http_desk.proofs.Common.{question, route_of, route_table, text_at, two_digits, value_of}
use Rattle.http_desk.proofs.Options.{each_then, each_map, known_then, known_map, if_some, if_then}
use Rattle.http_desk.proofs.Values.{HasStrings, values_have, texts_at}

-- what is shown of a command
abbrev pub Names : Command → Type 0
Names command = NamesDays command × NamesTexts command

-- ---- days

days_of_dates : (year month day : ℕ) → IfSome (number_of_date year month day) IsDayNumber
days_of_dates year month day = if_some IsDayNumber _ _ (λ h. is_day_number-so _ (and_parts _ _ h).1)

days_of_texts : (text : Bytes) → IfSome (day_of text) IsDayNumber
days_of_texts [] = tt
days_of_texts (a ∷ []) = tt
days_of_texts (a ∷ b ∷ []) = tt
days_of_texts (a ∷ b ∷ c ∷ []) = tt
days_of_texts (a ∷ b ∷ c ∷ d ∷ []) = tt
days_of_texts (a ∷ b ∷ c ∷ d ∷ x ∷ []) = tt
days_of_texts (a ∷ b ∷ c ∷ d ∷ x ∷ e ∷ []) = tt
days_of_texts (a ∷ b ∷ c ∷ d ∷ x ∷ e ∷ f ∷ []) = tt
days_of_texts (a ∷ b ∷ c ∷ d ∷ x ∷ e ∷ f ∷ y ∷ []) = tt
days_of_texts (a ∷ b ∷ c ∷ d ∷ x ∷ e ∷ f ∷ y ∷ g ∷ []) = tt
days_of_texts (a ∷ b ∷ c ∷ d ∷ x ∷ e ∷ f ∷ y ∷ g ∷ h ∷ []) =
    if_then IsDayNumber ((x == 45) && (y == 45)) _
    (λ _. each_then IsDayNumber _ (two_digits a b) (λ century. each_then IsDayNumber _ (two_digits c d) (λ rest. each_then IsDayNumber _ (two_digits e f)
    (λ month. each_then IsDayNumber _ (two_digits g h) (λ day. days_of_dates (century * 100 + rest) month day)))))
days_of_texts (a ∷ b ∷ c ∷ d ∷ x ∷ e ∷ f ∷ y ∷ g ∷ h ∷ more ∷ later) = tt

days_of_values : (value : Data) → IfSome (as_day value) IsDayNumber
days_of_values value = each_then IsDayNumber day_of (as_str value) days_of_texts

days_or_null : (value : Data) → IfSome (null_or as_day value) IsSomeDay
days_or_null values.null = tt
days_or_null (values.boolean _) = tt
days_or_null (values.number _) = tt
days_or_null (values.string text) =
    known_map IsSomeDay IsDayNumber Some (as_day (values.string text)) (days_of_values (values.string text)) (λ day h. h)
days_or_null (values.array _) = tt
days_or_null (values.object _) = tt

days_at : (key : Bytes) (value : Data) → IfSome (day_at key value) IsDayNumber
days_at key value = each_then IsDayNumber as_day (get key value) days_of_values

days_or_null_at : (key : Bytes) (value : Data) → IfSome (day_or_null_at key value) IsSomeDay
days_or_null_at key value = each_then IsSomeDay (null_or as_day) (get key value) days_or_null

-- ---- the members of a body

members_name : (asked : Form) (v : Data) → HasStrings v → IfSome (command_of_form asked v) Names
members_name form.Order v has =
    each_then Names _ (number_at (codes "ticket") v) (λ t. each_map Names (command.Order t) (number_at (codes "container") v) (λ c. (tt, tt)))
members_name form.OpenDay v has =
    known_map Names IsDayNumber command.OpenDay (day_at (codes "day") v) (days_at (codes "day") v) (λ day h. (h, tt))
members_name form.SetStatus v has =
    each_then Names _ (number_at (codes "unit") v) (λ u. each_then Names _ (draft_at (codes "status") v)
    (λ draft. each_map Names (command.SetStatus u draft) (flag_at (codes "branch") v) (λ whole. (tt, tt))))
members_name form.SetClosure v has =
    each_then Names _ (number_at (codes "unit") v)
    (λ u. known_map Names IsSomeDay (command.SetClosure u) (day_or_null_at (codes "until") v) (days_or_null_at (codes "until") v) (λ until h. (h, tt)))
members_name form.Move v has =
    each_then Names _ (number_at (codes "unit") v) (λ u. each_map Names (command.Move u) (number_or_null_at (codes "parent") v) (λ parent. (tt, tt)))
members_name form.Remove v has = each_map Names command.Remove (number_at (codes "unit") v) (λ u. (tt, tt))
members_name form.Register v has =
    known_then Names IsUtf8 _ (text_at (codes "name") v) (texts_at (codes "name") v has)
    (λ name text. known_map Names IsDayNumber (command.Register name) (day_at (codes "until") v) (days_at (codes "until") v) (λ until h. (h, text)))
members_name form.Renew v has =
    each_then Names _ (number_at (codes "ticket") v)
    (λ t. known_map Names IsDayNumber (command.Renew t) (day_at (codes "until") v) (days_at (codes "until") v) (λ until h. (h, tt)))
members_name form.TakeSeat v has = each_map Names command.TakeSeat (number_at (codes "ticket") v) (λ t. (tt, tt))
members_name form.LeaveSeat v has = each_map Names command.LeaveSeat (number_at (codes "ticket") v) (λ t. (tt, tt))
members_name form.Cancel v has = each_map Names command.Cancel (number_at (codes "order") v) (λ o. (tt, tt))
members_name form.Issue v has =
    each_then Names _ (number_at (codes "container") v) (λ c. each_map Names (command.Issue c) (number_at (codes "ticket") v) (λ t. (tt, tt)))
members_name form.Return v has = each_map Names command.Return (number_at (codes "container") v) (λ c. (tt, tt))
members_name form.Permit v has =
    each_then Names _ (number_at (codes "ticket") v) (λ t. each_then Names _ (number_at (codes "unit") v)
    (λ u. known_map Names IsDayNumber (command.Permit t u) (day_at (codes "until") v) (days_at (codes "until") v) (λ until h. (h, tt))))
members_name form.Revoke v has =
    each_then Names _ (number_at (codes "ticket") v) (λ t. each_map Names (command.Revoke t) (number_at (codes "unit") v) (λ u. (tt, tt)))

pub bodies_name : (asked : Form) (body : Bytes) → IfSome (command_in asked body) Names
bodies_name asked body =
    known_then Names HasStrings (command_of_form asked) (value_of body) (values_have body) (members_name asked)

-- ---- routes

-- so is a command without a body
abbrev pub IsNamed : Route → Type 0
IsNamed (Asks asked) = Unit {0}
IsNamed (Does asked) = Names asked
IsNamed (TakesFile source) = Unit {0}
IsNamed (TakesForm asked) = Unit {0}

either_named : (a b : Option Route) → IfSome a IsNamed → IfSome b IsNamed → IfSome (or_else a b) IsNamed
either_named None b x y = y
either_named (Some route) b x y = x

led_to_named : (to : Leads) (parameter : Bytes) → IfSome (leads_to to parameter) IsNamed
led_to_named (leads.Asks asked) parameter = tt
led_to_named (leads.AsksOf asked) parameter =
    each_map IsNamed (λ n. Asks (question asked n)) (number_from_digits parameter) (λ n. tt)
led_to_named leads.Run parameter = (tt, tt)
led_to_named leads.Reshelve parameter = (tt, tt)
led_to_named leads.Import parameter = tt
led_to_named (leads.TakesForm asked) parameter = tt

first_named : (lines : List (Bytes × Leads)) (path : Bytes) → IfSome (first_route lines path) IsNamed
first_named [] path = tt
first_named ((pattern, to) ∷ others) path =
    either_named _ _ (each_then IsNamed (leads_to to) (parameter_in pattern path) (led_to_named to)) (first_named others path)

pub routes_named : (path : Bytes) → IfSome (route_of path) IsNamed
routes_named path = elim (is_utf8 path) as (λ b. IfSome (cond b (first_route route_table path) None) IsNamed) [ true ↦ first_named route_table path | false ↦ tt ]
