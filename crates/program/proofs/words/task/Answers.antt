use Rattle.std.proofs.Common.{◌≡◌, ◌∙◌, Bool, Some, None, true, false, map, ap, sym, refl, Option, option_map, subst}
use Rattle.std.specs.Box.{box_value}
use Rattle.clap.specs.Faults.{fault_of, is_simple_and_free}
use Rattle.clap.specs.Matches.{found_of}
use Rattle.clap.specs.Simple.{App, app_of, is_simple, subcommand_of, subcommand_rows_of}
use Rattle.clap.specs.Takes.{takes}
use Rattle.clap.specs.declared.parser.matches.ArgMatches.TheViews.{out-ArgMatches, out-SubCommand}
use Rattle.command_line.proofs.Needs.{needs}
use Rattle.command_line.specs.CommandLine.{program}
use Rattle.program.proofs.Common.{AreRefusedFor, IfErr-weaker, IfOk-weaker, IsTaskOf, rows_of, string_bytes}
use Rattle.program.proofs.words.task.Goals as goal

not_true : (b : Bool) → (b ≡ true → ⊥) → b ≡ false
not_true true h = absurd (h refl)
not_true false h = refl

pub returns-in-Err-clause-refused : goal.returns-in-Err-clause-refused
returns-in-Err-clause-refused c = λ w.
    not_true (takes program (map string_bytes c.args.words.now)) (λ e. c.words_fault.ensures.words w
    (c.in-Err.ensures.passes (ap (λ (a : App). takes a (map string_bytes c.args.words.now)) c.in_ok-record_office.ensures ∙ e)))

pair_from : {X A B : Type 0} (f : X → A) (g : X → B) (o : Option X) (n : A) (r : B) → Some n ≡ option_map f o → Some r ≡ option_map (λ (p : A × B). p.1) (option_map {U = A × B} (λ b. (f b, g b)) o)
    → option_map {U = A × B} (λ b. (f b, g b)) o ≡ Some (n, r)
pair_from f g None n r a b = cc
pair_from f g (Some x) n r a b =
    let first : f x ≡ n = cc in
    let second : g x ≡ r = cc in
    rw (first, second) refl

pub named_task-requires : goal.named_task-requires
named_task-requires c =
    let words = map string_bytes c.args.words.now in
    let free : is_simple_and_free (app_of c.in_ok-record_office.field-0) ≡ true = ap is_simple_and_free c.in_ok-record_office.ensures in
    let none = sym (ap (λ (a : App). fault_of a words) c.in_ok-record_office.ensures) ∙ c.in-Ok.ensures.kinds free in
    let matches = (c.in-Ok.ensures.matches (ap is_simple c.in_ok-record_office.ensures)).1 in
    let found : subcommand_rows_of c.in-Ok.matches ≡ Some (c.in-Some.name.now, rows_of (found_of c.in-Some.found.now)) =
    pair_from (λ b. (out-SubCommand (box_value b)).name.now) (λ b. rows_of (found_of (out-SubCommand (box_value b)).matches)) (out-ArgMatches c.in-Ok.matches).subcommand _ _ c.in-Some.ensures.name c.in-Some.ensures.rows in
    needs words c.in-Some.name.now (rows_of (found_of c.in-Some.found.now)) none (sym (ap (λ (a : App). subcommand_of a words) c.in_ok-record_office.ensures) ∙ sym matches ∙ found)

pub returns-clause-named : goal.returns-clause-named
returns-clause-named c =
    let words = map string_bytes c.args.words.now in
    let matches = (c.in-Ok.ensures.matches (ap is_simple c.in_ok-record_office.ensures)).1 in
    let found : subcommand_rows_of c.in-Ok.matches ≡ Some (c.in-Some.name.now, rows_of (found_of c.in-Some.found.now)) =
    pair_from (λ b. (out-SubCommand (box_value b)).name.now) (λ b. rows_of (found_of (out-SubCommand (box_value b)).matches)) (out-ArgMatches c.in-Ok.matches).subcommand _ _ c.in-Some.ensures.name c.in-Some.ensures.rows in
    let sub = sym (ap (λ (a : App). subcommand_of a words) c.in_ok-record_office.ensures) ∙ sym matches ∙ found in
    IfOk-weaker c.named_task.result _ _ (λ t h. subst (λ m. IsTaskOf m t) (sym sub) h) c.named_task.ensures.named

pub returns-clause-values : goal.returns-clause-values
returns-clause-values c =
    let words = map string_bytes c.args.words.now in
    let matches = (c.in-Ok.ensures.matches (ap is_simple c.in_ok-record_office.ensures)).1 in
    let found : subcommand_rows_of c.in-Ok.matches ≡ Some (c.in-Some.name.now, rows_of (found_of c.in-Some.found.now)) =
    pair_from (λ b. (out-SubCommand (box_value b)).name.now) (λ b. rows_of (found_of (out-SubCommand (box_value b)).matches)) (out-ArgMatches c.in-Ok.matches).subcommand _ _ c.in-Some.ensures.name c.in-Some.ensures.rows in
    let sub = sym (ap (λ (a : App). subcommand_of a words) c.in_ok-record_office.ensures) ∙ sym matches ∙ found in
    IfErr-weaker c.named_task.result _ _ (λ f h. subst (λ m. AreRefusedFor m f) (sym sub) h) c.named_task.ensures.refused

pub returns-in-Err-clause-values : goal.returns-in-Err-clause-values
returns-in-Err-clause-values c = c.words_fault.ensures.others _
