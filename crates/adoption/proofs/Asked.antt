-- What the question for the version is, whatever the tables are.
use Rattle.std.proofs.Common.{Bool, ◌≡◌, ℕ, ◌≤◌, List, [], length, true, false, Option, None, Ok, Err, refl, sym, ap}
use Rattle.std.proofs.Common.{subst, ◌∙◌, if◌then◌else◌}
use Rattle.std.proofs.Math.Nat.{le_refl}
use Rattle.sqlite.specs.Command.{Command}
use Rattle.sqlite.specs.Command.TheVariants.{Select}
use Rattle.sqlite.specs.Listing.{understood, reads_listing, if_select, is_select, listing_schema}
use Rattle.sqlite_ast.specs.declared.Select as written_select
use Rattle.sqlite_ast.specs.declared.Statement.TheVariants as written
use Rattle.sqlite_resolve.specs.Compile.{first, meaning, planned, with_command, compiled, command, returning, timed}
use Rattle.sqlite_resolve.specs.Compile.{read}
use Rattle.sqlite_resolve.specs.Lowering.{Checked, and_then}
use Rattle.sqlite_resolve.specs.Program.{query, program}
use Rattle.sqlite_resolve.specs.declared.compiled.Compiled.{Compiled}
use Rattle.sqlite_resolve.specs.declared.error.CompileError.TheVariants.{NoSuchTable}
use Rattle.sqlite_schema.specs.declared.command.Returning.{Returning}
use Rattle.sqlite_schema.specs.declared.program.Program.{Program}
use Rattle.sqlite_syntax.specs.declared.statement.Parsed.{Parsed}
use Rattle.sqlite_tied.specs.Compute.{everything}
use Rattle.adoption.proofs.Common.{Schema, version_text}

-- the text is one query, without parameters, and does not read the time
pub record IsQuery (p : Parsed) : Type 0 where
  pub query : written_select.Select
  pub statement : p.statement ≡ written.Select query
  pub names : p.names ≡ []
  pub formats : p.formats ≡ []
  pub whole : length version_text ≤ p.tail

abbrev HasQuery : Checked Parsed → Type 0
HasQuery (Ok p) = IsQuery p
HasQuery (Err e) = ⊥

is_a_query : HasQuery (first version_text)
unfolding everything
is_a_query = record { query = _; statement = refl; names = refl; formats = refl; whole = le_refl _ }

-- the same of what it compiles to
pub record IsCompiledQuery (c : Compiled) : Type 0 where
  pub program : Program
  pub columns : List (List ℕ)
  pub command : c.command ≡ Select program columns
  pub returning : c.returning ≡ None
  pub names : c.names ≡ []
  pub formats : c.formats ≡ []
  pub whole : length version_text ≤ c.tail

same_ok : {A : Type 0} {a b : A} → ◌≡◌ {A = Checked A} (Ok a) (Ok b) → a ≡ b
same_ok {A} {a} {b} p = ap (λ r. from r) p
  where
    from : Checked A → A
    from (Ok x) = x
    from (Err e) = a

reads_select : (schema : Schema) (s : written_select.Select) (k : Command) → read schema s ≡ Ok k
    → (p : Program) × (names : List (List ℕ)) × (k ≡ Select p names)
unfolding read
reads_select schema s k = elim (query schema s) as (λ r. and_then r (λ q. and_then (program schema q.1 q.0.0) (λ p. Ok (Select p q.0.1))) ≡ Ok k → (p : Program) × (names : List (List ℕ)) × (k ≡ Select p names)) [
  | Ok q ↦ elim (program schema q.1 q.0.0) as (λ r. and_then r (λ p. Ok (Select p q.0.1)) ≡ Ok k → (p : Program) × (names : List (List ℕ)) × (k ≡ Select p names)) [
    | Ok p ↦ λ h. (p, q.0.1, sym (same_ok h))
    | Err e ↦ λ h. absurd (cc)
  ]
  | Err e ↦ λ h. absurd (cc)
]

-- a query, with no formats and nothing shown of a write
abbrev Plan : Type 0
Plan = List (List ℕ) × (Command × Option Returning)

abbrev shows_nothing : Command → Checked (Command × Option Returning)
shows_nothing k = Ok (k, None)

abbrev untimed : Command × Option Returning → Checked Plan
untimed found = Ok ([], found)

abbrev plain_plan : Command → Checked Plan
plain_plan k = Ok ([], (k, None))

plans : (r : Checked Command) → and_then (and_then r shows_nothing) untimed ≡ and_then r plain_plan
plans (Ok k) = refl
plans (Err e) = refl

plan_of : (schema : Schema) (s : written_select.Select) (p : Parsed) → p.statement ≡ written.Select s → p.formats ≡ []
    → planned schema p ≡ and_then (read schema s) plain_plan
unfolding planned meaning returning command timed
plan_of schema s p is none = rw (is, none) (plans (read schema s))

-- what it compiles to, with any tables
compiled_with : (schema : Schema) (c : Compiled) → compiled schema version_text ≡ Ok c → IsCompiledQuery c
unfolding compiled
compiled_with schema c = at (first version_text) is_a_query
  where
    at : (r : Checked Parsed) → HasQuery r
        → and_then r (λ p. and_then (planned schema p) (λ plan. Ok (with_command p plan))) ≡ Ok c → IsCompiledQuery c
    at (Err e) it h = absurd it
    at (Ok p) it h = made (read schema it.query) refl (sym (ap (λ r. and_then r (λ plan. Ok (with_command p plan))) (plan_of schema it.query p it.statement it.formats)) ∙ h)
      where
        made : (r : Checked Command) → read schema it.query ≡ r
            → and_then (and_then r plain_plan) (λ plan. Ok (with_command p plan)) ≡ Ok c → IsCompiledQuery c
        made (Err e) is h = absurd (cc)
        made (Ok k) is h =
            let same = same_ok h in
            let select = reads_select schema it.query k is in
            record {
              program = select.0;
              columns = select.1;
              command = ap (λ (c : Compiled). c.command) (sym same) ∙ select.2;
              returning = sym (ap (λ (c : Compiled). c.returning) same);
              names = sym (ap (λ (c : Compiled). c.names) same) ∙ it.names;
              formats = sym (ap (λ (c : Compiled). c.formats) same);
              whole = subst (λ (c : Compiled). length version_text ≤ c.tail) same it.whole;
            }

if_ok : (r : Checked Compiled) (c : Compiled) → if_select r ≡ Ok c → r ≡ Ok c
if_ok (Err e) c h = absurd (cc)
if_ok (Ok k) c h = at (is_select k.command) h
  where
    at : (b : Bool) → ◌≡◌ {A = Checked Compiled} (if b then Ok k else Err NoSuchTable) (Ok c)
        → ◌≡◌ {A = Checked Compiled} (Ok k) (Ok c)
    at true h = h
    at false h = absurd (cc)

-- what it is understood to be, with any tables
pub understood_with : (schema : Schema) (c : Compiled) → understood schema version_text ≡ Ok c → IsCompiledQuery c
unfolding understood
understood_with schema c = elim (reads_listing schema version_text) as (λ b. (if b then if_select (compiled listing_schema version_text) else compiled schema version_text) ≡ Ok c → IsCompiledQuery c) [
  | true ↦ λ h. compiled_with listing_schema c (if_ok (compiled listing_schema version_text) c h)
  | false ↦ compiled_with schema c
]
