use Rattle.std.proofs.Common.{◌≡◌, ◌∙◌, Bool, true, false, sym, ap, refl, ℕ}
use Rattle.std.proofs.lemmas.Result.{IfErr-weaker, IfOk-weaker}
use Rattle.std.specs.Prelude.{Err}
use Rattle.std.specs.Str.{IsUtf8, is_utf8}
use Rattle.atom_csv.specs.declared.file.FileFault.{FileFault}
use Rattle.atom_csv.specs.declared.file.FileFault.TheVariants.{Memory, Bad}
use Rattle.atom_csv.proofs.Common.{Bytes, IfBad, IsUtf8-from_is_utf8, file_of, if◌then◌else◌, is_utf8-from_IsUtf8}
use Rattle.atom_csv.proofs.Common.{of_records, records_of}
use Rattle.atom_csv.proofs.read.read_file.Goals as goal

-- a text says what its records say
said : (bytes text : Bytes) → text ≡ bytes → IsUtf8 bytes → file_of bytes ≡ of_records (records_of text)
said bytes text is utf8 =
    ap (λ (b : Bool). if b then of_records (records_of bytes) else Err (0, 1)) (is_utf8-from_IsUtf8 bytes utf8) ∙ ap (λ bs. of_records (records_of bs)) (sym is)

not_true : (b : Bool) → (b ≡ true → ⊥) → b ≡ false
not_true true h = absurd (h refl)
not_true false h = refl

bad_weaker : (e : FileFault) (P Q : ℕ → ℕ → Type 0) → ((row cause : ℕ) → P row cause → Q row cause) → IfBad e P → IfBad e Q
bad_weaker Memory P Q f h = tt
bad_weaker (Bad row cause) P Q f h = f row cause h

pub returns-in-Ok-clause-rows : goal.returns-in-Ok-clause-rows
returns-in-Ok-clause-rows c =
    let (is, utf8) = c.in-Ok.ensures.cases in
    IfOk-weaker c.of_text.result _ _ (λ f h. said c.args.bytes.now c.in-Ok.text.now is utf8 ∙ h) c.of_text.ensures.rows

pub returns-in-Ok-clause-bad : goal.returns-in-Ok-clause-bad
returns-in-Ok-clause-bad c =
    let (is, utf8) = c.in-Ok.ensures.cases in
    IfErr-weaker c.of_text.result _ _ (λ e h. bad_weaker e _ _ (λ row cause g. said c.args.bytes.now c.in-Ok.text.now is utf8 ∙ g) h) c.of_text.ensures.bad

pub returns-in-Err-clause-bad : goal.returns-in-Err-clause-bad
returns-in-Err-clause-bad c =
    let bytes = c.args.bytes.now in
    let no_text = not_true (is_utf8 bytes) (λ e. c.in-Err.ensures.cases.0 (IsUtf8-from_is_utf8 bytes e)) in
    ap (λ (b : Bool). if b then of_records (records_of bytes) else Err (0, 1)) no_text ∙ ap (λ (n : ℕ). Err (0, n)) (sym c.number.ensures)
