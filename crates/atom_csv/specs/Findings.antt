-- What the code finds in a record before it determines a cause.
use Rattle.std.specs.Prelude.{ℕ, Option, is_some, ◌++◌, if◌then◌else◌, List}
use Rattle.isad_core.specs.Texts.{Bytes}
use Rattle.atom_csv.specs.Fields.{Fields, is_blank, has_no_bytes}
use Rattle.atom_csv.specs.FileContents.{has_other_width, is_late, is_long, is_translation, legacy, has_slug_alone}
use Rattle.atom_csv.specs.FileContents.{cause_if}
use Rattle.atom_csv.specs.declared.cause.Cause.{Cause}
use Rattle.atom_csv.specs.declared.cause.Cause.TheVariants as cause
use Rattle.atom_csv.specs.declared.findings.Findings.{Findings}

-- what is found in a record of this row; `stood` is the culture of the first record with its legacyId
abbrev pub findings : Fields → Fields → Option Bytes → ℕ → Findings
findings header fields stood row = record {
  is_blank = is_blank fields;
  is_translation = is_translation header fields stood;
  other_width = has_other_width header fields;
  no_legacy = has_no_bytes (legacy header fields);
  stood = is_some stood;
  slug_alone = has_slug_alone header fields;
  is_late = is_late row;
  is_long = is_long header fields;
}

-- its causes, lowest first
abbrev pub causes_of : Findings → List Cause
causes_of f = if f.is_blank then cause_if f.is_late cause.TooManyRows
    else if f.is_translation then cause_if f.other_width cause.FieldCount ++ cause_if f.is_late cause.TooManyRows
    else cause_if f.other_width cause.FieldCount ++ (cause_if f.no_legacy cause.BlankLegacyId
    ++ (cause_if f.stood cause.Repeated ++ (cause_if f.slug_alone cause.Slug
    ++ (cause_if f.is_late cause.TooManyRows ++ cause_if f.is_long cause.TooLong))))
