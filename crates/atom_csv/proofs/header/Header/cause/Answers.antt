use Rattle.std.proofs.Common.{◌≡◌, ◌∙◌, ◌++◌, Some, Bool, true, false, codes, sym, ap, ap₂, refl, not, Option}
use Rattle.atom_csv.specs.declared.cause.Cause.TheVariants as cause
use Rattle.atom_csv.proofs.Common.{Cause, Fields, borrowed_fields, cause_if, has_column, has_column_twice}
use Rattle.atom_csv.proofs.Common.{is_column_name, lowest}
use Rattle.atom_csv.proofs.FieldLemmas.{column_seen, twice_seen}
use Rattle.atom_csv.proofs.header.Header.cause.Goals as goal

-- the lowest cause of a header, by its two tests
abbrev chosen : Bool → Bool → Option Cause
chosen there twice = lowest (cause_if (not there) cause.NoLegacyId ++ cause_if twice cause.HeaderTwice)

none_there : (twice : Bool) → Some cause.NoLegacyId ≡ chosen false twice
none_there twice = refl

abbrev has_legacy : Fields → Bool
has_legacy = has_column (codes "legacyId")

pub returns-then-not-has : goal.returns-then-not-has
returns-then-not-has c =
    let names = c.as_slice-names.result.now in
    let header = c.args.self.now in
    let same : borrowed_fields names ≡ header = ap borrowed_fields c.as_slice-names.ensures.value ∙ c.self.view_is in
    let there : has_legacy header ≡ false = sym (c.has.ensures ∙ (column_seen (is_column_name (codes "legacyId")) names ∙ ap has_legacy same)) ∙ c.if-not-has.true in
    none_there (has_column_twice header) ∙ ap (λ h. chosen h (has_column_twice header)) (sym there)

pub returns-then-has_twice : goal.returns-then-has_twice
returns-then-has_twice c =
    let names = c.as_slice-names.result.now in
    let header = c.args.self.now in
    let same : borrowed_fields names ≡ header = ap borrowed_fields c.as_slice-names.ensures.value ∙ c.self.view_is in
    let there : has_legacy header ≡ true = sym (c.has.ensures ∙ (column_seen (is_column_name (codes "legacyId")) names ∙ ap has_legacy same)) ∙ c.if-not-has.false in
    let twice : has_column_twice header ≡ true = sym (c.has_twice.ensures ∙ (twice_seen names ∙ ap has_column_twice same)) ∙ c.if-has_twice.true in
    ap₂ chosen (sym there) (sym twice)

pub returns : goal.returns
returns c =
    let names = c.as_slice-names.result.now in
    let header = c.args.self.now in
    let same : borrowed_fields names ≡ header = ap borrowed_fields c.as_slice-names.ensures.value ∙ c.self.view_is in
    let there : has_legacy header ≡ true = sym (c.has.ensures ∙ (column_seen (is_column_name (codes "legacyId")) names ∙ ap has_legacy same)) ∙ c.if-not-has.false in
    let twice : has_column_twice header ≡ false = sym (c.has_twice.ensures ∙ (twice_seen names ∙ ap has_column_twice same)) ∙ c.if-has_twice.false in
    ap₂ chosen (sym there) (sym twice)
