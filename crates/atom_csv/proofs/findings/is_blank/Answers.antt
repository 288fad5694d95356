use Rattle.std.proofs.Common.{◌≡◌, ◌∙◌, ap, sym, map, take, true, false, List, ℕ}
use Rattle.csv.specs.Records.{Row, field_at}
use Rattle.atom_csv.proofs.Common.{Bytes, fields_of, has_no_bytes, is_blank, trimmed}
use Rattle.atom_csv.proofs.FieldLemmas.{blank_more, blank_not, take_fields}
use Rattle.atom_csv.proofs.findings.is_blank.Goals as goal

pub returns-then-not-is_empty : goal.returns-then-not-is_empty
returns-then-not-is_empty c =
    let (row, found, at) = c.in-Some.ensures.steps in
    let here = sym (found ∙ ap (λ (r : Row). field_at (fields_of r) c.loop-field.field-iterator.at) c.loop-field.invariant.same) in
    let there : has_no_bytes (trimmed c.in-Some.field.now) ≡ false = ap has_no_bytes (sym c.trim.ensures) ∙ (sym c.is_empty.ensures ∙ c.if-not-is_empty.true) in
    sym (blank_not (fields_of c.args.row.now) c.loop-field.field-iterator.at c.in-Some.field.now here there)

pub loop-field-preserved : goal.loop-field-preserved
loop-field-preserved c =
    let (row, found, at) = c.in-Some.ensures.steps in
    let here = sym (found ∙ ap (λ (r : Row). field_at (fields_of r) c.loop-field.field-iterator.at) c.loop-field.invariant.same) in
    let blank : has_no_bytes (trimmed c.in-Some.field.now) ≡ true = ap has_no_bytes (sym c.trim.ensures) ∙ (sym c.is_empty.ensures ∙ c.if-not-is_empty.false) in
    record {
      same = ap (λ b. b.now) row ∙ c.loop-field.invariant.same;
      blank = ap (λ (n : ℕ). is_blank (map trimmed (take n (fields_of c.args.row.now)))) at
          ∙ blank_more (fields_of c.args.row.now) c.loop-field.field-iterator.at c.in-Some.field.now here blank c.loop-field.invariant.blank;
    }

pub returns : goal.returns
returns c =
    let (row, found, at) = c.in-None.ensures.steps in
    let here = sym (found ∙ ap (λ (r : Row). field_at (fields_of r) c.loop-field.field-iterator.at) c.loop-field.invariant.same) in
    sym (ap (λ (fs : List Bytes). is_blank (map trimmed fs)) (sym (take_fields (fields_of c.args.row.now) c.loop-field.field-iterator.at here)) ∙ c.loop-field.invariant.blank)
