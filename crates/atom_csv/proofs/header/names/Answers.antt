use Rattle.std.proofs.Common.{◌∙◌, ◌++◌, ◌∷◌, [], ap, sym, map, take, Bor}
use Rattle.csv.specs.Records.{Row, field_at}
use Rattle.atom_csv.proofs.Common.{Bytes, borrowed_fields, fields_of, map-append, trimmed}
use Rattle.atom_csv.proofs.FieldLemmas.{take_field, take_fields}
use Rattle.atom_csv.proofs.header.names.Goals as goal

pub loop-field-preserved : goal.loop-field-preserved
loop-field-preserved c =
    let (row, found, at) = c.in-Some.ensures.steps in
    let same = c.loop-field.invariant.same in
    let fields = fields_of c.args.row.now in
    let i = c.loop-field.field-iterator.at in
    let here = sym (found ∙ ap (λ (r : Row). field_at (fields_of r) i) same) in
    let next = take_field fields i c.in-Some.field.now here in
    record {
      same = ap (λ b. b.now) row ∙ same;
      done = ap borrowed_fields c.in_ok-push.ensures.items ∙ (map-append (λ (f : Bor Bytes). f.now) c.loop-field.names.items (c.trim.result ∷ [])
          ∙ (ap (λ fs. fs ++ c.trim.result.now ∷ []) c.loop-field.invariant.done ∙ (ap (λ f. map trimmed (take i fields) ++ f ∷ []) c.trim.ensures
          ∙ (sym (map-append trimmed (take i fields) (c.in-Some.field.now ∷ [])) ∙ (ap (map trimmed) (sym next) ∙ ap (λ n. map trimmed (take n fields)) (sym at))))));
    }

pub returns : goal.returns
returns c =
    let (row, found, at) = c.in-None.ensures.steps in
    let here = sym (found ∙ ap (λ (r : Row). field_at (fields_of r) c.loop-field.field-iterator.at) c.loop-field.invariant.same) in
    c.loop-field.invariant.done ∙ ap (map trimmed) (take_fields (fields_of c.args.row.now) c.loop-field.field-iterator.at here)
