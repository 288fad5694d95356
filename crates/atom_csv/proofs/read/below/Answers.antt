use Rattle.std.proofs.Common.{◌∙◌, ◌++◌, ◌∷◌, [], List, Bool, sym, ap, refl, arith, map, append_assoc, length-append}
use Rattle.atom_csv.proofs.Common.{Bytes, fields_of, if◌then◌else◌, rows_left, trimmed, trimmed_fields}
use Rattle.atom_csv.proofs.read.below.Goals as goal

pub loop-row-init : goal.loop-row-init
loop-row-init c =
    let none = c.new-rows.ensures.none in
    record {
      reading = c.requires;
      few = omega arith;
      fits = omega arith;
      told = ([], refl, c.new-rows.ensures.told c.args.header.now, refl);
    }

pub loop-row-preserved : goal.loop-row-preserved
loop-row-preserved c =
    let (above, at, answers, split) = c.loop-row.invariant.told in
    let x = trimmed_fields c.take_record.new.row in
    let long = length-append above (x ∷ []) in
    let early = c.in_ok-add.ensures.early in
    let fits = c.in_ok-add.ensures.fits in
    let later = rows_left c.take_record.new.reader in
    let taken = c.in_ok-take_record.ensures.taken ∙ ap (λ (b : Bool). if b then fields_of c.take_record.new.row ∷ later else []) c.if-branch.true in
    record {
      reading = c.in_ok-take_record.ensures.reading c.if-branch.true;
      few = omega arith;
      fits = omega arith;
      told = (
        above ++ x ∷ [],
        omega arith,
        c.in_ok-add.ensures.told above at answers,
        split ∙ (ap (λ (rs : List (List Bytes)). above ++ map (map trimmed) rs) taken ∙ sym (append_assoc above (x ∷ []) (map (map trimmed) later))),
      );
    }
