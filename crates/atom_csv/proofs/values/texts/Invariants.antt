use Rattle.std.proofs.Common.{◌≡◌, ◌+◌, ◌∷◌, length, map, take}
use Rattle.isad_core.specs.declared.element.Element.TheVariants as element
use Rattle.atom_csv.proofs.Common.{nonblank, text_in_columns, trimmed_fields}
use Rattle.atom_csv.proofs.values.texts.Given as goal

abbrev pub invariant-loop-i : goal.invariant-loop-i
invariant-loop-i l = record {
  long : length l.texts ≡ 25;
  done : take (l.i + 2) l.texts ≡ map (λ e. nonblank (text_in_columns l.header (trimmed_fields l.row) e)) (element.ReferenceCode ∷ element.Title ∷ take l.i l.element-items);
}
