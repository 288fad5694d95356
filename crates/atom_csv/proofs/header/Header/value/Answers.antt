use Rattle.std.proofs.Common.{◌≡◌, ◌∙◌, ◌<◌, sym, ap, subst, length, arith, Option, ℕ, List}
use Rattle.atom_csv.proofs.Common.{Column, Fields, borrowed_fields, column_index, column_indices, column_name}
use Rattle.atom_csv.proofs.Common.{field_at_place, tag_of, the_type, trimmed_fields, value}
use Rattle.atom_csv.proofs.ColumnLemmas.{place_within}
use Rattle.atom_csv.proofs.FieldLemmas.{value_at}
use Rattle.atom_csv.proofs.header.Header.value.Goals as goal

pub index-requires : goal.index-requires
index-requires c =
    let header = borrowed_fields c.self.inside.names.items in
    let is : c.self.inside.places.items ≡ column_indices header = c.self.invariant in
    let within : tag_of the_type c.args.column < length c.self.inside.places.items = subst (λ (ps : List (Option ℕ)). tag_of the_type c.args.column < length ps) (sym is) (place_within (λ (k : Column). column_index (column_name k) header) c.args.column) in
    omega (arith, c.self.inside.places.ok.0)

pub returns : goal.returns
returns c =
    let header = borrowed_fields c.self.inside.names.items in
    let fields = trimmed_fields c.args.row.now in
    let is : c.self.inside.places.items ≡ column_indices header = c.self.invariant in
    c.field_at.ensures ∙ (ap (λ (o : Option ℕ). field_at_place o fields) c.index.ensures
    ∙ (value_at c.args.column header fields c.self.inside.places.items _ is ∙ ap (λ (h : Fields). value c.args.column h fields) c.self.view_is))
