use Rattle.std.proofs.Common.{rules, ◌≡◌, ℕ, map, ap, sym, ◌∙◌}
use Rattle.catalogue_statements.proofs.CellReads.{cells_read, housings_in_order, numbers_told}
use Rattle.catalogue_statements.specs.declared.row_types.Housing.{Housing}
use Rattle.catalogue_store.proofs.Common.{HousingRow, housing_cell, map-map, numbered_containers}
use Rattle.catalogue_store.proofs.unit_values.containers_of.Goals as goal

pub returns-clause-numbers : goal.returns-clause-numbers
returns-clause-numbers g c clean xs stored boxes values tell =
    let got = c.in_ok-found.ensures.answers clean xs stored tt in
    let cells = cells_read (λ (h : HousingRow). h.unit) housing_cell c.args.unit (numbered_containers boxes values) xs got.0 (housings_in_order boxes values) tell got.1.0 got.1.1 in
    let second = λ (c : ℕ × ℕ). c.1 in
    let read = λ (h : HousingRow). (let x : Housing = record { ord = h.ord; container = h.container } in x) in
    let all : map (λ (h : Housing). h.container) c.in_ok-found.found.items ≡ map second (map housing_cell got.0) =
    ap (map (λ (h : Housing). h.container)) got.2 ∙ map-map (λ (h : Housing). h.container) read got.0 ∙ sym (map-map second housing_cell got.0) in
    c.in_ok-numbers_in.ensures ∙ ap (map (λ (h : Housing). h.container)) c.deref.ensures.value ∙ all ∙ ap (map second) cells ∙ numbers_told boxes values

pub returns-in_err-found-clause-faults : goal.returns-in_err-found-clause-faults
returns-in_err-found-clause-faults g c xs at clean free =
    let why = c.in_err-found.ensures.faults xs at tt clean free in
    search (rules, why)
