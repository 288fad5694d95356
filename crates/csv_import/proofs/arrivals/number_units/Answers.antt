use Rattle.std.proofs.Common.{◌≡◌, ◌+◌, ◌++◌, [], ◌∷◌, ap, ap₂, append-nil, arith, drop, length, length-append, refl}
use Rattle.std.proofs.Common.{sym, ◌∙◌}
use Rattle.csv_import.proofs.Common.{drop_all, get_by_text, is_some, units_from}
use Rattle.csv_import.proofs.Arrived.{all_told, arrival_here, brings_none, brings_one, none_here, one_here}
use Rattle.csv_import.proofs.KnownUnits.{known_next, new_here, new_next}
use Rattle.csv_import.proofs.arrivals.number_units.Goals as goal
use Rattle.csv_import.proofs.arrivals.number_units.Goals.{in-Some+in_ok-push-in-Some}
use Rattle.csv_import.proofs.arrivals.number_units.Goals.{in-None+in_ok-remember-in-None+in_ok-push-in-None+in_ok-push-in-None-2}

pub returns-in_err-next-clause-faults : goal.returns-in_err-next-clause-faults
returns-in_err-next-clause-faults c =
    let great = c.in_err-next.ensures.great in
    absurd (omega (arith, c.len.ensures, c.loop-row.invariant.few, c.loop-row-test.true, c.args.import.now.few, great))

pub loop-row-preserved : goal.loop-row-preserved
loop-row-preserved c =
    let rows = c.args.import.now.rows.now in
    let numbers = get_by_text c.args.import.now.catalogued.now in
    let i = c.loop-row.row-index in
    let row = c.row-item.result in
    let low = c.loop-row-test.true in
    let invariant = c.loop-row.invariant in
    let few = invariant.few in
    let arrivals = c.loop-row.arrivals.items in
    let units = c.loop-row.units.items in
    let next = c.in_ok-next.next in
    let n = c.args.import.now.next + length arrivals in
    let is : next ≡ n = omega (arith, c.in_ok-next.ensures.same, c.len.ensures) in
    record {
      few = elim c.match-kept_number.branch [
        | in-Some+in_ok-push-in-Some w ↦ rw (w.arrivals-is) (omega (arith, few))
        | in-None+in_ok-remember-in-None+in_ok-push-in-None+in_ok-push-in-None-2 w ↦
            let grown = ap length w.in_ok-push-in-None.ensures.items in
            let longer = length-append arrivals (record { unit = next; parent = w.parent_of-parent.result } ∷ []) in
            rw (w.arrivals-is) (omega (arith, grown, longer, few))
      ];
      units = elim c.match-kept_number.branch [
        | in-Some+in_ok-push-in-Some w ↦
            rw (w.units-is, w.arrivals-is, w.in_ok-push-in-Some.ensures.items)
            (known_next numbers rows i n units low c.row-item.is c.kept_number.ensures invariant.units w.in-Some.is)
        | in-None+in_ok-remember-in-None+in_ok-push-in-None+in_ok-push-in-None-2 w ↦
            let longer = length-append arrivals (record { unit = next; parent = w.parent_of-parent.result } ∷ []) in
            rw (w.units-is, w.arrivals-is, w.in_ok-push-in-None.ensures.items, w.in_ok-push-in-None-2.ensures.items)
            (new_next numbers rows i n units low c.row-item.is c.kept_number.ensures invariant.units w.in-None.is
            ∙ ap₂ (λ m l. (units ++ m ∷ []) ++ units_from numbers l (drop (i + 1) rows)) (sym is) (omega (arith, longer)))
      ];
      so_far = λ k source knows.
          let before = invariant.so_far k source knows in
          elim c.match-kept_number.branch [
            | in-Some+in_ok-push-in-Some w ↦
                let so = arrival_here i knows low c.row-item.is is before (λ told parent above numbered.
                none_here k source row (c.kept_number.ensures ∙ told) next above w.in-Some.is) in
                rw (w.numbers-is, w.arrivals-is) (brings_none so.0 so.1)
            | in-None+in_ok-remember-in-None+in_ok-push-in-None+in_ok-push-in-None-2 w ↦
                let so = arrival_here i knows low c.row-item.is is before (λ told parent above numbered.
                let number = c.kept_number.ensures ∙ told in
                let new = new_here k source row number refl (ap is_some w.in-None.is) in
                let is_above = w.parent_of-parent.ensures.answers k source (parent new) next above numbered in
                one_here k source row number next above w.in-None.is is_above) in
                rw (w.numbers-is, w.arrivals-is, w.in_ok-push-in-None.ensures.items)
                (brings_one so.0 so.1 is w.in_ok-remember-in-None.ensures)
          ];
    }

pub returns-clause-units : goal.returns-clause-units
returns-clause-units c =
    let numbers = get_by_text c.args.import.now.catalogued.now in
    let units = c.loop-row.units.items in
    let n = c.args.import.now.next + length c.loop-row.arrivals.items in
    sym (c.loop-row.invariant.units ∙ (ap (λ l. units ++ units_from numbers n l)
    (drop_all c.loop-row.row-index c.args.import.now.rows.now (omega (arith, c.loop-row-test.false)))
    ∙ append-nil units))

pub returns-clause-arrivals : goal.returns-clause-arrivals
returns-clause-arrivals c k knows =
    all_told c.loop-row.row-index (c.loop-row.invariant.so_far k c.args.import.now.source.now knows)
    (omega (arith, c.loop-row-test.false))
