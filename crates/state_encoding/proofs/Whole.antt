-- The rows of a sound state say that state.
use Rattle.std.proofs.Common.{◌≡◌, ap, ◌∙◌}
use Rattle.state_encoding.proofs.Common.{IsSound, State, Version, state_of, tables}
use Rattle.state_encoding.proofs.ReadBack.{says_all_but_units}
use Rattle.state_encoding.proofs.UnitRows.{units_back}

pub says_the_state : (version : Version) (s : State) → IsSound s → state_of (tables version s) ≡ s
says_the_state version s g =
    let t : State = state_of (tables version s) in
    let r = says_all_but_units version s g.desk in
    let u = units_back version s g.units.ids g.units.each in
    ap (λ x. record t { catalogue = record t.catalogue { forest = x } }) u
    ∙ (ap (λ x. record t { catalogue = record t.catalogue { forest = s.catalogue.forest; containers = x } }) r.boxes
    ∙ (ap (λ x. record t { catalogue = s.catalogue; readers = x }) r.readers
    ∙ (ap (λ x. record t { catalogue = s.catalogue; readers = s.readers; seats = x }) r.seats
    ∙ (ap (λ x. record t { catalogue = s.catalogue; readers = s.readers; seats = s.seats; orders = x }) r.orders
    ∙ (ap (λ x. record t { catalogue = s.catalogue; readers = s.readers; seats = s.seats; orders = s.orders; runs = x }) r.runs
    ∙ (ap (λ x. record t { catalogue = s.catalogue; readers = s.readers; seats = s.seats; orders = s.orders; runs = s.runs; place = x }) r.places
    ∙ (ap (λ x. record t { catalogue = s.catalogue; readers = s.readers; seats = s.seats; orders = s.orders; runs = s.runs; place = s.place; queue = x }) r.queues
    ∙ (ap (λ x. record t { catalogue = s.catalogue; readers = s.readers; seats = s.seats; orders = s.orders; runs = s.runs; place = s.place; queue = s.queue; past = x }) r.past
    ∙ ap (λ x. record t { catalogue = s.catalogue; readers = s.readers; seats = s.seats; orders = s.orders; runs = s.runs; place = s.place; queue = s.queue; past = s.past; permits = x }) r.permits))))))))
