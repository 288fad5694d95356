use Rattle.std.proofs.Common.{Option, sym, ap, ◌∙◌}
use Rattle.desk_core.proofs.UnknownContainers.{nothing_found}
use Rattle.desk_store.specs.declared.queues.ContainerQueue.{ContainerQueue}
use Rattle.office_core.specs.declared.query.Query.TheVariants as query
use Rattle.desk_queries.proofs.Common.{Json, Unknown, UnknownContainer, answers_by, answers_passed, known_json}
use Rattle.desk_queries.proofs.Common.{legible_storage, option_map, queue_data, shows_storage, state, storage_of}
use Rattle.desk_queries.proofs.QueueTold.{queue_answer}
use Rattle.desk_queries.proofs.queues.queue.Goals as goal

pub returns-in_err-found : goal.returns-in_err-found
returns-in_err-found g c =
    let v = g.P.Versioned.version in
    let told = c.in_err-found.ensures.answers in
    answers_passed _ c.from_residual.ensures told.aborts
    (λ s sound it. told.faults tt (storage_of v s) (shows_storage v s g.P.Places.represents (state g.S.Store c.args.tables.now).now sound it) tt (legible_storage v s sound))

pub returns-in-Err : goal.returns-in-Err
returns-in-Err g c =
    let v = g.P.Versioned.version in
    let a = state g.S.Store c.args.tables.now in
    let told = c.in_ok-found.ensures.answers in
    let none = nothing_found c.in_ok-found.found c.in-Err.why c.in-Err.ensures.refused in
    answers_by g.P.Places.represents v (query.Queue c.args.container) a (state g.S.Store c.queue.new.tables) (Unknown c.in-Err.why) told.looks
    (λ clean s sound it.
    ap Unknown none.1
    ∙ ap (λ (q : Option ContainerQueue). known_json UnknownContainer (option_map (queue_data c.args.container) q)) (sym none.0)
    ∙ queue_answer v s sound c.args.container c.in_ok-found.found (told.answers clean tt (storage_of v s) (shows_storage v s g.P.Places.represents a.now sound it)))

pub returns : goal.returns
returns g c =
    let v = g.P.Versioned.version in
    let a = state g.S.Store c.args.tables.now in
    let told = c.in_ok-found.ensures.answers in
    answers_by g.P.Places.represents v (query.Queue c.args.container) a (state g.S.Store c.queue.new.tables) (Json c.in_ok-text.text) told.looks
    (λ clean s sound it.
    ap Json (rw c.get.ensures.same at c.in_ok-text.ensures)
    ∙ ap (λ (q : Option ContainerQueue). known_json UnknownContainer (option_map (queue_data c.args.container) q)) (sym c.in-Ok.ensures.found)
    ∙ queue_answer v s sound c.args.container c.in_ok-found.found (told.answers clean tt (storage_of v s) (shows_storage v s g.P.Places.represents a.now sound it)))
