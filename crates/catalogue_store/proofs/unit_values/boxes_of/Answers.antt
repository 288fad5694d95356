use Rattle.std.proofs.Common.{rules, ◌≡◌, ◌<◌, ℕ, List, [], ◌∷◌, ◌++◌, length, get_or, take, sym, ap, subst, ◌∙◌}
use Rattle.office_tables.specs.Schema as tables
use Rattle.office_tables.specs.declared.fault.StoreFault.TheVariants as fault
use Rattle.catalogue_store.proofs.Common.{BoxKey, Database, IsUnlimited, RepresentsContainers, box_number, cause_then}
use Rattle.catalogue_store.proofs.Common.{cut_after, early, get_or-map, get_or_default, length-map, looks_then}
use Rattle.catalogue_store.proofs.Common.{read_cut, read_not, same_fault, spares_full, state, still_unlimited}
use Rattle.catalogue_store.proofs.Common.{take_more}
use Rattle.catalogue_store.proofs.ValueCauses.{box_at}
use Rattle.catalogue_store.proofs.unit_values.boxes_of.Goals as goal

pub loop-number-preserved : goal.loop-number-preserved
loop-number-preserved g c =
    let b = state g.S.Store c.loop-number.tables in
    let i = c.loop-number.number-index in
    let key = c.in_ok-container_of.field-0 in
    let invariant = c.loop-number.invariant in
    let numbers = c.args.numbers.now in
    let item : c.number-item.result ≡ get_or numbers i 0 = c.number-item.is ∙ get_or_default numbers i c.number-item.result 0 c.loop-number-test.true in
    let found = rw item at c.in_ok-container_of.ensures in
    let last = found.reads.looks in (
      looks_then invariant.0 last,
      λ clean boxes at bs is.
          let before = early last.goes.on.crash clean in
          let there : RepresentsContainers b.now.trees boxes = ap (λ (db : Database). db.trees tables.container.tree) (invariant.0.same before) ∙ at in
          let low : i < length bs = subst (λ n. i < n) (ap length is ∙ length-map bs (box_number boxes)) c.loop-number-test.true in
          let number : get_or c.args.numbers.now i 0 ≡ box_number boxes (get_or bs i key) = ap (λ (l : List ℕ). get_or l i 0) is ∙ get_or-map (box_number boxes) bs i key 0 low in
          let same : key ≡ get_or bs i key = found.key clean boxes there (get_or bs i key) number in
          c.in_ok-push.ensures.ok ∙ ap (λ (l : List BoxKey). l ++ key ∷ []) (invariant.1 before boxes at bs is) ∙ ap (λ (x : BoxKey). take i bs ++ x ∷ []) same ∙ sym (take_more bs i key low),
    )

pub returns-in_err-container_of-clause-reads : goal.returns-in_err-container_of-clause-reads
returns-in_err-container_of-clause-reads g c =
    let b = state g.S.Store c.loop-number.tables in
    let d = state g.S.Store c.container_of.new.tables in
    read_cut (state g.S.Store c.args.tables.now) b d c.from_residual.result c.in_err-container_of.field-0.0 (same_fault c.from_residual.ensures)
    c.loop-number.invariant.0 c.in_err-container_of.ensures.reads.aborts c.in_err-container_of.ensures.reads.spares

pub returns-in_err-push-clause-reads : goal.returns-in_err-push-clause-reads
returns-in_err-push-clause-reads g c =
    let a = state g.S.Store c.args.tables.now in
    let d = state g.S.Store c.container_of.new.tables in
    let looked = looks_then c.loop-number.invariant.0 c.in_ok-container_of.ensures.reads.looks in
    read_not a d c.from_residual-in_err-push.result fault.Memory (same_fault c.from_residual-in_err-push.ensures) (cut_after looked.goes.on) (spares_full looked)

pub returns-in_err-container_of-clause-faults : goal.returns-in_err-container_of-clause-faults
returns-in_err-container_of-clause-faults g c boxes at legible bs known is clean free =
    let a = state g.S.Store c.args.tables.now in
    let b = state g.S.Store c.loop-number.tables in
    let looked = c.loop-number.invariant.0 in
    let before = early c.in_err-container_of.ensures.reads.aborts.crash clean in
    let free_b : IsUnlimited b = still_unlimited a b looked.goes.on free in
    let there : RepresentsContainers b.now.trees boxes = ap (λ (db : Database). db.trees tables.container.tree) (looked.same before) ∙ at in
    let box = box_at boxes bs c.args.numbers.now c.loop-number.number-index known is c.loop-number-test.true in
    let numbers = c.args.numbers.now in
    let i = c.loop-number.number-index in
    let item : c.number-item.result ≡ get_or numbers i 0 = c.number-item.is ∙ get_or_default numbers i c.number-item.result 0 c.loop-number-test.true in
    let why = c.in_err-container_of.ensures.faults boxes there legible box.0 box.1 (item ∙ box.2) clean free_b in
    let whole = cause_then a b (state g.S.Store c.container_of.new.tables) looked.goes.on before _ why in
    search (rules, whole)
