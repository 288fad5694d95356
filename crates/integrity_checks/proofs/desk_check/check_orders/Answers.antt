use Rattle.std.proofs.Common.{◌≡◌, false, not, List, Bool, map, ◌&&◌, sym, ap, subst, ◌∙◌}
use Rattle.desk_core.specs.declared.consistency.rows.OrderRow.{OrderRow}
use Rattle.office_tables.specs.Schema as tables
use Rattle.integrity_checks.proofs.Common.{AreOrdersOf, AreRead, and_parts, by_rowid, desk_in, or_parts, order_record}
use Rattle.integrity_checks.proofs.Common.{orders_are_bad, orders_are_defective, read_order, state}
use Rattle.integrity_checks.proofs.DeskDefects.{was_good, was_bad, bad_orders, sound_orders}
use Rattle.integrity_checks.proofs.ExaminationEnds.{examined, examined_last}
use Rattle.integrity_checks.proofs.JudgedTables.{orders_judged}
use Rattle.integrity_checks.proofs.desk_check.check_orders.Goals as goal
use Rattle.integrity_checks.proofs.desk_check.check_orders.Goals.{then-all, else-all}

pub returns-then-not-are_sound : goal.returns-then-not-are_sound
returns-then-not-are_sound g c = examined c.in_ok-all.ensures.reads.looks (λ clean a held.
    let old = state g.S.Store c.args.tables.now in
    let all = c.in_ok-all.all in
    let good = c.in_ok-are_good.are_good in
    let judged = orders_judged c.args.around.now a old.now.trees held (map order_record all.rows.items) all.are_read good (c.in_ok-all.ensures.answers clean)
    (λ b e around os. c.in_ok-are_good.ensures b e around (os ∙ ap (map order_record) (sym c.deref.ensures.value))) in
    let sound : c.if-all.are_sound ≡ not (orders_are_defective a old.now.trees) = elim c.if-all.branch [
      | then-all w ↦ w.are_sound-is ∙ ap (λ b. b && good) (sym w.if-all.true) ∙ judged
      | else-all w ↦ w.are_sound-is ∙ w.if-all.false ∙ ap (λ b. b && good) (sym w.if-all.false) ∙ judged
    ] in
    bad_orders a old.now.trees (was_bad c.if-all.are_sound (orders_are_defective a old.now.trees) sound c.if-not-are_sound.true))

pub returns : goal.returns
returns g c = examined_last c.in_ok-all.ensures.reads.looks c.check_past.ensures (λ clean told follows a held.
    let old = state g.S.Store c.args.tables.now in
    let all = c.in_ok-all.all in
    let good = c.in_ok-are_good.are_good in
    let judged = orders_judged c.args.around.now a old.now.trees held (map order_record all.rows.items) all.are_read good (c.in_ok-all.ensures.answers clean)
    (λ b e around os. c.in_ok-are_good.ensures b e around (os ∙ ap (map order_record) (sym c.deref.ensures.value))) in
    let is : c.if-all.are_sound ≡ (all.are_read && good) = elim c.if-all.branch [
      | then-all w ↦ w.are_sound-is ∙ ap (λ b. b && good) (sym w.if-all.true)
      | else-all w ↦ w.are_sound-is ∙ w.if-all.false ∙ ap (λ b. b && good) (sym w.if-all.false)
    ] in
    let read = (and_parts all.are_read good (sym is ∙ c.if-not-are_sound.false)).0 in
    let sound = was_good c.if-all.are_sound (orders_are_defective a old.now.trees) (is ∙ judged) c.if-not-are_sound.false in
    let are_all = subst (λ (b : Bool). AreRead by_rowid read_order (old.now.trees tables.orders.tree) (map order_record all.rows.items) b) read (c.in_ok-all.ensures.answers clean) in
    let are : AreOrdersOf old.now.trees (map order_record c.deref-2.result.now) =
    subst (λ (rows : List OrderRow). AreOrdersOf old.now.trees (map order_record rows)) (sym c.deref-2.ensures.value) are_all in
    let fine : orders_are_bad a (desk_in old.now.trees) ≡ false = (or_parts _ (orders_are_bad a (desk_in old.now.trees)) sound).1 in
    follows a held are fine ∙ sound_orders a old.now.trees sound)
