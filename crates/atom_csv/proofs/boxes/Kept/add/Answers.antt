use Rattle.std.proofs.Common.{◌∙◌, sym}
use Rattle.atom_csv.proofs.Common.{box_with}
use Rattle.atom_csv.proofs.BoxLemmas.{holds_added, holds_blank, holds_known}
use Rattle.atom_csv.proofs.boxes.Kept.add.Goals as goal

pub returns-then-is_empty : goal.returns-then-is_empty
returns-then-is_empty c = λ told h.
    holds_blank c.args.self.now.known c.args.self.now.boxes told (box_with c.args.name.now c.args.location.now c.args.kind.now) (sym c.is_empty.ensures ∙ c.if-is_empty.true) h

pub returns-then-not-branch : goal.returns-then-not-branch
returns-then-not-branch c = λ told h.
    holds_known c.args.self.now.known c.keep.new.known c.args.self.now.boxes told (box_with c.args.name.now c.args.location.now c.args.kind.now) _
    (sym c.is_empty.ensures ∙ c.if-is_empty.false) c.in_ok-keep.ensures.kept c.in_ok-keep.ensures.new c.if-not-branch.true h

pub returns : goal.returns
returns c = λ told h.
    holds_added c.args.self.now.known c.keep.new.known c.args.self.now.boxes c.push.new.self told (box_with c.args.name.now c.args.location.now c.args.kind.now) c.in_ok-box_key.field-0 _
    (sym c.is_empty.ensures ∙ c.if-is_empty.false) c.in_ok-keep.ensures.kept c.in_ok-keep.ensures.new c.if-not-branch.false c.in_ok-box_key.ensures c.in_ok-push.ensures.ok h
