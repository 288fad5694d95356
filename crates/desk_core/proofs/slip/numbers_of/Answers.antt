use Rattle.std.proofs.Common.{◌≡◌, ◌^◌, ◌<◌, IfOk, List, ℕ, ap, ◌∙◌, subst, rules}
use Rattle.std.specs.String.{string_bytes}
use Rattle.desk_core.proofs.Common.{styled_decimal}
use Rattle.desk_core.proofs.SlipLemmas.{columns, slip_numbers-is, styled_decimal-at_right}
use Rattle.desk_core.proofs.slip.numbers_of.Goals as goal

pub returns : goal.returns
returns c =
    let of = c.args.candidate.now in
    let small_container : of.container < 2 ^ 64 = search rules in
    let small_order : of.order < 2 ^ 64 = search rules in
    let small_ticket : of.ticket < 2 ^ 64 = search rules in
    let Writes : List ℕ → Type 0 = λ text. IfOk c.format.result (λ line. string_bytes line ≡ text) in
    let written : Writes (columns (styled_decimal c.laid_out.result of.container) (styled_decimal c.laid_out-2.result of.order) (styled_decimal c.laid_out-3.result of.ticket)) = c.format.ensures.ok in
    let container-is = ap (λ spec. styled_decimal spec of.container) c.laid_out.ensures ∙ styled_decimal-at_right of.container 6 small_container in
    let order-is = ap (λ spec. styled_decimal spec of.order) c.laid_out-2.ensures ∙ styled_decimal-at_right of.order 8 small_order in
    let ticket-is = ap (λ spec. styled_decimal spec of.ticket) c.laid_out-3.ensures ∙ styled_decimal-at_right of.ticket 7 small_ticket in
    subst Writes ((λ i. columns (container-is i) (order-is i) (ticket-is i)) ∙ slip_numbers-is of) written
