use Rattle.std.proofs.Common.{◌≡◌, ◌+◌, ◌<◌, min, take, length, get_or, arith, ◌∙◌}
use Rattle.std.proofs.lemmas.List.Sums.{AllPass-from_list_all}
use Rattle.http_messages.proofs.Common.{digit_value, digits_value, digits_value_more, is_ascii_digit, longest_body}
use Rattle.http_messages.proofs.Numbers.{digit_is, digit_from, capped_more}
use Rattle.http_messages.proofs.head_verdict.capped_number.Goals as goal

pub overflow_sub-digit : goal.overflow_sub-digit
overflow_sub-digit c =
    let i = c.loop-digit.digit-index in
    let h : i < length c.args.digits.now = omega arith in
    digit_from _ (AllPass-from_list_all is_ascii_digit c.args.digits.now c.requires i 0 h)

pub loop-digit-preserved : goal.loop-digit-preserved
loop-digit-preserved c =
    let i = c.loop-digit.digit-index in
    let ds = c.args.digits.now in
    let h : i < length ds = omega arith in
    let e = digits_value_more 10 ds i h in
    let v : c.loop-digit.value ≡ min (digits_value 10 (take i ds)) (longest_body + 1) = c.loop-digit.invariant in
    c.min-value.ensures ∙ capped_more _ _ (digits_value 10 (take (i + 1) ds)) (digit_value (get_or ds i 0)) (get_or ds i 0) v e (digit_is (get_or ds i 0) (AllPass-from_list_all is_ascii_digit ds c.requires i 0 h))
