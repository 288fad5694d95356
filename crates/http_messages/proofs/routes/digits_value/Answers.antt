use Rattle.std.proofs.Common.{◌≡◌, ◌<◌, ◌+◌, ◌*◌, ◌-◌, length, get_or, arith, sym, ◌∙◌}
use Rattle.std.proofs.lemmas.List.Sums.{AllPass-from_list_all}
use Rattle.http_messages.proofs.Common.{digit_value, digits_more, digits_value_more, is_ascii_digit}
use Rattle.http_messages.proofs.Numbers.{small_value, digit_is, digit_below}
use Rattle.http_messages.proofs.routes.digits_value.Goals as goal

pub overflow_mul-value : goal.overflow_mul-value
overflow_mul-value c =
    let h : c.loop-digit.digit-index < length c.args.digits.now = omega arith in
    let small = small_value c.args.digits.now c.loop-digit.digit-index h c.requires.short c.loop-digit.invariant.digits in
    omega (arith, small, c.loop-digit.invariant.value)

pub overflow_add-value : goal.overflow_add-value
overflow_add-value c =
    let h : c.loop-digit.digit-index < length c.args.digits.now = omega arith in
    let small = small_value c.args.digits.now c.loop-digit.digit-index h c.requires.short c.loop-digit.invariant.digits in
    let passes = AllPass-from_list_all is_ascii_digit c.args.digits.now c.requires.all c.loop-digit.digit-index 0 h in
    let b = get_or c.args.digits.now c.loop-digit.digit-index 0 in
    let d : digit_value b ≡ b - 48 = digit_is b passes in
    let below : digit_value b < 10 = digit_below b passes in
    omega (arith, small, c.loop-digit.invariant.value, below)

pub loop-digit-preserved : goal.loop-digit-preserved
loop-digit-preserved c =
    let i = c.loop-digit.digit-index in
    let ds = c.args.digits.now in
    let h : i < length ds = omega arith in
    let passes = AllPass-from_list_all is_ascii_digit ds c.requires.all i 0 h in
    record {
      value = (λ j. c.loop-digit.invariant.value j * 10 + sym (digit_is (get_or ds i 0) passes) j) ∙ sym (digits_value_more 10 ds i h);
      digits = digits_more 10 ds i h c.loop-digit.invariant.digits (digit_below (get_or ds i 0) passes);
    }
