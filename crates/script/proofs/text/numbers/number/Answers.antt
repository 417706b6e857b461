use Rattle.std.proofs.Common.{rules, arith, ap, get_or}
use Rattle.std.specs.Char.{digit_value}
use Rattle.script.proofs.Digits.{one_more, no_digit, too_large, all_read}
use Rattle.script.proofs.text.numbers.number.Goals as goal

pub returns-in_err-digit : goal.returns-in_err-digit
returns-in_err-digit c =
    let l = c.loop-byte in
    let refused = no_digit c.args.base c.args.digits.now l.byte-index l.number l.invariant.1 (omega arith) in
    search rules

pub returns-in_err-checked_mul : goal.returns-in_err-checked_mul
returns-in_err-checked_mul c =
    let l = c.loop-byte in
    let refused = too_large c.args.base c.args.digits.now l.byte-index l.number l.invariant.1 (omega arith) (omega arith) (omega (arith, c.in_err-checked_mul.ensures)) in
    search rules

pub returns-in_err-number : goal.returns-in_err-number
returns-in_err-number c =
    let l = c.loop-byte in
    let same = ap (λ bytes. digit_value (get_or bytes l.byte-index 0)) c.as_bytes-byte-items.ensures.value in
    let refused = too_large c.args.base c.args.digits.now l.byte-index l.number l.invariant.1 (omega arith) (omega arith) (omega (arith, same, c.in_ok-digit.ensures.value, c.in_ok-checked_mul.ensures, c.in_err-number.ensures)) in
    search rules

pub loop-byte-preserved : goal.loop-byte-preserved
loop-byte-preserved c =
    let l = c.loop-byte in
    let same = ap (λ bytes. digit_value (get_or bytes l.byte-index 0)) c.as_bytes-byte-items.ensures.value in
    let digit = c.in_ok-digit.ensures.value in
    let more = one_more c.args.base c.args.digits.now l.byte-index l.number l.invariant.1 (omega arith) c.in_ok-number.number (omega (arith, same, digit.0)) (omega (arith, same, digit.1, c.in_ok-checked_mul.ensures, c.in_ok-number.ensures)) in
    search rules

pub returns : goal.returns
returns c =
    let l = c.loop-byte in
    let all = all_read c.args.base c.args.digits.now l.byte-index l.number l.invariant.1 (omega arith) in
    search rules
