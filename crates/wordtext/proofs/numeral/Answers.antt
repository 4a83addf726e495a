use Rattle.std.proofs.Common.{◌≡◌, ◌*◌, ◌+◌, true, ltb, get_or, arith}
use Rattle.std.proofs.lemmas.Grind.{common_steps}
use Rattle.wordtext.specs.Numbers.{digit_of}
use Rattle.wordtext.proofs.Numerals.{held, digit_more}
use Rattle.wordtext.proofs.numeral.Goals as goal

pub loop-byte-preserved : goal.loop-byte-preserved
loop-byte-preserved c =
    let is : ltb (digit_of (get_or c.args.digits.now c.loop-byte.byte-index 0)) c.args.base ≡ true = grind (arith, common_steps) in
    let worth : c.in_ok-digit.digit ≡ digit_of (get_or c.args.digits.now c.loop-byte.byte-index 0) = grind (arith, common_steps) in
    let more : c.min-value.result ≡ held (c.loop-byte.value * c.args.base + c.in_ok-digit.digit) = rw (c.from.ensures, c.from-in-loop-byte.ensures) at c.min-value.ensures in
    let next =
    digit_more c.args.base c.args.digits.now c.loop-byte.byte-index c.in_ok-digit.digit c.loop-byte.value c.min-value.result (omega arith)
    c.loop-byte-test.true is worth c.loop-byte.invariant.only c.loop-byte.invariant.number more in
    record { only = next.0; number = next.1 }
