use Rattle.std.proofs.Common.{◌≡◌, true, map, take}
use Rattle.std.specs.Int.Digits.{number_from_digits}
use Rattle.wordtext.specs.Numbers.{digit_of, digits_only}
use Rattle.wordtext.proofs.Numerals.{held}
use Rattle.wordtext.proofs.numeral.Given as goal

-- what was read are digits, and `value` is their number, held at the limit
abbrev pub invariant-loop-byte : goal.invariant-loop-byte
invariant-loop-byte l =
    record {
      only : digits_only l.base (take l.byte-index l.digits) ≡ true;
      number : l.value ≡ held (number_from_digits l.base (map digit_of (take l.byte-index l.digits)));
    }
