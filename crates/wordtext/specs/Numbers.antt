-- The number that one piece of text writes.
use Rattle.std.specs.Prelude.{ℕ, codes, ◌-◌, ◌^◌, Bool, true, cond, ◌&&◌, List, [], ◌∷◌, map, drop, Ok, Err, Result, ◌==◌, nat_le, nat_lt, slice_index}
use Rattle.std.specs.Int.Digits.{number_from_digits}
use Rattle.wordtext.specs.declared.Problem.{Problem}
use Rattle.wordtext.specs.declared.Problem.TheVariants.{NotANumber, TooLarge}

abbrev between : ℕ → ℕ → ℕ → Bool
between low high b = nat_le low b && nat_le b high

-- what a byte is worth as a digit: `0` to `9` zero to nine, `a` to `f` and `A` to `F` ten to fifteen, and any other byte sixteen, which is a digit in neither base
abbrev pub digit_of : ℕ → ℕ
digit_of b = cond (between 48 57 b) (b - 48) (cond (between 97 102 b) (b - 87) (cond (between 65 70 b) (b - 55) 16))

-- each byte is a digit below the base
abbrev pub digits_only : ℕ → List ℕ → Bool
digits_only base [] = true
digits_only base (b ∷ bs) = nat_lt (digit_of b) base && digits_only base bs

-- a word has 32 bits
abbrev pub in_a_word : ℕ → Result ℕ Problem
in_a_word n = cond (nat_lt n (2 ^ 32)) (Ok n) (Err TooLarge)

-- one byte or more, each a digit of the base, the highest first; leading zeros count for nothing
abbrev pub numeral_value : ℕ → List ℕ → Result ℕ Problem
numeral_value base [] = Err NotANumber
numeral_value base (b ∷ bs) = cond (digits_only base (b ∷ bs)) (in_a_word (number_from_digits base (map digit_of (b ∷ bs)))) (Err NotANumber)

-- the piece begins with `0x`
abbrev pub hexadecimal : List ℕ → Bool
hexadecimal piece = slice_index piece 0 == 48 && slice_index piece 1 == 120

-- hexadecimal digits after `0x`, or else decimal digits
abbrev pub value_of : List ℕ → Result ℕ Problem
value_of piece = cond (hexadecimal piece) (numeral_value 16 (drop 2 piece)) (numeral_value 10 piece)

-- a problem as it is printed
abbrev pub problem_text : Problem → List ℕ
problem_text NotANumber = codes "not a number; write it in decimal, or in hexadecimal after 0x"
problem_text TooLarge = codes "the number does not fit 32 bits"
