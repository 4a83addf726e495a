-- Boards: a bit for each word of the arena.
use Rattle.std.specs.Prelude.{◌≡◌, ℕ, zero, suc, ◌+◌, ◌-◌, ◌*◌, ◌/◌, ◌%◌, ◌^◌, ◌<◌, ◌≤◌, min, Bool, true, false, cond, ◌≢◌, List, length, take, Some, None, sum_by, Option, ◌==◌, bit_and, bit_or, count_ones, slice_index, slice_set}

-- bit n of a word
abbrev pub bit_of : ℕ → ℕ → Bool
bit_of w n = w / 2 ^ n % 2 == 1

-- The bit of the word at a is bit a % 32 of the board's word a / 32.
abbrev pub bit : List ℕ → ℕ → Bool
bit b a = bit_of (slice_index b (a / 32)) (a % 32)

abbrev pub with_bit : List ℕ → ℕ → List ℕ
with_bit b a = slice_set b (a / 32) (bit_or (slice_index b (a / 32)) (2 ^ (a % 32)))

abbrev pub without_bit : List ℕ → ℕ → List ℕ
without_bit b a = slice_set b (a / 32) (bit_and (slice_index b (a / 32)) (2 ^ 32 - 1 - 2 ^ (a % 32)))

-- A board is at most 2,048 words: what lies past them is no part of it.
abbrev pub reach : List ℕ → ℕ
reach b = 32 * min (length b) 2048

-- the lowest set bit among the k from a on
abbrev pub lowest_in : ℕ → List ℕ → ℕ → Option ℕ
lowest_in zero b a = None
lowest_in (suc k) b a = cond (bit b a) (Some a) (lowest_in k b (a + 1))

abbrev pub lowest_bit : List ℕ → ℕ → Option ℕ
lowest_bit b a = lowest_in (reach b - a) b a

-- the number of set bits, word by word
abbrev pub ones_of : List ℕ → ℕ
ones_of b = sum_by count_ones (take 2048 b)

-- what r says of the bits from a on: none is set, or r is the lowest that is
abbrev pub Lowest : List ℕ → ℕ → Option ℕ → Type 0
Lowest b a None = (k : ℕ) → a ≤ k → k < reach b → bit b k ≡ false
Lowest b a (Some r) = (a ≤ r) × (r < reach b) × (bit b r ≡ true) × ((k : ℕ) → a ≤ k → k < r → bit b k ≡ false)

-- of the words from a up to an end: all are 0, or r is the first that is not
abbrev pub FirstWord : List ℕ → ℕ → ℕ → Option ℕ → Type 0
FirstWord b a end None = (k : ℕ) → a ≤ k → k < end → slice_index b k ≡ 0
FirstWord b a end (Some r) = (a ≤ r) × (r < end) × (slice_index b r ≢ 0) × ((k : ℕ) → a ≤ k → k < r → slice_index b k ≡ 0)

abbrev pub Words : List ℕ → Type 0
Words b = (i : ℕ) → slice_index b i < 2 ^ 32

-- A bit after it was set or cleared, and after another one was; how many are set then; the lowest.
pub record LawsOf (b : List ℕ) : Type 0 where
  pub set_same : (a : ℕ) → a < reach b → bit (with_bit b a) a ≡ true
  pub set_other : (a k : ℕ) → k ≢ a → bit (with_bit b a) k ≡ bit b k
  pub cleared_same : (a : ℕ) → bit (without_bit b a) a ≡ false
  pub cleared_other : (a k : ℕ) → k ≢ a → bit (without_bit b a) k ≡ bit b k
  pub count_set : (a : ℕ) → a < reach b → bit b a ≡ false → ones_of (with_bit b a) ≡ ones_of b + 1
  pub lowest : (a : ℕ) → Lowest b a (lowest_bit b a)

abbrev pub BoardLaws : Type 0
BoardLaws = (b : List ℕ) → Words b → LawsOf b
