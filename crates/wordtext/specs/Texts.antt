-- The words of a text.
use Rattle.std.specs.Prelude.{◌≡◌, ℕ, ◌+◌, ◌^◌, ◌<◌, Bool, false, cond, not, ◌&&◌, ◌||◌, List, [], ◌∷◌, ◌++◌, length, take, drop, Ok, Err, vec_items, decimal, Result, Vec, ◌==◌, nat_le}
use Rattle.std.specs.List.{flat_map, prefix_len, AllByRecursion}
use Rattle.std.specs.declared.alloc.Global.{Global}
use Rattle.wordtext.specs.declared.Failure.{Failure}
use Rattle.wordtext.specs.declared.Failure.TheVariants.{Bad, NoMemory}
use Rattle.wordtext.specs.declared.Fault.{Fault}
use Rattle.wordtext.specs.declared.Problem.{Problem}
use Rattle.wordtext.specs.Numbers.{value_of}

-- tab, line feed, vertical tab, form feed, carriage return, and space
abbrev pub white : ℕ → Bool
white b = (nat_le 9 b && nat_le b 13) || b == 32

abbrev pub dark : ℕ → Bool
dark b = not (white b)

-- bytes without white space, and the place of the first
pub record Piece : Type 0 where
  pub place : ℕ
  pub bytes : List ℕ

-- a byte belongs to the piece that begins right after it, and is a piece by itself where none does
abbrev pub with_byte : ℕ → ℕ → List Piece → List Piece
with_byte place b [] = record { place = place; bytes = b ∷ [] } ∷ []
with_byte place b (p ∷ ps) =
    cond (p.place == place + 1)
    (record { place = place; bytes = b ∷ p.bytes } ∷ ps)
    (record { place = place; bytes = b ∷ [] } ∷ p ∷ ps)

-- the longest stretches without white space, of bytes whose first stands at the place
abbrev pub pieces : ℕ → List ℕ → List Piece
pieces place [] = []
pieces place (b ∷ bs) = cond (white b) (pieces (place + 1) bs) (with_byte place b (pieces (place + 1) bs))

-- the piece that has no value, from its first byte to the place after its last
abbrev pub fault : Problem → Piece → Fault
fault problem p = record { problem = problem; from = p.place; end = p.place + length p.bytes }

-- words, and then what the rest of the text gives
abbrev pub after_words : List ℕ → Result (List ℕ) Fault → Result (List ℕ) Fault
after_words ws (Ok more) = Ok (ws ++ more)
after_words ws (Err f) = Err f

-- the value of a piece, and then what the rest of the text gives
abbrev pub after_piece : Piece → Result ℕ Problem → Result (List ℕ) Fault → Result (List ℕ) Fault
after_piece p (Ok w) rest = after_words (w ∷ []) rest
after_piece p (Err problem) rest = Err (fault problem p)

-- the value of each piece, or the first piece that has none
abbrev pub values : List Piece → Result (List ℕ) Fault
values [] = Ok []
values (p ∷ ps) = after_piece p (value_of p.bytes) (values ps)

-- the words of the text from the place `start` on, none where it is past the end
abbrev pub words_of : List ℕ → ℕ → Result (List ℕ) Fault
words_of text start = values (pieces start (drop start text))

-- what the reader answers: the words, or the first piece that is none; it may also find no memory, which says nothing of the text
abbrev pub Parsed : List ℕ → ℕ → Result (Vec ℕ Global) Failure → Type 0
Parsed text start (Ok v) = words_of text start ≡ Ok (vec_items v)
Parsed text start (Err (Bad f)) = words_of text start ≡ Err f
Parsed text start (Err NoMemory) = Unit {0}

-- a piece that begins with b goes on to the next white space, and the other pieces are those after it
abbrev pub Longest : Type 0
Longest =
    (place b : ℕ) (bs : List ℕ) → white b ≡ false
    → pieces place (b ∷ bs)
    ≡ record { place = place; bytes = b ∷ take (prefix_len dark bs) bs } ∷ pieces (place + 1 + prefix_len dark bs) (drop (prefix_len dark bs) bs)

-- each word in decimal, with a space after it
abbrev pub line_of_words : List ℕ → List ℕ
line_of_words ws = flat_map (λ w. decimal w ++ 32 ∷ []) ws

-- words that are written so are read back as they were
abbrev pub ReadsBack : Type 0
ReadsBack = (ws : List ℕ) → AllByRecursion (λ w. w < 2 ^ 32) ws → words_of (line_of_words ws) 0 ≡ Ok ws
