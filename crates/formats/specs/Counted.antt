-- The counted format.
use Rattle.std.specs.Prelude.{ℕ, ◌+◌, ◌-◌, ◌*◌, ◌/◌, ◌%◌, cond, ◌&&◌, ◌==◌, nat_le, nat_lt}
use Rattle.format.specs.declared.things.Shape.{Shape}
use Rattle.format.specs.declared.things.Head.{Head}
use Rattle.format.specs.declared.things.Head.TheVariants.{Nothing, Object, Forwarded, Padding}
use Rattle.format.specs.declared.things.Slot.{Slot}
use Rattle.format.specs.declared.things.Slot.TheVariants.{Reference, Number}
use Rattle.format.specs.declared.things.Kind.TheVariants.{References, Numbers}
use Rattle.format.specs.Meaning.{Meaning, shape}
use Rattle.format.specs.Words.{Coding, coded}

-- bits 2 to 10
abbrev pub counted_size : ℕ → ℕ
counted_size w = w / 4 % 512

-- An object: layout in bits 11 to 17, bits 18 to 31 unused. Its words are the header and n slots.
abbrev pub counted_object : ℕ → Head
counted_object w = cond (nat_le 1 (counted_size w) && (nat_le (counted_size w) 128 && nat_lt (w / 2048) 128)) (Object (shape (w / 2048) (counted_size w - 1))) Nothing

-- Forwarded: the new address in bits 16 to 31, bits 11 to 15 unused.
abbrev pub counted_forwarded : ℕ → Head
counted_forwarded w = cond (w / 2048 % 32 == 0) (Forwarded (counted_size w) (w / 65536)) Nothing

-- Padding: bits 11 to 31 unused.
abbrev pub counted_padding : ℕ → Head
counted_padding w = cond (w / 2048 == 0) (Padding (counted_size w)) Nothing

-- Bits 0 and 1: 1 object, 2 forwarded, 3 padding, 0 nothing.
abbrev pub counted_head : ℕ → Head
counted_head w = cond (w % 4 == 1) (counted_object w) (cond (w % 4 == 2) (counted_forwarded w) (cond (w % 4 == 3) (counted_padding w) Nothing))

-- The first slots, as many as the layout says, are references, the rest numbers, written as they are.
abbrev pub counted_slot : Shape → ℕ → ℕ → Slot
counted_slot s i w = cond (nat_lt i s.layout) (Reference w) (Number w)

abbrev pub counted_word : Slot → ℕ
counted_word (Reference a) = a
counted_word (Number v) = v

abbrev pub counted_coding : Coding
counted_coding = record {
  greatest_number = 4294967295;
  admits = λ s. nat_le s.layout s.n && nat_le s.n 127;
  kind = λ s i. cond (nat_lt i s.layout) References Numbers;
  head_of = counted_head;
  object_header = λ s. 1 + 4 * (s.n + 1) + 2048 * s.layout;
  forwarded_header = λ k to. 2 + 4 * (k % 512) + 65536 * (to % 65536);
  padding_header = λ k. 3 + 4 * (k % 512);
  slot_of = counted_slot;
  word_of = counted_word;
}

abbrev pub counted : Meaning
counted = coded counted_coding
