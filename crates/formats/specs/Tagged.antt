-- The tagged format.
use Rattle.std.specs.Prelude.{ℕ, ◌+◌, ◌-◌, ◌*◌, ◌/◌, ◌%◌, cond, ◌&&◌, ◌==◌, nat_le}
use Rattle.format.specs.declared.things.Shape.{Shape}
use Rattle.format.specs.declared.things.Head.{Head}
use Rattle.format.specs.declared.things.Head.TheVariants.{Nothing, Object, Forwarded, Padding}
use Rattle.format.specs.declared.things.Slot.{Slot}
use Rattle.format.specs.declared.things.Slot.TheVariants.{Reference, Number}
use Rattle.format.specs.declared.things.Kind.TheVariants.{Both}
use Rattle.format.specs.Meaning.{Meaning, shape}
use Rattle.format.specs.Words.{Coding, coded}

-- bits 16 to 24
abbrev pub tagged_size : ℕ → ℕ
tagged_size w = w / 65536 % 512

-- An object: bits 0 to 15 unused. Its words are the header and n slots.
abbrev pub tagged_object : ℕ → Head
tagged_object w = cond (nat_le 1 (tagged_size w) && (nat_le (tagged_size w) 128 && w % 65536 == 0)) (Object (shape 0 (tagged_size w - 1))) Nothing

-- Padding: bits 0 to 15 unused.
abbrev pub tagged_padding : ℕ → Head
tagged_padding w = cond (w % 65536 == 0) (Padding (tagged_size w)) Nothing

-- Bits 30 and 31: 1 object, 2 forwarded (to the address in bits 0 to 15), 3 padding, 0 nothing.
abbrev pub tagged_thing : ℕ → Head
tagged_thing w = cond (w / 0x4000_0000 == 1) (tagged_object w) (cond (w / 0x4000_0000 == 2) (Forwarded (tagged_size w) (w % 65536)) (cond (w / 0x4000_0000 == 3) (tagged_padding w) Nothing))

-- Bits 25 to 29 are unused.
abbrev pub tagged_head : ℕ → Head
tagged_head w = cond (w / 0x200_0000 % 32 == 0) (tagged_thing w) Nothing

-- An even word is the reference to half of it, an odd word the number of its half, rounded down.
abbrev pub tagged_slot : Shape → ℕ → ℕ → Slot
tagged_slot s i w = cond (w % 2 == 0) (Reference (w / 2)) (Number (w / 2))

abbrev pub tagged_word : Slot → ℕ
tagged_word (Reference a) = 2 * (a % 0x8000_0000)
tagged_word (Number v) = 2 * (v % 0x8000_0000) + 1

abbrev pub tagged_coding : Coding
tagged_coding = record {
  greatest_number = 2147483647;
  admits = λ s. (s.layout == 0) && nat_le s.n 127;
  kind = λ s i. Both;
  head_of = tagged_head;
  object_header = λ s. 0x4000_0000 + 65536 * (s.n + 1);
  forwarded_header = λ k to. 0x8000_0000 + 65536 * (k % 512) + to % 65536;
  padding_header = λ k. 0xc000_0000 + 65536 * (k % 512);
  slot_of = tagged_slot;
  word_of = tagged_word;
}

abbrev pub tagged : Meaning
tagged = coded tagged_coding
