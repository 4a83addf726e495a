-- Formats with a header word, and a word for each slot after it.
use Rattle.std.specs.Prelude.{ℕ, ◌+◌, Bool, List, [], ◌∷◌, length, replicate, slice_index, slice_set}
use Rattle.format.specs.declared.things.Shape.{Shape}
use Rattle.format.specs.declared.things.Head.{Head}
use Rattle.format.specs.declared.things.Slot.{Slot}
use Rattle.format.specs.declared.things.Kind.{Kind}
use Rattle.format.specs.Meaning.{Meaning}

-- a header, and 0 in every other word
abbrev pub stamped : ℕ → List ℕ → List ℕ
stamped v [] = []
stamped v (w ∷ ws) = v ∷ replicate (length ws) 0

-- How such a format codes single words.
pub record Coding : Type 0 where
  pub greatest_number : ℕ
  pub admits : Shape → Bool
  pub kind : Shape → ℕ → Kind
  -- headers: what one says; the header of an object, of a forwarded thing (its size and its new
  -- address) and of a padding (its size)
  pub head_of : ℕ → Head
  pub object_header : Shape → ℕ
  pub forwarded_header : ℕ → ℕ → ℕ
  pub padding_header : ℕ → ℕ
  -- slots: what the word of slot i says, and the word of a value
  pub slot_of : Shape → ℕ → ℕ → Slot
  pub word_of : Slot → ℕ

-- The header is word 0 and slot i is word i + 1. Making a padding writes 0 to its other words,
-- forwarding leaves them, and reading either passes over them.
abbrev pub coded : Coding → Meaning
coded c = record {
  greatest_number = c.greatest_number;
  greatest_address = 65535;
  admits = c.admits;
  size = λ s. s.n + 1;
  kind = c.kind;
  head = λ ws. c.head_of (slice_index ws 0);
  slot = λ s ws i. c.slot_of s i (slice_index ws (i + 1));
  made = λ s ws. stamped (c.object_header s) ws;
  with_slot = λ s i x ws. slice_set ws (i + 1) (c.word_of x);
  forwarding = λ to ws. slice_set ws 0 (c.forwarded_header (length ws) to);
  padded = λ ws. stamped (c.padding_header (length ws)) ws;
}
