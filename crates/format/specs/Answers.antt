-- What the writes answer, and the words after them. A refused write leaves the words.
use Rattle.std.specs.Prelude.{ℕ, Bool, true, false, cond, ◌&&◌, List, length, is_ok, Ok, Err, Result, ◌==◌, nat_le, nat_lt}
use Rattle.format.specs.declared.refusals.Refusal.{Refusal}
use Rattle.format.specs.declared.refusals.Refusal.TheVariants.{NotAdmitted, NoSuchSlot, NotHeld, WrongLength}
use Rattle.format.specs.declared.things.Shape.{Shape}
use Rattle.format.specs.declared.things.Head.{Head}
use Rattle.format.specs.declared.things.Head.TheVariants.{Nothing, Object, Forwarded, Padding}
use Rattle.format.specs.declared.things.Slot.{Slot}
use Rattle.format.specs.Meaning.{Meaning, holds, is_place, seen}

abbrev pub Answer : Type 0
Answer = Result (Unit {0}) Refusal

abbrev pub done_if : Bool → Refusal → Answer
done_if true r = Ok tt
done_if false r = Err r

-- what a write leaves: the new words where it was performed, else the old
abbrev pub left_by : Answer → List ℕ → List ℕ → List ℕ
left_by r new old = cond (is_ok r) new old

-- A shape that is not admitted has no size, so it is refused before the length is looked at.
abbrev pub make_answer : Meaning → Shape → List ℕ → Answer
make_answer m s ws = cond (m.admits s) (done_if (length ws == m.size s) WrongLength) (Err NotAdmitted)

abbrev pub make_words : Meaning → Shape → List ℕ → List ℕ
make_words m s ws = left_by (make_answer m s ws) (m.made s ws) ws

-- The shape of the object whose words these are, no word more or less.
abbrev pub shape_in : Meaning → ℕ → Head → Result Shape Refusal
shape_in m len Nothing = Err WrongLength
shape_in m len (Object s) = cond (len == m.size s) (Ok s) (Err WrongLength)
shape_in m len (Forwarded k to) = Err WrongLength
shape_in m len (Padding k) = Err WrongLength

abbrev pub own_shape : Meaning → List ℕ → Result Shape Refusal
own_shape m ws = shape_in m (length ws) (seen m ws)

abbrev pub slot_answer : Meaning → ℕ → Slot → Result Shape Refusal → Answer
slot_answer m i x (Ok s) = cond (nat_lt i s.n) (done_if (holds m s i x) NotHeld) (Err NoSuchSlot)
slot_answer m i x (Err r) = Err r

abbrev pub set_answer : Meaning → ℕ → Slot → List ℕ → Answer
set_answer m i x ws = slot_answer m i x (own_shape m ws)

abbrev pub slot_words : Meaning → ℕ → Slot → List ℕ → Result Shape Refusal → List ℕ
slot_words m i x ws (Ok s) = m.with_slot s i x ws
slot_words m i x ws (Err r) = ws

abbrev pub set_words : Meaning → ℕ → Slot → List ℕ → List ℕ
set_words m i x ws = left_by (set_answer m i x ws) (slot_words m i x ws (own_shape m ws)) ws

abbrev pub address_answer : Meaning → ℕ → Result Shape Refusal → Answer
address_answer m to (Ok s) = done_if (is_place m to) NotHeld
address_answer m to (Err r) = Err r

abbrev pub forward_answer : Meaning → ℕ → List ℕ → Answer
forward_answer m to ws = address_answer m to (own_shape m ws)

abbrev pub forward_words : Meaning → ℕ → List ℕ → List ℕ
forward_words m to ws = left_by (forward_answer m to ws) (m.forwarding to ws) ws

abbrev pub pad_answer : List ℕ → Answer
pad_answer ws = done_if (nat_le 1 (length ws) && nat_le (length ws) 256) WrongLength

abbrev pub pad_words : Meaning → List ℕ → List ℕ
pad_words m ws = left_by (pad_answer ws) (m.padded ws) ws
