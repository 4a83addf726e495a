-- What an object format means, and how words read under it.
use Rattle.std.specs.Prelude.{ℕ, Bool, true, false, cond, ◌&&◌, List, map, length, drop, nat_le}
use Rattle.std.specs.List.{list_all, range_with_len}
use Rattle.format.specs.declared.things.Shape.{Shape}
use Rattle.format.specs.declared.things.Head.{Head}
use Rattle.format.specs.declared.things.Head.TheVariants.{Nothing, Object, Forwarded, Padding}
use Rattle.format.specs.declared.things.Slot.{Slot}
use Rattle.format.specs.declared.things.Slot.TheVariants.{Reference, Number}
use Rattle.format.specs.declared.things.Kind.{Kind}
use Rattle.format.specs.declared.things.Kind.TheVariants.{References, Numbers, Both}

-- All that a format says. The first six fields are its rules, the next two how its words are
-- looked at, the last four what its writes make of a thing's own words.
pub record Meaning : Type 0 where
  pub greatest_number : ℕ
  pub greatest_address : ℕ
  -- the shapes that there are, with the words that an object of each takes
  pub admits : Shape → Bool
  pub size : Shape → ℕ
  -- what slot i may hold
  pub kind : Shape → ℕ → Kind
  -- what the words from a base on say of the thing there, before anything is in range
  pub head : List ℕ → Head
  pub slot : Shape → List ℕ → ℕ → Slot
  pub made : Shape → List ℕ → List ℕ
  pub with_slot : Shape → ℕ → Slot → List ℕ → List ℕ
  pub forwarding : ℕ → List ℕ → List ℕ
  pub padded : List ℕ → List ℕ

abbrev pub shape : ℕ → ℕ → Shape
shape l n = record { layout = l; n = n }

-- ---- slots

abbrev pub may_refer : Kind → Bool
may_refer References = true
may_refer Numbers = false
may_refer Both = true

abbrev pub may_count : Kind → Bool
may_count References = false
may_count Numbers = true
may_count Both = true

-- A slot holds a reference only where it may refer, up to the greatest address, and a number
-- only where it may count, up to the greatest number.
abbrev pub may_hold : Meaning → Kind → Slot → Bool
may_hold m k (Reference a) = may_refer k && nat_le a m.greatest_address
may_hold m k (Number v) = may_count k && nat_le v m.greatest_number

abbrev pub holds : Meaning → Shape → ℕ → Slot → Bool
holds m s i x = may_hold m (m.kind s i) x

-- A new slot is null where it may refer, else the number 0.
abbrev pub blank : Kind → Slot
blank References = Reference 0
blank Numbers = Number 0
blank Both = Reference 0

abbrev pub blanks : Meaning → Shape → List Slot
blanks m s = map (λ i. blank (m.kind s i)) (range_with_len 0 s.n)

-- ---- heads

-- how many words a thing takes
abbrev pub extent : Meaning → Head → ℕ
extent m Nothing = 0
extent m (Object s) = m.size s
extent m (Forwarded k to) = k
extent m (Padding k) = k

-- objects stand at addresses from 256 to the greatest
abbrev pub is_place : Meaning → ℕ → Bool
is_place m a = nat_le 256 a && nat_le a m.greatest_address

-- An object has an admitted shape, whose layout and number of slots are at most 255; what was
-- forwarded has gone to where an object may stand.
abbrev pub allowed : Meaning → Head → Bool
allowed m Nothing = false
allowed m (Object s) = m.admits s && (nat_le s.layout 255 && nat_le s.n 255)
allowed m (Forwarded k to) = is_place m to
allowed m (Padding k) = true

-- Objects take 1 to 128 words, forwarded or not, and paddings 1 to 256.
abbrev pub longest : Head → ℕ
longest Nothing = 0
longest (Object s) = 128
longest (Forwarded k to) = 128
longest (Padding k) = 256

abbrev pub in_range : Meaning → Head → Bool
in_range m h = allowed m h && (nat_le 1 (extent m h) && nat_le (extent m h) (longest h))

abbrev pub within : Meaning → ℕ → Head → Bool
within m len h = in_range m h && nat_le (extent m h) len

-- A head that is out of range, or of a thing longer than the words, counts for nothing.
abbrev pub seen : Meaning → List ℕ → Head
seen m ws = cond (within m (length ws) (m.head ws)) (m.head ws) Nothing

-- ---- readings

-- each slot of an object holds what it may
abbrev pub slots_hold : Meaning → List ℕ → Head → Bool
slots_hold m ws Nothing = true
slots_hold m ws (Object s) = list_all (λ i. holds m s i (m.slot s ws i)) (range_with_len 0 s.n)
slots_hold m ws (Forwarded k to) = true
slots_hold m ws (Padding k) = true

-- the head of what the words read as
abbrev pub read_head : Meaning → List ℕ → Head
read_head m ws = cond (slots_hold m ws (seen m ws)) (seen m ws) Nothing

-- Words read as exactly one of these: nothing; an object with a layout and slots; a thing of so
-- many words that was forwarded to an address; a padding of so many words.
pub data Thing : Type 0 where
  nothing : Thing
  object : ℕ → List Slot → Thing
  forwarded : ℕ → ℕ → Thing
  padding : ℕ → Thing

abbrev pub thing : (Shape → ℕ → Slot) → Head → Thing
thing slot_of Nothing = nothing
thing slot_of (Object s) = object s.layout (map (slot_of s) (range_with_len 0 s.n))
thing slot_of (Forwarded k to) = forwarded k to
thing slot_of (Padding k) = padding k

-- what the words from a base on read as
abbrev pub reads : Meaning → List ℕ → Thing
reads m ws = thing (λ s. m.slot s ws) (read_head m ws)

-- what stands at a base in a memory
abbrev pub thing_at : Meaning → List ℕ → ℕ → Thing
thing_at m xs a = reads m (drop a xs)

-- how many words it takes
abbrev pub span : Meaning → Thing → ℕ
span m nothing = 0
span m (object l ss) = m.size (shape l (length ss))
span m (forwarded k to) = k
span m (padding k) = k
