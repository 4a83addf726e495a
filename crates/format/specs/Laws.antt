-- The laws that an object format must show, and what they say of a whole memory.
use Rattle.std.specs.Prelude.{◌≡◌, ℕ, ◌+◌, ◌<◌, ◌≤◌, true, ◌≢◌, ◌⊎◌, List, length, take, drop, slice_index, slice_index_or, slice_set}
use borrow.Rule.Slice.PartMut.{put_mid}
use Rattle.format.specs.declared.things.Shape.{Shape}
use Rattle.format.specs.declared.things.Slot.{Slot}
use Rattle.format.specs.Meaning.{Meaning, shape, holds, blanks, Thing, nothing, object, forwarded, padding, reads, thing_at, span}

-- The words that a write makes of a thing's own words: as many, and they read so.
abbrev pub Makes : Meaning → Thing → List ℕ → List ℕ → Type 0
Makes m t old new = (length new ≡ length old) × (reads m new ≡ t)

pub record Lawful (m : Meaning) : Type 0 where
  -- Reading depends on the thing's own words alone.
  pub own : (ws vs : List ℕ) → reads m ws ≢ nothing → take (span m (reads m ws)) vs ≡ take (span m (reads m ws)) ws → reads m vs ≡ reads m ws
  -- Making an admitted object gives that object, each slot null where it may refer, else 0.
  pub makes : (s : Shape) (ws : List ℕ) → m.admits s ≡ true → length ws ≡ m.size s
      → Makes m (object s.layout (blanks m s)) ws (m.made s ws)
  -- Setting a slot to what it may hold makes that slot read so; the layout and every other slot stay.
  pub sets : (ws : List ℕ) (l : ℕ) (ss : List Slot) (i : ℕ) (x : Slot) → reads m ws ≡ object l ss → length ws ≡ m.size (shape l (length ss))
      → i < length ss → holds m (shape l (length ss)) i x ≡ true → Makes m (object l (slice_set ss i x)) ws (m.with_slot (shape l (length ss)) i x ws)
  -- Forwarding an object keeps its size and gives the new address, which is 256 or more.
  pub forwards : (ws : List ℕ) (l : ℕ) (ss : List Slot) (to : ℕ) → reads m ws ≡ object l ss → length ws ≡ m.size (shape l (length ss))
      → 256 ≤ to → to ≤ m.greatest_address → Makes m (forwarded (length ws) to) ws (m.forwarding to ws)
  -- Padding of 1 to 256 words can be made anywhere.
  pub pads : (ws : List ℕ) → 1 ≤ length ws → length ws ≤ 256 → Makes m (padding (length ws)) ws (m.padded ws)

-- ---- what follows for a memory, of every lawful format

-- The memory ys is the memory xs after a write at base a over k words: the thing t stands there,
-- no other word has changed, and what stands elsewhere reads as it did.
pub record Leaves (m : Meaning) (xs : List ℕ) (a k : ℕ) (t : Thing) (ys : List ℕ) : Type 0 where
  pub here : thing_at m ys a ≡ t
  pub long : length ys ≡ length xs
  pub words : (j : ℕ) → (j < a) ⊎ (a + k ≤ j) → slice_index ys j ≡ slice_index xs j
  pub elsewhere : (b : ℕ) → thing_at m xs b ≢ nothing → (b + span m (thing_at m xs b) ≤ a) ⊎ (a + k ≤ b) → thing_at m ys b ≡ thing_at m xs b

-- the k words from a on, and the memory in which f has rewritten them
abbrev pub part : ℕ → ℕ → List ℕ → List ℕ
part a k xs = take k (drop a xs)

abbrev pub rewritten : (List ℕ → List ℕ) → ℕ → ℕ → List ℕ → List ℕ
rewritten f a k xs = put_mid a k xs (f (part a k xs))

pub record Readings (m : Meaning) : Type 0 where
  -- Reading depends on the thing's own words alone, and not on its base.
  pub own : (xs ys : List ℕ) (a b : ℕ) → thing_at m xs a ≢ nothing → part b (span m (thing_at m xs a)) ys ≡ part a (span m (thing_at m xs a)) xs → thing_at m ys b ≡ thing_at m xs a
  -- A thing takes 1 to 256 words, all of them there.
  pub spans : (xs : List ℕ) (a : ℕ) → thing_at m xs a ≢ nothing → (1 ≤ span m (thing_at m xs a)) × (span m (thing_at m xs a) ≤ 256) × (a + span m (thing_at m xs a) ≤ length xs)
  -- What reads as an object has an admitted shape, and each slot holds what it may.
  pub admits : (xs : List ℕ) (a l : ℕ) (ss : List Slot) → thing_at m xs a ≡ object l ss
      → (m.admits (shape l (length ss)) ≡ true) × ((i : ℕ) (x : Slot) → i < length ss → holds m (shape l (length ss)) i (slice_index_or ss i x) ≡ true)
  -- An admitted layout and number of slots are at most 255, and the object takes 1 to 128 words.
  pub sizes : (s : Shape) → m.admits s ≡ true → (s.layout ≤ 255) × (s.n ≤ 255) × (1 ≤ m.size s) × (m.size s ≤ 128)
  -- Making, setting a slot, forwarding and padding, anywhere in the memory.
  pub makes : (xs : List ℕ) (a : ℕ) (s : Shape) → m.admits s ≡ true → a + m.size s ≤ length xs
      → Leaves m xs a (m.size s) (object s.layout (blanks m s)) (rewritten (m.made s) a (m.size s) xs)
  pub sets : (xs : List ℕ) (a l : ℕ) (ss : List Slot) (i : ℕ) (x : Slot) → thing_at m xs a ≡ object l ss → i < length ss → holds m (shape l (length ss)) i x ≡ true
      → Leaves m xs a (m.size (shape l (length ss))) (object l (slice_set ss i x)) (rewritten (m.with_slot (shape l (length ss)) i x) a (m.size (shape l (length ss))) xs)
  pub forwards : (xs : List ℕ) (a l : ℕ) (ss : List Slot) (to : ℕ) → thing_at m xs a ≡ object l ss → 256 ≤ to → to ≤ m.greatest_address
      → Leaves m xs a (m.size (shape l (length ss))) (forwarded (m.size (shape l (length ss))) to) (rewritten (m.forwarding to) a (m.size (shape l (length ss))) xs)
  pub pads : (xs : List ℕ) (a k : ℕ) → 1 ≤ k → k ≤ 256 → a + k ≤ length xs
      → Leaves m xs a k (padding k) (rewritten m.padded a k xs)
