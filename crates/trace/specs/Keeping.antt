-- What a collection keeps.
use Rattle.std.specs.Prelude.{◌≡◌, ℕ, zero, suc, ◌+◌, ◌*◌, ◌/◌, ◌%◌, ◌<◌, ◌≤◌, Bool, true, false, cond, not, ◌&&◌, ◌||◌, ◌⊎◌, List, length, replicate, Some, None, Option, ◌==◌, nat_lt, slice_index, slice_index_or}
use Rattle.format.specs.declared.things.Slot.{Slot}
use Rattle.format.specs.declared.things.Slot.TheVariants.{Reference, Number}
use Rattle.format.specs.Laws.{Lawful}
use Rattle.format.specs.Meaning.{Meaning, Thing, nothing, object, forwarded, padding, thing_at, span}
use Rattle.arena.specs.declared.segments.Segments.{Segments}
use Rattle.arena.specs.Boards.{bit}
use Rattle.arena.specs.Segments.{Owner, owner_of}
use Rattle.trace.specs.declared.state.Class.{Class}
use Rattle.trace.specs.declared.state.Class.TheVariants.{Amc}
use Rattle.trace.specs.declared.state.Plan.{Plan}
use Rattle.trace.specs.Traces.{condemns, Heap}
use Rattle.location.specs.Locations.{zone_of, has_zone, can_age}
use Rattle.trace.specs.Collections.{is_lo, all_zones, all_buffers_closed}
use Rattle.trace.specs.Collect.{Held, held, fits, new_arena, plan_of, before_sweep, collected}

-- ---- what stands

-- words, and whose the segments are
pub record Space : Type 0 where
  pub words : List ℕ
  pub segments : Segments

abbrev pub space : List ℕ → Segments → Space
space ws g = record { words = ws; segments = g }

-- an object or a padding
abbrev pub Piece : Thing → Type 0
Piece nothing = ⊥
Piece (object l ss) = Unit {0}
Piece (forwarded k to) = ⊥
Piece (padding k) = Unit {0}

-- from a up to e the words are objects and paddings, without a gap
pub data Row (m : Meaning) (ws : List ℕ) (e : ℕ) : ℕ → Type 0 where
  ends : Row m ws e e
  piece : (a : ℕ) → Piece (thing_at m ws a) → a + span m (thing_at m ws a) ≤ e → Row m ws e (a + span m (thing_at m ws a)) → Row m ws e a

-- whether q is a base among at most k things of a row from a up to e
abbrev pub is_base : Meaning → List ℕ → ℕ → ℕ → ℕ → ℕ → Bool
is_base m ws e zero a q = false
is_base m ws e (suc k) a q = nat_lt a e && (a == q || is_base m ws e k (a + span m (thing_at m ws a)) q)

abbrev pub is_owned : Owner → Bool
is_owned None = false
is_owned (Some p) = true

-- q is the base of a thing in an owned segment
abbrev pub stands : Meaning → Space → ℕ → Bool
stands m x q = is_owned (owner_of x.segments (q / 256)) && is_base m x.words (q / 256 * 256 + 256) 256 (q / 256 * 256) q

-- the object with layout l and slots ss stands at a
abbrev pub ObjectAt : Meaning → Space → ℕ → ℕ → List Slot → Type 0
ObjectAt m x a l ss = (stands m x a ≡ true) × (thing_at m x.words a ≡ object l ss)

-- some object stands at a
abbrev pub Stands : Meaning → Space → ℕ → Type 0
Stands m x a = (l : ℕ) × ((ss : List Slot) × ObjectAt m x a l ss)

-- ---- sound arenas

-- a reference is null, or an object stands there
abbrev pub Leads : Meaning → Space → ℕ → Type 0
Leads m x r = (r ≡ 0) ⊎ Stands m x r

abbrev pub SlotLeads : Meaning → Space → Slot → Type 0
SlotLeads m x (Reference r) = Leads m x r
SlotLeads m x (Number v) = Unit {0}

abbrev pub SlotLeaf : Slot → Type 0
SlotLeaf (Reference r) = r ≡ 0
SlotLeaf (Number v) = Unit {0}

pub record Sound (m : Meaning) (classes : List Class) (x : Space) : Type 0 where
  pub whole : (length x.words % 256 ≡ 0) × (length x.words ≤ 65536) × (length x.words ≤ m.greatest_address + 1)
  -- Segment 0 is nobody's; an owned segment lies in the arena and is a row.
  pub owners : length x.segments.owners ≡ 256
  pub first : owner_of x.segments 0 ≡ None
  pub owned : (s p : ℕ) → owner_of x.segments s ≡ Some p → (p < 8) × (s * 256 + 256 ≤ length x.words)
  pub rows : (s p : ℕ) → owner_of x.segments s ≡ Some p → Row m x.words (s * 256 + 256) (s * 256)
  -- A reference is null or leads to an object; in a leaf pool it is null.
  pub leads : (a l i : ℕ) (ss : List Slot) → ObjectAt m x a l ss → SlotLeads m x (slice_index_or ss i (Number 0))
  pub leaves : (a l i p : ℕ) (ss : List Slot) → ObjectAt m x a l ss → owner_of x.segments (a / 256) ≡ Some p → is_lo (slice_index_or classes p Amc) ≡ true → SlotLeaf (slice_index_or ss i (Number 0))
  -- The words of free segments are 0.
  pub blank : (w : ℕ) → owner_of x.segments (w / 256) ≡ None → slice_index x.words w ≡ 0

-- ---- fates

abbrev pub place_by : Bool → ℕ → Thing → Option ℕ
place_by left a nothing = None
place_by left a (object l ss) = cond left (Some a) None
place_by left a (forwarded k to) = Some to
place_by left a (padding k) = None

-- Where the object that stood at a will be, read off the state before the sweep: where it was forwarded
-- to; where it was, if it is not condemned or is marked; or nowhere.
abbrev pub place : Meaning → Plan → Heap → ℕ → Option ℕ
place m y v a = place_by (not (condemns y a) || bit v.marks a) a (thing_at m v.words a)

-- ---- the law

-- the reference r has become q: null stays null, and else q is the place of what stood at r
abbrev pub Follows : Meaning → Plan → Heap → ℕ → ℕ → Type 0
Follows m y v r q = ((r ≡ 0) × (q ≡ 0)) ⊎ (place m y v r ≡ Some q)

abbrev pub SlotFollows : Meaning → Plan → Heap → Slot → Slot → Type 0
SlotFollows m y v (Reference r) (Reference q) = Follows m y v r q
SlotFollows m y v (Reference r) (Number k) = ⊥
SlotFollows m y v (Number k) (Reference q) = ⊥
SlotFollows m y v (Number k) (Number j) = k ≡ j

-- the object of a stands at p, its references being the places of what they were
abbrev pub Came : Meaning → Plan → Heap → Space → ℕ → ℕ → List Slot → Type 0
Came m y v x p l ss =
    (ts : List Slot) × (ObjectAt m x p l ts × (length ts ≡ length ss) × ((i : ℕ) → SlotFollows m y v (slice_index_or ss i (Number 0)) (slice_index_or ts i (Number 0))))

-- `before` with its buffers closed, v the state before the sweep, `after` what the sweep leaves
pub record Keeps (m : Meaning) (y : Plan) (before : Space) (v : Heap) (after : Space) (ambiguous roots roots' : List ℕ) : Type 0 where
  pub kept : (a p l : ℕ) (ss : List Slot) → ObjectAt m before a l ss → place m y v a ≡ Some p → Came m y v after p l ss
  pub only : (p : ℕ) → Stands m after p → (a : ℕ) × (Stands m before a × (place m y v a ≡ Some p))
  pub apart : (a c p : ℕ) → Stands m before a → Stands m before c → place m y v a ≡ Some p → place m y v c ≡ Some p → a ≡ c
  pub registers : (i : ℕ) → i < 16 → Follows m y v (slice_index roots i) (slice_index roots' i)
  pub pinned : (i a : ℕ) → i < 8 → Stands m before a → a ≤ slice_index ambiguous i → slice_index ambiguous i < a + span m (thing_at m before.words a) → place m y v a ≡ Some a
  pub outside : (a : ℕ) → Stands m before a → condemns y a ≡ false → place m y v a ≡ Some a
  -- An object stays in its pool; and where it moves, it was in a zone by which the history is aged.
  pub pools : (a p : ℕ) → Stands m before a → place m y v a ≡ Some p → owner_of after.segments (p / 256) ≡ owner_of before.segments (a / 256)
  pub zones : (a p : ℕ) → Stands m before a → place m y v a ≡ Some p → (p ≡ a) ⊎ (has_zone (all_zones y before.segments) (zone_of a) ≡ true)
  -- W rounds were enough.
  pub white : (a : ℕ) → bit v.greys a ≡ false

-- ---- on a collection

abbrev pub space_of : Held → Space
space_of h = space h.words h.arena.segments

-- the arena with its buffers closed
abbrev pub closed_space : Meaning → Held → Space
closed_space m h = space (all_buffers_closed m h.arena.buffers h.words) h.arena.segments

-- With its buffers closed the arena is sound, the registers lead to objects, and both boards are 0.
pub record SoundArena (m : Meaning) (h : Held) : Type 0 where
  pub space : Sound m h.arena.classes (closed_space m h)
  pub registers : (i : ℕ) → i < 16 → Leads m (closed_space m h) (slice_index h.arena.registers i)
  pub marks : h.marks ≡ replicate (length h.words / 32) 0
  pub greys : h.greys ≡ replicate (length h.words / 32) 0

-- A new arena over words and boards of 0 is sound, of whatever format.
abbrev pub NewArenasSound : Type 0
NewArenasSound =
    (m : Meaning) (classes : List Class) (len : ℕ) → fits m len (len / 32) (len / 32) ≡ true
    → SoundArena m (held (new_arena classes) (replicate len 0) (replicate (len / 32) 0) (replicate (len / 32) 0))

-- what stood in h stands in k, which is sound again
abbrev pub KeptBy : Meaning → Plan → Held → Held → Type 0
KeptBy m y h k =
    SoundArena m k × Keeps m y (closed_space m h) (before_sweep m y h).heap (space_of k) h.arena.ambiguous h.arena.registers k.arena.registers

-- What a collection that is performed keeps, of every lawful format, sound arena and set of pools.
abbrev pub CollectionsKeep : Type 0
CollectionsKeep =
    (m : Meaning) → Lawful m → (h : Held) (pools : ℕ) → SoundArena m h
    → fits m (length h.words) (length h.marks) (length h.greys) ≡ true → can_age h.arena.history ≡ true
    → KeptBy m (plan_of h.arena pools) h (collected m h pools).after
