-- What a trace keeps, relative to where it began.
use Rattle.std.proofs.Common.{◌≡◌, ℕ, ◌+◌, ◌-◌, ◌*◌, ◌/◌, ◌%◌, ◌<◌, ◌≤◌, Bool, true, false, not, ◌||◌, eqb, ◌≢◌, ◌⊎◌, List, [], length, get_or, Some, None}
use Rattle.format.specs.declared.things.Slot.{Slot}
use Rattle.format.specs.declared.things.Slot.TheVariants.{Reference, Number}
use Rattle.format.specs.Meaning.{Meaning, Thing, nothing, object, forwarded, padding, thing_at, span}
use Rattle.arena.specs.Boards.{bit}
use Rattle.arena.specs.Segments.{Owner, owner_of}
use Rattle.trace.specs.declared.state.Plan.{Plan}
use Rattle.trace.specs.Traces.{condemns, class_of, target_of, Heap}
use Rattle.trace.specs.Collections.{is_lo, moves}
use Rattle.trace.specs.Keeping.{Space, stands}

-- two stretches of words have none in common
abbrev pub Apart : ℕ → ℕ → ℕ → ℕ → Type 0
Apart a n b k = (a + n ≤ b) ⊎ (b + k ≤ a)

abbrev pub slots_of : Thing → List Slot
slots_of nothing = []
slots_of (object l ss) = ss
slots_of (forwarded k to) = []
slots_of (padding k) = []

abbrev pub layout_of : Thing → ℕ
layout_of nothing = 0
layout_of (object l ss) = l
layout_of (forwarded k to) = 0
layout_of (padding k) = 0

-- where a trace begins
pub record Start : Type 0 where
  pub meaning : Meaning
  pub plan : Plan
  pub space : Space

-- ---- the state as it goes on

abbrev pub owner : Heap → ℕ → Owner
owner v s = owner_of v.state.segments s

abbrev pub target : Heap → ℕ → ℕ
target v p = target_of v.state p

abbrev pub marked : Heap → ℕ → Bool
marked v a = bit v.marks a

abbrev pub grey : Heap → ℕ → Bool
grey v a = bit v.greys a

-- null, not condemned or marked
abbrev pub stays : Start → Heap → ℕ → Bool
stays S v a = eqb a 0 || (not (condemns S.plan a) || marked v a)

abbrev pub rd : Start → List ℕ → ℕ → Thing
rd S ws a = thing_at S.meaning ws a

-- ---- the start

abbrev pub owner0 : Start → ℕ → Owner
owner0 S s = owner_of S.space.segments s

abbrev pub leafy : Start → ℕ → Bool
leafy S p = is_lo (class_of S.plan p)

-- the bases of objects and paddings
abbrev pub Std : Start → ℕ → Type 0
Std S a = stands S.meaning S.space a ≡ true

abbrev pub thing0 : Start → ℕ → Thing
thing0 S a = rd S S.space.words a

abbrev pub size0 : Start → ℕ → ℕ
size0 S a = span S.meaning (thing0 S a)

abbrev pub layout0 : Start → ℕ → ℕ
layout0 S a = layout_of (thing0 S a)

abbrev pub slots0 : Start → ℕ → List Slot
slots0 S a = slots_of (thing0 S a)

-- a standing object; the other bases are paddings
abbrev pub Obj : Start → ℕ → Type 0
Obj S a = Std S a × (thing0 S a ≡ object (layout0 S a) (slots0 S a))

-- a relation of references, as one of slots
abbrev pub Fits : (ℕ → ℕ → Type 0) → Slot → Slot → Type 0
Fits R (Number v) (Number w) = v ≡ w
Fits R (Number v) (Reference w) = ⊥
Fits R (Reference r) (Number w) = ⊥
Fits R (Reference r) (Reference v) = R r v

pub fits_map : {R Q : ℕ → ℕ → Type 0} → ((r v : ℕ) → R r v → Q r v) → (x y : Slot) → Fits R x y → Fits Q x y
fits_map f (Number v) (Number w) h = h
fits_map f (Number v) (Reference w) h = h
fits_map f (Reference r) (Number w) h = h
fits_map f (Reference r) (Reference v) h = f r v h

abbrev pub AllFit : (ℕ → ℕ → Type 0) → List Slot → List Slot → Type 0
AllFit R xs ys = (i : ℕ) → Fits R (get_or xs i (Number 0)) (get_or ys i (Number 0))

-- ---- objects on their way

-- that the object of the start at a has moved to b is read off the words
abbrev pub Moved : Start → List ℕ → ℕ → ℕ → Type 0
Moved S ws a b = rd S ws a ≡ forwarded (size0 S a) b

-- p is the base of words that are, or were, the thing a's
pub data Cell (S : Start) (ws : List ℕ) (a p : ℕ) : Type 0 where
  same : p ≡ a → Cell S ws a p
  copy : Moved S ws a p → Cell S ws a p

-- v is a reference to what r referred to at the start
pub data Names (S : Start) (ws : List ℕ) (r v : ℕ) : Type 0 where
  null : r ≡ 0 → v ≡ 0 → Names S ws r v
  names : Obj S r → Cell S ws r v → Names S ws r v

-- p is where the object a will be
pub data Final (S : Start) (v : Heap) (a p : ℕ) : Type 0 where
  stay : p ≡ a → stays S v a ≡ true → Final S v a p
  move : Moved S v.words a p → Final S v a p

pub data Settled (S : Start) (v : Heap) (r q : ℕ) : Type 0 where
  empty : r ≡ 0 → q ≡ 0 → Settled S v r q
  settled : Obj S r → Final S v r q → Settled S v r q

-- x reads as the object a did at the start, each reference by a name of what it was
pub record Body (S : Start) (ws : List ℕ) (a : ℕ) (x : Thing) : Type 0 where
  pub was : thing0 S a ≡ object (layout0 S a) (slots0 S a)
  pub shape : x ≡ object (layout0 S a) (slots_of x)
  pub many : length (slots_of x) ≡ length (slots0 S a)
  pub names : AllFit (Names S ws) (slots0 S a) (slots_of x)

pub data Held (S : Start) (ws : List ℕ) (a : ℕ) : Type 0 where
  here : Body S ws a (rd S ws a) → Held S ws a
  away : (b : ℕ) → Moved S ws a b → Body S ws a (rd S ws b) → Held S ws a
  still : thing0 S a ≡ padding (size0 S a) → rd S ws a ≡ padding (size0 S a) → Held S ws a

abbrev pub Clean : Start → Heap → ℕ → Thing → Type 0
Clean S v a x = AllFit (Settled S v) (slots0 S a) (slots_of x)

-- ---- room for copies

-- the words that the trace may still take: those of free segments, and those left in a target
pub data Room (v : Heap) (w : ℕ) : Type 0 where
  unused : 256 ≤ w → w < length v.words → owner v (w / 256) ≡ None → Room v w
  ahead : (p : ℕ) → target v p ≤ w → w < target v p / 256 * 256 + 256 → 1 ≤ target v p % 256 → Room v w

-- what is known of a target, of free segments and of the boards
pub record Ready (S : Start) (v : Heap) : Type 0 where
  pub whole : length v.words % 256 ≡ 0
  pub few : length v.words ≤ 65536
  pub owned : (p : ℕ) → 1 ≤ target v p % 256
      → (owner v (target v p / 256) ≡ Some p) × (target v p / 256 * 256 + 256 ≤ length v.words) × (256 ≤ target v p)
      × (get_or S.plan.condemned (target v p / 256) false ≡ false)
  pub unused : (s : ℕ) → owner v s ≡ None → get_or S.plan.condemned s false ≡ false
  pub marks : 32 * length v.marks ≡ length v.words
  pub greys : 32 * length v.greys ≡ length v.words
  pub owners : length v.state.segments.owners ≡ 256
  pub targets : length v.state.targets ≡ 8

pub record Copied (S : Start) (v : Heap) (a b : ℕ) : Type 0 where
  pub low : 256 ≤ b
  pub high : b + size0 S a ≤ length v.words
  pub safe : condemns S.plan b ≡ false
  pub left : stays S v a ≡ false
  pub seg : b % 256 + size0 S a ≤ 256
  pub fresh : owner0 S (b / 256) ≡ None
  pub home : owner v (b / 256) ≡ owner0 S (a / 256)
  pub mover : moves S.plan.classes (owner0 S (a / 256)) ≡ true

-- a word of a copy
pub record Covered (S : Start) (ws : List ℕ) (w : ℕ) : Type 0 where
  pub from : ℕ
  pub base : ℕ
  pub obj : Obj S from
  pub moved : Moved S ws from base
  pub low : base ≤ w
  pub high : w < base + size0 S from

-- a segment that the trace took for pool p: copies up to the front, and then the target's rest or padding
pub record Front (S : Start) (v : Heap) (s p : ℕ) : Type 0 where
  pub front : ℕ
  pub low : s * 256 ≤ front
  pub high : front ≤ s * 256 + 256
  pub below : (a b : ℕ) → Std S a → Moved S v.words a b → b / 256 ≡ s → b + size0 S a ≤ front
  pub cover : (w : ℕ) → s * 256 ≤ w → w < front → Covered S v.words w
  pub ends : ((1 ≤ target v p % 256) × (target v p / 256 ≡ s) × (front ≡ target v p))
      ⊎ ((1 ≤ target v p % 256 → target v p / 256 ≡ s → ⊥) × ((front ≡ s * 256 + 256) ⊎ (rd S v.words front ≡ padding (s * 256 + 256 - front))))

pub record Fill (S : Start) (v : Heap) : Type 0 where
  pub fronts : (s p : ℕ) → owner0 S s ≡ None → owner v s ≡ Some p → Front S v s p
  pub aims : (p : ℕ) → 1 ≤ target v p % 256 → owner0 S (target v p / 256) ≡ None
  pub empty : (s : ℕ) → owner v s ≡ None → owner0 S s ≡ None
  pub pools : (s p : ℕ) → owner v s ≡ Some p → (p < 8) × (s * 256 + 256 ≤ length v.words)
  pub low : owner v 0 ≡ None
  pub plain : (s p : ℕ) → owner0 S s ≡ None → owner v s ≡ Some p → leafy S p ≡ false

abbrev pub Null : ℕ → ℕ → Type 0
Null r q = (r ≡ 0) × (q ≡ 0)

-- the pool of an object
pub record Owned (S : Start) (v : Heap) (a : ℕ) : Type 0 where
  pub pool : ℕ
  pub is : owner v (a / 256) ≡ Some pool
  pub was : owner0 S (a / 256) ≡ Some pool
  pub leaf : leafy S pool ≡ true → AllFit Null (slots0 S a) (slots0 S a)

-- p is where some object of the start will be
pub record Place (S : Start) (v : Heap) (p : ℕ) : Type 0 where
  pub whose : ℕ
  pub std : Obj S whose
  pub final : Final S v whose p

-- ---- the invariant

-- what holds all through the trace; the objects at p with Todo p have yet to be scanned
pub record Inv (S : Start) (Todo : ℕ → Type 0) (v : Heap) : Type 0 where
  pub long : length v.words ≡ length S.space.words
  pub ready : Ready S v
  pub owned : (a : ℕ) → Std S a → Owned S v a
  pub held : (a : ℕ) → Std S a → Held S v.words a
  pub apart : (a p c q : ℕ) → Std S a → Std S c → Cell S v.words a p → Cell S v.words c q
      → ((a ≡ c) × (p ≡ q)) ⊎ Apart p (size0 S a) q (size0 S c)
  pub copied : (a b : ℕ) → Std S a → Moved S v.words a b → Copied S v a b
  pub room : (w a p : ℕ) → Room v w → Std S a → Cell S v.words a p → (w < p) ⊎ (p + size0 S a ≤ w)
  pub greys : (p : ℕ) → grey v p ≡ true → Place S v p
  -- nothing is grey below the bound
  pub bound : (p : ℕ) → grey v p ≡ true → v.state.low ≤ p
  pub fill : Fill S v
  pub marked : (p : ℕ) → marked v p ≡ true → Obj S p
  pub blank : (w : ℕ) → owner v (w / 256) ≡ None → get_or v.words w 0 ≡ 0
  pub clean : (a p : ℕ) → Obj S a → Final S v a p → ((grey v p ≡ true) ⊎ Todo p) ⊎ Clean S v a (rd S v.words p)

-- what was settled stays so
pub record Grows (S : Start) (t u : Heap) : Type 0 where
  pub marks : (a : ℕ) → marked t a ≡ true → marked u a ≡ true
  pub moves : (a b : ℕ) → Std S a → Moved S t.words a b → Moved S u.words a b

-- and reads as it did
abbrev pub Keeps : Start → Heap → Heap → Type 0
Keeps S t u = (a p : ℕ) → Std S a → Final S t a p → rd S u.words p ≡ rd S t.words p

-- what the start must be
pub record Sound (S : Start) : Type 0 where
  pub thing : (a : ℕ) → Std S a → (thing0 S a ≡ object (layout0 S a) (slots0 S a)) ⊎ (thing0 S a ≡ padding (size0 S a))
  pub low : (a : ℕ) → Std S a → 256 ≤ a
  pub some : (a : ℕ) → Std S a → 1 ≤ size0 S a
  pub refs : (a : ℕ) → Obj S a → AllFit (Names S S.space.words) (slots0 S a) (slots0 S a)
  pub apart : (a c : ℕ) → Std S a → Std S c → (a ≡ c) ⊎ Apart a (size0 S a) c (size0 S c)
  pub seg : (a : ℕ) → Std S a → a % 256 + size0 S a ≤ 256
  pub inside : (a : ℕ) → Std S a → a / 256 * 256 + 256 ≤ length S.space.words
  pub used : (a : ℕ) → Std S a → owner0 S (a / 256) ≢ None
  pub top : length S.space.words ≤ S.meaning.greatest_address + 1
