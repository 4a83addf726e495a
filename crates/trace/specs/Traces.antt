-- The trace: fix, scan, rounds and sweep.
use Rattle.std.specs.Prelude.{◌≡◌, ℕ, zero, suc, ◌+◌, ◌-◌, ◌*◌, ◌/◌, ◌%◌, ◌<◌, ◌≤◌, min, Bool, false, cond, not, ◌&&◌, ◌||◌, List, length, Some, None, Option, ◌==◌, nat_le, nat_lt, slice_index, slice_index_or, slice_set}
use borrow.Rule.Slice.PartMut.{put_mid}
use Rattle.format.specs.declared.things.Shape.{Shape}
use Rattle.format.specs.declared.things.Head.{Head}
use Rattle.format.specs.declared.things.Head.TheVariants.{Nothing, Object, Forwarded, Padding}
use Rattle.format.specs.declared.things.Slot.{Slot}
use Rattle.format.specs.declared.things.Slot.TheVariants.{Reference, Number}
use Rattle.format.specs.Meaning.{Meaning, seen}
use Rattle.format.specs.Laws.{part, rewritten}
use Rattle.arena.specs.declared.segments.Segments.{Segments}
use Rattle.arena.specs.Boards.{bit, with_bit, without_bit, lowest_bit}
use Rattle.arena.specs.Segments.{Owner, owner_of, owned, lowest_free, freed, freed_words, in_arena}
use Rattle.arena.specs.Buffers.{padded_part}
use Rattle.trace.specs.declared.state.Class.{Class}
use Rattle.trace.specs.declared.state.Class.TheVariants.{Amc, Ams, Lo}
use Rattle.trace.specs.declared.state.Plan.{Plan}
use Rattle.trace.specs.declared.state.Trace.{Trace}
use Rattle.trace.specs.declared.sweeping.Stand.{Stand}
use Rattle.trace.specs.declared.deciding.Fate.{Fate}
use Rattle.trace.specs.declared.deciding.Fate.TheVariants.{Stay, Gone, Mark, Grey, Copy, Fresh}

-- the end of the segment of a
abbrev pub limit_of : ℕ → ℕ
limit_of a = a / 256 * 256 + 256

-- what the head at a says, as far as the end of its segment
abbrev pub head_at : Meaning → List ℕ → ℕ → Head
head_at m ws a = seen m (part a (limit_of a - a) ws)

abbrev pub class_of : Plan → ℕ → Class
class_of y p = slice_index_or y.classes p Amc

abbrev pub condemns : Plan → ℕ → Bool
condemns y a = slice_index_or y.condemned (a / 256) false

-- ---- what becomes of the object at a reference

-- where a pool's target has its next word, and how many words it has left
abbrev pub target_of : Trace → ℕ → ℕ
target_of t p = slice_index t.targets p

abbrev pub rest : ℕ → ℕ
rest at = (256 - at % 256) % 256

abbrev pub by_free : ℕ → ℕ → Option ℕ → Fate
by_free p n None = Grey
by_free p n (Some s) = Fresh p n s

-- An AMC object goes to its pool's target if it fits there, else to the lowest free segment, which
-- becomes the target; with no free segment it is marked and grey where it is.
abbrev pub by_room : Trace → ℕ → ℕ → ℕ → Fate
by_room t len p n = cond (nat_le n (rest (target_of t p)) && nat_le (target_of t p + n) (min len 65536)) (Copy p n (target_of t p)) (by_free p n (lowest_free t.segments len))

abbrev pub by_class : Trace → ℕ → ℕ → ℕ → Class → Fate
by_class t len p n Amc = by_room t len p n
by_class t len p n Ams = Grey
by_class t len p n Lo = Mark

abbrev pub by_owner : Plan → Trace → ℕ → ℕ → Owner → Fate
by_owner y t len n None = Stay
by_owner y t len n (Some p) = cond (nat_lt p 8) (by_class t len p n (class_of y p)) Stay

abbrev pub by_head : Meaning → Plan → Trace → ℕ → ℕ → Head → Fate
by_head m y t len a Nothing = Stay
by_head m y t len a (Object s) = by_owner y t len (m.size s) (owner_of t.segments (a / 256))
by_head m y t len a (Forwarded k to) = Gone to
by_head m y t len a (Padding k) = Stay

-- a lies in a condemned segment of the arena, and is not marked
abbrev pub sought : Plan → ℕ → List ℕ → ℕ → Bool
sought y len ms a = cond (nat_lt a 256 || nat_lt 65535 a) false (cond (nat_lt len (limit_of a)) false (cond (condemns y a) (not (bit ms a)) false))

abbrev pub decided : Meaning → Plan → Trace → List ℕ → List ℕ → ℕ → Fate
decided m y t ws ms a = cond (sought y (length ws) ms a) (by_head m y t (length ws) a (head_at m ws a)) Stay

-- the bounds that a fate's numbers keep, for a thing of n words
abbrev pub Within : ℕ → ℕ → Fate → Type 0
Within len n Stay = Unit {0}
Within len n (Gone to) = Unit {0}
Within len n Mark = Unit {0}
Within len n Grey = Unit {0}
Within len n (Copy p k to) = (p < 8) × (k ≡ n) × (to + k ≤ len) × (to + k ≤ 65536)
Within len n (Fresh p k s) = (p < 8) × (k ≡ n) × (s * 256 + 256 ≤ len)

abbrev pub Bounded : ℕ → ℕ → Fate → Type 0
Bounded len a Stay = Unit {0}
Bounded len a (Gone to) = Unit {0}
Bounded len a Mark = Unit {0}
Bounded len a Grey = Unit {0}
Bounded len a (Copy p k to) = (p < 8) × (k ≤ 256) × (a + k ≤ len) × (to + k ≤ len) × (to + k ≤ 65536)
Bounded len a (Fresh p k s) = (p < 8) × (k ≤ 256) × (a + k ≤ len) × (s * 256 + 256 ≤ len)

-- ---- what is done with it

-- pool p takes segment s for its target; the rest of the old one is padded
abbrev pub taken_state : Trace → ℕ → ℕ → Trace
taken_state t p s = record { segments = owned t.segments s p; targets = slice_set t.targets p (s * 256); moved = t.moved; low = t.low }

abbrev pub taken_words : Meaning → Trace → List ℕ → ℕ → List ℕ
taken_words m t ws p = padded_part m (target_of t p) (target_of t p + rest (target_of t p)) ws

abbrev pub with_low : Trace → ℕ → Trace
with_low t low = record { segments = t.segments; targets = t.targets; moved = t.moved; low = low }

abbrev pub lowered : Trace → ℕ → Trace
lowered t a = with_low t (min t.low a)

-- one more object has moved, and pool p's target has its next word behind it
abbrev pub advanced : Trace → ℕ → ℕ → Trace
advanced t p next = record { segments = t.segments; targets = slice_set t.targets p next; moved = min (t.moved + 1) 65535; low = t.low }

abbrev pub copied_state : Trace → ℕ → ℕ → ℕ → Trace
copied_state t p n to = lowered (advanced t p (to + n)) to

-- the n words at a stand at `to` as well, and then those at a are a forwarded thing
abbrev pub moved_words : List ℕ → ℕ → ℕ → ℕ → List ℕ
moved_words ws a n to = put_mid to n ws (part a n ws)

abbrev pub copied_words : Meaning → List ℕ → ℕ → ℕ → ℕ → List ℕ
copied_words m ws a n to = rewritten (m.forwarding to) a n (moved_words ws a n to)

-- the trace's state with the words and the boards
pub record Heap : Type 0 where
  pub state : Trace
  pub words : List ℕ
  pub marks : List ℕ
  pub greys : List ℕ

abbrev pub heap : Trace → List ℕ → List ℕ → List ℕ → Heap
heap t ws ms gs = record { state = t; words = ws; marks = ms; greys = gs }

abbrev pub copied : Meaning → Heap → ℕ → ℕ → ℕ → ℕ → Heap
copied m v p a n to = heap (copied_state v.state p n to) (copied_words m v.words a n to) v.marks (with_bit v.greys to)

abbrev pub taken : Meaning → Heap → ℕ → ℕ → Heap
taken m v p s = heap (taken_state v.state p s) (taken_words m v.state v.words p) v.marks v.greys

-- the object at a is marked; it is grey
abbrev pub marked : Heap → ℕ → Heap
marked v a = heap v.state v.words (with_bit v.marks a) v.greys

abbrev pub greyed : Heap → ℕ → Heap
greyed v a = heap (lowered v.state a) v.words v.marks (with_bit v.greys a)

abbrev pub acted : Meaning → Heap → ℕ → Fate → Heap
acted m v a Stay = v
acted m v a (Gone to) = v
acted m v a Mark = marked v a
acted m v a Grey = greyed (marked v a) a
acted m v a (Copy p n to) = copied m v p a n to
acted m v a (Fresh p n s) = copied m (taken m v p s) p a n (s * 256)

abbrev pub answered : ℕ → Fate → ℕ
answered a Stay = a
answered a (Gone to) = to
answered a Mark = a
answered a Grey = a
answered a (Copy p n to) = to
answered a (Fresh p n s) = s * 256

abbrev pub fate_of : Meaning → Plan → Heap → ℕ → Fate
fate_of m y v a = decided m y v.state v.words v.marks a

abbrev pub fixed : Meaning → Plan → Heap → ℕ → Heap
fixed m y v a = acted m v a (fate_of m y v a)

abbrev pub fix_answer : Meaning → Plan → Heap → ℕ → ℕ
fix_answer m y v a = answered a (fate_of m y v a)

-- ---- the references of one object

-- slot i of the object of n words at a, which held the reference `old`, holds `new`
abbrev pub referred : Meaning → Heap → ℕ → ℕ → Shape → ℕ → ℕ → ℕ → Heap
referred m v a n s i old new = cond (new == old) v (heap v.state (rewritten (m.with_slot s i (Reference new)) a n v.words) v.marks v.greys)

abbrev pub by_slot : Meaning → Plan → Heap → ℕ → ℕ → Shape → ℕ → Slot → Heap
by_slot m y v a n s i (Reference r) = referred m (fixed m y v r) a n s i r (fix_answer m y v r)
by_slot m y v a n s i (Number k) = v

-- each slot is read when its turn comes
abbrev pub slot_fixed : Meaning → Plan → Heap → ℕ → ℕ → Shape → ℕ → Heap
slot_fixed m y v a n s i = by_slot m y v a n s i (m.slot s (part a n v.words) i)

-- the first k slots
abbrev pub slots_fixed : Meaning → Plan → Heap → ℕ → ℕ → Shape → ℕ → Heap
slots_fixed m y v a n s zero = v
slots_fixed m y v a n s (suc k) = slot_fixed m y (slots_fixed m y v a n s k) a n s k

abbrev pub by_object : Meaning → Plan → Heap → ℕ → Head → Heap
by_object m y v a Nothing = v
by_object m y v a (Object s) = slots_fixed m y v a (m.size s) s s.n
by_object m y v a (Forwarded k to) = v
by_object m y v a (Padding k) = v

abbrev pub scanned : Meaning → Plan → Heap → ℕ → Heap
scanned m y v a = cond (nat_lt 65535 a) v (cond (nat_lt (length v.words) (limit_of a)) v (by_object m y v a (head_at m v.words a)))

-- ---- the grey objects

abbrev pub ungreyed : Heap → ℕ → Heap
ungreyed v a = heap (with_low v.state a) v.words v.marks (without_bit v.greys a)

abbrev pub turned : Meaning → Plan → Heap → ℕ → Heap
turned m y v a = scanned m y (ungreyed v a) a

abbrev pub next : Heap → (ℕ → Heap) → Option ℕ → Heap
next v more None = v
next v more (Some a) = more a

-- at most k rounds: the lowest grey object is ungreyed and scanned
abbrev pub rounded : Meaning → Plan → ℕ → Heap → Heap
rounded m y zero v = v
rounded m y (suc k) v = next v (λ a. rounded m y k (turned m y v a)) (lowest_bit v.greys v.state.low)

-- ---- the sweep of a segment

-- a thing that ends at e, and is no marked object
abbrev pub loose : ℕ → Stand
loose e = record { end = e; is_kept = false }

-- of the thing at `at` in a row that ends at `limit`: where it ends, and whether it is a marked object;
-- what is no thing is taken for the rest of the row
abbrev pub stand_by : List ℕ → ℕ → ℕ → Meaning → Head → Stand
stand_by ms at limit m Nothing = loose limit
stand_by ms at limit m (Object s) = record { end = at + m.size s; is_kept = bit ms at }
stand_by ms at limit m (Forwarded k to) = loose (at + k)
stand_by ms at limit m (Padding k) = loose (at + k)

abbrev pub stood : Meaning → List ℕ → List ℕ → ℕ → ℕ → Stand
stood m ws ms at limit = stand_by ms at limit m (seen m (part at (limit - at) ws))

-- a walk over at most k things of a row: what is done at each, and where the next begins
abbrev pub walked : {S : Type 0} → (S → ℕ → S) → (S → ℕ → ℕ) → ℕ → ℕ → S → ℕ → S
walked f onto limit zero s at = s
walked f onto limit (suc k) s at = cond (nat_lt at limit) (walked f onto limit k (f s at) (onto s at)) s

-- the words so far, and where the run begins that has nothing marked in it
pub record Row : Type 0 where
  pub words : List ℕ
  pub run : ℕ

abbrev pub row : List ℕ → ℕ → Row
row ws run = record { words = ws; run = run }

-- a marked object ends a run, which becomes one padding
abbrev pub row_by : Meaning → Row → ℕ → Stand → Row
row_by m r at t = cond t.is_kept (row (padded_part m r.run at r.words) t.end) r

abbrev pub thing_swept : Meaning → List ℕ → ℕ → Row → ℕ → Row
thing_swept m ms limit r at = row_by m r at (stood m r.words ms at limit)

abbrev pub thing_end : Meaning → List ℕ → ℕ → Row → ℕ → ℕ
thing_end m ms limit r at = (stood m r.words ms at limit).end

-- the things from base to limit, all but the last run
abbrev pub swept_row : Meaning → List ℕ → List ℕ → ℕ → ℕ → Row
swept_row m ws ms base limit = walked (thing_swept m ms limit) (thing_end m ms limit) limit (limit - base) (row ws base) base

-- A segment without a marked object is freed; else what is left becomes padding.
abbrev pub last_words : Meaning → ℕ → Row → List ℕ
last_words m s r = cond (r.run == s * 256) (freed_words r.words s) (padded_part m r.run (s * 256 + 256) r.words)

abbrev pub last_segments : Segments → ℕ → Row → Segments
last_segments g s r = cond (r.run == s * 256) (freed g (length r.words) s) g

abbrev pub swept_words : Meaning → List ℕ → List ℕ → ℕ → List ℕ
swept_words m ws ms s = cond (in_arena (length ws) s) (last_words m s (swept_row m ws ms (s * 256) (s * 256 + 256))) ws

abbrev pub swept_segments : Meaning → Segments → List ℕ → List ℕ → ℕ → Segments
swept_segments m g ws ms s = cond (in_arena (length ws) s) (last_segments g s (swept_row m ws ms (s * 256) (s * 256 + 256))) g
