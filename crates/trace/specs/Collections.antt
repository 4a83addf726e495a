-- The collection of a set of pools.
use Rattle.std.specs.Prelude.{ℕ, zero, suc, ◌+◌, ◌-◌, ◌*◌, ◌/◌, ◌%◌, ◌^◌, min, Bool, true, false, cond, not, ◌&&◌, ◌||◌, List, map, length, Some, None, Option, ◌==◌, bit_or, nat_le, nat_lt, slice_index, slice_index_or, slice_set}
use Rattle.std.specs.List.{range_with_len}
use Rattle.format.specs.declared.things.Head.{Head}
use Rattle.format.specs.declared.things.Head.TheVariants.{Nothing, Object, Forwarded, Padding}
use Rattle.format.specs.Meaning.{Meaning, seen}
use Rattle.format.specs.Laws.{part}
use Rattle.arena.specs.declared.buffers.Buffer.{Buffer}
use Rattle.arena.specs.declared.segments.Segments.{Segments}
use Rattle.arena.specs.Boards.{ones_of}
use Rattle.arena.specs.Segments.{Owner, owner_of, segments_in}
use Rattle.arena.specs.Buffers.{no_buffer, padded_part}
use Rattle.location.specs.Locations.{zone_bit}
use Rattle.trace.specs.declared.state.Class.{Class}
use Rattle.trace.specs.declared.state.Class.TheVariants.{Amc, Ams, Lo}
use Rattle.trace.specs.declared.state.Plan.{Plan}
use Rattle.trace.specs.declared.state.Trace.{Trace}
use Rattle.trace.specs.Traces.{limit_of, condemns, rest, target_of, Heap, heap, marked, greyed, fixed, fix_answer, scanned, rounded, stood, walked, swept_words, swept_segments}

-- ---- closing all buffers

abbrev pub buffer_of : List Buffer → ℕ → Buffer
buffer_of bs i = slice_index_or bs i no_buffer

-- the first k buffers closed
abbrev pub buffers_closed : Meaning → List Buffer → List ℕ → ℕ → List ℕ
buffers_closed m bs ws zero = ws
buffers_closed m bs ws (suc i) = padded_part m (buffer_of bs i).init (buffer_of bs i).limit (buffers_closed m bs ws i)

unfoldable pub all_buffers_closed : Meaning → List Buffer → List ℕ → List ℕ
all_buffers_closed m bs ws = buffers_closed m bs ws 8

-- ---- condemning

abbrev pub in_set : ℕ → Owner → Bool
in_set pools None = false
in_set pools (Some p) = nat_lt p 8 && pools / 2 ^ p % 2 == 1

-- A segment is condemned if it belongs to a pool of the set.
unfoldable pub condemned_by : Segments → ℕ → List Bool
condemned_by g pools = map (λ s. in_set pools (owner_of g s)) (range_with_len 0 256)

-- the class of a pool, and of the pool whose a segment is
abbrev pub class_in : List Class → ℕ → Option Class
class_in classes p = cond (nat_lt p 8) (Some (slice_index_or classes p Amc)) None

abbrev pub class_of_owner : List Class → Owner → Option Class
class_of_owner classes None = None
class_of_owner classes (Some p) = class_in classes p

abbrev pub is_amc : Class → Bool
is_amc Amc = true
is_amc Ams = false
is_amc Lo = false

abbrev pub is_lo : Class → Bool
is_lo Amc = false
is_lo Ams = false
is_lo Lo = true

abbrev pub moves : List Class → Owner → Bool
moves classes None = false
moves classes (Some p) = nat_lt p 8 && is_amc (slice_index_or classes p Amc)

-- the zone of segment s, if it is a condemned AMC segment
abbrev pub zone_if : Plan → Segments → ℕ → ℕ
zone_if y g s = cond (slice_index_or y.condemned s false && moves y.classes (owner_of g s)) (zone_bit (s * 256)) 0

-- those of the first k segments
abbrev pub zones_of : Plan → Segments → ℕ → ℕ
zones_of y g zero = 0
zones_of y g (suc s) = bit_or (zones_of y g s) (zone_if y g s)

unfoldable pub all_zones : Plan → Segments → ℕ
all_zones y g = zones_of y g 256

-- ---- ambiguous words

abbrev pub base_of : Head → ℕ → Option ℕ
base_of Nothing at = None
base_of (Object s) at = Some at
base_of (Forwarded k to) at = None
base_of (Padding k) at = None

-- where the object of a row begins into which w points, in at most k steps from `at`
abbrev pub pointed : Meaning → List ℕ → List ℕ → ℕ → ℕ → ℕ → ℕ → Option ℕ
pointed m ws ms limit w zero at = None
pointed m ws ms limit w (suc k) at =
    cond (nat_lt at limit) (cond (nat_lt w ((stood m ws ms at limit).end)) (base_of (seen m (part at (limit - at) ws)) at) (pointed m ws ms limit w k ((stood m ws ms at limit).end))) None

abbrev pub pointed_in : Meaning → List ℕ → List ℕ → ℕ → ℕ → ℕ → Option ℕ
pointed_in m ws ms base limit w = pointed m ws ms limit w (limit - base) base

-- w points into a condemned segment of the arena
abbrev pub nails : Plan → ℕ → ℕ → Bool
nails y len w = not (nat_lt w 256 || nat_lt 65535 w) && (nat_le (limit_of w) len && condemns y w)

-- the base of the object into which w points, if that is in a condemned segment
abbrev pub nail_of : Meaning → Plan → Heap → ℕ → Option ℕ
nail_of m y v w = cond (nails y (length v.words) w) (pointed_in m v.words v.marks (w / 256 * 256) (w / 256 * 256 + 256) w) None

abbrev pub nailed_at : Heap → Option ℕ → Heap
nailed_at v None = v
nailed_at v (Some a) = greyed (marked v a) a

-- the object into which w points is marked and grey
abbrev pub nailed : Meaning → Plan → Heap → ℕ → Heap
nailed m y v w = cond (nails y (length v.words) w) (nailed_at v (pointed_in m v.words v.marks (w / 256 * 256) (w / 256 * 256 + 256) w)) v

-- the first k ambiguous words
abbrev pub all_nailed : Meaning → Plan → List ℕ → Heap → ℕ → Heap
all_nailed m y as' v zero = v
all_nailed m y as' v (suc i) = nailed m y (all_nailed m y as' v i) (slice_index as' i)

unfoldable pub nailed_by_all : Meaning → Plan → List ℕ → Heap → Heap
nailed_by_all m y as' v = all_nailed m y as' v 8

-- ---- registers

pub record Rooted : Type 0 where
  pub roots : List ℕ
  pub heap : Heap

abbrev pub rooted : List ℕ → Heap → Rooted
rooted rs v = record { roots = rs; heap = v }

abbrev pub root_fixed : Meaning → Plan → Rooted → ℕ → Rooted
root_fixed m y x i = rooted (slice_set x.roots i (fix_answer m y x.heap (slice_index x.roots i))) (fixed m y x.heap (slice_index x.roots i))

-- the first k registers, ascending
abbrev pub roots_fixed : Meaning → Plan → Rooted → ℕ → Rooted
roots_fixed m y x zero = x
roots_fixed m y x (suc i) = root_fixed m y (roots_fixed m y x i) i

unfoldable pub all_roots : Meaning → Plan → Rooted → Rooted
all_roots m y x = roots_fixed m y x 16

-- ---- segments that were in use and are not condemned

abbrev pub end_at : Meaning → ℕ → Heap → ℕ → ℕ
end_at m limit v at = (stood m v.words v.marks at limit).end

-- the things of a row, by address
abbrev pub row_scanned : Meaning → Plan → Heap → ℕ → ℕ → Heap
row_scanned m y v base limit = walked (scanned m y) (end_at m limit) limit (limit - base) v base

abbrev pub refers : List Class → Owner → Bool
refers classes None = false
refers classes (Some p) = nat_lt p 8 && not (is_lo (slice_index_or classes p Amc))

-- LO is skipped.
abbrev pub segment_scanned : Meaning → Plan → Segments → Heap → ℕ → Heap
segment_scanned m y used v s = cond (not (slice_index_or y.condemned s false) && refers y.classes (owner_of used s)) (row_scanned m y v (s * 256) (s * 256 + 256)) v

-- the first k segments
abbrev pub segments_scanned : Meaning → Plan → Segments → Heap → ℕ → Heap
segments_scanned m y used v zero = v
segments_scanned m y used v (suc s) = segment_scanned m y used (segments_scanned m y used v s) s

unfoldable pub all_scanned : Meaning → Plan → Segments → Heap → Heap
all_scanned m y used v = segments_scanned m y used v (segments_in (length v.words))

-- ---- the end

-- the rests of the first k pools' targets padded
abbrev pub targets_closed : Meaning → Trace → List ℕ → ℕ → List ℕ
targets_closed m t ws zero = ws
targets_closed m t ws (suc p) = padded_part m (target_of t p) (target_of t p + rest (target_of t p)) (targets_closed m t ws p)

unfoldable pub all_targets_closed : Meaning → Trace → List ℕ → List ℕ
all_targets_closed m t ws = targets_closed m t ws 8

pub record Ground : Type 0 where
  pub segments : Segments
  pub words : List ℕ

abbrev pub ground : Segments → List ℕ → Ground
ground g ws = record { segments = g; words = ws }

abbrev pub segment_swept : Meaning → Plan → List ℕ → Ground → ℕ → Ground
segment_swept m y ms x s = cond (slice_index_or y.condemned s false) (ground (swept_segments m x.segments x.words ms s) (swept_words m x.words ms s)) x

-- the condemned segments among the first k swept
abbrev pub segments_swept : Meaning → Plan → List ℕ → Ground → ℕ → Ground
segments_swept m y ms x zero = x
segments_swept m y ms x (suc s) = segment_swept m y ms (segments_swept m y ms x s) s

unfoldable pub all_swept : Meaning → Plan → List ℕ → Ground → Ground
all_swept m y ms x = segments_swept m y ms x (segments_in (length x.words))

-- objects moved, and objects kept in place
abbrev pub value_of : ℕ → List ℕ → ℕ
value_of moved ms = min (moved * 65536 + ones_of ms) 4294967295

-- ---- from the roots to the sweep

abbrev pub targets_ended : Meaning → Heap → Heap
targets_ended m v = heap v.state (all_targets_closed m v.state v.words) v.marks v.greys

-- what follows the registers: the segments in use, rounds while something is grey, and the targets' rests
abbrev pub after_roots : Meaning → Plan → Segments → Rooted → Rooted
after_roots m y used x = rooted x.roots (targets_ended m (rounded m y (length x.heap.words) (all_scanned m y used x.heap)))

-- The state as it stands before the sweep: an original that was moved reads as forwarded there.
unfoldable pub traced : Meaning → Plan → List ℕ → Rooted → Rooted
traced m y as' x = after_roots m y x.heap.state.segments (all_roots m y (rooted x.roots (nailed_by_all m y as' x.heap)))
