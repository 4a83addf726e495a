-- Segments and their owners.
use Rattle.std.specs.Prelude.{ℕ, zero, suc, ◌+◌, ◌-◌, ◌*◌, ◌/◌, ◌<◌, ◌≤◌, min, Bool, cond, List, length, replicate, Some, None, Option, nat_le, slice_index_or, slice_set}
use borrow.Rule.Slice.PartMut.{put_mid}
use Rattle.arena.specs.declared.segments.Segments.{Segments}

-- whose a segment is: a pool's, or nobody's
abbrev pub Owner : Type 0
Owner = Option ℕ

abbrev pub all_free : Segments
all_free = record { owners = replicate 256 None }

abbrev pub owner_of : Segments → ℕ → Owner
owner_of g s = slice_index_or g.owners s None

-- the owners after segment s has become a pool's
abbrev pub owned : Segments → ℕ → ℕ → Segments
owned g s p = record { owners = slice_set g.owners s (Some p) }

-- how many segments an arena of so many words has
abbrev pub segments_in : ℕ → ℕ
segments_in len = min (len / 256) 256

abbrev pub free_or : Owner → ℕ → Option ℕ → Option ℕ
free_or None s rest = Some s
free_or (Some p) s rest = rest

-- the lowest free of the k segments from s on
abbrev pub free_among : ℕ → Segments → ℕ → Option ℕ
free_among zero g s = None
free_among (suc k) g s = free_or (owner_of g s) s (free_among k g (s + 1))

-- the lowest free segment from s on, segment 0 among them
abbrev pub lowest_free_from : Segments → ℕ → ℕ → Option ℕ
lowest_free_from g len s = free_among (segments_in len - s) g s

abbrev pub lowest_free : Segments → ℕ → Option ℕ
lowest_free g len = lowest_free_from g len 1

-- the segment is no lower than `from`, and lies in the arena
abbrev pub InsideFrom : ℕ → ℕ → Option ℕ → Type 0
InsideFrom from len None = Unit {0}
InsideFrom from len (Some s) = (from ≤ s) × (s < 256) × (s * 256 + 256 ≤ len)

-- the segment lies in the arena, and is not segment 0
abbrev pub Inside : ℕ → Option ℕ → Type 0
Inside len r = InsideFrom 1 len r

abbrev pub in_arena : ℕ → ℕ → Bool
in_arena len s = nat_le (s * 256 + 256) len

-- A free segment's words are all 0.
abbrev pub freed : Segments → ℕ → ℕ → Segments
freed g len s = cond (in_arena len s) (record { owners = slice_set g.owners s None }) g

abbrev pub freed_words : List ℕ → ℕ → List ℕ
freed_words ws s = cond (in_arena (length ws) s) (put_mid (s * 256) 256 ws (replicate 256 0)) ws
