-- The whole of a collection: what is refused, and what stands after.
use Rattle.std.specs.Prelude.{ℕ, ◌+◌, ◌/◌, ◌%◌, Bool, cond, ◌&&◌, List, length, replicate, Ok, Err, Result, ◌==◌, nat_le}
use Rattle.format.specs.declared.refusals.Refusal.{Refusal}
use Rattle.format.specs.declared.refusals.Refusal.TheVariants.{WrongLength, CollectionsSpent}
use Rattle.format.specs.Meaning.{Meaning}
use Rattle.arena.specs.declared.segments.Segments.{Segments}
use Rattle.arena.specs.Segments.{all_free}
use Rattle.arena.specs.Buffers.{no_buffer}
use Rattle.location.specs.Locations.{empty_history, can_age, aged}
use Rattle.trace.specs.declared.state.Class.{Class}
use Rattle.trace.specs.declared.state.Arena.{Arena}
use Rattle.trace.specs.declared.state.Plan.{Plan}
use Rattle.trace.specs.declared.state.Trace.{Trace}
use Rattle.trace.specs.Traces.{heap}
use Rattle.trace.specs.Collections.{all_buffers_closed, condemned_by, all_zones, Rooted, rooted, traced, Ground, ground, all_swept, value_of}

-- An arena has whole segments, 4 to 256 of them, and no more words than there are addresses; a board has
-- a bit for each word.
abbrev pub fits : Meaning → ℕ → ℕ → ℕ → Bool
fits m words marks greys =
    (words % 256 == 0) && (nat_le 1024 words && (nat_le words 65536 && (nat_le words (m.greatest_address + 1) && (marks == words / 32 && greys == words / 32))))

-- what a collection works on
pub record Held : Type 0 where
  pub arena : Arena
  pub words : List ℕ
  pub marks : List ℕ
  pub greys : List ℕ

abbrev pub held : Arena → List ℕ → List ℕ → List ℕ → Held
held a ws ms gs = record { arena = a; words = ws; marks = ms; greys = gs }

pub record Outcome (R : Type 0) : Type 0 where
  pub answer : R
  pub after : Held

abbrev pub outcome : {R : Type 0} → R → Held → Outcome R
outcome r h = record { answer = r; after = h }

-- every segment is free, there are no buffers, and the roots lead nowhere
abbrev pub new_arena : List Class → Arena
new_arena classes =
    record { segments = all_free; buffers = replicate 8 no_buffer; classes = classes; history = empty_history; registers = replicate 16 0; ambiguous = replicate 8 0 }

-- the arena when its buffers have been closed
abbrev pub unbuffered : Arena → Arena
unbuffered a =
    record { segments = a.segments; buffers = replicate 8 no_buffer; classes = a.classes; history = a.history; registers = a.registers; ambiguous = a.ambiguous }

abbrev pub plan_of : Arena → ℕ → Plan
plan_of a pools = record { condemned = condemned_by a.segments pools; classes = a.classes }

-- no pool has a target yet
abbrev pub untraced : Segments → Trace
untraced g = record { segments = g; targets = replicate 8 0; moved = 0; low = 0 }

-- the buffers are closed, and nothing has been traced
abbrev pub begun : Meaning → Held → Rooted
begun m h = rooted h.arena.registers (heap (untraced h.arena.segments) (all_buffers_closed m h.arena.buffers h.words) h.marks h.greys)

abbrev pub before_sweep : Meaning → Plan → Held → Rooted
before_sweep m y h = traced m y h.arena.ambiguous (begun m h)

abbrev pub after_sweep : Meaning → Plan → Rooted → Ground
after_sweep m y x = all_swept m y x.heap.marks (ground x.heap.state.segments x.heap.words)

-- There are no buffers, registers are as the trace left them, and both boards are all 0.
abbrev pub ended : Held → Rooted → Ground → Held
ended h x g =
    held (record { segments = g.segments; buffers = replicate 8 no_buffer; classes = h.arena.classes; history = h.arena.history; registers = x.roots; ambiguous = h.arena.ambiguous })
    g.words (replicate (length h.marks) 0) (replicate (length h.greys) 0)

-- the value is counted before the boards are cleared
abbrev pub swept_from : Meaning → Plan → Held → Rooted → Outcome ℕ
swept_from m y h x = outcome (value_of x.heap.state.moved x.heap.marks) (ended h x (after_sweep m y x))

abbrev pub performed : Meaning → Plan → Held → Outcome ℕ
performed m y h = swept_from m y h (before_sweep m y h)

-- the dependencies have been aged by the zones of the condemned AMC segments
abbrev pub aged_by : Arena → ℕ → Arena
aged_by a pools =
    record { segments = a.segments; buffers = a.buffers; classes = a.classes; history = aged a.history (all_zones (plan_of a pools) a.segments); registers = a.registers; ambiguous = a.ambiguous }

abbrev pub held_aged : Held → ℕ → Held
held_aged h pools = held (aged_by h.arena pools) h.words h.marks h.greys

abbrev pub answering : Outcome ℕ → Outcome (Result ℕ Refusal)
answering o = outcome (Ok o.answer) o.after

abbrev pub refused : Refusal → Held → Outcome (Result ℕ Refusal)
refused r h = outcome (Err r) h

-- Lengths are judged first, then whether collections remain; a refused collection changes nothing.
abbrev pub collected : Meaning → Held → ℕ → Outcome (Result ℕ Refusal)
collected m h pools =
    cond (fits m (length h.words) (length h.marks) (length h.greys))
    (cond (can_age h.arena.history) (answering (performed m (plan_of h.arena pools) (held_aged h pools))) (refused CollectionsSpent h))
    (refused WrongLength h)
