-- Lent memory, as the definitions see it.
use Rattle.std.specs.Prelude.{◌≡◌, ℕ, List, length}
use Rattle.std.specs.Borrow.{MutBor}
use Rattle.trace.specs.declared.state.Arena.{Arena}
use Rattle.trace.specs.declared.heap.Memory.{Memory}
use Rattle.trace.specs.declared.heap.Heap.{Heap as LentHeap}
use Rattle.trace.specs.Traces.{Heap, heap}
use Rattle.trace.specs.Collect.{Held, held}

-- what a trace works on: its state, the words and the boards
abbrev pub contents : LentHeap → Heap
contents h = heap h.state h.words.now h.marks.now h.greys.now

-- what a collection works on: the arena, the words and the boards
abbrev pub held_in : Arena → Memory → Held
held_in a k = held a k.words.now k.marks.now k.greys.now

-- a lent slice is the one that it was, and as long
abbrev Stays : MutBor (List ℕ) → MutBor (List ℕ) → Type 0
Stays r s = (s.ghost_name ≡ r.ghost_name) × (length s.now ≡ length r.now)

-- The words and the boards are the ones that were lent, and no others. Every step says so in its contract,
-- since it ties what is after a call to what was before, which no invariant of a type can.
abbrev pub HeapStaysLent : LentHeap → LentHeap → Type 0
HeapStaysLent h k = Stays h.words k.words × Stays h.marks k.marks × Stays h.greys k.greys

abbrev pub StaysLent : Memory → Memory → Type 0
StaysLent h k = Stays h.words k.words × Stays h.marks k.marks × Stays h.greys k.greys
