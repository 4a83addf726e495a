-- What a trace remembers so as not to search for it again, and that it is right.
use Rattle.std.specs.Prelude.{◌≡◌, ℕ, ◌<◌, false, List, Some}
use Rattle.format.specs.declared.things.Shape.{Shape}
use Rattle.format.specs.Meaning.{Meaning}
use Rattle.arena.specs.declared.segments.Segments.{Segments}
use Rattle.arena.specs.Boards.{bit, lowest_bit}
use Rattle.trace.specs.declared.state.Plan.{Plan}
use Rattle.trace.specs.Traces.{Heap, heap, fixed, referred, ungreyed}
use Rattle.trace.specs.Collections.{nailed}
use Rattle.trace.specs.Collect.{untraced}

-- Nothing is grey below the bound.
pub record Right (v : Heap) : Type 0 where
  pub low : (a : ℕ) → a < v.state.low → bit v.greys a ≡ false

-- It is right as a trace begins, and each step keeps it right, over any words. So a round takes the
-- lowest of all grey objects.
pub record StaysRight (m : Meaning) (y : Plan) : Type 0 where
  pub begins : (g : Segments) (ws ms gs : List ℕ) → Right (heap (untraced g) ws ms gs)
  pub nails : (v : Heap) (w : ℕ) → Right v → Right (nailed m y v w)
  pub fixes : (v : Heap) (a : ℕ) → Right v → Right (fixed m y v a)
  pub slots : (v : Heap) (a n : ℕ) (s : Shape) (i old new : ℕ) → Right v → Right (referred m v a n s i old new)
  pub ungreys : (v : Heap) (a : ℕ) → Right v → lowest_bit v.greys v.state.low ≡ Some a → Right (ungreyed v a)
  pub lowest : (v : Heap) → Right v → lowest_bit v.greys v.state.low ≡ lowest_bit v.greys 0

abbrev pub Remembers : Type 0
Remembers = (m : Meaning) (y : Plan) → StaysRight m y
