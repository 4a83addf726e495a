use Rattle.std.proofs.Common.{◌≡◌, ◌-◌, ◌≤◌}
use Rattle.trace.specs.Collections.{pointed_in}
use Rattle.trace.proofs.state.Tracer.pointed_object.Given as goal

abbrev pub invariant-loop-at : goal.invariant-loop-at
invariant-loop-at g l =
    (pointed_in (g.F.Format.meaning l.self.format.now) l.heap.words.now l.heap.marks.now l.at l.limit l.word ≡ pointed_in (g.F.Format.meaning l.self.format.now) l.heap.words.now l.heap.marks.now l.base l.limit l.word)
    × (l.at ≤ l.limit)

abbrev pub decreases-loop-at : goal.decreases-loop-at
decreases-loop-at g l = l.limit - l.at
