use Rattle.std.proofs.Common.{◌≡◌}
use Rattle.trace.specs.Traces.{heap}
use Rattle.trace.specs.Collections.{targets_closed}
use Rattle.trace.specs.Lent.{contents, HeapStaysLent}
use Rattle.trace.proofs.state.Tracer.close_targets.Given as goal

abbrev pub invariant-loop-at : goal.invariant-loop-at
invariant-loop-at g l =
    let v = contents l.initial.heap in
    (contents l.heap ≡ heap v.state (targets_closed (g.F.Format.meaning l.self.format.now) v.state v.words l.at-index) v.marks v.greys)
    × HeapStaysLent l.initial.heap l.heap
