use Rattle.std.proofs.Common.{◌≡◌}
use Rattle.trace.specs.Collections.{segments_scanned}
use Rattle.trace.specs.Lent.{contents, HeapStaysLent}
use Rattle.trace.proofs.state.Tracer.scan_segments.Given as goal

abbrev pub invariant-loop-s : goal.invariant-loop-s
invariant-loop-s g l =
    (contents l.heap ≡ segments_scanned (g.F.Format.meaning l.self.format.now) l.self.plan.now l.used (contents l.initial.heap) l.s)
    × HeapStaysLent l.initial.heap l.heap
