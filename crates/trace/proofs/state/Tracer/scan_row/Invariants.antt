use Rattle.std.proofs.Common.{◌≡◌, ◌-◌, ◌≤◌}
use Rattle.trace.specs.Traces.{scanned, walked}
use Rattle.trace.specs.Collections.{end_at, row_scanned}
use Rattle.trace.specs.Lent.{contents, HeapStaysLent}
use Rattle.trace.proofs.state.Tracer.scan_row.Given as goal

abbrev pub invariant-loop-at : goal.invariant-loop-at
invariant-loop-at g l =
    let m = g.F.Format.meaning l.self.format.now in
    let y = l.self.plan.now in
    (walked (scanned m y) (end_at m l.limit) l.limit (l.limit - l.at) (contents l.heap) l.at ≡ row_scanned m y (contents l.initial.heap) l.base l.limit)
    × (l.at ≤ l.limit)
    × HeapStaysLent l.initial.heap l.heap

abbrev pub decreases-loop-at : goal.decreases-loop-at
decreases-loop-at g l = l.limit - l.at
