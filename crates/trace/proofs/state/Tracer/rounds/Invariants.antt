use Rattle.std.proofs.Common.{◌≡◌, ◌-◌}
use Rattle.trace.specs.Traces.{rounded}
use Rattle.trace.specs.Lent.{contents, HeapStaysLent}
use Rattle.trace.proofs.state.Tracer.rounds.Given as goal

abbrev pub invariant-loop : goal.invariant-loop
invariant-loop g l =
    let m = g.F.Format.meaning l.self.format.now in
    (rounded m l.self.plan.now (l.n - l.counter) (contents l.heap) ≡ rounded m l.self.plan.now l.n (contents l.initial.heap))
    × HeapStaysLent l.initial.heap l.heap
