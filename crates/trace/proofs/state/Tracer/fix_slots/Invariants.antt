use Rattle.std.proofs.Common.{◌≡◌}
use Rattle.trace.specs.Traces.{slots_fixed}
use Rattle.trace.specs.Lent.{contents, HeapStaysLent}
use Rattle.trace.proofs.state.Tracer.fix_slots.Given as goal

abbrev pub invariant-loop-i : goal.invariant-loop-i
invariant-loop-i g l =
    (contents l.heap ≡ slots_fixed (g.F.Format.meaning l.self.format.now) l.self.plan.now (contents l.initial.heap) l.a ((g.F.Format.meaning l.self.format.now).size l.shape) l.shape l.i)
    × HeapStaysLent l.initial.heap l.heap
