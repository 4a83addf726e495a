use Rattle.std.proofs.Common.{◌≡◌}
use Rattle.trace.specs.Collections.{rooted, roots_fixed}
use Rattle.trace.specs.Lent.{contents, HeapStaysLent}
use Rattle.trace.proofs.state.Tracer.fix_registers.Given as goal

abbrev pub invariant-loop-register : goal.invariant-loop-register
invariant-loop-register g l =
    (rooted l.registers (contents l.heap)
    ≡ roots_fixed (g.F.Format.meaning l.self.format.now) l.self.plan.now (rooted l.initial.registers (contents l.initial.heap)) l.register-index)
    × HeapStaysLent l.initial.heap l.heap
