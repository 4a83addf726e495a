use Rattle.std.proofs.Common.{◌≡◌}
use Rattle.trace.specs.Collections.{all_nailed}
use Rattle.trace.specs.Lent.{contents, HeapStaysLent}
use Rattle.trace.proofs.state.Tracer.nail_all.Given as goal

abbrev pub invariant-loop-word : goal.invariant-loop-word
invariant-loop-word g l =
    (contents l.heap ≡ all_nailed (g.F.Format.meaning l.self.format.now) l.self.plan.now l.ambiguous (contents l.initial.heap) l.word-index)
    × HeapStaysLent l.initial.heap l.heap
