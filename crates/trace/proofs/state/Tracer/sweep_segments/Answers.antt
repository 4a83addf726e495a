use Rattle.std.proofs.Common.{add-one}
use Rattle.trace.proofs.state.Tracer.sweep_segments.Goals as goal

pub loop-s-preserved : goal.loop-s-preserved
loop-s-preserved g c = rw (add-one c.loop-s.s, ← c.loop-s.invariant) c.sweep_condemned.ensures
