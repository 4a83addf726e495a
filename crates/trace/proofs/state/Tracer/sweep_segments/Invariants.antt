use Rattle.std.proofs.Common.{◌≡◌}
use Rattle.trace.specs.Collections.{ground, segments_swept}
use Rattle.trace.proofs.state.Tracer.sweep_segments.Given as goal

abbrev pub invariant-loop-s : goal.invariant-loop-s
invariant-loop-s g l = ground l.segments l.words ≡ segments_swept (g.F.Format.meaning l.self.format.now) l.self.plan.now l.marks (ground l.initial.segments l.initial.words) l.s
