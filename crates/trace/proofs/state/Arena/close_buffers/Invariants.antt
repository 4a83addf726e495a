use Rattle.std.proofs.Common.{◌≡◌}
use Rattle.trace.specs.Collections.{buffers_closed}
use Rattle.trace.proofs.state.Arena.close_buffers.Given as goal

abbrev pub invariant-loop-buffer : goal.invariant-loop-buffer
invariant-loop-buffer g l = l.words ≡ buffers_closed (g.F.Format.meaning l.format) l.fn.self.buffers l.initial.words l.buffer-index
