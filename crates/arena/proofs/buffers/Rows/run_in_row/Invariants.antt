use Rattle.std.proofs.Common.{◌≡◌, ◌-◌}
use Rattle.arena.specs.Runs.{run_in}
use Rattle.arena.proofs.Walks.{found_from}
use Rattle.arena.proofs.buffers.Rows.run_in_row.Given as goal

abbrev pub invariant-loop-step : goal.invariant-loop-step
invariant-loop-step g l =
    found_from (g.F.Format.meaning l.self.format.now) l.self.buffers.now l.self.words.now l.end l.size l.run l.place
    ≡ run_in (g.F.Format.meaning l.self.format.now) l.self.buffers.now l.self.words.now l.size l.end l.from

abbrev pub decreases-loop-step : goal.decreases-loop-step
decreases-loop-step g l = l.end - l.place
