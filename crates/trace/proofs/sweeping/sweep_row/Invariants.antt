use Rattle.std.proofs.Common.{◌≡◌, ◌-◌, ◌≤◌}
use Rattle.trace.specs.Traces.{row, walked, thing_swept, thing_end, swept_row}
use Rattle.trace.proofs.sweeping.sweep_row.Given as goal

abbrev pub invariant-loop-at : goal.invariant-loop-at
invariant-loop-at g l =
    (walked (thing_swept (g.F.Format.meaning l.format) l.marks l.limit) (thing_end (g.F.Format.meaning l.format) l.marks l.limit) l.limit (l.limit - l.at) (row l.words l.run) l.at
    ≡ swept_row (g.F.Format.meaning l.format) l.initial.words l.marks l.base l.limit)
    × (l.at ≤ l.limit)

abbrev pub decreases-loop-at : goal.decreases-loop-at
decreases-loop-at g l = l.limit - l.at
