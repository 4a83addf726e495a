use Rattle.std.proofs.Common.{◌≡◌}
use Rattle.trace.specs.Collections.{zones_of}
use Rattle.trace.proofs.state.Plan.condemned_zones.Given as goal

abbrev pub invariant-loop-s : goal.invariant-loop-s
invariant-loop-s l = l.zones ≡ zones_of l.self l.segments l.s
