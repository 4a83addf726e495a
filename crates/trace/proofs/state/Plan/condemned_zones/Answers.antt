use Rattle.std.proofs.Common.{◌≡◌, arith}
use Rattle.trace.specs.Collections.{all_zones}
use Rattle.trace.proofs.state.Plan.condemned_zones.Goals as goal

pub returns : goal.returns
unfolding all_zones
returns c =
    let e : c.loop-s.s ≡ 256 = omega arith in
    rw e at c.loop-s.invariant
