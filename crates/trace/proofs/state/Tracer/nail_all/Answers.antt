use Rattle.std.proofs.Common.{◌≡◌, arith}
use Rattle.trace.specs.Collections.{nailed_by_all}
use Rattle.trace.proofs.state.Tracer.nail_all.Goals as goal

pub returns-clause-after : goal.returns-clause-after
unfolding nailed_by_all
returns-clause-after g c =
    let e : c.loop-word.word-index ≡ 8 = omega arith in
    rw e at c.loop-word.invariant.0
