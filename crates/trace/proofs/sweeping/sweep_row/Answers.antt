use Rattle.std.proofs.Common.{◌∙◌, arith}
use Rattle.trace.proofs.Walks.{step}
use Rattle.trace.proofs.sweeping.sweep_row.Goals as goal

pub loop-at-preserved-then-thing : goal.loop-at-preserved-then-thing
loop-at-preserved-then-thing g c =
    let m = g.F.Format.meaning c.args.format.now in
    let s = step m c.args.marks.now c.args.limit c.loop-at.words c.loop-at.run c.loop-at.at c.stand_at-thing.result (omega arith) c.stand_at-thing.ensures.which in (
      rw c.pad_part.ensures (rw c.if-thing.true at s ∙ c.loop-at.invariant.0),
      omega (arith, c.stand_at-thing.ensures.fits),
    )

pub loop-at-preserved : goal.loop-at-preserved
loop-at-preserved g c =
    let m = g.F.Format.meaning c.args.format.now in
    let s = step m c.args.marks.now c.args.limit c.loop-at.words c.loop-at.run c.loop-at.at c.stand_at-thing.result (omega arith) c.stand_at-thing.ensures.which in (
      rw c.if-thing.false at s ∙ c.loop-at.invariant.0,
      omega (arith, c.stand_at-thing.ensures.fits),
    )
