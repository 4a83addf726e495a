use Rattle.std.proofs.Common.{sym, ◌∙◌, arith}
use Rattle.trace.proofs.Pointing.{points_on, points_here}
use Rattle.trace.proofs.state.Tracer.pointed_object.Goals as goal

pub returns-then-word-end : goal.returns-then-word-end
returns-then-word-end g c =
    let e = c.end_at-end.ensures.end in
    rw (c.object_base.ensures, c.look.ensures)
    (sym (points_here (g.F.Format.meaning c.args.self.now.format.now) c.args.heap.now.words.now c.args.heap.now.marks.now c.args.limit c.args.word c.loop-at.at c.loop-at-test.true (omega (arith, c.if-word-end.true, e)))
    ∙ c.loop-at.invariant.0)

pub loop-at-preserved : goal.loop-at-preserved
loop-at-preserved g c =
    let e = c.end_at-end.ensures.end in (
      rw e (sym (points_on (g.F.Format.meaning c.args.self.now.format.now) c.args.heap.now.words.now c.args.heap.now.marks.now c.args.limit c.args.word c.loop-at.at c.loop-at-test.true (omega (arith, c.if-word-end.false, e)))
          ∙ c.loop-at.invariant.0),
      omega (arith, c.end_at-end.ensures.fits),
    )
