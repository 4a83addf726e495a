use Rattle.std.proofs.Common.{◌∙◌, arith, rules}
use Rattle.trace.specs.Traces.{Heap, scanned}
use Rattle.trace.specs.Collections.{end_at}
use Rattle.trace.specs.Lent.{contents}
use Rattle.trace.proofs.Walks.{turn, stood_ends}
use Rattle.trace.proofs.state.Tracer.scan_row.Goals as goal

pub loop-at-preserved : goal.loop-at-preserved
loop-at-preserved g c =
    let m = g.F.Format.meaning c.args.self.now.format.now in
    let y = c.args.self.now.plan.now in
    let v : Heap = contents c.loop-at.heap in (
      rw (c.end_at-end.ensures.end, c.scan.ensures.after)
          (turn (scanned m y) (end_at m c.args.limit) c.args.limit (λ s at l. (stood_ends m s.words s.marks at c.args.limit l).0) v c.loop-at.at (omega arith) ∙ c.loop-at.invariant.0),
      omega (arith, c.end_at-end.ensures.fits),
      search rules,
    )
