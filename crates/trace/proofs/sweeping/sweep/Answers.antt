use Rattle.std.proofs.Common.{◌∙◌, arith}
use Rattle.trace.specs.Traces.{row}
use Rattle.trace.proofs.Walks.{ended_free}
use Rattle.trace.proofs.sweeping.sweep.Goals as goal

pub returns-then-run-base-clause-words : goal.returns-then-run-base-clause-words
returns-then-run-base-clause-words g c =
    let h = ended_free (g.F.Format.meaning c.args.format.now) c.args.segments.now c.args.words.now c.args.marks.now c.args.segment
    (row c.sweep_row-run.new.words c.sweep_row-run.result) c.sweep_row-run.ensures (omega (arith, c.if-limit-words.true)) (omega (arith, c.if-run-base.true)) in
    c.free.ensures.words ∙ h.1
