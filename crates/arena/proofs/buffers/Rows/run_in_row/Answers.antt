use Rattle.std.proofs.Common.{sym, ◌∙◌}
use Rattle.arena.proofs.Walks.{found_fits}
use Rattle.arena.proofs.buffers.Rows.run_in_row.Goals as goal

pub returns-in-Some-fitting_run : goal.returns-in-Some-fitting_run
returns-in-Some-fitting_run g c =
    let rows = c.args.self.now in
    sym (found_fits (g.F.Format.meaning rows.format.now) rows.buffers.now rows.words.now c.args.end c.args.size c.loop-step.run c.loop-step.place
    _ _ _ c.in-Thing.is c.in-Some.ensures c.in-Some-fitting_run.ensures) ∙ c.loop-step.invariant

pub loop-step-preserved : goal.loop-step-preserved
loop-step-preserved g c =
    let rows = c.args.self.now in
    sym (found_fits (g.F.Format.meaning rows.format.now) rows.buffers.now rows.words.now c.args.end c.args.size c.loop-step.run c.loop-step.place
    _ _ _ c.in-Thing.is c.in-Some.ensures c.in_default-fitting_run.ensures) ∙ c.loop-step.invariant
