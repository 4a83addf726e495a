use Rattle.std.proofs.Common.{◌≡◌, ◌+◌, ◌-◌, sym, ◌∙◌, arith, rules}
use Rattle.trace.specs.Lent.{contents}
use Rattle.trace.proofs.Turns.{stop, more}
use Rattle.trace.proofs.state.Tracer.rounds.Goals as goal

pub returns-in_default-clause-after : goal.returns-in_default-clause-after
returns-in_default-clause-after g c =
    sym (stop (g.F.Format.meaning c.args.self.now.format.now) c.args.self.now.plan.now (c.args.n - c.loop.counter) (contents c.loop.heap) (omega arith) c.in_default.ensures)
    ∙ c.loop.invariant.0

pub loop-preserved : goal.loop-preserved
loop-preserved g c =
    let m = g.F.Format.meaning c.args.self.now.format.now in
    let y = c.args.self.now.plan.now in
    let e : c.args.n - (c.loop.counter + 1) ≡ c.args.n - c.loop.counter - 1 = omega arith in (
      rw (e, c.turn.ensures.after)
          (sym (more m y (c.args.n - c.loop.counter) (contents c.loop.heap) (omega arith) c.in-Some.a c.in-Some.ensures) ∙ c.loop.invariant.0),
      search rules,
    )
