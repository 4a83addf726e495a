use Rattle.std.proofs.Common.{◌-◌, drop, length, ap, arith}
use Rattle.std.proofs.lemmas.List.{length-take}
use Rattle.format.specs.Meaning.{extent}
use Rattle.format.specs.Laws.{part}
use Rattle.format.proofs.Heads.{seen_inside}
use Rattle.trace.specs.Traces.{limit_of}
use Rattle.trace.proofs.Fates.{bounded}
use Rattle.trace.proofs.state.Tracer.decide.Goals as goal

pub returns-clause-fits : goal.returns-clause-fits
returns-clause-fits g c =
    let m = g.F.Format.meaning c.args.self.now.format.now in
    let ws = c.args.heap.now.words.now in
    let a = c.args.a in
    let i = c.is_sought.ensures.fits c.if-not-is_sought.false in
    let n = seen_inside m (part a (limit_of a - a) ws) in
    bounded (length ws) a (extent m c.head_at.result) c.by_thing.result
    (omega (arith, ap (extent m) c.head_at.ensures, n, length-take (limit_of a - a) (drop a ws)))
    (omega (arith, ap (extent m) c.head_at.ensures, n, length-take (limit_of a - a) (drop a ws), i.1))
    c.by_thing.ensures.fits
