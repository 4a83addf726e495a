use Rattle.format.proofs.Memory.{readings}
use Rattle.format.proofs.reading.read.Goals as goal

pub returns-then-slots_hold-clause-laws : goal.returns-then-slots_hold-clause-laws
returns-then-slots_hold-clause-laws g c = readings _ (g.met.F.Format.lawful c.args.format.now)

pub returns-else-slots_hold-clause-laws : goal.returns-else-slots_hold-clause-laws
returns-else-slots_hold-clause-laws g c = readings _ (g.met.F.Format.lawful c.args.format.now)
