use Rattle.trace.proofs.Newness.{new_arenas_sound}
use Rattle.trace.proofs.Remembering.{remembers}
use Rattle.trace.proofs.Law.{collections_keep}
use Rattle.trace.proofs.state.Arena.collect.Goals as goal

pub returns : goal.returns
returns g c = record { outcome = c.collect_pools.ensures.outcome; lent = c.collect_pools.ensures.lent; remembers = remembers; begins = new_arenas_sound; keeps = collections_keep }
