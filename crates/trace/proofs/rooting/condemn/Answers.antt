use Rattle.std.proofs.Common.{false, rules}
use Rattle.arena.specs.Segments.{owner_of}
use Rattle.trace.specs.Collections.{in_set, condemned_by}
use Rattle.trace.proofs.Tables.{table}
use Rattle.trace.proofs.rooting.condemn.Goals as goal

pub returns : goal.returns
unfolding condemned_by
returns c = table _ _ (λ s. in_set c.args.pools (owner_of c.args.segments.now s)) (λ p q i y s e. (search rules, search rules)) c.from_fn.result 256 false c.from_fn.ensures.items
