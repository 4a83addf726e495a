use Rattle.std.proofs.Common.{◌-◌, length, vec_items}
use Rattle.rows.proofs.Walks.{Listing}
use Rattle.rows.proofs.walking.Row.read.Given as goal

abbrev pub invariant-loop-next : goal.invariant-loop-next
invariant-loop-next g l = Listing (g.F.Format.meaning l.format) l.words (vec_items l.entries) l.end

abbrev pub decreases-loop-next : goal.decreases-loop-next
decreases-loop-next g l = length l.words - l.end
