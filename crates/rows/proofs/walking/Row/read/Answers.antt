use Rattle.std.proofs.Common.{vec_items}
use Rattle.rows.proofs.Walks.{listing_more}
use Rattle.rows.proofs.walking.Row.read.Goals as goal

pub loop-next-preserved : goal.loop-next-preserved
loop-next-preserved g c =
    listing_more (g.F.Format.meaning c.args.format.now) c.args.words.now (vec_items c.loop-next.entries) c.loop-next.end c.in-Some.next
    c.loop-next.invariant c.in-Some.ensures (vec_items c.push.new.self) c.extent-end.result c.in_ok-push.ensures.items c.extent-end.ensures
