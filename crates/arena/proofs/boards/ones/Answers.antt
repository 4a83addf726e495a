use Rattle.std.proofs.Common.{rules, tests, length-take, arith}
use Rattle.std.proofs.lemmas.Iterator.{YieldsList-from_slice, YieldsList-from_take}
use Rattle.std.proofs.lemmas.Iterator.Adapters.{fits_from_length, at_most_from_yields_List}
use Rattle.arena.proofs.boards.ones.Goals as goal

pub sum-requires-clause-fits : goal.sum-requires-clause-fits
sum-requires-clause-fits c =
    fits_from_length _ _ 2048 _ (at_most_from_yields_List (YieldsList-from_take 2048 (YieldsList-from_slice c.args.board.now (cc)) (cc)) (omega (arith, length-take 2048 c.args.board.now)))
    c.map.ensures.closure (omega arith) (λ x r q k. search (rules, tests))
