use Rattle.std.proofs.Common.{rules, ◌≡◌, ℕ, ◌+◌, ◌*◌, ◌/◌, get_or, ◌∙◌, arith}
use lib.Count.{count_trailing_zeros}
use Rattle.std.specs.Option.{option_map}
use Rattle.arena.proofs.Lowest.{at_later_word}
use Rattle.arena.proofs.boards.lowest_from.Goals as goal

pub returns : goal.returns
returns c =
    let b = c.args.board.now in
    let n : ℕ = c.args.from / 32 + 1 in
    let e : c.map.result ≡ option_map (λ i. (n + i) * 32 + count_trailing_zeros 32 (get_or b (n + i) 0)) c.first_word.result = search rules in
    e ∙ at_later_word b c.args.from c.min-end.result c.first_word.result (λ i. omega (arith, c.type_inv.board i)) c.min-end.ensures
    c.if-from-end.false c.if-rest-ne0.false c.first_word.ensures
