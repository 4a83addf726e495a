use Rattle.std.proofs.Common.{◌≡◌, drop, vec_items}
use Rattle.wordtext.specs.Texts.{pieces, after_words, values, words_of}
use Rattle.wordtext.proofs.parse.Given as goal

-- what was read, and then the words of the pieces that are left
abbrev pub invariant-loop-from : goal.invariant-loop-from
invariant-loop-from l =
    words_of l.text l.start
    ≡ after_words (vec_items l.words) (values (pieces l.from-iterator.at (drop l.from-iterator.at l.from-iterator.text.now)))
