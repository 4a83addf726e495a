-- The counted format reads back what it writes.
use Rattle.std.specs.Prelude.{◌≡◌, ℕ, true}
use Rattle.std.proofs.Common.{arith}
use Rattle.std.proofs.lemmas.Bool.Decides.{nat_tests}
use Rattle.format.specs.declared.things.Shape.{Shape}
use Rattle.format.specs.declared.things.Slot.{Slot}
use Rattle.format.specs.declared.things.Slot.TheVariants.{Reference, Number}
use Rattle.format.specs.Meaning.{holds}
use Rattle.format.specs.Laws.{Lawful}
use Rattle.formats.specs.Counted.{counted, counted_coding, counted_slot, counted_word}
use Rattle.format.proofs.Coded.{coded_lawful}

slot_back : (s : Shape) (i : ℕ) (x : Slot) → holds counted s i x ≡ true → counted_slot s i (counted_word x) ≡ x
slot_back s i (Reference a) h = grind (arith, nat_tests)
slot_back s i (Number v) h = grind (arith, nat_tests)

pub counted_lawful : Lawful counted
counted_lawful = coded_lawful counted_coding (record {
  ranges = λ s a. grind (arith, nat_tests);
  object = λ s a. grind (arith, nat_tests);
  forwarded = λ k to a b c d. grind (arith, nat_tests);
  padding = λ k a b. grind (arith, nat_tests);
  slot = slot_back;
  zero = λ s i. grind (arith, nat_tests);
})
