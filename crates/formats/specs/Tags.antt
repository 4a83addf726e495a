-- The tagged format reads back what it writes.
use Rattle.std.specs.Prelude.{◌≡◌, ℕ, true, refl}
use Rattle.std.proofs.Common.{arith}
use Rattle.std.proofs.lemmas.Bool.Decides.{nat_tests}
use Rattle.format.specs.declared.things.Shape.{Shape}
use Rattle.format.specs.declared.things.Slot.{Slot}
use Rattle.format.specs.declared.things.Slot.TheVariants.{Reference, Number}
use Rattle.format.specs.Meaning.{holds}
use Rattle.format.specs.Laws.{Lawful}
use Rattle.formats.specs.Tagged.{tagged, tagged_coding, tagged_slot, tagged_word}
use Rattle.format.proofs.Coded.{coded_lawful}

slot_back : (s : Shape) (i : ℕ) (x : Slot) → holds tagged s i x ≡ true → tagged_slot s i (tagged_word x) ≡ x
slot_back s i (Reference a) h = grind (arith, nat_tests)
slot_back s i (Number v) h = grind (arith, nat_tests)

pub tagged_lawful : Lawful tagged
tagged_lawful = coded_lawful tagged_coding (record {
  ranges = λ s a. grind (arith, nat_tests);
  object = λ s a. grind (arith, nat_tests);
  forwarded = λ k to a b c d. grind (arith, nat_tests);
  padding = λ k a b. grind (arith, nat_tests);
  slot = slot_back;
  zero = λ s i. refl;
})
