-- A format that is one of two, as its value says.
use Rattle.format.specs.Meaning.{Meaning}
use Rattle.format.specs.Laws.{Lawful}
use Rattle.formats.specs.Counted.{counted}
use Rattle.formats.specs.Counts.{counted_lawful}
use Rattle.formats.specs.Tagged.{tagged}
use Rattle.formats.specs.Tags.{tagged_lawful}
use Rattle.format_tests.specs.declared.chosen.Chosen.{Chosen}
use Rattle.format_tests.specs.declared.chosen.Chosen.TheVariants.{ToCount, ToTag}

abbrev pub chosen : Chosen → Meaning
chosen ToCount = counted
chosen ToTag = tagged

pub chosen_lawful : (f : Chosen) → Lawful (chosen f)
chosen_lawful ToCount = counted_lawful
chosen_lawful ToTag = tagged_lawful
