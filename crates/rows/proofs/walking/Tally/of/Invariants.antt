use Rattle.std.proofs.Common.{◌≡◌, ◌≤◌, take}
use Rattle.rows.specs.Rows.{tally_of}
use Rattle.rows.proofs.walking.Tally.of.Given as goal

-- the things so far are counted, and no count is over their number
abbrev pub invariant-loop-entry : goal.invariant-loop-entry
invariant-loop-entry l =
    record {
      so_far : l.tally ≡ tally_of (take l.entry-index l.entries);
      objects : l.tally.objects ≤ l.entry-index;
      forwarded : l.tally.forwarded ≤ l.entry-index;
      paddings : l.tally.paddings ≤ l.entry-index;
    }
