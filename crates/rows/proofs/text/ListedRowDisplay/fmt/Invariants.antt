use Rattle.std.proofs.Common.{take}
use Rattle.std.specs.Fmt.{HasWritten, IsPlainFormatter}
use Rattle.std.specs.List.{flat_map}
use Rattle.rows.specs.Text.{entry_text}
use Rattle.rows.proofs.text.ListedRowDisplay.fmt.Given as goal

-- the lines of the things so far
abbrev pub invariant-loop-entry : goal.invariant-loop-entry
invariant-loop-entry g l =
    IsPlainFormatter l.initial.f
    → HasWritten g.W.Write.write_str_gives l.initial.f (flat_map (entry_text (g.F.Format.meaning l.format) l.words) (take l.entry-index l.entry-items)) l.f
