use Rattle.std.specs.Fmt.{HasWritten, IsPlainFormatter}
use Rattle.rows.specs.Text.{slot_lines}
use Rattle.rows.proofs.text.SlotsDisplay.fmt.Given as goal

-- the lines of the slots so far
abbrev pub invariant-loop-i : goal.invariant-loop-i
invariant-loop-i g l =
    IsPlainFormatter l.initial.f
    → HasWritten g.W.Write.write_str_gives l.initial.f (slot_lines (g.F.Format.meaning l.self.format.now) l.self.own.now l.self.shape l.i-counter) l.f
