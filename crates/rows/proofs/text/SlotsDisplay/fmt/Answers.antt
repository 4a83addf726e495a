use Rattle.std.proofs.Common.{rules}
use Rattle.std.proofs.lemmas.Grind.{put_two}
use Rattle.std.specs.Fmt.{HasWritten}
use Rattle.rows.specs.Text.{slot_line}
use Rattle.rows.proofs.Lines.{slots_more}
use Rattle.rows.proofs.text.SlotsDisplay.fmt.Goals as goal
use Rattle.rows.proofs.text.SlotsDisplay.fmt.Goals.{in-Reference+in_ok-writeln-in-Reference, in-Number+in_ok-writeln-in-Number}

pub loop-i-preserved : goal.loop-i-preserved
loop-i-preserved g c = λ p.
    let line : HasWritten g.W.Write.write_str_gives c.loop-i.f (slot_line c.loop-i.i-counter c.slot.result) c.match-slot.f =
    elim c.match-slot.branch [
      | in-Reference+in_ok-writeln-in-Reference w ↦ search rules
      | in-Number+in_ok-writeln-in-Number w ↦ search rules
    ] in
    put_two _ _ _ _ _ _ _ (c.loop-i.invariant p) line
    (slots_more (g.F.Format.meaning c.args.self.now.format.now) c.args.self.now.own.now c.args.self.now.shape c.loop-i.i-counter c.slot.result c.slot.ensures)
