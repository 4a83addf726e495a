use Rattle.std.proofs.Common.{rules}
use Rattle.std.proofs.lemmas.Grind.{put_two}
use Rattle.std.specs.Fmt.{HasWritten}
use Rattle.rows.specs.Text.{object_line}
use Rattle.rows.proofs.Lines.{object_text}
use Rattle.rows.proofs.text.ThingDisplay.fmt.Goals as goal

pub returns-in_ok-writeln-in-Object-clause-writes : goal.returns-in_ok-writeln-in-Object-clause-writes
returns-in_ok-writeln-in-Object-clause-writes g c = λ p ok.
    let line : HasWritten g.W.Write.write_str_gives c.args.f.now
    (object_line c.args.self.now.entry.place c.size-size.result c.in-Object.shape.layout c.in-Object.shape.n) c.writeln-in-Object.new.self = search rules in
    put_two _ _ _ _ _ _ _ line (c.write.ensures.writes line.plain ok)
    (object_text (g.F.Format.meaning c.args.self.now.format.now) c.args.self.now.words.now c.words_from.result.now c.args.self.now.entry
    c.in-Object.shape c.size-size.result c.in-Object.is c.words_from.ensures c.size-size.ensures)
