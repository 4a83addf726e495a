use Rattle.std.proofs.Common.{rules, length, take, vec_items, ap, ◌∙◌}
use Rattle.std.proofs.lemmas.Grind.{put_three}
use Rattle.std.proofs.lemmas.List.{take_all}
use Rattle.std.specs.Fmt.{HasWritten}
use Rattle.rows.specs.Rows.{tally_of}
use Rattle.rows.specs.Text.{end_line}
use Rattle.rows.proofs.Lines.{row_is}
use Rattle.rows.proofs.text.ListedRowDisplay.fmt.Goals as goal

pub returns-clause-writes : goal.returns-clause-writes
returns-clause-writes g c = λ p ok.
    let things = c.loop-entry.invariant p in
    let end : HasWritten g.W.Write.write_str_gives c.loop-entry.f (end_line c.args.self.now.row.now.end (length c.args.self.now.words.now)) c.write-2.new.self = search rules in
    put_three _ _ _ _ _ _ _ _ _ things end (c.writeln.ensures.writes end.plain ok)
    (row_is (g.F.Format.meaning c.args.self.now.format.now) c.args.self.now.words.now (vec_items c.args.self.now.row.now.entries)
    (take c.loop-entry.entry-index c.deref-entry-items.result.now) c.args.self.now.row.now.end c.of-tally.result
    (take_all c.loop-entry.entry-index c.deref-entry-items.result.now c.loop-entry-test.false ∙ c.deref-entry-items.ensures.value)
    (c.of-tally.ensures ∙ ap tally_of c.deref.ensures.value))
