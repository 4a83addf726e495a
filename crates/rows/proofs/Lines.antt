-- Lines of a listing, joined.
use Rattle.std.proofs.Common.{◌≡◌, ℕ, ◌+◌, List, ◌++◌, length, drop, vec_items, sym, ap, ◌∙◌, add-one}
use Rattle.std.specs.List.{flat_map}
use Rattle.format.specs.declared.things.Shape.{Shape}
use Rattle.format.specs.declared.things.Slot.{Slot}
use Rattle.format.specs.declared.things.Head.TheVariants.{Object}
use Rattle.format.specs.Meaning.{Meaning}
use Rattle.rows.specs.declared.walking.Entry.{Entry}
use Rattle.rows.specs.declared.walking.Row.{Row}
use Rattle.rows.specs.declared.walking.Tally.{Tally}
use Rattle.rows.specs.Rows.{Listed, tally_of}
use Rattle.rows.specs.Text.{slot_line, slot_lines, object_line, end_line, head_line, slots_text, entry_text, tally_line, row_text, listing_text}

-- one more slot
pub slots_more : (m : Meaning) (own : List ℕ) (s : Shape) (i : ℕ) (x : Slot) → x ≡ m.slot s own i → slot_lines m own s i ++ slot_line i x ≡ slot_lines m own s (i + 1)
slots_more m own s i x e = ap (λ z. slot_lines m own s i ++ slot_line i z) e ∙ ap (slot_lines m own s) (sym (add-one i))

-- an object's line, and then its slots
pub object_text : (m : Meaning) (ws own : List ℕ) (e : Entry) (s : Shape) (size : ℕ) → e.head ≡ Object s → own ≡ drop e.place ws → size ≡ m.size s
    → object_line e.place size s.layout s.n ++ slot_lines m own s s.n ≡ entry_text m ws e
object_text m ws own e s size h o z = rw (o, z) (sym (ap (λ x. head_line m e.place x ++ slots_text m (drop e.place ws) x) h))

-- a row's text, of what was counted and where it ended
pub row_is : (m : Meaning) (ws : List ℕ) (es fs : List Entry) (end : ℕ) (t : Tally) → fs ≡ es → t ≡ tally_of es
    → flat_map (entry_text m ws) fs ++ (end_line end (length ws) ++ tally_line t) ≡ row_text m ws es end
row_is m ws es fs end t e h = rw (e, h)

pub listing_is : (m : Meaning) (ws : List ℕ) (r : Row) → Listed m ws r → row_text m ws (vec_items r.entries) r.end ≡ listing_text m ws
listing_is m ws r l = rw (l.things, l.behind)
