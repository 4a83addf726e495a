-- The listing of a row as text.
use Rattle.std.specs.Prelude.{ℕ, zero, suc, cond, List, [], ◌++◌, length, drop, codes, decimal, ◌==◌}
use Rattle.std.specs.List.{flat_map}
use Rattle.format.specs.declared.things.Shape.{Shape}
use Rattle.format.specs.declared.things.Head.{Head}
use Rattle.format.specs.declared.things.Head.TheVariants.{Nothing, Object, Forwarded, Padding}
use Rattle.format.specs.declared.things.Slot.{Slot}
use Rattle.format.specs.declared.things.Slot.TheVariants.{Reference, Number}
use Rattle.format.specs.Meaning.{Meaning}
use Rattle.rows.specs.declared.walking.Entry.{Entry}
use Rattle.rows.specs.declared.walking.Tally.{Tally}
use Rattle.rows.specs.Rows.{row, row_end, tally_of}

-- "  I reference A" or "  I number V", and the end of the line
abbrev pub slot_line : ℕ → Slot → List ℕ
slot_line i (Reference a) = codes "  " ++ (decimal i ++ (codes " reference " ++ (decimal a ++ codes "\n")))
slot_line i (Number v) = codes "  " ++ (decimal i ++ (codes " number " ++ (decimal v ++ codes "\n")))

-- the first k slots
abbrev pub slot_lines : Meaning → List ℕ → Shape → ℕ → List ℕ
slot_lines m ws s zero = []
slot_lines m ws s (suc k) = slot_lines m ws s k ++ slot_line k (m.slot s ws k)

abbrev pub object_line : ℕ → ℕ → ℕ → ℕ → List ℕ
object_line a size layout n =
    decimal a ++ (codes " object size " ++ (decimal size ++ (codes " layout " ++ (decimal layout ++ (codes " slots " ++ (decimal n ++ codes "\n"))))))

abbrev pub nothing_line : ℕ → List ℕ
nothing_line a = decimal a ++ codes " nothing\n"

abbrev pub whole_line : ℕ → List ℕ
whole_line a = decimal a ++ codes " end, the row is whole\n"

-- the place, what stands there and its size, and then layout and number of slots, or the new address
abbrev pub head_line : Meaning → ℕ → Head → List ℕ
head_line m a Nothing = nothing_line a
head_line m a (Object s) = object_line a (m.size s) s.layout s.n
head_line m a (Forwarded k to) = decimal a ++ (codes " forwarded size " ++ (decimal k ++ (codes " to " ++ (decimal to ++ codes "\n"))))
head_line m a (Padding k) = decimal a ++ (codes " padding size " ++ (decimal k ++ codes "\n"))

abbrev pub slots_text : Meaning → List ℕ → Head → List ℕ
slots_text m ws Nothing = []
slots_text m ws (Object s) = slot_lines m ws s s.n
slots_text m ws (Forwarded k to) = []
slots_text m ws (Padding k) = []

abbrev pub entry_text : Meaning → List ℕ → Entry → List ℕ
entry_text m ws e = head_line m e.place e.head ++ slots_text m (drop e.place ws) e.head

-- where the row ends: at the end of the words, or where nothing stands
abbrev pub end_line : ℕ → ℕ → List ℕ
end_line end len = cond (end == len) (whole_line end) (nothing_line end)

abbrev pub tally_text : Tally → List ℕ
tally_text t = codes "objects " ++ (decimal t.objects ++ (codes " forwarded " ++ (decimal t.forwarded ++ (codes " paddings " ++ decimal t.paddings))))

abbrev pub tally_line : Tally → List ℕ
tally_line t = tally_text t ++ codes "\n"

-- the things of a row that ends at a place, where it ends, and the counts
abbrev pub row_text : Meaning → List ℕ → List Entry → ℕ → List ℕ
row_text m ws es end = flat_map (entry_text m ws) es ++ (end_line end (length ws) ++ tally_line (tally_of es))

abbrev pub listing_text : Meaning → List ℕ → List ℕ
listing_text m ws = row_text m ws (row m ws) (row_end m ws)
