-- Rows of things.
use Rattle.std.specs.Prelude.{◌≡◌, ℕ, zero, suc, ◌+◌, ◌≢◌, List, [], ◌∷◌, length, drop, Some, None, vec_items, fold, Option}
use Rattle.format.specs.declared.things.Head.{Head}
use Rattle.format.specs.declared.things.Head.TheVariants.{Nothing, Object, Forwarded, Padding}
use Rattle.format.specs.Meaning.{Meaning, extent, read_head, nothing, thing_at, span}
use Rattle.rows.specs.declared.walking.Entry.{Entry}
use Rattle.rows.specs.declared.walking.Row.{Row}
use Rattle.rows.specs.declared.walking.Tally.{Tally}

abbrev pub entry_of : ℕ → Head → Option Entry
entry_of a Nothing = None
entry_of a (Object s) = Some (record { place = a; head = Object s })
entry_of a (Forwarded k to) = Some (record { place = a; head = Forwarded k to })
entry_of a (Padding k) = Some (record { place = a; head = Padding k })

-- what stands at a place, if something does
abbrev pub entry_at : Meaning → List ℕ → ℕ → Option Entry
entry_at m ws a = entry_of a (read_head m (drop a ws))

abbrev pub row_by : Meaning → (ℕ → List Entry) → ℕ → Option Entry → List Entry
row_by m rest a None = []
row_by m rest a (Some e) = e ∷ rest (a + extent m e.head)

-- the things from a on, at most k of them
abbrev pub row_from : Meaning → List ℕ → ℕ → ℕ → List Entry
row_from m ws zero a = []
row_from m ws (suc k) a = row_by m (row_from m ws k) a (entry_at m ws a)

-- the row that the words hold from their start: it has no more things than there are words
abbrev pub row : Meaning → List ℕ → List Entry
row m ws = row_from m ws (length ws) 0

-- the place behind things that begin at a
abbrev pub end_from : Meaning → ℕ → List Entry → ℕ
end_from m a [] = a
end_from m a (e ∷ es) = end_from m (a + extent m e.head) es

abbrev pub row_end : Meaning → List ℕ → ℕ
row_end m ws = end_from m 0 (row m ws)

pub record Listed (m : Meaning) (ws : List ℕ) (r : Row) : Type 0 where
  pub things : vec_items r.entries ≡ row m ws
  pub behind : r.end ≡ row_end m ws

-- Things stand one behind the other from a to an end without a gap, and at the end stands nothing.
abbrev pub Gapless : Meaning → List ℕ → ℕ → List Entry → ℕ → Type 0
Gapless m ws a [] end = (a ≡ end) × (thing_at m ws a ≡ nothing)
Gapless m ws a (e ∷ es) end =
    (e.place ≡ a) × (e.head ≡ read_head m (drop a ws)) × (thing_at m ws a ≢ nothing) × Gapless m ws (a + span m (thing_at m ws a)) es end

-- A row is gapless up to the first place that reads as nothing.
abbrev pub RowLaw : Meaning → List ℕ → Type 0
RowLaw m ws = Gapless m ws 0 (row m ws) (row_end m ws)

-- ---- counts

-- one more thing of its kind
abbrev pub with_one : Tally → Head → Tally
with_one t Nothing = t
with_one t (Object s) = record { objects = t.objects + 1; forwarded = t.forwarded; paddings = t.paddings }
with_one t (Forwarded k to) = record { objects = t.objects; forwarded = t.forwarded + 1; paddings = t.paddings }
with_one t (Padding k) = record { objects = t.objects; forwarded = t.forwarded; paddings = t.paddings + 1 }

abbrev pub tally_of : List Entry → Tally
tally_of es = fold (λ t e. with_one t e.head) (record { objects = 0; forwarded = 0; paddings = 0 }) es
