-- The number of each refusal.
use Rattle.std.specs.Prelude.{◌≡◌, ℕ, ◌<◌, List, [], ◌∷◌}
use Rattle.format.specs.declared.refusals.Refusal.{Refusal}
use Rattle.format.specs.declared.refusals.Refusal.TheVariants.{UnknownCall, NoSuchThing, NotAdmitted, NoSuchSlot, NotHeld, WrongLength, PastTheObject, NullRegister, PointNotIdle, PointIdle, PointLost, NoRoom, OtherKind, PokedWord, CollectionsSpent}

abbrev pub number_of : Refusal → ℕ
-- an unknown call, operands cut short, a bad or missing first byte, a frame too many
number_of UnknownCall = 2
-- the number of a thing that the store does not have
number_of NoSuchThing = 3
-- a layout and a number of slots that the format does not admit
number_of NotAdmitted = 4
-- a slot not below the number of slots
number_of NoSuchSlot = 5
-- a value that the slot may not hold, or a reference but null in a leaf pool
number_of NotHeld = 6
-- words, counts or lengths that do not fit
number_of WrongLength = 7
-- an offset not below the object's size
number_of PastTheObject = 8
-- a null register that the call reads
number_of NullRegister = 20
-- the allocation point is not idle
number_of PointNotIdle = 21
-- the allocation point is idle
number_of PointIdle = 22
-- a collection has cost the allocation point its object
number_of PointLost = 23
-- no room, even after a collection
number_of NoRoom = 24
-- the slot holds a value of the other kind
number_of OtherKind = 25
-- the ambiguous word was poked, not pinned
number_of PokedWord = 26
-- no collection is left
number_of CollectionsSpent = 30

-- every refusal, in the order in which a call meets them
abbrev pub in_order : List Refusal
in_order = WrongLength ∷ UnknownCall ∷ NoSuchThing ∷ CollectionsSpent ∷ PointNotIdle ∷ PointIdle ∷ PointLost ∷ NullRegister ∷ NotAdmitted ∷ NoSuchSlot ∷ PastTheObject ∷ NotHeld ∷ OtherKind ∷ PokedWord ∷ NoRoom ∷ []

-- No refusal has the number of another, and none has 0.
abbrev pub TellsApart : Type 0
TellsApart = ((a b : Refusal) → number_of a ≡ number_of b → a ≡ b) × ((a : Refusal) → 0 < number_of a)
