-- Location dependencies.
use Rattle.std.specs.Prelude.{◌≡◌, ℕ, ◌+◌, ◌-◌, ◌/◌, ◌%◌, ◌^◌, Bool, true, false, cond, not, List, [], ◌∷◌, Ok, Err, Result, ◌==◌, bit_and, bit_or, nat_lt, slice_index, slice_set}
use Rattle.format.specs.declared.refusals.Refusal.{Refusal}
use Rattle.format.specs.declared.refusals.Refusal.TheVariants.{CollectionsSpent}
use Rattle.location.specs.declared.History.{History}
use Rattle.location.specs.declared.Dependency.{Dependency}

-- The zone of an address: addresses of one segment share it, and it comes round after 32 segments.
abbrev pub zone_of : ℕ → ℕ
zone_of a = a / 256 % 32

-- A set of zones is a number whose bit z says whether zone z is in it.
abbrev pub has_zone : ℕ → ℕ → Bool
has_zone zones z = zones / 2 ^ z % 2 == 1

abbrev pub zone_bit : ℕ → ℕ
zone_bit a = 2 ^ zone_of a

abbrev pub empty_history : History
empty_history = record { epoch = 0; recent = 0 ∷ 0 ∷ 0 ∷ 0 ∷ []; ever = 0 }

-- four sets, with the zones joined to each
abbrev pub joined_to : ℕ → List ℕ → List ℕ
joined_to zones sets = bit_or (slice_index sets 0) zones ∷ bit_or (slice_index sets 1) zones ∷ bit_or (slice_index sets 2) zones ∷ bit_or (slice_index sets 3) zones ∷ []

-- Ageing at epoch e empties the set at e's remainder by 4, joins the zones to all five sets, and
-- counts the epoch up.
abbrev pub aged : History → ℕ → History
aged h zones = record {
  epoch = h.epoch + 1;
  recent = joined_to zones (slice_set h.recent (h.epoch % 4) 0);
  ever = bit_or h.ever zones;
}

-- An arena is aged at most 1,000,000 times.
abbrev pub can_age : History → Bool
can_age h = nat_lt h.epoch 1000000

abbrev pub age_answer : History → Result (Unit {0}) Refusal
age_answer h = cond (can_age h) (Ok tt) (Err CollectionsSpent)

abbrev pub age_after : History → ℕ → History
age_after h zones = cond (can_age h) (aged h zones) h

abbrev pub reset_to : History → Dependency
reset_to h = record { epoch = h.epoch; zones = 0 }

abbrev pub entered : Dependency → ℕ → Dependency
entered d a = record { epoch = d.epoch; zones = bit_or d.zones (zone_bit a) }

-- the zones aged since the dependency's epoch, as far as the history tells
abbrev pub aged_since : History → ℕ → ℕ
aged_since h epoch = cond (nat_lt 4 (h.epoch - epoch)) h.ever (slice_index h.recent (epoch % 4))

-- No at equal epochs, else whether the dependency has a zone that was aged since.
abbrev pub is_stale : History → Dependency → Bool
is_stale h d = cond (h.epoch == d.epoch) false (not (bit_and d.zones (aged_since h d.epoch) == 0))

-- ---- what holds over whole runs

-- what happens between two resets: ageings by sets of zones, and addresses entered
pub data Event : Type 0 where
  ages : ℕ → Event
  enters : ℕ → Event

pub record Moment : Type 0 where
  pub history : History
  pub dependency : Dependency

abbrev pub after : Moment → Event → Moment
after t (ages zones) = record { history = age_after t.history zones; dependency = t.dependency }
after t (enters a) = record { history = t.history; dependency = entered t.dependency a }

abbrev pub run : Moment → List Event → Moment
run t [] = t
run t (e ∷ es) = run (after t e) es

abbrev pub Stale : Moment → Type 0
Stale t = is_stale t.history t.dependency ≡ true

-- a moment right after a reset
abbrev pub fresh : History → Moment
fresh h = record { history = h; dependency = reset_to h }

-- Once an address was entered in a dependency, and an ageing by its zone has followed, the dependency is
-- stale after any further ageings and entries, until it is reset; and right after the reset it is not.
abbrev pub NeverMisses : Type 0
NeverMisses =
    ((h : History) (before between later : List Event) (a zones : ℕ)
    → can_age (run (after (run (fresh h) before) (enters a)) between).history ≡ true
    → has_zone zones (zone_of a) ≡ true
    → Stale (run (after (run (after (run (fresh h) before) (enters a)) between) (ages zones)) later))
    × ((h : History) (d : Dependency) → h.epoch ≡ d.epoch → is_stale h d ≡ false)
