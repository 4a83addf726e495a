-- Zones in sets of zones.
use Rattle.std.proofs.Common.{◌≡◌, ℕ, true, not, eqb, arith}
use lib.Bits.{bit_and, bit_or}
use Rattle.std.proofs.lemmas.Nat.{shr_le}
use Rattle.std.proofs.lemmas.Nat.Bits.{bit_at_or, bit_at_and, bit_at-pow_same}
use Rattle.std.proofs.lemmas.Bool.{eqb-true, ne_eqb, eq-eqb}
use Rattle.std.specs.Int.{bit_at}
use Rattle.location.specs.Locations.{zone_of, has_zone, zone_bit}

pub shared : (z a b : ℕ) → bit_at a z ≡ 1 → bit_at b z ≡ 1 → not (eqb (bit_and a b) 0) ≡ true
shared z a b p q =
    let no : bit_and a b ≡ 0 → ⊥ = λ e. omega (arith, bit_at_and a b z, shr_le (bit_and a b) z) in
    rw (ne_eqb (bit_and a b) 0 no)

-- ---- in the words of the definitions

pub own_zone : (a : ℕ) → has_zone (zone_bit a) (zone_of a) ≡ true
own_zone a = eq-eqb (bit_at (zone_bit a) (zone_of a)) 1 (bit_at-pow_same (zone_of a))

pub joined_left : (a b z : ℕ) → has_zone a z ≡ true → has_zone (bit_or a b) z ≡ true
joined_left a b z h = eq-eqb (bit_at (bit_or a b) z) 1 (omega (arith, bit_at_or a b z, eqb-true (bit_at a z) 1 h))

pub joined_right : (a b z : ℕ) → has_zone b z ≡ true → has_zone (bit_or a b) z ≡ true
joined_right a b z h = eq-eqb (bit_at (bit_or a b) z) 1 (omega (arith, bit_at_or a b z, eqb-true (bit_at b z) 1 h))
