-- Single bits of words.
use Rattle.std.proofs.Common.{◌≡◌, ℕ, ◌+◌, ◌-◌, ◌*◌, ◌/◌, ◌%◌, ◌^◌, ◌<◌, min, true, false, eqb, ◌≢◌, sym, ap, ◌∙◌, add-mul, arith}
use mir.Syntax.{w32}
use lib.Bits.{bit_and, bit_or}
use lib.Count.{ones, ones_step}
use Rattle.std.proofs.lemmas.Nat.{shr_split, mod_below, pow_below, pow_pos, or_disjoint, ones_cat}
use Rattle.std.proofs.lemmas.Nat.Bits.{bit_at_or, bit_at_and, bit_at_not, bit_at-pow_same, bit_at-pow_other, and_pow}
use Rattle.std.specs.Int.{bit_at}
use Rattle.arena.specs.Boards.{bit_of}

-- ---- setting one

pub set_same : (w n : ℕ) → bit_of (bit_or w (2 ^ n)) n ≡ true
set_same w n =
    let e : bit_at (bit_or w (2 ^ n)) n ≡ 1 = omega (arith, bit_at_or w (2 ^ n) n, bit_at-pow_same n) in
    ap (λ x. eqb x 1) e

pub set_other : (w m n : ℕ) → m ≢ n → bit_of (bit_or w (2 ^ m)) n ≡ bit_of w n
set_other w m n ne =
    let e : bit_at (bit_or w (2 ^ m)) n ≡ bit_at w n = omega (arith, bit_at_or w (2 ^ m) n, bit_at-pow_other m n (λ q. ne (sym q))) in
    ap (λ x. eqb x 1) e

-- ---- clearing one

-- the bits of a word that is cleared at m
cleared : (w m n : ℕ) → m < 32 → n < 32 → bit_at (bit_and w (2 ^ 32 - 1 - 2 ^ m)) n ≡ min (bit_at w n) (1 - bit_at (2 ^ m) n)
cleared w m n lm ln = bit_at_and w (2 ^ 32 - 1 - 2 ^ m) n ∙ ap (min (bit_at w n)) (bit_at_not w32 (2 ^ m) n (pow_below m 32 lm) ln)

pub clear_same : (w n : ℕ) → n < 32 → bit_of (bit_and w (2 ^ 32 - 1 - 2 ^ n)) n ≡ false
clear_same w n lt =
    let e : bit_at (bit_and w (2 ^ 32 - 1 - 2 ^ n)) n ≡ 0 = omega (arith, cleared w n n lt lt, bit_at-pow_same n) in
    ap (λ x. eqb x 1) e

pub clear_other : (w m n : ℕ) → m < 32 → n < 32 → m ≢ n → bit_of (bit_and w (2 ^ 32 - 1 - 2 ^ m)) n ≡ bit_of w n
clear_other w m n lm ln ne =
    let e : bit_at (bit_and w (2 ^ 32 - 1 - 2 ^ m)) n ≡ bit_at w n = omega (arith, cleared w m n lm ln, bit_at-pow_other m n (λ q. ne (sym q))) in
    ap (λ x. eqb x 1) e

-- ---- how many are set

pub ones_set : (n w : ℕ) → bit_at w n ≡ 0 → ones (bit_or w (2 ^ n)) ≡ ones w + 1
ones_set n w z =
    let a : ℕ = w / 2 ^ n in
    let r : ℕ = w % 2 ^ n in
    let small : r < 2 ^ n = mod_below w (2 ^ n) (pow_pos n) in
    let split : a * 2 ^ n + r ≡ w = shr_split w n in
    let free : bit_and w (2 ^ n) ≡ 0 = and_pow w n ∙ ap (λ x. x * 2 ^ n) z ∙ omega arith in
    let joined : bit_or w (2 ^ n) ≡ (a + 1) * 2 ^ n + r = or_disjoint w (2 ^ n) free ∙ omega (arith, split, add-mul a 1 (2 ^ n)) in
    let half : (a + 1) / 2 ≡ a / 2 = omega arith in
    omega (arith, ap ones joined ∙ ones_cat n (a + 1) r small, ap ones (sym split) ∙ ones_cat n a r small, ones_step (a + 1) ∙ ap (λ x. (a + 1) % 2 + ones x) half, ones_step a)
