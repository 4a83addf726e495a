-- Lemmas on digits and their number
use Rattle.std.proofs.Common.{◌≡◌, ℕ, zero, suc, ◌+◌, ◌*◌, ◌^◌, ◌<◌, min, true, false, ltb, List, [], ◌∷◌, ◌++◌, map, length, get_or, take, Ok, Err, refl, ap, ◌∙◌, inl, inr, le-mul_of_pos_right, arith}
use Rattle.std.proofs.lemmas.Int.Digits.{number_push}
use Rattle.std.proofs.lemmas.List.{map_push, take_more}
use Rattle.std.proofs.lemmas.Bool.{and_from, and_left, and_right, and_parts, cases_lt, lt-ltb, cond-true, cond-false}
use Rattle.std.specs.Int.Digits.{number_from_digits}
use Rattle.wordtext.specs.declared.Problem.TheVariants.{NotANumber}
use Rattle.wordtext.specs.Numbers.{digit_of, digits_only, numeral_value}

-- a number, held at the first that 32 bits do not hold
abbrev pub held : ℕ → ℕ
held n = min n (2 ^ 32)

pub digits_push : (base : ℕ) (bs : List ℕ) (b : ℕ) → digits_only base bs ≡ true → ltb (digit_of b) base ≡ true → digits_only base (bs ++ b ∷ []) ≡ true
digits_push base [] b p q = and_from (ltb (digit_of b) base) true q refl
digits_push base (x ∷ bs) b p q =
    let h = and_parts (ltb (digit_of x) base) (digits_only base bs) p in
    and_from (ltb (digit_of x) base) (digits_only base (bs ++ b ∷ [])) h.0 (digits_push base bs b h.1 q)

pub digits_fail : (base : ℕ) (bs : List ℕ) (i : ℕ) → i < length bs → ltb (digit_of (get_or bs i 0)) base ≡ false → digits_only base bs ≡ false
digits_fail base [] i h e = absurd (omega arith)
digits_fail base (b ∷ bs) zero h e = and_left (ltb (digit_of b) base) (digits_only base bs) e
digits_fail base (b ∷ bs) (suc i) h e = and_right (ltb (digit_of b) base) (digits_only base bs) (digits_fail base bs i (omega arith) e)

-- a held number takes one more digit as the number itself does
pub held_more : (n base d : ℕ) → 0 < base → held (held n * base + d) ≡ held (n * base + d)
held_more n base d pos =
    elim (cases_lt n (2 ^ 32)) [
      | inl l ↦ let e : min n (2 ^ 32) ≡ n = omega arith in rw e
      | inr g ↦
          let e : min n (2 ^ 32) ≡ 2 ^ 32 = omega arith in
          rw e (omega (arith, le-mul_of_pos_right {m = base} n pos, le-mul_of_pos_right {m = base} (2 ^ 32) pos))
    ]

-- one more digit
pub digit_more : (base : ℕ) (bs : List ℕ) (i d v w : ℕ) → 0 < base → i < length bs → ltb (digit_of (get_or bs i 0)) base ≡ true → d ≡ digit_of (get_or bs i 0)
    → digits_only base (take i bs) ≡ true → v ≡ held (number_from_digits base (map digit_of (take i bs))) → w ≡ held (v * base + d)
    → (digits_only base (take (i + 1) bs) ≡ true) × (w ≡ held (number_from_digits base (map digit_of (take (i + 1) bs))))
digit_more base bs i d v w pos lt is worth only number more =
    let t = take_more bs i 0 lt in
    let n : number_from_digits base (map digit_of (take (i + 1) bs)) ≡ number_from_digits base (map digit_of (take i bs)) * base + digit_of (get_or bs i 0) =
    ap (λ xs. number_from_digits base (map digit_of xs)) t ∙ ap (number_from_digits base) (map_push digit_of (take i bs) (get_or bs i 0)) ∙ number_push base (map digit_of (take i bs)) (digit_of (get_or bs i 0)) in (
      rw t (digits_push base (take i bs) (get_or bs i 0) only is),
      more ∙ rw (n, number, worth) (held_more (number_from_digits base (map digit_of (take i bs))) base (digit_of (get_or bs i 0)) pos),
    )

-- the answer, once all are digits
pub numeral_small : (base : ℕ) (bs : List ℕ) (n : ℕ) → 0 < length bs → digits_only base bs ≡ true → number_from_digits base (map digit_of bs) ≡ n → n < 2 ^ 32 → numeral_value base bs ≡ Ok n
numeral_small base [] n some only value small = absurd (omega arith)
numeral_small base (b ∷ bs) n some only value small = cond-true _ _ _ only ∙ rw value (cond-true _ _ _ (lt-ltb n (2 ^ 32) small))

-- the answer, where a byte is no digit
pub numeral_bad : (base : ℕ) (bs : List ℕ) (i : ℕ) → i < length bs → ltb (digit_of (get_or bs i 0)) base ≡ false → numeral_value base bs ≡ Err NotANumber
numeral_bad base [] i h e = absurd (omega arith)
numeral_bad base (b ∷ bs) i h e = cond-false _ _ _ (digits_fail base (b ∷ bs) i h e)
