-- How many numbers below n pass a test.
use Rattle.std.proofs.Common.{◌≡◌, ℕ, zero, suc, ◌+◌, ◌<◌, ◌≤◌, Bool, true, false, ◌||◌, eqb, ◌≢◌, refl, ap, inl, inr, arith}
use borrow.Author.Tests.{both_ways}
use Rattle.std.proofs.lemmas.Bool.{cases_eq, or_cases, or_left, or_right, eq-eqb, eqb-true, false_from_ne_true}

abbrev pub one_if : Bool → ℕ
one_if true = 1
one_if false = 0

abbrev pub count : (ℕ → Bool) → ℕ → ℕ
count f zero = 0
count f (suc n) = one_if (f n) + count f n

one_le : (x y : Bool) → (x ≡ true → y ≡ true) → one_if x ≤ one_if y
one_le true true h = omega arith
one_le true false h = absurd (both_ways false refl (h refl))
one_le false y h = omega arith

pub count_below : (f : ℕ → Bool) (n : ℕ) → count f n ≤ n
count_below f zero = omega arith
count_below f (suc n) = let h = count_below f n in let k = one_le (f n) true (λ e. refl) in omega arith

pub count_mono : (f g : ℕ → Bool) (n : ℕ) → ((w : ℕ) → g w ≡ true → f w ≡ true) → count g n ≤ count f n
count_mono f g zero h = omega arith
count_mono f g (suc n) h = let i = count_mono f g n h in let k = one_le (g n) (f n) (h n) in omega arith

pub count_less : (f g : ℕ → Bool) (n a : ℕ) → ((w : ℕ) → g w ≡ true → f w ≡ true) → a < n → f a ≡ true → g a ≡ false → suc (count g n) ≤ count f n
count_less f g zero a h l x y = omega arith
count_less f g (suc n) a h l x y = elim (cases_eq a n) [
  | inl e ↦ (let fx : f n ≡ true = rw (← e) x in
      let gx : g n ≡ false = rw (← e) y in
      let i = count_mono f g n h in
      rw (fx, gx) (omega arith))
  | inr ne ↦ (let i = count_less f g n a h (omega arith) x y in let k = one_le (g n) (f n) (h n) in omega arith)
]

-- at most one more passes, where the two tests differ at one number alone
count_but_one : (f g : ℕ → Bool) (n b : ℕ) → ((w : ℕ) → w ≢ b → g w ≡ true → f w ≡ true) → (count g n ≤ suc (count f n)) × (n ≤ b → count g n ≤ count f n)
count_but_one f g zero b h = (omega arith, λ l. omega arith)
count_but_one f g (suc n) b h =
    let i = count_but_one f g n b h in
    grind arith

-- one comes, and one goes
pub count_swap : (f g : ℕ → Bool) (n a b : ℕ) → ((w : ℕ) → w ≢ b → g w ≡ true → f w ≡ true) → a < n → f a ≡ true → g a ≡ false → count g n ≤ count f n
count_swap f g n a b h l x y =
    let i = count_less (λ w. f w || eqb w b) g n a (λ w k. elim (cases_eq w b) [ inl e ↦ or_right (f w) _ (eq-eqb w b e) | inr ne ↦ or_left (f w) _ (h w ne k) ]) l (or_left (f a) _ x) y in
    let k = count_but_one f (λ w. f w || eqb w b) n b (λ w ne z. elim (or_cases (f w) (eqb w b) z) [ inl p ↦ p | inr q ↦ absurd (ne (eqb-true w b q)) ]) in
    omega (arith, k.0)

pub count_none : (f : ℕ → Bool) (n : ℕ) → count f n ≤ 0 → (w : ℕ) → w < n → f w ≡ false
count_none f zero h w l = absurd (omega arith)
count_none f (suc n) h w l = elim (cases_eq w n) [
  | inl e ↦ rw e (false_from_ne_true (f n) (λ x. (let p : one_if (f n) ≡ 1 = ap one_if x in omega arith)))
  | inr ne ↦ count_none f n (omega arith) w (omega arith)
]
