-- The lowest set bit of a board, found by words.
use Rattle.std.proofs.Common.{◌≡◌, ℕ, zero, suc, ◌+◌, ◌-◌, ◌*◌, ◌/◌, ◌%◌, ◌^◌, ◌<◌, ◌≤◌, min, false, eqb, List, length, get_or, take, drop, Some, None, Option, sym, refl, ap, ◌∙◌, inl, inr, ⊎_elim, arith}
use mir.Syntax.{w32}
use lib.Count.{count_trailing_zeros}
use Rattle.std.proofs.lemmas.Nat.{shr-shr, shr_le}
use Rattle.std.proofs.lemmas.Nat.Bits.{bit_at-zero, bit_at_above, bit_at-trailing_zeros}
use Rattle.std.specs.Int.{bit_at}
use Rattle.std.proofs.lemmas.Bool.{cases_eq, cases_lt, cases_Bool, both_ways}
use Rattle.std.specs.Option.{option_map}
use Rattle.arena.specs.Boards.{bit_of, bit, reach, lowest_in, lowest_bit, Lowest, FirstWord, Words}
use Rattle.arena.proofs.Parts.{word_found}

pub zero_bit : (n : ℕ) → bit_of 0 n ≡ false
zero_bit n = ap (λ x. eqb x 1) (bit_at-zero n)

-- ---- the lowest bit is the only one that is lowest

lowest_holds : (k : ℕ) (b : List ℕ) (a : ℕ) → a + k ≡ reach b → Lowest b a (lowest_in k b a)
lowest_holds zero b a h = λ j l u. absurd (omega arith)
lowest_holds (suc k) b a h =
    elim (cases_Bool (bit b a)) [
      | inl t ↦ rw t (omega arith, omega arith, t, λ j l u. absurd (omega arith))
      | inr f ↦ rw f (later (lowest_in k b (a + 1)) (lowest_holds k b (a + 1) (omega arith)) f)
    ]
  where
    here : bit b a ≡ false → (j : ℕ) → a ≡ j → bit b j ≡ false
    here f j e = ap (bit b) (sym e) ∙ f

    later : (r : Option ℕ) → Lowest b (a + 1) r → bit b a ≡ false → Lowest b a r
    later None l f = λ j p q. ⊎_elim (here f j) (λ ne. l j (omega arith) q) (cases_eq a j)
    later (Some r) l f = (omega (arith, l.0), l.1, l.2, λ j p q. ⊎_elim (here f j) (λ ne. l.3 j (omega arith) q) (cases_eq a j))

pub lowest_is : (b : List ℕ) (a : ℕ) → Lowest b a (lowest_bit b a)
lowest_is b a =
    elim (cases_lt a (reach b)) [
      | inl l ↦ lowest_holds (reach b - a) b a (omega arith)
      | inr l ↦ (let e : reach b - a ≡ 0 = omega arith in rw e (λ j p q. absurd (omega arith)))
    ]

-- two answers that are both lowest are the same
pub lowest_one : (b : List ℕ) (a : ℕ) (r s : Option ℕ) → Lowest b a r → Lowest b a s → r ≡ s
lowest_one b a None None p q = refl
lowest_one b a None (Some s) p q = absurd (both_ways (bit b s) (p s q.0 q.1) q.2)
lowest_one b a (Some r) None p q = absurd (both_ways (bit b r) (q r p.0 p.1) p.2)
lowest_one b a (Some r) (Some s) p q =
    elim (cases_lt r s) [
      | inl l ↦ absurd (both_ways (bit b r) (q.3 r p.0 l) p.2)
      | inr l ↦ elim (cases_lt s r) [
        | inl u ↦ absurd (both_ways (bit b s) (p.3 s q.0 u) q.2)
        | inr u ↦ (let e : r ≡ s = omega arith in ap Some e)
      ]
    ]

lowest_found : (b : List ℕ) (a : ℕ) (r : Option ℕ) → Lowest b a r → r ≡ lowest_bit b a
lowest_found b a r h = lowest_one b a r (lowest_bit b a) h (lowest_is b a)

-- ---- by words

-- no bit from a on is set in the words below i
abbrev pub ClearTo : List ℕ → ℕ → ℕ → Type 0
ClearTo b a i = (k : ℕ) → a ≤ k → k < 32 * i → bit b k ≡ false

-- bits of the word i, by their place in the board
in_word : (b : List ℕ) (i k : ℕ) → k / 32 ≡ i → bit b k ≡ bit_of (get_or b i 0) (k % 32)
in_word b i k e = ap (λ j. bit_of (get_or b j 0) (k % 32)) e

-- words that are 0 have no bit
pub clear_words : (b : List ℕ) (a i j : ℕ) → ClearTo b a i → ((k : ℕ) → i ≤ k → k < j → get_or b k 0 ≡ 0) → ClearTo b a j
clear_words b a i j c z k l u =
    elim (cases_lt k (32 * i)) [
      | inl v ↦ c k l v
      | inr v ↦ ap (λ x. bit_of x (k % 32)) (z (k / 32) (omega arith) (omega arith)) ∙ zero_bit (k % 32)
    ]

-- a word that is not 0, with no bit below it
pub found_in_word : (b : List ℕ) (a i : ℕ) → i < min (length b) 2048 → a ≤ 32 * i → ClearTo b a i → 0 < get_or b i 0 → get_or b i 0 < 2 ^ 32
    → Lowest b a (Some (i * 32 + count_trailing_zeros 32 (get_or b i 0)))
found_in_word b a i l u c pos fits =
    let w = get_or b i 0 in
    let t = count_trailing_zeros 32 w in
    let z = bit_at-trailing_zeros w32 w pos fits in
    let small : t < 32 = z.0 in
    let col : (i * 32 + t) % 32 ≡ t = omega (arith, small) in (
      omega arith,
      omega (arith, small),
      in_word b i (i * 32 + t) (omega (arith, small)) ∙ ap (bit_of w) col ∙ ap (λ x. eqb x 1) z.1,
      λ k p q. elim (cases_lt k (32 * i)) [
        | inl v ↦ c k p v
        | inr v ↦ in_word b i k (omega (arith, small)) ∙ ap (λ x. eqb x 1) (z.2 (k % 32) (omega (arith, small)))
      ],
    )

-- the bit that is lowest in the first word that is not 0, of those from i up to the end
found_later : (b : List ℕ) (a i e : ℕ) (r : Option ℕ) → Words b → e ≡ min (length b) 2048 → a ≤ 32 * i → ClearTo b a i
    → FirstWord (take (e - i) (drop i b)) 0 (length (take (e - i) (drop i b))) r
    → Lowest b a (option_map (λ j. (i + j) * 32 + count_trailing_zeros 32 (get_or b (i + j) 0)) r)
found_later b a i e None w q l c f = λ k m u. clear_words b a i e c (word_found b i e (omega arith) None f) k m (omega arith)
found_later b a i e (Some j) w q l c f =
    let h : FirstWord b i e (Some (i + j)) = word_found b i e (omega arith) (Some j) f in
    found_in_word b a (i + j) (omega (arith, h.1)) (omega arith) (clear_words b a i (i + j) c h.3) (omega (arith, h.2)) (w (i + j))

-- the word in which the search begins, its bits below a shifted away
module _ (b : List ℕ) (a : ℕ) (l : a / 32 < min (length b) 2048) (fits : get_or b (a / 32) 0 < 2 ^ 32) where
  abbrev first : ℕ
  first = get_or b (a / 32) 0

  abbrev rest : ℕ
  rest = first / 2 ^ (a % 32)

  shifted : (j : ℕ) → bit_at first (a % 32 + j) ≡ bit_at rest j
  shifted j = ap (λ x. x % 2) (sym (shr-shr first (a % 32) j))

  at_first : (k : ℕ) → a ≤ k → k < 32 * (a / 32 + 1) → bit b k ≡ eqb (bit_at rest (k - a)) 1
  at_first k p q =
      let e : k / 32 ≡ a / 32 = omega arith in
      let f : k % 32 ≡ a % 32 + (k - a) = omega arith in
      ap (λ j. bit_of (get_or b j 0) (k % 32)) e ∙ ap (bit_of first) f ∙ ap (λ x. eqb x 1) (shifted (k - a))

  rest_small : rest < 2 ^ 32
  rest_small = omega (arith, shr_le first (a % 32))

  pub first_clear : rest ≡ 0 → ClearTo b a (a / 32 + 1)
  first_clear z k p q = at_first k p q ∙ ap (λ x. eqb (bit_at x (k - a)) 1) z ∙ zero_bit (k - a)

  pub found_at_first : 0 < rest → Lowest b a (Some (a + count_trailing_zeros 32 rest))
  found_at_first pos =
      let t : ℕ = count_trailing_zeros 32 rest in
      let z = bit_at-trailing_zeros w32 rest pos rest_small in
      -- a word has no bit past its 32
      let small : a % 32 + t < 32 = elim (cases_lt (a % 32 + t) 32) [
        | inl h ↦ h
        | inr h ↦ absurd (omega (arith, shifted t, bit_at_above first 32 (a % 32 + t) fits h, z.1))
      ] in (
        omega arith,
        omega (arith, small, l),
        at_first (a + t) (omega arith) (omega (arith, small)) ∙ ap (λ x. eqb (bit_at rest x) 1) (omega arith) ∙ ap (λ x. eqb x 1) z.1,
        λ k p q. at_first k p (omega (arith, small)) ∙ ap (λ x. eqb x 1) (z.2 (k - a) (omega arith)),
      )

-- ---- what `lowest_from` answers

pub at_first_word : (b : List ℕ) (a : ℕ) → a / 32 < min (length b) 2048 → get_or b (a / 32) 0 < 2 ^ 32 → 0 < get_or b (a / 32) 0 / 2 ^ (a % 32)
    → Some (a + count_trailing_zeros 32 (get_or b (a / 32) 0 / 2 ^ (a % 32))) ≡ lowest_bit b a
at_first_word b a l fits pos = lowest_found b a _ (found_at_first b a l fits pos)

pub at_later_word : (b : List ℕ) (a e : ℕ) (r : Option ℕ) → Words b → e ≡ min (length b) 2048 → a / 32 < e → get_or b (a / 32) 0 / 2 ^ (a % 32) ≡ 0
    → let n = a / 32 + 1 in FirstWord (take (e - n) (drop n b)) 0 (length (take (e - n) (drop n b))) r
    → option_map (λ j. (n + j) * 32 + count_trailing_zeros 32 (get_or b (n + j) 0)) r ≡ lowest_bit b a
at_later_word b a e r w q l z f = lowest_found b a _ (found_later b a (a / 32 + 1) e r w q (omega arith) (first_clear b a (omega arith) (w (a / 32)) z) f)
