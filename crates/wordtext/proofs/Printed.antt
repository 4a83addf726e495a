-- Words that are written in decimal are read back
use Rattle.std.proofs.Common.{◌≡◌, ℕ, ◌+◌, ◌/◌, ◌%◌, ◌^◌, ◌<◌, ◌≤◌, true, false, eqb, ltb, List, [], ◌∷◌, ◌++◌, map, length, get_or, take, drop, Ok, decimal, refl, ap, ◌∙◌, append_assoc, arith}
use Rattle.std.proofs.lemmas.Fmt.{decimal_by_steps}
use Rattle.std.proofs.lemmas.Int.Digits.{number_push}
use Rattle.std.proofs.lemmas.List.{map_push, take_at, drop_at, length_push}
use Rattle.std.proofs.lemmas.Bool.{and_from, and_parts, and_right, cond-true, cond-false, le-leb, lt-ltb, not_from_false}
use Rattle.std.proofs.lemmas.Bool.Decides.{nat_tests}
use Rattle.std.specs.Int.Digits.{number_from_digits}
use Rattle.std.specs.List.{prefix_len, AllByRecursion}
use Rattle.wordtext.specs.Numbers.{digit_of, digits_only, value_of}
use Rattle.wordtext.specs.Texts.{white, dark, pieces, values, line_of_words, ReadsBack}
use Rattle.wordtext.proofs.Numerals.{digits_push, numeral_small}
use Rattle.wordtext.proofs.Cuts.{piece, cut}

-- a digit, by what it is worth
digit_at : (n : ℕ) → n < 10 → digit_of (48 + n) ≡ n
digit_at n h = cond-true _ _ _ (and_from _ _ (le-leb 48 (48 + n) (omega arith)) (le-leb (48 + n) 57 (omega arith))) ∙ omega arith

pub record Spelt (n : ℕ) (ds : List ℕ) : Type 0 where
  pub only : digits_only 10 ds ≡ true
  pub value : number_from_digits 10 (map digit_of ds) ≡ n
  pub some : 0 < length ds

spelt_one : (n : ℕ) → n < 10 → Spelt n ((48 + n) ∷ [])
spelt_one n h =
    record {
      only = and_from _ _ (rw (digit_at n h) (lt-ltb n 10 h)) refl;
      value = rw (digit_at n h) (omega arith);
      some = omega arith;
    }

spelt_more : (n : ℕ) (ds : List ℕ) → 10 ≤ n → Spelt (n / 10) ds → Spelt n (ds ++ ((48 + n % 10) ∷ []))
spelt_more n ds h s =
    let small : n % 10 < 10 = omega arith in
    let d = digit_at (n % 10) small in
    record {
      only = digits_push 10 ds (48 + n % 10) s.only (rw d (lt-ltb (n % 10) 10 small));
      value = ap (number_from_digits 10) (map_push digit_of ds (48 + n % 10)) ∙ number_push 10 (map digit_of ds) (digit_of (48 + n % 10)) ∙ rw (d, s.value) (omega arith);
      some = omega (arith, length_push ds (48 + n % 10));
    }

pub spelt : (n : ℕ) → n < 2 ^ 64 → Spelt n (decimal n)
spelt n h = decimal_by_steps Spelt spelt_one spelt_more n h

-- decimal digits have no `0x` before them
no_prefix : (ds : List ℕ) → digits_only 10 ds ≡ true → eqb (get_or ds 1 0) 120 ≡ false
no_prefix [] only = refl
no_prefix (a ∷ []) only = refl
no_prefix (a ∷ b ∷ bs) only =
    let h = (and_parts (ltb (digit_of b) 10) (digits_only 10 bs) (and_parts (ltb (digit_of a) 10) (digits_only 10 (b ∷ bs)) only).1).0 in
    grind (arith, nat_tests)

value_spelt : (n : ℕ) (ds : List ℕ) → n < 2 ^ 32 → Spelt n ds → value_of ds ≡ Ok n
value_spelt n ds small s =
    cond-false _ _ _ (and_right _ _ (no_prefix ds s.only))
    ∙ numeral_small 10 ds n s.some s.only s.value small

digit_dark : (b : ℕ) → ltb (digit_of b) 10 ≡ true → white b ≡ false
digit_dark b h = grind (arith, nat_tests)

-- digits before a space
leading_digits : (ds rest : List ℕ) → digits_only 10 ds ≡ true → prefix_len dark (ds ++ 32 ∷ rest) ≡ length ds
leading_digits [] rest only = refl
leading_digits (d ∷ ds) rest only =
    let h = and_parts (ltb (digit_of d) 10) (digits_only 10 ds) only in
    cond-true _ _ _ (not_from_false (white d) (digit_dark d h.0)) ∙ omega (arith, leading_digits ds rest h.1)

pieces_digits : (place : ℕ) (ds rest : List ℕ) → 0 < length ds → digits_only 10 ds ≡ true
    → pieces place (ds ++ 32 ∷ rest) ≡ piece place ds ∷ pieces (place + length ds + 1) rest
pieces_digits place [] rest some only = absurd (omega arith)
pieces_digits place (d ∷ ds) rest some only =
    let h = and_parts (ltb (digit_of d) 10) (digits_only 10 ds) only in
    let n = leading_digits ds rest h.1 in
    let t : take (length ds) (ds ++ 32 ∷ rest) ≡ ds = take_at ds (32 ∷ rest) (length ds) refl in
    let r : drop (length ds) (ds ++ 32 ∷ rest) ≡ 32 ∷ rest = drop_at ds (32 ∷ rest) (length ds) refl in
    let e : place + 1 + length ds + 1 ≡ place + length (d ∷ ds) + 1 = omega arith in
    cut place d (ds ++ 32 ∷ rest) (digit_dark d h.0) ∙ rw (n, t, r, e)

reads : (place : ℕ) (ws : List ℕ) → AllByRecursion (λ w. w < 2 ^ 32) ws → values (pieces place (line_of_words ws)) ≡ Ok ws
reads place [] small = refl
reads place (w ∷ ws) small =
    let s = spelt w (omega (arith, small.0)) in
    ap (λ bs. values (pieces place bs)) (append_assoc (decimal w) (32 ∷ []) (line_of_words ws))
    ∙ ap values (pieces_digits place (decimal w) (line_of_words ws) s.some s.only)
    ∙ rw (value_spelt w (decimal w) small.0 s, reads (place + length (decimal w) + 1) ws small.1)

pub reads_back : ReadsBack
reads_back ws small = reads 0 ws small
