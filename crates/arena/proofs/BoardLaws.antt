-- The laws of a board.
use Rattle.std.proofs.Common.{◌≡◌, ℕ, ◌+◌, ◌/◌, ◌%◌, ◌^◌, ◌<◌, true, false, ◌≢◌, min, List, length, get_or, take, set, sum_by, sym, refl, ap, ◌∙◌, inl, inr, arith}
use lib.Bits.{bit_or}
use lib.Count.{ones}
use Rattle.std.proofs.lemmas.List.{get_or-set_same, get_or-set_other, set_past, get_or_past, get_or-take, length-take, take_all}
use Rattle.std.proofs.Math.Seq.{take-set-lt}
use Rattle.std.proofs.lemmas.List.Sums.{sum_by-set}
use Rattle.std.proofs.lemmas.Bool.{cases_eq, cases_lt, eqb-false}
use Rattle.std.specs.Int.{bit_at}
use Rattle.arena.specs.Boards.{bit_of, bit, with_bit, without_bit, reach, ones_of, LawsOf, BoardLaws}
use Rattle.arena.proofs.Bits.{set_same, set_other, clear_same, clear_other, ones_set}
use Rattle.arena.proofs.Lowest.{zero_bit, lowest_is}

-- the words that are counted
pub take_few : (b : List ℕ) (i : ℕ) → i ≡ min (length b) 2048 → take i b ≡ take 2048 b
take_few b i e =
    elim (cases_lt (length b) 2048) [
      | inl l ↦ take_all i b (omega arith) ∙ sym (take_all 2048 b (omega arith))
      | inr l ↦ (let d : i ≡ 2048 = omega arith in ap (λ n. take n b) d)
    ]

module _ (b : List ℕ) where
  -- the board whose word of a has become w: a bit of that word, and of any other
  changed_here : (a w k : ℕ) → a / 32 < length b → k / 32 ≡ a / 32 → bit (set b (a / 32) w) k ≡ bit_of w (k % 32)
  changed_here a w k l e =
      ap (λ j. bit_of (get_or (set b (a / 32) w) j 0) (k % 32)) e ∙ ap (λ v. bit_of v (k % 32)) (get_or-set_same b (a / 32) w 0 l)

  changed_elsewhere : (a w k : ℕ) → k / 32 ≢ a / 32 → bit (set b (a / 32) w) k ≡ bit b k
  changed_elsewhere a w k ne = ap (λ v. bit_of v (k % 32)) (get_or-set_other b (a / 32) (k / 32) w 0 ne)

  -- a word that keeps another bit keeps that bit of the board
  other_stays : (a w k : ℕ) → k ≢ a → ((n : ℕ) → n < 32 → a % 32 ≢ n → bit_of w n ≡ bit_of (get_or b (a / 32) 0) n) → bit (set b (a / 32) w) k ≡ bit b k
  other_stays a w k ne h =
      elim (cases_lt (a / 32) (length b)) [
        | inl l ↦ elim (cases_eq (k / 32) (a / 32)) [
          | inl e ↦ changed_here a w k l e ∙ h (k % 32) (omega arith) (omega arith) ∙ ap (λ j. bit_of (get_or b j 0) (k % 32)) (sym e)
          | inr d ↦ changed_elsewhere a w k d
        ]
        | inr l ↦ ap (λ z. bit z k) (set_past b (a / 32) w l)
      ]

  with_same : (a : ℕ) → a < reach b → bit (with_bit b a) a ≡ true
  with_same a h = changed_here a _ a (omega arith) refl ∙ set_same (get_or b (a / 32) 0) (a % 32)

  without_same : (a : ℕ) → bit (without_bit b a) a ≡ false
  without_same a =
      elim (cases_lt (a / 32) (length b)) [
        | inl l ↦ changed_here a _ a l refl ∙ clear_same (get_or b (a / 32) 0) (a % 32) (omega arith)
        | inr l ↦ ap (λ z. bit z a) (set_past b (a / 32) _ l) ∙ ap (λ v. bit_of v (a % 32)) (get_or_past b (a / 32) 0 l) ∙ zero_bit (a % 32)
      ]

  count_with : (a : ℕ) → a < reach b → bit b a ≡ false → ones_of (with_bit b a) ≡ ones_of b + 1
  count_with a h off =
      let w = get_or b (a / 32) 0 in
      let v = bit_or w (2 ^ (a % 32)) in
      let z : bit_at w (a % 32) ≡ 0 = omega (arith, eqb-false (bit_at w (a % 32)) 1 off) in
      let s = sum_by-set ones (take 2048 b) (a / 32) v 0 (omega (arith, length-take 2048 b)) in
      let e : ones (get_or (take 2048 b) (a / 32) 0) ≡ ones w = ap ones (get_or-take 2048 b (a / 32) 0 (omega arith)) in
      let t : ones_of (with_bit b a) ≡ sum_by ones (set (take 2048 b) (a / 32) v) = ap (sum_by ones) (take-set-lt 2048 b (a / 32) v (omega arith)) in
      omega (arith, s, e, t, ones_set (a % 32) w z)

  pub laws_of : LawsOf b
  laws_of = record {
    set_same = with_same;
    set_other = λ a k ne. other_stays a _ k ne (λ n l d. set_other (get_or b (a / 32) 0) (a % 32) n d);
    cleared_same = without_same;
    cleared_other = λ a k ne. other_stays a _ k ne (λ n l d. clear_other (get_or b (a / 32) 0) (a % 32) n (omega arith) l d);
    count_set = count_with;
    lowest = lowest_is b;
  }

pub board_laws : BoardLaws
board_laws b w = laws_of b
