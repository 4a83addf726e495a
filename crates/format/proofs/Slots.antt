-- Lemmas on the test of each slot.
use Rattle.std.proofs.Common.{◌≡◌, ℕ, ◌<◌, Bool, true, map, get_or, Decides, ap, ◌∙◌, sym, arith}
use Rattle.std.specs.List.{list_all, range_with_len}
use Rattle.std.proofs.lemmas.List.FromFn.{length-range_with_len, get_or-range_with_len, length-map-range_with_len, get_or-map-range_with_len, fill_by_all}
use Rattle.std.proofs.lemmas.List.Sums.{AllPass-from_list_all, list_all-from_AllPass}

pub all_decides : (p : ℕ → Bool) (n : ℕ) → Decides (list_all p (range_with_len 0 n)) ((k : ℕ) → k < n → p k ≡ true)
all_decides p n = (
  λ e k l. sym (ap p (at k 0 l)) ∙ AllPass-from_list_all p (range_with_len 0 n) e k 0 (omega (arith, length-range_with_len 0 n)),
  λ h. list_all-from_AllPass p (range_with_len 0 n) (λ k d l.
      (let b : k < n = omega (arith, length-range_with_len 0 n) in
      ap p (at k d b) ∙ h k b)),
)
  where
    at : (k d : ℕ) → k < n → get_or (range_with_len 0 n) k d ≡ k
    at k d l = omega (arith, get_or-range_with_len 0 n k d l)

-- two lists by index are the same where their functions agree
pub same_map : {X : Type 0} (d : X) (f h : ℕ → X) (n : ℕ) → ((i : ℕ) → i < n → f i ≡ h i) → map f (range_with_len 0 n) ≡ map h (range_with_len 0 n)
same_map d f h n e =
    fill_by_all h (map f (range_with_len 0 n)) n d (length-map-range_with_len f 0 n)
    (λ k l. get_or-map-range_with_len f 0 n k k d l (omega arith) ∙ e k l)
