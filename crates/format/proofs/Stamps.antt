-- A header and zeros.
use Rattle.std.specs.Prelude.{◌≡◌, ℕ, suc, ◌+◌, ◌<◌, ◌≤◌, List, [], ◌∷◌, length, replicate, slice_index, slice_set, refl}
use Rattle.std.proofs.Common.{ap, arith, add-one}
use Rattle.std.proofs.lemmas.List.{length-replicate, get_or-replicate}
use Rattle.format.specs.Words.{stamped}

pub stamped_fill : (v : ℕ) (ws : List ℕ) → slice_set (replicate (length ws) 0) 0 v ≡ stamped v ws
stamped_fill v [] = refl
stamped_fill v (w ∷ ws) = refl

pub stamped_length : (v : ℕ) (ws : List ℕ) → length (stamped v ws) ≡ length ws
stamped_length v [] = refl
stamped_length v (w ∷ ws) = ap suc (length-replicate {A = ℕ} (length ws) 0)

pub stamped_header : (v : ℕ) (ws : List ℕ) → 1 ≤ length ws → slice_index (stamped v ws) 0 ≡ v
stamped_header v [] h = absurd (omega arith)
stamped_header v (w ∷ ws) h = refl

pub stamped_zero : (v : ℕ) (ws : List ℕ) (k : ℕ) → k + 1 < length ws → slice_index (stamped v ws) (k + 1) ≡ 0
stamped_zero v [] k h = absurd (omega arith)
stamped_zero v (w ∷ ws) k h = rw (add-one k) (get_or-replicate (length ws) k 0 0 (omega arith))
