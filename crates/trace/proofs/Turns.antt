-- One round of the trace.
use Rattle.std.proofs.Common.{◌≡◌, ℕ, suc, ◌-◌, ◌<◌, Some, None, sym, ap, ◌∙◌, arith}
use Rattle.format.specs.Meaning.{Meaning}
use Rattle.arena.specs.Boards.{lowest_bit}
use Rattle.trace.specs.declared.state.Plan.{Plan}
use Rattle.trace.specs.Traces.{Heap, rounded, turned, next}

module _ (m : Meaning) (y : Plan) (k : ℕ) (v : Heap) (some : 0 < k) where
  step : rounded m y k v ≡ next v (λ a. rounded m y (k - 1) (turned m y v a)) (lowest_bit v.greys v.state.low)
  step = let e : k ≡ suc (k - 1) = omega arith in ap (λ n. rounded m y n v) e

  -- nothing is grey
  pub stop : None ≡ lowest_bit v.greys v.state.low → rounded m y k v ≡ v
  stop e = step ∙ ap (next v (λ a. rounded m y (k - 1) (turned m y v a))) (sym e)

  pub more : (a : ℕ) → Some a ≡ lowest_bit v.greys v.state.low → rounded m y k v ≡ rounded m y (k - 1) (turned m y v a)
  more a e = step ∙ ap (next v (λ b. rounded m y (k - 1) (turned m y v b))) (sym e)
