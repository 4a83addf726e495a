-- The object of a row into which a word points.
use Rattle.std.proofs.Common.{◌≡◌, ℕ, zero, suc, ◌-◌, ◌<◌, ◌≤◌, cond, ltb, List, None, Option, sym, refl, ap, ◌∙◌, inl, inr, arith}
use Rattle.std.proofs.lemmas.Bool.{cases_lt, cond-true, cond-false, lt-ltb, le-ltb}
use Rattle.format.specs.Meaning.{Meaning, seen}
use Rattle.format.specs.Laws.{part}
use Rattle.trace.specs.Traces.{stood}
use Rattle.trace.specs.Collections.{base_of, pointed, pointed_in}
use Rattle.trace.proofs.Walks.{stood_ends}

module _ (m : Meaning) (ws ms : List ℕ) (limit w : ℕ) where
  abbrev end_from : ℕ → ℕ
  end_from at = (stood m ws ms at limit).end

  abbrev here : ℕ → Option ℕ
  here at = base_of (seen m (part at (limit - at) ws)) at

  -- more steps than there are words left change nothing
  enough : (k j at : ℕ) → limit - at ≤ k → limit - at ≤ j → pointed m ws ms limit w k at ≡ pointed m ws ms limit w j at
  enough zero zero at p q = refl
  enough zero (suc j) at p q = sym (cond-false _ _ _ (le-ltb at limit (omega arith)))
  enough (suc k) zero at p q = rw (le-ltb at limit (omega arith)) refl
  enough (suc k) (suc j) at p q =
      elim (cases_lt at limit) [
        | inl l ↦
            (let e = stood_ends m ws ms at limit l in
            ap (λ x. cond (ltb at limit) (cond (ltb w (end_from at)) (here at) x) None) (enough k j (end_from at) (omega (arith, e)) (omega (arith, e))))
        | inr g ↦ cond-false _ _ _ (le-ltb at limit g) ∙ sym (cond-false _ _ _ (le-ltb at limit g))
      ]

  unrolled : (at : ℕ) → at < limit → pointed_in m ws ms at limit w ≡ cond (ltb w (end_from at)) (here at) (pointed m ws ms limit w (limit - at - 1) (end_from at))
  unrolled at l =
      let e : limit - at ≡ suc (limit - at - 1) = omega arith in
      ap (λ k. pointed m ws ms limit w k at) e ∙ cond-true _ _ _ (lt-ltb at limit l)

  pub points_here : (at : ℕ) → at < limit → w < end_from at → pointed_in m ws ms at limit w ≡ here at
  points_here at l h = unrolled at l ∙ cond-true _ _ _ (lt-ltb w (end_from at) h)

  pub points_on : (at : ℕ) → at < limit → end_from at ≤ w → pointed_in m ws ms at limit w ≡ pointed_in m ws ms (end_from at) limit w
  points_on at l h =
      let e = stood_ends m ws ms at limit l in
      unrolled at l ∙ cond-false _ _ _ (le-ltb w (end_from at) h) ∙ enough (limit - at - 1) (limit - end_from at) (end_from at) (omega (arith, e)) (omega arith)
