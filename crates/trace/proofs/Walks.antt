-- Walks over the things of a row.
use Rattle.std.proofs.Common.{◌≡◌, ℕ, zero, suc, ◌+◌, ◌-◌, ◌*◌, ◌<◌, ◌≤◌, cond, ltb, ◌⊎◌, List, length, drop, sym, refl, ap, ◌∙◌, inl, inr, arith}
use Rattle.std.proofs.lemmas.Bool.{cases_lt, cond-true, cond-false, lt-ltb, le-ltb, le-leb, eq-eqb}
use Rattle.std.proofs.lemmas.List.{length-take}
use Rattle.format.specs.declared.things.Head.{Head}
use Rattle.format.specs.declared.things.Head.TheVariants.{Nothing, Object, Forwarded, Padding}
use Rattle.format.specs.Meaning.{Meaning, extent, seen}
use Rattle.format.specs.Laws.{part}
use Rattle.format.proofs.Heads.{range_extent, seen_cases}
use Rattle.arena.specs.declared.segments.Segments.{Segments}
use Rattle.arena.specs.Segments.{freed, freed_words}
use Rattle.trace.specs.declared.sweeping.Stand.{Stand}
use Rattle.trace.specs.Traces.{stand_by, stood, walked, Row, row, row_by, thing_swept, thing_end, swept_row, swept_words, swept_segments}

module _ {S : Type 0} (f : S → ℕ → S) (onto : S → ℕ → ℕ) (limit : ℕ) (ahead : (s : S) (at : ℕ) → at < limit → at < onto s at) where
  -- more turns than there are words left change nothing
  enough : (k j : ℕ) (s : S) (at : ℕ) → limit - at ≤ k → limit - at ≤ j → walked f onto limit k s at ≡ walked f onto limit j s at
  enough zero zero s at p q = refl
  enough zero (suc j) s at p q = sym (cond-false _ _ _ (le-ltb at limit (omega arith)))
  enough (suc k) zero s at p q = rw (le-ltb at limit (omega arith)) refl
  enough (suc k) (suc j) s at p q =
      elim (cases_lt at limit) [
        | inl l ↦
            let a : at < onto s at = ahead s at l in
            ap (λ x. cond (ltb at limit) x s) (enough k j (f s at) (onto s at) (omega arith) (omega arith))
        | inr g ↦ cond-false _ _ _ (le-ltb at limit g) ∙ sym (cond-false _ _ _ (le-ltb at limit g))
      ]

  pub turn : (s : S) (at : ℕ) → at < limit → walked f onto limit (limit - onto s at) (f s at) (onto s at) ≡ walked f onto limit (limit - at) s at
  turn s at l =
      let e : limit - at ≡ suc (limit - at - 1) = omega arith in
      let a : at < onto s at = ahead s at l in
      enough (limit - onto s at) (limit - at - 1) (f s at) (onto s at) (omega arith) (omega arith)
      ∙ sym (cond-true _ _ _ (lt-ltb at limit l))
      ∙ ap (λ k. walked f onto limit k s at) (sym e)

-- a thing of a row ends past its base, and before the row does
by_ends : (m : Meaning) (ms : List ℕ) (at limit : ℕ) (h : Head) → at < limit → (h ≡ Nothing) ⊎ ((1 ≤ extent m h) × (at + extent m h ≤ limit))
    → (at < (stand_by ms at limit m h).end) × ((stand_by ms at limit m h).end ≤ limit)
by_ends m ms at limit Nothing l x = (l, omega arith)
by_ends m ms at limit (Object s) l (inl e) = cc
by_ends m ms at limit (Object s) l (inr r) = (omega (arith, r.0), r.1)
by_ends m ms at limit (Forwarded k to) l (inl e) = cc
by_ends m ms at limit (Forwarded k to) l (inr r) = (omega (arith, r.0), r.1)
by_ends m ms at limit (Padding k) l (inl e) = cc
by_ends m ms at limit (Padding k) l (inr r) = (omega (arith, r.0), r.1)

pub stood_ends : (m : Meaning) (ws ms : List ℕ) (at limit : ℕ) → at < limit
    → (at < (stood m ws ms at limit).end) × ((stood m ws ms at limit).end ≤ limit)
stood_ends m ws ms at limit l =
    let own = part at (limit - at) ws in
    by_ends m ms at limit (seen m own) l
    (elim (seen_cases m own) [
      | inl e ↦ inl e
      | inr r ↦ inr ((range_extent m (seen m own) r.0).0, omega (arith, r.1, length-take (limit - at) (drop at ws)))
    ])

pub step : (m : Meaning) (ms : List ℕ) (limit : ℕ) (ws : List ℕ) (run at : ℕ) (t : Stand) → at < limit → t ≡ stood m ws ms at limit
    → walked (thing_swept m ms limit) (thing_end m ms limit) limit (limit - t.end) (row_by m (row ws run) at t) (t.end)
    ≡ walked (thing_swept m ms limit) (thing_end m ms limit) limit (limit - at) (row ws run) at
step m ms limit ws run at t l e =
    let f : Stand → Row = λ u. walked (thing_swept m ms limit) (thing_end m ms limit) limit (limit - u.end) (row_by m (row ws run) at u) (u.end) in
    ap f e ∙ turn (thing_swept m ms limit) (thing_end m ms limit) limit (λ r b h. (stood_ends m r.words ms b limit h).0) (row ws run) at l

-- a segment in which nothing is marked
pub ended_free : (m : Meaning) (g : Segments) (ws ms : List ℕ) (s : ℕ) (r : Row) → r ≡ swept_row m ws ms (s * 256) (s * 256 + 256) → s * 256 + 256 ≤ length ws → r.run ≡ s * 256
    → (freed g (length r.words) s ≡ swept_segments m g ws ms s) × (freed_words r.words s ≡ swept_words m ws ms s)
ended_free m g ws ms s r e l h =
    let i = le-leb (s * 256 + 256) (length ws) l in
    let q = eq-eqb r.run (s * 256) h in (
      rw (i, ← e, q) refl,
      rw (i, ← e, q) refl,
    )
