-- A collection keeps a sound arena, and all that it does not let go.
use Rattle.std.proofs.Common.{◌≡◌, ℕ, true, not, ◌||◌, eqb, Some, None, Option, refl, inl, inr, arith, ne_eqb}
use borrow.Author.Tests.{both_ways}
use Rattle.std.proofs.lemmas.Bool.{cases_Bool, or_right}
use Rattle.format.specs.declared.things.Slot.{Slot}
use Rattle.format.specs.declared.things.Slot.TheVariants.{Reference, Number}
use Rattle.trace.specs.Traces.{condemns, Heap}
use Rattle.trace.specs.Keeping.{place, Follows, SlotFollows}
use Rattle.trace.proofs.Cells.{marked, stays, Start, Std, Obj, Fits, Final, stay, move, Settled, empty, settled, Held, here, away, still, Inv, Sound}

-- ---- fates

module _ (S : Start) (ok : Sound S) (Todo : ℕ → Type 0) (t : Heap) (inv : Inv S Todo t) where
  abbrev placed_at : ℕ → Option ℕ
  placed_at a = place S.meaning S.plan t a

  left_by : (a : ℕ) → Std S a → stays S t a ≡ true → (not (condemns S.plan a) || marked t a) ≡ true
  left_by a s h = rw (ne_eqb a 0 (λ z. omega (arith, ok.low a s))) at h

  stays_left : (a : ℕ) → (not (condemns S.plan a) || marked t a) ≡ true → stays S t a ≡ true
  stays_left a h = or_right (eqb a 0) _ h

  pub fate_is : (a p : ℕ) → Obj S a → Final S t a p → placed_at a ≡ Some p
  fate_is a p s (move g) = rw g refl
  fate_is a p s (stay e h) = go (inv.held a s.0)
    where
      go : Held S t.words a → placed_at a ≡ Some p
      go (here b) = rw (b.shape, left_by a s.0 h, e) refl
      go (away b g k) = absurd (both_ways (stays S t a) (inv.copied a b s.0 g).left h)
      go (still w f) = cc

  pub is_fate : (a p : ℕ) → Obj S a → placed_at a ≡ Some p → Final S t a p
  is_fate a p s e = go (inv.held a s.0)
    where
      go : Held S t.words a → Final S t a p
      go (here b) = elim (cases_Bool (not (condemns S.plan a) || marked t a)) [
        | inl h ↦ (let f : Some a ≡ Some p = rw (b.shape, h) at e in stay (cc) (stays_left a h))
        | inr h ↦ (let f : None ≡ Some p = rw (b.shape, h) at e in absurd (cc))
      ]
      go (away b g k) = (let f : Some b ≡ Some p = rw g at e in let q : b ≡ p = cc in move (rw (← q) g))
      go (still w f) = cc

  pub follows : (r q : ℕ) → Settled S t r q → Follows S.meaning S.plan t r q
  follows r q (empty e f) = inl (e, f)
  follows r q (settled s f) = inr (fate_is r q s f)

  pub slot_follows : (x z : Slot) → Fits (Settled S t) x z → SlotFollows S.meaning S.plan t x z
  slot_follows (Number v) (Number w) h = h
  slot_follows (Number v) (Reference w) h = h
  slot_follows (Reference r) (Number w) h = h
  slot_follows (Reference r) (Reference q) h = follows r q h
