-- What a trace remembers is right.
use Rattle.std.proofs.Common.{◌≡◌, ℕ, zero, suc, ◌+◌, ◌-◌, ◌*◌, ◌/◌, ◌<◌, min, false, eqb, List, length, Some, None, Option, sym, refl, ap, ◌∙◌, subst, inl, inr, arith}
use Rattle.std.proofs.lemmas.Bool.{cond_both, cases_lt}
use Rattle.format.specs.declared.things.Shape.{Shape}
use Rattle.format.specs.declared.things.Slot.TheVariants.{Reference}
use Rattle.format.specs.Meaning.{Meaning}
use Rattle.format.specs.Laws.{rewritten}
use Rattle.arena.specs.Boards.{bit, with_bit, without_bit, reach, lowest_in, lowest_bit, Lowest}
use Rattle.arena.proofs.BoardLaws.{laws_of}
use Rattle.trace.specs.declared.state.Plan.{Plan}
use Rattle.trace.specs.declared.state.Trace.{Trace}
use Rattle.trace.specs.declared.deciding.Fate.{Fate}
use Rattle.trace.specs.declared.deciding.Fate.TheVariants.{Stay, Gone, Mark, Grey, Copy, Fresh}
use Rattle.trace.specs.Traces.{Heap, heap, acted, fate_of, referred}
use Rattle.trace.specs.Collections.{pointed_in, nails, nailed_at}
use Rattle.trace.specs.Remembering.{Right, Remembers}

-- ---- the bound on what is grey

white_with : (b : List ℕ) (n a : ℕ) → ((x : ℕ) → x < n → bit b x ≡ false) → (x : ℕ) → x < min n a → bit (with_bit b a) x ≡ false
white_with b n a h x l = (laws_of b).set_other a x (omega arith) ∙ h x (omega arith)

white_without : (b : List ℕ) (n a : ℕ) → ((x : ℕ) → x < n → bit b x ≡ false) → lowest_bit b n ≡ Some a → (x : ℕ) → x < a → bit (without_bit b a) x ≡ false
white_without b n a h e x l =
    let low = subst (Lowest b n) e ((laws_of b).lowest n) in
    (laws_of b).cleared_other a x (omega arith) ∙ elim (cases_lt x n) [ inl k ↦ h x k | inr k ↦ low.3 x k l ]

skip : (b : List ℕ) (d k x : ℕ) → ((a : ℕ) → a < x + d → bit b a ≡ false) → lowest_in (d + k) b x ≡ lowest_in k b (x + d)
skip b zero k x h =
    let e : 0 + k ≡ k = omega arith in
    let f : x ≡ x + 0 = omega arith in
    rw (e, ← f) refl
skip b (suc d) k x h =
    let e : suc d + k ≡ suc (d + k) = omega arith in
    let f : x + 1 + d ≡ x + suc d = omega arith in
    rw (e, h x (omega arith)) (skip b d k (x + 1) (λ a l. h a (omega arith)) ∙ ap (lowest_in k b) f)

none_set : (b : List ℕ) (k x : ℕ) → ((a : ℕ) → a < x + k → bit b a ≡ false) → lowest_in k b x ≡ None
none_set b zero x h = refl
none_set b (suc k) x h = rw (h x (omega arith)) (none_set b k (x + 1) (λ a l. h a (omega arith)))

lowest_of_all : (b : List ℕ) (n : ℕ) → ((a : ℕ) → a < n → bit b a ≡ false) → lowest_bit b n ≡ lowest_bit b 0
lowest_of_all b n h = elim (cases_lt n (reach b)) [
  | inl l ↦ (let e : n + (reach b - n) ≡ reach b - 0 = omega arith in
      let f : 0 + n ≡ n = omega arith in
      sym (ap (λ (k : ℕ). lowest_in k b 0) (sym e) ∙ skip b n (reach b - n) 0 (λ a k. h a (omega arith)) ∙ ap (lowest_in (reach b - n) b) f))
  | inr l ↦ (let e : reach b - n ≡ 0 = omega arith in
      ap (λ (k : ℕ). lowest_in k b n) e ∙ sym (none_set b (reach b - 0) 0 (λ a k. h a (omega arith))))
]

-- ---- each step

module _ (m : Meaning) (y : Plan) (v : Heap) where
  abbrev t : Trace
  t = v.state

  acts : (a : ℕ) (f : Fate) → Right v → Right (acted m v a f)
  acts a Stay r = r
  acts a (Gone to) r = r
  acts a Mark r = record { low = r.low }
  acts a Grey r = record { low = white_with v.greys t.low a r.low }
  acts a (Copy p n to) r = record { low = white_with v.greys t.low to r.low }
  acts a (Fresh p n s) r = record { low = white_with v.greys t.low (s * 256) r.low }

  nails_at : Right v → (o : Option ℕ) → Right (nailed_at v o)
  nails_at r None = r
  nails_at r (Some a) = record { low = white_with v.greys t.low a r.low }

  writes : (a n : ℕ) (s : Shape) (i old new : ℕ) → Right v → Right (referred m v a n s i old new)
  writes a n s i old new r =
      cond_both (eqb new old) v (heap v.state (rewritten (m.with_slot s i (Reference new)) a n v.words) v.marks v.greys) Right
      (λ z. r) (λ z. record { low = r.low })

pub remembers : Remembers
remembers m y = record {
  begins = λ g ws ms gs. record { low = λ a l. absurd (omega arith) };
  nails = λ v w r. cond_both (nails y (length v.words) w) (nailed_at v (pointed_in m v.words v.marks (w / 256 * 256) (w / 256 * 256 + 256) w)) v Right (λ z. nails_at m y v r _) (λ z. r);
  fixes = λ v a r. acts m y v a (fate_of m y v a) r;
  slots = λ v a n s i old new r. writes m y v a n s i old new r;
  ungreys = λ v a r e. record { low = white_without v.greys v.state.low a r.low e };
  lowest = λ v r. lowest_of_all v.greys v.state.low r.low;
}
