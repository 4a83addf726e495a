-- The segments that the trace took stay rows of copies.
use Rattle.std.proofs.Common.{◌≡◌, ℕ, ◌+◌, ◌-◌, ◌*◌, ◌/◌, ◌%◌, ◌<◌, ◌≤◌, false, ◌≢◌, ◌⊎◌, List, sym, ap, ◌∙◌, inl, inr, arith, Some, None}
use native.Mathlib.Decide.{dec_lt}
use Rattle.std.proofs.lemmas.Bool.{cases_eq}
use Rattle.format.specs.Meaning.{padding}
use Rattle.arena.specs.Boards.{with_bit}
use Rattle.trace.specs.declared.state.Trace.{Trace}
use Rattle.trace.specs.Traces.{Heap, heap}
use Rattle.trace.proofs.Cells.{owner, target, stays, rd, owner0, leafy, Start, Std, size0, Obj, Moved, copy, Body, Room, unused, Covered, Front, Fill, Inv, Sound}
use Rattle.trace.proofs.Facts.{real_padding}
use Rattle.trace.proofs.Copying.{Copying, copy_grows, copy_back}
use Rattle.trace.proofs.Putting.{seg_apart}
use Rattle.trace.proofs.Spots.{pool_same, Spot, onward, opening, Onto, Placed, placed}

module _ (S : Start) (ok : Sound S) (Todo : ℕ → Type 0) (t : Heap) (inv : Inv S Todo t) (a : ℕ) (oa : Obj S a) (gone : stays S t a ≡ false)
    (body : Body S t.words a (rd S t.words a)) (b : ℕ) (k : List ℕ) (st : Trace) (p : ℕ)
    (cp : Copying S t.words k a b (size0 S a))
    (in_free : (w : ℕ) → b ≤ w → w < b + size0 S a → Room t w)
    (spot : Spot t p b) (fit : b % 256 + size0 S a ≤ 256) (pin : p < 8) (bare : leafy S p ≡ false)
    (onto : Onto t (heap st k t.marks (with_bit t.greys b)) p b (size0 S a))
    (closing : 1 ≤ target t p % 256 → target t p / 256 ≢ b / 256
    → rd S t.words (target t p) ≡ padding ((target t p / 256) * 256 + 256 - target t p)) where
  abbrev u : Heap
  u = heap st k t.marks (with_bit t.greys b)

  big : 1 ≤ size0 S a
  big = ok.some a oa.0

  pl : Placed S t inv.ready p b spot (size0 S a) big fit
  pl = placed S t inv.ready p b spot (size0 S a) big fit

  pub fresh : owner0 S (b / 256) ≡ None
  fresh = go spot
    where
      go : Spot t p b → owner0 S (b / 256) ≡ None
      go (onward e h) = rw (← e) (inv.fill.aims p (rw e h))
      go (opening z low h e) = inv.fill.empty (b / 256) e

  record Pre : Type 0 where
    below : (c d : ℕ) → Std S c → Moved S t.words c d → d / 256 ≡ b / 256 → d + size0 S c ≤ b
    cover : (w : ℕ) → (b / 256) * 256 ≤ w → w < b → Covered S t.words w

  pre : Pre
  pre = go spot
    where
      from_front : (b : ℕ) → target t p ≡ b → 1 ≤ b % 256 → (f : Front S t (b / 256) p) → f.front ≡ b
      from_front b e h f = elim f.ends [
        | inl x ↦ x.2 ∙ e
        | inr x ↦ absurd (x.0 (rw e h) (ap (λ (y : ℕ). y / 256) e))
      ]

      go : Spot t p b → Pre
      go (onward e h) =
          let o : owner t (b / 256) ≡ Some p = rw (← e) (inv.ready.owned p (rw e h)).0 in
          let f = inv.fill.fronts (b / 256) p fresh o in
          let z = from_front b e h f in
          record { below = λ c d s g y. rw (← z) (f.below c d s g y); cover = λ w x y. f.cover w x (rw z y) }
      go (opening z low h e) = record {
        below = λ c d s g y. absurd (elim (inv.room d c d (unused (inv.copied c d s g).low (omega (arith, (inv.copied c d s g).high, ok.some c s)) (rw y e)) s (copy g)) [
          | inl x ↦ omega arith
          | inr x ↦ omega (arith, ok.some c s)
        ]);
        cover = λ w x y. absurd (omega arith);
      }

  on : (c d : ℕ) → Std S c → Moved S t.words c d → Moved S k c d
  on = (copy_grows S ok Todo t inv a oa gone body b k st cp in_free).moves

  back : (c d : ℕ) → Std S c → Moved S k c d → ((c ≡ a) × (d ≡ b)) ⊎ ((c ≢ a) × Moved S t.words c d)
  back = copy_back S ok Todo t inv a oa gone body b k st cp in_free

  covered_on : (w : ℕ) → Covered S t.words w → Covered S k w
  covered_on w c = record { from = c.from; base = c.base; obj = c.obj; moved = on c.from c.base c.obj.0 c.moved; low = c.low; high = c.high }

  here_front : Front S u (b / 256) p
  here_front = record {
    front = b + size0 S a;
    low = omega arith;
    high = omega arith;
    below = λ c d s g y. elim (back c d s g) [
      | inl x ↦ rw (x.0, x.1) (omega arith)
      | inr x ↦ omega (arith, pre.below c d s x.1 y)
    ];
    cover = λ w x y. elim (dec_lt w b) [
      | yes l ↦ covered_on w (pre.cover w x l)
      | no l ↦ record { from = a; base = b; obj = oa; moved = cp.left; low = omega arith; high = y }
    ];
    ends = elim (cases_eq ((b + size0 S a) % 256) 0) [
      | inl z ↦ inr (rw onto.aim (λ h y. omega arith), inl (omega arith))
      | inr n ↦ inl (rw onto.aim (omega arith), rw onto.aim (omega arith), sym onto.aim)
    ];
  }

  -- padding in another segment stays
  pad_still : (s f : ℕ) → owner0 S s ≡ None → s ≢ b / 256 → s * 256 ≤ f → f < s * 256 + 256 → rd S t.words f ≡ padding (s * 256 + 256 - f) → rd S k f ≡ padding (s * 256 + 256 - f)
  pad_still s f e ne bot top pd =
      cp.others f (s * 256 + 256 - f) (real_padding S.meaning (rd S t.words f) (s * 256 + 256 - f) pd)
      (seg_apart f (s * 256 + 256 - f) a (size0 S a) (λ z. ok.used a oa.0 (rw (← from z) e)) (omega arith) (ok.seg a oa.0))
      (seg_apart f (s * 256 + 256 - f) b (size0 S a) (λ z. ne (omega arith)) (omega arith) fit) ∙ pd
    where
      from : f / 256 ≡ a / 256 → s ≡ a / 256
      from z = omega arith

  closed : (s f : ℕ) → owner0 S s ≡ None → s ≢ b / 256 → s * 256 ≤ f → f ≤ s * 256 + 256 → (f ≡ s * 256 + 256) ⊎ (rd S t.words f ≡ padding (s * 256 + 256 - f))
      → (f ≡ s * 256 + 256) ⊎ (rd S k f ≡ padding (s * 256 + 256 - f))
  closed s f e ne bot top (inl z) = inl z
  closed s f e ne bot top (inr z) = elim (dec_lt f (s * 256 + 256)) [ yes l ↦ inr (pad_still s f e ne bot l z) | no l ↦ inl (omega arith) ]

  other_front : (s q : ℕ) → owner0 S s ≡ None → s ≢ b / 256 → Front S t s q → Front S u s q
  other_front s q e ne f = record {
    front = f.front;
    low = f.low;
    high = f.high;
    below = λ c d h g y. elim (back c d h g) [ inl x ↦ absurd (ne (sym y ∙ ap (λ (v : ℕ). v / 256) x.1)) | inr x ↦ f.below c d h x.1 y ];
    cover = λ w x y. covered_on w (f.cover w x y);
    ends = elim (cases_eq q p) [ inl z ↦ ours z f.ends | inr n ↦ theirs (onto.aims q n) f.ends ];
  }
    where
      Ends : List ℕ → Heap → Type 0
      Ends m v = ((1 ≤ target v q % 256) × (target v q / 256 ≡ s) × (f.front ≡ target v q))
          ⊎ ((1 ≤ target v q % 256 → target v q / 256 ≡ s → ⊥) × ((f.front ≡ s * 256 + 256) ⊎ (rd S m f.front ≡ padding (s * 256 + 256 - f.front))))

      theirs : target u q ≡ target t q → Ends t.words t → Ends k u
      theirs z (inl x) = inl (rw z x.0, rw z x.1, rw z x.2)
      theirs z (inr x) = inr (rw z x.0, closed s f.front e ne f.low f.high x.1)

      not_here : q ≡ p → 1 ≤ target u q % 256 → target u q / 256 ≡ s → ⊥
      not_here z h y =
          let w : target u q ≡ b + size0 S a = rw z onto.aim in
          ne (omega arith)

      ours : q ≡ p → Ends t.words t → Ends k u
      ours z (inr x) = inr (not_here z, closed s f.front e ne f.low f.high x.1)
      ours z (inl x) =
          let tq : target t q ≡ target t p = ap (λ (y : ℕ). target t y) z in
          let h : 1 ≤ target t p % 256 = rw (← tq) x.0 in
          let g : target t p / 256 ≡ s = rw (← tq) x.1 in
          let ff : target t p ≡ f.front = sym tq ∙ sym x.2 in
          let c = closing h (λ y. ne (sym g ∙ y)) in
          inr (not_here z, closed s f.front e ne f.low f.high (inr (rw (← ff, ← g) c)))

  pub filled : Fill S u
  filled = record {
    fronts = λ s q e o. elim (cases_eq s (b / 256)) [
      | inl z ↦ rw (z, ← pool_same p q (owner u (b / 256)) onto.own_same (rw (← z) o)) here_front
      | inr n ↦ other_front s q e n (inv.fill.fronts s q e (sym (onto.own_other s n) ∙ o))
    ];
    aims = λ q h. elim (cases_eq q p) [
      | inr n ↦ (let x = onto.aims q n in rw x (inv.fill.aims q (rw (← x) h)))
      | inl e ↦ (let y : target u q ≡ b + size0 S a = rw e onto.aim in
          let h' : 1 ≤ (b + size0 S a) % 256 = rw (← y) h in
          let g : (b + size0 S a) / 256 ≡ b / 256 = omega arith in
          rw (y, g) fresh)
    ];
    empty = λ s e. inv.fill.empty s (sym (onto.own_other s (λ z. cc)) ∙ e);
    low = onto.own_other 0 (λ z. omega (arith, pl.low)) ∙ inv.fill.low;
    plain = λ s q e o. elim (cases_eq s (b / 256)) [
      | inl z ↦ rw (← pool_same p q (owner u (b / 256)) onto.own_same (rw (← z) o)) bare
      | inr n ↦ inv.fill.plain s q e (sym (onto.own_other s n) ∙ o)
    ];
    pools = λ s q o. elim (cases_eq s (b / 256)) [
      | inl z ↦ (
        rw (← pool_same p q (owner u (b / 256)) onto.own_same (rw (← z) o)) pin,
        omega (arith, cp.long, pl.inside),
      )
      | inr n ↦ (let r = inv.fill.pools s q (sym (onto.own_other s n) ∙ o) in (r.0, omega (arith, cp.long, r.1)))
    ];
  }
