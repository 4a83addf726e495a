-- Scanning an object settles its slots.
use Rattle.std.proofs.Common.{◌≡◌, ℕ, zero, suc, ◌+◌, ◌*◌, ◌/◌, ◌<◌, ◌≤◌, Bool, true, false, cond, eqb, ltb, List, length, get_or, set, sym, refl, ap, ◌∙◌, subst, inl, inr, le_trans, arith, get_or-set_other, get_or-set_same, eqb-true}
use native.Mathlib.Decide.{dec_lt}
use lib.ListN.{get_or-eq_default}
use Rattle.std.proofs.lemmas.Bool.{and_from, cond-false, le-ltb, le-leb, cases_eq, and_parts}
use Rattle.format.specs.declared.things.Shape.{Shape}
use Rattle.format.specs.declared.things.Head.TheVariants.{Object}
use Rattle.format.specs.declared.things.Slot.{Slot}
use Rattle.format.specs.declared.things.Slot.TheVariants.{Reference, Number}
use Rattle.format.specs.Meaning.{shape, holds, span}
use Rattle.format.specs.Laws.{Lawful, part, rewritten}
use Rattle.format.proofs.Memory.{readings}
use Rattle.trace.specs.Traces.{limit_of, head_at, Heap, fixed, fix_answer, by_slot, slot_fixed, slots_fixed, by_object, scanned}
use Rattle.trace.proofs.Cells.{slots_of, rd, Start, Std, size0, layout0, slots0, Obj, Fits, fits_map, Cell, same, copy, Names, null, names, Final, stay, move, Settled, empty, settled, Body, Clean, Inv, Grows, Keeps, Sound}
use Rattle.trace.proofs.Facts.{settled_grows, grows_refl, grows_trans, final_grows, final_cell, body_size}
use Rattle.trace.proofs.Putting.{put_words, final_body, cell_seg, Putting, put_ok, put_grows, put_slots}
use Rattle.trace.proofs.Effects.{putting}
use Rattle.trace.proofs.Busy.{pot, put_falls}
use Rattle.trace.proofs.Looking.{seen_object, slot_here}
use Rattle.trace.proofs.Fixes.{Fixed, fix_ok}

abbrev pub slot_at : Start → List ℕ → ℕ → ℕ → Slot
slot_at S ws p i = get_or (slots_of (rd S ws p)) i (Number 0)

-- the slots below i of the object a, at p, are settled
abbrev pub Done : Start → Heap → ℕ → ℕ → ℕ → Type 0
Done S t a p i = (j : ℕ) → j < i → Fits (Settled S t) (get_or (slots0 S a) j (Number 0)) (slot_at S t.words p j)

pub record Scanning (S : Start) (Todo : ℕ → Type 0) (t : Heap) (a p i : ℕ) (u : Heap) : Type 0 where
  pub inv : Inv S Todo u
  pub grows : Grows S t u
  pub done : Done S u a p i
  pub falls : pot S u ≤ pot S t

module _ (S : Start) (ok : Sound S) (laws : Lawful S.meaning) (Todo : ℕ → Type 0) (a p : ℕ) (oa : Obj S a) (todo : Todo p) where
  sa : Std S a
  sa = oa.0

  abbrev sh : Shape
  sh = shape (layout0 S a) (length (slots0 S a))

  size_is : S.meaning.size sh ≡ size0 S a
  size_is = sym (ap (span S.meaning) oa.1)

  settled_top : (t : Heap) → Inv S Todo t → (r v : ℕ) → Settled S t r v → v ≤ S.meaning.greatest_address
  settled_top t inv r v (empty e f) = omega arith
  settled_top t inv r v (settled s (stay e h)) = omega (arith, ok.inside r s.0, ok.seg r s.0, ok.some r s.0, ok.top)
  settled_top t inv r v (settled s (move g)) = omega (arith, (inv.copied r v s.0 g).high, ok.some r s.0, ok.top, inv.long)

  settled_names : (t : Heap) → (r v : ℕ) → Settled S t r v → Names S t.words r v
  settled_names t r v (empty e f) = null e f
  settled_names t r v (settled s f) = names s (final_cell S t r v f)

  done_keeps : (t u : Heap) (i : ℕ) → Final S t a p → Grows S t u → Keeps S t u → Done S t a p i → Done S u a p i
  done_keeps t u i f g k d j h = rw (k a p sa f) (fits_map (settled_grows S t u g) (get_or (slots0 S a) j (Number 0)) (slot_at S t.words p j) (d j h))

  done_more : (t : Heap) (i : ℕ) → Done S t a p i → Fits (Settled S t) (get_or (slots0 S a) i (Number 0)) (slot_at S t.words p i) → Done S t a p (suc i)
  done_more t i d h j l = elim (cases_eq j i) [
    | inl e ↦ rw e h
    | inr n ↦ d j (omega arith)
  ]

  module _ (t : Heap) (inv : Inv S Todo t) (f : Final S t a p) (i : ℕ) (inside : i < length (slots0 S a)) (d : Done S t a p i) where
    body : Body S t.words a (rd S t.words p)
    body = final_body S Todo t inv a p oa f

    -- a reference
    module _ (r v : ℕ) (was : get_or (slots0 S a) i (Number 0) ≡ Reference r) (now : slot_at S t.words p i ≡ Reference v)
        (q : ℕ) (u : Heap) (fx : Fixed S Todo t r q u) where
      f' : Final S u a p
      f' = final_grows S t u fx.grows a p sa f

      body' : Body S u.words a (rd S u.words p)
      body' = final_body S Todo u fx.inv a p oa f'

      now' : slot_at S u.words p i ≡ Reference v
      now' = rw (fx.keeps a p sa f) now

      inside' : i < length (slots_of (rd S u.words p))
      inside' = rw body'.many inside

      sh_now : shape (layout0 S a) (length (slots_of (rd S u.words p))) ≡ sh
      sh_now = rw body'.many refl

      may : holds S.meaning (shape (layout0 S a) (length (slots_of (rd S u.words p)))) i (Reference q) ≡ true
      may =
          let w : holds S.meaning (shape (layout0 S a) (length (slots_of (rd S u.words p)))) i (Reference v) ≡ true
          = subst (λ (y : Slot). holds S.meaning (shape (layout0 S a) (length (slots_of (rd S u.words p)))) i y ≡ true) now'
          (((readings S.meaning laws).admits u.words p (layout0 S a) (slots_of (rd S u.words p)) body'.shape).1 i (Number 0) inside') in
          and_from _ _ (and_parts _ _ w).0 (le-leb q S.meaning.greatest_address (settled_top u fx.inv r q fx.settled))

      abbrev k : List ℕ
      k = rewritten (S.meaning.with_slot sh i (Reference q)) p (size0 S a) u.words

      pt : Putting S u.words k p (size0 S a) i (Reference q)
      pt = rw (← size_is, ← sh_now) (putting S laws u.words p (layout0 S a) (slots_of (rd S u.words p)) body'.shape i (Reference q) inside' may)

      fits : Fits (Names S u.words) (get_or (slots0 S a) i (Number 0)) (Reference q)
      fits = rw was (settled_names u r q fx.settled)

      pg : Grows S u (put_words u k)
      pg = put_grows S ok Todo u fx.inv a p oa f' todo k i (Reference q) pt inside' fits

      ps : slots_of (rd S k p) ≡ set (slots_of (rd S u.words p)) i (Reference q)
      ps = put_slots S ok Todo u fx.inv a p oa f' todo k i (Reference q) pt inside' fits

      written : (y : Bool) → eqb q v ≡ y → Scanning S Todo t a p (suc i) (cond y u (put_words u k))
      written true e = record {
        inv = fx.inv;
        grows = fx.grows;
        falls = fx.falls;
        done = done_more u i (done_keeps t u i f fx.grows fx.keeps d)
            (rw (was, now', ← eqb-true q v e) fx.settled);
      }
      written false e = record {
        inv = put_ok S ok Todo u fx.inv a p oa f' todo k i (Reference q) pt inside' fits;
        grows = grows_trans S t u (put_words u k) fx.grows pg;
        falls = le_trans (put_falls S ok Todo u fx.inv a p oa f' todo k i (Reference q) pt inside' fits) fx.falls;
        done = done_more (put_words u k) i
            (λ j h. rw (ap (λ (zs : List Slot). get_or zs j (Number 0)) ps ∙ get_or-set_other (slots_of (rd S u.words p)) i j (Reference q) (Number 0) (omega arith))
            (fits_map (settled_grows S u (put_words u k) pg) (get_or (slots0 S a) j (Number 0)) (slot_at S u.words p j) (done_keeps t u i f fx.grows fx.keeps d j h)))
            (rw (ap (λ (zs : List Slot). get_or zs i (Number 0)) ps ∙ get_or-set_same (slots_of (rd S u.words p)) i (Reference q) (Number 0) inside', was) (settled_grows S u (put_words u k) pg r q fx.settled));
      }

    one_slot : (z x : Slot) → get_or (slots0 S a) i (Number 0) ≡ z → slot_at S t.words p i ≡ x → Fits (Names S t.words) z x
        → Scanning S Todo t a p (suc i) (by_slot S.meaning S.plan t p (size0 S a) sh i x)
    one_slot (Number z) (Number x) e g h = record { inv = inv; grows = grows_refl S t; falls = omega arith; done = done_more t i d (rw (e, g) h) }
    one_slot (Number z) (Reference x) e g h = absurd h
    one_slot (Reference z) (Number x) e g h = absurd h
    one_slot (Reference z) (Reference x) e g h =
        written z x e g (fix_answer S.meaning S.plan t x) (fixed S.meaning S.plan t x) (fix_ok S ok laws Todo t inv z x h) (eqb (fix_answer S.meaning S.plan t x) x) refl

    slot_now : S.meaning.slot sh (part p (size0 S a) t.words) i ≡ slot_at S t.words p i
    slot_now =
        rw (← size_is, ← ap (shape (layout0 S a)) body.many) (slot_here S.meaning laws t.words p (layout0 S a) (slots_of (rd S t.words p)) body.shape i (Number 0) (omega (arith, body.many)))

    pub slot_ok : Scanning S Todo t a p (suc i) (slot_fixed S.meaning S.plan t p (size0 S a) sh i)
    slot_ok =
        rw slot_now (one_slot (get_or (slots0 S a) i (Number 0)) (slot_at S t.words p i) refl refl (body.names i))

  pub slots_ok : (k : ℕ) (t : Heap) → Inv S Todo t → k ≤ length (slots0 S a) → Final S t a p → Scanning S Todo t a p k (slots_fixed S.meaning S.plan t p (size0 S a) sh k)
  slots_ok zero t inv l f = record { inv = inv; grows = grows_refl S t; falls = omega arith; done = λ j h. absurd (omega arith) }
  slots_ok (suc k) t inv l f =
      let s = slots_ok k t inv (omega arith) f in
      let u = slots_fixed S.meaning S.plan t p (size0 S a) sh k in
      let n = slot_ok u s.inv (final_grows S t u s.grows a p sa f) k (omega arith) s.done in
      record { inv = n.inv; grows = grows_trans S t u (slot_fixed S.meaning S.plan u p (size0 S a) sh k) s.grows n.grows; falls = le_trans n.falls s.falls; done = n.done }

  pub scan_ok : (t : Heap) → Inv S Todo t → Final S t a p → Scanning S Todo t a p (length (slots0 S a)) (scanned S.meaning S.plan t p)
  scan_ok t inv f =
      let b = final_body S Todo t inv a p oa f in
      let c = final_cell S t a p f in
      let seg = cell_seg S ok Todo t inv a p sa c in
      let ins = cell_inside t inv c in
      let z = body_size S ok t.words a (rd S t.words p) b in
      let h : head_at S.meaning t.words p ≡ Object sh =
      seen_object S.meaning laws t.words p (layout0 S a) (slots_of (rd S t.words p)) b.shape (limit_of p) (omega arith)
      ∙ ap (λ (n : ℕ). Object (shape (layout0 S a) n)) b.many in
      rw (
        cond-false (ltb 65535 p) t _ (le-ltb 65535 p (omega (arith, inv.ready.few)))
            ∙ cond-false (ltb (length t.words) (limit_of p)) t _ (le-ltb (length t.words) (limit_of p) (omega arith))
            ∙ ap (by_object S.meaning S.plan t p) h,
        size_is,
      ) (slots_ok (length (slots0 S a)) t inv (omega arith) f)
    where
      cell_inside : (t : Heap) → Inv S Todo t → Cell S t.words a p → p / 256 * 256 + 256 ≤ length t.words
      cell_inside t inv (same e) = rw e (omega (arith, ok.inside a sa, inv.long))
      cell_inside t inv (copy g) = omega (arith, (inv.copied a p sa g).high, ok.some a sa, inv.ready.whole)

  -- all slots settled: past the last there are none
  pub all_done : (t : Heap) → Inv S Todo t → Final S t a p → Done S t a p (length (slots0 S a)) → Clean S t a (rd S t.words p)
  all_done t inv f d j = elim (dec_lt j (length (slots0 S a))) [
    | yes l ↦ d j l
    | no l ↦ (let b = final_body S Todo t inv a p oa f in
        rw (get_or-eq_default (slots0 S a) (Number 0) {n = j} (omega arith), get_or-eq_default (slots_of (rd S t.words p)) (Number 0) {n = j} (omega (arith, b.many))) refl)
  ]
