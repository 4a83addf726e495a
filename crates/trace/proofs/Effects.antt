-- What the writes of a lawful format do to what stands in memory.
use Rattle.std.proofs.Common.{◌≡◌, ℕ, ◌+◌, ◌-◌, ◌<◌, ◌≤◌, true, ◌⊎◌, List, length, get_or, drop, set, sym, refl, ap, ◌∙◌, ap₂, inl, inr, arith}
use Rattle.std.proofs.lemmas.Bool.{cases_lt, le-leb, lt-leb}
use Rattle.std.proofs.lemmas.List.{length-take-le, length-drop, take-append-drop}
use Rattle.format.specs.declared.things.Slot.{Slot}
use Rattle.format.specs.Meaning.{Meaning, shape, holds, Thing, object, forwarded, padding, thing_at}
use Rattle.format.specs.Laws.{Lawful, Leaves, part, rewritten, Readings}
use Rattle.format.proofs.Memory.{readings, leaves, own_part}
use Rattle.arena.specs.Buffers.{padded_part}
use Rattle.trace.specs.Traces.{moved_words, copied_words}
use Rattle.trace.proofs.Cells.{Apart, slots_of, layout_of, rd, Start}
use Rattle.trace.proofs.Facts.{Real, real_object}
use Rattle.trace.proofs.Copying.{Copying, apart_sym}
use Rattle.trace.proofs.Putting.{Putting}

module _ (S : Start) (laws : Lawful S.meaning) where
  abbrev m : Meaning
  m = S.meaning

  law : Readings S.meaning
  law = readings S.meaning laws

  -- what stands apart from a write reads as it did
  elsewhere : (ws k : List ℕ) (a n : ℕ) (x : Thing) → Leaves m ws a n x k → (q j : ℕ) → Real m (rd S ws q) j → Apart q j a n → rd S k q ≡ rd S ws q
  elsewhere ws k a n x l q j r h = l.elsewhere q r.real (elim h [ inl y ↦ inl (rw r.span y) | inr y ↦ inr y ])

  -- ---- padding

  pad_is : (ws : List ℕ) (a e : ℕ) → e ≤ length ws → 1 ≤ e - a → e - a ≤ 256 → padded_part m a e ws ≡ rewritten m.padded a (e - a) ws
  pad_is ws a e h l g =
      let n : length (part a (e - a) ws) ≡ e - a = length-take-le (e - a) (drop a ws) (omega (arith, length-drop a ws)) in
      rw (le-leb a e (omega arith), le-leb e (length ws) h, le-leb 1 (length (part a (e - a) ws)) (omega arith), le-leb (length (part a (e - a) ws)) 256 (omega arith)) refl

  pub record Padded (ws k : List ℕ) (a n : ℕ) : Type 0 where
    pub long : length k ≡ length ws
    pub words : (w : ℕ) → (1 ≤ n → (w < a) ⊎ (a + n ≤ w)) → get_or k w 0 ≡ get_or ws w 0
    pub others : (q j : ℕ) → Real m (rd S ws q) j → (1 ≤ n → Apart q j a n) → rd S k q ≡ rd S ws q
    pub reads : 1 ≤ n → rd S k a ≡ padding n

  pad_none : (ws : List ℕ) (a : ℕ) → padded_part m a a ws ≡ ws
  pad_none ws a =
      let z : a - a ≡ 0 = omega arith in
      elim (cases_lt (length ws) a) [
        | inl l ↦ rw (le-leb a a (omega arith), lt-leb a (length ws) l) refl
        | inr l ↦ rw (le-leb a a (omega arith), le-leb a (length ws) l, z) (take-append-drop a ws)
      ]

  pub pad_effect : (ws : List ℕ) (a n : ℕ) → n ≤ 256 → (1 ≤ n → a + n ≤ length ws) → Padded ws (padded_part m a (a + n) ws) a n
  pad_effect ws a n h l = elim (cases_lt 0 n) [
    | inl p ↦ some p
    | inr p ↦ (let z : a + n ≡ a = omega arith in
        let e : padded_part m a (a + n) ws ≡ ws = rw z (pad_none ws a) in
        record { long = ap length e; words = λ w x. ap (λ (k : List ℕ). get_or k w 0) e; others = λ q j r x. ap (λ (k : List ℕ). rd S k q) e; reads = λ o. absurd (omega arith) })
  ]
    where
      some : 0 < n → Padded ws (padded_part m a (a + n) ws) a n
      some p =
          let d : a + n - a ≡ n = omega arith in
          let e : padded_part m a (a + n) ws ≡ rewritten m.padded a n ws = pad_is ws a (a + n) (l (omega arith)) (omega arith) (omega arith) ∙ ap (λ (x : ℕ). rewritten m.padded a x ws) d in
          let f = law.pads ws a n (omega arith) h (l (omega arith)) in
          record {
            long = ap length e ∙ f.long;
            words = λ w x. ap (λ (k : List ℕ). get_or k w 0) e ∙ f.words w (x (omega arith));
            others = λ q j r x. ap (λ (k : List ℕ). rd S k q) e ∙ elsewhere ws (rewritten m.padded a n ws) a n (padding n) f q j r (x (omega arith));
            reads = λ o. ap (λ (k : List ℕ). rd S k a) e ∙ f.here;
          }

  -- ---- copying and setting a slot

  module _ (ws : List ℕ) (a l : ℕ) (ss : List Slot) (e : rd S ws a ≡ object l ss) where
    abbrev n : ℕ
    n = m.size (shape l (length ss))

    real : Real m (rd S ws a) n
    real = real_object m (rd S ws a) l ss e

    pub object_inside : a + n ≤ length ws
    object_inside = rw (← real.span) (law.spans ws a real.real).2

    own_reads : thing_at m (part a n ws) 0 ≡ object l ss
    own_reads = own_part m laws n (drop a ws) real.real real.span ∙ e

    own_long : length (part a n ws) ≡ n
    own_long = length-take-le n (drop a ws) (omega (arith, length-drop a ws, object_inside))

    pub copying : (b : ℕ) → 256 ≤ b → b ≤ m.greatest_address → b + n ≤ length ws → Apart a n b n → Copying S ws (copied_words m ws a n b) a b n
    copying b low top room apart =
        let k = moved_words ws a n b in
        let f : Leaves m ws b n (object l ss) k = leaves m laws ws b n (object l ss) (part a n ws) room own_long own_reads (λ z. real.real (e ∙ z)) in
        let h : rd S k a ≡ object l ss = elsewhere ws k b n (object l ss) f a n real apart ∙ e in
        let g = law.forwards k a l ss b h low top in
        let r : Real m (rd S k b) n = real_object m (rd S k b) l ss f.here in
        record {
          long = g.long ∙ f.long;
          there = elsewhere k (copied_words m ws a n b) a n (forwarded n b) g b n r (apart_sym a n b n apart) ∙ f.here ∙ sym e;
          left = g.here;
          words = λ w x y. g.words w x ∙ f.words w y;
          others = λ q j z x y. let u = elsewhere ws k b n (object l ss) f q j z y in
              elsewhere k (copied_words m ws a n b) a n (forwarded n b) g q j (rw u z) x ∙ u;
        }

    pub putting : (i : ℕ) (x : Slot) → i < length ss → holds m (shape l (length ss)) i x ≡ true → Putting S ws (rewritten (m.with_slot (shape l (length ss)) i x) a n ws) a n i x
    putting i x h may =
        let g = law.sets ws a l ss i x e h may in
        record {
          long = g.long;
          there = g.here ∙ ap₂ object (sym (ap layout_of e)) (ap (λ (y : Thing). set (slots_of y) i x) (sym e));
          words = g.words;
          others = λ q j r y. elsewhere ws (rewritten (m.with_slot (shape l (length ss)) i x) a n ws) a n (object l (set ss i x)) g q j r y;
        }
