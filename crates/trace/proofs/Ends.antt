-- What the segments hold when nothing is grey any more.
use Rattle.std.proofs.Common.{◌≡◌, ℕ, zero, suc, ◌+◌, ◌-◌, ◌*◌, ◌/◌, ◌<◌, ◌≤◌, true, eqb, ltb, ◌⊎◌, List, refl, inl, inr, arith, ltb-true, eqb-true}
use native.Mathlib.Decide.{dec_lt}
use Rattle.std.proofs.lemmas.Bool.{cases_eq}
use Rattle.format.specs.Meaning.{padding, span}
use Rattle.format.specs.Laws.{Lawful}
use Rattle.trace.specs.Traces.{Heap}
use Rattle.trace.specs.Keeping.{Row, ends, piece, is_base}
use Rattle.trace.proofs.Cells.{slots_of, rd, Start, Std, size0, layout0, Obj, Moved, same, copy, move, Body, Covered, Front, Inv, Sound}
use Rattle.trace.proofs.Facts.{body_real, cell_real, one_cell}
use Rattle.trace.proofs.Putting.{final_body}
use Rattle.trace.proofs.Busy.{is_object}
use Rattle.trace.proofs.Rows.{base_cases, base_first, base_later}
use Rattle.trace.proofs.Sweeps.{Chain, stop, link, Base, first, next, base_inv, row_chain, Alike, chain_alike, bases_alike, object_piece, padding_piece}

-- the two ways to say what a base is
pub base_of : (S : Start) (m : List ℕ) (e k a q : ℕ) → is_base S.meaning m e k a q ≡ true → Base S m e a q
base_of S m e zero a q h = cc
base_of S m e (suc k) a q h =
    let c = base_cases (ltb a e) (eqb a q) (is_base S.meaning m e k (a + span S.meaning (rd S m a)) q) h in
    elim c.1 [
      | inl y ↦ rw (← eqb-true a q y) (first a (ltb-true a e c.0))
      | inr y ↦ next a q (ltb-true a e c.0) (base_of S m e k (a + span S.meaning (rd S m a)) q y)
    ]

pub of_base : (S : Start) (m : List ℕ) (e k a q : ℕ) → Chain S m e a → e ≤ a + k → Base S m e a q → is_base S.meaning m e k a q ≡ true
of_base S m e k a q stop h b = absurd (omega (arith, (base_inv S m e a q b).0))
of_base S m e zero a q (link c n l r) h b = absurd (omega (arith, n.some))
of_base S m e (suc k) a q (link c n l r) h b =
    let i = base_inv S m e a q b in
    elim i.1 [
      | inl f ↦ rw f (base_first S.meaning m e k a i.0)
      | inr g ↦ (let y = of_base S m e k (a + span S.meaning (rd S m a)) q r (omega (arith, n.some)) g in base_later S.meaning m e k a i.0 q y)
    ]

module _ (S : Start) (ok : Sound S) (laws : Lawful S.meaning) (Todo : ℕ → Type 0) (t : Heap) (inv : Inv S Todo t) where
  -- a segment that the trace took
  module _ (s p : ℕ) (f : Front S t s p) (shut : (f.front ≡ s * 256 + 256) ⊎ (rd S t.words f.front ≡ padding (s * 256 + 256 - f.front))) where
    abbrev e : ℕ
    e = s * 256 + 256

    abbrev Edge : ℕ → Type 0
    Edge x = (c d : ℕ) → Std S c → Moved S t.words c d → d / 256 ≡ s → d < x → d + size0 S c ≤ x

    pub record Built (x : ℕ) : Type 0 where
      pub row : Row S.meaning t.words e x
      pub bases : (c d : ℕ) → Std S c → Moved S t.words c d → d / 256 ≡ s → x ≤ d → Base S t.words e x d
      pub owner : (q : ℕ) → Base S t.words e x q → is_object (rd S t.words q) ≡ true → (c : ℕ) × (Obj S c × Moved S t.words c q)

    built_end : (x : ℕ) → x ≡ f.front → Built x
    built_end x z = rw z (go shut)
      where
        none_past : (c d : ℕ) → Std S c → Moved S t.words c d → d / 256 ≡ s → f.front ≤ d → ⊥
        none_past c d h g y l = omega (arith, f.below c d h g y, ok.some c h)

        full : f.front ≡ e → Built f.front
        full y = record {
          row = rw y ends;
          bases = λ c d h g z l. absurd (none_past c d h g z l);
          owner = λ q b o. absurd (omega (arith, (base_inv S t.words e f.front q b).0));
        }

        go : (f.front ≡ s * 256 + 256) ⊎ (rd S t.words f.front ≡ padding (s * 256 + 256 - f.front)) → Built f.front
        go (inl y) = full y
        go (inr y) = elim (dec_lt f.front e) [
          | yes l ↦ (let sp : span S.meaning (rd S t.words f.front) ≡ s * 256 + 256 - f.front = rw y refl in
              let fin : f.front + span S.meaning (rd S t.words f.front) ≡ e = omega arith in
              record {
                row = piece f.front (padding_piece (rd S t.words f.front) (s * 256 + 256 - f.front) y) (omega arith) (rw fin ends);
                bases = λ c d h g z l. absurd (none_past c d h g z l);
                owner = λ q b o. absurd (elim (base_inv S t.words e f.front q b).1 [
                  | inl w ↦ (cc)
                  | inr w ↦ omega (arith, (base_inv S t.words e (f.front + span S.meaning (rd S t.words f.front)) q w).0)
                ]);
              })
          | no l ↦ full (omega (arith, f.high))
        ]

    moved_body : (c d : ℕ) → Obj S c → Moved S t.words c d → Body S t.words c (rd S t.words d)
    moved_body c d o g = final_body S Todo t inv c d o (move g)

    build : (k x : ℕ) → f.front ≤ x + k → s * 256 ≤ x → x ≤ f.front → Edge x → Built x
    build zero x fuel low high edge = built_end x (omega arith)
    build (suc k) x fuel low high edge = elim (cases_eq x f.front) [
      | inl z ↦ built_end x z
      | inr n ↦ (let c = f.cover x low (omega arith) in step c (λ y. build k (x + size0 S c.from) (omega (arith, ok.some c.from c.obj.0)) (omega arith) y.0 y.1) edge low (omega arith))
    ]
      where
        step : (c : Covered S t.words x) → ((x + size0 S c.from ≤ f.front) × Edge (x + size0 S c.from) → Built (x + size0 S c.from)) → Edge x → s * 256 ≤ x → x < f.front → Built x
        step c rec edge low lt =
            let a = c.from in
            let o = c.obj in
            let cc0 = inv.copied a c.base o.0 c.moved in
            let bs : c.base / 256 ≡ s = omega (arith, c.low, c.high, cc0.seg, f.high) in
            let at : c.base ≡ x = elim (dec_lt c.base x) [ yes l ↦ absurd (omega (arith, edge a c.base o.0 c.moved bs l, c.high)) | no l ↦ omega (arith, c.low) ] in
            let g : Moved S t.words a x = rw (← at) c.moved in
            let seg : x / 256 ≡ s = rw (← at) bs in
            let hi = f.below a x o.0 g seg in
            let far : (c2 d2 : ℕ) → Std S c2 → Moved S t.words c2 d2 → x < d2 → x + size0 S a ≤ d2
            = λ c2 d2 h m l. elim (inv.apart a x c2 d2 o.0 h (copy g) (copy m)) [
              | inl y ↦ absurd (let yy : x ≡ d2 = y.1 in omega arith)
              | inr y ↦ elim y [ inl z ↦ z | inr z ↦ omega arith ]
            ] in
            let same_one : (c2 : ℕ) → Std S c2 → Moved S t.words c2 x → c2 ≡ a
            = λ c2 h m. one_cell S ok Todo t inv a c2 x x o.0 h (copy g) (copy m) refl in
            let edge2 : Edge (x + size0 S a) = λ c2 d2 h m y l. elim (dec_lt d2 x) [
              | yes z ↦ (let w = edge c2 d2 h m y z in omega arith)
              | no z ↦ elim (cases_eq d2 x) [
                | inl w ↦ (let e2 = same_one c2 h (rw (← w) m) in rw e2 (omega arith))
                | inr w ↦ absurd (omega (arith, far c2 d2 h m (omega arith)))
              ]
            ] in
            let r = rec (hi, edge2) in
            let b = moved_body a x o g in
            let sp : span S.meaning (rd S t.words x) ≡ size0 S a = (body_real S ok t.words a (rd S t.words x) b).span in
            let big = ok.some a o.0 in
            record {
              row = piece x (object_piece (rd S t.words x) (layout0 S a) (slots_of (rd S t.words x)) b.shape) (omega (arith, f.high)) (rw sp r.row);
              bases = λ c2 d2 h m y l. elim (cases_eq d2 x) [
                | inl w ↦ rw w (first x (omega (arith, f.high)))
                | inr w ↦ next x d2 (omega (arith, f.high)) (rw sp (r.bases c2 d2 h m y (far c2 d2 h m (omega arith))))
              ];
              owner = λ q bq oq. elim (base_inv S t.words e x q bq).1 [
                | inl w ↦ (a, (o, rw w g))
                | inr w ↦ r.owner q (rw (← sp) w) oq
              ];
            }

    pub built : Built (s * 256)
    built = build 256 (s * 256) (omega (arith, f.high)) (omega arith) f.low (λ c d h g y l. omega arith)

  -- a segment that was in use: what stood there has kept its extent
  module _ (e a : ℕ) (r : Row S.meaning S.space.words e a) (h : (q : ℕ) → Base S S.space.words e a q → Std S q) where
    then : Chain S S.space.words e a
    then = row_chain S laws S.space.words e a r

    alike_now : Alike S S.space.words t.words e a
    alike_now p b = cell_real S ok t.words inv.held p p (h p b) (same refl)

    pub chain_now : Chain S t.words e a
    chain_now = chain_alike S S.space.words t.words e a then alike_now

    pub base_now : (q : ℕ) → Base S S.space.words e a q → Base S t.words e a q
    base_now q = (bases_alike S S.space.words t.words e a q then alike_now).0

    pub base_then : (q : ℕ) → Base S t.words e a q → Base S S.space.words e a q
    base_then q = (bases_alike S S.space.words t.words e a q then alike_now).1
