-- Where the next copy goes.
use Rattle.std.proofs.Common.{◌≡◌, ℕ, zero, suc, ◌+◌, ◌-◌, ◌*◌, ◌/◌, ◌%◌, ◌<◌, ◌≤◌, false, ◌≢◌, ◌⊎◌, length, get_or, Some, sym, refl, ap, ◌∙◌, inl, inr, arith, None}
use Rattle.std.proofs.lemmas.Bool.{cases_eq}
use Rattle.arena.specs.declared.segments.Segments.{Segments}
use Rattle.arena.specs.Segments.{Owner, owner_of, segments_in, free_among, lowest_free}
use Rattle.trace.specs.Traces.{Heap}
use Rattle.trace.proofs.Cells.{owner, target, Start, Room, unused, ahead, Ready}

pub pool_not_free : (p : ℕ) (x : Owner) → x ≡ Some p → x ≡ None → ⊥
pool_not_free p x e f = cc

pub pool_same : (p q : ℕ) (x : Owner) → x ≡ Some p → x ≡ Some q → p ≡ q
pool_same p q x e f = cc

pub owner_cases : (o : Owner) → (o ≡ None) ⊎ ((p : ℕ) × (o ≡ Some p))
owner_cases None = inl refl
owner_cases (Some p) = inr (p, refl)

free_found : (k : ℕ) (g : Segments) (s r : ℕ) → free_among k g s ≡ Some r → (s ≤ r) × (r < s + k) × (owner_of g r ≡ None)
free_found zero g s r e = cc
free_found (suc k) g s r e = elim (owner_cases (owner_of g s)) [
  | inl f ↦ (let z : Some s ≡ Some r = rw f at e in let y : s ≡ r = cc in (omega arith, omega arith, rw (← y) f))
  | inr o ↦ (let n = free_found k g (s + 1) r (rw o.1 at e) in (omega (arith, n.0), omega (arith, n.1), n.2))
]

-- the lowest free segment is free, and lies in the arena
pub lowest_is_free : (g : Segments) (len s : ℕ) → lowest_free g len ≡ Some s → (1 ≤ s) × (s < 256) × (s * 256 + 256 ≤ len) × (owner_of g s ≡ None)
lowest_is_free g len s e =
    let f = free_found (segments_in len - 1) g 1 s e in
    (f.0, omega (arith, f.1), omega (arith, f.1, f.0), f.2)

-- a place for words of pool p at b: at its target, or in a free segment
pub data Spot (t : Heap) (p b : ℕ) : Type 0 where
  onward : target t p ≡ b → 1 ≤ b % 256 → Spot t p b
  opening : b % 256 ≡ 0 → 256 ≤ b → b / 256 * 256 + 256 ≤ length t.words → owner t (b / 256) ≡ None → Spot t p b

-- the owners and targets after n words at b have become pool p's
pub record Onto (t u : Heap) (p b n : ℕ) : Type 0 where
  pub own_same : owner u (b / 256) ≡ Some p
  pub own_other : (s : ℕ) → s ≢ b / 256 → owner u s ≡ owner t s
  pub aim : target u p ≡ b + n
  pub aims : (q : ℕ) → q ≢ p → target u q ≡ target t q

module _ (S : Start) (t : Heap) (ready : Ready S t) (p b : ℕ) (spot : Spot t p b) (n : ℕ) (big : 1 ≤ n) (fit : b % 256 + n ≤ 256) where
  pub record Placed : Type 0 where
    pub low : 256 ≤ b
    pub inside : b / 256 * 256 + 256 ≤ length t.words
    pub safe : get_or S.plan.condemned (b / 256) false ≡ false
    pub others : (q : ℕ) → q ≢ p → 1 ≤ target t q % 256 → target t q / 256 ≢ b / 256
    pub free : (v : ℕ) → b ≤ v → v < b / 256 * 256 + 256 → Room t v

  pub placed : Placed
  placed = go spot
    where
      go : Spot t p b → Placed
      go (onward e h) =
          let k = ready.owned p (rw e h) in
          let o : owner t (b / 256) ≡ Some p = rw (← e) k.0 in
          record {
            low = omega (arith, k.2);
            inside = rw (← e) k.1;
            safe = rw (← e) k.3;
            others = λ q ne g f. ne (pool_same q p (owner t (b / 256)) (rw (← f) (ready.owned q g).0) o);
            free = λ v x y. ahead p (omega arith) (rw e y) (rw e h);
          }
      go (opening z low h e) =
          record {
            low = low;
            inside = h;
            safe = ready.unused (b / 256) e;
            others = λ q ne g f. pool_not_free q (owner t (b / 256)) (rw (← f) (ready.owned q g).0) e;
            free = λ v x y.
                let k : v / 256 ≡ b / 256 = omega arith in
                unused (omega arith) (omega arith) (rw k e);
          }

  -- after the copy
  module _ (u : Heap) (long : length u.words ≡ length t.words) (on : Onto t u p b n) where
    not_ours : (s : ℕ) → owner u s ≡ None → s ≢ b / 256
    not_ours s e f = cc

    -- a segment in use keeps its owner
    pub owner_onto : (s : ℕ) → owner t s ≢ None → owner u s ≡ owner t s
    owner_onto s n = elim (cases_eq s (b / 256)) [ inr ne ↦ on.own_other s ne | inl e ↦ ap (owner u) e ∙ go e spot ∙ ap (owner t) (sym e) ]
      where
        go : s ≡ b / 256 → Spot t p b → owner u (b / 256) ≡ owner t (b / 256)
        go e (onward f h) = on.own_same ∙ sym (rw (← f) (ready.owned p (rw f h)).0)
        go e (opening z low h f) = absurd (n (ap (owner t) e ∙ f))

    pub ready_onto : length u.marks ≡ length t.marks → length u.greys ≡ length t.greys → length u.state.segments.owners ≡ 256 → length u.state.targets ≡ 8 → Ready S u
    ready_onto ml gl ol tl = record {
      whole = rw long ready.whole;
      few = omega (arith, long, ready.few);
      owned = λ q h. elim (cases_eq q p) [
        | inr ne ↦ (let c = on.aims q ne in
            let g : 1 ≤ target t q % 256 = rw (← c) h in
            let k = ready.owned q g in
            rw c (on.own_other (target t q / 256) (placed.others q ne g) ∙ k.0, omega (arith, long, k.1), k.2, k.3))
        | inl e ↦ (let y : target u q ≡ b + n = rw e on.aim in
            let h' : 1 ≤ (b + n) % 256 = rw (← y) h in
            let g : (b + n) / 256 ≡ b / 256 = omega arith in
            rw (y, g, e) (on.own_same, omega (arith, long, placed.inside), omega (arith, placed.low), placed.safe))
      ];
      unused = λ s e. ready.unused s (sym (on.own_other s (not_ours s e)) ∙ e);
      marks = omega (arith, ml, long, ready.marks);
      greys = omega (arith, gl, long, ready.greys);
      owners = ol;
      targets = tl;
    }

    pub room_onto : (v : ℕ) → Room u v → Room t v × ((v < b) ⊎ (b + n ≤ v))
    room_onto v (unused x y e) =
        let f = not_ours (v / 256) e in (
          unused x (omega (arith, long)) (sym (on.own_other (v / 256) f) ∙ e),
          grind arith,
        )
    room_onto v (ahead q x y z) = elim (cases_eq q p) [
      | inr ne ↦ (let c = on.aims q ne in
          let g : 1 ≤ target t q % 256 = rw (← c) z in
          let f = placed.others q ne g in
          let x' : target t q ≤ v = rw (← c) x in
          let y' : v < target t q / 256 * 256 + 256 = rw (← c) y in (
            ahead q x' y' g,
            grind arith,
          ))
      | inl e ↦ (let c : target u q ≡ b + n = rw e on.aim in
          let h : b + n ≤ v = omega arith in (placed.free v (omega arith) (omega arith), inr h))
    ]
