-- Rounds, registers, and nailed objects.
use Rattle.std.proofs.Common.{◌≡◌, ℕ, zero, suc, ◌*◌, ◌/◌, ◌%◌, ◌<◌, ◌≤◌, min, true, false, ◌≢◌, ◌⊎◌, List, length, get_or, set, Some, None, Option, refl, ap, ◌∙◌, subst, inl, inr, arith, length-set}
use native.Mathlib.Decide.{dec_lt}
use borrow.Author.Tests.{both_ways}
use Rattle.std.proofs.lemmas.Bool.{cases_eq, false_from_ne_true}
use Rattle.std.proofs.lemmas.List.{get_or-set_same, get_or-set_other, get_or_past, set_past}
use Rattle.format.specs.Laws.{Lawful}
use Rattle.arena.specs.Boards.{bit, with_bit, reach, lowest_bit, Lowest}
use Rattle.arena.proofs.BoardLaws.{laws_of}
use Rattle.arena.proofs.Lowest.{zero_bit}
use Rattle.trace.specs.Traces.{Heap, fixed, fix_answer, scanned, ungreyed, turned, next, rounded}
use Rattle.trace.specs.Collections.{Rooted, rooted, roots_fixed, nailed_at}
use Rattle.trace.proofs.Cells.{grey, rd, Start, Std, Obj, Names, Final, Settled, empty, Body, Inv, Grows, Sound}
use Rattle.trace.proofs.Facts.{board_keeps, board_set, names_map, settled_grows, grows_refl, grows_trans, final_grows, final_cell, one_cell}
use Rattle.trace.proofs.Marking.{mark_ok, mark_grows}
use Rattle.trace.proofs.Putting.{inv_todo, ungrey_ok, ungrey_grows}
use Rattle.trace.proofs.Counting.{count_below, count_none}
use Rattle.trace.proofs.Busy.{busy, pot, busy_off, ungrey_falls}
use Rattle.trace.proofs.Fixes.{Fixed, fix_ok}
use Rattle.trace.proofs.Scans.{scan_ok, all_done}

pub record Went (S : Start) (Todo : ℕ → Type 0) (t u : Heap) : Type 0 where
  pub inv : Inv S Todo u
  pub grows : Grows S t u

module _ (S : Start) (ok : Sound S) (laws : Lawful S.meaning) where
  pub one_place : (Todo : ℕ → Type 0) (t : Heap) → Inv S Todo t → (a c p q : ℕ) → Std S a → Std S c → Final S t a p → Final S t c q → q ≡ p → c ≡ a
  one_place Todo t inv a c p q s r f g e = one_cell S ok Todo t inv a c p q s r (final_cell S t a p f) (final_cell S t c q g) e

  pub scan_place : (Todo : ℕ → Type 0) (t : Heap) (a p : ℕ) → Inv S (λ q. Todo q ⊎ (q ≡ p)) t → Obj S a → Final S t a p
      → Went S (λ q. Todo q × (q ≢ p)) t (scanned S.meaning S.plan t p)
  scan_place Todo t a p inv s f =
      let r = scan_ok S ok laws (λ q. Todo q ⊎ (q ≡ p)) a p s (inr refl) t inv f in
      let u = scanned S.meaning S.plan t p in
      let f' = final_grows S t u r.grows a p s.0 f in
      let k = all_done S ok laws (λ q. Todo q ⊎ (q ≡ p)) a p s (inr refl) u r.inv f' r.done in
      record {
        grows = r.grows;
        inv = inv_todo S (λ q. Todo q ⊎ (q ≡ p)) (λ q. Todo q × (q ≢ p)) u r.inv (λ c q h g d. elim (cases_eq q p) [
          | inl e ↦ inr (rw (e, one_place (λ q. Todo q ⊎ (q ≡ p)) u r.inv a c p q s.0 h.0 f' g e) k)
          | inr n ↦ inl (elim d [ inl y ↦ (y, n) | inr y ↦ absurd (n y) ])
        ]);
      }

  -- the lowest grey object, by the bound
  record LowestGrey (t : Heap) (p : ℕ) : Type 0 where
    is : grey t p ≡ true
    lowest : (c : ℕ) → grey t c ≡ true → p ≤ c
    below : p < length S.space.words

  found_grey : (Todo : ℕ → Type 0) (t : Heap) → Inv S Todo t → (p : ℕ) → lowest_bit t.greys t.state.low ≡ Some p → LowestGrey t p
  found_grey Todo t inv p e =
      let l = subst (Lowest t.greys t.state.low) e ((laws_of t.greys).lowest t.state.low) in
      record {
        is = l.2;
        lowest = λ c g. elim (dec_lt c p) [ yes h ↦ absurd (both_ways (grey t c) (l.3 c (inv.bound c g) h) g) | no h ↦ omega arith ];
        below = omega (arith, l.1, inv.ready.greys, inv.long);
      }

  white_past : (t : Heap) (p : ℕ) → 32 * length t.greys ≤ p → grey t p ≡ false
  white_past t p h = rw (get_or_past t.greys (p / 32) 0 (omega arith)) (zero_bit (p % 32))

  none_grey : (Todo : ℕ → Type 0) (t : Heap) → Inv S Todo t → lowest_bit t.greys t.state.low ≡ None → (p : ℕ) → grey t p ≡ false
  none_grey Todo t inv e p =
      let l = subst (Lowest t.greys t.state.low) e ((laws_of t.greys).lowest t.state.low) in
      false_from_ne_true (grey t p) (λ h. both_ways (grey t p) (elim (dec_lt p (reach t.greys)) [ yes k ↦ l p (inv.bound p h) k | no k ↦ white_past t p (omega (arith, inv.ready.greys, inv.ready.few)) ]) h)

  pub record Round (Todo : ℕ → Type 0) (t u : Heap) : Type 0 where
    pub went : Went S Todo t u
    pub falls : suc (pot S u) ≤ pot S t

  round_at : (Todo : ℕ → Type 0) (t : Heap) → Inv S Todo t → (p : ℕ) → lowest_bit t.greys t.state.low ≡ Some p → Round Todo t (turned S.meaning S.plan t p)
  round_at Todo t inv p e =
      let k = found_grey Todo t inv p e in
      let x = inv.greys p k.is in
      let v = ungreyed t p in
      let i = ungrey_ok S Todo t inv p k.lowest in
      let w = ungrey_grows S Todo t inv p k.lowest in
      let f = final_grows S t v w x.whose p x.std.0 x.final in
      let r = scan_place Todo v x.whose p i x.std f in
      let s = scan_ok S ok laws (λ q. Todo q ⊎ (q ≡ p)) x.whose p x.std (inr refl) v i f in
      let u = turned S.meaning S.plan t p in
      record {
        went = record { grows = grows_trans S t v u w r.grows; inv = inv_todo S (λ q. Todo q × (q ≢ p)) Todo u r.inv (λ c q h f d. inl d.0) };
        falls = (let g = ungrey_falls S ok Todo t inv p k.is k.below in omega (arith, s.falls));
      }

  pub rounds_ok : (Todo : ℕ → Type 0) (k : ℕ) (t : Heap) → Inv S Todo t → Went S Todo t (rounded S.meaning S.plan k t)
  rounds_ok Todo zero t inv = record { inv = inv; grows = grows_refl S t }
  rounds_ok Todo (suc k) t inv = go (λ u i. rounds_ok Todo k u i) (lowest_bit t.greys t.state.low) refl
    where
      go : ((u : Heap) → Inv S Todo u → Went S Todo u (rounded S.meaning S.plan k u)) → (o : Option ℕ) → lowest_bit t.greys t.state.low ≡ o
          → Went S Todo t (next t (λ a. rounded S.meaning S.plan k (turned S.meaning S.plan t a)) o)
      go rec None e = record { inv = inv; grows = grows_refl S t }
      go rec (Some p) e =
          let u = turned S.meaning S.plan t p in
          let r = (round_at Todo t inv p e).went in
          let q = rec u r.inv in
          record { inv = q.inv; grows = grows_trans S t u (rounded S.meaning S.plan k u) r.grows q.grows }

  -- each round leaves less to do
  rounds_done : (k : ℕ) (Todo : ℕ → Type 0) (t : Heap) → Inv S Todo t → pot S t ≤ k → (p : ℕ) → grey (rounded S.meaning S.plan k t) p ≡ false
  rounds_done zero Todo t inv h p = elim (dec_lt p (length S.space.words)) [
    | yes l ↦ busy_off S t p (count_none (busy S t) (length S.space.words) h p l)
    | no l ↦ white_past t p (omega (arith, inv.ready.greys, inv.long))
  ]
  rounds_done (suc k) Todo t inv h p = go (λ u i l. rounds_done k Todo u i l p) (lowest_bit t.greys t.state.low) refl
    where
      go : ((u : Heap) → Inv S Todo u → pot S u ≤ k → grey (rounded S.meaning S.plan k u) p ≡ false) → (o : Option ℕ) → lowest_bit t.greys t.state.low ≡ o
          → grey (next t (λ a. rounded S.meaning S.plan k (turned S.meaning S.plan t a)) o) p ≡ false
      go rec None e = none_grey Todo t inv e p
      go rec (Some q) e =
          let r = round_at Todo t inv q e in
          rec (turned S.meaning S.plan t q) r.went.inv (omega (arith, r.falls))

  -- nothing is grey after as many rounds as there are words
  pub rounds_end : (Todo : ℕ → Type 0) (t : Heap) → Inv S Todo t → (p : ℕ) → grey (rounded S.meaning S.plan (length S.space.words) t) p ≡ false
  rounds_end Todo t inv p = rounds_done (length S.space.words) Todo t inv (count_below (busy S t) (length S.space.words)) p

  -- ---- registers

  pub record Regs (Todo : ℕ → Type 0) (t : Heap) (rs : List ℕ) (k : ℕ) (x : Rooted) : Type 0 where
    pub inv : Inv S Todo x.heap
    pub grows : Grows S t x.heap
    pub settled : (i : ℕ) → i < k → Settled S x.heap (get_or rs i 0) (get_or x.roots i 0)
    pub after : (i : ℕ) → k ≤ i → get_or x.roots i 0 ≡ get_or rs i 0
    pub long : length x.roots ≡ length rs

  pub regs_ok : (Todo : ℕ → Type 0) (t : Heap) (rs : List ℕ) → Inv S Todo t
      → (k : ℕ) → ((i : ℕ) → i < k → Names S t.words (get_or rs i 0) (get_or rs i 0)) → Regs Todo t rs k (roots_fixed S.meaning S.plan (rooted rs t) k)
  regs_ok Todo t rs inv zero h = record { inv = inv; grows = grows_refl S t; settled = λ i l. absurd (omega arith); after = λ i l. refl; long = refl }
  regs_ok Todo t rs inv (suc k) h =
      let b = regs_ok Todo t rs inv k (λ i l. h i (omega arith)) in
      let x = roots_fixed S.meaning S.plan (rooted rs t) k in
      let v = x.heap in
      let r = get_or rs k 0 in
      let e : get_or x.roots k 0 ≡ r = b.after k (omega arith) in
      let f : Fixed S Todo v r (fix_answer S.meaning S.plan v (get_or x.roots k 0)) (fixed S.meaning S.plan v (get_or x.roots k 0)) =
      rw e
      (fix_ok S ok laws Todo v b.inv r r (names_map S t.words v.words b.grows.moves r r (h k (omega arith)))) in
      let u = fixed S.meaning S.plan v (get_or x.roots k 0) in
      let q = fix_answer S.meaning S.plan v (get_or x.roots k 0) in
      record {
        inv = f.inv;
        grows = grows_trans S t v u b.grows f.grows;
        settled = λ i l. elim (cases_eq i k) [
          | inl z ↦ rw z (here_settled x.roots rs k q u b.long f.settled)
          | inr n ↦ rw (get_or-set_other x.roots k i q 0 n) (settled_grows S v u f.grows (get_or rs i 0) (get_or x.roots i 0) (b.settled i (omega arith)))
        ];
        after = λ i l. get_or-set_other x.roots k i q 0 (omega arith) ∙ b.after i (omega arith);
        long = length-set x.roots k q ∙ b.long;
      }
    where
      -- past the registers there is null, and it stays
      here_settled : (qs rs : List ℕ) (k q : ℕ) (u : Heap) → length qs ≡ length rs → Settled S u (get_or rs k 0) q → Settled S u (get_or rs k 0) (get_or (set qs k q) k 0)
      here_settled qs rs k q u e s = elim (dec_lt k (length qs)) [
        | yes l ↦ rw (get_or-set_same qs k q 0 l) s
        | no l ↦ empty (get_or_past rs k 0 (omega arith)) (ap (λ (z : List ℕ). get_or z k 0) (set_past qs k q (omega arith)) ∙ get_or_past qs k 0 (omega arith))
      ]

  -- an object in place gets nailed
  pub nail_ok : (Todo : ℕ → Type 0) (t : Heap) → Inv S Todo t → (a : ℕ) → Obj S a → Body S t.words a (rd S t.words a) → Went S Todo t (nailed_at t (Some a))
  nail_ok Todo t inv a s b =
      let l : a < reach t.marks = omega (arith, ok.inside a s.0, ok.some a s.0, ok.seg a s.0, inv.ready.marks, inv.ready.few, inv.long) in
      let k : a < reach t.greys = omega (arith, ok.inside a s.0, ok.some a s.0, ok.seg a s.0, inv.ready.greys, inv.ready.few, inv.long) in
      let under : (c : ℕ) → bit (with_bit t.greys a) c ≡ true → min t.state.low a ≤ c = λ c h. elim (board_set t.greys a c h) [ inl g ↦ omega (arith, inv.bound c g) | inr e ↦ omega arith ] in
      record {
        inv = mark_ok S Todo t inv a s b (min t.state.low a) (with_bit t.greys a) (length-set t.greys _ _) (board_keeps t.greys a) (board_set t.greys a) under l
            (inl (inl ((laws_of t.greys).set_same a k)));
        grows = mark_grows S Todo t inv a s b (min t.state.low a) (with_bit t.greys a) (length-set t.greys _ _) (board_keeps t.greys a) (board_set t.greys a) under l;
      }
