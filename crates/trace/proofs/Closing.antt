-- The targets' rests padded.
use Rattle.std.proofs.Common.{◌≡◌, ℕ, zero, suc, ◌+◌, ◌-◌, ◌*◌, ◌/◌, ◌%◌, ◌<◌, ◌≤◌, ◌⊎◌, List, length, get_or, set, sym, refl, ap, ◌∙◌, inl, inr, arith, length-set}
use native.Mathlib.Decide.{dec_lt}
use Rattle.std.proofs.lemmas.Bool.{cases_eq}
use Rattle.std.proofs.lemmas.List.{get_or-set_same, get_or-set_other, get_or_past}
use Rattle.format.specs.Meaning.{padding}
use Rattle.format.specs.Laws.{Lawful}
use Rattle.arena.specs.Buffers.{padded_part}
use Rattle.trace.specs.declared.state.Trace.{Trace}
use Rattle.trace.specs.Traces.{rest, Heap, heap}
use Rattle.trace.specs.Collections.{targets_closed}
use Rattle.trace.proofs.Cells.{target, rd, Start, Room, unused, ahead, Front, Inv, Grows, Sound}
use Rattle.trace.proofs.Facts.{clean_grows, final_grows, place_grows, grows_refl, grows_trans, copied_on, owned_on}
use Rattle.trace.proofs.Fixes.{rest_padded, pad_inv, pad_grows, pad_closes}

-- the state without a target of pool p
abbrev pub without_target : Trace → ℕ → Trace
without_target t p = record { segments = t.segments; targets = set t.targets p 0; moved = t.moved; low = t.low }

abbrev pub reset : Heap → ℕ → Heap
reset t p = heap (without_target t.state p) t.words t.marks t.greys

module _ (S : Start) (ok : Sound S) (laws : Lawful S.meaning) (Todo : ℕ → Type 0) where
  -- a target whose rest is padding is given up
  module _ (t : Heap) (inv : Inv S Todo t) (p : ℕ)
      (closing : 1 ≤ target t p % 256 → rd S t.words (target t p) ≡ padding (target t p / 256 * 256 + 256 - target t p)) where
    abbrev u : Heap
    u = reset t p

    same_or_none : (q : ℕ) → (target u q ≡ target t q) ⊎ ((q ≡ p) × (target u q ≡ 0))
    same_or_none q = elim (cases_eq q p) [
      | inr n ↦ inl (get_or-set_other t.state.targets p q 0 0 n)
      | inl e ↦ elim (dec_lt p (length t.state.targets)) [
        | yes l ↦ inr (e, ap (target u) e ∙ get_or-set_same t.state.targets p 0 0 l)
        | no l ↦ inr (e, get_or_past (set t.state.targets p 0) q 0 (omega (arith, length-set t.state.targets p 0)))
      ]
    ]

    none_ahead : (q : ℕ) → target u q ≡ 0 → 1 ≤ target u q % 256 → ⊥
    none_ahead q z h = omega arith

    room_back : {w : ℕ} → Room u w → Room t w
    room_back (unused x y z) = unused x y z
    room_back {w} (ahead q x y z) = elim (same_or_none q) [
      | inl e ↦ ahead q (rw (← e) x) (rw (← e) y) (rw (← e) z)
      | inr e ↦ absurd (none_ahead q e.1 z)
    ]

    gone_front : (s q : ℕ) → q ≡ p → target u q ≡ 0 → Front S t s q → Front S u s q
    gone_front s q e z f = record {
      front = f.front;
      low = f.low;
      high = f.high;
      below = f.below;
      cover = f.cover;
      ends = inr (
        λ h y. none_ahead q z h,
        elim f.ends [
          | inl x ↦ (let tq : target t q ≡ target t p = rw e refl in
              let h : 1 ≤ target t p % 256 = rw (← tq) x.0 in
              let g : target t p / 256 ≡ s = rw (← tq) x.1 in
              let ff : target t p ≡ f.front = sym tq ∙ sym x.2 in
              inr (rw (← ff, ← g) (closing h)))
          | inr x ↦ x.1
        ],
      );
    }

    same_front : (s q : ℕ) → target u q ≡ target t q → Front S t s q → Front S u s q
    same_front s q z f = record {
      front = f.front;
      low = f.low;
      high = f.high;
      below = f.below;
      cover = f.cover;
      ends = elim f.ends [
        | inl x ↦ inl (rw z x.0, rw z x.1, x.2 ∙ sym z)
        | inr x ↦ inr (rw z x.0, x.1)
      ];
    }

    pub reset_grows : Grows S t u
    reset_grows = record { marks = λ c h. h; moves = λ c d s h. h }

    pub reset_ok : Inv S Todo u
    reset_ok = record {
      long = inv.long;
      ready = record {
        whole = inv.ready.whole;
        few = inv.ready.few;
        unused = inv.ready.unused;
        marks = inv.ready.marks;
        greys = inv.ready.greys;
        owners = inv.ready.owners;
        targets = length-set t.state.targets p 0 ∙ inv.ready.targets;
        owned = λ q h. elim (same_or_none q) [
          | inl e ↦ rw e (inv.ready.owned q (rw (← e) h))
          | inr e ↦ absurd (none_ahead q e.1 h)
        ];
      };
      owned = λ a s. owned_on S t u a refl (inv.owned a s);
      held = inv.held;
      apart = inv.apart;
      copied = λ a b s g. copied_on S t u a b refl refl refl (inv.copied a b s g);
      room = λ w a q f. inv.room w a q (room_back f);
      greys = λ q h. place_grows S t u reset_grows q (inv.greys q h);
      bound = inv.bound;
      marked = inv.marked;
      blank = inv.blank;
      fill = record {
        empty = inv.fill.empty;
        low = inv.fill.low;
        plain = inv.fill.plain;
        pools = inv.fill.pools;
        aims = λ q h. elim (same_or_none q) [
          | inl e ↦ rw e (inv.fill.aims q (rw (← e) h))
          | inr e ↦ absurd (none_ahead q e.1 h)
        ];
        fronts = λ s q e o. elim (same_or_none q) [ inl z ↦ same_front s q z (inv.fill.fronts s q e o) | inr z ↦ gone_front s q z.0 z.1 (inv.fill.fronts s q e o) ];
      };
      clean = λ a q s f. elim (inv.clean a q s (final_grows S u t (record { marks = λ c h. h; moves = λ c d r h. h }) a q s.0 f)) [ inl x ↦ inl x | inr h ↦ inr (clean_grows S t u reset_grows a (rd S t.words q) (rd S t.words q) refl h) ];
    }

  -- the state after k targets were closed, with those given up
  abbrev pub given_up : List ℕ → ℕ → List ℕ
  given_up ts zero = ts
  given_up ts (suc p) = set (given_up ts p) p 0

  abbrev pub closed_to : Heap → ℕ → Heap
  closed_to t k = heap (record { segments = t.state.segments; targets = given_up t.state.targets k; moved = t.state.moved; low = t.state.low })
      (targets_closed S.meaning t.state t.words k) t.marks t.greys

  given_later : (ts : List ℕ) (k q : ℕ) → k ≤ q → get_or (given_up ts k) q 0 ≡ get_or ts q 0
  given_later ts zero q l = refl
  given_later ts (suc k) q l = get_or-set_other (given_up ts k) k q 0 0 (omega arith) ∙ given_later ts k q (omega arith)

  given_long : (ts : List ℕ) (k : ℕ) → length (given_up ts k) ≡ length ts
  given_long ts zero = refl
  given_long ts (suc k) = length-set (given_up ts k) k 0 ∙ given_long ts k

  given_none : (ts : List ℕ) (k q : ℕ) → q < k → get_or (given_up ts k) q 0 ≡ 0
  given_none ts zero q l = omega arith
  given_none ts (suc k) q l = elim (cases_eq q k) [
    | inl e ↦ elim (dec_lt k (length (given_up ts k))) [
      | yes h ↦ rw e (get_or-set_same (given_up ts k) k 0 0 h)
      | no h ↦ get_or_past (set (given_up ts k) k 0) q 0 (omega (arith, length-set (given_up ts k) k 0))
    ]
    | inr n ↦ get_or-set_other (given_up ts k) k q 0 0 n ∙ given_none ts k q (omega arith)
  ]

  pub record Closes (t u : Heap) : Type 0 where
    pub inv : Inv S Todo u
    pub grows : Grows S t u

  close_one : (v : Heap) (inv : Inv S Todo v) (p : ℕ) → Closes v (reset (rest_padded S ok laws Todo v inv p) p)
  close_one v inv p =
      let w = rest_padded S ok laws Todo v inv p in
      let i = pad_inv S ok laws Todo v inv p in
      let c = pad_closes S ok laws Todo v inv p in
      record { inv = reset_ok w i p c; grows = grows_trans S v w (reset w p) (pad_grows S ok laws Todo v inv p) (reset_grows w i p c) }

  pub closes_all : (t : Heap) → Inv S Todo t → (k : ℕ) → Closes t (closed_to t k)
  closes_all t inv zero = record { inv = inv; grows = grows_refl S t }
  closes_all t inv (suc p) =
      let b = closes_all t inv p in
      let v = closed_to t p in
      let e : target v p ≡ target t p = given_later t.state.targets p p (omega arith) in
      let c = close_one v b.inv p in
      let y : reset (rest_padded S ok laws Todo v b.inv p) p ≡ closed_to t (suc p) =
      ap (λ (at : ℕ). heap (record { segments = t.state.segments; targets = given_up t.state.targets (suc p); moved = t.state.moved; low = t.state.low })
      (padded_part S.meaning at (at + rest at) v.words) t.marks t.greys) e in
      rw (← y) (record { inv = c.inv; grows = grows_trans S t v (reset (rest_padded S ok laws Todo v b.inv p) p) b.grows c.grows })

  pub all_shut : (t : Heap) → length t.state.targets ≡ 8 → (p : ℕ) → target (closed_to t 8) p ≡ 0
  all_shut t e p = elim (dec_lt p 8) [
    | yes l ↦ given_none t.state.targets 8 p l
    | no l ↦ get_or_past (given_up t.state.targets 8) p 0 (omega (arith, given_long t.state.targets 8))
  ]
