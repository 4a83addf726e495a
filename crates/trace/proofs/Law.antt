-- What a collection keeps.
use Rattle.std.proofs.Common.{◌≡◌, ℕ, ◌+◌, ◌*◌, ◌/◌, ◌%◌, ◌<◌, ◌≤◌, true, false, ◌⊎◌, List, length, get_or, replicate, Some, sym, refl, ap, ◌∙◌, subst, inl, inr, arith, None}
use native.Mathlib.Decide.{dec_lt}
use borrow.Author.Tests.{both_ways}
use Rattle.trace.proofs.Spots.{owner_cases}
use Rattle.std.proofs.lemmas.Bool.{cases_Bool, lt-ltb, and_from}
use Rattle.std.proofs.lemmas.List.{length-replicate}
use Rattle.format.specs.declared.things.Slot.TheVariants.{Number}
use Rattle.format.specs.Meaning.{Meaning, object}
use Rattle.format.specs.Laws.{Lawful}
use Rattle.arena.specs.Boards.{bit}
use Rattle.arena.specs.Segments.{owner_of, segments_in}
use Rattle.arena.proofs.Lowest.{zero_bit}
use Rattle.trace.specs.declared.state.Plan.{Plan}
use Rattle.trace.specs.Traces.{condemns, Heap, heap, rounded}
use Rattle.trace.specs.Collections.{in_set, all_zones, all_buffers_closed, all_nailed, Rooted, rooted, roots_fixed, segments_scanned, Ground, ground, segments_swept}
use Rattle.location.specs.Locations.{zone_of, has_zone}
use Rattle.trace.specs.Collect.{Held, plan_of, untraced, begun, before_sweep, after_sweep, ended, performed, held_aged}
use Rattle.trace.specs.Keeping.{Space, space, is_base, is_owned, Leads, place, Follows, Keeps, closed_space, SoundArena, KeptBy, CollectionsKeep}
use Rattle.trace.specs.Keeping.{Sound as SoundSpace}
use Rattle.trace.proofs.Cells.{slots_of, layout_of, owner, target, grey, rd, owner0, Start, Std, size0, layout0, slots0, Obj, Final, stay, move, Settled, empty, settled, Inv, Grows, Sound}
use Rattle.trace.proofs.Facts.{get_or_all, stays_by_mark, stays_by_zone, leaves, settled_grows, grows_trans}
use Rattle.trace.proofs.Putting.{inv_todo, final_body}
use Rattle.trace.proofs.Rounding.{Went, one_place, rounds_ok, rounds_end, Regs, regs_ok}
use Rattle.trace.proofs.Rows.{self_object, in_row, seat, obj_at, leads_names, sound, Fresh, Outside, begins}
use Rattle.trace.proofs.Walking.{Rowed, to_scan, Scanned, scan_segments_ok, Nails, nail_all_ok, nail_marks}
use Rattle.trace.proofs.Closing.{closed_to, Closes, closes_all, all_shut}
use Rattle.trace.proofs.Sweeps.{Base, row_chain}
use Rattle.trace.proofs.Tidying.{Outcome, calm, Fit, After, sweep_all_ok}
use Rattle.trace.proofs.Ends.{base_of, of_base, chain_now}
use Rattle.trace.proofs.Standing.{final_stands, comes, pool_next, obj_next, cleaned, arena_next, object_of, of_object}
use Rattle.trace.proofs.Keeping.{fate_is, is_fate, follows, slot_follows}
use Rattle.trace.proofs.Newness.{unclosed}
use Rattle.trace.proofs.Whole.{swept_all, closed_up, traced_steps, condemned_at, condemned_past, aged_zone, closed_long}

clear_bit_of : (n p : ℕ) → bit (replicate n 0) p ≡ false
clear_bit_of n p = rw (get_or_all {A = ℕ} n (p / 32) 0) (zero_bit (p % 32))

module _ (m : Meaning) (laws : Lawful m) (h : Held) (pools : ℕ) (sa : SoundArena m h) where
  abbrev y : Plan
  y = plan_of h.arena pools

  abbrev S : Start
  S = record { meaning = m; plan = y; space = closed_space m h }

  abbrev ws0 : List ℕ
  ws0 = all_buffers_closed m h.arena.buffers h.words

  abbrev t0 : Heap
  t0 = heap (untraced h.arena.segments) ws0 h.marks h.greys

  pub ok : Sound S
  ok = sound S laws sa.space

  free_safe : (s : ℕ) → owner0 S s ≡ None → get_or y.condemned s false ≡ false
  free_safe s e = elim (dec_lt s 256) [
    | yes l ↦ condemned_at h.arena.segments pools s l ∙ ap (in_set pools) e
    | no l ↦ condemned_past h.arena.segments pools s (omega arith)
  ]

  used : (s : ℕ) → get_or y.condemned s false ≡ true → (p : ℕ) × (owner0 S s ≡ Some p)
  used s c = elim (owner_cases (owner0 S s)) [ inl e ↦ absurd (both_ways (get_or y.condemned s false) (free_safe s e) c) | inr e ↦ e ]

  board_long : (b : List ℕ) → b ≡ replicate (length h.words / 32) 0 → 32 * length b ≡ length ws0
  board_long b e =
      let n : length b ≡ length h.words / 32 = ap length e ∙ length-replicate {A = ℕ} (length h.words / 32) 0 in
      omega (arith, n, closed_long m laws h.arena.buffers h.words, sa.space.whole.0)

  fresh : Fresh S laws sa.space t0
  fresh = record {
    words = refl;
    segments = refl;
    aims = λ p. get_or_all 8 p 0;
    targets = length-replicate {A = ℕ} 8 0;
    low = refl;
    safe = free_safe;
    marks = board_long h.marks sa.marks;
    greys = board_long h.greys sa.greys;
    unmarked = λ p. ap (λ b. bit b p) sa.marks ∙ clear_bit_of (length h.words / 32) p;
    white = λ p. ap (λ b. bit b p) sa.greys ∙ clear_bit_of (length h.words / 32) p;
  }

  abbrev Out : ℕ → Type 0
  Out = Outside S laws sa.space

  rowed : Rowed S ok laws
  rowed s p e = (
    sa.space.rows s p e,
    λ q b.
        let w = in_row m laws ws0 (s * 256 + 256) 256 (s * 256) q (sa.space.rows s p e) b in
        let f : q / 256 ≡ s = omega (arith, w.low, w.high, w.sort.some) in
        (and_from _ _ (ap is_owned (ap (owner0 S) f ∙ e)) (subst (λ (x : ℕ). is_base m ws0 (x * 256 + 256) 256 (x * 256) q ≡ true) (sym f) b), f),
  )

  -- ---- up to the sweep

  abbrev t1 : Heap
  t1 = all_nailed m y h.arena.ambiguous t0 8

  nailed_up : Nails S ok laws Out t0 t1
  nailed_up = nail_all_ok S ok laws rowed used Out h.arena.ambiguous t0 (begins S laws sa.space t0 fresh) 8

  abbrev x2 : Rooted
  x2 = roots_fixed m y (rooted h.arena.registers t1) 16

  abbrev t2 : Heap
  t2 = x2.heap

  rooted_up : Regs S ok laws Out t1 h.arena.registers 16 x2
  rooted_up = regs_ok S ok laws Out t1 h.arena.registers nailed_up.inv 16
      (λ i l. rw nailed_up.words (leads_names S laws sa.space (get_or h.arena.registers i 0) (sa.registers i l)))

  abbrev k3 : ℕ
  k3 = segments_in (length t2.words)

  abbrev t3 : Heap
  t3 = segments_scanned m y h.arena.segments t2 k3

  abbrev Left : ℕ → Type 0
  Left q = Out q × Scanned S ok laws k3 q

  scanned_up : Went S Left t2 t3
  scanned_up = scan_segments_ok S ok laws rowed Out (λ q d. d.0) t2 rooted_up.inv k3

  abbrev t4 : Heap
  t4 = rounded m y (length t2.words) t3

  turned_up : Went S Left t3 t4
  turned_up = rounds_ok S ok laws Left (length t2.words) t3 scanned_up.inv

  white4 : (p : ℕ) → grey t4 p ≡ false
  white4 p = subst (λ (n : ℕ). grey (rounded m y n t3) p ≡ false) (sym rooted_up.inv.long) (rounds_end S ok laws Left t3 scanned_up.inv p)

  none_left : (q : ℕ) → Left q → ⊥
  none_left q d =
      let o = d.0 in
      let k = seat S laws sa.space q o.0.0 in
      let w = sa.space.owned (q / 256) k.pool k.owner in
      let sc : to_scan S ok laws (q / 256) ≡ true = rw (o.1, k.owner, lt-ltb k.pool 8 w.0, o.2 k.pool k.owner) refl in
      both_ways (is_base m ws0 (q / 256 * 256 + 256) 256 (q / 256 * 256) q) (d.1 (q / 256) (omega (arith, w.1, rooted_up.inv.long, sa.space.whole.1)) sc) k.base

  abbrev Nil : ℕ → Type 0
  Nil q = ⊥

  inv4 : Inv S Nil t4
  inv4 = inv_todo S Left Nil t4 turned_up.inv (λ a p s f d. absurd (none_left p d))

  -- the state before the sweep, with the targets given up
  abbrev u : Heap
  u = closed_to S ok laws Nil t4 8

  closed_up_ok : Closes S ok laws Nil t4 u
  closed_up_ok = closes_all S ok laws Nil t4 inv4 8

  grows2 : Grows S t2 u
  grows2 = grows_trans S t2 t3 u scanned_up.grows (grows_trans S t3 t4 u turned_up.grows closed_up_ok.grows)

  grows1 : Grows S t1 u
  grows1 = grows_trans S t1 t2 u rooted_up.grows grows2

  -- ---- the sweep

  abbrev swept : Ground
  swept = segments_swept m y u.marks (ground u.state.segments u.words) (segments_in (length u.words))

  standing : (s p q : ℕ) → owner0 S s ≡ Some p → Base S ws0 (s * 256 + 256) (s * 256) q → Std S q
  standing s p q e b = ((rowed s p e).1 q (of_base S ws0 (s * 256 + 256) 256 (s * 256) q (row_chain S laws ws0 (s * 256 + 256) (s * 256) (sa.space.rows s p e)) (omega arith) b)).0

  based : (q : ℕ) → Std S q → Base S ws0 (q / 256 * 256 + 256) (q / 256 * 256) q
  based q s = base_of S ws0 (q / 256 * 256 + 256) 256 (q / 256 * 256) q (seat S laws sa.space q s).base

  inv_u : Inv S Nil u
  inv_u = closed_up_ok.inv

  shut : (p : ℕ) → target u p ≡ 0
  shut = all_shut S ok laws Nil t4 inv4.ready.targets

  fit : (j : ℕ) → get_or y.condemned j false ≡ true → Fit S laws u.marks u.words j
  fit j c =
      let w = used j c in
      record {
        chain = chain_now S ok laws Nil u inv_u (j * 256 + 256) (j * 256) (sa.space.rows j w.0 w.1) (λ q x. standing j w.0 q w.1 x);
        marked = λ q b k. (let b2 = final_body S Nil u inv_u q q (inv_u.marked q k) (stay refl (stays_by_mark S u q k)) in
            object_of (rd S u.words q) (of_object (rd S u.words q) (layout0 S q) (slots_of (rd S u.words q)) b2.shape));
        inside = omega (arith, (sa.space.owned j w.0 w.1).1, inv_u.long);
      }

  swept_ok : After S laws u.marks u.words u.state.segments y.condemned (segments_in (length u.words)) swept
  swept_ok = sweep_all_ok S laws u.marks u.words u.state.segments y inv_u.ready.owners fit (segments_in (length u.words)) (omega arith)

  out : (j : ℕ) → Outcome S laws u.marks (get_or y.condemned j false) j u.words swept.words (owner u j) (owner_of swept.segments j)
  out j = elim (dec_lt j (segments_in (length u.words))) [
    | yes l ↦ swept_ok.past j l
    | no l ↦ (let x = swept_ok.coming j (omega arith) in calm (uncondemned j (omega arith)) x.1 x.0 x.2)
  ]
    where
      uncondemned : (j : ℕ) → segments_in (length u.words) ≤ j → get_or y.condemned j false ≡ false
      uncondemned j l = elim (cases_Bool (get_or y.condemned j false)) [
        | inr e ↦ e
        | inl e ↦ (let w = used j e in absurd (omega (arith, (sa.space.owned j w.0 w.1).1, inv_u.long, sa.space.whole.1)))
      ]

  white : (p : ℕ) → grey u p ≡ false
  white p = white4 p

  -- ---- what is kept

  abbrev after : Space
  after = space swept.words swept.segments

  sound_after : SoundSpace m y.classes after
  sound_after = arena_next S ok laws u inv_u shut sa.space.rows standing based used swept.words swept.segments out white swept_ok.long (swept_ok.many ∙ inv_u.ready.owners)

  registered : (i : ℕ) → i < 16 → Settled S u (get_or h.arena.registers i 0) (get_or x2.roots i 0)
  registered i l = settled_grows S t2 u grows2 (get_or h.arena.registers i 0) (get_or x2.roots i 0) (rooted_up.settled i l)

  leads_after : (r q : ℕ) → Settled S u r q → Leads m after q
  leads_after r q (empty e f) = inl f
  leads_after r q (settled o f) = inr (_, (_, obj_next S ok laws u inv_u shut sa.space.rows standing based used swept.words swept.segments out r q o f))

  board_after : (b : List ℕ) → b ≡ replicate (length h.words / 32) 0 → ◌≡◌ {A = List ℕ} (replicate (length b) 0) (replicate (length swept.words / 32) 0)
  board_after b e =
      let n : length b ≡ length swept.words / 32 =
      ap length e ∙ length-replicate {A = ℕ} (length h.words / 32) 0 ∙ ap (λ (k : ℕ). k / 32) (sym (swept_ok.long ∙ inv_u.long ∙ closed_long m laws h.arena.buffers h.words)) in
      ap (λ (k : ℕ). replicate {A = ℕ} k 0) n

  follow : (r q : ℕ) → Settled S u r q → Follows m y u r q
  follow = follows S ok Nil u inv_u

  pub kept_by_u : Keeps m y (closed_space m h) u after h.arena.ambiguous h.arena.registers x2.roots
  kept_by_u = record {
    kept = λ a p l ss o e.
        let oa = obj_at S laws sa.space a l ss o in
        let f = is_fate S ok Nil u inv_u a p oa e in
        let s = final_stands S ok laws u inv_u shut sa.space.rows standing based used swept.words swept.segments out a p oa f in
        let b = final_body S Nil u inv_u a p oa f in
        let c = cleaned S ok laws u inv_u shut sa.space.rows standing based used swept.words swept.segments out white a p oa f in
        let es : slots0 S a ≡ ss = ap slots_of o.1 in
        let el : layout0 S a ≡ l = ap layout_of o.1 in (
          slots_of (rd S u.words p),
          (
            (s.std, s.reads ∙ b.shape ∙ ap (λ (z : ℕ). object z (slots_of (rd S u.words p))) el),
            b.many ∙ ap length es,
            λ i. rw (← es) (slot_follows S ok Nil u inv_u (get_or (slots0 S a) i (Number 0)) (get_or (slots_of (rd S u.words p)) i (Number 0)) (c i)),
          ),
        );
    only = λ p o.
        let x = comes S ok laws u inv_u shut sa.space.rows standing based used swept.words swept.segments out p (o.1.1.0, self_object (rd S swept.words p) o.0 o.1.0 o.1.1.1) in
        (x.from, ((layout0 S x.from, (slots0 S x.from, x.obj)), fate_is S ok Nil u inv_u x.from p x.obj x.final));
    apart = λ a c p o x e f.
        let oa = obj_at S laws sa.space a o.0 o.1.0 o.1.1 in
        let oc = obj_at S laws sa.space c x.0 x.1.0 x.1.1 in
        one_place S ok laws Nil u inv_u c a p p oc.0 oa.0 (is_fate S ok Nil u inv_u c p oc f) (is_fate S ok Nil u inv_u a p oa e) refl;
    registers = λ i l. follow (get_or h.arena.registers i 0) (get_or x2.roots i 0) (registered i l);
    pinned = λ i a l o bot top. pin i a l (obj_at S laws sa.space a o.0 o.1.0 o.1.1) bot top;
    outside = λ a o c. fate_is S ok Nil u inv_u a a (obj_at S laws sa.space a o.0 o.1.0 o.1.1) (stay refl (stays_by_zone S u a c));
    pools = λ a p o e.
        let oa = obj_at S laws sa.space a o.0 o.1.0 o.1.1 in
        pool_next S ok laws u inv_u shut sa.space.rows standing based used swept.words swept.segments out a p oa (is_fate S ok Nil u inv_u a p oa e);
    zones = λ a p o e. let oa = obj_at S laws sa.space a o.0 o.1.0 o.1.1 in zoned a p oa (is_fate S ok Nil u inv_u a p oa e);
    white = white;
  }
    where
      zoned : (a p : ℕ) → Obj S a → Final S u a p → (p ≡ a) ⊎ (has_zone (all_zones y h.arena.segments) (zone_of a) ≡ true)
      zoned a p o (stay e k) = inl e
      zoned a p o (move g) =
          let c = inv_u.copied a p o.0 g in
          inr (aged_zone y h.arena.segments a (omega (arith, ok.inside a o.0, inv_u.long, inv_u.ready.few)) (leaves S u a c.left).set c.mover)

      pin : (i a : ℕ) → i < 8 → Obj S a → a ≤ get_or h.arena.ambiguous i 0 → get_or h.arena.ambiguous i 0 < a + size0 S a → place m y u a ≡ Some a
      pin i a l o bot top = elim (cases_Bool (condemns y a)) [
        | inr c ↦ fate_is S ok Nil u inv_u a a o (stay refl (stays_by_zone S u a c))
        | inl c ↦ (let k = nail_marks S ok laws rowed used Out h.arena.ambiguous t0 (begins S laws sa.space t0 fresh) refl 8 i a l o (seat S laws sa.space a o.0).base c bot top in
            fate_is S ok Nil u inv_u a a o (stay refl (stays_by_mark S u a (grows1.marks a k))))
      ]

  -- ---- in the words of the definitions

  abbrev v : Heap
  v = closed_up m t4

  kept_by_v : Keeps m y (closed_space m h) v after h.arena.ambiguous h.arena.registers x2.roots
  kept_by_v = record {
    kept = kept_by_u.kept;
    only = kept_by_u.only;
    apart = kept_by_u.apart;
    registers = kept_by_u.registers;
    pinned = kept_by_u.pinned;
    outside = kept_by_u.outside;
    pools = kept_by_u.pools;
    zones = kept_by_u.zones;
    white = kept_by_u.white;
  }

  sound_by_v : SoundArena m (ended (held_aged h pools) (rooted x2.roots v) swept)
  sound_by_v =
      let e = unclosed m swept.words in
      record {
        space = rw e sound_after;
        registers = λ i l. subst (λ (ws : List ℕ). Leads m (space ws swept.segments) (get_or x2.roots i 0)) (sym e) (leads_after (get_or h.arena.registers i 0) (get_or x2.roots i 0) (registered i l));
        marks = board_after h.marks sa.marks;
        greys = board_after h.greys sa.greys;
      }

  abbrev Kept : Rooted → Ground → Type 0
  Kept x g = SoundArena m (ended (held_aged h pools) x g) × Keeps m y (closed_space m h) x.heap (space g.words g.segments) h.arena.ambiguous h.arena.registers x.roots

  kept_before : Kept (before_sweep m y h) (after_sweep m y (before_sweep m y h))
  kept_before = rw (traced_steps m y h.arena.ambiguous (begun m h), swept_all m y v.marks (ground v.state.segments v.words)) (sound_by_v, kept_by_v)

  pub performed_keeps : KeptBy m y h (performed m y (held_aged h pools)).after
  performed_keeps = kept_before

pub collections_keep : CollectionsKeep
collections_keep m laws h pools sa f c = rw (f, c) (performed_keeps m laws h pools sa)
