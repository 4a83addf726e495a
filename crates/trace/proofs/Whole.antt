-- The steps of a collection, by the names of their definitions.
use Rattle.std.proofs.Common.{◌≡◌, ℕ, zero, suc, ◌-◌, ◌*◌, ◌/◌, ◌<◌, ◌≤◌, true, false, ◌&&◌, leb, List, length, get_or, drop, refl, ap, ◌∙◌, inl, inr, arith}
use Rattle.std.proofs.lemmas.Bool.{cases_Bool, cases_eq, cond-true, leb-true, and_parts, and_from}
use Rattle.std.proofs.lemmas.List.{length-take-le, length-drop, get_or_past}
use Rattle.std.proofs.lemmas.List.FromFn.{length-map-range_with_len, get_or-map-range_with_len}
use Rattle.format.specs.Meaning.{Meaning}
use Rattle.format.specs.Laws.{Lawful, part}
use Rattle.format.specs.Answers.{pad_words}
use Rattle.format.proofs.Memory.{length_put}
use Rattle.arena.specs.declared.buffers.Buffer.{Buffer}
use Rattle.arena.specs.declared.segments.Segments.{Segments}
use Rattle.arena.specs.Segments.{owner_of, segments_in}
use Rattle.arena.specs.Buffers.{padded_part}
use Rattle.trace.specs.declared.state.Plan.{Plan}
use Rattle.trace.specs.declared.state.Trace.{Trace}
use Rattle.location.specs.Locations.{zone_of, has_zone, zone_bit}
use Rattle.location.proofs.Zones.{own_zone, joined_left, joined_right}
use Rattle.trace.specs.Traces.{condemns, Heap, heap, rounded}
use Rattle.trace.specs.Collections.{buffer_of, buffers_closed, all_buffers_closed, in_set, condemned_by, moves, zone_if, zones_of, all_zones, all_nailed, nailed_by_all, Rooted, rooted, roots_fixed, all_roots, segments_scanned, all_scanned, targets_closed, all_targets_closed, targets_ended, after_roots, traced, Ground, segments_swept, all_swept}

nailed_8 : (m : Meaning) (y : Plan) (ws : List ℕ) (v : Heap) → nailed_by_all m y ws v ≡ all_nailed m y ws v 8
unfolding nailed_by_all
nailed_8 m y ws v = refl

roots_16 : (m : Meaning) (y : Plan) (x : Rooted) → all_roots m y x ≡ roots_fixed m y x 16
unfolding all_roots
roots_16 m y x = refl

scanned_all : (m : Meaning) (y : Plan) (g : Segments) (v : Heap) → all_scanned m y g v ≡ segments_scanned m y g v (segments_in (length v.words))
unfolding all_scanned
scanned_all m y g v = refl

targets_8 : (m : Meaning) (t : Trace) (ws : List ℕ) → all_targets_closed m t ws ≡ targets_closed m t ws 8
unfolding all_targets_closed
targets_8 m t ws = refl

pub swept_all : (m : Meaning) (y : Plan) (ms : List ℕ) (x : Ground) → all_swept m y ms x ≡ segments_swept m y ms x (segments_in (length x.words))
unfolding all_swept
swept_all m y ms x = refl

traced_is : (m : Meaning) (y : Plan) (ws : List ℕ) (x : Rooted) → traced m y ws x ≡ after_roots m y x.heap.state.segments (all_roots m y (rooted x.roots (nailed_by_all m y ws x.heap)))
unfolding traced
traced_is m y ws x = refl

ended_8 : (m : Meaning) (v : Heap) → targets_ended m v ≡ heap v.state (targets_closed m v.state v.words 8) v.marks v.greys
ended_8 m v = rw (targets_8 m v.state v.words) refl

-- the registers fixed, and what is nailed before
abbrev pub fixed_roots : Meaning → Plan → List ℕ → Rooted → Rooted
fixed_roots m y ws x = roots_fixed m y (rooted x.roots (all_nailed m y ws x.heap 8)) 16

abbrev pub scanned_to : Meaning → Plan → Segments → Heap → Heap
scanned_to m y g v = segments_scanned m y g v (segments_in (length v.words))

abbrev pub turned_out : Meaning → Plan → Segments → Rooted → Heap
turned_out m y g x = rounded m y (length x.heap.words) (scanned_to m y g x.heap)

abbrev pub closed_up : Meaning → Heap → Heap
closed_up m v = heap v.state (targets_closed m v.state v.words 8) v.marks v.greys

after_is : (m : Meaning) (y : Plan) (g : Segments) (x : Rooted) → after_roots m y g x ≡ rooted x.roots (closed_up m (turned_out m y g x))
after_is m y g x =
    ap (λ v. rooted x.roots (targets_ended m (rounded m y (length x.heap.words) v))) (scanned_all m y g x.heap)
    ∙ ap (rooted x.roots) (ended_8 m (turned_out m y g x))

pub traced_steps : (m : Meaning) (y : Plan) (ws : List ℕ) (x : Rooted)
    → traced m y ws x ≡ rooted (fixed_roots m y ws x).roots (closed_up m (turned_out m y x.heap.state.segments (fixed_roots m y ws x)))
traced_steps m y ws x =
    traced_is m y ws x
    ∙ ap (after_roots m y x.heap.state.segments) (ap (λ v. all_roots m y (rooted x.roots v)) (nailed_8 m y ws x.heap) ∙ roots_16 m y (rooted x.roots (all_nailed m y ws x.heap 8)))
    ∙ after_is m y x.heap.state.segments (fixed_roots m y ws x)

-- ---- condemned segments

pub condemned_at : (g : Segments) (pools s : ℕ) → s < 256 → get_or (condemned_by g pools) s false ≡ in_set pools (owner_of g s)
unfolding condemned_by
condemned_at g pools s l = get_or-map-range_with_len (λ j. in_set pools (owner_of g j)) 0 256 s s false l (omega arith)

pub condemned_past : (g : Segments) (pools s : ℕ) → 256 ≤ s → get_or (condemned_by g pools) s false ≡ false
unfolding condemned_by
condemned_past g pools s l =
    let n = length-map-range_with_len (λ j. in_set pools (owner_of g j)) 0 256 in
    get_or_past (condemned_by g pools) s false (omega (arith, n))

-- ---- the zones by which the history is aged

zones_have : (y : Plan) (g : Segments) (k s : ℕ) → s < k → get_or y.condemned s false ≡ true → moves y.classes (owner_of g s) ≡ true → has_zone (zones_of y g k) (zone_of (s * 256)) ≡ true
zones_have y g zero s l c m = absurd (omega arith)
zones_have y g (suc k) s l c m = elim (cases_eq s k) [
  | inr n ↦ joined_left (zones_of y g k) (zone_if y g k) (zone_of (s * 256)) (zones_have y g k s (omega arith) c m)
  | inl e ↦ joined_right (zones_of y g k) (zone_if y g k) (zone_of (s * 256))
      (rw (← e, cond-true (get_or y.condemned s false && moves y.classes (owner_of g s)) (zone_bit (s * 256)) 0 (and_from _ _ c m)) (own_zone (s * 256)))
]

-- that of an address in a condemned AMC segment is one
pub aged_zone : (y : Plan) (g : Segments) (a : ℕ) → a / 256 < 256 → condemns y a ≡ true → moves y.classes (owner_of g (a / 256)) ≡ true → has_zone (all_zones y g) (zone_of a) ≡ true
unfolding all_zones
aged_zone y g a l c m =
    let e : zone_of (a / 256 * 256) ≡ zone_of a = omega arith in
    rw (← e) (zones_have y g 256 (a / 256) l c m)

-- ---- closing buffers leaves as many words

module _ (m : Meaning) (laws : Lawful m) where
  padded_long : (ws : List ℕ) → length (pad_words m ws) ≡ length ws
  padded_long ws = elim (cases_Bool (leb 1 (length ws) && leb (length ws) 256)) [
    | inl e ↦ (let p = and_parts (leb 1 (length ws)) (leb (length ws) 256) e in
        rw e (laws.pads ws (leb-true 1 (length ws) p.0) (leb-true (length ws) 256 p.1)).0)
    | inr e ↦ rw e refl
  ]

  part_long : (ws : List ℕ) (a e : ℕ) → length (padded_part m a e ws) ≡ length ws
  part_long ws a e = elim (cases_Bool (leb a e && leb e (length ws))) [
    | inl h ↦ (let p = and_parts (leb a e) (leb e (length ws)) h in
        let l = leb-true a e p.0 in
        let k = leb-true e (length ws) p.1 in
        rw h (length_put a (e - a) ws (pad_words m (part a (e - a) ws)) (omega arith) (padded_long (part a (e - a) ws) ∙ length-take-le (e - a) (drop a ws) (omega (arith, length-drop a ws)))))
    | inr h ↦ rw h refl
  ]

  buffers_long : (bs : List Buffer) (ws : List ℕ) (k : ℕ) → length (buffers_closed m bs ws k) ≡ length ws
  buffers_long bs ws zero = refl
  buffers_long bs ws (suc k) = part_long (buffers_closed m bs ws k) (buffer_of bs k).init (buffer_of bs k).limit ∙ buffers_long bs ws k

  pub closed_long : (bs : List Buffer) (ws : List ℕ) → length (all_buffers_closed m bs ws) ≡ length ws
  unfolding all_buffers_closed
  closed_long bs ws = buffers_long bs ws 8
