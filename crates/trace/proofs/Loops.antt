-- One more turn of each loop that goes over the first of some numbered things.
use Rattle.std.proofs.Common.{◌≡◌, ℕ, ◌+◌, List, bit_or, get_or, ap, add-one}
use Rattle.format.specs.Meaning.{Meaning}
use Rattle.arena.specs.declared.buffers.Buffer.{Buffer}
use Rattle.arena.specs.declared.segments.Segments.{Segments}
use Rattle.arena.specs.Buffers.{padded_part}
use Rattle.trace.specs.declared.state.Plan.{Plan}
use Rattle.trace.specs.declared.state.Trace.{Trace}
use Rattle.trace.specs.Traces.{Heap, rest, target_of}
use Rattle.trace.specs.Collections.{buffer_of, buffers_closed, zone_if, zones_of, nailed, all_nailed, Rooted, root_fixed, roots_fixed, segment_scanned, segments_scanned, targets_closed, Ground, segment_swept, segments_swept}

pub next_target : (m : Meaning) (t : Trace) (ws : List ℕ) (p : ℕ)
    → targets_closed m t ws (p + 1) ≡ padded_part m (target_of t p) (target_of t p + rest (target_of t p)) (targets_closed m t ws p)
next_target m t ws p = ap (targets_closed m t ws) (add-one p)

pub next_zone : (y : Plan) (g : Segments) (s : ℕ) → zones_of y g (s + 1) ≡ bit_or (zones_of y g s) (zone_if y g s)
next_zone y g s = ap (zones_of y g) (add-one s)

pub next_buffer : (m : Meaning) (bs : List Buffer) (ws : List ℕ) (i : ℕ)
    → buffers_closed m bs ws (i + 1) ≡ padded_part m (buffer_of bs i).init (buffer_of bs i).limit (buffers_closed m bs ws i)
next_buffer m bs ws i = ap (buffers_closed m bs ws) (add-one i)

pub next_nail : (m : Meaning) (y : Plan) (as' : List ℕ) (v : Heap) (i : ℕ) → all_nailed m y as' v (i + 1) ≡ nailed m y (all_nailed m y as' v i) (get_or as' i 0)
next_nail m y as' v i = ap (all_nailed m y as' v) (add-one i)

pub next_root : (m : Meaning) (y : Plan) (x : Rooted) (i : ℕ) → roots_fixed m y x (i + 1) ≡ root_fixed m y (roots_fixed m y x i) i
next_root m y x i = ap (roots_fixed m y x) (add-one i)

pub next_scanned : (m : Meaning) (y : Plan) (used : Segments) (v : Heap) (s : ℕ)
    → segments_scanned m y used v (s + 1) ≡ segment_scanned m y used (segments_scanned m y used v s) s
next_scanned m y used v s = ap (segments_scanned m y used v) (add-one s)

pub next_swept : (m : Meaning) (y : Plan) (ms : List ℕ) (x : Ground) (s : ℕ) → segments_swept m y ms x (s + 1) ≡ segment_swept m y ms (segments_swept m y ms x s) s
next_swept m y ms x s = ap (segments_swept m y ms x) (add-one s)
