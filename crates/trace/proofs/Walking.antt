-- The walks over rows: nailing, and scanning what is not condemned.
use Rattle.std.proofs.Common.{◌≡◌, ℕ, zero, suc, ◌+◌, ◌-◌, ◌*◌, ◌/◌, ◌<◌, ◌≤◌, Bool, true, false, cond, not, ◌&&◌, ◌||◌, eqb, ltb, leb, ◌≢◌, ◌⊎◌, List, length, get_or, Some, None, Option, sym, refl, ap, ◌∙◌, subst, inl, inr, arith, ltb-true, eqb-true}
use Rattle.std.proofs.lemmas.Bool.{cases_Bool, cond-true, cond-false, cond_both, and_parts, lt-ltb, le-ltb, le-leb, cases_eq}
use Rattle.format.specs.declared.things.Head.{Head}
use Rattle.format.specs.declared.things.Head.TheVariants.{Forwarded, Padding}
use Rattle.format.specs.Meaning.{Meaning, shape, seen, object, padding, span}
use Rattle.format.specs.Laws.{Lawful, part}
use Rattle.arena.specs.Segments.{Owner}
use Rattle.arena.proofs.BoardLaws.{laws_of}
use Rattle.trace.specs.Traces.{limit_of, condemns, Heap, scanned, stand_by, walked}
use Rattle.trace.specs.Collections.{base_of, pointed, pointed_in, nails, nailed_at, nailed, all_nailed, end_at, refers, segment_scanned, segments_scanned}
use Rattle.trace.specs.Keeping.{Row, ends, piece, is_base}
use Rattle.trace.proofs.Cells.{slots_of, marked, rd, owner0, Start, Std, thing0, size0, layout0, slots0, Obj, stay, Held, here, away, still, Inv, Grows, Sound}
use Rattle.trace.proofs.Facts.{object_not_padding, stays_by_zone, grows_refl, grows_trans, body_size}
use Rattle.trace.proofs.Putting.{inv_todo}
use Rattle.trace.proofs.Looking.{seen_forwarded, seen_padding, seen_object}
use Rattle.trace.proofs.Rounding.{Went, scan_place, nail_ok}
use Rattle.trace.proofs.Rows.{sorted, base_cases, in_row, base_first, base_later, base_passed}

stand_end : (m : Meaning) (ms : List ℕ) (at limit : ℕ) (h : Head) (k : ℕ) → (h ≡ Padding k) ⊎ (((to : ℕ) × (h ≡ Forwarded k to))) → (stand_by ms at limit m h).end ≡ at + k
stand_end m ms at limit h k (inl e) = rw e refl
stand_end m ms at limit h k (inr e) = rw e.1 refl

module _ (S : Start) (ok : Sound S) (laws : Lawful S.meaning) where
  abbrev M : Meaning
  M = S.meaning

  abbrev m : List ℕ
  m = S.space.words

  -- where the thing that stood at a ends, in the row that ends at e
  pub end_is : (Todo : ℕ → Type 0) (t : Heap) → Inv S Todo t → (e a : ℕ) → Std S a → a + size0 S a ≤ e → end_at M e t a ≡ a + size0 S a
  end_is Todo t inv e a s h = go (inv.held a s)
    where
      go : Held S t.words a → end_at M e t a ≡ a + size0 S a
      go (here b) =
          let z = body_size S ok t.words a (rd S t.words a) b in
          ap (λ (x : Head). (stand_by t.marks a e M x).end) (seen_object M laws t.words a (layout0 S a) (slots_of (rd S t.words a)) b.shape e (omega arith))
          ∙ ap (λ (n : ℕ). a + n) z
      go (away d g k) = stand_end M t.marks a e (seen M (part a (e - a) t.words)) (size0 S a) (inr (d, seen_forwarded M laws t.words a e (size0 S a) h d g))
      go (still w f) = stand_end M t.marks a e (seen M (part a (e - a) t.words)) (size0 S a) (inl (seen_padding M laws t.words a e (size0 S a) h f))

  -- ---- scanning

  scan_padding : (Todo : ℕ → Type 0) (t : Heap) → Inv S Todo t → (a : ℕ) → Std S a → thing0 S a ≡ padding (size0 S a) → scanned M S.plan t a ≡ t
  scan_padding Todo t inv a s e = go (inv.held a s)
    where
      go : Held S t.words a → scanned M S.plan t a ≡ t
      go (here b) = cc
      go (away b g h) = cc
      go (still w f) =
          let i = ok.inside a s in
          rw (le-ltb 65535 a (omega (arith, inv.ready.few, inv.long)), le-ltb (length t.words) (limit_of a) (omega (arith, inv.long)), seen_padding M laws t.words a (limit_of a) (size0 S a) (omega (arith, ok.seg a s)) f) refl

  -- one thing of a row
  scan_piece : (Todo : ℕ → Type 0) → ((q : ℕ) → Todo q → Obj S q) → (t : Heap) → Inv S Todo t → (a : ℕ) → Std S a → condemns S.plan a ≡ false
      → Went S (λ q. Todo q × (q ≢ a)) t (scanned M S.plan t a)
  scan_piece Todo sub t inv a s c = elim (ok.thing a s) [
    | inl e ↦ scan_place S ok laws Todo t a a (inv_todo S Todo (λ q. Todo q ⊎ (q ≡ a)) t inv (λ x q h f d. inl (inl d))) (s, e) (stay refl (stays_by_zone S t a c))
    | inr e ↦ rw (scan_padding Todo t inv a s e)
        (record {
          grows = grows_refl S t;
          inv = inv_todo S Todo (λ q. Todo q × (q ≢ a)) t inv (λ x q h f d. inl (
            d,
            λ z.
                object_not_padding (thing0 S a) (layout0 S a) (size0 S a) (slots0 S a) (rw (← z) (sub q d).1) e,
          ));
        })
  ]

  abbrev scan_walk : ℕ → ℕ → Heap → ℕ → Heap
  scan_walk e k t a = walked (scanned M S.plan) (end_at M e) e k t a

  pub scan_row_ok : (e s : ℕ) (k : ℕ) (Todo : ℕ → Type 0) → ((q : ℕ) → Todo q → Obj S q) → (a : ℕ) (t : Heap) → Row M m e a
      → ((q : ℕ) → is_base M m e k a q ≡ true → Std S q × (q / 256 ≡ s)) → get_or S.plan.condemned s false ≡ false → Inv S Todo t
      → Went S (λ q. Todo q × (is_base M m e k a q ≡ false)) t (scan_walk e k t a)
  scan_row_ok e s zero Todo sub a t r h c inv =
      record { grows = grows_refl S t; inv = inv_todo S Todo (λ q. Todo q × (false ≡ false)) t inv (λ x q g f d. inl (d, refl)) }
  scan_row_ok e s (suc k) Todo sub a t ends h c inv =
      let z = le-ltb e e (omega arith) in
      rw (cond-false (ltb e e) _ t z)
      (record { grows = grows_refl S t; inv = inv_todo S Todo (λ q. Todo q × (is_base M m e (suc k) e q ≡ false)) t inv (λ x q g f d. inl (d, ap (λ (b : Bool). b && (eqb e q || is_base M m e k (e + size0 S e) q)) z)) })
  scan_row_ok e s (suc k) Todo sub a t (piece b pc l r) h c inv =
      let some = (sorted M laws m a pc).some in
      let low : a < e = omega arith in
      let w = h a (base_first M m e k a low) in
      let o = scan_piece Todo sub t inv a w.0 (rw w.1 c) in
      let u = scanned M S.plan t a in
      let z : end_at M e t a ≡ a + size0 S a = end_is Todo t inv e a w.0 l in
      let i = scan_row_ok e s k (λ q. Todo q × (q ≢ a)) (λ q d. sub q d.0) (a + size0 S a) u r (λ q g. h q (base_later M m e k a low q g)) c o.inv in
      let v = scan_walk e k u (a + size0 S a) in
      let y : scan_walk e (suc k) t a ≡ v = cond-true (ltb a e) _ t (lt-ltb a e low) ∙ ap (scan_walk e k u) z in
      rw y
      (record {
        grows = grows_trans S t u v o.grows i.grows;
        inv = inv_todo S (λ q. (Todo q × (q ≢ a)) × (is_base M m e k (a + size0 S a) q ≡ false)) (λ q. Todo q × (is_base M m e (suc k) a q ≡ false)) v i.inv
            (λ x q g f d. inl (d.0.0, base_passed M m e k a low q d.0.1 d.1));
      })

  -- each owned segment is a row of the start's bases
  abbrev pub Rowed : Type 0
  Rowed = (s p : ℕ) → owner0 S s ≡ Some p → Row M m (s * 256 + 256) (s * 256)
      × ((q : ℕ) → is_base M m (s * 256 + 256) 256 (s * 256) q ≡ true → Std S q × (q / 256 ≡ s))

  abbrev pub to_scan : ℕ → Bool
  to_scan s = not (get_or S.plan.condemned s false) && refers S.plan.classes (owner0 S s)

  -- q is no base of the first k segments that are scanned
  abbrev pub Scanned : ℕ → ℕ → Type 0
  Scanned k q = (j : ℕ) → j < k → to_scan j ≡ true → is_base M m (j * 256 + 256) 256 (j * 256) q ≡ false

  to_scan_is : (c : Bool) (o : Owner) → (not c && refers S.plan.classes o) ≡ true → ((p : ℕ) × (o ≡ Some p)) × (c ≡ false)
  to_scan_is true o h = cc
  to_scan_is false None h = cc
  to_scan_is false (Some p) h = ((p, refl), refl)

  scan_segment_ok : Rowed → (Todo : ℕ → Type 0) → ((q : ℕ) → Todo q → Obj S q) → (s : ℕ) (t : Heap) → Inv S Todo t
      → Went S (λ q. Todo q × (to_scan s ≡ true → is_base M m (s * 256 + 256) 256 (s * 256) q ≡ false)) t (segment_scanned M S.plan S.space.segments t s)
  scan_segment_ok rows Todo sub s t inv = elim (cases_Bool (to_scan s)) [
    | inr e ↦ subst (Went S (λ q. Todo q × (to_scan s ≡ true → is_base M m (s * 256 + 256) 256 (s * 256) q ≡ false)) t) (sym (cond-false (to_scan s) _ t e))
        (record { grows = grows_refl S t; inv = inv_todo S Todo (λ q. Todo q × (to_scan s ≡ true → is_base M m (s * 256 + 256) 256 (s * 256) q ≡ false)) t inv (λ x q g f d. inl (d, λ z. cc)) })
    | inl e ↦ (let k = to_scan_is (get_or S.plan.condemned s false) (owner0 S s) e in
        let r = rows s k.0.0 k.0.1 in
        let w = scan_row_ok (s * 256 + 256) s 256 Todo sub (s * 256) t r.0 r.1 k.1 inv in
        let n : s * 256 + 256 - s * 256 ≡ 256 = omega arith in
        let y : segment_scanned M S.plan S.space.segments t s ≡ scan_walk (s * 256 + 256) 256 t (s * 256) = cond-true (to_scan s) _ t e ∙ ap (λ (x : ℕ). scan_walk (s * 256 + 256) x t (s * 256)) n in
        subst (Went S (λ q. Todo q × (to_scan s ≡ true → is_base M m (s * 256 + 256) 256 (s * 256) q ≡ false)) t) (sym y)
        (record {
          grows = w.grows;
          inv = inv_todo S (λ q. Todo q × (is_base M m (s * 256 + 256) 256 (s * 256) q ≡ false)) (λ q. Todo q × (to_scan s ≡ true → is_base M m (s * 256 + 256) 256 (s * 256) q ≡ false))
              (scan_walk (s * 256 + 256) 256 t (s * 256)) w.inv (λ x q g f d. inl (d.0, λ z. d.1));
        }))
  ]

  pub scan_segments_ok : Rowed → (Todo : ℕ → Type 0) → ((q : ℕ) → Todo q → Obj S q) → (t : Heap) → Inv S Todo t
      → (k : ℕ) → Went S (λ q. Todo q × Scanned k q) t (segments_scanned M S.plan S.space.segments t k)
  scan_segments_ok rows Todo sub t inv zero =
      record { grows = grows_refl S t; inv = inv_todo S Todo (λ q. Todo q × Scanned 0 q) t inv (λ x q g f d. inl (d, λ j l h. absurd (omega arith))) }
  scan_segments_ok rows Todo sub t inv (suc k) =
      let b = scan_segments_ok rows Todo sub t inv k in
      let u = segments_scanned M S.plan S.space.segments t k in
      let w = scan_segment_ok rows (λ q. Todo q × Scanned k q) (λ q d. sub q d.0) k u b.inv in
      let v = segment_scanned M S.plan S.space.segments u k in
      record {
        grows = grows_trans S t u v b.grows w.grows;
        inv = inv_todo S (λ q. (Todo q × Scanned k q) × (to_scan k ≡ true → is_base M m (k * 256 + 256) 256 (k * 256) q ≡ false)) (λ q. Todo q × Scanned (suc k) q) v w.inv
            (λ x q g f d. inl (
              d.0.0,
              λ j l h. elim (cases_eq j k) [
                | inl z ↦ subst (λ (y : ℕ). to_scan y ≡ true → is_base M m (y * 256 + 256) 256 (y * 256) q ≡ false) (sym z) d.1 h
                | inr n ↦ d.0.1 j (omega arith) h
              ],
            ));
      }

  -- ---- nailing

  -- nailing writes no word, and takes no segment
  pub record Nails (Todo : ℕ → Type 0) (t u : Heap) : Type 0 where
    pub inv : Inv S Todo u
    pub grows : Grows S t u
    pub words : u.words ≡ t.words

  nails_none : (Todo : ℕ → Type 0) (t : Heap) → Inv S Todo t → Nails Todo t t
  nails_none Todo t inv = record { inv = inv; grows = grows_refl S t; words = refl }

  abbrev head_of : List ℕ → ℕ → ℕ → Head
  head_of ws e a = seen M (part a (e - a) ws)

  nail_here : (Todo : ℕ → Type 0) (t : Heap) → Inv S Todo t → (e a : ℕ) → Std S a → a + size0 S a ≤ e → Nails Todo t (nailed_at t (base_of (head_of t.words e a) a))
  nail_here Todo t inv e a s l = go (inv.held a s)
    where
      go : Held S t.words a → Nails Todo t (nailed_at t (base_of (head_of t.words e a) a))
      go (here b) =
          let z = body_size S ok t.words a (rd S t.words a) b in
          let w = nail_ok S ok laws Todo t inv a (s, b.was) b in
          rw (seen_object M laws t.words a (layout0 S a) (slots_of (rd S t.words a)) b.shape e (omega arith)) (record { inv = w.inv; grows = w.grows; words = refl })
      go (away d g h) = rw (seen_forwarded M laws t.words a e (size0 S a) l d g) (nails_none Todo t inv)
      go (still w f) = rw (seen_padding M laws t.words a e (size0 S a) l f) (nails_none Todo t inv)

  abbrev point : Heap → ℕ → ℕ → ℕ → ℕ → Option ℕ
  point t e w k a = pointed M t.words t.marks e w k a

  point_step : (Todo : ℕ → Type 0) (t : Heap) → Inv S Todo t → (e w k a : ℕ) → a < e → Std S a → a + size0 S a ≤ e
      → point t e w (suc k) a ≡ cond (ltb w (a + size0 S a)) (base_of (head_of t.words e a) a) (point t e w k (a + size0 S a))
  point_step Todo t inv e w k a low s l = rw (lt-ltb a e low, end_is Todo t inv e a s l) refl

  nail_row_ok : (e w k : ℕ) (Todo : ℕ → Type 0) (t : Heap) (a : ℕ) → Row M m e a → ((q : ℕ) → is_base M m e k a q ≡ true → Std S q) → Inv S Todo t → Nails Todo t (nailed_at t (point t e w k a))
  nail_row_ok e w zero Todo t a r h inv = nails_none Todo t inv
  nail_row_ok e w (suc k) Todo t a ends h inv = subst (λ (o : Option ℕ). Nails Todo t (nailed_at t o)) (sym (cond-false (ltb e e) _ None (le-ltb e e (omega arith)))) (nails_none Todo t inv)
  nail_row_ok e w (suc k) Todo t a (piece b pc l r) h inv =
      let some = (sorted M laws m a pc).some in
      let low : a < e = omega arith in
      let s = h a (base_first M m e k a low) in
      let i = nail_row_ok e w k Todo t (a + size0 S a) r (λ q g. h q (base_later M m e k a low q g)) inv in
      rw (point_step Todo t inv e w k a low s l)
      (cond_both (ltb w (a + size0 S a)) (base_of (head_of t.words e a) a) (point t e w k (a + size0 S a)) (λ o. Nails Todo t (nailed_at t o))
      (λ _. nail_here Todo t inv e a s l) (λ _. i))

  -- the object into which w points is found
  nail_row_finds : (e w k : ℕ) (Todo : ℕ → Type 0) (t : Heap) (a q : ℕ) → t.words ≡ m → Row M m e a → ((q : ℕ) → is_base M m e k a q ≡ true → Std S q) → Inv S Todo t
      → is_base M m e k a q ≡ true → Obj S q → q ≤ w → w < q + size0 S q → point t e w k a ≡ Some q
  nail_row_finds e w zero Todo t a q f r h inv b o bot hi = cc
  nail_row_finds e w (suc k) Todo t a q f ends h inv b o bot hi =
      let c = base_cases (ltb e e) (eqb e q) (is_base M m e k (e + size0 S e) q) b in
      absurd (omega (arith, ltb-true e e c.0))
  nail_row_finds e w (suc k) Todo t a q f (piece x pc l r) h inv b o bot hi =
      let some = (sorted M laws m a pc).some in
      let low : a < e = omega arith in
      let s = h a (base_first M m e k a low) in
      let c = base_cases (ltb a e) (eqb a q) (is_base M m e k (a + size0 S a) q) b in
      point_step Todo t inv e w k a low s l ∙ elim c.1 [
        | inl y ↦ (let z : a ≡ q = eqb-true a q y in found z)
        | inr y ↦ (let i = in_row M laws m e k (a + size0 S a) q r y in
            cond-false (ltb w (a + size0 S a)) _ _ (le-ltb w (a + size0 S a) (omega (arith, i.low)))
            ∙ nail_row_finds e w k Todo t (a + size0 S a) q f r (λ v g. h v (base_later M m e k a low v g)) inv y o bot hi)
      ]
    where
      found : a ≡ q → cond (ltb w (a + size0 S a)) (base_of (head_of t.words e a) a) (point t e w k (a + size0 S a)) ≡ Some q
      found z =
          let hi' : w < a + size0 S a = rw z hi in
          let w' : rd S t.words a ≡ object (layout0 S q) (slots0 S q) = rw f (rw z o.1) in
          let n : M.size (shape (layout0 S q) (length (slots0 S q))) ≡ size0 S a = sym (ap (span M) o.1) ∙ ap (size0 S) (sym z) in
          rw (lt-ltb w (a + size0 S a) hi', seen_object M laws t.words a (layout0 S q) (slots0 S q) w' e (omega arith), z) refl

  -- ---- all ambiguous words

  module _ (rows : Rowed) (used : (s : ℕ) → get_or S.plan.condemned s false ≡ true → (p : ℕ) × (owner0 S s ≡ Some p)) (Todo : ℕ → Type 0) where
    abbrev nail : Heap → ℕ → Heap
    nail t w = nailed M S.plan t w

    fuel : (s : ℕ) → s * 256 + 256 - s * 256 ≡ 256
    fuel s = omega arith

    nail_is : (t : Heap) (w : ℕ) → pointed_in M t.words t.marks (w / 256 * 256) (w / 256 * 256 + 256) w ≡ point t (w / 256 * 256 + 256) w 256 (w / 256 * 256)
    nail_is t w = ap (λ (k : ℕ). point t (w / 256 * 256 + 256) w k (w / 256 * 256)) (fuel (w / 256))

    nails_condemned : (len w : ℕ) → nails S.plan len w ≡ true → condemns S.plan w ≡ true
    nails_condemned len w h = (and_parts (leb (limit_of w) len) _ (and_parts (not (ltb w 256 || ltb 65535 w)) _ h).1).1

    nail_one_ok : (t : Heap) → Inv S Todo t → (w : ℕ) → Nails Todo t (nail t w)
    nail_one_ok t inv w = elim (cases_Bool (nails S.plan (length t.words) w)) [
      | inr e ↦ rw e (nails_none Todo t inv)
      | inl e ↦ (let u = used (w / 256) (nails_condemned (length t.words) w e) in
          let r = rows (w / 256) u.0 u.1 in
          rw (e, nail_is t w)
          (nail_row_ok (w / 256 * 256 + 256) w 256 Todo t (w / 256 * 256) r.0 (λ q h. (r.1 q h).0) inv))
    ]

    pub nail_all_ok : (ws : List ℕ) (t : Heap) → Inv S Todo t → (k : ℕ) → Nails Todo t (all_nailed M S.plan ws t k)
    nail_all_ok ws t inv zero = nails_none Todo t inv
    nail_all_ok ws t inv (suc k) =
        let b = nail_all_ok ws t inv k in
        let v = all_nailed M S.plan ws t k in
        let n = nail_one_ok v b.inv (get_or ws k 0) in
        record { inv = n.inv; grows = grows_trans S t v (nail v (get_or ws k 0)) b.grows n.grows; words = n.words ∙ b.words }

    -- an object into which a word points is marked, if it is condemned
    nail_marks_one : (t : Heap) → Inv S Todo t → t.words ≡ m → (w q : ℕ) → Obj S q → is_base M m (q / 256 * 256 + 256) 256 (q / 256 * 256) q ≡ true → condemns S.plan q ≡ true
        → q ≤ w → w < q + size0 S q → marked (nail t w) q ≡ true
    nail_marks_one t inv f w q o b c bot hi =
        let g = ok.seg q o.0 in
        let i = ok.inside q o.0 in
        let lo = ok.low q o.0 in
        let z : w / 256 ≡ q / 256 = omega arith in
        let cw : condemns S.plan w ≡ true = rw z c in
        let e : nails S.plan (length t.words) w ≡ true =
        rw (le-ltb w 256 (omega arith), le-ltb 65535 w (omega (arith, inv.ready.few, inv.long)), le-leb (limit_of w) (length t.words) (omega (arith, inv.long)), cw) refl in
        let u = used (q / 256) c in
        let r = rows (q / 256) u.0 u.1 in
        let p : point t (w / 256 * 256 + 256) w 256 (w / 256 * 256) ≡ Some q =
        rw z (nail_row_finds (q / 256 * 256 + 256) w 256 Todo t (q / 256 * 256) q f r.0 (λ v h. (r.1 v h).0) inv b o bot hi) in
        rw (e, nail_is t w ∙ p) ((laws_of t.marks).set_same q (omega (arith, i, inv.ready.marks, inv.ready.few, inv.long, ok.some q o.0)))

    pub nail_marks : (ws : List ℕ) (t : Heap) → Inv S Todo t → t.words ≡ m → (k i q : ℕ) → i < k → Obj S q → is_base M m (q / 256 * 256 + 256) 256 (q / 256 * 256) q ≡ true → condemns S.plan q ≡ true
        → q ≤ get_or ws i 0 → get_or ws i 0 < q + size0 S q → marked (all_nailed M S.plan ws t k) q ≡ true
    nail_marks ws t inv f zero i q l o b c bot hi = absurd (omega arith)
    nail_marks ws t inv f (suc k) i q l o b c bot hi =
        let v = all_nailed M S.plan ws t k in
        let n = nail_all_ok ws t inv k in
        let u = nail_one_ok v n.inv (get_or ws k 0) in
        elim (cases_eq i k) [
          | inl z ↦ nail_marks_one v n.inv (n.words ∙ f) (get_or ws k 0) q o b c (rw (← z) bot) (rw (← z) hi)
          | inr ne ↦ u.grows.marks q (nail_marks ws t inv f k i q (omega arith) o b c bot hi)
        ]
