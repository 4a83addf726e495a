-- Fix keeps the invariant, and settles what it is given.
use Rattle.std.proofs.Common.{◌≡◌, ℕ, ◌+◌, ◌-◌, ◌*◌, ◌/◌, ◌%◌, ◌<◌, ◌≤◌, min, true, false, ltb, leb, ◌≢◌, List, length, get_or, set, Some, None, Option, sym, refl, ap, ◌∙◌, inl, inr, le_trans, arith, length-set}
use Rattle.std.proofs.lemmas.Bool.{cases_Bool, lt-ltb, le-ltb, le-leb, leb-true, and_from}
use Rattle.std.proofs.lemmas.Bool.Decides.{nat_tests}
use Rattle.std.proofs.lemmas.List.{get_or-set_same, get_or-set_other}
use Rattle.format.specs.declared.things.Head.{Head}
use Rattle.format.specs.declared.things.Head.TheVariants.{Object}
use Rattle.format.specs.declared.things.Slot.{Slot}
use Rattle.format.specs.declared.things.Slot.TheVariants.{Reference, Number}
use Rattle.format.specs.Meaning.{shape, padding}
use Rattle.format.specs.Laws.{Lawful}
use Rattle.format.proofs.Memory.{readings}
use Rattle.arena.specs.Boards.{bit, with_bit, reach}
use Rattle.arena.specs.Segments.{lowest_free}
use Rattle.arena.proofs.BoardLaws.{laws_of}
use Rattle.trace.specs.declared.state.Class.{Class}
use Rattle.trace.specs.declared.state.Class.TheVariants.{Amc, Ams, Lo}
use Rattle.trace.specs.declared.state.Trace.{Trace}
use Rattle.trace.specs.declared.deciding.Fate.{Fate}
use Rattle.trace.specs.declared.deciding.Fate.TheVariants.{Copy, Fresh}
use Rattle.trace.specs.Traces.{limit_of, head_at, class_of, rest, by_free, by_room, by_class, by_owner, sought, taken_words, copied_words, copied_state, taken_state, Heap, heap, acted, answered, fate_of, fixed, fix_answer}
use Rattle.trace.specs.Collections.{is_amc, is_lo, moves}
use Rattle.trace.proofs.Cells.{Apart, slots_of, owner, target, stays, rd, owner0, leafy, Start, Std, size0, layout0, slots0, Obj, Fits, AllFit, Moved, Cell, same, copy, Names, null, names, stay, move, Settled, empty, settled, Body, Held, here, away, still, Null, Room, ahead, Owned, Inv, Grows, Keeps, Sound}
use Rattle.trace.proofs.Facts.{real_padding, stays_by_zone, stays_by_mark, leaves, stays_zero, board_keeps, board_set, body_map, grows_refl, grows_trans, final_grows, final_cell, cell_real, body_size, owned_on}
use Rattle.trace.proofs.Marking.{rebound, mark_ok, mark_grows}
use Rattle.trace.proofs.Copying.{Copying, apart_all, copy_ok, copy_grows, copy_keeps}
use Rattle.trace.proofs.Putting.{put_words, Pads, seg_apart, word_apart, cell_used, reframe, reframe_grows}
use Rattle.trace.proofs.Effects.{Padded, pad_effect, copying}
use Rattle.trace.proofs.Spots.{pool_not_free, lowest_is_free, Spot, onward, opening, Onto, Placed, placed, owner_onto, ready_onto, room_onto}
use Rattle.trace.proofs.Filling.{fresh, filled}
use Rattle.trace.proofs.Busy.{pot, mark_falls, copy_falls, reframe_falls}
use Rattle.trace.proofs.Looking.{seen_forwarded, seen_object}

pub record Fixed (S : Start) (Todo : ℕ → Type 0) (t : Heap) (r q : ℕ) (u : Heap) : Type 0 where
  pub inv : Inv S Todo u
  pub settled : Settled S u r q
  pub grows : Grows S t u
  pub keeps : Keeps S t u
  pub falls : pot S u ≤ pot S t

-- ---- what is sought

-- what stays is not sought
sought_no : (S : Start) (t : Heap) (a : ℕ) → stays S t a ≡ true → sought S.plan (length t.words) t.marks a ≡ false
sought_no S t a h = grind (arith, nat_tests)

module _ (S : Start) (ok : Sound S) (t : Heap) (long : length t.words ≡ length S.space.words) (few : length t.words ≤ 65536) where
  -- an object that does not stay is sought
  sought_yes : (a : ℕ) → Std S a → stays S t a ≡ false → sought S.plan (length t.words) t.marks a ≡ true
  sought_yes a s h =
      let l = leaves S t a h in
      let i = ok.inside a s in
      rw (le-ltb a 256 (ok.low a s), le-ltb 65535 a (omega arith), le-ltb (length t.words) (limit_of a) (omega (arith, long)), l.set, l.unmarked) refl

-- ---- the cases of a fix

module _ (S : Start) (ok : Sound S) (laws : Lawful S.meaning) (Todo : ℕ → Type 0) where
  kept_settled : (t : Heap) (a : ℕ) → Obj S a → stays S t a ≡ true → Settled S t a a
  kept_settled t a s h = settled s (stay refl h)

  unchanged : (t : Heap) → Inv S Todo t → (r q : ℕ) → Settled S t r q → Fixed S Todo t r q t
  unchanged t inv r q h = record { inv = inv; settled = h; grows = grows_refl S t; keeps = λ a p s f. refl; falls = omega arith }

  -- an object in place that must go or be marked
  module _ (t : Heap) (inv : Inv S Todo t) (a : ℕ) (oa : Obj S a) (gone : stays S t a ≡ false) (body : Body S t.words a (rd S t.words a)) where
    sa : Std S a
    sa = oa.0

    pub below_marks : a < reach t.marks
    below_marks = omega (arith, ok.inside a sa, ok.some a sa, ok.seg a sa, inv.ready.marks, inv.ready.few, inv.long)

    pub below_greys : a < reach t.greys
    below_greys = omega (arith, ok.inside a sa, ok.some a sa, ok.seg a sa, inv.ready.greys, inv.ready.few, inv.long)

    under : (c : ℕ) → bit (with_bit t.greys a) c ≡ true → min t.state.low a ≤ c
    under c h = elim (board_set t.greys a c h) [ inl g ↦ omega (arith, inv.bound c g) | inr e ↦ omega arith ]

    abbrev greyed : Heap
    greyed = rebound S t (min t.state.low a) (with_bit t.marks a) (with_bit t.greys a)

    fix_grey : Fixed S Todo t a a greyed
    fix_grey = record {
      inv = mark_ok S Todo t inv a oa body (min t.state.low a) (with_bit t.greys a) (length-set t.greys _ _) (board_keeps t.greys a) (board_set t.greys a) under below_marks
          (inl (inl ((laws_of t.greys).set_same a below_greys)));
      settled = kept_settled greyed a oa (stays_by_mark S greyed a ((laws_of t.marks).set_same a below_marks));
      grows = mark_grows S Todo t inv a oa body (min t.state.low a) (with_bit t.greys a) (length-set t.greys _ _) (board_keeps t.greys a) (board_set t.greys a) under below_marks;
      keeps = λ c p s f. refl;
      falls = mark_falls S t a sa gone body greyed refl (λ c h. board_keeps t.marks a c h) (board_set t.greys a);
    }

    abbrev only_marked : Heap
    only_marked = rebound S t t.state.low (with_bit t.marks a) t.greys

    leaf_fit : (x z : Slot) → Fits Null x x → Fits (Names S t.words) x z → Fits (Settled S only_marked) x z
    leaf_fit (Number v) (Number w) h k = k
    leaf_fit (Number v) (Reference w) h k = k
    leaf_fit (Reference r) (Number w) h k = k
    leaf_fit (Reference r) (Reference v) h (null e f) = empty e f
    leaf_fit (Reference r) (Reference v) h (names s c) = absurd (omega (arith, ok.low r s.0, h.0))

    fix_leaf : AllFit Null (slots0 S a) (slots0 S a) → Fixed S Todo t a a only_marked
    fix_leaf leaf = record {
      inv = mark_ok S Todo t inv a oa body t.state.low t.greys refl (λ c h. h) (λ c h. inl h) inv.bound below_marks
          (inr (λ i. leaf_fit (get_or (slots0 S a) i (Number 0)) (get_or (slots_of (rd S t.words a)) i (Number 0)) (leaf i) (body.names i)));
      settled = kept_settled only_marked a oa (stays_by_mark S only_marked a ((laws_of t.marks).set_same a below_marks));
      grows = mark_grows S Todo t inv a oa body t.state.low t.greys refl (λ c h. h) (λ c h. inl h) inv.bound below_marks;
      keeps = λ c p s f. refl;
      falls = mark_falls S t a sa gone body only_marked refl (λ c h. board_keeps t.marks a c h) (λ c h. inl h);
    }

    pub size_now : S.meaning.size (shape (layout0 S a) (length (slots_of (rd S t.words a)))) ≡ size0 S a
    size_now = body_size S ok t.words a (rd S t.words a) body

    abbrev copy_words_to : ℕ → List ℕ
    copy_words_to b = copied_words S.meaning t.words a (size0 S a) b

    -- pool p is a's own, and its objects move
    abbrev Home : ℕ → Type 0
    Home p = (owner0 S (a / 256) ≡ Some p) × (moves S.plan.classes (Some p) ≡ true)

    module _ (p b : ℕ) (class : leafy S p ≡ false) (home : Home p) (spot : Spot t p b) (fit : b % 256 + size0 S a ≤ 256) (pin : p < 8)
        (closing : 1 ≤ target t p % 256 → target t p / 256 ≢ b / 256
        → rd S t.words (target t p) ≡ padding (target t p / 256 * 256 + 256 - target t p))
        (st : Trace) (onto : Onto t (heap st (copy_words_to b) t.marks (with_bit t.greys b)) p b (size0 S a))
        (owners : length st.segments.owners ≡ 256) (targets : length st.targets ≡ 8)
        (bound : (c : ℕ) → bit (with_bit t.greys b) c ≡ true → st.low ≤ c) where
      abbrev u : Heap
      u = heap st (copy_words_to b) t.marks (with_bit t.greys b)

      pl : Placed S t inv.ready p b spot (size0 S a) (ok.some a sa) fit
      pl = placed S t inv.ready p b spot (size0 S a) (ok.some a sa) fit

      in_free : (w : ℕ) → b ≤ w → w < b + size0 S a → Room t w
      in_free w x z = pl.free w x (omega arith)

      high : b + size0 S a ≤ length t.words
      high = omega (arith, pl.inside)

      apart_new : Apart a (size0 S a) b (size0 S a)
      apart_new = apart_all a (size0 S a) b (size0 S a) (ok.some a sa) (ok.some a sa) (λ w x z. inv.room w a a (in_free w x z) sa (same refl))

      cp : Copying S t.words (copy_words_to b) a b (size0 S a)
      cp =
          let top : b ≤ S.meaning.greatest_address = omega (arith, high, ok.some a sa, inv.long, ok.top) in
          let f = rw size_now at (copying S laws t.words a (layout0 S a) (slots_of (rd S t.words a)) body.shape b pl.low top) in
          f high apart_new

      keep : (s : ℕ) → owner t s ≢ None → owner u s ≡ owner t s
      keep = owner_onto S t inv.ready p b spot (size0 S a) (ok.some a sa) fit u cp.long onto

      owned' : (c : ℕ) → Std S c → Owned S u c
      owned' c s = let o = inv.owned c s in owned_on S t u c (keep (c / 256) (pool_not_free o.pool (owner t (c / 256)) o.is)) o

      blank' : (w : ℕ) → owner u (w / 256) ≡ None → get_or (copy_words_to b) w 0 ≡ 0
      blank' w e =
          let n : w / 256 ≢ b / 256 = λ z. (cc) in
          let f : owner t (w / 256) ≡ None = sym (onto.own_other (w / 256) n) ∙ e in
          cp.words w (word_apart w a (size0 S a) (λ z. cell_used S ok Todo t inv a a sa (same refl) (rw (← z) f)) (ok.seg a sa))
          (word_apart w b (size0 S a) n fit) ∙ inv.blank w f

      fix_copy : Fixed S Todo t a b u
      fix_copy = record {
        inv = copy_ok S ok Todo t inv a oa gone body b (copy_words_to b) st cp in_free
            (ready_onto S t inv.ready p b spot (size0 S a) (ok.some a sa) fit u cp.long onto refl (length-set t.greys _ _) owners targets)
            owned'
            (room_onto S t inv.ready p b spot (size0 S a) (ok.some a sa) fit u cp.long onto)
            pl.low high pl.safe fit (fresh S ok Todo t inv a oa gone body b (copy_words_to b) st p cp in_free spot fit pin class onto closing)
            (onto.own_same ∙ sym home.0) (ap (moves S.plan.classes) home.0 ∙ home.1) keep
            bound
            (filled S ok Todo t inv a oa gone body b (copy_words_to b) st p cp in_free spot fit pin class onto closing)
            blank';
        settled = settled oa (move cp.left);
        grows = copy_grows S ok Todo t inv a oa gone body b (copy_words_to b) st cp in_free;
        keeps = copy_keeps S ok Todo t inv a oa gone body b (copy_words_to b) st cp in_free;
        falls = copy_falls S ok Todo t inv a oa gone body b (copy_words_to b) st cp in_free;
      }

  -- the rest of a target is padded
  module _ (t : Heap) (inv : Inv S Todo t) (p : ℕ) where
    abbrev at : ℕ
    at = target t p

    abbrev pub rest_padded : Heap
    rest_padded = put_words t (taken_words S.meaning t.state t.words p)

    effect : Padded S laws t.words rest_padded.words at (rest at)
    effect = pad_effect S laws t.words at (rest at) (omega arith) (λ h. (let o = inv.ready.owned p (omega arith) in omega (arith, o.1)))

    pub pad_frame : (c q : ℕ) → Std S c → Cell S t.words c q → rd S rest_padded.words q ≡ rd S t.words q
    pad_frame c q s e =
        effect.others q (size0 S c) (cell_real S ok t.words inv.held c q s e)
        (λ h. apart_all q (size0 S c) at (rest at) (ok.some c s) h (λ w x z. inv.room w c q (ahead p x (omega arith) (omega arith)) s e))

    pad_pads : Pads S t rest_padded.words
    pad_pads s q f e ow shut below bot top pd =
        effect.others f (s * 256 + 256 - f) (real_padding S.meaning (rd S t.words f) (s * 256 + 256 - f) pd)
        (λ k. (let h : 1 ≤ at % 256 = omega arith in
        let o = (inv.ready.owned p h).0 in
        seg_apart f (s * 256 + 256 - f) at (rest at)
        (λ z. (let x : at / 256 ≡ s = omega arith in
        let pq : p ≡ q = (cc) in
        shut (rw (← pq) h) (rw (← pq) x)))
        (omega arith) (omega arith)))

    pad_blank : (w : ℕ) → owner t (w / 256) ≡ None → get_or rest_padded.words w 0 ≡ 0
    pad_blank w e =
        effect.words w (λ k. (let h : 1 ≤ at % 256 = omega arith in
        let o = (inv.ready.owned p h).0 in
        word_apart w at (rest at) (λ z. cc) (omega arith)))
        ∙ inv.blank w e

    pub pad_inv : Inv S Todo rest_padded
    pad_inv = reframe S Todo t inv rest_padded.words effect.long pad_frame pad_pads pad_blank

    pub pad_grows : Grows S t rest_padded
    pad_grows = reframe_grows S Todo t inv rest_padded.words effect.long pad_frame pad_pads pad_blank

    pub pad_keeps : Keeps S t rest_padded
    pad_keeps c q s f = pad_frame c q s (final_cell S t c q f)

    pub pad_falls : pot S rest_padded ≤ pot S t
    pad_falls = reframe_falls S t rest_padded.words (λ c s. pad_frame c c s (same refl))

    pub pad_closes : 1 ≤ at % 256 → rd S rest_padded.words at ≡ padding (at / 256 * 256 + 256 - at)
    pad_closes h = let r : rest at ≡ at / 256 * 256 + 256 - at = omega arith in effect.reads (omega arith) ∙ ap padding r

  fixed_after : (t u : Heap) (r q : ℕ) (x : Heap) → Grows S t u → Keeps S t u → pot S u ≤ pot S t → Fixed S Todo u r q x → Fixed S Todo t r q x
  fixed_after t u r q x g k l f = record {
    inv = f.inv;
    falls = le_trans f.falls l;
    settled = f.settled;
    grows = grows_trans S t u x g f.grows;
    keeps = λ a p s h. f.keeps a p s (final_grows S t u g a p s h) ∙ k a p s h;
  }

  module _ (t : Heap) (inv : Inv S Todo t) (a : ℕ) (oa : Obj S a) (gone : stays S t a ≡ false) (body : Body S t.words a (rd S t.words a)) where
    sb : Std S a
    sb = oa.0

    abbrev Own : ℕ → Type 0
    Own = Home t inv a oa gone body

    abbrev FixedBy : Fate → Type 0
    FixedBy f = Fixed S Todo t a (answered a f) (acted S.meaning t a f)

    small : size0 S a ≤ 128
    small =
        let e = body.shape in
        let r = readings S.meaning laws in
        rw (← size_now t inv a oa gone body) (r.sizes (shape (layout0 S a) (length (slots_of (rd S t.words a)))) (r.admits t.words a (layout0 S a) (slots_of (rd S t.words a)) e).0).3

    -- a copy at the target
    fix_onward : (p : ℕ) → p < 8 → leafy S p ≡ false → Own p → size0 S a ≤ rest (target t p) → FixedBy (Copy p (size0 S a) (target t p))
    fix_onward p pin c own l =
        let o = ok.some a sb in
        let k = inv.ready.owned p (omega arith) in
        fix_copy t inv a oa gone body p (target t p) c own (onward refl (omega arith)) (omega arith) pin (λ z n. absurd (n refl))
        (copied_state t.state p (size0 S a) (target t p))
        (record {
          own_same = k.0;
          own_other = λ s ne. refl;
          aim = get_or-set_same t.state.targets p (target t p + size0 S a) 0 (omega (arith, inv.ready.targets));
          aims = λ q ne. get_or-set_other t.state.targets p q (target t p + size0 S a) 0 ne;
        })
        inv.ready.owners (length-set t.state.targets p (target t p + size0 S a) ∙ inv.ready.targets)
        (λ x h. elim (board_set t.greys (target t p) x h) [ inl g ↦ omega (arith, inv.bound x g) | inr e ↦ omega arith ])

    -- a copy in a free segment
    fix_opening : (p s : ℕ) → p < 8 → leafy S p ≡ false → Own p → lowest_free t.state.segments (length t.words) ≡ Some s → FixedBy (Fresh p (size0 S a) s)
    fix_opening p s pin c own e =
        let f = lowest_is_free t.state.segments (length t.words) s e in
        let k : (s * 256) / 256 ≡ s = omega arith in
        let v = rest_padded t inv p in
        let i = pad_inv t inv p in
        let st = copied_state (taken_state t.state p s) p (size0 S a) (s * 256) in
        fixed_after t v a (s * 256) (acted S.meaning t a (Fresh p (size0 S a) s)) (pad_grows t inv p) (pad_keeps t inv p) (pad_falls t inv p)
        (fix_copy v i a oa gone
        (body_map S t.words v.words (pad_grows t inv p).moves a (rd S t.words a) (rd S v.words a) (pad_frame t inv p a a sb (same refl)) body)
        p (s * 256) c own (opening (omega arith) (omega (arith, f.0)) (omega (arith, f.2, (effect t inv p).long)) (rw k f.3)) (omega (arith, small)) pin
        (λ h n. pad_closes t inv p h)
        st
        (record {
          own_same = rw k (get_or-set_same t.state.segments.owners s (Some p) None (omega (arith, inv.ready.owners, f.1)));
          own_other = λ q ne. get_or-set_other t.state.segments.owners s q (Some p) None (λ z. ne (z ∙ sym k));
          aim = get_or-set_same (set t.state.targets p (s * 256)) p (s * 256 + size0 S a) 0 (omega (arith, inv.ready.targets, length-set t.state.targets p (s * 256)));
          aims = λ q ne. get_or-set_other (set t.state.targets p (s * 256)) p q (s * 256 + size0 S a) 0 ne ∙ get_or-set_other t.state.targets p q (s * 256) 0 ne;
        })
        (length-set t.state.segments.owners s (Some p) ∙ inv.ready.owners)
        (length-set (set t.state.targets p (s * 256)) p (s * 256 + size0 S a) ∙ length-set t.state.targets p (s * 256) ∙ inv.ready.targets)
        (λ x h. elim (board_set t.greys (s * 256) x h) [ inl g ↦ omega (arith, inv.bound x g) | inr e ↦ omega arith ]))

    fix_free : (p : ℕ) → p < 8 → leafy S p ≡ false → Own p → (o : Option ℕ) → lowest_free t.state.segments (length t.words) ≡ o → FixedBy (by_free p (size0 S a) o)
    fix_free p pin c own None e = fix_grey t inv a oa gone body
    fix_free p pin c own (Some s) e = fix_opening p s pin c own e

    fix_room : (p : ℕ) → p < 8 → leafy S p ≡ false → Own p → FixedBy (by_room t.state (length t.words) p (size0 S a))
    fix_room p pin c own = elim (cases_Bool (leb (size0 S a) (rest (target t p)))) [
      | inl e ↦ (let l = leb-true (size0 S a) (rest (target t p)) e in
          let o = ok.some a sb in
          let k = inv.ready.owned p (omega arith) in
          rw (e, le-leb (target t p + size0 S a) (min (length t.words) 65536) (omega (arith, k.1, inv.ready.few))) (fix_onward p pin c own l))
      | inr e ↦ rw e (fix_free p pin c own (lowest_free t.state.segments (length t.words)) refl)
    ]

    fix_class : (p : ℕ) → p < 8 → owner0 S (a / 256) ≡ Some p → (leafy S p ≡ true → AllFit Null (slots0 S a) (slots0 S a)) → (x : Class) → class_of S.plan p ≡ x → FixedBy (by_class t.state (length t.words) p (size0 S a) x)
    fix_class p pin own leaf Amc e = fix_room p pin (ap is_lo e) (own, and_from (ltb p 8) (is_amc (class_of S.plan p)) (lt-ltb p 8 pin) (ap is_amc e))
    fix_class p pin own leaf Ams e = fix_grey t inv a oa gone body
    fix_class p pin own leaf Lo e = fix_leaf t inv a oa gone body (leaf (ap is_lo e))

    fix_owner : FixedBy (by_owner S.plan t.state (length t.words) (size0 S a) (owner t (a / 256)))
    fix_owner =
        let o = inv.owned a sb in
        let pin = (inv.fill.pools (a / 256) o.pool o.is).0 in
        rw (o.is, lt-ltb o.pool 8 pin) (fix_class o.pool pin o.was o.leaf (class_of S.plan o.pool) refl)

    abbrev found : Head
    found = Object (shape (layout0 S a) (length (slots_of (rd S t.words a))))

    head_now : head_at S.meaning t.words a ≡ found
    head_now = seen_object S.meaning laws t.words a (layout0 S a) (slots_of (rd S t.words a)) body.shape (limit_of a) (omega (arith, size_now t inv a oa gone body, ok.seg a sb))

    pub fix_unmoved : FixedBy (fate_of S.meaning S.plan t a)
    fix_unmoved = rw (sought_yes S ok t inv.long inv.ready.few a sb gone, head_now, size_now t inv a oa gone body) fix_owner

  -- what stays
  fix_stays : (t : Heap) → Inv S Todo t → (r v : ℕ) → stays S t v ≡ true → Settled S t r v → Fixed S Todo t r (fix_answer S.meaning S.plan t v) (fixed S.meaning S.plan t v)
  fix_stays t inv r v h s =
      rw (sought_no S t v h) (unchanged t inv r v s)

  -- what has gone
  fix_gone : (t : Heap) → Inv S Todo t → (r b : ℕ) → Obj S r → stays S t r ≡ false → Moved S t.words r b → Fixed S Todo t r (fix_answer S.meaning S.plan t r) (fixed S.meaning S.plan t r)
  fix_gone t inv r b s h g =
      rw (sought_yes S ok t inv.long inv.ready.few r s.0 h, seen_forwarded S.meaning laws t.words r (limit_of r) (size0 S r) (omega (arith, ok.seg r s.0)) b g)
      (unchanged t inv r b (settled s (move g)))

  fix_same : (t : Heap) → Inv S Todo t → (r : ℕ) → Obj S r → Fixed S Todo t r (fix_answer S.meaning S.plan t r) (fixed S.meaning S.plan t r)
  fix_same t inv r s = elim (cases_Bool (stays S t r)) [
    | inl h ↦ fix_stays t inv r r h (kept_settled t r s h)
    | inr h ↦ go h (inv.held r s.0)
  ]
    where
      go : stays S t r ≡ false → Held S t.words r → Fixed S Todo t r (fix_answer S.meaning S.plan t r) (fixed S.meaning S.plan t r)
      go h (here b) = fix_unmoved t inv r s h b
      go h (still w f) = cc
      go h (away b g k) = fix_gone t inv r b s h g

  pub fix_ok : (t : Heap) → Inv S Todo t → (r v : ℕ) → Names S t.words r v → Fixed S Todo t r (fix_answer S.meaning S.plan t v) (fixed S.meaning S.plan t v)
  fix_ok t inv r v (null e f) = fix_stays t inv r v (stays_zero S t v f) (empty e f)
  fix_ok t inv r v (names s (same e)) =
      rw e (fix_same t inv r s)
  fix_ok t inv r v (names s (copy g)) = fix_stays t inv r v (stays_by_zone S t v (inv.copied r v s.0 g).safe) (settled s (move g))
