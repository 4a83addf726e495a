-- After the sweep the arena is sound again, and its objects are those that were kept.
use Rattle.std.proofs.Common.{◌≡◌, ℕ, ◌+◌, ◌-◌, ◌*◌, ◌/◌, ◌%◌, ◌<◌, true, false, ◌⊎◌, List, length, get_or, sym, refl, ap, ◌∙◌, subst, inl, inr, arith, Some, None}
use borrow.Author.Tests.{both_ways}
use Rattle.std.proofs.lemmas.Bool.{and_parts, and_from, true_from_ne_false}
use Rattle.format.specs.declared.things.Slot.{Slot}
use Rattle.format.specs.declared.things.Slot.TheVariants.{Reference, Number}
use Rattle.format.specs.Meaning.{Meaning, Thing, nothing, object, forwarded, padding}
use Rattle.format.specs.Laws.{Lawful}
use Rattle.arena.specs.declared.segments.Segments.{Segments}
use Rattle.arena.specs.Segments.{owner_of}
use Rattle.trace.specs.Traces.{condemns, Heap}
use Rattle.trace.specs.Keeping.{space, Piece, Row, ends, piece, is_base, is_owned, SlotLeads, SlotLeaf}
use Rattle.trace.specs.Keeping.{Sound as SoundSpace}
use Rattle.trace.proofs.Cells.{slots_of, layout_of, owner, target, marked, grey, stays, rd, owner0, leafy, Start, Std, thing0, size0, layout0, slots0, Obj, Fits, AllFit, Moved, same, copy, Names, null, names, Final, stay, move, Settled, empty, settled, Held, here, away, still, Clean, Null, Front, Inv, Sound}
use Rattle.trace.proofs.Facts.{stays_by_zone, stays_by_mark, cell_real, not_staying}
use Rattle.trace.proofs.Putting.{final_body}
use Rattle.trace.proofs.Spots.{pool_not_free, owner_cases, pool_same}
use Rattle.trace.proofs.Putting.{cell_used}
use Rattle.trace.proofs.Busy.{is_object}
use Rattle.trace.proofs.Rows.{sorted, owner_is, in_row, self_object}
use Rattle.trace.proofs.Sweeps.{Chain, Base, first, next, row_chain, row_after, base_back, base_on, base_link, object_piece, padding_piece}
use Rattle.trace.proofs.Tidying.{Outcome, calm, tidy, wiped}
use Rattle.trace.proofs.Ends.{base_of, of_base, Built, built, chain_now, base_now, base_then}

pub object_of : (x : Thing) → is_object x ≡ true → x ≡ object (layout_of x) (slots_of x)
object_of nothing h = cc
object_of (object l ss) h = refl
object_of (forwarded n b) h = cc
object_of (padding n) h = cc

pub of_object : (x : Thing) (l : ℕ) (ss : List Slot) → x ≡ object l ss → is_object x ≡ true
of_object x l ss e = ap is_object e

-- S and t: the start, and the state when no grey is left and the targets are padded; k and os: words and owners after the sweep
module _ (S : Start) (ok : Sound S) (laws : Lawful S.meaning) (t : Heap) (inv : Inv S (λ q. ⊥) t)
    (shut : (p : ℕ) → target t p ≡ 0)
    (rows : (s p : ℕ) → owner0 S s ≡ Some p → Row S.meaning S.space.words (s * 256 + 256) (s * 256))
    (standing : (s p q : ℕ) → owner0 S s ≡ Some p → Base S S.space.words (s * 256 + 256) (s * 256) q → Std S q)
    (based : (q : ℕ) → Std S q → Base S S.space.words (q / 256 * 256 + 256) (q / 256 * 256) q)
    (used : (s : ℕ) → get_or S.plan.condemned s false ≡ true → (p : ℕ) × (owner0 S s ≡ Some p))
    (k : List ℕ) (g' : Segments)
    (out : (j : ℕ) → Outcome S laws t.marks (get_or S.plan.condemned j false) j t.words k (owner t j) (owner_of g' j)) where
  abbrev M : Meaning
  M = S.meaning

  abbrev m : List ℕ
  m = t.words

  abbrev pub T : Start
  T = record { meaning = S.meaning; plan = S.plan; space = space k g' }

  pool_of : (q : ℕ) → Std S q → (p : ℕ) × (owner0 S (q / 256) ≡ Some p)
  pool_of q h = elim (owner_cases (owner0 S (q / 256))) [ inl e ↦ absurd (ok.used q h e) | inr e ↦ e ]

  -- a segment of the start that is not condemned is a row still
  row_now : (e a : ℕ) → Row M S.space.words e a → ((q : ℕ) → Base S S.space.words e a q → Std S q × (condemns S.plan q ≡ false)) → Row M m e a
  row_now e a ends h = ends
  row_now e a (piece b p l r) h =
      let some = (sorted M laws S.space.words a p).some in
      let low : a < e = omega arith in
      let s = h a (first a low) in
      let c = cell_real S ok m inv.held a a s.0 (same refl) in
      piece a (go (inv.held a s.0) s.0 s.1) (rw c.span l)
      (rw c.span (row_now e (a + size0 S a) r (λ q x. h q (next a q low x))))
    where
      go : Held S m a → Std S a → condemns S.plan a ≡ false → Piece (rd S m a)
      go (here b) s c = object_piece (rd S m a) (layout0 S a) (slots_of (rd S m a)) b.shape
      go (away b g x) s c = absurd (both_ways (stays S t a) (inv.copied a b s g).left (stays_by_zone S t a c))
      go (still w f) s c = padding_piece (rd S m a) (size0 S a) f

  shut_front : (s p : ℕ) → (f : Front S t s p) → (f.front ≡ s * 256 + 256) ⊎ (rd S m f.front ≡ padding (s * 256 + 256 - f.front))
  shut_front s p f = elim f.ends [ inl x ↦ absurd (let z = shut p in omega (arith, x.0)) | inr x ↦ x.1 ]

  new_built : (s p : ℕ) → owner0 S s ≡ None → owner t s ≡ Some p → (f : Front S t s p) → Built S ok laws (λ q. ⊥) t inv s p f (shut_front s p f) (s * 256)
  new_built s p e o f = built S ok laws (λ q. ⊥) t inv s p f (shut_front s p f)

  -- every segment in use is a row after the sweep
  pub rows_next : (s p : ℕ) → owner_of g' s ≡ Some p → Row M k (s * 256 + 256) (s * 256)
  rows_next s p o = go (out s)
    where
      before : (c : get_or S.plan.condemned s false ≡ false) → owner t s ≡ Some p → Row M m (s * 256 + 256) (s * 256)
      before c w = elim (owner_cases (owner0 S s)) [
        | inl e ↦ (let f = inv.fill.fronts s p e w in (new_built s p e w f).row)
        | inr e ↦ row_now (s * 256 + 256) (s * 256) (rows s e.0 e.1) (λ q b. (
          standing s e.0 q e.1 b,
          (let i = base_link S S.space.words (s * 256 + 256) (s * 256) q (row_chain S laws S.space.words (s * 256 + 256) (s * 256) (rows s e.0 e.1)) b in
              let z : q / 256 ≡ s = omega (arith, i.0, i.1, i.2.some) in rw z c),
        ))
      ]

      go : Outcome S laws t.marks (get_or S.plan.condemned s false) s m k (owner t s) (owner_of g' s) → Row M k (s * 256 + 256) (s * 256)
      go (calm c e f wd) = row_after S laws m k (s * 256 + 256) (s * 256) f (s * 256) (omega arith) (before c (sym e ∙ o))
      go (tidy c e f) = f.row
      go (wiped c e f wz) = cc

  std_next : (q s p : ℕ) → q / 256 ≡ s → owner_of g' s ≡ Some p → Base S k (s * 256 + 256) (s * 256) q → Std T q
  std_next q s p z o b =
      let r = rows_next s p o in
      let i = of_base S k (s * 256 + 256) 256 (s * 256) q (row_chain S laws k (s * 256 + 256) (s * 256) r) (omega arith) b in
      and_from (is_owned (owner_of g' (q / 256))) (is_base M k (q / 256 * 256 + 256) 256 (q / 256 * 256) q)
      (ap is_owned (subst (λ (x : ℕ). owner_of g' x ≡ Some p) (sym z) o)) (subst (λ (x : ℕ). is_base M k (x * 256 + 256) 256 (x * 256) q ≡ true) (sym z) i)

  -- what was to be kept stands, and reads as it did
  pub record Stands (q : ℕ) : Type 0 where
    pub std : Std T q
    pub reads : rd S k q ≡ rd S m q
    pub owner : owner_of g' (q / 256) ≡ owner t (q / 256)

  stay_stands : (a : ℕ) → Obj S a → stays S t a ≡ true → Stands a
  stay_stands a o h =
      let w = pool_of a o.0 in
      let b = base_now S ok laws (λ q. ⊥) t inv (a / 256 * 256 + 256) (a / 256 * 256) (rows (a / 256) w.0 w.1) (λ q x. standing (a / 256) w.0 q w.1 x) a (based a o.0) in
      let ch = chain_now S ok laws (λ q. ⊥) t inv (a / 256 * 256 + 256) (a / 256 * 256) (rows (a / 256) w.0 w.1) (λ q x. standing (a / 256) w.0 q w.1 x) in
      go b ch (out (a / 256))
    where
      marked_a : condemns S.plan a ≡ true → marked t a ≡ true
      marked_a c = true_from_ne_false (marked t a) (λ e. both_ways (stays S t a) (not_staying S t a (omega (arith, ok.low a o.0)) c e) h)

      go : Base S m (a / 256 * 256 + 256) (a / 256 * 256) a → Chain S m (a / 256 * 256 + 256) (a / 256 * 256)
          → Outcome S laws t.marks (get_or S.plan.condemned (a / 256) false) (a / 256) m k (owner t (a / 256)) (owner_of g' (a / 256)) → Stands a
      go b ch (calm c e f wd) =
          let i = base_link S m (a / 256 * 256 + 256) (a / 256 * 256) a ch b in
          let w = inv.owned a o.0 in
          record {
            std = std_next a (a / 256) w.pool refl (e ∙ w.is) (base_on S laws m k (a / 256 * 256 + 256) (a / 256 * 256) f (a / 256 * 256) a (omega arith) ch b);
            reads = f a i.0 i.2 i.1;
            owner = e;
          }
      go b ch (tidy c e f) =
          let w = inv.owned a o.0 in
          record { std = std_next a (a / 256) w.pool refl (e ∙ w.is) (f.new a b (marked_a c)); reads = f.kept a b (marked_a c); owner = e }
      go b ch (wiped c e f wz) = absurd (both_ways (marked t a) (f a b) (marked_a c))

  move_stands : (a p : ℕ) → Obj S a → Moved S m a p → Stands p
  move_stands a p o g = go (out (p / 256)) (owner_cases (owner t (p / 256)))
    where
      safe : condemns S.plan p ≡ false
      safe = (inv.copied a p o.0 g).safe

      go : Outcome S laws t.marks (get_or S.plan.condemned (p / 256) false) (p / 256) m k (owner t (p / 256)) (owner_of g' (p / 256))
          → (owner t (p / 256) ≡ None) ⊎ ((q : ℕ) × (owner t (p / 256) ≡ Some q)) → Stands p
      go (tidy c e f) w = absurd (both_ways (condemns S.plan p) safe c)
      go (wiped c e f wz) w = absurd (both_ways (condemns S.plan p) safe c)
      go (calm c e f wd) (inl w) =
          absurd (cell_used S ok (λ q. ⊥) t inv a p o.0 (copy g) w)
      go (calm c e f wd) (inr w) =
          let h = inv.copied a p o.0 g in
          let b = new_built (p / 256) w.0 h.fresh w.1 (inv.fill.fronts (p / 256) w.0 h.fresh w.1) in
          let x = b.bases a p o.0 g refl (omega arith) in
          let ch = row_chain S laws m (p / 256 * 256 + 256) (p / 256 * 256) b.row in
          let i = base_link S m (p / 256 * 256 + 256) (p / 256 * 256) p ch x in
          record {
            std = std_next p (p / 256) w.0 refl (e ∙ w.1) (base_on S laws m k (p / 256 * 256 + 256) (p / 256 * 256) f (p / 256 * 256) p (omega arith) ch x);
            reads = f p i.0 i.2 i.1;
            owner = e;
          }

  pub final_stands : (a p : ℕ) → Obj S a → Final S t a p → Stands p
  final_stands a p o (stay e h) = rw e (stay_stands a o h)
  final_stands a p o (move g) = move_stands a p o g

  -- in the pool where it was
  pub pool_next : (a p : ℕ) → Obj S a → Final S t a p → owner_of g' (p / 256) ≡ owner0 S (a / 256)
  pool_next a p o f = (final_stands a p o f).owner ∙ go f
    where
      go : Final S t a p → owner t (p / 256) ≡ owner0 S (a / 256)
      go (stay e h) = let w = inv.owned a o.0 in ap (λ (q : ℕ). owner t (q / 256)) e ∙ w.is ∙ sym w.was
      go (move g) = (inv.copied a p o.0 g).home

  pub obj_next : (a p : ℕ) → Obj S a → Final S t a p → Obj T p
  obj_next a p o f =
      let s = final_stands a p o f in
      let b = final_body S (λ q. ⊥) t inv a p o f in
      (s.std, object_of (rd S k p) (of_object (rd S k p) (layout0 S a) (slots_of (rd S m p)) (s.reads ∙ b.shape)))

  -- and nothing else stands
  pub record Comes (q : ℕ) : Type 0 where
    pub from : ℕ
    pub obj : Obj S from
    pub final : Final S t from q

  comes_old : (q s p : ℕ) → owner0 S s ≡ Some p → Base S m (s * 256 + 256) (s * 256) q → Std S q
  comes_old q s p e b = standing s p q e (base_then S ok laws (λ q. ⊥) t inv (s * 256 + 256) (s * 256) (rows s p e) (λ v x. standing s p v e x) q b)

  pub comes : (q : ℕ) → Obj T q → Comes q
  comes q o =
      let c = and_parts (is_owned (owner_of g' (q / 256))) (is_base M k (q / 256 * 256 + 256) 256 (q / 256 * 256) q) o.0 in
      let w = owner_is (owner_of g' (q / 256)) c.0 in
      go w.0 w.1 (base_of S k (q / 256 * 256 + 256) 256 (q / 256 * 256) q c.1) (of_object (rd S k q) (layout0 T q) (slots0 T q) o.1) (out (q / 256))
    where
      by_old : (p : ℕ) → owner0 S (q / 256) ≡ Some p → condemns S.plan q ≡ false → Base S m (q / 256 * 256 + 256) (q / 256 * 256) q → is_object (rd S m q) ≡ true → Comes q
      by_old p e c b i =
          let s = comes_old q (q / 256) p e b in
          elim (ok.thing q s) [
            | inl x ↦ record { from = q; obj = (s, x); final = stay refl (stays_by_zone S t q c) }
            | inr x ↦ absurd (no_pad (inv.held q s) x i)
          ]
        where
          no_pad : Held S m q → thing0 S q ≡ padding (size0 S q) → is_object (rd S m q) ≡ true → ⊥
          no_pad (here b) x i = cc
          no_pad (away d g b) x i = cc
          no_pad (still w f) x i = both_ways (is_object (rd S m q)) (ap is_object f) i

      go : (p : ℕ) → owner_of g' (q / 256) ≡ Some p → Base S k (q / 256 * 256 + 256) (q / 256 * 256) q → is_object (rd S k q) ≡ true
          → Outcome S laws t.marks (get_or S.plan.condemned (q / 256) false) (q / 256) m k (owner t (q / 256)) (owner_of g' (q / 256)) → Comes q
      go p w b i (wiped c e f wz) = cc
      go p w b i (tidy c e f) =
          let x = f.old q b i in
          record { from = q; obj = inv.marked q x.0; final = stay refl (stays_by_mark S t q x.0) }
      go p w b i (calm c e f wd) = elim (owner_cases (owner0 S (q / 256))) [
        | inl z ↦ (let h = new_built (q / 256) p z (sym e ∙ w) (inv.fill.fronts (q / 256) p z (sym e ∙ w)) in
            let ch = row_chain S laws m (q / 256 * 256 + 256) (q / 256 * 256) h.row in
            let y = base_back S laws m k (q / 256 * 256 + 256) (q / 256 * 256) f (q / 256 * 256) q (omega arith) ch b in
            let l = base_link S m (q / 256 * 256 + 256) (q / 256 * 256) q ch y in
            let v = h.owner q y (rw (← f q l.0 l.2 l.1) i) in
            record { from = v.0; obj = v.1.0; final = move v.1.1 })
        | inr z ↦ (let ch = chain_now S ok laws (λ q. ⊥) t inv (q / 256 * 256 + 256) (q / 256 * 256) (rows (q / 256) z.0 z.1) (λ v x. standing (q / 256) z.0 v z.1 x) in
            let y = base_back S laws m k (q / 256 * 256 + 256) (q / 256 * 256) f (q / 256 * 256) q (omega arith) ch b in
            let l = base_link S m (q / 256 * 256 + 256) (q / 256 * 256) q ch y in
            by_old z.0 z.1 c y (rw (← f q l.0 l.2 l.1) i))
      ]

  own_before : (s p : ℕ) → owner_of g' s ≡ Some p → owner t s ≡ Some p
  own_before s p e = go (out s)
    where
      go : Outcome S laws t.marks (get_or S.plan.condemned s false) s m k (owner t s) (owner_of g' s) → owner t s ≡ Some p
      go (calm c f x wd) = sym f ∙ e
      go (tidy c f x) = sym f ∙ e
      go (wiped c f x wz) = cc

  module _ (white : (p : ℕ) → grey t p ≡ false) where
    pub cleaned : (a p : ℕ) → Obj S a → Final S t a p → Clean S t a (rd S m p)
    cleaned a p o f = elim (inv.clean a p o f) [ inl x ↦ absurd (elim x [ inl g ↦ both_ways (grey t p) (white p) g | inr d ↦ d ]) | inr c ↦ c ]

    settled_next : (r v : ℕ) → Settled S t r v → Names T k v v
    settled_next r v (empty e f) = null f f
    settled_next r v (settled o f) = names (obj_next r v o f) (same refl)

    fits_next : (x y : Slot) → Fits (Settled S t) x y → Fits (Names T k) y y
    fits_next (Number v) (Number w) h = refl
    fits_next (Number v) (Reference w) h = absurd h
    fits_next (Reference r) (Number w) h = absurd h
    fits_next (Reference r) (Reference v) h = settled_next r v h

    pub refs_next : (q : ℕ) → Obj T q → AllFit (Names T k) (slots0 T q) (slots0 T q)
    refs_next q o i =
        let c = comes q o in
        let s = final_stands c.from q c.obj c.final in
        rw s.reads (fits_next (get_or (slots0 S c.from) i (Number 0)) (get_or (slots_of (rd S m q)) i (Number 0)) (cleaned c.from q c.obj c.final i))

    null_next : (x y : Slot) → Fits Null x x → Fits (Settled S t) x y → Fits Null y y
    null_next (Number v) (Number w) n h = refl
    null_next (Number v) (Reference w) n h = absurd h
    null_next (Reference r) (Number w) n h = absurd h
    null_next (Reference r) (Reference v) n (empty e f) = (f, f)
    null_next (Reference r) (Reference v) n (settled o f) = absurd (omega (arith, ok.low r o.0, n.0))

    pub leafs_next : (q p : ℕ) → Std T q → owner_of g' (q / 256) ≡ Some p → leafy S p ≡ true → AllFit Null (slots0 T q) (slots0 T q)
    leafs_next q p h w lf =
        let c = and_parts (is_owned (owner_of g' (q / 256))) (is_base M k (q / 256 * 256 + 256) 256 (q / 256 * 256) q) h in
        let i = in_row M laws k (q / 256 * 256 + 256) 256 (q / 256 * 256) q (rows_next (q / 256) p w) c.1 in
        elim i.sort.kind [
          | inl x ↦ by (comes q (h, x)) (final_stands (comes q (h, x)).from q (comes q (h, x)).obj (comes q (h, x)).final)
          | inr x ↦ rw x (λ i. refl)
        ]
      where
        calm_owner : (q2 : ℕ) → owner t (q / 256) ≡ Some q2 → p ≡ q2
        calm_owner q2 o = pool_same p q2 (owner t (q / 256)) (own_before (q / 256) p w) o

        by : Comes q → Stands q → AllFit Null (slots0 T q) (slots0 T q)
        by c s = go c.final
          where
            go : Final S t c.from q → AllFit Null (slots0 T q) (slots0 T q)
            go (stay e y) =
                let o = inv.owned c.from c.obj.0 in
                let z : p ≡ o.pool = calm_owner o.pool (rw e o.is) in
                let l = o.leaf (rw (← z) lf) in
                rw s.reads (λ i. null_next (get_or (slots0 S c.from) i (Number 0)) (get_or (slots_of (rd S m q)) i (Number 0)) (l i) (cleaned c.from q c.obj c.final i))
            go (move g) =
                let h = inv.copied c.from q c.obj.0 g in
                elim (owner_cases (owner t (q / 256))) [
                  | inl z ↦ absurd (cell_used S ok (λ q. ⊥) t inv c.from q c.obj.0 (copy g) z)
                  | inr z ↦ (let y = calm_owner z.0 z.1 in
                      absurd (both_ways (leafy S z.0) (inv.fill.plain (q / 256) z.0 h.fresh z.1) (rw (← y) lf)))
                ]

    leads_next : (x : Slot) → Fits (Names T k) x x → SlotLeads M T.space x
    leads_next (Number v) h = tt
    leads_next (Reference r) (null e f) = inl e
    leads_next (Reference r) (names o c) = inr (layout0 T r, (slots0 T r, o))

    leaf_next : (x : Slot) → Fits Null x x → SlotLeaf x
    leaf_next (Number v) h = tt
    leaf_next (Reference r) h = h.0

    slots_are : (a l : ℕ) (ss : List Slot) → thing0 T a ≡ object l ss → slots0 T a ≡ ss
    slots_are a l ss e = ap slots_of e

    pub arena_next : length k ≡ length m → length g'.owners ≡ 256 → SoundSpace M S.plan.classes T.space
    arena_next long many = record {
      whole = (ap (λ (n : ℕ). n % 256) long ∙ inv.ready.whole, omega (arith, long, inv.ready.few), omega (arith, long, inv.long, ok.top));
      owners = many;
      first = zero_owner (out 0);
      owned = λ s p e. let o = inv.fill.pools s p (own_before s p e) in (o.0, omega (arith, long, o.1));
      rows = rows_next;
      leads = λ a l i ss o. rw (← slots_are a l ss o.1) (leads_next (get_or (slots0 T a) i (Number 0)) (refs_next a (o.0, self_object (thing0 T a) l ss o.1) i));
      leaves = λ a l i p ss o w h. rw (← slots_are a l ss o.1) (leaf_next (get_or (slots0 T a) i (Number 0)) (leafs_next a p o.0 w h i));
      blank = λ w e. still_blank w e (out (w / 256));
    }
      where
        still_blank : (w : ℕ) → owner_of g' (w / 256) ≡ None → Outcome S laws t.marks (get_or S.plan.condemned (w / 256) false) (w / 256) m k (owner t (w / 256)) (owner_of g' (w / 256)) → get_or k w 0 ≡ 0
        still_blank w z (calm c e f wd) = wd w refl ∙ inv.blank w (sym e ∙ z)
        still_blank w z (tidy c e f) = let u = used (w / 256) c in absurd (pool_not_free u.0 (owner0 S (w / 256)) u.1 (inv.fill.empty (w / 256) (sym e ∙ z)))
        still_blank w z (wiped c e f wz) = wz w refl

        zero_owner : Outcome S laws t.marks (get_or S.plan.condemned 0 false) 0 m k (owner t 0) (owner_of g' 0) → owner_of g' 0 ≡ None
        zero_owner (calm c e f wd) = e ∙ inv.fill.low
        zero_owner (tidy c e f) = e ∙ inv.fill.low
        zero_owner (wiped c e f wz) = e
