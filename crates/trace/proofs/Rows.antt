-- A segment as a gapless row of objects and paddings, and how a trace begins.
use Rattle.std.proofs.Common.{◌≡◌, ℕ, zero, suc, ◌+◌, ◌*◌, ◌/◌, ◌%◌, ◌<◌, ◌≤◌, Bool, true, false, ◌&&◌, ◌||◌, eqb, ltb, ◌≢◌, ◌⊎◌, List, length, get_or, sym, refl, ap, ◌∙◌, subst, inl, inr, arith, ltb-true, ne_eqb, eqb-true, Some, None}
use native.Mathlib.Decide.{dec_lt}
use borrow.Author.Tests.{both_ways}
use Rattle.std.proofs.lemmas.Bool.{cases_Bool, cases_eq, and_parts, and_from, and_right, or_cases, or_from, false_from_ne_true, or_left, or_right, lt-ltb, eq-eqb}
use Rattle.format.specs.declared.things.Slot.{Slot}
use Rattle.format.specs.declared.things.Slot.TheVariants.{Reference, Number}
use Rattle.format.specs.Meaning.{Meaning, Thing, nothing, object, forwarded, padding, thing_at, span}
use Rattle.format.specs.Laws.{Lawful}
use Rattle.format.proofs.Memory.{readings}
use Rattle.arena.specs.Segments.{Owner}
use Rattle.trace.specs.Traces.{condemns, Heap}
use Rattle.trace.specs.Keeping.{Piece, Row, ends, piece, is_base, is_owned, ObjectAt, Leads, SlotLeads, SlotLeaf}
use Rattle.trace.specs.Keeping.{Sound as SoundSpace}
use Rattle.trace.proofs.Cells.{Apart, slots_of, layout_of, owner, target, marked, grey, stays, rd, owner0, leafy, Start, Std, thing0, size0, layout0, slots0, Obj, Fits, AllFit, Moved, Cell, same, copy, Names, null, names, Final, stay, move, Settled, empty, Body, Held, here, still, Clean, Null, Room, unused, ahead, Owned, Inv, Sound}
use Rattle.trace.proofs.Facts.{not_staying}
use Rattle.trace.proofs.Marking.{unmoved}
use Rattle.trace.proofs.Putting.{seg_apart}
use Rattle.trace.proofs.Spots.{pool_same}

-- an object or a padding, of at least one word
pub record Sorted (M : Meaning) (x : Thing) : Type 0 where
  pub some : 1 ≤ span M x
  pub kind : (x ≡ object (layout_of x) (slots_of x)) ⊎ (x ≡ padding (span M x))

piece_kind : (M : Meaning) (x : Thing) → Piece x → (x ≡ object (layout_of x) (slots_of x)) ⊎ (x ≡ padding (span M x))
piece_kind M nothing h = absurd h
piece_kind M (object l ss) h = inl refl
piece_kind M (forwarded k to) h = absurd h
piece_kind M (padding k) h = inr refl

piece_real : (x : Thing) → Piece x → x ≢ nothing
piece_real nothing h e = h
piece_real (object l ss) h e = cc
piece_real (forwarded k to) h e = h
piece_real (padding k) h e = cc

pub sorted : (M : Meaning) → Lawful M → (m : List ℕ) (a : ℕ) → Piece (thing_at M m a) → Sorted M (thing_at M m a)
sorted M laws m a h = record { some = ((readings M laws).spans m a (piece_real (thing_at M m a) h)).0; kind = piece_kind M (thing_at M m a) h }

pub base_cases : (x y z : Bool) → (x && (y || z)) ≡ true → (x ≡ true) × ((y ≡ true) ⊎ (z ≡ true))
base_cases x y z h = let a = and_parts x (y || z) h in (a.0, or_cases y z a.1)

-- the first thing of a row is a base, and so are those that follow it
module _ (M : Meaning) (m : List ℕ) (e k a : ℕ) (low : a < e) where
  abbrev next : ℕ
  next = a + span M (thing_at M m a)

  pub base_first : is_base M m e (suc k) a a ≡ true
  base_first = and_from _ _ (lt-ltb a e low) (or_left _ _ (eq-eqb a a refl))

  pub base_later : (q : ℕ) → is_base M m e k next q ≡ true → is_base M m e (suc k) a q ≡ true
  base_later q h = and_from _ _ (lt-ltb a e low) (or_right (eqb a q) _ h)

  pub base_passed : (q : ℕ) → q ≢ a → is_base M m e k next q ≡ false → is_base M m e (suc k) a q ≡ false
  base_passed q n h = and_right (ltb a e) _ (or_from _ _ (ne_eqb a q (λ x. n (sym x))) h)

pub record Within (M : Meaning) (m : List ℕ) (a e q : ℕ) : Type 0 where
  pub low : a ≤ q
  pub high : q + span M (thing_at M m q) ≤ e
  pub sort : Sorted M (thing_at M m q)

module _ (M : Meaning) (laws : Lawful M) (m : List ℕ) (e : ℕ) where
  pub in_row : (k a q : ℕ) → Row M m e a → is_base M m e k a q ≡ true → Within M m a e q
  in_row zero a q r h = cc
  in_row (suc k) a q ends h =
      let c = base_cases (ltb e e) (eqb e q) (is_base M m e k (e + span M (thing_at M m e)) q) h in
      absurd (omega (arith, ltb-true e e c.0))
  in_row (suc k) a q (piece b s l r) h =
      let c = base_cases (ltb a e) (eqb a q) (is_base M m e k (a + span M (thing_at M m a)) q) h in
      elim c.1 [
        | inl y ↦ rw (← eqb-true a q y) (record { low = omega arith; high = l; sort = sorted M laws m a s })
        | inr y ↦ (let w = in_row k (a + span M (thing_at M m a)) q r y in record { low = omega (arith, w.low); high = w.high; sort = w.sort })
      ]

  pub row_apart : (k a p q : ℕ) → Row M m e a → is_base M m e k a p ≡ true → is_base M m e k a q ≡ true → (p ≡ q) ⊎ Apart p (span M (thing_at M m p)) q (span M (thing_at M m q))
  row_apart zero a p q r h g = cc
  row_apart (suc k) a p q ends h g =
      let c = base_cases (ltb e e) (eqb e q) (is_base M m e k (e + span M (thing_at M m e)) q) g in
      absurd (omega (arith, ltb-true e e c.0))
  row_apart (suc k) a p q (piece b s l r) h g =
      let c = base_cases (ltb a e) (eqb a p) (is_base M m e k (a + span M (thing_at M m a)) p) h in
      let d = base_cases (ltb a e) (eqb a q) (is_base M m e k (a + span M (thing_at M m a)) q) g in
      elim c.1 [
        | inl x ↦ elim d.1 [
          | inl y ↦ inl (sym (eqb-true a p x) ∙ eqb-true a q y)
          | inr y ↦ (let w = in_row k (a + span M (thing_at M m a)) q r y in
              inr (rw (← eqb-true a p x) (inl w.low)))
        ]
        | inr x ↦ elim d.1 [
          | inl y ↦ (let w = in_row k (a + span M (thing_at M m a)) p r x in
              inr (rw (← eqb-true a q y) (inr w.low)))
          | inr y ↦ row_apart k (a + span M (thing_at M m a)) p q r x y
        ]
      ]

pub owner_is : (o : Owner) → is_owned o ≡ true → (p : ℕ) × (o ≡ Some p)
owner_is None h = cc
owner_is (Some p) h = (p, refl)

pub self_object : (x : Thing) (l : ℕ) (ss : List Slot) → x ≡ object l ss → x ≡ object (layout_of x) (slots_of x)
self_object x l ss e = rw e refl

module _ (S : Start) (laws : Lawful S.meaning) (ar : SoundSpace S.meaning S.plan.classes S.space) where
  abbrev M : Meaning
  M = S.meaning

  abbrev m : List ℕ
  m = S.space.words

  pub record Seat (q : ℕ) : Type 0 where
    pub pool : ℕ
    pub owner : owner0 S (q / 256) ≡ Some pool
    pub base : is_base M m (q / 256 * 256 + 256) 256 (q / 256 * 256) q ≡ true
    pub within : Within M m (q / 256 * 256) (q / 256 * 256 + 256) q
    pub below : q / 256 * 256 + 256 ≤ length m

  pub seat : (q : ℕ) → Std S q → Seat q
  seat q h =
      let c = and_parts (is_owned (owner0 S (q / 256))) (is_base M m (q / 256 * 256 + 256) 256 (q / 256 * 256) q) h in
      let o = owner_is (owner0 S (q / 256)) c.0 in
      record {
        pool = o.0;
        owner = o.1;
        base = c.1;
        within = in_row M laws m (q / 256 * 256 + 256) 256 (q / 256 * 256) q (ar.rows (q / 256) o.0 o.1) c.1;
        below = (ar.owned (q / 256) o.0 o.1).1;
      }

  seat_low : (q : ℕ) → Std S q → 256 ≤ q
  seat_low q h = elim (cases_eq (q / 256) 0) [
    | inl e ↦ (cc)
    | inr n ↦ omega arith
  ]

  pub obj_at : (a l : ℕ) (ss : List Slot) → ObjectAt M S.space a l ss → Obj S a
  obj_at a l ss o = (o.0, self_object (thing0 S a) l ss o.1)

  pub at_obj : (a : ℕ) → Obj S a → ObjectAt M S.space a (layout0 S a) (slots0 S a)
  at_obj a o = o

  pub leads_names : (r : ℕ) → Leads M S.space r → Names S m r r
  leads_names r (inl e) = null e e
  leads_names r (inr w) = names (obj_at r w.0 w.1.0 w.1.1) (same refl)

  refs_fit : (x : Slot) → SlotLeads M S.space x → Fits (Names S m) x x
  refs_fit (Reference r) h = leads_names r h
  refs_fit (Number v) h = refl

  leaf_fit : (x : Slot) → SlotLeaf x → Fits Null x x
  leaf_fit (Reference r) h = (h, h)
  leaf_fit (Number v) h = refl

  pub sound : Sound S
  sound = record {
    thing = λ a s. (seat a s).within.sort.kind;
    low = seat_low;
    some = λ a s. (seat a s).within.sort.some;
    refs = λ a o i. refs_fit (get_or (slots0 S a) i (Number 0)) (ar.leads a (layout0 S a) i (slots0 S a) (at_obj a o));
    apart = λ a c s r. let x = seat a s in let y = seat c r in elim (cases_eq (a / 256) (c / 256)) [
      | inl e ↦ row_apart M laws m (a / 256 * 256 + 256) 256 (a / 256 * 256) a c (ar.rows (a / 256) x.pool x.owner) x.base (subst (λ (s : ℕ). is_base M m (s * 256 + 256) 256 (s * 256) c ≡ true) (sym e) y.base)
      | inr n ↦ inr (seg_apart a (size0 S a) c (size0 S c) n (omega (arith, x.within.high)) (omega (arith, y.within.high)))
    ];
    seg = λ a s. (let h : a + size0 S a ≤ a / 256 * 256 + 256 = (seat a s).within.high in omega arith);
    inside = λ a s. (seat a s).below;
    used = λ a s e. (cc);
    top = ar.whole.2;
  }

  -- how a trace begins
  pub record Fresh (t : Heap) : Type 0 where
    pub words : t.words ≡ m
    pub segments : t.state.segments ≡ S.space.segments
    pub aims : (p : ℕ) → target t p ≡ 0
    pub targets : length t.state.targets ≡ 8
    pub low : t.state.low ≡ 0
    pub safe : (s : ℕ) → owner0 S s ≡ None → get_or S.plan.condemned s false ≡ false
    pub marks : 32 * length t.marks ≡ length m
    pub greys : 32 * length t.greys ≡ length m
    pub unmarked : (p : ℕ) → marked t p ≡ false
    pub white : (p : ℕ) → grey t p ≡ false

  -- the objects to scan before the rounds
  abbrev pub Outside : ℕ → Type 0
  Outside p = Obj S p × (condemns S.plan p ≡ false) × ((o : ℕ) → owner0 S (p / 256) ≡ Some o → leafy S o ≡ false)

  module _ (t : Heap) (fr : Fresh t) where
    own : (s : ℕ) → owner t s ≡ owner0 S s
    own s = rw fr.segments refl

    no_aim : (p : ℕ) → 1 ≤ target t p % 256 → ⊥
    no_aim p h = let z = fr.aims p in omega arith

    at : (a : ℕ) → Obj S a → Body S t.words a (rd S t.words a)
    at a s = rw fr.words (record { was = s.1; shape = s.1; many = refl; names = sound.refs a s })

    held_at : (a : ℕ) → Std S a → Held S t.words a
    held_at a s = elim (sound.thing a s) [ inl e ↦ here (at a (s, e)) | inr e ↦ still e (rw fr.words e) ]

    no_move : (a d : ℕ) → Std S a → Moved S t.words a d → ⊥
    no_move a d s g = elim (sound.thing a s) [
      | inl e ↦ unmoved S t.words a a d (at a (s, e)) g refl
      | inr e ↦ (let f : rd S t.words a ≡ padding (size0 S a) = rw fr.words e in cc)
    ]

    cell : (a p : ℕ) → Std S a → Cell S t.words a p → p ≡ a
    cell a p s (same e) = e
    cell a p s (copy g) = absurd (no_move a p s g)

    join : (a p c q : ℕ) → p ≡ a → q ≡ c → (a ≡ c) ⊎ Apart a (size0 S a) c (size0 S c) → ((a ≡ c) × (p ≡ q)) ⊎ Apart p (size0 S a) q (size0 S c)
    join a p c q e f (inl h) = inl (h, e ∙ h ∙ sym f)
    join a p c q e f (inr h) = inr (rw (e, f) h)

    outside_cells : (w a : ℕ) → Std S a → Room t w → (w < a) ⊎ (a + size0 S a ≤ w)
    outside_cells w a s (ahead p x y z) = absurd (no_aim p z)
    outside_cells w a s (unused x y e) =
        let k = seat a s in
        let hi : a + size0 S a ≤ a / 256 * 256 + 256 = k.within.high in
        let n : w / 256 ≢ a / 256 = λ f. (cc) in
        elim (dec_lt w a) [ yes l ↦ inl l | no l ↦ inr (let z : a / 256 < w / 256 = omega arith in omega arith) ]

    leaf_settled : (x : Slot) → Fits Null x x → Fits (Settled S t) x x
    leaf_settled (Number v) h = h
    leaf_settled (Reference r) h = empty h.0 h.1

    leaf_of : (a : ℕ) (s : Std S a) → leafy S (seat a s).pool ≡ true → AllFit Null (slots0 S a) (slots0 S a)
    leaf_of a s h = elim (sound.thing a s) [
      | inl e ↦ (λ i. leaf_fit (get_or (slots0 S a) i (Number 0)) (ar.leaves a (layout0 S a) i (seat a s).pool (slots0 S a) (at_obj a (s, e)) (seat a s).owner h))
      | inr e ↦ rw e (λ i. refl)
    ]

    owned_at : (a : ℕ) → Std S a → Owned S t a
    owned_at a s = let x = seat a s in record { pool = x.pool; is = own (a / 256) ∙ x.owner; was = x.owner; leaf = leaf_of a s }

    zone : (a : ℕ) → Std S a → stays S t a ≡ true → condemns S.plan a ≡ false
    zone a s h = false_from_ne_true (condemns S.plan a) (λ k. both_ways (stays S t a) (not_staying S t a (omega (arith, sound.low a s)) k (fr.unmarked a)) h)

    clean_at : (a p : ℕ) → Obj S a → Final S t a p → ((grey t p ≡ true) ⊎ Outside p) ⊎ Clean S t a (rd S t.words p)
    clean_at a p s (move g) = absurd (no_move a p s.0 g)
    clean_at a p s (stay e h) = elim (cases_Bool (leafy S (seat a s.0).pool)) [
      | inl y ↦ inr (subst (λ (q : ℕ). Clean S t a (rd S t.words q)) (sym e) (subst (λ (k : List ℕ). Clean S t a (rd S k a)) (sym fr.words) (λ i. leaf_settled (get_or (slots0 S a) i (Number 0)) (leaf_of a s.0 y i))))
      | inr y ↦ inl (inr (subst Outside (sym e) (s, zone a s.0 h, λ o k. ap (leafy S) (pool_same o (seat a s.0).pool (owner0 S (a / 256)) k (seat a s.0).owner) ∙ y)))
    ]

    pub begins : Inv S Outside t
    begins = record {
      long = ap length fr.words;
      ready = record {
        whole = rw fr.words ar.whole.0;
        few = rw fr.words ar.whole.1;
        owned = λ p h. absurd (no_aim p h);
        unused = λ s e. fr.safe s (sym (own s) ∙ e);
        marks = fr.marks ∙ sym (ap length fr.words);
        greys = fr.greys ∙ sym (ap length fr.words);
        owners = rw fr.segments ar.owners;
        targets = fr.targets;
      };
      owned = owned_at;
      held = held_at;
      apart = λ a p c q s r e f. join a p c q (cell a p s e) (cell c q r f) (sound.apart a c s r);
      copied = λ a d s g. absurd (no_move a d s g);
      room = λ w a p f s e. rw (cell a p s e) (outside_cells w a s f);
      greys = λ p h. absurd (both_ways (grey t p) (fr.white p) h);
      bound = λ p h. rw fr.low (omega arith);
      fill = record {
        fronts = λ s p e o. (cc);
        aims = λ p h. absurd (no_aim p h);
        empty = λ s e. sym (own s) ∙ e;
        pools = λ s p e. (let o = ar.owned s p (sym (own s) ∙ e) in (o.0, rw fr.words o.1));
        low = own 0 ∙ ar.first;
        plain = λ s p e o. (cc);
      };
      marked = λ p h. absurd (both_ways (marked t p) (fr.unmarked p) h);
      blank = λ w e. ap (λ (k : List ℕ). get_or k w 0) fr.words ∙ ar.blank w (sym (own (w / 256)) ∙ e);
      clean = clean_at;
    }
