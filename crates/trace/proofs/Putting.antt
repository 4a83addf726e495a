-- A slot written, words padded, an object ungreyed.
use Rattle.std.proofs.Common.{◌≡◌, ℕ, ◌+◌, ◌-◌, ◌*◌, ◌/◌, ◌%◌, ◌<◌, ◌≤◌, true, ◌≢◌, ◌⊎◌, List, length, get_or, set, sym, refl, ap, ◌∙◌, subst, ap₂, inl, inr, arith, length-set, get_or-set_other, get_or-set_same, Some, None}
use borrow.Author.Tests.{both_ways}
use Rattle.std.proofs.lemmas.Bool.{cases_eq}
use Rattle.format.specs.declared.things.Slot.{Slot}
use Rattle.format.specs.declared.things.Slot.TheVariants.{Number}
use Rattle.format.specs.Meaning.{object, padding}
use Rattle.arena.specs.Boards.{without_bit}
use Rattle.arena.proofs.BoardLaws.{laws_of}
use Rattle.trace.specs.Traces.{Heap, heap, ungreyed}
use Rattle.trace.proofs.Cells.{Apart, slots_of, layout_of, owner, target, grey, stays, rd, owner0, Start, Std, size0, layout0, slots0, Obj, Fits, fits_map, Moved, Cell, same, copy, Names, Final, stay, move, Body, Held, here, away, still, Clean, Room, unused, ahead, Ready, Copied, Fill, Owned, Inv, Grows, Sound}
use Rattle.trace.proofs.Facts.{object_not_forwarded, object_not_padding, same_address, Real, real_padding, board_drop, cell_map, names_map, body_map, clean_grows, place_grows, final_grows, final_cell, cell_real, one_cell, copied_on, owned_on}
use Rattle.trace.proofs.Marking.{unmoved, ready_same, room_same, owned_same, fill_same}

-- where an object will be, it stands
pub final_body : (S : Start) (Todo : ℕ → Type 0) (t : Heap) → Inv S Todo t → (a p : ℕ) → Obj S a → Final S t a p → Body S t.words a (rd S t.words p)
final_body S Todo t inv a p s f = go (inv.held a s.0) f
  where
    go : Held S t.words a → Final S t a p → Body S t.words a (rd S t.words p)
    go (here h) (stay e k) = rw e h
    go (here h) (move g) = absurd (unmoved S t.words a a p h g refl)
    go (away b g h) (stay e k) = absurd (both_ways (stays S t a) (inv.copied a b s.0 g).left k)
    go (still w e) f = cc
    go (away b g h) (move f) = rw (← same_address (rd S t.words a) (size0 S a) (size0 S a) b p g f) h

pub inv_todo : (S : Start) (Todo Next : ℕ → Type 0) (t : Heap) → Inv S Todo t
    → ((a p : ℕ) → Obj S a → Final S t a p → Todo p → Next p ⊎ Clean S t a (rd S t.words p)) → Inv S Next t
inv_todo S Todo Next t inv f = record {
  long = inv.long;
  ready = inv.ready;
  owned = inv.owned;
  held = inv.held;
  apart = inv.apart;
  copied = inv.copied;
  room = inv.room;
  greys = inv.greys;
  fill = inv.fill;
  marked = inv.marked;
  bound = inv.bound;
  blank = inv.blank;
  clean = λ a p s e. elim (inv.clean a p s e) [
    | inl x ↦ elim x [ inl g ↦ inl (inl g) | inr d ↦ elim (f a p s e d) [ inl n ↦ inl (inr n) | inr c ↦ inr c ] ]
    | inr c ↦ inr c
  ];
}

-- the words of the state are others
abbrev pub put_words : Heap → List ℕ → Heap
put_words t k = heap t.state k t.marks t.greys

-- the paddings of segments that the trace took stay
abbrev pub Pads : Start → Heap → List ℕ → Type 0
Pads S t k = (s p f : ℕ) → owner0 S s ≡ None → owner t s ≡ Some p → (1 ≤ target t p % 256 → target t p / 256 ≡ s → ⊥)
    → ((a b : ℕ) → Std S a → Moved S t.words a b → b / 256 ≡ s → b + size0 S a ≤ f)
    → s * 256 ≤ f → f < s * 256 + 256 → rd S t.words f ≡ padding (s * 256 + 256 - f) → rd S k f ≡ rd S t.words f

module _ (S : Start) (t : Heap) (k : List ℕ) (long : length k ≡ length t.words) where
  pub ready_put : Ready S t → Ready S (put_words t k)
  ready_put r = record {
    whole = rw long r.whole;
    few = omega (arith, long, r.few);
    owned = λ p h. let o = r.owned p h in (o.0, omega (arith, long, o.1), o.2, o.3);
    unused = r.unused;
    marks = r.marks ∙ sym long;
    greys = r.greys ∙ sym long;
    owners = r.owners;
    targets = r.targets;
  }

  pub room_put : {w : ℕ} → Room (put_words t k) w → Room t w
  room_put (unused x y z) = unused x (omega (arith, long)) z
  room_put (ahead p x y z) = ahead p x y z

  pub owned_put : {a : ℕ} → Owned S t a → Owned S (put_words t k) a
  owned_put {a} o = owned_on S t (put_words t k) a refl o

  pub copied_put : {a b : ℕ} → Copied S t a b → Copied S (put_words t k) a b
  copied_put {a} {b} h = copied_on S t (put_words t k) a b long refl refl h

  pub fill_put : ((a b : ℕ) → Std S a → Moved S t.words a b → Moved S k a b) → ((a b : ℕ) → Std S a → Moved S k a b → Moved S t.words a b)
      → Pads S t k → Fill S t → Fill S (put_words t k)
  fill_put on back pads fl = record {
    aims = fl.aims;
    empty = fl.empty;
    pools = λ s p o. let q = fl.pools s p o in (q.0, omega (arith, long, q.1));
    low = fl.low;
    plain = fl.plain;
    fronts = λ s p e o. let f = fl.fronts s p e o in record {
      front = f.front;
      low = f.low;
      high = f.high;
      below = λ a b h g. f.below a b h (back a b h g);
      cover = λ w x y. let c = f.cover w x y in record { from = c.from; base = c.base; obj = c.obj; moved = on c.from c.base c.obj.0 c.moved; low = c.low; high = c.high };
      ends = elim f.ends [
        | inl x ↦ inl x
        | inr x ↦ inr (
          x.0,
          elim x.1 [
            | inl y ↦ inl y
            | inr y ↦ grind arith
          ],
        )
      ];
    };
  }

pub seg_apart : (x n y k : ℕ) → x / 256 ≢ y / 256 → x % 256 + n ≤ 256 → y % 256 + k ≤ 256 → Apart x n y k
seg_apart x n y k ne h g = grind arith

-- a word of another segment
pub word_apart : (w p n : ℕ) → w / 256 ≢ p / 256 → p % 256 + n ≤ 256 → (w < p) ⊎ (p + n ≤ w)
word_apart w p n ne h = grind arith

-- a cell's segment is in use
pub cell_used : (S : Start) (ok : Sound S) (Todo : ℕ → Type 0) (t : Heap) → Inv S Todo t → (a p : ℕ) → Std S a → Cell S t.words a p → owner t (p / 256) ≢ None
cell_used S ok Todo t inv a p s (same q) e =
    let o = inv.owned a s in
    cc
cell_used S ok Todo t inv a p s (copy g) e =
    let h = inv.copied a p s g in
    elim (inv.room p a p (unused h.low (omega (arith, h.high, ok.some a s)) e) s (copy g)) [ inl x ↦ omega arith | inr x ↦ absurd (omega (arith, ok.some a s)) ]

pub cell_seg : (S : Start) (ok : Sound S) (Todo : ℕ → Type 0) (t : Heap) → Inv S Todo t → (a p : ℕ) → Std S a → Cell S t.words a p → p % 256 + size0 S a ≤ 256
cell_seg S ok Todo t inv a p s (same q) = rw q (ok.seg a s)
cell_seg S ok Todo t inv a p s (copy g) = (inv.copied a p s g).seg

-- words that are no cell's are written
module _ (S : Start) (Todo : ℕ → Type 0) (t : Heap) (inv : Inv S Todo t) (k : List ℕ) (long : length k ≡ length t.words)
    (frame : (c q : ℕ) → Std S c → Cell S t.words c q → rd S k q ≡ rd S t.words q)
    (pads : Pads S t k) (blank' : (w : ℕ) → owner t (w / 256) ≡ None → get_or k w 0 ≡ 0) where
  moves_on : (c d : ℕ) → Std S c → Moved S t.words c d → Moved S k c d
  moves_on c d s g = frame c c s (same refl) ∙ g

  moves_back : (c d : ℕ) → Std S c → Moved S k c d → Moved S t.words c d
  moves_back c d s g = sym (frame c c s (same refl)) ∙ g

  pub reframe_grows : Grows S t (put_words t k)
  reframe_grows = record { marks = λ a h. h; moves = moves_on }

  pub reframe : Inv S Todo (put_words t k)
  reframe = record {
    long = long ∙ inv.long;
    ready = ready_put S t k long inv.ready;
    owned = λ a s. owned_put S t k long (inv.owned a s);
    held = λ a s. go a s (inv.held a s);
    apart = λ a p c q s r e f. inv.apart a p c q s r (cell_map S k t.words moves_back a p s e) (cell_map S k t.words moves_back c q r f);
    copied = λ a b s g. copied_put S t k long (inv.copied a b s (moves_back a b s g));
    room = λ w a p f s e. inv.room w a p (room_put S t k long f) s (cell_map S k t.words moves_back a p s e);
    greys = λ p h. place_grows S t (put_words t k) reframe_grows p (inv.greys p h);
    bound = inv.bound;
    fill = fill_put S t k long moves_on moves_back pads inv.fill;
    marked = inv.marked;
    blank = blank';
    clean = λ a p s f. let g = back a p s.0 f in elim (inv.clean a p s g) [
      | inl x ↦ inl x
      | inr h ↦ inr (clean_grows S t (put_words t k) reframe_grows a (rd S t.words p) (rd S k p) (frame a p s.0 (final_cell S t a p g)) h)
    ];
  }
    where
      back : (a p : ℕ) → Std S a → Final S (put_words t k) a p → Final S t a p
      back a p s f = final_grows S (put_words t k) t (record { marks = λ c h. h; moves = moves_back }) a p s f

      go : (a : ℕ) → Std S a → Held S t.words a → Held S k a
      go a s (here h) = here (body_map S t.words k moves_on a (rd S t.words a) (rd S k a) (frame a a s (same refl)) h)
      go a s (still w e) = still w (frame a a s (same refl) ∙ e)
      go a s (away b g h) = away b (moves_on a b s g) (body_map S t.words k moves_on a (rd S t.words b) (rd S k b) (frame a b s (copy g)) h)

-- what writing a slot does to the words
pub record Putting (S : Start) (m k : List ℕ) (p n i : ℕ) (x : Slot) : Type 0 where
  pub long : length k ≡ length m
  pub there : rd S k p ≡ object (layout_of (rd S m p)) (set (slots_of (rd S m p)) i x)
  pub others : (q j : ℕ) → Real S.meaning (rd S m q) j → Apart q j p n → rd S k q ≡ rd S m q
  pub words : (w : ℕ) → (w < p) ⊎ (p + n ≤ w) → get_or k w 0 ≡ get_or m w 0

module _ (S : Start) (ok : Sound S) (Todo : ℕ → Type 0) (t : Heap) (inv : Inv S Todo t) (a p : ℕ) (oa : Obj S a) (fin : Final S t a p) (todo : Todo p)
    (k : List ℕ) (i : ℕ) (x : Slot) (pt : Putting S t.words k p (size0 S a) i x)
    (inside : i < length (slots_of (rd S t.words p))) (fits : Fits (Names S t.words) (get_or (slots0 S a) i (Number 0)) x) where
  sa : Std S a
  sa = oa.0

  body : Body S t.words a (rd S t.words p)
  body = final_body S Todo t inv a p oa fin

  frame : (c q : ℕ) → Std S c → Cell S t.words c q → q ≢ p → rd S k q ≡ rd S t.words q
  frame c q s e n = elim (inv.apart c q a p s sa e (final_cell S t a p fin)) [
    | inl y ↦ absurd (n y.1)
    | inr y ↦ pt.others q (size0 S c) (cell_real S (ok) t.words inv.held c q s e) y
  ]

  whose : (c q : ℕ) → Std S c → Cell S t.words c q → q ≡ p → c ≡ a
  whose c q s e h = one_cell S ok Todo t inv a c p q sa s (final_cell S t a p fin) e h

  not_p : (c d : ℕ) → Moved S t.words c d → c ≢ p
  not_p c d g e = object_not_forwarded (rd S t.words p) (layout0 S a) (size0 S c) d (slots_of (rd S t.words p)) body.shape (rw (← e) g)

  put_moves : (c d : ℕ) → Std S c → Moved S t.words c d → Moved S k c d
  put_moves c d s g = frame c c s (same refl) (not_p c d g) ∙ g

  put_back : (c d : ℕ) → Std S c → Moved S k c d → Moved S t.words c d
  put_back c d s g = elim (cases_eq c p) [
    | inl e ↦ (cc)
    | inr n ↦ sym (frame c c s (same refl) n) ∙ g
  ]

  pub put_still : (c q : ℕ) → Std S c → Cell S t.words c q → q ≢ p → rd S k q ≡ rd S t.words q
  put_still = frame

  pub put_slots : slots_of (rd S k p) ≡ set (slots_of (rd S t.words p)) i x
  put_slots = ap slots_of pt.there

  pub put_grows : Grows S t (put_words t k)
  put_grows = record { marks = λ c h. h; moves = put_moves }

  put_pads : Pads S t k
  put_pads s o f e ow shut below bot hi pd = pt.others f (s * 256 + 256 - f) (real_padding S.meaning (rd S t.words f) (s * 256 + 256 - f) pd) (go (final_cell S t a p fin))
    where
      go : Cell S t.words a p → Apart f (s * 256 + 256 - f) p (size0 S a)
      go (same q) = seg_apart f (s * 256 + 256 - f) p (size0 S a) (λ z. ok.used a sa (rw (← from z) e)) (omega arith) (rw q (ok.seg a sa))
        where
          from : f / 256 ≡ p / 256 → s ≡ a / 256
          from z = let y : p / 256 ≡ a / 256 = rw q refl in omega arith
      go (copy g) = elim (cases_eq (p / 256) s) [
        | inl z ↦ inr (below a p sa g z)
        | inr n ↦ seg_apart f (s * 256 + 256 - f) p (size0 S a) (λ z. n (omega arith)) (omega arith) (inv.copied a p sa g).seg
      ]

  put_blank : (w : ℕ) → owner t (w / 256) ≡ None → get_or k w 0 ≡ 0
  put_blank w e = pt.words w (word_apart w p (size0 S a) (λ z. cell_used S ok Todo t inv a p sa (final_cell S t a p fin) (rw (← z) e)) (cell_seg S ok Todo t inv a p sa (final_cell S t a p fin))) ∙ inv.blank w e

  put_body : Body S k a (rd S k p)
  put_body = record {
    was = body.was;
    shape = pt.there ∙ ap₂ object (ap layout_of body.shape) (sym put_slots);
    many = ap length put_slots ∙ length-set (slots_of (rd S t.words p)) i x ∙ body.many;
    names = λ j. fits_map (names_map S t.words k put_moves) (get_or (slots0 S a) j (Number 0)) (get_or (slots_of (rd S k p)) j (Number 0)) (at j);
  }
    where
      at : (j : ℕ) → Fits (Names S t.words) (get_or (slots0 S a) j (Number 0)) (get_or (slots_of (rd S k p)) j (Number 0))
      at j = elim (cases_eq j i) [
        | inl e ↦ rw (e, put_slots, get_or-set_same (slots_of (rd S t.words p)) i x (Number 0) inside) fits
        | inr n ↦ rw (put_slots, get_or-set_other (slots_of (rd S t.words p)) i j x (Number 0) n) (body.names j)
      ]

  put_held : (c : ℕ) → Std S c → Held S t.words c → Held S k c
  put_held c s (here h) = elim (cases_eq c p) [
    | inl e ↦ here (subst (λ (y : ℕ). Body S k c (rd S k y)) (sym e) (subst (λ (y : ℕ). Body S k y (rd S k p)) (sym (whose c c s (same refl) e)) put_body))
    | inr n ↦ here (body_map S t.words k put_moves c (rd S t.words c) (rd S k c) (frame c c s (same refl) n) h)
  ]
  put_held c s (still w e) = elim (cases_eq c p) [
    | inl f ↦ absurd (object_not_padding (rd S t.words p) (layout0 S a) (size0 S c) (slots_of (rd S t.words p)) body.shape (rw (← f) e))
    | inr n ↦ still w (frame c c s (same refl) n ∙ e)
  ]
  put_held c s (away d g h) = elim (cases_eq d p) [
    | inl e ↦ away d (put_moves c d s g) (rw (e, whose c d s (copy g) e) put_body)
    | inr n ↦ away d (put_moves c d s g) (body_map S t.words k put_moves c (rd S t.words d) (rd S k d) (frame c d s (copy g) n) h)
  ]

  pub put_ok : Inv S Todo (put_words t k)
  put_ok = record {
    long = pt.long ∙ inv.long;
    ready = ready_put S t k pt.long inv.ready;
    owned = λ c s. owned_put S t k pt.long (inv.owned c s);
    held = λ c s. put_held c s (inv.held c s);
    apart = λ c q d r s v e f. inv.apart c q d r s v (cell_map S k t.words put_back c q s e) (cell_map S k t.words put_back d r v f);
    copied = λ c b s g. copied_put S t k pt.long (inv.copied c b s (put_back c b s g));
    room = λ w c q f s e. inv.room w c q (room_put S t k pt.long f) s (cell_map S k t.words put_back c q s e);
    greys = λ q h. place_grows S t (put_words t k) put_grows q (inv.greys q h);
    bound = inv.bound;
    fill = fill_put S t k pt.long put_moves put_back put_pads inv.fill;
    marked = inv.marked;
    blank = put_blank;
    clean = λ c q s f. let g = back c q s.0 f in elim (cases_eq q p) [
      | inl e ↦ inl (inr (rw e todo))
      | inr n ↦ elim (inv.clean c q s g) [
        | inl y ↦ inl y
        | inr h ↦ inr (clean_grows S t (put_words t k) put_grows c (rd S t.words q) (rd S k q) (frame c q s.0 (final_cell S t c q g) n) h)
      ]
    ];
  }
    where
      back : (c q : ℕ) → Std S c → Final S (put_words t k) c q → Final S t c q
      back c q s f = final_grows S (put_words t k) t (record { marks = λ d h. h; moves = put_back }) c q s f

-- the lowest grey object is no more grey, but to be scanned
module _ (S : Start) (Todo : ℕ → Type 0) (t : Heap) (inv : Inv S Todo t) (p : ℕ) (lowest : (c : ℕ) → grey t c ≡ true → p ≤ c) where
  pub ungrey_grows : Grows S t (ungreyed t p)
  ungrey_grows = record { marks = λ c h. h; moves = λ a b s h. h }

  pub ungrey_ok : Inv S (λ q. Todo q ⊎ (q ≡ p)) (ungreyed t p)
  ungrey_ok = record {
    long = inv.long;
    ready = ready_same S t p t.marks (without_bit t.greys p) inv.ready refl (length-set t.greys _ _);
    owned = λ a s. owned_same S t p t.marks (without_bit t.greys p) (inv.owned a s);
    held = inv.held;
    apart = inv.apart;
    copied = λ a b s g. copied_on S t (ungreyed t p) a b refl refl refl (inv.copied a b s g);
    room = λ w a q f. inv.room w a q (room_same S t p t.marks (without_bit t.greys p) f);
    bound = λ q h. lowest q (board_drop t.greys p q h);
    fill = fill_same S t p t.marks (without_bit t.greys p) inv.fill;
    marked = inv.marked;
    blank = inv.blank;
    greys = λ q h. place_grows S t (ungreyed t p) ungrey_grows q (inv.greys q (board_drop t.greys p q h));
    clean = λ a q s f. elim (inv.clean a q s (final_grows S (ungreyed t p) t (record { marks = λ c h. h; moves = λ c d r h. h }) a q s.0 f)) [
      | inl x ↦ elim x [
        | inl g ↦ elim (cases_eq q p) [ inl e ↦ inl (inr (inr e)) | inr n ↦ inl (inl ((laws_of t.greys).cleared_other p q n ∙ g)) ]
        | inr d ↦ inl (inr (inl d))
      ]
      | inr h ↦ inr (clean_grows S t (ungreyed t p) ungrey_grows a (rd S t.words q) (rd S t.words q) refl h)
    ];
  }
