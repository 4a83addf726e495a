-- A copy keeps the invariant.
use Rattle.std.proofs.Common.{◌≡◌, ℕ, ◌+◌, ◌/◌, ◌%◌, ◌<◌, ◌≤◌, true, false, ◌≢◌, ◌⊎◌, List, length, get_or, sym, refl, ◌∙◌, inl, inr, arith, None}
use native.Mathlib.Decide.{dec_lt}
use Rattle.std.proofs.lemmas.Bool.{cases_eq}
use Rattle.format.specs.Meaning.{forwarded}
use Rattle.arena.specs.Boards.{bit, with_bit}
use Rattle.arena.proofs.BoardLaws.{laws_of}
use Rattle.trace.specs.declared.state.Trace.{Trace}
use Rattle.trace.specs.Traces.{condemns, Heap, heap}
use Rattle.trace.specs.Collections.{moves}
use Rattle.trace.proofs.Cells.{Apart, owner, grey, stays, rd, owner0, Start, Std, size0, Obj, Moved, Cell, same, copy, Final, stay, move, Body, Held, here, away, still, Clean, Room, Ready, Copied, Fill, Owned, Inv, Grows, Keeps, Sound}
use Rattle.trace.proofs.Facts.{Real, board_keeps, board_set, body_map, clean_grows, place_grows, final_cell, cell_real, copied_on}
use Rattle.trace.proofs.Marking.{unmoved}

-- what lies outside all the words of a stretch lies apart from it
pub apart_all : (p k b n : ℕ) → 1 ≤ k → 1 ≤ n → ((w : ℕ) → b ≤ w → w < b + n → (w < p) ⊎ (p + k ≤ w)) → Apart p k b n
apart_all p k b n hk hn f = elim (f b (omega arith) (omega arith)) [
  | inr h ↦ inl h
  | inl h ↦ elim (dec_lt p (b + n)) [
    | yes l ↦ elim (f p (omega arith) l) [ inl x ↦ absurd (omega arith) | inr x ↦ absurd (omega arith) ]
    | no l ↦ inr (omega arith)
  ]
]

pub apart_sym : (p k b n : ℕ) → Apart p k b n → Apart b n p k
apart_sym p k b n (inl h) = inr h
apart_sym p k b n (inr h) = inl h

-- what a copy does to the words
pub record Copying (S : Start) (m k : List ℕ) (a b n : ℕ) : Type 0 where
  pub long : length k ≡ length m
  pub there : rd S k b ≡ rd S m a
  pub left : rd S k a ≡ forwarded n b
  pub others : (q j : ℕ) → Real S.meaning (rd S m q) j → Apart q j a n → Apart q j b n → rd S k q ≡ rd S m q
  pub words : (w : ℕ) → (w < a) ⊎ (a + n ≤ w) → (w < b) ⊎ (b + n ≤ w) → get_or k w 0 ≡ get_or m w 0

module _ (S : Start) (ok : Sound S) (Todo : ℕ → Type 0) (t : Heap) (inv : Inv S Todo t) (a : ℕ) (oa : Obj S a) (gone : stays S t a ≡ false)
    (body : Body S t.words a (rd S t.words a))
    (b : ℕ) (k : List ℕ) (st : Trace) (cp : Copying S t.words k a b (size0 S a))
    (in_free : (w : ℕ) → b ≤ w → w < b + size0 S a → Room t w) where
  sa : Std S a
  sa = oa.0

  abbrev pub with_copy : Heap
  with_copy = heap st k t.marks (with_bit t.greys b)

  from_new : (c q : ℕ) → Std S c → Cell S t.words c q → Apart q (size0 S c) b (size0 S a)
  from_new c q s e = apart_all q (size0 S c) b (size0 S a) (ok.some c s) (ok.some a sa) (λ w x y. inv.room w c q (in_free w x y) s e)

  -- the cells other than a's own are as they were
  frame : (c q : ℕ) → Std S c → Cell S t.words c q → c ≢ a → rd S k q ≡ rd S t.words q
  frame c q s e n = elim (inv.apart c q a a s sa e (same refl)) [
    | inl x ↦ absurd (n x.0)
    | inr x ↦ cp.others q (size0 S c) (cell_real S (ok) t.words inv.held c q s e) x (from_new c q s e)
  ]

  moves_on : (c d : ℕ) → Std S c → Moved S t.words c d → Moved S k c d
  moves_on c d s g = frame c c s (same refl) (unmoved S t.words a c d body g) ∙ g

  pub copy_still : (c q : ℕ) → Std S c → Cell S t.words c q → c ≢ a → rd S k q ≡ rd S t.words q
  copy_still = frame

  pub copy_far : Apart a (size0 S a) b (size0 S a)
  copy_far = from_new a a sa (same refl)

  pub copy_grows : Grows S t with_copy
  copy_grows = record { marks = λ c h. h; moves = moves_on }

  -- a cell is an old one, or the new one
  moved_back : (c d : ℕ) → Std S c → Moved S k c d → ((c ≡ a) × (d ≡ b)) ⊎ ((c ≢ a) × Moved S t.words c d)
  moved_back c d s g = elim (cases_eq c a) [
    | inl e ↦ inl (e, (cc))
    | inr n ↦ inr (n, sym (frame c c s (same refl) n) ∙ g)
  ]

  pub copy_back : (c d : ℕ) → Std S c → Moved S k c d → ((c ≡ a) × (d ≡ b)) ⊎ ((c ≢ a) × Moved S t.words c d)
  copy_back = moved_back

  cell_back : (c q : ℕ) → Std S c → Cell S k c q → ((c ≡ a) × (q ≡ b)) ⊎ Cell S t.words c q
  cell_back c q s (same e) = inr (same e)
  cell_back c q s (copy g) = elim (moved_back c q s g) [ inl x ↦ inl x | inr x ↦ inr (copy x.1) ]

  held' : (c : ℕ) → Std S c → Held S k c
  held' c s = elim (cases_eq c a) [ inl e ↦ rw e at | inr n ↦ other n (inv.held c s) ]
    where
      at : Held S k a
      at = away b cp.left (body_map S t.words k moves_on a (rd S t.words a) (rd S k b) cp.there body)

      other : c ≢ a → Held S t.words c → Held S k c
      other n (here h) = here (body_map S t.words k moves_on c (rd S t.words c) (rd S k c) (frame c c s (same refl) n) h)
      other n (still w e) = still w (frame c c s (same refl) n ∙ e)
      other n (away d g h) = away d (moves_on c d s g) (body_map S t.words k moves_on c (rd S t.words d) (rd S k d) (frame c d s (copy g) n) h)

  apart' : (c p d q : ℕ) → Std S c → Std S d → Cell S k c p → Cell S k d q → ((c ≡ d) × (p ≡ q)) ⊎ Apart p (size0 S c) q (size0 S d)
  apart' c p d q s r e f = go (cell_back c p s e) (cell_back d q r f)
    where
      new_left : (c p : ℕ) → c ≡ a → p ≡ b → Cell S t.words d q → Apart p (size0 S c) q (size0 S d)
      new_left c p x y f = rw (x, y) (apart_sym q (size0 S d) b (size0 S a) (from_new d q r f))

      new_right : (d q : ℕ) → d ≡ a → q ≡ b → Cell S t.words c p → Apart p (size0 S c) q (size0 S d)
      new_right d q x y e = rw (x, y) (from_new c p s e)

      go : ((c ≡ a) × (p ≡ b)) ⊎ Cell S t.words c p → ((d ≡ a) × (q ≡ b)) ⊎ Cell S t.words d q → ((c ≡ d) × (p ≡ q)) ⊎ Apart p (size0 S c) q (size0 S d)
      go (inl x) (inl y) = inl (x.0 ∙ sym y.0, x.1 ∙ sym y.1)
      go (inl x) (inr f) = inr (new_left c p x.0 x.1 f)
      go (inr e) (inl y) = inr (new_right d q y.0 y.1 e)
      go (inr e) (inr f) = inv.apart c p d q s r e f

  clean' : (lit : bit (with_bit t.greys b) b ≡ true) (c p : ℕ) → Obj S c → Final S with_copy c p
      → ((grey with_copy p ≡ true) ⊎ Todo p) ⊎ Clean S with_copy c (rd S k p)
  clean' lit c p s f = go f
    where
      old : c ≢ a → Final S t c p → ((grey with_copy p ≡ true) ⊎ Todo p) ⊎ Clean S with_copy c (rd S k p)
      old n f = elim (inv.clean c p s f) [
        | inl x ↦ elim x [ inl g ↦ inl (inl (board_keeps t.greys b p g)) | inr d ↦ inl (inr d) ]
        | inr h ↦ inr (clean_grows S t with_copy copy_grows c (rd S t.words p) (rd S k p) (frame c p s.0 (final_cell S t c p f) n) h)
      ]

      go : Final S with_copy c p → ((grey with_copy p ≡ true) ⊎ Todo p) ⊎ Clean S with_copy c (rd S k p)
      go (stay e h) = old (λ (x : c ≡ a). (cc)) (stay e h)
      go (move g) = elim (moved_back c p s.0 g) [
        | inl x ↦ inl (inl (rw x.1 lit))
        | inr x ↦ old x.0 (move x.1)
      ]

  pub copy_ok : Ready S with_copy → ((c : ℕ) → Std S c → Owned S with_copy c) → ((w : ℕ) → Room with_copy w → Room t w × ((w < b) ⊎ (b + size0 S a ≤ w)))
      → 256 ≤ b → b + size0 S a ≤ length t.words → condemns S.plan b ≡ false → b % 256 + size0 S a ≤ 256 → owner0 S (b / 256) ≡ None → owner with_copy (b / 256) ≡ owner0 S (a / 256) → moves S.plan.classes (owner0 S (a / 256)) ≡ true
      → ((s : ℕ) → owner t s ≢ None → owner with_copy s ≡ owner t s) → ((c : ℕ) → grey with_copy c ≡ true → st.low ≤ c) → Fill S with_copy → ((w : ℕ) → owner with_copy (w / 256) ≡ None → get_or k w 0 ≡ 0) → Inv S Todo with_copy
  copy_ok ready own free low high safe seg fresh home mover keep bound fill blank = record {
    long = cp.long ∙ inv.long;
    ready = ready;
    owned = own;
    held = held';
    apart = apart';
    copied = λ c d s g. elim (moved_back c d s g) [
      | inl x ↦ new c d x.0 x.1
      | inr x ↦ (let h = inv.copied c d s x.1 in copied_on S t with_copy c d cp.long refl (keep (d / 256) (λ e. ok.used c s (sym h.home ∙ e))) h)
    ];
    room = λ w c p f s e. elim (cell_back c p s e) [
      | inl x ↦ rw (x.0, x.1) (free w f).1
      | inr x ↦ inv.room w c p (free w f).0 s x
    ];
    greys = λ p h. elim (board_set t.greys b p h) [
      | inl g ↦ place_grows S t with_copy copy_grows p (inv.greys p g)
      | inr e ↦ record { whose = a; std = oa; final = move (rw e cp.left) }
    ];
    bound = bound;
    fill = fill;
    marked = inv.marked;
    blank = blank;
    clean = clean' ((laws_of t.greys).set_same b (omega (arith, ok.some a sa, inv.ready.greys, inv.ready.few, high)));
  }
    where
      new : (c d : ℕ) → c ≡ a → d ≡ b → Copied S with_copy c d
      new c d x y = rw (x, y) (record { low = low; high = rw cp.long high; safe = safe; left = gone; seg = seg; fresh = fresh; home = home; mover = mover })

  -- what was settled reads as it did
  pub copy_keeps : Keeps S t with_copy
  copy_keeps c p s (stay e h) = frame c p s (same e) (λ (x : c ≡ a). (cc))
  copy_keeps c p s (move g) = frame c p s (copy g) (unmoved S t.words a c p body g)
