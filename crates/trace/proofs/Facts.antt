-- Small facts about things, cells and tests.
use Rattle.std.proofs.Common.{◌≡◌, ℕ, ◌/◌, ◌%◌, ◌^◌, ◌≤◌, true, false, not, eqb, ◌≢◌, ◌⊎◌, List, length, get_or, replicate, sym, refl, ap, ◌∙◌, inl, inr, arith}
use lib.Bits.{bit_or}
use borrow.Author.Tests.{both_ways, eqb-false}
use Rattle.std.proofs.lemmas.Bool.{cases_lt, cases_eq, or_parts, or_right, not-false, ne_eqb}
use Rattle.std.proofs.lemmas.Bool.Decides.{nat_tests}
use Rattle.std.proofs.lemmas.List.{get_or-set_same, set_past, length-replicate, get_or-replicate, get_or_past}
use Rattle.format.specs.declared.things.Slot.{Slot}
use Rattle.format.specs.declared.things.Slot.TheVariants.{Number}
use Rattle.format.specs.Meaning.{Meaning, shape, Thing, nothing, object, forwarded, padding, span}
use Rattle.arena.specs.Boards.{bit, with_bit, without_bit}
use Rattle.arena.proofs.Bits.{set_same}
use Rattle.arena.proofs.BoardLaws.{laws_of}
use Rattle.trace.specs.Traces.{condemns, Heap}
use Rattle.trace.proofs.Cells.{slots_of, owner, marked, stays, rd, Start, Std, size0, layout0, slots0, fits_map, Moved, Cell, same, copy, Names, null, names, Final, stay, move, Settled, empty, settled, Body, Held, here, away, still, Clean, Copied, Owned, Place, Grows, Inv, Sound}

pub object_not_forwarded : (x : Thing) (l n b : ℕ) (ss : List Slot) → x ≡ object l ss → x ≡ forwarded n b → ⊥
object_not_forwarded x l n b ss e f = cc

pub same_address : (x : Thing) (k n a b : ℕ) → x ≡ forwarded k a → x ≡ forwarded n b → a ≡ b
same_address x k n a b e f = cc

-- a thing, and its extent
pub record Real (M : Meaning) (x : Thing) (k : ℕ) : Type 0 where
  pub real : x ≢ nothing
  pub span : span M x ≡ k

pub real_object : (M : Meaning) (x : Thing) (l : ℕ) (ss : List Slot) → x ≡ object l ss → Real M x (M.size (shape l (length ss)))
real_object M x l ss e = record { real = λ f. (cc); span = rw e refl }

pub real_forwarded : (M : Meaning) (x : Thing) (n b : ℕ) → x ≡ forwarded n b → Real M x n
real_forwarded M x n b e = record { real = λ f. (cc); span = rw e refl }

pub real_padding : (M : Meaning) (x : Thing) (n : ℕ) → x ≡ padding n → Real M x n
real_padding M x n e = record { real = λ f. (cc); span = rw e refl }

pub object_not_padding : (x : Thing) (l n : ℕ) (ss : List Slot) → x ≡ object l ss → x ≡ padding n → ⊥
object_not_padding x l n ss e f = cc

pub get_or_all : {A : Type 0} (n i : ℕ) (x : A) → get_or (replicate n x) i x ≡ x
get_or_all n i x = elim (cases_lt i n) [ inl l ↦ get_or-replicate n i x x l | inr l ↦ get_or_past (replicate n x) i x (omega (arith, length-replicate n x)) ]

-- tests
module _ (S : Start) where
  pub stays_by_zone : (t : Heap) (a : ℕ) → condemns S.plan a ≡ false → stays S t a ≡ true
  stays_by_zone t a e = or_right (eqb a 0) _ (rw e refl)

  pub stays_by_mark : (t : Heap) (a : ℕ) → marked t a ≡ true → stays S t a ≡ true
  stays_by_mark t a e = or_right (eqb a 0) _ (or_right _ _ e)

  -- with no fewer marks
  pub stays_grow : (t u : Heap) (a : ℕ) → (marked t a ≡ true → marked u a ≡ true) → stays S t a ≡ true → stays S u a ≡ true
  stays_grow t u a f h = grind (arith, nat_tests)

  pub same_stays : (t u : Heap) (c : ℕ) → marked u c ≡ marked t c → stays S u c ≡ stays S t c
  same_stays t u c f = rw f refl

  pub record Leaves (t : Heap) (a : ℕ) : Type 0 where
    pub set : condemns S.plan a ≡ true
    pub unmarked : marked t a ≡ false
    pub real : 1 ≤ a

  pub leaves : (t : Heap) (a : ℕ) → stays S t a ≡ false → Leaves t a
  leaves t a h =
      let r = or_parts (eqb a 0) _ h in
      let k = or_parts (not (condemns S.plan a)) _ r.1 in
      let n = eqb-false a 0 r.0 in
      record { set = not-false _ k.0; unmarked = k.1; real = omega arith }

  pub not_staying : (t : Heap) (a : ℕ) → 1 ≤ a → condemns S.plan a ≡ true → marked t a ≡ false → stays S t a ≡ false
  not_staying t a l c k = rw (ne_eqb a 0 (omega arith), c, k) refl

  pub stays_zero : (t : Heap) (a : ℕ) → a ≡ 0 → stays S t a ≡ true
  stays_zero t a e = rw e refl

-- boards
pub board_keeps : (b : List ℕ) (a c : ℕ) → bit b c ≡ true → bit (with_bit b a) c ≡ true
board_keeps b a c h = elim (cases_eq c a) [
  | inl e ↦ elim (cases_lt (a / 32) (length b)) [
    | inl l ↦ rw (e, get_or-set_same b (a / 32) (bit_or (get_or b (a / 32) 0) (2 ^ (a % 32))) 0 l) (set_same (get_or b (a / 32) 0) (a % 32))
    | inr l ↦ rw (set_past b (a / 32) (bit_or (get_or b (a / 32) 0) (2 ^ (a % 32))) l) h
  ]
  | inr n ↦ (laws_of b).set_other a c n ∙ h
]

pub board_set : (b : List ℕ) (a c : ℕ) → bit (with_bit b a) c ≡ true → (bit b c ≡ true) ⊎ (c ≡ a)
board_set b a c h = elim (cases_eq c a) [ inl e ↦ inr e | inr n ↦ inl (sym ((laws_of b).set_other a c n) ∙ h) ]

pub board_drop : (b : List ℕ) (a c : ℕ) → bit (without_bit b a) c ≡ true → bit b c ≡ true
board_drop b a c h = elim (cases_eq c a) [
  | inl e ↦ absurd (both_ways _ ((laws_of b).cleared_same a) (rw e at h))
  | inr n ↦ sym ((laws_of b).cleared_other a c n) ∙ h
]

-- what a thing keeps as the trace goes on
module _ (S : Start) where
  pub cell_map : (m k : List ℕ) → ((a b : ℕ) → Std S a → Moved S m a b → Moved S k a b) → (a p : ℕ) → Std S a → Cell S m a p → Cell S k a p
  cell_map m k f a p s (same e) = same e
  cell_map m k f a p s (copy e) = copy (f a p s e)

  pub names_map : (m k : List ℕ) → ((a b : ℕ) → Std S a → Moved S m a b → Moved S k a b) → (r v : ℕ) → Names S m r v → Names S k r v
  names_map m k f r v (null e g) = null e g
  names_map m k f r v (names s c) = names s (cell_map m k f r v s.0 c)

  pub final_grows : (t u : Heap) → Grows S t u → (a p : ℕ) → Std S a → Final S t a p → Final S u a p
  final_grows t u g a p s (stay e h) = stay e (stays_grow S t u a (g.marks a) h)
  final_grows t u g a p s (move e) = move (g.moves a p s e)

  pub settled_grows : (t u : Heap) → Grows S t u → (r v : ℕ) → Settled S t r v → Settled S u r v
  settled_grows t u g r v (empty e h) = empty e h
  settled_grows t u g r v (settled s f) = settled s (final_grows t u g r v s.0 f)

  pub clean_grows : (t u : Heap) → Grows S t u → (a : ℕ) (x y : Thing) → y ≡ x → Clean S t a x → Clean S u a y
  clean_grows t u g a x y e h = rw e (λ i. fits_map (settled_grows t u g) (get_or (slots0 S a) i (Number 0)) (get_or (slots_of x) i (Number 0)) (h i))

  pub body_map : (m k : List ℕ) → ((a b : ℕ) → Std S a → Moved S m a b → Moved S k a b) → (a : ℕ) (x y : Thing) → y ≡ x → Body S m a x → Body S k a y
  body_map m k f a x y e h =
      rw e (record {
        was = h.was;
        shape = h.shape;
        many = h.many;
        names = λ i. fits_map (names_map m k f) (get_or (slots0 S a) i (Number 0)) (get_or (slots_of x) i (Number 0)) (h.names i);
      })

  pub grows_refl : (t : Heap) → Grows S t t
  grows_refl t = record { marks = λ a h. h; moves = λ a b s h. h }

  pub grows_trans : (t u v : Heap) → Grows S t u → Grows S u v → Grows S t v
  grows_trans t u v g h = record { marks = λ a e. h.marks a (g.marks a e); moves = λ a b s e. h.moves a b s (g.moves a b s e) }

  pub place_grows : (t u : Heap) → Grows S t u → (p : ℕ) → Place S t p → Place S u p
  place_grows t u g p x = record { whose = x.whose; std = x.std; final = final_grows t u g x.whose p x.std.0 x.final }

  pub final_cell : (t : Heap) (a p : ℕ) → Final S t a p → Cell S t.words a p
  final_cell t a p (stay e h) = same e
  final_cell t a p (move e) = copy e

  module _ (ok : Sound S) where
    pub body_real : (m : List ℕ) (a : ℕ) (x : Thing) → Body S m a x → Real S.meaning x (size0 S a)
    body_real m a x h =
        let r = real_object S.meaning x (layout0 S a) (slots_of x) h.shape in
        let e : S.meaning.size (shape (layout0 S a) (length (slots_of x))) ≡ S.meaning.size (shape (layout0 S a) (length (slots0 S a))) = rw h.many refl in
        let o : size0 S a ≡ S.meaning.size (shape (layout0 S a) (length (slots0 S a))) = rw h.was refl in
        record { real = r.real; span = r.span ∙ e ∙ sym o }

    -- two objects are not in one place
    pub one_cell : (Todo : ℕ → Type 0) (t : Heap) → Inv S Todo t → (a c p q : ℕ) → Std S a → Std S c → Cell S t.words a p → Cell S t.words c q → q ≡ p → c ≡ a
    one_cell Todo t inv a c p q s r f g e = elim (inv.apart c q a p r s g f) [
      | inl y ↦ y.0
      | inr y ↦ absurd (elim y [ inl z ↦ omega (arith, ok.some c r) | inr z ↦ omega (arith, ok.some a s) ])
    ]

    pub body_size : (ws : List ℕ) (a : ℕ) (x : Thing) → Body S ws a x → S.meaning.size (shape (layout0 S a) (length (slots_of x))) ≡ size0 S a
    body_size ws a x h = sym (ap (span S.meaning) h.shape) ∙ (body_real ws a x h).span

    pub cell_real : (m : List ℕ) → ((a : ℕ) → Std S a → Held S m a) → (a p : ℕ) → Std S a → Cell S m a p → Real S.meaning (rd S m p) (size0 S a)
    cell_real m f a p s c = go (f a s) c
      where
        go : Held S m a → Cell S m a p → Real S.meaning (rd S m p) (size0 S a)
        go (here b) (same e) = rw e (body_real m a (rd S m a) b)
        go (here b) (copy e) = cc
        go (still w f) (same e) = rw e (real_padding S.meaning (rd S m a) (size0 S a) f)
        go (still w f) (copy e) = cc
        go (away q g b) (same e) = rw e (real_forwarded S.meaning (rd S m a) (size0 S a) q g)
        go (away q g b) (copy e) = rw (← same_address (rd S m a) (size0 S a) (size0 S a) q p g e) (body_real m a (rd S m q) b)

-- a copy, and the pool of an object, are what they were where the owners are
pub copied_on : (S : Start) (t u : Heap) (a b : ℕ) → length u.words ≡ length t.words → stays S u a ≡ stays S t a → owner u (b / 256) ≡ owner t (b / 256) → Copied S t a b → Copied S u a b
copied_on S t u a b long left own h =
    record {
      low = h.low;
      high = omega (arith, long, h.high);
      safe = h.safe;
      left = left ∙ h.left;
      seg = h.seg;
      fresh = h.fresh;
      home = own ∙ h.home;
      mover = h.mover;
    }

pub owned_on : (S : Start) (t u : Heap) (a : ℕ) → owner u (a / 256) ≡ owner t (a / 256) → Owned S t a → Owned S u a
owned_on S t u a own o = record { pool = o.pool; is = own ∙ o.is; was = o.was; leaf = o.leaf }
