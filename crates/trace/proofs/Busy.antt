-- The objects still to be dealt with grow no more.
use Rattle.std.proofs.Common.{◌≡◌, ℕ, suc, ◌+◌, ◌<◌, ◌≤◌, Bool, true, false, not, ◌&&◌, ◌||◌, ◌≢◌, ◌⊎◌, List, length, get_or, sym, refl, ◌∙◌, subst, inl, inr, arith}
use borrow.Author.Tests.{both_ways}
use Rattle.std.proofs.lemmas.Bool.{cases_eq, and_parts, or_cases, or_parts, or_right, not-true, false_from_ne_true}
use Rattle.format.specs.declared.things.Slot.{Slot}
use Rattle.format.specs.declared.things.Slot.TheVariants.{Number}
use Rattle.format.specs.Meaning.{Thing, nothing, object, forwarded, padding}
use Rattle.arena.proofs.BoardLaws.{laws_of}
use Rattle.trace.specs.declared.state.Trace.{Trace}
use Rattle.trace.specs.Traces.{Heap, ungreyed}
use Rattle.trace.specs.Keeping.{stands}
use Rattle.trace.proofs.Cells.{slots_of, marked, grey, stays, rd, Start, Std, size0, slots0, Obj, Fits, same, Names, Final, stay, move, Body, Room, Inv, Sound}
use Rattle.trace.proofs.Facts.{stays_grow, board_set, board_drop, final_cell, one_cell}
use Rattle.trace.proofs.Counting.{count, count_mono, count_less, count_swap}
use Rattle.trace.proofs.Copying.{Copying, with_copy, copy_still, copy_far}
use Rattle.trace.proofs.Putting.{put_words, final_body, Putting, put_still}

abbrev pub is_object : Thing → Bool
is_object nothing = false
is_object (object l ss) = true
is_object (forwarded n b) = false
is_object (padding n) = false

-- an object that is neither to stay nor moved
abbrev pub loose : Start → Heap → ℕ → Bool
loose S t w = stands S.meaning S.space w && (is_object (rd S t.words w) && not (stays S t w))

abbrev pub busy : Start → Heap → ℕ → Bool
busy S t w = loose S t w || grey t w

abbrev pub pot : Start → Heap → ℕ
pot S t = count (busy S t) (length S.space.words)

pub record Loose (S : Start) (t : Heap) (w : ℕ) : Type 0 where
  pub std : Std S w
  pub thing : is_object (rd S t.words w) ≡ true
  pub goes : stays S t w ≡ false

busy_is : (S : Start) (t : Heap) (w : ℕ) → busy S t w ≡ true → Loose S t w ⊎ (grey t w ≡ true)
busy_is S t w h = elim (or_cases (loose S t w) (grey t w) h) [
  | inl x ↦ (let a = and_parts _ _ x in let b = and_parts _ _ a.1 in inl (record { std = a.0; thing = b.0; goes = not-true _ b.1 }))
  | inr y ↦ inr y
]

busy_loose : (S : Start) (t : Heap) (w : ℕ) → Loose S t w → busy S t w ≡ true
busy_loose S t w l = rw (l.std, l.thing, l.goes) refl

busy_grey : (S : Start) (t : Heap) (w : ℕ) → grey t w ≡ true → busy S t w ≡ true
busy_grey S t w h = or_right (loose S t w) (grey t w) h

pub busy_off : (S : Start) (t : Heap) (w : ℕ) → busy S t w ≡ false → grey t w ≡ false
busy_off S t w h = (or_parts (loose S t w) (grey t w) h).1

not_busy : (S : Start) (t : Heap) (w : ℕ) → (Loose S t w → ⊥) → (grey t w ≡ true → ⊥) → busy S t w ≡ false
not_busy S t w f g = false_from_ne_true (busy S t w) (λ e. elim (busy_is S t w e) [ inl l ↦ f l | inr h ↦ g h ])

stays_back : (S : Start) (t u : Heap) (a : ℕ) → (marked t a ≡ true → marked u a ≡ true) → stays S u a ≡ false → stays S t a ≡ false
stays_back S t u a f h = false_from_ne_true (stays S t a) (λ k. both_ways (stays S u a) h (stays_grow S t u a f k))

object_is : (S : Start) (m : List ℕ) (a p : ℕ) → Body S m a (rd S m p) → is_object (rd S m p) ≡ true
object_is S m a p b = rw b.shape refl

object_not : (x : Thing) (n b : ℕ) → x ≡ forwarded n b → is_object x ≡ true → ⊥
object_not x n b e h = cc

pub mark_falls : (S : Start) (t : Heap) (a : ℕ) → Std S a → stays S t a ≡ false → Body S t.words a (rd S t.words a) → (u : Heap) → u.words ≡ t.words
    → ((c : ℕ) → marked t c ≡ true → marked u c ≡ true) → ((c : ℕ) → grey u c ≡ true → (grey t c ≡ true) ⊎ (c ≡ a)) → pot S u ≤ pot S t
mark_falls S t a s gone b u em mk gr = count_mono (busy S t) (busy S u) (length S.space.words) (λ w h. elim (busy_is S u w h) [
  | inl l ↦ busy_loose S t w (record { std = l.std; thing = rw (← em) l.thing; goes = stays_back S t u w (mk w) l.goes })
  | inr g ↦ elim (gr w g) [
    | inl k ↦ busy_grey S t w k
    | inr e ↦ subst (λ (x : ℕ). busy S t x ≡ true) (sym e) (busy_loose S t a (record { std = s; thing = object_is S t.words a a b; goes = gone }))
  ]
])

-- an object that is where it will be is loose no more
not_loose : (S : Start) (ok : Sound S) (Todo : ℕ → Type 0) (t : Heap) → Inv S Todo t → (p : ℕ) → Std S p → is_object (rd S t.words p) ≡ true → stays S t p ≡ false → grey t p ≡ true → ⊥
not_loose S ok Todo t inv p s o n h =
    let pl = inv.greys p h in
    let e : p ≡ pl.whose = one_cell S ok Todo t inv pl.whose p p p pl.std.0 s (final_cell S t pl.whose p pl.final) (same refl) refl in
    elim (subst (λ (x : ℕ). Final S t x p) (sym e) pl.final) [
      | stay f k ↦ both_ways (stays S t p) n k
      | move g ↦ object_not (rd S t.words p) (size0 S p) p g o
    ]

module _ (S : Start) (ok : Sound S) (Todo : ℕ → Type 0) (t : Heap) (inv : Inv S Todo t) (a : ℕ) (oa : Obj S a) (gone : stays S t a ≡ false)
    (body : Body S t.words a (rd S t.words a))
    (b : ℕ) (k : List ℕ) (st : Trace) (cp : Copying S t.words k a b (size0 S a))
    (in_free : (w : ℕ) → b ≤ w → w < b + size0 S a → Room t w) where
  abbrev u : Heap
  u = with_copy S ok Todo t inv a oa gone body b k st cp in_free

  pub copy_falls : pot S u ≤ pot S t
  copy_falls = count_swap (busy S t) (busy S u) (length S.space.words) a b
      (λ w n h. elim (busy_is S u w h) [
        | inl l ↦ (let na : w ≢ a = λ e. object_not (rd S k a) (size0 S a) b cp.left (rw (← e) l.thing) in
            busy_loose S t w (record { std = l.std; goes = l.goes; thing = rw (← copy_still S ok Todo t inv a oa gone body b k st cp in_free w w l.std (same refl) na) l.thing }))
        | inr g ↦ busy_grey S t w (sym ((laws_of t.greys).set_other b w n) ∙ g)
      ])
      (omega (arith, ok.inside a oa.0, ok.seg a oa.0, ok.some a oa.0))
      (busy_loose S t a (record { std = oa.0; thing = object_is S t.words a a body; goes = gone }))
      (not_busy S u a (λ l. object_not (rd S k a) (size0 S a) b cp.left l.thing)
      (λ g. elim (board_set t.greys b a g) [ inl x ↦ not_loose S ok Todo t inv a oa.0 (object_is S t.words a a body) gone x | inr e ↦ far e ]))
    where
      far : a ≡ b → ⊥
      far e = elim (copy_far S ok Todo t inv a oa gone body b k st cp in_free) [ inl h ↦ omega (arith, ok.some a oa.0) | inr h ↦ omega (arith, ok.some a oa.0) ]

pub reframe_falls : (S : Start) (t : Heap) (k : List ℕ) → ((c : ℕ) → Std S c → rd S k c ≡ rd S t.words c) → pot S (put_words t k) ≤ pot S t
reframe_falls S t k f = count_mono (busy S t) (busy S (put_words t k)) (length S.space.words) (λ w h. elim (busy_is S (put_words t k) w h) [
  | inl l ↦ busy_loose S t w (record { std = l.std; thing = rw (← f w l.std) l.thing; goes = l.goes })
  | inr g ↦ busy_grey S t w g
])

module _ (S : Start) (ok : Sound S) (Todo : ℕ → Type 0) (t : Heap) (inv : Inv S Todo t) (a p : ℕ) (oa : Obj S a) (fin : Final S t a p) (todo : Todo p)
    (k : List ℕ) (i : ℕ) (x : Slot) (pt : Putting S t.words k p (size0 S a) i x)
    (inside : i < length (slots_of (rd S t.words p))) (fits : Fits (Names S t.words) (get_or (slots0 S a) i (Number 0)) x) where
  pub put_falls : pot S (put_words t k) ≤ pot S t
  put_falls = count_mono (busy S t) (busy S (put_words t k)) (length S.space.words) (λ w h. elim (busy_is S (put_words t k) w h) [
    | inl l ↦ elim (cases_eq w p) [
      | inl e ↦ busy_loose S t w (record { std = l.std; goes = l.goes; thing = rw e (object_is S t.words a p (final_body S Todo t inv a p oa fin)) })
      | inr n ↦ busy_loose S t w (record { std = l.std; goes = l.goes; thing = rw (← put_still S ok Todo t inv a p oa fin todo k i x pt inside fits w w l.std (same refl) n) l.thing })
    ]
    | inr g ↦ busy_grey S t w g
  ])

-- so a round leaves less to do
pub ungrey_falls : (S : Start) (ok : Sound S) (Todo : ℕ → Type 0) (t : Heap) → Inv S Todo t → (p : ℕ) → grey t p ≡ true → p < length S.space.words → suc (pot S (ungreyed t p)) ≤ pot S t
ungrey_falls S ok Todo t inv p h l = count_less (busy S t) (busy S (ungreyed t p)) (length S.space.words) p
    (λ w g. elim (busy_is S (ungreyed t p) w g) [ inl x ↦ busy_loose S t w (record { std = x.std; thing = x.thing; goes = x.goes }) | inr x ↦ busy_grey S t w (board_drop t.greys p w x) ])
    l (busy_grey S t p h)
    (not_busy S (ungreyed t p) p (λ x. not_loose S ok Todo t inv p x.std x.thing x.goes h)
    (λ g. both_ways (grey (ungreyed t p) p) ((laws_of t.greys).cleared_same p) g))
