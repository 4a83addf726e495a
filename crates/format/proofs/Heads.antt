-- Heads and slots, and the readings that they make.
use Rattle.std.proofs.Common.{◌≡◌, ℕ, ◌<◌, ◌≤◌, true, leb, ◌≢◌, ◌⊎◌, List, map, length, get_or, sym, refl, ap, ◌∙◌, subst, inl, inr, arith}
use Rattle.std.specs.List.{range_with_len}
use Rattle.std.proofs.lemmas.Bool.{cond-true, cond-false, and_parts, and_from, leb-true, le-leb, cases_Bool}
use Rattle.std.proofs.lemmas.List.FromFn.{length-map-range_with_len, get_or-map-range_with_len}
use Rattle.format.specs.declared.things.Shape.{Shape}
use Rattle.format.specs.declared.things.Head.{Head}
use Rattle.format.specs.declared.things.Head.TheVariants.{Nothing, Object, Forwarded, Padding}
use Rattle.format.specs.declared.things.Slot.{Slot}
use Rattle.format.specs.Meaning.{Meaning, shape, holds, extent, allowed, longest, in_range, within, seen, slots_hold, read_head, nothing, object, thing, reads, span}
use Rattle.format.proofs.Slots.{all_decides}

-- the slots of an object of this shape
abbrev pub slots_of : Meaning → List ℕ → Shape → List Slot
slots_of m ws s = map (m.slot s ws) (range_with_len 0 s.n)

pub not_nothing : (l : ℕ) (ss : List Slot) → object l ss ≢ nothing
not_nothing l ss e = let z : ◌≡◌ {A = ℕ} 0 1 = cc in omega arith

-- the words that a thing spans are those of its head
pub span_thing : (m : Meaning) (f : Shape → ℕ → Slot) (h : Head) → span m (thing f h) ≡ extent m h
span_thing m f Nothing = refl
span_thing m f (Object s) = ap (λ k. m.size (shape s.layout k)) (length-map-range_with_len (f s) 0 s.n)
span_thing m f (Forwarded k to) = refl
span_thing m f (Padding k) = refl

pub longest_few : (h : Head) → longest h ≤ 256
longest_few Nothing = omega arith
longest_few (Object s) = omega arith
longest_few (Forwarded k to) = omega arith
longest_few (Padding k) = omega arith

-- the two parts of a head's range
module _ (m : Meaning) (h : Head) where
  pub range_allowed : in_range m h ≡ true → allowed m h ≡ true
  range_allowed e = (and_parts (allowed m h) _ e).0

  pub range_extent : in_range m h ≡ true → (1 ≤ extent m h) × (extent m h ≤ longest h)
  range_extent e =
      let p = and_parts (leb 1 (extent m h)) (leb (extent m h) (longest h)) (and_parts (allowed m h) _ e).1 in
      (leb-true _ _ p.0, leb-true _ _ p.1)

  pub range_from : allowed m h ≡ true → 1 ≤ extent m h → extent m h ≤ longest h → in_range m h ≡ true
  range_from a b c = and_from _ _ a (and_from _ _ (le-leb _ _ b) (le-leb _ _ c))

  pub range_some : in_range m h ≡ true → h ≢ Nothing
  range_some e d = let r = range_extent e in omega (arith, r, ap (extent m) d)

pub thing_some : (f : Shape → ℕ → Slot) (h : Head) → h ≢ Nothing → thing f h ≢ nothing
thing_some f Nothing x e = x refl
thing_some f (Object s) x e = not_nothing s.layout (map (f s) (range_with_len 0 s.n)) e
thing_some f (Forwarded k to) x e = let z : ◌≡◌ {A = ℕ} 0 1 = cc in omega arith
thing_some f (Padding k) x e = let z : ◌≡◌ {A = ℕ} 0 1 = cc in omega arith

-- what a reading that is a thing says of the head and the slots
pub record Read (m : Meaning) (ws : List ℕ) (h : Head) : Type 0 where
  pub head : m.head ws ≡ h
  pub range : in_range m h ≡ true
  pub fits : extent m h ≤ length ws
  pub slots : slots_hold m ws h ≡ true

module _ (m : Meaning) (ws : List ℕ) where
  -- ---- from the head and the slots to the reading

  pub seen_is : (h : Head) → m.head ws ≡ h → in_range m h ≡ true → extent m h ≤ length ws → seen m ws ≡ h
  seen_is h e r f = rw e (cond-true (within m (length ws) h) h Nothing (and_from _ _ r (le-leb _ _ f)))

  pub reads_is : (h : Head) → Read m ws h → reads m ws ≡ thing (λ s. m.slot s ws) h
  reads_is h r =
      let o : seen m ws ≡ h = seen_is h r.head r.range r.fits in
      let t : slots_hold m ws (seen m ws) ≡ true = rw o r.slots in
      ap (thing (λ s. m.slot s ws)) (cond-true (slots_hold m ws (seen m ws)) (seen m ws) Nothing t ∙ o)

  pub object_reads : (s : Shape) → m.head ws ≡ Object s → in_range m (Object s) ≡ true → m.size s ≤ length ws → ((i : ℕ) → i < s.n → holds m s i (m.slot s ws i) ≡ true)
      → Read m ws (Object s)
  object_reads s e a f h = record {
    head = e;
    range = a;
    fits = f;
    slots = (all_decides (λ i. holds m s i (m.slot s ws i)) s.n).1 h;
  }

  -- ---- and back

  unseen : seen m ws ≡ Nothing → read_head m ws ≡ Nothing
  unseen e = rw e refl

  -- the head that is read is none, or the thing's own
  pub head_cases : (read_head m ws ≡ Nothing) ⊎ ((read_head m ws ≡ m.head ws) × Read m ws (m.head ws))
  head_cases =
      elim (cases_Bool (within m (length ws) (m.head ws))) [
        | inl t ↦ (
            let o : seen m ws ≡ m.head ws = cond-true (within m (length ws) (m.head ws)) (m.head ws) Nothing t in
            let p = and_parts (in_range m (m.head ws)) (leb (extent m (m.head ws)) (length ws)) t in
            elim (cases_Bool (slots_hold m ws (seen m ws))) [
              | inl k ↦ inr (
                cond-true (slots_hold m ws (seen m ws)) (seen m ws) Nothing k ∙ o,
                record {
                  head = refl;
                  range = p.0;
                  fits = leb-true _ _ p.1;
                  slots = rw o at k;
                },
              )
              | inr k ↦ inl (cond-false (slots_hold m ws (seen m ws)) (seen m ws) Nothing k)
            ])
        | inr f ↦ inl (unseen (cond-false (within m (length ws) (m.head ws)) (m.head ws) Nothing f))
      ]

  -- what is seen is nothing, or takes a word at least and lies within the words
  pub seen_cases : (seen m ws ≡ Nothing) ⊎ ((in_range m (seen m ws) ≡ true) × (extent m (seen m ws) ≤ length ws))
  seen_cases =
      elim (cases_Bool (within m (length ws) (m.head ws))) [
        | inl t ↦ (
            let o : seen m ws ≡ m.head ws = cond-true (within m (length ws) (m.head ws)) (m.head ws) Nothing t in
            let p = and_parts (in_range m (m.head ws)) (leb (extent m (m.head ws)) (length ws)) t in
            inr (rw o p.0, rw o (leb-true _ _ p.1)))
        | inr f ↦ inl (cond-false (within m (length ws) (m.head ws)) (m.head ws) Nothing f)
      ]

  pub seen_inside : extent m (seen m ws) ≤ length ws
  seen_inside = elim seen_cases [ inl e ↦ rw e (omega arith) | inr r ↦ r.1 ]

  pub seen_some : seen m ws ≢ Nothing → 1 ≤ extent m (seen m ws)
  seen_some x = elim seen_cases [ inl e ↦ absurd (x e) | inr r ↦ (range_extent m (seen m ws) r.0).0 ]

  pub nothing_from : read_head m ws ≡ Nothing → reads m ws ≡ nothing
  nothing_from e = ap (thing (λ s. m.slot s ws)) e

  pub read_back : reads m ws ≢ nothing → Read m ws (m.head ws)
  read_back x = elim head_cases [ inl e ↦ absurd (x (nothing_from e)) | inr r ↦ r.1 ]

  -- a head that is read takes a word at least, and lies within the words
  pub head_inside : read_head m ws ≢ Nothing → (1 ≤ extent m (read_head m ws)) × (extent m (read_head m ws) ≤ length ws)
  head_inside x =
      elim head_cases [
        | inl e ↦ absurd (x e)
        | inr r ↦ rw r.0 ((range_extent m (m.head ws) r.1.range).0, r.1.fits)
      ]

  pub span_read : reads m ws ≢ nothing → span m (reads m ws) ≡ extent m (m.head ws)
  span_read x = ap (span m) (reads_is (m.head ws) (read_back x)) ∙ span_thing m (λ s. m.slot s ws) (m.head ws)

-- what an object's reading says of its words
pub record ObjectRead (m : Meaning) (ws : List ℕ) (l : ℕ) (ss : List Slot) : Type 0 where
  pub read : Read m ws (Object (shape l (length ss)))
  pub slots : ss ≡ slots_of m ws (shape l (length ss))

module _ (m : Meaning) (ws : List ℕ) (l : ℕ) (ss : List Slot) where
  same_shape : (s : Shape) → object s.layout (slots_of m ws s) ≡ object l ss → s ≡ shape l (length ss)
  same_shape s e =
      let p : s.layout ≡ l = cc in
      let q : slots_of m ws s ≡ ss = cc in
      let r : s.n ≡ length ss = sym (length-map-range_with_len (m.slot s ws) 0 s.n) ∙ ap length q in
      λ i. record { layout = p i; n = r i }

  object_back : (h : Head) → Read m ws h → thing (λ s. m.slot s ws) h ≡ object l ss → ObjectRead m ws l ss
  object_back Nothing r e = absurd (not_nothing l ss (sym e))
  object_back (Object s) r e =
      let q : slots_of m ws s ≡ ss = cc in
      let k : s ≡ shape l (length ss) = same_shape s e in
      record {
        read = subst (λ (x : Shape). Read m ws (Object x)) k r;
        slots = sym q ∙ ap (slots_of m ws) k;
      }
  object_back (Forwarded k to) r e = absurd (let z : ◌≡◌ {A = ℕ} 0 1 = cc in omega arith)
  object_back (Padding k) r e = absurd (let z : ◌≡◌ {A = ℕ} 0 1 = cc in omega arith)

  pub object_read : reads m ws ≡ object l ss → ObjectRead m ws l ss
  object_read e =
      let x : reads m ws ≢ nothing = λ d. not_nothing l ss (sym e ∙ d) in
      object_back (m.head ws) (read_back m ws x) (sym (reads_is m ws (m.head ws) (read_back m ws x)) ∙ e)

  pub object_slot : ObjectRead m ws l ss → (i : ℕ) (d : Slot) → i < length ss → get_or ss i d ≡ m.slot (shape l (length ss)) ws i
  object_slot r i d b =
      ap (λ z. get_or z i d) r.slots ∙ get_or-map-range_with_len (m.slot (shape l (length ss)) ws) 0 (length ss) i i d b (omega arith)

  pub object_holds : ObjectRead m ws l ss → (i : ℕ) → i < length ss → holds m (shape l (length ss)) i (m.slot (shape l (length ss)) ws i) ≡ true
  object_holds r i b =
      (all_decides (λ k. holds m (shape l (length ss)) k (m.slot (shape l (length ss)) ws k)) (length ss)).0 r.read.slots i b
