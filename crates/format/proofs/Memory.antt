-- Readings in a memory of which a part is rewritten.
use Rattle.std.proofs.Common.{◌≡◌, ℕ, ◌+◌, ◌<◌, ◌≤◌, true, leb, ◌≢◌, ◌⊎◌, List, ◌++◌, length, get_or, take, drop, set, replicate, sym, ap, ◌∙◌, subst, inl, inr, arith, rules}
use borrow.Rule.Slice.PartMut.{put_mid}
use Rattle.std.proofs.lemmas.Bool.{and_parts, leb-true}
use Rattle.std.proofs.lemmas.List.{length-replicate, length-take-le, length-drop, drop_at, drop-take, places, take-take, take-append-le}
use Rattle.std.proofs.lemmas.List.FromFn.{length-map-range_with_len}
use Rattle.std.proofs.lemmas.Slice.{drop-put_mid, take-put_mid_below, overwrites}
use Rattle.format.specs.declared.things.Shape.{Shape}
use Rattle.format.specs.declared.things.Head.TheVariants.{Object}
use Rattle.format.specs.declared.things.Slot.{Slot}
use Rattle.format.specs.Meaning.{Meaning, shape, holds, blank, blanks, in_range, Thing, nothing, object, forwarded, padding, reads, thing_at, span}
use Rattle.format.specs.Laws.{Lawful, Leaves, part, rewritten, Readings}
use Rattle.format.proofs.Heads.{longest_few, range_allowed, range_extent, not_nothing, read_back, span_read, object_read, object_slot, object_holds}

-- ---- lists

module _ (a k : ℕ) (xs ys : List ℕ) (fits : a + k ≤ length xs) (long : length ys ≡ k) where
  front : length (take a xs) ≡ a
  front = length-take-le a xs (omega arith)

  pub length_put : length (put_mid a k xs ys) ≡ length xs
  length_put = search (rules, overwrites)

  pub drop_put : drop a (put_mid a k xs ys) ≡ ys ++ drop k (drop a xs)
  drop_put = drop_at (take a xs) (ys ++ drop k (drop a xs)) a front

  pub get_or_put_outside : (j : ℕ) → (j < a) ⊎ (a + k ≤ j) → get_or (put_mid a k xs ys) j 0 ≡ get_or xs j 0
  get_or_put_outside j (inl b) = search (rules, places)
  get_or_put_outside j (inr b) = search (rules, places)

  -- the words before the part stay
  pub part_before : (b n : ℕ) → b + n ≤ a → part b n (put_mid a k xs ys) ≡ part b n xs
  part_before b n h = sym (drop-take b n (put_mid a k xs ys)) ∙ ap (drop b) (take-put_mid_below a k xs ys (b + n) h (omega arith)) ∙ drop-take b n xs

-- ---- things

module _ (m : Meaning) (w : Lawful m) where
  pub thing_spans : (ws : List ℕ) → reads m ws ≢ nothing → (1 ≤ span m (reads m ws)) × (span m (reads m ws) ≤ 256) × (span m (reads m ws) ≤ length ws)
  thing_spans ws x =
      let r = read_back m ws x in
      let e = span_read m ws x in
      let q = range_extent m (m.head ws) r.range in
      (omega (arith, e, q.0), omega (arith, e, q.1, longest_few (m.head ws)), omega (arith, e, r.fits))

  -- a thing's own words read as the memory does there
  pub own_part : (k : ℕ) (ws : List ℕ) → reads m ws ≢ nothing → span m (reads m ws) ≡ k → reads m (take k ws) ≡ reads m ws
  own_part k ws x e = w.own ws (take k ws) x (rw e (take-take k k ws (omega arith)))

  -- words that read as a thing read so with others after them
  pub own_front : (ys zs : List ℕ) → reads m ys ≢ nothing → reads m (ys ++ zs) ≡ reads m ys
  own_front ys zs x = w.own ys (ys ++ zs) x (take-append-le (span m (reads m ys)) ys zs (thing_spans ys x).2)

  pub leaves : (xs : List ℕ) (a k : ℕ) (t : Thing) (ys : List ℕ) → a + k ≤ length xs → length ys ≡ k → reads m ys ≡ t → t ≢ nothing
      → Leaves m xs a k t (put_mid a k xs ys)
  leaves xs a k t ys f l e x = record {
    here = ap (reads m) (drop_put a k xs ys f l) ∙ own_front ys (drop k (drop a xs)) (λ d. x (sym e ∙ d)) ∙ e;
    long = length_put a k xs ys f l;
    words = get_or_put_outside a k xs ys f l;
    elsewhere = λ b y o. elim o [
      | inl p ↦ w.own (drop b xs) (drop b (put_mid a k xs ys)) y (part_before a k xs ys f l b (span m (thing_at m xs b)) p)
      | inr p ↦ ap (reads m) (drop-put_mid a k xs ys b p (omega arith) l)
    ];
  }

  module _ (xs : List ℕ) (a l : ℕ) (ss : List Slot) (e : thing_at m xs a ≡ object l ss) where
    stands : thing_at m xs a ≢ nothing
    stands d = not_nothing l ss (sym e ∙ d)

    abbrev size : ℕ
    size = m.size (shape l (length ss))

    spans : span m (thing_at m xs a) ≡ size
    spans = ap (span m) e

    inside : a + size ≤ length xs
    inside = let t = thing_spans (drop a xs) stands in omega (arith, t, spans, length-drop a xs)

    own_length : length (part a size xs) ≡ size
    own_length = length-take-le size (drop a xs) (omega (arith, inside, length-drop a xs))

    own_reads : reads m (part a size xs) ≡ object l ss
    own_reads = own_part size (drop a xs) stands spans ∙ e

    pub sets_leave : (i : ℕ) (x : Slot) → i < length ss → holds m (shape l (length ss)) i x ≡ true
        → Leaves m xs a size (object l (set ss i x)) (rewritten (m.with_slot (shape l (length ss)) i x) a size xs)
    sets_leave i x b h =
        let r = w.sets (part a size xs) l ss i x own_reads own_length b h in
        leaves xs a size (object l (set ss i x)) _ inside (r.0 ∙ own_length) r.1 (not_nothing l (set ss i x))

    pub forwards_leave : (to : ℕ) → 256 ≤ to → to ≤ m.greatest_address
        → Leaves m xs a size (forwarded size to) (rewritten (m.forwarding to) a size xs)
    forwards_leave to b h =
        let r = w.forwards (part a size xs) l ss to own_reads own_length b h in
        leaves xs a size (forwarded size to) _ inside (r.0 ∙ own_length) (r.1 ∙ ap (λ k. forwarded k to) own_length)
        (λ d. let z : ◌≡◌ {A = ℕ} 0 1 = cc in omega arith)

  object_sizes : (s : Shape) → in_range m (Object s) ≡ true → (s.layout ≤ 255) × (s.n ≤ 255) × (1 ≤ m.size s) × (m.size s ≤ 128)
  object_sizes s e =
      let p = and_parts (leb s.layout 255) (leb s.n 255) (and_parts (m.admits s) _ (range_allowed m (Object s) e)).1 in
      let q = range_extent m (Object s) e in
      (leb-true _ _ p.0, leb-true _ _ p.1, q.0, q.1)

  -- an admitted object can be made, so its shape is in range
  sizes : (s : Shape) → m.admits s ≡ true → (s.layout ≤ 255) × (s.n ≤ 255) × (1 ≤ m.size s) × (m.size s ≤ 128)
  sizes s a =
      let ws = replicate (m.size s) 0 in
      let r = w.makes s ws a (length-replicate {A = ℕ} (m.size s) 0) in
      let o = object_read m (m.made s ws) s.layout (blanks m s) r.1 in
      let k : length (blanks m s) ≡ s.n = length-map-range_with_len (λ i. blank (m.kind s i)) 0 s.n in
      object_sizes s (subst (λ (n : ℕ). in_range m (Object (shape s.layout n)) ≡ true) k o.read.range)

  pub readings : Readings m
  readings = record {
    own = λ xs ys a b x e. w.own (drop a xs) (drop b ys) x e;
    spans = λ xs a x. (let t = thing_spans (drop a xs) x in (t.0, t.1, omega (arith, t, length-drop a xs)));
    admits = λ xs a l ss e.
        (let r = object_read m (drop a xs) l ss e in
        ((and_parts (m.admits (shape l (length ss))) _ (range_allowed m (Object (shape l (length ss))) r.read.range)).0, λ i d b. rw (object_slot m (drop a xs) l ss r i d b) (object_holds m (drop a xs) l ss r i b)));
    sizes = sizes;
    makes = λ xs a s h f.
        (let n : length (part a (m.size s) xs) ≡ m.size s = length-take-le (m.size s) (drop a xs) (omega (arith, length-drop a xs)) in
        let r = w.makes s (part a (m.size s) xs) h n in
        leaves xs a (m.size s) (object s.layout (blanks m s)) _ f (r.0 ∙ n) r.1 (not_nothing s.layout (blanks m s)));
    sets = λ xs a l ss i x e b h. sets_leave xs a l ss e i x b h;
    forwards = λ xs a l ss to e b h. forwards_leave xs a l ss e to b h;
    pads = λ xs a k p q f.
        (let n : length (part a k xs) ≡ k = length-take-le k (drop a xs) (omega (arith, length-drop a xs)) in
        let r = w.pads (part a k xs) (omega arith) (omega arith) in
        leaves xs a k (padding k) _ f (r.0 ∙ n) (r.1 ∙ ap padding n) (λ d. let z : ◌≡◌ {A = ℕ} 0 1 = cc in omega arith));
  }
