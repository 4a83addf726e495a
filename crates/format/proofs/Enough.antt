-- Facts on single heads and slots that are enough for a format to be lawful.
use Rattle.std.proofs.Common.{◌≡◌, ℕ, ◌<◌, ◌≤◌, true, ◌≢◌, List, length, get_or, take, set, sym, refl, ap, ◌∙◌, inl, inr, arith}
use Rattle.std.proofs.lemmas.Bool.{and_from, and_parts, le-leb, cases_eq}
use Rattle.std.proofs.lemmas.List.{length-take, length-set, get_or-take, get_or-set_same, get_or-set_other}
use Rattle.std.proofs.lemmas.List.FromFn.{fill_by_all}
use Rattle.format.specs.declared.things.Shape.{Shape}
use Rattle.format.specs.declared.things.Head.{Head}
use Rattle.format.specs.declared.things.Head.TheVariants.{Nothing, Object, Forwarded, Padding}
use Rattle.format.specs.declared.things.Slot.{Slot}
use Rattle.format.specs.declared.things.Kind.{Kind}
use Rattle.format.specs.declared.things.Kind.TheVariants.{References, Numbers, Both}
use Rattle.format.specs.Meaning.{Meaning, shape, may_hold, holds, blank, blanks, extent, in_range, nothing, object, forwarded, padding, thing, reads, span}
use Rattle.format.specs.Laws.{Makes, Lawful}
use Rattle.format.proofs.Slots.{same_map, all_decides}
use Rattle.format.proofs.Heads.{slots_of, range_allowed, range_extent, range_from, Read, reads_is, read_back, span_read, object_reads, ObjectRead, object_read, object_slot, object_holds}

-- two lists of words that agree in the first k
abbrev pub Alike : ℕ → List ℕ → List ℕ → Type 0
Alike k vs ws = (j : ℕ) → j < k → get_or vs j 0 ≡ get_or ws j 0

pub record Enough (m : Meaning) : Type 0 where
  pub ranges : (s : Shape) → m.admits s ≡ true → (s.layout ≤ 255) × (s.n ≤ 255) × (1 ≤ m.size s) × (m.size s ≤ 128)
  pub own_head : (ws vs : List ℕ) → 1 ≤ extent m (m.head ws) → Alike (extent m (m.head ws)) vs ws → m.head vs ≡ m.head ws
  pub own_slot : (ws vs : List ℕ) (s : Shape) → m.head ws ≡ Object s → Alike (m.size s) vs ws → (i : ℕ) → i < s.n → m.slot s vs i ≡ m.slot s ws i
  pub made_length : (s : Shape) (ws : List ℕ) → length (m.made s ws) ≡ length ws
  pub made_head : (s : Shape) (ws : List ℕ) → m.admits s ≡ true → length ws ≡ m.size s → m.head (m.made s ws) ≡ Object s
  pub made_slot : (s : Shape) (ws : List ℕ) → m.admits s ≡ true → length ws ≡ m.size s → (i : ℕ) → i < s.n → m.slot s (m.made s ws) i ≡ blank (m.kind s i)
  pub set_length : (s : Shape) (i : ℕ) (x : Slot) (ws : List ℕ) → length (m.with_slot s i x ws) ≡ length ws
  pub set_head : (s : Shape) (i : ℕ) (x : Slot) (ws : List ℕ) → m.head ws ≡ Object s → length ws ≡ m.size s → i < s.n → holds m s i x ≡ true
      → m.head (m.with_slot s i x ws) ≡ Object s
  pub set_same : (s : Shape) (i : ℕ) (x : Slot) (ws : List ℕ) → m.head ws ≡ Object s → length ws ≡ m.size s → i < s.n → holds m s i x ≡ true
      → m.slot s (m.with_slot s i x ws) i ≡ x
  pub set_other : (s : Shape) (i : ℕ) (x : Slot) (ws : List ℕ) → m.head ws ≡ Object s → length ws ≡ m.size s → i < s.n → holds m s i x ≡ true
      → (j : ℕ) → j < s.n → j ≢ i → m.slot s (m.with_slot s i x ws) j ≡ m.slot s ws j
  pub forward_length : (to : ℕ) (ws : List ℕ) → length (m.forwarding to ws) ≡ length ws
  pub forward_head : (s : Shape) (to : ℕ) (ws : List ℕ) → m.head ws ≡ Object s → length ws ≡ m.size s → m.admits s ≡ true → 256 ≤ to → to ≤ m.greatest_address
      → m.head (m.forwarding to ws) ≡ Forwarded (length ws) to
  pub pad_length : (ws : List ℕ) → length (m.padded ws) ≡ length ws
  pub pad_head : (ws : List ℕ) → 1 ≤ length ws → length ws ≤ 256 → m.head (m.padded ws) ≡ Padding (length ws)

blank_held : (m : Meaning) (k : Kind) → may_hold m k (blank k) ≡ true
blank_held m References = le-leb 0 m.greatest_address (omega arith)
blank_held m Numbers = le-leb 0 m.greatest_number (omega arith)
blank_held m Both = le-leb 0 m.greatest_address (omega arith)

module _ (m : Meaning) (w : Enough m) where
  object_is : (ws : List ℕ) (s : Shape) → Read m ws (Object s) → reads m ws ≡ object s.layout (slots_of m ws s)
  object_is ws s r = reads_is m ws (Object s) r

  -- ---- reading depends on own words

  alike : (k : ℕ) (ws vs : List ℕ) → take k vs ≡ take k ws → Alike k vs ws
  alike k ws vs e j b = sym (get_or-take k vs j 0 b) ∙ ap (λ z. get_or z j 0) e ∙ get_or-take k ws j 0 b

  longer : (k : ℕ) (ws vs : List ℕ) → k ≤ length ws → take k vs ≡ take k ws → k ≤ length vs
  longer k ws vs f e = omega (arith, ap length e, length-take k vs, length-take k ws)

  same_reading : (ws vs : List ℕ) (h : Head) → Read m ws h → m.head vs ≡ h → extent m h ≤ length vs → Alike (extent m h) vs ws
      → thing (λ s. m.slot s vs) h ≡ thing (λ s. m.slot s ws) h
  same_reading ws vs Nothing r e f a = refl
  same_reading ws vs (Object s) r e f a =
      ap (object s.layout) (same_map (blank Both) (m.slot s vs) (m.slot s ws) s.n (w.own_slot ws vs s r.head a))
  same_reading ws vs (Forwarded k to) r e f a = refl
  same_reading ws vs (Padding k) r e f a = refl

  slots_too : (ws vs : List ℕ) (h : Head) → Read m ws h → m.head vs ≡ h → extent m h ≤ length vs → Alike (extent m h) vs ws → Read m vs h
  slots_too ws vs Nothing r e f a = record { head = e; range = r.range; fits = f; slots = refl }
  slots_too ws vs (Object s) r e f a =
      object_reads m vs s e r.range f
      (λ i b. rw (w.own_slot ws vs s r.head a i b) (slot_holds i b))
    where
      slot_holds : (i : ℕ) → i < s.n → holds m s i (m.slot s ws i) ≡ true
      slot_holds i b = (all_decides (λ k. holds m s k (m.slot s ws k)) s.n).0 r.slots i b
  slots_too ws vs (Forwarded k to) r e f a = record { head = e; range = r.range; fits = f; slots = refl }
  slots_too ws vs (Padding k) r e f a = record { head = e; range = r.range; fits = f; slots = refl }

  own : (ws vs : List ℕ) → reads m ws ≢ nothing → take (span m (reads m ws)) vs ≡ take (span m (reads m ws)) ws → reads m vs ≡ reads m ws
  own ws vs x t =
      let r = read_back m ws x in
      let e : take (extent m (m.head ws)) vs ≡ take (extent m (m.head ws)) ws = rw (span_read m ws x) at t in
      let a = alike (extent m (m.head ws)) ws vs e in
      let f = longer (extent m (m.head ws)) ws vs r.fits e in
      let h = w.own_head ws vs (range_extent m (m.head ws) r.range).0 a in
      reads_is m vs (m.head ws) (slots_too ws vs (m.head ws) r h f a)
      ∙ same_reading ws vs (m.head ws) r h f a
      ∙ sym (reads_is m ws (m.head ws) r)

  -- ---- writes

  shape_range : (s : Shape) → m.admits s ≡ true → in_range m (Object s) ≡ true
  shape_range s a =
      let r = w.ranges s a in
      range_from m (Object s) (and_from _ _ a (and_from _ _ (le-leb _ _ r.0) (le-leb _ _ r.1))) r.2 r.3

  range_shape : (s : Shape) → in_range m (Object s) ≡ true → m.admits s ≡ true
  range_shape s e = (and_parts (m.admits s) _ (range_allowed m (Object s) e)).0

  makes : (s : Shape) (ws : List ℕ) → m.admits s ≡ true → length ws ≡ m.size s → Makes m (object s.layout (blanks m s)) ws (m.made s ws)
  makes s ws a l = (
    w.made_length s ws,
    object_is (m.made s ws) s
        (object_reads m (m.made s ws) s (w.made_head s ws a l) (shape_range s a) (omega (arith, w.made_length s ws))
        (λ i b. rw (w.made_slot s ws a l i b) (blank_held m (m.kind s i))))
        ∙ ap (object s.layout) (same_map (blank Both) (m.slot s (m.made s ws)) (λ i. blank (m.kind s i)) s.n (w.made_slot s ws a l)),
  )

  module _ (ws : List ℕ) (l : ℕ) (ss : List Slot) (e : reads m ws ≡ object l ss) (z : length ws ≡ m.size (shape l (length ss))) where
    abbrev sh : Shape
    sh = shape l (length ss)

    abbrev was : ObjectRead m ws l ss
    was = object_read m ws l ss e

    -- what holds of the new value at slot i, and of the others as they were, holds of each slot after
    after_set : (i : ℕ) (x : Slot) → i < length ss → holds m sh i x ≡ true → (P : ℕ → Slot → Type 0) → P i x
        → ((j : ℕ) → j < length ss → j ≢ i → P j (m.slot sh ws j)) → (j : ℕ) → j < length ss → P j (m.slot sh (m.with_slot sh i x ws) j)
    after_set i x b h P p q j c =
        elim (cases_eq j i) [
          | inl d ↦ rw d (rw (w.set_same sh i x ws was.read.head z b h) p)
          | inr d ↦ rw (w.set_other sh i x ws was.read.head z b h j c d) (q j c d)
        ]

    sets : (i : ℕ) (x : Slot) → i < length ss → holds m sh i x ≡ true → Makes m (object l (set ss i x)) ws (m.with_slot sh i x ws)
    sets i x b h =
        let new = m.with_slot sh i x ws in (
          w.set_length sh i x ws,
          object_is new sh
              (object_reads m new sh (w.set_head sh i x ws was.read.head z b h) was.read.range (omega (arith, w.set_length sh i x ws))
              (after_set i x b h (λ j v. holds m sh j v ≡ true) h (λ j c d. object_holds m ws l ss was j c)))
              ∙ ap (object l) (sym (fill_by_all (m.slot sh new) (set ss i x) (length ss) x (length-set ss i x)
              (after_set i x b h (λ j v. get_or (set ss i x) j x ≡ v) (get_or-set_same ss i x x b)
              (λ j c d. get_or-set_other ss i j x x d ∙ object_slot m ws l ss was j x c)))),
        )

    forwards : (to : ℕ) → 256 ≤ to → to ≤ m.greatest_address → Makes m (forwarded (length ws) to) ws (m.forwarding to ws)
    forwards to b h =
        let a = range_shape sh was.read.range in
        let r = w.ranges sh a in (
          w.forward_length to ws,
          reads_is m (m.forwarding to ws) (Forwarded (length ws) to) (record {
            head = w.forward_head sh to ws was.read.head z a b h;
            range = range_from m (Forwarded (length ws) to) (and_from _ _ (le-leb 256 to b) (le-leb to _ h)) (omega arith) (omega arith);
            fits = omega (arith, w.forward_length to ws);
            slots = refl;
          }),
        )

  pads : (ws : List ℕ) → 1 ≤ length ws → length ws ≤ 256 → Makes m (padding (length ws)) ws (m.padded ws)
  pads ws a b = (
    w.pad_length ws,
    reads_is m (m.padded ws) (Padding (length ws)) (record {
      head = w.pad_head ws a b;
      range = range_from m (Padding (length ws)) refl a b;
      fits = omega (arith, w.pad_length ws);
      slots = refl;
    }),
  )

  pub lawful_from : Lawful m
  lawful_from = record {
    own = own;
    makes = makes;
    sets = λ ws l ss i x e z b h. sets ws l ss e z i x b h;
    forwards = λ ws l ss to e z b h. forwards ws l ss e z to b h;
    pads = pads;
  }
