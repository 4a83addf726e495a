-- What a head says of a thing that stands.
use Rattle.std.proofs.Common.{◌≡◌, ℕ, ◌+◌, ◌-◌, ◌<◌, ◌≤◌, ◌≢◌, List, length, get_or, drop, sym, refl, ◌∙◌, arith}
use Rattle.std.proofs.lemmas.List.{take-take}
use Rattle.format.specs.declared.things.Shape.{Shape}
use Rattle.format.specs.declared.things.Head.{Head}
use Rattle.format.specs.declared.things.Head.TheVariants.{Nothing, Object, Forwarded, Padding}
use Rattle.format.specs.declared.things.Slot.{Slot}
use Rattle.format.specs.Meaning.{Meaning, shape, seen, Thing, nothing, object, forwarded, padding, thing, reads, thing_at}
use Rattle.format.specs.Laws.{Lawful, part}
use Rattle.format.proofs.Heads.{seen_is, reads_is, read_back, object_read, object_slot}
use Rattle.trace.proofs.Facts.{Real, real_object, real_forwarded, real_padding}

seen_thing : (m : Meaning) (ws : List ℕ) → reads m ws ≢ nothing → (seen m ws ≡ m.head ws) × (reads m ws ≡ thing (λ s. m.slot s ws) (m.head ws))
seen_thing m ws x =
    let r = read_back m ws x in
    (seen_is m ws (m.head ws) r.head r.range r.fits, reads_is m ws (m.head ws) r)

is_forwarded : (f : Shape → ℕ → Slot) (h : Head) (k to : ℕ) → thing f h ≡ forwarded k to → h ≡ Forwarded k to
is_forwarded f Nothing k to e = cc
is_forwarded f (Object s) k to e = cc
is_forwarded f (Forwarded j b) k to e = let p : j ≡ k = cc in let q : b ≡ to = cc in rw (p, q) refl
is_forwarded f (Padding j) k to e = cc

is_padding : (f : Shape → ℕ → Slot) (h : Head) (k : ℕ) → thing f h ≡ padding k → h ≡ Padding k
is_padding f Nothing k e = cc
is_padding f (Object s) k e = cc
is_padding f (Forwarded j b) k e = cc
is_padding f (Padding j) k e = let p : j ≡ k = cc in rw p refl

module _ (m : Meaning) (laws : Lawful m) (ws : List ℕ) (a : ℕ) where
  -- as many words as the thing takes, or more, read as all do
  pub part_reads : (k n : ℕ) → Real m (thing_at m ws a) n → n ≤ k → reads m (part a k ws) ≡ thing_at m ws a
  part_reads k n r l =
      laws.own (drop a ws) (part a k ws) r.real
      (rw r.span (take-take n k (drop a ws) l))

  module _ (limit n : ℕ) (fits : a + n ≤ limit) where
    whole : Real m (thing_at m ws a) n → reads m (part a (limit - a) ws) ≡ thing_at m ws a
    whole r = part_reads (limit - a) n r (omega arith)

    seen_here : (x : Thing) → thing_at m ws a ≡ x → Real m x n
        → (seen m (part a (limit - a) ws) ≡ m.head (part a (limit - a) ws)) × (thing (λ s. m.slot s (part a (limit - a) ws)) (m.head (part a (limit - a) ws)) ≡ x)
    seen_here x e r =
        let r' : Real m (thing_at m ws a) n = rw e r in
        let w : reads m (part a (limit - a) ws) ≡ x = whole r' ∙ e in
        let s = seen_thing m (part a (limit - a) ws) (λ z. r.real (sym w ∙ z)) in
        (s.0, sym s.1 ∙ w)

    pub seen_forwarded : (to : ℕ) → thing_at m ws a ≡ forwarded n to → seen m (part a (limit - a) ws) ≡ Forwarded n to
    seen_forwarded to e =
        let s = seen_here (forwarded n to) e (real_forwarded m (forwarded n to) n to refl) in
        s.0 ∙ is_forwarded _ (m.head (part a (limit - a) ws)) n to s.1

    pub seen_padding : thing_at m ws a ≡ padding n → seen m (part a (limit - a) ws) ≡ Padding n
    seen_padding e =
        let s = seen_here (padding n) e (real_padding m (padding n) n refl) in
        s.0 ∙ is_padding _ (m.head (part a (limit - a) ws)) n s.1

  module _ (l : ℕ) (ss : List Slot) (e : thing_at m ws a ≡ object l ss) where
    pub seen_object : (limit : ℕ) → a + m.size (shape l (length ss)) ≤ limit → seen m (part a (limit - a) ws) ≡ Object (shape l (length ss))
    seen_object limit h =
        let w = part_reads (limit - a) (m.size (shape l (length ss))) (real_object m (thing_at m ws a) l ss e) (omega arith) ∙ e in
        let r = (object_read m (part a (limit - a) ws) l ss w).read in
        seen_is m (part a (limit - a) ws) (Object (shape l (length ss))) r.head r.range r.fits

    pub slot_here : (i : ℕ) (d : Slot) → i < length ss → m.slot (shape l (length ss)) (part a (m.size (shape l (length ss))) ws) i ≡ get_or ss i d
    slot_here i d h =
        let w = part_reads (m.size (shape l (length ss))) (m.size (shape l (length ss))) (real_object m (thing_at m ws a) l ss e) (omega arith) ∙ e in
        sym (object_slot m (part a (m.size (shape l (length ss))) ws) l ss (object_read m (part a (m.size (shape l (length ss))) ws) l ss w) i d h)
