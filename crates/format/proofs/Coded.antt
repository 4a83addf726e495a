-- A format of header and slot words is lawful if its coding reads back what it writes.
use Rattle.std.specs.Prelude.{◌≡◌, ℕ, ◌+◌, ◌≤◌, true, length}
use Rattle.std.proofs.Common.{ap, ◌∙◌, arith}
use Rattle.std.proofs.lemmas.List.{length-set, get_or-set_same, get_or-set_other}
use Rattle.format.specs.declared.things.Shape.{Shape}
use Rattle.format.specs.declared.things.Head.TheVariants.{Object, Forwarded, Padding}
use Rattle.format.specs.declared.things.Slot.{Slot}
use Rattle.format.specs.Meaning.{holds, blank}
use Rattle.format.specs.Laws.{Lawful}
use Rattle.format.proofs.Enough.{Enough, lawful_from}
use Rattle.format.specs.Words.{Coding, coded}
use Rattle.format.proofs.Stamps.{stamped_length, stamped_header, stamped_zero}

pub record ReadsBack (c : Coding) : Type 0 where
  pub ranges : (s : Shape) → c.admits s ≡ true → (s.layout ≤ 255) × (s.n ≤ 127)
  pub object : (s : Shape) → c.admits s ≡ true → c.head_of (c.object_header s) ≡ Object s
  pub forwarded : (k to : ℕ) → 1 ≤ k → k ≤ 128 → 256 ≤ to → to ≤ 65535 → c.head_of (c.forwarded_header k to) ≡ Forwarded k to
  pub padding : (k : ℕ) → 1 ≤ k → k ≤ 256 → c.head_of (c.padding_header k) ≡ Padding k
  pub slot : (s : Shape) (i : ℕ) (x : Slot) → holds (coded c) s i x ≡ true → c.slot_of s i (c.word_of x) ≡ x
  pub zero : (s : Shape) (i : ℕ) → c.slot_of s i 0 ≡ blank (c.kind s i)

module _ (c : Coding) (w : ReadsBack c) where
  enough : Enough (coded c)
  enough = record {
    ranges = λ s a. (let r = w.ranges s a in (r.0, omega (arith, r.1), omega arith, omega (arith, r.1)));
    own_head = λ ws vs e h. ap c.head_of (h 0 e);
    own_slot = λ ws vs s o h i b. ap (c.slot_of s i) (h (i + 1) (omega arith));
    made_length = λ s ws. stamped_length (c.object_header s) ws;
    made_head = λ s ws a l. ap c.head_of (stamped_header (c.object_header s) ws (omega arith)) ∙ w.object s a;
    made_slot = λ s ws a l i b. ap (c.slot_of s i) (stamped_zero (c.object_header s) ws i (omega arith)) ∙ w.zero s i;
    set_length = λ s i x ws. length-set ws (i + 1) (c.word_of x);
    set_head = λ s i x ws o l b h. ap c.head_of (get_or-set_other ws (i + 1) 0 (c.word_of x) 0 (omega arith)) ∙ o;
    set_same = λ s i x ws o l b h. ap (c.slot_of s i) (get_or-set_same ws (i + 1) (c.word_of x) 0 (omega arith)) ∙ w.slot s i x h;
    set_other = λ s i x ws o l b h j d n. ap (c.slot_of s j) (get_or-set_other ws (i + 1) (j + 1) (c.word_of x) 0 (omega arith));
    forward_length = λ to ws. length-set ws 0 (c.forwarded_header (length ws) to);
    forward_head = λ s to ws o l a b h.
        (let r = w.ranges s a in
        ap c.head_of (get_or-set_same ws 0 (c.forwarded_header (length ws) to) 0 (omega arith))
        ∙ w.forwarded (length ws) to (omega arith) (omega (arith, r.1)) b h);
    pad_length = λ ws. stamped_length (c.padding_header (length ws)) ws;
    pad_head = λ ws a b. ap c.head_of (stamped_header (c.padding_header (length ws)) ws a) ∙ w.padding (length ws) a b;
  }

  pub coded_lawful : Lawful (coded c)
  coded_lawful = lawful_from (coded c) enough
