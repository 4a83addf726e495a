-- A mark on an object that has not moved keeps the invariant.
use Rattle.std.proofs.Common.{◌≡◌, ℕ, ◌<◌, ◌≤◌, true, ◌≢◌, ◌⊎◌, List, length, sym, refl, ◌∙◌, subst, inl, inr, arith, length-set}
use Rattle.std.proofs.lemmas.Bool.{cases_eq}
use Rattle.arena.specs.Boards.{bit, with_bit, reach}
use Rattle.arena.proofs.BoardLaws.{laws_of}
use Rattle.trace.specs.Traces.{with_low, Heap, heap}
use Rattle.trace.proofs.Cells.{slots_of, grey, rd, Start, size0, layout0, Obj, Moved, Final, stay, move, Body, Clean, Room, unused, ahead, Ready, Fill, Owned, Inv, Grows}
use Rattle.trace.proofs.Facts.{object_not_forwarded, stays_by_mark, same_stays, board_keeps, board_set, clean_grows, place_grows, copied_on, owned_on}

pub unmoved : (S : Start) (ws : List ℕ) (a c b : ℕ) → Body S ws a (rd S ws a) → Moved S ws c b → c ≢ a
unmoved S ws a c b h g e =
    object_not_forwarded (rd S ws a) (layout0 S a) (size0 S c) b (slots_of (rd S ws a)) h.shape (rw (← e) g)

-- the same owners and targets, with another bound
module _ (S : Start) (t : Heap) (low : ℕ) (ms gs : List ℕ) where
  abbrev pub rebound : Heap
  rebound = heap (with_low t.state low) t.words ms gs

  pub room_same : {w : ℕ} → Room rebound w → Room t w
  room_same (unused x y z) = unused x y z
  room_same (ahead p x y z) = ahead p x y z

  pub ready_same : Ready S t → length ms ≡ length t.marks → length gs ≡ length t.greys → Ready S rebound
  ready_same r e f =
      record { whole = r.whole; few = r.few; owned = r.owned; unused = r.unused; marks = omega (arith, e, r.marks); greys = omega (arith, f, r.greys); owners = r.owners; targets = r.targets }

  pub owned_same : {a : ℕ} → Owned S t a → Owned S rebound a
  owned_same {a} o = owned_on S t rebound a refl o

  pub fill_same : Fill S t → Fill S rebound
  fill_same f =
      record {
        aims = f.aims;
        empty = f.empty;
        pools = f.pools;
        low = f.low;
        plain = f.plain;
        fronts = λ s p e o. let x = f.fronts s p e o in record { front = x.front; low = x.low; high = x.high; below = x.below; cover = x.cover; ends = x.ends };
      }

module _ (S : Start) (Todo : ℕ → Type 0) (t : Heap) (inv : Inv S Todo t) (a : ℕ) (oa : Obj S a) (body : Body S t.words a (rd S t.words a))
    (low : ℕ) (gs : List ℕ) (long : length gs ≡ length t.greys) (more : (c : ℕ) → grey t c ≡ true → bit gs c ≡ true)
    (less : (c : ℕ) → bit gs c ≡ true → (grey t c ≡ true) ⊎ (c ≡ a)) (under : (c : ℕ) → bit gs c ≡ true → low ≤ c) (below : a < reach t.marks) where
  abbrev pub with_mark : Heap
  with_mark = rebound S t low (with_bit t.marks a) gs

  pub mark_grows : Grows S t with_mark
  mark_grows = record { marks = λ c h. board_keeps t.marks a c h; moves = λ c b s h. h }

  mark_clean : (now : ((grey with_mark a ≡ true) ⊎ Todo a) ⊎ Clean S with_mark a (rd S t.words a))
      → (c p : ℕ) → Obj S c → Final S with_mark c p → ((grey with_mark p ≡ true) ⊎ Todo p) ⊎ Clean S with_mark c (rd S t.words p)
  mark_clean now c p s f = go f
    where
      old : Final S t c p → ((grey with_mark p ≡ true) ⊎ Todo p) ⊎ Clean S with_mark c (rd S t.words p)
      old f = elim (inv.clean c p s f) [
        | inl x ↦ elim x [ inl g ↦ inl (inl (more p g)) | inr d ↦ inl (inr d) ]
        | inr k ↦ inr (clean_grows S t with_mark mark_grows c (rd S t.words p) (rd S t.words p) refl k)
      ]

      at : (q d : ℕ) → q ≡ a → d ≡ a → ((grey with_mark q ≡ true) ⊎ Todo q) ⊎ Clean S with_mark d (rd S t.words q)
      at q d e g = rw (e, g) now

      go : Final S with_mark c p → ((grey with_mark p ≡ true) ⊎ Todo p) ⊎ Clean S with_mark c (rd S t.words p)
      go (move e) = old (move e)
      go (stay e h) = elim (cases_eq c a) [
        | inl g ↦ at p c (e ∙ g) g
        | inr n ↦ old (stay e (sym (same_stays S t with_mark c ((laws_of t.marks).set_other a c n)) ∙ h))
      ]

  pub mark_ok : ((grey with_mark a ≡ true) ⊎ Todo a) ⊎ Clean S with_mark a (rd S t.words a) → Inv S Todo with_mark
  mark_ok now = record {
    long = inv.long;
    ready = ready_same S t low (with_bit t.marks a) gs inv.ready (length-set t.marks _ _) long;
    owned = λ c s. owned_same S t low (with_bit t.marks a) gs (inv.owned c s);
    held = inv.held;
    apart = inv.apart;
    copied = λ c b s g. copied_on S t with_mark c b refl (same_stays S t with_mark c ((laws_of t.marks).set_other a c (unmoved S t.words a c b body g))) refl (inv.copied c b s g);
    room = λ w c p f. inv.room w c p (room_same S t low (with_bit t.marks a) gs f);
    greys = λ c h. elim (less c h) [
      | inl g ↦ place_grows S t with_mark mark_grows c (inv.greys c g)
      | inr e ↦ record { whose = a; std = oa; final = stay e (stays_by_mark S with_mark a ((laws_of t.marks).set_same a below)) }
    ];
    bound = under;
    fill = fill_same S t low (with_bit t.marks a) gs inv.fill;
    blank = inv.blank;
    marked = λ c h. elim (board_set t.marks a c h) [ inl g ↦ inv.marked c g | inr e ↦ subst (Obj S) (sym e) oa ];
    clean = mark_clean now;
  }
