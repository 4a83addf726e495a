-- A new arena is sound.
use Rattle.std.proofs.Common.{◌≡◌, ℕ, zero, suc, ◌+◌, ◌*◌, ◌/◌, ◌%◌, true, ◌&&◌, eqb, leb, List, length, replicate, sym, refl, ap, ◌∙◌, inl, inr, None}
use borrow.Author.Tests.{both_ways}
use Rattle.std.proofs.lemmas.Bool.{cases_Bool, eqb-true, leb-true, and_parts}
use Rattle.std.proofs.lemmas.List.{length-replicate}
use Rattle.format.specs.Meaning.{Meaning}
use Rattle.arena.specs.Segments.{Owner, all_free, owner_of}
use Rattle.arena.specs.Buffers.{no_buffer, padded_part}
use Rattle.trace.specs.declared.state.Class.{Class}
use Rattle.trace.specs.Collections.{buffers_closed, all_buffers_closed}
use Rattle.trace.specs.Collect.{fits}
use Rattle.trace.specs.Keeping.{Space, space, is_owned, is_base, stands, Sound, NewArenasSound}
use Rattle.trace.proofs.Facts.{get_or_all}
use Rattle.trace.proofs.Spots.{pool_not_free}

nowhere : (m : Meaning) (ws : List ℕ) → padded_part m 0 0 ws ≡ ws
nowhere m ws = elim (cases_Bool (leb 0 0 && leb 0 (length ws))) [ inl e ↦ rw e refl | inr e ↦ rw e refl ]

-- no buffer has words
none_closed : (m : Meaning) (ws : List ℕ) (k : ℕ) → buffers_closed m (replicate 8 no_buffer) ws k ≡ ws
none_closed m ws zero = refl
none_closed m ws (suc k) = rw (get_or_all 8 k no_buffer) (nowhere m (buffers_closed m (replicate 8 no_buffer) ws k) ∙ none_closed m ws k)

pub unclosed : (m : Meaning) (ws : List ℕ) → all_buffers_closed m (replicate 8 no_buffer) ws ≡ ws
unfolding all_buffers_closed
unclosed m ws = none_closed m ws 8

unowned : (s : ℕ) → owner_of all_free s ≡ None
unowned s = get_or_all 256 s None

module _ (m : Meaning) (classes : List Class) (len : ℕ) (f : fits m len (len / 32) (len / 32) ≡ true) where
  abbrev x : Space
  x = space (replicate len 0) all_free

  nothing_stands : (a : ℕ) → stands m x a ≡ true → ⊥
  nothing_stands a h =
      let o = (and_parts (is_owned (owner_of all_free (a / 256))) (is_base m (replicate len 0) (a / 256 * 256 + 256) 256 (a / 256 * 256) a) h).0 in
      both_ways (is_owned (owner_of all_free (a / 256))) (ap is_owned (unowned (a / 256))) o

  p : (eqb (len % 256) 0 ≡ true) × (leb len 65536 ≡ true) × (leb len (m.greatest_address + 1) ≡ true)
  p =
      let a = and_parts (eqb (len % 256) 0) _ f in
      let b = and_parts (leb 1024 len) _ a.1 in
      let c = and_parts (leb len 65536) _ b.1 in
      (a.0, c.0, (and_parts (leb len (m.greatest_address + 1)) _ c.1).0)

  pub sound : Sound m classes x
  sound = record {
    whole = rw (length-replicate {A = ℕ} len 0) (eqb-true (len % 256) 0 p.0, leb-true len 65536 p.1, leb-true len (m.greatest_address + 1) p.2);
    owners = length-replicate {A = Owner} 256 None;
    first = unowned 0;
    owned = λ s p e. absurd (pool_not_free p (owner_of all_free s) e (unowned s));
    rows = λ s p e. absurd (pool_not_free p (owner_of all_free s) e (unowned s));
    leads = λ a l i ss o. absurd (nothing_stands a o.0);
    leaves = λ a l i p ss o. absurd (nothing_stands a o.0);
    blank = λ w e. get_or_all len w 0;
  }

pub new_arenas_sound : NewArenasSound
new_arenas_sound m classes len f =
    let e = unclosed m (replicate len 0) in
    let n = ap (λ (k : ℕ). replicate {A = ℕ} (k / 32) 0) (sym (length-replicate {A = ℕ} len 0)) in
    record {
      space = rw e (sound m classes len f);
      registers = λ i l. inl (get_or_all 16 i 0);
      marks = n;
      greys = n;
    }
