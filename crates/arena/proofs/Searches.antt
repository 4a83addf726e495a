-- Searches that go up one by one.
use Rattle.std.proofs.Common.{◌≡◌, ℕ, zero, suc, ◌+◌, ◌-◌, cond, List, find, is_none, Some, None, Option, refl, ap, ◌∙◌, inl, inr, arith}
use Rattle.arena.specs.declared.segments.Segments.{Segments}
use Rattle.format.specs.Meaning.{Meaning}
use Rattle.arena.specs.declared.buffers.Buffer.{Buffer}
use Rattle.std.proofs.lemmas.Bool.{cases_eq}
use Rattle.std.specs.List.{range_with_len}
use Rattle.arena.specs.Segments.{Owner, owner_of, free_or, free_among}
use Rattle.arena.specs.Runs.{run_of, run_among}
use Rattle.arena.proofs.Firsts.{First}

free_first : (o : Owner) (s : ℕ) {rest here : Option ℕ} → rest ≡ here → cond (is_none o) (Some s) rest ≡ free_or o s here
free_first None s e = refl
free_first (Some p) s e = e

-- the first free of k segments from s on
pub free_found : (g : Segments) (k s : ℕ) → find (λ i. is_none (owner_of g i)) (range_with_len s k) ≡ free_among k g s
free_found g zero s = refl
free_found g (suc k) s = free_first (owner_of g s) s (free_found g k (s + 1))

-- the first run of k segments from s on
module _ (m : Meaning) (g : Segments) (bs : List Buffer) (ws : List ℕ) (p size : ℕ) where
  abbrev at : ℕ → Option Buffer
  at = run_of m g bs ws p size

  pub run_found : (k s n : ℕ) (r : Option Buffer) → n - s ≡ k → First at s n r → run_among k m g bs ws p size s ≡ r
  run_found zero s n None e f = refl
  run_found zero s n (Some r) e f = absurd (omega (arith, f.1, f.2))
  run_found (suc k) s n None e f = rw (f s (omega arith) (omega arith)) (run_found k (s + 1) n None (omega arith) (λ j a b. f j (omega arith) b))
  run_found (suc k) s n (Some r) e f =
      elim (cases_eq s f.0) [
        | inl q ↦ (let h : at s ≡ Some r = ap at q ∙ f.3 in rw h)
        | inr ne ↦ (
            let h : at s ≡ None = f.4 s (omega arith) (omega (arith, f.1)) in
            rw h (run_found k (s + 1) n (Some r) (omega arith) (f.0, omega (arith, f.1), f.2, f.3, λ j a b. f.4 j (omega arith) b)))
      ]
