-- An array that is made by a function of the index, which changes nothing that it captures.
use Rattle.std.proofs.Common.{◌≡◌, ℕ, zero, suc, ◌+◌, ◌<◌, ◌≤◌, inl, inr, List, map, get_or, refl, ap, ◌∙◌, sym, arith}
use Rattle.std.proofs.lemmas.Bool.{cases_lt}
use Rattle.std.proofs.lemmas.List.FromFn.{fill_by_all}
use Rattle.std.specs.List.{range_with_len}
use Rattle.std.specs.Array.{IsFromFnResult, IsFromFnResultFrom}
use denote.Param.Members.{Mut, Called}

module _ {F B : Type 0} (g : Mut F (ℕ × Unit {0}) B) (f : F) (v : ℕ → B)
    (call : (p q : F) (i : ℕ) (y : B) → p ≡ f → Called g p (i, tt) y q → (y ≡ v i) × (q ≡ f)) where
  entries : (p : F) (ys : List B) (i n : ℕ) → p ≡ f → IsFromFnResultFrom g p ys i n → (k : ℕ) (d : B) → i ≤ k → k < i + n → get_or ys k d ≡ v k
  entries p ys i zero s h k d l u = absurd (omega arith)
  entries p ys i (suc n) s h k d l u =
      let w = call p h.0 i h.1 s h.3 in
      elim (cases_lt i k) [
        | inl past ↦ entries h.0 ys (i + 1) n w.1 h.4 k d (omega arith) (omega arith)
        | inr there ↦ (let e : i ≡ k = omega arith in ap (λ j. get_or ys j d) (sym e) ∙ h.2.1 d ∙ w.0 ∙ ap v e)
      ]

  pub table : (ys : List B) (n : ℕ) (d : B) → IsFromFnResult g f ys n → ys ≡ map v (range_with_len 0 n)
  table ys n d r = fill_by_all v ys n d r.long (λ k l. entries f ys 0 n refl r.each k d (omega arith) (omega arith))
