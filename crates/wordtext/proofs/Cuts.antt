-- Lemmas on the pieces of a text and their words
use Rattle.std.proofs.Common.{◌≡◌, ℕ, suc, ◌+◌, ◌-◌, ◌<◌, ◌≤◌, true, false, eqb, List, [], ◌∷◌, length, get_or, take, drop, Some, None, refl, ap, ◌∙◌, inl, inr, arith}
use Rattle.std.proofs.lemmas.List.{drop_more, drop-drop, get_or-drop, drop_all, take_rest, length-drop}
use Rattle.std.proofs.lemmas.Bool.{cases_Bool, cond_both, cond-true, cond-false, eq-eqb, ne_eqb, not_from_true, not_from_false}
use Rattle.std.proofs.lemmas.List.Quantifiers.{position-Some}
use Rattle.std.proofs.lemmas.Bool.Decides.{nat_tests}
use Rattle.std.specs.List.{prefix_len, position, position_or_len}
use Rattle.wordtext.specs.Texts.{white, dark, Piece, with_byte, pieces, Longest}

abbrev pub piece : ℕ → List ℕ → Piece
piece p bs = record { place = p; bytes = bs }

-- no piece begins before the place
abbrev Later : ℕ → List Piece → Type 0
Later place [] = Unit {0}
Later place (p ∷ ps) = place ≤ p.place

later_less : (m n : ℕ) (ps : List Piece) → m ≤ n → Later n ps → Later m ps
later_less m n [] le h = tt
later_less m n (p ∷ ps) le h = omega arith

later_with : (place b : ℕ) (ps : List Piece) → Later place (with_byte place b ps)
later_with place b [] = omega arith
later_with place b (p ∷ ps) = cond_both (eqb p.place (place + 1)) _ _ (Later place) (λ _. omega arith) (λ _. omega arith)

later : (place : ℕ) (bs : List ℕ) → Later place (pieces place bs)
later place [] = tt
later place (b ∷ bs) =
    cond_both (white b) _ _ (Later place)
    (λ _. later_less place (place + 1) (pieces (place + 1) bs) (omega arith) (later (place + 1) bs))
    (λ _. later_with place b (pieces (place + 1) bs))

-- where a piece does not begin right after it, a byte is a piece
with_apart : (place b : ℕ) (ps : List Piece) → Later (place + 2) ps → with_byte place b ps ≡ piece place (b ∷ []) ∷ ps
with_apart place b [] h = refl
with_apart place b (p ∷ ps) h = cond-false _ _ _ (ne_eqb p.place (place + 1) (λ e. omega arith))

leading_yes : (b : ℕ) (bs : List ℕ) → white b ≡ false → prefix_len dark (b ∷ bs) ≡ 1 + prefix_len dark bs
leading_yes b bs e = cond-true _ _ _ (not_from_false (white b) e)

leading_no : (b : ℕ) (bs : List ℕ) → white b ≡ true → prefix_len dark (b ∷ bs) ≡ 0
leading_no b bs e = cond-false _ _ _ (not_from_true (white b) e)

-- a piece goes on to the next white space
pub cut : Longest
cut place b [] e = cond-false _ _ _ e
cut place b (c ∷ cs) e =
    elim (cases_Bool (white c)) [
      | inl is ↦
          let n = leading_no c cs is in
          let z : place + 1 + 0 ≡ place + 1 = omega arith in
          let next : pieces (place + 1) (c ∷ cs) ≡ pieces (place + 1 + 1) cs = cond-true _ _ _ is in
          cond-false _ _ _ e
          ∙ with_apart place b (pieces (place + 1) (c ∷ cs))
          (rw next (later_less (place + 2) (place + 1 + 1) (pieces (place + 1 + 1) cs) (omega arith) (later (place + 1 + 1) cs)))
          ∙ rw (n, z)
      | inr is ↦
          let n : prefix_len dark (c ∷ cs) ≡ suc (prefix_len dark cs) = leading_yes c cs is ∙ omega arith in
          let z : place + 1 + suc (prefix_len dark cs) ≡ place + 1 + 1 + prefix_len dark cs = omega arith in
          cond-false _ _ _ e
          ∙ ap (with_byte place b) (cut (place + 1) c cs is)
          ∙ cond-true _ _ _ (eq-eqb (place + 1) (place + 1) refl)
          ∙ rw (n, z)
    ]

-- white space is passed over
skip : (place : ℕ) (bs : List ℕ) → pieces place bs ≡ pieces (place + position_or_len dark bs) (drop (position_or_len dark bs) bs)
skip place [] = refl
skip place (b ∷ bs) =
    elim (cases_Bool (white b)) [
      | inl is ↦
          let n : position_or_len dark (b ∷ bs) ≡ suc (position_or_len dark bs) = rw is (omega arith) in
          let z : place + suc (position_or_len dark bs) ≡ place + 1 + position_or_len dark bs = omega arith in
          cond-true _ _ _ is ∙ skip (place + 1) bs ∙ rw (n, z)
      | inr is ↦
          let n : position_or_len dark (b ∷ bs) ≡ 0 = rw is in
          let z : place + 0 ≡ place = omega arith in
          rw (n, z)
    ]

-- the pieces from a place on, where one begins there
go : (text : List ℕ) (at : ℕ) → at < length text → white (get_or text at 0) ≡ false
    → pieces at (drop at text)
    ≡ piece at (take (prefix_len dark (drop at text)) (drop at text)) ∷ pieces (at + prefix_len dark (drop at text)) (drop (at + prefix_len dark (drop at text)) text)
go text at lt is =
    let b = get_or text at 0 in
    let n = prefix_len dark (drop (at + 1) text) in
    let d = drop_more text at 0 lt in
    let m : prefix_len dark (drop at text) ≡ suc n = rw d (leading_yes b (drop (at + 1) text) is ∙ omega arith) in
    let f : at + suc n ≡ at + 1 + n = omega arith in
    rw (m, f) (ap (pieces at) d ∙ cut at b (drop (at + 1) text) is ∙ rw (drop-drop n (at + 1) text, d))

-- the pieces from a place on, by where the first of them begins and ends, as the search for it sees the text
module _ (text : List ℕ) (at : ℕ) where
  pub no_piece : position dark (take (length text - at) (drop at text)) ≡ None → pieces at (drop at text) ≡ []
  no_piece e =
      let h : position dark (drop at text) ≡ None = rw take_rest at e in
      let n : length (drop at text) ≤ position_or_len dark (drop at text) = grind (arith, nat_tests) in
      skip at (drop at text) ∙ ap (λ bs. pieces (at + position_or_len dark (drop at text)) bs) (drop_all _ (drop at text) n)

  pub next_piece : (k n : ℕ) → position dark (take (length text - at) (drop at text)) ≡ Some k → n ≡ prefix_len dark (take (length text - (at + k)) (drop (at + k) text))
      → pieces at (drop at text) ≡ piece (at + k) (take (at + k + n - (at + k)) (drop (at + k) text)) ∷ pieces (at + k + n) (drop (at + k + n) text)
  next_piece k n e l =
      let h : position dark (drop at text) ≡ Some k = rw take_rest at e in
      let m : n ≡ prefix_len dark (drop (at + k) text) = l ∙ ap (prefix_len dark) (take_rest text (at + k)) in
      let first = position-Some dark (drop at text) k 0 h in
      let p : position_or_len dark (drop at text) ≡ k = grind (arith, nat_tests) in
      let is : white (get_or text (at + k) 0) ≡ false = grind (arith, first.1, get_or-drop at text k 0) in
      let z : at + k + n - (at + k) ≡ n = omega arith in
      skip at (drop at text) ∙ rw p (rw drop-drop (go text (at + k) (omega (arith, first.0, length-drop at text)) is ∙ rw (z, m)))
