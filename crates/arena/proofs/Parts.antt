-- Parts of words.
use Rattle.std.proofs.Common.{◌≡◌, ℕ, ◌+◌, ◌-◌, ◌*◌, ◌<◌, ◌≤◌, List, length, get_or, take, drop, replicate, Some, None, Option, sym, ap, ◌∙◌, arith}
use borrow.Rule.Slice.PartMut.{put_mid}
use Rattle.std.proofs.lemmas.Bool.{le-leb}
use Rattle.std.proofs.lemmas.List.{get_or-take, get_or-drop, length-take-le, length-drop}
use Rattle.std.specs.Option.{option_map}
use Rattle.arena.specs.Boards.{FirstWord}
use Rattle.arena.specs.Segments.{freed_words}

-- the first word that is not 0, of those from a up to e, found in that part
module _ (b : List ℕ) (a e : ℕ) (inside : e ≤ length b) where
  abbrev part : List ℕ
  part = take (e - a) (drop a b)

  long : length part ≡ e - a
  long = length-take-le (e - a) (drop a b) (omega (arith, length-drop a b))

  in_part : (k : ℕ) → a ≤ k → k < e → get_or part (k - a) 0 ≡ get_or b k 0
  in_part k l u =
      let q : a + (k - a) ≡ k = omega arith in
      get_or-take (e - a) (drop a b) (k - a) 0 (omega arith) ∙ get_or-drop a b (k - a) 0 ∙ ap (λ i. get_or b i 0) q

  pub word_found : (r : Option ℕ) → FirstWord part 0 (length part) r → FirstWord b a e (option_map (λ i. a + i) r)
  word_found None h = λ k l u. sym (in_part k l u) ∙ h (k - a) (omega arith) (omega (arith, long))
  word_found (Some i) h =
      let q : a + i - a ≡ i = omega arith in (
        omega arith,
        omega (arith, long, h.1),
        (λ z. h.2 (ap (λ j. get_or part j 0) (sym q) ∙ in_part (a + i) (omega arith) (omega (arith, long, h.1)) ∙ z)),
        λ k l u. sym (in_part k l (omega (arith, long, h.1))) ∙ h.3 (k - a) (omega arith) (omega arith),
      )

-- a segment whose words were cleared
pub part_freed : (ws own : List ℕ) (s : ℕ) → s * 256 + 256 ≤ length ws → own ≡ replicate (length (take (s * 256 + 256 - s * 256) (drop (s * 256) ws))) 0
    → put_mid (s * 256) (s * 256 + 256 - s * 256) ws own ≡ freed_words ws s
part_freed ws own s l e =
    let k : s * 256 + 256 - s * 256 ≡ 256 = omega arith in
    let n : length (take 256 (drop (s * 256) ws)) ≡ 256 = length-take-le 256 (drop (s * 256) ws) (omega (arith, length-drop (s * 256) ws)) in
    rw (e, k, n, le-leb (s * 256 + 256) (length ws) l)
