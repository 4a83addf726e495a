-- Walks along a row, and the runs that they find.
use Rattle.std.proofs.Common.{◌≡◌, ℕ, zero, suc, ◌-◌, ◌<◌, ◌≤◌, ◌&&◌, eqb, ltb, leb, ◌≢◌, ◌⊎◌, List, [], ◌∷◌, ◌++◌, length, Some, None, Option, sym, refl, ap, ◌∙◌, subst, inl, inr, arith}
use Rattle.std.proofs.lemmas.Bool.{cond_both, cond-false, cases_Bool, and_parts, and_left, ltb-true, le-ltb}
use Rattle.std.proofs.lemmas.List.Folds.{find-append}
use Rattle.std.specs.Option.{option_or}
use Rattle.format.specs.declared.things.Head.{Head}
use Rattle.format.specs.declared.things.Head.TheVariants.{Nothing, Object, Forwarded, Padding}
use Rattle.format.specs.Meaning.{Meaning, extent, seen}
use Rattle.format.specs.Laws.{part}
use Rattle.format.proofs.Heads.{seen_some}
use Rattle.arena.specs.declared.buffers.Buffer.{Buffer}
use Rattle.arena.specs.declared.buffers.Step.{Step}
use Rattle.arena.specs.declared.buffers.Step.TheVariants.{Thing, Padding as Pads, Buffer as Passed}
use Rattle.arena.specs.Buffers.{begins, buffer_at, step_over, step_by, step_at}
use Rattle.arena.specs.Runs.{closed, runs_by, runs_from, fits, first_fit, fitting}

-- ---- a step goes on

abbrev pub Onward : ℕ → ℕ → Option Step → Type 0
Onward e a None = Unit {0}
Onward e a (Some (Thing n)) = (a < e) × (a < n)
Onward e a (Some (Pads n)) = (a < e) × (a < n)
Onward e a (Some (Passed n)) = (a < e) × (a < n)

over_onward : (m : Meaning) (e a : ℕ) (h : Head) → a < e → (h ≢ Nothing → 1 ≤ extent m h) → Onward e a (step_over m a h)
over_onward m e a Nothing l x = tt
over_onward m e a (Object s) l x = (l, let o = x (λ d. let z : ◌≡◌ {A = ℕ} 0 1 = cc in omega arith) in omega arith)
over_onward m e a (Forwarded k to) l x = (l, let o = x (λ d. let z : ◌≡◌ {A = ℕ} 0 1 = cc in omega arith) in omega arith)
over_onward m e a (Padding k) l x = (l, let o = x (λ d. let z : ◌≡◌ {A = ℕ} 0 1 = cc in omega arith) in omega arith)

-- what a buffer that begins at a says of its end
abbrev Past : ℕ → Option ℕ → Type 0
Past a None = Unit {0}
Past a (Some n) = a < n

buffer_past : (bs : List Buffer) (a : ℕ) → Past a (buffer_at bs a)
buffer_past [] a = tt
buffer_past (b ∷ bs) a =
    elim (cases_Bool (begins b a)) [
      | inl t ↦ rw t (ltb-true a b.limit (and_parts (eqb b.init a) (ltb a b.limit) t).1)
      | inr f ↦ rw f (buffer_past bs a)
    ]

module _ (m : Meaning) (bs : List Buffer) (ws : List ℕ) (e : ℕ) where
  by_onward : (a : ℕ) (o : Option ℕ) → a < e → Past a o → Onward e a (step_by m ws e a o)
  by_onward a None l p = over_onward m e a (seen m (part a (e - a) ws)) l (seen_some m (part a (e - a) ws))
  by_onward a (Some n) l p = (l, p)

  pub onward : (a : ℕ) → Onward e a (step_at m bs ws e a)
  onward a =
      cond_both (ltb a e && leb e (length ws)) (step_by m ws e a (buffer_at bs a)) None (Onward e a)
      (λ t. by_onward a (buffer_at bs a) (ltb-true a e (and_parts (ltb a e) (leb e (length ws)) t).0) (buffer_past bs a))
      (λ _. tt)

  at_end : (a : ℕ) → e ≤ a → step_at m bs ws e a ≡ None
  at_end a l = cond-false (ltb a e && leb e (length ws)) (step_by m ws e a (buffer_at bs a)) None (and_left (ltb a e) (leb e (length ws)) (le-ltb a e l))

  -- ---- enough steps are enough

  abbrev runs : ℕ → ℕ → ℕ → List Buffer
  runs = runs_from m bs ws e

  stopped : (k run a : ℕ) → step_at m bs ws e a ≡ None → runs k run a ≡ closed run a
  stopped zero run a s = refl
  stopped (suc k) run a s = ap (runs_by (runs k) run a) s

  pub runs_same : (k j run a : ℕ) → e - a ≤ k → e - a ≤ j → runs k run a ≡ runs j run a
  runs_same zero j run a p q = sym (stopped j run a (at_end a (omega arith)))
  runs_same (suc k) zero run a p q = stopped (suc k) run a (at_end a (omega arith))
  runs_same (suc k) (suc j) run a p q = go (step_at m bs ws e a) (onward a) (λ r n l. runs_same k j r n (omega arith) (omega arith))
    where
      go : (s : Option Step) → Onward e a s → ((r n : ℕ) → (a < e) × (a < n) → runs k r n ≡ runs j r n) → runs_by (runs k) run a s ≡ runs_by (runs j) run a s
      go None o h = refl
      go (Some (Thing n)) o h = ap (λ z. closed run a ++ z) (h n n o)
      go (Some (Pads n)) o h = h run n o
      go (Some (Passed n)) o h = ap (λ z. closed run a ++ z) (h n n o)

  -- one step of a walk
  unrolled : (run a : ℕ) (s : Option Step) → s ≡ step_at m bs ws e a → a < e → runs (e - a) run a ≡ runs_by (runs (e - a - 1)) run a s
  unrolled run a s h l =
      let k : e - a ≡ suc (e - a - 1) = omega arith in
      ap (λ z. runs z run a) k ∙ ap (runs_by (runs (e - a - 1)) run a) (sym h)

  -- what is to be found from a on
  abbrev pub found_from : ℕ → ℕ → ℕ → Option Buffer
  found_from size run a = first_fit size (runs (e - a) run a)

  pub found_stop : (size run a : ℕ) → None ≡ step_at m bs ws e a → found_from size run a ≡ fitting size run a
  found_stop size run a h = ap (first_fit size) (stopped (e - a) run a (sym h))

  pub found_padding : (size run a n : ℕ) → Some (Pads n) ≡ step_at m bs ws e a → found_from size run a ≡ found_from size run n
  found_padding size run a n h =
      let o : Onward e a (Some (Pads n)) = subst (Onward e a) (sym h) (onward a) in
      ap (first_fit size) (unrolled run a (Some (Pads n)) h o.0 ∙ runs_same (e - a - 1) (e - n) run n (omega (arith, o)) (omega (arith, o)))

  found_else : (size run a n : ℕ) → (a < e) × (a < n) → runs (e - a) run a ≡ closed run a ++ runs (e - a - 1) n n
      → found_from size run a ≡ option_or (fitting size run a) (found_from size n n)
  found_else size run a n o u =
      ap (first_fit size) (u ∙ ap (λ z. closed run a ++ z) (runs_same (e - a - 1) (e - n) n n (omega (arith, o)) (omega (arith, o))))
      ∙ find-append (fits size) (closed run a) (runs (e - n) n n)

  -- a step over a thing or a buffer ends a run
  pub found_ended : (size run a n : ℕ) (s : Step) → (s ≡ Thing n) ⊎ (s ≡ Passed n) → Some s ≡ step_at m bs ws e a
      → ((a < e) × (a < n)) × (found_from size run a ≡ option_or (fitting size run a) (found_from size n n))
  found_ended size run a n s (inl k) h =
      let o : Onward e a (Some (Thing n)) = subst (Onward e a) (sym h ∙ ap Some k) (onward a) in
      (o, found_else size run a n o (unrolled run a (Some (Thing n)) (ap Some (sym k) ∙ h) o.0))
  found_ended size run a n s (inr k) h =
      let o : Onward e a (Some (Passed n)) = subst (Onward e a) (sym h ∙ ap Some k) (onward a) in
      (o, found_else size run a n o (unrolled run a (Some (Passed n)) (ap Some (sym k) ∙ h) o.0))

  pub found_fits : (size run a n : ℕ) (s : Step) (o : Option Buffer) → (s ≡ Thing n) ⊎ (s ≡ Passed n) → Some s ≡ step_at m bs ws e a
      → o ≡ fitting size run a → found_from size run a ≡ option_or o (found_from size n n)
  found_fits size run a n s o k h f = (found_ended size run a n s k h).1 ∙ ap (λ (o : Option Buffer). option_or o (found_from size n n)) (sym f)

-- the steps of a walk, as the loop of `run_in_row` takes them
pub ruleset walking = (onward, found_stop, found_padding)
