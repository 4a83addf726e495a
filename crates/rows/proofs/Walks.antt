-- Following a row.
use Rattle.std.proofs.Common.{◌≡◌, ℕ, zero, suc, ◌+◌, ◌-◌, ◌≤◌, ◌≢◌, List, [], ◌∷◌, ◌++◌, length, drop, Some, None, Option, sym, refl, ap, ◌∙◌, subst, inl, inr, arith}
use Rattle.std.proofs.lemmas.List.{length-drop, append_assoc, length_push, append-nil}
use Rattle.format.specs.declared.things.Shape.{Shape}
use Rattle.format.specs.declared.things.Slot.{Slot}
use Rattle.format.specs.declared.things.Head.{Head}
use Rattle.format.specs.declared.things.Head.TheVariants.{Nothing, Object, Forwarded, Padding}
use Rattle.format.specs.Meaning.{Meaning, extent, read_head, thing, thing_at, span}
use Rattle.format.proofs.Heads.{Read, range_extent, range_some, thing_some, head_cases, nothing_from, reads_is, span_thing}
use Rattle.rows.specs.declared.walking.Entry.{Entry}
use Rattle.rows.specs.Rows.{entry_of, entry_at, row_by, row_from, row, end_from, row_end, Gapless, RowLaw}

abbrev pub entry : ℕ → Head → Entry
entry a h = record { place = a; head = h }

some_entry : (a : ℕ) (h : Head) → h ≢ Nothing → Some (entry a h) ≡ entry_of a h
some_entry a Nothing x = absurd (x refl)
some_entry a (Object s) x = refl
some_entry a (Forwarded k to) x = refl
some_entry a (Padding k) x = refl

module _ (m : Meaning) (ws : List ℕ) where
  pub entry_is : (a : ℕ) (h : Head) → h ≡ read_head m (drop a ws) → h ≢ Nothing → Some (entry a h) ≡ entry_at m ws a
  entry_is a h e x = some_entry a h x ∙ ap (entry_of a) e

  -- past the end stands nothing
  pub none_past : (a : ℕ) → length ws ≤ a → read_head m (drop a ws) ≡ Nothing
  none_past a l =
      elim (head_cases m (drop a ws)) [
        | inl e ↦ e
        | inr r ↦ absurd (omega (arith, range_extent m (m.head (drop a ws)) r.1.range, r.1.fits, length-drop a ws))
      ]

  -- an entry takes a word at least, and lies within the words
  pub entry_inside : (a : ℕ) (e : Entry) → Some e ≡ entry_at m ws a → (1 ≤ extent m e.head) × (a + extent m e.head ≤ length ws)
  entry_inside a e o =
      elim (head_cases m (drop a ws)) [
        | inl d ↦ absurd (let z : Some e ≡ None = o ∙ ap (entry_of a) d in let y : ◌≡◌ {A = ℕ} 0 1 = cc in omega arith)
        | inr r ↦ (
            let h = m.head (drop a ws) in
            let z : Some e ≡ Some (entry a h) = o ∙ sym (entry_is a h (sym r.0) (range_some m h r.1.range)) in
            let y : e ≡ entry a h = cc in
            let x : e.head ≡ h = ap (λ (q : Entry). q.head) y in
            let i = range_extent m h r.1.range in
            rw x (i.0, omega (arith, i, r.1.fits, length-drop a ws)))
      ]

  -- ---- a row is gapless

  abbrev Followed : ℕ → ℕ → Option Entry → Type 0
  Followed k a o = Gapless m ws a (row_by m (row_from m ws k) a o) (end_from m a (row_by m (row_from m ws k) a o))

  followed : (k a : ℕ) (h : Head) → Read m (drop a ws) h → read_head m (drop a ws) ≡ h
      → Gapless m ws (a + extent m h) (row_from m ws k (a + extent m h)) (end_from m (a + extent m h) (row_from m ws k (a + extent m h)))
      → Followed k a (Some (entry a h))
  followed k a h r e rest =
      let f : Shape → ℕ → Slot = λ s. m.slot s (drop a ws) in
      let t : thing_at m ws a ≡ thing f h = reads_is m (drop a ws) h r in
      let z : span m (thing_at m ws a) ≡ extent m h = ap (span m) t ∙ span_thing m f h in (
        refl,
        sym e,
        λ d. thing_some f h (range_some m h r.range) (sym t ∙ d),
        subst (λ (n : ℕ). Gapless m ws (a + n) (row_from m ws k (a + extent m h)) (end_from m (a + extent m h) (row_from m ws k (a + extent m h)))) (sym z) rest,
      )

  pub gapless_from : (k a : ℕ) → length ws ≤ a + k → Gapless m ws a (row_from m ws k a) (end_from m a (row_from m ws k a))
  gapless_from zero a l = (refl, nothing_from m (drop a ws) (none_past a (omega arith)))
  gapless_from (suc k) a l =
      elim (head_cases m (drop a ws)) [
        | inl e ↦ subst (Followed k a) (sym (ap (entry_of a) e)) (refl, nothing_from m (drop a ws) e)
        | inr r ↦ (
            let h = m.head (drop a ws) in
            let i = range_extent m h r.1.range in
            subst (Followed k a) (entry_is a h (sym r.0) (range_some m h r.1.range))
            (followed k a h r.1 r.0 (gapless_from k (a + extent m h) (omega (arith, i)))))
      ]

  pub row_law : RowLaw m ws
  row_law = gapless_from (length ws) 0 (omega arith)

  -- ---- the loop that lists it

  -- what is listed, and what is left: the things so far end at a
  pub record Listing (es : List Entry) (a : ℕ) : Type 0 where
    pub left : es ++ row_from m ws (length ws - length es) a ≡ row m ws
    pub behind : end_from m 0 es ≡ a
    pub few : length es ≤ a
    pub inside : a ≤ length ws

  pub listing_none : Listing [] 0
  listing_none = record { left = ap (λ z. row_from m ws z 0) (omega arith); behind = refl; few = omega arith; inside = omega arith }

  end_push : (es : List Entry) (a : ℕ) (e : Entry) → end_from m a (es ++ (e ∷ [])) ≡ end_from m a es + extent m e.head
  end_push [] a e = refl
  end_push (x ∷ es) a e = end_push es (a + extent m x.head) e

  row_some : (k a : ℕ) (e : Entry) → Some e ≡ entry_at m ws a → row_from m ws (suc k) a ≡ e ∷ row_from m ws k (a + extent m e.head)
  row_some k a e o = ap (row_by m (row_from m ws k) a) (sym o)

  row_none : (k a : ℕ) → None ≡ entry_at m ws a → row_from m ws k a ≡ []
  row_none zero a o = refl
  row_none (suc k) a o = ap (row_by m (row_from m ws k) a) (sym o)

  listing_push : (es : List Entry) (a : ℕ) (e : Entry) → Listing es a → Some e ≡ entry_at m ws a
      → Listing (es ++ (e ∷ [])) (a + extent m e.head)
  listing_push es a e l o =
      let i = entry_inside a e o in
      let n = length_push es e in
      let k : length ws - length es ≡ suc (length ws - length (es ++ (e ∷ []))) = omega (arith, n, l.few) in
      record {
        left = append_assoc es (e ∷ []) _ ∙ ap (λ z. es ++ z) (sym (row_some (length ws - length (es ++ (e ∷ []))) a e o)) ∙ ap (λ z. es ++ row_from m ws z a) (sym k) ∙ l.left;
        behind = end_push es 0 e ∙ ap (λ z. z + extent m e.head) l.behind;
        few = omega (arith, n, l.few, i.0);
        inside = i.1;
      }

  pub listing_more : (es : List Entry) (a : ℕ) (e : Entry) → Listing es a → Some e ≡ entry_at m ws a
      → (fs : List Entry) (k : ℕ) → fs ≡ es ++ (e ∷ []) → k ≡ extent m e.head → Listing fs (a + k)
  listing_more es a e l o fs k f h = rw (f, h) (listing_push es a e l o)

  pub listing_all : (es : List Entry) (a : ℕ) → Listing es a → None ≡ entry_at m ws a → (es ≡ row m ws) × (a ≡ row_end m ws)
  listing_all es a l o =
      let w : es ≡ row m ws = sym (append-nil es) ∙ ap (λ z. es ++ z) (sym (row_none (length ws - length es) a o)) ∙ l.left in
      (w, sym l.behind ∙ ap (end_from m 0) w)
