-- The sweep of all segments.
use Rattle.std.proofs.Common.{◌≡◌, ℕ, zero, suc, ◌+◌, ◌-◌, ◌*◌, ◌/◌, ◌<◌, ◌≤◌, Bool, true, false, eqb, ◌≢◌, ◌⊎◌, List, length, get_or, drop, set, replicate, sym, refl, ap, ◌∙◌, inl, inr, arith, length-set, eq-eqb, ne_eqb, None}
use native.Mathlib.Decide.{dec_lt}
use borrow.Rule.Slice.PartMut.{put_mid}
use Rattle.std.proofs.lemmas.Bool.{cases_Bool, le-leb, cases_eq}
use Rattle.std.proofs.lemmas.List.{length-replicate, get_or-replicate, get_or-drop, get_or_append_left, get_or-set_same, get_or-set_other}
use Rattle.std.proofs.lemmas.Slice.{drop-put_mid}
use Rattle.format.specs.Meaning.{Meaning, object, span}
use Rattle.format.specs.Laws.{Lawful}
use Rattle.format.proofs.Memory.{length_put, drop_put, get_or_put_outside, part_before}
use Rattle.arena.specs.declared.segments.Segments.{Segments}
use Rattle.arena.specs.Boards.{bit}
use Rattle.arena.specs.Segments.{Owner, owner_of, in_arena}
use Rattle.trace.specs.declared.state.Plan.{Plan}
use Rattle.trace.specs.Traces.{swept_row, swept_words, swept_segments}
use Rattle.trace.specs.Traces.{Row as SweepRow}
use Rattle.trace.specs.Collections.{Ground, ground, segment_swept, segments_swept}
use Rattle.trace.specs.Keeping.{Row}
use Rattle.trace.proofs.Cells.{slots_of, layout_of, rd, Start}
use Rattle.trace.proofs.Busy.{is_object}
use Rattle.trace.proofs.Sweeps.{Link, Chain, Base, row_chain, chain_after, row_after, base_back, base_on, base_link, Swept, Walked, sweep_ok}

module _ (S : Start) (laws : Lawful S.meaning) (ms : List ℕ) where
  abbrev M : Meaning
  M = S.meaning

  -- things inside a segment read alike
  abbrev pub Alike : ℕ → List ℕ → List ℕ → Type 0
  Alike j m k = (q : ℕ) → j * 256 ≤ q → Link S (rd S m q) → q + span S.meaning (rd S m q) ≤ j * 256 + 256 → rd S k q ≡ rd S m q

  abbrev pub SameWords : ℕ → List ℕ → List ℕ → Type 0
  SameWords j m k = (w : ℕ) → w / 256 ≡ j → get_or k w 0 ≡ get_or m w 0

  -- a swept segment, in which something is marked
  pub record Tidy (j : ℕ) (m k : List ℕ) : Type 0 where
    pub kept : (q : ℕ) → Base S m (j * 256 + 256) (j * 256) q → bit ms q ≡ true → rd S k q ≡ rd S m q
    pub row : Row S.meaning k (j * 256 + 256) (j * 256)
    pub old : (q : ℕ) → Base S k (j * 256 + 256) (j * 256) q → is_object (rd S k q) ≡ true → (bit ms q ≡ true) × Base S m (j * 256 + 256) (j * 256) q
    pub new : (q : ℕ) → Base S m (j * 256 + 256) (j * 256) q → bit ms q ≡ true → Base S k (j * 256 + 256) (j * 256) q

  pub data Outcome (c : Bool) (j : ℕ) (m k : List ℕ) (o p : Owner) : Type 0 where
    calm : c ≡ false → p ≡ o → Alike j m k → SameWords j m k → Outcome c j m k o p
    tidy : c ≡ true → p ≡ o → Tidy j m k → Outcome c j m k o p
    wiped : c ≡ true → p ≡ None → ((q : ℕ) → Base S m (j * 256 + 256) (j * 256) q → bit ms q ≡ false) → ((w : ℕ) → w / 256 ≡ j → get_or k w 0 ≡ 0) → Outcome c j m k o p

  alike_trans : (j : ℕ) (m k l : List ℕ) → Alike j m k → Alike j k l → Alike j m l
  alike_trans j m k l f g q a n h = let e = f q a n h in g q a (rw e n) (rw e h) ∙ e

  tidy_on : (j : ℕ) (m k l : List ℕ) → Tidy j m k → Alike j k l → Tidy j m l
  tidy_on j m k l t f =
      let ch = row_chain S laws k (j * 256 + 256) (j * 256) t.row in
      record {
        kept = λ q b h. (let c = t.new q b h in let i = base_link S k (j * 256 + 256) (j * 256) q ch c in f q i.0 i.2 i.1) ∙ t.kept q b h;
        row = row_after S laws k l (j * 256 + 256) (j * 256) f (j * 256) (omega arith) t.row;
        old = λ q b o.
            let c = base_back S laws k l (j * 256 + 256) (j * 256) f (j * 256) q (omega arith) ch b in
            let i = base_link S k (j * 256 + 256) (j * 256) q ch c in
            t.old q c (rw (← f q i.0 i.2 i.1) o);
        new = λ q b h. base_on S laws k l (j * 256 + 256) (j * 256) f (j * 256) q (omega arith) ch (t.new q b h);
      }

  -- and from a memory that is alike
  tidy_from : (j : ℕ) (m k l : List ℕ) → Chain S m (j * 256 + 256) (j * 256) → Alike j m k → Tidy j k l → Tidy j m l
  tidy_from j m k l ch f t = record {
    kept = λ q b h. t.kept q (base_on S laws m k (j * 256 + 256) (j * 256) f (j * 256) q (omega arith) ch b) h ∙ (let i = base_link S m (j * 256 + 256) (j * 256) q ch b in f q i.0 i.2 i.1);
    row = t.row;
    old = λ q b o. let x = t.old q b o in (x.0, base_back S laws m k (j * 256 + 256) (j * 256) f (j * 256) q (omega arith) ch x.1);
    new = λ q b h. t.new q (base_on S laws m k (j * 256 + 256) (j * 256) f (j * 256) q (omega arith) ch b) h;
  }

  outcome_on : (c : Bool) (j : ℕ) (m k l : List ℕ) (o p r : Owner) → Outcome c j m k o p → Alike j k l → SameWords j k l → r ≡ p → Outcome c j m l o r
  outcome_on c j m k l o p r (calm e f g v) a b h = calm e (h ∙ f) (alike_trans j m k l g a) (λ w z. b w z ∙ v w z)
  outcome_on c j m k l o p r (tidy e f g) a b h = tidy e (h ∙ f) (tidy_on j m k l g a)
  outcome_on c j m k l o p r (wiped e f g v) a b h = wiped e (h ∙ f) g (λ w z. b w z ∙ v w z)

  -- ---- a freed segment

  module _ (s : ℕ) (m : List ℕ) (inside : s * 256 + 256 ≤ length m) where
    abbrev wiped_words : List ℕ
    wiped_words = put_mid (s * 256) 256 m (replicate 256 0)

    zeros : length (replicate {A = ℕ} 256 0) ≡ 256
    zeros = length-replicate {A = ℕ} 256 0

    wipe_alike : (j : ℕ) → j ≢ s → Alike j m wiped_words
    wipe_alike j ne q low n high = elim (dec_lt j s) [
      | yes l ↦ laws.own (drop q m) (drop q wiped_words) n.real (part_before (s * 256) 256 m (replicate 256 0) inside zeros q (span M (rd S m q)) (omega arith))
      | no l ↦ rw (drop-put_mid (s * 256) 256 m (replicate 256 0) q (omega arith) (omega arith) zeros) refl
    ]

    wipe_words : (j : ℕ) → j ≢ s → SameWords j m wiped_words
    wipe_words j ne w z = get_or_put_outside (s * 256) 256 m (replicate 256 0) inside zeros w (grind arith)

    wipe_zero : (w : ℕ) → w / 256 ≡ s → get_or wiped_words w 0 ≡ 0
    wipe_zero w z =
        let e : s * 256 + (w - s * 256) ≡ w = omega arith in
        ap (λ (x : ℕ). get_or wiped_words x 0) (sym e) ∙ sym (get_or-drop (s * 256) wiped_words (w - s * 256) 0)
        ∙ ap (λ (x : List ℕ). get_or x (w - s * 256) 0) (drop_put (s * 256) 256 m (replicate 256 0) inside zeros)
        ∙ get_or_append_left (replicate 256 0) (drop 256 (drop (s * 256) m)) 0 (w - s * 256) (omega (arith, zeros))
        ∙ get_or-replicate 256 (w - s * 256) 0 0 (omega arith)

  -- what is needed of a segment that is condemned
  pub record Fit (m : List ℕ) (j : ℕ) : Type 0 where
    pub chain : Chain S m (j * 256 + 256) (j * 256)
    pub marked : (q : ℕ) → Base S m (j * 256 + 256) (j * 256) q → bit ms q ≡ true → rd S m q ≡ object (layout_of (rd S m q)) (slots_of (rd S m q))
    pub inside : j * 256 + 256 ≤ length m

  -- m and g: the words and owners before the sweep; x: those after the first s segments
  pub record After (m : List ℕ) (g : Segments) (cs : List Bool) (s : ℕ) (x : Ground) : Type 0 where
    pub long : length x.words ≡ length m
    pub many : length x.segments.owners ≡ length g.owners
    pub past : (j : ℕ) → j < s → Outcome (get_or cs j false) j m x.words (owner_of g j) (owner_of x.segments j)
    pub coming : (j : ℕ) → s ≤ j → Alike j m x.words × (owner_of x.segments j ≡ owner_of g j) × SameWords j m x.words

  step_past : (m : List ℕ) (g : Segments) (cs : List Bool) (s : ℕ) (x y : Ground) → After m g cs s x
      → length y.words ≡ length x.words → length y.segments.owners ≡ length x.segments.owners
      → ((j : ℕ) → j ≢ s → Alike j x.words y.words) → ((j : ℕ) → j ≢ s → SameWords j x.words y.words) → ((j : ℕ) → j ≢ s → owner_of y.segments j ≡ owner_of x.segments j)
      → Outcome (get_or cs s false) s m y.words (owner_of g s) (owner_of y.segments s) → After m g cs (suc s) y
  step_past m g cs s x y a l n f v h o = record {
    long = l ∙ a.long;
    many = n ∙ a.many;
    past = λ j k. elim (cases_eq j s) [
      | inl e ↦ rw e o
      | inr ne ↦ outcome_on (get_or cs j false) j m x.words y.words (owner_of g j) (owner_of x.segments j) (owner_of y.segments j) (a.past j (omega arith)) (f j ne) (v j ne) (h j ne)
    ];
    coming = λ j k. let c = a.coming j (omega arith) in (alike_trans j m x.words y.words c.0 (f j (omega arith)), h j (omega arith) ∙ c.1, λ w z. v j (omega arith) w z ∙ c.2 w z);
  }

  abbrev end_of_segment : ℕ → ℕ
  end_of_segment s = s * 256 + 256

  -- the sweep of a condemned segment of words k that are alike to m there
  module _ (s : ℕ) (k : List ℕ) (h : Segments) (inside : s * 256 + 256 ≤ length k) (chain : Chain S k (end_of_segment s) (s * 256))
      (ob : (q : ℕ) → Base S k (end_of_segment s) (s * 256) q → bit ms q ≡ true → rd S k q ≡ object (layout_of (rd S k q)) (slots_of (rd S k q))) where
    abbrev last : SweepRow
    last = swept_row M k ms (s * 256) (end_of_segment s)

    walked_row : Walked S laws ms (end_of_segment s) (s * 256) (s * 256) k last
    walked_row =
        let n : end_of_segment s - s * 256 ≡ 256 = omega arith in
        sweep_ok S laws ms (end_of_segment s) (end_of_segment s - s * 256) (s * 256) (s * 256) k (omega arith) (omega arith) (omega arith) inside chain ob

    in_it : in_arena (length k) s ≡ true
    in_it = le-leb (s * 256 + 256) (length k) inside

    abbrev swept_k : List ℕ
    swept_k = swept_words M k ms s

    abbrev swept_h : Segments
    swept_h = swept_segments M h k ms s

    -- something was marked
    pub record KeptSome : Type 0 where
      pub words : Swept S laws ms (end_of_segment s) (s * 256) (s * 256) k swept_k
      pub segments : swept_h ≡ h

    -- nothing was
    pub record Freed : Type 0 where
      pub words : swept_k ≡ wiped_words s k inside
      pub segments : swept_h ≡ record { owners = set h.owners s None }
      pub unmarked : (q : ℕ) → Base S k (end_of_segment s) (s * 256) q → bit ms q ≡ false

    pub swept_cases : KeptSome ⊎ Freed
    swept_cases = elim walked_row.which [
      | inr l ↦ (let e : eqb last.run (s * 256) ≡ false = ne_eqb last.run (s * 256) (λ z. omega arith) in
          inl (record {
            words = rw (in_it, e) walked_row.swept;
            segments = rw (in_it, e) refl;
          }))
      | inl x ↦ (let e : eqb last.run (s * 256) ≡ true = eq-eqb last.run (s * 256) x.0.1 in
          inr (record {
            words = rw (in_it, e, x.0.0, in_it) refl;
            segments = rw (in_it, e, x.0.0, in_it) refl;
            unmarked = x.1;
          }))
    ]

  module _ (m : List ℕ) (g : Segments) (y : Plan) (few : length g.owners ≡ 256) (fit : (j : ℕ) → get_or y.condemned j false ≡ true → Fit m j) where
    swept_alike : (s j : ℕ) (k l : List ℕ) → j ≢ s → Swept S laws ms (s * 256 + 256) (s * 256) (s * 256) k l → Alike j k l
    swept_alike s j k l ne sw q low n high = sw.outside q (span M (rd S k q)) (record { real = n.real; span = refl }) (grind arith)

    condemned_ok : (s : ℕ) → s < 256 → (x : Ground) → After m g y.condemned s x → get_or y.condemned s false ≡ true
        → After m g y.condemned (suc s) (ground (swept_segments M x.segments x.words ms s) (swept_words M x.words ms s))
    condemned_ok s small x a ec =
        let f = fit s ec in
        let al = (a.coming s (omega arith)).0 in
        let ins : s * 256 + 256 ≤ length x.words = omega (arith, f.inside, a.long) in
        let ch = chain_after S laws m x.words (s * 256 + 256) (s * 256) al (s * 256) (omega arith) f.chain in
        let ob : (q : ℕ) → Base S x.words (s * 256 + 256) (s * 256) q → bit ms q ≡ true → rd S x.words q ≡ object (layout_of (rd S x.words q)) (slots_of (rd S x.words q)) =
        λ q b h. let c = base_back S laws m x.words (s * 256 + 256) (s * 256) al (s * 256) q (omega arith) f.chain b in
        let i = base_link S m (s * 256 + 256) (s * 256) q f.chain c in
        rw (al q i.0 i.2 i.1) (f.marked q c h) in
        elim (swept_cases s x.words x.segments ins ch ob) [
          | inl kp ↦ (let sw = kp.words in
              let k = swept_words M x.words ms s in
              step_past m g y.condemned s x (ground (swept_segments M x.segments x.words ms s) k) a sw.long (rw kp.segments refl)
              (λ j ne. swept_alike s j x.words k ne sw) (λ j ne w z. sw.words w (grind arith))
              (λ j ne. ap (λ (z : Segments). owner_of z j) kp.segments)
              (tidy ec (ap (λ (z : Segments). owner_of z s) kp.segments ∙ (a.coming s (omega arith)).1)
              (tidy_from s m x.words k f.chain al (record { kept = sw.kept; row = sw.row; old = sw.old; new = sw.new }))))
          | inr fr ↦ rw (fr.segments, fr.words)
              (step_past m g y.condemned s x (ground (record { owners = set x.segments.owners s None }) (wiped_words s x.words ins)) a
              (length_put (s * 256) 256 x.words (replicate 256 0) ins (length-replicate {A = ℕ} 256 0)) (length-set x.segments.owners s None)
              (λ j ne. wipe_alike s x.words ins j ne) (λ j ne. wipe_words s x.words ins j ne) (λ j ne. get_or-set_other x.segments.owners s j None None ne)
              (wiped ec (get_or-set_same x.segments.owners s None None (omega (arith, a.many, few)))
              (λ q b. fr.unmarked q (base_on S laws m x.words (s * 256 + 256) (s * 256) al (s * 256) q (omega arith) f.chain b))
              (wipe_zero s x.words ins)))
        ]

    sweep_one_ok : (s : ℕ) → s < 256 → (x : Ground) → After m g y.condemned s x → After m g y.condemned (suc s) (segment_swept M y ms x s)
    sweep_one_ok s small x a = elim (cases_Bool (get_or y.condemned s false)) [
      | inr ec ↦ rw ec
          (step_past m g y.condemned s x x a refl refl (λ j ne q l n h. refl) (λ j ne w z. refl) (λ j ne. refl) (calm ec (a.coming s (omega arith)).1 (a.coming s (omega arith)).0 (a.coming s (omega arith)).2))
      | inl ec ↦ rw ec (condemned_ok s small x a ec)
    ]

    pub sweep_all_ok : (k : ℕ) → k ≤ 256 → After m g y.condemned k (segments_swept M y ms (ground g m) k)
    sweep_all_ok zero l = record { long = refl; many = refl; past = λ j h. absurd (omega arith); coming = λ j h. (λ q x n z. refl, refl, λ w z. refl) }
    sweep_all_ok (suc k) l = sweep_one_ok k (omega arith) (segments_swept M y ms (ground g m) k) (sweep_all_ok k (omega arith))
