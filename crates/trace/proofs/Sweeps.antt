-- The sweep of a segment leaves what is marked, in a row again.
use Rattle.std.proofs.Common.{◌≡◌, ℕ, zero, suc, ◌+◌, ◌-◌, ◌<◌, ◌≤◌, true, false, ltb, ◌≢◌, ◌⊎◌, List, length, get_or, refl, ap, ◌∙◌, subst, inl, inr, arith}
use Rattle.std.proofs.lemmas.Bool.{cases_Bool, cond-true, lt-ltb, le-ltb, cases_eq}
use Rattle.format.specs.declared.things.Slot.{Slot}
use Rattle.format.specs.Meaning.{Thing, nothing, object, forwarded, padding, span}
use Rattle.format.specs.Laws.{Lawful}
use Rattle.arena.specs.Boards.{bit}
use Rattle.arena.specs.Buffers.{padded_part}
use Rattle.trace.specs.declared.sweeping.Stand.{Stand}
use Rattle.trace.specs.Traces.{loose, stood, walked, row_by, thing_swept, thing_end}
use Rattle.trace.specs.Traces.{Row as SweepRow, row as sweep_row}
use Rattle.trace.specs.Keeping.{Piece, Row, ends, piece}
use Rattle.trace.proofs.Cells.{slots_of, layout_of, rd, Start}
use Rattle.trace.proofs.Facts.{Real, real_object, real_padding}
use Rattle.trace.proofs.Effects.{Padded, pad_effect}
use Rattle.trace.proofs.Busy.{is_object}
use Rattle.trace.proofs.Looking.{seen_forwarded, seen_padding, seen_object}
use Rattle.trace.proofs.Rows.{Sorted, sorted}

-- a marked object that ends at e
abbrev kept : ℕ → Stand
kept e = record { end = e; is_kept = true }

pub object_piece : (x : Thing) (l : ℕ) (ss : List Slot) → x ≡ object l ss → Piece x
object_piece x l ss e = rw e tt

pub padding_piece : (x : Thing) (k : ℕ) → x ≡ padding k → Piece x
padding_piece x k e = rw e tt

-- things of any kind without gaps
pub record Link (S : Start) (x : Thing) : Type 0 where
  pub some : 1 ≤ span S.meaning x
  pub real : x ≢ nothing

pub data Chain (S : Start) (m : List ℕ) (e : ℕ) : ℕ → Type 0 where
  stop : Chain S m e e
  link : (a : ℕ) → Link S (rd S m a) → a + span S.meaning (rd S m a) ≤ e → Chain S m e (a + span S.meaning (rd S m a)) → Chain S m e a

pub data Base (S : Start) (m : List ℕ) (e : ℕ) : ℕ → ℕ → Type 0 where
  first : (a : ℕ) → a < e → Base S m e a a
  next : (a q : ℕ) → a < e → Base S m e (a + span S.meaning (rd S m a)) q → Base S m e a q

pub base_inv : (S : Start) (m : List ℕ) (e a q : ℕ) → Base S m e a q → (a < e) × ((q ≡ a) ⊎ Base S m e (a + span S.meaning (rd S m a)) q)
base_inv S m e a q (first b l) = (l, inl refl)
base_inv S m e a q (next b c l r) = (l, inr r)

pub chain_low : (S : Start) (m : List ℕ) (e a : ℕ) → Chain S m e a → a ≤ e
chain_low S m e a stop = omega arith
chain_low S m e a (link b l h r) = omega arith

link_real : (S : Start) (x : Thing) → Link S x → Real S.meaning x (span S.meaning x)
link_real S x l = record { real = l.real; span = refl }

pub piece_link : (S : Start) (x : Thing) → Sorted S.meaning x → Link S x
piece_link S x p = record { some = p.some; real = real p.kind }
  where
    real : (x ≡ object (layout_of x) (slots_of x)) ⊎ (x ≡ padding (span S.meaning x)) → x ≢ nothing
    real (inl e) = (real_object S.meaning x (layout_of x) (slots_of x) e).real
    real (inr e) = (real_padding S.meaning x (span S.meaning x) e).real

pub row_chain : (S : Start) → Lawful S.meaning → (m : List ℕ) (e a : ℕ) → Row S.meaning m e a → Chain S m e a
row_chain S laws m e a ends = stop
row_chain S laws m e a (piece b p h r) = link a (piece_link S (rd S m a) (sorted S.meaning laws m a p)) h (row_chain S laws m e (a + span S.meaning (rd S m a)) r)

-- a base is at or past where its row begins, and within it
pub base_link : (S : Start) (m : List ℕ) (e a q : ℕ) → Chain S m e a → Base S m e a q → (a ≤ q) × (q + span S.meaning (rd S m q) ≤ e) × Link S (rd S m q)
base_link S m e a q stop b = absurd (omega (arith, (base_inv S m e a q b).0))
base_link S m e a q (link c n h r) b =
    elim (base_inv S m e a q b).1 [
      | inl f ↦ rw f (omega arith, h, n)
      | inr g ↦ (let i = base_link S m e (a + span S.meaning (rd S m a)) q r g in (omega (arith, i.0), i.1, i.2))
    ]

-- Words in which the things of a chain have the extents that they have in m: the chain is one there too, of
-- the same bases.
module _ (S : Start) (m k : List ℕ) (e : ℕ) where
  abbrev pub Alike : ℕ → Type 0
  Alike a = (p : ℕ) → Base S m e a p → Real S.meaning (rd S k p) (span S.meaning (rd S m p))

  pub chain_alike : (a : ℕ) → Chain S m e a → Alike a → Chain S k e a
  chain_alike a stop f = stop
  chain_alike a (link c n h r) f =
      let low : a < e = omega (arith, n.some) in
      let g = f a (first a low) in
      link a (record { some = rw g.span n.some; real = g.real }) (rw g.span h)
      (rw g.span (chain_alike (a + span S.meaning (rd S m a)) r (λ p b. f p (next a p low b))))

  pub bases_alike : (a q : ℕ) → Chain S m e a → Alike a → (Base S m e a q → Base S k e a q) × (Base S k e a q → Base S m e a q)
  bases_alike a q stop f = (λ b. absurd (omega (arith, (base_inv S m e a q b).0)), λ b. absurd (omega (arith, (base_inv S k e a q b).0)))
  bases_alike a q (link c n h r) f =
      let low : a < e = omega (arith, n.some) in
      let g = (f a (first a low)).span in
      let rec = bases_alike (a + span S.meaning (rd S m a)) q r (λ p b. f p (next a p low b)) in (
        λ b. elim (base_inv S m e a q b).1 [
          | inl d ↦ rw d (first a low)
          | inr d ↦ next a q low (rw g (rec.0 d))
        ],
        λ b. elim (base_inv S k e a q b).1 [
          | inl d ↦ rw d (first a low)
          | inr d ↦ next a q low (rec.1 (rw (← g) d))
        ],
      )

-- memory that is the same from a place on
module _ (S : Start) (laws : Lawful S.meaning) (m k : List ℕ) (e z : ℕ) (same : (q : ℕ) → z ≤ q → Link S (rd S m q) → q + span S.meaning (rd S m q) ≤ e → rd S k q ≡ rd S m q) where
  alike : (a : ℕ) → z ≤ a → Chain S m e a → Alike S m k e a
  alike a l c p b =
      let i = base_link S m e a p c b in
      let f = same p (omega (arith, i.0)) i.2 i.1 in
      record { real = rw f i.2.real; span = rw f refl }

  pub chain_after : (a : ℕ) → z ≤ a → Chain S m e a → Chain S k e a
  chain_after a l c = chain_alike S m k e a c (alike a l c)

  pub row_after : (a : ℕ) → z ≤ a → Row S.meaning m e a → Row S.meaning k e a
  row_after a l ends = ends
  row_after a l (piece b p h r) =
      let f = same a l (piece_link S (rd S m a) (sorted S.meaning laws m a p)) h in
      piece a (rw f p) (rw f h) (rw f (row_after (a + span S.meaning (rd S m a)) (omega arith) r))

  pub base_back : (a q : ℕ) → z ≤ a → Chain S m e a → Base S k e a q → Base S m e a q
  base_back a q l c = (bases_alike S m k e a q c (alike a l c)).1

  pub base_on : (a q : ℕ) → z ≤ a → Chain S m e a → Base S m e a q → Base S k e a q
  base_on a q l c = (bases_alike S m k e a q c (alike a l c)).0

module _ (S : Start) (laws : Lawful S.meaning) where
  pub record Swept (ms : List ℕ) (e g a : ℕ) (m k : List ℕ) : Type 0 where
    pub long : length k ≡ length m
    pub outside : (q j : ℕ) → Real S.meaning (rd S m q) j → (q + j ≤ g) ⊎ (e ≤ q) → rd S k q ≡ rd S m q
    pub words : (w : ℕ) → (w < g) ⊎ (e ≤ w) → get_or k w 0 ≡ get_or m w 0
    pub kept : (q : ℕ) → Base S m e a q → bit ms q ≡ true → rd S k q ≡ rd S m q
    pub row : Row S.meaning k e g
    pub old : (q : ℕ) → Base S k e g q → is_object (rd S k q) ≡ true → (bit ms q ≡ true) × Base S m e a q
    pub new : (q : ℕ) → Base S m e a q → bit ms q ≡ true → Base S k e g q

  abbrev pad : ℕ → ℕ → List ℕ → List ℕ
  pad g a m = padded_part S.meaning g a m

  pad_to : (g a : ℕ) (m : List ℕ) → g ≤ a → a - g ≤ 256 → a ≤ length m → Padded S laws m (pad g a m) g (a - g)
  pad_to g a m l small f =
      let z : g + (a - g) ≡ a = omega arith in
      subst (λ (x : ℕ). Padded S laws m (pad g x m) g (a - g)) z (pad_effect S laws m g (a - g) small (λ _. omega arith))

  not_padding : (x : Thing) (n : ℕ) → x ≡ padding n → is_object x ≡ true → ⊥
  not_padding x n e h = cc

  gap_end : (k : List ℕ) (g a : ℕ) → g ≤ a → rd S k g ≡ padding (a - g) → g + span S.meaning (rd S k g) ≡ a
  gap_end k g a l f = rw f (omega arith)

  -- before a gap of padding, a row
  gap_row : (k : List ℕ) (e g a : ℕ) → g ≤ a → a ≤ e → (g < a → rd S k g ≡ padding (a - g)) → Row S.meaning k e a → Row S.meaning k e g
  gap_row k e g a l h p r = elim (cases_eq g a) [
    | inl f ↦ rw f r
    | inr n ↦ (let f = p (omega arith) in
        let y = gap_end k g a l f in
        piece g (padding_piece (rd S k g) (a - g) f) (omega arith) (rw y r))
  ]

  gap_base : (k : List ℕ) (e g a q : ℕ) → g ≤ a → a ≤ e → (g < a → rd S k g ≡ padding (a - g)) → Base S k e a q → Base S k e g q
  gap_base k e g a q l h p b = elim (cases_eq g a) [
    | inl f ↦ rw f b
    | inr n ↦ (let y = gap_end k g a l (p (omega arith)) in
        next g q (omega (arith, (base_inv S k e a q b).0)) (rw y b))
  ]

  gap_old : (k : List ℕ) (e g a q : ℕ) → g ≤ a → a ≤ e → (g < a → rd S k g ≡ padding (a - g)) → Base S k e g q → is_object (rd S k q) ≡ true → Base S k e a q
  gap_old k e g a q l h p b o = elim (cases_eq g a) [
    | inl f ↦ rw (← f) b
    | inr n ↦ (let f = p (omega arith) in
        let y = gap_end k g a l f in
        elim (base_inv S k e g q b).1 [
          | inl x ↦ absurd (not_padding (rd S k g) (a - g) f (rw (← x) o))
          | inr c ↦ rw (← y) c
        ])
  ]

  swept_end : (ms : List ℕ) (e g : ℕ) (m : List ℕ) → g ≤ e → e - g ≤ 256 → e ≤ length m → Swept ms e g e m (pad g e m)
  swept_end ms e g m l small f =
      let pd = pad_to g e m l small f in
      let p : g < e → rd S (pad g e m) g ≡ padding (e - g) = λ h. pd.reads (omega arith) in
      record {
        long = pd.long;
        outside = λ q j r h. pd.others q j r (λ _. grind arith);
        words = λ w h. pd.words w (λ _. grind arith);
        kept = λ q b k. absurd (omega (arith, (base_inv S m e e q b).0));
        row = gap_row (pad g e m) e g e l (omega arith) p ends;
        old = λ q b o. absurd (omega (arith, (base_inv S (pad g e m) e e q (gap_old (pad g e m) e g e q l (omega arith) p b o)).0));
        new = λ q b k. absurd (omega (arith, (base_inv S m e e q b).0));
      }

  -- what is not marked joins the gap
  swept_skip : (ms : List ℕ) (e g a : ℕ) (m k : List ℕ) → a < e → bit ms a ≡ false → Swept ms e g (a + span S.meaning (rd S m a)) m k → Swept ms e g a m k
  swept_skip ms e g a m k l u s = record {
    long = s.long;
    outside = s.outside;
    row = s.row;
    words = s.words;
    kept = λ q b h. elim (base_inv S m e a q b).1 [ inl f ↦ (cc) | inr c ↦ s.kept q c h ];
    old = λ q b o. let x = s.old q b o in (x.0, next a q l x.1);
    new = λ q b h. elim (base_inv S m e a q b).1 [ inl f ↦ (cc) | inr c ↦ s.new q c h ];
  }

  -- what is marked ends it
  swept_keep : (ms : List ℕ) (e g a : ℕ) (m k : List ℕ) → g ≤ a → a - g ≤ 256 → a < e → e ≤ length m → bit ms a ≡ true
      → rd S m a ≡ object (layout_of (rd S m a)) (slots_of (rd S m a)) → Link S (rd S m a) → a + span S.meaning (rd S m a) ≤ e → Chain S m e (a + span S.meaning (rd S m a))
      → Swept ms e (a + span S.meaning (rd S m a)) (a + span S.meaning (rd S m a)) (pad g a m) k → Swept ms e g a m k
  swept_keep ms e g a m k l small low f mk ob lk hi ch s = record {
    long = s.long ∙ pd.long;
    outside = λ q j r h.
        let x = pd.others q j r (λ _. grind arith) in
        s.outside q j (rw x r) (grind arith) ∙ x;
    words = λ w h. s.words w (grind arith) ∙ pd.words w (λ _. grind arith);
    kept = λ q b h. elim (base_inv S m e a q b).1 [
      | inl y ↦ rw y at_a
      | inr c ↦ s.kept q (base_on S laws m m1 e a' after a' q (omega arith) ch c) h ∙ (let i = base_link S m e a' q ch c in after q i.0 i.2 i.1)
    ];
    row = gap_row k e g a l (omega arith) at_g (piece a (object_piece (rd S k a) (layout_of (rd S m a)) (slots_of (rd S m a)) (at_a ∙ ob))
        (rw at_a hi) (rw at_a s.row));
    old = λ q b o. let c = gap_old k e g a q l (omega arith) at_g b o in elim (base_inv S k e a q c).1 [
      | inl y ↦ (rw y mk, rw y (first a low))
      | inr d ↦ (let x = s.old q (rw (← at_a) d) o in
          (x.0, next a q low (base_back S laws m m1 e a' after a' q (omega arith) ch x.1)))
    ];
    new = λ q b h. gap_base k e g a q l (omega arith) at_g (elim (base_inv S m e a q b).1 [
      | inl y ↦ rw y (first a low)
      | inr c ↦ next a q low (rw at_a (s.new q (base_on S laws m m1 e a' after a' q (omega arith) ch c) h))
    ]);
  }
    where
      a' : ℕ
      a' = a + span S.meaning (rd S m a)

      m1 : List ℕ
      m1 = pad g a m

      pd : Padded S laws m m1 g (a - g)
      pd = pad_to g a m l small (omega arith)

      after : (q : ℕ) → a' ≤ q → Link S (rd S m q) → q + span S.meaning (rd S m q) ≤ e → rd S m1 q ≡ rd S m q
      after q h n y = pd.others q (span S.meaning (rd S m q)) (link_real S (rd S m q) n) (λ _. inr (omega arith))

      in_m1 : rd S m1 a ≡ rd S m a
      in_m1 = pd.others a (span S.meaning (rd S m a)) (link_real S (rd S m a) lk) (λ _. inr (omega arith))

      at_a : rd S k a ≡ rd S m a
      at_a = s.outside a (span S.meaning (rd S m a)) (rw in_m1 (link_real S (rd S m a) lk)) (inl (omega arith)) ∙ in_m1

      at_g : g < a → rd S k g ≡ padding (a - g)
      at_g h =
          let x = pd.reads (omega arith) in
          s.outside g (a - g) (real_padding S.meaning (rd S m1 g) (a - g) x) (inl (omega arith)) ∙ x

  -- ---- the walk

  stood_loose : (ms : List ℕ) (m : List ℕ) (e a : ℕ) → Link S (rd S m a) → a + span S.meaning (rd S m a) ≤ e → bit ms a ≡ false → stood S.meaning m ms a e ≡ loose (a + span S.meaning (rd S m a))
  stood_loose ms m e a l h u = go (rd S m a) refl
    where
      go : (x : Thing) → rd S m a ≡ x → stood S.meaning m ms a e ≡ loose (a + span S.meaning (rd S m a))
      go nothing f = absurd (l.real f)
      go (object ly ss) f = rw (seen_object S.meaning laws m a ly ss f e (rw f at h), u, f) refl
      go (forwarded k to) f = rw (seen_forwarded S.meaning laws m a e k (rw f at h) to f, f) refl
      go (padding k) f = rw (seen_padding S.meaning laws m a e k (rw f at h) f, f) refl

  stood_kept : (ms : List ℕ) (m : List ℕ) (e a : ℕ) → rd S m a ≡ object (layout_of (rd S m a)) (slots_of (rd S m a)) → a + span S.meaning (rd S m a) ≤ e → bit ms a ≡ true
      → stood S.meaning m ms a e ≡ kept (a + span S.meaning (rd S m a))
  stood_kept ms m e a ob h u =
      let z = ap (span S.meaning) ob in
      rw (seen_object S.meaning laws m a (layout_of (rd S m a)) (slots_of (rd S m a)) ob e (rw (← z) h), u, z) refl

  abbrev walk : List ℕ → ℕ → ℕ → SweepRow → ℕ → SweepRow
  walk ms e k r a = walked (thing_swept S.meaning ms e) (thing_end S.meaning ms e) e k r a

  pub record Walked (ms : List ℕ) (e g a : ℕ) (m : List ℕ) (r : SweepRow) : Type 0 where
    pub swept : Swept ms e g a m (pad r.run e r.words)
    pub low : g ≤ r.run
    pub high : r.run ≤ e
    pub which : (((r.words ≡ m) × (r.run ≡ g)) × ((q : ℕ) → Base S m e a q → bit ms q ≡ false)) ⊎ (a < r.run)

  walk_end : (ms : List ℕ) (e g : ℕ) (m : List ℕ) → g ≤ e → e - g ≤ 256 → e ≤ length m → Walked ms e g e m (sweep_row m g)
  walk_end ms e g m l small f = record {
    swept = swept_end ms e g m l small f;
    low = omega arith;
    high = l;
    which = inl ((refl, refl), λ q b. absurd (omega (arith, (base_inv S m e e q b).0)));
  }

  walk_step : (ms : List ℕ) (e k g a : ℕ) (m : List ℕ) (d : Stand) → a < e → stood S.meaning m ms a e ≡ d → walk ms e (suc k) (sweep_row m g) a ≡ walk ms e k (row_by S.meaning (sweep_row m g) a d) (d.end)
  walk_step ms e k g a m d low f =
      cond-true (ltb a e) _ (sweep_row m g) (lt-ltb a e low)
      ∙ ap (λ (x : Stand). walk ms e k (row_by S.meaning (sweep_row m g) a x) (x.end)) f

  pub sweep_ok : (ms : List ℕ) (e k g a : ℕ) (m : List ℕ) → e ≤ a + k → g ≤ a → e - g ≤ 256 → e ≤ length m → Chain S m e a
      → ((q : ℕ) → Base S m e a q → bit ms q ≡ true → rd S m q ≡ object (layout_of (rd S m q)) (slots_of (rd S m q)))
      → Walked ms e g a m (walk ms e k (sweep_row m g) a)
  sweep_ok ms e zero g a m fuel l small f stop ob = walk_end ms e g m l small f
  sweep_ok ms e (suc k) g a m fuel l small f stop ob = rw (le-ltb e e (omega arith)) (walk_end ms e g m l small f)
  sweep_ok ms e zero g a m fuel l small f (link b n h r) ob = absurd (omega (arith, n.some))
  sweep_ok ms e (suc k) g a m fuel l small f (link b n h r) ob =
      go (λ x. sweep_ok ms e k g (a + span S.meaning (rd S m a)) m (omega (arith, n.some)) (omega arith) small f r (λ q y. ob q (next a q low y)))
      (λ x. sweep_ok ms e k (a + span S.meaning (rd S m a)) (a + span S.meaning (rd S m a)) (pad g a m) (omega (arith, n.some)) (omega arith) (omega arith) (omega (arith, (pad_to g a m l (omega arith) (omega arith)).long))
      (chain_after S laws m (pad g a m) e (a + span S.meaning (rd S m a)) after (a + span S.meaning (rd S m a)) (omega arith) r)
      (λ q y z.
      let c = base_back S laws m (pad g a m) e (a + span S.meaning (rd S m a)) after (a + span S.meaning (rd S m a)) q (omega arith) r y in
      let i = base_link S m e (a + span S.meaning (rd S m a)) q r c in
      rw (after q i.0 i.2 i.1) (ob q (next a q low c) z)))
      (cases_Bool (bit ms a))
    where
      low : a < e
      low = omega (arith, n.some)

      after : (q : ℕ) → a + span S.meaning (rd S m a) ≤ q → Link S (rd S m q) → q + span S.meaning (rd S m q) ≤ e → rd S (pad g a m) q ≡ rd S m q
      after q y z v = (pad_to g a m l (omega arith) (omega arith)).others q (span S.meaning (rd S m q)) (link_real S (rd S m q) z) (λ _. inr (omega arith))

      a' : ℕ
      a' = a + span S.meaning (rd S m a)

      go : (Unit {0} → Walked ms e g a' m (walk ms e k (sweep_row m g) a')) → (Unit {0} → Walked ms e a' a' (pad g a m) (walk ms e k (sweep_row (pad g a m) a') a'))
          → (bit ms a ≡ true) ⊎ (bit ms a ≡ false) → Walked ms e g a m (walk ms e (suc k) (sweep_row m g) a)
      go skip keep (inl mk) =
          let s = keep tt in
          rw (walk_step ms e k g a m (kept a') low (stood_kept ms m e a (ob a (first a low) mk) h mk))
          (record {
            swept = swept_keep ms e g a m (pad (walk ms e k (sweep_row (pad g a m) a') a').run e (walk ms e k (sweep_row (pad g a m) a') a').words) l (omega arith) low f mk (ob a (first a low) mk) n h r s.swept;
            low = omega (arith, s.low);
            high = s.high;
            which = inr (omega (arith, s.low, n.some));
          })
      go skip keep (inr un) =
          let s = skip tt in
          rw (walk_step ms e k g a m (loose a') low (stood_loose ms m e a n h un))
          (record {
            swept = swept_skip ms e g a m (pad (walk ms e k (sweep_row m g) a').run e (walk ms e k (sweep_row m g) a').words) low un s.swept;
            low = s.low;
            high = s.high;
            which = elim s.which [
              | inl x ↦ inl (x.0, λ q b. elim (base_inv S m e a q b).1 [ inl y ↦ rw y un | inr c ↦ x.1 q c ])
              | inr x ↦ inr (omega (arith, n.some))
            ];
          })
