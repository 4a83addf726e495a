-- A dependency never misses an ageing of a zone that was entered.
use Rattle.std.proofs.Common.{◌≡◌, ℕ, zero, suc, ◌-◌, ◌/◌, ◌%◌, ◌^◌, ◌<◌, ◌≤◌, true, false, not, eqb, ltb, ◌≢◌, List, [], ◌∷◌, get_or, set, refl, ◌∙◌, arith}
use lib.Bits.{bit_and, bit_or}
use Rattle.std.proofs.lemmas.List.{get_or-set_other}
use Rattle.std.proofs.lemmas.Bool.{cond-true, cond-false, cond_both, eqb-true, ne_eqb, eq-eqb, ltb-false}
use Rattle.location.specs.declared.History.{History}
use Rattle.location.specs.declared.Dependency.{Dependency}
use Rattle.std.proofs.lemmas.Nat.Bits.{bit_at_or, bit_at-pow_same}
use Rattle.std.specs.Int.{bit_at}
use Rattle.location.proofs.Zones.{shared}
use Rattle.location.specs.Locations.{zone_of, has_zone, zone_bit, joined_to, aged, can_age, age_after, entered, is_stale, Event, ages, enters, Moment, after, run, fresh, NeverMisses}

-- ---- the recent sets

joined_at : (zones : ℕ) (sets : List ℕ) (k : ℕ) → k < 4 → get_or (joined_to zones sets) k 0 ≡ bit_or (get_or sets k 0) zones
joined_at zones sets zero h = refl
joined_at zones sets (suc zero) h = refl
joined_at zones sets (suc (suc zero)) h = refl
joined_at zones sets (suc (suc (suc zero))) h = refl
joined_at zones sets (suc (suc (suc (suc k)))) h = absurd (omega arith)

-- ---- what was told stays told

-- zone z was entered in d, and the history has it as aged since d's epoch
record Told (h : History) (d : Dependency) (z : ℕ) : Type 0 where
  within : bit_at d.zones z ≡ 1
  past : d.epoch < h.epoch
  near : h.epoch - d.epoch ≤ 4 → bit_at (get_or h.recent (d.epoch % 4) 0) z ≡ 1
  far : bit_at h.ever z ≡ 1

module _ (h : History) (d : Dependency) (z : ℕ) where
  told_stale : Told h d z → is_stale h d ≡ true
  told_stale t =
      let ne : h.epoch ≡ d.epoch → ⊥ = λ e. omega (arith, t.past) in
      cond-false (eqb h.epoch d.epoch) false _ (ne_eqb h.epoch d.epoch ne)
      ∙ cond_both (ltb 4 (h.epoch - d.epoch)) h.ever (get_or h.recent (d.epoch % 4) 0) (λ s. not (eqb (bit_and d.zones s) 0) ≡ true)
      (λ e. shared z d.zones h.ever t.within t.far)
      (λ e. shared z d.zones (get_or h.recent (d.epoch % 4) 0) t.within (t.near (ltb-false 4 (h.epoch - d.epoch) e)))

  -- an ageing tells a zone that was entered
  age_tells : (zones : ℕ) → d.epoch ≤ h.epoch → bit_at d.zones z ≡ 1 → bit_at zones z ≡ 1 → Told (aged h zones) d z
  age_tells zones s p q = record {
    within = p;
    past = omega arith;
    near = λ _. rw (joined_at zones (set h.recent (h.epoch % 4) 0) (d.epoch % 4) (omega arith)) (omega (arith, bit_at_or (get_or (set h.recent (h.epoch % 4) 0) (d.epoch % 4) 0) zones z));
    far = omega (arith, bit_at_or h.ever zones z);
  }

  told_aged : (zones : ℕ) → Told h d z → Told (aged h zones) d z
  told_aged zones t = record {
    within = t.within;
    past = omega (arith, t.past);
    near = λ n.
        (let a : (d.epoch % 4) ≢ (h.epoch % 4) = omega (arith, t.past, n) in
        let b : bit_at (get_or h.recent (d.epoch % 4) 0) z ≡ 1 = t.near (omega (arith, t.past, n)) in
        rw (joined_at zones (set h.recent (h.epoch % 4) 0) (d.epoch % 4) (omega arith), get_or-set_other h.recent (h.epoch % 4) (d.epoch % 4) 0 0 a)
        (omega (arith, b, bit_at_or (get_or h.recent (d.epoch % 4) 0) zones z)));
    far = omega (arith, t.far, bit_at_or h.ever zones z);
  }

  told_age : (zones : ℕ) → Told h d z → Told (age_after h zones) d z
  told_age zones t = cond_both (can_age h) (aged h zones) h (λ x. Told x d z) (λ _. told_aged zones t) (λ _. t)

  told_entered : (a : ℕ) → Told h d z → Told h (entered d a) z
  told_entered a t = record { within = omega (arith, t.within, bit_at_or d.zones (zone_bit a) z); past = t.past; near = t.near; far = t.far }

told_run : (t : Moment) (z : ℕ) (es : List Event) → Told t.history t.dependency z → Told (run t es).history (run t es).dependency z
told_run t z [] k = k
told_run t z (ages zones ∷ es) k = told_run (after t (ages zones)) z es (told_age t.history t.dependency z zones k)
told_run t z (enters a ∷ es) k = told_run (after t (enters a)) z es (told_entered t.history t.dependency z a k)

-- ---- what was entered stays entered, and a dependency is never ahead of the arena

record Entered (t : Moment) (z : ℕ) : Type 0 where
  within : bit_at t.dependency.zones z ≡ 1
  before : t.dependency.epoch ≤ t.history.epoch

ageing_grows : (h : History) (zones : ℕ) → h.epoch ≤ (age_after h zones).epoch
ageing_grows h zones = cond_both (can_age h) (aged h zones) h (λ x. h.epoch ≤ x.epoch) (λ _. omega arith) (λ _. omega arith)

run_grows : (t : Moment) (es : List Event) → t.dependency.epoch ≤ t.history.epoch → (run t es).dependency.epoch ≤ (run t es).history.epoch
run_grows t [] h = h
run_grows t (ages zones ∷ es) h = run_grows (after t (ages zones)) es (omega (arith, h, ageing_grows t.history zones))
run_grows t (enters a ∷ es) h = run_grows (after t (enters a)) es h

run_entered : (t : Moment) (z : ℕ) (es : List Event) → Entered t z → Entered (run t es) z
run_entered t z [] k = k
run_entered t z (ages zones ∷ es) k =
    run_entered (after t (ages zones)) z es (record { within = k.within; before = omega (arith, k.before, ageing_grows t.history zones) })
run_entered t z (enters a ∷ es) k =
    run_entered (after t (enters a)) z es (record { within = omega (arith, k.within, bit_at_or t.dependency.zones (zone_bit a) z); before = k.before })

enter_enters : (t : Moment) (a : ℕ) → t.dependency.epoch ≤ t.history.epoch → Entered (after t (enters a)) (zone_of a)
enter_enters t a h = record {
  within = omega (arith, bit_at-pow_same (zone_of a), bit_at_or t.dependency.zones (zone_bit a) (zone_of a));
  before = h;
}

aged_told : (t : Moment) (z zones : ℕ) → Entered t z → can_age t.history ≡ true → has_zone zones z ≡ true
    → Told (after t (ages zones)).history (after t (ages zones)).dependency z
aged_told t z zones k c q =
    rw (cond-true (can_age t.history) (aged t.history zones) t.history c)
    (age_tells t.history t.dependency z zones k.before k.within (eqb-true (zones / 2 ^ z % 2) 1 q))

pub never_misses : NeverMisses
never_misses = (
  (λ h before between later a zones c q.
      let t = after (run (fresh h) before) (enters a) in
      let k = run_entered t (zone_of a) between (enter_enters (run (fresh h) before) a (run_grows (fresh h) before (omega arith))) in
      let u = after (run t between) (ages zones) in
      told_stale (run u later).history (run u later).dependency (zone_of a) (told_run u (zone_of a) later (aged_told (run t between) (zone_of a) zones k c q))),
  λ h d e. cond-true (eqb h.epoch d.epoch) false _ (eq-eqb h.epoch d.epoch e),
)
