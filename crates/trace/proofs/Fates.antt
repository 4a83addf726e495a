-- The bounds of a fate's numbers.
use Rattle.std.proofs.Common.{ℕ, ◌+◌, ◌≤◌, arith}
use Rattle.trace.specs.declared.deciding.Fate.{Fate}
use Rattle.trace.specs.declared.deciding.Fate.TheVariants.{Stay, Gone, Mark, Grey, Copy, Fresh}
use Rattle.trace.specs.Traces.{Within, Bounded}

pub bounded : (len a n : ℕ) (f : Fate) → n ≤ 256 → a + n ≤ len → Within len n f → Bounded len a f
bounded len a n Stay s h w = tt
bounded len a n (Gone to) s h w = tt
bounded len a n Mark s h w = tt
bounded len a n Grey s h w = tt
bounded len a n (Copy p k to) s h w = (w.0, omega (arith, w.1), omega (arith, w.1), w.2, w.3)
bounded len a n (Fresh p k t) s h w = (w.0, omega (arith, w.1), omega (arith, w.1), w.2)
