-- One step of several.
use Rattle.std.proofs.Common.{◌≡◌, ℕ, ◌+◌, ◌-◌, ◌<◌, suc, arith}

pub one_more : (n m : ℕ) → 0 < n → n + m ≡ suc (n - 1 + m)
one_more n m lt = omega arith
