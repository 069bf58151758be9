use Rattle.std.proofs.Common.{ℕ, ◌^◌, ◌<◌, ◌≤◌, arith}
use native.Mathlib.Nat.{pow-le-pow_right}
use Rattle.octets.proofs.numbers.number.Goals as goal

-- seven bytes at most come before the last
below_last : (n i : ℕ) → n < 256 ^ i → i < 8 → n < 72057594037927936
below_last n i l m = let p : 256 ^ i ≤ 256 ^ 7 = pow-le-pow_right (omega arith) {i = i} {j = 7} (omega arith) in omega arith

pub overflow_mul-n : goal.overflow_mul-n
overflow_mul-n c = let l = below_last c.loop-b.n c.loop-b.b-index c.loop-b.invariant.1 (omega arith) in omega arith
