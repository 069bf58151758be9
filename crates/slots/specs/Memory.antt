-- The parts of the memory.
use Rattle.std.specs.Prelude.{◌≡◌, ℕ, ◌+◌, ◌*◌, ◌/◌, ◌<◌, ◌≤◌, ◌⊎◌, ◌≢◌}
use Rattle.std.proofs.Common.{arith, add-mul, one-mul, mul-le-mul_right, ap, ◌∙◌, inl, inr}
use Rattle.std.proofs.lemmas.Bool.{cases_order}

pub part_end : (p each : ℕ) → (p + 1) * each ≡ p * each + each
part_end p each = add-mul p 1 each ∙ ap (λ r. p * each + r) (one-mul each)

-- one of 64 parts lies within
pub part_in : (p each n : ℕ) → p < 64 → each ≡ n / 64 → p * each + each ≤ n
part_in p each n h e =
    let m : (p + 1) * each ≤ 64 * each = mul-le-mul_right each (omega arith) in omega (arith, part_end p each)

-- two parts do not meet
pub parts_meet_not : (p q each : ℕ) → (p ≢ q) → (p * each + each ≤ q * each) ⊎ (q * each + each ≤ p * each)
parts_meet_not p q each n =
    elim (cases_order p q) [
      | inl e ↦ absurd (n e)
      | inr (inl l) ↦ inl (let m : (p + 1) * each ≤ q * each = mul-le-mul_right each (omega arith) in omega (arith, part_end p each))
      | inr (inr l) ↦ inr (let m : (q + 1) * each ≤ p * each = mul-le-mul_right each (omega arith) in omega (arith, part_end q each))
    ]
