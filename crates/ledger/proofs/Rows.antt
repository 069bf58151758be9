-- Numbers in a row: which of them are had, those from one on, those up to one, and the row turned round.
use Rattle.std.proofs.Common.{◌≡◌, ℕ, zero, suc, ◌+◌, ◌<◌, ◌≤◌, true, false, List, [], ◌∷◌, ◌++◌, reverse, refl, ap, ◌∙◌, arith}
use Rattle.std.proofs.lemmas.Bool.Decides.{nat_tests}
use Rattle.std.proofs.lemmas.List.{reverse-append}
use Rattle.rules.specs.Calls.{has, from, up_to, count}

pub has_in : (lo k b : ℕ) → lo ≤ b → b < lo + k → has b (count lo k) ≡ true
has_in lo zero b h g = absurd (omega arith)
has_in lo (suc k) b h g = let ih = has_in (lo + 1) k b in grind (arith, nat_tests)

pub has_above : (lo k b : ℕ) → lo + k ≤ b → has b (count lo k) ≡ false
has_above lo zero b h = refl
has_above lo (suc k) b h = let ih = has_above (lo + 1) k b (omega arith) in grind (arith, nat_tests)

pub from_above : (lo k a : ℕ) → lo + k ≤ a → from a (count lo k) ≡ []
from_above lo zero a h = refl
from_above lo (suc k) a h = let ih = from_above (lo + 1) k a (omega arith) in grind (arith, nat_tests)

pub from_low : (lo k a : ℕ) → a ≤ lo → from a (count lo k) ≡ count lo k
from_low lo zero a h = refl
from_low lo (suc k) a h = let ih = from_low (lo + 1) k a (omega arith) in grind (arith, nat_tests)

pub from_row : (x lo k a : ℕ) → a ≡ lo + x → from a (count lo (x + k)) ≡ count a k
from_row zero lo k a h =
    let e : zero + k ≡ k = omega arith in
    ap (λ (j : ℕ). from a (count lo j)) e ∙ (from_low lo k a (omega arith) ∙ ap (λ (j : ℕ). count j k) (let i : lo ≡ a = omega arith in i))
from_row (suc x) lo k a h =
    let e : suc x + k ≡ suc (x + k) = omega arith in
    let ih = from_row x (lo + 1) k a (omega arith) in
    ap (λ (j : ℕ). from a (count lo j)) e ∙ (let t : from a (count lo (suc (x + k))) ≡ from a (count (lo + 1) (x + k)) = (grind (arith, nat_tests)) in t ∙ ih)

pub up_to_all : (lo k a : ℕ) → lo + k ≤ a → up_to a (count lo k) ≡ count lo k
up_to_all lo zero a h = refl
up_to_all lo (suc k) a h = let ih = up_to_all (lo + 1) k a (omega arith) in grind (arith, nat_tests)

pub up_to_none : (lo k a : ℕ) → a ≤ lo → up_to a (count lo k) ≡ []
up_to_none lo zero a h = refl
up_to_none lo (suc k) a h = let ih = up_to_none (lo + 1) k a (omega arith) in grind (arith, nat_tests)

pub up_to_row : (x lo k a : ℕ) → a ≡ lo + x → up_to a (count lo (x + k)) ≡ count lo x
up_to_row zero lo k a h = up_to_none lo (zero + k) a (omega arith)
up_to_row (suc x) lo k a h =
    let e : suc x + k ≡ suc (x + k) = omega arith in
    let ih = up_to_row x (lo + 1) k a (omega arith) in
    ap (λ (j : ℕ). up_to a (count lo j)) e ∙ (let t : up_to a (count lo (suc (x + k))) ≡ lo ∷ up_to a (count (lo + 1) (x + k)) = (grind (arith, nat_tests)) in t ∙ ap {B = List ℕ} (λ r. lo ∷ r) ih)

-- one more at the end
pub count_more : (lo k b : ℕ) → b ≡ lo + k → count lo (suc k) ≡ count lo k ++ (b ∷ [])
count_more lo zero b h = ap {B = List ℕ} (λ r. r ∷ []) (let i : lo ≡ b = omega arith in i)
count_more lo (suc k) b h = ap {B = List ℕ} (λ r. lo ∷ r) (count_more (lo + 1) k b (omega arith))

pub reverse_more : (lo k b : ℕ) → b ≡ lo + k → reverse (count lo (suc k)) ≡ b ∷ reverse (count lo k)
reverse_more lo k b h = ap (λ (r : List ℕ). reverse r) (count_more lo k b h) ∙ reverse-append (count lo k) (b ∷ [])
