-- Sectors each of which leads to the number after its own.
use Rattle.std.proofs.Common.{◌≡◌, ℕ, zero, suc, ◌+◌, ◌-◌, ◌<◌, ◌≤◌, ◌⊎◌, List, ◌∷◌, sym, refl, ap, ◌∙◌, inl, inr, arith}
use Rattle.std.proofs.lemmas.Bool.{lt-ltb, le-ltb, eq-eqb, ne_eqb, cases_eq, cases_lt}
use Rattle.store.specs.Occurs.{occurs}
use Rattle.sectors.specs.declared.chain.Chain.{Chain}
use Rattle.sectors.specs.Sectors.{next_of, sectors, after, last_of, once}
use Rattle.sectors.specs.Chains.{Stands}
use Rattle.sectors.proofs.Paths.{after_more}

-- so of k sectors from s on, but for the last
abbrev pub Rises : (ℕ → ℕ) → ℕ → ℕ → Type 0
Rises f k s = (q : ℕ) → s ≤ q → q + 1 < s + k → f q ≡ q + 1

-- a number that is not counted
pub once_none : (n q : ℕ) → once n q ≡ 0 → (q ≡ 0) ⊎ (n ≤ q)
once_none n q e =
    elim (cases_lt 0 q) [
      | inl a ↦ elim (cases_lt q n) [
        | inl b ↦ let t = lt-ltb 0 q a in let u = lt-ltb q n b in let z : ◌≡◌ {A = ℕ} 1 0 = simp (t, u) at e in absurd (omega arith)
        | inr b ↦ inr b
      ]
      | inr a ↦ inl (omega arith)
    ]

module _ (f : ℕ → ℕ) where
  rises_rest : (k s : ℕ) → Rises f (suc k) s → Rises f k (s + 1)
  rises_rest k s h q l m = h q (omega arith) (omega arith)

  first_rest : (k s : ℕ) → Rises f (suc k) s → sectors (suc k) f s ≡ s ∷ sectors k f (s + 1)
  first_rest zero s h = refl
  first_rest (suc j) s h = ap (λ t. s ∷ sectors (suc j) f t) (h s (omega arith) (omega arith))

  after_rises : (j k s : ℕ) → j < k → Rises f k s → after j f s ≡ s + j
  after_rises zero k s l h = omega arith
  after_rises (suc j) k s l h =
      after_more j f s ∙ ap f (after_rises j k s (omega arith) h) ∙ h (s + j) (omega arith) (omega arith)
      ∙ (let e : s + j + 1 ≡ s + suc j = omega arith in e)

  none_past : (k s p : ℕ) → Rises f k s → (p < s) ⊎ (s + k ≤ p) → occurs p (sectors k f s) ≡ 0
  none_past zero s p h o = refl
  none_past (suc k) s p h o =
      let n : s ≡ p → ⊥ = λ e. elim o [ inl l ↦ omega arith | inr l ↦ omega arith ] in
      let r = none_past k (s + 1) p (rises_rest k s h) (elim o [ inl l ↦ inl (omega arith) | inr l ↦ inr (omega arith) ]) in
      let t = ne_eqb s p n in
      ap (occurs p) (first_rest k s h) ∙ simp (t, r)

  one_within : (k s p : ℕ) → Rises f k s → s ≤ p → p < s + k → occurs p (sectors k f s) ≡ 1
  one_within zero s p h l m = absurd (omega arith)
  one_within (suc k) s p h l m =
      ap (occurs p) (first_rest k s h)
      ∙ elim (cases_eq s p) [
        | inl e ↦ let t = eq-eqb s p e in let r = none_past k (s + 1) p (rises_rest k s h) (inl (omega arith)) in simp (t, r)
        | inr n ↦ let t = ne_eqb s p n in let r = one_within k (s + 1) p (rises_rest k s h) (omega arith) (omega arith) in simp (t, r)
      ]

  pub all_once : (n p : ℕ) → 2 ≤ n → Rises f (n - 1) 1 → occurs p (sectors (n - 1) f 1) ≡ once n p
  all_once n p l h =
      elim (cases_lt 0 p) [
        | inl a ↦ elim (cases_lt p n) [
          | inl b ↦ let t = lt-ltb 0 p a in let u = lt-ltb p n b in simp (t, u) (one_within (n - 1) 1 p h (omega arith) (omega arith))
          | inr b ↦ let t = lt-ltb 0 p a in let u = le-ltb p n b in simp (t, u) (none_past (n - 1) 1 p h (inr (omega arith)))
        ]
        | inr a ↦ let t = le-ltb 0 p a in simp t (none_past (n - 1) 1 p h (inl (omega arith)))
      ]

  last_line : (k : ℕ) → 0 < k → Rises f k 1 → last_of k f 1 ≡ k
  last_line zero l h = absurd (omega arith)
  last_line (suc j) l h = after_rises j (suc j) 1 (omega arith) h ∙ (let e : 1 + j ≡ suc j = omega arith in e)

  ends_line : (k : ℕ) → 0 < k → Rises f k 1 → f k ≡ 0 → after k f 1 ≡ 0
  ends_line zero l h z = absurd (omega arith)
  ends_line (suc j) l h z = after_more j f 1 ∙ ap f (last_line (suc j) l h) ∙ z

pub line_stands : (mem : List ℕ) (n : ℕ) (c : Chain) → 2 ≤ n → Rises (next_of mem) (n - 1) 1 → next_of mem (n - 1) ≡ 0
    → c.first ≡ 1 → c.last ≡ n - 1 → c.count ≡ n - 1 → Stands mem c
line_stands mem n c l h z first last count =
    let f = next_of mem in
    record {
      ends = ap (λ k. after k f c.first) count ∙ ap (after (n - 1) f) first ∙ ends_line f (n - 1) (omega arith) h z;
      last = last ∙ sym (ap (λ k. last_of k f c.first) count ∙ ap (last_of (n - 1) f) first ∙ last_line f (n - 1) (omega arith) h);
    }
