-- Chains by their next numbers: parts of a chain, and a change of one next number.
use Rattle.std.proofs.Common.{◌≡◌, ℕ, zero, suc, ◌+◌, ◌*◌, ◌/◌, ◌<◌, ◌≤◌, min, Bool, true, false, cond, ltb, List, [], ◌∷◌, ◌++◌, length, sym, refl, ap, ◌∙◌, arith}
use Rattle.std.proofs.lemmas.Bool.{ltb-true}
use Rattle.store.specs.Occurs.{occurs}
use Rattle.store.proofs.Occurs.{occurs_append, occurs_self}
use Rattle.sectors.specs.Sectors.{sectors, after, last_of, once, Apart}

-- which numbers there can be ----------------------------------------------------------------------

pub once_in : (n p : ℕ) → 1 ≤ once n p → (0 < p) × (p < n)
once_in n p h = by_test (ltb 0 p) (ltb p n) refl refl
  where
    by_test : (a b : Bool) → ltb 0 p ≡ a → ltb p n ≡ b → (0 < p) × (p < n)
    by_test true true d e = (ltb-true 0 p d, ltb-true p n e)
    by_test true false d e = let z : 1 ≤ 0 = simp (d, e) at h in absurd (omega arith)
    by_test false true d e = let z : 1 ≤ 0 = simp (d, e) at h in absurd (omega arith)
    by_test false false d e = let z : 1 ≤ 0 = simp (d, e) at h in absurd (omega arith)

pub once_one : (n p : ℕ) → once n p ≤ 1
once_one n p = by_test (ltb 0 p) (ltb p n)
  where
    by_test : (a b : Bool) → cond a (cond b 1 0) 0 ≤ 1
    by_test true true = omega arith
    by_test true false = omega arith
    by_test false true = omega arith
    by_test false false = omega arith

-- a sector of a chain lies in the memory
pub inside : (mem xs : List ℕ) → Apart mem xs → (p : ℕ) → 1 ≤ occurs p xs → (0 < p) × (p < 65536) × (64 * p + 64 ≤ length mem)
inside mem xs h p l =
    let i = once_in (min (length mem / 64) 65536) p (omega (arith, h p)) in
    (i.0, omega (arith, i.1), omega (arith, i.1))

pub at_most_once : (mem xs : List ℕ) → Apart mem xs → (p : ℕ) → occurs p xs ≤ 1
at_most_once mem xs h p = omega (arith, h p, once_one (min (length mem / 64) 65536) p)

pub apart_part : (mem xs ys : List ℕ) → Apart mem ys → ((p : ℕ) → occurs p xs ≤ occurs p ys) → Apart mem xs
apart_part mem xs ys h l p = omega (arith, h p, l p)

-- parts of a chain --------------------------------------------------------------------------------

pub sectors_add : (j k : ℕ) (f : ℕ → ℕ) (s : ℕ) → sectors (j + k) f s ≡ sectors j f s ++ sectors k f (after j f s)
sectors_add zero k f s = ap (λ n. sectors n f s) (let e : 0 + k ≡ k = omega arith in e)
sectors_add (suc j) k f s =
    ap (λ n. sectors n f s) (let e : suc j + k ≡ suc (j + k) = omega arith in e) ∙ ap (λ xs. s ∷ xs) (sectors_add j k f (f s))

pub after_add : (j k : ℕ) (f : ℕ → ℕ) (s : ℕ) → after (j + k) f s ≡ after k f (after j f s)
after_add zero k f s = ap (λ n. after n f s) (let e : 0 + k ≡ k = omega arith in e)
after_add (suc j) k f s =
    ap (λ n. after n f s) (let e : suc j + k ≡ suc (j + k) = omega arith in e) ∙ after_add j k f (f s)

pub sectors_more : (k : ℕ) (f : ℕ → ℕ) (s : ℕ) → sectors (suc k) f s ≡ sectors k f s ++ after k f s ∷ []
sectors_more zero f s = refl
sectors_more (suc k) f s = ap (λ xs. s ∷ xs) (sectors_more k f (f s))

pub after_more : (k : ℕ) (f : ℕ → ℕ) (s : ℕ) → after (suc k) f s ≡ f (after k f s)
after_more zero f s = refl
after_more (suc k) f s = after_more k f (f s)

pub after_in : (j k : ℕ) (f : ℕ → ℕ) (s : ℕ) → j < k → 1 ≤ occurs (after j f s) (sectors k f s)
after_in zero zero f s l = absurd (omega arith)
after_in zero (suc k) f s l = occurs_self s (sectors k f (f s))
after_in (suc j) zero f s l = absurd (omega arith)
after_in (suc j) (suc k) f s l = omega (arith, after_in j k f (f s) (omega arith))

-- fewer sectors hold no more
pub fewer : (j k : ℕ) (f : ℕ → ℕ) (s : ℕ) → j ≤ k → (p : ℕ) → occurs p (sectors j f s) ≤ occurs p (sectors k f s)
fewer zero k f s l p = omega arith
fewer (suc j) zero f s l p = absurd (omega arith)
fewer (suc j) (suc k) f s l p = omega (arith, fewer j k f (f s) (omega arith) p)

pub length_sectors : (k : ℕ) (f : ℕ → ℕ) (s : ℕ) → length (sectors k f s) ≡ k
length_sectors zero f s = refl
length_sectors (suc k) f s = ap suc (length_sectors k f (f s))

-- chains whose next numbers are as they were ------------------------------------------------------

pub chain_same : (k : ℕ) (f g : ℕ → ℕ) (s : ℕ) → ((q : ℕ) → 1 ≤ occurs q (sectors k f s) → g q ≡ f q)
    → (sectors k g s ≡ sectors k f s) × (after k g s ≡ after k f s)
chain_same zero f g s h = (refl, refl)
chain_same (suc k) f g s h =
    let e : g s ≡ f s = h s (occurs_self s (sectors k f (f s))) in
    let r = chain_same k f g (f s) (λ q l. h q (omega arith)) in
    (ap (λ t. s ∷ sectors k g t) e ∙ ap (λ xs. s ∷ xs) r.0, ap (after k g) e ∙ r.1)

pub last_same : (k : ℕ) (f g : ℕ → ℕ) (s : ℕ) → ((q : ℕ) → 1 ≤ occurs q (sectors k f s) → g q ≡ f q) → last_of k g s ≡ last_of k f s
last_same zero f g s h = refl
last_same (suc k) f g s h = (chain_same k f g s (λ q l. h q (omega (arith, fewer k (suc k) f s (omega arith) q)))).1

-- one next number changes, that of t
module _ (f g : ℕ → ℕ) (t : ℕ) (others : (q : ℕ) → (q ≡ t → ⊥) → g q ≡ f q) where
  same_at : (xs : List ℕ) → occurs t xs ≡ 0 → (q : ℕ) → 1 ≤ occurs q xs → g q ≡ f q
  same_at xs n q l = others q (λ e. let z = ap (λ p. occurs p xs) e in omega arith)

  -- a chain without t
  pub clear_of : (j s : ℕ) → occurs t (sectors j f s) ≡ 0
      → (sectors j g s ≡ sectors j f s) × (after j g s ≡ after j f s) × (last_of j g s ≡ last_of j f s)
  clear_of j s n =
      let h = same_at (sectors j f s) n in
      let r = chain_same j f g s h in
      (r.0, r.1, last_same j f g s h)

  -- a chain whose last sector is t
  pub up_to : (k s : ℕ) → t ≡ after k f s → occurs t (sectors (suc k) f s) ≤ 1
      → (sectors (suc k) g s ≡ sectors (suc k) f s) × (after k g s ≡ t) × (after (suc k) g s ≡ g t)
  up_to k s e l =
      let m : occurs t (sectors (suc k) f s) ≡ occurs t (sectors k f s) + occurs t (t ∷ []) =
      ap (occurs t) (sectors_more k f s ∙ ap (λ x. sectors k f s ++ x ∷ []) (sym e)) ∙ occurs_append t (sectors k f s) (t ∷ []) in
      let r = chain_same k f g s (same_at (sectors k f s) (omega (arith, occurs_self t []))) in
      let a : after k g s ≡ t = r.1 ∙ sym e in (
        sectors_more k g s ∙ ap (λ xs. xs ++ after k g s ∷ []) r.0 ∙ ap (λ x. sectors k f s ++ x ∷ []) r.1 ∙ sym (sectors_more k f s),
        a,
        after_more k g s ∙ ap g a,
      )
