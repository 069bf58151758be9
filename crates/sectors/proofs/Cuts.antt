-- Chains joined and cut by one next number.
use Rattle.std.proofs.Common.{◌≡◌, ℕ, zero, suc, ◌+◌, ◌-◌, ◌<◌, ◌≤◌, List, ◌++◌, sym, ap, ◌∙◌, subst, arith}
use Rattle.store.specs.Occurs.{occurs}
use Rattle.store.proofs.Occurs.{occurs_append}
use Rattle.sectors.specs.declared.chain.Chain.{Chain}
use Rattle.sectors.specs.Sectors.{next_of, sectors, after, last_of, Apart, Linked}
use Rattle.sectors.specs.Chains.{list, Stands, Both, Relinked, Joined, Split}
use Rattle.sectors.proofs.Paths.{sectors_add, after_add, after_more, after_in, fewer, clear_of, up_to, at_most_once}

last_add : (i j : ℕ) (f : ℕ → ℕ) (s : ℕ) → 0 < j → last_of (i + j) f s ≡ last_of j f (after i f s)
last_add i zero f s l = absurd (omega arith)
last_add i (suc m) f s l = ap (λ n. last_of n f s) (let e : i + suc m ≡ suc (i + m) = omega arith in e) ∙ after_add i m f s

pub last_in : (i : ℕ) (f : ℕ → ℕ) (s : ℕ) → 0 < i → 1 ≤ occurs (last_of i f s) (sectors i f s)
last_in zero f s l = absurd (omega arith)
last_in (suc k) f s l = after_in k (suc k) f s (omega arith)

pub first_in_lem : (i : ℕ) (f : ℕ → ℕ) (s : ℕ) → 0 < i → 1 ≤ occurs s (sectors i f s)
first_in_lem i f s l = after_in 0 i f s l

next_last : (i : ℕ) (f : ℕ → ℕ) (s : ℕ) → 0 < i → f (last_of i f s) ≡ after i f s
next_last zero f s l = absurd (omega arith)
next_last (suc k) f s l = sym (after_more k f s)

module _ (f g : ℕ → ℕ) (i s t : ℕ) (some : 0 < i) (last : t ≡ last_of i f s) (others : (q : ℕ) → (q ≡ t → ⊥) → g q ≡ f q) where
  here : 1 ≤ occurs t (sectors i f s)
  here = subst (λ x. 1 ≤ occurs x (sectors i f s)) (sym last) (last_in i f s some)

  -- the chain up to t, whose next number is the one that changes
  front : occurs t (sectors i f s) ≤ 1 → (sectors i g s ≡ sectors i f s) × (after i g s ≡ g t) × (last_of i g s ≡ t)
  front l = by_count i some last l
    where
      by_count : (i : ℕ) → 0 < i → t ≡ last_of i f s → occurs t (sectors i f s) ≤ 1
          → (sectors i g s ≡ sectors i f s) × (after i g s ≡ g t) × (last_of i g s ≡ t)
      by_count zero a b c = absurd (omega arith)
      by_count (suc k) a b c = let r = up_to f g t others k s b c in (r.0, r.2, r.1)

  pub joins_by : (j u : ℕ) → 0 < j → g t ≡ u → occurs t (sectors i f s) + occurs t (sectors j f u) ≤ 1 → after j f u ≡ 0
      → (sectors (i + j) g s ≡ sectors i f s ++ sectors j f u) × (after (i + j) g s ≡ 0) × (last_of (i + j) g s ≡ last_of j f u)
  joins_by j u more e l ends =
      let h = here in
      let a = front (omega arith) in
      let b = clear_of f g t others j u (omega arith) in
      let n : after i g s ≡ u = a.1 ∙ e in (
        sectors_add i j g s ∙ ap (λ xs. xs ++ sectors j g (after i g s)) a.0 ∙ ap (λ x. sectors i f s ++ sectors j g x) n ∙ ap (λ ys. sectors i f s ++ ys) b.0,
        after_add i j g s ∙ ap (after j g) n ∙ b.1 ∙ ends,
        last_add i j g s more ∙ ap (last_of j g) n ∙ b.2,
      )

  pub splits_by : (j : ℕ) → 0 < j → g t ≡ 0 → occurs t (sectors (i + j) f s) ≤ 1 → after (i + j) f s ≡ 0
      → (sectors i g s ++ sectors j g (f t) ≡ sectors (i + j) f s) × (after i g s ≡ 0) × (last_of i g s ≡ t)
      × (after j g (f t) ≡ 0) × (last_of j g (f t) ≡ last_of (i + j) f s)
  splits_by j more e l ends =
      let h = here in
      let n : f t ≡ after i f s = ap f last ∙ next_last i f s some in
      let o = ap (occurs t) (sectors_add i j f s) ∙ occurs_append t (sectors i f s) (sectors j f (after i f s)) in
      let a = front (omega arith) in
      let b = clear_of f g t others j (after i f s) (omega arith) in (
        ap (λ xs. xs ++ sectors j g (f t)) a.0 ∙ ap (λ x. sectors i f s ++ sectors j g x) n ∙ ap (λ ys. sectors i f s ++ ys) b.0 ∙ sym (sectors_add i j f s),
        a.1 ∙ e,
        a.2,
        ap (after j g) n ∙ b.1 ∙ sym (after_add i j f s) ∙ ends,
        ap (last_of j g) n ∙ b.2 ∙ sym (last_add i j f s more),
      )

-- the one sector whose next number changes is one of xs
relinked : (mem xs new : List ℕ) (t n : ℕ) → 1 ≤ occurs t xs → Linked mem t n new → Relinked mem xs new
relinked mem xs new t n l h =
    record { payloads = h.payloads; others = λ q z. h.others q (λ e. let w = ap (λ p. occurs p xs) e in omega arith) }

pub joins : (mem new : List ℕ) (a b c : Chain) → 0 < a.count → 0 < b.count → Both mem a b → Linked mem a.last b.first new
    → c.first ≡ a.first → c.last ≡ b.last → c.count ≡ a.count + b.count → Joined mem a b new c
joins mem new a b c some more both linked first last count =
    let f = next_of mem in
    let g = next_of new in
    let t = a.last in
    let apart = both.apart in
    let o : occurs t (list mem a) + occurs t (list mem b) ≤ 1 =
    omega (arith, at_most_once mem (list mem a ++ list mem b) apart t, occurs_append t (list mem a) (list mem b)) in
    let r = joins_by f g a.count a.first t some both.one.last linked.others b.count b.first more linked.here o both.other.ends in
    record {
      stands = record {
        ends = ap (λ n. after n g c.first) count ∙ ap (after (a.count + b.count) g) first ∙ r.1;
        last = last ∙ both.other.last ∙ sym (ap (λ n. last_of n g c.first) count ∙ ap (last_of (a.count + b.count) g) first ∙ r.2);
      };
      sectors = ap (λ n. sectors n g c.first) count ∙ ap (sectors (a.count + b.count) g) first ∙ r.0;
      count = count;
      relinked = relinked mem (list mem a) new t b.first (here f g a.count a.first t some both.one.last linked.others) linked;
    }

pub splits : (mem new : List ℕ) (c a b : Chain) (k : ℕ) → 0 < k → k < c.count → Stands mem c → Apart mem (list mem c)
    → Linked mem a.last 0 new → a.last ≡ last_of k (next_of mem) c.first
    → a.first ≡ c.first → a.count ≡ k → b.first ≡ next_of mem a.last → b.last ≡ c.last → b.count ≡ c.count - k → Split mem c k new a b
splits mem new c a b k some more stands apart linked at first count next last rest =
    let f = next_of mem in
    let g = next_of new in
    let t = a.last in
    let j = c.count - k in
    let n : c.count ≡ k + j = omega arith in
    let o : occurs t (sectors (k + j) f c.first) ≤ 1 =
    subst (λ m. occurs t (sectors m f c.first) ≤ 1) n (at_most_once mem (list mem c) apart t) in
    let r = splits_by f g k c.first t some at linked.others j (omega arith) linked.here o (ap (λ m. after m f c.first) (sym n) ∙ stands.ends) in
    record {
      front = record {
        ends = ap (λ m. after m g a.first) count ∙ ap (after k g) first ∙ r.1;
        last = sym (ap (λ m. last_of m g a.first) count ∙ ap (last_of k g) first ∙ r.2);
      };
      rest = record {
        ends = ap (λ m. after m g b.first) rest ∙ ap (after j g) next ∙ r.3;
        last = last ∙ stands.last ∙ ap (λ m. last_of m f c.first) n ∙ sym (ap (λ m. last_of m g b.first) rest ∙ ap (last_of j g) next ∙ r.4);
      };
      sectors =
          ap (λ m. sectors m g a.first ++ list new b) count
          ∙ ap (λ x. sectors k g x ++ list new b) first
          ∙ ap (λ m. sectors k g c.first ++ sectors m g b.first) rest
          ∙ ap (λ x. sectors k g c.first ++ sectors j g x) next
          ∙ r.0
          ∙ ap (λ m. sectors m f c.first) (sym n);
      counts = (count, omega arith);
      relinked = relinked mem (list mem c) new t 0 (omega (
        arith,
        fewer k c.count f c.first (omega arith) t,
        here f g k c.first t some at linked.others,
      )) linked;
    }
