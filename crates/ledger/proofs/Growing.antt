-- The rule of an append to the running log.
use Rattle.std.proofs.Common.{◌≡◌, ℕ, ◌+◌, ◌-◌, ◌*◌, ◌/◌, ◌%◌, ◌<◌, ◌≤◌, true, false, cond, eqb, ltb, ◌⊎◌, List, [], ◌∷◌, map, length, Some, Option, sym, refl, ap, ◌∙◌, subst, inl, inr, div-mul-le_self, arith}
use lib.ListN.{length-map}
use native.Mathlib.Nat.{lt-div-mul-add, mul-add-mod_self_right, mod_self, div-eq_of_lt-le}
use Rattle.std.proofs.lemmas.Bool.{eqb-true, cases_Bool, cond-true, cond-false, cond_both, ne_eqb, lt-ltb, le-ltb, ltb-false, eqb-false}
use Rattle.std.proofs.lemmas.Nat.{le-div}
use Rattle.store.specs.Disk.{Disk, View}
use Rattle.rules.specs.Rules.{Config, aligned, MAX, Plan, answer, SizeOverflow, EmptyAppend}
use Rattle.rules.specs.Calls.{Running, appending, from, append_rule}
use Rattle.rules.specs.Calls as calls_of
use Rattle.ledger.specs.Ledger.{Ledger, appended}
use Rattle.ledger.proofs.Chain.{chain_then}
use Rattle.ledger.proofs.Appends.{aligned_next, owed_after, After, append_chain}
use Rattle.ledger.proofs.Commits.{tied_covers, Tied, SafeFor}
use Rattle.ledger.proofs.Plans.{Leads, leads_unless, leads_calls}
use Rattle.ledger.proofs.Recovers.{RunAs}
use Rattle.ledger.proofs.Readings.{Good, good}

-- the blob of the next position
next_blob : (c : Config) (e : ℕ) → 0 < c.n → ((aligned c (e + 1) ≡ true) × ((e + 1) / c.n ≡ e / c.n + 1)) ⊎ ((aligned c (e + 1) ≡ false) × ((e + 1) / c.n ≡ e / c.n))
next_blob c e np =
    let lo = div-mul-le_self e c.n in
    let hi = lt-div-mul-add {a = e} np in
    elim (cases_Bool (aligned c (e + 1))) [
      | inl a ↦
          let q = aligned_next c.n (e / c.n) (e + 1) (omega arith) (omega arith) (eqb-true ((e + 1) % c.n) 0 a) in
          inl (a, div-eq_of_lt-le {k = e / c.n + 1} c.n (omega arith) (omega arith))
      | inr a ↦
          let ne : e + 1 ≡ e / c.n * c.n + c.n → ⊥ = λ j. eqb-false ((e + 1) % c.n) 0 a (ap (λ (k : ℕ). k % c.n) j ∙ (mul-add-mod_self_right (e / c.n) c.n c.n ∙ mod_self c.n)) in
          inr (a, div-eq_of_lt-le {k = e / c.n} c.n (omega arith) (omega arith))
    ]

-- what is owed, record by record, is what is owed by the blobs of the two ends
pub owed_is : {A : Type 0} (c : Config) (np : 0 < c.n) (rs : List A) (e f : ℕ) (o : Option ℕ) → f ≡ e + length rs → owed_after c e o rs ≡ cond (ltb (e / c.n) (f / c.n)) (Some (f / c.n - 1)) o
owed_is c np [] e f o h =
    sym (cond-false (ltb (e / c.n) (f / c.n)) (Some (f / c.n - 1)) o (le-ltb (e / c.n) (f / c.n) (let q : f / c.n ≡ e / c.n = ap (λ (j : ℕ). j / c.n) (omega arith) in omega arith)))
owed_is c np (r ∷ rs) e f o h = elim (next_blob c e np) [
  | inl a ↦
      let q = a.1 in
      cond-true (aligned c (e + 1)) (owed_after c (e + 1) (Some (e / c.n)) rs) (owed_after c (e + 1) o rs) a.0
      ∙ (owed_is c np rs (e + 1) f (Some (e / c.n)) (omega arith)
      ∙ (cond_both (ltb ((e + 1) / c.n) (f / c.n)) (Some (f / c.n - 1)) (Some (e / c.n)) (λ (x : Option ℕ). x ≡ Some (f / c.n - 1))
      (λ u. refl)
      (λ u.
      let g = ltb-false ((e + 1) / c.n) (f / c.n) u in
      let m = up in
      ap {B = Option ℕ} Some (omega arith))
      ∙ sym (cond-true (ltb (e / c.n) (f / c.n)) (Some (f / c.n - 1)) o (lt-ltb (e / c.n) (f / c.n) (let m = up in omega arith)))))
  | inr a ↦
      cond-false (aligned c (e + 1)) (owed_after c (e + 1) (Some (e / c.n)) rs) (owed_after c (e + 1) o rs) a.0
      ∙ (owed_is c np rs (e + 1) f o (omega arith) ∙ ap (λ (j : ℕ). cond (ltb j (f / c.n)) (Some (f / c.n - 1)) o) a.1)
]
  where
    up : (e + 1) / c.n ≤ f / c.n
    up = le-div ((e + 1) / c.n) f c.n np (let d = div-mul-le_self (e + 1) c.n in omega arith)

module _ {R : Type 0} (c : Config) (enc : R → List ℕ) (zp : 0 < c.z) (ez : (r : R) → length (enc r) ≡ c.z) (l : Ledger R) (r : Running) (d : Disk) (t : RunAs c enc l r d) where
  abbrev k : Running
  k = record { start = l.start; end = l.end; owed = r.owed }

  is : r ≡ k
  is = let a = t.start in let b = t.end in λ i. record { start = a i; end = b i; owed = r.owed }

  pub append_leads : (rs : List R) → 0 < length rs → l.end + length rs ≤ MAX → Leads (SafeFor c enc (appended l rs)) (λ x e. RunAs c enc (appended l rs) x.0 e) (append_rule c r (map enc rs)) d
  append_leads rs some most =
      subst (λ (j : Running). Leads S Q (append_rule c j (map enc rs)) d) (sym is)
      (leads_unless S Q (eqb (length (map enc rs)) 0) EmptyAppend _ d (ne_eqb (length (map enc rs)) 0 (λ z. omega (arith, lm)))
      (leads_unless S Q (ltb MAX (l.end + length (map enc rs))) SizeOverflow _ d (le-ltb MAX (l.end + length (map enc rs)) (omega (arith, lm)))
      (leads_calls S Q (appending c l.end r.owed [] (map enc rs)) last d
      (chain_then S (After c enc zp ez (appended l rs) (owed_after c l.end r.owed rs)) (λ e. Leads S Q last e) (appending c l.end r.owed [] (map enc rs)) d
      (λ e q. record {
        start = refl;
        end = ap (λ (j : ℕ). l.end + j) lm;
        lo = q.lo;
        more = q.more;
        tied = subst (λ (o : Option ℕ). Tied c enc q.lo q.more e (appended l rs) o) (owed_is c np rs l.end (l.end + length (map enc rs)) r.owed (omega (arith, lm))) q.tied;
        inside = q.inside;
      })
      (append_chain c enc zp ez rs t.lo t.more l d r.owed [] l.end [] (appended l rs) t.tied (let i = t.inside in omega arith) (omega arith) refl most refl)))))
    where
      lm : length (map enc rs) ≡ length rs
      lm = length-map rs enc

      np : 0 < c.n
      np = let x = t.tied.stand.rows.low.from in let y = t.tied.stand.rows.low.below in omega arith

      S : Disk → Type 0
      S = SafeFor c enc (appended l rs)

      Q : Running × ℕ → Disk → Type 0
      Q x e = RunAs c enc (appended l rs) x.0 e

      end : ℕ
      end = l.end + length (map enc rs)

      last : Plan (Running × ℕ)
      last = answer (record { start = l.start; end = end; owed = calls_of.owed_after c k end }, end - 1)

-- a running log reads all of its span
pub run_good : {R : Type 0} (c : Config) (enc : R → List ℕ) (l : Ledger R) (r : Running) (v : View)
    → v.up ≡ true → RunAs c enc l r v.disk → (p : ℕ) → l.start ≤ p → p < l.end → Good c enc l.start v l.handed p
run_good c enc l r v up k p h g =
    good c enc l v l.end p up k.tied.stand.rows (tied_covers c enc l v.disk r.owed k.tied) (let i = k.inside in omega arith) h g
