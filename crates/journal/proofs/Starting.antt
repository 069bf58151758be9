-- The start, the edge and the watermark.
use Rattle.std.proofs.Common.{◌≡◌, ℕ, ◌+◌, ◌-◌, ◌*◌, ◌/◌, ◌%◌, ◌<◌, ◌≤◌, min, Bool, true, false, Some, None, Ok, Err, Option, sym, refl, subst, arith}
use Rattle.std.proofs.Math.Nat.{div-eq_of_lt-le, add-mul, one-mul}
use Rattle.std.proofs.lemmas.Grind.{div_ceil_times}
use Rattle.std.specs.Cmp.{ranks}
use Rattle.std.specs.Ordering.{MatchOrdering, nat_cmp}
use Rattle.std.specs.declared.cmp.Ordering.{Ordering}
use Rattle.std.specs.declared.cmp.Ordering.TheVariants.{Greater}
use Rattle.std.proofs.lemmas.Bool.{lt-ltb, le-ltb, ne_eqb}
use Rattle.rules.specs.Rules.{Config, MAX, Plan, refused, blob_of, aligned}
use Rattle.rules.specs.Rules.{Corruption as Corrupted}
use Rattle.rules.specs.Rules.{OffsetOverflow as Over}
use Rattle.rules.specs.Open.{Opened, start_at, or_max, weigh, stands}
use Rattle.journal.specs.declared.fault.Corrupt.TheVariants.{HintNewer, HintWithoutBlobs, Watermark, Gap}
use Rattle.journal.specs.declared.fault.Fault.{Fault}
use Rattle.journal.specs.declared.fault.Fault.TheVariants.{Corruption}
use Rattle.journal.specs.Faults.{Means}
use Rattle.journal.specs.Recovery.{First, Tells}

pub start_over : (c : Config) (h lo : Option ℕ) (e : Fault) (k : ℕ → Plan Opened) → First c lo (Err e) → Tells e (start_at c h lo k)
start_over c h None e k f = absurd f
start_over c None (Some lo) e k f =
    let t = lt-ltb MAX (lo * c.n) f.1 in (Over, subst (λ (y : Fault). Means {A = Opened} y (refused Over)) (sym f.0) refl, simp t)
start_over c (Some h) (Some lo) e k f =
    let t = lt-ltb MAX (lo * c.n) f.1 in (Over, subst (λ (y : Fault). Means {A = Opened} y (refused Over)) (sym f.0) refl, simp t)

pub start_bare : (c : Config) (p q : Option ℕ) (h : ℕ) (k : ℕ → Plan Opened) → p ≡ Some h → q ≡ None → aligned c h ≡ false → Tells (Corruption HintWithoutBlobs) (start_at c p q k)
start_bare c p q h k ep eq a = (Corrupted 2, refl, simp (ep, eq, a))

pub start_newer : (c : Config) (p q : Option ℕ) (h lo f : ℕ) (k : ℕ → Plan Opened) → p ≡ Some h → q ≡ Some lo → aligned c h ≡ false → First c q (Ok f) → Greater ≡ nat_cmp (blob_of c h) lo
    → Tells (Corruption HintNewer) (start_at c p q k)
start_newer c p q h lo f k ep eq a o g =
    let first = subst (λ (x : Option ℕ). First c x (Ok f)) eq o in
    let l : lo < blob_of c h = subst (λ (r : Ordering). MatchOrdering r (blob_of c h < lo) (blob_of c h ≡ lo) (lo < blob_of c h)) (sym g) (ranks (blob_of c h) lo) in
    let t : _ ≡ false = le-ltb MAX (lo * c.n) (omega (arith, first.0, first.1)) in
    let u = le-ltb (blob_of c h) lo (omega arith) in
    let w = ne_eqb (blob_of c h) lo (λ e. omega arith) in
    (Corrupted 1, refl, simp (ep, eq, t, a, u, w))

-- rounded up, as std does and as the rules do
pub ceil : (n p : ℕ) → 0 < p → n / p + min 1 (n % p) ≡ (n + (p - 1)) / p
ceil n p pp =
    let q : ℕ = n / p + min 1 (n % p) in
    let t = div_ceil_times n p pp in
    let low : q * p ≤ n + (p - 1) = omega (arith, t.1) in
    let high : n + (p - 1) < (q + 1) * p = rw (add-mul q 1 p) (omega (arith, t.0, one-mul p)) in
    sym (div-eq_of_lt-le p low high)

pub weigh_gap : (c : Config) (s e size : ℕ) (ceiling m : Option ℕ) (gap : Bool) → m ≡ None → gap ≡ true → Tells (Corruption Gap) (weigh c s ceiling e m (stands size gap))
weigh_gap c s e size ceiling m gap p q = (Corrupted 6, refl, simp (p, q))

pub weigh_low : (c : Config) (s e size k low : ℕ) (ceiling m : Option ℕ) (gap : Bool) → m ≡ Some k → low ≡ min k (or_max ceiling) → size < low → Tells (Corruption Watermark) (weigh c s ceiling e m (stands size gap))
weigh_low c s e size k low ceiling m gap p q l = let t = lt-ltb size (min k (or_max ceiling)) (omega arith) in (Corrupted 5, refl, simp (p, t))
