-- What becomes of a suspect.
use Rattle.std.proofs.Common.{◌≡◌, ℕ, ◌<◌, ◌≤◌, Bool, true, false, not, eqb, [], ◌∷◌, Some, None, Option, sym, refl, ap, ◌∙◌, subst, inl, inr}
use Rattle.std.proofs.lemmas.Bool.{lt-ltb, le-ltb, cases_Bool}
use Rattle.std.specs.Bool.{then_some}
use Rattle.store.specs.Disk.{Blob, Blobs, Disk, View, find, change, cut_to, Does, Refuses, Truncate}
use Rattle.rules.specs.Rules.{Config, MAX, Plan, blob_of, call, refuse, refused, stopped, Follows, Wrote}
use Rattle.rules.specs.Rules.{OffsetOverflow as Over}
use Rattle.rules.specs.Rules.{Corruption as Corrupted}
use Rattle.rules.specs.Open.{Opened, examine, acknowledged, passes, valid}
use Rattle.journal.specs.declared.fault.StoreFault.{StoreFault}
use Rattle.journal.specs.declared.fault.Corrupt.TheVariants.{Acknowledged}
use Rattle.journal.specs.declared.fault.Fault.TheVariants.{OffsetOverflow, Corruption, Store}
use Rattle.journal.specs.Faults.{step_of_op}
use Rattle.journal.specs.Recovery.{Ends, Stood}
use Rattle.journal.proofs.Taken.{impossible}

-- one blob of a list, changed to what it is made of it
pub change_to : (f : Blob → Blob) (b : ℕ) (xs : Blobs) (x : Blob) → find xs b ≡ Some x → change f b xs ≡ change (λ _. f x) b xs
change_to f b [] x e = refl
change_to f b (y ∷ ys) x e = elim (cases_Bool (eqb y.0 b)) [
  | inl t ↦ let q : Some y.1 ≡ Some x = simp t at e in let p : y.1 ≡ x = cc in simp t (ap (λ (z : Blob). (y.0, f z) ∷ ys) p)
  | inr t ↦ simp t (ap (λ (zs : Blobs). y ∷ zs) (change_to f b ys x (simp t at e)))
]

pub change_same : (b : ℕ) (xs : Blobs) → change (λ x. x) b xs ≡ xs
change_same b [] = refl
change_same b (y ∷ ys) = elim (cases_Bool (eqb y.0 b)) [ inl t ↦ simp t | inr t ↦ simp t (ap (λ (zs : Blobs). y ∷ zs) (change_same b ys)) ]

-- whether a suspect passes, by where it is cut
pub cut_none : (p : Bool) (n : ℕ) (o : Option ℕ) → o ≡ then_some (not p) n → o ≡ None → p ≡ true
cut_none true n o e h = refl
cut_none false n o e h = impossible (let z : ◌≡◌ {A = ℕ} 0 1 = cc in z)

pub cut_some : (p : Bool) (n m : ℕ) (o : Option ℕ) → o ≡ then_some (not p) n → o ≡ Some m → (p ≡ false) × (m ≡ n)
cut_some true n m o e h = impossible (let z : ◌≡◌ {A = ℕ} 0 1 = cc in z)
cut_some false n m o e h = (refl, cc)

-- the rule's five ways
module _ (c : Config) (s : ℕ) (ceiling : Option ℕ) (floor b : ℕ) (x : Blob) (v : View) (up : v.up ≡ true) (found : find v.disk.blobs b ≡ Some x) where
  as_it_was : ((k : ℕ × Blob → Plan Opened) → examine c s ceiling floor (b, x) k ≡ k (b, x)) → Stood c s ceiling floor b x v v
  as_it_was e = record {
    blob = x;
    up = up;
    blobs = sym (change_same b v.disk.blobs) ∙ change_to (λ y. y) b v.disk.blobs x found;
    leads = λ k r y f. subst (λ (p : Plan Opened). Follows p v r y) (sym (e k)) f;
  }

  pub stood_below : b < blob_of c floor → Stood c s ceiling floor b x v v
  stood_below l = let t = lt-ltb b (blob_of c floor) l in as_it_was (λ k. simp t)

  module _ (not-below : blob_of c floor ≤ b) where
    pub over_owed : MAX < acknowledged c s floor b → (k : ℕ × Blob → Plan Opened) → Ends (examine c s ceiling floor (b, x) k) v OffsetOverflow v
    over_owed l k =
        let t = le-ltb b (blob_of c floor) not-below in
        let u = lt-ltb MAX (acknowledged c s floor b) l in
        let e : examine c s ceiling floor (b, x) k ≡ refuse Over = simp (t, u) in
        (refused Over, refl, subst (λ (p : Plan Opened). Follows p v (refused Over) v) (sym e) (refl, refl))

    module _ (fits : acknowledged c s floor b ≤ MAX) where
      pub stood_passed : passes c s ceiling (b, x) ≡ true → Stood c s ceiling floor b x v v
      stood_passed q =
          let t = le-ltb b (blob_of c floor) not-below in
          let u = le-ltb MAX (acknowledged c s floor b) fits in
          as_it_was (λ k. simp (t, u, q))

      module _ (q : passes c s ceiling (b, x) ≡ false) where
        pub short : valid c s ceiling (b, x) < acknowledged c s floor b → (k : ℕ × Blob → Plan Opened) → Ends (examine c s ceiling floor (b, x) k) v (Corruption Acknowledged) v
        short l k =
            let t = le-ltb b (blob_of c floor) not-below in
            let u = le-ltb MAX (acknowledged c s floor b) fits in
            let w = lt-ltb (valid c s ceiling (b, x)) (acknowledged c s floor b) l in
            let e : examine c s ceiling floor (b, x) k ≡ refuse (Corrupted 3) = simp (t, u, q, w) in
            (refused (Corrupted 3), refl, subst (λ (p : Plan Opened). Follows p v (refused (Corrupted 3)) v) (sym e) (refl, refl))

        cuts : acknowledged c s floor b ≤ valid c s ceiling (b, x) → (k : ℕ × Blob → Plan Opened)
            → examine c s ceiling floor (b, x) k ≡ call (Truncate b (valid c s ceiling (b, x))) (k (b, cut_to (valid c s ceiling (b, x)) x))
        cuts l k =
            let t = le-ltb b (blob_of c floor) not-below in
            let u = le-ltb MAX (acknowledged c s floor b) fits in
            let w = le-ltb (valid c s ceiling (b, x)) (acknowledged c s floor b) l in
            simp (t, u, q, w)

        pub stood_cut : (w : View) → acknowledged c s floor b ≤ valid c s ceiling (b, x) → Does (Truncate b (valid c s ceiling (b, x))) v w → Stood c s ceiling floor b x v w
        stood_cut w l d = record {
          blob = cut_to (valid c s ceiling (b, x)) x;
          up = d.1;
          blobs = ap (λ (k : Disk). k.blobs) d.2 ∙ change_to (cut_to (valid c s ceiling (b, x))) b v.disk.blobs x found;
          leads = λ k r y f. subst (λ (p : Plan Opened). Follows p v r y) (sym (cuts l k)) (inl (w, d, f));
        }

        pub cut_stopped : (w : View) (e : StoreFault) → acknowledged c s floor b ≤ valid c s ceiling (b, x)
            → (e.step ≡ step_of_op (Truncate b (valid c s ceiling (b, x)))) × Refuses (Truncate b (valid c s ceiling (b, x))) v e.cause w
            → (k : ℕ × Blob → Plan Opened) → Ends (examine c s ceiling floor (b, x) k) v (Store e) w
        cut_stopped w e l h k =
            let o = Truncate b (valid c s ceiling (b, x)) in
            (stopped (Wrote o) e.cause, (Wrote o, h.0, refl), subst (λ (p : Plan Opened). Follows p v (stopped (Wrote o) e.cause) w) (sym (cuts l k)) (inr (e.cause, refl, h.1)))
