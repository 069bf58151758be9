-- A plan that is followed on a store: from where a plan leads to how the call ends.
use Rattle.std.proofs.Common.{◌≡◌, Bool, true, false, ltb, leb, ◌⊎◌, List, [], ◌∷◌, length, is_some, Some, None, Option, sym, refl, ap, ◌∙◌, subst, inl, inr}
use Rattle.std.proofs.lemmas.Bool.{cases_Bool, cond-true, cond-false, le-ltb}
use Rattle.store.specs.declared.cause.Cause.{Cause}
use Rattle.store.specs.declared.cause.Cause.TheVariants.{Power, Range, NoRoom}
use Rattle.store.specs.Disk.{Blob, Disk, View, find, Op, Open, Append, Truncate, Sync, Remove, Put, DropKey, SyncKeys, refuses_up, at_blob, cause_if, Made}
use Rattle.rules.specs.Rules.{Plan, Fault, answer, refuse, ask, call, Step, Outcome, answered, refused, stopped, Follows}
use Rattle.ledger.proofs.Blobs.{impossible, never}
use Rattle.ledger.proofs.Chain.{Apt, Closed, not_made}
use Rattle.ledger.proofs.Plans.{LeadsOr}

-- the one cause, besides the power, for which an apt call is refused
room_only : (b : Bool) (y : Cause) → cause_if b NoRoom ≡ Some y → y ≡ NoRoom
room_only true y e = cc
room_only false y e = impossible cc

no_range : (b : Bool) (y : Cause) → b ≡ false → cause_if b Range ≡ Some y → y ≡ NoRoom
no_range true y f e = impossible cc
no_range false y f e = impossible cc

apt_refused : (o : Op) (v : View) (y : Cause) → Apt o v.disk → refuses_up o v ≡ Some y → y ≡ NoRoom
apt_refused (Open b) v y a e = elim (cases_Bool (is_some (find v.disk.blobs b))) [
  | inl i ↦ impossible (cc (e, cond-true (is_some (find v.disk.blobs b)) None (cause_if (leb v.most (length v.disk.blobs)) NoRoom) i))
  | inr i ↦ room_only (leb v.most (length v.disk.blobs)) y (sym (cond-false (is_some (find v.disk.blobs b)) None (cause_if (leb v.most (length v.disk.blobs)) NoRoom) i) ∙ e)
]
apt_refused (Append b bs) v y a e =
    let k : Blob → Option Cause = λ x. cause_if (ltb (v.room b) (length bs)) NoRoom in
    room_only (ltb (v.room b) (length bs)) y (sym (ap (λ (x : Option Blob). at_blob x k) a.1) ∙ e)
apt_refused (Truncate b n) v y a e =
    let k : Blob → Option Cause = λ x. cause_if (ltb (length x.bytes) n) Range in
    no_range (ltb (length a.0.bytes) n) y (le-ltb (length a.0.bytes) n a.2) (sym (ap (λ (x : Option Blob). at_blob x k) a.1) ∙ e)
apt_refused (Sync b) v y a e = never {B = y ≡ NoRoom} (refuses_up (Sync b) v) y (ap (λ (x : Option Blob). at_blob x (λ z. None)) a.1) e
apt_refused (Remove b) v y a e = never {B = y ≡ NoRoom} (refuses_up (Remove b) v) y (ap (λ (x : Option Blob). at_blob x (λ z. None)) a.1) e
apt_refused (Put k n) v y a e = never {B = y ≡ NoRoom} (refuses_up (Put k n) v) y refl e
apt_refused (DropKey k) v y a e = never {B = y ≡ NoRoom} (refuses_up (DropKey k) v) y refl e
apt_refused SyncKeys v y a e = never {B = y ≡ NoRoom} (refuses_up SyncKeys v) y refl e

pub record Answered {A : Type 0} (Q : A → Disk → Type 0) (v : View) (r : Outcome A) (w : View) : Type 0 where
  pub it : A
  pub is : r ≡ answered it
  pub holds : Q it w.disk
  pub up : w.up ≡ true
  pub ops : List Op
  pub made : Made ops v None w

pub record Turned {A : Type 0} (F : Fault → Disk → Type 0) (v : View) (r : Outcome A) (w : View) : Type 0 where
  pub fault : Fault
  pub is : r ≡ refused fault
  pub holds : F fault w.disk
  pub up : w.up ≡ true
  pub ops : List Op
  pub made : Made ops v None w

pub record Halted {A : Type 0} (S : Disk → Type 0) (v : View) (r : Outcome A) (w : View) : Type 0 where
  pub step : Step
  pub cause : Cause
  pub is : r ≡ stopped step cause
  pub why : (cause ≡ Power) ⊎ (cause ≡ NoRoom)
  pub holds : S w.disk
  pub ops : List Op
  pub at : Op
  pub made : Made ops v (Some (at, cause)) w

-- a plan that leads to Q, to F or to S is answered, refused or stopped so, on a store that is up
module _ {A : Type 0} (S : Disk → Type 0) (Q : A → Disk → Type 0) (F : Fault → Disk → Type 0) (closed : Closed S) where
  pub follows_leads : (p : Plan A) (v w : View) (r : Outcome A) → v.up ≡ true → LeadsOr S Q F p v.disk → Follows p v r w → Answered Q v r w ⊎ (Turned F v r w ⊎ Halted S v r w)
  follows_leads (answer x) v w r up k f = inl (record {
    it = x;
    is = f.0;
    holds = subst (λ (u : View). Q x u.disk) (sym f.1) k;
    up = subst (λ (u : View). u.up ≡ true) (sym f.1) up;
    ops = [];
    made = (refl, f.1);
  })
  follows_leads (refuse x) v w r up k f = inr (inl (record {
    fault = x;
    is = f.0;
    holds = subst (λ (u : View). F x u.disk) (sym f.1) k;
    up = subst (λ (u : View). u.up ≡ true) (sym f.1) up;
    ops = [];
    made = (refl, f.1);
  }))
  follows_leads (ask p) v w r up k (inl f) = follows_leads p v w r up k.1 f.1
  follows_leads (ask p) v w r up k (inr f) = let a = f.0 in impossible cc
  follows_leads (call o p) v w r up k (inl (u, does, f)) =
      more (follows_leads p u w r does.1 (subst (λ (d : Disk). LeadsOr S Q F p d) (sym does.2) k.1) f)
    where
      more : Answered Q u r w ⊎ (Turned F u r w ⊎ Halted S u r w) → Answered Q v r w ⊎ (Turned F v r w ⊎ Halted S v r w)
      more (inl a) = inl (record { it = a.it; is = a.is; holds = a.holds; up = a.up; ops = o ∷ a.ops; made = inl (u, does, a.made) })
      more (inr (inl a)) = inr (inl (record { fault = a.fault; is = a.is; holds = a.holds; up = a.up; ops = o ∷ a.ops; made = inl (u, does, a.made) }))
      more (inr (inr h)) = inr (inr (record { step = h.step; cause = h.cause; is = h.is; why = h.why; holds = h.holds; ops = o ∷ h.ops; at = h.at; made = inl (u, does, h.made) }))
  follows_leads (call o p) v w r up k (inr (y, e, inl n)) = inr (inr (record {
    step = Rattle.rules.specs.Rules.Wrote o;
    cause = y;
    is = e;
    why = inr (apt_refused o v y k.0.0 (sym (cond-true v.up (refuses_up o v) (Some Power) up) ∙ n.0));
    holds = subst (λ (u : View). S u.disk) (sym n.1) (k.0.1 v.disk (not_made o v.disk));
    ops = o ∷ [];
    at = o;
    made = inr (y, refl, inl n);
  }))
  follows_leads (call o p) v w r up k (inr (y, e, inr n)) = inr (inr (record {
    step = Rattle.rules.specs.Rules.Wrote o;
    cause = y;
    is = e;
    why = inl n.0;
    holds = closed n.2.middle w.disk (k.0.1 n.2.middle n.2.counted) n.2.weakened n.2.saved;
    ops = o ∷ [];
    at = o;
    made = inr (y, refl, inr n);
  }))
