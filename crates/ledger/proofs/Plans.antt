-- Plans: where they lead, and what holds wherever they stop.
use Rattle.std.proofs.Common.{◌≡◌, Bool, true, false, List, [], ◌∷◌, refl}
use Rattle.store.specs.Disk.{Disk, Op, done}
use Rattle.rules.specs.Rules.{Plan, Fault, answer, refuse, ask, call, calls, refuse_if}
use Rattle.ledger.specs.Runs.{Log, leaving}
use Rattle.ledger.proofs.Blobs.{impossible}
use Rattle.ledger.proofs.Chain.{Chain, Step}

-- wherever a plan stops, S; where it answers, Q; where it refuses, F
abbrev pub LeadsOr : {A : Type 0} → (Disk → Type 0) → (A → Disk → Type 0) → (Fault → Disk → Type 0) → Plan A → Disk → Type 0
LeadsOr S Q F (answer a) d = Q a d
LeadsOr S Q F (refuse f) d = F f d
LeadsOr S Q F (ask p) d = S d × LeadsOr S Q F p d
LeadsOr S Q F (call o p) d = Step S o d × LeadsOr S Q F p (done o d)

abbrev pub unrefused : Fault → Disk → Type 0
unrefused f d = ⊥

-- and it does not refuse
abbrev pub Leads : {A : Type 0} → (Disk → Type 0) → (A → Disk → Type 0) → Plan A → Disk → Type 0
Leads S Q p d = LeadsOr S Q unrefused p d

pub leads_unless : {A : Type 0} (S : Disk → Type 0) (Q : A → Disk → Type 0) (b : Bool) (f : Fault) (p : Plan A) (d : Disk) → b ≡ false → Leads S Q p d → Leads S Q (refuse_if b f p) d
leads_unless S Q true f p d e k = impossible cc
leads_unless S Q false f p d e k = k

-- a test that is refused as F says, or else passed
pub leads_if : {A : Type 0} (S : Disk → Type 0) (Q : A → Disk → Type 0) (F : Fault → Disk → Type 0) (b : Bool) (f : Fault) (p : Plan A) (d : Disk)
    → (b ≡ true → F f d) → (b ≡ false → LeadsOr S Q F p d) → LeadsOr S Q F (refuse_if b f p) d
leads_if S Q F true f p d x y = x refl
leads_if S Q F false f p d x y = y refl

pub leads_calls : {A : Type 0} (S : Disk → Type 0) (Q : A → Disk → Type 0) (os : List Op) (p : Plan A) (d : Disk) → Chain S (λ e. Leads S Q p e) os d → Leads S Q (calls os p) d
leads_calls S Q [] p d k = k
leads_calls S Q (o ∷ os) p d k = (k.0, leads_calls S Q os p (done o d) k.1)

pub leads_or_calls : {A : Type 0} (S : Disk → Type 0) (Q : A → Disk → Type 0) (F : Fault → Disk → Type 0) (os : List Op) (p : Plan A) (d : Disk) → Chain S (λ e. LeadsOr S Q F p e) os d
    → LeadsOr S Q F (calls os p) d
leads_or_calls S Q F [] p d k = k
leads_or_calls S Q F (o ∷ os) p d k = (k.0, leads_or_calls S Q F os p (done o d) k.1)

-- to a better end, and a weaker stop
pub leads_as : {A : Type 0} (S T : Disk → Type 0) (Q P : A → Disk → Type 0) (F G : Fault → Disk → Type 0) (p : Plan A) (d : Disk)
    → ((e : Disk) → S e → T e) → ((a : A) (e : Disk) → Q a e → P a e) → ((f : Fault) (e : Disk) → F f e → G f e) → LeadsOr S Q F p d → LeadsOr T P G p d
leads_as S T Q P F G (answer a) d s q f k = q a d k
leads_as S T Q P F G (refuse x) d s q f k = f x d k
leads_as S T Q P F G (ask p) d s q f k = (s d k.0, leads_as S T Q P F G p d s q f k.1)
leads_as S T Q P F G (call o p) d s q f k = ((k.0.0, λ e h. s e (k.0.1 e h)), leads_as S T Q P F G p (done o d) s q f k.1)

-- a plan whose answer is put another way
pub leads_leaving : {A : Type 0} (S : Disk → Type 0) (Q : A → Disk → Type 0) (F : Fault → Disk → Type 0) (P : Log → Disk → Type 0) (g : A → Log) → ((a : A) (e : Disk) → Q a e → P (g a) e)
    → (p : Plan A) (d : Disk) → LeadsOr S Q F p d → LeadsOr S P F (leaving g p) d
leads_leaving S Q F P g f (answer x) d k = f x d k
leads_leaving S Q F P g f (refuse x) d k = k
leads_leaving S Q F P g f (ask p) d k = (k.0, leads_leaving S Q F P g f p d k.1)
leads_leaving S Q F P g f (call o p) d k = (k.0, leads_leaving S Q F P g f p (done o d) k.1)
