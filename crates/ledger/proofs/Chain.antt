-- Lists of writing calls: what holds where they are all done, and wherever they stop.
use Rattle.std.proofs.Common.{◌≡◌, ℕ, ◌≤◌, ◌⊎◌, List, [], ◌∷◌, ◌++◌, length, Some, refl, inl, inr}
use Rattle.store.specs.Disk.{done_all, Blob, Blobs, Disk, find, Op, Open, Append, Truncate, Sync, Remove, Put, DropKey, SyncKeys, done, Weakened, Counted}

abbrev pub Found : Blobs → ℕ → Type 0
Found bs b = (x : Blob) × (find bs b ≡ Some x)

-- a call that is refused for want of room at most
abbrev pub Apt : Op → Disk → Type 0
Apt (Open b) d = Unit {0}
Apt (Append b bs) d = Found d.blobs b
Apt (Truncate b n) d = (x : Blob) × (find d.blobs b ≡ Some x) × (n ≤ length x.bytes)
Apt (Sync b) d = Found d.blobs b
Apt (Remove b) d = Found d.blobs b
Apt (Put k n) d = Unit {0}
Apt (DropKey k) d = Unit {0}
Apt SyncKeys d = Unit {0}

-- a call at d: it is apt, and whatever it may count as is in S
abbrev pub Step : (Disk → Type 0) → Op → Disk → Type 0
Step S o d = Apt o d × ((e : Disk) → Counted o d e → S e)

-- at each call, whatever it may count as is in S; after the last, Q
abbrev pub Chain : (S Q : Disk → Type 0) → List Op → Disk → Type 0
Chain S Q [] d = Q d
Chain S Q (o ∷ os) d = Step S o d × Chain S Q os (done o d)

pub chain_append : (S Q : Disk → Type 0) (xs ys : List Op) (d : Disk) → Chain S (λ e. Chain S Q ys e) xs d → Chain S Q (xs ++ ys) d
chain_append S Q [] ys d k = k
chain_append S Q (x ∷ xs) ys d k = (k.0, chain_append S Q xs ys (done x d) k.1)

-- what is done leads to a better end
pub chain_then : (S Q P : Disk → Type 0) (xs : List Op) (d : Disk) → ((e : Disk) → Q e → P e) → Chain S Q xs d → Chain S P xs d
chain_then S Q P [] d f k = f d k
chain_then S Q P (x ∷ xs) d f k = (k.0, chain_then S Q P xs (done x d) f k.1)

-- and what is stopped to a weaker one
pub chain_stop : (S T Q : Disk → Type 0) (xs : List Op) (d : Disk) → ((e : Disk) → S e → T e) → Chain S Q xs d → Chain T Q xs d
chain_stop S T Q [] d f k = k
chain_stop S T Q (x ∷ xs) d f k = ((k.0.0, λ e h. f e (k.0.1 e h)), chain_stop S T Q xs (done x d) f k.1)

abbrev pub Closed : (Disk → Type 0) → Type 0
Closed S = (d e : Disk) → S d → Weakened d.blobs e.blobs → e.saved ≡ d.saved → S e

pub not_made : (o : Op) (d : Disk) → Counted o d d
not_made (Open b) d = inl refl
not_made (Append b bs) d = inl refl
not_made (Truncate b n) d = inl refl
not_made (Sync b) d = inl refl
not_made (Remove b) d = inl refl
not_made (Put k n) d = inl refl
not_made (DropKey k) d = inl refl
not_made SyncKeys d = inl refl

-- a call that is no append counts as not made or as made
abbrev pub Plain : Op → Disk → Type 0
Plain (Append b bs) d = ⊥
Plain (Open b) d = Apt (Open b) d
Plain (Truncate b n) d = Apt (Truncate b n) d
Plain (Sync b) d = Apt (Sync b) d
Plain (Remove b) d = Apt (Remove b) d
Plain (Put k n) d = Apt (Put k n) d
Plain (DropKey k) d = Apt (DropKey k) d
Plain SyncKeys d = Apt SyncKeys d

either : (S : Disk → Type 0) (d f : Disk) → S d → S f → (e : Disk) → (e ≡ d) ⊎ (e ≡ f) → S e
either S d f p q e (inl i) = rw i p
either S d f p q e (inr i) = rw i q

pub plain : (S : Disk → Type 0) (o : Op) (d : Disk) → Plain o d → S d → S (done o d) → Step S o d
plain S (Append b bs) d a p q = elim a [ ]
plain S (Open b) d a p q = (a, either S d (done (Open b) d) p q)
plain S (Truncate b m) d a p q = (a, either S d (done (Truncate b m) d) p q)
plain S (Sync b) d a p q = (a, either S d (done (Sync b) d) p q)
plain S (Remove b) d a p q = (a, either S d (done (Remove b) d) p q)
plain S (Put k m) d a p q = (a, either S d (done (Put k m) d) p q)
plain S (DropKey k) d a p q = (a, either S d (done (DropKey k) d) p q)
plain S SyncKeys d a p q = (a, either S d (done SyncKeys d) p q)

-- a list of calls that is done leaves the disk that they make
pub chain_end : (S Q : Disk → Type 0) (os : List Op) (d : Disk) → Chain S Q os d → Chain S (λ e. (e ≡ done_all os d) × Q e) os d
chain_end S Q [] d k = (refl, k)
chain_end S Q (o ∷ os) d k = (k.0, chain_end S Q os (done o d) k.1)
