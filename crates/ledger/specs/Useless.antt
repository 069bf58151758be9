-- Logs that are of no use, and that the ledger rejects; and a short history that the rules allow and it takes.
use Rattle.std.specs.Prelude.{◌≡◌, ℕ, Bool, true, false, List, [], ◌∷◌, Some, None, Option, ◌≢◌}
use Rattle.store.specs.declared.cause.Cause.{Cause}
use Rattle.store.specs.declared.cause.Cause.TheVariants.{Power}
use Rattle.store.specs.declared.keys.Key.TheVariants.{Hint, Watermark}
use Rattle.store.specs.Disk.{View, Disk, Op, DropKey, Put, SyncKeys, Made, no_keys, done, done_all}
use Rattle.rules.specs.Rules.{Config, Fault}
use Rattle.rules.specs.Open.{no_edge}
use Rattle.ledger.specs.History.{Event, Called, Read, Restart, Open, Append, Commit, Publish, Done, Refused, Stopped, One, Gave, Failed}
use Rattle.ledger.specs.Ledger.{Ledger, entry, first, bounds}
use Rattle.ledger.specs.Promises.{Agrees}
use Rattle.ledger.specs.Runs.{opened, Happened}

-- four records of two bytes to a blob
abbrev pub four : Config
four = record { n = 4; page = 1; z = 2 }

-- a log begun on a new store
abbrev pub begun : List (Event ℕ)
begun = Called (Publish 0) Done (Some (0, 0)) ∷ (Called (Open None) Done (Some (0, 0)) ∷ [])

-- and given the record 7
abbrev pub given : List (Event ℕ)
given = Called (Append (7 ∷ []) 2) Done (Some (0, 1)) ∷ begun

pub record Useless : Type 0 where
  -- a log that refuses to open, to commit or to append
  pub open_refused : (c : Config) (es : List (Event ℕ)) (w : View) (m : Ledger ℕ) (f : Fault) (s : Option (ℕ × ℕ)) → Agrees c (Called (Open None) (Refused f) s ∷ es) w m → ⊥
  pub commit_refused : (c : Config) (es : List (Event ℕ)) (w : View) (m : Ledger ℕ) (f : Fault) (s : Option (ℕ × ℕ)) → Agrees c (Called Commit (Refused f) s ∷ es) w m → ⊥
  pub append_refused : (w : View) (m : Ledger ℕ) (f : Fault) (s : Option (ℕ × ℕ)) → Agrees four (Called (Append (7 ∷ []) 2) (Refused f) s ∷ begun) w m → ⊥
  -- one that appends nothing: the record does not read back
  pub nothing_read : (w : View) (m : Ledger ℕ) → Agrees four (Read (One 0) (Gave (8 ∷ [])) ∷ given) w m → ⊥
  -- one whose reads fail on a store that is up
  pub read_failed : (c : Config) (es : List (Event ℕ)) (w : View) (m : Ledger ℕ) (p : ℕ) (y : Cause) → w.up ≡ true → Agrees c (Read (One p) (Failed y) ∷ es) w m → ⊥
  -- one that blames a store which refused no call, or the power of a store that is up
  pub open_stopped : (c : Config) (es : List (Event ℕ)) (w : View) (m : Ledger ℕ) (y : Cause) (s : Option (ℕ × ℕ)) → Agrees c (Called (Open None) (Stopped (Some y)) s ∷ es) w m
      → (v : View) × (ops : List Op) × (o : Op) × Made ops v (Some (o, y)) w
  pub power_stopped : (c : Config) (es : List (Event ℕ)) (w : View) (m : Ledger ℕ) (s : Option (ℕ × ℕ)) → Agrees c (Called (Open None) (Stopped (Some Power)) s ∷ es) w m → w.up ≢ true

-- records of two bytes
abbrev pub writes : ℕ → List ℕ
writes r = 0 ∷ (r ∷ [])

abbrev pub decodes : List ℕ → Option ℕ
decodes [] = None
decodes (a ∷ []) = None
decodes (a ∷ (b ∷ [])) = Some b
decodes (a ∷ (b ∷ (x ∷ xs))) = None

-- the stores that a useful history passes
abbrev pub on : Disk → ℕ → Bool → View
on d r u = record { disk = d; up = u; room = λ b. r; most = 64 }

abbrev pub v0 : View
v0 = on (record { blobs = []; present = no_keys; saved = no_keys }) 8 true

abbrev pub v1 : View
v1 = on (done_all (DropKey Hint ∷ (Put Watermark 0 ∷ (SyncKeys ∷ (Op.Open 0 ∷ [])))) v0.disk) 8 true

abbrev pub v2 : View
v2 = on (done (Op.Append 0 (writes 7)) v1.disk) 6 true

-- the power goes, and the record with it
abbrev pub v3 : View
v3 = on v2.disk 6 false

abbrev pub v4 : View
v4 = on (record { blobs = (0, record { bytes = []; sound = 0; safe = 0 }) ∷ []; present = v2.disk.saved; saved = v2.disk.saved }) 8 true

abbrev pub l2 : Ledger ℕ
l2 = entry four first (Append (7 ∷ []) 2)

-- the record is read; the power stops a commit, and the next open finds an empty log
abbrev pub lived : List (Event ℕ)
lived = Called (Open None) Done (Some (0, 0)) ∷ (Restart ∷ (Called Commit (Stopped (Some Power)) None ∷ (Read (One 0) (Gave (7 ∷ [])) ∷ given)))

-- the rules allow it, and it agrees with the ledger
pub record Taken : Type 0 where
  pub happened : Happened four writes decodes lived (opened (record { start = 0; end = 0; mark = 0; bounded = false; edge = no_edge })) v4
  pub agrees : Agrees four lived v4 (bounds l2 0 0 0 0)
