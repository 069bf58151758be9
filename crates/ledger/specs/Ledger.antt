-- The ledger of a log begun on a new store: what it holds, and what each call makes of it.
use Rattle.std.specs.Prelude.{◌≡◌, ℕ, ◌+◌, ◌*◌, ◌/◌, ◌<◌, ◌≤◌, min, cond, ◌⊎◌, List, [], ◌∷◌, length, Some, None, Option, ◌==◌, nat_le, nat_lt}
use Rattle.rules.specs.Rules.{Config, MAX, Fault, ItemPruned, SizeOverflow, EmptyAppend}
use Rattle.rules.specs.Reads.{when, lacking, one_denied, many_denied}
use Rattle.ledger.specs.History.{Call, Open, Append, Truncate, Publish, Prune, Clear, Commit, Sync, Complete, Leave, Ask, One, Many}

-- handed: the record last handed in for each position
pub record Ledger (R : Type 0) : Type 0 where
  pub start : ℕ
  pub end : ℕ
  pub kept : ℕ
  pub far : ℕ
  pub handed : ℕ → Option R

-- refusals --------------------------------------------------------------------------------------

module _ {R : Type 0} where
  abbrev pub too_low : Ledger R → ℕ → Option Fault
  too_low l size = when (nat_lt size l.start) (ItemPruned size) None

  -- the refusal that a call must get, if any
  abbrev pub refusal : Config → Ledger R → Call R → Option Fault
  refusal c l (Open None) = None
  refusal c l (Open (Some k)) = too_low l k
  refusal c l (Append rs n) =
      lacking n (length rs * c.z) (when (length rs == 0) EmptyAppend (when (nat_lt MAX (l.end + length rs)) SizeOverflow None))
  refusal c l (Truncate m) = too_low l (min l.end m)
  refusal c l (Publish m) = too_low l (min l.end m)
  refusal c l (Prune p) = None
  refusal c l (Clear t) = when (nat_le MAX t) SizeOverflow None
  refusal c l Commit = None
  refusal c l Sync = None
  refusal c l Complete = None
  refusal c l Leave = None

  abbrev pub denial : Config → Ledger R → Ask → Option Fault
  denial c l (One p) = one_denied l.start l.end p
  denial c l (Many ps bytes recs) = many_denied c l.start l.end ps bytes recs

-- entries ---------------------------------------------------------------------------------------

abbrev pub lower : ℕ → Option ℕ → ℕ
lower f None = f
lower f (Some k) = min f k

module _ {R : Type 0} where
  abbrev pub first : Ledger R
  first = record { start = 0; end = 0; kept = 0; far = 0; handed = λ p. None }

  abbrev pub bounds : Ledger R → ℕ → ℕ → ℕ → ℕ → Ledger R
  bounds l s e k f = record { start = s; end = e; kept = k; far = f; handed = l.handed }

  -- the records go in from position e on
  abbrev pub entered : ℕ → List R → (ℕ → Option R) → ℕ → Option R
  entered e [] h p = h p
  entered e (r ∷ rs) h p = cond (p == e) (Some r) (entered (e + 1) rs h p)

  abbrev pub appended : Ledger R → List R → Ledger R
  appended l rs =
      let e : ℕ = l.end + length rs in
      record { start = l.start; end = e; kept = l.kept; far = e; handed = entered l.end rs l.handed }

  abbrev pub cut : Ledger R → ℕ → Ledger R
  cut l size = bounds l l.start size size size

  abbrev pub cutting : Ledger R → ℕ → Ledger R
  cutting l size = bounds l l.start l.end (min l.kept size) l.far

  abbrev pub kept_to_end : Ledger R → ℕ → Ledger R
  kept_to_end l s = bounds l s l.end l.end l.far

  -- the first position of the blob of the lower of p and end
  abbrev pub prune_to : Config → Ledger R → ℕ → ℕ
  prune_to c l p = (min p l.end / c.n) * c.n

  -- the ledger after a call that is done
  abbrev pub entry : Config → Ledger R → Call R → Ledger R
  entry c l (Open o) = bounds l l.start (lower l.far o) l.kept l.far
  entry c l (Append rs n) = appended l rs
  entry c l (Truncate m) = cut l (min l.end m)
  entry c l (Publish m) = cut l (min l.end m)
  entry c l (Prune p) = cond (nat_lt l.start (prune_to c l p)) (kept_to_end l (prune_to c l p)) l
  entry c l (Clear t) = bounds l t t t t
  entry c l Commit = kept_to_end l l.start
  entry c l Sync = kept_to_end l l.start
  entry c l Complete = l
  entry c l Leave = l

  -- and after one that is stopped
  abbrev pub Left : Config → Ledger R → Call R → Ledger R → Type 0
  Left c l (Open o) m = m ≡ l
  Left c l (Append rs n) m = m ≡ appended l rs
  Left c l (Truncate k) m = m ≡ cutting l (min l.end k)
  Left c l (Publish k) m = m ≡ cutting l (min l.end k)
  Left c l (Prune p) m = (m ≡ l) ⊎ ((b : ℕ) × (l.start < b * c.n) × (b * c.n ≤ prune_to c l p) × (m ≡ kept_to_end l (b * c.n)))
  Left c l (Clear t) m = (m ≡ l) ⊎ (m ≡ bounds l t t t t)
  Left c l Commit m = m ≡ l
  Left c l Sync m = m ≡ l
  Left c l Complete m = m ≡ l
  Left c l Leave m = ⊥

  -- the far end that a restart leaves
  abbrev pub Falls : Ledger R → Ledger R → Type 0
  Falls l m = (f : ℕ) × (l.kept ≤ f) × (f ≤ l.far) × (m ≡ bounds l l.start l.end l.kept f)
