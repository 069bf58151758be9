-- Reads: which positions are refused, and what is read of the others.
use Rattle.std.specs.Prelude.{ℕ, ◌+◌, ◌-◌, ◌*◌, min, Bool, cond, List, [], ◌∷◌, ◌++◌, length, take, drop, Some, None, Ok, Err, Option, Result, nat_le, nat_lt}
use Rattle.store.specs.declared.cause.Cause.{Cause}
use Rattle.store.specs.Disk.{View}
use Rattle.store.specs.Ask.{read_of}
use Rattle.rules.specs.Rules.{Config, MAX, blob_of, first_in, Fault, ItemPruned, ItemOutOfRange, NotRising, NoSpace, Codec, Outcome, answered, refused, stopped, Copied}

-- refusals --------------------------------------------------------------------------------------

-- f if b, else o
abbrev pub when : Bool → Fault → Option Fault → Option Fault
when b f o = cond b (Some f) o

-- the first position, from index i on, that is not above its predecessor
abbrev pub falling : ℕ → List ℕ → Option Fault → Option Fault
falling i [] o = o
falling i (p ∷ []) o = o
falling i (p ∷ (q ∷ qs)) o = when (nat_le q p) (NotRising (i + 1)) (falling (i + 1) (q ∷ qs) o)

-- each position in turn, of a log from s to e
abbrev pub outside : ℕ → ℕ → List ℕ → Option Fault → Option Fault
outside s e [] o = o
outside s e (p ∷ ps) o = when (nat_le e p) (ItemOutOfRange p) (when (nat_lt p s) (ItemPruned p) (outside s e ps o))

abbrev pub lacking : ℕ → ℕ → Option Fault → Option Fault
lacking lent needs o = when (nat_lt lent (min needs MAX)) (NoSpace (min needs MAX)) o

abbrev pub one_denied : ℕ → ℕ → ℕ → Option Fault
one_denied s e p = outside s e (p ∷ []) None

-- several positions, with bytes and records lent for them
abbrev pub many_denied : Config → ℕ → ℕ → List ℕ → ℕ → ℕ → Option Fault
many_denied c s e ps bytes recs = falling 0 ps (outside s e ps (lacking bytes (length ps * c.z) (lacking recs (length ps) None)))

-- reading ---------------------------------------------------------------------------------------

-- the bytes of position p
abbrev pub bytes_of : Config → ℕ → View → ℕ → Result (List ℕ) Cause
bytes_of c s v p = read_of v (blob_of c p) ((p - first_in c s (blob_of c p)) * c.z) c.z

-- all bytes, up to the first read that the store refuses: then its blob and the cause
pub record Copy : Type 0 where
  pub bytes : List ℕ
  pub stop : Option (ℕ × Cause)

abbrev pub more : Config → ℕ → Result (List ℕ) Cause → Copy → Copy
more c p (Ok bs) r = record { bytes = bs ++ r.bytes; stop = r.stop }
more c p (Err y) r = record { bytes = []; stop = Some (blob_of c p, y) }

abbrev pub copied : Config → ℕ → View → List ℕ → Copy
copied c s v [] = record { bytes = []; stop = None }
copied c s v (p ∷ ps) = more c p (bytes_of c s v p) (copied c s v ps)

-- a read, and what stands in the buffers that it was lent, from their beginning on; the rest of them stays
pub record Reading (R : Type 0) : Type 0 where
  pub bytes : List ℕ
  pub records : List R
  pub outcome : Outcome (Unit {0})

-- decodes: a record's bytes as a record, if they are one
module _ {R : Type 0} (decodes : List ℕ → Option R) where
  abbrev pub onto : List ℕ → ℕ → Option R → Reading R → Reading R
  onto all p None r = record { bytes = all; records = []; outcome = refused (Codec p) }
  onto all p (Some x) r = record { bytes = all; records = x ∷ r.records; outcome = r.outcome }

  -- all bytes are read, and now they are decoded
  abbrev pub decoded : Config → List ℕ → List ℕ → List ℕ → Reading R
  decoded c all bs [] = record { bytes = all; records = []; outcome = answered tt }
  decoded c all bs (p ∷ ps) = onto all p (decodes (take c.z bs)) (decoded c all (drop c.z bs) ps)

  abbrev pub ended : Config → List ℕ → List ℕ → Option (ℕ × Cause) → Reading R
  ended c ps bs None = decoded c bs bs ps
  ended c ps bs (Some y) = record { bytes = bs; records = []; outcome = stopped (Copied y.0) y.1 }

  abbrev pub unless : Option Fault → Reading R → Reading R
  unless None r = r
  unless (Some f) r = record { bytes = []; records = []; outcome = refused f }

  abbrev pub reading : Config → ℕ → View → List ℕ → Reading R
  reading c s v ps = ended c ps (copied c s v ps).bytes (copied c s v ps).stop

  abbrev pub read_rule : Config → ℕ → ℕ → View → ℕ → Reading R
  read_rule c s e v p = unless (one_denied s e p) (reading c s v (p ∷ []))

  abbrev pub read_many_rule : Config → ℕ → ℕ → View → List ℕ → ℕ → ℕ → Reading R
  read_many_rule c s e v ps bytes recs = unless (many_denied c s e ps bytes recs) (reading c s v ps)
