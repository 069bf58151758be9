-- Positions, keys, and what the rules of the log are written in: plans.
use Rattle.std.specs.Prelude.{◌≡◌, ℕ, ◌*◌, ◌/◌, ◌%◌, max, Bool, true, false, cond, ◌||◌, ◌⊎◌, List, [], ◌∷◌, ◌++◌, map, Some, None, Option, ◌==◌, nat_lt}
use Rattle.store.specs.declared.cause.Cause.{Cause}
use Rattle.store.specs.declared.cause.Cause.TheVariants.{Power}
use Rattle.store.specs.declared.keys.Key.{Key}
use Rattle.store.specs.declared.keys.Key.TheVariants.{Hint, Target, Watermark}
use Rattle.store.specs.Disk.{View, Does, Refuses, Op, Open, Remove, Put, DropKey, SyncKeys}
use Rattle.store.specs.declared.keys.Keys.{Keys}

-- records to a blob, the page, a record's bytes
pub record Config : Type 0 where
  pub n : ℕ
  pub page : ℕ
  pub z : ℕ

-- a configuration that is refused: a zero, or records of more than 4,096 bytes
abbrev pub bad_config : Config → Bool
bad_config c = c.n == 0 || (c.page == 0 || (c.z == 0 || nat_lt 4096 c.z))

-- what a call of the log is refused for, besides a bad configuration and what the store refuses
pub data Fault : Type 0 where
  ItemPruned : ℕ → Fault
  ItemOutOfRange : ℕ → Fault
  SizeOverflow : Fault
  OffsetOverflow : Fault
  EmptyAppend : Fault
  Corruption : ℕ → Fault
  Layout : Fault
  NotRising : ℕ → Fault
  NoSpace : ℕ → Fault
  Codec : ℕ → Fault

abbrev pub MAX : ℕ
MAX = 18446744073709551615

abbrev pub blob_of : Config → ℕ → ℕ
blob_of c p = p / c.n

-- the first position of blob b that a log from start on has
abbrev pub first_in : Config → ℕ → ℕ → ℕ
first_in c start b = max start (b * c.n)

abbrev pub aligned : Config → ℕ → Bool
aligned c p = p % c.n == 0

-- writing calls in order, and then an answer or a refusal; ask: here questions are put to the store
pub data Plan (A : Type 0) : Type 0 where
  answer : A → Plan A
  refuse : Fault → Plan A
  ask : Plan A → Plan A
  call : Op → Plan A → Plan A

abbrev pub calls : {A : Type 0} → List Op → Plan A → Plan A
calls [] p = p
calls (o ∷ os) p = call o (calls os p)

-- the calls of a plan
abbrev pub made : {A : Type 0} → Plan A → List Op
made (answer x) = []
made (refuse f) = []
made (ask p) = made p
made (call o p) = o ∷ made p

abbrev pub refuse_if : {A : Type 0} → Bool → Fault → Plan A → Plan A
refuse_if true f p = refuse f
refuse_if false f p = p

-- the step at which a store refuses: a writing call, or a question and its blob or key
pub data Step : Type 0 where
  Wrote : Op → Step
  Listed : Step
  Measured Scanned Copied : ℕ → Step
  Looked : Key → Step

-- how a call of the log ends; a stop carries the store's cause and the step
pub data Outcome (A : Type 0) : Type 0 where
  answered : A → Outcome A
  refused : Fault → Outcome A
  stopped : Step → Cause → Outcome A

-- a plan is followed on a store: its calls are made in order, up to the first that is not done; a store that is down answers no question
abbrev pub Follows : {A : Type 0} → Plan A → View → Outcome A → View → Type 0
Follows (answer x) v r w = (r ≡ answered x) × (w ≡ v)
Follows (refuse f) v r w = (r ≡ refused f) × (w ≡ v)
Follows (ask p) v r w = ((v.up ≡ true) × Follows p v r w) ⊎ ((v.up ≡ false) × ((s : Step) × (r ≡ stopped s Power)) × (w ≡ v))
Follows (call o p) v r w = ((u : View) × Does o v u × Follows p u r w) ⊎ ((y : Cause) × (r ≡ stopped (Wrote o) y) × Refuses o v y w)

-- keys ------------------------------------------------------------------------------------------

abbrev pub persist : Config → ℕ → ℕ → List Op
persist c start mark = cond (aligned c start) (DropKey Hint) (Put Hint start) ∷ (Put Watermark mark ∷ (SyncKeys ∷ []))

abbrev pub is_above : Option ℕ → ℕ → Bool
is_above None t = false
is_above (Some m) t = nat_lt t m

-- stage a clear to t
abbrev pub staging : Keys → ℕ → List Op
staging k t = cond (is_above k.watermark t) (Put Watermark t ∷ []) [] ++ (Put Target t ∷ (SyncKeys ∷ []))

-- carry it out, over the blobs bs: they go, lowest first, the target's blob is made, the keys say so
abbrev pub clearing : Config → ℕ → List ℕ → List Op
clearing c t bs = map Remove bs ++ (Open (blob_of c t) ∷ (DropKey Target ∷ persist c t t))
