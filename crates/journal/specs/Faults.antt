-- What each fault stands for: its number, its values, and the end of a call by the rules.
use Rattle.std.specs.Prelude.{◌≡◌, ℕ, List, [], ◌∷◌}
use Rattle.store.specs.Disk.{Op}
use Rattle.store.specs.Disk as disk
use Rattle.rules.specs.Rules.{Outcome, refused, stopped}
use Rattle.rules.specs.Rules as rules
use Rattle.journal.specs.declared.fault.Step.{Step}
use Rattle.journal.specs.declared.fault.Step.TheVariants as at
use Rattle.journal.specs.declared.fault.Corrupt.{Corrupt}
use Rattle.journal.specs.declared.fault.Corrupt.TheVariants.{HintNewer, HintWithoutBlobs, Acknowledged, Overfull, Watermark, Gap}
use Rattle.journal.specs.declared.fault.Fault.{Fault}
use Rattle.journal.specs.declared.fault.Fault.TheVariants.{BadConfig, ItemPruned, ItemOutOfRange, SizeOverflow, OffsetOverflow, EmptyAppend, Corruption, Layout, NotRising, NoSpace, Codec, Store}

abbrev pub kind_of : Corrupt → ℕ
kind_of HintNewer = 1
kind_of HintWithoutBlobs = 2
kind_of Acknowledged = 3
kind_of Overfull = 4
kind_of Watermark = 5
kind_of Gap = 6

abbrev pub number_of : Fault → ℕ
number_of BadConfig = 1
number_of (ItemPruned p) = 2
number_of (ItemOutOfRange p) = 3
number_of SizeOverflow = 4
number_of OffsetOverflow = 5
number_of EmptyAppend = 6
number_of (Corruption k) = 7
number_of Layout = 8
number_of (NotRising i) = 9
number_of (NoSpace n) = 10
number_of (Codec p) = 11
number_of (Store e) = 12

-- a position, a kind, an index or a need; what the store said is told by the step and the cause
abbrev pub values_of : Fault → List ℕ
values_of BadConfig = []
values_of (ItemPruned p) = p ∷ []
values_of (ItemOutOfRange p) = p ∷ []
values_of SizeOverflow = []
values_of OffsetOverflow = []
values_of EmptyAppend = []
values_of (Corruption k) = kind_of k ∷ []
values_of Layout = []
values_of (NotRising i) = i ∷ []
values_of (NoSpace n) = n ∷ []
values_of (Codec p) = p ∷ []
values_of (Store e) = []

-- the step of a writing call
abbrev pub step_of_op : Op → Step
step_of_op (disk.Open b) = at.Open b
step_of_op (disk.Append b bs) = at.Append b
step_of_op (disk.Truncate b n) = at.Truncate b
step_of_op (disk.Sync b) = at.Sync b
step_of_op (disk.Remove b) = at.Remove b
step_of_op (disk.Put k n) = at.Put k
step_of_op (disk.DropKey k) = at.DropKey k
step_of_op disk.SyncKeys = at.SyncKeys

abbrev pub step_of : rules.Step → Step
step_of (rules.Wrote o) = step_of_op o
step_of rules.Listed = at.Listed
step_of (rules.Measured b) = at.Measured b
step_of (rules.Scanned b) = at.Scanned b
step_of (rules.Copied b) = at.Copied b
step_of (rules.Looked k) = at.Looked k

-- the end of a call that a fault tells
abbrev pub Means : {A : Type 0} → Fault → Outcome A → Type 0
Means BadConfig r = ⊥
Means (ItemPruned p) r = r ≡ refused (rules.ItemPruned p)
Means (ItemOutOfRange p) r = r ≡ refused (rules.ItemOutOfRange p)
Means SizeOverflow r = r ≡ refused rules.SizeOverflow
Means OffsetOverflow r = r ≡ refused rules.OffsetOverflow
Means EmptyAppend r = r ≡ refused rules.EmptyAppend
Means (Corruption k) r = r ≡ refused (rules.Corruption (kind_of k))
Means Layout r = r ≡ refused rules.Layout
Means (NotRising i) r = r ≡ refused (rules.NotRising i)
Means (NoSpace n) r = r ≡ refused (rules.NoSpace n)
Means (Codec p) r = r ≡ refused (rules.Codec p)
Means (Store e) r = (s : rules.Step) × (e.step ≡ step_of s) × (r ≡ stopped s e.cause)
