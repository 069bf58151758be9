-- What ties a disk to a ledger at every moment: the invariant of crash safety.
use Rattle.std.proofs.Common.{◌≡◌, ℕ, suc, ◌+◌, ◌*◌, ◌/◌, ◌%◌, ◌<◌, ◌≤◌, ◌⊎◌, List, [], length, take, drop, Some, None, Option, refl, ap, inl, inr, mul-le-mul_right, arith}
use native.Mathlib.Nat.{div-eq_of_lt-le}
use Rattle.std.proofs.lemmas.Bool.{cases_lt}
use Rattle.store.specs.Disk.{Blob, Blobs, Disk, find, numbers}
use Rattle.store.specs.declared.keys.Keys.{Keys}
use Rattle.rules.specs.Rules.{Config, MAX, first_in}
use Rattle.rules.specs.Open.{capacity}
use Rattle.rules.specs.Calls.{count}
use Rattle.ledger.specs.Ledger.{Ledger}

-- positions -------------------------------------------------------------------------------------

-- shut, so that arithmetic takes a call for one unknown
unfoldable pub first : Config → ℕ → ℕ → ℕ
first c s b = first_in c s b

unfoldable pub room : Config → ℕ → ℕ → ℕ
room c s b = capacity c s b

pub first_is : (c : Config) (s b : ℕ) → first c s b ≡ first_in c s b
unfolding first
first_is c s b = refl

pub room_is : (c : Config) (s b : ℕ) → room c s b ≡ capacity c s b
unfolding room
room_is c s b = refl

-- lo is the blob of s
pub record Lowest (c : Config) (s lo : ℕ) : Type 0 where
  pub from : lo * c.n ≤ s
  pub below : s < lo * c.n + c.n

pub rows_apart : (n a b : ℕ) → a < b → a * n + n ≤ b * n
rows_apart n a b h = let m : suc a * n ≤ b * n = mul-le-mul_right n h in omega arith

module _ (c : Config) (s lo : ℕ) (low : Lowest c s lo) where
  -- blob by blob the log goes on without a gap
  pub first_room : (b : ℕ) → lo ≤ b → first c s b + room c s b ≡ b * c.n + c.n
  unfolding first room
  first_room b h = elim (cases_lt lo b) [
    | inl g ↦ omega (arith, rows_apart c.n lo b g)
    | inr g ↦ let e : lo ≡ b = omega arith in let f = low.from in let t = low.below in omega (arith, ap (λ (k : ℕ). k * c.n) e)
  ]

  pub first_next : (b : ℕ) → lo ≤ b → first c s (suc b) ≡ b * c.n + c.n
  unfolding first
  first_next b h = omega (arith, rows_apart c.n b (suc b) (omega arith), mul-le-mul_right c.n h, low.below)

  pub first_low : first c s lo ≡ s
  unfolding first
  first_low = omega (arith, low.from)

  pub first_apart : (a b : ℕ) → lo ≤ a → a < b → first c s a + room c s a ≤ first c s b
  unfolding first
  first_apart a b h g = omega (arith, first_room a h, rows_apart c.n a b g)

  pub room_some : (b : ℕ) → lo ≤ b → 0 < room c s b
  unfolding room
  room_some b h = omega (arith, low.from, low.below, mul-le-mul_right c.n h)

  pub blob_first : (b : ℕ) → b * c.n ≤ first c s b
  unfolding first
  blob_first b = omega arith

  pub blob_is : (b p : ℕ) → lo ≤ b → first c s b ≤ p → p < first c s b + room c s b → p / c.n ≡ b
  blob_is b p h g k = let a = blob_first b in let r = first_room b h in div-eq_of_lt-le {k = b} c.n (omega arith) (omega arith)

  pub first_later : (b : ℕ) → lo < b → first c (lo * c.n + c.n) b ≡ first c s b
  unfolding first
  first_later b h = omega (arith, low.below, rows_apart c.n lo b h)

  pub room_later : (b : ℕ) → lo < b → room c (lo * c.n + c.n) b ≡ room c s b
  unfolding room
  room_later b h = omega (arith, low.below, rows_apart c.n lo b h)

-- the invariant ---------------------------------------------------------------------------------

pub record Fits (c : Config) (s b : ℕ) (x : Blob) : Type 0 where
  pub safe_sound : x.safe ≤ x.sound
  pub sound_length : x.sound ≤ length x.bytes
  pub length_room : length x.bytes ≤ room c s b * c.z
  -- the positions of its records, of torn ones too, fit 64 bits
  pub most : (j : ℕ) × (length x.bytes ≤ j * c.z) × (first c s b + j ≤ MAX)

-- the blob below b, where there is one, is sound to its last record
abbrev pub Reached : Config → ℕ → Blobs → ℕ → Type 0
Reached c s bs b = (k : ℕ) (y : Blob) → suc k ≡ b → find bs k ≡ Some y → room c s k * c.z ≤ y.sound

-- every blob is safe as far as it is sound
abbrev pub Still : Blobs → Type 0
Still bs = (b : ℕ) (x : Blob) → find bs b ≡ Some x → x.sound ≤ x.safe

-- record m of the blob x, of number b, is as it was handed in
pub record Held {R : Type 0} (c : Config) (enc : R → List ℕ) (l : Ledger R) (b : ℕ) (x : Blob) (m : ℕ) : Type 0 where
  pub inside : first c l.start b + m < l.far
  pub given : R
  pub was : l.handed (first c l.start b + m) ≡ Some given
  pub reads : take c.z (drop (m * c.z) x.bytes) ≡ enc given

-- the blobs lo .. lo + more
pub record Rows {R : Type 0} (c : Config) (enc : R → List ℕ) (lo more : ℕ) (bs : Blobs) (l : Ledger R) : Type 0 where
  pub listed : numbers bs ≡ count lo (suc more)
  pub low : Lowest c l.start lo
  pub fits : (b : ℕ) (x : Blob) → find bs b ≡ Some x → Fits c l.start b x
  -- all but the two highest are full and safe
  pub deep : (b : ℕ) (x : Blob) → find bs b ≡ Some x → suc b < lo + more → room c l.start b * c.z ≤ x.safe
  pub start_kept : l.start ≤ l.kept
  pub kept_far : l.kept ≤ l.far
  pub kept_top : l.kept ≤ (lo + more) * c.n + c.n
  -- positions and the first positions of blobs fit 64 bits
  pub top_most : (lo + more) * c.n ≤ MAX
  pub far_most : l.far ≤ MAX
  -- what is kept is safe
  pub kept : (b : ℕ) (x : Blob) (m : ℕ) → find bs b ≡ Some x → m ≤ room c l.start b → first c l.start b + m ≤ l.kept → m * c.z ≤ x.safe
  -- what is sound and reached without a gap was handed in
  pub held : (b : ℕ) (x : Blob) (m : ℕ) → find bs b ≡ Some x → Reached c l.start bs b → suc m * c.z ≤ x.sound → Held c enc l b x m

-- a ledger with other bounds
abbrev pub moved : {R : Type 0} → Ledger R → ℕ → ℕ → ℕ → ℕ → Ledger R
moved l s e k f = record { start = s; end = e; kept = k; far = f; handed = l.handed }

-- keys ------------------------------------------------------------------------------------------

abbrev pub HintFree : Config → ℕ → Option ℕ → Type 0
HintFree c s h = (h ≡ None) ⊎ ((v : ℕ) × (h ≡ Some v) × ((v % c.n ≡ 0) ⊎ (v < s)))

abbrev pub HintStands : Config → ℕ → Option ℕ → Type 0
HintStands c s h = (h ≡ Some s) ⊎ ((s % c.n ≡ 0) × HintFree c s h)

pub record KeysStand {R : Type 0} (c : Config) (k : Keys) (l : Ledger R) : Type 0 where
  pub target : k.target ≡ None
  pub mark : ℕ
  pub marked : k.watermark ≡ Some mark
  pub mark_kept : mark ≤ l.kept
  pub hint : HintStands c l.start k.hint

-- the three cases -------------------------------------------------------------------------------

pub record Standing {R : Type 0} (c : Config) (enc : R → List ℕ) (lo more : ℕ) (d : Disk) (l : Ledger R) : Type 0 where
  pub rows : Rows c enc lo more d.blobs l
  pub keys : KeysStand c d.saved l

pub record Empty {R : Type 0} (c : Config) (d : Disk) (l : Ledger R) : Type 0 where
  pub none : d.blobs ≡ []
  pub start_zero : l.start ≡ 0
  pub kept_zero : l.kept ≡ 0
  pub target : d.saved.target ≡ None
  pub marked : (d.saved.watermark ≡ None) ⊎ (d.saved.watermark ≡ Some 0)
  pub hint : HintFree c 0 d.saved.hint

pub record Staged {R : Type 0} (d : Disk) (l : Ledger R) : Type 0 where
  pub goal : ℕ
  pub target : d.saved.target ≡ Some goal
  pub at_start : l.start ≡ goal
  pub at_end : l.end ≡ goal
  pub at_kept : l.kept ≡ goal
  pub at_far : l.far ≡ goal
  pub most : goal ≤ MAX

-- more may be safe than the ledger has as kept: a mark is saved before the call that saves it ends
pub record Stands {R : Type 0} (c : Config) (enc : R → List ℕ) (d : Disk) (l : Ledger R) : Type 0 where
  pub lo : ℕ
  pub more : ℕ
  pub sure : ℕ
  pub kept_sure : l.kept ≤ sure
  pub standing : Standing c enc lo more d (moved l l.start l.end sure l.far)

abbrev pub Safe : {R : Type 0} → Config → (R → List ℕ) → Disk → Ledger R → Type 0
Safe c enc d l = Stands c enc d l ⊎ (Empty c d l ⊎ Staged d l)

pub stands : {R : Type 0} (c : Config) (enc : R → List ℕ) {lo more : ℕ} (d : Disk) (l : Ledger R) → Standing c enc lo more d l → Stands c enc d l
stands c enc {lo} {more} d l w = record { lo = lo; more = more; sure = l.kept; kept_sure = omega arith; standing = w }

-- what logs in hand have -------------------------------------------------------------------------

-- what is below the far end is sound
abbrev pub Covers : {R : Type 0} → Config → Blobs → Ledger R → Type 0
Covers c bs l = (b : ℕ) (x : Blob) (m : ℕ) → find bs b ≡ Some x → m ≤ room c l.start b → first c l.start b + m ≤ l.far → m * c.z ≤ x.sound

-- every blob below a is safe as far as it is sound
abbrev pub SafeTo : Blobs → ℕ → Type 0
SafeTo bs a = (b : ℕ) (x : Blob) → find bs b ≡ Some x → b < a → x.sound ≤ x.safe
