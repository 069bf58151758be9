-- What a built store adds to a store: it is told how many writing calls succeed before Power, and it can be set up with given contents.
use Rattle.std.specs.Prelude.{◌≡◌, ℕ, ◌+◌, ◌<◌, false, cond, ◌||◌, length, Some, None, Ok, Err, Option, Result, nat_lt}
use Rattle.store.specs.declared.cause.Cause.{Cause}
use Rattle.store.specs.declared.cause.Cause.TheVariants.{Power, Range, NoRoom}
use Rattle.store.specs.declared.keys.Key.{Key}
use Rattle.store.specs.Disk.{Blob, Blobs, View, find, change, insert, keyed, refuses_up, Open}

-- the same store, down
abbrev pub stopped : View → View
stopped v = record { disk = v.disk; up = false; room = v.room; most = v.most }

-- n is the number at the call, and m after it. A call that succeeds takes one. Exactly the call after the last of them answers Power,
-- undone, and leaves the store down; no other refusal changes anything
abbrev pub Counts : {A : Type 0} → View → ℕ → Result A Cause → View → ℕ → Type 0
Counts v n (Ok x) w m = n ≡ m + 1
Counts v n (Err c) w m = (m ≡ n) × (n ≡ 0 → (c ≡ Power) × (w ≡ stopped v)) × (0 < n → w ≡ v)

-- set-up ----------------------------------------------------------------------------------------

abbrev pub bytes_there : Option Blob → ℕ
bytes_there None = 0
bytes_there (Some x) = length x.bytes

-- lengths out of order; no room for a new blob; or more bytes than its room and the bytes that were there
abbrev pub unfit : ℕ → Blob → View → Option Cause
unfit b x v =
    cond (nat_lt x.sound x.safe || nat_lt (length x.bytes) x.sound) (Some Range)
    (cond (nat_lt (v.room b + bytes_there (find v.disk.blobs b)) (length x.bytes)) (Some NoRoom) (refuses_up (Open b) v))

-- blob b is x, whatever it was before
abbrev pub placed : ℕ → Blob → Blobs → Blobs
placed b x xs = change (λ _. x) b (insert b xs)

abbrev pub BlobSet : {A : Type 0} → ℕ → Blob → View → Result A Cause → View → Type 0
BlobSet b x v (Ok y) w = (unfit b x v ≡ None) × (w.disk ≡ record { blobs = placed b x v.disk.blobs; present = v.disk.present; saved = v.disk.saved }) × (w.up ≡ v.up) × (w.most ≡ v.most)
BlobSet b x v (Err c) w = (unfit b x v ≡ Some c) × (w ≡ v)

pub record KeySet (k : Key) (x y : Option ℕ) (v w : View) : Type 0 where
  pub blobs : w.disk.blobs ≡ v.disk.blobs
  pub present : w.disk.present ≡ keyed k x v.disk.present
  pub saved : w.disk.saved ≡ keyed k y v.disk.saved
  pub up : w.up ≡ v.up
  pub most : w.most ≡ v.most
