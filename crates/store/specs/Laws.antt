-- The laws of a store's view: so it is at first, and no call leaves it otherwise.
use Rattle.std.specs.Prelude.{ℕ, ◌^◌, ◌<◌, ◌≤◌, List, [], ◌∷◌, length, slice_index}
use Rattle.std.specs.Option.{unwrap_or}
use Rattle.store.specs.declared.keys.Key.{Key}
use Rattle.store.specs.declared.keys.Keys.{Keys}
use Rattle.store.specs.Ask.{key_at}
use Rattle.store.specs.Disk.{Blob, Blobs, View, numbers}

abbrev pub Rising : List ℕ → Type 0
Rising ns = (j k : ℕ) → j < k → k < length ns → slice_index ns j < slice_index ns k

-- each of the numbers is below n
abbrev pub Below : ℕ → List ℕ → Type 0
Below n ns = (k : ℕ) → k < length ns → slice_index ns k < n

-- safe ≤ sound ≤ length, and the length fits 64 bits
pub record Whole (x : Blob) : Type 0 where
  pub safe_within : x.safe ≤ x.sound
  pub sound_within : x.sound ≤ length x.bytes
  pub fits : length x.bytes < 2 ^ 64

abbrev pub AllWhole : Blobs → Type 0
AllWhole [] = Unit {0}
AllWhole (x ∷ xs) = Whole x.1 × AllWhole xs

-- each key's number fits 64 bits
abbrev pub KeysFit : Keys → Type 0
KeysFit ks = (k : Key) → unwrap_or (key_at k ks) 0 < 2 ^ 64

pub record Lawful (v : View) : Type 0 where
  pub rising : Rising (numbers v.disk.blobs)
  pub fits : Below (2 ^ 64) (numbers v.disk.blobs)
  pub whole : AllWhole v.disk.blobs
  pub present : KeysFit v.disk.present
  pub saved : KeysFit v.disk.saved
