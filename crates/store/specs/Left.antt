-- What the restart of a built store leaves: sound is the smaller of sound and safe + keep, and what lies past it is cut off or filled.
use Rattle.std.specs.Prelude.{ℕ, ◌+◌, ◌-◌, min, List, ◌++◌, map, length, take, replicate}
use Rattle.store.specs.declared.restart.Past.{Past}
use Rattle.store.specs.declared.restart.Past.TheVariants.{Cut, Fill}
use Rattle.store.specs.declared.restart.Restart.{Restart}
use Rattle.store.specs.Disk.{Blob, Blobs}

abbrev pub sound_left : ℕ → Blob → ℕ
sound_left keep x = min x.sound (x.safe + keep)

-- of bytes whose first m stay
abbrev pub bytes_left : Past → ℕ → List ℕ → List ℕ
bytes_left Cut m bs = take m bs
bytes_left (Fill v) m bs = take m bs ++ replicate (length bs - m) v

abbrev pub left_of : Restart → Blob → Blob
left_of how x =
    record { bytes = bytes_left how.past (sound_left how.keep x) x.bytes; sound = sound_left how.keep x; safe = sound_left how.keep x }

abbrev pub left_entry : Restart → ℕ × Blob → ℕ × Blob
left_entry how e = (e.0, left_of how e.1)

abbrev pub left : Restart → Blobs → Blobs
left how xs = map (left_entry how) xs
