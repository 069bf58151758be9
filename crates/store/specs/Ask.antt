-- The questions: what each answers, as one value. They change nothing.
use Rattle.std.specs.Prelude.{◌≡◌, ℕ, ◌+◌, min, cond, List, length, take, drop, Some, None, Ok, Err, Option, Result, nat_lt}
use Rattle.store.specs.declared.cause.Cause.{Cause}
use Rattle.store.specs.declared.cause.Cause.TheVariants.{Power, Missing, Range, Torn}
use Rattle.store.specs.declared.keys.Keys.{Keys}
use Rattle.store.specs.declared.keys.Key.{Key}
use Rattle.store.specs.declared.keys.Key.TheVariants.{Hint, Target, Watermark}
use Rattle.store.specs.Disk.{Blob, View, find, at_or_above, at_or_below}

abbrev pub while_up : {A : Type 0} → View → Result A Cause → Result A Cause
while_up v r = cond v.up r (Err Power)

abbrev pub of_blob : {A : Type 0} → Option Blob → (Blob → Result A Cause) → Result A Cause
of_blob None f = Err Missing
of_blob (Some x) f = f x

abbrev pub key_at : Key → Keys → Option ℕ
key_at Hint k = k.hint
key_at Target k = k.target
key_at Watermark k = k.watermark

abbrev pub above_of : View → ℕ → Result (Option ℕ) Cause
above_of v b = while_up v (Ok (at_or_above b v.disk.blobs))

abbrev pub below_of : View → ℕ → Result (Option ℕ) Cause
below_of v b = while_up v (Ok (at_or_below b v.disk.blobs))

abbrev pub length_of : View → ℕ → Result ℕ Cause
length_of v b = while_up v (of_blob (find v.disk.blobs b) (λ x. Ok (length x.bytes)))

abbrev pub room_of : View → ℕ → Result ℕ Cause
room_of v b = while_up v (of_blob (find v.disk.blobs b) (λ x. Ok (v.room b)))

abbrev pub scan_of : View → ℕ → ℕ → Result ℕ Cause
scan_of v b limit = while_up v (of_blob (find v.disk.blobs b) (λ x. Ok (min x.sound limit)))

abbrev pub key_of : View → Key → Result (Option ℕ) Cause
key_of v k = while_up v (Ok (key_at k v.disk.present))

-- n bytes from at on, or the first cause that holds
abbrev pub read_of : View → ℕ → ℕ → ℕ → Result (List ℕ) Cause
read_of v b at n =
    while_up v
    (of_blob (find v.disk.blobs b) (λ x. cond (nat_lt (length x.bytes) (at + n)) (Err Range) (cond (nat_lt x.sound (at + n)) (Err Torn) (Ok (take n (drop at x.bytes))))))

-- a read into lent bytes: they hold what was asked for, or are as they were
abbrev pub CopiedOut : {A : Type 0} → Result (List ℕ) Cause → List ℕ → Result A Cause → List ℕ → Type 0
CopiedOut asked old (Ok x) new = asked ≡ Ok new
CopiedOut asked old (Err c) new = (asked ≡ Err c) × (new ≡ old)
