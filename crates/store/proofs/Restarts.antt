-- The restart of a built store is a restart.
use Rattle.std.proofs.Common.{◌≡◌, ℕ, ◌-◌, ◌≤◌, true, List, [], ◌∷◌, map, length, take, replicate, refl, ap, ◌∙◌, arith, length-append}
use lib.ListN.{length-replicate}
use Rattle.std.proofs.lemmas.List.{take-take, take_at, length-take-le}
use Rattle.store.specs.declared.restart.Past.{Past}
use Rattle.store.specs.declared.restart.Past.TheVariants.{Cut, Fill}
use Rattle.store.specs.declared.restart.Restart.{Restart}
use Rattle.store.specs.Disk.{Blob, Blobs, View, Weaker, Weakened, Restarted, settled}
use Rattle.store.specs.Laws.{Whole, AllWhole}
use Rattle.store.specs.Left.{sound_left, bytes_left, left_entry, left}

-- the blob before safe is set to sound
abbrev weak_of : Restart → Blob → Blob
weak_of how x = record { bytes = bytes_left how.past (sound_left how.keep x) x.bytes; sound = sound_left how.keep x; safe = x.safe }

bytes_kept : (past : Past) (m : ℕ) (bs : List ℕ) → m ≤ length bs
    → (take m (bytes_left past m bs) ≡ take m bs) × (m ≤ length (bytes_left past m bs)) × (length (bytes_left past m bs) ≤ length bs)
bytes_kept Cut m bs l = let n = length-take-le m bs l in (take-take m m bs (omega arith), omega arith, omega arith)
bytes_kept (Fill v) m bs l =
    let n = length-take-le m bs l in
    let k = length-append (take m bs) (replicate (length bs - m) v) in
    let q = length-replicate (length bs - m) v in
    (take_at (take m bs) (replicate (length bs - m) v) m n, omega arith, omega arith)

weaker_left : (how : Restart) (x : Blob) → Whole x → Weaker x (weak_of how x)
weaker_left how x h =
    let m = sound_left how.keep x in
    let s = h.safe_within in
    let l : m ≤ length x.bytes = omega (arith, h.sound_within) in
    let k = bytes_kept how.past m x.bytes l in
    record { kept = omega arith; fewer = omega arith; safe_grows = omega arith; safe_within = omega arith; same = k.0; sound_within = k.1; shorter = k.2 }

abbrev weak : Restart → Blobs → Blobs
weak how xs = map (λ (e : ℕ × Blob). let y : ℕ × Blob = (e.0, weak_of how e.1) in y) xs

weakened_left : (how : Restart) (xs : Blobs) → AllWhole xs → Weakened xs (weak how xs)
weakened_left how [] h = tt
weakened_left how (x ∷ xs) h = (refl, weaker_left how x.1 h.0, weakened_left how xs h.1)

settled_left : (how : Restart) (xs : Blobs) → left how xs ≡ settled (weak how xs)
settled_left how [] = refl
settled_left how (x ∷ xs) = ap (λ ys. left_entry how x ∷ ys) (settled_left how xs)

pub restarts : (how : Restart) (v w : View) → AllWhole v.disk.blobs → w.up ≡ true → w.most ≡ v.most → w.disk.blobs ≡ left how v.disk.blobs
    → w.disk.saved ≡ v.disk.saved → w.disk.present ≡ v.disk.saved → Restarted v w
restarts how v w h u n e s p =
    record {
      up = u;
      most = n;
      middle = weak how v.disk.blobs;
      weakened = weakened_left how v.disk.blobs h;
      blobs = e ∙ settled_left how v.disk.blobs;
      saved = s;
      present = p;
    }
