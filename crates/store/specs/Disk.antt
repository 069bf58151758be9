-- A store by its meaning: numbered blobs, three keys, up or down, and the room that is left.
-- What each writing call does, refuses and may leave when the power goes.
use Rattle.std.specs.Prelude.{◌≡◌, ℕ, ◌+◌, ◌-◌, ◌≤◌, min, Bool, true, false, cond, ◌⊎◌, List, [], ◌∷◌, ◌++◌, length, take, is_some, Some, None, Ok, Err, Option, Result, ◌==◌, nat_le, nat_lt}
use Rattle.store.specs.declared.cause.Cause.{Cause}
use Rattle.store.specs.declared.cause.Cause.TheVariants.{Power, Missing, Range, NoRoom}
use Rattle.store.specs.declared.keys.Key.{Key}
use Rattle.store.specs.declared.keys.Keys.{Keys}
use Rattle.store.specs.declared.keys.Key.TheVariants.{Hint, Target, Watermark}

-- safe ≤ sound ≤ length: a law of the trait
pub record Blob : Type 0 where
  pub bytes : List ℕ
  pub sound : ℕ
  pub safe : ℕ

-- by rising number: a law of the trait
abbrev pub Blobs : Type 0
Blobs = List (ℕ × Blob)

pub record Disk : Type 0 where
  pub blobs : Blobs
  pub present : Keys
  pub saved : Keys

-- room b: how many bytes blob b still takes; most: how many blobs there can be
pub record View : Type 0 where
  pub disk : Disk
  pub up : Bool
  pub room : ℕ → ℕ
  pub most : ℕ

-- the writing calls
pub data Op : Type 0 where
  Open : ℕ → Op
  Append : ℕ → List ℕ → Op
  Truncate : ℕ → ℕ → Op
  Sync : ℕ → Op
  Remove : ℕ → Op
  Put : Key → ℕ → Op
  DropKey : Key → Op
  SyncKeys : Op

-- listing ---------------------------------------------------------------------------------------

abbrev pub find : Blobs → ℕ → Option Blob
find [] b = None
find (x ∷ xs) b = cond (x.0 == b) (Some x.1) (find xs b)

abbrev pub numbers : Blobs → List ℕ
numbers [] = []
numbers (x ∷ xs) = x.0 ∷ numbers xs

-- the lowest number at or above b
abbrev pub at_or_above : ℕ → Blobs → Option ℕ
at_or_above b [] = None
at_or_above b (x ∷ xs) = cond (nat_lt x.0 b) (at_or_above b xs) (Some x.0)

-- the highest number at or below b, or else d
abbrev pub at_or_below_or : Option ℕ → ℕ → Blobs → Option ℕ
at_or_below_or d b [] = d
at_or_below_or d b (x ∷ xs) = cond (nat_lt b x.0) d (at_or_below_or (Some x.0) b xs)

abbrev pub at_or_below : ℕ → Blobs → Option ℕ
at_or_below b xs = at_or_below_or None b xs

-- what a done call leaves -----------------------------------------------------------------------

abbrev pub blank : Blob
blank = record { bytes = []; sound = 0; safe = 0 }

abbrev pub change : (Blob → Blob) → ℕ → Blobs → Blobs
change f b [] = []
change f b (x ∷ xs) = cond (x.0 == b) ((x.0, f x.1) ∷ xs) (x ∷ change f b xs)

abbrev pub insert : ℕ → Blobs → Blobs
insert b [] = (b, blank) ∷ []
insert b (x ∷ xs) = cond (nat_lt b x.0) ((b, blank) ∷ (x ∷ xs)) (cond (b == x.0) (x ∷ xs) (x ∷ insert b xs))

abbrev pub without : ℕ → Blobs → Blobs
without b [] = []
without b (x ∷ xs) = cond (x.0 == b) xs (x ∷ without b xs)

abbrev pub grown : List ℕ → Blob → Blob
grown bs x = record {
  bytes = x.bytes ++ bs;
  sound = cond (x.sound == length x.bytes) (x.sound + length bs) x.sound;
  safe = x.safe;
}

abbrev pub cut_to : ℕ → Blob → Blob
cut_to n x = record { bytes = take n x.bytes; sound = min x.sound n; safe = min x.sound n }

abbrev pub synced : Blob → Blob
synced x = record { bytes = x.bytes; sound = x.sound; safe = x.sound }

abbrev pub keyed : Key → Option ℕ → Keys → Keys
keyed Hint v k = record { hint = v; target = k.target; watermark = k.watermark }
keyed Target v k = record { hint = k.hint; target = v; watermark = k.watermark }
keyed Watermark v k = record { hint = k.hint; target = k.target; watermark = v }

abbrev pub on_blobs : (Blobs → Blobs) → Disk → Disk
on_blobs f d = record { blobs = f d.blobs; present = d.present; saved = d.saved }

abbrev pub on_keys : (Keys → Keys) → Disk → Disk
on_keys f d = record { blobs = d.blobs; present = f d.present; saved = d.saved }

abbrev pub done : Op → Disk → Disk
done (Open b) d = on_blobs (insert b) d
done (Append b bs) d = on_blobs (change (grown bs) b) d
done (Truncate b n) d = on_blobs (change (cut_to n) b) d
done (Sync b) d = on_blobs (change synced b) d
done (Remove b) d = on_blobs (without b) d
done (Put k v) d = on_keys (keyed k (Some v)) d
done (DropKey k) d = on_keys (keyed k None) d
done SyncKeys d = record { blobs = d.blobs; present = d.present; saved = d.present }

abbrev pub done_all : List Op → Disk → Disk
done_all [] d = d
done_all (o ∷ os) d = done_all os (done o d)

-- refusals --------------------------------------------------------------------------------------

abbrev pub at_blob : Option Blob → (Blob → Option Cause) → Option Cause
at_blob None f = Some Missing
at_blob (Some x) f = f x

abbrev pub cause_if : Bool → Cause → Option Cause
cause_if true c = Some c
cause_if false c = None

abbrev pub refuses_up : Op → View → Option Cause
refuses_up (Open b) v = cond (is_some (find v.disk.blobs b)) None (cause_if (nat_le v.most (length v.disk.blobs)) NoRoom)
refuses_up (Append b bs) v = at_blob (find v.disk.blobs b) (λ x. cause_if (nat_lt (v.room b) (length bs)) NoRoom)
refuses_up (Truncate b n) v = at_blob (find v.disk.blobs b) (λ x. cause_if (nat_lt (length x.bytes) n) Range)
refuses_up (Sync b) v = at_blob (find v.disk.blobs b) (λ x. None)
refuses_up (Remove b) v = at_blob (find v.disk.blobs b) (λ x. None)
refuses_up (Put k n) v = None
refuses_up (DropKey k) v = None
refuses_up SyncKeys v = None

-- the first cause that holds, the power that goes during the call aside
abbrev pub refuses : Op → View → Option Cause
refuses o v = cond v.up (refuses_up o v) (Some Power)

-- power -----------------------------------------------------------------------------------------

pub record Weaker (x y : Blob) : Type 0 where
  pub kept : x.safe ≤ y.sound
  pub fewer : y.sound ≤ x.sound
  pub safe_grows : x.safe ≤ y.safe
  pub safe_within : y.safe ≤ y.sound
  pub same : take y.sound y.bytes ≡ take y.sound x.bytes
  pub sound_within : y.sound ≤ length y.bytes
  pub shorter : length y.bytes ≤ length x.bytes

abbrev pub Weakened : Blobs → Blobs → Type 0
Weakened [] [] = Unit {0}
Weakened [] (y ∷ ys) = ⊥
Weakened (x ∷ xs) [] = ⊥
Weakened (x ∷ xs) (y ∷ ys) = (y.0 ≡ x.0) × Weaker x.1 y.1 × Weakened xs ys

-- what a stopped call may count as: not made, made, or an append of a first part of its bytes
abbrev pub Counted : Op → Disk → Disk → Type 0
Counted (Append b bs) d e = (e ≡ d) ⊎ ((n : ℕ) × (e ≡ done (Append b (take n bs)) d))
Counted (Open b) d e = (e ≡ d) ⊎ (e ≡ done (Open b) d)
Counted (Truncate b n) d e = (e ≡ d) ⊎ (e ≡ done (Truncate b n) d)
Counted (Sync b) d e = (e ≡ d) ⊎ (e ≡ done (Sync b) d)
Counted (Remove b) d e = (e ≡ d) ⊎ (e ≡ done (Remove b) d)
Counted (Put k n) d e = (e ≡ d) ⊎ (e ≡ done (Put k n) d)
Counted (DropKey k) d e = (e ≡ d) ⊎ (e ≡ done (DropKey k) d)
Counted SyncKeys d e = (e ≡ d) ⊎ (e ≡ done SyncKeys d)

-- the power went during the call: the store is down and its blobs are weakened
pub record Cut (o : Op) (v w : View) : Type 0 where
  pub down : w.up ≡ false
  pub most : w.most ≡ v.most
  pub middle : Disk
  pub counted : Counted o v.disk middle
  pub weakened : Weakened middle.blobs w.disk.blobs
  pub saved : w.disk.saved ≡ middle.saved

-- the answer of a writing call ------------------------------------------------------------------

-- a done call moves the room of its own blob by what it adds or cuts; of other rooms nothing is said
abbrev pub Rooms : Op → View → View → Type 0
Rooms (Append b bs) v w = w.room b + length bs ≡ v.room b
Rooms (Truncate b n) v w = (x : Blob) → find v.disk.blobs b ≡ Some x → w.room b ≡ v.room b + (length x.bytes - n)
Rooms (Open b) v w = Unit {0}
Rooms (Sync b) v w = Unit {0}
Rooms (Remove b) v w = Unit {0}
Rooms (Put k n) v w = Unit {0}
Rooms (DropKey k) v w = Unit {0}
Rooms SyncKeys v w = Unit {0}

abbrev pub Does : Op → View → View → Type 0
Does o v w = (refuses o v ≡ None) × (w.up ≡ true) × (w.disk ≡ done o v.disk) × (w.most ≡ v.most) × Rooms o v w

abbrev pub Refuses : Op → View → Cause → View → Type 0
Refuses o v c w = ((refuses o v ≡ Some c) × (w ≡ v)) ⊎ ((c ≡ Power) × (v.up ≡ true) × Cut o v w)

abbrev pub Wrote : {A : Type 0} → Op → View → Result A Cause → View → Type 0
Wrote o v (Ok x) w = Does o v w
Wrote o v (Err c) w = Refuses o v c w

-- writing calls made in order, up to the first that is not done
abbrev pub Made : List Op → View → Option (Op × Cause) → View → Type 0
Made [] v r w = (r ≡ None) × (w ≡ v)
Made (o ∷ os) v r w = ((u : View) × Does o v u × Made os u r w) ⊎ ((c : Cause) × (r ≡ Some (o, c)) × Refuses o v c w)

-- restart ---------------------------------------------------------------------------------------

abbrev pub settled : Blobs → Blobs
settled [] = []
settled (x ∷ xs) = (x.0, synced x.1) ∷ settled xs

pub record Restarted (v w : View) : Type 0 where
  pub up : w.up ≡ true
  pub most : w.most ≡ v.most
  pub middle : Blobs
  pub weakened : Weakened v.disk.blobs middle
  pub blobs : w.disk.blobs ≡ settled middle
  pub saved : w.disk.saved ≡ v.disk.saved
  pub present : w.disk.present ≡ v.disk.saved

abbrev pub no_keys : Keys
no_keys = record { hint = None; target = None; watermark = None }

pub record New (v : View) : Type 0 where
  pub up : v.up ≡ true
  pub disk : v.disk ≡ record { blobs = []; present = no_keys; saved = no_keys }
