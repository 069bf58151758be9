-- What the calls of a built store do, and what their first steps leave.
use Rattle.std.specs.Prelude.{◌≡◌, ℕ, ◌<◌, true, Some, None, Ok, Err, Result}
use Rattle.store.specs.declared.cause.Cause.{Cause}
use Rattle.store.specs.declared.cause.Cause.TheVariants.{NoRoom}
use Rattle.store.specs.Built.{Counts, bytes_there}
use Rattle.store.specs.Disk.{Op, Open, Wrote, find, insert, refuses_up}
use Rattle.catalog.specs.Found.{Here}
use Rattle.catalog.specs.Seen.{is_up, calls_left}
use Rattle.built.specs.declared.medium.Medium.{Ghosts}
use Rattle.built.specs.declared.built.Built.{Built}
use Rattle.built.specs.Seen.{row_at, blobs, seen}

module _ {S : Type 0} {M : Ghosts S} where
  -- a writing call does what it should, and is counted
  pub record Called {A : Type 0} (o : Op) (s : Built S M) (r : Result A Cause) (t : Built S M) : Type 0 where
    pub wrote : Wrote o (seen s) r (seen t)
    pub counts : Counts (seen s) (calls_left s.catalog) r (seen t) (calls_left t.catalog)

  -- a writing call begins: nothing is changed while the power is on and a call is left, and otherwise it is stopped, whatever call it is
  abbrev pub Begun : {A : Type 0} → Built S M → Result A Cause → Built S M → Type 0
  Begun s (Ok x) t = (t ≡ s) × (is_up s.catalog ≡ true) × (0 < calls_left s.catalog)
  Begun {A} s (Err c) t = (t.medium ≡ s.medium) × ((o : Op) → Called {A = A} o s (Err c) t)

  -- keys and power stay
  pub record Kept (s t : Built S M) : Type 0 where
    pub present : t.catalog.present ≡ s.catalog.present
    pub saved : t.catalog.saved ≡ s.catalog.saved
    pub power : t.catalog.power ≡ s.catalog.power

  -- blob b has row i, if it is new an empty one
  pub record Made (b : ℕ) (s : Built S M) (i : ℕ) (t : Built S M) : Type 0 where
    pub medium : t.medium ≡ s.medium
    pub kept : Kept s t
    pub allowed : refuses_up (Open b) (seen s) ≡ None
    pub len : (row_at t i).len ≡ bytes_there (find (blobs s) b)
    pub blobs : blobs t ≡ insert b (blobs s)
    pub here : Here b t.catalog.table i

  -- or there are as many blobs as there can be
  abbrev pub MadeRow : ℕ → Built S M → Result ℕ Cause → Built S M → Type 0
  MadeRow b s (Ok i) t = Made b s i t
  MadeRow b s (Err c) t = (t ≡ s) × (c ≡ NoRoom) × (refuses_up (Open b) (seen s) ≡ Some NoRoom)
