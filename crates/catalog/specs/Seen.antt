-- What a store with this catalog means, where content says which bytes stand at a place, and room what room is left among given blobs.
use Rattle.std.specs.Prelude.{◌≡◌, ℕ, ◌+◌, ◌<◌, Bool, true, is_some, List, length, Some, Ok, Err, Option, Result}
use Rattle.std.specs.Option.{unwrap_or}
use Rattle.store.specs.declared.cause.Cause.{Cause}
use Rattle.store.specs.Built.{Counts}
use Rattle.store.specs.declared.keys.Key.{Key}
use Rattle.store.specs.Disk.{Blob, Blobs, View, Op, Wrote, keyed}
use Rattle.catalog.specs.declared.row.Row.{Row}
use Rattle.catalog.specs.declared.table.Table.{Table}
use Rattle.catalog.specs.declared.catalog.Catalog.{Catalog}
use Rattle.catalog.specs.Blobs.{row_at, blobs_by}

-- content p n: the first n bytes of what stands at place p
abbrev pub Content : Type 0
Content = ℕ → ℕ → List ℕ

abbrev pub blob_at : Content → Row → Blob
blob_at content r = record { bytes = content r.place r.len; sound = r.sound; safe = r.safe }

-- the bytes of each row are as many as it says
abbrev pub Stands : Content → Table → Type 0
Stands content t = (i : ℕ) → i < t.count → length (content (row_at t i).place (row_at t i).len) ≡ (row_at t i).len

-- the power is on, and so many writing calls still succeed
abbrev pub is_up : Catalog → Bool
is_up c = is_some c.power

abbrev pub calls_left : Catalog → ℕ
calls_left c = unwrap_or c.power 0

abbrev pub view_by : Content → (Blobs → ℕ → ℕ) → Catalog → View
view_by content room c =
    record {
      disk = record { blobs = blobs_by (blob_at content) c.table; present = c.present; saved = c.saved };
      up = is_up c;
      room = room (blobs_by (blob_at content) c.table);
      most = 64;
    }

-- so it is of every store with this catalog
abbrev pub InEach : Catalog → (View → Type 0) → Type 0
InEach c P = (content : Content) (room : Blobs → ℕ → ℕ) → Stands content c.table → P (view_by content room c)

-- a writing call that leaves every byte where it is, in every store with this catalog
abbrev pub Called : {A : Type 0} → Op → Catalog → Result A Cause → Catalog → Type 0
Called o c r d =
    (content : Content) (room : Blobs → ℕ → ℕ) → Stands content c.table
    → Wrote o (view_by content room c) r (view_by content room d) × Counts (view_by content room c) (calls_left c) r (view_by content room d) (calls_left d)

-- a writing call begins: nothing is changed while the power is on and a call is left, and otherwise it is stopped, whatever call it is
abbrev pub Begun : {A : Type 0} → Catalog → Result A Cause → Catalog → Type 0
Begun {A} c (Ok x) d = (d ≡ c) × (is_up c ≡ true) × (0 < calls_left c)
Begun {A} c (Err e) d = (d.table ≡ c.table) × ((o : Op) → Called {A = A} o c (Err e) d)

-- a call more is counted
pub record OneFewer (c d : Catalog) : Type 0 where
  pub table : d.table ≡ c.table
  pub present : d.present ≡ c.present
  pub saved : d.saved ≡ c.saved
  pub up : is_up d ≡ is_up c
  pub calls : calls_left c ≡ calls_left d + 1

pub record Revived (c : Catalog) (n : ℕ) (d : Catalog) : Type 0 where
  pub table : d.table ≡ c.table
  pub saved : d.saved ≡ c.saved
  pub present : d.present ≡ c.saved
  pub power : d.power ≡ Some n

pub record KeySet (c : Catalog) (k : Key) (x y : Option ℕ) (d : Catalog) : Type 0 where
  pub table : d.table ≡ c.table
  pub present : d.present ≡ keyed k x c.present
  pub saved : d.saved ≡ keyed k y c.saved
  pub power : d.power ≡ c.power
