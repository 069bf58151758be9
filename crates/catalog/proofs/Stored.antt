-- The blobs of a store with a catalog.
use Rattle.std.proofs.Common.{◌≡◌, ℕ, ap, ◌∙◌, arith}
use Rattle.store.specs.declared.keys.Keys.{Keys}
use Rattle.store.specs.Disk.{Blobs, Disk}
use Rattle.store.specs.Laws.{AllWhole, Lawful}
use Rattle.catalog.specs.declared.table.Table.{Table}
use Rattle.catalog.specs.declared.catalog.Catalog.{Catalog}
use Rattle.catalog.specs.Rows.{Ordered}
use Rattle.catalog.specs.Blobs.{blobs_by}
use Rattle.catalog.specs.Seen.{Content, Stands, blob_at, view_by}
use Rattle.catalog.proofs.Lookup.{at_row, numbers_blobs, rising_blobs}
use Rattle.catalog.proofs.Change.{whole_blobs}

pub stored_whole : (content : Content) (t : Table) → Stands content t → AllWhole (blobs_by (blob_at content) t)
stored_whole content t h =
    whole_blobs (blob_at content) t
    (λ i l.
    let o = at_row t Ordered t.ordered i l in
    let n = h i l in
    record { safe_within = o.0; sound_within = omega (arith, o.1); fits = omega (arith, o.2) })

-- every view of a store with a catalog has the laws
pub stored_lawful : (content : Content) (room : Blobs → ℕ → ℕ) (c : Catalog) → Stands content c.table → Lawful (view_by content room c)
stored_lawful content room c h =
    record {
      rising = rising_blobs (blob_at content) c.table;
      fits = rw (numbers_blobs (blob_at content) c.table) c.table.fit;
      whole = stored_whole content c.table h;
      present = c.held;
      saved = c.kept;
    }

pub on_disk : (p q : Keys) (xs ys : Blobs) → xs ≡ ys
    → ◌≡◌ {A = Disk} (record { blobs = xs; present = p; saved = q }) (record { blobs = ys; present = p; saved = q })
on_disk p q xs ys e = ap (λ (zs : Blobs). let d : Disk = record { blobs = zs; present = p; saved = q } in d) e

pub as_disk : {p p' q q' : Keys} {xs ys : Blobs} → p ≡ p' → q ≡ q' → xs ≡ ys
    → ◌≡◌ {A = Disk} (record { blobs = xs; present = p; saved = q }) (record { blobs = ys; present = p'; saved = q' })
as_disk {p} {p'} {q} {q'} {xs} {ys} a b e =
    on_disk p q xs ys e
    ∙ ap (λ (k : Keys). let d : Disk = record { blobs = ys; present = k; saved = q } in d) a
    ∙ ap (λ (k : Keys). let d : Disk = record { blobs = ys; present = p'; saved = k } in d) b
