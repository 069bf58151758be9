-- What the writing calls make of one blob, and of its room.
use Rattle.std.proofs.Common.{◌≡◌, ℕ, ◌+◌, ◌<◌, List, [], ◌++◌, length, take, ap, ◌∙◌, subst, append-nil, arith}
use Rattle.std.proofs.lemmas.List.{take_all}
use Rattle.store.specs.Disk.{Blob, change, grown, cut_to, on_blobs}
use Rattle.catalog.specs.Rows.{grown_row, cut_row}
use Rattle.catalog.specs.Found.{Here}
use Rattle.catalog.proofs.Stored.{as_disk}
use Rattle.built.specs.declared.medium.Medium.{Ghosts}
use Rattle.built.specs.declared.built.Built.{Built}
use Rattle.built.specs.Laws.{Laws}
use Rattle.built.specs.Seen.{room_in, row_at, blob_in, blobs, seen}
use Rattle.built.specs.Rewritten.{Rewritten}
use Rattle.built.proofs.Facts.{here_at, long, room_is, as_change}

module _ {S : Type 0} {M : Ghosts S} (w : Laws M.layout) (d x : Built S M) (b i : ℕ) (y : Blob) (h : Here b d.catalog.table i) (e : Rewritten i y d x) where
  pub changed_to : (f : Blob → Blob) → y ≡ f (blob_in d (row_at d i)) → (seen x).disk ≡ on_blobs (change f b) (seen d).disk
  changed_to f z = as_disk e.kept.present e.kept.saved (e.blobs ∙ as_change d f b i y h z)

  -- its room is what the change of its length leaves
  pub room_after : room_in x (blobs x) b + length y.bytes ≡ room_in d (blobs d) b + (row_at d i).len
  room_after =
      let k : Here b x.catalog.table i = subst (λ n. Here n x.catalog.table i) (e.number ∙ h.number) (here_at x.catalog.table i (omega (arith, e.count, h.within))) in
      let l = ap (M.layout.limit x.medium) e.len in
      omega (arith, room_is w x b i k, room_is w d b i h, l, e.limit, e.len)

module _ {S : Type 0} {M : Ghosts S} (w : Laws M.layout) (d : Built S M) (i : ℕ) (l : i < d.catalog.table.count) where
  pub grown_is : (bs : List ℕ) → ◌≡◌ {A = Blob} (record {
    bytes = take (row_at d i).len (blob_in d (row_at d i)).bytes ++ bs;
    sound = (grown_row (length bs) (row_at d i)).sound;
    safe = (row_at d i).safe;
  }) (grown bs (blob_in d (row_at d i)))
  grown_is bs =
      let n = long w d i l in
      let t = take_all (row_at d i).len (blob_in d (row_at d i)).bytes (omega (arith, n)) in
      simp (n, t)

  pub cut_is : (n : ℕ) → ◌≡◌ {A = Blob} (record {
    bytes = take n (blob_in d (row_at d i)).bytes ++ [];
    sound = (cut_row n (row_at d i)).sound;
    safe = (cut_row n (row_at d i)).safe;
  }) (cut_to n (blob_in d (row_at d i)))
  cut_is n = simp append-nil
