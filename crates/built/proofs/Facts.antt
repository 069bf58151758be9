-- What is always so of a built store.
use Rattle.std.proofs.Common.{◌≡◌, ℕ, ◌+◌, ◌<◌, ◌≤◌, true, false, leb, length, get_or, take, drop, set, Some, None, Ok, Option, sym, refl, ap, ◌∙◌, arith}
use Rattle.std.proofs.lemmas.Bool.{lt-leb, le-ltb}
use Rattle.store.specs.Ask.{read_of}
use Rattle.store.specs.Built.{bytes_there}
use Rattle.store.specs.Disk.{Blob, find, change, numbers}
use Rattle.store.proofs.Places.{change_here}
use Rattle.catalog.specs.declared.table.Table.{Table}
use Rattle.catalog.specs.Blobs as table
use Rattle.catalog.specs.Found.{Here, FoundAt}
use Rattle.catalog.specs.Seen.{Stands, is_up}
use Rattle.catalog.proofs.Lookup.{many, here, length_blobs, numbers_blobs, blob_at_lem, number_at}
use Rattle.catalog.proofs.Live.{length_live, number_live}
use Rattle.built.specs.declared.medium.Medium.{Ghosts}
use Rattle.built.specs.declared.built.Built.{Built}
use Rattle.built.specs.Laws.{Laws}
use Rattle.built.specs.Recast.{len_at}
use Rattle.built.specs.Seen.{content_of, room_in, row_at, blob_in, blobs, seen}

-- a row in use is where its number is looked for
pub here_at : (t : Table) (i : ℕ) → i < t.count → Here (table.row_at t i).number t i
here_at t i l =
    let e = number_live t.rows t.count (many t) in
    let n = length_live t.rows t.count (many t) in
    here t (table.row_at t i).number i (omega arith, λ k m. omega (arith, e k (omega arith), e i l, t.rising k i m (omega arith)), λ m. omega (arith, e i l)) l refl

pub same_some : {x y : Blob} → Some x ≡ Some y → x ≡ y
same_some e = cc

module _ {S : Type 0} {M : Ghosts S} (w : Laws M.layout) (s : Built S M) where
  pub stands : Stands (content_of s) s.catalog.table
  stands = w.stands s.medium s.catalog.table s.held

  pub long : (i : ℕ) → i < s.catalog.table.count → length (blob_in s (row_at s i)).bytes ≡ (row_at s i).len
  long i l = stands i l

  pub there : (b i : ℕ) → Here b s.catalog.table i → bytes_there (find (blobs s) b) ≡ (row_at s i).len
  there b i h = ap bytes_there (h.found (blob_in s)) ∙ long i h.within

  pub len_found : (b : ℕ) (o : Option ℕ) → FoundAt b s.catalog.table o → len_at s.catalog.table o ≡ bytes_there (find (blobs s) b)
  len_found b None h = sym (ap bytes_there (h (blob_in s)))
  len_found b (Some i) h = sym (there b i h)

  pub room_is : (b i : ℕ) → Here b s.catalog.table i → room_in s (blobs s) b + (row_at s i).len ≡ M.layout.limit s.medium (row_at s i).len
  room_is b i h =
      let e = w.room s.medium s.catalog.table s.held b in
      let t = there b i h in
      let r = ap (M.layout.limit s.medium) t in
      omega (arith, e, t, r)

  -- a read that is answered
  pub read_is : (b i at n : ℕ) → Here b s.catalog.table i → is_up s.catalog ≡ true → at + n ≤ (row_at s i).sound
      → read_of (seen s) b at n ≡ Ok (take n (drop at (content_of s (row_at s i).place (row_at s i).len)))
  read_is b i at n h u l =
      let x = blob_in s (row_at s i) in
      let g = long i h.within in
      let k = h.sound_within in
      let f = h.found (blob_in s) in
      let p = le-ltb (length x.bytes) (at + n) (omega arith) in
      let q = le-ltb x.sound (at + n) (omega arith) in
      simp (u, f, p, q) refl

  pub within_limit : (i : ℕ) → i < s.catalog.table.count → (row_at s i).len ≤ M.layout.limit s.medium (row_at s i).len
  within_limit i l = let e = room_is (row_at s i).number i (here_at s.catalog.table i l) in omega (arith, e)

module _ {S : Type 0} {M : Ghosts S} (s : Built S M) where
  -- a new blob passes the most, or does not
  pub not_full : (s.catalog.table.count ≡ 64 → ⊥) → leb 64 (length (blobs s)) ≡ false
  not_full n = lt-leb 64 (length (blobs s)) (let e = length_blobs (blob_in s) s.catalog.table in omega (arith, s.catalog.table.few))

  pub is_full : s.catalog.table.count ≡ 64 → leb 64 (length (blobs s)) ≡ true
  is_full n = let e : length (blobs s) ≡ 64 = length_blobs (blob_in s) s.catalog.table ∙ n in simp e

  -- a change at the place of blob b is a change of blob b
  pub as_change : (f : Blob → Blob) (b i : ℕ) (y : Blob) → Here b s.catalog.table i → y ≡ f (blob_in s (row_at s i)) → set (blobs s) i ((row_at s i).number, y) ≡ change f b (blobs s)
  as_change f b i y h e =
      let t = s.catalog.table in
      let g = blob_in s in
      let before : (k : ℕ) → k < i → get_or (numbers (blobs s)) k 0 < b = rw (numbers_blobs g t) h.before in
      let l : i < length (blobs s) = omega (arith, length_blobs g t, h.within) in
      ap (λ (x : ℕ × Blob). set (blobs s) i x)
      (ap (λ (m : ℕ). let z : ℕ × Blob = (m, y) in z) h.number
      ∙ ap (λ (x : Blob). let z : ℕ × Blob = (b, x) in z) (e ∙ ap (λ (x : ℕ × Blob). f x.1) (sym (blob_at_lem g t i h.within))))
      ∙ sym (change_here b f (blobs s) i l before (number_at g t i h.within ∙ h.number))
