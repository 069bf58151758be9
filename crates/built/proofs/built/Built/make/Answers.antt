use Rattle.std.proofs.Common.{◌≡◌, ℕ, List, ap, subst, sym, refl, ◌∙◌, arith}
use Rattle.store.specs.Built.{bytes_there}
use Rattle.store.specs.Disk.{Blob}
use Rattle.catalog.specs.declared.row.Row.{Row}
use Rattle.catalog.specs.Rows.{fresh_row}
use Rattle.catalog.specs.Blobs.{row_at}
use Rattle.catalog.specs.Found.{Here}
use Rattle.catalog.proofs.Lookup.{here, missing}
use Rattle.catalog.proofs.Comes.{opened, opened_here, row_opened}
use Rattle.built.specs.Seen.{blob_in}
use Rattle.built.proofs.Facts.{here_at, there, not_full, is_full}
use Rattle.built.proofs.built.Built.make.Goals as goal

pub returns-then-self-i : goal.returns-then-self-i
returns-then-self-i g c =
    let s = c.args.self.now in
    let b = c.args.b in
    let i = c.seek-i.result in
    let h = here s.catalog.table b i c.seek-i.ensures.place (omega arith) (omega arith) in
    let f = h.found (blob_in s) in
    record {
      medium = refl;
      kept = record { present = refl; saved = refl; power = refl };
      allowed = simp f;
      here = h;
      len = sym (there g.met.M.Medium.lawful s b i h);
      blobs = opened_here (blob_in s) s.catalog.table b i h;
    }

pub returns-then-self-eq64 : goal.returns-then-self-eq64
returns-then-self-eq64 g c =
    let s = c.args.self.now in
    let m = missing (blob_in s) s.catalog.table c.args.b c.seek-i.result c.seek-i.ensures.place (λ l e. grind arith) in
    let f = is_full s (omega arith) in
    (refl, refl, simp (m, f))

pub returns : goal.returns
returns g c =
    let s = c.args.self.now in
    let b = c.args.b in
    let i = c.seek-i.result in
    let u = c.insert.new.self in
    let p = c.place-place.result in
    let n = c.insert.ensures.count in
    let m = missing (blob_in s) s.catalog.table b i c.seek-i.ensures.place (λ l e. grind arith) in
    let f = not_full s (λ e. omega arith) in
    let r : row_at u i ≡ fresh_row b p = row_opened s.catalog.table b i p u _ n c.insert.ensures.rows c.seek-i.ensures.within in
    record {
      medium = refl;
      kept = record { present = refl; saved = refl; power = refl };
      allowed = simp (m, f);
      here = subst (λ k. Here k u i) (ap (λ (x : Row). x.number) r) (here_at u i (omega (arith, n, c.seek-i.ensures.within)));
      len = ap (λ (x : Row). x.len) r ∙ sym (ap bytes_there m);
      blobs =
          opened s.catalog.table b i p u _ n c.insert.ensures.rows c.seek-i.ensures.within
          (blob_in s) (ap (λ (zs : List ℕ). let y : Blob = record { bytes = zs; sound = 0; safe = 0 } in y) c.place-place.ensures.empty) c.seek-i.ensures.place (λ l d. grind arith);
    }
