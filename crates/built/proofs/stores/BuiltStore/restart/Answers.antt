use Rattle.std.proofs.Common.{is_some, ◌≡◌, ℕ, ◌<◌, ◌≤◌, ◌++◌, map, length, get_or, set, drop, refl, ap, ◌∙◌, sym, append-nil, arith}
use Rattle.std.proofs.lemmas.List.Edits.{map_over_more}
use Rattle.std.proofs.lemmas.List.{take_all, drop_all, get_or_default}
use Rattle.store.specs.Disk.{Blob, blank}
use Rattle.store.specs.Left.{left, left_entry}
use Rattle.store.proofs.Restarts.{restarts}
use Rattle.catalog.specs.declared.table.Table.{Table}
use Rattle.catalog.specs.Blobs.{blobs_by}
use Rattle.catalog.proofs.Stored.{stored_whole}
use Rattle.catalog.proofs.Lookup.{length_blobs, blob_at_lem}
use Rattle.built.specs.Seen.{content_of, blob_in, blobs, seen}
use Rattle.built.proofs.Facts.{stands}
use Rattle.built.proofs.stores.BuiltStore.restart.Goals as goal

pub loop-i-preserved : goal.loop-i-preserved
loop-i-preserved g c =
    let s = c.args.self.now in
    let t = c.loop-i.self in
    let u = c.settle.new.self in
    let i = c.loop-i.i in
    let a = c.loop-i.invariant in
    let b = c.settle.ensures in
    let m : i < length (blobs s) = omega (arith, length_blobs (blob_in s) s.catalog.table) in
    let n : i < length (blobs t) = omega (arith, length_blobs (blob_in t) t.catalog.table, a.count) in
    let x = get_or (blobs t) i (0, blank) in
    let e = ap (λ (y : ℕ × Blob). set (blobs t) i (left_entry c.args.how y)) (sym (blob_at_lem (blob_in t) t.catalog.table i (omega arith))) in
    record {
      blobs = b.blobs ∙ e ∙ map_over_more (left_entry c.args.how) (blobs s) (blobs t) i x m a.blobs (get_or_default (blobs t) i (0, blank) x n);
      count = b.count ∙ a.count;
      saved = b.kept.saved ∙ a.saved;
      memory =
          record {
            long = b.memory.long ∙ a.memory.long;
            same = λ q h. b.memory.same q (λ k l z. a.apart q (λ j p. h j p tt) k (omega (arith, a.count))) ∙ a.memory.same q h;
          };
      apart = λ q h k l. b.apart k q (omega (arith, a.count)) (a.apart q h i (omega (arith, a.count))) (a.apart q h k l);
    }

pub returns-clause-restarted : goal.returns-clause-restarted
returns-clause-restarted g c =
    let s = c.args.self.now in
    let t = c.loop-i.self in
    let i = c.loop-i.i in
    let a = c.loop-i.invariant in
    let all : length (blobs s) ≤ i = omega (arith, length_blobs (blob_in s) s.catalog.table) in
    let r = c.revive.ensures in
    let e : blobs t ≡ left c.args.how (blobs s) =
    a.blobs
    ∙ ap (λ xs. map (left_entry c.args.how) xs ++ drop i (blobs s)) (take_all i (blobs s) all)
    ∙ ap (λ xs. left c.args.how (blobs s) ++ xs) (drop_all i (blobs s) all)
    ∙ append-nil (left c.args.how (blobs s)) in
    let f = ap (λ (x : Table). blobs_by (blob_in t) x) r.table ∙ e in
    restarts c.args.how (seen s) _ (stored_whole (content_of s) s.catalog.table (stands g.met.M.Medium.lawful s)) (ap is_some r.power) refl f (r.saved ∙ a.saved) (r.present ∙ a.saved)
