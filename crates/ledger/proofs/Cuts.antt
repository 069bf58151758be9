-- What truncate and publish go from: an opened or trimmed log with blobs.
use Rattle.std.proofs.Common.{◌≡◌, ℕ, ◌+◌, ◌*◌, ◌<◌, ◌≤◌, ◌⊎◌, List, Some}
use Rattle.store.specs.Disk.{Blob, Disk, find}
use Rattle.rules.specs.Rules.{Config}
use Rattle.rules.specs.Open.{Opened}
use Rattle.ledger.specs.Ledger.{Ledger}
use Rattle.ledger.proofs.Invariant.{first, room, Standing, moved}
use Rattle.ledger.proofs.Writes.{standing_end}

pub record Cuttable {R : Type 0} (c : Config) (enc : R → List ℕ) (l : Ledger R) (o : Opened) (d : Disk) : Type 0 where
  pub lo : ℕ
  pub more : ℕ
  pub sure : ℕ
  pub kept_sure : l.kept ≤ sure
  pub stand : Standing c enc lo more d (moved l l.start l.end sure l.far)
  pub start : o.start ≡ l.start
  pub mark : o.mark ≤ sure
  pub far : o.end ≤ l.far
  pub covers : (b : ℕ) (x : Blob) (m : ℕ) → find d.blobs b ≡ Some x → m ≤ room c l.start b → first c l.start b + m ≤ o.end → m * c.z ≤ x.sound
  pub sealed : (b : ℕ) (x : Blob) → find d.blobs b ≡ Some x → b * c.n + c.n ≤ o.end → room c l.start b * c.z ≤ x.safe
  pub top : o.end ≤ (lo + more) * c.n + c.n
  -- every blob is set aside, or only what is above the end
  pub edge : ((o.edge ≡ 0) × (o.end ≤ l.start)) ⊎ ((o.end ≤ o.edge * c.n) × (l.start < o.edge * c.n))
  pub now : d.present ≡ d.saved

-- the ledger's end does not count
pub cuttable_end : {R : Type 0} (c : Config) (enc : R → List ℕ) (l : Ledger R) (o : Opened) (d : Disk) (e : ℕ) → Cuttable c enc l o d → Cuttable c enc (moved l l.start e l.kept l.far) o d
cuttable_end c enc l o d e k = record {
  lo = k.lo;
  more = k.more;
  sure = k.sure;
  kept_sure = k.kept_sure;
  stand = standing_end c enc (moved l l.start l.end k.sure l.far) d k.stand e;
  start = k.start;
  mark = k.mark;
  far = k.far;
  covers = k.covers;
  sealed = k.sealed;
  top = k.top;
  edge = k.edge;
  now = k.now;
}
