-- The keys fit 64 bits, whatever is put or dropped.
use Rattle.std.proofs.Common.{ℕ, ◌^◌, ◌<◌, Option, unwrap_or, lit<}
use Rattle.store.specs.declared.keys.Key.{Key}
use Rattle.store.specs.declared.keys.Key.TheVariants.{Hint, Target, Watermark}
use Rattle.store.specs.declared.keys.Keys.{Keys}
use Rattle.store.specs.Disk.{keyed, no_keys}
use Rattle.store.specs.Laws.{KeysFit}

pub none_fit : KeysFit no_keys
none_fit Hint = lit< tt
none_fit Target = lit< tt
none_fit Watermark = lit< tt

pub keyed_fit : (k : Key) (v : Option ℕ) (ks : Keys) → unwrap_or v 0 < 2 ^ 64 → KeysFit ks → KeysFit (keyed k v ks)
keyed_fit Hint v ks l h Hint = l
keyed_fit Hint v ks l h Target = h Target
keyed_fit Hint v ks l h Watermark = h Watermark
keyed_fit Target v ks l h Hint = h Hint
keyed_fit Target v ks l h Target = l
keyed_fit Target v ks l h Watermark = h Watermark
keyed_fit Watermark v ks l h Hint = h Hint
keyed_fit Watermark v ks l h Target = h Target
keyed_fit Watermark v ks l h Watermark = l
