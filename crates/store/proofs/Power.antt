-- What holds when the power goes before a call has changed anything, for every writing call.
use Rattle.std.proofs.Common.{◌≡◌, ℕ, Bool, true, false, eqb, [], ◌∷◌, Some, sym, refl, ap, inl, inr, arith}
use Rattle.store.specs.declared.cause.Cause.TheVariants.{Power}
use Rattle.store.specs.Disk.{Blob, Blobs, Disk, View, Op, Open, Append, Truncate, Sync, Remove, Put, DropKey, SyncKeys, Weaker, Weakened, Counted, Refuses, find}
use Rattle.store.specs.Laws.{Whole, AllWhole}
use Rattle.store.specs.Built.{stopped}

pub weaker_same : (x : Blob) → Whole x → Weaker x x
weaker_same x h =
    record {
      kept = h.safe_within;
      fewer = omega arith;
      safe_grows = omega arith;
      safe_within = h.safe_within;
      same = refl;
      sound_within = h.sound_within;
      shorter = omega arith;
    }

pub weakened_same : (xs : Blobs) → AllWhole xs → Weakened xs xs
weakened_same [] h = tt
weakened_same (x ∷ xs) h = (refl, weaker_same x.1 h.0, weakened_same xs h.1)

-- a call that has not been made counts as itself
pub not_made : (o : Op) (d : Disk) → Counted o d d
not_made (Open b) d = inl refl
not_made (Append b bs) d = inl refl
not_made (Truncate b n) d = inl refl
not_made (Sync b) d = inl refl
not_made (Remove b) d = inl refl
not_made (Put k n) d = inl refl
not_made (DropKey k) d = inl refl
not_made SyncKeys d = inl refl

-- a view that is down is its own stopped view
pub stopped_down : (v : View) → v.up ≡ false → stopped v ≡ v
stopped_down v e = ap (λ (u : Bool). let w : View = record { disk = v.disk; up = u; room = v.room; most = v.most } in w) (sym e)

pub stops : (o : Op) (v : View) → AllWhole v.disk.blobs → Refuses o v Power (stopped v)
stops o v h =
    stops_by v.up refl
  where
    stops_by : (u : Bool) → v.up ≡ u → Refuses o v Power (stopped v)
    stops_by true e =
        inr (refl, e, record { down = refl; most = refl; middle = v.disk; counted = not_made o v.disk; weakened = weakened_same v.disk.blobs h; saved = refl })
    stops_by false e =
        inl (simp e, stopped_down v e)

-- a blob that is found is whole
pub whole_found : (xs : Blobs) (b : ℕ) (x : Blob) → AllWhole xs → find xs b ≡ Some x → Whole x
whole_found [] b x h e = absurd (let z : ◌≡◌ {A = ℕ} 0 1 = cc in omega arith)
whole_found (y ∷ xs) b x h e = whole_by (eqb y.0 b) refl (λ r. whole_found xs b x h.1 r)
  where
    whole_by : (t : Bool) → eqb y.0 b ≡ t → (find xs b ≡ Some x → Whole x) → Whole x
    whole_by true s rec = let f : y.1 ≡ x = (let g : Some y.1 ≡ Some x = simp s at e in cc) in rw (sym f) h.0
    whole_by false s rec = rec (simp s at e)
