-- A lost power and a restart keep the invariant.
use Rattle.std.proofs.Common.{◌≡◌, ℕ, ◌<◌, ◌≤◌, ◌⊎◌, List, [], ◌∷◌, sym, refl, ap, ◌∙◌, subst, inl, inr, arith}
use Rattle.store.specs.Disk.{Blob, Blobs, Disk, View, find, settled, Weakened, Restarted, New}
use Rattle.store.specs.declared.keys.Keys.{Keys}
use Rattle.rules.specs.Rules.{Config}
use Rattle.ledger.specs.Ledger.{Ledger, first, Falls}
use Rattle.ledger.proofs.Blobs.{find_settled}
use Rattle.ledger.proofs.Invariant.{Still, KeysStand, Stands, Empty, Staged, Safe, Rows, moved}
use Rattle.ledger.proofs.Writes.{rows_weakened, rows_settled}
use Rattle.ledger.proofs.Reach.{reach_of, reach_far, kept_reach, rows_reach}

weakened_none : (ys : Blobs) → Weakened [] ys → ys ≡ []
weakened_none [] w = refl
weakened_none (y ∷ ys) w = elim w [ ]

module _ {R : Type 0} (c : Config) (enc : R → List ℕ) where
  pub safe_weakened : (l : Ledger R) (d e : Disk) → Safe c enc d l → Weakened d.blobs e.blobs → e.saved ≡ d.saved → Safe c enc e l
  safe_weakened l d e (inl w) k s = inl (record {
    lo = w.lo;
    more = w.more;
    sure = w.sure;
    kept_sure = w.kept_sure;
    standing = record {
      rows = rows_weakened c enc (moved l l.start l.end w.sure l.far) d.blobs e.blobs w.standing.rows k;
      keys = rw s w.standing.keys;
    };
  })
  safe_weakened l d e (inr (inl w)) k s = inr (inl (record {
    none = weakened_none e.blobs (subst (λ (bs : Blobs). Weakened bs e.blobs) w.none k);
    start_zero = w.start_zero;
    kept_zero = w.kept_zero;
    target = rw s w.target;
    marked = rw s w.marked;
    hint = rw s w.hint;
  }))
  safe_weakened l d e (inr (inr w)) k s = inr (inr (record {
    goal = w.goal;
    target = rw s w.target;
    at_start = w.at_start;
    at_end = w.at_end;
    at_kept = w.at_kept;
    at_far = w.at_far;
    most = w.most;
  }))

  keys_same : (l m : Ledger R) (j k : Keys) → k ≡ j → m.start ≡ l.start → l.kept ≤ m.kept → KeysStand c j l → KeysStand c k m
  keys_same l m j k e s h q = let a = q.mark_kept in record {
    target = rw e q.target;
    mark = q.mark;
    marked = rw e q.marked;
    mark_kept = omega arith;
    hint = rw (e, s) q.hint;
  }

  -- a safe disk whose ledger's far end is what is found
  abbrev pub Rest : Disk → Ledger R → Type 0
  Rest d l = (Stands c enc d l × (l.far ≡ reach_of c l.start l.start d.blobs) × Still d.blobs) ⊎ ((Empty c d l × (l.far ≡ 0)) ⊎ Staged d l)

  pub rest_safe : (d : Disk) (l : Ledger R) → Rest d l → Safe c enc d l
  rest_safe d l (inl (r, f, s)) = inl r
  rest_safe d l (inr (inl r)) = inr (inl r.0)
  rest_safe d l (inr (inr r)) = inr (inr r)

  -- a restarted store: the far end of the ledger comes down to what is found
  pub record Restarts (l : Ledger R) (d : Disk) : Type 0 where
    pub far : ℕ
    pub above : l.kept ≤ far
    pub below : far ≤ l.far
    pub rest : Rest d (moved l l.start l.end l.kept far)
    pub now_saved : d.present ≡ d.saved

  pub safe_restarted : 0 < c.z → (l : Ledger R) (v w : View) → Safe c enc v.disk l → Restarted v w → Restarts l w.disk
  safe_restarted zp l v w (inl s) k = record {
    far = reach_of c l.start l.start w.disk.blobs;
    above = let a = kept_reach c enc zp m w.disk.blobs rows in let b = s.kept_sure in omega arith;
    below = reach_far c enc zp m w.disk.blobs rows;
    rest = inl (
      record {
        lo = s.lo;
        more = s.more;
        sure = s.sure;
        kept_sure = s.kept_sure;
        standing = record {
          rows = rows_reach c enc zp m w.disk.blobs rows l.end;
          keys = keys_same m (moved l l.start l.end s.sure (reach_of c l.start l.start w.disk.blobs)) v.disk.saved w.disk.saved k.saved refl (omega arith) s.standing.keys;
        };
      },
      refl,
      λ b y f. let q = find_settled k.middle b y (ap (λ (bs : Blobs). find bs b) (sym k.blobs) ∙ f) in let u : y.sound ≡ q.0.sound = ap (λ (t : Blob). t.sound) q.2 in let z : y.safe ≡ q.0.sound = ap (λ (t : Blob). t.safe) q.2 in omega arith,
    );
    now_saved = k.present ∙ sym k.saved;
  }
    where
      m : Ledger R
      m = moved l l.start l.end s.sure l.far

      rows : Rows c enc s.lo s.more w.disk.blobs m
      rows = rw k.blobs (rows_settled c enc m k.middle (rows_weakened c enc m v.disk.blobs k.middle s.standing.rows k.weakened))
  safe_restarted zp l v w (inr (inl s)) k = record {
    far = 0;
    above = let a = s.kept_zero in omega arith;
    below = omega arith;
    rest = inr (inl (
      record {
        none = k.blobs ∙ ap (λ (bs : Blobs). settled bs) (weakened_none k.middle (subst (λ (bs : Blobs). Weakened bs k.middle) s.none k.weakened));
        start_zero = s.start_zero;
        kept_zero = s.kept_zero;
        target = rw k.saved s.target;
        marked = rw k.saved s.marked;
        hint = rw k.saved s.hint;
      },
      refl,
    ));
    now_saved = k.present ∙ sym k.saved;
  }
  safe_restarted zp l v w (inr (inr s)) k = record {
    far = l.far;
    above = let a = s.at_kept in let b = s.at_far in omega arith;
    below = omega arith;
    rest = inr (inr (record {
      goal = s.goal;
      target = rw k.saved s.target;
      at_start = s.at_start;
      at_end = s.at_end;
      at_kept = s.at_kept;
      at_far = s.at_far;
      most = s.most;
    }));
    now_saved = k.present ∙ sym k.saved;
  }

  -- the ledger's own rule for a restart
  pub restart_falls : (l : Ledger R) (d : Disk) (r : Restarts l d) → Falls l (moved l l.start l.end l.kept r.far)
  restart_falls l d r = (r.far, r.above, r.below, refl)

  -- a new store
  pub new_rests : (v : View) → New v → Rest v.disk first × (v.disk.present ≡ v.disk.saved)
  new_rests v n =
      let e = n.disk in (
        inr (inl (
          record {
            none = ap (λ (d : Disk). d.blobs) e;
            start_zero = refl;
            kept_zero = refl;
            target = ap (λ (d : Disk). d.saved.target) e;
            marked = inl (ap (λ (d : Disk). d.saved.watermark) e);
            hint = inl (ap (λ (d : Disk). d.saved.hint) e);
          },
          refl,
        )),
        ap (λ (d : Disk). d.present) e ∙ sym (ap (λ (d : Disk). d.saved) e),
      )
