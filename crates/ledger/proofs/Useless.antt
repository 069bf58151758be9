-- Useless histories are rejected, and a useful one is taken.
use Rattle.std.proofs.Common.{◌≡◌, ℕ, zero, suc, ◌^◌, ◌≤◌, Bool, true, false, cond, eqb, ltb, leb, List, [], ◌∷◌, length, is_some, Some, None, Option, unwrap_or, sym, refl, ap, ◌∙◌, subst, inl, inr, true≢false, arith}
use Rattle.store.specs.declared.cause.Cause.{Cause}
use Rattle.store.specs.declared.cause.Cause.TheVariants.{Power, Missing, Range, Torn, NoRoom}
use Rattle.store.specs.declared.keys.Key.TheVariants.{Hint, Watermark}
use Rattle.store.specs.Disk.{Disk, View, Blob, Op, DropKey, Put, SyncKeys, Made, Restarted, done, done_all, find, Refuses, refuses_up, at_blob, cause_if, Blobs, numbers, no_keys}
use Rattle.store.specs.Laws.{Rising, Below, Whole, AllWhole, KeysFit, Lawful}
use Rattle.store.proofs.Keyed.{none_fit, keyed_fit}
use Rattle.rules.specs.Rules.{Fault, answered, stopped, Wrote}
use Rattle.rules.specs.Open.{Opened, no_edge}
use Rattle.ledger.specs.History.{Called, Read, Open, Append, Commit, Publish, Done, Refused, Stopped, One, Gave}
use Rattle.ledger.specs.Ledger.{Ledger, entry, refusal, first, bounds}
use Rattle.ledger.specs.Promises.{Agrees}
use Rattle.ledger.specs.Useless.{four, begun, given, Useless, Taken, on, v0, v1, v2, v3, v4, l2, writes, decodes, lived}
use Rattle.ledger.specs.Runs.{fresh, over, opened, running, Happened}
use Rattle.ledger.proofs.Blobs.{never}

-- the ledger of what was begun is the first one
begun_first : (w : View) (m : Ledger ℕ) → Agrees four begun w m → m ≡ first
begun_first w m h = h.4.1 ∙ ap (λ x. entry four x (Publish 0)) (h.2.4.1 ∙ ap (λ x. entry four x (Open None)) h.2.2.1)

append_refused : (w : View) (m : Ledger ℕ) (f : Fault) (s : Option (ℕ × ℕ)) → Agrees four (Called (Append (7 ∷ []) 2) (Refused f) s ∷ begun) w m → ⊥
append_refused w m f s h = never (refusal four h.1 (Append (7 ∷ []) 2)) f (ap (λ x. refusal four x (Append (7 ∷ []) 2)) (begun_first h.0 h.1 h.2)) h.4.0

abbrev head_or : List (Option ℕ) → Option ℕ
head_or [] = None
head_or (x ∷ xs) = x

nothing_read : (w : View) (m : Ledger ℕ) → Agrees four (Read (One 0) (Gave (8 ∷ [])) ∷ given) w m → ⊥
nothing_read w m h =
    let is : m ≡ entry four first (Append (7 ∷ []) 2) = h.0.4.1 ∙ ap (λ x. entry four x (Append (7 ∷ []) 2)) (begun_first h.0.0 h.0.1 h.0.2) in
    let read : Some 8 ∷ [] ≡ Some 7 ∷ [] = h.2.1 ∙ ap (λ x. x.handed 0 ∷ []) is in
    true≢false (ap (λ x. eqb (unwrap_or (head_or x) 0) 8) read)

-- a call that is stopped for want of power leaves the store down --------------------------------

abbrev is_power : Option Cause → Bool
is_power None = false
is_power (Some Power) = true
is_power (Some Missing) = false
is_power (Some Range) = false
is_power (Some Torn) = false
is_power (Some NoRoom) = false

no_room : (b : Bool) → is_power (cause_if b NoRoom) ≡ false
no_room true = refl
no_room false = refl

no_range : (b : Bool) → is_power (cause_if b Range) ≡ false
no_range true = refl
no_range false = refl

either_way : (a b : Bool) → is_power (cond a None (cause_if b NoRoom)) ≡ false
either_way true b = refl
either_way false b = no_room b

at_blob_lem : (x : Option Blob) (f : Blob → Option Cause) → ((y : Blob) → is_power (f y) ≡ false) → is_power (at_blob x f) ≡ false
at_blob_lem None f h = refl
at_blob_lem (Some y) f h = h y

no_power : (o : Op) (v : View) → is_power (refuses_up o v) ≡ false
no_power (Op.Open b) v = either_way (is_some (find v.disk.blobs b)) (leb v.most (length v.disk.blobs))
no_power (Op.Append b bs) v = at_blob_lem (find v.disk.blobs b) (λ x. cause_if (ltb (v.room b) (length bs)) NoRoom) (λ y. no_room (ltb (v.room b) (length bs)))
no_power (Op.Truncate b n) v = at_blob_lem (find v.disk.blobs b) (λ x. cause_if (ltb (length x.bytes) n) Range) (λ y. no_range (ltb (length y.bytes) n))
no_power (Op.Sync b) v = at_blob_lem (find v.disk.blobs b) (λ x. None) (λ y. refl)
no_power (Op.Remove b) v = at_blob_lem (find v.disk.blobs b) (λ x. None) (λ y. refl)
no_power (Op.Put k n) v = refl
no_power (Op.DropKey k) v = refl
no_power Op.SyncKeys v = refl

down_already : (u : Bool) (x : Option Cause) → is_power x ≡ false → is_power (cond u x (Some Power)) ≡ true → u ≡ false
down_already true x not_so so = absurd (true≢false (sym so ∙ not_so))
down_already false x not_so so = refl

refused_down : (o : Op) (v w : View) → Refuses o v Power w → w.up ≡ false
refused_down o v w (inl h) = ap (λ x. x.up) h.1 ∙ down_already v.up (refuses_up o v) (no_power o v) (ap is_power h.0)
refused_down o v w (inr h) = h.2.down

abbrev cause_or : Option (Op × Cause) → Cause → Cause
cause_or None y = y
cause_or (Some x) y = x.1

stopped_down : (ops : List Op) (o : Op) (v w : View) → Made ops v (Some (o, Power)) w → w.up ≡ false
stopped_down [] o v w h = never (Some (o, Power)) (o, Power) h.0 refl
stopped_down (x ∷ xs) o v w (inl h) = stopped_down xs o h.0 w h.2
stopped_down (x ∷ xs) o v w (inr h) =
    let is : Power ≡ h.0 = ap (λ y. cause_or y Power) h.1 in
    refused_down x v w (subst (λ y. Refuses x v y w) (sym is) h.2)

pub useless_stands_lem : Useless
useless_stands_lem = record {
  open_refused = λ c es w m f s h. never (refusal c h.1 (Open None)) f refl h.4.0;
  commit_refused = λ c es w m f s h. never (refusal c h.1 Commit) f refl h.4.0;
  append_refused = append_refused;
  nothing_read = nothing_read;
  read_failed = λ c es w m p y up h. true≢false (sym up ∙ h.2.0);
  open_stopped = λ c es w m y s h. (h.0, h.4.2.1.0, h.4.2.1.1, h.4.2.1.2);
  power_stopped = λ c es w m s h up. true≢false (sym up ∙ stopped_down h.4.2.1.0 h.4.2.1.1 h.0 w h.4.2.1.2);
}

-- the history that is taken ---------------------------------------------------------------------

opened_first : Agrees {R = ℕ} four (Called (Open None) Done (Some (0, 0)) ∷ []) v0 first
opened_first = (v0, first, (record { up = refl; disk = refl }, refl), refl, (refl, refl, ([], (refl, refl))), refl, omega arith)

published : Agrees {R = ℕ} four begun v1 first
published = (
  v0,
  first,
  opened_first,
  refl,
  (
    refl,
    refl,
    (
      DropKey Hint ∷ (Put Watermark 0 ∷ (SyncKeys ∷ (Op.Open 0 ∷ []))),
      inl (
        on (done (DropKey Hint) v0.disk) 8 true,
        (refl, refl, refl, refl, tt),
        inl (
          on (done_all (DropKey Hint ∷ (Put Watermark 0 ∷ [])) v0.disk) 8 true,
          (refl, refl, refl, refl, tt),
          inl (
            on (done_all (DropKey Hint ∷ (Put Watermark 0 ∷ (SyncKeys ∷ []))) v0.disk) 8 true,
            (refl, refl, refl, refl, tt),
            inl (v1, (refl, refl, refl, refl, tt), (refl, refl)),
          ),
        ),
      ),
    ),
  ),
  refl,
  omega arith,
)

grown : Agrees {R = ℕ} four given v2 l2
grown = (v1, first, published, refl, (refl, refl, (Op.Append 0 (writes 7) ∷ [], inl (v2, (refl, refl, refl, refl, refl), (refl, refl)))), refl, omega arith)

cut_off : Agrees {R = ℕ} four (Called Commit (Stopped (Some Power)) None ∷ (Read (One 0) (Gave (7 ∷ [])) ∷ given)) v3 l2
cut_off = (
  v2,
  l2,
  (grown, refl, (refl, refl)),
  refl,
  (
    inl refl,
    refl,
    (
      inl refl,
      (
        Op.Sync 0 ∷ [],
        Op.Sync 0,
        inr (
          Power,
          refl,
          inr (
            refl,
            refl,
            record {
              down = refl;
              most = refl;
              middle = v2.disk;
              counted = inl refl;
              weakened = (refl, record { kept = omega arith; fewer = omega arith; safe_grows = omega arith; safe_within = omega arith; same = refl; sound_within = omega arith; shorter = omega arith }, tt);
              saved = refl;
            },
          ),
        ),
      ),
    ),
  ),
  refl,
  omega arith,
)

restarted : Restarted v3 v4
restarted = record {
  up = refl;
  most = refl;
  middle = (0, record { bytes = []; sound = 0; safe = 0 }) ∷ [];
  weakened = (refl, record { kept = omega arith; fewer = omega arith; safe_grows = omega arith; safe_within = omega arith; same = refl; sound_within = omega arith; shorter = omega arith }, tt);
  blobs = refl;
  saved = refl;
  present = refl;
}

lived_agrees : Agrees {R = ℕ} four lived v4 (bounds l2 0 0 0 0)
lived_agrees = (
  v4,
  bounds l2 0 1 0 0,
  (v3, l2, cut_off, restarted, (0, omega arith, omega arith, refl)),
  refl,
  (refl, refl, ([], (refl, refl))),
  refl,
  omega arith,
)

-- by the rules ------------------------------------------------------------------------------------

no_blobs : (d : Disk) (r : ℕ) (u : Bool) → d.blobs ≡ [] → KeysFit d.present → KeysFit d.saved → Lawful (on d r u)
no_blobs d r u e p q = record {
  rising = subst (λ (bs : Blobs). Rising (numbers bs)) (sym e) (λ j k a b. absurd (omega arith));
  fits = subst (λ (bs : Blobs). Below (2 ^ 64) (numbers bs)) (sym e) (λ k a. absurd (omega arith));
  whole = subst AllWhole (sym e) tt;
  present = p;
  saved = q;
}

one_blob : (x : Blob) (d : Disk) (r : ℕ) (u : Bool) → d.blobs ≡ (0, x) ∷ [] → Whole x → KeysFit d.present → KeysFit d.saved → Lawful (on d r u)
one_blob x d r u e w p q = record {
  rising = subst (λ (bs : Blobs). Rising (numbers bs)) (sym e) (λ j k a b. absurd (omega arith));
  fits = subst (λ (bs : Blobs). Below (2 ^ 64) (numbers bs)) (sym e) below;
  whole = subst AllWhole (sym e) (w, tt);
  present = p;
  saved = q;
}
  where
    below : Below (2 ^ 64) (0 ∷ [])
    below zero a = omega arith
    below (suc k) a = absurd (omega arith)

fit : KeysFit no_keys
fit = none_fit

fit_zero : KeysFit v1.disk.saved
fit_zero = keyed_fit Watermark (Some 0) no_keys (omega arith) none_fit

lawful_one : (bs : List ℕ) (sound safe r : ℕ) (u : Bool) → safe ≤ sound → sound ≤ length bs → length bs ≤ 2
    → Lawful (on (record { blobs = (0, record { bytes = bs; sound = sound; safe = safe }) ∷ []; present = v1.disk.saved; saved = v1.disk.saved }) r u)
lawful_one bs sound safe r u a b e =
    one_blob (record { bytes = bs; sound = sound; safe = safe }) _ r u refl (record { safe_within = a; sound_within = b; fits = omega arith }) fit_zero fit_zero

abbrev bare : Opened
bare = record { start = 0; end = 0; mark = 0; bounded = false; edge = no_edge }

begun_happened : Happened four writes decodes begun (running (record { start = 0; end = 0; owed = None })) v1
begun_happened = (
  opened bare,
  v0,
  _,
  answered (running (record { start = 0; end = 0; owed = None })),
  (
    fresh,
    v0,
    _,
    answered (opened bare),
    (refl, record { up = refl; disk = refl }, no_blobs v0.disk 8 true refl fit fit),
    refl,
    inl (refl, (refl, refl)),
    no_blobs v0.disk 8 true refl fit fit,
    tt,
    refl,
    refl,
    refl,
  ),
  refl,
  inl (
    refl,
    inl (
      on (done (DropKey Hint) v0.disk) 8 true,
      (refl, refl, refl, refl, tt),
      inl (
        on (done_all (DropKey Hint ∷ (Put Watermark 0 ∷ [])) v0.disk) 8 true,
        (refl, refl, refl, refl, tt),
        inl (
          on (done_all (DropKey Hint ∷ (Put Watermark 0 ∷ (SyncKeys ∷ []))) v0.disk) 8 true,
          (refl, refl, refl, refl, tt),
          inl (v1, (refl, refl, refl, refl, tt), (refl, refl)),
        ),
      ),
    ),
  ),
  lawful_one [] 0 0 8 true (omega arith) (omega arith) (omega arith),
  tt,
  refl,
  refl,
  refl,
)

given_happened : Happened four writes decodes given (running (record { start = 0; end = 1; owed = None })) v2
given_happened = (
  running (record { start = 0; end = 0; owed = None }),
  v1,
  _,
  answered (running (record { start = 0; end = 1; owed = None })),
  begun_happened,
  refl,
  inl (v2, (refl, refl, refl, refl, refl), (refl, refl)),
  lawful_one (writes 7) 2 0 6 true (omega arith) (omega arith) (omega arith),
  (refl, refl, tt),
  refl,
  refl,
  refl,
)

lived_happened : Happened four writes decodes lived (opened bare) v4
lived_happened = (
  fresh,
  v4,
  _,
  answered (opened bare),
  (
    over,
    v3,
    (
      running (record { start = 0; end = 1; owed = None }),
      v2,
      _,
      stopped (Wrote (Op.Sync 0)) Power,
      ((0, 1), given_happened, refl, refl),
      refl,
      inr (
        Power,
        refl,
        inr (
          refl,
          refl,
          record {
            down = refl;
            most = refl;
            middle = v2.disk;
            counted = inl refl;
            weakened = (refl, record { kept = omega arith; fewer = omega arith; safe_grows = omega arith; safe_within = omega arith; same = refl; sound_within = omega arith; shorter = omega arith }, tt);
            saved = refl;
          },
        ),
      ),
      lawful_one (writes 7) 2 0 6 false (omega arith) (omega arith) (omega arith),
      tt,
      refl,
      refl,
      refl,
    ),
    restarted,
    lawful_one [] 0 0 8 true (omega arith) (omega arith) (omega arith),
    refl,
  ),
  refl,
  inl (refl, (refl, refl)),
  lawful_one [] 0 0 8 true (omega arith) (omega arith) (omega arith),
  tt,
  refl,
  refl,
  refl,
)

pub taken_stands_lem : Taken
taken_stands_lem = record { happened = lived_happened; agrees = lived_agrees }
