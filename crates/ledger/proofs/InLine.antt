-- The numbers of the blobs: one after the other, unless a clear is staged.
use Rattle.std.proofs.Common.{◌≡◌, ℕ, zero, suc, ◌+◌, min, Bool, true, false, ltb, ◌⊎◌, List, [], ◌∷◌, ◌++◌, map, reverse, length, Some, None, Option, sym, refl, ap, ◌∙◌, subst, inl, inr}
use Rattle.std.proofs.lemmas.Bool.{cond_both, cond-false}
use Rattle.store.specs.declared.keys.Key.TheVariants.{Hint, Target, Watermark}
use Rattle.store.specs.declared.keys.Keys.{Keys}
use Rattle.store.specs.Disk.{Blob, Blobs, Disk, View, find, numbers, Op, Open, Append, Truncate, Sync, Remove, Put, DropKey, SyncKeys, done, done_all, Counted}
use Rattle.rules.specs.Rules.{Config, Plan, Fault, answer, refuse, ask, call, calls, refuse_if, persist, aligned, blob_of, bad_config, ItemPruned, Outcome, Follows}
use Rattle.rules.specs.Open.{Opened}
use Rattle.rules.specs.Calls.{truncating, truncated, truncate_rule, keys_first, anchor, goes, last_blob, count}
use Rattle.ledger.specs.History.{Event, Called, Refused, Stopped}
use Rattle.ledger.specs.Ledger.{Ledger}
use Rattle.ledger.specs.Runs.{Log, fresh, over, opened, trimmed, staged, running, leaving, rule_of, is_layout, end_of, Consecutive, Happened, InLine, InLineFor}
use Rattle.ledger.specs.History as hands
use Rattle.ledger.proofs.Blobs.{impossible, never}
use Rattle.ledger.proofs.Invariant.{Safe}
use Rattle.ledger.proofs.States.{State, Spans, trimmed_spans, state_safe}
use Rattle.ledger.proofs.Padded.{padded, padded_sized, as_padded}
use Rattle.ledger.proofs.Law.{Sound, sound, holds, outcome}

count_consecutive : (lo k : ℕ) → Consecutive (count lo k)
count_consecutive lo zero = tt
count_consecutive lo (suc zero) = tt
count_consecutive lo (suc (suc k)) = (refl, count_consecutive (lo + 1) (suc k))

safe_consecutive : {R : Type 0} (c : Config) (enc : R → List ℕ) (d : Disk) (l : Ledger R) → Safe c enc d l → d.saved.target ≡ None → Consecutive (numbers d.blobs)
safe_consecutive c enc d l (inl w) free = subst Consecutive (sym w.standing.rows.listed) (count_consecutive w.lo (suc w.more))
safe_consecutive c enc d l (inr (inl w)) free = subst (λ (bs : Blobs). Consecutive (numbers bs)) (sym w.none) tt
safe_consecutive c enc d l (inr (inr w)) free = never d.saved.target w.goal free w.target

-- calls that stage nothing ----------------------------------------------------------------------

-- no clear is staged, and none is about to be
abbrev Free : Disk → Type 0
Free d = (d.present.target ≡ None) × (d.saved.target ≡ None)

abbrev Tame : Op → Type 0
Tame (Put Target n) = ⊥
Tame (Put Hint n) = Unit {0}
Tame (Put Watermark n) = Unit {0}
Tame (Open b) = Unit {0}
Tame (Append b bs) = Unit {0}
Tame (Truncate b n) = Unit {0}
Tame (Sync b) = Unit {0}
Tame (Remove b) = Unit {0}
Tame (DropKey k) = Unit {0}
Tame SyncKeys = Unit {0}

abbrev AllTame : List Op → Type 0
AllTame [] = Unit {0}
AllTame (o ∷ os) = Tame o × AllTame os

free_done : (o : Op) (d : Disk) → Tame o → Free d → Free (done o d)
free_done (Open b) d t f = f
free_done (Append b bs) d t f = f
free_done (Truncate b n) d t f = f
free_done (Sync b) d t f = f
free_done (Remove b) d t f = f
free_done (Put Hint n) d t f = f
free_done (Put Target n) d t f = elim t [ ]
free_done (Put Watermark n) d t f = f
free_done (DropKey Hint) d t f = f
free_done (DropKey Target) d t f = (refl, f.1)
free_done (DropKey Watermark) d t f = f
free_done SyncKeys d t f = (f.0, f.0)

either : (d f e : Disk) → Free d → Free f → (e ≡ d) ⊎ (e ≡ f) → Free e
either d f e p q (inl i) = subst Free (sym i) p
either d f e p q (inr i) = subst Free (sym i) q

free_counted : (o : Op) (d e : Disk) → Tame o → Free d → Counted o d e → Free e
free_counted (Append b bs) d e t f (inl i) = subst Free (sym i) f
free_counted (Append b bs) d e t f (inr (k, i)) = subst Free (sym i) f
free_counted (Open b) d e t f k = either d (done (Open b) d) e f (free_done (Open b) d t f) k
free_counted (Truncate b n) d e t f k = either d (done (Truncate b n) d) e f (free_done (Truncate b n) d t f) k
free_counted (Sync b) d e t f k = either d (done (Sync b) d) e f (free_done (Sync b) d t f) k
free_counted (Remove b) d e t f k = either d (done (Remove b) d) e f (free_done (Remove b) d t f) k
free_counted (Put j n) d e t f k = either d (done (Put j n) d) e f (free_done (Put j n) d t f) k
free_counted (DropKey j) d e t f k = either d (done (DropKey j) d) e f (free_done (DropKey j) d t f) k
free_counted SyncKeys d e t f k = either d (done SyncKeys d) e f (free_done SyncKeys d t f) k

-- a plan whose calls stage nothing leaves no clear staged, however it ends
abbrev TamePlan : {A : Type 0} → Plan A → Type 0
TamePlan (answer a) = Unit {0}
TamePlan (refuse f) = Unit {0}
TamePlan (ask p) = TamePlan p
TamePlan (call o p) = Tame o × TamePlan p

follows_free : {A : Type 0} (p : Plan A) (v w : View) (r : Outcome A) → TamePlan p → Free v.disk → Follows p v r w → w.disk.saved.target ≡ None
follows_free (answer a) v w r t f h = subst (λ (u : View). u.disk.saved.target ≡ None) (sym h.1) f.1
follows_free (refuse x) v w r t f h = subst (λ (u : View). u.disk.saved.target ≡ None) (sym h.1) f.1
follows_free (ask p) v w r t f (inl h) = follows_free p v w r t f h.1
follows_free (ask p) v w r t f (inr h) = subst (λ (u : View). u.disk.saved.target ≡ None) (sym h.2) f.1
follows_free (call o p) v w r t f (inl (u, does, h)) = follows_free p u w r t.1 (subst Free (sym does.2) (free_done o v.disk t.0 f)) h
follows_free (call o p) v w r t f (inr (y, e, inl h)) = subst (λ (u : View). u.disk.saved.target ≡ None) (sym h.1) f.1
follows_free (call o p) v w r t f (inr (y, e, inr h)) = let k = h.2 in ap (λ (j : Keys). j.target) k.saved ∙ (free_counted o v.disk k.middle t.0 f k.counted).1

-- truncate --------------------------------------------------------------------------------------

tame_append : (xs ys : List Op) → AllTame xs → AllTame ys → AllTame (xs ++ ys)
tame_append [] ys p q = q
tame_append (x ∷ xs) ys p q = (p.0, tame_append xs ys p.1 q)

tame_removes : (bs : List ℕ) → AllTame (map Remove bs)
tame_removes [] = tt
tame_removes (b ∷ bs) = (tt, tame_removes bs)

tame_persist : (c : Config) (s m : ℕ) → AllTame (persist c s m)
tame_persist c s m = (cond_both (aligned c s) (DropKey Hint) (Put Hint s) Tame (λ e. tt) (λ e. tt), (tt, (tt, tt)))

tame_last : (b n : ℕ) (x : Option Blob) → AllTame (last_blob b n x)
tame_last b n None = tt
tame_last b n (Some x) = (cond_both _ (Truncate b n) (Sync b) Tame (λ e. tt) (λ e. tt), tt)

tame_truncating : (c : Config) (d : Disk) (o : Opened) (size : ℕ) → AllTame (truncating c d o size)
tame_truncating c d o size =
    let bs : List ℕ = numbers d.blobs in
    let keys : List Op = keys_first c d.present o.start (min o.mark size) in
    let above : List Op = keys ++ (anchor c bs o size ++ map Remove (reverse (goes c bs o size))) in
    tame_append above (last_blob (blob_of c size) _ (find (done_all above d).blobs (blob_of c size)))
    (tame_append keys (anchor c bs o size ++ map Remove (reverse (goes c bs o size))) (cond_both _ [] (persist c o.start (min o.mark size)) AllTame (λ e. tt) (λ e. tame_persist c o.start (min o.mark size)))
    (tame_append (anchor c bs o size) (map Remove (reverse (goes c bs o size))) (cond_both _ (Open (blob_of c size) ∷ (Sync (blob_of c size) ∷ [])) [] AllTame (λ e. (tt, (tt, tt))) (λ e. tt)) (tame_removes (reverse (goes c bs o size)))))
    (tame_last (blob_of c size) _ (find (done_all above d).blobs (blob_of c size)))

tame_calls : (g : Opened → Log) (os : List Op) (a : Opened) → AllTame os → TamePlan (leaving g (calls os (answer a)))
tame_calls g [] a t = tt
tame_calls g (o ∷ os) a t = (t.0, tame_calls g os a t.1)

tame_unless : (g : Opened → Log) (b : Bool) (f : Fault) (p : Plan Opened) → TamePlan (leaving g p) → TamePlan (leaving g (refuse_if b f p))
tame_unless g true f p t = tt
tame_unless g false f p t = t

tame_truncate : (c : Config) (d : Disk) (o : Opened) (m : ℕ) → TamePlan (leaving trimmed (truncate_rule c d o m))
tame_truncate c d o m =
    let size : ℕ = min o.end m in
    tame_unless trimmed (ltb size o.start) (ItemPruned size) (ask (calls (truncating c d o size) (answer (truncated o size)))) (tame_calls trimmed (truncating c d o size) (truncated o size) (tame_truncating c d o size))

module _ {R : Type 0} (c : Config) (writes : R → List ℕ) (decodes : List ℕ → Option R) where
  spans_free : (l : Ledger R) (o : Opened) (d : Disk) → Spans c writes l o d → Free d
  spans_free l o d (a, e, inl k) = let f = k.stand.keys.target in (ap (λ (j : Keys). j.target) k.now ∙ f, f)
  spans_free l o d (a, e, inr b) = let f = b.empty.target in (ap (λ (j : Keys). j.target) b.now ∙ f, f)

  given : (p : Plan Log) (k : Log) (l : Ledger R) (d : Disk) (m : ℕ) → State c writes k l d → rule_of c writes decodes k d (hands.Truncate m) ≡ Some p → TamePlan p × Free d
  given p fresh l d m s e = impossible cc
  given p over l d m s e = impossible cc
  given p (opened o) l d m s e = let i : leaving trimmed (truncate_rule c d o m) ≡ p = cc in (subst TamePlan i (tame_truncate c d o m), spans_free l o d s)
  given p (trimmed o) l d m s e = let i : leaving trimmed (truncate_rule c d o m) ≡ p = cc in (subst TamePlan i (tame_truncate c d o m), spans_free l o d (trimmed_spans c writes l o d s))
  given p (staged t) l d m s e = impossible cc
  given p (running r) l d m s e = impossible cc

  in_line : bad_config c ≡ false → ((r : R) → length (writes r) ≡ c.z) → InLine c writes decodes
  in_line good sized = record {
    unstaged = unstaged;
    truncated = λ es m e s l w h.
        let b = holds c writes decodes so.n so.z so.page sized es h.0 h.1 h.4 in
        let g = given h.2 h.0 b.ledger h.1.disk m b.state h.5 in
        unstaged (Called (hands.Truncate m) e s ∷ es) l w h (follows_free h.2 h.1 w h.3 g.0 g.1 h.6);
    published = λ es x s l w h.
        let b = holds c writes decodes so.n so.z so.page sized es h.0 h.1 h.4 in
        let is : Stopped None ≡ end_of h.3 = h.9 in
        elim (outcome c writes decodes so.n so.z so.page sized es h.0 h.1 w b x h.2 h.3 h.5 h.6).1 [
          | inl a ↦ let e = is ∙ ap end_of a.is in impossible cc
          | inr a ↦ elim a [
            | inl f ↦ let e = is ∙ (ap end_of f.is ∙ cond-false (is_layout f.fault) (Stopped None) (Refused f.fault) f.holds.plain) in impossible cc
            | inr o ↦ let e = is ∙ ap end_of o.is in impossible cc
          ]
        ];
  }
    where
      so : Sound c
      so = sound c good

      unstaged : (es : List (Event R)) (l : Log) (w : View) → Happened c writes decodes es l w → w.disk.saved.target ≡ None → Consecutive (numbers w.disk.blobs)
      unstaged es l w h free =
          let b = holds c writes decodes so.n so.z so.page sized es l w h in
          safe_consecutive c writes w.disk b.ledger (state_safe c writes l b.ledger w.disk b.state) free

pub in_line_stands_lem : {R : Type 0} → InLineFor R
in_line_stands_lem c writes decodes good =
    let so = in_line c (padded c writes) decodes good (padded_sized c writes) in
    let pad = as_padded c writes decodes in
    record {
      unstaged = λ es l w h. so.unstaged es l w (pad es l w h);
      truncated = λ es m e s l w h. so.truncated es m e s l w (pad (Called (hands.Truncate m) e s ∷ es) l w h);
      published = λ es x s l w h. so.published es x s l w (pad (Called x (Stopped None) s ∷ es) l w h);
    }
