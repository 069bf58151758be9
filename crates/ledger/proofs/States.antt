-- What ties the log in hand and the disk to the ledger, between calls.
use Rattle.std.proofs.Common.{◌≡◌, ℕ, ◌<◌, ◌≤◌, true, cond, ◌⊎◌, List, length, Some, Option, sym, refl, ◌∙◌, inl, inr, arith}
use Rattle.store.specs.Disk.{Disk, View}
use Rattle.rules.specs.Rules.{Config}
use Rattle.rules.specs.Open.{Opened}
use Rattle.ledger.specs.History.{Hand, Ask}
use Rattle.ledger.specs.Ledger.{Ledger}
use Rattle.ledger.specs.Promises.{Reads, shown}
use Rattle.ledger.specs.Runs.{Log, fresh, over, opened, trimmed, staged, running, on_log, span_of, read_by}
use Rattle.ledger.specs.History as hands
use Rattle.ledger.proofs.Blobs.{impossible}
use Rattle.ledger.proofs.Invariant.{stands, Staged, Safe}
use Rattle.ledger.proofs.Weakening.{Rest, rest_safe}
use Rattle.ledger.proofs.Cuts.{Cuttable}
use Rattle.ledger.proofs.Recovers.{TrimAs, RunAs, trim_cuttable}
use Rattle.ledger.proofs.Empties.{Bare, BlankAs, blank_bare}
use Rattle.ledger.proofs.Readings.{Good, Backs, reads_agree}
use Rattle.ledger.proofs.Running.{cut_good}
use Rattle.ledger.proofs.Growing.{run_good}

abbrev pub hand_of : Log → Hand
hand_of fresh = hands.fresh
hand_of over = hands.over
hand_of (opened o) = hands.opened
hand_of (trimmed o) = hands.trimmed
hand_of (staged t) = hands.staged
hand_of (running r) = hands.running

-- a store with a log in hand, or none yet, is up
abbrev pub Up : Log → View → Type 0
Up fresh v = v.up ≡ true
Up over v = Unit {0}
Up (opened o) v = v.up ≡ true
Up (trimmed o) v = v.up ≡ true
Up (staged t) v = v.up ≡ true
Up (running r) v = v.up ≡ true

pub up_for : (k : Log) (v : View) → v.up ≡ true → Up k v
up_for fresh v e = e
up_for over v e = tt
up_for (opened o) v e = e
up_for (trimmed o) v e = e
up_for (staged t) v e = e
up_for (running r) v e = e

-- a refused call hands the log back, but for an open
abbrev pub handed_back : Log → Log
handed_back k = on_log k over over opened trimmed staged running

pub back_hand : (k : Log) → hand_of (handed_back k) ≡ cond (hand_of k).opens hands.over (hand_of k)
back_hand fresh = refl
back_hand over = refl
back_hand (opened o) = refl
back_hand (trimmed o) = refl
back_hand (staged t) = refl
back_hand (running r) = refl

module _ {R : Type 0} (c : Config) (enc : R → List ℕ) where
  -- an opened or a trimmed log
  abbrev pub Spans : Ledger R → Opened → Disk → Type 0
  Spans l o d = (o.start ≡ l.start) × (o.end ≡ l.end) × (Cuttable c enc l o d ⊎ Bare c l o d)

  abbrev pub State : Log → Ledger R → Disk → Type 0
  State fresh l d = Rest c enc d l × (d.present ≡ d.saved)
  State over l d = Safe c enc d l
  State (opened o) l d = Spans l o d
  State (trimmed o) l d = TrimAs c enc l o d ⊎ BlankAs c l o d
  State (staged t) l d = (w : Staged d l) × (w.goal ≡ t)
  State (running r) l d = RunAs c enc l r d

  pub trimmed_spans : (l : Ledger R) (o : Opened) (d : Disk) → TrimAs c enc l o d ⊎ BlankAs c l o d → Spans l o d
  trimmed_spans l o d (inl t) = (t.start, t.end, inl (trim_cuttable c enc l o d t))
  trimmed_spans l o d (inr b) = (b.start ∙ sym b.blank.empty.start_zero, b.end ∙ sym b.ends, inr (blank_bare c l o d b))

  spans_safe : (l : Ledger R) (o : Opened) (d : Disk) → Spans l o d → Safe c enc d l
  spans_safe l o d (a, e, inl k) = inl (record { lo = k.lo; more = k.more; sure = k.sure; kept_sure = k.kept_sure; standing = k.stand })
  spans_safe l o d (a, e, inr b) = inr (inl b.empty)

  -- whatever log is in hand, the disk is safe
  pub state_safe : (k : Log) (l : Ledger R) (d : Disk) → State k l d → Safe c enc d l
  state_safe fresh l d s = rest_safe c enc d l s.0
  state_safe over l d s = s
  state_safe (opened o) l d s = spans_safe l o d s
  state_safe (trimmed o) l d s = spans_safe l o d (trimmed_spans l o d s)
  state_safe (staged t) l d s = inr (inr s.0)
  state_safe (running r) l d s = inl (stands c enc d l s.tied.stand)

  pub safe_kept_far : (l : Ledger R) (d : Disk) → Safe c enc d l → l.kept ≤ l.far
  safe_kept_far l d (inl w) = let a = w.kept_sure in let b = w.standing.rows.kept_far in omega arith
  safe_kept_far l d (inr (inl w)) = let a = w.kept_zero in omega arith
  safe_kept_far l d (inr (inr w)) = let a = w.at_kept in let b = w.at_far in omega arith

  span_is : (a b s e : ℕ) → a ≡ s → b ≡ e → ◌≡◌ {A = Option (ℕ × ℕ)} (Some (a, b)) (Some (s, e))
  span_is a b s e p q = λ i. Some (p i, q i)

  -- a log's span is the ledger's
  pub state_span : (k : Log) (l : Ledger R) (d : Disk) → State k l d → span_of k ≡ shown (hand_of k) l
  state_span fresh l d s = refl
  state_span over l d s = refl
  state_span (opened o) l d s = span_is o.start o.end l.start l.end s.0 s.1
  state_span (trimmed o) l d s = let t = trimmed_spans l o d s in span_is o.start o.end l.start l.end t.0 t.1
  state_span (staged t) l d s = refl
  state_span (running r) l d s = span_is r.start r.end l.start l.end s.start s.end

  -- reads -----------------------------------------------------------------------------------------

  module _ (decodes : List ℕ → Option R) (ez : (r : R) → length (enc r) ≡ c.z) (l : Ledger R) (v : View) (back : Backs enc decodes l.handed) where
    spans_good : (o : Opened) → v.up ≡ true → Spans l o v.disk → (p : ℕ) → l.start ≤ p → p < l.end → Good c enc l.start v l.handed p
    spans_good o up (a, e, inl k) p h g = cut_good c enc l o v up k p h (omega arith)
    spans_good o up (a, e, inr b) p h g = absurd (let z = b.end in omega arith)

    agrees : (s : ℕ × ℕ) (a b : ℕ) (q : Ask) → Some (a, b) ≡ Some s → a ≡ l.start → b ≡ l.end → ((p : ℕ) → l.start ≤ p → p < l.end → Good c enc l.start v l.handed p)
        → Reads c l v q (read_by c enc decodes s v q)
    agrees s a b q e x y each =
        let i : (a, b) ≡ s = cc in
        let j : (l.start, l.end) ≡ s = (λ k. (sym x k, sym y k)) ∙ i in
        rw (← j) (reads_agree c enc decodes ez l v back each q)

    -- every read of a log gives the records handed in
    pub state_reads : (k : Log) (s : ℕ × ℕ) (q : Ask) → Up k v → State k l v.disk → span_of k ≡ Some s → (hands.is_log (hand_of k) ≡ true) × Reads c l v q (read_by c enc decodes s v q)
    state_reads fresh s q up w e = impossible cc
    state_reads over s q up w e = impossible cc
    state_reads (opened o) s q up w e = (refl, agrees s o.start o.end q e w.0 w.1 (spans_good o up w))
    state_reads (trimmed o) s q up w e = let t = trimmed_spans l o v.disk w in (refl, agrees s o.start o.end q e t.0 t.1 (spans_good o up t))
    state_reads (staged t) s q up w e = impossible cc
    state_reads (running r) s q up w e = (refl, agrees s r.start r.end q e w.start w.end (run_good c enc l r v up w))
