-- Each call on the log in hand: done as the ledger enters it, refused as it must be, or stopped with a ledger that fits.
use Rattle.std.proofs.Common.{◌≡◌, ℕ, ◌+◌, ◌*◌, ◌/◌, ◌<◌, ◌≤◌, min, Bool, true, false, eqb, ltb, leb, ◌⊎◌, List, [], ◌∷◌, map, length, Some, None, Option, sym, refl, ap, ◌∙◌, subst, inl, inr, arith}
use lib.ListN.{length-map}
use Rattle.std.proofs.lemmas.Nat.{div-add-mod'}
use Rattle.std.proofs.lemmas.Bool.{cond-true, cond-false, eqb-false, leb-true, leb-false, ltb-false, le-ltb, lt-ltb}
use Rattle.store.specs.Disk.{Disk}
use Rattle.rules.specs.Rules.{Config, MAX, Plan, Fault, answer, refuse_if, ItemPruned, SizeOverflow, EmptyAppend, NoSpace}
use Rattle.rules.specs.Open.{Opened, open_rule}
use Rattle.rules.specs.Calls.{Running, truncate_rule, publish_rule, trimmed_append_rule, trimmed_sync_rule, trimmed_prune_rule, stage_rule, complete_rule, append_rule, commit_rule, sync_rule, prune_rule}
use Rattle.rules.specs.Reads.{when}
use Rattle.ledger.specs.History.{Call, Open, Append, Truncate, Publish, Prune, Clear, Commit, Sync, Complete, Leave, offers, gives}
use Rattle.ledger.specs.Ledger.{Ledger, refusal, entry, Left, cut, cutting, appended, kept_to_end, prune_to}
use Rattle.ledger.specs.Runs.{Log, fresh, over, opened, trimmed, staged, running, leaving, is_layout, packed, rule_of}
use Rattle.ledger.proofs.Blobs.{impossible}
use Rattle.ledger.proofs.Invariant.{Staged, Safe, moved}
use Rattle.ledger.proofs.Weakening.{safe_weakened}
use Rattle.ledger.proofs.Chain.{Closed}
use Rattle.ledger.proofs.Plans.{LeadsOr, Leads, unrefused, leads_as, leads_leaving, leads_if}
use Rattle.ledger.proofs.Commits.{SafeFor}
use Rattle.ledger.proofs.Prunes.{PruneStops}
use Rattle.ledger.proofs.Cuts.{Cuttable}
use Rattle.ledger.proofs.Recovers.{TrimAs, RunAs, truncate_leads, publish_leads}
use Rattle.ledger.proofs.Trimming.{trimmed_append_leads, trimmed_sync_leads, trimmed_prune_leads, stage_leads, complete_leads}
use Rattle.ledger.proofs.Empties.{Bare, BlankAs, bare_truncate_leads, bare_publish_leads, blank_append_leads, blank_sync_leads, blank_prune}
use Rattle.ledger.proofs.Running.{commit_leads, sync_leads, prune_leads}
use Rattle.ledger.proofs.Growing.{append_leads}
use Rattle.ledger.proofs.Opens.{Small}
use Rattle.ledger.proofs.Rests.{Shows, Denies, opens_rest}
use Rattle.ledger.proofs.States.{hand_of, handed_back, Spans, State, trimmed_spans, state_safe}

module _ {R : Type 0} (c : Config) (enc : R → List ℕ) (decodes : List ℕ → Option R) where
  -- where a call may stop
  pub record Stops (l : Ledger R) (x : Call R) (e : Disk) : Type 0 where
    pub ledger : Ledger R
    pub left : Left c l x ledger
    pub safe : Safe c enc e ledger
    pub clear : (refusal c l x ≡ None) ⊎ ((o : Option ℕ) × (x ≡ Open o))

  -- where it is done
  pub record Dones (k : Log) (l : Ledger R) (x : Call R) (m : Log) (e : Disk) : Type 0 where
    pub clear : refusal c l x ≡ None
    pub state : State c enc m (entry c l x) e
    pub hand : hand_of m ≡ gives (hand_of k) x

  -- and where it is refused
  pub record Faults (k : Log) (l : Ledger R) (x : Call R) (f : Fault) (e : Disk) : Type 0 where
    pub must : refusal c l x ≡ Some f
    pub state : State c enc (handed_back k) l e
    pub plain : is_layout f ≡ false

  pub stops_closed : (l : Ledger R) (x : Call R) → Closed (Stops l x)
  stops_closed l x d e s w q = record { ledger = s.ledger; left = s.left; safe = safe_weakened c enc s.ledger d e s.safe w q; clear = s.clear }

  abbrev pub Event : Log → Ledger R → Call R → Plan Log → Disk → Type 0
  Event k l x p d = LeadsOr (Stops l x) (Dones k l x) (Faults k l x) p d

  -- a plan that is never refused
  event : {A : Type 0} (k : Log) (l : Ledger R) (x : Call R) (g : A → Log) (S : Disk → Type 0) (Q : A → Disk → Type 0) (p : Plan A) (d : Disk)
      → ((e : Disk) → S e → Stops l x e) → ((a : A) (e : Disk) → Q a e → Dones k l x (g a) e) → Leads S Q p d → Event k l x (leaving g p) d
  event k l x g S Q p d s q h =
      leads_leaving (Stops l x) (λ a e. Dones k l x (g a) e) (Faults k l x) (Dones k l x) g (λ a e r. r) p d
      (leads_as S (Stops l x) Q (λ a e. Dones k l x (g a) e) unrefused (Faults k l x) p d s q (λ f e r. absurd r) h)

  -- a test in front of a plan
  test : {A : Type 0} (k : Log) (l : Ledger R) (x : Call R) (g : A → Log) (b : Bool) (f : Fault) (p : Plan A) (d : Disk) → (b ≡ true → Faults k l x f d) → (b ≡ false → Event k l x (leaving g (refuse_if b f p)) d)
      → Event k l x (leaving g (refuse_if b f p)) d
  test k l x g true f p d y n = y refl
  test k l x g false f p d y n = n refl

  test_two : {A : Type 0} (k : Log) (l : Ledger R) (x : Call R) (g : A → Log) (a : Bool) (e : Fault) (b : Bool) (f : Fault) (p : Plan A) (d : Disk)
      → (a ≡ true → Faults k l x e d) → (a ≡ false → b ≡ true → Faults k l x f d) → (a ≡ false → b ≡ false → Event k l x (leaving g (refuse_if a e (refuse_if b f p))) d)
      → Event k l x (leaving g (refuse_if a e (refuse_if b f p))) d
  test_two k l x g true e b f p d y z n = y refl
  test_two k l x g false e true f p d y z n = z refl refl
  test_two k l x g false e false f p d y z n = n refl refl

  module _ (np : 0 < c.n) (zp : 0 < c.z) (pp : 0 < c.page) (ez : (r : R) → length (enc r) ≡ c.z) (l : Ledger R) (d : Disk) where
    open_event : (o : Option ℕ) → Small d.blobs → State c enc fresh l d → Event fresh l (Open o) (leaving opened (open_rule c o d)) d
    open_event o small s =
        leads_leaving (Stops l (Open o)) (λ a e. Dones fresh l (Open o) (opened a) e) (Faults fresh l (Open o)) (Dones fresh l (Open o)) opened (λ a e r. r) (open_rule c o d) d
        (leads_as (λ e. Safe c enc e l) (Stops l (Open o)) (Shows c enc np zp pp o l) (λ a e. Dones fresh l (Open o) (opened a) e) (Denies c enc np zp pp o l) (Faults fresh l (Open o)) (open_rule c o d) d
        (λ e w. record { ledger = l; left = refl; safe = w; clear = inr (o, refl) })
        (λ a e w. record { clear = w.clear; state = (w.start, w.end, w.ready); hand = refl })
        (λ f e w. record { must = w.must; state = w.safe; plain = ap is_layout w.is })
        (opens_rest c enc np zp pp o l d s.1 small s.0))

    module _ (k : Log) (o : Opened) (sp : Spans c enc l o d) (same : State c enc (handed_back k) l d) where
      start_is : o.start ≡ l.start
      start_is = sp.0

      end_is : o.end ≡ l.end
      end_is = sp.1

      low : (n : ℕ) → ltb (min o.end n) o.start ≡ ltb (min l.end n) l.start
      low n = (λ i. ltb (min (end_is i) n) (start_is i))

      too_low_lem : (n : ℕ) (x : Call R) → refusal c l x ≡ when (ltb (min l.end n) l.start) (ItemPruned (min l.end n)) None → ltb (min o.end n) o.start ≡ true → Faults k l x (ItemPruned (min o.end n)) d
      too_low_lem n x is e = record {
        must = is ∙ (cond-true (ltb (min l.end n) l.start) (Some (ItemPruned (min l.end n))) None (sym (low n) ∙ e) ∙ ap (λ (j : ℕ). Some (ItemPruned (min j n))) (sym end_is));
        state = same;
        plain = refl;
      }

      high : (n : ℕ) → ltb (min o.end n) o.start ≡ false → refusal c l (Truncate n) ≡ None
      high n e = cond-false (ltb (min l.end n) l.start) (Some (ItemPruned (min l.end n))) None (sym (low n) ∙ e)

      -- a truncate or publish that stops
      cut_stops : (n : ℕ) (x : Call R) → refusal c l x ≡ None → ((m : Ledger R) → m ≡ cutting l (min l.end n) → Left c l x m) → (e : Disk) → SafeFor c enc (cutting l (min o.end n)) e → Stops l x e
      cut_stops n x clear left e w = record { ledger = cutting l (min o.end n); left = left (cutting l (min o.end n)) (ap (λ (j : ℕ). cutting l (min j n)) end_is); safe = w; clear = inl clear }

      truncate_event : (n : ℕ) → Event k l (Truncate n) (leaving trimmed (truncate_rule c d o n)) d
      truncate_event n =
          test k l (Truncate n) trimmed (ltb (min o.end n) o.start) (ItemPruned (min o.end n)) _ d (too_low_lem n (Truncate n) refl) (λ e.
          let clear = high n e in
          go clear (let a = ltb-false (min o.end n) o.start e in let b = start_is in omega arith) sp.2)
        where
          T : Opened → Disk → Type 0
          T a e = State c enc (trimmed a) (cut l (min o.end n)) e

          done : refusal c l (Truncate n) ≡ None → (a : Opened) (e : Disk) → T a e → Dones k l (Truncate n) (trimmed a) e
          done clear a e w = record { clear = clear; state = subst (λ (j : ℕ). State c enc (trimmed a) (cut l (min j n)) e) end_is w; hand = refl }

          go : refusal c l (Truncate n) ≡ None → l.start ≤ min o.end n → Cuttable c enc l o d ⊎ Bare c l o d → Event k l (Truncate n) (leaving trimmed (truncate_rule c d o n)) d
          go clear h (inl w) = event k l (Truncate n) trimmed _ (TrimAs c enc (cut l (min o.end n))) (truncate_rule c d o n) d (cut_stops n (Truncate n) clear (λ m i. i)) (λ a e r. done clear a e (inl r))
              (truncate_leads c enc zp ez l o d w n h)
          go clear h (inr w) = event k l (Truncate n) trimmed _ (BlankAs c (cut l (min o.end n))) (truncate_rule c d o n) d (cut_stops n (Truncate n) clear (λ m i. i)) (λ a e r. done clear a e (inr r))
              (bare_truncate_leads c enc np zp ez l o d w n)

      publish_event : (n : ℕ) → Event k l (Publish n) (leaving running (publish_rule c d o n)) d
      publish_event n =
          test k l (Publish n) running (ltb (min o.end n) o.start) (ItemPruned (min o.end n)) _ d (too_low_lem n (Publish n) refl) (λ e.
          let clear = high n e in
          event k l (Publish n) running (SafeFor c enc (cutting l (min o.end n))) (RunAs c enc (cut l (min o.end n))) (publish_rule c d o n) d (cut_stops n (Publish n) clear (λ m i. i))
          (λ a f r. record { clear = clear; state = subst (λ (j : ℕ). RunAs c enc (cut l (min j n)) a f) end_is r; hand = refl })
          (go (let a = ltb-false (min o.end n) o.start e in let b = start_is in omega arith) sp.2))
        where
          go : l.start ≤ min o.end n → Cuttable c enc l o d ⊎ Bare c l o d → Leads (SafeFor c enc (cutting l (min o.end n))) (RunAs c enc (cut l (min o.end n))) (publish_rule c d o n) d
          go h (inl w) = publish_leads c enc zp ez l o d w n h
          go h (inr w) = bare_publish_leads c enc np zp ez l o d w n

      clear_event : (t : ℕ) → Safe c enc d l → Event k l (Clear t) (leaving (λ u. staged t) (stage_rule d t)) d
      clear_event t w =
          test k l (Clear t) (λ u. staged t) (leb MAX t) SizeOverflow _ d
          (λ e. record { must = cond-true (leb MAX t) (Some SizeOverflow) None e; state = same; plain = refl })
          (λ e.
          let clear : refusal c l (Clear t) ≡ None = cond-false (leb MAX t) (Some SizeOverflow) None e in
          event k l (Clear t) (λ u. staged t) (λ f. Safe c enc f l ⊎ Safe c enc f (moved l t t t t)) (λ u f. Staged f (moved l t t t t) × (f.present ≡ f.saved)) (stage_rule d t) d
          (stopped clear)
          (λ u f r. record { clear = clear; state = (r.0, sym r.0.at_start); hand = refl })
          (stage_leads c enc np zp l t d (leb-false MAX t e) w))
        where
          stopped : refusal c l (Clear t) ≡ None → (f : Disk) → Safe c enc f l ⊎ Safe c enc f (moved l t t t t) → Stops l (Clear t) f
          stopped clear f (inl r) = record { ledger = l; left = inl refl; safe = r; clear = inl clear }
          stopped clear f (inr r) = record { ledger = moved l t t t t; left = inr refl; safe = r; clear = inl clear }

    -- growing -------------------------------------------------------------------------------------

    -- packing comes first
    packed_event : (k : Log) (rs : List R) (lent : ℕ) (p : Plan Log) → State c enc (handed_back k) l d
        → ((f : Option Fault) → f ≡ when (eqb (length rs) 0) EmptyAppend (when (ltb MAX (l.end + length rs)) SizeOverflow None) → refusal c l (Append rs lent) ≡ f → Event k l (Append rs lent) p d)
        → Event k l (Append rs lent) (packed c enc decodes rs lent p) d
    packed_event k rs lent p same next =
        leads_if (Stops l (Append rs lent)) (Dones k l (Append rs lent)) (Faults k l (Append rs lent)) (ltb lent need) (NoSpace need) p d
        (λ e. record { must = cond-true (ltb lent need) (Some (NoSpace need)) then e; state = same; plain = refl })
        (λ e. next then refl (cond-false (ltb lent need) (Some (NoSpace need)) then e))
      where
        need : ℕ
        need = min (length rs * c.z) MAX

        then : Option Fault
        then = when (eqb (length rs) 0) EmptyAppend (when (ltb MAX (l.end + length rs)) SizeOverflow None)

    appended_stops : (rs : List R) (lent : ℕ) → refusal c l (Append rs lent) ≡ None → (e : Disk) → SafeFor c enc (appended l rs) e → Stops l (Append rs lent) e
    appended_stops rs lent clear e w = record { ledger = appended l rs; left = refl; safe = w; clear = inl clear }

    trimmed_append_event : (o : Opened) (r : R) (lent : ℕ) → State c enc (trimmed o) l d
        → Event (trimmed o) l (Append (r ∷ []) lent) (packed c enc decodes (r ∷ []) lent (leaving trimmed (trimmed_append_rule c d o (enc r)))) d
    trimmed_append_event o r lent s =
        packed_event (trimmed o) (r ∷ []) lent _ s (λ f is must.
        test (trimmed o) l (Append (r ∷ []) lent) trimmed (leb MAX o.end) SizeOverflow _ d
        (λ e. record { must = must ∙ (is ∙ cond-true (ltb MAX (l.end + 1)) (Some SizeOverflow) None (lt-ltb MAX (l.end + 1) (let a = leb-true MAX o.end e in let b = ends in omega arith))); state = s; plain = refl })
        (λ e.
        let less : l.end + 1 ≤ MAX = (let a = leb-false MAX o.end e in let b = ends in omega arith) in
        let clear : refusal c l (Append (r ∷ []) lent) ≡ None = must ∙ (is ∙ cond-false (ltb MAX (l.end + 1)) (Some SizeOverflow) None (le-ltb MAX (l.end + 1) less)) in
        event (trimmed o) l (Append (r ∷ []) lent) trimmed (SafeFor c enc (appended l (r ∷ []))) (TrimAs c enc (appended l (r ∷ []))) (trimmed_append_rule c d o (enc r)) d
        (appended_stops (r ∷ []) lent clear) (λ a f q. record { clear = clear; state = inl q; hand = refl }) (go less s)))
      where
        ends : o.end ≡ l.end
        ends = (trimmed_spans c enc l o d s).1

        go : l.end + 1 ≤ MAX → TrimAs c enc l o d ⊎ BlankAs c l o d → Leads (SafeFor c enc (appended l (r ∷ []))) (TrimAs c enc (appended l (r ∷ []))) (trimmed_append_rule c d o (enc r)) d
        go less (inl t) = trimmed_append_leads c enc zp ez l o d t r less
        go less (inr b) = blank_append_leads c enc np zp ez l o d b r

    append_event : (g : Running) (rs : List R) (lent : ℕ) → RunAs c enc l g d
        → Event (running g) l (Append rs lent) (packed c enc decodes rs lent (leaving (λ x. running x.0) (append_rule c g (map enc rs)))) d
    append_event g rs lent s =
        packed_event (running g) rs lent _ s (λ f is must.
        test_two (running g) l (Append rs lent) (λ x. running x.0) (eqb (length (map enc rs)) 0) EmptyAppend (ltb MAX (g.end + length (map enc rs))) SizeOverflow _ d
        (λ e. record { must = must ∙ (is ∙ cond-true (eqb (length rs) 0) (Some EmptyAppend) _ (none e)); state = s; plain = refl })
        (λ e h. record { must = must ∙ (is ∙ (cond-false (eqb (length rs) 0) (Some EmptyAppend) _ (none e) ∙ cond-true (ltb MAX (l.end + length rs)) (Some SizeOverflow) None (sym long ∙ h))); state = s; plain = refl })
        (λ e h.
        let fits = ltb-false MAX (l.end + length rs) (sym long ∙ h) in
        let some = eqb-false (length rs) 0 (none e) in
        let clear : refusal c l (Append rs lent) ≡ None = must ∙ (is ∙ (cond-false (eqb (length rs) 0) (Some EmptyAppend) _ (none e) ∙ cond-false (ltb MAX (l.end + length rs)) (Some SizeOverflow) None (sym long ∙ h))) in
        event (running g) l (Append rs lent) (λ x. running x.0) (SafeFor c enc (appended l rs)) (λ x f. RunAs c enc (appended l rs) x.0 f) (append_rule c g (map enc rs)) d
        (appended_stops rs lent clear) (λ a f q. record { clear = clear; state = q; hand = refl })
        (append_leads c enc zp ez l g d s rs (omega arith) fits)))
      where
        lm : length (map enc rs) ≡ length rs
        lm = length-map rs enc

        none : {b : Bool} → eqb (length (map enc rs)) 0 ≡ b → eqb (length rs) 0 ≡ b
        none e = sym (ap (λ (j : ℕ). eqb j 0) lm) ∙ e

        long : ltb MAX (g.end + length (map enc rs)) ≡ ltb MAX (l.end + length rs)
        long = let a = s.end in λ i. ltb MAX (a i + lm i)

    -- the rest: never refused --------------------------------------------------------------------

    stays : (x : Call R) → refusal c l x ≡ None → Left c l x l → (e : Disk) → SafeFor c enc l e → Stops l x e
    stays x clear left e w = record { ledger = l; left = left; safe = w; clear = inl clear }

    trimmed_sync_event : (o : Opened) → State c enc (trimmed o) l d → Event (trimmed o) l Sync (leaving trimmed (trimmed_sync_rule c d o)) d
    trimmed_sync_event o (inl t) = event (trimmed o) l Sync trimmed (SafeFor c enc l) _ (trimmed_sync_rule c d o) d (stays Sync refl refl) (λ a f q. record { clear = refl; state = inl q; hand = refl })
        (trimmed_sync_leads c enc zp ez l o d t)
    trimmed_sync_event o (inr b) = event (trimmed o) l Sync trimmed (SafeFor c enc l) _ (trimmed_sync_rule c d o) d (stays Sync refl refl) (λ a f q. record { clear = refl; state = inr q; hand = refl })
        (blank_sync_leads c enc np zp ez l o d b)

    prune_stops : (p : ℕ) (e : Disk) → PruneStops c enc l (prune_to c l p) e → Stops l (Prune p) e
    prune_stops p e (inl w) = stays (Prune p) refl (inl refl) e w
    prune_stops p e (inr (s, w)) =
        let at : s ≡ s / c.n * c.n = (let a = div-add-mod' s c.n in let b = w.aligned in omega arith) in
        let a = w.above in
        let b = w.within in
        record {
          ledger = kept_to_end l (s / c.n * c.n);
          left = inr (s / c.n, omega arith, omega arith, refl);
          safe = subst (λ (j : ℕ). Safe c enc e (moved l j l.end l.end l.far)) at w.safe;
          clear = inl refl;
        }

    trimmed_prune_event : (o : Opened) (p : ℕ) → State c enc (trimmed o) l d → Event (trimmed o) l (Prune p) (leaving (λ x. trimmed x.0) (trimmed_prune_rule c d o p)) d
    trimmed_prune_event o p (inl t) = event (trimmed o) l (Prune p) (λ x. trimmed x.0) _ _ (trimmed_prune_rule c d o p) d (prune_stops p) (λ a f q. record { clear = refl; state = inl q; hand = refl })
        (trimmed_prune_leads c enc zp ez l o d t p)
    trimmed_prune_event o p (inr b) =
        let r = blank_prune c enc np zp ez l o d b p in
        subst (λ (q : Plan (Opened × Bool)). Event (trimmed o) l (Prune p) (leaving (λ x. trimmed x.0) q) d) (sym r.0)
        (record { clear = refl; state = subst (λ (m : Ledger R). State c enc (trimmed o) m d) (sym r.1) (inr b); hand = refl })

    prune_event : (g : Running) (p : ℕ) → RunAs c enc l g d → Event (running g) l (Prune p) (leaving (λ x. running x.0) (prune_rule c g p)) d
    prune_event g p s = event (running g) l (Prune p) (λ x. running x.0) _ _ (prune_rule c g p) d (prune_stops p) (λ a f q. record { clear = refl; state = q; hand = refl }) (prune_leads c enc l g d s p)

    commit_event : (g : Running) → RunAs c enc l g d → Event (running g) l Commit (leaving running (commit_rule c g)) d
    commit_event g s = event (running g) l Commit running (SafeFor c enc l) _ (commit_rule c g) d (stays Commit refl refl) (λ a f q. record { clear = refl; state = q; hand = refl }) (commit_leads c enc l g d s)

    sync_event : (g : Running) → RunAs c enc l g d → Event (running g) l Sync (leaving running (sync_rule c g)) d
    sync_event g s = event (running g) l Sync running (SafeFor c enc l) _ (sync_rule c g) d (stays Sync refl refl) (λ a f q. record { clear = refl; state = q; hand = refl }) (sync_leads c enc l g d s)

    complete_event : (t : ℕ) → State c enc (staged t) l d → Event (staged t) l Complete (leaving trimmed (complete_rule c d t)) d
    complete_event t s = event (staged t) l Complete trimmed (SafeFor c enc l) _ (complete_rule c d t) d (stays Complete refl refl) (λ a f q. record { clear = refl; state = inl q; hand = refl })
        (complete_leads c enc np zp l t d s.0 s.1)

    leave_event : (t : ℕ) → State c enc (staged t) l d → Event (staged t) l Leave (answer over) d
    leave_event t s = record { clear = refl; state = inr (inr s.0); hand = refl }

    -- every call that the log in hand offers ------------------------------------------------------

    -- the rule of a call, and that the hand offers it
    abbrev pub Rules : Log → Call R → Plan Log → Type 0
    Rules k x p = Event k l x p d × (offers (hand_of k) x ≡ true)

    given : {p : Plan Log} (k : Log) (x : Call R) (q : Plan Log) → Some q ≡ Some p → Rules k x q → Rules k x p
    given {p} k x q e h = let i : q ≡ p = cc in subst (λ (r : Plan Log). Rules k x r) i h

    no_rule : {A : Type 0} {p : Plan Log} → None ≡ Some p → A
    no_rule e = impossible cc

    -- each call of the log in hand is as the ledger has it
    pub rule_event : (k : Log) (x : Call R) {p : Plan Log} → Small d.blobs → State c enc k l d → rule_of c enc decodes k d x ≡ Some p → Rules k x p
    rule_event fresh (Open a) small s e = given fresh (Open a) (leaving opened (open_rule c a d)) e (open_event a small s, refl)
    rule_event over (Open a) small s e = no_rule e
    rule_event (opened o) (Open a) small s e = no_rule e
    rule_event (trimmed o) (Open a) small s e = no_rule e
    rule_event (staged t) (Open a) small s e = no_rule e
    rule_event (running g) (Open a) small s e = no_rule e
    rule_event fresh (Append rs lent) small s e = no_rule e
    rule_event over (Append rs lent) small s e = no_rule e
    rule_event (opened o) (Append rs lent) small s e = no_rule e
    rule_event (trimmed o) (Append [] lent) small s e = no_rule e
    rule_event (trimmed o) (Append (r ∷ []) lent) small s e = given (trimmed o) (Append (r ∷ []) lent) (packed c enc decodes (r ∷ []) lent (leaving trimmed (trimmed_append_rule c d o (enc r)))) e (trimmed_append_event o r lent s, refl)
    rule_event (trimmed o) (Append (r ∷ (q ∷ qs)) lent) small s e = no_rule e
    rule_event (staged t) (Append rs lent) small s e = no_rule e
    rule_event (running g) (Append rs lent) small s e = given (running g) (Append rs lent) (packed c enc decodes rs lent (leaving (λ x. running x.0) (append_rule c g (map enc rs)))) e (append_event g rs lent s, refl)
    rule_event fresh (Truncate n) small s e = no_rule e
    rule_event over (Truncate n) small s e = no_rule e
    rule_event (opened o) (Truncate n) small s e = given (opened o) (Truncate n) (leaving trimmed (truncate_rule c d o n)) e (truncate_event (opened o) o s s n, refl)
    rule_event (trimmed o) (Truncate n) small s e = given (trimmed o) (Truncate n) (leaving trimmed (truncate_rule c d o n)) e (truncate_event (trimmed o) o (trimmed_spans c enc l o d s) s n, refl)
    rule_event (staged t) (Truncate n) small s e = no_rule e
    rule_event (running g) (Truncate n) small s e = no_rule e
    rule_event fresh (Publish n) small s e = no_rule e
    rule_event over (Publish n) small s e = no_rule e
    rule_event (opened o) (Publish n) small s e = given (opened o) (Publish n) (leaving running (publish_rule c d o n)) e (publish_event (opened o) o s s n, refl)
    rule_event (trimmed o) (Publish n) small s e = given (trimmed o) (Publish n) (leaving running (publish_rule c d o n)) e (publish_event (trimmed o) o (trimmed_spans c enc l o d s) s n, refl)
    rule_event (staged t) (Publish n) small s e = no_rule e
    rule_event (running g) (Publish n) small s e = no_rule e
    rule_event fresh (Prune n) small s e = no_rule e
    rule_event over (Prune n) small s e = no_rule e
    rule_event (opened o) (Prune n) small s e = no_rule e
    rule_event (trimmed o) (Prune n) small s e = given (trimmed o) (Prune n) (leaving (λ x. trimmed x.0) (trimmed_prune_rule c d o n)) e (trimmed_prune_event o n s, refl)
    rule_event (staged t) (Prune n) small s e = no_rule e
    rule_event (running g) (Prune n) small s e = given (running g) (Prune n) (leaving (λ x. running x.0) (prune_rule c g n)) e (prune_event g n s, refl)
    rule_event fresh (Clear n) small s e = no_rule e
    rule_event over (Clear n) small s e = no_rule e
    rule_event (opened o) (Clear n) small s e = given (opened o) (Clear n) (leaving (λ u. staged n) (stage_rule d n)) e (clear_event (opened o) o s s n (state_safe c enc (opened o) l d s), refl)
    rule_event (trimmed o) (Clear n) small s e = given (trimmed o) (Clear n) (leaving (λ u. staged n) (stage_rule d n)) e (clear_event (trimmed o) o (trimmed_spans c enc l o d s) s n (state_safe c enc (trimmed o) l d s), refl)
    rule_event (staged t) (Clear n) small s e = no_rule e
    rule_event (running g) (Clear n) small s e = no_rule e
    rule_event fresh Commit small s e = no_rule e
    rule_event over Commit small s e = no_rule e
    rule_event (opened o) Commit small s e = no_rule e
    rule_event (trimmed o) Commit small s e = no_rule e
    rule_event (staged t) Commit small s e = no_rule e
    rule_event (running g) Commit small s e = given (running g) Commit (leaving running (commit_rule c g)) e (commit_event g s, refl)
    rule_event fresh Sync small s e = no_rule e
    rule_event over Sync small s e = no_rule e
    rule_event (opened o) Sync small s e = no_rule e
    rule_event (trimmed o) Sync small s e = given (trimmed o) Sync (leaving trimmed (trimmed_sync_rule c d o)) e (trimmed_sync_event o s, refl)
    rule_event (staged t) Sync small s e = no_rule e
    rule_event (running g) Sync small s e = given (running g) Sync (leaving running (sync_rule c g)) e (sync_event g s, refl)
    rule_event fresh Complete small s e = no_rule e
    rule_event over Complete small s e = no_rule e
    rule_event (opened o) Complete small s e = no_rule e
    rule_event (trimmed o) Complete small s e = no_rule e
    rule_event (staged t) Complete small s e = given (staged t) Complete (leaving trimmed (complete_rule c d t)) e (complete_event t s, refl)
    rule_event (running g) Complete small s e = no_rule e
    rule_event fresh Leave small s e = no_rule e
    rule_event over Leave small s e = no_rule e
    rule_event (opened o) Leave small s e = no_rule e
    rule_event (trimmed o) Leave small s e = no_rule e
    rule_event (staged t) Leave small s e = given (staged t) Leave (answer over) e (leave_event t s, refl)
    rule_event (running g) Leave small s e = no_rule e
