-- The law: every history that the rules allow over a store agrees with the ledger.
use Rattle.std.proofs.Common.{◌≡◌, ℕ, ◌+◌, ◌<◌, true, false, eqb, ltb, ◌⊎◌, List, [], ◌∷◌, length, Some, None, Option, sym, refl, ap, ◌∙◌, subst, inl, inr, arith}
use Rattle.std.proofs.lemmas.Bool.Decides.{nat_tests}
use Rattle.std.proofs.lemmas.Bool.{cases_eq, cases_Bool, cond_both, cond-true, cond-false, or_parts, eqb-false}
use Rattle.store.specs.Disk.{Blob, Blobs, View, find, Restarted}
use Rattle.store.specs.Laws.{AllWhole, Lawful}
use Rattle.rules.specs.Rules.{Plan, Follows, Config, bad_config, Outcome}
use Rattle.ledger.specs.History.{Call, Open, Append, Truncate, Publish, Prune, Clear, Commit, Sync, Complete, Leave, End, Done, Refused, Stopped, Event, Restart, Called, Read, offers, after, in_hand}
use Rattle.ledger.specs.Ledger.{Ledger, first}
use Rattle.ledger.specs.Promises.{Ends, shown, Agrees}
use Rattle.ledger.specs.Runs.{Log, fresh, over, opened, trimmed, staged, running, span_of, is_layout, end_of, log_after, rule_of, Happened, Records, HandsIn, handed_in, Law}
use Rattle.ledger.specs.History as hands
use Rattle.ledger.specs.Promises as promises
use Rattle.ledger.specs.Ledger as book
use Rattle.ledger.proofs.Blobs.{impossible, never}
use Rattle.ledger.proofs.Weakening.{safe_restarted, restart_falls, new_rests}
use Rattle.ledger.proofs.Follow.{Answered, Turned, Halted, follows_leads}
use Rattle.ledger.proofs.Opens.{Small}
use Rattle.ledger.proofs.Readings.{Backs}
use Rattle.ledger.proofs.States.{hand_of, Up, up_for, handed_back, back_hand, State, state_safe, safe_kept_far, state_span, state_reads}
use Rattle.ledger.proofs.Padded.{padded, padded_sized, as_padded}
use Rattle.ledger.proofs.Events.{Stops, Dones, Faults, stops_closed, rule_event}

small : (bs : Blobs) → AllWhole bs → Small bs
small [] a b x f = never (find [] b) x refl f
small (y ∷ ys) a b x f = elim (cases_eq y.0 b) [
  | inl i ↦
      let is : y.1 ≡ x = (grind (arith, nat_tests)) in
      let long : length y.1.bytes ≡ length x.bytes = ap (λ (z : Blob). length z.bytes) is in
      let w = a.0.fits in
      omega arith
  | inr i ↦ small ys a.1 b x (grind (arith, nat_tests))
]

none_offered : {R : Type 0} (x : Call R) → offers hands.over x ≡ false
none_offered (Open o) = refl
none_offered (Append rs n) = refl
none_offered (Truncate m) = refl
none_offered (Publish m) = refl
none_offered (Prune p) = refl
none_offered (Clear t) = refl
none_offered Commit = refl
none_offered Sync = refl
none_offered Complete = refl
none_offered Leave = refl

-- a store whose log offers a call is up
up_offered : {R : Type 0} (k : Log) (x : Call R) (v : View) → offers (hand_of k) x ≡ true → Up k v → v.up ≡ true
up_offered fresh x v e u = u
up_offered over x v e u = let n = none_offered x in impossible cc
up_offered (opened o) x v e u = u
up_offered (trimmed o) x v e u = u
up_offered (staged t) x v e u = u
up_offered (running r) x v e u = u

-- what is handed in is read back ---------------------------------------------------------------

module _ {R : Type 0} (c : Config) (writes : R → List ℕ) (decodes : List ℕ → Option R) where
  entered_backs : (rs : List R) (e : ℕ) (handed : ℕ → Option R) → Records c writes decodes rs → Backs writes decodes handed → Backs writes decodes (book.entered e rs handed)
  entered_backs [] e handed k b p r h = b p r h
  entered_backs (q ∷ rs) e handed k b p r h = elim (cases_Bool (eqb p e)) [
    | inl i ↦
        let is : Some q ≡ Some r = sym (cond-true (eqb p e) (Some q) (book.entered (e + 1) rs handed p) i) ∙ h in
        let same : q ≡ r = cc in
        subst (λ (u : R). decodes (writes u) ≡ Some u) same k.1
    | inr i ↦ entered_backs rs (e + 1) handed k.2 b p r (sym (cond-false (eqb p e) (Some q) (book.entered (e + 1) rs handed p) i) ∙ h)
  ]

  module _ (l : Ledger R) where
    abbrev Fine : Ledger R → Type 0
    Fine m = Backs writes decodes m.handed

    entry_backs : (x : Call R) → Records c writes decodes (handed_in x) → Fine l → Fine (book.entry c l x)
    entry_backs (Open o) k b = b
    entry_backs (Append rs n) k b = entered_backs rs l.end l.handed k b
    entry_backs (Truncate m) k b = b
    entry_backs (Publish m) k b = b
    entry_backs (Prune p) k b = cond_both (ltb l.start (book.prune_to c l p)) (book.kept_to_end l (book.prune_to c l p)) l Fine (λ e. b) (λ e. b)
    entry_backs (Clear t) k b = b
    entry_backs Commit k b = b
    entry_backs Sync k b = b
    entry_backs Complete k b = b
    entry_backs Leave k b = b

    left_backs : (x : Call R) (m : Ledger R) → book.Left c l x m → Records c writes decodes (handed_in x) → Fine l → Fine m
    left_backs (Open o) m e k b = subst Fine (sym e) b
    left_backs (Append rs n) m e k b = subst Fine (sym e) (entered_backs rs l.end l.handed k b)
    left_backs (Truncate n) m e k b = subst Fine (sym e) b
    left_backs (Publish n) m e k b = subst Fine (sym e) b
    left_backs (Prune p) m (inl e) k b = subst Fine (sym e) b
    left_backs (Prune p) m (inr (s, i, j, e)) k b = subst Fine (sym e) b
    left_backs (Clear t) m (inl e) k b = subst Fine (sym e) b
    left_backs (Clear t) m (inr e) k b = subst Fine (sym e) b
    left_backs Commit m e k b = subst Fine (sym e) b
    left_backs Sync m e k b = subst Fine (sym e) b
    left_backs Complete m e k b = subst Fine (sym e) b
    left_backs Leave m e k b = elim e [ ]

-- the induction ---------------------------------------------------------------------------------

module _ {R : Type 0} (c : Config) (writes : R → List ℕ) (decodes : List ℕ → Option R) (np : 0 < c.n) (zp : 0 < c.z) (pp : 0 < c.page) (sized : (r : R) → length (writes r) ≡ c.z) where
  -- what holds of the events so far, the log in hand and the store
  pub record Holds (es : List (Event R)) (k : Log) (w : View) : Type 0 where
    pub ledger : Ledger R
    pub agrees : Agrees c es w ledger
    pub state : State c writes k ledger w.disk
    pub up : Up k w
    pub hand : in_hand es ≡ hand_of k
    pub backs : Backs writes decodes ledger.handed
    pub lawful : Lawful w

  restarts : (es : List (Event R)) (k : Log) (v w : View) → Holds es k v → Restarted v w → Lawful w → Holds (Restart ∷ es) fresh w
  restarts es k v w h r law =
      let l : Ledger R = h.ledger in
      let q = safe_restarted c writes zp l v w (state_safe c writes k l v.disk h.state) r in
      record {
        ledger = record { start = l.start; end = l.end; kept = l.kept; far = q.far; handed = l.handed };
        agrees = (v, l, h.agrees, r, restart_falls c writes l w.disk q);
        state = (q.rest, q.now_saved);
        up = r.up;
        hand = refl;
        backs = h.backs;
        lawful = law;
      }

  module _ (es : List (Event R)) (k : Log) (v w : View) (h : Holds es k v) (x : Call R) (e : End) (s : Option (ℕ × ℕ)) (n : Log) (span : s ≡ span_of n) (law : Lawful w) (packed : HandsIn c writes decodes x e) (offered : offers (hand_of k) x ≡ true) where
    -- a call that leaves the log after, and the ledger m
    ends : (end : End) (log : Log) → e ≡ end → n ≡ log → (m : Ledger R) → Ends c h.ledger x end v w m → State c writes log m w.disk → Up log w → hand_of log ≡ after (hand_of k) x end → Backs writes decodes m.handed
        → Holds (Called x e s ∷ es) n w
    ends end log ee nn m so st up hd back =
        let hand : after (in_hand es) x e ≡ hand_of log = (let a = h.hand in λ i. after (a i) x (ee i)) ∙ sym hd in
        record {
          ledger = m;
          agrees = (
            v,
            h.ledger,
            h.agrees,
            ap (λ (g : hands.Hand). offers g x) h.hand ∙ offered,
            subst (λ (u : End). Ends c h.ledger x u v w m) (sym ee) so,
            span ∙ (ap span_of nn ∙ (state_span c writes log m w.disk st ∙ ap (λ (g : hands.Hand). shown g m) (sym hand))),
            safe_kept_far c writes m w.disk (state_safe c writes log m w.disk st),
          );
          state = subst (λ (u : Log). State c writes u m w.disk) (sym nn) st;
          up = subst (λ (u : Log). Up u w) (sym nn) up;
          hand = hand ∙ ap hand_of (sym nn);
          backs = back;
          lawful = law;
        }

    called : (r : Outcome Log) → e ≡ end_of r → n ≡ log_after k r
        → Answered (Dones c writes decodes k h.ledger x) v r w ⊎ (Turned (Faults c writes decodes k h.ledger x) v r w ⊎ Halted (Stops c writes decodes h.ledger x) v r w)
        → Holds (Called x e s ∷ es) n w
    called r ee nn (inl a) =
        let is = ee ∙ ap end_of a.is in
        ends Done a.it is (nn ∙ ap (λ (u : Outcome Log). log_after k u) a.is) (book.entry c h.ledger x) (a.holds.clear, refl, (a.ops, a.made)) a.holds.state (up_for a.it w a.up) a.holds.hand
        (entry_backs c writes decodes h.ledger x (subst (λ (u : End). HandsIn c writes decodes x u) is packed) h.backs)
    called r ee nn (inr (inl a)) =
        ends (Refused a.fault) (handed_back k) (ee ∙ (ap end_of a.is ∙ cond-false (is_layout a.fault) (Stopped None) (Refused a.fault) a.holds.plain))
        (nn ∙ (ap (λ (u : Outcome Log). log_after k u) a.is ∙ cond-false (is_layout a.fault) over (handed_back k) a.holds.plain))
        h.ledger (a.holds.must, refl, (a.ops, a.made)) a.holds.state (up_for (handed_back k) w a.up) (back_hand k) h.backs
    called r ee nn (inr (inr a)) =
        let is = ee ∙ ap end_of a.is in
        ends (Stopped (Some a.cause)) over is (nn ∙ ap (λ (u : Outcome Log). log_after k u) a.is) a.holds.ledger
        (a.holds.clear, a.holds.left, (a.why, (a.ops, a.at, a.made))) a.holds.safe tt refl
        (left_backs c writes decodes h.ledger x a.holds.ledger a.holds.left (subst (λ (u : End). HandsIn c writes decodes x u) is packed) h.backs)

  -- how a call ends that the rules allow
  pub outcome : (es : List (Event R)) (k : Log) (v w : View) (h : Holds es k v) (x : Call R) (p : Plan Log) (r : Outcome Log) → rule_of c writes decodes k v.disk x ≡ Some p → Follows p v r w
      → (offers (hand_of k) x ≡ true) × (Answered (Dones c writes decodes k h.ledger x) v r w ⊎ (Turned (Faults c writes decodes k h.ledger x) v r w ⊎ Halted (Stops c writes decodes h.ledger x) v r w))
  outcome es k v w h x p r rule follows =
      let l : Ledger R = h.ledger in
      let q = rule_event c writes decodes np zp pp sized l v.disk k x (small v.disk.blobs h.lawful.whole) h.state rule in (
        q.1,
        follows_leads (Stops c writes decodes l x) (Dones c writes decodes k l x) (Faults c writes decodes k l x) (stops_closed c writes decodes l x) p v w r (up_offered k x v q.1 h.up) q.0 follows,
      )

  pub holds : (es : List (Event R)) (k : Log) (w : View) → Happened c writes decodes es k w → Holds es k w
  holds [] k w (kk, new, law) =
      let q = new_rests c writes w new in
      let at : State c writes fresh first w.disk = q in
      record {
        ledger = first;
        agrees = (new, refl);
        state = subst (λ (u : Log). State c writes u first w.disk) (sym kk) at;
        up = subst (λ (u : Log). Up u w) (sym kk) new.up;
        hand = ap hand_of (sym kk);
        backs = λ p r e. impossible cc;
        lawful = law;
      }
  holds (Restart ∷ es) n w (k, v, before, r, law, nn) = subst (λ (u : Log). Holds (Restart ∷ es) u w) (sym nn) (restarts es k v w (holds es k v before) r law)
  holds (Called x e s ∷ es) n w (k, v, p, r, before, rule, follows, law, packed, ee, nn, span) =
      let h = holds es k v before in
      let q = outcome es k v w h x p r rule follows in
      called es k v w h x e s n span law packed q.0 r ee nn q.1
  holds (Read q a ∷ es) n w (s, before, span, is) =
      let h = holds es n w before in
      let r = state_reads c writes decodes sized h.ledger w h.backs n s q h.up h.state span in
      record {
        ledger = h.ledger;
        agrees = (h.agrees, ap (λ (g : hands.Hand). hands.is_log g) h.hand ∙ r.0, subst (λ (u : hands.Answer R). promises.Reads c h.ledger w q u) (sym is) r.1);
        state = h.state;
        up = h.up;
        hand = h.hand;
        backs = h.backs;
        lawful = h.lawful;
      }

-- what a configuration that is not refused has
pub record Sound (c : Config) : Type 0 where
  pub n : 0 < c.n
  pub page : 0 < c.page
  pub z : 0 < c.z

pub sound : (c : Config) → bad_config c ≡ false → Sound c
sound c good =
    let a = or_parts (eqb c.n 0) _ good in
    let b = or_parts (eqb c.page 0) _ a.1 in
    let d = or_parts (eqb c.z 0) _ b.1 in
    let np = eqb-false c.n 0 a.0 in
    let pp = eqb-false c.page 0 b.0 in
    let zp = eqb-false c.z 0 d.0 in
    record { n = omega arith; page = omega arith; z = omega arith }

pub law_stands_lem : {R : Type 0} (c : Config) (writes : R → List ℕ) (decodes : List ℕ → Option R) → Law c writes decodes
law_stands_lem c writes decodes good es k w happened =
    let s = sound c good in
    let h = holds c (padded c writes) decodes s.n s.z s.page (padded_sized c writes) es k w (as_padded c writes decodes es k w happened) in
    (h.ledger, h.agrees)
