-- An open of any store at rest, with any ceiling.
use Rattle.std.proofs.Common.{◌≡◌, ℕ, ◌%◌, ◌<◌, ◌≤◌, min, Bool, true, false, ltb, ◌⊎◌, List, [], Some, None, Option, sym, refl, ap, ◌∙◌, subst, inl, inr, arith}
use Rattle.std.proofs.lemmas.Bool.{cases_Bool, cond-true, cond-false, eq-eqb, le-ltb}
use Rattle.store.specs.Disk.{Disk, numbers}
use Rattle.store.specs.declared.keys.Keys.{Keys}
use Rattle.rules.specs.Rules.{Config, MAX, blob_of, aligned, Plan, Fault, answer, refuse, ask, refuse_if, Corruption, ItemPruned, clearing}
use Rattle.rules.specs.Open.{Opened, no_edge, weigh, open_rule, edge_at, or_max, is_below}
use Rattle.rules.specs.Open as open_rules
use Rattle.ledger.specs.History.{Open}
use Rattle.ledger.specs.Ledger.{Ledger, lower, refusal, entry}
use Rattle.ledger.proofs.Blobs.{impossible}
use Rattle.ledger.proofs.Invariant.{Still, KeysStand, HintFree, Stands, stands, Empty, Staged, Safe, moved}
use Rattle.ledger.proofs.Reach.{reach_of}
use Rattle.ledger.proofs.Weakening.{Rest}
use Rattle.ledger.proofs.Plans.{LeadsOr, unrefused, Leads, leads_unless, leads_if, leads_or_calls, leads_as}
use Rattle.ledger.proofs.Clears.{clear_chain}
use Rattle.ledger.proofs.Empties.{Bare}
use Rattle.ledger.proofs.Cuts.{Cuttable, cuttable_end}
use Rattle.ledger.proofs.Recovers.{trim_cuttable}
use Rattle.ledger.proofs.Trimming.{cleared_trim}
use Rattle.ledger.proofs.Opens.{Small, searched, from_start, standing_is, open_standing}

module _ {R : Type 0} (c : Config) (enc : R → List ℕ) (np : 0 < c.n) (zp : 0 < c.z) (pp : 0 < c.page) (ceiling : Option ℕ) where
  -- what an open shows: the ledger's start, and its far end below the ceiling
  pub record Shows (l : Ledger R) (o : Opened) (e : Disk) : Type 0 where
    pub clear : refusal c l (Open ceiling) ≡ None
    pub start : o.start ≡ l.start
    pub end : o.end ≡ lower l.far ceiling
    pub ready : Cuttable c enc (entry c l (Open ceiling)) o e ⊎ Bare c (entry c l (Open ceiling)) o e

  -- a ceiling below the start is refused, and leaves the disk safe
  pub record Denies (l : Ledger R) (f : Fault) (e : Disk) : Type 0 where
    pub must : refusal c l (Open ceiling) ≡ Some f
    pub is : f ≡ ItemPruned (or_max ceiling)
    pub safe : Safe c enc e l

  end_is : (far : ℕ) (k : Option ℕ) → far ≤ MAX → min far (or_max k) ≡ lower far k
  end_is far None h = omega arith
  end_is far (Some k) h = refl

  denied : (l : Ledger R) (k : Option ℕ) → is_below k l.start ≡ true → refusal c l (Open k) ≡ Some (ItemPruned (or_max k))
  denied l None e = impossible cc
  denied l (Some k) e = cond-true (ltb k l.start) (Some (ItemPruned k)) None e

  passed : (l : Ledger R) (k : Option ℕ) → is_below k l.start ≡ false → refusal c l (Open k) ≡ None
  passed l None e = refl
  passed l (Some k) e = cond-false (ltb k l.start) (Some (ItemPruned k)) None e

  module _ (l : Ledger R) (d : Disk) (now : d.present ≡ d.saved) where
    abbrev S : Disk → Type 0
    S e = Safe c enc e l

    opens_standing : (w : Stands c enc d l) → l.far ≡ reach_of c l.start l.start d.blobs → Still d.blobs → Small d.blobs → LeadsOr S (Shows l) (Denies l) (open_rule c ceiling d) d
    opens_standing w far still small =
        subst (λ (p : Plan Opened). LeadsOr S (Shows l) (Denies l) p d) (sym (ap (λ (e : Disk). open_rule c ceiling e) di ∙ standing_is c enc zp pp ceiling l w.sure mark d.saved.hint d.saved d.blobs d di w.kept_sure k.mark_kept k.hint w.standing))
        (elim (cases_Bool (is_below ceiling l.start)) [
          | inl e ↦ subst (λ (u : Bool). LeadsOr S (Shows l) (Denies l) (ask (refuse_if u (ItemPruned (or_max ceiling)) (searched c ceiling mark d.blobs l.start))) d) (sym e) (inl w, record { must = denied l ceiling e; is = refl; safe = inl w })
          | inr e ↦ leads_as S S (λ o f. Cuttable c enc l o f × (o.end ≡ min l.far (or_max ceiling))) (Shows l) unrefused (Denies l) (ask (from_start c ceiling mark d.blobs l.start)) d (λ f q. q)
              (λ o f q.
              let at = q.1 ∙ end_is l.far ceiling w.standing.rows.far_most in
              record { clear = passed l ceiling e; start = q.0.start; end = at; ready = inl (cuttable_end c enc l o f (lower l.far ceiling) q.0) })
              (λ x f q. absurd q)
              (open_standing c enc zp pp ceiling l w.sure mark d.saved.hint d.saved d.blobs d di w.kept_sure k.mark_kept k.hint w.standing now far still small e)
        ])
      where
        k : KeysStand c d.saved (moved l l.start l.end w.sure l.far)
        k = w.standing.keys

        mark : ℕ
        mark = k.mark

        want : Keys
        want = record { hint = d.saved.hint; target = None; watermark = Some mark }

        di : d ≡ record { blobs = d.blobs; present = want; saved = d.saved }
        di =
            let tg = k.target in
            let mk = k.marked in
            let p : d.present ≡ want = now ∙ (λ i. record { hint = d.saved.hint; target = tg i; watermark = mk i }) in
            λ i. record { blobs = d.blobs; present = p i; saved = d.saved }

    -- an empty store, at a hint that is passed over
    bare : (mk edge : ℕ) → (w : Empty c d l) → l.far ≡ 0 → Shows l (record { start = 0; end = min 0 (or_max ceiling); mark = mk; bounded = Rattle.std.specs.Option.is_some ceiling; edge = edge }) d
    bare mk edge w far =
        let at : lower l.far ceiling ≡ 0 = sym (end_is l.far ceiling (omega arith)) ∙ (let q : min l.far (or_max ceiling) ≡ 0 = omega arith in q) in
        record {
          clear = passed l ceiling (none ceiling);
          start = sym w.start_zero;
          end = (let q : min 0 (or_max ceiling) ≡ 0 = omega arith in q) ∙ sym at;
          ready = inr (record {
            empty = record { none = w.none; start_zero = w.start_zero; kept_zero = w.kept_zero; target = w.target; marked = w.marked; hint = w.hint };
            far = far;
            start = refl;
            end = omega arith;
            now = now;
          });
        }
      where
        none : (k : Option ℕ) → is_below k l.start ≡ false
        none None = refl
        none (Some k) = le-ltb k l.start (let a = w.start_zero in omega arith)

    below_none : (k : Option ℕ) → is_below k 0 ≡ false
    below_none None = refl
    below_none (Some k) = le-ltb k 0 (omega arith)

    empty_end : (m : Option ℕ) → Empty c d l → l.far ≡ 0 → (m ≡ None) ⊎ (m ≡ Some 0) → Leads S (Shows l) (weigh c 0 ceiling (edge_at c 0 ceiling) m (open_rules.stands 0 false)) d
    empty_end None w far mm = bare (Rattle.rules.specs.Rules.first_in c 0 (blob_of c 0)) (edge_at c 0 ceiling) w far
    empty_end (Some v) w far (inl e) = impossible cc
    empty_end (Some v) w far (inr e) =
        let i : v ≡ 0 = cc in
        leads_unless S (Shows l) (ltb 0 (min v (or_max ceiling))) (Corruption 5) _ d (le-ltb 0 (min v (or_max ceiling)) (omega arith)) (bare (min v (or_max ceiling)) (edge_at c 0 ceiling) w far)

    hint_aligned : (h : ℕ) → HintFree c 0 (Some h) → aligned c h ≡ true
    hint_aligned h (inl e) = impossible cc
    hint_aligned h (inr (v, e, inl f)) = let i : h ≡ v = cc in eq-eqb (h % c.n) 0 (ap (λ (j : ℕ). j % c.n) i ∙ f)
    hint_aligned h (inr (v, e, inr f)) = absurd (omega arith)

    empty_at : (h : Option ℕ) (m : Option ℕ) (sv : Keys) → Empty c d l → l.far ≡ 0 → HintFree c 0 h → (m ≡ None) ⊎ (m ≡ Some 0)
        → Leads S (Shows l) (open_rule c ceiling (record { blobs = []; present = record { hint = h; target = None; watermark = m }; saved = sv })) d
    empty_at None m sv w far hf mm = (inr (inl w), leads_unless S (Shows l) (is_below ceiling 0) (ItemPruned (or_max ceiling)) _ d (below_none ceiling) (empty_end m w far mm))
    empty_at (Some h) m sv w far hf mm = (
      inr (inl w),
      subst (λ (p : Plan Opened). Leads S (Shows l) p d) (sym (cond-true (aligned c h) _ (refuse (Corruption 2)) (hint_aligned h hf)))
          (leads_unless S (Shows l) (is_below ceiling 0) (ItemPruned (or_max ceiling)) _ d (below_none ceiling) (empty_end m w far mm)),
    )

    opens_empty : Empty c d l → l.far ≡ 0 → LeadsOr S (Shows l) (Denies l) (open_rule c ceiling d) d
    opens_empty w far =
        let want : Keys = record { hint = d.saved.hint; target = None; watermark = d.saved.watermark } in
        let tg = w.target in
        let bl = w.none in
        let p : d.present ≡ want = now ∙ (λ i. record { hint = d.saved.hint; target = tg i; watermark = d.saved.watermark }) in
        let di : d ≡ record { blobs = []; present = want; saved = d.saved } = λ i. record { blobs = bl i; present = p i; saved = d.saved } in
        leads_as S S (Shows l) (Shows l) unrefused (Denies l) (open_rule c ceiling d) d (λ e q. q) (λ o e q. q) (λ x e q. absurd q)
        (subst (λ (e : Disk). Leads S (Shows l) (open_rule c ceiling e) d) (sym di) (empty_at d.saved.hint d.saved.watermark d.saved w far w.hint w.marked))

    -- a staged clear is carried out first
    pub opens_staged : Staged d l → LeadsOr S (Shows l) (Denies l) (open_rule c ceiling d) d
    opens_staged w =
        subst (λ (e : Disk). LeadsOr S (Shows l) (Denies l) (open_rule c ceiling e) d) (sym di) (
          inr (inr w),
          leads_or_calls S (Shows l) (Denies l) (clearing c t (numbers d.blobs)) last d
              (clear_chain c enc np zp l t w.at_start w.at_kept w.at_far w.most (λ e. LeadsOr S (Shows l) (Denies l) last e)
              (λ e q. leads_if S (Shows l) (Denies l) (is_below ceiling t) (ItemPruned (or_max ceiling)) (answer o) e
              (λ b. record { must = denied l ceiling (ap (λ (j : ℕ). is_below ceiling j) w.at_start ∙ b); is = refl; safe = inl (stands c enc e l q.stand) })
              (λ b.
              let under = reach ceiling b in
              record {
                clear = passed l ceiling (ap (λ (j : ℕ). is_below ceiling j) w.at_start ∙ b);
                start = sym w.at_start;
                end = (let f = w.at_far in let g : t ≡ min l.far (or_max ceiling) = omega arith in g) ∙ end_is l.far ceiling (let f = w.at_far in let g = w.most in omega arith);
                ready = inl (cuttable_end c enc l o e (lower l.far ceiling) (trim_cuttable c enc l o e (record {
                  trim = cleared_trim c enc np zp l t e w.at_start w.at_end w.at_far q;
                  start = sym w.at_start;
                  end = sym w.at_end;
                  mark = let f = w.at_kept in omega arith;
                  edge = refl;
                })));
              })) d w),
        )
      where
        t : ℕ
        t = w.goal

        o : Opened
        o = record { start = t; end = t; mark = t; bounded = false; edge = no_edge }

        last : Plan Opened
        last = refuse_if (is_below ceiling t) (ItemPruned (or_max ceiling)) (answer o)

        reach : (k : Option ℕ) → is_below k t ≡ false → t ≤ or_max k
        reach None e = w.most
        reach (Some k) e = Rattle.std.proofs.lemmas.Bool.ltb-false k t e

        want : Keys
        want = record { hint = d.saved.hint; target = Some t; watermark = d.saved.watermark }

        di : d ≡ record { blobs = d.blobs; present = want; saved = d.saved }
        di =
            let tg = w.target in
            let p : d.present ≡ want = now ∙ (λ i. record { hint = d.saved.hint; target = tg i; watermark = d.saved.watermark }) in
            λ i. record { blobs = d.blobs; present = p i; saved = d.saved }

    -- an open of a store at rest shows the ledger's span, is refused only for its ceiling, and leaves the disk safe wherever it stops
    pub opens_rest : Small d.blobs → Rest c enc d l → LeadsOr S (Shows l) (Denies l) (open_rule c ceiling d) d
    opens_rest small (inl (w, far, still)) = opens_standing w far still small
    opens_rest small (inr (inl (w, far))) = opens_empty w far
    opens_rest small (inr (inr w)) = opens_staged w
