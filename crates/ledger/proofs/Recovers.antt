-- The rules of truncate and publish, from any log that is opened or trimmed and has blobs.
use Rattle.std.proofs.Common.{◌≡◌, ℕ, ◌+◌, ◌*◌, ◌<◌, ◌≤◌, min, Bool, true, false, cond, not, ◌&&◌, ltb, ◌⊎◌, List, [], ◌∷◌, ◌++◌, map, length, Some, None, sym, refl, ap, ◌∙◌, subst, inl, inr, mul-le-mul_left, arith}
use Rattle.std.proofs.lemmas.Bool.{cases_lt, le-ltb, not_from_true}
use Rattle.store.specs.Disk.{Blob, Disk, find, numbers, Open, Sync, insert, done_all}
use Rattle.rules.specs.Rules.{Config, blob_of, persist, MAX, Plan, answer, calls, refuse_if, ItemPruned, Layout}
use Rattle.rules.specs.Calls.{Running, same, truncating, up_one_by_one, truncate_rule, publish_rule, truncated}
use Rattle.rules.specs.Open.{Opened, no_edge}
use Rattle.ledger.specs.Ledger.{Ledger}
use Rattle.ledger.proofs.Blobs.{impossible}
use Rattle.ledger.proofs.Invariant.{room, first_room, moved}
use Rattle.ledger.proofs.Chain.{Chain, chain_append, chain_then, chain_end}
use Rattle.ledger.proofs.Truncates.{CutTo, truncate_chain}
use Rattle.ledger.proofs.Publishes.{Ran, ran_chain, raise_chain, in_line}
use Rattle.ledger.proofs.Commits.{tied_top, tied_covers, Tied, Inside, SafeFor}
use Rattle.ledger.proofs.Plans.{Leads, leads_unless, leads_calls}
use Rattle.ledger.proofs.Trimmeds.{Trim}
use Rattle.ledger.proofs.Cuts.{Cuttable}

-- a trimmed log in hand
pub record TrimAs {R : Type 0} (c : Config) (enc : R → List ℕ) (l : Ledger R) (o : Opened) (e : Disk) : Type 0 where
  pub trim : Trim c enc l e
  pub start : o.start ≡ l.start
  pub end : o.end ≡ l.end
  pub mark : o.mark ≤ l.kept
  pub edge : o.edge ≡ no_edge

-- a running log in hand
pub record RunAs {R : Type 0} (c : Config) (enc : R → List ℕ) (l : Ledger R) (r : Running) (e : Disk) : Type 0 where
  pub start : r.start ≡ l.start
  pub end : r.end ≡ l.end
  pub lo : ℕ
  pub more : ℕ
  pub tied : Tied c enc lo more e l r.owed
  pub inside : Inside c lo more l

module _ {R : Type 0} (c : Config) (enc : R → List ℕ) (zp : 0 < c.z) (ez : (r : R) → length (enc r) ≡ c.z) (l : Ledger R) (o : Opened) (d : Disk) (k : Cuttable c enc l o d) (n : ℕ) where
  abbrev pub size : ℕ
  size = min o.end n

  abbrev pub gone : Ledger R
  gone = moved l l.start size size size

  abbrev pub held_up : Ledger R
  held_up = moved l l.start l.end (min l.kept size) l.far

  abbrev S : Disk → Type 0
  S = SafeFor c enc held_up

  safe_now : S d
  safe_now = inl (record { lo = k.lo; more = k.more; sure = k.sure; kept_sure = let a = k.kept_sure in omega arith; standing = k.stand })

  module _ (h : l.start ≤ size) where
    to_far : size ≤ l.far
    to_far = let a = k.far in omega arith

    fm : l.far ≤ MAX
    fm = k.stand.rows.far_most

    edge_now : ((o.edge ≡ 0) × (size ≡ l.start)) ⊎ ((size ≤ o.edge * c.n) × (l.start < o.edge * c.n))
    edge_now = elim k.edge [
      | inl e ↦ let p = e.1 in inl (e.0, omega arith)
      | inr e ↦ let p = e.0 in inr (omega arith, e.1)
    ]

    cut_chain : Chain S (CutTo c enc zp ez l k.sure size k.kept_sure h to_far k.lo) (truncating c d o size) d
    cut_chain =
        let tp = k.top in
        truncate_chain c enc zp ez l k.sure size k.kept_sure h to_far d o k.start k.mark k.now k.stand
        (λ b x m f i g. k.covers b x m f i (omega arith)) (λ b x f i. k.sealed b x f (omega arith)) (omega arith) edge_now

    not_low : ltb size o.start ≡ false
    not_low = le-ltb size o.start (let s = k.start in omega arith)

    pub truncate_leads : Leads S (TrimAs c enc gone) (truncate_rule c d o n) d
    truncate_leads =
        leads_unless S (TrimAs c enc gone) (ltb size o.start) (ItemPruned size) _ d not_low (
          safe_now,
          leads_calls S (TrimAs c enc gone) (truncating c d o size) (answer (truncated o size)) d
              (chain_then S (CutTo c enc zp ez l k.sure size k.kept_sure h to_far k.lo) (λ e. TrimAs c enc gone (truncated o size) e) (truncating c d o size) d
              (λ e q. record {
                trim = record { lo = k.lo; more = q.more; tied = q.tied; within = q.within; sealed = λ f. q.tail_safe };
                start = k.start;
                end = refl;
                mark = omega arith;
                edge = refl;
              }) cut_chain),
        )

    pub publish_leads : Leads S (RunAs c enc gone) (publish_rule c d o n) d
    publish_leads =
        leads_unless S Q (ltb size o.start) (ItemPruned size) _ d not_low (
          safe_now,
          leads_calls S Q (truncating c d o size ++ (map Sync (numbers cut.blobs) ++ (Open b ∷ []))) rest d
              (chain_append S (λ f. Leads S Q rest f) (truncating c d o size) (map Sync (numbers cut.blobs) ++ (Open b ∷ [])) d
              (chain_then S (λ e. (e ≡ cut) × C e) (λ e. Chain S (λ f. Leads S Q rest f) (map Sync (numbers cut.blobs) ++ (Open b ∷ [])) e) (truncating c d o size) d
              (λ e q.
              subst (λ (a : Disk). Chain S (λ f. Leads S Q rest f) (map Sync (numbers a.blobs) ++ (Open b ∷ [])) e) q.0
              (chain_then S (Ran c enc zp ez l size h to_far fm k.lo) (λ f. Leads S Q rest f) (map Sync (numbers e.blobs) ++ (Open b ∷ [])) e
              (λ f p. goes_on f p (subst (λ (a : Disk). up_one_by_one b (numbers (insert b a.blobs)) ≡ true) q.0 (in_line c enc zp ez l size h to_far fm e q.1.tied q.1.tail_safe q.1.within)))
              (ran_chain c enc zp ez l size h to_far fm e q.1.tied q.1.tail_safe q.1.within)))
              (chain_end S C (truncating c d o size) d cut_chain))),
        )
      where
        Q : Running → Disk → Type 0
        Q = RunAs c enc gone

        C : Disk → Type 0
        C = CutTo c enc zp ez l k.sure size k.kept_sure h to_far k.lo

        b : ℕ
        b = blob_of c size

        cut : Disk
        cut = done_all (truncating c d o size) d

        last : Plan Running
        last = answer (record { start = o.start; end = size; owed = None })

        raise : Bool
        raise = o.bounded && not (same cut.present.watermark (Some size))

        rest : Plan Running
        rest = refuse_if (not (up_one_by_one b (numbers (insert b cut.blobs)))) Layout (calls (cond raise (persist c o.start size) []) last)

        goes_on : (f : Disk) → Ran c enc zp ez l size h to_far fm k.lo f → up_one_by_one b (numbers (insert b cut.blobs)) ≡ true → Leads S Q rest f
        goes_on f p line =
            leads_unless S Q (not (up_one_by_one b (numbers (insert b cut.blobs)))) Layout _ f (not_from_true (up_one_by_one b (numbers (insert b cut.blobs))) line)
            (leads_calls S Q (cond raise (persist c o.start size) []) last f
            (chain_then S (Ran c enc zp ez l size h to_far fm k.lo) (λ a. Leads S Q last a) (cond raise (persist c o.start size) []) f
            (λ a q. record { start = k.start; end = refl; lo = k.lo; more = q.more; tied = q.tied; inside = q.inside })
            (subst (λ (s : ℕ). Chain S (Ran c enc zp ez l size h to_far fm k.lo) (cond raise (persist c s size) []) f) (sym k.start) (raise_chain c enc zp ez l size h to_far fm k.lo raise f p))))

-- from a trimmed log
module _ {R : Type 0} (c : Config) (enc : R → List ℕ) (l : Ledger R) (o : Opened) (d : Disk) where
  pub trim_cuttable : TrimAs c enc l o d → Cuttable c enc l o d
  trim_cuttable t = record {
    lo = t.trim.lo;
    more = t.trim.more;
    sure = l.kept;
    kept_sure = omega arith;
    stand = r.stand;
    start = t.start;
    mark = t.mark;
    far = let a = r.whole in let b = t.end in omega arith;
    covers = λ b x m f h g. tied_covers c enc l d None r b x m f h (let e = t.end in omega arith);
    sealed = λ b x f g. elim (cases_lt b hi) [
      | inl i ↦ elim (r.safe b x f i) [
        | inl u ↦ impossible cc
        | inr u ↦ u
      ]
      | inr i ↦
          let q = tied_top c enc l d None r b x f i in
          let e2 = t.end in let en = r.ends in let sr = r.some_room in let sn = r.sound in let bn = r.bytes in
          let nn : hi * c.n ≡ b * c.n = ap (λ (j : ℕ). j * c.n) q.0 in
          let a = first_room c l.start t.trim.lo r.stand.rows.low hi (omega arith) in
          let full : l.end ≡ hi * c.n + c.n = omega arith in
          let s = t.trim.sealed full x (ap (λ (j : ℕ). find d.blobs j) q.0 ∙ f) in
          let so : r.tail.sound ≡ x.sound = ap (λ (y : Blob). y.sound) q.1 in
          let hv : r.have ≡ room c l.start b = (let u : r.have ≡ room c l.start hi = omega arith in u) ∙ ap (λ (j : ℕ). room c l.start j) q.0 in
          let hz : r.have * c.z ≡ room c l.start b * c.z = ap (λ (j : ℕ). j * c.z) hv in
          omega arith
    ];
    top = let a = first_room c l.start t.trim.lo r.stand.rows.low hi (omega arith) in let en = r.ends in let sr = r.some_room in let e2 = t.end in omega arith;
    edge = inr (let e = t.edge in let n : o.edge * c.n ≡ no_edge * c.n = ap (λ (j : ℕ). j * c.n) t.edge in let u = mul-le-mul_left {m = 1} {n = c.n} no_edge np in
        let fmost = r.stand.rows.far_most in let wh = r.whole in let e2 = t.end in let sk = r.stand.rows.start_kept in let kf = r.stand.rows.kept_far in (omega arith, omega arith));
    now = r.now_saved;
  }
    where
      hi : ℕ
      hi = t.trim.lo + t.trim.more

      r : Tied c enc t.trim.lo t.trim.more d l None
      r = t.trim.tied

      np : 0 < c.n
      np = let x = r.stand.rows.low.from in let y = r.stand.rows.low.below in omega arith
