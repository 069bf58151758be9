-- Every value written as Z bytes: what happened has happened so too, since the records of calls that are not refused have their Z bytes.
use Rattle.std.proofs.Common.{◌≡◌, ℕ, ◌+◌, ◌-◌, Bool, true, false, cond, eqb, ltb, leb, List, [], ◌∷◌, map, length, replicate, Some, Option, sym, refl, ap, ◌∙◌, subst, inl, inr}
use lib.ListN.{length-map, length-replicate}
use Rattle.std.proofs.lemmas.Bool.{cond-true, cond_both, eqb-true, eq-eqb}
use Rattle.store.specs.Disk.{View, Op}
use Rattle.rules.specs.Rules.{Config, MAX, Plan, Fault, answer, ask, calls, refuse_if, SizeOverflow, EmptyAppend, Outcome, answered, refused, stopped, Follows}
use Rattle.rules.specs.Calls.{Running, appending, owed_after, append_rule, trimmed_append_rule}
use Rattle.ledger.specs.History.{Call, Open, Append, Truncate, Publish, Prune, Clear, Commit, Sync, Complete, Leave, End, Done, Refused, Stopped, Event, Restart, Called, Read}
use Rattle.ledger.specs.Runs.{Log, fresh, over, opened, trimmed, staged, running, leaving, end_of, handed_in, packed, rule_of, Records, HandsIn, Happened}
use Rattle.ledger.proofs.Blobs.{impossible}

-- plans that are refused alike ------------------------------------------------------------------

abbrev Alike : Plan Log → Plan Log → Type 0
Alike p q = (v w : View) (f : Fault) → Follows p v (refused f) w → Follows q v (refused f) w

alike_if : (b : Bool) (f : Fault) (p q : Plan Log) → Alike p q → Alike (refuse_if b f p) (refuse_if b f q)
alike_if true f p q a = λ v w e h. h
alike_if false f p q a = a

module _ {A : Type 0} (g : A → Log) where
  unrefused : {B : Type 0} (os : List Op) (x : A) (v w : View) (f : Fault) → Follows (leaving g (calls os (answer x))) v (refused f) w → B
  unrefused [] x v w f h = let e = h.0 in impossible cc
  unrefused (o ∷ os) x v w f (inl (u, does, h)) = unrefused os x u w f h
  unrefused (o ∷ os) x v w f (inr (y, e, n)) = impossible cc

  alike_one : (b : Bool) (e : Fault) (os qs : List Op) (x y : A) → Alike (leaving g (refuse_if b e (ask (calls os (answer x))))) (leaving g (refuse_if b e (ask (calls qs (answer y)))))
  alike_one true e os qs x y = λ v w f h. h
  alike_one false e os qs x y = λ v w f h. elim h [
    | inl i ↦ unrefused os x v w f i.1
    | inr i ↦ let s = i.1.1 in impossible cc
  ]

  alike_two : (a : Bool) (d : Fault) (b : Bool) (e : Fault) (os qs : List Op) (x y : A) → Alike (leaving g (refuse_if a d (refuse_if b e (calls os (answer x))))) (leaving g (refuse_if a d (refuse_if b e (calls qs (answer y)))))
  alike_two true d b e os qs x y = λ v w f h. h
  alike_two false d true e os qs x y = λ v w f h. h
  alike_two false d false e os qs x y = λ v w f h. unrefused os x v w f h

-- an append is refused by the count of its records
alike_append : (c : Config) (r : Running) (g : Running × ℕ → Log) (bs ds : List (List ℕ)) → length bs ≡ length ds → Alike (leaving g (append_rule c r bs)) (leaving g (append_rule c r ds))
alike_append c r g bs ds same =
    let ops : List Op = appending c r.end r.owed [] ds in
    let end : ℕ = r.end + length ds in
    let ans : Running × ℕ = (record { start = r.start; end = end; owed = owed_after c r end }, end - 1) in
    subst (λ (n : ℕ). Alike (leaving g (append_rule c r bs)) (leaving g (refuse_if (eqb n 0) EmptyAppend (refuse_if (ltb MAX (r.end + n)) SizeOverflow (calls ops (answer ans)))))) same
    (alike_two g (eqb (length bs) 0) EmptyAppend (ltb MAX (r.end + length bs)) SizeOverflow (appending c r.end r.owed [] bs) ops _ ans)

module _ {R : Type 0} (c : Config) (writes : R → List ℕ) where
  -- a value of another length is written as Z zeros
  abbrev pub padded : R → List ℕ
  padded r = cond (eqb (length (writes r)) c.z) (writes r) (replicate c.z 0)

  pub padded_sized : (r : R) → length (padded r) ≡ c.z
  padded_sized r =
      cond_both (eqb (length (writes r)) c.z) (writes r) (replicate c.z 0) (λ (bs : List ℕ). length bs ≡ c.z) (λ e. eqb-true (length (writes r)) c.z e) (λ e. length-replicate c.z 0)

  padded_same : (r : R) → length (writes r) ≡ c.z → padded r ≡ writes r
  padded_same r e = cond-true (eqb (length (writes r)) c.z) (writes r) (replicate c.z 0) (eq-eqb (length (writes r)) c.z e)

  module _ (decodes : List ℕ → Option R) where
    all_same : (rs : List R) → Records c writes decodes rs → map writes rs ≡ map padded rs
    all_same [] k = refl
    all_same (r ∷ rs) k = let a = padded_same r k.0 in let b = all_same rs k.2 in cc

    records_padded : (rs : List R) → Records c writes decodes rs → Records c padded decodes rs
    records_padded [] k = tt
    records_padded (r ∷ rs) k = (padded_sized r, ap decodes (padded_same r k.0) ∙ k.1, records_padded rs k.2)

    hands_padded : (x : Call R) (e : End) → HandsIn c writes decodes x e → HandsIn c padded decodes x e
    hands_padded x Done k = records_padded (handed_in x) k
    hands_padded x (Refused f) k = tt
    hands_padded x (Stopped y) k = records_padded (handed_in x) k

    -- a plan for records that are written as they are, and one for them padded
    follows_padded : (x : Call R) (p q : Plan Log) → (Records c writes decodes (handed_in x) → p ≡ q) → Alike p q → (v w : View) (r : Outcome Log) (e : End) → e ≡ end_of r → HandsIn c writes decodes x e → Follows p v r w
        → Follows q v r w
    follows_padded x p q same alike v w (answered m) e is k h = subst (λ (u : Plan Log). Follows u v (answered m) w) (same (subst (λ (u : End). HandsIn c writes decodes x u) is k)) h
    follows_padded x p q same alike v w (refused f) e is k h = alike v w f h
    follows_padded x p q same alike v w (stopped s y) e is k h = subst (λ (u : Plan Log). Follows u v (stopped s y) w) (same (subst (λ (u : End). HandsIn c writes decodes x u) is k)) h

    module _ (v w : View) (r : Outcome Log) (e : End) (is : e ≡ end_of r) where
      abbrev Padded : Log → Call R → Type 0
      Padded k x = (q : Plan Log) × (rule_of c padded decodes k v.disk x ≡ Some q) × Follows q v r w

      append_padded : (k : Log) (rs : List R) (lent : ℕ) (p : Plan Log) → HandsIn c writes decodes (Append rs lent) e → rule_of c writes decodes k v.disk (Append rs lent) ≡ Some p → Follows p v r w → Padded k (Append rs lent)
      append_padded fresh rs lent p k rule h = (p, rule, h)
      append_padded over rs lent p k rule h = (p, rule, h)
      append_padded (opened o) rs lent p k rule h = (p, rule, h)
      append_padded (trimmed o) [] lent p k rule h = (p, rule, h)
      append_padded (trimmed o) (a ∷ []) lent p k rule h =
          let plan : List ℕ → Plan Log = λ bs. packed c writes decodes (a ∷ []) lent (leaving trimmed (trimmed_append_rule c v.disk o bs)) in
          let at : p ≡ plan (writes a) = cc in (
            plan (padded a),
            refl,
            follows_padded (Append (a ∷ []) lent) (plan (writes a)) (plan (padded a)) (λ n. ap plan (sym (padded_same a n.0)))
                (alike_if _ _ (leaving trimmed (trimmed_append_rule c v.disk o (writes a))) (leaving trimmed (trimmed_append_rule c v.disk o (padded a))) (alike_one trimmed (leb MAX o.end) SizeOverflow _ _ _ _))
                v w r e is k (subst (λ (u : Plan Log). Follows u v r w) at h),
          )
      append_padded (trimmed o) (a ∷ (b ∷ rs)) lent p k rule h = (p, rule, h)
      append_padded (staged t) rs lent p k rule h = (p, rule, h)
      append_padded (running g) rs lent p k rule h =
          let run : List (List ℕ) → Plan Log = λ bs. leaving (λ x. running x.0) (append_rule c g bs) in
          let plan : List (List ℕ) → Plan Log = λ bs. packed c writes decodes rs lent (run bs) in
          let at : p ≡ plan (map writes rs) = cc in (
            plan (map padded rs),
            refl,
            follows_padded (Append rs lent) (plan (map writes rs)) (plan (map padded rs)) (λ n. ap plan (all_same rs n))
                (alike_if _ _ (run (map writes rs)) (run (map padded rs)) (alike_append c g (λ x. running x.0) (map writes rs) (map padded rs) (length-map rs writes ∙ sym (length-map rs padded))))
                v w r e is k (subst (λ (u : Plan Log). Follows u v r w) at h),
          )

      -- no other rule looks at how records are written
      rule_padded : (k : Log) (x : Call R) (p : Plan Log) → HandsIn c writes decodes x e → rule_of c writes decodes k v.disk x ≡ Some p → Follows p v r w → Padded k x
      rule_padded l (Open o) p k rule h = (p, rule, h)
      rule_padded l (Append rs lent) p k rule h = append_padded l rs lent p k rule h
      rule_padded l (Truncate m) p k rule h = (p, rule, h)
      rule_padded l (Publish m) p k rule h = (p, rule, h)
      rule_padded l (Prune n) p k rule h = (p, rule, h)
      rule_padded l (Clear t) p k rule h = (p, rule, h)
      rule_padded l Commit p k rule h = (p, rule, h)
      rule_padded l Sync p k rule h = (p, rule, h)
      rule_padded l Complete p k rule h = (p, rule, h)
      rule_padded l Leave p k rule h = (p, rule, h)

    pub as_padded : (es : List (Event R)) (l : Log) (w : View) → Happened c writes decodes es l w → Happened c padded decodes es l w
    as_padded [] l w h = h
    as_padded (Restart ∷ es) l w (k, v, before, restart, law, fresh-is) = (k, v, as_padded es k v before, restart, law, fresh-is)
    as_padded (Called x e s ∷ es) l w (k, v, p, r, before, rule, follows, law, hands, is, next, span) =
        let q = rule_padded v w r e is k x p hands rule follows in
        (k, v, q.0, r, as_padded es k v before, q.1, q.2, law, hands_padded x e hands, is, next, span)
    as_padded (Read q a ∷ es) l w (s, before, span, told) = (s, as_padded es l w before, span, told)
