-- The two highest blobs, examined one after the other.
use Rattle.std.proofs.Common.{◌≡◌, ℕ, [], ◌∷◌, ◌++◌, reverse, Some, None, Option, sym, refl, ap, ◌∙◌, subst, append_assoc, arith}
use Rattle.store.specs.Disk.{Blob, Blobs, View, find, change}
use Rattle.store.specs.Laws.{Lawful}
use Rattle.rules.specs.Rules.{Config, Plan, Follows}
use Rattle.rules.specs.Open.{Opened, below, examine, examine_two}
use Rattle.journal.specs.declared.fault.Fault.{Fault}
use Rattle.journal.specs.Recovery.{Ends, Leads, Stood, highest}
use Rattle.journal.proofs.Taken.{impossible}
use Rattle.journal.proofs.Walking.{up_store, find_below}
use Rattle.journal.proofs.Highest.{last_below, last_none, last_split, below_below, below_change, change_above, change_at, turned, turned_two}

-- the highest blob below an edge, and those below it
pub record Split (e b : ℕ) (xs : Blobs) : Type 0 where
  pub blob : Blob
  pub found : find xs b ≡ Some blob
  pub is : below e xs ≡ below b xs ++ ((b, blob) ∷ [])

pub split_at : (e b : ℕ) (v : View) → Lawful v → highest (below e v.disk.blobs) ≡ Some b → Split e b v.disk.blobs
split_at e b v laws q =
    let xs = v.disk.blobs in
    let h = last_split 0 b (below e xs) (up_store v e laws) q in
    let l = last_below e b None xs (λ k r. impossible (let z : ◌≡◌ {A = ℕ} 0 1 = cc in z)) q in
    record {
      blob = h.blob;
      found = find_below e b xs h.blob h.found;
      is = h.is ∙ ap (λ (zs : Blobs). zs ++ ((b, h.blob) ∷ [])) (below_below b e xs (omega arith));
    }

module _ (c : Config) (s : ℕ) (ceiling : Option ℕ) (floor : ℕ) where
  -- what is left of the rule after the higher one
  abbrev pub second : ℕ × Blob → Blobs → (Blobs → Plan Opened) → Plan Opened
  second p [] k = k (p ∷ [])
  second p (y ∷ ys) k = examine c s ceiling floor y (λ y'. k (reverse (p ∷ (y' ∷ ys))))

  pub two_is : (x : ℕ × Blob) (ys : Blobs) (k : Blobs → Plan Opened) → examine_two c s ceiling floor (x ∷ ys) k ≡ examine c s ceiling floor x (λ x'. second x' ys k)
  two_is x [] k = refl
  two_is x (y ∷ ys) k = refl

  pub two_none : (e : ℕ) (v : View) → highest (below e v.disk.blobs) ≡ None → (k : Blobs → Plan Opened)
      → Leads (examine_two c s ceiling floor (reverse (below e v.disk.blobs)) k) v (k (below e v.disk.blobs)) v
  two_none e v q k r y =
      let z = last_none (below e v.disk.blobs) q in
      subst (λ (bs : Blobs). Follows (k bs) v r y → Follows (examine_two c s ceiling floor (reverse bs) k) v r y) (sym z) (λ f. f)

  module _ (e b : ℕ) (v : View) (p : Split e b v.disk.blobs) where
    pub rule_is : (k : Blobs → Plan Opened) → examine_two c s ceiling floor (reverse (below e v.disk.blobs)) k
        ≡ examine c s ceiling floor (b, p.blob) (λ x. second x (reverse (below b v.disk.blobs)) k)
    rule_is k =
        let t : reverse (below e v.disk.blobs) ≡ (b, p.blob) ∷ reverse (below b v.disk.blobs) = ap (λ (bs : Blobs). reverse bs) p.is ∙ turned (below b v.disk.blobs) (b, p.blob) in
        ap (λ (bs : Blobs). examine_two c s ceiling floor bs k) t ∙ two_is (b, p.blob) (reverse (below b v.disk.blobs)) k

    pub first_stops : (f : Fault) (w : View) → ((k : ℕ × Blob → Plan Opened) → Ends (examine c s ceiling floor (b, p.blob) k) v f w) → (k : Blobs → Plan Opened)
        → Ends (examine_two c s ceiling floor (reverse (below e v.disk.blobs)) k) v f w
    first_stops f w h k = subst (λ (q : Plan Opened). Ends q v f w) (sym (rule_is k)) (h (λ x. second x (reverse (below b v.disk.blobs)) k))

    module _ (u : View) (st : Stood c s ceiling floor b p.blob v u) where
      lower : below b u.disk.blobs ≡ below b v.disk.blobs
      lower = ap (below b) st.blobs ∙ (below_change (λ _. st.blob) b b v.disk.blobs ∙ change_above (λ _. st.blob) b v.disk.blobs)

      whole : below e u.disk.blobs ≡ below b u.disk.blobs ++ ((b, st.blob) ∷ [])
      whole =
          ap (below e) st.blobs
          ∙ (below_change (λ _. st.blob) b e v.disk.blobs
          ∙ (ap (change (λ _. st.blob) b) p.is
          ∙ (change_at (λ _. st.blob) b p.blob [] v.disk.blobs ∙ ap (λ (zs : Blobs). zs ++ ((b, st.blob) ∷ [])) (sym lower))))

      after : (k : Blobs → Plan Opened) → Leads (examine_two c s ceiling floor (reverse (below e v.disk.blobs)) k) v (second (b, st.blob) (reverse (below b u.disk.blobs)) k) u
      after k r y f =
          subst (λ (q : Plan Opened). Follows q v r y) (sym (rule_is k))
          (st.leads (λ x. second x (reverse (below b v.disk.blobs)) k) r y (subst (λ (zs : Blobs). Follows (second (b, st.blob) (reverse zs) k) u r y) lower f))

      pub one_only : highest (below b u.disk.blobs) ≡ None → (k : Blobs → Plan Opened)
          → Leads (examine_two c s ceiling floor (reverse (below e v.disk.blobs)) k) v (k (below e u.disk.blobs)) u
      one_only q k r y f =
          let z = last_none (below b u.disk.blobs) q in
          let w : below e u.disk.blobs ≡ (b, st.blob) ∷ [] = whole ∙ ap (λ (zs : Blobs). zs ++ ((b, st.blob) ∷ [])) z in
          after k r y (subst (λ (zs : Blobs). Follows (second (b, st.blob) (reverse zs) k) u r y) (sym z) (subst (λ (bs : Blobs). Follows (k bs) u r y) w f))

      module _ (n : ℕ) (o : Split b n u.disk.blobs) where
        then_is : (k : Blobs → Plan Opened) → second (b, st.blob) (reverse (below b u.disk.blobs)) k
            ≡ examine c s ceiling floor (n, o.blob) (λ y. k (reverse ((b, st.blob) ∷ (y ∷ reverse (below n u.disk.blobs)))))
        then_is k =
            let t : reverse (below b u.disk.blobs) ≡ (n, o.blob) ∷ reverse (below n u.disk.blobs) = ap (λ (bs : Blobs). reverse bs) o.is ∙ turned (below n u.disk.blobs) (n, o.blob) in
            ap (λ (ys : Blobs). second (b, st.blob) ys k) t

        pub second_stops : (f : Fault) (w : View) → ((k : ℕ × Blob → Plan Opened) → Ends (examine c s ceiling floor (n, o.blob) k) u f w) → (k : Blobs → Plan Opened)
            → Ends (examine_two c s ceiling floor (reverse (below e v.disk.blobs)) k) v f w
        second_stops f w h k =
            let g = subst (λ (q : Plan Opened). Ends q u f w) (sym (then_is k)) (h (λ y. k (reverse ((b, st.blob) ∷ (y ∷ reverse (below n u.disk.blobs)))))) in
            (g.0, g.1, after k g.0 w g.2)

        pub both : (w : View) → Stood c s ceiling floor n o.blob u w → (k : Blobs → Plan Opened)
            → Leads (examine_two c s ceiling floor (reverse (below e v.disk.blobs)) k) v (k (below e w.disk.blobs)) w
        both w sw k r y f =
            let zs = below n u.disk.blobs in
            let q : below e u.disk.blobs ≡ zs ++ ((n, o.blob) ∷ ((b, st.blob) ∷ [])) =
            whole ∙ (ap (λ (us : Blobs). us ++ ((b, st.blob) ∷ [])) o.is ∙ append_assoc zs ((n, o.blob) ∷ []) ((b, st.blob) ∷ [])) in
            let t : below e w.disk.blobs ≡ zs ++ ((n, sw.blob) ∷ ((b, st.blob) ∷ [])) =
            ap (below e) sw.blobs
            ∙ (below_change (λ _. sw.blob) n e u.disk.blobs
            ∙ (ap (change (λ _. sw.blob) n) q ∙ change_at (λ _. sw.blob) n o.blob ((b, st.blob) ∷ []) u.disk.blobs)) in
            let m = turned_two zs (b, st.blob) (n, sw.blob) in
            after k r y
            (subst (λ (p' : Plan Opened). Follows p' u r y) (sym (then_is k))
            (sw.leads (λ y'. k (reverse ((b, st.blob) ∷ (y' ∷ reverse zs)))) r y (subst (λ (bs : Blobs). Follows (k bs) w r y) (t ∙ sym m) f)))
