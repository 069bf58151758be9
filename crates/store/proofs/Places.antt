-- Every definition of specs/Disk.antt that walks the blobs, by the place of the number that it looks for.
-- A store finds the place i once (Sought), and each lemma turns the walk into an edit at i.
use Rattle.std.proofs.Common.{◌≡◌, ℕ, zero, suc, ◌<◌, ◌≤◌, Bool, true, false, eqb, ltb, [], ◌∷◌, length, get_or, set, Some, None, Option, sym, refl, ap, inl, inr, arith}
use Rattle.std.proofs.lemmas.Bool.{eq-eqb, ne_eqb, lt-ltb, le-ltb, cases_order}
use Rattle.std.specs.List.{insert as inserted, remove}
use Rattle.store.specs.Disk.{Blob, Blobs, blank, find, numbers, at_or_above, at_or_below_or, change, insert, without}
use Rattle.store.specs.Laws.{Rising}

pub length_numbers : (xs : Blobs) → length (numbers xs) ≡ length xs
length_numbers [] = refl
length_numbers (x ∷ xs) = ap suc (length_numbers xs)

-- what a changed blob is found as
pub find_changed : (f : Blob → Blob) (b : ℕ) (xs : Blobs) (x : Blob) → find xs b ≡ Some x → find (change f b xs) b ≡ Some (f x)
find_changed f b [] x e = absurd (let z : ◌≡◌ {A = ℕ} 0 1 = cc in omega arith)
find_changed f b (y ∷ xs) x e = by_test (eqb y.0 b) refl (λ r. find_changed f b xs x r)
  where
    by_test : (t : Bool) → eqb y.0 b ≡ t → (find xs b ≡ Some x → find (change f b xs) b ≡ Some (f x)) → find (change f b (y ∷ xs)) b ≡ Some (f x)
    by_test true s rec = let g : Some y.1 ≡ Some x = simp s at e in simp (s, s) (let q : y.1 ≡ x = cc in ap (λ z. Some (f z)) q)
    by_test false s rec = simp (s, s) (rec (simp s at e))

-- the number is there, at i ------------------------------------------------------------------------

module _ (b : ℕ) where
  pub find_here : (xs : Blobs) (i : ℕ) → i < length xs → ((k : ℕ) → k < i → get_or (numbers xs) k 0 < b) → get_or (numbers xs) i 0 ≡ b
      → find xs b ≡ Some (get_or xs i (0, blank)).1
  find_here [] i l h e = absurd (omega arith)
  find_here (x ∷ xs) zero l h e = let t = eq-eqb x.0 b e in simp t
  find_here (x ∷ xs) (suc i) l h e =
      let t : eqb x.0 b ≡ false = ne_eqb x.0 b (λ f. omega (arith, h 0 (omega arith))) in
      simp t (find_here xs i (omega arith) (λ k m. h (suc k) (omega arith)) e)

  pub change_here : (f : Blob → Blob) (xs : Blobs) (i : ℕ) → i < length xs → ((k : ℕ) → k < i → get_or (numbers xs) k 0 < b) → get_or (numbers xs) i 0 ≡ b
      → change f b xs ≡ set xs i (b, f (get_or xs i (0, blank)).1)
  change_here f [] i l h e = absurd (omega arith)
  change_here f (x ∷ xs) zero l h e = let t = eq-eqb x.0 b e in simp t (ap (λ n. (n, f x.1) ∷ xs) e)
  change_here f (x ∷ xs) (suc i) l h e =
      let t : eqb x.0 b ≡ false = ne_eqb x.0 b (λ f. omega (arith, h 0 (omega arith))) in
      simp t (ap (λ r. x ∷ r) (change_here f xs i (omega arith) (λ k m. h (suc k) (omega arith)) e))

  pub without_here : (xs : Blobs) (i : ℕ) → i < length xs → ((k : ℕ) → k < i → get_or (numbers xs) k 0 < b) → get_or (numbers xs) i 0 ≡ b
      → without b xs ≡ remove xs i
  without_here [] i l h e = absurd (omega arith)
  without_here (x ∷ xs) zero l h e = let t = eq-eqb x.0 b e in simp t
  without_here (x ∷ xs) (suc i) l h e =
      let t : eqb x.0 b ≡ false = ne_eqb x.0 b (λ f. omega (arith, h 0 (omega arith))) in
      simp t (ap (λ r. x ∷ r) (without_here xs i (omega arith) (λ k m. h (suc k) (omega arith)) e))

  pub insert_here : (xs : Blobs) (i : ℕ) → i < length xs → ((k : ℕ) → k < i → get_or (numbers xs) k 0 < b) → get_or (numbers xs) i 0 ≡ b
      → insert b xs ≡ xs
  insert_here [] i l h e = absurd (omega arith)
  insert_here (x ∷ xs) zero l h e =
      let t = eq-eqb b x.0 (sym e) in let u : ltb b x.0 ≡ false = le-ltb b x.0 (omega arith) in simp (u, t)
  insert_here (x ∷ xs) (suc i) l h e =
      let m = h 0 (omega arith) in
      let t : eqb b x.0 ≡ false = ne_eqb b x.0 (λ f. omega arith) in
      let u : ltb b x.0 ≡ false = le-ltb b x.0 (omega arith) in
      simp (u, t) (ap (λ r. x ∷ r) (insert_here xs i (omega arith) (λ k m. h (suc k) (omega arith)) e))

  -- the number is not there, and would stand at i ----------------------------------------------------

  pub find_none : (xs : Blobs) → ((k : ℕ) → k < length xs → get_or (numbers xs) k 0 ≡ b → ⊥) → find xs b ≡ None
  find_none [] h = refl
  find_none (x ∷ xs) h =
      let t : eqb x.0 b ≡ false = ne_eqb x.0 b (h 0 (omega arith)) in simp t (find_none xs (λ k m. h (suc k) (omega arith)))

  -- the same, from the place: past it the numbers are above b
  pub find_missing : (xs : Blobs) (i : ℕ) → Rising (numbers xs) → ((k : ℕ) → k < i → get_or (numbers xs) k 0 < b)
      → (i < length xs → b < get_or (numbers xs) i 0) → find xs b ≡ None
  find_missing xs i r h a =
      let n = length_numbers xs in
      find_none xs
      (λ k l e. elim (cases_order k i) [
        | inl s ↦ omega (arith, a (omega arith), ap (λ m. get_or (numbers xs) m 0) s)
        | inr (inl s) ↦ omega (arith, h k s)
        | inr (inr s) ↦ omega (arith, a (omega arith), r i k s (omega arith))
      ])

  pub insert_new : (xs : Blobs) (i : ℕ) → i ≤ length xs → ((k : ℕ) → k < i → get_or (numbers xs) k 0 < b)
      → (i < length xs → b < get_or (numbers xs) i 0) → insert b xs ≡ inserted xs i (b, blank)
  insert_new [] zero l h a = refl
  insert_new [] (suc i) l h a = absurd (omega arith)
  insert_new (x ∷ xs) zero l h a = let t = lt-ltb b x.0 (a (omega arith)) in simp t
  insert_new (x ∷ xs) (suc i) l h a =
      let m = h 0 (omega arith) in
      let t : eqb b x.0 ≡ false = ne_eqb b x.0 (λ f. omega arith) in
      let u : ltb b x.0 ≡ false = le-ltb b x.0 (omega arith) in
      simp (u, t) (ap (λ r. x ∷ r) (insert_new xs i (omega arith) (λ k m. h (suc k) (omega arith)) (λ m. a (omega arith))))

  -- listing ------------------------------------------------------------------------------------------

  pub above_here : (xs : Blobs) (i : ℕ) → i < length xs → ((k : ℕ) → k < i → get_or (numbers xs) k 0 < b) → b ≤ get_or (numbers xs) i 0
      → at_or_above b xs ≡ Some (get_or (numbers xs) i 0)
  above_here [] i l h a = absurd (omega arith)
  above_here (x ∷ xs) zero l h a = let t = le-ltb x.0 b a in simp t
  above_here (x ∷ xs) (suc i) l h a =
      let t = lt-ltb x.0 b (h 0 (omega arith)) in simp t (above_here xs i (omega arith) (λ k m. h (suc k) (omega arith)) a)

  pub above_none : (xs : Blobs) → ((k : ℕ) → k < length xs → get_or (numbers xs) k 0 < b) → at_or_above b xs ≡ None
  above_none [] h = refl
  above_none (x ∷ xs) h =
      let t = lt-ltb x.0 b (h 0 (omega arith)) in simp t (above_none xs (λ k m. h (suc k) (omega arith)))

  pub below_none : (d : Option ℕ) (xs : Blobs) → (0 < length xs → b < get_or (numbers xs) 0 0) → at_or_below_or d b xs ≡ d
  below_none d [] a = refl
  below_none d (x ∷ xs) a = let t = lt-ltb b x.0 (a (omega arith)) in simp t

  -- i is the last place whose number is not above b
  pub below_here : (d : Option ℕ) (xs : Blobs) (i : ℕ) → i < length xs → ((k : ℕ) → k < suc i → get_or (numbers xs) k 0 ≤ b)
      → (suc i < length xs → b < get_or (numbers xs) (suc i) 0) → at_or_below_or d b xs ≡ Some (get_or (numbers xs) i 0)
  below_here d [] i l h a = absurd (omega arith)
  below_here d (x ∷ xs) zero l h a =
      let t = le-ltb b x.0 (h 0 (omega arith)) in simp t (below_none (Some x.0) xs (λ m. a (omega arith)))
  below_here d (x ∷ xs) (suc i) l h a =
      let t = le-ltb b x.0 (h 0 (omega arith)) in
      simp t (below_here (Some x.0) xs i (omega arith) (λ k m. h (suc k) (omega arith)) (λ m. a (omega arith)))

  -- a number that has been inserted is found -------------------------------------------------------

  pub insert_finds : (xs : Blobs) → find (insert b xs) b ≡ None → ⊥
  insert_finds [] e = let t = eq-eqb b b refl in let q : Some blank ≡ None = simp t at e in let z : ◌≡◌ {A = ℕ} 0 1 = cc in omega arith
  insert_finds (x ∷ xs) e =
      elim (cases_order b x.0) [
        | inl q ↦ let u : ltb b x.0 ≡ false = le-ltb b x.0 (omega arith) in
            let t = eq-eqb b x.0 q in
            let v = eq-eqb x.0 b (sym q) in
            let n : Some x.1 ≡ None = simp (u, t, v) at e in
            let z : ◌≡◌ {A = ℕ} 0 1 = cc in
            omega arith
        | inr (inl q) ↦ let u = lt-ltb b x.0 q in
            let v = eq-eqb b b refl in
            let n : Some blank ≡ None = simp (u, v) at e in
            let z : ◌≡◌ {A = ℕ} 0 1 = cc in
            omega arith
        | inr (inr q) ↦ let u : ltb b x.0 ≡ false = le-ltb b x.0 (omega arith) in
            let t : eqb b x.0 ≡ false = ne_eqb b x.0 (λ f. omega arith) in
            let v : eqb x.0 b ≡ false = ne_eqb x.0 b (λ f. omega arith) in
            insert_finds xs (simp (u, t, v) at e)
      ]
