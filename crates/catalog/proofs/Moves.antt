-- A row more, and a row less: the rows, their numbers and their parts.
use Rattle.std.proofs.Common.{◌≡◌, ℕ, suc, ◌+◌, ◌-◌, ◌<◌, ◌≤◌, List, [], ◌∷◌, ◌++◌, map, length, get_or, take, drop, sym, ap, ◌∙◌, subst, inl, inr, append_assoc, add-one, arith, length-drop, take-append-drop, length-take}
use borrow.Rule.Slice.PartMut.{put_mid}
use Rattle.std.specs.List.{insert, remove}
use Rattle.std.proofs.lemmas.List.{map-append, take-map, drop-map, take-take, drop-drop, drop_more, get_or-take, length-take-le}
use Rattle.std.proofs.lemmas.Slice.{between_is}
use Rattle.std.proofs.lemmas.List.Edits.{length-insert, length-remove, get_or-insert_below, get_or-insert_at, get_or-insert_above, get_or-remove_below, get_or-remove_above}
use Rattle.std.proofs.lemmas.Bool.{cases_order, cases_lt}
use Rattle.store.specs.Laws.{Rising}
use Rattle.store.specs.Occurs.{occurs}
use Rattle.store.proofs.Occurs.{occurs_append}

-- the moves of the code ------------------------------------------------------------------------------

pub inserted_rows : {A : Type 0} (rs : List A) (n i : ℕ) (y : A) (ys : List A) → i ≤ n → n < length rs
    → ys ≡ y ∷ take (length (take (n + 1 - i) (drop i rs)) - 1) (take (n + 1 - i) (drop i rs))
    → put_mid i (n + 1 - i) rs ys ≡ insert (take n rs) i y ++ drop (suc n) rs
inserted_rows rs n i y ys l m e =
    let k = n + 1 - i in
    let s : length (take k (drop i rs)) - 1 ≡ n - i = simp (length-take, length-drop) (omega arith) in
    let f : ys ≡ y ∷ drop i (take n rs) =
    e ∙ ap (λ j. y ∷ take j (take k (drop i rs))) s
    ∙ ap (λ zs. y ∷ zs) (take-take (n - i) k (drop i rs) (omega arith) ∙ between_is rs i n) in
    let d : drop k (drop i rs) ≡ drop (suc n) rs = drop-drop k i rs ∙ ap (λ j. drop j rs) (let q : i + k ≡ suc n = omega arith in q) in
    ap (λ zs. take i rs ++ (zs ++ drop k (drop i rs))) f
    ∙ ap (λ zs. take i rs ++ ((y ∷ drop i (take n rs)) ++ zs)) d
    ∙ ap (λ zs. zs ++ ((y ∷ drop i (take n rs)) ++ drop (suc n) rs)) (sym (take-take i n rs l))
    ∙ sym (append_assoc (take i (take n rs)) (y ∷ drop i (take n rs)) (drop (suc n) rs))

pub removed_rows : {A : Type 0} (rs : List A) (n i : ℕ) (d : A) (ys : List A) → i < n → n ≤ length rs
    → ys ≡ drop 1 (take (n - i) (drop i rs)) ++ take 1 (take (n - i) (drop i rs))
    → put_mid i (n - i) rs ys ≡ remove (take n rs) i ++ get_or rs i d ∷ drop n rs
removed_rows rs n i d ys l m e =
    let L = take n rs in
    let seg : take (n - i) (drop i rs) ≡ drop i L = between_is rs i n in
    let len : length L ≡ n = length-take-le n rs m in
    let c : drop i L ≡ get_or rs i d ∷ drop (i + 1) L =
    drop_more L i d (omega arith) ∙ ap (λ r. r ∷ drop (i + 1) L) (get_or-take n rs i d l) in
    let f : ys ≡ drop (suc i) L ++ get_or rs i d ∷ [] =
    e ∙ ap (λ zs. drop 1 zs ++ take 1 zs) (seg ∙ c) ∙ ap (λ j. drop j L ++ get_or rs i d ∷ []) (add-one i) in
    let t : drop (n - i) (drop i rs) ≡ drop n rs = drop-drop (n - i) i rs ∙ ap (λ j. drop j rs) (let q : i + (n - i) ≡ n = omega arith in q) in
    ap (λ zs. take i rs ++ (zs ++ drop (n - i) (drop i rs))) f
    ∙ ap (λ zs. take i rs ++ ((drop (suc i) L ++ get_or rs i d ∷ []) ++ zs)) t
    ∙ ap (λ zs. take i rs ++ zs) (append_assoc (drop (suc i) L) (get_or rs i d ∷ []) (drop n rs))
    ∙ ap (λ zs. zs ++ (drop (suc i) L ++ get_or rs i d ∷ drop n rs)) (sym (take-take i n rs (omega arith)))
    ∙ sym (append_assoc (take i L) (drop (suc i) L) (get_or rs i d ∷ drop n rs))

pub map_inserted : {A B : Type 0} (f : A → B) (xs : List A) (i : ℕ) (y : A) → map f (insert xs i y) ≡ insert (map f xs) i (f y)
map_inserted f xs i y =
    map-append f (take i xs) (y ∷ drop i xs)
    ∙ ap (λ zs. zs ++ f y ∷ map f (drop i xs)) (sym (take-map f i xs))
    ∙ ap (λ zs. take i (map f xs) ++ f y ∷ zs) (sym (drop-map f i xs))

pub map_removed : {A B : Type 0} (f : A → B) (xs : List A) (i : ℕ) → map f (remove xs i) ≡ remove (map f xs) i
map_removed f xs i =
    map-append f (take i xs) (drop (suc i) xs)
    ∙ ap (λ zs. zs ++ map f (drop (suc i) xs)) (sym (take-map f i xs))
    ∙ ap (λ zs. take i (map f xs) ++ zs) (sym (drop-map f (suc i) xs))

-- what holds at each place ---------------------------------------------------------------------------

inserted_past : {A : Type 0} (xs : List A) (i : ℕ) (y d : A) (k : ℕ) → i < k → i ≤ length xs → get_or (insert xs i y) k d ≡ get_or xs (k - 1) d
inserted_past xs i y d k l m =
    ap (λ j. get_or (insert xs i y) j d) (let q : k ≡ k - 1 + 1 = omega arith in q) ∙ get_or-insert_above xs i y d (k - 1) (omega arith) m

-- a fact of each old element and of the new one
pub inserted_each : {A : Type 0} (P : A → Type 0) (d : A) (xs : List A) (i : ℕ) (y : A) → i ≤ length xs
    → ((k : ℕ) → k < length xs → P (get_or xs k d)) → P y → (k : ℕ) → k < length (insert xs i y) → P (get_or (insert xs i y) k d)
inserted_each P d xs i y m h p k l =
    let n = length-insert xs i y m in
    elim (cases_order k i) [
      | inl e ↦ subst P (sym (ap (λ j. get_or (insert xs i y) j d) e ∙ get_or-insert_at xs i y d m)) p
      | inr (inl b) ↦ subst P (sym (get_or-insert_below xs i y d k b m)) (h k (omega arith))
      | inr (inr a) ↦ subst P (sym (inserted_past xs i y d k a m)) (h (k - 1) (omega arith))
    ]

pub removed_each : {A : Type 0} (P : A → Type 0) (d : A) (xs : List A) (i : ℕ) → i < length xs
    → ((k : ℕ) → k < length xs → P (get_or xs k d)) → (k : ℕ) → k < length (remove xs i) → P (get_or (remove xs i) k d)
removed_each P d xs i m h k l =
    let n = length-remove xs i m in
    elim (cases_lt k i) [
      | inl b ↦ subst P (sym (get_or-remove_below xs i d k b m)) (h k (omega arith))
      | inr a ↦ subst P (sym (get_or-remove_above xs i d k a m)) (h (k + 1) (omega arith))
    ]

pub rising_inserted : (ns : List ℕ) (i b : ℕ) → i ≤ length ns → Rising ns → ((k : ℕ) → k < i → get_or ns k 0 < b)
    → (i < length ns → b < get_or ns i 0) → Rising (insert ns i b)
rising_inserted ns i b m r before after j k l h =
    let n = length-insert ns i b m in
    let past : (q : ℕ) → i ≤ q → q < length ns → b < get_or ns q 0 =
    λ q s t. elim (cases_order i q) [
      | inl e ↦ omega (arith, after (omega arith), ap (λ z. get_or ns z 0) e)
      | inr (inl u) ↦ omega (arith, after (omega arith), r i q u t)
      | inr (inr u) ↦ absurd (omega arith)
    ] in
    elim (cases_order k i) [
      | inl e ↦ omega (arith, ap (λ q. get_or (insert ns i b) q 0) e, get_or-insert_at ns i b 0 m, get_or-insert_below ns i b 0 j (omega arith) m, before j (omega arith))
      | inr (inl u) ↦ omega (arith, get_or-insert_below ns i b 0 k u m, get_or-insert_below ns i b 0 j (omega arith) m, r j k l (omega arith))
      | inr (inr u) ↦
          let pk = inserted_past ns i b 0 k u m in
          elim (cases_order j i) [
            | inl e ↦ omega (arith, ap (λ q. get_or (insert ns i b) q 0) e, get_or-insert_at ns i b 0 m, past (k - 1) (omega arith) (omega arith))
            | inr (inl v) ↦ omega (arith, get_or-insert_below ns i b 0 j v m, before j v, past (k - 1) (omega arith) (omega arith))
            | inr (inr v) ↦ omega (arith, inserted_past ns i b 0 j v m, r (j - 1) (k - 1) (omega arith) (omega arith))
          ]
    ]

pub rising_removed : (ns : List ℕ) (i : ℕ) → i < length ns → Rising ns → Rising (remove ns i)
rising_removed ns i m r j k l h =
    let n = length-remove ns i m in
    elim (cases_lt k i) [
      | inl u ↦ omega (arith, get_or-remove_below ns i 0 k u m, get_or-remove_below ns i 0 j (omega arith) m, r j k l (omega arith))
      | inr u ↦
          let pk = get_or-remove_above ns i 0 k u m in
          elim (cases_lt j i) [
            | inl v ↦ omega (arith, get_or-remove_below ns i 0 j v m, r j (k + 1) (omega arith) (omega arith))
            | inr v ↦ omega (arith, get_or-remove_above ns i 0 j v m, r (j + 1) (k + 1) (omega arith) (omega arith))
          ]
    ]

-- the parts: the same ones, in another order -----------------------------------------------------------

occurs_split : (p : ℕ) (xs : List ℕ) (i : ℕ) → occurs p xs ≡ occurs p (take i xs) + occurs p (drop i xs)
occurs_split p xs i = ap (occurs p) (sym (take-append-drop i xs)) ∙ occurs_append p (take i xs) (drop i xs)

pub occurs_inserted : (p : ℕ) (xs : List ℕ) (i y : ℕ) → occurs p (insert xs i y) ≡ occurs p xs + occurs p (y ∷ [])
occurs_inserted p xs i y = omega (arith, occurs_append p (take i xs) (y ∷ drop i xs), occurs_split p xs i)

pub occurs_removed : (p : ℕ) (xs : List ℕ) (i : ℕ) → i < length xs → occurs p (remove xs i) + occurs p (get_or xs i 0 ∷ []) ≡ occurs p xs
occurs_removed p xs i l =
    let d : drop i xs ≡ get_or xs i 0 ∷ drop (suc i) xs = drop_more xs i 0 l ∙ ap (λ j. get_or xs i 0 ∷ drop j xs) (add-one i) in
    omega (arith, occurs_append p (take i xs) (drop (suc i) xs), occurs_split p xs i, ap (occurs p) d)
