-- Bytes of a chain and bytes of its sectors.
use Rattle.std.proofs.Common.{◌≡◌, ℕ, zero, suc, ◌+◌, ◌-◌, ◌*◌, ◌/◌, ◌%◌, ◌<◌, ◌≤◌, min, List, [], ◌∷◌, ◌++◌, length, get_or, take, drop, sym, refl, ap, ◌∙◌, subst, arith, length-append, length-drop, max, add-one, take-add}
use Rattle.std.specs.List.{flat_map}
use Rattle.std.proofs.lemmas.List.{append_assoc, take-append-drop, take_at, take-append-le, drop-drop, drop_at, drop-append-le, length-take-le}
use Rattle.store.specs.Occurs.{occurs}
use Rattle.octets.specs.Written.{written}
use Rattle.store.proofs.Occurs.{occurs_self, occurs_at}
use Rattle.sectors.specs.declared.chain.Chain.{Chain}
use Rattle.sectors.specs.Sectors.{next_of, payload, sectors, after, once, need, Apart, Stored}
use Rattle.sectors.specs.Chains.{list, joint, Filled}
use Rattle.sectors.proofs.Links.{length_payload}
use Rattle.sectors.proofs.Paths.{inside, at_most_once, length_sectors, after_in, after_more}

-- lists -------------------------------------------------------------------------------------------

pub written_none : (mem : List ℕ) (at : ℕ) → written mem at [] ≡ mem
written_none mem at = ap (λ k. take at mem ++ drop k mem) (let e : at + 0 ≡ at = omega arith in e) ∙ take-append-drop at mem

-- a write and one right after it are one
pub written_more : (mem : List ℕ) (at : ℕ) (xs ys : List ℕ) → at + length xs + length ys ≤ length mem
    → written (written mem at xs) (at + length xs) ys ≡ written mem at (xs ++ ys)
written_more mem at xs ys l =
    let n : length (take at mem ++ xs) ≡ at + length xs = length-append (take at mem) xs ∙ ap (λ k. k + length xs) (length-take-le at mem (omega arith)) in
    let rest = drop (at + length xs) mem in
    let e : written mem at xs ≡ (take at mem ++ xs) ++ rest = sym (append_assoc (take at mem) xs rest) in
    let a : take (at + length xs) (written mem at xs) ≡ take at mem ++ xs = ap (take (at + length xs)) e ∙ take_at (take at mem ++ xs) rest (at + length xs) n in
    let b : drop (at + length xs + length ys) (written mem at xs) ≡ drop (at + length (xs ++ ys)) mem =
    sym (drop-drop (length ys) (at + length xs) (written mem at xs))
    ∙ ap (drop (length ys)) (ap (drop (at + length xs)) e ∙ drop_at (take at mem ++ xs) rest (at + length xs) n)
    ∙ drop-drop (length ys) (at + length xs) mem
    ∙ ap (λ k. drop k mem) (let z : at + length xs + length ys ≡ at + length (xs ++ ys) = omega (arith, length-append xs ys) in z) in
    ap (λ zs. zs ++ (ys ++ drop (at + length xs + length ys) (written mem at xs))) a
    ∙ ap (λ zs. (take at mem ++ xs) ++ (ys ++ zs)) b
    ∙ append_assoc (take at mem) xs (ys ++ drop (at + length (xs ++ ys)) mem)
    ∙ ap (λ zs. take at mem ++ zs) (sym (append_assoc xs ys (drop (at + length (xs ++ ys)) mem)))

written_left : (xs ys : List ℕ) (at : ℕ) (bs : List ℕ) → at + length bs ≤ length xs → written (xs ++ ys) at bs ≡ written xs at bs ++ ys
written_left xs ys at bs l =
    ap (λ zs. zs ++ (bs ++ drop (at + length bs) (xs ++ ys))) (take-append-le at xs ys (omega arith))
    ∙ ap (λ zs. take at xs ++ (bs ++ zs)) (drop-append-le (at + length bs) xs ys l)
    ∙ ap (λ zs. take at xs ++ zs) (sym (append_assoc bs (drop (at + length bs) xs) ys))
    ∙ sym (append_assoc (take at xs) (bs ++ drop (at + length bs) xs) ys)

drop_right : (xs ys : List ℕ) (n at : ℕ) → length xs ≡ n → drop (n + at) (xs ++ ys) ≡ drop at ys
drop_right xs ys n at e = sym (drop-drop at n (xs ++ ys)) ∙ ap (drop at) (drop_at xs ys n e)

pub written_right : (xs ys : List ℕ) (n at : ℕ) (bs : List ℕ) → length xs ≡ n → written (xs ++ ys) (n + at) bs ≡ xs ++ written ys at bs
written_right xs ys n at bs e =
    ap (λ zs. zs ++ (bs ++ drop (n + at + length bs) (xs ++ ys)))
    (take-add n at (xs ++ ys) ∙ ap (λ zs. zs ++ take at (drop n (xs ++ ys))) (take_at xs ys n e) ∙ ap (λ zs. xs ++ take at zs) (drop_at xs ys n e))
    ∙ ap (λ zs. (xs ++ take at ys) ++ (bs ++ zs))
    (ap (λ k. drop k (xs ++ ys)) (let z : n + at + length bs ≡ n + (at + length bs) = omega arith in z) ∙ drop_right xs ys n (at + length bs) e)
    ∙ append_assoc xs (take at ys) (bs ++ drop (at + length bs) ys)

-- payloads one after another ----------------------------------------------------------------------

abbrev pub Sixties : (ℕ → List ℕ) → List ℕ → Type 0
Sixties P xs = (q : ℕ) → 1 ≤ occurs q xs → length (P q) ≡ 60

sixty : (P : ℕ → List ℕ) (x : ℕ) (xs : List ℕ) → Sixties P (x ∷ xs) → length (P x) ≡ 60
sixty P x xs h = h x (occurs_self x xs)

rest : (P : ℕ → List ℕ) (x : ℕ) (xs : List ℕ) → Sixties P (x ∷ xs) → Sixties P xs
rest P x xs h q l = h q (omega arith)

pub length_joined : (P : ℕ → List ℕ) (xs : List ℕ) → Sixties P xs → length (flat_map P xs) ≡ 60 * length xs
length_joined P [] h = refl
length_joined P (x ∷ xs) h = omega (arith, length-append (P x) (flat_map P xs), sixty P x xs h, length_joined P xs (rest P x xs h))

piece_at : (P : ℕ → List ℕ) (xs : List ℕ) (i r n : ℕ) → Sixties P xs → i < length xs → r + n ≤ 60
    → take n (drop (60 * i + r) (flat_map P xs)) ≡ take n (drop r (P (get_or xs i 0)))
piece_at P [] i r n h l m = absurd (omega arith)
piece_at P (x ∷ xs) zero r n h l m =
    let p = sixty P x xs h in
    let d : length (drop r (P x)) ≡ 60 - r = length-drop r (P x) ∙ ap (λ k. k - r) p in
    ap (λ k. take n (drop k (P x ++ flat_map P xs))) (let e : 60 * 0 + r ≡ r = omega arith in e)
    ∙ ap (take n) (drop-append-le r (P x) (flat_map P xs) (omega arith))
    ∙ take-append-le n (drop r (P x)) (flat_map P xs) (omega arith)
piece_at P (x ∷ xs) (suc i) r n h l m =
    ap (λ k. take n (drop k (P x ++ flat_map P xs))) (let e : 60 * suc i + r ≡ 60 + (60 * i + r) = omega arith in e)
    ∙ ap (take n) (drop_right (P x) (flat_map P xs) 60 (60 * i + r) (sixty P x xs h))
    ∙ piece_at P xs i r n (rest P x xs h) (omega arith) m

pub joined_same : (P Q : ℕ → List ℕ) (xs : List ℕ) → ((q : ℕ) → 1 ≤ occurs q xs → Q q ≡ P q) → flat_map Q xs ≡ flat_map P xs
joined_same P Q [] h = refl
joined_same P Q (x ∷ xs) h =
    ap (λ ys. ys ++ flat_map Q xs) (h x (occurs_self x xs)) ∙ ap (λ ys. P x ++ ys) (joined_same P Q xs (λ q l. h q (omega arith)))

-- one payload is written
module _ (P Q : ℕ → List ℕ) (s r : ℕ) (bs : List ℕ) (here : Q s ≡ written (P s) r bs) (others : (q : ℕ) → (q ≡ s → ⊥) → Q q ≡ P q) (fits : r + length bs ≤ 60) where
  elsewhere : (xs : List ℕ) → occurs s xs ≡ 0 → (q : ℕ) → 1 ≤ occurs q xs → Q q ≡ P q
  elsewhere xs n q l = others q (λ e. let z = ap (λ p. occurs p xs) e in omega arith)

  joined_stored : (xs : List ℕ) (i : ℕ) → Sixties P xs → i < length xs → get_or xs i 0 ≡ s → occurs s xs ≤ 1
      → flat_map Q xs ≡ written (flat_map P xs) (60 * i + r) bs
  joined_stored [] i h l e o = absurd (omega arith)
  joined_stored (x ∷ xs) zero h l e o =
      let z : occurs s xs ≡ 0 = (let w = subst (λ y. 1 ≤ occurs s (y ∷ [])) (sym e) (occurs_self s []) in omega arith) in
      let p : length (P s) ≡ 60 = ap (λ y. length (P y)) (sym e) ∙ sixty P x xs h in
      ap (λ y. Q y ++ flat_map Q xs) e
      ∙ ap (λ ys. ys ++ flat_map Q xs) here
      ∙ ap (λ ys. written (P s) r bs ++ ys) (joined_same P Q xs (elsewhere xs z))
      ∙ sym (written_left (P s) (flat_map P xs) r bs (omega arith))
      ∙ ap (λ y. written (P y ++ flat_map P xs) r bs) (sym e)
      ∙ ap (λ k. written (P x ++ flat_map P xs) k bs) (let w : r ≡ 60 * 0 + r = omega arith in w)
  joined_stored (x ∷ xs) (suc i) h l e o =
      let in_rest = occurs_at s xs i (omega arith) e in
      let n : x ≡ s → ⊥ = λ f. let w = subst (λ y. 1 ≤ occurs s (y ∷ [])) (sym f) (occurs_self s []) in omega arith in
      ap (λ ys. ys ++ flat_map Q xs) (others x n)
      ∙ ap (λ ys. P x ++ ys) (joined_stored xs i (rest P x xs h) (omega arith) e (omega arith))
      ∙ sym (written_right (P x) (flat_map P xs) 60 (60 * i + r) bs (sixty P x xs h))
      ∙ ap (λ k. written (P x ++ flat_map P xs) k bs) (let w : 60 + (60 * i + r) ≡ 60 * suc i + r = omega arith in w)

-- chains ------------------------------------------------------------------------------------------

pub sector_at : (k : ℕ) (f : ℕ → ℕ) (s i : ℕ) → i < k → get_or (sectors k f s) i 0 ≡ after i f s
sector_at zero f s i l = absurd (omega arith)
sector_at (suc k) f s zero l = refl
sector_at (suc k) f s (suc i) l = sector_at k f (f s) i (omega arith)

pub sixties : (mem xs : List ℕ) → Apart mem xs → Sixties (payload mem) xs
sixties mem xs h q l = length_payload mem q (inside mem xs h q l).2

pub length_joint : (mem : List ℕ) (c : Chain) → Apart mem (list mem c) → length (joint mem c) ≡ 60 * c.count
length_joint mem c h = length_joined (payload mem) (list mem c) (sixties mem (list mem c) h) ∙ ap (λ n. 60 * n) (length_sectors c.count (next_of mem) c.first)

-- the bytes from `at` on that one sector holds
pub piece : (mem : List ℕ) (c : Chain) (at n s : ℕ) → Apart mem (list mem c) → at / 60 < c.count → at % 60 + n ≤ 60
    → s ≡ after (at / 60) (next_of mem) c.first → take n (drop at (joint mem c)) ≡ take n (drop (at % 60) (payload mem s))
piece mem c at n s h l m e =
    ap (λ k. take n (drop k (joint mem c))) (let z : at ≡ 60 * (at / 60) + at % 60 = omega arith in z)
    ∙ piece_at (payload mem) (list mem c) (at / 60) (at % 60) n (sixties mem (list mem c) h)
    (omega (arith, length_sectors c.count (next_of mem) c.first)) m
    ∙ ap (λ x. take n (drop (at % 60) (payload mem x))) (sector_at c.count (next_of mem) c.first (at / 60) l ∙ sym e)

-- a sector that a walk comes to lies in the memory
pub reached : (mem : List ℕ) (c : Chain) (k s : ℕ) → Apart mem (list mem c) → k < c.count → s ≡ after k (next_of mem) c.first → 64 * s + 64 ≤ length mem
reached mem c k s h l e =
    let i = inside mem (list mem c) h (after k (next_of mem) c.first) (after_in k c.count (next_of mem) c.first l) in
    subst (λ x. 64 * x + 64 ≤ length mem) (sym e) i.2

-- nothing written yet, and one sector more
pub filled_none : (mem : List ℕ) (c : Chain) (at : ℕ) → Filled mem c at [] mem
filled_none mem c at = record { joint = sym (written_none (joint mem c) at); nexts = λ q. refl; others = λ q l. refl }

pub filled_more : (mem : List ℕ) (c : Chain) (at : ℕ) (xs now : List ℕ) (w s : ℕ) (ys new : List ℕ) → Apart mem (list mem c) → length now ≡ length mem
    → w ≡ at + length xs → w + length ys ≤ 60 * c.count → w / 60 < c.count → w % 60 + length ys ≤ 60
    → s ≡ after (w / 60) (next_of mem) c.first → Filled mem c at xs now → Stored now s (w % 60) ys new → Filled mem c at (xs ++ ys) new
filled_more mem c at xs now w s ys new h n a l i m e was put =
    let zs = list mem c in
    let h' : Apart now zs = λ p. subst (λ j. occurs p zs ≤ once (min (j / 64) 65536) p) (sym n) (h p) in
    let s_at : get_or zs (w / 60) 0 ≡ s = sector_at c.count (next_of mem) c.first (w / 60) i ∙ sym e in
    let in_zs : 1 ≤ occurs s zs = occurs_at s zs (w / 60) (omega (arith, length_sectors c.count (next_of mem) c.first)) s_at in
    record {
      joint =
          joined_stored (payload now) (payload new) s (w % 60) ys put.here put.others m zs (w / 60) (sixties now zs h')
          (omega (arith, length_sectors c.count (next_of mem) c.first)) s_at (at_most_once mem zs h s)
          ∙ ap (λ j. written (flat_map (payload now) zs) j ys) (let z : 60 * (w / 60) + w % 60 ≡ at + length xs = omega arith in z)
          ∙ ap (λ js. written js (at + length xs) ys) was.joint
          ∙ written_more (joint mem c) at xs ys (omega (arith, length_joint mem c h));
      nexts = λ q. put.nexts q ∙ was.nexts q;
      others = λ q z. put.others q (λ f. let v = ap (λ p. occurs p zs) f in omega arith) ∙ was.others q z;
    }

-- one sector more is walked
pub next_sector : (mem : List ℕ) (d : Chain) (k s t : ℕ) → s ≡ after k (next_of mem) d.first → t ≡ next_of mem s → t ≡ after (k + 1) (next_of mem) d.first
next_sector mem d k s t here next =
    next ∙ ap (next_of mem) here ∙ sym (after_more k (next_of mem) d.first) ∙ ap (λ j. after j (next_of mem) d.first) (sym (add-one k))

-- how many of the n bytes from `at` on lie before sector k of the chain
abbrev pub done : ℕ → ℕ → ℕ → ℕ
done at n k = min (60 * k - at) n

-- the turn of a loop at sector k, which holds those of the n bytes from `at` on that are numbered `from` to `to` in the chain
module _ (mem : List ℕ) (d : Chain) (at n k from to s : ℕ) (h : Apart mem (list mem d)) (within : at + n ≤ 60 * d.count)
    (first : at / 60 ≤ k) (last : k < need (at + n)) (begins : from ≡ max at (60 * k)) (ends : to ≡ min (at + n) (60 * k + 60))
    (here : s ≡ after k (next_of mem) d.first) where
  inside_chain : k < d.count
  inside_chain = omega arith

  at_k : from / 60 ≡ k
  at_k = omega arith

  -- the sector at hand lies in the memory
  pub turn_inside : 64 * s + 64 ≤ length mem
  turn_inside = reached mem d k s h inside_chain here

  here_at : s ≡ after (from / 60) (next_of mem) d.first
  here_at = here ∙ ap (λ j. after j (next_of mem) d.first) (sym at_k)

  -- a turn that writes
  pub turn_in : (xs now ys new : List ℕ) → length now ≡ length mem → length xs ≡ done at n k → length ys ≡ to - from → Filled mem d at xs now
      → Stored now s (from - 60 * k) ys new → Filled mem d at (xs ++ ys) new
  turn_in xs now ys new long before many was put =
      let e : from - 60 * k ≡ from % 60 = omega arith in
      filled_more mem d at xs now from s ys new h long (omega arith) (omega arith) (omega (arith, at_k, inside_chain)) (omega arith) here_at was
      (subst (λ j. Stored now s j ys new) e put)

  -- a turn that reads
  pub turn_out : take (done at n (k + 1)) (drop at (joint mem d)) ≡ take (done at n k) (drop at (joint mem d)) ++ take (to - from) (drop (from - 60 * k) (payload mem s))
  turn_out =
      let a : done at n (k + 1) ≡ done at n k + (to - from) = omega arith in
      let b : at + done at n k ≡ from = omega arith in
      let e : from % 60 ≡ from - 60 * k = omega arith in
      ap (λ j. take j (drop at (joint mem d))) a
      ∙ take-add (done at n k) (to - from) (drop at (joint mem d))
      ∙ ap (λ ys. take (done at n k) (drop at (joint mem d)) ++ take (to - from) ys) (drop-drop (done at n k) at (joint mem d) ∙ ap (λ j. drop j (joint mem d)) b)
      ∙ ap (λ ys. take (done at n k) (drop at (joint mem d)) ++ ys)
      (piece mem d from (to - from) s h (omega (arith, at_k, inside_chain)) (omega arith) here_at
      ∙ ap (λ j. take (to - from) (drop j (payload mem s))) e)
