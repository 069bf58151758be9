-- A next number, and bytes of a payload, written into the memory.
use Rattle.std.proofs.Common.{◌≡◌, ℕ, ◌+◌, ◌-◌, ◌*◌, ◌^◌, ◌<◌, ◌≤◌, ◌⊎◌, List, [], ◌∷◌, length, get_or, take, drop, sym, ap, ◌∙◌, inl, inr, arith}
use Rattle.std.proofs.lemmas.List.{same_lists, get_or-take, get_or-drop, drop-take, take-take, drop-drop}
use Rattle.std.proofs.lemmas.Bool.{cases_order, cases_lt}
use Rattle.octets.specs.Written.{written}
use Rattle.octets.proofs.Writes.{byte_outside, byte_inside, part_outside, part_grown, length_part, length_written}
use Rattle.octets.specs.BigEndian.{digits, number_of}
use Rattle.octets.proofs.BigEndian.{length_digits, number_digits}
use Rattle.sectors.specs.Sectors.{next_of, payload, Linked, Stored}

next_outside : (mem : List ℕ) (at : ℕ) (bs : List ℕ) → at + length bs ≤ length mem → (s : ℕ)
    → (64 * s + 4 ≤ at) ⊎ (at + length bs ≤ 64 * s) → next_of (written mem at bs) s ≡ next_of mem s
unfolding next_of
next_outside mem at bs fits s o = ap number_of (part_outside mem at bs fits (64 * s) 4 o)

next_here : (mem : List ℕ) (s n : ℕ) → 64 * s + 4 ≤ length mem → n < 2 ^ 32 → next_of (written mem (64 * s) (digits 4 n)) s ≡ n
unfolding next_of
next_here mem s n fits l =
    let d = length_digits 4 n in
    ap (λ k. number_of (take k (drop (64 * s) (written mem (64 * s) (digits 4 n))))) (let e : 4 ≡ 0 + length (digits 4 n) = omega arith in e)
    ∙ ap number_of (part_grown mem (64 * s) (digits 4 n) (omega arith) (64 * s) 0 (omega arith))
    ∙ number_digits 4 n (omega arith)

sectors_apart : (q s : ℕ) → (q ≡ s → ⊥) → (64 * q + 64 ≤ 64 * s) ⊎ (64 * s + 64 ≤ 64 * q)
sectors_apart q s n = elim (cases_order q s) [ inl e ↦ absurd (n e) | inr (inl l) ↦ inl (omega arith) | inr (inr l) ↦ inr (omega arith) ]

-- the next number of one sector is written: those of others, and every payload, are as they were
pub linked : (mem : List ℕ) (s n : ℕ) → 64 * s + 64 ≤ length mem → n < 2 ^ 32 → Linked mem s n (written mem (64 * s) (digits 4 n))
unfolding payload
linked mem s n fits l =
    let d = length_digits 4 n in
    record {
      here = next_here mem s n (omega arith) l;
      others = λ q e. next_outside mem (64 * s) (digits 4 n) (omega arith) q (elim (sectors_apart q s e) [ inl x ↦ inl (omega arith) | inr x ↦ inr (omega arith) ]);
      payloads = λ q. part_outside mem (64 * s) (digits 4 n) (omega arith) (64 * q + 4) 60
          (elim (cases_order q s) [ inl e ↦ inr (omega arith) | inr (inl x) ↦ inl (omega arith) | inr (inr x) ↦ inr (omega arith) ]);
    }

pub length_payload : (mem : List ℕ) (s : ℕ) → 64 * s + 64 ≤ length mem → length (payload mem s) ≡ 60
unfolding payload
length_payload mem s fits = length_part mem (64 * s + 4) 60 (omega arith)

-- a part of the memory with a write inside it
part_written : (mem : List ℕ) (a n from : ℕ) (bs : List ℕ) → a + n ≤ length mem → from + length bs ≤ n
    → take n (drop a (written mem (a + from) bs)) ≡ written (take n (drop a mem)) from bs
part_written mem a n from bs fits l =
    let new = written mem (a + from) bs in
    let part = take n (drop a mem) in
    let w : length new ≡ length mem = length_written mem (a + from) bs (omega arith) in
    let p : length part ≡ n = length_part mem a n fits in
    let q : length (take n (drop a new)) ≡ n = length_part new a n (omega arith) in
    let v : length (written part from bs) ≡ n = length_written part from bs (omega arith) ∙ p in
    let old : (k d : ℕ) → k < n → get_or part k d ≡ get_or mem (a + k) d = λ k d m. get_or-take n (drop a mem) k d m ∙ get_or-drop a mem k d in
    same_lists (take n (drop a new)) (written part from bs) (q ∙ sym v)
    (λ k d m.
    let m' : k < n = omega arith in
    get_or-take n (drop a new) k d m'
    ∙ get_or-drop a new k d
    ∙ elim (cases_lt k from) [
      | inl x ↦ byte_outside mem (a + from) bs (omega arith) (a + k) d (inl (omega arith)) ∙ sym (old k d m')
          ∙ sym (byte_outside part from bs (omega arith) k d (inl x))
      | inr x ↦ elim (cases_lt k (from + length bs)) [
        | inl y ↦ ap (λ j. get_or new j d) (let e : a + k ≡ a + from + (k - from) = omega arith in e)
            ∙ byte_inside mem (a + from) bs (omega arith) (k - from) d (omega arith)
            ∙ sym (byte_inside part from bs (omega arith) (k - from) d (omega arith))
            ∙ ap (λ j. get_or (written part from bs) j d) (let e : from + (k - from) ≡ k = omega arith in e)
        | inr y ↦ byte_outside mem (a + from) bs (omega arith) (a + k) d (inr (omega arith)) ∙ sym (old k d m')
            ∙ sym (byte_outside part from bs (omega arith) k d (inr (omega arith)))
      ]
    ])

-- bytes of one payload are written: every next number and every other payload is as it was
pub stored : (mem : List ℕ) (s from : ℕ) (bs : List ℕ) → 64 * s + 64 ≤ length mem → from + length bs ≤ 60
    → Stored mem s from bs (written mem (64 * s + 4 + from) bs)
unfolding payload
stored mem s from bs fits l =
    record {
      here = part_written mem (64 * s + 4) 60 from bs (omega arith) l;
      others = λ q d. part_outside mem (64 * s + 4 + from) bs (omega arith) (64 * q + 4) 60
          (elim (sectors_apart q s d) [ inl x ↦ inl (omega arith) | inr x ↦ inr (omega arith) ]);
      nexts = λ q. next_outside mem (64 * s + 4 + from) bs (omega arith) q
          (elim (cases_order q s) [ inl e ↦ inl (omega arith) | inr (inl x) ↦ inl (omega arith) | inr (inr x) ↦ inr (omega arith) ]);
    }

-- what is left of a sector past its first four bytes
pub rest_of : (mem xs : List ℕ) (s n : ℕ) → 64 * s + 64 ≤ length mem → xs ≡ take (64 * s + 64 - 64 * s) (drop (64 * s) mem) → n ≡ length xs
    → take (n - 4) (drop 4 xs) ≡ payload mem s
unfolding payload
rest_of mem xs s n fits e l =
    let k : 64 * s + 64 - 64 * s ≡ 64 = omega arith in
    let x : xs ≡ take 64 (drop (64 * s) mem) = e ∙ ap (λ j. take j (drop (64 * s) mem)) k in
    let z : n ≡ 64 = l ∙ ap length x ∙ length_part mem (64 * s) 64 fits in
    let w : n - 4 ≡ 60 = omega arith in
    ap (λ j. take j (drop 4 xs)) w
    ∙ ap (λ ys. take 60 (drop 4 ys)) x
    ∙ ap (take 60) (drop-take 4 60 (drop (64 * s) mem))
    ∙ take-take 60 60 (drop 4 (drop (64 * s) mem)) (omega arith)
    ∙ ap (take 60) (drop-drop 4 (64 * s) mem)

-- the number in its first four bytes
number_4 : (xs : List ℕ) → 4 ≤ length xs → get_or xs 0 0 * 16777216 + get_or xs 1 0 * 65536 + get_or xs 2 0 * 256 + get_or xs 3 0 ≡ number_of (take 4 xs)
number_4 [] l = absurd (omega arith)
number_4 (a ∷ []) l = absurd (omega arith)
number_4 (a ∷ b ∷ []) l = absurd (omega arith)
number_4 (a ∷ b ∷ c ∷ []) l = absurd (omega arith)
number_4 (a ∷ b ∷ c ∷ d ∷ xs) l = omega arith

pub next_of_lem : (mem : List ℕ) (s : ℕ) → 64 * s + 64 ≤ length mem → (let xs = take (64 * s + 64 - 64 * s) (drop (64 * s) mem) in
    get_or xs 0 0 * 16777216 + get_or xs 1 0 * 65536 + get_or xs 2 0 * 256 + get_or xs 3 0 ≡ next_of mem s)
unfolding next_of
next_of_lem mem s fits =
    let k = 64 * s + 64 - 64 * s in
    number_4 (take k (drop (64 * s) mem)) (omega (arith, length_part mem (64 * s) k (omega arith)))
    ∙ ap number_of (take-take 4 k (drop (64 * s) mem) (omega arith))
