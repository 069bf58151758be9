-- What a write leaves of a part of the memory.
use Rattle.std.proofs.Common.{◌≡◌, ℕ, ◌+◌, ◌-◌, ◌<◌, ◌≤◌, ◌⊎◌, List, ◌++◌, length, get_or, take, drop, sym, refl, ap, ◌∙◌, inl, inr, arith, length-append, length-drop, length-take}
use Rattle.std.proofs.lemmas.List.{drop-take, take-take, drop-drop, same_lists, get_or_append_left, get_or-append_right, get_or-take, get_or-drop, length-take-le}
use Rattle.std.proofs.lemmas.Bool.{cases_lt}
use Rattle.octets.specs.Written.{written}

pub length_part : (mem : List ℕ) (a n : ℕ) → a + n ≤ length mem → length (take n (drop a mem)) ≡ n
length_part mem a n h = simp (length-take, length-drop) (omega arith)

-- bytes of a part are bytes of the whole
pub bytes_of : (mem : List ℕ) (a len at n : ℕ) → at + n ≤ len → take n (drop at (take len (drop a mem))) ≡ take n (drop (a + at) mem)
bytes_of mem a len at n l =
    let e : len ≡ at + (len - at) = omega arith in
    ap (λ k. take n (drop at (take k (drop a mem)))) e
    ∙ ap (take n) (drop-take at (len - at) (drop a mem))
    ∙ take-take n (len - at) (drop at (drop a mem)) (omega arith)
    ∙ ap (take n) (drop-drop at a mem)

module _ (mem : List ℕ) (at : ℕ) (bs : List ℕ) (fits : at + length bs ≤ length mem) where
  pub length_written : length (written mem at bs) ≡ length mem
  length_written = simp (length-append, length-take, length-drop) (omega arith)

  -- each byte outside is as it was
  pub byte_outside : (k d : ℕ) → (k < at) ⊎ (at + length bs ≤ k) → get_or (written mem at bs) k d ≡ get_or mem k d
  byte_outside k d (inl l) =
      let n : length (take at mem) ≡ at = length-take-le at mem (omega arith) in
      get_or_append_left (take at mem) (bs ++ drop (at + length bs) mem) d k (omega arith) ∙ get_or-take at mem k d l
  byte_outside k d (inr l) =
      let n : length (take at mem) ≡ at = length-take-le at mem (omega arith) in
      get_or-append_right (take at mem) (bs ++ drop (at + length bs) mem) at k d n (omega arith)
      ∙ get_or-append_right bs (drop (at + length bs) mem) (length bs) (k - at) d refl (omega arith)
      ∙ get_or-drop (at + length bs) mem (k - at - length bs) d
      ∙ ap (λ j. get_or mem j d) (let e : at + length bs + (k - at - length bs) ≡ k = omega arith in e)

  pub byte_inside : (k d : ℕ) → k < length bs → get_or (written mem at bs) (at + k) d ≡ get_or bs k d
  byte_inside k d l =
      let n : length (take at mem) ≡ at = length-take-le at mem (omega arith) in
      get_or-append_right (take at mem) (bs ++ drop (at + length bs) mem) at (at + k) d n (omega arith)
      ∙ ap (λ j. get_or (bs ++ drop (at + length bs) mem) j d) (let e : at + k - at ≡ k = omega arith in e)
      ∙ get_or_append_left bs (drop (at + length bs) mem) d k l

  -- a part that the write does not touch
  pub part_outside : (a n : ℕ) → (a + n ≤ at) ⊎ (at + length bs ≤ a) → take n (drop a (written mem at bs)) ≡ take n (drop a mem)
  part_outside a n o =
      same_lists (take n (drop a (written mem at bs))) (take n (drop a mem))
      (simp (length-take, length-drop, length_written))
      (λ k d l.
      let m : k < n = (let q : length (take n (drop a (written mem at bs))) ≤ n = simp length-take (omega arith) in omega arith) in
      get_or-take n (drop a (written mem at bs)) k d m
      ∙ get_or-drop a (written mem at bs) k d
      ∙ byte_outside (a + k) d (elim o [ inl x ↦ inl (omega arith) | inr x ↦ inr (omega arith) ])
      ∙ sym (get_or-drop a mem k d)
      ∙ sym (get_or-take n (drop a mem) k d m))

  -- a part that the write goes on from
  pub part_grown : (a n : ℕ) → a + n ≡ at → take (n + length bs) (drop a (written mem at bs)) ≡ take n (drop a mem) ++ bs
  part_grown a n e =
      let w = length_written in
      let p : length (take n (drop a mem)) ≡ n = simp (length-take, length-drop) (omega arith) in
      let q : length (take (n + length bs) (drop a (written mem at bs))) ≡ n + length bs = simp (length-take, length-drop) (omega arith) in
      same_lists (take (n + length bs) (drop a (written mem at bs))) (take n (drop a mem) ++ bs)
      (q ∙ sym (length-append (take n (drop a mem)) bs ∙ ap (λ j. j + length bs) p))
      (λ k d l.
      let m : k < n + length bs = omega arith in
      get_or-take (n + length bs) (drop a (written mem at bs)) k d m
      ∙ get_or-drop a (written mem at bs) k d
      ∙ elim (cases_lt k n) [
        | inl x ↦ byte_outside (a + k) d (inl (omega arith)) ∙ sym (get_or-drop a mem k d) ∙ sym (get_or-take n (drop a mem) k d x)
            ∙ sym (get_or_append_left (take n (drop a mem)) bs d k (omega arith))
        | inr x ↦ ap (λ j. get_or (written mem at bs) j d) (let z : a + k ≡ at + (k - n) = omega arith in z)
            ∙ byte_inside (k - n) d (omega arith) ∙ sym (get_or-append_right (take n (drop a mem)) bs n k d p x)
      ])

  -- the bytes up to the end of the write
  pub take_written : take (at + length bs) (written mem at bs) ≡ take at mem ++ bs
  take_written = part_grown 0 at (omega arith)
