-- Bytes written from a sector of a chain on, and bytes added at its end.
use Rattle.std.proofs.Common.{◌≡◌, ℕ, zero, suc, ◌+◌, ◌-◌, ◌*◌, ◌<◌, ◌≤◌, List, [], ◌∷◌, ◌++◌, length, get_or, take, sym, refl, ap, ◌∙◌, subst, arith}
use Rattle.std.specs.List.{flat_map}
use Rattle.std.proofs.lemmas.List.{append_assoc, take-take, get_or-take}
use Rattle.store.specs.Occurs.{occurs}
use Rattle.store.proofs.Occurs.{occurs_append}
use Rattle.octets.specs.Written.{written}
use Rattle.octets.proofs.Writes.{part_grown}
use Rattle.sectors.specs.declared.chain.Chain.{Chain}
use Rattle.sectors.specs.Sectors.{next_of, payload, sectors, after, last_of, Apart}
use Rattle.sectors.specs.Chains.{list, joint, Stands, Both, Filled, Moved}
use Rattle.sectors.proofs.Paths.{sectors_add, length_sectors, apart_part, at_most_once, chain_same}
use Rattle.sectors.proofs.Pieces.{sixties, length_joined, length_joint, joined_same, sector_at, written_right}
use Rattle.sectors.proofs.Moves.{stands_same, apart_long, front_bytes}

joined_append : (P : ℕ → List ℕ) (xs ys : List ℕ) → flat_map P (xs ++ ys) ≡ flat_map P xs ++ flat_map P ys
joined_append P [] ys = refl
joined_append P (x ∷ xs) ys = ap (λ zs. P x ++ zs) (joined_append P xs ys) ∙ sym (append_assoc (P x) (flat_map P xs) (flat_map P ys))

-- d is what is left of c past its first k sectors
module _ (mem : List ℕ) (c d : Chain) (k : ℕ) (within : k ≤ c.count) (first : d.first ≡ after k (next_of mem) c.first) (count : d.count ≡ c.count - k) where
  pub parted : list mem c ≡ sectors k (next_of mem) c.first ++ list mem d
  parted =
      ap (λ n. sectors n (next_of mem) c.first) (let e : c.count ≡ k + d.count = omega arith in e)
      ∙ sectors_add k d.count (next_of mem) c.first
      ∙ ap (λ s. sectors k (next_of mem) c.first ++ sectors d.count (next_of mem) s) (sym first)

  counted : (p : ℕ) → occurs p (list mem c) ≡ occurs p (sectors k (next_of mem) c.first) + occurs p (list mem d)
  counted p = ap (occurs p) parted ∙ occurs_append p (sectors k (next_of mem) c.first) (list mem d)

  pub rest_apart : Apart mem (list mem c) → Apart mem (list mem d)
  rest_apart h = apart_part mem (list mem d) (list mem c) h (λ p. omega (arith, counted p))

  pub filled_rest : (at : ℕ) (bs new : List ℕ) → Apart mem (list mem c) → 60 * k ≤ at → Filled mem d (at - 60 * k) bs new → Filled mem c at bs new
  filled_rest at bs new h l was =
      let xs = sectors k (next_of mem) c.first in
      let zs = list mem d in
      let P = payload mem in
      let hx : Apart mem xs = apart_part mem xs (list mem c) h (λ p. omega (arith, counted p)) in
      let n : length (flat_map P xs) ≡ 60 * k = length_joined P xs (sixties mem xs hx) ∙ ap (λ j. 60 * j) (length_sectors k (next_of mem) c.first) in
      record {
        joint =
            ap (flat_map (payload new)) parted
            ∙ joined_append (payload new) xs zs
            ∙ ap (λ ys. ys ++ flat_map (payload new) zs)
            (joined_same P (payload new) xs (λ q m. was.others q (omega (arith, counted q, at_most_once mem (list mem c) h q))))
            ∙ ap (λ ys. flat_map P xs ++ ys) was.joint
            ∙ sym (written_right (flat_map P xs) (flat_map P zs) (60 * k) (at - 60 * k) bs n)
            ∙ ap (λ j. written (flat_map P xs ++ flat_map P zs) j bs) (let e : 60 * k + (at - 60 * k) ≡ at = omega arith in e)
            ∙ ap (λ ys. written ys at bs) (sym (ap (flat_map P) parted ∙ joined_append P xs zs));
        nexts = was.nexts;
        others = λ q z. was.others q (omega (arith, counted q));
      }

last_at : (n : ℕ) (f : ℕ → ℕ) (s : ℕ) → 0 < n → get_or (sectors n f s) (n - 1) 0 ≡ last_of n f s
last_at zero f s l = absurd (omega arith)
last_at (suc k) f s l = sector_at (suc k) f s (suc k - 1) (omega arith) ∙ ap (λ j. after j f s) (let e : suc k - 1 ≡ k = omega arith in e)

-- the last sector that a chain had, in the chain that it is the front of
pub last_front : (mem new : List ℕ) (c d : Chain) → Stands mem c → c.count ≤ d.count → take c.count (list new d) ≡ list mem c → 0 < c.count
    → c.last ≡ after (c.count - 1) (next_of new) d.first
last_front mem new c d h l e some =
    let j = c.count - 1 in
    h.last ∙ sym (last_at c.count (next_of mem) c.first some)
    ∙ ap (λ xs. get_or xs j 0) (sym e)
    ∙ get_or-take c.count (list new d) j 0 (omega arith)
    ∙ sector_at d.count (next_of new) d.first j (omega arith)

-- a chain lengthened and then written
module _ (mem mid new : List ℕ) (c f d g : Chain) (len : ℕ) (bs : List ℕ) (long : length new ≡ length mid) (moved : Moved mem c f mid d g) (filled : Filled mid d len bs new) where
  same_list : (e : Chain) → list new e ≡ list mid e
  same_list e =
      (chain_same e.count (next_of mid) (next_of new) e.first (λ q l. filled.nexts q)).0

  written_both : Both new d g
  written_both =
      record {
        one = (stands_same mid new d (λ q l. filled.nexts q) moved.both.one).0;
        other = (stands_same mid new g (λ q l. filled.nexts q) moved.both.other).0;
        apart = apart_long mid new (list new d ++ list new g) long
            (subst (λ xs. Apart mid (xs ++ list new g)) (sym (same_list d)) (subst (λ xs. Apart mid (list mid d ++ xs)) (sym (same_list g)) moved.both.apart));
        few = moved.both.few;
      }

  pub moved_written : Moved mem c f new d g
  moved_written =
      record {
        both = written_both;
        count = moved.count;
        same = λ p. ap (λ xs. occurs p xs + occurs p (list new g)) (same_list d) ∙ ap (λ xs. occurs p (list mid d) + occurs p xs) (same_list g) ∙ moved.same p;
        nexts = λ q z. filled.nexts q ∙ moved.nexts q z;
        payloads = λ q z. filled.others q (omega (arith, moved.same q)) ∙ moved.payloads q z;
      }

  pub bytes_written : Apart mid (list mid d) → len + length bs ≤ 60 * d.count → len ≤ 60 * c.count → c.count ≤ d.count
      → take c.count (list mid d) ≡ list mem c → ((q : ℕ) → payload mid q ≡ payload mem q)
      → take (len + length bs) (joint new d) ≡ take len (joint mem c) ++ bs
  bytes_written h l m k front same =
      let J = joint mid d in
      let n : length J ≡ 60 * d.count = length_joint mid d h in
      let old : joint mem c ≡ take (60 * c.count) J = front_bytes mid mem d c c.count h k (λ q. sym (same q)) (sym front) in
      ap (λ xs. take (len + length bs) (flat_map (payload new) xs)) (same_list d)
      ∙ ap (take (len + length bs)) filled.joint
      ∙ part_grown J len bs (omega arith) 0 len (omega arith)
      ∙ ap (λ xs. xs ++ bs) (sym (take-take len (60 * c.count) J m) ∙ ap (take len) (sym old))
