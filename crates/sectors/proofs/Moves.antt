-- Sectors that go from the free chain to a chain, or back.
use Rattle.std.proofs.Common.{◌≡◌, ℕ, zero, suc, ◌+◌, ◌*◌, ◌/◌, ◌≤◌, min, List, [], ◌∷◌, ◌++◌, length, take, sym, refl, ap, ◌∙◌, subst, arith, take-add}
use Rattle.std.specs.List.{flat_map}
use Rattle.std.proofs.lemmas.List.{take_at, drop_at}
use Rattle.store.specs.Occurs.{occurs}
use Rattle.store.proofs.Occurs.{occurs_append, occurs_self}
use Rattle.sectors.specs.declared.chain.Chain.{Chain}
use Rattle.sectors.specs.Sectors.{next_of, payload, once, Apart}
use Rattle.sectors.specs.Chains.{list, joint, Stands, Both, Joined, Split, Moved, uses}
use Rattle.sectors.proofs.Paths.{chain_same, last_same, apart_part, at_most_once, length_sectors}
use Rattle.sectors.proofs.Pieces.{Sixties, sixties, joined_same}

-- a chain whose next numbers are as they were stands as it stood
pub stands_same : (mem new : List ℕ) (c : Chain) → ((q : ℕ) → 1 ≤ occurs q (list mem c) → next_of new q ≡ next_of mem q) → Stands mem c
    → Stands new c × (list new c ≡ list mem c)
stands_same mem new c h s =
    let r = chain_same c.count (next_of mem) (next_of new) c.first h in
    (record { ends = r.1 ∙ s.ends; last = s.last ∙ sym (last_same c.count (next_of mem) (next_of new) c.first h) }, r.0)

pub apart_long : (mem new xs : List ℕ) → length new ≡ length mem → Apart mem xs → Apart new xs
apart_long mem new xs e h p = subst (λ n. occurs p xs ≤ once (min (n / 64) 65536) p) (sym e) (h p)

-- no sector is in both chains
never_both : (mem : List ℕ) (a b : Chain) → Both mem a b → (q : ℕ) → occurs q (list mem a) + occurs q (list mem b) ≤ 1
never_both mem a b h q = omega (arith, at_most_once mem (list mem a ++ list mem b) h.apart q, occurs_append q (list mem a) (list mem b))

module _ (mem mid new : List ℕ) (c f : Chain) (k : ℕ) (a b : Chain) (long-mid : length mid ≡ length mem) (long-new : length new ≡ length mem) (both : Both mem c f) where
  -- the free chain is cut into a and b, and a goes to the chain
  module _ (cut : Split mem f k mid a b) where
    chain_mid : Stands mid c × (list mid c ≡ list mem c)
    chain_mid = stands_same mem mid c (λ q l. cut.relinked.others q (omega (arith, never_both mem c f both q))) both.one

    parted : (p : ℕ) → occurs p (list mid a) + occurs p (list mid b) ≡ occurs p (list mem f)
    parted p = sym (occurs_append p (list mid a) (list mid b)) ∙ ap (occurs p) cut.sectors

    pub both_taken : Both mid c a
    both_taken =
        record {
          one = chain_mid.0;
          other = cut.front;
          apart = apart_long mem mid (list mid c ++ list mid a) long-mid
              (apart_part mem (list mid c ++ list mid a) (list mem c ++ list mem f) both.apart
              (λ p. omega (arith, occurs_append p (list mid c) (list mid a), occurs_append p (list mem c) (list mem f), parted p, ap (occurs p) chain_mid.1)));
          few = omega (arith, both.few, cut.counts.0, cut.counts.1);
        }

    module _ (d : Chain) (whole : Joined mid c a new d) where
      left : Stands new b × (list new b ≡ list mid b)
      left =
          stands_same mid new b (λ q l. whole.relinked.others q (omega (arith, never_both mem c f both q, parted q, ap (occurs q) chain_mid.1))) cut.rest

      same : (p : ℕ) → uses new d b p ≡ uses mem c f p
      same p =
          omega (
            arith,
            parted p,
            ap (occurs p) left.1,
            ap (occurs p) chain_mid.1,
            ap (occurs p) whole.sectors,
            occurs_append p (list mid c) (list mid a),
          )

      pub moved_taken : Moved mem c f new d b
      moved_taken =
          record {
            both = record {
              one = whole.stands;
              other = left.0;
              apart = apart_long mem new (list new d ++ list new b) long-new
                  (apart_part mem (list new d ++ list new b) (list mem c ++ list mem f) both.apart
                  (λ p. omega (arith, same p, occurs_append p (list new d) (list new b), occurs_append p (list mem c) (list mem f))));
              few = omega (arith, both.few, cut.counts.1, whole.count);
            };
            count = omega (arith, cut.counts.1, whole.count);
            same = same;
            nexts = λ q z. whole.relinked.others q (omega (arith, ap (occurs q) chain_mid.1)) ∙ cut.relinked.others q (omega arith);
            payloads = λ q z. whole.relinked.payloads q ∙ cut.relinked.payloads q;
          }

      pub front_taken : take c.count (list new d) ≡ list mem c
      front_taken =
          ap (take c.count) (whole.sectors ∙ ap (λ xs. xs ++ list mid a) chain_mid.1)
          ∙ take_at (list mem c) (list mid a) c.count (length_sectors c.count (next_of mem) c.first)

      pub payloads_taken : (q : ℕ) → payload new q ≡ payload mem q
      payloads_taken q = whole.relinked.payloads q ∙ cut.relinked.payloads q

  -- the chain is cut into a and b, and b goes to the free chain
  module _ (cut : Split mem c k mid a b) where
    free_mid : Stands mid f × (list mid f ≡ list mem f)
    free_mid = stands_same mem mid f (λ q l. cut.relinked.others q (omega (arith, never_both mem c f both q))) both.other

    halves : (p : ℕ) → occurs p (list mid a) + occurs p (list mid b) ≡ occurs p (list mem c)
    halves p = sym (occurs_append p (list mid a) (list mid b)) ∙ ap (occurs p) cut.sectors

    pub both_left : Both mid b f
    both_left =
        record {
          one = cut.rest;
          other = free_mid.0;
          apart = apart_long mem mid (list mid b ++ list mid f) long-mid
              (apart_part mem (list mid b ++ list mid f) (list mem c ++ list mem f) both.apart
              (λ p. omega (arith, occurs_append p (list mid b) (list mid f), occurs_append p (list mem c) (list mem f), halves p, ap (occurs p) free_mid.1)));
          few = omega (arith, both.few, cut.counts.0, cut.counts.1);
        }

    module _ (g : Chain) (whole : Joined mid b f new g) where
      kept : Stands new a × (list new a ≡ list mid a)
      kept = stands_same mid new a (λ q l. whole.relinked.others q (omega (arith, never_both mem c f both q, halves q))) cut.front

      same_left : (p : ℕ) → uses new a g p ≡ uses mem c f p
      same_left p =
          omega (
            arith,
            halves p,
            ap (occurs p) kept.1,
            ap (occurs p) free_mid.1,
            ap (occurs p) whole.sectors,
            occurs_append p (list mid b) (list mid f),
          )

      pub moved_left : Moved mem c f new a g
      moved_left =
          record {
            both = record {
              one = kept.0;
              other = whole.stands;
              apart = apart_long mem new (list new a ++ list new g) long-new
                  (apart_part mem (list new a ++ list new g) (list mem c ++ list mem f) both.apart
                  (λ p. omega (arith, same_left p, occurs_append p (list new a) (list new g), occurs_append p (list mem c) (list mem f))));
              few = omega (arith, both.few, cut.counts.1, whole.count);
            };
            count = omega (arith, cut.counts.1, whole.count);
            same = same_left;
            nexts = λ q z. whole.relinked.others q (omega (arith, halves q)) ∙ cut.relinked.others q (omega arith);
            payloads = λ q z. whole.relinked.payloads q ∙ cut.relinked.payloads q;
          }

      pub list_left : list new a ≡ take k (list mem c)
      list_left =
          kept.1 ∙ sym (take_at (list mid a) (list mid b) k (length_sectors a.count (next_of mid) a.first ∙ cut.counts.0)) ∙ ap (take k) cut.sectors

      pub payloads_left : (q : ℕ) → payload new q ≡ payload mem q
      payloads_left q = whole.relinked.payloads q ∙ cut.relinked.payloads q

-- the payloads of the first k sectors
pub joined_take : (P : ℕ → List ℕ) (xs : List ℕ) (k : ℕ) → Sixties P xs → k ≤ length xs → flat_map P (take k xs) ≡ take (60 * k) (flat_map P xs)
joined_take P xs zero h l = refl
joined_take P [] (suc k) h l = absurd (omega arith)
joined_take P (x ∷ xs) (suc k) h l =
    let p : length (P x) ≡ 60 = h x (occurs_self x xs) in
    ap (λ ys. P x ++ ys) (joined_take P xs k (λ q m. h q (omega arith)) (omega arith))
    ∙ ap (λ ys. ys ++ take (60 * k) (flat_map P xs)) (sym (take_at (P x) (flat_map P xs) 60 p))
    ∙ ap (λ ys. take 60 (P x ++ flat_map P xs) ++ take (60 * k) ys) (sym (drop_at (P x) (flat_map P xs) 60 p))
    ∙ sym (take-add 60 (60 * k) (P x ++ flat_map P xs))
    ∙ ap (λ n. take n (P x ++ flat_map P xs)) (let e : 60 + 60 * k ≡ 60 * suc k = omega arith in e)

-- the bytes of a chain whose list is the front of another's
pub front_bytes : (mem new : List ℕ) (c d : Chain) (k : ℕ) → Apart mem (list mem c) → k ≤ c.count → ((q : ℕ) → payload new q ≡ payload mem q)
    → list new d ≡ take k (list mem c) → joint new d ≡ take (60 * k) (joint mem c)
front_bytes mem new c d k h l same e =
    ap (flat_map (payload new)) e
    ∙ joined_same (payload mem) (payload new) (take k (list mem c)) (λ q m. same q)
    ∙ joined_take (payload mem) (list mem c) k (sixties mem (list mem c) h) (omega (arith, length_sectors c.count (next_of mem) c.first))

-- one move after another
pub moved_then : (mem mid new : List ℕ) (c f d g e h : Chain) → Moved mem c f mid d g → Moved mid d g new e h → Moved mem c f new e h
moved_then mem mid new c f d g e h a b =
    record {
      both = b.both;
      count = b.count ∙ a.count;
      same = λ p. b.same p ∙ a.same p;
      nexts = λ q z. b.nexts q (a.same q ∙ z) ∙ a.nexts q z;
      payloads = λ q z. b.payloads q (a.same q ∙ z) ∙ a.payloads q z;
    }
