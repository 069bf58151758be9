-- The chains of all blobs and the free chain, as one of them takes sectors from the free chain or gives them back.
use Rattle.std.specs.Prelude.{◌≡◌, ℕ, suc, ◌/◌, ◌<◌, ◌≤◌, min, List, ◌++◌, length, get_or, take, drop, set, ◌≢◌, slice_index_or, slice_set, refl}
use Rattle.std.proofs.Common.{arith, sym, ap, ◌∙◌, subst, inl, inr, length-set}
use Rattle.std.specs.List.{flat_map, insert, remove}
use Rattle.std.proofs.lemmas.List.{get_or-set_same, get_or-set_other, take-set, drop-set-lt}
use Rattle.std.proofs.lemmas.Bool.{cases_eq, cases_lt, lt-ltb, le-ltb, lt-leb, le-leb}
use Rattle.store.specs.Occurs.{occurs}
use Rattle.store.proofs.Occurs.{occurs_append}
use Rattle.catalog.specs.declared.row.Row.{Row}
use Rattle.catalog.specs.Rows.{none, Each, fresh_row}
use Rattle.catalog.proofs.Moves.{inserted_each, removed_each}
use Rattle.sectors.specs.declared.chain.Chain.{Chain}
use Rattle.sectors.specs.Sectors.{next_of, payload, once, need, Apart}
use Rattle.sectors.specs.Chains.{list, joint, Stands, Both, Filled, Moved, uses}
use Rattle.sectors.proofs.Paths.{once_one}
use Rattle.sectors.proofs.Pieces.{joined_same}
use Rattle.sectors.proofs.Moves.{stands_same}
use Rattle.sectors.proofs.Appends.{moved_written}
use Rattle.chains.specs.Cover.{usable, chain_of, Covers, Counted}
use Rattle.chains.specs.Totals.{total_at, total_two, total_set, total_inserted, total_removed}

-- n sectors of the memory are in the chains of these rows and in the free chain
pub record Chained (n : ℕ) (mem : List ℕ) (rs : List Row) (free : Chain) : Type 0 where
  pub within : n ≤ min (length mem / 64) 65536
  pub rows : Each (λ r. Stands mem (chain_of r)) rs
  pub spare : Stands mem free
  pub covers : Covers n mem rs free
  pub counts : Counted n rs free

abbrev uses_of : List ℕ → ℕ → Row → ℕ
uses_of mem p r = occurs p (list mem (chain_of r))

-- fewer sectors are fewer
once_grows : (n m p : ℕ) → n ≤ m → once n p ≤ once m p
once_grows n m p l =
    elim (cases_lt 0 p) [
      | inl a ↦ elim (cases_lt p n) [
        | inl b ↦ let t = lt-ltb 0 p a in let u = lt-ltb p n b in let v = lt-ltb p m (omega arith) in simp (t, u, v) (omega arith)
        | inr b ↦ let t = lt-ltb 0 p a in let u = le-ltb p n b in simp (t, u) (omega arith)
      ]
      | inr a ↦ let t = le-ltb 0 p a in simp t (omega arith)
    ]

module _ (n : ℕ) (mem : List ℕ) (rs : List Row) (free : Chain) (h : Chained n mem rs free) where
  fits : (xs : List ℕ) → ((p : ℕ) → occurs p xs ≤ once n p) → Apart mem xs
  fits xs l p = omega (arith, l p, once_grows n (min (length mem / 64) 65536) p h.within)

  pub both_of : (i : ℕ) → i < length rs → Both mem (chain_of (slice_index_or rs i none)) free
  both_of i l =
      let c = chain_of (slice_index_or rs i none) in
      record {
        one = h.rows i l;
        other = h.spare;
        apart = fits (list mem c ++ list mem free)
            (λ p. omega (arith, occurs_append p (list mem c) (list mem free), total_at (uses_of mem p) rs i l, h.covers p));
        few = omega (arith, h.within, h.counts, total_at (λ (r : Row). need r.len) rs i l);
      }

  pub apart_of : (i : ℕ) → i < length rs → Apart mem (list mem (chain_of (slice_index_or rs i none)))
  apart_of i l = fits (list mem (chain_of (slice_index_or rs i none))) (λ p. omega (arith, total_at (uses_of mem p) rs i l, h.covers p))

  -- no sector is in the chains of two rows, or of a row and free
  never_two : (i k : ℕ) → i < length rs → k < length rs → (k ≢ i) → (q : ℕ) → 1 ≤ uses_of mem q (slice_index_or rs k none) → uses mem (chain_of (slice_index_or rs i none)) free q ≡ 0
  never_two i k l m d q u =
      omega (arith, total_two (uses_of mem q) rs i k l m d, h.covers q, once_one n q)

  -- the chain of row i and the free chain are moved, into those of a row r and g
  module _ (i : ℕ) (l : i < length rs) (new : List ℕ) (d g : Chain) (long : length new ≡ length mem) (moved : Moved mem (chain_of (slice_index_or rs i none)) free new d g) where
    same_next : (k : ℕ) → k < length rs → (k ≢ i) → (q : ℕ) → 1 ≤ uses_of mem q (slice_index_or rs k none) → next_of new q ≡ next_of mem q
    same_next k m e q u = moved.nexts q (never_two i k l m e q u)

    pub other_stands : (k : ℕ) → k < length rs → (k ≢ i) → Stands new (chain_of (slice_index_or rs k none)) × (list new (chain_of (slice_index_or rs k none)) ≡ list mem (chain_of (slice_index_or rs k none)))
    other_stands k m e = stands_same mem new (chain_of (slice_index_or rs k none)) (same_next k m e) (h.rows k m)

    -- the bytes of the other rows
    pub other_bytes : (k : ℕ) → k < length rs → (k ≢ i) → joint new (chain_of (slice_index_or rs k none)) ≡ joint mem (chain_of (slice_index_or rs k none))
    other_bytes k m e =
        ap (flat_map (payload new)) (other_stands k m e).1
        ∙ joined_same (payload mem) (payload new) (list mem (chain_of (slice_index_or rs k none))) (λ q u. moved.payloads q (never_two i k l m e q u))

    pub other_uses : (p k : ℕ) → k < length rs → (k ≢ i) → uses_of new p (slice_index_or rs k none) ≡ uses_of mem p (slice_index_or rs k none)
    other_uses p k m e = ap (occurs p) (other_stands k m e).1

    each_moved : (r : Row) → chain_of r ≡ d → Each (λ (x : Row). Stands new (chain_of x)) (slice_set rs i r)
    each_moved r e k m =
        let m' : k < length rs = omega (arith, length-set rs i r) in
        elim (cases_eq k i) [
          | inl z ↦ subst (λ (x : Row). Stands new (chain_of x)) (sym (ap (λ j. get_or (slice_set rs i r) j none) z ∙ get_or-set_same rs i r none l))
              (subst (λ (x : Chain). Stands new x) (sym e) moved.both.one)
          | inr z ↦ subst (λ (x : Row). Stands new (chain_of x)) (sym (get_or-set_other rs i k r none z)) (other_stands k m' z).0
        ]

    pub chained_moved : (r : Row) → chain_of r ≡ d → Chained n new (slice_set rs i r) g
    chained_moved r e =
        record {
          within = omega (arith, h.within);
          rows = each_moved r e;
          spare = moved.both.other;
          covers = λ p. omega (
            arith,
            total_set (uses_of mem p) (uses_of new p) rs i r l (other_uses p),
            h.covers p,
            moved.same p,
            ap (λ (x : Chain). occurs p (list new x)) e,
          );
          counts = omega (
            arith,
            total_set (λ (x : Row). need x.len) (λ (x : Row). need x.len) rs i r l (λ k m z. refl),
            h.counts,
            moved.count,
            ap (λ (x : Chain). x.count) e,
          );
        }

    -- the row goes, and all its sectors are free
    pub chained_gone : d.count ≡ 0 → Chained n new (remove rs i) g
    chained_gone z =
        let r : Row = record { number = 0; place = d.first; tail = d.last; len = 0; sound = 0; safe = 0 } in
        let e : chain_of r ≡ d = ap (λ k. let x : Chain = record { first = d.first; last = d.last; count = k } in x) (sym z) in
        let c = chained_moved r e in
        let xs = set rs i r in
        let lx : i < length xs = omega (arith, length-set rs i r) in
        let same : remove xs i ≡ remove rs i = ap (λ ys. ys ++ drop (suc i) xs) (take-set rs i r) ∙ ap (λ ys. take i rs ++ ys) (drop-set-lt (suc i) rs i r (omega arith)) in
        let at : get_or xs i none ≡ r = get_or-set_same rs i r none l in
        subst (λ (ys : List Row). Chained n new ys g) same
        (record {
          within = c.within;
          rows = removed_each (λ (x : Row). Stands new (chain_of x)) none xs i lx c.rows;
          spare = c.spare;
          covers = λ p. omega (arith, c.covers p, total_removed (uses_of new p) xs i lx, ap (uses_of new p) at);
          counts = omega (arith, c.counts, total_removed (λ (x : Row). need x.len) xs i lx, ap (λ (x : Row). need x.len) at);
        })

  -- a row comes, with no sectors
  pub chained_come : (i b : ℕ) → i ≤ length rs → Chained n mem (insert rs i (fresh_row b 0)) free
  chained_come i b l =
      record {
        within = h.within;
        rows = inserted_each (λ (x : Row). Stands mem (chain_of x)) none rs i (fresh_row b 0) l h.rows (record { ends = refl; last = refl });
        spare = h.spare;
        covers = λ p. omega (arith, h.covers p, total_inserted (uses_of mem p) rs i (fresh_row b 0));
        counts = omega (arith, h.counts, total_inserted (λ (x : Row). need x.len) rs i (fresh_row b 0));
      }

-- nothing moves
pub moved_none : (mem : List ℕ) (c f : Chain) → Both mem c f → Moved mem c f mem c f
moved_none mem c f h = record { both = h; count = refl; same = λ p. refl; nexts = λ q z. refl; payloads = λ q z. refl }

-- bytes written into a chain move no sector
pub moved_filled : (mem new : List ℕ) (c f : Chain) (at : ℕ) (bs : List ℕ) → length new ≡ length mem → Both mem c f → Filled mem c at bs new → Moved mem c f new c f
moved_filled mem new c f at bs long h w = moved_written mem mem new c f c f at bs long (moved_none mem c f h) w

-- as many sectors as are put to use lie in the memory
pub usable_within : (m : ℕ) → usable m ≤ min m 65536
usable_within m =
    elim (cases_lt m 2) [
      | inl a ↦ let t = lt-leb 2 m a in simp t (omega arith)
      | inr a ↦ elim (cases_lt 65536 m) [
        | inl b ↦ let t = le-leb 2 m a in let u = lt-leb m 65536 b in simp (t, u) (omega arith)
        | inr b ↦ let t = le-leb 2 m a in let u = le-leb m 65536 b in simp (t, u) (omega arith)
      ]
    ]
