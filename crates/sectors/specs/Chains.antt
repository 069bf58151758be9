-- Chains of sectors, and what becomes of two of them.
use Rattle.std.specs.Prelude.{◌≡◌, ℕ, ◌+◌, ◌<◌, List, ◌++◌}
use Rattle.std.specs.List.{flat_map}
use Rattle.store.specs.Occurs.{occurs}
use Rattle.octets.specs.Written.{written}
use Rattle.sectors.specs.declared.chain.Chain.{Chain}
use Rattle.sectors.specs.Sectors.{next_of, payload, sectors, after, last_of, Apart}

-- the sectors of a chain, in order
abbrev pub list : List ℕ → Chain → List ℕ
list mem c = sectors c.count (next_of mem) c.first

-- all their payloads, one after another
abbrev pub joint : List ℕ → Chain → List ℕ
joint mem c = flat_map (payload mem) (list mem c)

-- zero ends the chain, and its last sector is known
pub record Stands (mem : List ℕ) (c : Chain) : Type 0 where
  pub ends : after c.count (next_of mem) c.first ≡ 0
  pub last : c.last ≡ last_of c.count (next_of mem) c.first

-- two chains that stand, with no sector in common
pub record Both (mem : List ℕ) (a b : Chain) : Type 0 where
  pub one : Stands mem a
  pub other : Stands mem b
  pub apart : Apart mem (list mem a ++ list mem b)
  pub few : a.count + b.count < 65536

-- the payloads are as they were, and so are the next numbers of all sectors but those of xs
pub record Relinked (mem xs new : List ℕ) : Type 0 where
  pub payloads : (q : ℕ) → payload new q ≡ payload mem q
  pub others : (q : ℕ) → occurs q xs ≡ 0 → next_of new q ≡ next_of mem q

-- one chain made of two
pub record Joined (mem : List ℕ) (a b : Chain) (new : List ℕ) (c : Chain) : Type 0 where
  pub stands : Stands new c
  pub sectors : list new c ≡ list mem a ++ list mem b
  pub count : c.count ≡ a.count + b.count
  pub relinked : Relinked mem (list mem a) new

-- a chain cut after its first k sectors
pub record Split (mem : List ℕ) (c : Chain) (k : ℕ) (new : List ℕ) (a b : Chain) : Type 0 where
  pub front : Stands new a
  pub rest : Stands new b
  pub sectors : list new a ++ list new b ≡ list mem c
  pub counts : (a.count ≡ k) × (a.count + b.count ≡ c.count)
  pub relinked : Relinked mem (list mem c) new

-- bs written into the payloads of a chain, from `at` on, and nothing else changed
pub record Filled (mem : List ℕ) (c : Chain) (at : ℕ) (bs new : List ℕ) : Type 0 where
  pub joint : flat_map (payload new) (list mem c) ≡ written (flat_map (payload mem) (list mem c)) at bs
  pub nexts : (q : ℕ) → next_of new q ≡ next_of mem q
  pub others : (q : ℕ) → occurs q (list mem c) ≡ 0 → payload new q ≡ payload mem q

-- how often a sector stands in two chains
abbrev pub uses : List ℕ → Chain → Chain → ℕ → ℕ
uses mem c f p = occurs p (list mem c) + occurs p (list mem f)

-- chain c and the free chain f become d and g, of the same sectors: every sector of other chains is as it was
pub record Moved (mem : List ℕ) (c f : Chain) (new : List ℕ) (d g : Chain) : Type 0 where
  pub both : Both new d g
  pub count : d.count + g.count ≡ c.count + f.count
  pub same : (p : ℕ) → uses new d g p ≡ uses mem c f p
  pub nexts : (q : ℕ) → uses mem c f q ≡ 0 → next_of new q ≡ next_of mem q
  pub payloads : (q : ℕ) → uses mem c f q ≡ 0 → payload new q ≡ payload mem q
