-- Reads: every position of the span reads the record that was last handed in for it, and every other is denied as the ledger says.
use Rattle.std.proofs.Common.{◌≡◌, ℕ, suc, ◌+◌, ◌-◌, ◌*◌, ◌/◌, ◌<◌, ◌≤◌, Bool, true, false, cond, ltb, leb, ◌⊎◌, List, [], ◌∷◌, ◌++◌, map, length, take, drop, Some, None, Ok, Err, Option, Result, sym, refl, ap, ◌∙◌, subst, inl, inr, div-mul-le_self, arith}
use lib.Seq.{take-append-le}
use native.Mathlib.Nat.{lt-div-mul-add}
use Rattle.std.proofs.lemmas.Bool.{cond-false, le-ltb, leb-false, ltb-false}
use Rattle.std.proofs.lemmas.Nat.{le-div, div_below}
use Rattle.std.proofs.lemmas.List.{take_all}
use Rattle.std.specs.List.{flat_map}
use Rattle.store.specs.declared.cause.Cause.{Cause}
use Rattle.store.specs.Disk.{Blob, Blobs, View, find}
use Rattle.rules.specs.Rules.{Config, first_in, Fault, answered}
use Rattle.rules.specs.Reads.{when, falling, outside, lacking, bytes_of, Copy, copied, Reading, decoded, reading, unless, ended}
use Rattle.ledger.specs.History.{Ask, One, Many}
use Rattle.ledger.specs.Ledger.{Ledger, denial}
use Rattle.ledger.specs.Promises.{Reads}
use Rattle.ledger.specs.Runs.{Records, read_by, told}
use Rattle.ledger.proofs.Blobs.{looked, impossible, listed_find, found_listed}
use Rattle.ledger.proofs.Invariant.{first, room, first_is, first_room, first_apart, Rows, Held}

-- which positions are inside
abbrev pub InsideAll : ℕ → ℕ → List ℕ → Type 0
InsideAll s e [] = Unit {0}
InsideAll s e (p ∷ ps) = (s ≤ p) × (p < e) × InsideAll s e ps

when_none : (b : Bool) (f : Fault) (o : Option Fault) → when b f o ≡ None → (b ≡ false) × (o ≡ None)
when_none true f o e = impossible cc
when_none false f o e = (refl, e)

pub outside_none : (s e : ℕ) (ps : List ℕ) (o : Option Fault) → outside s e ps o ≡ None → InsideAll s e ps × (o ≡ None)
outside_none s e [] o h = (tt, h)
outside_none s e (p ∷ ps) o h =
    let a = when_none (leb e p) _ _ h in
    let b = when_none (ltb p s) _ _ a.1 in
    let r = outside_none s e ps o b.1 in
    ((ltb-false p s b.0, leb-false e p a.0, r.0), r.1)

pub falling_none : (i : ℕ) (ps : List ℕ) (o : Option Fault) → falling i ps o ≡ None → o ≡ None
falling_none i [] o h = h
falling_none i (p ∷ []) o h = h
falling_none i (p ∷ (q ∷ qs)) o h = falling_none (i + 1) (q ∷ qs) o (when_none (leb q p) _ _ h).1

module _ {R : Type 0} (c : Config) (enc : R → List ℕ) where
  -- the bytes of a position are those of the record that was handed in
  pub record Good (s : ℕ) (v : View) (handed : ℕ → Option R) (p : ℕ) : Type 0 where
    pub given : R
    pub was : handed p ≡ Some given
    pub reads : bytes_of c s v p ≡ Ok (enc given)

  pub good : {lo more : ℕ} (l : Ledger R) (v : View) (e p : ℕ) → v.up ≡ true → Rows c enc lo more v.disk.blobs l
      → ((b : ℕ) (x : Blob) (m : ℕ) → find v.disk.blobs b ≡ Some x → m ≤ room c l.start b → first c l.start b + m ≤ e → m * c.z ≤ x.sound)
      → e ≤ (lo + more) * c.n + c.n → l.start ≤ p → p < e → Good l.start v l.handed p
  good {lo} {more} l v e p up w cov top h g = record {
    given = t.given;
    was = ap (λ (j : ℕ). l.handed j) (sym at) ∙ t.was;
    reads =
        ap (λ (u : Bool). cond u (Rattle.store.specs.Ask.of_blob (find bs b) k) (Err Rattle.store.specs.declared.cause.Cause.TheVariants.Power)) up
        ∙ (ap (λ (u : Option Blob). Rattle.store.specs.Ask.of_blob u k) x.1
        ∙ (cond-false (ltb (length x.0.bytes) (i + c.z)) _ _ (le-ltb (length x.0.bytes) (i + c.z) (let q = whole in let f = w.fits b x.0 x.1 in omega arith))
        ∙ (cond-false (ltb x.0.sound (i + c.z)) _ _ (le-ltb x.0.sound (i + c.z) whole)
        ∙ ap {B = Result (List ℕ) Cause} Ok (ap (λ (j : ℕ). take c.z (drop (j * c.z) x.0.bytes)) im ∙ t.reads))));
  }
    where
      bs : Blobs
      bs = v.disk.blobs

      b : ℕ
      b = p / c.n

      i : ℕ
      i = (p - first_in c l.start b) * c.z

      k : Blob → Result (List ℕ) Cause
      k y = cond (ltb (length y.bytes) (i + c.z)) (Err Rattle.store.specs.declared.cause.Cause.TheVariants.Range) (cond (ltb y.sound (i + c.z)) (Err Rattle.store.specs.declared.cause.Cause.TheVariants.Torn) (Ok (take c.z (drop i y.bytes))))

      np : 0 < c.n
      np = let a = w.low.from in let d = w.low.below in omega arith

      from : lo ≤ b
      from = le-div lo p c.n np (let a = w.low.from in omega arith)

      to : b < lo + suc more
      to = let a = div_below p c.n (suc (lo + more)) np (omega arith) in omega arith

      x : (y : Blob) × (find bs b ≡ Some y)
      x = listed_find bs lo (suc more) b w.listed from to

      fi : first c l.start b ≡ first_in c l.start b
      fi = first_is c l.start b

      m : ℕ
      m = p - first c l.start b

      im : p - first_in c l.start b ≡ m
      im = omega (arith, fi)

      at : first c l.start b + m ≡ p
      at = omega (arith, fi, div-mul-le_self p c.n)

      within : suc m ≤ room c l.start b
      within = omega (arith, at, first_room c l.start lo w.low b from, lt-div-mul-add {a = p} np)

      all : suc m * c.z ≤ x.0.sound
      all = cov b x.0 (suc m) x.1 within (omega (arith, at))

      whole : i + c.z ≤ x.0.sound
      whole = let a = all in let q : i ≡ m * c.z = ap (λ (j : ℕ). j * c.z) im in omega arith

      t : Held c enc l b x.0 m
      t = w.held b x.0 m x.1
          (λ j y o f.
          let a = found_listed bs lo (suc more) j y w.listed f in
          let d = first_apart c l.start lo w.low j b a.0 (omega arith) in
          cov j y (room c l.start j) f (omega arith) (omega (arith, at)))
          all

-- every record handed in is read back
abbrev pub Backs : {R : Type 0} → (R → List ℕ) → (List ℕ → Option R) → (ℕ → Option R) → Type 0
Backs {R} enc decodes handed = (p : ℕ) (r : R) → handed p ≡ Some r → decodes (enc r) ≡ Some r

module _ {R : Type 0} (c : Config) (enc : R → List ℕ) (decodes : List ℕ → Option R) (ez : (r : R) → length (enc r) ≡ c.z) where
  pub record CopiedAll (s : ℕ) (v : View) (handed : ℕ → Option R) (ps : List ℕ) : Type 0 where
    pub records : List R
    pub bytes : copied c s v ps ≡ record { bytes = flat_map enc records; stop = None }
    pub are : map Some records ≡ map handed ps
    pub as_many : length records ≡ length ps
    pub backs : Records c enc decodes records

  pub copied_all : (s e : ℕ) (v : View) (handed : ℕ → Option R) → Backs enc decodes handed → ((p : ℕ) → s ≤ p → p < e → Good c enc s v handed p) → (ps : List ℕ) → InsideAll s e ps → CopiedAll s v handed ps
  copied_all s e v handed back each [] i = record { records = []; bytes = refl; are = refl; as_many = refl; backs = tt }
  copied_all s e v handed back each (p ∷ ps) i =
      let r = copied_all s e v handed back each ps i.2 in
      let g = each p i.0 i.1 in
      record {
        records = g.given ∷ r.records;
        bytes = ap (λ (o : Result (List ℕ) Cause). Rattle.rules.specs.Reads.more c p o (copied c s v ps)) g.reads ∙ ap (λ (o : Copy). Rattle.rules.specs.Reads.more c p (Ok (enc g.given)) o) r.bytes;
        are = let a = g.was in let b = r.are in cc;
        as_many = let a = r.as_many in omega arith;
        backs = (ez g.given, back p g.given g.was, r.backs);
      }

  pub decoded_all : (all : List ℕ) (rs : List R) (ps : List ℕ) → length rs ≡ length ps → Records c enc decodes rs → decoded decodes c all (flat_map enc rs) ps ≡ record { bytes = all; records = rs; outcome = answered tt }
  decoded_all all [] [] e k = refl
  decoded_all all [] (p ∷ ps) e k = absurd (omega arith)
  decoded_all all (r ∷ rs) [] e k = absurd (omega arith)
  decoded_all all (r ∷ rs) (p ∷ ps) e k =
      let ih = decoded_all all rs ps (omega arith) k.2 in
      let z = ez r in
      let a : take c.z (enc r ++ flat_map enc rs) ≡ enc r = take-append-le c.z (enc r) (flat_map enc rs) (omega arith) ∙ take_all c.z (enc r) (omega arith) in
      let b : drop c.z (enc r ++ flat_map enc rs) ≡ flat_map enc rs = ap (λ (j : ℕ). drop j (enc r ++ flat_map enc rs)) (sym z) ∙ drop_past (enc r) (flat_map enc rs) in
      ap (λ (u : List ℕ). Rattle.rules.specs.Reads.onto decodes all p (decodes u) (decoded decodes c all (drop c.z (enc r ++ flat_map enc rs)) ps)) a
      ∙ (ap (λ (o : Option R). Rattle.rules.specs.Reads.onto decodes all p o (decoded decodes c all (drop c.z (enc r ++ flat_map enc rs)) ps)) k.1
      ∙ (ap (λ (u : List ℕ). Rattle.rules.specs.Reads.onto decodes all p (Some r) (decoded decodes c all u ps)) b
      ∙ ap (λ (o : Reading R). Rattle.rules.specs.Reads.onto decodes all p (Some r) o) ih))
    where
      drop_past : (xs ys : List ℕ) → drop (length xs) (xs ++ ys) ≡ ys
      drop_past [] ys = refl
      drop_past (x ∷ xs) ys = drop_past xs ys

  -- a list of positions, none of them outside, gives their records
  pub reading_all : (s e : ℕ) (v : View) (handed : ℕ → Option R) → Backs enc decodes handed → ((p : ℕ) → s ≤ p → p < e → Good c enc s v handed p) → (ps : List ℕ) → InsideAll s e ps
      → (rs : List R) × (reading decodes c s v ps ≡ record { bytes = flat_map enc rs; records = rs; outcome = answered tt }) × (map Some rs ≡ map handed ps)
  reading_all s e v handed back each ps i =
      let k = copied_all s e v handed back each ps i in (
        k.records,
        ap (λ (o : Copy). ended decodes c ps o.bytes o.stop) k.bytes ∙ decoded_all (flat_map enc k.records) k.records ps k.as_many k.backs,
        k.are,
      )

  -- the answer of a read is as the ledger says
  answers : (l : Ledger R) (v : View) (q : Ask) (ps : List ℕ) → Rattle.ledger.specs.Promises.positions q ≡ ps → Backs enc decodes l.handed → ((p : ℕ) → l.start ≤ p → p < l.end → Good c enc l.start v l.handed p)
      → (denial c l q ≡ None → InsideAll l.start l.end ps) → Reads c l v q (told c enc decodes (unless decodes (denial c l q) (reading decodes c l.start v ps)))
  answers l v q ps is back each inside = go (looked (denial c l q))
    where
      go : (denial c l q ≡ None) ⊎ ((f : Fault) × (denial c l q ≡ Some f)) → Reads c l v q (told c enc decodes (unless decodes (denial c l q) (reading decodes c l.start v ps)))
      go (inl n) =
          let r = reading_all l.start l.end v l.handed back each ps (inside n) in
          subst (λ (o : Option Fault). Reads c l v q (told c enc decodes (unless decodes o (reading decodes c l.start v ps)))) (sym n)
          (subst (λ (o : Reading R). Reads c l v q (told c enc decodes o)) (sym r.1) (n, r.2 ∙ ap (λ (u : List ℕ). map l.handed u) (sym is)))
      go (inr f) = subst (λ (o : Option Fault). Reads c l v q (told c enc decodes (unless decodes o (reading decodes c l.start v ps)))) (sym f.1) f.1

  pub reads_agree : (l : Ledger R) (v : View) → Backs enc decodes l.handed → ((p : ℕ) → l.start ≤ p → p < l.end → Good c enc l.start v l.handed p) → (q : Ask) → Reads c l v q (read_by c enc decodes (l.start, l.end) v q)
  reads_agree l v back each (One p) = answers l v (One p) (p ∷ []) refl back each (λ n. (outside_none l.start l.end (p ∷ []) None n).0)
  reads_agree l v back each (Many ps bytes recs) =
      answers l v (Many ps bytes recs) ps refl back each (λ n. (outside_none l.start l.end ps (lacking bytes (length ps * c.z) (lacking recs (length ps) None)) (falling_none 0 ps _ n)).0)
