-- A read of one record.
use Rattle.std.proofs.Common.{◌≡◌, ℕ, ◌+◌, ◌<◌, min, List, [], ◌∷◌, ◌++◌, length, take, Some, None, Ok, Err, Option, refl, ap, ◌∙◌, inl, inr, arith}
use lib.Seq.{take-append-le}
use Rattle.std.proofs.lemmas.Bool.{lt-ltb, cases_lt}
use Rattle.std.proofs.lemmas.List.{take_all}
use Rattle.std.specs.Option.{ok_or}
use Rattle.store.specs.declared.cause.Cause.{Cause}
use Rattle.store.specs.Disk.{Blob, View, find}
use Rattle.store.specs.Ask.{read_of}
use Rattle.store.specs.Laws.{Lawful}
use Rattle.store.proofs.Power.{whole_found}
use Rattle.rules.specs.Rules.{Config, MAX, blob_of, stopped, Copied}
use Rattle.rules.specs.Reads.{bytes_of, reading}
use Rattle.journal.specs.Reading.{ReadOne}
use Rattle.journal.specs.declared.fault.Fault.TheVariants.{Codec as Undecoded}

-- no blob has bytes past the largest number
pub read_past : (v : View) (b at n : ℕ) → Lawful v → 0 < n → read_of v b (min at MAX) n ≡ read_of v b at n
read_past v b at n laws pos = elim (cases_lt MAX at) [ inl over ↦ by_blob over (find v.disk.blobs b) refl | inr l ↦ ap (λ (k : ℕ). read_of v b k n) (omega arith) ]
  where
    by_blob : MAX < at → (o : Option Blob) → find v.disk.blobs b ≡ o → read_of v b (min at MAX) n ≡ read_of v b at n
    by_blob over None f = simp f
    by_blob over (Some x) f =
        let h = whole_found v.disk.blobs b x laws.whole f in
        let p = lt-ltb (length x.bytes) (min at MAX + n) (omega (arith, h.fits)) in
        let q = lt-ltb (length x.bytes) (at + n) (omega (arith, h.fits)) in
        simp (f, p, q)

module _ {R : Type 0} (decodes : List ℕ → Option R) (c : Config) (s : ℕ) (v : View) (p : ℕ) where
  whole : (bs : List ℕ) → length bs ≡ c.z → take c.z (bs ++ []) ≡ bs
  whole bs e = take-append-le c.z bs [] (omega arith) ∙ take_all c.z bs (omega arith)

  pub read_as : (bs : List ℕ) (o : Option R) → bytes_of c s v p ≡ Ok bs → length bs ≡ c.z → decodes bs ≡ o → ReadOne (reading decodes c s v (p ∷ [])) (ok_or o (Undecoded p))
  read_as bs (Some k) e l d = let u : decodes (take c.z (bs ++ [])) ≡ Some k = ap decodes (whole bs l) ∙ d in (simp (e, u), simp (e, u))
  read_as bs None e l d = let u : decodes (take c.z (bs ++ [])) ≡ None = ap decodes (whole bs l) ∙ d in simp (e, u)

  pub read_stop : (y : Cause) → bytes_of c s v p ≡ Err y → (reading decodes c s v (p ∷ [])).outcome ≡ stopped (Copied (blob_of c p)) y
  read_stop y e = simp e
