-- The logs on paper: worked examples of the rules, at four records of two bytes to a blob.
use Rattle.std.specs.Prelude.{◌≡◌, ℕ, [], ◌∷◌, replicate, Some, None, Option}
use Rattle.store.specs.Disk.{Blob, Blobs, Disk, no_keys, done_all, Open, Append, Sync}
use Rattle.store.specs.declared.keys.Keys.{Keys}
use Rattle.rules.specs.Rules.{Config, Fault, ItemPruned, Corruption, Plan, answer, refuse, ask, call, made}
use Rattle.rules.specs.Open.{Opened, open_rule}
use Rattle.rules.specs.Calls.{Running, append_rule}

abbrev four : Config
four = record { n = 4; page = 1; z = 2 }

abbrev whole : ℕ → ℕ → ℕ × Blob
whole b k = (b, record { bytes = replicate k 0; sound = k; safe = k })

abbrev disk : Option ℕ → Option ℕ → Option ℕ → Blobs → Disk
disk h t m bs = record { blobs = bs; present = record { hint = h; target = t; watermark = m }; saved = no_keys }

pub data Seen : Type 0 where
  span : ℕ → ℕ → Seen
  fault : Fault → Seen

abbrev seen : Plan Opened → Seen
seen (answer o) = span o.start o.end
seen (refuse f) = fault f
seen (ask p) = seen p
seen (call o p) = seen p

abbrev opens : Option ℕ → Disk → Seen
opens ceiling d = seen (open_rule four ceiling d)

abbrev two : Blobs
two = whole 0 8 ∷ (whole 1 6 ∷ [])

abbrev three : Blobs
three = whole 0 8 ∷ (whole 1 4 ∷ (whole 2 2 ∷ []))

abbrev six : Running
six = record { start = 0; end = 6; owed = None }

abbrev last : Plan (Running × ℕ) → Option ℕ
last (answer x) = Some x.1
last (refuse f) = None
last (ask p) = last p
last (call o p) = last p

abbrev append_five : Plan (Running × ℕ)
append_five = append_rule four six (replicate 5 (replicate 2 0))

abbrev empty : Running
empty = record { start = 0; end = 0; owed = None }

abbrev append_ten : Plan (Running × ℕ)
append_ten = append_rule four empty (replicate 10 (replicate 2 0))

abbrev keys_nine : Keys
keys_nine = record { hint = Some 9; target = None; watermark = Some 9 }

abbrev nine : Disk
nine = disk None (Some 9) None two

pub record Paper : Type 0 where
  pub batches : made append_five ≡ Append 1 (replicate 4 0) ∷ (Open 2 ∷ (Append 2 (replicate 6 0) ∷ []))
  pub answer_ten : last append_five ≡ Some 10
  -- blob 0 is synced once blob 1 is full, and before blob 2 is made
  pub seals :
      made append_ten ≡ Append 0 (replicate 8 0) ∷ (Open 1 ∷ (Append 1 (replicate 8 0) ∷ (Sync 0 ∷ (Open 2 ∷ (Append 2 (replicate 4 0) ∷ [])))))
  pub new_store : opens None (disk None None None []) ≡ span 0 0
  pub seven : opens None (disk None None (Some 5) two) ≡ span 0 7
  pub to_six : opens (Some 6) (disk None None (Some 5) two) ≡ span 0 6
  pub to_none : opens (Some 0) (disk None None (Some 5) two) ≡ span 0 0
  pub hint_inside : opens None (disk (Some 6) None None (whole 1 4 ∷ [])) ≡ span 6 8
  pub hint_overfull : opens None (disk (Some 6) None None (whole 1 6 ∷ [])) ≡ fault (Corruption 4)
  pub hint_aligned : opens None (disk (Some 8) None None (whole 1 0 ∷ [])) ≡ span 4 4
  pub hint_older : opens None (disk (Some 6) None None (whole 2 0 ∷ [])) ≡ span 8 8
  pub hint_newer : opens None (disk (Some 6) None None (whole 0 0 ∷ [])) ≡ fault (Corruption 1)
  pub gap : opens None (disk None None (Some 4) three) ≡ span 0 6
  pub gap_marked : opens None (disk None None (Some 7) three) ≡ fault (Corruption 5)
  pub gap_unmarked : opens None (disk None None None three) ≡ fault (Corruption 6)
  pub torn : opens None (disk None None (Some 6) (whole 0 8 ∷ ((1, record { bytes = replicate 8 0; sound = 3; safe = 0 }) ∷ []))) ≡ fault (Corruption 3)
  pub staged : opens (Some 5) nine ≡ fault (ItemPruned 5)
  pub staged_done : done_all (made (open_rule four (Some 5) nine)) nine ≡ record { blobs = whole 2 0 ∷ []; present = keys_nine; saved = keys_nine }
