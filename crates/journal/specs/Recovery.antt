-- Recovery, part by part: what each part answers of the rule of opening.
use Rattle.std.specs.Prelude.{◌≡◌, ℕ, ◌+◌, ◌*◌, ◌<◌, ◌≤◌, min, Bool, true, false, cond, not, ◌⊎◌, [], ◌∷◌, length, reverse, Some, None, Ok, Err, Option, Result, ◌==◌, nat_lt}
use Rattle.std.specs.Option.{unwrap_or}
use Rattle.std.specs.Bool.{then_some}
use Rattle.store.specs.Disk.{Blob, Blobs, Disk, View, change}
use Rattle.rules.specs.Rules.{Config, MAX, Plan, answer, ask, refuse, refuse_if, Outcome, answered, refused, Follows, ItemPruned}
use Rattle.rules.specs.Rules.{OffsetOverflow as Over}
use Rattle.rules.specs.Rules.{Fault as Ruled}
use Rattle.rules.specs.Open.{Opened, start_at, needed, round_up, examine, examine_two, capacity, passes, valid, standing, Walked, stands, overfull, overflows, walk_all, weigh, below, edge_at, is_below, or_max, any_over}
use Rattle.journal.specs.declared.log.Held.{Held}
use Rattle.journal.specs.declared.scope.Scope.{Scope}
use Rattle.journal.specs.declared.walk.Filled.{Filled}
use Rattle.journal.specs.declared.walk.Filled.TheVariants.{Full, Short}
use Rattle.journal.specs.Configs.{ruled}
use Rattle.journal.specs.declared.fault.Corrupt.TheVariants.{Overfull}
use Rattle.journal.specs.declared.fault.Fault.{Fault}
use Rattle.journal.specs.declared.fault.Fault.TheVariants.{ItemPruned as Pruned}
use Rattle.journal.specs.declared.fault.Fault.TheVariants.{OffsetOverflow, Corruption}
use Rattle.journal.specs.Faults.{Means}
use Rattle.journal.specs.Logs.{held_of}

-- a plan is a refusal, and a fault tells it
abbrev pub Tells : Fault → Plan Opened → Type 0
Tells f p = (x : Ruled) × Means {A = Opened} f (refused x) × (p ≡ refuse x)

-- the lowest blob's first position, or 0
abbrev pub First : Config → Option ℕ → Result ℕ Fault → Type 0
First c None (Ok f) = f ≡ 0
First c None (Err e) = ⊥
First c (Some lo) (Ok f) = (f ≡ lo * c.n) × (f ≤ MAX)
First c (Some lo) (Err e) = (e ≡ OffsetOverflow) × (MAX < lo * c.n)

abbrev pub Starts : Config → Option ℕ → Option ℕ → Result ℕ Fault → Type 0
Starts c h lo (Ok s) = (k : ℕ → Plan Opened) → start_at c h lo k ≡ k s
Starts c h lo (Err f) = (k : ℕ → Plan Opened) → Tells f (start_at c h lo k)

-- the blobs from number b on
abbrev pub rest : ℕ → Blobs → Blobs
rest b [] = []
rest b (x ∷ xs) = cond (nat_lt x.0 b) (rest b xs) (x ∷ xs)

-- whether there are blobs above b
abbrev pub is_more : ℕ → Blobs → Bool
is_more b xs = not (length (rest (b + 1) xs) == 0)

-- one blob of the walk, with so many records
abbrev pub Fills : Config → ℕ → ℕ → ℕ → ℕ → Result Filled Fault → Type 0
Fills c s size b len (Ok (Full g)) = (nat_lt (capacity c s b) len ≡ false) × (nat_lt MAX (size + len) ≡ false) × (g ≡ size + len) × ((len == capacity c s b) ≡ true)
Fills c s size b len (Ok (Short g)) = (nat_lt (capacity c s b) len ≡ false) × (nat_lt MAX (size + len) ≡ false) × (g ≡ size + len) × ((len == capacity c s b) ≡ false)
Fills c s size b len (Err f) =
    ((nat_lt (capacity c s b) len ≡ true) × (f ≡ Corruption Overfull))
    ⊎ ((nat_lt (capacity c s b) len ≡ false) × (nat_lt MAX (size + len) ≡ true) × (f ≡ OffsetOverflow))

-- the walk: the size and the gap, or what is wrong
abbrev pub Walks : Walked → Result (ℕ × Bool) Fault → Type 0
Walks q (Ok x) = q ≡ stands x.0 x.1
Walks q (Err f) = ((q ≡ overfull) × (f ≡ Corruption Overfull)) ⊎ ((q ≡ overflows) × (f ≡ OffsetOverflow))

-- a question that a store which is up answers
abbrev pub Gives : {A E : Type 0} → A → Result A E → Type 0
Gives y (Ok x) = x ≡ y
Gives y (Err f) = ⊥

-- a pure part that ends the plan
abbrev pub Settles : Plan Opened → Result Held Fault → Type 0
Settles p (Ok h) = p ≡ answer (held_of h)
Settles p (Err f) = Tells f p

-- how many bytes a suspect of so many is scanned for
abbrev pub limit_for : Config → ℕ → Option ℕ → ℕ → ℕ → ℕ
limit_for c s None b len = len
limit_for c s (Some k) b len = min len (round_up c.page (min MAX (needed c s (Some k) b * c.z)))

-- where a suspect is cut, if it does not pass
abbrev pub cut_of : Config → ℕ → Option ℕ → ℕ × Blob → Option ℕ
cut_of c s ceiling x = then_some (not (passes c s ceiling x)) (valid c s ceiling x)

-- as many acknowledged bytes, or more than a number can tell
abbrev pub Owed : ℕ → Result ℕ Fault → Type 0
Owed n (Ok a) = (a ≡ n) × (n ≤ MAX)
Owed n (Err f) = (MAX < n) × (f ≡ OffsetOverflow)

-- a plan is followed to the end that a fault tells
abbrev pub Ends : Plan Opened → View → Fault → View → Type 0
Ends p v f w = (r : Outcome Opened) × Means f r × Follows p v r w

-- from v on p is followed to wherever q is from w on
abbrev pub Leads : Plan Opened → View → Plan Opened → View → Type 0
Leads p v q w = (r : Outcome Opened) (y : View) → Follows q w r y → Follows p v r y

-- the suspect b is now x
pub record Stood (c : Config) (s : ℕ) (ceiling : Option ℕ) (floor b : ℕ) (was : Blob) (v w : View) : Type 0 where
  pub blob : Blob
  pub up : w.up ≡ true
  pub blobs : w.disk.blobs ≡ change (λ _. blob) b v.disk.blobs
  pub leads : (k : ℕ × Blob → Plan Opened) → Leads (examine c s ceiling floor (b, was) k) v (k (b, blob)) w

abbrev pub Examined : {A : Type 0} → Config → ℕ → Option ℕ → ℕ → ℕ → Blob → View → Result A Fault → View → Type 0
Examined c s ceiling floor b x v (Ok y) w = Stood c s ceiling floor b x v w
Examined c s ceiling floor b x v (Err f) w = (k : ℕ × Blob → Plan Opened) → Ends (examine c s ceiling floor (b, x) k) v f w

-- the last of rising numbers, or else d
abbrev pub last_or : Option ℕ → Blobs → Option ℕ
last_or d [] = d
last_or d (x ∷ xs) = last_or (Some x.0) xs

abbrev pub highest : Blobs → Option ℕ
highest xs = last_or None xs

abbrev pub ExaminedTwo : {A : Type 0} → Config → ℕ → Option ℕ → ℕ → ℕ → View → Result A Fault → View → Type 0
ExaminedTwo c s ceiling floor e v (Ok y) w =
    (w.up ≡ true) × ((k : Blobs → Plan Opened) → Leads (examine_two c s ceiling floor (reverse (below e v.disk.blobs)) k) v (k (below e w.disk.blobs)) w)
ExaminedTwo c s ceiling floor e v (Err f) w = (k : Blobs → Plan Opened) → Ends (examine_two c s ceiling floor (reverse (below e v.disk.blobs)) k) v f w

-- the ceiling is not below the start
abbrev pub Reaches : {A : Type 0} → ℕ → Option ℕ → Result A Fault → Type 0
Reaches s ceiling (Ok y) = is_below ceiling s ≡ false
Reaches s ceiling (Err f) = (is_below ceiling s ≡ true) × (f ≡ Pruned (or_max ceiling))

-- the ceiling is not below the start, and every blob's first position is a number
abbrev pub admitted : Config → ℕ → Option ℕ → Blobs → Plan Opened → Plan Opened
admitted c s ceiling xs p = refuse_if (is_below ceiling s) (ItemPruned (or_max ceiling)) (refuse_if (any_over c xs) Over p)

abbrev pub Admits : {A : Type 0} → Config → ℕ → Option ℕ → Blobs → Result A Fault → Type 0
Admits c s ceiling xs (Ok y) = (p : Plan Opened) → admitted c s ceiling xs p ≡ p
Admits c s ceiling xs (Err f) = (p : Plan Opened) → Tells f (admitted c s ceiling xs p)

-- the suspects, the walk and the watermark
abbrev pub spanned : Config → ℕ → Option ℕ → Disk → Plan Opened
spanned c s ceiling d =
    examine_two c s ceiling (min (unwrap_or d.present.watermark 0) (or_max ceiling)) (reverse (below (edge_at c s ceiling) d.blobs)) (λ bs.
    weigh c s ceiling (edge_at c s ceiling) d.present.watermark (walk_all c s bs))

-- the scope that a log with no staged clear is opened in
abbrev pub FindsScope : Config → Option ℕ → View → Result Scope Fault → Type 0
FindsScope c ceiling v (Ok x) = standing c ceiling v.disk ≡ spanned (ruled x.config) x.start x.ceiling v.disk
FindsScope c ceiling v (Err f) = Ends (ask (standing c ceiling v.disk)) v f v

-- a part of opening that ends it
abbrev pub Recovers : Plan Opened → View → Result Held Fault → View → Type 0
Recovers p v (Ok h) w = Follows p v (answered (held_of h)) w
Recovers p v (Err f) w = Ends p v f w
