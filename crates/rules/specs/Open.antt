-- Opening: which records a store is found to hold.
use Rattle.std.specs.Prelude.{ℕ, ◌+◌, ◌-◌, ◌*◌, ◌/◌, min, Bool, true, false, cond, not, ◌&&◌, ◌||◌, [], ◌∷◌, reverse, length, is_some, Some, None, Option, ◌==◌, nat_le, nat_lt}
use Rattle.std.specs.Option.{unwrap_or}
use Rattle.store.specs.Disk.{Blob, Blobs, Disk, numbers, cut_to, Truncate}
use Rattle.rules.specs.Rules.{Config, MAX, blob_of, first_in, aligned, Plan, answer, refuse, ask, call, calls, refuse_if, ItemPruned, OffsetOverflow, Corruption, clearing}

-- an opened log; blobs from edge on are set aside, and where none is, edge is above every number
pub record Opened : Type 0 where
  pub start : ℕ
  pub end : ℕ
  pub mark : ℕ
  pub bounded : Bool
  pub edge : ℕ

abbrev pub no_edge : ℕ
no_edge = 18446744073709551616

-- start -----------------------------------------------------------------------------------------

abbrev pub lowest : Blobs → Option ℕ
lowest [] = None
lowest (x ∷ xs) = Some x.0

abbrev pub start_at : {A : Type 0} → Config → Option ℕ → Option ℕ → (ℕ → Plan A) → Plan A
start_at c None None k = k 0
start_at c None (Some lo) k = refuse_if (nat_lt MAX (lo * c.n)) OffsetOverflow (k (lo * c.n))
start_at c (Some h) None k = cond (aligned c h) (k 0) (refuse (Corruption 2))
start_at c (Some h) (Some lo) k =
    refuse_if (nat_lt MAX (lo * c.n)) OffsetOverflow
    (cond (aligned c h || nat_lt (blob_of c h) lo) (k (lo * c.n))
    (cond (blob_of c h == lo) (k h) (refuse (Corruption 1))))

-- ceiling ---------------------------------------------------------------------------------------

abbrev pub or_max : Option ℕ → ℕ
or_max o = unwrap_or o MAX

abbrev pub is_below : Option ℕ → ℕ → Bool
is_below None s = false
is_below (Some k) s = nat_lt k s

-- the lowest number whose first position reaches the ceiling
abbrev pub edge_at : Config → ℕ → Option ℕ → ℕ
edge_at c s None = no_edge
edge_at c s (Some k) = cond (nat_le k s) 0 ((k + (c.n - 1)) / c.n)

abbrev pub any_over : Config → Blobs → Bool
any_over c [] = false
any_over c (x ∷ xs) = nat_lt MAX (x.0 * c.n) || any_over c xs

abbrev pub below : ℕ → Blobs → Blobs
below edge [] = []
below edge (x ∷ xs) = cond (nat_lt x.0 edge) (x ∷ below edge xs) []

-- the two highest -------------------------------------------------------------------------------

abbrev pub round_up : ℕ → ℕ → ℕ
round_up page x = min MAX (((x + (page - 1)) / page) * page)

abbrev pub needed : Config → ℕ → Option ℕ → ℕ → ℕ
needed c s ceiling b = min c.n (or_max ceiling - first_in c s b)

abbrev pub limit_of : Config → ℕ → Option ℕ → ℕ × Blob → ℕ
limit_of c s None x = length x.1.bytes
limit_of c s (Some k) x = min (length x.1.bytes) (round_up c.page (min MAX (needed c s (Some k) x.0 * c.z)))

abbrev pub scanned : Config → ℕ → Option ℕ → ℕ × Blob → ℕ
scanned c s ceiling x = min x.1.sound (limit_of c s ceiling x)

abbrev pub valid : Config → ℕ → Option ℕ → ℕ × Blob → ℕ
valid c s ceiling x = (scanned c s ceiling x / c.z) * c.z

abbrev pub passes : Config → ℕ → Option ℕ → ℕ × Blob → Bool
passes c s ceiling x =
    (valid c s ceiling x == length x.1.bytes)
    || (is_some ceiling && (scanned c s ceiling x == limit_of c s ceiling x && nat_le (needed c s ceiling x.0) (scanned c s ceiling x / c.z)))

abbrev pub acknowledged : Config → ℕ → ℕ → ℕ → ℕ
acknowledged c s floor b = cond (b == blob_of c floor) ((floor - first_in c s b) * c.z) 0

-- a suspect is passed over, refused or cut; what comes after is told how the blob now stands
abbrev pub examine : {A : Type 0} → Config → ℕ → Option ℕ → ℕ → ℕ × Blob → (ℕ × Blob → Plan A) → Plan A
examine c s ceiling floor x k =
    cond (nat_lt x.0 (blob_of c floor)) (k x)
    (refuse_if (nat_lt MAX (acknowledged c s floor x.0)) OffsetOverflow
    (cond (passes c s ceiling x) (k x)
    (refuse_if (nat_lt (valid c s ceiling x) (acknowledged c s floor x.0)) (Corruption 3)
    (call (Truncate x.0 (valid c s ceiling x)) (k (x.0, cut_to (valid c s ceiling x) x.1))))))

-- over the blobs, highest first
abbrev pub examine_two : {A : Type 0} → Config → ℕ → Option ℕ → ℕ → Blobs → (Blobs → Plan A) → Plan A
examine_two c s ceiling floor [] k = k []
examine_two c s ceiling floor (x ∷ []) k = examine c s ceiling floor x (λ x'. k (x' ∷ []))
examine_two c s ceiling floor (x ∷ (y ∷ ys)) k = examine c s ceiling floor x (λ x'. examine c s ceiling floor y (λ y'. k (reverse (x' ∷ (y' ∷ ys)))))

-- the walk --------------------------------------------------------------------------------------

pub data Walked : Type 0 where
  stands : ℕ → Bool → Walked
  overfull : Walked
  overflows : Walked

abbrev pub capacity : Config → ℕ → ℕ → ℕ
capacity c s b = c.n - min c.n (s - b * c.n)

-- from blob b on, with size counted so far; the Bool says whether the walk ended before the highest blob
abbrev pub walk : Config → ℕ → ℕ → ℕ → Blobs → Walked
walk c s size b [] = stands size false
walk c s size b (x ∷ xs) =
    let len : ℕ = length x.1.bytes / c.z in
    cond (not (x.0 == b)) (stands size true)
    (cond (nat_lt (capacity c s b) len) overfull
    (cond (nat_lt MAX (size + len)) overflows
    (cond (len == capacity c s b) (walk c s (size + len) (b + 1) xs)
    (stands (size + len) (not (length xs == 0))))))

abbrev pub walk_all : Config → ℕ → Blobs → Walked
walk_all c s [] = stands s false
walk_all c s (x ∷ xs) = walk c s s x.0 (x ∷ xs)

abbrev pub opened : ℕ → Option ℕ → ℕ → ℕ → ℕ → Plan Opened
opened s ceiling edge size mark =
    answer (record { start = s; end = min size (or_max ceiling); mark = mark; bounded = is_some ceiling; edge = edge })

abbrev pub weigh : Config → ℕ → Option ℕ → ℕ → Option ℕ → Walked → Plan Opened
weigh c s ceiling edge mark overfull = refuse (Corruption 4)
weigh c s ceiling edge mark overflows = refuse OffsetOverflow
weigh c s ceiling edge (Some m) (stands size gap) = refuse_if (nat_lt size (min m (or_max ceiling))) (Corruption 5) (opened s ceiling edge size (min m (or_max ceiling)))
weigh c s ceiling edge None (stands size gap) = refuse_if gap (Corruption 6) (opened s ceiling edge size (first_in c s (blob_of c size)))

-- open ------------------------------------------------------------------------------------------

abbrev pub standing : Config → Option ℕ → Disk → Plan Opened
standing c ceiling d =
    start_at c d.present.hint (lowest d.blobs) (λ s.
    refuse_if (is_below ceiling s) (ItemPruned (or_max ceiling))
    (refuse_if (any_over c d.blobs) OffsetOverflow
    (examine_two c s ceiling (min (unwrap_or d.present.watermark 0) (or_max ceiling)) (reverse (below (edge_at c s ceiling) d.blobs)) (λ bs.
    weigh c s ceiling (edge_at c s ceiling) d.present.watermark (walk_all c s bs)))))

abbrev pub cleared : Config → Option ℕ → Disk → ℕ → Plan Opened
cleared c ceiling d t =
    calls (clearing c t (numbers d.blobs))
    (refuse_if (is_below ceiling t) (ItemPruned (or_max ceiling))
    (answer (record { start = t; end = t; mark = t; bounded = false; edge = no_edge })))

abbrev pub if_staged : Option ℕ → (ℕ → Plan Opened) → Plan Opened → Plan Opened
if_staged None f p = p
if_staged (Some t) f p = f t

abbrev pub open_rule : Config → Option ℕ → Disk → Plan Opened
open_rule c ceiling d = ask (if_staged d.present.target (cleared c ceiling d) (standing c ceiling d))
