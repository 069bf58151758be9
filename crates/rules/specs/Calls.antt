-- What the calls of a log do, once it is opened.
use Rattle.std.specs.Prelude.{ℕ, zero, suc, ◌+◌, ◌-◌, ◌*◌, min, Bool, true, false, cond, not, ◌&&◌, ◌||◌, List, [], ◌∷◌, ◌++◌, map, reverse, length, Some, None, Option, ◌==◌, nat_le, nat_lt}
use Rattle.store.specs.Disk.{Blob, Disk, find, numbers, insert, done_all, Op, Open, Append, Truncate, Sync, Remove}
use Rattle.store.specs.declared.keys.Keys.{Keys}
use Rattle.rules.specs.Rules.{Config, MAX, blob_of, first_in, aligned, Plan, answer, ask, calls, refuse_if, ItemPruned, SizeOverflow, EmptyAppend, Layout, persist, staging, clearing}
use Rattle.rules.specs.Open.{Opened, no_edge}

abbrev pub has : ℕ → List ℕ → Bool
has b [] = false
has b (x ∷ xs) = x == b || has b xs

abbrev pub from : ℕ → List ℕ → List ℕ
from b [] = []
from b (x ∷ xs) = cond (nat_le b x) (x ∷ from b xs) (from b xs)

abbrev pub up_to : ℕ → List ℕ → List ℕ
up_to b [] = []
up_to b (x ∷ xs) = cond (nat_lt x b) (x ∷ up_to b xs) (up_to b xs)

abbrev pub is_empty : List ℕ → Bool
is_empty [] = true
is_empty (x ∷ xs) = false

abbrev pub same : Option ℕ → Option ℕ → Bool
same None None = true
same None (Some x) = false
same (Some x) None = false
same (Some x) (Some y) = x == y

-- truncate --------------------------------------------------------------------------------------

-- key 3 is absent or differs, or key 1 does
abbrev pub keys_first : Config → Keys → ℕ → ℕ → List Op
keys_first c k start mark = cond (same k.watermark (Some mark) && same k.hint (cond (aligned c start) None (Some start))) [] (persist c start mark)

-- an empty log with higher or set-aside blobs keeps the blob of its start
abbrev pub anchored : Config → List ℕ → Opened → ℕ → Bool
anchored c bs o size = size == o.start && not (is_empty (from (min o.edge (blob_of c size + 1)) bs))

abbrev pub anchor : Config → List ℕ → Opened → ℕ → List Op
anchor c bs o size = cond (anchored c bs o size && not (has (blob_of c size) (up_to o.edge bs))) (Open (blob_of c size) ∷ (Sync (blob_of c size) ∷ [])) []

-- set-aside blobs, then those above the blob of size, in one go since set-aside ones are the highest; the blob of size goes if it is still set aside
abbrev pub goes : Config → List ℕ → Opened → ℕ → List ℕ
goes c bs o size = from (cond (anchored c bs o size || nat_lt (blob_of c size) o.edge) (blob_of c size + 1) (blob_of c size)) bs

abbrev pub last_blob : ℕ → ℕ → Option Blob → List Op
last_blob b bytes None = []
last_blob b bytes (Some x) = cond (nat_lt bytes (length x.bytes)) (Truncate b bytes) (Sync b) ∷ []

abbrev pub truncating : Config → Disk → Opened → ℕ → List Op
truncating c d o size =
    let b : ℕ = blob_of c size in
    let bs : List ℕ = numbers d.blobs in
    let above : List Op = keys_first c d.present o.start (min o.mark size) ++ (anchor c bs o size ++ map Remove (reverse (goes c bs o size))) in
    above ++ last_blob b ((size - first_in c o.start b) * c.z) (find (done_all above d).blobs b)

abbrev pub truncated : Opened → ℕ → Opened
truncated o size = record { start = o.start; end = size; mark = min o.mark size; bounded = o.bounded; edge = no_edge }

abbrev pub truncate_rule : Config → Disk → Opened → ℕ → Plan Opened
truncate_rule c d o m =
    let size : ℕ = min o.end m in
    refuse_if (nat_lt size o.start) (ItemPruned size) (ask (calls (truncating c d o size) (answer (truncated o size))))

-- the trimmed log -------------------------------------------------------------------------------

abbrev pub open_if : Bool → ℕ → List Op
open_if true b = []
open_if false b = Open b ∷ []

abbrev pub trimmed_append_rule : Config → Disk → Opened → List ℕ → Plan Opened
trimmed_append_rule c d o bytes =
    let b : ℕ = blob_of c o.end in
    refuse_if (nat_le MAX o.end) SizeOverflow
    (ask (calls (open_if (has b (numbers d.blobs)) b ++ (Append b bytes ∷ cond (aligned c (o.end + 1)) (Sync b ∷ []) []))
    (answer (record { start = o.start; end = o.end + 1; mark = o.mark; bounded = o.bounded; edge = no_edge }))))

abbrev pub trimmed_sync_rule : Config → Disk → Opened → Plan Opened
trimmed_sync_rule c d o =
    ask (calls (map Sync (numbers d.blobs) ++ persist c o.start o.end)
    (answer (record { start = o.start; end = o.end; mark = o.end; bounded = o.bounded; edge = no_edge })))

abbrev pub trimmed_prune_rule : Config → Disk → Opened → ℕ → Plan (Opened × Bool)
trimmed_prune_rule c d o p =
    let b : ℕ = blob_of c (min p o.end) in
    cond (nat_le (b * c.n) o.start) (answer (o, false))
    (calls (Open b ∷ (map Sync (numbers (insert b d.blobs)) ++ map Remove (up_to b (numbers d.blobs))))
    (answer (record { start = b * c.n; end = o.end; mark = o.mark; bounded = o.bounded; edge = no_edge }, true)))

-- a staged clear: opened or trimmed logs only
abbrev pub stage_rule : Disk → ℕ → Plan (Unit {0})
stage_rule d t = refuse_if (nat_le MAX t) SizeOverflow (ask (calls (staging d.present t) (answer tt)))

abbrev pub complete_rule : Config → Disk → ℕ → Plan Opened
complete_rule c d t = ask (calls (clearing c t (numbers d.blobs)) (answer (record { start = t; end = t; mark = t; bounded = false; edge = no_edge })))

-- the running log -------------------------------------------------------------------------------

-- owed: the sealed blob whose sync is still to come
pub record Running : Type 0 where
  pub start : ℕ
  pub end : ℕ
  pub owed : Option ℕ

abbrev pub owed_sync : Option ℕ → List Op
owed_sync None = []
owed_sync (Some b) = Sync b ∷ []

-- the numbers rise one by one up to b
abbrev pub up_one_by_one : ℕ → List ℕ → Bool
up_one_by_one b [] = false
up_one_by_one b (x ∷ []) = x == b
up_one_by_one b (x ∷ (y ∷ ys)) = y == x + 1 && up_one_by_one b (y ∷ ys)

-- truncate, sync all, open the tail; after a bounded open the watermark is raised to the end
abbrev pub publish_rule : Config → Disk → Opened → ℕ → Plan Running
publish_rule c d o m =
    let size : ℕ = min o.end m in
    let cut : Disk = done_all (truncating c d o size) d in
    refuse_if (nat_lt size o.start) (ItemPruned size)
    (ask (calls (truncating c d o size ++ (map Sync (numbers cut.blobs) ++ (Open (blob_of c size) ∷ [])))
    (refuse_if (not (up_one_by_one (blob_of c size) (numbers (insert (blob_of c size) cut.blobs)))) Layout
    (calls (cond (o.bounded && not (same cut.present.watermark (Some size))) (persist c o.start size) [])
    (answer (record { start = o.start; end = size; owed = None }))))))

-- records go in runs up to the end of a blob; a blob that is full is sealed: the sync still owed, the next blob, and then this one is owed
abbrev pub appending : Config → ℕ → Option ℕ → List ℕ → List (List ℕ) → List Op
appending c e owed held [] = cond (is_empty held) [] (Append (blob_of c e) held ∷ [])
appending c e owed held (r ∷ rs) =
    cond (aligned c (e + 1))
    (Append (blob_of c e) (held ++ r) ∷ (owed_sync owed ++ (Open (blob_of c e + 1) ∷ appending c (e + 1) (Some (blob_of c e)) [] rs)))
    (appending c (e + 1) owed (held ++ r) rs)

abbrev pub owed_after : Config → Running → ℕ → Option ℕ
owed_after c r end = cond (nat_lt (blob_of c r.end) (blob_of c end)) (Some (blob_of c end - 1)) r.owed

abbrev pub append_rule : Config → Running → List (List ℕ) → Plan (Running × ℕ)
append_rule c r recs =
    let end : ℕ = r.end + length recs in
    refuse_if (length recs == 0) EmptyAppend
    (refuse_if (nat_lt MAX end) SizeOverflow
    (calls (appending c r.end r.owed [] recs)
    (answer (record { start = r.start; end = end; owed = owed_after c r end }, end - 1))))

abbrev pub committing : Config → Running → List Op
committing c r = owed_sync r.owed ++ (Sync (blob_of c r.end) ∷ [])

abbrev pub commit_rule : Config → Running → Plan Running
commit_rule c r = calls (committing c r) (answer (record { start = r.start; end = r.end; owed = None }))

abbrev pub sync_rule : Config → Running → Plan Running
sync_rule c r = calls (committing c r ++ persist c r.start r.end) (answer (record { start = r.start; end = r.end; owed = None }))

abbrev pub count : ℕ → ℕ → List ℕ
count lo zero = []
count lo (suc k) = lo ∷ count (lo + 1) k

abbrev pub prune_rule : Config → Running → ℕ → Plan (Running × Bool)
prune_rule c r p =
    let b : ℕ = blob_of c (min p r.end) in
    let lo : ℕ = blob_of c r.start in
    cond (nat_le b lo) (answer (r, false))
    (calls (committing c r ++ map Remove (count lo (b - lo))) (answer (record { start = b * c.n; end = r.end; owed = None }, true)))
