-- The running log's append: records in runs, up to the end of a blob.
use Rattle.std.proofs.Common.{◌≡◌, ℕ, suc, ◌+◌, ◌*◌, ◌/◌, ◌%◌, ◌<◌, ◌≤◌, true, false, cond, List, [], ◌∷◌, ◌++◌, map, length, take, Some, None, Option, sym, refl, ap, ◌∙◌, subst, inl, inr, mul-le-mul_right, lt_of_mul-lt-mul_right, arith}
use native.Mathlib.Nat.{mul-add-mod_self_right, mod_self}
use Rattle.std.proofs.lemmas.Bool.Decides.{nat_tests}
use Rattle.std.specs.List.{flat_map}
use Rattle.std.proofs.lemmas.Bool.{cases_eq, cases_lt, eqb-true, eqb-false}
use Rattle.std.proofs.lemmas.List.{take_all, append-nil, append_assoc, length-append, flat_map_more}
use Rattle.std.proofs.lemmas.Nat.{div-add-mod'}
use Rattle.store.specs.Disk.{Blob, Disk, find, change, Op, Open, Append, Sync, done, Counted, grown, blank, insert}
use Rattle.rules.specs.Rules.{MAX, Config, blob_of, aligned}
use Rattle.rules.specs.Calls.{appending}
use Rattle.ledger.specs.Ledger.{Ledger, appended, entered}
use Rattle.ledger.proofs.Blobs.{impossible, find_change_same, find_change_other, listed_find, find_insert_same, find_insert_other, not_listed}
use Rattle.ledger.proofs.Invariant.{first, room, blob_first, blob_is, first_room, first_next, Standing, Stands, stands, Safe}
use Rattle.ledger.proofs.Writes.{standing_open, standing_append, standing_ahead, entered_below, joined_length}
use Rattle.ledger.proofs.Chain.{Chain, Step, plain}
use Rattle.ledger.proofs.Commits.{Tied, Inside, SafeFor, tied_owed}

-- the ledger ------------------------------------------------------------------------------------

entered_at : {R : Type 0} (e : ℕ) (rs : List R) (h k : ℕ → Option R) (p : ℕ) → h p ≡ k p → entered e rs h p ≡ entered e rs k p
entered_at e [] h k p g = g
entered_at e (r ∷ rs) h k p g = let ih = entered_at (e + 1) rs h k p g in grind (arith, nat_tests)

pub entered_append : {R : Type 0} (e f : ℕ) (xs ys : List R) (h : ℕ → Option R) (p : ℕ) → f ≡ e + length xs → entered f ys (entered e xs h) p ≡ entered e (xs ++ ys) h p
entered_append e f [] ys h p g = ap (λ (j : ℕ). entered j ys h p) (let a : f ≡ e = omega arith in a)
entered_append e f (x ∷ xs) ys h p g = elim (cases_eq p e) [
  | inl i ↦
      let a = entered_below f ys (entered e (x ∷ xs) h) p (omega arith) in
      a ∙ (grind (arith, nat_tests))
  | inr i ↦
      let a : entered e (x ∷ xs) h p ≡ entered (e + 1) xs h p = (grind (arith, nat_tests)) in
      let b = entered_at f ys (entered e (x ∷ xs) h) (entered (e + 1) xs h) p a in
      let d = entered_append (e + 1) f xs ys h p (omega arith) in
      b ∙ (d ∙ (grind (arith, nat_tests)))
]

pub appended_append : {R : Type 0} (l : Ledger R) (xs ys : List R) → appended (appended l xs) ys ≡ appended l (xs ++ ys)
appended_append l xs ys =
    let n : l.end + length xs + length ys ≡ l.end + length (xs ++ ys) = omega (arith, length-append xs ys) in
    let h : (p : ℕ) → entered (l.end + length xs) ys (entered l.end xs l.handed) p ≡ entered l.end (xs ++ ys) l.handed p =
    λ p. entered_append l.end (l.end + length xs) xs ys l.handed p refl in
    λ i. record { start = l.start; end = n i; kept = l.kept; far = n i; handed = λ p. h p i }

pub appended_none : {R : Type 0} (l : Ledger R) → l.far ≡ l.end → appended l [] ≡ l
appended_none l w =
    let n : l.end + 0 ≡ l.end = omega arith in
    let f : l.end + 0 ≡ l.far = omega arith in
    λ i. record { start = l.start; end = n i; kept = l.kept; far = f i; handed = l.handed }

-- the calls -------------------------------------------------------------------------------------

abbrev pub owed_after : {A : Type 0} → Config → ℕ → Option ℕ → List A → Option ℕ
owed_after c e o [] = o
owed_after c e o (r ∷ rs) = cond (aligned c (e + 1)) (owed_after c (e + 1) (Some (blob_of c e)) rs) (owed_after c (e + 1) o rs)

module _ {R : Type 0} (c : Config) (enc : R → List ℕ) (zp : 0 < c.z) (ez : (r : R) → length (enc r) ≡ c.z) where
  pub stand_appended : {lo more : ℕ} (l : Ledger R) (d : Disk) (o : Option ℕ) (b k : ℕ) (rs : List R) (r : Tied c enc lo more d l o)
      → b ≡ lo + more → l.end + length rs ≤ (lo + more) * c.n + c.n → l.end + length rs ≤ MAX → Standing c enc lo more (done (Append b (take k (flat_map enc rs))) d) (appended l rs)
  stand_appended {lo} {more} l d o b k rs r e space most =
      let a = first_room c l.start lo r.stand.rows.low (lo + more) (omega arith) in
      let q = r.ends in
      rw e (standing_append c enc l d r.stand zp ez (lo + more) r.have k rs r.tail refl r.found r.sound r.bytes r.ends (omega arith) most)

  pub tied_append : {lo more : ℕ} (l : Ledger R) (d : Disk) (o : Option ℕ) (b : ℕ) (rs : List R) → Tied c enc lo more d l o
      → b ≡ lo + more → l.end + length rs ≤ (lo + more) * c.n + c.n → l.end + length rs ≤ MAX → Tied c enc lo more (done (Append b (flat_map enc rs)) d) (appended l rs) o
  tied_append {lo} {more} l d o b rs r e space most = record {
    stand = subst (λ (bs : List ℕ). Standing c enc lo more (done (Append b bs) d) (appended l rs)) (take_all (length (flat_map enc rs)) (flat_map enc rs) (omega arith))
        (stand_appended l d o b (length (flat_map enc rs)) rs r e space most);
    whole = refl;
    have = r.have + length rs;
    ends = let q = r.ends in omega arith;
    some_room = let a = first_room c l.start lo r.stand.rows.low (lo + more) (omega arith) in let q = r.ends in omega arith;
    tail = grown (flat_map enc rs) r.tail;
    found = subst (λ (k : ℕ). find (change (grown (flat_map enc rs)) b d.blobs) k ≡ Some (grown (flat_map enc rs) r.tail)) e
        (find_change_same (grown (flat_map enc rs)) b d.blobs r.tail (rw e r.found));
    sound =
        let s = r.sound in
        let g : (grown (flat_map enc rs) r.tail).sound ≡ r.tail.sound + length (flat_map enc rs) = (grind (arith, nat_tests)) in
        g ∙ omega (arith, length-append r.tail.bytes (flat_map enc rs));
    bytes = let s = r.bytes in omega (arith, length-append r.tail.bytes (flat_map enc rs), joined_length enc c.z ez rs);
    full = λ k x f h. r.full k x (sym (find_change_other (grown (flat_map enc rs)) b k d.blobs (λ i. omega arith)) ∙ f) h;
    safe = λ k x f h. r.safe k x (sym (find_change_other (grown (flat_map enc rs)) b k d.blobs (λ i. omega arith)) ∙ f) h;
    owed_below = r.owed_below;
    now_saved = r.now_saved;
  }

  -- the highest blob is full: the next one is made
  pub stand_open : {lo more : ℕ} (l : Ledger R) (d : Disk) (b : ℕ) (r : Tied c enc lo more d l None) → b ≡ suc (lo + more) → l.end ≡ (lo + more) * c.n + c.n → Standing c enc lo (suc more) (done (Open b) d) l
  stand_open {lo} {more} l d b r e full = standing_open c enc l d r.stand zp b e (let n : b * c.n ≡ suc (lo + more) * c.n = ap (λ (j : ℕ). j * c.n) e in let f = r.stand.rows.far_most in let w = r.whole in omega arith) (λ k x i f. elim (r.safe k x f (omega arith)) [
    | inl t ↦ impossible cc
    | inr t ↦ t
  ])

  pub tied_open : {lo more : ℕ} (l : Ledger R) (d : Disk) (b t : ℕ) (r : Tied c enc lo more d l None) → t ≡ lo + more → b ≡ suc t → l.end ≡ (lo + more) * c.n + c.n
      → Tied c enc lo (suc more) (done (Open b) d) l (Some t)
  tied_open {lo} {more} l d b t r e f full = record {
    stand = stand_open l d b r (omega arith) full;
    whole = r.whole;
    have = 0;
    ends =
        let a = first_next c l.start lo r.stand.rows.low (lo + more) (omega arith) in
        let i : first c l.start (lo + suc more) ≡ first c l.start (suc (lo + more)) = ap (λ (j : ℕ). first c l.start j) (omega arith) in
        omega arith;
    some_room = omega arith;
    tail = blank;
    found = subst (λ (k : ℕ). find (insert b d.blobs) k ≡ Some blank) (let i : b ≡ lo + suc more = omega arith in i) (find_insert_same b d.blobs absent);
    sound = refl;
    bytes = omega arith;
    full = λ k x g h. below k x (old k x g h) h;
    safe = λ k x g h. elim (cases_eq t k) [
      | inl i ↦ inl (ap {B = Option ℕ} Some i)
      | inr i ↦ elim (r.safe k x (old k x g h) (omega arith)) [
        | inl u ↦ impossible cc
        | inr u ↦ inr u
      ]
    ];
    owed_below = λ k g. let i : t ≡ k = cc in (omega arith, omega arith);
    now_saved = r.now_saved;
  }
    where
      absent : find d.blobs b ≡ None
      absent = not_listed d.blobs lo (suc more) b r.stand.rows.listed (λ i. let a = i.1 in omega arith)

      old : (k : ℕ) (x : Blob) → find (insert b d.blobs) k ≡ Some x → k < lo + suc more → find d.blobs k ≡ Some x
      old k x g h = sym (find_insert_other b k d.blobs (λ i. omega arith)) ∙ g

      below : (k : ℕ) (x : Blob) → find d.blobs k ≡ Some x → k < lo + suc more → room c l.start k * c.z ≤ x.sound
      below k x g h = elim (cases_lt k (lo + more)) [
        | inl i ↦ r.full k x g i
        | inr i ↦
            let kt : lo + more ≡ k = omega arith in
            let gt : find d.blobs (lo + more) ≡ find d.blobs k = ap (λ (j : ℕ). find d.blobs j) kt in
            let is : r.tail ≡ x = cc (r.found, g, gt) in
            let so : r.tail.sound ≡ x.sound = ap (λ (y : Blob). y.sound) is in
            let a = first_room c l.start lo r.stand.rows.low (lo + more) (omega arith) in
            let en = r.ends in
            let hr : r.have ≡ room c l.start k = (let u : r.have ≡ room c l.start (lo + more) = omega arith in u) ∙ ap (λ (j : ℕ). room c l.start j) kt in
            let hz : r.have * c.z ≡ room c l.start k * c.z = ap (λ (j : ℕ). j * c.z) hr in
            let s = r.sound in let y = r.bytes in
            omega arith
      ]

  -- after an append
  pub record After (l : Ledger R) (o : Option ℕ) (d : Disk) : Type 0 where
    pub lo : ℕ
    pub more : ℕ
    pub tied : Tied c enc lo more d l o
    pub inside : Inside c lo more l

  -- a disk that stands for a ledger is safe while more records are handed in
  pub ahead : {lo more : ℕ} (l m : Ledger R) (d : Disk) (rs : List R) → Standing c enc lo more d l → l.far ≤ l.end → m.far ≤ MAX → appended l rs ≡ m → Safe c enc d m
  ahead l m d rs w h most e = inl (subst (λ (k : Ledger R). Stands c enc d k) e (stands c enc d (appended l rs) (standing_ahead c enc l d w rs h (let f : l.end + length rs ≡ m.far = ap (λ (k : Ledger R). k.far) e in omega arith))))

  seal_chain : {lo more : ℕ} (l m : Ledger R) (rs : List R) (d : Disk) (b : ℕ) (os : List Op) (Q : Disk → Type 0) (r : Tied c enc lo more d l None)
      → b ≡ lo + more → l.end ≡ (lo + more) * c.n + c.n → m.far ≤ MAX → appended l rs ≡ m → Chain (SafeFor c enc m) Q os (done (Open (b + 1)) d) → Chain (SafeFor c enc m) Q (Open (b + 1) ∷ os) d
  seal_chain l m rs d b os Q r e full most g k =
      let h : l.far ≤ l.end = let a = r.whole in omega arith in
      (plain (SafeFor c enc m) (Open (b + 1)) d tt (ahead l m d rs r.stand h most g) (ahead l m (done (Open (b + 1)) d) rs (stand_open l d (b + 1) r (omega arith) full) h most g), k)

  -- an append of a whole run, of which more records follow
  pub run_counted : {lo more : ℕ} (l m : Ledger R) (hs rs : List R) (d : Disk) (o : Option ℕ) (b : ℕ) (r : Tied c enc lo more d l o)
      → b ≡ lo + more → l.end + length hs ≤ (lo + more) * c.n + c.n → m.far ≤ MAX → appended l (hs ++ rs) ≡ m
      → Step (SafeFor c enc m) (Append b (flat_map enc hs)) d
  run_counted {lo} {more} l m hs rs d o b r t space most g = ((r.tail, ap (λ (j : ℕ). find d.blobs j) t ∙ r.found), counts)
    where
      counts : (e : Disk) → Counted (Append b (flat_map enc hs)) d e → Safe c enc e m
      counts e (inl i) = rw i (ahead l m d (hs ++ rs) r.stand (let a = r.whole in omega arith) most g)
      counts e (inr (k, i)) =
          rw i (ahead (appended l hs) m (done (Append b (take k (flat_map enc hs))) d) rs (stand_appended l d o b k hs r t space (let f : l.end + length (hs ++ rs) ≡ m.far = ap (λ (k : Ledger R). k.far) g in omega (arith, length-append hs rs))) (omega arith) most (appended_append l hs rs ∙ g))

  some_bytes : (h : R) (hs : List R) → 0 < length (flat_map enc (h ∷ hs))
  some_bytes h hs = let a = ez h in omega (arith, length-append (enc h) (flat_map enc hs))

  -- the run that is left when the records end
  last_chain : {lo more : ℕ} (l m : Ledger R) (d : Disk) (o : Option ℕ) (hs : List R) (e : ℕ) (bs : List ℕ) → Tied c enc lo more d l o
      → l.end + length hs < (lo + more) * c.n + c.n → e ≡ l.end + length hs → bs ≡ flat_map enc hs → m.far ≤ MAX → appended l (hs ++ []) ≡ m
      → Chain (SafeFor c enc m) (After m o) (appending c e o bs []) d
  last_chain {lo} {more} l m d o [] e [] r space at is most g =
      record {
        lo = lo;
        more = more;
        tied = subst (λ (k : Ledger R). Tied c enc lo more d k o) (sym (appended_none l r.whole) ∙ g) r;
        inside = subst (λ (k : Ledger R). Inside c lo more k) (sym (appended_none l r.whole) ∙ g) (omega arith);
      }
  last_chain l m d o [] e (b ∷ bs) r space at is most g = impossible cc
  last_chain l m d o (h ∷ hs) e [] r space at is most g = let a : 0 ≡ length (flat_map enc (h ∷ hs)) = ap (λ (t : List ℕ). length t) is in absurd (omega (arith, some_bytes h hs))
  last_chain {lo} {more} l m d o (h ∷ hs) e (b ∷ bs) r space at is most g =
      let q = r.ends in
      let a = first_room c l.start lo r.stand.rows.low (lo + more) (omega arith) in
      let t : blob_of c e ≡ lo + more = blob_is c l.start lo r.stand.rows.low (lo + more) e (omega arith) (omega arith) (omega arith) in
      let n : appended l (h ∷ hs) ≡ m = ap (λ (t : List R). appended l t) (sym (append-nil (h ∷ hs))) ∙ g in
      subst (λ (t : List ℕ). Chain (SafeFor c enc m) (After m o) (Append (blob_of c e) t ∷ []) d) (sym is) (
        run_counted l m (h ∷ hs) [] d o (blob_of c e) r t (omega arith) most g,
        record {
          lo = lo;
          more = more;
          tied = subst (λ (k : Ledger R). Tied c enc lo more (done (Append (blob_of c e) (flat_map enc (h ∷ hs))) d) k o) n (tied_append l d o (blob_of c e) (h ∷ hs) r t (omega arith) (let f : l.end + length (h ∷ hs) ≡ m.far = ap (λ (k : Ledger R). k.far) n in omega arith));
          inside = subst (λ (k : Ledger R). Inside c lo more k) n space;
        },
      )

-- a multiple of n above b * n and not above the next
pub aligned_next : (n b q : ℕ) → b * n < q → q ≤ b * n + n → q % n ≡ 0 → q ≡ b * n + n
aligned_next n b q h g e =
    let d = div-add-mod' q n in
    let l : b < q / n = lt_of_mul-lt-mul_right n (omega arith) in
    let m : suc b * n ≤ q / n * n = mul-le-mul_right n l in
    omega arith

module _ {R : Type 0} (c : Config) (enc : R → List ℕ) (zp : 0 < c.z) (ez : (r : R) → length (enc r) ≡ c.z) where
  -- the facts of one record more: hs are held back, r comes next
  record Next (lo more : ℕ) (l : Ledger R) (hs : List R) (r : R) (rs : List R) (e : ℕ) (held : List ℕ) (m : Ledger R) : Type 0 where
    pub here : blob_of c e ≡ lo + more
    pub bytes : held ++ enc r ≡ flat_map enc (hs ++ r ∷ [])
    pub size : length (hs ++ r ∷ []) ≡ length hs + 1
    pub space : l.end + length (hs ++ r ∷ []) ≤ (lo + more) * c.n + c.n
    pub goes : appended l ((hs ++ r ∷ []) ++ rs) ≡ m
    pub low_next : aligned c (e + 1) ≡ true → e + 1 ≡ (lo + more) * c.n + c.n
    pub more_next : aligned c (e + 1) ≡ false → e + 1 < (lo + more) * c.n + c.n

  step : {lo more : ℕ} (l : Ledger R) (d : Disk) (o : Option ℕ) (hs : List R) (r : R) (rs : List R) (e : ℕ) (held : List ℕ) (m : Ledger R) → Tied c enc lo more d l o
      → l.end + length hs < (lo + more) * c.n + c.n → e ≡ l.end + length hs → held ≡ flat_map enc hs → appended l (hs ++ (r ∷ rs)) ≡ m → Next lo more l hs r rs e held m
  step {lo} {more} l d o hs r rs e held m t space at is g =
      let a = first_room c l.start lo t.stand.rows.low (lo + more) (omega arith) in
      let q = t.ends in
      let f = blob_first c l.start lo t.stand.rows.low (lo + more) in
      let len = length-append hs (r ∷ []) in
      record {
        here = blob_is c l.start lo t.stand.rows.low (lo + more) e (omega arith) (omega arith) (omega arith);
        bytes = ap (λ (u : List ℕ). u ++ enc r) is ∙ flat_map_more enc [] hs r;
        size = omega arith;
        space = omega arith;
        goes = ap (λ (u : List R). appended l u) (append_assoc hs (r ∷ []) rs) ∙ g;
        low_next = λ b. aligned_next c.n (lo + more) (e + 1) (omega arith) (omega arith) (eqb-true ((e + 1) % c.n) 0 b);
        more_next = λ b. elim (cases_lt (e + 1) ((lo + more) * c.n + c.n)) [
          | inl i ↦ i
          | inr i ↦
              let j : e + 1 ≡ (lo + more) * c.n + c.n = omega arith in
              absurd (eqb-false ((e + 1) % c.n) 0 b (ap (λ (k : ℕ). k % c.n) j ∙ (mul-add-mod_self_right (lo + more) c.n c.n ∙ mod_self c.n)))
        ];
      }

  pub append_chain : (rs : List R) (lo more : ℕ) (l : Ledger R) (d : Disk) (o : Option ℕ) (hs : List R) (e : ℕ) (held : List ℕ) (m : Ledger R) → Tied c enc lo more d l o
      → l.end + length hs < (lo + more) * c.n + c.n → e ≡ l.end + length hs → held ≡ flat_map enc hs → m.far ≤ MAX → appended l (hs ++ rs) ≡ m
      → Chain (SafeFor c enc m) (After c enc zp ez m (owed_after c e o rs)) (appending c e o held (map enc rs)) d
  append_chain [] lo more l d o hs e held m t space at is most g = last_chain c enc zp ez l m d o hs e held t space at is most g
  append_chain (r ∷ rs) lo more l d None hs e held m t space at is most g =
      let s = step l d None hs r rs e held m t space at is g in
      let run : List R = hs ++ r ∷ [] in
      let z = s.size in
      let low = t.stand.rows.low in
      (elim (aligned c (e + 1)) as (λ u. aligned c (e + 1) ≡ u
      → Chain (SafeFor c enc m) (After c enc zp ez m (cond u (owed_after c (e + 1) (Some (blob_of c e)) rs) (owed_after c (e + 1) None rs)))
      (cond u (Append (blob_of c e) (held ++ enc r) ∷ (Open (blob_of c e + 1) ∷ appending c (e + 1) (Some (blob_of c e)) [] (map enc rs))) (appending c (e + 1) None (held ++ enc r) (map enc rs))) d) [
        | true ↦ λ b.
            let y = s.low_next b in
            let k : Ledger R = appended l run in
            let p : appended k rs ≡ m = appended_append l run rs ∙ s.goes in
            let d1 : Disk = done (Append (blob_of c e) (flat_map enc run)) d in
            let t1 : Tied c enc lo more d1 k None = tied_append c enc zp ez l d None (blob_of c e) run t s.here s.space (let f : l.end + length ((hs ++ r ∷ []) ++ rs) ≡ m.far = ap (λ (k : Ledger R). k.far) s.goes in omega (arith, length-append (hs ++ r ∷ []) rs)) in
            let d2 : Disk = d1 in
            let t2 = t1 in
            let t3 = tied_open c enc zp ez k d2 (blob_of c e + 1) (blob_of c e) t2 s.here (omega arith) (omega arith) in
            let os : List Op = appending c (e + 1) (Some (blob_of c e)) [] (map enc rs) in
            subst (λ (bs : List ℕ). Chain (SafeFor c enc m) (After c enc zp ez m (owed_after c (e + 1) (Some (blob_of c e)) rs)) (Append (blob_of c e) bs ∷ (Open (blob_of c e + 1) ∷ os)) d) (sym s.bytes) (
              run_counted c enc zp ez l m run rs d None (blob_of c e) t s.here s.space most s.goes,
              seal_chain c enc zp ez k m rs d2 (blob_of c e) os (After c enc zp ez m (owed_after c (e + 1) (Some (blob_of c e)) rs)) t2 s.here (omega arith) most p
                  (append_chain rs lo (suc more) k (done (Open (blob_of c e + 1)) d2) (Some (blob_of c e)) [] (e + 1) [] m t3 (omega arith) (omega arith) refl most p),
            )
        | false ↦ λ b.
            let y = s.more_next b in
            append_chain rs lo more l d None run (e + 1) (held ++ enc r) m t (omega arith) (omega arith) s.bytes most s.goes
      ]) refl
  append_chain (r ∷ rs) lo more l d (Some w) hs e held m t space at is most g =
      let s = step l d (Some w) hs r rs e held m t space at is g in
      let run : List R = hs ++ r ∷ [] in
      let z = s.size in
      let low = t.stand.rows.low in
      (elim (aligned c (e + 1)) as (λ u. aligned c (e + 1) ≡ u
      → Chain (SafeFor c enc m) (After c enc zp ez m (cond u (owed_after c (e + 1) (Some (blob_of c e)) rs) (owed_after c (e + 1) (Some w) rs)))
      (cond u (Append (blob_of c e) (held ++ enc r) ∷ (Sync w ∷ (Open (blob_of c e + 1) ∷ appending c (e + 1) (Some (blob_of c e)) [] (map enc rs)))) (appending c (e + 1) (Some w) (held ++ enc r) (map enc rs))) d) [
        | true ↦ λ b.
            let y = s.low_next b in
            let k : Ledger R = appended l run in
            let p : appended k rs ≡ m = appended_append l run rs ∙ s.goes in
            let d1 : Disk = done (Append (blob_of c e) (flat_map enc run)) d in
            let t1 : Tied c enc lo more d1 k (Some w) = tied_append c enc zp ez l d (Some w) (blob_of c e) run t s.here s.space (let f : l.end + length ((hs ++ r ∷ []) ++ rs) ≡ m.far = ap (λ (k : Ledger R). k.far) s.goes in omega (arith, length-append (hs ++ r ∷ []) rs)) in
            let d2 : Disk = done (Sync w) d1 in
            let t2 : Tied c enc lo more d2 k None = tied_owed c enc k d1 w t1 in
            let t3 = tied_open c enc zp ez k d2 (blob_of c e + 1) (blob_of c e) t2 s.here (omega arith) (omega arith) in
            let os : List Op = appending c (e + 1) (Some (blob_of c e)) [] (map enc rs) in
            subst (λ (bs : List ℕ). Chain (SafeFor c enc m) (After c enc zp ez m (owed_after c (e + 1) (Some (blob_of c e)) rs)) (Append (blob_of c e) bs ∷ (Sync w ∷ (Open (blob_of c e + 1) ∷ os))) d) (sym s.bytes) (
              run_counted c enc zp ez l m run rs d (Some w) (blob_of c e) t s.here s.space most s.goes,
              (
                plain (SafeFor c enc m) (Sync w) d1 (let u = t1.owed_below w refl in listed_find d1.blobs lo (suc more) w t1.stand.rows.listed (omega arith) (omega arith)) (ahead c enc zp ez k m d1 rs t1.stand (omega arith) most p) (ahead c enc zp ez k m d2 rs t2.stand (omega arith) most p),
                seal_chain c enc zp ez k m rs d2 (blob_of c e) os (After c enc zp ez m (owed_after c (e + 1) (Some (blob_of c e)) rs)) t2 s.here (omega arith) most p
                    (append_chain rs lo (suc more) k (done (Open (blob_of c e + 1)) d2) (Some (blob_of c e)) [] (e + 1) [] m t3 (omega arith) (omega arith) refl most p),
              ),
            )
        | false ↦ λ b.
            let y = s.more_next b in
            append_chain rs lo more l d (Some w) run (e + 1) (held ++ enc r) m t (omega arith) (omega arith) s.bytes most s.goes
      ]) refl
