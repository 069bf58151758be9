use Rattle.std.proofs.Common.{◌≡◌, ℕ, List, [], ◌∷◌, ◌++◌, length, take, set, sym, ap, ◌∙◌, arith}
use Rattle.std.proofs.lemmas.List.{length-set, take_all, take_more_set}
use Rattle.octets.specs.BigEndian.{digits}
use Rattle.octets.specs.Written.{written}
use Rattle.octets.proofs.Writes.{length_written, take_written}
use Rattle.record.specs.Grades.{grade_number}
use Rattle.record.proofs.distances.DistanceRecord.write.Goals as goal

pub returns-clause-written : goal.returns-clause-written
returns-clause-written c =
    let d = c.args.self in
    let out = c.args.out.now in
    let p = digits 4 d.station in
    let q = digits 2 d.reading in
    let n : length out ≡ 7 = omega arith in
    let one = written out 0 p in
    let two = written one 4 q in
    let l : length one ≡ 7 = length_written out 0 p (omega arith) ∙ n in
    let m : length two ≡ 7 = length_written one 4 q (omega arith) ∙ l in
    let a : take 4 one ≡ p = take_written out 0 p (omega arith) in
    let b : take 6 two ≡ p ++ q = take_written one 4 q (omega arith) ∙ ap (λ (zs : List ℕ). zs ++ q) a in
    let g = grade_number d.grade in
    let e : c.put-2.new.out ≡ two = c.put-2.ensures ∙ ap (λ (zs : List ℕ). written zs 4 q) c.put.ensures in
    let f : set two 6 g ≡ p ++ (q ++ g ∷ []) =
    sym (take_all 7 (set two 6 g) (let k = length-set two 6 g in omega arith)) ∙ take_more_set two 6 g (omega arith) ∙ ap (λ (zs : List ℕ). zs ++ g ∷ []) b in
    (n, ap (λ (zs : List ℕ). set zs 6 c.from.result) e ∙ ap (set two 6) c.from.ensures ∙ f)
