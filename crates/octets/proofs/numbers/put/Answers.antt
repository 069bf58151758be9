use Rattle.std.proofs.Common.{◌≡◌, ◌+◌, ◌-◌, drop, take, ap, ◌∙◌, arith}
use Rattle.std.proofs.lemmas.List.{take_all}
use Rattle.octets.specs.BigEndian.{digits}
use Rattle.octets.specs.Written.{written}
use Rattle.octets.proofs.BigEndian.{digits_8, digits_last, length_digits}
use Rattle.octets.proofs.numbers.put.Goals as goal

-- the lowest bytes of the eight are the number's
pub returns : goal.returns
returns g c =
    let w = g.N.Unsigned.WIDTH in
    let n = g.N.Unsigned.value c.args.n in
    let s = g.met.N.Unsigned.short in
    let e : 8 ≡ 8 - w + w = omega arith in
    let d : drop (8 - w) (digits 8 n) ≡ digits w n = ap (λ k. drop (8 - w) (digits k n)) e ∙ digits_last (8 - w) w n in
    let l = length_digits w n in
    let b = c.to_be_bytes-eight.ensures ∙ digits_8 c.widen.result ∙ ap (digits 8) c.widen.ensures in
    c.put_bytes.ensures
    ∙ ap (λ k. written c.args.out.now c.args.at (take (8 - (8 - k)) (drop (8 - k) c.to_be_bytes-eight.result))) c.WIDTH.ensures
    ∙ ap (λ bs. written c.args.out.now c.args.at (take (8 - (8 - w)) (drop (8 - w) bs))) b
    ∙ ap (λ bs. written c.args.out.now c.args.at (take (8 - (8 - w)) bs)) d
    ∙ ap (written c.args.out.now c.args.at) (take_all (8 - (8 - w)) (digits w n) (omega arith))
