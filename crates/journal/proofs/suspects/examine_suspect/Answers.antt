use Rattle.std.proofs.Common.{◌≡◌, ℕ, ◌≤◌, subst, arith}
use Rattle.std.proofs.lemmas.Result.{err_from_is_err_and}
use Rattle.store.specs.Disk.{Does, Refuses, Truncate}
use Rattle.rules.specs.Rules.{blob_of}
use Rattle.rules.specs.Open.{acknowledged, passes, valid}
use Rattle.journal.specs.Configs.{ruled}
use Rattle.journal.specs.Faults.{step_of_op}
use Rattle.journal.proofs.Examining.{cut_some, over_owed, stood_cut, cut_stopped}
use Rattle.journal.proofs.suspects.examine_suspect.Goals as goal

pub returns-in_err-owed : goal.returns-in_err-owed
returns-in_err-owed g c =
    let v = g.S.Store.view c.args.store.now in
    let s = c.args.scope in
    let rule = ruled s.config in
    let l : blob_of rule c.args.floor ≤ c.args.b = omega arith in
    let o = c.in_err-owed.ensures in
    let p = err_from_is_err_and c.from_residual.result c.from_residual.ensures.1 in
    rw (p.1, p.2, o.1) (λ x f. over_owed rule s.start s.ceiling c.args.floor c.args.b x v c.requires f l o.0)

pub returns-in_err-truncate : goal.returns-in_err-truncate
returns-in_err-truncate g c =
    let p = err_from_is_err_and c.from_residual-in_err-truncate.result c.from_residual-in_err-truncate.ensures.1 in
    rw (p.1, p.2)
    (λ x f.
    let v = g.S.Store.view c.args.store.now in
    let s = c.args.scope in
    let rule = ruled s.config in
    let l : blob_of rule c.args.floor ≤ c.args.b = omega arith in
    let o = c.in_ok-owed.ensures in
    let q = cut_some (passes rule s.start s.ceiling (c.args.b, x)) (valid rule s.start s.ceiling (c.args.b, x)) c.in-Some.valid c.in_ok-valid.field-0 (c.in_ok-valid.ensures x f) c.in-Some.is in
    let w = g.S.Store.view c.truncate.new.store in
    let y = c.in_err-truncate.field-0.0 in
    let m : acknowledged rule s.start c.args.floor c.args.b ≤ valid rule s.start s.ceiling (c.args.b, x) = omega (arith, q.1, o.0) in
    cut_stopped rule s.start s.ceiling c.args.floor c.args.b x v c.requires f l o.1 q.0 w y m
    (subst (λ (k : ℕ). (y.step ≡ step_of_op (Truncate c.args.b k)) × Refuses (Truncate c.args.b k) v y.cause w) q.1 c.in_err-truncate.ensures))

pub returns : goal.returns
returns g c x f =
    let v = g.S.Store.view c.args.store.now in
    let s = c.args.scope in
    let rule = ruled s.config in
    let l : blob_of rule c.args.floor ≤ c.args.b = omega arith in
    let o = c.in_ok-owed.ensures in
    let q = cut_some (passes rule s.start s.ceiling (c.args.b, x)) (valid rule s.start s.ceiling (c.args.b, x)) c.in-Some.valid c.in_ok-valid.field-0 (c.in_ok-valid.ensures x f) c.in-Some.is in
    let w = g.S.Store.view c.truncate.new.store in
    let m : acknowledged rule s.start c.args.floor c.args.b ≤ valid rule s.start s.ceiling (c.args.b, x) = omega (arith, q.1, o.0) in
    stood_cut rule s.start s.ceiling c.args.floor c.args.b x v c.requires f l o.1 q.0 w m
    (subst (λ (k : ℕ). Does (Truncate c.args.b k) v w) q.1 c.in_ok-truncate.ensures)
