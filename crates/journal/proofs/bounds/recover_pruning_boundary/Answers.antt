use Rattle.std.proofs.Common.{◌≡◌, None, Err, Option, Result, ◌∙◌, sym}
use Rattle.std.specs.Option.{ok_or}
use Rattle.std.proofs.lemmas.Result.{err_from_is_err_and}
use Rattle.journal.specs.Configs.{ruled}
use Rattle.journal.specs.declared.fault.Fault.{Fault}
use Rattle.journal.proofs.Starting.{start_bare, start_newer}
use Rattle.journal.proofs.bounds.recover_pruning_boundary.Goals as goal

refused_by : {T : Type 0} (o : Option T) (f e : Fault) → o ≡ None → Err f ≡ ok_or o e → f ≡ e
refused_by {T} o f e n q = let r : ◌≡◌ {A = Result T Fault} (Err f) (Err e) = rw n at q in cc

pub returns-in_err-lowest : goal.returns-in_err-lowest
returns-in_err-lowest c =
    let n = c.in_err-lowest.ensures.ok_part in
    let p = err_from_is_err_and c.from_residual-in_err-lowest.result c.from_residual-in_err-lowest.ensures.1 in
    let f = refused_by c.args.lowest c.in_err-lowest.field-0.0 _ n c.in_err-lowest.ensures.value in
    rw (p.1, p.2, f) (λ k. start_bare (ruled c.args.config) c.args.hint c.args.lowest c.in-Some.hint k c.in-Some.is n (sym c.is_aligned.ensures ∙ c.if-is_aligned.false))

pub returns-in-Greater : goal.returns-in-Greater
returns-in-Greater c k =
    let b = c.blob_of.ensures in
    let n = rw b at c.in-Greater.ensures in
    start_newer (ruled c.args.config) c.args.hint c.args.lowest c.in-Some.hint c.in_ok-lowest.lowest c.in_ok-first.first k c.in-Some.is c.in_ok-lowest.ensures.ok_part
    (sym c.is_aligned.ensures ∙ c.if-is_aligned.false) c.in_ok-first.ensures n
