use Rattle.std.proofs.Common.{◌≡◌, ℕ, ◌-◌, ◌*◌, ◌<◌, min, List, length, Ok, Err, Result, sym, ap, ◌∙◌, arith}
use Rattle.std.proofs.lemmas.Grind.{common_steps}
use Rattle.std.proofs.lemmas.Result.{err_from_is_err_and}
use Rattle.store.specs.declared.cause.Cause.{Cause}
use Rattle.store.specs.Disk.{View}
use Rattle.store.specs.Ask.{read_of}
use Rattle.store.specs.Laws.{Lawful}
use Rattle.rules.specs.Rules.{MAX, Config, blob_of, first_in, Copied}
use Rattle.rules.specs.Reads.{bytes_of}
use Rattle.journal.specs.declared.fault.Step.TheVariants as at
use Rattle.journal.specs.Configs.{ruled}
use Rattle.journal.proofs.Readings.{read_past, read_as, read_stop}
use Rattle.journal.proofs.log.Log.read_record.Goals as goal

-- what was asked of the store is what the rules ask of it
same : (c : Config) (s : ℕ) (v : View) (p b at n : ℕ) (q : Result (List ℕ) Cause) → Lawful v → 0 < c.z → b ≡ blob_of c p
    → at ≡ min ((p - first_in c s (blob_of c p)) * c.z) MAX → n ≡ c.z → read_of v b at n ≡ q → bytes_of c s v p ≡ q
same c s v p b at n q laws pos eb ea en e =
    sym (read_past v (blob_of c p) ((p - first_in c s (blob_of c p)) * c.z) c.z laws pos)
    ∙ (sym (ap (λ (k : ℕ). read_of v k (min ((p - first_in c s (blob_of c p)) * c.z) MAX) c.z) eb)
    ∙ (sym (ap (λ (k : ℕ). read_of v b k c.z) ea) ∙ (sym (ap (read_of v b at) en) ∙ e)))

pub returns-in_err-read : goal.returns-in_err-read
returns-in_err-read g c =
    let v = g.S.Store.view c.args.self.now.store in
    let rule = ruled c.args.self.now.config in
    let h = c.in_err-read.ensures in
    let y = c.in_err-read.field-0.0 in
    let e = same rule c.args.self.now.held.start v c.args.position c.blob_of.result c.offset_of-at.result _ (Err y.cause) (g.met.S.Store.lawful c.args.self.now.store) c.args.self.now.config.ok.2 c.blob_of.ensures c.offset_of-at.ensures (grind (arith, common_steps)) h.1 in
    let p = err_from_is_err_and c.from_residual.result c.from_residual.ensures.1 in
    rw (p.1, p.2)
    (Copied (blob_of rule c.args.position), h.0 ∙ ap at.Copied c.blob_of.ensures, read_stop g.K.Record.decode rule c.args.self.now.held.start v c.args.position y.cause e)

pub returns : goal.returns
returns g c =
    let v = g.S.Store.view c.args.self.now.store in
    let rule = ruled c.args.self.now.config in
    let bs = c.read.new.out in
    let e = same rule c.args.self.now.held.start v c.args.position c.blob_of.result c.offset_of-at.result _ (Ok bs) (g.met.S.Store.lawful c.args.self.now.store) c.args.self.now.config.ok.2 c.blob_of.ensures c.offset_of-at.ensures (grind (arith, common_steps)) c.in_ok-read.ensures in
    let l : length bs ≡ rule.z = grind (arith, common_steps) in
    rw c.ok_or.ensures.value (read_as g.K.Record.decode rule c.args.self.now.held.start v c.args.position bs c.read-2.result e l (sym c.read-2.ensures))
