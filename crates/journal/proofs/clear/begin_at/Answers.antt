use Rattle.std.proofs.Common.{ℕ, ◌∷◌, subst}
use Rattle.store.specs.Disk.{Does, Open, DropKey}
use Rattle.store.specs.declared.keys.Key.TheVariants.{Target}
use Rattle.rules.specs.Rules.{blob_of, persist}
use Rattle.journal.specs.Configs.{ruled}
use Rattle.journal.proofs.Taken.{next}
use Rattle.journal.proofs.clear.begin_at.Goals as goal

pub returns : goal.returns
returns g c =
    let v = g.S.Store.view c.args.store.now in
    let u = g.S.Store.view c.open.new.store in
    let x = g.S.Store.view c.drop_key.new.store in
    let w = g.S.Store.view c.persist.new.store in
    let rule = ruled c.args.config in
    let t = c.args.target in
    let d = subst (λ (b : ℕ). Does (Open b) v u) c.blob_of.ensures c.in_ok-open.ensures in
    next (Open (blob_of rule t)) (DropKey Target ∷ persist rule t t) v u w c.persist.result d
    (next (DropKey Target) (persist rule t t) u x w c.persist.result c.in_ok-drop_key.ensures c.persist.ensures)
