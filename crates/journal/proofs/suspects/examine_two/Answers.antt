use Rattle.std.proofs.Common.{ℕ, Ok, Err, Option, Result, sym, ap, ◌∙◌}
use Rattle.std.proofs.lemmas.Result.{err_from_is_err_and}
use Rattle.store.specs.Disk.{View}
use Rattle.rules.specs.Rules.{Config}
use Rattle.journal.specs.Configs.{ruled}
use Rattle.rules.specs.Open.{below, edge_at}
use Rattle.journal.specs.Recovery.{Examined, ExaminedTwo, Stood, highest}
use Rattle.journal.specs.declared.fault.Fault.{Fault}
use Rattle.journal.proofs.Suspecting.{Split, split_at, two_none, first_stops, one_only, second_stops, both}
use Rattle.journal.proofs.suspects.examine_two.Goals as goal

pub returns-in_default : goal.returns-in_default
returns-in_default g c =
    let v = g.S.Store.view c.args.store.now in
    let s = c.args.scope in
    let rule = ruled s.config in
    let h = c.in_ok-high.ensures ∙ ap (λ (n : ℕ). highest (below n v.disk.blobs)) c.edge.ensures in
    (c.requires, two_none rule s.start s.ceiling c.args.floor (edge_at rule s.start s.ceiling) v (sym h ∙ c.in_default.is))

pub returns-in_err-examine_suspect : goal.returns-in_err-examine_suspect
returns-in_err-examine_suspect g c =
    let v = g.S.Store.view c.args.store.now in
    let s = c.args.scope in
    let rule = ruled s.config in
    let e = edge_at rule s.start s.ceiling in
    let h = c.in_ok-high.ensures ∙ ap (λ (n : ℕ). highest (below n v.disk.blobs)) c.edge.ensures in
    let b = c.in-Some.high in
    let p = split_at e b v (g.met.S.Store.lawful c.args.store.now) (sym h ∙ c.in-Some.is) in
    let w = g.S.Store.view c.examine_suspect.new.store in
    let r = err_from_is_err_and c.from_residual-in_err-examine_suspect.result c.from_residual-in_err-examine_suspect.ensures.1 in
    rw (r.1, r.2) (first_stops rule s.start s.ceiling c.args.floor e b v p c.in_err-examine_suspect.field-0.0 w (c.in_err-examine_suspect.ensures p.blob p.found))

pub invariant_of-highest_below-2 : goal.invariant_of-highest_below-2
invariant_of-highest_below-2 g c =
    let v = g.S.Store.view c.args.store.now in
    let s = c.args.scope in
    let rule = ruled s.config in
    let e = edge_at rule s.start s.ceiling in
    let h = c.in_ok-high.ensures ∙ ap (λ (n : ℕ). highest (below n v.disk.blobs)) c.edge.ensures in
    let b = c.in-Some.high in
    let p = split_at e b v (g.met.S.Store.lawful c.args.store.now) (sym h ∙ c.in-Some.is) in
    record { up = (c.in_ok-examine_suspect.ensures p.blob p.found).up }

pub returns-in_default-2 : goal.returns-in_default-2
returns-in_default-2 g c =
    let v = g.S.Store.view c.args.store.now in
    let s = c.args.scope in
    let rule = ruled s.config in
    let e = edge_at rule s.start s.ceiling in
    let h = c.in_ok-high.ensures ∙ ap (λ (n : ℕ). highest (below n v.disk.blobs)) c.edge.ensures in
    let b = c.in-Some.high in
    let p = split_at e b v (g.met.S.Store.lawful c.args.store.now) (sym h ∙ c.in-Some.is) in
    let u = g.S.Store.view c.examine_suspect.new.store in
    let st = c.in_ok-examine_suspect.ensures p.blob p.found in
    (st.up, one_only rule s.start s.ceiling c.args.floor e b v p u st (sym c.in_ok-next.ensures ∙ c.in_default-2.is))

-- how the second ends is how both do
ends : {A : Type 0} (c : Config) (s : ℕ) (ceiling : Option ℕ) (floor e b n : ℕ) (v u w : View) (p : Split e b v.disk.blobs) (st : Stood c s ceiling floor b p.blob v u) (o : Split b n u.disk.blobs) (r : Result A Fault)
    → Examined c s ceiling floor n o.blob u r w → ExaminedTwo c s ceiling floor e v r w
ends c s ceiling floor e b n v u w p st o (Ok y) h = (h.up, both c s ceiling floor e b v p u st n o w h)
ends c s ceiling floor e b n v u w p st o (Err f) h = second_stops c s ceiling floor e b v p u st n o f w h

pub returns : goal.returns
returns g c =
    let v = g.S.Store.view c.args.store.now in
    let s = c.args.scope in
    let rule = ruled s.config in
    let e = edge_at rule s.start s.ceiling in
    let h = c.in_ok-high.ensures ∙ ap (λ (n : ℕ). highest (below n v.disk.blobs)) c.edge.ensures in
    let b = c.in-Some.high in
    let p = split_at e b v (g.met.S.Store.lawful c.args.store.now) (sym h ∙ c.in-Some.is) in
    let u = g.S.Store.view c.examine_suspect.new.store in
    let st = c.in_ok-examine_suspect.ensures p.blob p.found in
    let n = c.in-Some-2.next in
    let o = split_at b n u (g.met.S.Store.lawful c.examine_suspect.new.store) (sym c.in_ok-next.ensures ∙ c.in-Some-2.is) in
    ends rule s.start s.ceiling c.args.floor e b n v u (g.S.Store.view c.examine_suspect-2.new.store) p st o c.examine_suspect-2.result (c.examine_suspect-2.ensures o.blob o.found)
