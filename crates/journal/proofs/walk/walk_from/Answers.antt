use Rattle.std.proofs.Common.{◌≡◌, ℕ, ◌+◌, ◌/◌, length, Some, Ok, Err, sym, ap, ◌∙◌, subst, arith}
use Rattle.std.proofs.lemmas.Result.{err_from_is_err_and}
use Rattle.store.specs.Disk.{at_or_above}
use Rattle.rules.specs.Open.{below, edge_at, stands, walk, Walked}
use Rattle.journal.specs.Configs.{ruled}
use Rattle.journal.specs.Recovery.{rest, Fills, Walks, is_more}
use Rattle.journal.specs.declared.walk.Filled.{Filled}
use Rattle.journal.proofs.Walking.{rest_none, rest_some, up_store, walk_none, walk_gap, turn_full, turn_short, turn_wrong, nothing_past}
use Rattle.journal.proofs.walk.walk_from.Goals as goal

pub returns-in_default : goal.returns-in_default
returns-in_default g c =
    let v = g.S.Store.view c.args.live.now.store.now in
    let s = c.args.scope in
    let E = edge_at (ruled s.config) s.start s.ceiling in
    let bs = below E v.disk.blobs in
    let q = c.in_ok-next.ensures ∙ ap (λ (e : ℕ). at_or_above c.walk.b (below e v.disk.blobs)) c.edge-edge.ensures in
    c.walk.invariant ∙ walk_none (ruled s.config) s.start c.walk.size c.walk.b (rest c.walk.b bs) (rest_none c.walk.b bs (sym q ∙ c.in_default.is))

pub returns-then-next-b : goal.returns-then-next-b
returns-then-next-b g c =
    let v = g.S.Store.view c.args.live.now.store.now in
    let s = c.args.scope in
    let E = edge_at (ruled s.config) s.start s.ceiling in
    let bs = below E v.disk.blobs in
    let q = c.in_ok-next.ensures ∙ ap (λ (e : ℕ). at_or_above c.walk.b (below e v.disk.blobs)) c.edge-edge.ensures in
    let h = rest_some 0 c.walk.b c.in-Some.next bs (up_store v E (g.met.S.Store.lawful c.args.live.now.store.now)) (sym q ∙ c.in-Some.is) in
    c.walk.invariant ∙ walk_gap (ruled s.config) s.start c.walk.size c.walk.b (rest c.walk.b bs) (rest (c.in-Some.next + 1) bs) c.in-Some.next h.blob h.is c.if-next-b.true

pub returns-in_err-grown : goal.returns-in_err-grown
returns-in_err-grown g c =
    let v = g.S.Store.view c.args.live.now.store.now in
    let s = c.args.scope in
    let E = edge_at (ruled s.config) s.start s.ceiling in
    let laws = g.met.S.Store.lawful c.args.live.now.store.now in
    let q = c.in_ok-next.ensures ∙ ap (λ (e : ℕ). at_or_above c.walk.b (below e v.disk.blobs)) c.edge-edge.ensures in
    let n : c.in-Some.next ≡ c.walk.b = omega arith in
    let at = sym q ∙ (c.in-Some.is ∙ ap (λ (k : ℕ). Some k) n) in
    let y = c.in_err-grown.field-0.0 in
    let p = err_from_is_err_and c.from_residual-in_err-grown.result c.from_residual-in_err-grown.ensures.1 in
    rw (p.1, p.2) (subst (λ (k : Walked). Walks k (Err y)) (sym c.walk.invariant) (turn_wrong (ruled s.config) s.start c.walk.size c.walk.b E v laws at y c.in_err-grown.ensures))

pub walk-preserved : goal.walk-preserved
walk-preserved g c =
    let v = g.S.Store.view c.args.live.now.store.now in
    let s = c.args.scope in
    let rule = ruled s.config in
    let E = edge_at rule s.start s.ceiling in
    let bs = below E v.disk.blobs in
    let laws = g.met.S.Store.lawful c.args.live.now.store.now in
    let q = c.in_ok-next.ensures ∙ ap (λ (e : ℕ). at_or_above c.walk.b (below e v.disk.blobs)) c.edge-edge.ensures in
    let n : c.in-Some.next ≡ c.walk.b = omega arith in
    let at = sym q ∙ (c.in-Some.is ∙ ap (λ (k : ℕ). Some k) n) in
    let on = turn_full rule s.start c.walk.size c.walk.b E v laws at c.in-Full.grown (λ x f. subst (λ (k : Filled). Fills rule s.start c.walk.size c.walk.b (length x.bytes / s.config.size) (Ok k)) c.in-Full.is (c.in_ok-grown.ensures x f)) in
    c.walk.invariant ∙ (on ∙ ap (λ (k : ℕ). walk rule s.start c.in-Full.grown k (rest k bs)) (sym c.in-Some-checked_add.ensures.1))

pub returns-in_ok-more_after-in-Short : goal.returns-in_ok-more_after-in-Short
returns-in_ok-more_after-in-Short g c =
    let v = g.S.Store.view c.args.live.now.store.now in
    let s = c.args.scope in
    let E = edge_at (ruled s.config) s.start s.ceiling in
    let laws = g.met.S.Store.lawful c.args.live.now.store.now in
    let q = c.in_ok-next.ensures ∙ ap (λ (e : ℕ). at_or_above c.walk.b (below e v.disk.blobs)) c.edge-edge.ensures in
    let n : c.in-Some.next ≡ c.walk.b = omega arith in
    let at = sym q ∙ (c.in-Some.is ∙ ap (λ (k : ℕ). Some k) n) in
    let m = c.in_ok-more_after-in-Short.ensures ∙ ap (λ (e : ℕ). is_more c.walk.b (below e v.disk.blobs)) c.edge-edge.ensures in
    c.walk.invariant
    ∙ (turn_short (ruled s.config) s.start c.walk.size c.walk.b E v laws at c.in-Short.grown (λ x f. subst (λ (k : Filled). Fills (ruled s.config) s.start c.walk.size c.walk.b (length x.bytes / s.config.size) (Ok k)) c.in-Short.is (c.in_ok-grown.ensures x f)) ∙ ap (stands c.in-Short.grown) (sym m))

pub returns-in_default-checked_add : goal.returns-in_default-checked_add
returns-in_default-checked_add g c =
    let v = g.S.Store.view c.args.live.now.store.now in
    let s = c.args.scope in
    let rule = ruled s.config in
    let E = edge_at rule s.start s.ceiling in
    let bs = below E v.disk.blobs in
    let laws = g.met.S.Store.lawful c.args.live.now.store.now in
    let q = c.in_ok-next.ensures ∙ ap (λ (e : ℕ). at_or_above c.walk.b (below e v.disk.blobs)) c.edge-edge.ensures in
    let n : c.in-Some.next ≡ c.walk.b = omega arith in
    let at = sym q ∙ (c.in-Some.is ∙ ap (λ (k : ℕ). Some k) n) in
    c.walk.invariant
    ∙ (turn_full rule s.start c.walk.size c.walk.b E v laws at c.in-Full.grown (λ x f. subst (λ (k : Filled). Fills rule s.start c.walk.size c.walk.b (length x.bytes / s.config.size) (Ok k)) c.in-Full.is (c.in_ok-grown.ensures x f))
    ∙ walk_none rule s.start c.in-Full.grown (c.walk.b + 1) (rest (c.walk.b + 1) bs) (rest_none (c.walk.b + 1) bs (nothing_past v c.walk.b E laws c.in_default-checked_add.ensures)))
