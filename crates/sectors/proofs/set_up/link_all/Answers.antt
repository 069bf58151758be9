use Rattle.std.proofs.Common.{◌≡◌, ◌-◌, ◌≤◌, ◌⊎◌, sym, refl, ◌∙◌, inl, inr, arith}
use Rattle.sectors.specs.Sectors.{next_of}
use Rattle.sectors.proofs.Lines.{Rises, all_once, line_stands, once_none}
use Rattle.sectors.proofs.set_up.link_all.Goals as goal

pub returns : goal.returns
returns c =
    let n = c.args.n in
    let new = c.set_next-2.new.memory in
    let e = c.set_next-2.ensures in
    let i = c.loop-s.invariant in
    let h : Rises (next_of new) (n - 1) 1 = λ q l m. e.others q (λ z. omega arith) ∙ i.0 q (omega arith) (omega arith) in
    record {
      stands = line_stands new n _ (omega arith) h e.here refl refl refl;
      all = λ p. all_once (next_of new) n p (omega arith) h;
      count = refl;
      relinked = record {
        payloads = λ q. e.payloads q ∙ i.1 q;
        others = λ q z.
            let o : (q ≡ 0) ⊎ (n ≤ q) = once_none n q (sym (all_once (next_of new) n q (omega arith) h) ∙ z) in
            e.others q (λ w. elim o [ inl x ↦ omega arith | inr x ↦ omega arith ]) ∙ i.2 q (elim o [ inl x ↦ inl x | inr x ↦ inr (omega arith) ]);
      };
    }
