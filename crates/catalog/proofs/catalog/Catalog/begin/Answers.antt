use Rattle.std.proofs.Common.{◌≡◌, ℕ, Option, ap, sym, refl, ◌∙◌, arith}
use Rattle.std.specs.Option.{unwrap_or}
use Rattle.store.proofs.Power.{stops}
use Rattle.catalog.specs.Seen.{calls_left, view_by}
use Rattle.catalog.proofs.Stored.{stored_whole}
use Rattle.catalog.proofs.catalog.Catalog.begin.Goals.{in_default-via-in-Some+else-left-gt0, in_default-via-in_default}
use Rattle.catalog.proofs.catalog.Catalog.begin.Goals as goal

pub returns-in_default : goal.returns-in_default
returns-in_default c =
    let s = c.args.self.now in
    let spent : calls_left s ≡ 0 =
    elim c.in_default.branch [
      | in_default-via-in-Some+else-left-gt0 w ↦ let b = w.if-left-gt0.false in omega (arith, ap (λ (p : Option ℕ). unwrap_or p 0) w.in-Some.is)
      | in_default-via-in_default w ↦ ap (λ (p : Option ℕ). unwrap_or p 0) w.in_default.is
    ] in (
      refl,
      λ o content room h. (stops o (view_by content room s) (stored_whole content s.table h), (sym spent, λ z. (refl, refl), λ l. absurd (omega arith))),
    )
