-- Facts of chains, where the memory and the chain go by other names.
use Rattle.std.proofs.Common.{◌≡◌, ℕ, List, ◌++◌, sym, subst, arith}
use Rattle.store.proofs.Occurs.{occurs_append}
use Rattle.sectors.specs.declared.chain.Chain.{Chain}
use Rattle.sectors.specs.Sectors.{Apart}
use Rattle.sectors.specs.Chains.{list, Both, Moved, Filled}
use Rattle.sectors.proofs.Paths.{apart_part}

pub moved_as : (a b : List ℕ) (c d : Chain) (new old : List ℕ) (f e g : Chain) → a ≡ b → c ≡ d → new ≡ old → Moved a c f new e g → Moved b d f old e g
moved_as a b c d new old f e g p q r h =
    subst (λ (m : List ℕ). Moved b d f m e g) r (subst (λ (x : Chain). Moved b x f new e g) q (subst (λ (m : List ℕ). Moved m c f new e g) p h))

pub filled_as : (a b : List ℕ) (c d : Chain) (new old : List ℕ) (at : ℕ) (bs : List ℕ) → a ≡ b → c ≡ d → new ≡ old → Filled a c at bs new → Filled b d at bs old
filled_as a b c d new old at bs p q r h =
    subst (λ (m : List ℕ). Filled b d at bs m) r (subst (λ (x : Chain). Filled b x at bs new) q (subst (λ (m : List ℕ). Filled m c at bs new) p h))

pub apart_as : (a b : List ℕ) (c d : Chain) → a ≡ b → c ≡ d → Apart b (list b d) → Apart a (list a c)
apart_as a b c d p q h = subst (λ (m : List ℕ). Apart m (list m c)) (sym p) (subst (λ (x : Chain). Apart b (list b x)) (sym q) h)

pub alone : (mem : List ℕ) (a b : Chain) → Both mem a b → Apart mem (list mem a)
alone mem a b h = apart_part mem (list mem a) (list mem a ++ list mem b) h.apart (λ p. omega (arith, occurs_append p (list mem a) (list mem b)))

pub both_as : (a b : List ℕ) (c d f : Chain) → a ≡ b → c ≡ d → Both b d f → Both a c f
both_as a b c d f p q h = subst (λ (m : List ℕ). Both m c f) (sym p) (subst (λ (x : Chain). Both b x f) (sym q) h)
