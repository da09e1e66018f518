-- `asm_symbols::list::SymbolList::next_named`: no symbol before i has the name.
use Prim.Native.Nat.{ℕ, ◌+◌, ◌*◌, ◌<◌}
use mathlib.Core.Path.{◌∙◌, ◌≡◌, refl, sym, ap}
use native.Mathlib.Omega.{arith}
use mathlib.Core.List.{List}
use lib.ListN.{get_or}
use Rattle.asm_symbols.specs.Walk.{named_from}
use Rattle.asm_symbols.proofs.Walks.{named_past}
use Rattle.asm_symbols.proofs.list.SymbolList.next_named.Goals as goal

-- the name of the second of a pair
second_at : (xs : List ℕ) (i : ℕ) → get_or xs (5 * i + 5) 0 ≡ get_or xs (5 * (i + 1)) 0
second_at xs i = let z : 5 * (i + 1) ≡ 5 * i + 5 = omega arith in rw z refl

-- of a pair the first has not the name, and neither has the second
module _ (xs : List ℕ) (n k i : ℕ) (h : i + 1 < n) (e : get_or xs (5 * i) 0 ≡ k → ⊥) where
  first_past : named_from xs n i k ≡ named_from xs n (i + 1) k
  first_past = named_past xs n k i (omega arith) e

  both-past : (get_or xs (5 * i + 5) 0 ≡ k → ⊥) → named_from xs n i k ≡ named_from xs n (i + 2) k
  both-past d =
      let z : i + 1 + 1 ≡ i + 2 = omega arith in
      first_past ∙ named_past xs n k (i + 1) h (λ q. d (second_at xs i ∙ q)) ∙ ap (λ (m : ℕ). named_from xs n m k) z

pub loop-i-init : goal.loop-i-init
loop-i-init c = (omega arith, omega arith, refl)

pub returns-then-self-b : goal.returns-then-self-b
returns-then-self-b c = record { onward = omega arith; inside = omega arith; same = c.loop-i.invariant.2; here = λ h. c.if-self-b.true }

pub returns-then-self-b-2 : goal.returns-then-self-b-2
returns-then-self-b-2 c =
    let l = c in
    let a = l.args in
    record {
      onward = omega arith;
      inside = omega arith;
      same = l.loop-i.invariant.2 ∙ first_past a.self.now.words.now a.self.now.n a.k l.loop-i.i (omega arith) c.if-self-b.false;
      here = λ h. sym (second_at a.self.now.words.now l.loop-i.i) ∙ c.if-self-b-2.true;
    }

pub loop-i-preserved : goal.loop-i-preserved
loop-i-preserved c =
    let l = c in
    let a = l.args in (
      omega arith,
      omega arith,
      l.loop-i.invariant.2 ∙ both-past a.self.now.words.now a.self.now.n a.k l.loop-i.i (omega arith) c.if-self-b.false c.if-self-b-2.false,
    )

pub returns-then-i-self : goal.returns-then-i-self
returns-then-i-self c =
    let l = c in
    let a = l.args in
    record {
      onward = omega arith;
      inside = omega arith;
      same = l.loop-i.invariant.2 ∙ ap (λ (m : ℕ). named_from a.self.now.words.now a.self.now.n m a.k) c.if-i-self.true;
      here = λ h. absurd (omega arith);
    }

pub returns-then-self-i : goal.returns-then-self-i
returns-then-self-i c =
    record { onward = omega arith; inside = omega arith; same = c.loop-i.invariant.2; here = λ h. c.if-self-i.true }

pub returns : goal.returns
returns c =
    let l = c in
    let a = l.args in
    let z : l.loop-i.i + 1 ≡ a.self.now.n = omega (arith, c.if-i-self.false) in
    record {
      onward = omega arith;
      inside = omega arith;
      same =
          l.loop-i.invariant.2
          ∙ named_past a.self.now.words.now a.self.now.n a.k l.loop-i.i (omega arith) c.if-self-i.false
          ∙ ap (λ (m : ℕ). named_from a.self.now.words.now a.self.now.n m a.k) z;
      here = λ h. absurd (omega arith);
    }
