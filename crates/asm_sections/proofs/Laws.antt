-- Operations as numbers: an assembly operation by its code, and the tests of operations by theirs.
-- Assumes nothing.
use Prim.Native.Nat.{ℕ, zero, suc, ◌<◌, ◌≤◌}
use native.Mathlib.Omega.{arith}
use mathlib.Core.Path.{◌≡◌, refl, sym, ap, ◌∙◌}
use mathlib.Core.Bool.{Bool, true, false}
use lib.Dec.{eqb, leb, leb-zero}
use lib.ListN.{get_or-eq_default}
use borrow.Author.Tests.{eq-eqb, ne_eqb, eqb-true, eqb-false}
use Rattle.base.specs.Test.{◌and◌, ◌or◌, if, Ok}
use Rattle.base.proofs.Bool.{ok-eq}
use Rattle.ops.specs.Class.{decided}
use Rattle.ops.proofs.Every.{every, every-at}
use Rattle.language.specs.Text.{between}
use Rattle.language.specs.Operation.{Assembly, Assembly-discrete, DAC, DBC, DIC, DRC, DTC, EJC, END, EQU, EXP, GLB, INP, INR, Operation, SEC, TTL, assemblies, assembles, empty, is_assembly, is_divider, is_skipped, malformed, of_section, operates, same_assembly, unknown}
use Rattle.language.specs.Card.{is_one_word}
use Rattle.asm_types.specs.Views.{assembly_at}
use Rattle.asm_sections.specs.Codes.{assembly_code, code_of}

-- The assembly operations by their numbers.

pub at_code : (a : Assembly) → assembly_at (assembly_code a) ≡ a
at_code SEC = refl
at_code END = refl
at_code TTL = refl
at_code EJC = refl
at_code EXP = refl
at_code INP = refl
at_code INR = refl
at_code GLB = refl
at_code EQU = refl
at_code DAC = refl
at_code DIC = refl
at_code DRC = refl
at_code DBC = refl
at_code DTC = refl

pub code_below : (a : Assembly) → assembly_code a < 14
code_below SEC = omega arith
code_below END = omega arith
code_below TTL = omega arith
code_below EJC = omega arith
code_below EXP = omega arith
code_below INP = omega arith
code_below INR = omega arith
code_below GLB = omega arith
code_below EQU = omega arith
code_below DAC = omega arith
code_below DIC = omega arith
code_below DRC = omega arith
code_below DBC = omega arith
code_below DTC = omega arith

pub code_at : (n : ℕ) → n < 14 → n ≡ assembly_code (assembly_at n)
unfolding Ok ◌and◌
code_at n h = ok-eq _ _ (every-at (λ (i : ℕ) (a : Assembly). eqb i (assembly_code (assembly_at i))) SEC assemblies tt n h)

pub code-last : (n : ℕ) → 13 ≤ n → 13 ≡ assembly_code (assembly_at n)
code-last n h = go (eqb n 13) refl
  where
    go : (b : Bool) → eqb n 13 ≡ b → 13 ≡ assembly_code (assembly_at n)
    go true q = rw (eqb-true n 13 q) refl
    go false q =
        let l : 14 ≤ n = omega (arith, eqb-false n 13 q) in
        ap assembly_code (sym (get_or-eq_default assemblies DTC {n = n} l))

code-eq : (a b : Assembly) → assembly_code b ≡ assembly_code a → a ≡ b
code-eq a b e = sym (at_code a) ∙ ap assembly_at (sym e) ∙ at_code b

decided-code : (a b : Assembly) (x : Dec (a ≡ b)) → decided x ≡ eqb (assembly_code b) (assembly_code a)
decided-code a b (yes p) = sym (eq-eqb _ _ (ap assembly_code (sym p)))
decided-code a b (no p) = sym (ne_eqb _ _ (λ e. p (code-eq a b e)))

-- a test for an assembly operation is one of the code
pub assembly-is : (a : Assembly) (o : Operation) → is_assembly a o ≡ eqb (code_of o) (assembly_code a)
unfolding code_of
assembly-is a empty = sym (ne_eqb 14 (assembly_code a) (λ e. omega (arith, code_below a)))
assembly-is a malformed = sym (ne_eqb 15 (assembly_code a) (λ e. omega (arith, code_below a)))
assembly-is a unknown = sym (ne_eqb 16 (assembly_code a) (λ e. omega (arith, code_below a)))
assembly-is a (assembles b) = decided-code a b (Assembly-discrete a b)
assembly-is a (operates i) = sym (ne_eqb 17 (assembly_code a) (λ e. omega (arith, code_below a)))

-- Tests by code, in the order in which the functions try them.

skipped-assembly : (a : Assembly) → (same_assembly TTL a or same_assembly EJC a) ≡ (eqb (assembly_code a) 2 or eqb (assembly_code a) 3 or eqb (assembly_code a) 14)
unfolding ◌or◌
skipped-assembly SEC = refl
skipped-assembly END = refl
skipped-assembly TTL = refl
skipped-assembly EJC = refl
skipped-assembly EXP = refl
skipped-assembly INP = refl
skipped-assembly INR = refl
skipped-assembly GLB = refl
skipped-assembly EQU = refl
skipped-assembly DAC = refl
skipped-assembly DIC = refl
skipped-assembly DRC = refl
skipped-assembly DBC = refl
skipped-assembly DTC = refl

pub skipped-by : (o : Operation) (n : ℕ) → n ≡ code_of o → is_skipped o ≡ (eqb n 2 or eqb n 3 or eqb n 14)
unfolding is_skipped code_of ◌or◌
skipped-by empty n e = rw e
skipped-by malformed n e = rw e
skipped-by unknown n e = rw e
skipped-by (assembles a) n e = rw e (skipped-assembly a)
skipped-by (operates i) n e = rw e

pub divider-by : (o : Operation) (n : ℕ) → n ≡ code_of o → is_divider o ≡ (eqb n 0 or eqb n 1)
unfolding is_divider
divider-by o n e = rw (e, assembly-is SEC o, assembly-is END o)

pub one-word-by : (o : Operation) (n : ℕ) → n ≡ code_of o → is_one_word o ≡ (eqb n 9 or eqb n 10 or eqb n 12)
unfolding is_one_word
one-word-by o n e = rw (e, assembly-is DAC o, assembly-is DIC o, assembly-is DBC o)

abbrev section_by : ℕ → ℕ → Bool
section_by n k =
    if (eqb n 0) (leb k 6)
    (if (leb n 3) (leb k 7)
    (if (leb n 7) (between 1 1 k)
    (if (eqb n 8) (between 2 2 k)
    (if (leb n 13) (between 3 4 k) (if (eqb n 16) false (if (eqb n 17) (leb 5 k) true))))))

section-assembly : (k : ℕ) (a : Assembly) → of_section k (assembles a) ≡ section_by (assembly_code a) k
unfolding if ◌and◌ between
section-assembly k SEC = rw (leb-zero k)
section-assembly k END = rw (leb-zero k)
section-assembly k TTL = rw (leb-zero k)
section-assembly k EJC = rw (leb-zero k)
section-assembly k EXP = refl
section-assembly k INP = refl
section-assembly k INR = refl
section-assembly k GLB = refl
section-assembly k EQU = refl
section-assembly k DAC = refl
section-assembly k DIC = refl
section-assembly k DRC = refl
section-assembly k DBC = refl
section-assembly k DTC = refl

pub section-by : (k : ℕ) (o : Operation) (n : ℕ) → n ≡ code_of o → of_section k o ≡ section_by n k
unfolding code_of if
section-by k empty n e = rw e
section-by k malformed n e = rw e
section-by k unknown n e = rw e
section-by k (assembles a) n e = rw e (section-assembly k a)
section-by k (operates i) n e = rw e
