-- The numbers of the operations that the state check asks for: each is that of its class, and no other operation has the class.
-- Assumes nothing.
use Prim.Native.Nat.{ℕ}
use mathlib.Core.Path.{◌≡◌, ◌∙◌, ap}
use Rattle.base.specs.Test.{Ok}
use Rattle.base.proofs.Bool.{passed}
use Rattle.ops.specs.Class.{Class, ENP, ERR, ESW, IFF, JSR, Marker, PPM, PRC, executes, is, marks}
use Rattle.ops.specs.Numbers.{is_single, class_number}
use Rattle.ops.specs.Ops.{class_in, rows}
use Rattle.ops.proofs.Numbers.{class_of, number-of}

-- the number of an operation that is never arrived at [M section 8]
abbrev pub marker_number : Marker → ℕ
marker_number k = class_number (marks k)

one-marker : (k : Marker) → Ok (is_single (marks k))
one-marker PPM = passed
one-marker ERR = passed
one-marker IFF = passed
one-marker ESW = passed
one-marker PRC = passed
one-marker ENP = passed

pub marker-number : (k : Marker) (op : ℕ) → Ok (is (class_in op rows) (marks k)) → op ≡ marker_number k
marker-number k op h = number-of op (marks k) (one-marker k) h

pub marker-class : (k : Marker) (op : ℕ) → op ≡ marker_number k → class_in op rows ≡ marks k
marker-class k op e = ap (λ (n : ℕ). class_in n rows) e ∙ class_of (marks k) (one-marker k)

pub jsr-number : (op : ℕ) → Ok (is (class_in op rows) (executes JSR)) → op ≡ 109
jsr-number op h = number-of op (executes JSR) passed h

pub jsr-class : (op : ℕ) → op ≡ 109 → class_in op rows ≡ executes JSR
jsr-class op e = ap (λ (n : ℕ). class_in n rows) e ∙ class_of (executes JSR) passed
