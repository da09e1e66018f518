-- An arm for each code; every other code is past the last.
use Prim.Native.Nat.{ℕ, suc, ◌≤◌}
use native.Mathlib.Omega.{arith}
use mathlib.Core.Path.{◌≡◌, refl, sym, ap}
use lib.ListN.{get_or-eq_default}
use Rattle.ops.specs.Format.{NONE, formats, format_word, code_word}
use Rattle.op_lookup.proofs.cells.code_word.Goals as goal

-- a number from n on that is not n is past n
past : (n k : ℕ) → n ≤ k → (k ≡ n → ⊥) → suc n ≤ k
past n k h e = omega arith

none-past : (k : ℕ) → 27 ≤ k → 1 ≡ code_word k
none-past k h = ap format_word (sym (get_or-eq_default formats NONE {n = k} h))

pub returns-in-0 : goal.returns-in-0
returns-in-0 c = rw c.in-0.is refl

pub returns-in-1 : goal.returns-in-1
returns-in-1 c = rw c.in-1.is refl

pub returns-in-2 : goal.returns-in-2
returns-in-2 c = rw c.in-2.is refl

pub returns-in-3 : goal.returns-in-3
returns-in-3 c = rw c.in-3.is refl

pub returns-in-4 : goal.returns-in-4
returns-in-4 c = rw c.in-4.is refl

pub returns-in-5 : goal.returns-in-5
returns-in-5 c = rw c.in-5.is refl

pub returns-in-6 : goal.returns-in-6
returns-in-6 c = rw c.in-6.is refl

pub returns-in-7 : goal.returns-in-7
returns-in-7 c = rw c.in-7.is refl

pub returns-in-8 : goal.returns-in-8
returns-in-8 c = rw c.in-8.is refl

pub returns-in-9 : goal.returns-in-9
returns-in-9 c = rw c.in-9.is refl

pub returns-in-10 : goal.returns-in-10
returns-in-10 c = rw c.in-10.is refl

pub returns-in-11 : goal.returns-in-11
returns-in-11 c = rw c.in-11.is refl

pub returns-in-12 : goal.returns-in-12
returns-in-12 c = rw c.in-12.is refl

pub returns-in-13 : goal.returns-in-13
returns-in-13 c = rw c.in-13.is refl

pub returns-in-14 : goal.returns-in-14
returns-in-14 c = rw c.in-14.is refl

pub returns-in-15 : goal.returns-in-15
returns-in-15 c = rw c.in-15.is refl

pub returns-in-16 : goal.returns-in-16
returns-in-16 c = rw c.in-16.is refl

pub returns-in-17 : goal.returns-in-17
returns-in-17 c = rw c.in-17.is refl

pub returns-in-18 : goal.returns-in-18
returns-in-18 c = rw c.in-18.is refl

pub returns-in-19 : goal.returns-in-19
returns-in-19 c = rw c.in-19.is refl

pub returns-in-20 : goal.returns-in-20
returns-in-20 c = rw c.in-20.is refl

pub returns-in-21 : goal.returns-in-21
returns-in-21 c = rw c.in-21.is refl

pub returns-in-22 : goal.returns-in-22
returns-in-22 c = rw c.in-22.is refl

pub returns-in-23 : goal.returns-in-23
returns-in-23 c = rw c.in-23.is refl

pub returns-in-24 : goal.returns-in-24
returns-in-24 c = rw c.in-24.is refl

pub returns-in-25 : goal.returns-in-25
returns-in-25 c = rw c.in-25.is refl

pub returns-in-26 : goal.returns-in-26
returns-in-26 c = rw c.in-26.is refl

pub returns-in_default : goal.returns-in_default
returns-in_default c =
    let r = c.in_default.in_default-own.rest in
    let k = c.args.code in
    let h0 : 0 ≤ k = omega arith in
    let h1 : 1 ≤ k = past 0 k h0 r.0.0.0.0.0.0.0.0.0.0.0.0.0.0.0.0.0.0.0.0.0.0.0.0.0.0.1 in
    let h2 : 2 ≤ k = past 1 k h1 r.0.0.0.0.0.0.0.0.0.0.0.0.0.0.0.0.0.0.0.0.0.0.0.0.0.1 in
    let h3 : 3 ≤ k = past 2 k h2 r.0.0.0.0.0.0.0.0.0.0.0.0.0.0.0.0.0.0.0.0.0.0.0.0.1 in
    let h4 : 4 ≤ k = past 3 k h3 r.0.0.0.0.0.0.0.0.0.0.0.0.0.0.0.0.0.0.0.0.0.0.0.1 in
    let h5 : 5 ≤ k = past 4 k h4 r.0.0.0.0.0.0.0.0.0.0.0.0.0.0.0.0.0.0.0.0.0.0.1 in
    let h6 : 6 ≤ k = past 5 k h5 r.0.0.0.0.0.0.0.0.0.0.0.0.0.0.0.0.0.0.0.0.0.1 in
    let h7 : 7 ≤ k = past 6 k h6 r.0.0.0.0.0.0.0.0.0.0.0.0.0.0.0.0.0.0.0.0.1 in
    let h8 : 8 ≤ k = past 7 k h7 r.0.0.0.0.0.0.0.0.0.0.0.0.0.0.0.0.0.0.0.1 in
    let h9 : 9 ≤ k = past 8 k h8 r.0.0.0.0.0.0.0.0.0.0.0.0.0.0.0.0.0.0.1 in
    let h10 : 10 ≤ k = past 9 k h9 r.0.0.0.0.0.0.0.0.0.0.0.0.0.0.0.0.0.1 in
    let h11 : 11 ≤ k = past 10 k h10 r.0.0.0.0.0.0.0.0.0.0.0.0.0.0.0.0.1 in
    let h12 : 12 ≤ k = past 11 k h11 r.0.0.0.0.0.0.0.0.0.0.0.0.0.0.0.1 in
    let h13 : 13 ≤ k = past 12 k h12 r.0.0.0.0.0.0.0.0.0.0.0.0.0.0.1 in
    let h14 : 14 ≤ k = past 13 k h13 r.0.0.0.0.0.0.0.0.0.0.0.0.0.1 in
    let h15 : 15 ≤ k = past 14 k h14 r.0.0.0.0.0.0.0.0.0.0.0.0.1 in
    let h16 : 16 ≤ k = past 15 k h15 r.0.0.0.0.0.0.0.0.0.0.0.1 in
    let h17 : 17 ≤ k = past 16 k h16 r.0.0.0.0.0.0.0.0.0.0.1 in
    let h18 : 18 ≤ k = past 17 k h17 r.0.0.0.0.0.0.0.0.0.1 in
    let h19 : 19 ≤ k = past 18 k h18 r.0.0.0.0.0.0.0.0.1 in
    let h20 : 20 ≤ k = past 19 k h19 r.0.0.0.0.0.0.0.1 in
    let h21 : 21 ≤ k = past 20 k h20 r.0.0.0.0.0.0.1 in
    let h22 : 22 ≤ k = past 21 k h21 r.0.0.0.0.0.1 in
    let h23 : 23 ≤ k = past 22 k h22 r.0.0.0.0.1 in
    let h24 : 24 ≤ k = past 23 k h23 r.0.0.0.1 in
    let h25 : 25 ≤ k = past 24 k h24 r.0.0.1 in
    let h26 : 26 ≤ k = past 25 k h25 r.0.1 in
    let h27 : 27 ≤ k = past 26 k h26 r.1 in
    none-past k h27
