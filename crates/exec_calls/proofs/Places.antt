-- The place that an operation's code stands at: its class, its rules, its operands; and the answer that goes on.
-- Assumes nothing.
use Prim.Native.Nat.{ℕ, suc, ◌+◌, ◌*◌, ◌<◌, ◌≤◌}
use mathlib.Core.Path.{◌≡◌, sym, ap, ◌∙◌}
use mathlib.Core.Bool.{Bool}
use mathlib.Core.List.{List}
use native.Mathlib.Omega.{arith}
use lib.ListN.{length}
use Rattle.base.specs.Test.{Ok}
use Rattle.base.specs.Lists.{◌at◌}
use Rattle.base.proofs.Bool.{and_l, and_r, ok-eq, ok-le, passed}
use Rattle.ops.specs.Class.{Flow, executes}
use Rattle.ops.specs.Numbers.{class_number, is_single}
use Rattle.ops.specs.Ops.{rows, class_in}
use Rattle.ops.proofs.Numbers as Numbers
use Rattle.rules.specs.Table.{size, entry_at, field, class_at, value, table_length, externals, fresh_count, constants, workings}
use Rattle.rules.specs.Check.{holds, class_rules, table_ok, layout_ok, limits_ok}
use Rattle.rules.proofs.Facts.{rule-when, executable-in-table}
use Rattle.bodies.proofs.Places.{class_of}
use Rattle.exec_core.specs.Entry.{Entry, takes}
use Rattle.exec_core.specs.Views.{toward}
use Rattle.exec_core.specs.Seen.{place_of}
use Rattle.exec_core.proofs.Entries.{entry_of}
use Rattle.exec_calls.specs.Stands.{Stands}

-- what the header of a table that passes its check says
pub record Header (t : List ℕ) : Type 0 where
  pub few : t at 0 ≤ 1024
  pub fresh : t at 3 ≤ 32
  pub externals : t at 4 ≤ 512
  pub long : 8 + 8 * (t at 0) + t at 3 + t at 4 ≤ length t

pub header : (t : List ℕ) → Ok (table_ok t) → Header t
unfolding table_ok layout_ok limits_ok table_length size fresh_count externals constants workings
header t ok =
    let o = and_l _ _ ok in
    let l = and_l _ _ o in
    let e = ok-eq (length t) _ (and_l _ _ (and_r _ _ o)) in
    record {
      few = ok-le (t at 0) 1024 (and_l _ _ l);
      fresh = ok-le (t at 3) 32 (and_l _ _ (and_r _ _ l));
      externals = ok-le (t at 4) 512 (and_l _ _ (and_r _ _ (and_r _ _ l)));
      long = omega arith;
    }

-- the entry of a place in the table lies in it
pub place-long : (t : List ℕ) (q : ℕ) → Ok (table_ok t) → q < size t → (8 + 8 * q + 8 ≤ length t) × (q < 1024)
unfolding size
place-long t q ok h = let r = header t ok in (omega (arith, r.long), omega (arith, r.few))

module _ {t : List ℕ} {b n : ℕ} (y : Stands t b n) where
  pub place_inside : place_of b < size t
  place_inside = executable-in-table t (place_of b) y.arrives

  -- operands of the kinds that the row of n takes, with the words z
  pub entry-at : (f g : ℕ → Bool) (h : Bool) (z : List ℕ) → z at 0 ≡ 0 → Ok (takes f g h n rows) → Entry f g h t b z
  entry-at f g h z e k =
      entry_of f g h n k (record { place = place_of b; starts = y.starts; checked = y.checked; arrives = y.arrives; zero = e }) y.number

-- the class of an operation that alone has it, and its rules
module _ (f : Flow) (single : Ok (is_single (executes f))) {t : List ℕ} {b : ℕ} (y : Stands t b (class_number (executes f))) where
  pub class-at : class_at t (place_of b) ≡ executes f
  class-at =
      class_of t (place_of b) (place_inside y) ∙ ap (λ (i : ℕ). class_in (t at i) rows) (sym y.starts)
      ∙ ap (λ (k : ℕ). class_in k rows) y.number ∙ Numbers.class_of (executes f) single

  pub rule-at : Ok (holds (class_rules t (place_of b) (executes f)))
  rule-at = rule-when t y.checked (place_of b) (executes f) class-at passed

-- the answer that goes on leads to the next place
pub on-is : (b p : ℕ) → b ≡ entry_at p → b + 72 ≡ toward (suc p)
on-is b p e = omega arith

-- the value of operand one by its offset
pub value-at : (t : List ℕ) (b p : ℕ) → b ≡ entry_at p → t at (b + 3) ≡ value t p
unfolding value field
value-at t b p e = ap (λ (i : ℕ). t at (i + 3)) e
