-- Demand 3 over the functions that a host calls: any list of calls of `torzimlak_run` and `torzimlak_resume`, with the host's writes between
-- them, told in the words that are lent and left. What is known of a call is what its contract promises (Running), and nothing else.
-- A state is the words XL XR XS WA WB WC IA, flag, place, waiting, count of links, then the links, oldest first (lent, Lent).
-- Assumes nothing.
use Rattle.std.specs.Prelude.{ℕ, ◌+◌, ◌/◌, ◌%◌, ◌^◌, ◌≡◌, Bool, List, [], ◌∷◌, eqb, ltb, leb, set, take, drop}
use Rattle.base.specs.Test.{◌and◌, if, Ok}
use Rattle.base.specs.Lists.{◌at◌}
use Rattle.ops.specs.Machine.{max_budget}
use Rattle.rules.specs.Number.{upper}
use Rattle.rules.specs.Table.{callee, declared}
use Rattle.rules.specs.State.{Link}
use Rattle.rules.specs.Start.{Mode}
use Rattle.rules.specs.Run.{Answer, Call, answer, left, resumes, runs, steps_in}
use Rattle.rules.specs.CallStack.{call_stack, trace_of}
use Rattle.rules.specs.Claim.{CallClaim, Register, Write, ending, resuming, to_ia, to_memory, to_register, wa, wb, wc, xl, xr, xs}
use Rattle.lent.specs.Lent.{state_from}
use Rattle.host_claims.specs.Answer.{state_number}
use Rattle.host_claims.specs.Running.{HostResumes, HostRuns, HostStarts, call_number}
use Rattle.host_claims.specs.Freezing.{HostRestores}

-- The host's writes between calls: any word of memory, the six registers, IA.

abbrev pub register_at : Register → ℕ
register_at xl = 0
register_at xr = 1
register_at xs = 2
register_at wa = 3
register_at wb = 4
register_at wc = 5

abbrev pub words_written : List ℕ → List Write → List ℕ
words_written ws [] = ws
words_written ws (to_memory i v ∷ us) = words_written ws us
words_written ws (to_register r v ∷ us) = words_written (set ws (register_at r) v) us
words_written ws (to_ia v ∷ us) = words_written (set ws 6 v) us

abbrev pub memory_written : List ℕ → List Write → List ℕ
memory_written mem [] = mem
memory_written mem (to_memory i v ∷ us) = memory_written (set mem i v) us
memory_written mem (to_register r v ∷ us) = memory_written mem us
memory_written mem (to_ia v ∷ us) = memory_written mem us

-- A list of calls, each with what came of it.

-- one call: the host's writes before it, then the call, what it answered, and the memory and the state's words that it left
pub record Made : Type 0 where
  pub writes : List Write
  pub call : Call
  pub number : ℕ
  pub memory : List ℕ
  pub words : List ℕ

-- the contract of the function that was called, lent these words and this memory; a resume only reads memory
abbrev pub Promised : List ℕ → List ℕ → List ℕ → Call → Made → Type 0
Promised t ws mem (runs k) m = HostRuns t ws mem (runs k) m.number m.memory m.words
Promised t ws mem (resumes x) m = HostResumes t ws mem (resumes x) m.number m.words × (m.memory ≡ mem)

-- each call is lent the same table and what the last one left, with the host's writes
abbrev pub AllPromised : List ℕ → List ℕ → List ℕ → List Made → Type 0
AllPromised t ws mem [] = Unit {0}
AllPromised t ws mem (m ∷ ms) =
    Promised t (words_written ws m.writes) (memory_written mem m.writes) m.call m × AllPromised t m.words m.memory ms

-- What then holds of each of them.

-- the answers that are left to a call on a state that passes: of a run an ending, 20 to 29, with the steps that it took, at most its budget,
-- or 32 for a budget above 1,000,000; of a resume 0 or 26, or 33 where the state does not wait or the exit is above the declared count
unfoldable pub listed : List ℕ → List ℕ → Call → ℕ → Bool
listed t ws (runs k) r = if (ltb max_budget k) (eqb r (upper 32)) (ending (r / 2 ^ 32) and leb (r % 2 ^ 32) k)
listed t ws (resumes x) r = if (eqb (ws at 9) 1 and leb x (declared t (callee t (ws at 8)))) (resuming r) (eqb r 33)

-- the rules' answer as the function tells it: a run's ending with its steps, a resume's number alone
abbrev pub told_by : Call → Answer → ℕ
told_by (runs k) a = upper (call_number a) + steps_in a
told_by (resumes x) a = call_number a

-- the number of a refusal
abbrev pub refusal_of : Call → ℕ
refusal_of (runs k) = upper 32
refusal_of (resumes x) = 33

-- one call, lent these words and this memory, with the reference call stack b before it: its answer is listed, and is the rules'; refused, it
-- leaves all as it was; what it leaves passes `torzimlak_check_state`; the links in the words are the call stack; the words are the state that the rules
-- leave; and each step and each exit on the way is as the rules' claim says, never stuck, each EXI to the exit of its number
pub record HostCallClaim (t ws mem : List ℕ) (b : List Link) (m : Made) : Type 0 where
  pub number : Ok (listed t ws m.call m.number)
  pub told : m.number ≡ told_by m.call (answer t (state_from ws mem) m.call)
  pub refused_keeps : m.number ≡ refusal_of m.call → (m.words ≡ ws) × (m.memory ≡ mem)
  pub passes : state_number t m.words m.memory ≡ 0
  pub links_are_calls : take (m.words at 10) (drop 11 m.words) ≡ call_stack t b (trace_of t (state_from ws mem) m.call)
  pub machine : state_from m.words m.memory ≡ left (state_from ws mem) (answer t (state_from ws mem) m.call)
  pub rules : CallClaim t (state_from ws mem) b m.call

abbrev pub HostCallClaims : List ℕ → List ℕ → List ℕ → List Link → List Made → Type 0
HostCallClaims t ws mem b [] = Unit {0}
HostCallClaims t ws mem b (m ∷ ms) =
    let ws₁ : List ℕ = words_written ws m.writes in
    let mem₁ : List ℕ = memory_written mem m.writes in
    HostCallClaim t ws₁ mem₁ b m
    × HostCallClaims t m.words m.memory (call_stack t b (trace_of t (state_from ws₁ mem₁) m.call)) ms

-- words and memory that a start, plain or warm, or a restore has left, with the answer 0
pub data Begun (t ws mem : List ℕ) : Type 0 where
  by_start : (k : Mode) (lent fs : List ℕ) (x : ℕ) (room : List ℕ) → HostStarts k t lent fs x room 0 mem ws → Begun t ws mem
  by_restore : (file : List ℕ) (build : ℕ) (fs lent room : List ℕ) → HostRestores t file build fs lent room 0 mem ws → Begun t ws mem

-- Demand 3 over words: from words that pass `torzimlak_check_state`, any list of calls; the call stack begins as their links
unfoldable pub HostCalls : Type 0
HostCalls =
    (t ws mem : List ℕ) (ms : List Made) → state_number t ws mem ≡ 0 → AllPromised t ws mem ms
    → HostCallClaims t ws mem (take (ws at 10) (drop 11 ws)) ms

-- and whatever a start or a restore leaves passes
unfoldable pub HostBegins : Type 0
HostBegins = (t ws mem : List ℕ) → Begun t ws mem → state_number t ws mem ≡ 0
