-- One listed pattern, a statement of the run: the book has its exact numbers, and it is passed with all its cycles, or entered.
use Prim.Native.Nat.{ℕ, ◌+◌, ◌%◌, ◌≤◌, ◌<◌}
use native.Mathlib.Nat.{mod-eq_of_lt}
use native.Mathlib.Omega.{arith}
use mathlib.Core.Path.{◌≡◌, sym, ◌∙◌}
use mathlib.Core.Bool.{true}
use mathlib.Core.List.{List, []}
use Rattle.meaning.specs.Timing.{Tables}
use Rattle.meaning.specs.Body.{listed, Body}
use Rattle.meaning.specs.Run.{State, size, cycles, shift_of, visits, play}
use Rattle.measures.specs.Measures.{size_cap, Measures}
use Rattle.measures.specs.declared.Measure.{Measure}
use Rattle.measures.proofs.Within.{size_within, cycles_within}
use Rattle.walks.specs.Statement.{cycles_in, begun}
use Rattle.walks.proofs.Bodies.{entered_cycles, entered_long}
use Rattle.rows.specs.declared.Walk.{Walk}
use Rattle.rows.specs.Went.{Going, spent, past, Went}
use Rattle.steps.specs.Walks.{Ready}
use Rattle.steps.proofs.Passing.{only_cycles}
use Rattle.steps.proofs.Alone.{only_small, only_few, only_pays, only_passed, only_affords, only_entered}
use Rattle.windows.specs.Run.{way, entry}

module _ {tabs : Tables} {b : Body} {s : State} {w : Walk} {m : Measure} (ready : Ready tabs 0 (entry b) s w) (x : Measures b m) where
  size_exact : 1 + size b ≡ m.size + 1
  size_exact = omega (arith, size_within x (only_small ready))

  cycles_exact : cycles_in 0 way b ≡ m.cycles
  cycles_exact =
      let long = entered_long 0 0 listed [] b in
      long ∙ sym (cycles_within x (omega (arith, only_few ready)))

  -- what it costs can be paid
  pub pattern_pays : w.walking ≡ true → m.size + 1 ≤ w.budget
  pattern_pays = only_pays ready size_exact

  -- within the machine's numbers
  pub pattern_small : m.size + 1 ≤ size_cap
  pattern_small = omega (arith, size_exact, only_small ready)

  pub pattern_passed : {signals : ℕ} {buffer : List ℕ} → Going signals w buffer → m.cycles ≤ w.pass
      → Went signals (play 0 (entry b) s).1 (visits 0 (entry b) w.pass) w (past (spent w (m.size + 1)) m.cycles) buffer buffer
  pattern_passed = only_passed ready size_exact cycles_exact

  module _ (h : w.pass < m.cycles) where
    within : w.pass < cycles_in 0 way b
    within = omega (arith, cycles_exact)

    -- the place looked for is the same in its body
    inside : w.pass % cycles 0 b ≡ w.pass
    inside = mod-eq_of_lt (omega (arith, within, entered_long 0 0 listed [] b))

    pub pattern_ready : Ready tabs 0 b (begun listed [] s) (spent w (m.size + 1))
    unfolding shift_of
    pattern_ready = record {
      few_cycles = omega (arith, only_few ready, entered_long 0 0 listed [] b);
      small = only_small ready;
      sound = rw (← entered_cycles 0 0 listed [] b s, ← only_cycles 0 way b s) ready.sound;
      pays = rw inside at (only_affords ready size_exact within);
    }

    pub pattern_entered : {signals : ℕ} {w' : Walk} {before after : List ℕ}
        → Went signals (play 0 b (begun listed [] s)).1 (visits 0 b w.pass) (spent w (m.size + 1)) w' before after
        → Went signals (play 0 (entry b) s).1 (visits 0 (entry b) w.pass) w w' before after
    unfolding shift_of
    pattern_entered p = only_entered ready size_exact within (rw (entered_cycles, inside) p)
