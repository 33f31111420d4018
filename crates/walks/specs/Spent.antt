-- The walk to a cycle in single steps, each past a statement or into the one that holds the cycle, and what each costs.
use Rattle.std.specs.Prelude.{ℕ, ◌+◌, ◌-◌, ◌%◌, ◌≤◌, ◌≡◌, true, false, leb}
use Rattle.std.proofs.Math.Option.{Option, none, some}
use Rattle.meaning.specs.Body.{Body, done, vec, set', inner}
use Rattle.meaning.specs.Run.{size, cycles, shift_of, visits}
use Rattle.walks.specs.Statement.{cycles_in}

-- where it stands: before these statements, whose Shift plays so often, with so many cycles to pass
pub record Stand : Type 0 where
  pub turns : ℕ
  pub body : Body
  pub left : ℕ

-- what the next step costs: the first statement's size, passed or entered
unfoldable pub costs : Body → ℕ
costs done = 0
costs (vec p a r) = 1
costs (set' x r) = 1
costs (inner w b r) = 1 + size b

-- where it leads: past the first statement where all its cycles lie before n, else into it; nowhere from the V that is looked for, and from the end
unfoldable pub onward : ℕ → Body → ℕ → Option Stand
onward t done n = none
onward t (vec p a r) n = elim (leb 1 n) [ true ↦ some (record { turns = t; body = r; left = n - 1 }) | false ↦ none ]
onward t (set' x r) n = some (record { turns = t; body = r; left = n })
onward t (inner w b r) n =
    elim (leb (cycles_in t w b) n) [
      | true ↦ some (record { turns = t; body = r; left = n - cycles_in t w b })
      | false ↦ some (record { turns = shift_of t w; body = b; left = n % cycles (shift_of t w) b })
    ]

-- the visits from there on
unfoldable pub ahead : Option Stand → ℕ
ahead none = 0
ahead (some x) = visits x.turns x.body x.left

-- the walk to cycle `first` of a run stands before the statements b: what it has spent and what is still to be spent are the visits, and the budget is enough for them
pub record Walking (run : Body) (first budget spent t : ℕ) (b : Body) (n : ℕ) : Type 0 where
  pub sum : spent + visits t b n ≡ visits 0 run first
  pub enough : visits 0 run first ≤ budget
