-- What the code has of statements, one by one and up to their `}`.
use Rattle.std.specs.Prelude.{ℕ, ◌<◌, ◌≡◌, Bool, true, false, List}
use Rattle.meaning.specs.Reader.{Reader, ◌>>=◌, give}
use Rattle.meaning.specs.Body.{Assigns, shifted, Body, done, vec, inner}
use Rattle.meaning.specs.Statements.{Env, Head, loops, head}
use Rattle.held.proofs.Turn.{onward, deeper}
use Rattle.words.specs.declared.Cursor.{Cursor}
use Rattle.words.specs.Cursor.{alive, Goes}
use Rattle.words.proofs.Loops.{room}
use Rattle.timing.specs.Makes.{Makes, Brings}
use Rattle.measures.specs.declared.Measure.{Measure}
use Rattle.measures.specs.Measures.{Measures, joined}
use Rattle.measures.specs.Uses.{Uses}
use Rattle.noted.specs.Noted.{Gives, Noted}
use Rattle.noted.specs.Known.{Knows}
use Rattle.heads.specs.declared.Headed.{Headed}
use Rattle.heads.specs.Heads.{Tells}
use Rattle.bodies.specs.declared.Turn.{Turn}

-- the row of a body that is being read, before and behind some statements of it: they are counted where they are the body's own
pub record Counted (own : Bool) (before : List ℕ) (b : Body) (behind : List ℕ) : Type 0 where
  pub counts : own ≡ true → (a : Body) → Uses a before → Uses (joined a b) behind
  pub stays : own ≡ false → behind ≡ before

-- what was read is noted, if the bodies that e knows are
pub record Notes (tables : ℕ) (e : Env) (used used' : List ℕ) (b : Body) : Type 0 where
  pub noted : Knows tables used e → Noted tables used' b

-- statements were read: their measure, their uses of `#`, and what is noted of them
pub record Summed (own : Bool) (before behind : List ℕ) (x : Measure) (N : Body → Type 0) (b : Body) : Type 0 where
  pub measured : Measures b x
  pub counted : Counted own before b behind
  pub noted : N b

-- the head that m reads from c, as the code has it
pub record HeadIs (text book given args : List ℕ) (tables : ℕ) (c : Cursor) (m : Reader Head) (h : Headed) : Type 0 where
  pub rows : List ℕ
  pub makes : Makes text c m h.cursor (Tells text book rows given args tables h.what)

-- what a Shift holds was read: one V, whose uses of `#` went to the row, and which is noted
pub record Held (before behind used : List ℕ) (b : Body) : Type 0 where
  pub at : ℕ
  pub assigns : Assigns
  pub is : b ≡ vec at assigns done
  pub counts : (a : Body) → Uses a before → Uses (joined a (inner shifted b done)) behind
  pub gives : Gives used assigns

-- the statements from here on, behind those of `front`; none where they have ended
unfoldable pub rest : Env → Bool → ℕ → (ended seen : Bool) → Body → Reader Body
rest e own d true seen front = give front
rest e own d false seen front = onward e own d (deeper e d) seen >>= λ r. give (joined front r)

-- a statement was read whole, and it was no `}`, or it was
abbrev pub went : Cursor → Measure → Bool → Turn
went cursor measure seen = record { cursor = cursor; measure = measure; ends = false; seen = seen; turns = 0 }

abbrev pub last : Cursor → Measure → Turn
last cursor measure = record { cursor = cursor; measure = measure; ends = true; seen = false; turns = 0 }

-- one statement was read, behind others of measure x, and N is noted of it
pub record Turned (text : List ℕ) (e : Env) (own : Bool) (d : ℕ) (c : Cursor) (seen : Bool) (x : Measure) (before : List ℕ) (r : Turn) (behind : List ℕ)
    (N : Body → Type 0) : Type 0 where
  pub one : Body
  pub brings : (front : Body) → Brings text c (rest e own d false seen front) r.cursor (rest e own d r.ends r.seen (joined front one))
  pub measured : alive r.cursor ≡ true → (front : Body) → Measures front x → Measures (joined front one) r.measure
  pub counted : alive r.cursor ≡ true → Counted own before one behind
  pub noted : alive r.cursor ≡ true → N one
  pub less : alive c ≡ true → room text r.cursor < room text c

-- or the head of a Loop, so that its body is next
pub record Opened (text : List ℕ) (e : Env) (own : Bool) (d : ℕ) (c : Cursor) (seen : Bool) (before : List ℕ) (r : Turn) (behind : List ℕ) : Type 0 where
  pub goes : Goes text c (head e own d seen) r.cursor (loops r.turns)
  pub deep : 0 < d
  pub kept : behind ≡ before

pub record Begun (text : List ℕ) (e : Env) (own : Bool) (d : ℕ) (c : Cursor) (seen : Bool) (x : Measure) (before : List ℕ) (r : Turn) (behind : List ℕ)
    (N : Body → Type 0) : Type 0 where
  pub whole : r.turns ≡ 0 → Turned text e own d c seen x before r behind N
  pub opened : (r.turns ≡ 0 → ⊥) → Opened text e own d c seen before r behind
