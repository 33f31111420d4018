-- Statements one after the other: going through the body is going through what is left of it, until its `}` or until nothing is left to do.
use Prim.Native.Nat.{ℕ, ◌<◌}
use mathlib.Core.Path.{◌≡◌, refl}
use mathlib.Core.Bool.{Bool, true, false, ◌||◌}
use mathlib.Core.List.{List}
use lib.ListN.{length}
use Rattle.tokens.specs.Tokens.{Toks, left}
use Rattle.tokens.proofs.Bools.{neither}
use Rattle.meaning.specs.Body.{Body}
use Rattle.meaning.specs.Run.{State, visits, play}
use Rattle.meaning.specs.Statements.{Env}
use Rattle.words.specs.Cursor.{alive, stream}
use Rattle.words.specs.declared.Cursor.{Cursor}
use Rattle.plays.specs.Plays.{Ground, Arrays, Standing, Kept}
use Rattle.rows.specs.declared.Walk.{Walk}
use Rattle.rows.specs.Went.{over, Going}
use Rattle.rows.proofs.Going.{going_on}
use Rattle.steps.specs.declared.Walked.{Walked}
use Rattle.steps.specs.Walks.{Ready, Walks, Goes, Steps}
use Rattle.steps.proofs.Parting.{ready_rest, walks_both, walks_over}

-- at the cursor a rest of the body b is held, and who goes through that has gone through b, from w₀ on
pub record Onward (g : Ground) (more level table : ℕ) (x : Arrays) (E : Env) (us : Toks) (t : ℕ) (b : Body) (s : State) (w₀ : Walk) (before : List ℕ) (c : Cursor) (w : Walk) (now : List ℕ) : Type 0 where
  pub rest : Body
  pub state : State
  pub on : alive c ≡ true
  pub standing : Standing g (stream g.text c) more level table x E rest us state
  pub ready : Ready E.tables t rest state w
  pub whole : (y : Arrays) (after : List ℕ) (r : Walked) → Walks g level y us (play t rest state) (visits t rest w.pass) w now after r
      → Walks g level y us (play t b s) (visits t b w₀.pass) w₀ before after r

module _ {g : Ground} {more level table : ℕ} {x : Arrays} {E : Env} {us : Toks} {t : ℕ} {b : Body} {s : State} {w₀ : Walk} {before : List ℕ} {c : Cursor} where
  -- nothing was gone through yet
  pub starts : alive c ≡ true → Standing g (stream g.text c) more level table x E b us s → Ready E.tables t b s w₀
      → Onward g more level table x E us t b s w₀ before c w₀ before
  starts on st h = record { rest = b; state = s; on = on; standing = st; ready = h; whole = λ y after r k. k }

  module _ {w : Walk} {now : List ℕ} {y : Arrays} {after : List ℕ} {r : Walked} (o : Onward g more level table x E us t b s w₀ before c w now)
      (h : Steps g (stream g.text c) more level t y E us o.rest o.state w now after r) where
    module _ (q : (r.ends || over r.walk) ≡ false) where
      -- there is more to do
      goes : Goes g (stream g.text c) more level t y E us o.rest o.state w now after r
      goes = h.goes (neither r.ends (over r.walk) q).0

      not_over : over r.walk ≡ false
      not_over = (neither r.ends (over r.walk) q).1

      -- one statement more
      pub onward_next : Onward g more level r.table y E us t b s w₀ before r.cursor r.walk after
      onward_next = record {
        rest = goes.rest;
        state = goes.state;
        on = goes.on not_over;
        standing = goes.standing not_over;
        ready = ready_rest o.ready goes.parted goes.went not_over;
        whole = λ z last v k. o.whole z last v (walks_both goes.parted goes.went not_over k);
      }

      pub fewer : left (stream g.text r.cursor) < left (stream g.text c)
      fewer = goes.fewer not_over

      pub going_next : Going g.signals w now → Going g.signals r.walk after
      going_next k = going_on k goes.went not_over

      pub long_next : length after ≡ length now
      long_next = goes.went.long

    -- the last
    pub gone : (r.ends || over r.walk) ≡ true → Walks g level y us (play t b s) (visits t b w₀.pass) w₀ before after r
    gone q = o.whole y after r (by r.ends refl q)
      where
        by : (v : Bool) → r.ends ≡ v → (v || over r.walk) ≡ true → Walks g level y us (play t o.rest o.state) (visits t o.rest w.pass) w now after r
        by true e q = h.ended e
        by false e q = walks_over (h.goes e).parted (h.goes e).went q

-- from c₀ to c, whatever body is held at c₀, some of its statements were gone through
pub record Underway (g : Ground) (more level t : ℕ) (c₀ : Cursor) (table₀ : ℕ) (x₀ : Arrays) (w₀ : Walk) (before : List ℕ) (c : Cursor) (table : ℕ) (x : Arrays) (w : Walk) (now : List ℕ) : Type 0 where
  pub kept : Kept level x₀ x
  pub long : length now ≡ length before
  pub going : Going g.signals w now
  pub onward : (E : Env) (b : Body) (us : Toks) (s : State) → Standing g (stream g.text c₀) more level table₀ x₀ E b us s → Ready E.tables t b s w₀
      → Onward g more level table x E us t b s w₀ before c w now
