-- Statements one after the other: the body is those measured so far, and a rest that is held from the cursor on.
use Prim.Native.Nat.{ℕ, ◌*◌, ◌<◌}
use mathlib.Core.Path.{◌≡◌, refl, sym, ap, ◌∙◌}
use mathlib.Core.Bool.{true, false}
use mathlib.Core.List.{List}
use lib.ListN.{length}
use Rattle.tokens.specs.Tokens.{Toks, left}
use Rattle.meaning.specs.Bounds.{signals_most}
use Rattle.meaning.specs.Body.{Body, done}
use Rattle.meaning.specs.Statements.{Env}
use Rattle.words.specs.Cursor.{alive, stream}
use Rattle.words.specs.declared.Cursor.{Cursor}
use Rattle.measures.specs.Measures.{Measures, joined}
use Rattle.measures.specs.declared.Measure.{Measure}
use Rattle.measures.proofs.Joined.{joined_done, joined_assoc}
use Rattle.loops.specs.declared.Measured.{Measured}
use Rattle.loops.specs.Held.{Tables, Standing, Sums, Steps}

-- the statements `front` of the body b measure x, and from c on the rest is held
pub record Onward (g : Tables) (more : ℕ) (E : Env) (b : Body) (us : Toks) (c : Cursor) (x : Measure) : Type 0 where
  pub front : Body
  pub rest : Body
  pub is : b ≡ joined front rest
  pub measured : Measures front x
  pub on : alive c ≡ true
  pub standing : Standing g (stream g.text c) more E rest us

module _ {g : Tables} {more : ℕ} {E : Env} {b : Body} {us : Toks} {c : Cursor} {x : Measure} where
  -- nothing was measured yet
  pub going : alive c ≡ true → Measures done x → Standing g (stream g.text c) more E b us → Onward g more E b us c x
  unfolding joined
  going on m st = record { front = done; rest = b; is = refl; measured = m; on = on; standing = st }

  module _ {r : Measured} (o : Onward g more E b us c x) (h : Steps g (stream g.text c) more E o.rest us r) where
    -- one statement more
    pub going_on : {y : Measure} → ((a b : Body) → Measures a x → Measures b r.measure → Measures (joined a b) y) → r.ends ≡ false
        → Onward g more E b us r.cursor y
    going_on plus q =
        let n = h.goes q in
        record {
          front = joined o.front n.one;
          rest = n.rest;
          is = o.is ∙ ap (joined o.front) n.is ∙ sym (joined_assoc o.front n.one n.rest);
          measured = plus o.front n.one o.measured n.measured;
          on = h.on;
          standing = n.standing;
        }

    pub fewer : r.ends ≡ false → left (stream g.text r.cursor) < left (stream g.text c)
    fewer q = (h.goes q).less

    -- the `}`
    pub gone : r.ends ≡ true → Sums g us b (record { cursor = r.cursor; measure = x; ends = true })
    gone q =
        let d = h.ended q in
        let all : b ≡ o.front = o.is ∙ ap (joined o.front) d.0 ∙ joined_done o.front in
        record { measured = rw all o.measured; on = h.on; behind = d.1 }

-- from c₀ to c, whatever body is held at c₀, some of its statements were measured
pub record Going (g : Tables) (more : ℕ) (c₀ c : Cursor) (x : Measure) (args : List ℕ) : Type 0 where
  pub args_long : length args ≡ signals_most * 2
  pub onward : (E : Env) (b : Body) (us : Toks) → Standing g (stream g.text c₀) more E b us → Onward g more E b us c x
