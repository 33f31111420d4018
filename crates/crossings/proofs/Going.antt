-- Statements one after the other: who plays what is left of a body has played the body.
use Prim.Native.Nat.{ℕ, ◌<◌}
use mathlib.Core.Path.{◌≡◌, refl, sym, ◌∙◌}
use mathlib.Core.Bool.{Bool, true, false, ◌||◌, true≢false}
use Rattle.tokens.specs.Tokens.{Toks, left}
use Rattle.meaning.specs.Timing.{Tables}
use Rattle.meaning.specs.Body.{Body}
use Rattle.meaning.specs.Run.{State, Played as Play, follow, play}
use Rattle.meaning.specs.Statements.{Env}
use Rattle.words.specs.Cursor.{alive, stream}
use Rattle.words.specs.declared.Cursor.{Cursor}
use Rattle.plays.specs.declared.Played.{Played}
use Rattle.plays.specs.Plays.{Ground, Arrays, Standing, Kept}
use Rattle.tokens.proofs.Bools.{neither}
use Rattle.crossings.specs.declared.Seen.{Seen}
use Rattle.crossings.specs.Rows.{rows_of, Long, Passed, Clock, Timed}
use Rattle.crossings.specs.Crossings.{Plays, Goes, Steps}
use Rattle.crossings.proofs.Passing.{passed_both, passed_failing}

-- at the cursor a rest of the body b is held, and who plays that has played b, from v₀ on
pub record Onward (g : Ground) (more level table : ℕ) (x : Arrays) (v₀ v : Seen) (E : Env) (us : Toks) (t : ℕ) (b : Body) (s : State) (c : Cursor) : Type 0 where
  pub rest : Body
  pub state : State
  pub on : alive c ≡ true
  pub standing : Standing g (stream g.text c) more level table x E rest us state
  pub whole : (y : Arrays) (w : Seen) (r : Played) → Plays g E.tables level (rows_of more) y v w us r (play t rest state)
      → Plays g E.tables level (rows_of more) y v₀ w us r (play t b s)

plays_both : (t : ℕ) {g : Ground} {tabs : Tables} {level rows p : ℕ} {y : Arrays} {v₀ v w : Seen} {us : Toks} {r : Played} {whole : Play} (first : Play) (rest : Body) → whole ≡ follow first (play t rest)
    → Passed tabs g.signals rows v₀ v false p first.1 → Plays g tabs level rows y v w us r (play t rest first.0) → Plays g tabs level rows y v₀ w us r whole
unfolding follow
plays_both t first rest is h k = rw is (record { tells = record { passed = passed_both h k.tells.passed; shows = k.tells.shows }; behind = k.behind })

module _ {g : Ground} {more level table : ℕ} {x : Arrays} {v₀ : Seen} {E : Env} {us : Toks} {t : ℕ} {b : Body} {s : State} {c : Cursor} where
  -- nothing was played yet
  pub starts : alive c ≡ true → Standing g (stream g.text c) more level table x E b us s → Onward g more level table x v₀ v₀ E us t b s c
  starts on st = record { rest = b; state = s; on = on; standing = st; whole = λ y w r k. k }

  module _ {v w : Seen} {y : Arrays} {r : Played} (o : Onward g more level table x v₀ v E us t b s c)
      (h : Steps g (stream g.text c) more level t y v w E us o.rest o.state r) where
    module _ (q : (r.failed || r.ends) ≡ false) where
      goes : Goes g (stream g.text c) more level t y v w E us o.rest o.state r
      goes = (let n = neither r.failed r.ends q in h.goes n.0 n.1)

      -- one statement more
      pub onward_next : Onward g more level r.table y v₀ w E us t b s r.cursor
      onward_next = record {
        rest = goes.rest;
        state = goes.first.0;
        on = goes.on;
        standing = goes.standing;
        whole = λ y z r k. o.whole y z r (plays_both t goes.first goes.rest goes.is goes.passed k);
      }

      pub fewer : left (stream g.text r.cursor) < left (stream g.text c)
      fewer = goes.fewer

    -- the last
    pub gone : (r.failed || r.ends) ≡ true → Plays g E.tables level (rows_of more) y v₀ w us r (play t b s)
    gone q = o.whole y w r (by r.failed refl q)
      where
        by : (f : Bool) → r.failed ≡ f → (f || r.ends) ≡ true → Plays g E.tables level (rows_of more) y v w us r (play t o.rest o.state)
        by true e q = record {
          tells = record { passed = passed_failing e (h.fails e); shows = λ d. absurd (true≢false (sym e ∙ d)) };
          behind = λ d. absurd (true≢false (sym e ∙ d));
        }
        by false e q = h.ended e q

-- from c₀ to c, whatever body is held at c₀, some of its statements were played
pub record Underway (g : Ground) (k : Clock) (more level t : ℕ) (c₀ : Cursor) (table₀ : ℕ) (x₀ : Arrays) (v₀ : Seen) (c : Cursor) (table : ℕ) (x : Arrays) (v : Seen) : Type 0 where
  pub kept : Kept level x₀ x
  pub long : Long v₀ v
  pub onward : (E : Env) (b : Body) (us : Toks) (s : State) → Standing g (stream g.text c₀) more level table₀ x₀ E b us s → Timed E.tables k
      → Onward g more level table x v₀ v E us t b s c
