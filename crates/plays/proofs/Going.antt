-- Statements one after the other: playing the body is playing what is left of it, until its `}` or a cycle that fails.
use Prim.Native.Nat.{ℕ, ◌<◌}
use native.Mathlib.Omega.{arith}
use mathlib.Core.Path.{◌≡◌, refl, sym, ap, ◌∙◌, subst}
use mathlib.Core.Bool.{Bool, true, false, ◌||◌}
use mathlib.Core.List.{List, []}
use lib.ListN.{length, take}
use Rattle.tokens.specs.Tokens.{Toks, left}
use Rattle.tokens.proofs.Bools.{neither}
use Rattle.meaning.specs.Body.{Args, Body, supplied}
use Rattle.meaning.specs.Run.{State, follow}
use Rattle.meaning.specs.Statements.{Env}
use Rattle.turns.specs.Few.{play_few}
use Rattle.words.specs.Cursor.{alive, stream}
use Rattle.words.specs.declared.Cursor.{Cursor}
use Rattle.pins.specs.Shown.{table_of}
use Rattle.plays.specs.declared.Played.{Played}
use Rattle.plays.specs.Plays.{Ground, Holding, Heads, Knows, Arrays, Standing, Kept, Plays, Fed, Ended, Onward, Steps, Resumed, Moves, nest_of, Below}
use Rattle.memos.specs.Tracks.{Tracking}
use Rattle.memos.proofs.Tracking.{follow_start, follow_assoc, follow_alike, tracking_none, tracking_then, tracking_same}
use Rattle.plays.proofs.Fitting.{fits_again}
use Rattle.plays.proofs.Following.{failing_plays, alike_same, alike_then, told_alike}

module _ {g : Ground} {memo₀ : List ℕ} {more level table : ℕ} {x : Arrays} {E : Env} {us : Toks} {k t : ℕ} {b : Body} {s : State} {c : Cursor} where
  -- nothing was played yet
  pub going : alive c ≡ true → Standing g (stream g.text c) more level table x E b us s → Onward g memo₀ memo₀ more level table x E us k t b s c
  going on st = record {
    rest = b;
    state = s;
    on = on;
    standing = st;
    same = alike_same refl;
    step = λ z. (z, []);
    is = λ z. follow_start z (play_few k t b);
    here = refl;
    tracks = tracking_none;
  }

  module _ {memo memo' : List ℕ} {y : Arrays} {r : Played} (long : length memo ≡ length memo₀) (o : Onward g memo₀ memo more level table x E us k t b s c)
      (h : Steps g memo memo' (stream g.text c) more level y E us k t o.rest o.state r) where
    -- one statement more
    pub going_on : (r.failed || r.ends) ≡ false → Onward g memo₀ memo' more level r.table y E us k t b s r.cursor
    unfolding follow
    going_on q =
        let i = neither r.failed r.ends q in
        let n = (h.goes i.0 i.1).0 in
        record {
          rest = n.rest;
          state = n.state;
          on = n.on;
          standing = n.standing;
          same = alike_then o.same n.same;
          step = λ z. follow (o.step z) n.step;
          is = λ z. o.is z ∙ follow_alike (o.step z) (play_few k t o.rest) (λ y. follow (n.step y) (play_few k t n.rest)) n.is ∙ sym (follow_assoc (o.step z) n.step (play_few k t n.rest));
          here = n.here ∙ ap (λ (z : State). (n.step z).0) o.here;
          tracks = tracking_then o.tracks long (subst (λ (z : State). Tracking E.tables g.signals (nest_of more) memo memo' z n.step) o.here n.tracks);
        }

    -- the last
    pub gone : (r.failed || r.ends) ≡ true → Plays g E.tables level y us r (play_few k t b s)
    gone q = by r.failed refl r.ends refl q
      where
        by : (v : Bool) → r.failed ≡ v → (w : Bool) → r.ends ≡ w → (v || w) ≡ true → Plays g E.tables level y us r (play_few k t b s)
        by true e w f q = failing_plays e (o.same.fails_same ∙ h.fails e)
        by false e true f q = let p = h.ended e f in record { told = told_alike o.same p.told; behind = p.behind }
        by false e false f q = let z : ◌≡◌ {A = ℕ} 0 1 = cc in absurd (omega arith)

    pub gone_tracked : (r.failed || r.ends) ≡ true → r.failed ≡ false → Tracking E.tables g.signals (nest_of more) memo₀ memo' s (play_few k t b)
    gone_tracked q e =
        let f : r.ends ≡ true = rw e at q in
        tracking_same (λ z. sym (o.is z))
        (tracking_then o.tracks long (subst (λ (z : State). Tracking E.tables g.signals (nest_of more) memo memo' z (play_few k t o.rest)) o.here (h.last e f)))

-- ---- whatever the sums say

pub fed_then : {g : Ground} {level : ℕ} {y : Arrays} {a a' : Args} → supplied a' ≡ supplied a → Fed g level y a' → Fed g level y a
fed_then e f = record { rest = f.rest; same = f.same ∙ e; feeding = f.feeding }

pub ended_then : {g : Ground} {level : ℕ} {y : Arrays} {us : Toks} {a a' : Args} {c : Cursor} → supplied a' ≡ supplied a → Ended g level y us a' c → Ended g level y us a c
ended_then e n = record { on = n.on; there = n.there; fed = fed_then e n.fed }

-- some state is there, in which what is left of the arguments is played
abbrev pub some_state : Ground → (table : ℕ) → Arrays → Args → State
some_state g table x a = record { pins = take g.signals x.values; table = table_of table; args = a }

module _ {g : Ground} {more level : ℕ} {x : Arrays} {E : Env} {us : Toks} {c : Cursor} where
  pub resumed : {table : ℕ} {b : Body} {s : State} → alive c ≡ true → Standing g (stream g.text c) more level table x E b us s → Resumed g more level x E us s.args c
  resumed {b = b} {s = s} on st =
      record { rest = b; on = on; holds = st.holds; fits = st.fits; fed = record { rest = s.args; same = refl; feeding = st.shows.args_are } }

  module _ {a : Args} (o : Resumed g more level x E us a c) where
    pub resumed_standing : (table : ℕ) → Holding g E → Standing g (stream g.text c) more level table x E o.rest us (some_state g table x o.fed.rest)
    resumed_standing table holding = record { holding = holding; holds = o.holds; fits = fits_again o.fed.same o.fits; shows = record { pins_are = refl; table_is = refl; args_are = o.fed.feeding } }

    module _ {y : Arrays} {r : Played} (m : Moves g (stream g.text c) more level y E us o.fed.rest r) where
      -- one statement more
      pub resumed_on : (r.failed || r.ends) ≡ false → Resumed g more level y E us a r.cursor
      resumed_on q =
          let i = neither r.failed r.ends q in
          let n = (m.goes i.0 i.1).0 in
          record { rest = n.rest; on = n.on; holds = n.holds; fits = fits_again (sym o.fed.same) n.fits; fed = fed_then o.fed.same n.fed }

      pub resumed_less : (r.failed || r.ends) ≡ false → left (stream g.text r.cursor) < left (stream g.text c)
      resumed_less q = let i = neither r.failed r.ends q in (m.goes i.0 i.1).1

      -- the last
      pub resumed_end : (r.failed || r.ends) ≡ true → r.failed ≡ false → Ended g level y us a r.cursor
      resumed_end q e = ended_then o.fed.same (m.ended e (rw e at q))

-- the same body once more, with what is left
pub again_standing : {g : Ground} {ts us : Toks} {more level table : ℕ} {x y : Arrays} {E : Env} {b : Body} {s : State} {c : Cursor} (table' : ℕ)
    → Standing g ts more level table x E b us s → (n : Ended g level y us s.args c) → Standing g ts more level table' y E b us (some_state g table' y n.fed.rest)
again_standing table' st n = record {
  holding = st.holding;
  holds = st.holds;
  fits = fits_again n.fed.same st.fits;
  shows = record { pins_are = refl; table_is = refl; args_are = n.fed.feeding };
}

-- from c₀ to c, whatever body is held at c₀, some of its statements were played
pub record Going (g : Ground) (marks sums memo₀ memo : List ℕ) (more level k t : ℕ) (c₀ : Cursor) (table₀ : ℕ) (x₀ : Arrays) (c : Cursor) (table : ℕ) (x : Arrays) : Type 0 where
  pub kept : Kept level x₀ x
  pub resumes : (E : Env) (b : Body) (us : Toks) (s : State) → Standing g (stream g.text c₀) more level table₀ x₀ E b us s → Heads g memo₀ E → Resumed g more level x E us s.args c
  pub onward : (E : Env) (b : Body) (us : Toks) (s : State) → Standing g (stream g.text c₀) more level table₀ x₀ E b us s → Knows g marks sums memo₀ E
      → Onward g memo₀ memo more level table x E us k t b s c
  pub memo_long : length memo ≡ length memo₀
  pub below : Below (nest_of more) memo₀ memo
  pub heads : (E : Env) (b : Body) (us : Toks) (s : State) → Standing g (stream g.text c₀) more level table₀ x₀ E b us s → Heads g memo₀ E → Heads g memo E
  pub learnt : (E : Env) (b : Body) (us : Toks) (s : State) → Standing g (stream g.text c₀) more level table₀ x₀ E b us s → Knows g marks sums memo₀ E → Knows g marks sums memo E
