-- The run is its listed patterns one after the other: before the rest of them, whoever goes through the rest has gone through all.
use Prim.Native.Nat.{ℕ}
use mathlib.Core.Path.{◌≡◌}
use mathlib.Core.Bool.{true, false}
use mathlib.Core.Option.{some}
use mathlib.Core.List.{List, [], ◌∷◌}
use Rattle.tokens.specs.Tokens.{Tok}
use Rattle.meaning.specs.Names.{find}
use Rattle.meaning.specs.Timing.{Tables}
use Rattle.meaning.specs.Body.{Body, done, inner}
use Rattle.meaning.specs.Run.{follow, entering, playing, play, visits, start}
use Rattle.meaning.specs.Statements.{Decl, Decls, Env}
use Rattle.held.specs.Held.{Stands, Listed}
use Rattle.rows.specs.declared.Walk.{Walk}
use Rattle.rows.specs.Went.{over, Going, Went}
use Rattle.rows.proofs.Going.{went_both, went_over, going_on}
use Rattle.steps.specs.Walks.{Ready, Parted}
use Rattle.steps.proofs.Parting.{part_inner, ready_rest, ready_only, went_none}
use Rattle.windows.specs.Run.{way, entry}

-- no cycle
-- a pattern, and then the rest of the run from the same state
pub pattern_parted : (b r : Body) (n p : ℕ)
    → Parted 0 (inner way b r) (start n) p (play 0 (entry b) (start n)).1 (visits 0 (entry b) p) r (start n)
unfolding play follow playing entering
pattern_parted b r n p = part_inner 0 (start n) p way b r

-- with w it stands before the patterns of the names l, of a run that it went into with w₀
pub record Before (tabs : Tables) (n : ℕ) (E : Env) (ps : Decls) (run : Body) (l : List Tok) (w₀ w : Walk) (before buffer : List ℕ) : Type 0 where
  pub rest : Body
  pub listed : Listed E ps l rest
  pub ready : Ready tabs 0 rest (start n) w
  pub going : Going n w buffer
  pub on : (w' : Walk) (after : List ℕ) → Went n (play 0 rest (start n)).1 (visits 0 rest w.pass) w w' buffer after
      → Went n (play 0 run (start n)).1 (visits 0 run w₀.pass) w₀ w' before after

-- the next pattern is that of the name t
pub record Next (tabs : Tables) (n : ℕ) (E : Env) (ps : Decls) (run : Body) (t : Tok) (l : List Tok) (w₀ w : Walk) (before buffer : List ℕ) : Type 0 where
  pub decl : Decl
  pub rest : Body
  pub found : find ps t.word ≡ some decl
  pub stands : Stands E decl
  pub behind : Listed E ps l rest
  pub ready : Ready tabs 0 (inner way decl.body rest) (start n) w
  pub going : Going n w buffer
  pub on : (w' : Walk) (after : List ℕ) → Went n (play 0 (inner way decl.body rest) (start n)).1 (visits 0 (inner way decl.body rest) w.pass) w w' buffer after
      → Went n (play 0 run (start n)).1 (visits 0 run w₀.pass) w₀ w' before after

module _ {tabs : Tables} {n : ℕ} {E : Env} {ps : Decls} {run : Body} {w : Walk} {buffer : List ℕ} where
  pub before_all : {l : List Tok} → Listed E ps l run → Ready tabs 0 run (start n) w → Going n w buffer → Before tabs n E ps run l w w buffer buffer
  before_all h ready going = record { rest = run; listed = h; ready = ready; going = going; on = λ w' after p. p }

  module _ {w₀ : Walk} {before : List ℕ} where
    -- no pattern is left
    pub before_none : Before tabs n E ps run [] w₀ w before buffer → Went n (play 0 run (start n)).1 (visits 0 run w₀.pass) w₀ w before buffer
    unfolding Listed play visits
    before_none h =
        let e : h.rest ≡ done = h.listed in
        h.on w buffer (rw e (went_none w buffer h.going.more))

    module _ {t : Tok} {l : List Tok} where
      pub before_next : Before tabs n E ps run (t ∷ l) w₀ w before buffer → Next tabs n E ps run t l w₀ w before buffer
      unfolding Listed
      before_next h =
          let x = h.listed in
          record {
            decl = x.0;
            rest = x.1;
            found = x.3;
            stands = x.4;
            behind = x.5;
            ready = rw x.2 at h.ready;
            going = h.going;
            on = rw x.2 at h.on;
          }

      module _ (h : Next tabs n E ps run t l w₀ w before buffer) where
        -- it can be gone through alone
        pub next_ready : Ready tabs 0 (entry h.decl.body) (start n) w
        next_ready = ready_only h.ready

        module _ {w' : Walk} {after : List ℕ} (p : Went n (play 0 (entry h.decl.body) (start n)).1 (visits 0 (entry h.decl.body) w.pass) w w' buffer after) where
          abbrev parted : Parted 0 (inner way h.decl.body h.rest) (start n) w.pass (play 0 (entry h.decl.body) (start n)).1 (visits 0 (entry h.decl.body) w.pass) h.rest (start n)
          parted = pattern_parted h.decl.body h.rest n w.pass

          -- behind it the rest is left
          pub next_left : over w' ≡ false → Before tabs n E ps run l w₀ w' before after
          next_left more = record {
            rest = h.rest;
            listed = h.behind;
            ready = ready_rest h.ready parted p more;
            going = going_on h.going p more;
            on = λ w'' z q. h.on w'' z (rw (parted.cycles_are, parted.visits_are, ← p.pass more) (went_both p more q));
          }

          -- nothing is left to do
          pub next_over : over w' ≡ true → Went n (play 0 run (start n)).1 (visits 0 run w₀.pass) w₀ w' before after
          next_over ended = h.on w' after (rw (parted.cycles_are, parted.visits_are) (went_over p ended _ _))
