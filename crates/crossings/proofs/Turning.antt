-- A V again and again: each turn's cycle behind the one before.
use Prim.Native.Nat.{ℕ, suc, ◌+◌, ◌-◌, ◌<◌, ◌≤◌}
use native.Mathlib.Omega.{arith}
use mathlib.Core.Path.{◌≡◌, refl, sym, subst}
use mathlib.Core.Bool.{Bool, true, false, true≢false}
use mathlib.Core.List.{List, [], ◌∷◌}
use Rattle.meaning.specs.Timing.{Tables}
use Rattle.meaning.specs.Body.{Assigns}
use Rattle.meaning.specs.Run.{State, Cycle, Played, puts, cycle_at, follow, again}
use Rattle.measures.specs.Uses.{Given}
use Rattle.pins.specs.Shown.{Shows, Playable, Others, vector}
use Rattle.pins.proofs.Callers.{playable_puts, others_none, others_then}
use Rattle.crossings.specs.declared.Seen.{Seen}
use Rattle.crossings.specs.Rows.{cycle_in, Long, Passed, Clock, Timed}
use Rattle.crossings.specs.Crossings.{Told, Vectored}
use Rattle.crossings.proofs.Passing.{long_none, long_then, passed_none, passed_both, stays_failing, passed_failing}

-- n turns are left from a state that the pins show, and whoever goes through their cycles has gone through those of `whole`, from v₀ on
pub record Midway (tabs : Tables) (text : List ℕ) (signals : ℕ) (values : List ℕ) (table : ℕ) (feeds : List ℕ) (level rows : ℕ) (v₀ v : Seen) (p : ℕ) (a : Assigns) (n : ℕ) (whole : Played) : Type 0 where
  pub state : State
  pub shows : Shows text signals values table feeds level state
  pub playable_as : Playable signals a state.args
  pub passes_as : (w : Seen) (f : Bool) → Passed tabs signals rows v w f p (again n (vector p a) state).1 → Passed tabs signals rows v₀ w f p whole.1
  pub ends_as : whole.0 ≡ (again n (vector p a) state).0

-- what the pins show is the cycle of a V
shown_cycle : {text : List ℕ} {n : ℕ} {values : List ℕ} {table : ℕ} {feeds : List ℕ} {level : ℕ} {s : State} (p : ℕ) → Shows text n values table feeds level s
    → cycle_at p s ≡ cycle_in n p table values 0
unfolding cycle_at
shown_cycle p h = λ i. record { at = p; table = h.table_is i; pins = h.pins_are i }

module _ {tabs : Tables} {text : List ℕ} {signals : ℕ} {values : List ℕ} {table : ℕ} {feeds : List ℕ} {level rows : ℕ} {v₀ v : Seen} {p : ℕ} {a : Assigns} {whole : Played} where
  module _ {n : ℕ} (m : Midway tabs text signals values table feeds level rows v₀ v p a (suc n) whole) {values' feeds' : List ℕ}
      (h : Shows text signals values' table feeds' level (puts a m.state)) {w : Seen} {f : Bool} (k : Passed tabs signals rows v w f p (cycle_in signals p table values' 0 ∷ []))
    where
      one : Passed tabs signals rows v w f p (cycle_at p (puts a m.state) ∷ [])
      one = subst (λ (c : Cycle). Passed tabs signals rows v w f p (c ∷ [])) (sym (shown_cycle p h)) k

      midway_more : f ≡ false → Midway tabs text signals values' table feeds' level rows v₀ w p a n whole
      unfolding again follow
      midway_more e = record {
        state = puts a m.state;
        shows = h;
        playable_as = playable_puts a m.state m.playable_as;
        passes_as = λ z g q. m.passes_as z g (passed_both (subst (λ (x : Bool). Passed tabs signals rows v w x p (cycle_at p (puts a m.state) ∷ [])) e one) q);
        ends_as = m.ends_as;
      }

      midway_fails : {values'' feeds'' : List ℕ} → f ≡ true → Told tabs text signals values'' table feeds'' level rows v₀ w true p whole
      unfolding again follow
      midway_fails e = record {
        passed = m.passes_as w true (passed_failing refl (stays_failing tabs _ (cycle_at p (puts a m.state) ∷ []) (again n (vector p a) (puts a m.state)).1 (one.fails e)));
        shows = λ q. absurd (true≢false q);
      }

  midway_ends : Midway tabs text signals values table feeds level rows v₀ v p a 0 whole → Told tabs text signals values table feeds level rows v₀ v false p whole
  unfolding again
  midway_ends m = record { passed = m.passes_as v false passed_none; shows = λ e. subst (Shows text signals values table feeds level) (sym m.ends_as) m.shows }

-- ---- whatever the V, the state and the tables are

-- i of t turns were played
pub record After (text given : List ℕ) (k : Clock) (signals level table place t rows : ℕ) (values₀ feeds₀ : List ℕ) (v₀ : Seen) (i : ℕ) (values feeds : List ℕ) (v : Seen) : Type 0 where
  pub others : Others level values₀ values feeds₀ feeds
  pub long : Long v₀ v
  pub midway : (tabs : Tables) → Timed tabs k → (a : Assigns) (s : State) → Given a given → Playable signals a s.args → Shows text signals values₀ table feeds₀ level s
      → Midway tabs text signals values table feeds level rows v₀ v place a (t - i) (again t (vector place a) s)

module _ {text given : List ℕ} {k : Clock} {signals level table place t rows : ℕ} {values₀ feeds₀ : List ℕ} {v₀ : Seen} where
  pub after_none : After text given k signals level table place t rows values₀ feeds₀ v₀ 0 values₀ feeds₀ v₀
  after_none = record {
    others = others_none;
    long = long_none;
    midway = λ tabs c a s g p h. subst (λ (n : ℕ). Midway tabs text signals values₀ table feeds₀ level rows v₀ v₀ place a n (again t (vector place a) s)) all_left
        (record { state = s; shows = h; playable_as = p; passes_as = λ w f q. q; ends_as = refl });
  }
    where
      all_left : t ≡ t - 0
      all_left = omega arith

  module _ {i : ℕ} {values feeds : List ℕ} {v : Seen} (x : After text given k signals level table place t rows values₀ feeds₀ v₀ i values feeds v) where
    module _ (more : i < t) {values' feeds' : List ℕ} {w : Seen} {f : Bool} (o : Others level values values' feeds feeds')
        (put : (a : Assigns) (s : State) (table : ℕ) → Given a given → Playable signals a s.args → Shows text signals values table feeds level s → Shows text signals values' table feeds' level (puts a s))
        (long : Long v w) (cycles : (tabs : Tables) → Timed tabs k → Passed tabs signals rows v w f place (cycle_in signals place table values' 0 ∷ []))
      where
        left_more : t - i ≡ suc (t - (i + 1))
        left_more = omega arith

        next : (tabs : Tables) → Timed tabs k → (a : Assigns) (s : State) → Given a given → Playable signals a s.args → Shows text signals values₀ table feeds₀ level s
            → Midway tabs text signals values table feeds level rows v₀ v place a (suc (t - (i + 1))) (again t (vector place a) s)
        next tabs c a s g p h =
            subst (λ (n : ℕ). Midway tabs text signals values table feeds level rows v₀ v place a n (again t (vector place a) s)) left_more (x.midway tabs c a s g p h)

        pub after_more : f ≡ false → After text given k signals level table place t rows values₀ feeds₀ v₀ (i + 1) values' feeds' w
        after_more e = record {
          others = others_then x.others o;
          long = long_then x.long long;
          midway = λ tabs c a s g p h. (let m = next tabs c a s g p h in midway_more m (put a m.state table g m.playable_as m.shows) (cycles tabs c) e);
        }

        pub after_fails : f ≡ true → Vectored text given k signals level table place t rows values₀ values' feeds₀ feeds' v₀ w true
        after_fails e = record {
          told = λ tabs c a s g p h. (let m = next tabs c a s g p h in midway_fails m (put a m.state table g m.playable_as m.shows) (cycles tabs c) e);
        }

    pub after_all : t ≤ i → Vectored text given k signals level table place t rows values₀ values feeds₀ feeds v₀ v false
    after_all l = record {
      told = λ tabs c a s g p h.
          midway_ends (subst (λ (n : ℕ). Midway tabs text signals values table feeds level rows v₀ v place a n (again t (vector place a) s)) none_left (x.midway tabs c a s g p h));
    }
      where
        none_left : t - i ≡ 0
        none_left = omega arith
