-- A Shift: its one V, passed with all its turns, or gone through from the turn that has the cycle looked for on; and its `}`.
use Prim.Native.Nat.{ℕ, zero, suc, ◌+◌, ◌%◌, ◌≤◌, ◌<◌}
use native.Mathlib.Nat.{mul-one, mod-one}
use native.Mathlib.Omega.{arith}
use mathlib.Core.Path.{◌≡◌, refl, ap, ◌∙◌, subst}
use mathlib.Core.Bool.{true, false}
use mathlib.Core.List.{List}
use Rattle.tokens.specs.Written.{bytes}
use Rattle.tokens.specs.Tokens.{Toks}
use Rattle.meaning.specs.Timing.{Tables}
use Rattle.meaning.specs.Reader.{due_of}
use Rattle.meaning.specs.Body.{Assigns, shifted, done, vec}
use Rattle.meaning.specs.Run.{State, Played as Play, size, cycles, turns_of, shift_of, visits, puts, follow, again, play}
use Rattle.meaning.specs.Statements.{Env, Head}
use Rattle.meaning.proofs.Rows.{puts_table}
use Rattle.held.specs.Held.{free_head, Holds}
use Rattle.turns.specs.Few.{play_few}
use Rattle.walks.specs.Statement.{played_in, cycles_in}
use Rattle.walks.proofs.Shifts.{shift_turns_lem}
use Rattle.words.specs.Cursor.{alive, stream, Goes}
use Rattle.words.specs.declared.Cursor.{Cursor}
use Rattle.words.proofs.Flow.{went}
use Rattle.timing.specs.Makes.{Makes}
use Rattle.measures.specs.Uses.{Given}
use Rattle.heads.specs.declared.What.{What}
use Rattle.heads.specs.Heads.{Tells as HeadTells}
use Rattle.pins.specs.Shown.{Playable, vector}
use Rattle.plays.specs.declared.Played.{Played}
use Rattle.plays.specs.Plays.{Ground, Arrays, Showing, Standing, Plays}
use Rattle.plays.proofs.Heading.{end_due, fine_head}
use Rattle.plays.proofs.Stepping.{vec_playable}
use Rattle.plays.proofs.Shifting.{tells_given}
use Rattle.rows.specs.declared.Walk.{Walk}
use Rattle.rows.specs.Went.{Going, spent, past}
use Rattle.shifts.specs.Shifts.{Shifting}
use Rattle.steps.specs.Walks.{Ready, Walks, only}
use Rattle.steps.proofs.Passing.{only_left, only_sound, shift_told}
use Rattle.steps.proofs.Alone.{only_pays, only_passed, only_affords, only_entered}

-- ---- its V is read again

module _ {g : Ground} {c r : Cursor} {more level table : ℕ} {x : Arrays} {E : Env} {us : Toks} {s : State} {p : ℕ} {a : Assigns} (given args : List ℕ) (what : What)
    (st : Standing g (stream g.text c) more level table x E (vec p a done) us s) (on : alive c ≡ true)
    (m : Makes g.text c (free_head E) r (HeadTells g.text g.book g.rows given args g.known.tables what)) where
  pub shift_given : Given a given × Playable g.signals a s.args
  unfolding Holds
  shift_given =
      let h = st.holds in
      let w = went m.goes on h.1 in (
        tells_given g.text g.book g.rows given args g.known.tables what p a
            (subst (λ (z : Head). HeadTells g.text g.book g.rows given args g.known.tables what z) w.is (m.held w.on)),
        vec_playable ((fine_head E g.signals st.holding.tidy).all _ _ _ h.1) st.fits,
      )

  pub shift_closed : {d : Cursor} → Goes g.text r (due_of (bytes "}")) d r.at → (alive d ≡ true) × (stream g.text d ≡ us)
  unfolding Holds
  shift_closed close =
      let h = st.holds in
      let w = went m.goes on h.1 in
      let q = end_due E (stream g.text r) us (rw w.behind h.2) in
      let v = went close w.on q.1 in
      (v.on, v.behind)

-- ---- its turns

-- each is a cycle
shift_cycles : (t p : ℕ) (a : Assigns) → cycles_in t shifted (vec p a done) ≡ t
unfolding turns_of shift_of cycles
shift_cycles t p a = mul-one t

-- and the V looked for is one visit
shift_visits : (t p : ℕ) (a : Assigns) (n : ℕ) → visits (shift_of t shifted) (vec p a done) (n % cycles (shift_of t shifted) (vec p a done)) ≡ 1
unfolding shift_of cycles visits
shift_visits t p a n = ap (visits t (vec p a done)) (mod-one n)

-- none chooses a table
shift_table : (p : ℕ) (a : Assigns) (t : ℕ) (s : State) → (again t (vector p a) s).0.table ≡ s.table
unfolding again follow
shift_table p a zero s = refl
shift_table p a (suc t) s = shift_table p a t (puts a s) ∙ puts_table a s

-- ---- passed, or entered

-- the Shift and its V
shift_size : (p : ℕ) (a : Assigns) → 1 + size (vec p a done) ≡ 2
unfolding size
shift_size p a = refl

module _ {tabs : Tables} {t p : ℕ} {a : Assigns} {s : State} {w : Walk} (ready : Ready tabs t (only shifted (vec p a done)) s w) where
  pub shift_pays : w.walking ≡ true → 2 ≤ w.budget
  shift_pays = only_pays ready (shift_size p a)

  pub shift_affords : w.pass < t → w.walking ≡ true → 1 ≤ (spent w 2).budget
  shift_affords h e = omega (arith, only_affords ready (shift_size p a) (omega (arith, shift_cycles t p a)) e, shift_visits t p a w.pass)

module _ {g : Ground} {ts us : Toks} {more level table : ℕ} {x y : Arrays} {E : Env} {s : State} {t p : ℕ} {a : Assigns} {w : Walk} {before : List ℕ}
    (st : Standing g ts more level table x E (vec p a done) us s) (ready : Ready E.tables t (only shifted (vec p a done)) s w) where
  pub shift_passed : Going g.signals w before → t ≤ w.pass → {r : Played} → Plays g E.tables level y us r (again t (play_few 0 t (vec p a done)) s)
      → Walks g level y us (play t (only shifted (vec p a done)) s) (visits t (only shifted (vec p a done)) w.pass) w before before
      (record { cursor = r.cursor; table = table; walk = past (spent w 2) t; ends = false })
  shift_passed going h q =
      let told = shift_told t st (only_sound t shifted (vec p a done) s E.tables ready.sound) q in
      let there : Showing g level table y (played_in t shifted (vec p a done) s).0 = record {
        pins_are = told.shows.pins_are;
        table_is = ap (λ (o : Play). o.0.table) (shift_turns_lem t p a s) ∙ shift_table p a t s ∙ st.shows.table_is;
        args_are = told.shows.args_are;
      } in
      record {
        tells = record { went = only_passed ready (shift_size p a) (shift_cycles t p a) going h; shows = λ _. rw (only_left t shifted (vec p a done) s) there };
        behind = λ _. q.behind told.sound;
      }

  pub shift_entered : {w' : Walk} {after given : List ℕ} {d : Cursor} → w.pass < t → Given a given × Playable g.signals a s.args
      → Shifting g.text given g.signals level table t x.values y.values x.feeds y.feeds (spent w 2) w' before after
      → (alive d ≡ true) × (stream g.text d ≡ us)
      → Walks g level y us (play t (only shifted (vec p a done)) s) (visits t (only shifted (vec p a done)) w.pass) w before after
      (record { cursor = d; table = table; walk = w'; ends = false })
  shift_entered h gave q behind =
      let e = shift_turns_lem t p a s in
      let i : w.pass < cycles_in t shifted (vec p a done) = omega (arith, shift_cycles t p a) in
      record {
        tells = record {
          went = only_entered ready (shift_size p a) i (rw (shift_visits t p a w.pass, e) (q.went a s p gave.0 gave.1 st.shows));
          shows = λ on. rw (only_left t shifted (vec p a done) s, e) (q.shows a s p gave.0 gave.1 st.shows on);
        };
        behind = λ _. behind;
      }
