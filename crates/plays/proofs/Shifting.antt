-- A Shift: its one V, again and again, and its `}`.
use Prim.Native.Nat.{ℕ, zero, suc, ◌<◌, ◌≤◌}
use mathlib.Core.Option.{none}
use lib.ListN.{length, get_or}
use Rattle.meaning.specs.Bounds.{signals_most}
use Rattle.meaning.specs.Meaning.{first_failing}
use Rattle.memos.specs.Tracks.{Joins, shown_marks, tracks_length, marks_at, Tracking}
use Rattle.memos.proofs.Tracking.{tracking_none, tracking_joined}
use native.Mathlib.Omega.{arith}
use mathlib.Core.Path.{◌≡◌, refl, sym, ◌∙◌, subst}
use mathlib.Core.Bool.{Bool, true, false}
use mathlib.Core.List.{List}
use lib.Dec.{ltb}
use Rattle.tokens.specs.Written.{bytes}
use Rattle.tokens.specs.Tokens.{Tok, Toks, tok}
use Rattle.meaning.specs.Timing.{Tables}
use Rattle.meaning.specs.Reader.{due_of}
use Rattle.meaning.specs.Body.{Assigns, done, vec}
use Rattle.meaning.specs.Run.{State, follow, again}
use Rattle.meaning.specs.Statements.{Env, Head, vecs}
use Rattle.held.specs.Held.{free_head, Holds}
use Rattle.turns.specs.Few.{play_few}
use Rattle.words.specs.Cursor.{alive, stream, Goes}
use Rattle.words.specs.declared.Cursor.{Cursor}
use Rattle.words.proofs.Flow.{stream_on, stream_stop, went}
use Rattle.timing.specs.Makes.{Makes}
use Rattle.timing.specs.Held.{Held}
use Rattle.measures.specs.Uses.{Given}
use Rattle.heads.specs.declared.What.{What}
use Rattle.heads.specs.declared.What.TheVariants.{Ends, Vector, Assigns as AssignsOnly, Chooses, Loops, Shifts, Uses as UsesBody}
use Rattle.heads.specs.Heads.{Tells}
use Rattle.pins.specs.Shown.{table_of, Playable, Told, vector}
use Rattle.plays.proofs.Tracks.{turns_tracked}
use Rattle.plays.specs.Plays.{Ground, Arrays, Showing, Standing, Plays}
use Rattle.plays.proofs.Heading.{head_token, vector_place, end_due, fine_head}
use Rattle.plays.proofs.Stepping.{vec_playable}

-- a V's head tells what it gives
pub tells_given : (text book rows given args : List ℕ) (tables : ℕ) (w : What) (p : ℕ) (a : Assigns) → Tells text book rows given args tables w (vecs p a) → Given a given
unfolding Tells
tells_given text book rows given args tables Ends p a h = let z : ◌≡◌ {A = ℕ} 0 1 = cc in absurd (omega arith)
tells_given text book rows given args tables (Vector q) p a h = let e = h.1 in let i : h.0 ≡ a = cc in subst (λ (z : Assigns). Given z given) i h.2
tells_given text book rows given args tables AssignsOnly p a h = let e = h.1 in let z : ◌≡◌ {A = ℕ} 0 1 = cc in absurd (omega arith)
tells_given text book rows given args tables (Chooses k) p a h = let e = h.0 in let z : ◌≡◌ {A = ℕ} 0 1 = cc in absurd (omega arith)
tells_given text book rows given args tables (Loops n) p a h = let e = h.0 in let z : ◌≡◌ {A = ℕ} 0 1 = cc in absurd (omega arith)
tells_given text book rows given args tables Shifts p a h = let z : ◌≡◌ {A = ℕ} 0 1 = cc in absurd (omega arith)
tells_given text book rows given args tables (UsesBody i t) p a h = let e = h.3 in let z : ◌≡◌ {A = ℕ} 0 1 = cc in absurd (omega arith)

-- the token ahead stands where the cursor does
pub token_at_lem : (text : List ℕ) (c : Cursor) (t : Tok) (vs : Toks) → stream text c ≡ tok t vs → c.at ≡ t.at
token_at_lem text c t vs e = by (ltb c.at c.end) refl
  where
    by : (b : Bool) → ltb c.at c.end ≡ b → c.at ≡ t.at
    by true q = let z = sym (stream_on text c q) ∙ e in cc
    by false q = let z = sym (stream_stop text c q) ∙ e in let w : ◌≡◌ {A = ℕ} 0 1 = cc in absurd (omega arith)

silent : {tabs : Tables} {n level : ℕ} {memo : List ℕ} (s : State) (p : ℕ) (a : Assigns) → Tracking tabs n level memo memo s (again 0 (vector p a))
unfolding again
silent s p a = tracking_none

module _ {g : Ground} {c r d : Cursor} {more level table : ℕ} {x y : Arrays} {E : Env} {us : Toks} {s : State} {p : ℕ} {a : Assigns} (k t : ℕ) (given args : List ℕ) (what : What) {f : Bool}
  where
    pub shift_plays : Standing g (stream g.text c) more level table x E (vec p a done) us s → alive c ≡ true
        → Makes g.text c (free_head E) r (Tells g.text g.book g.rows given args g.known.tables what)
        → ((a : Assigns) (s : State) (tplaces : List ℕ) (tables p : ℕ) (tabs : Tables) → Held g.text tplaces g.waves tables tabs → Given a given
        → Playable g.signals a s.args → Showing g level table x s → Told tabs g.text g.signals y.values table y.feeds level f p (again t (vector p a) s))
        → Goes g.text r (due_of (bytes "}")) d r.at
        → Plays g E.tables level y us (record { cursor = d; failed = f; place = c.at; table = table; ends = false }) (again t (play_few k t (vec p a done)) s)
    unfolding Holds play_few follow
    shift_plays st on m told close =
        let h = st.holds in
        let w = went m.goes on h.1 in
        let n = head_token E _ _ _ h.1 in
        let at : c.at ≡ p = token_at_lem g.text c n.0 n.1 n.2 ∙ vector_place E _ n.0 n.1 n.2 p a _ h.1 in
        let gave = tells_given g.text g.book g.rows given args g.known.tables what p a
        (subst (λ (z : Head). Tells g.text g.book g.rows given args g.known.tables what z) w.is (m.held w.on)) in
        let fine = (fine_head E g.signals st.holding.tidy).all _ _ _ h.1 in
        let q = end_due E (stream g.text r) us (rw w.behind h.2) in
        let v = went close w.on q.1 in
        record {
          told = rw at (told a s g.tplaces g.known.tables p E.tables st.holding.held gave (vec_playable fine st.fits) st.shows);
          behind = λ e. (v.on, v.behind);
        }

-- what its V gives
pub shift_given : {g : Ground} {c r : Cursor} {more level table : ℕ} {x : Arrays} {E : Env} {us : Toks} {s : State} {p : ℕ} {a : Assigns} (given args : List ℕ) (what : What)
    → Standing g (stream g.text c) more level table x E (vec p a done) us s → alive c ≡ true
    → Makes g.text c (free_head E) r (Tells g.text g.book g.rows given args g.known.tables what) → Given a given
unfolding Holds
shift_given {g} {p = p} {a = a} given args what st on m =
    let h = st.holds in
    let w = went m.goes on h.1 in
    tells_given g.text g.book g.rows given args g.known.tables what p a
    (subst (λ (z : Head). Tells g.text g.book g.rows given args g.known.tables what z) w.is (m.held w.on))

-- what it shows and assigns is tracked
pub shift_tracked : {tabs : Tables} {n level : ℕ} {memo memo' : List ℕ} {a : Assigns} {given : List ℕ} {s : State} (k t p table : ℕ) → Given a given → n ≤ signals_most → length s.pins ≡ n
    → s.table ≡ table_of table → first_failing tabs (again t (play_few k t (vec p a done)) s).1 ≡ none → (t ≡ 0 → memo' ≡ memo)
    → (0 < level → tracks_length ≤ length memo → 0 < t → (j : ℕ) → j < n → Joins (marks_at memo level j) (shown_marks (get_or given j 0) table) (marks_at memo' level j))
    → Tracking tabs n level memo memo' s (again t (play_few k t (vec p a done)))
unfolding play_few follow
shift_tracked {tabs} {n} {level} {memo} {memo'} {a} {given} {s} k t p table gave few wide chosen sound same joins = by t sound same joins
  where
    by : (t : ℕ) → first_failing tabs (again t (vector p a) s).1 ≡ none → (t ≡ 0 → memo' ≡ memo)
        → (0 < level → tracks_length ≤ length memo → 0 < t → (j : ℕ) → j < n → Joins (marks_at memo level j) (shown_marks (get_or given j 0) table) (marks_at memo' level j))
        → Tracking tabs n level memo memo' s (again t (vector p a))
    by zero sound same joins = rw (same refl) (silent s p a)
    by (suc t) sound same joins = tracking_joined (λ some room. (turns_tracked gave few t p table s wide chosen sound, joins some room (omega arith)))
