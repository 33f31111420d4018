-- The run is its listed patterns one after the other: what fails in one fails in the run, and behind one in which nothing fails the rest is left.
use Prim.Native.Nat.{ℕ, ◌+◌, ◌*◌, ◌<◌}
use native.Mathlib.Omega.{arith}
use mathlib.Core.Path.{◌≡◌, refl, sym, ap, ◌∙◌, subst}
use mathlib.Core.Bool.{Bool, true, false}
use mathlib.Core.Option.{none, some}
use mathlib.Core.List.{List, [], ◌∷◌}
use lib.Dec.{ltb}
use lib.ListN.{length, drop, length-replicate}
use borrow.Author.Tests.{ltb-true, ltb-false}
use Rattle.tokens.specs.Tokens.{Tok, toks}
use Rattle.meaning.specs.Bounds.{depth_most}
use Rattle.meaning.specs.Names.{find}
use Rattle.meaning.specs.Timing.{Tables}
use Rattle.meaning.specs.Body.{listed, Body, supplied}
use Rattle.meaning.specs.Run.{State, unassigned, bare, follow, entering, start, shift_of}
use Rattle.meaning.specs.Meaning.{first_failing}
use Rattle.meaning.specs.Statements.{Decl, Decls, Env}
use Rattle.meaning.specs.Lists.{has}
use Rattle.meaning.proofs.Turns.{Good}
use Rattle.held.specs.Held.{All, Stands, Listed}
use Rattle.held.proofs.All.{all_found}
use Rattle.turns.specs.Few.{playing_few, play_few, open_most}
use Rattle.words.specs.Table.{name_of, names}
use Rattle.words.specs.Values.{told}
use Rattle.measures.specs.Book.{first_pattern, start_at, Entry}
use Rattle.pins.specs.Shown.{table_of, Leaves}
use Rattle.texts.proofs.Runs.{found_none, found_pattern}
use Rattle.plays.specs.declared.Played.{Played}
use Rattle.plays.specs.Plays.{Ground, Arrays, arrays, Sized, Standing, Plays, Alike}
use Rattle.plays.specs.Run.{ListedAt}
use Rattle.plays.proofs.Following.{first_fails, second_alike, alike_same, alike_then}
use Rattle.plays.proofs.Heading.{begins_within}
use Rattle.plays.proofs.Entering.{pins_cleared}
use Rattle.plays.proofs.Patterns.{Playing}

-- ---- one listed pattern

module _ {g : Ground} {list : List ℕ} {patterns k : ℕ} {E : Env} {ps : Decls} {d : Decl} (n : ListedAt g list patterns k E ps d) where
  -- the number that the code finds is the pattern's
  pub found_at : {part v : List ℕ} (i : ℕ) → part ≡ drop (first_pattern * 2) g.book → v ≡ (name_of g.text list k).word
      → told (ltb i patterns) i ≡ find (names g.text part patterns) v → (i < patterns) × (t : Tok) × Entry g.text g.book (first_pattern + i) (t, d)
  found_at {part} {v} i p w f = by (ltb i patterns) refl
    where
      by : (b : Bool) → ltb i patterns ≡ b → (i < patterns) × (t : Tok) × Entry g.text g.book (first_pattern + i) (t, d)
      by true e =
          let h = ltb-true i patterns e in
          let x = found_pattern g.text g.book ps n.book i p w f n.counted h in
          let q : some x.0 ≡ some d = sym x.1 ∙ n.found in
          let z : x.0 ≡ d = cc in
          (h, x.2, subst (λ (y : Decl). Entry g.text g.book (first_pattern + i) (x.2, y)) z x.3)
      by false e =
          let x = found_none g.text g.book ps n.book i p w f n.counted (ltb-false i patterns e) in
          let q : none ≡ some d = sym x ∙ n.found in
          let z : ◌≡◌ {A = ℕ} 0 1 = cc in
          absurd (omega arith)

  -- it begins in the text
  pub pattern_within : (i : ℕ) {t : Tok} → Entry g.text g.book (first_pattern + i) (t, d) → start_at g.book (first_pattern + i) < length g.text
  pattern_within i e = begins_within E g.text _ d.body n.stands.0 (rw (← e.from) n.stands.1)

  -- with no table and all signals unassigned
  module _ (i : ℕ) {t : Tok} (e : Entry g.text g.book (first_pattern + i) (t, d)) where
    pub pattern_standing : {x : Arrays} {w : List ℕ} → Sized g 0 x → Leaves 0 x.values w → (s : State) → length s.pins ≡ g.signals
        → Standing g (toks g.text (start_at g.book (first_pattern + i))) depth_most 0 8 (arrays w x.feeds x.args) E d.body n.stands.0
        (record { pins = bare s.pins; table = none; args = [] })
    unfolding has supplied table_of
    pattern_standing {x} sized l s h = record {
      holding = n.holding;
      holds = rw (← e.from) n.stands.1;
      fits = n.fits;
      shows = record {
        pins_are = pins_cleared l g.signals sized.roomy.few (omega (arith, sized.roomy.few, sized.roomy.values_long)) s.pins h;
        table_is = refl;
        args_are = record { each = λ j q. (let z : ◌≡◌ {A = ℕ} 0 1 = cc in absurd (omega arith)) };
      };
    }

  -- what fails in it fails where it is entered
  module _ {y : Arrays} {r : Played} (s : State)
      (p : Plays g E.tables 0 y n.stands.0 r (play_few open_most 0 d.body (record { pins = bare s.pins; table = none; args = [] }))) where
    pub listed_fails : r.failed ≡ true → first_failing E.tables (entering listed [] (play_few open_most 0 d.body) s).1 ≡ some r.place
    unfolding entering
    listed_fails = p.told.fails

    pub listed_sound : r.failed ≡ false → first_failing E.tables (entering listed [] (play_few open_most 0 d.body) s).1 ≡ none
    unfolding entering
    listed_sound = p.told.sound

-- ---- the rest of the run

-- behind some patterns in which nothing fails, those of the names l are left
pub record Left (tabs : Tables) (n : ℕ) (E : Env) (ps : Decls) (run : Body) (l : List Tok) : Type 0 where
  pub rest : Body
  pub listed : Listed E ps l rest
  pub same : Alike tabs (play_few open_most 0 run (start n)) (play_few open_most 0 rest (start n))

-- the patterns are played from the state before the run, each
pub opening_long : (n : ℕ) → length (start n).pins ≡ n
unfolding start
opening_long n = length-replicate n unassigned

module _ {tabs : Tables} {n : ℕ} {E : Env} {ps : Decls} {run : Body} where
  pub left_all : {l : List Tok} → Listed E ps l run → Left tabs n E ps run l
  left_all h = record { rest = run; listed = h; same = alike_same refl }

  -- no pattern is left
  pub left_none : Left tabs n E ps run [] → first_failing tabs (play_few open_most 0 run (start n)).1 ≡ none
  unfolding Listed play_few first_failing
  left_none l = l.same.fails_same ∙ (rw l.listed)

-- the next one is that of the name t
pub record Next (tabs : Tables) (n : ℕ) (E : Env) (ps : Decls) (run : Body) (t : Tok) (l : List Tok) : Type 0 where
  pub decl : Decl
  pub rest : Body
  pub found : find ps t.word ≡ some decl
  pub stands : Stands E decl
  pub behind : Listed E ps l rest
  pub same : Alike tabs (play_few open_most 0 run (start n)) (follow (entering listed [] (play_few open_most 0 decl.body) (start n)) (play_few open_most 0 rest))

module _ {tabs : Tables} {n : ℕ} {E : Env} {ps : Decls} {run : Body} {t : Tok} {l : List Tok} where
  pub next : Left tabs n E ps run (t ∷ l) → Next tabs n E ps run t l
  unfolding Listed play_few playing_few shift_of
  next h =
      let x = h.listed in
      record {
        decl = x.0;
        rest = x.1;
        found = x.3;
        stands = x.4;
        behind = x.5;
        same = alike_then h.same (alike_same (ap (λ (b : Body). play_few open_most 0 b (start n)) x.2));
      }

  module _ (h : Next tabs n E ps run t l) where
    pub next_fails : {p : ℕ} → first_failing tabs (entering listed [] (play_few open_most 0 h.decl.body) (start n)).1 ≡ some p
        → first_failing tabs (play_few open_most 0 run (start n)).1 ≡ some p
    next_fails e = h.same.fails_same ∙ first_fails tabs _ _ e

    pub next_left : first_failing tabs (entering listed [] (play_few open_most 0 h.decl.body) (start n)).1 ≡ none → Left tabs n E ps run l
    unfolding entering
    next_left e = record {
      rest = h.rest;
      listed = h.behind;
      same = alike_then h.same (second_alike tabs (entering listed [] (play_few open_most 0 h.decl.body) (start n)) (play_few open_most 0 h.rest) e);
    }

-- ---- every pattern is good, and so is the run

pub good_listed : (E : Env) (ps : Decls) → All (λ x. Playing x.1.body) ps → (l : List Tok) (r : Body) → Listed E ps l r → Good r
unfolding Listed Good
good_listed E ps h [] r e = rw e tt
good_listed E ps h (t ∷ l) r x =
    rw x.2 (tt, (all_found (λ y. Playing y.1.body) ps h t.word x.0 x.3).1.good, good_listed E ps h l x.1 x.5)
