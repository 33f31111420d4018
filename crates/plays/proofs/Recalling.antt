-- A statement with a body in it depends on what stands in the text, on the pins and on the table: one that was played before from the same leaves the same.
use Prim.Native.Nat.{ℕ, ◌+◌, ◌-◌, ◌*◌, ◌<◌, ◌≤◌}
use native.Mathlib.Omega.{arith}
use mathlib.Core.Path.{◌≡◌, refl, sym, ap, ◌∙◌, subst}
use mathlib.Core.Bool.{Bool, true, false}
use mathlib.Core.Logic.{◌⊎◌, inl, inr}
use mathlib.Core.List.{List}
use lib.ListN.{length, get_or, take, get_or-eq_default}
use lib.Dec.{ltb}
use borrow.Author.Tests.{ltb-true, ltb-false}
use lib.Seq.{length-take-le, get_or-take, ext_get_or}
use Rattle.meaning.specs.Bounds.{signals_most, depth_most}
use Rattle.tokens.specs.Tokens.{Toks, left}
use Rattle.meaning.specs.Reader.{give}
use Rattle.meaning.specs.Body.{Args, Way, looped, entered, Body, done, inner}
use Rattle.meaning.specs.Run.{shift_of, State, Played as Play, entering}
use Rattle.meaning.specs.Statements.{Env, Head, loops, uses}
use Rattle.meaning.proofs.Turns.{Plain, Good}
use Rattle.held.specs.Held.{free_head, HeadAt, Holds}
use Rattle.held.proofs.Only.{split, only}
use Rattle.held.proofs.Turn.{takes_head}
use Rattle.turns.specs.Few.{loop_few, playing_few, play_few}
use Rattle.sums.proofs.Free.{feeding, fed}
use Rattle.words.specs.Cursor.{alive, stream}
use Rattle.words.proofs.Flow.{from_on}
use Rattle.words.specs.declared.Cursor.{Cursor}
use Rattle.timing.specs.Makes.{Makes}
use Rattle.heads.specs.declared.What.{What}
use Rattle.heads.specs.declared.What.TheVariants.{Loops, Uses as UsesBody}
use Rattle.heads.specs.Heads.{kind_of, Tells}
use Rattle.heads.specs.Known.{Describes}
use Rattle.pins.specs.Shown.{table_of, Feeding, Shows, Told}
use Rattle.plays.specs.declared.Played.{Played}
use Rattle.memos.specs.Memo.{row_at, pins_of, AtLevel, Told as MemoTold, telling, Row, SameUse, Remembered}
use Rattle.memos.specs.Tracks.{is_marked, assigned_mark, Joins, tracks_length, marks_at, Granted, Tracked}
use Rattle.memos.proofs.Rows.{row_tracked}
use Rattle.memos.proofs.Tracking.{tracked_body}
use Rattle.plays.specs.Plays.{Ground, Arrays, arrays, Showing, Summed, use_at, alone, Comes, Outcome, Remembers, Passes, Behind, LoopAt, Heads, Knows, Standing, Promised, nest_of, Looping, PromisedWhere, Using, Entered, Performed, Invoking, Below}
use Rattle.plays.proofs.Keeping.{shows_untouched}
use Rattle.plays.proofs.Tracks.{pins_wide}
use Rattle.plays.proofs.Heading.{holds_less}
use Rattle.plays.proofs.Alone.{fewer_alone, alone_free}

-- ---- what a statement depends on

stream_same : (text : List ℕ) (c d : Cursor) → d.fault ≡ c.fault → d.at ≡ c.at → d.end ≡ c.end → stream text d ≡ stream text c
unfolding stream
stream_same text c d f a e = rw (f, a, e)

-- at the cursor c no other statement with a body in it stands than this
record OneAt (g : Ground) (E : Env) (c : Cursor) (w : Way) (b : Body) : Type 0 where
  is : (w' : Way) (b' r : Body) (us : Toks) → Holds E (stream g.text c) (inner w' b' r) us → (w' ≡ w) × (b' ≡ b)

-- ---- what was played is so

module _ {g : Ground} {E : Env} {c : Cursor} {w : Way} {b : Body} (one : OneAt g E c w b) (good : Good (inner w b done)) (plain : Plain (inner w b done)) where
  played_outcome : {values' feeds' : List ℕ} {level table table' place : ℕ} {failed : Bool} {m : ℕ → ℕ} {s : State} (k t : ℕ) → s.table ≡ table_of table
      → Told E.tables g.text g.signals values' table' feeds' level failed place (alone k t w b s) → failed ≡ false
      → Tracked E.tables g.signals m s (alone k t w b) → Outcome g E k c table m table' (pins_of values')
  played_outcome {values'} {feeds'} {level} {table} {table'} {place} {failed} {m} {s} k t table_is told e tracked = record {
    each = λ j l w' b' r us h u z wide q granted. (
        let i = one.is w' b' r us h in
        let shown = told.shows e in
        let z' : State = feeding s.args z in
        let r = tracked.each z' (record { wide = wide; table_same = q ∙ sym table_is; args_same = refl; pins_are = λ i l. inr (granted i l) }) in
        let few = fewer_alone E.tables t w b good z' k j l r.0 in
        let free : alone j u w b z ≡ fed z.args (alone j t w b z') = alone_free z.args j u t w b plain z' in
        rw (i.0, i.1, free) (record {
          sound = few.0;
          wide = ap (λ (y : State). length y.pins) few.1 ∙ r.1.wide;
          put = λ i l o. ap (λ (y : State). get_or y.pins i 0) few.1 ∙ r.1.put i l o ∙ ap (λ (y : List ℕ). get_or y i 0) shown.pins_are ∙ get_or-take g.signals values' i 0 l;
          kept = λ i l o. ap (λ (y : State). get_or y.pins i 0) few.1 ∙ r.1.kept i l o;
          table_is = ap (λ (y : State). y.table) few.1 ∙ r.1.table_same ∙ shown.table_is;
          args_same = refl;
        }));
  }

module _ {g : Ground} {c : Cursor} {i t more level table : ℕ} {given : List ℕ} {x : Arrays} {E : Env} {b : Body} {us : Toks} {a : Args} {s : State}
    (v : Invoking g c i t more level table given x E b us a s) where
  one_use : OneAt g E c (entered (kind_of i) t a) b
  one_use = record {
    is = λ w' b' r us h. (
        let d = split E (stream g.text c) (inner w' b' r) us h (uses (kind_of i) v.head_is.0 t a) v.head_is.1 v.head_is.2 in
        let e = v.head_is.3 in
        let q : inner w' b' r ≡ inner (entered (kind_of i) t a) v.head_is.0.body d.0 = d.1 in
        let same : b' ≡ v.head_is.0.body = cc in
        (cc, same ∙ e));
  }

  used_outcome : {values' feeds' : List ℕ} {table' place : ℕ} {failed : Bool} {m : ℕ → ℕ} (k : ℕ)
      → Told E.tables g.text g.signals values' table' feeds' level failed place (entering (kind_of i) a (play_few k t b) s) → failed ≡ false
      → Tracked E.tables g.signals m s (entering (kind_of i) a (play_few k t b)) → Outcome g E k c table m table' (pins_of values')
  unfolding playing_few shift_of Good Plain
  used_outcome k told e tracked = played_outcome one_use (tt, v.fits.good, tt) (tt, tt) k 0 v.shows.table_is told e tracked

  -- it is used where its arguments are supplied
  pub invoked_using : {y : Arrays} → Showing g level table y s → Feeding g.text y.feeds (level + 1) a → Using g i more level table y E b us a s
  invoked_using shown fed = record {
    holding = v.holding;
    declared = v.declared;
    holds = v.holds;
    some_more = v.some_more;
    fits = v.fits;
    shows = shown;
    fed = fed;
  }

-- and is played again
module _ {g : Ground} {E : Env} {c : Cursor} {level table table' : ℕ} {m pins : ℕ → ℕ} {values feeds : List ℕ} {s : State} (k t : ℕ) (w : Way) (b rest : Body) (us : Toks)
    (o : Outcome g E k c table m table' pins) (h : Holds E (stream g.text c) (inner w b rest) us) (shown : Shows g.text g.signals values table feeds level s)
    (long : g.signals ≤ length values) (granted : (i : ℕ) → i < g.signals → Granted E.tables (m i) i (get_or values i 0)) where
  pins_granted : (i : ℕ) → i < g.signals → Granted E.tables (m i) i (get_or s.pins i 0)
  pins_granted i l = rw (shown.pins_are, get_or-take g.signals values i 0 l) (granted i l)

  comes : Comes E.tables g.signals m table' pins s (alone k t w b s)
  comes = o.each k (omega arith) w b rest us h t s (pins_wide shown long) shown.table_is pins_granted

  pub recalled_told : {values' : List ℕ} {place : ℕ} → length values' ≡ length values → ((i : ℕ) → i < g.signals → is_marked (m i) assigned_mark ≡ true → get_or values' i 0 ≡ pins i)
      → ((i : ℕ) → i < g.signals → is_marked (m i) assigned_mark ≡ false → get_or values' i 0 ≡ get_or values i 0)
      → Told E.tables g.text g.signals values' table' feeds level false place (alone k t w b s)
  recalled_told {values'} same put kept =
      let w = comes in
      let wide = length-take-le g.signals values' (omega arith) in
      record {
        fails = λ q. (let y : ◌≡◌ {A = ℕ} 0 1 = cc in absurd (omega arith));
        sound = λ q. w.sound;
        shows = λ q. record {
          pins_are = ext_get_or 0 _ (take g.signals values') (w.wide ∙ sym wide) (λ i l. (let below : i < g.signals = omega (arith, w.wide) in by i below (is_marked (m i) assigned_mark) refl ∙ sym (get_or-take g.signals values' i 0 below)));
          table_is = w.table_is;
          args_are = rw w.args_same shown.args_are;
        };
      }
    where
      by : (i : ℕ) → i < g.signals → (z : Bool) → is_marked (m i) assigned_mark ≡ z → get_or (alone k t w b s).0.pins i 0 ≡ get_or values' i 0
      by i l true e = comes.put i l e ∙ sym (put i l e)
      by i l false e = comes.kept i l e ∙ ap (λ (y : List ℕ). get_or y i 0) shown.pins_are ∙ get_or-take g.signals values i 0 l ∙ sym (kept i l e)

  -- as it would be from other pins that are granted
  pub recalled_tracked : Tracked E.tables g.signals m s (alone k t w b)
  recalled_tracked = record {
    each = λ z q. (
        let w = o.each k (omega arith) w b rest us h t z q.wide (q.table_same ∙ shown.table_is) (λ i l. by z i l (q.pins_are i l)) in (
          w.sound,
          record {
            wide = w.wide;
            table_same = w.table_is ∙ sym comes.table_is;
            args_same = w.args_same ∙ q.args_same ∙ sym comes.args_same;
            put = λ i l e. w.put i l e ∙ sym (comes.put i l e);
            kept = w.kept;
          },
        ));
  }
    where
      by : (z : State) (i : ℕ) → i < g.signals → (get_or z.pins i 0 ≡ get_or s.pins i 0) ⊎ Granted E.tables (m i) i (get_or z.pins i 0) → Granted E.tables (m i) i (get_or z.pins i 0)
      by z i l (inl e) = rw e (pins_granted i l)
      by z i l (inr x) = x

pub invoking_untouched : {g : Ground} {c : Cursor} {i t more level table : ℕ} {given values values' feeds args : List ℕ} {E : Env} {b : Body} {us : Toks} {a : Args} {s : State}
    → Invoking g c i t more level table given (arrays values feeds args) E b us a s → values' ≡ values
    → Invoking g c i t more level table given (arrays values' feeds args) E b us a s
invoking_untouched v e = record {
  holding = v.holding;
  head_is = v.head_is;
  declared = v.declared;
  holds = v.holds;
  some_more = v.some_more;
  fits = v.fits;
  shows = shows_untouched v.shows e;
  supplied = v.supplied;
  exact = v.exact;
}

-- ---- rows

outcome_same : {g : Ground} {E : Env} {k k' : ℕ} {c c' b b' : Cursor} {t t' u u' : ℕ} {v v' w w' : ℕ → ℕ} → Outcome g E k c t v u w
    → SameUse g.signals (telling (use_at k c) b t v u w) (telling (use_at k' c') b' t' v' u' w') → Outcome g E k' c' t' v' u' w'
outcome_same {g} {E} {k} {k'} {c} {c'} {b} {b'} {t} {t'} {u} {u'} {v} {v'} {w} {w'} o same =
    let there = stream_same g.text c c' same.fault_is same.at_is same.end_is in
    record {
      each = λ j h way body rest us q turns s wide r granted. (
          let z = o.each j (omega (arith, same.seconds_fit)) way body rest us (rw there at q) turns s wide (r ∙ ap table_of same.table_is) (λ i l. rw (← same.marks_are i l) (granted i l)) in
          record {
            sound = z.sound;
            wide = z.wide;
            put = λ i l e. z.put i l (rw (same.marks_are i l) at e) ∙ sym (same.behind_are i l);
            kept = λ i l e. z.kept i l (rw (same.marks_are i l) at e);
            table_is = z.table_is ∙ ap table_of (sym same.behind_is);
            args_same = z.args_same;
          });
    }

-- a memo that is too short has no row
row_room : {memo : List ℕ} {n j : ℕ} {x : MemoTold} → Row memo n j x → tracks_length ≤ length memo
row_room {memo} {n} {j} r = by (ltb (length memo) tracks_length) refl
  where
    by : (b : Bool) → ltb (length memo) tracks_length ≡ b → tracks_length ≤ length memo
    by true e =
        let short = ltb-true (length memo) tracks_length e in
        let z : ◌≡◌ {A = ℕ} 0 1 = sym (get_or-eq_default {A = ℕ} memo 0 (omega arith)) ∙ r.noted.in_use in absurd (omega arith)
    by false e = ltb-false (length memo) tracks_length e

-- one statement more
module _ {g : Ground} {memo memo' : List ℕ} {k table table' : ℕ} {c b : Cursor} {m pins : ℕ → ℕ} {E : Env}
    (r : Remembered memo memo' g.signals (telling (use_at k c) b table m table' pins)) where
  pub heads_more : Heads g memo E → Passes g E c b → Heads g memo' E
  heads_more h x = record { each = λ j k' c' b' t v t' v' row. by j k' c' b' t v t' v' (r.each j (telling (use_at k' c') b' t v t' v') row) }
    where
      by : (j k' : ℕ) (c' b' : Cursor) (t : ℕ) (v : ℕ → ℕ) (t' : ℕ) (v' : ℕ → ℕ)
          → Row memo g.signals j (telling (use_at k' c') b' t v t' v')
          ⊎ SameUse g.signals (telling (use_at k c) b table m table' pins) (telling (use_at k' c') b' t v t' v')
          → Passes g E c' b'
      by j k' c' b' t v t' v' (inl row) = h.each j k' c' b' t v t' v' row
      by j k' c' b' t v t' v' (inr same) =
          let there = stream_same g.text c c' same.fault_is same.at_is same.end_is in
          record { each = λ body us q. rw (there, same.cursor_is) (x.each body us (rw there at q)) }

  remembers_more : Remembers g memo E → (tracks_length ≤ length memo → Outcome g E k c table m table' pins) → Remembers g memo' E
  remembers_more h o =
      record { each = λ j k' c' b' t v t' v' row. by j k' c' b' t v t' v' (omega (arith, row_room row, r.long)) (r.each j (telling (use_at k' c') b' t v t' v') row) }
    where
      by : (j k' : ℕ) (c' b' : Cursor) (t : ℕ) (v : ℕ → ℕ) (t' : ℕ) (v' : ℕ → ℕ) → tracks_length ≤ length memo
          → Row memo g.signals j (telling (use_at k' c') b' t v t' v')
          ⊎ SameUse g.signals (telling (use_at k c) b table m table' pins) (telling (use_at k' c') b' t v t' v')
          → Outcome g E k' c' t v t' v'
      by j k' c' b' t v t' v' room (inl row) = h.each j k' c' b' t v t' v' row
      by j k' c' b' t v t' v' room (inr same) = outcome_same (o room) same

  knows_more : {marks sums : List ℕ} → Knows g marks sums memo E → (tracks_length ≤ length memo → Outcome g E k c table m table' pins) → Passes g E c b → Knows g marks sums memo' E
  knows_more h o x = record { summed = h.summed; heads = heads_more h.heads x; remembers = remembers_more h.remembers o }

-- what is tracked is in no row
pub heads_tracked : {g : Ground} {memo memo' : List ℕ} {E : Env} (level : ℕ) → Heads g memo E → g.signals ≤ signals_most → level ≤ depth_most → AtLevel memo memo' level → Heads g memo' E
heads_tracked level h few l w = record { each = λ j k c b t v t' v' row. h.each j k c b t v t' v' (row_tracked level (omega arith) l w row) }

pub knows_tracked : {g : Ground} {marks sums memo memo' : List ℕ} {E : Env} → Knows g marks sums memo E → (level : ℕ) → g.signals ≤ signals_most → level ≤ depth_most → AtLevel memo memo' level
    → Knows g marks sums memo' E
knows_tracked h level few l w = record {
  summed = h.summed;
  heads = heads_tracked level h.heads few l w;
  remembers = record { each = λ j k c b t v t' v' row. h.remembers.each j k c b t v t' v' (row_tracked level (omega arith) l w row) };
}

-- what is tracked less deep is as it was
pub below_tracked : {memo memo' : List ℕ} (nest : ℕ) → AtLevel memo memo' nest → Below nest memo memo'
below_tracked nest w = record { each = λ i h. w.others i (λ p q. omega arith) }

pub below_remembered : {memo memo' : List ℕ} {n : ℕ} {x : MemoTold} (nest : ℕ) → nest ≤ depth_most → Remembered memo memo' n x → Below nest memo memo'
below_remembered nest l r = record { each = λ i h. r.tracks i (omega arith) }

pub below_none : {nest : ℕ} {memo : List ℕ} → Below nest memo memo
below_none = record { each = λ i h. refl }

pub below_then : {nest : ℕ} {memo memo' memo'' : List ℕ} → Below nest memo memo' → Below nest memo' memo'' → Below nest memo memo''
below_then a b = record { each = λ i h. b.each i h ∙ a.each i h }

pub below_around : {within : ℕ} {memo memo' : List ℕ} (around : ℕ) → within ≡ around + 1 → Below within memo memo' → Below around memo memo'
below_around around e b = record { each = λ i h. b.each i (omega arith) }

-- ---- what was played is remembered

module _ {g : Ground} {marks sums memo memo' memo'' given : List ℕ} {c behind : Cursor} {i t more level table k : ℕ} {x x' y : Arrays} {r : Played} {E : Env} {b : Body} {us : Toks} {a : Args} {s : State}
    (v : Invoking g c i t more level table given x E b us a s) (p : Performed g marks sums memo memo' i more level table x' y k t r) (u : Using g i more level table x' E b us a s)
    (m : Knows g marks sums memo E) (e : r.failed ≡ false) (fresh : tracks_length ≤ length memo → (j : ℕ) → j < g.signals → marks_at memo (nest_of (more - 1)) j ≡ 0)
    (w : Remembered memo' memo'' g.signals (telling (use_at k c) behind table (marks_at memo' (nest_of (more - 1))) r.table (pins_of y.values))) where
  -- a use
  pub used_knows : Behind g c behind → Knows g marks sums memo'' E
  used_knows past = knows_more w (p.learnt E b us a s u m)
      (λ room. let long : tracks_length ≤ length memo = omega (arith, p.memo_long) in used_outcome v k (p.told E b us a s u m) e (p.tracks E b us a s u m e long (fresh long)))
      (past.each E v.holding.describes)

module _ {g : Ground} {head c : Cursor} {n more level table : ℕ} {x : Arrays} {E : Env} {b : Body} {us : Toks} {s : State} (l : LoopAt g head c n)
    (st : Standing g (stream g.text c) more level table x E b us s) where
  head_is : HeadAt E (stream g.text head) (loops n) (stream g.text c)
  head_is = l.each E st.holding.describes

  one_loop : OneAt g E head (looped n) b
  one_loop = record {
    is = λ w' b' r vs q. (
        let d = split E (stream g.text head) (inner w' b' r) vs q (loops n) (stream g.text c) head_is in
        let same : inner w' b' r ≡ inner (looped n) d.0 d.1 = d.3 in
        let body : b' ≡ d.0 = cc in
        (cc, body ∙ sym (only E (stream g.text c) b us st.holds d.0 d.2 d.4).0));
  }

  -- the cursor behind a Loop's body is behind the Loop
  loop_passes : {behind : Cursor} → stream g.text behind ≡ us → Passes g E head behind
  loop_passes there = record {
    each = λ body vs q. (
        let d = split E (stream g.text head) body vs q (loops n) (stream g.text c) head_is in
        let one = (only E (stream g.text c) b us st.holds d.0 d.2 d.4).1 in
        record {
          way = looped n;
          body = d.0;
          rest = d.1;
          is = d.3;
          behind = subst (λ (ts : Toks). Holds E ts d.1 vs) (sym (there ∙ one)) d.5;
          less = omega (arith, ap left there, (takes_head E _ _ _).falls _ _ _ head_is, holds_less E _ b us st.holds);
        });
  }

  -- a Loop
  module _ {marks sums memo memo' memo'' : List ℕ} {nest k : ℕ} {y : Arrays} {r : Played} (t : ℕ)
      (p : PromisedWhere (Looping g.signals nest memo) g marks sums memo memo' (stream g.text c) more level nest table x y (λ b. loop_few n k (λ j. play_few j t b)) r) (e : r.failed ≡ false)
      (w : Remembered memo' memo'' g.signals (telling (use_at k head) r.cursor table (marks_at memo' nest) r.table (pins_of y.values))) where
    pub looped_heads : Heads g memo E → Heads g memo'' E
    looped_heads m = heads_more w (p.heads E b us s st m) (loop_passes (p.ended E b us s st m e).there)

    pub looped_knows : length s.pins ≡ g.signals → 0 < nest → Knows g marks sums memo E → Plain b → Looping g.signals nest memo b → Knows g marks sums memo'' E
    unfolding playing_few shift_of Good Plain
    looped_knows wide deep m plain fine = knows_more w (p.learnt E b us s st m fine)
        (λ room. (
        let long : tracks_length ≤ length memo = omega (arith, p.memo_long) in
        played_outcome one_loop (plain, st.fits.good, tt) (plain, tt) k t st.shows.table_is (p.plays E b us s st m fine).told e
        (tracked_body wide deep long (fine long).1 (p.tracks E b us s st m fine e))))
        (loop_passes (p.ended E b us s st m.heads e).there)

-- what was tracked one deeper in the nest is joined to what stood around it before
pub risen : {memo₀ memo memo' : List ℕ} {z within : ℕ} (around j : ℕ) → within ≡ around + 1 → AtLevel memo₀ memo within → Below within memo memo' → around < depth_most → j < signals_most
    → Joins (marks_at memo' around j) (marks_at memo' (around + 1) j) z → Joins (marks_at memo₀ around j) (marks_at memo' within j) z
risen {memo₀} {memo} {memo'} around j next w below l h joins =
    let here : get_or memo' (around * signals_most + j) 0 ≡ get_or memo₀ (around * signals_most + j) 0 =
    below.each (around * signals_most + j) (omega arith) ∙ w.others (around * signals_most + j) (λ a b. omega arith) in
    rw next (rw here at joins)

-- as it stood before that was remembered
pub remembered_joins : {memo memo' : List ℕ} {n z : ℕ} {x : MemoTold} (around j : ℕ) → Remembered memo memo' n x → around < depth_most → j < signals_most
    → Joins (marks_at memo' around j) (marks_at memo' (around + 1) j) z → Joins (marks_at memo around j) (marks_at memo (around + 1) j) z
remembered_joins {memo} {memo'} around j r l h joins =
    let here : get_or memo' (around * signals_most + j) 0 ≡ get_or memo (around * signals_most + j) 0 = r.tracks (around * signals_most + j) (omega arith) in
    let there : get_or memo' ((around + 1) * signals_most + j) 0 ≡ get_or memo ((around + 1) * signals_most + j) 0 = r.tracks ((around + 1) * signals_most + j) (omega arith) in
    rw (here, there) at joins

-- ---- the cursor behind a statement's head

-- what the head is
head_read : (E : Env) {text : List ℕ} {c r : Cursor} {P : Head → Type 0} → alive c ≡ true → alive r ≡ true → (m : Makes text c (free_head E) r P) → HeadAt E (stream text c) m.it (stream text r)
unfolding give
head_read E {text} {c} {r} on on' m = sym (from_on text c (free_head E) on) ∙ sym m.goes.same ∙ from_on text r (give m.it) on'

module _ {g : Ground} {c r : Cursor} (given args : List ℕ) (what : What) (on : alive c ≡ true) (on' : alive r ≡ true)
    (m : (E : Env) → Describes g.text g.places g.lists g.tplaces g.book g.rows g.known E
    → Makes g.text c (free_head E) r (Tells g.text g.book g.rows given args g.known.tables what)) where
  pub behind_head_lem : (i t : ℕ) → what ≡ UsesBody i t → Behind g c r
  unfolding Tells
  behind_head_lem i t is = record {
    each = λ E h. (
        let x = m E h in
        let told : Tells g.text g.book g.rows given args g.known.tables (UsesBody i t) x.it = rw is at (x.held on') in
        let read : HeadAt E (stream g.text c) (uses (kind_of i) told.1 t told.2) (stream g.text r) = rw told.3 at (head_read E on on' x) in
        record {
          each = λ body us q. (
              let d = split E (stream g.text c) body us q (uses (kind_of i) told.1 t told.2) (stream g.text r) read in
              record { way = entered (kind_of i) t told.2; body = told.1.body; rest = d.0; is = d.1; behind = d.3; less = (takes_head E _ _ _).falls _ _ _ read });
        });
  }

  pub loop_head : (n : ℕ) → what ≡ Loops n → LoopAt g c r n
  unfolding Tells
  loop_head n is = record {
    each = λ E h. (
        let x = m E h in
        let told : Tells g.text g.book g.rows given args g.known.tables (Loops n) x.it = rw is at (x.held on') in
        rw told.0 at (head_read E on on' x));
  }

-- nothing is remembered
pub heads_none : {g : Ground} {memo : List ℕ} {E : Env} → ((i : ℕ) → get_or memo i 0 ≡ 0) → Heads g memo E
heads_none h = record { each = λ j k c b t v t' v' row. (let z : ◌≡◌ {A = ℕ} 0 1 = sym (h (row_at j)) ∙ row.noted.in_use in absurd (omega arith)) }

-- nothing is remembered
pub remembers_none : {g : Ground} {memo : List ℕ} {E : Env} → ((i : ℕ) → get_or memo i 0 ≡ 0) → Remembers g memo E
remembers_none h = record { each = λ j k c b t v t' v' row. (let z : ◌≡◌ {A = ℕ} 0 1 = sym (h (row_at j)) ∙ row.noted.in_use in absurd (omega arith)) }

pub knows_sums : {g : Ground} {marks sums memo : List ℕ} {E : Env} → Summed g marks sums E → ((i : ℕ) → get_or memo i 0 ≡ 0) → Knows g marks sums memo E
knows_sums m h = record { summed = m; heads = heads_none h; remembers = remembers_none h }

-- ---- where nothing is remembered

-- a Loop of which no turn is left out: nothing is asked of its body
pub promised_all : {g : Ground} {marks sums memo memo' : List ℕ} {ts : Toks} {more level nest n table : ℕ} {x y : Arrays} {f : Body → State → Play} {r : Played}
    → PromisedWhere (Looping n nest memo) g marks sums memo memo' ts more level nest table x y f r → ((i : ℕ) → get_or memo i 0 ≡ 0) → length memo < tracks_length
    → Promised g marks sums ts more level table x y f r
promised_all p blank short = record { kept = p.kept; ended = λ E b us s st. p.ended E b us s st (heads_none blank); plays = λ E b us s st m. p.plays E b us s st (knows_sums m blank) (λ room. absurd (omega arith)) }

pub entered_all : {g : Ground} {marks sums memo memo' : List ℕ} {i more level table : ℕ} {x y : Arrays} {k t : ℕ} {r : Played}
    → Performed g marks sums memo memo' i more level table x y k t r → ((i : ℕ) → get_or memo i 0 ≡ 0) → Entered g marks sums i more level table x y k t r
entered_all p blank = record { kept = p.kept; own = p.own; told = λ E b us a s v m. p.told E b us a s v (knows_sums m blank) }
