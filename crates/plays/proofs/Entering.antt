-- A used body: a macro runs in place with its own arguments; a procedure begins with all signals unassigned, and the caller's pins come back from the row
-- in which they were kept.
use Prim.Native.Nat.{ℕ, ◌+◌, ◌*◌, ◌-◌, ◌<◌, ◌≤◌}
use native.Mathlib.Omega.{arith}
use mathlib.Core.Path.{◌≡◌, sym, ap, ◌∙◌}
use mathlib.Core.List.{List}
use lib.ListN.{length, get_or, take, drop, replicate, length-replicate, get_or-replicate, length-drop}
use lib.Seq.{length-take-le, get_or-take, ext_get_or}
use borrow.Author.Tests.{lt-ltb, le-ltb}
use Rattle.tokens.specs.Tokens.{Toks, toks}
use Rattle.meaning.specs.Bounds.{signals_most}
use Rattle.meaning.specs.Body.{Args, macro, procedure, Body}
use Rattle.meaning.specs.Run.{State, unassigned, bare, entering}
use Rattle.meaning.specs.Statements.{Env}
use Rattle.turns.specs.Few.{play_few}
use Rattle.measures.specs.Book.{first_procedure, start_at}
use Rattle.words.specs.declared.Cursor.{Cursor}
use Rattle.heads.specs.Heads.{kind_of}
use Rattle.pins.specs.Shown.{Feeding, Leaves, Returns, Told}
use Rattle.plays.specs.declared.Played.{Played}
use Rattle.plays.specs.Plays.{Ground, Arrays, arrays, Sized, Standing, Kept, Telling, Plays, Using, Served}
use Rattle.plays.proofs.Keeping.{feeding_kept}

-- ---- which kind it is

pub kind_macro : (i : ℕ) → i < first_procedure → kind_of i ≡ macro
unfolding kind_of
kind_macro i h = rw (lt-ltb i first_procedure h, kind_of)

pub kind_procedure : (i : ℕ) → first_procedure ≤ i → kind_of i ≡ procedure
unfolding kind_of
kind_procedure i h = rw (le-ltb i first_procedure h, kind_of)

-- ---- what is kept

pub kept_below : {level : ℕ} {x y : Arrays} → Kept (level + 1) x y → Kept level x y
kept_below k = record {
  rows = λ i l h. k.rows i l (omega arith);
  arguments = λ l s h q. k.arguments l s h (omega arith);
  values_long = k.values_long;
  feeds_long = k.feeds_long;
  args_long = k.args_long;
}

module _ (level : ℕ) {v w v' w' feeds feeds' args args' : List ℕ} (l : Leaves (level + 1) v w) (k : Kept (level + 1) (arrays w feeds args) (arrays v' feeds' args'))
    (b : Returns (level + 1) v' w') where
  pub kept_returned : Kept level (arrays v feeds args) (arrays w' feeds' args')
  kept_returned = record {
    rows = λ i h q. b.rows i h ∙ k.rows i h (omega arith) ∙ l.lower i h (omega arith);
    arguments = λ m s h q. k.arguments m s h (omega arith);
    values_long = b.long ∙ k.values_long ∙ l.long;
    feeds_long = k.feeds_long;
    args_long = k.args_long;
  }

  -- each pin
  pin_back : (s : ℕ) → s < signals_most → get_or w' s 0 ≡ get_or v s 0
  pin_back s h = b.back s h ∙ k.rows ((level + 1 + 1) * signals_most + s) (omega arith) (omega arith) ∙ l.kept s h

  pub pins_back : (n : ℕ) → n ≤ signals_most → n ≤ length v → take n w' ≡ take n v
  pins_back n h q =
      let long : length w' ≡ length v = b.long ∙ k.values_long ∙ l.long in
      let m = length-take-le n v q in
      let m' = length-take-le n w' (omega arith) in
      ext_get_or 0 (take n w') (take n v) (m' ∙ sym m) λ i j.
      let below : i < n = omega arith in
      get_or-take n w' i 0 below ∙ pin_back i (omega arith) ∙ sym (get_or-take n v i 0 below)

-- all signals unassigned
pub pins_cleared : {level : ℕ} {v w : List ℕ} → Leaves level v w → (n : ℕ) → n ≤ signals_most → n ≤ length v → (pins : List ℕ) → length pins ≡ n → bare pins ≡ take n w
unfolding bare
pins_cleared {level} {v} {w} l n h q pins m =
    let r = length-replicate (length pins) unassigned in
    let m' = length-take-le n w (omega (arith, l.long)) in
    ext_get_or 0 (replicate (length pins) unassigned) (take n w) (r ∙ m ∙ sym m') λ i j.
    let below : i < n = omega arith in
    get_or-replicate (length pins) i unassigned 0 (omega arith) ∙ sym (get_or-take n w i 0 below ∙ l.cleared i (omega arith))

pub sized_left : {g : Ground} {level l : ℕ} {x : Arrays} {w : List ℕ} → Sized g level x → Leaves l x.values w → Sized g level (arrays w x.feeds x.args)
sized_left s l = record {
  roomy = record { few = s.roomy.few; values_long = l.long ∙ s.roomy.values_long; feeds_long = s.roomy.feeds_long; inside_levels = s.roomy.inside_levels };
  args_long = s.args_long;
  waves_long = s.waves_long;
}

-- ---- the body is held where it begins, with its own arguments

module _ {g : Ground} {i more level table : ℕ} {x : Arrays} {E : Env} {b : Body} {us : Toks} {a : Args} {s : State} (u : Using g i more level table x E b us a s) where
  pub macro_standing : Standing g (toks g.text (start_at g.book i)) (more - 1) (level + 1) table x E b us (record { pins = s.pins; table = s.table; args = a })
  macro_standing = record {
    holding = u.holding;
    holds = u.holds;
    fits = u.fits;
    shows = record { pins_are = u.shows.pins_are; table_is = u.shows.table_is; args_are = u.fed };
  }

  pub procedure_standing : {w : List ℕ} → Sized g level x → Leaves (level + 1) x.values w
      → Standing g (toks g.text (start_at g.book i)) (more - 1) (level + 1) table (arrays w x.feeds x.args) E b us
      (record { pins = bare s.pins; table = s.table; args = a })
  procedure_standing sized l =
      let long : g.signals ≤ length x.values = omega (arith, sized.roomy.few, sized.roomy.values_long) in
      record {
        holding = u.holding;
        holds = u.holds;
        fits = u.fits;
        shows = record {
          pins_are = pins_cleared l g.signals sized.roomy.few long s.pins (ap length u.shows.pins_are ∙ length-take-le g.signals x.values long);
          table_is = u.shows.table_is;
          args_are = u.fed;
        };
      }

  -- ---- what it played, told to the caller

  module _ {y : Arrays} (k t : ℕ) {r : Played} where
    pub macro_told : kind_of i ≡ macro → Kept (level + 1) x y
        → Plays g E.tables (level + 1) y us r (play_few k t b (record { pins = s.pins; table = s.table; args = a }))
        → Telling g E.tables level y r (entering (kind_of i) a (play_few k t b) s)
    unfolding entering
    macro_told e kept p = rw e (record {
      fails = p.told.fails;
      sound = p.told.sound;
      shows = λ h. (
          let q = p.told.shows h in
          record { pins_are = q.pins_are; table_is = q.table_is; args_are = feeding_kept u.shows.args_are (λ j l. kept.arguments level j l (omega arith)) });
    })

    pub procedure_told : {w' : List ℕ} → kind_of i ≡ procedure → Sized g level x → {w : List ℕ} → Leaves (level + 1) x.values w
        → Kept (level + 1) (arrays w x.feeds x.args) y → Returns (level + 1) y.values w'
        → Plays g E.tables (level + 1) y us r (play_few k t b (record { pins = bare s.pins; table = s.table; args = a }))
        → Told E.tables g.text g.signals w' table y.feeds level r.failed r.place (entering (kind_of i) a (play_few k t b) s)
    unfolding entering
    procedure_told e sized l kept back p = rw e (record {
      fails = p.told.fails;
      sound = p.told.sound;
      shows = λ h. record {
        pins_are = u.shows.pins_are ∙ sym (pins_back level l kept back g.signals sized.roomy.few (omega (arith, sized.roomy.few, sized.roomy.values_long)));
        table_is = u.shows.table_is;
        args_are = feeding_kept u.shows.args_are (λ j l. kept.arguments level j l (omega arith));
      };
    })

-- the caller's arguments are there again
pub served_fed : {g : Ground} {marks sums memo memo' given : List ℕ} {c : Cursor} {i t more level table : ℕ} {x y : Arrays} {k : ℕ} {r : Played} {a : Args}
    → Served g marks sums memo memo' c i t more level table given x y k r → Feeding g.text x.feeds level a → Feeding g.text y.feeds level a
served_fed v f = feeding_kept f v.own

-- ---- the part of the text that begins with it

module _ (text : List ℕ) (at start : ℕ) (is : at ≡ start) (h : start < length text) where
  part_long : length (take (length text - at) (drop at text)) ≡ length text - at
  part_long = length-take-le (length text - at) (drop at text) (rw length-drop (omega arith))

  pub part_within : length (take (length text - at) (drop at text)) ≤ length text
  part_within = omega (arith, part_long)

  pub part_begins : length text - length (take (length text - at) (drop at text)) ≡ start
  part_begins = omega (arith, part_long)
