-- Waveforms by the list: what they are is single calls made in order, and what stands behind the served ones is left as it was.
use Prim.Native.Nat.{ℕ, suc, ◌+◌, ◌≤◌}
use native.Mathlib.Omega.{arith}
use mathlib.Core.Path.{◌≡◌, refl, sym, ap, ◌∙◌, subst}
use mathlib.Core.Bool.{Bool, true, false, ◌&&◌}
use mathlib.Core.Option.{Option, none, some}
use mathlib.Core.List.{List, [], ◌∷◌, ◌++◌}
use lib.ListN.{length, take, drop, length-append}
use lib.Seq.{length-take-le, drop-append-add, drop-drop, drop_at}
use lib.Dec.{leb}
use borrow.Author.Tests.{le-leb, leb-true}
use Rattle.meaning.specs.Refusals.{no_such, no_room}
use Rattle.meaning.specs.Timing.{Event}
use Rattle.meaning.specs.Meaning.{Answer, given, refused, answering, table_at, Meaning, meaning}
use Rattle.meaning.specs.Services.{wave_of, times_of, letters_of, Waveform, events_out, waveform}
use Rattle.meaning.specs.Charts.{chart_most, Asked, asked_in, called, Chart, behind, over, chart, waveforms}

-- ---- single calls in order

module _ (text : List ℕ) (x : Asked) (xs : List Asked) (times letters counts : List ℕ) where
  -- a call that is served: the rest are calls on the room that it leaves
  pub chart_served : {w : Waveform} → called text x times letters ≡ given w
      → chart text (x ∷ xs) times letters counts
      ≡ behind 1 w.count w.times w.letters (w.count ∷ drop 1 counts) (chart text xs (drop w.count w.times) (drop w.count w.letters) (drop 1 counts))
  unfolding chart
  chart_served e = rw (e, chart)

  -- the first that is refused stops them
  pub chart_stops : {n p : ℕ} → called text x times letters ≡ refused n p → chart text (x ∷ xs) times letters counts ≡ over (some (n, p)) times letters counts
  unfolding chart
  chart_stops e = rw (e, chart)

-- of an accepted text, a list of no more than 64 waveforms with room for their counts is answered by the single calls
pub waveforms_called : (text list times letters counts : List ℕ) {m : Meaning} → meaning text ≡ given m → length (asked_in list) ≤ chart_most
    → length (asked_in list) ≤ length counts → waveforms text list times letters counts ≡ given (chart text (asked_in list) times letters counts)
unfolding waveforms answering
waveforms_called text list times letters counts e h k =
    rw (e, answering, le-leb (length (asked_in list)) chart_most h, le-leb (length (asked_in list)) (length counts) k)

-- ---- what was lent and not written

-- numbers of a call that was served stand at the front of a buffer
pub record Written (n : ℕ) (before after : List ℕ) : Type 0 where
  pub fits : n ≤ length before
  pub front : List ℕ
  pub all : length front ≡ n
  pub is : after ≡ front ++ drop n before

each_time : (es : List Event) → length (times_of es) ≡ length es
unfolding times_of
each_time [] = refl
each_time (e ∷ es) = ap suc (each_time es)

each_letter : (es : List Event) → length (letters_of es) ≡ length es
unfolding letters_of
each_letter [] = refl
each_letter (e ∷ es) = ap suc (each_letter es)

-- in both
abbrev Both : (times letters : List ℕ) → Waveform → Type 0
Both times letters w = Written w.count times w.times × Written w.count letters w.letters

module _ {times letters : List ℕ} {w : Waveform} where
  out_written : (es : List Event) → events_out es times letters ≡ given w → Both times letters w
  unfolding events_out
  out_written es e = by (leb (length es) (length times)) (leb (length es) (length letters)) refl refl e
    where
      by : (a b : Bool) → leb (length es) (length times) ≡ a → leb (length es) (length letters) ≡ b
          → ◌≡◌ {A = Answer Waveform} (elim (a && b) [
            | false ↦ refused no_room 0
            | true ↦ given (record { count = length es; times = times_of es ++ drop (length es) times; letters = letters_of es ++ drop (length es) letters })
          ]) (given w) → Both times letters w
      by true true h k e =
          let q : record { count = length es; times = times_of es ++ drop (length es) times; letters = letters_of es ++ drop (length es) letters } ≡ w = cc in
          subst (Both times letters) q (
            record { fits = leb-true (length es) (length times) h; front = times_of es; all = each_time es; is = refl },
            record { fits = leb-true (length es) (length letters) k; front = letters_of es; all = each_letter es; is = refl },
          )
      by true false h k e = let z : ◌≡◌ {A = ℕ} 0 1 = cc in absurd (omega arith)
      by false b h k e = let z : ◌≡◌ {A = ℕ} 0 1 = cc in absurd (omega arith)

  waveform_written : (text : List ℕ) (k s c : ℕ) → waveform text k s c times letters ≡ given w → Both times letters w
  unfolding waveform answering
  waveform_written text k s c e = by (meaning text) e
    where
      on : (o : Option (List Event)) → ◌≡◌ {A = Answer Waveform} (elim o [ none ↦ refused no_such 0 | some es ↦ events_out es times letters ]) (given w) → Both times letters w
      on none e = let z : ◌≡◌ {A = ℕ} 0 1 = cc in absurd (omega arith)
      on (some es) e = out_written es e

      by : (a : Answer Meaning) → answering a (λ m. elim (wave_of s c (table_at m.tables k)) [ none ↦ refused no_such 0 | some es ↦ events_out es times letters ]) ≡ given w → Both times letters w
      by (given m) e = on (wave_of s c (table_at m.tables k)) e
      by (refused n p) e = let z : ◌≡◌ {A = ℕ} 0 1 = cc in absurd (omega arith)

  pub called_written : (text : List ℕ) (x : Asked) → called text x times letters ≡ given w → Both times letters w
  unfolding called
  called_written text none e = let z : ◌≡◌ {A = ℕ} 0 1 = cc in absurd (omega arith)
  called_written text (some x) e = waveform_written text x.0 x.1 x.2 e

-- a buffer behind its first n numbers is as it was
abbrev pub Kept : ℕ → (before after : List ℕ) → Type 0
Kept n before after = drop n after ≡ drop n before

-- behind the events of those served, and behind their counts
pub record Untouched (times letters counts : List ℕ) (x : Chart) : Type 0 where
  pub times_kept : Kept x.events times x.times
  pub letters_kept : Kept x.events letters x.letters
  pub counts_kept : Kept x.served counts x.counts

-- what a call wrote, and what stands behind it
kept_behind : {n : ℕ} {before after : List ℕ} (m : ℕ) (rest : List ℕ) → Written n before after → Kept m (drop n after) rest → Kept (n + m) before (take n after ++ rest)
kept_behind {n} {before} {after} m rest w k =
    let l : length (take n after) ≡ n = length-take-le n after (omega (arith, ap length w.is, length-append w.front (drop n before), w.all)) in
    ap (λ (i : ℕ). drop (i + m) (take n after ++ rest)) (sym l)
    ∙ drop-append-add (take n after) rest m
    ∙ k
    ∙ ap (drop m) (ap (drop n) w.is ∙ drop_at w.front (drop n before) n w.all)
    ∙ drop-drop m n before

pub chart_untouched : (text : List ℕ) (xs : List Asked) (times letters counts : List ℕ) → Untouched times letters counts (chart text xs times letters counts)
unfolding chart behind
chart_untouched text [] times letters counts = record { times_kept = refl; letters_kept = refl; counts_kept = refl }
chart_untouched text (x ∷ xs) times letters counts = by (called text x times letters) refl (chart_untouched text xs)
  where
    by : (a : Answer Waveform) → called text x times letters ≡ a
        → ((t l k : List ℕ) → Untouched t l k (chart text xs t l k)) → Untouched times letters counts (chart text (x ∷ xs) times letters counts)
    by (refused n p) e f = rw (chart_stops text x xs times letters counts e) (record { times_kept = refl; letters_kept = refl; counts_kept = refl })
    by (given w) e f =
        let both = called_written text x e in
        let next = chart text xs (drop w.count w.times) (drop w.count w.letters) (drop 1 counts) in
        let rest = f (drop w.count w.times) (drop w.count w.letters) (drop 1 counts) in
        rw (chart_served text x xs times letters counts e) (record {
          times_kept = kept_behind _ _ both.0 rest.times_kept;
          letters_kept = kept_behind _ _ both.1 rest.letters_kept;
          counts_kept = drop-append-add (w.count ∷ []) next.counts next.served ∙ rest.counts_kept ∙ drop-drop next.served 1 counts;
        })
