-- One waveform of an accepted text: none there, no room for its events, or they stand at the front of both buffers.
use Prim.Native.Nat.{ℕ, ◌+◌, ◌-◌, ◌≤◌, ◌<◌}
use native.Mathlib.Omega.{arith}
use mathlib.Core.Path.{◌≡◌, refl, sym, ap, ◌∙◌}
use mathlib.Core.Bool.{Bool, true, false, not, ◌&&◌, ◌||◌}
use mathlib.Core.Option.{Option, none, some}
use mathlib.Core.List.{List, ◌∷◌, ◌++◌}
use lib.Dec.{leb, ltb}
use lib.ListN.{length, get_or, take, drop}
use borrow.Author.Tests.{le-leb, lt-leb}
use Rattle.std.proofs.Common.{Option as Maybe, None, Some, Result, Ok, Err}
use Rattle.meaning.specs.Refusals.{no_such, no_room}
use Rattle.meaning.specs.Bounds.{entry_most}
use Rattle.meaning.specs.Timing.{Event}
use Rattle.meaning.specs.Meaning.{Answer, given, refused, answering, table_at}
use Rattle.meaning.specs.Services.{wave_of, events_out, Waveform, waveform}
use Rattle.meaning.specs.Charts.{char_most, Asked, asking, asked_in, called}
use Rattle.timing.specs.declared.Watch.{Watch}
use Rattle.waves.specs.Waves.{EntryAt, Reads}
use Rattle.waves.proofs.Entries.{entry_found}
use Rattle.waves.proofs.Fronts.{times_front, letters_front}
use Rattle.charts.specs.Serving.{told_all, Accepted, Sights, Outlines}
use Rattle.charts.proofs.Rooms.{room}
use Rattle.charts.proofs.Telling.{told_times}
use Rattle.charts.proofs.Lists.{Next}

-- ---- an answer as it is told

module _ {a : Answer Waveform} {times letters : List ℕ} where
  pub outline_refused : (n : ℕ) → a ≡ refused n 0 → Outlines a times times letters letters (Err n)
  outline_refused n e = record {
    refuses = λ m h. let q : n ≡ m = cc in (e ∙ ap (λ (k : ℕ). refused k 0) q, refl, refl);
    gives = λ m h. (let z : ◌≡◌ {A = ℕ} 0 1 = cc in absurd (omega arith));
  }

  pub outline_given : {n : ℕ} {times' letters' : List ℕ} → a ≡ given (record { count = n; times = times'; letters = letters' })
      → Outlines a times times' letters letters' (Ok n)
  outline_given {n} {times'} {letters'} e = record {
    refuses = λ m h. (let z : ◌≡◌ {A = ℕ} 0 1 = cc in absurd (omega arith));
    gives = λ m h. let q : n ≡ m = cc in e ∙ ap (λ (k : ℕ). given (record { count = k; times = times'; letters = letters' })) q;
  }

  pub outline_alike : {b : Answer Waveform} {times' letters' : List ℕ} {r : Result ℕ ℕ} → b ≡ a → Outlines a times times' letters letters' r
      → Outlines b times times' letters letters' r
  outline_alike e o = rw e o

-- ---- its events, from where they were read

module _ {es : List Event} {n : ℕ} {ts ts' ls ls' : List ℕ} (d : Reads es n ts ts' ls ls') (times letters : List ℕ) {y : Bool}
    (e : (ltb (length times) n || ltb (length letters) n) ≡ y) where
  tested : (leb (length es) (length times) && leb (length es) (length letters)) ≡ not y
  tested = ap (λ (k : ℕ). leb k (length times) && leb k (length letters)) (sym d.count) ∙ room (length times) (length letters) n e

  pub events_full : y ≡ true → Outlines (events_out es times letters) times times letters letters (Err no_room)
  unfolding events_out
  events_full z = outline_refused no_room (rw (tested ∙ ap not z, events_out))

  pub events_put : {times' letters' : List ℕ} → y ≡ false → length ts ≡ entry_most → length ls ≡ entry_most
      → (times' ≡ told_all (take n ts') ++ drop n times) × (letters' ≡ take n ls' ++ drop n letters)
      → Outlines (events_out es times letters) times times' letters letters' (Ok n)
  unfolding events_out
  events_put z p q k =
      outline_given (rw (tested ∙ ap not z, events_out) (rw (k.0, k.1, times_front d p, told_times es, letters_front d q, d.count)))

-- ---- the single call

module _ {text : List ℕ} {w : Watch} {sight : Maybe ℕ} (a : Accepted text) (s : Sights text w sight) where
  abbrev called_as : List ℕ → List ℕ → Answer Waveform
  called_as times letters = waveform text w.table w.signal w.char times letters

  waveform_as : (times letters : List ℕ) {o : Option (List Event)} → wave_of w.signal w.char (table_at a.meant.tables w.table) ≡ o
      → called_as times letters ≡ elim o [ none ↦ refused no_such 0 | some es ↦ events_out es times letters ]
  unfolding waveform answering
  waveform_as times letters e = rw (a.is, answering, e)

  pub single_none : {times letters : List ℕ} → sight ≡ None → Outlines (called_as times letters) times times letters letters (Err no_such)
  single_none {times} {letters} h = outline_refused no_such (waveform_as times letters ((s.watched a.meant a.is).no h))

  module _ {place : ℕ} (h : sight ≡ Some place) where
    abbrev pub entry : (es : List Event) × EntryAt text place w.char es
    entry = let f = (s.watched a.meant a.is).yes place h in (_, entry_found f f.wave)

    pub single_drawn : {times times' letters letters' : List ℕ} {r : Result ℕ ℕ} → Outlines (events_out entry.0 times letters) times times' letters letters' r
        → Outlines (called_as times letters) times times' letters letters' r
    single_drawn {times} {times'} {letters} {letters'} o = outline_alike (waveform_as times letters ((s.watched a.meant a.is).yes place h).wave) o

-- ---- as the list asks for it

module _ {list : List ℕ} {at : ℕ} (n : Next list at) {x : Asked} {xs : List Asked} (q : asked_in (drop at list) ≡ x ∷ xs) where
  first_is : n.first ≡ x
  first_is = let e = sym n.cut ∙ q in cc

  unnamed : (text : List ℕ) {times letters : List ℕ} → n.first ≡ none → Outlines (called text x times letters) times times letters letters (Err no_such)
  unfolding called
  unnamed text e = outline_refused no_such (rw (sym first_is ∙ e, called))

  -- too few numbers are left
  pub ask_short : (text : List ℕ) {times letters : List ℕ} → length list - at < 3
      → Outlines (called text x times letters) times times letters letters (Err no_such)
  ask_short text h = unnamed text (n.short h)

  module _ (h : 3 ≤ length list - at) where
    -- a number that is no character
    pub ask_unlike : (text : List ℕ) {times letters : List ℕ} → char_most < get_or list (at + 2) 0
        → Outlines (called text x times letters) times times letters letters (Err no_such)
    unfolding asking
    ask_unlike text b = unnamed text (n.full h ∙ rw (lt-leb (get_or list (at + 2) 0) char_most b, asking))

    -- a table, a signal and a character
    pub ask_named : (text : List ℕ) {times times' letters letters' : List ℕ} {r : Result ℕ ℕ} → get_or list (at + 2) 0 ≤ char_most
        → Outlines (waveform text (get_or list at 0) (get_or list (at + 1) 0) (get_or list (at + 2) 0) times letters) times times' letters letters' r
        → Outlines (called text x times letters) times times' letters letters' r
    unfolding asking called
    ask_named text {times} {times'} {letters} {letters'} b o =
        let e : x ≡ some (get_or list at 0, get_or list (at + 1) 0, get_or list (at + 2) 0) = sym first_is ∙ n.full h ∙ rw (le-leb (get_or list (at + 2) 0) char_most b, asking) in
        rw (e, called) o
