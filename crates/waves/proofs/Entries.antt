-- An entry's lines, one after the other: at each the definition's reader goes on to the entry's end, and the code holds the events of its character so far.
use Prim.Native.Nat.{ℕ, ◌+◌, ◌<◌}
use native.Mathlib.Omega.{arith}
use mathlib.Core.Path.{◌≡◌, refl, sym, ap, ◌∙◌, subst}
use mathlib.Core.Bool.{Bool, true, false, not, ◌&&◌}
use mathlib.Core.Option.{some}
use mathlib.Core.List.{List, []}
use lib.ListN.{length, get_or, set}
use borrow.Author.Tests.{eq-eqb, not-false, not-true}
use Rattle.tokens.specs.Tokens.{Tok, Toks, toks, left}
use Rattle.meaning.specs.Bounds.{entry_most}
use Rattle.meaning.specs.Reader.{ok, ◌>>=◌, ahead, due, word, until}
use Rattle.meaning.specs.Timing.{Event, Wave, Events, blanks, event}
use Rattle.meaning.specs.Services.{wave_of}
use Rattle.meaning.proofs.Gives.{bind_ok, give_ok}
use Rattle.words.specs.Cursor.{alive, stream, Stands, Goes, ahead as ahead_tok}
use Rattle.words.specs.declared.Cursor.{Cursor}
use Rattle.words.proofs.Flow.{went}
use Rattle.timing.specs.Events.{events}
use Rattle.timing.specs.Watch.{chars_events, number_of, Found}
use Rattle.timing.specs.declared.Watch.{Watch}
use Rattle.timing.proofs.EventTimes.{blank, as_many}
use Rattle.timing.proofs.EventReading.{takes_event}
use Rattle.waves.specs.declared.EventRead.{EventRead}
use Rattle.waves.specs.Waves.{EntryAt, Reads, Adds, OneEvent}
use Rattle.waves.proofs.Numbers.{number_below}
use Rattle.waves.proofs.Turns.{until_on, until_end}
use Rattle.waves.proofs.Lines.{Line, line, quote_ahead, added_length}
use Rattle.waves.proofs.Fronts.{reads_none, reads_more, times_kept, letters_kept}

-- ---- the entry

-- that of a waveform that was found, for whoever calls `read`
pub entry_found : {text : List ℕ} {w : Watch} {place : ℕ} {ws : List Wave} {es : List Event} → Found text w place ws → wave_of w.signal w.char ws ≡ some es
    → EntryAt text place w.char es
entry_found {text} {w} {place} {ws} {es} f e =
    let q = sym e ∙ f.wave in
    let k : es ≡ get_or f.events.0 (number_of w.char f.chars) [] = cc in
    record { chars = f.chars; events = f.events; behind = f.behind; there = f.there; few = f.few; among = f.among; is = k }

-- ---- behind some lines

-- behind n of them the definition has the events `so_far` and reads on to the entry's own, and the arrays hold those of character i
pub record Upto {text : List ℕ} {place b : ℕ} {es : List Event} (x : EntryAt text place b es) (i : ℕ) (c : Cursor) (n : ℕ) (times times' letters letters' : List ℕ) : Type 0 where
  pub so_far : Events
  pub on : alive c ≡ true
  pub number : i ≡ number_of b x.chars
  pub rest : until "}" (event (length x.chars)) so_far (stream text c) ≡ ok x.events x.behind
  pub chars : length so_far.0 ≡ length x.chars
  pub lines : so_far.1 ≡ n
  pub reads : Reads (get_or so_far.0 i []) n times times' letters letters'

-- the first line begins with a quote, so that the loop's test sees no closing brace before it
events_until : (cs : List ℕ) (ts : Toks) {es : Events} {us : Toks} → events cs ts ≡ ok es us → until "}" (event (length cs)) (blanks cs, 0) ts ≡ ok es us
unfolding events ◌>>=◌
events_until cs ts {es} {us} e =
    let first = bind_ok (event (length cs) (blanks cs, 0)) (until "}" (event (length cs))) ts es us e in
    until_on "}" (event (length cs)) (takes_event (length cs)) (blanks cs, 0) ts (quote_ahead ts (line (length cs) (blanks cs, 0) ts first.2).quote) ∙ e

-- before the first line
pub upto_none : {text : List ℕ} {place b i p : ℕ} {es : List Event} {c d r : Cursor} {w : List ℕ} (times letters : List ℕ) (x : EntryAt text place b es)
    → Stands text place c → w ≡ (ahead_tok text c).word → i ≡ number_of b w → Goes text c word d (ahead_tok text c) → Goes text d (due "{") r p
    → Upto x i r 0 times times letters letters
unfolding chars_events
upto_none {text} {place} {b} {i} {p} {es} {c} {d} {r} {w} times letters x s q k g h =
    let first = bind_ok _ _ (toks text place) _ _ x.there in
    let brace = bind_ok _ _ first.1 _ _ first.3 in
    let lines = bind_ok _ _ brace.1 _ _ brace.3 in
    let is = give_ok lines.3 in
    let at-chars = went g (eq-eqb c.no 0 s.on) (ap word s.there ∙ first.2) in
    let at-brace = went h at-chars.on (ap (due "{") at-chars.behind ∙ brace.2) in
    let chars : first.0.word ≡ x.chars = ap (λ (y : Tok × Events). y.0.word) is.0 in
    record {
      so_far = (blanks x.chars, 0);
      on = at-brace.on;
      number = k ∙ ap (number_of b) (q ∙ ap (λ (t : Tok). t.word) at-chars.is ∙ chars);
      rest =
          events_until x.chars (stream text r)
          (ap (events x.chars) at-brace.behind ∙ ap (λ (u : List ℕ). events u brace.1) (sym chars) ∙ lines.2
          ∙ ap (λ (y : Tok × Events). ok y.1 lines.1) is.0 ∙ ap (ok x.events) is.1);
      chars = as_many x.chars;
      lines = refl;
      reads = rw (blank x.chars i) (reads_none times letters);
    }

module _ {text : List ℕ} {place b i n : ℕ} {es : List Event} {x : EntryAt text place b es} {c : Cursor} {times times' letters letters' : List ℕ}
    (u : Upto x i c n times times' letters letters') where
  below : i < length x.chars
  below = omega (arith, number_below b x.chars x.among, u.number)

  upto_number : i < entry_most
  upto_number = omega (arith, below, x.few)

  module _ {y : Bool} (e : y ≡ (alive c && not (ahead "}" (stream text c)))) where
    tested : not (ahead "}" (stream text c)) ≡ y
    tested = sym (e ∙ ap (λ (z : Bool). z && not (ahead "}" (stream text c))) u.on)

    -- the closing brace
    upto_all : y ≡ false → Reads es n times times' letters letters'
    upto_all h =
        let q : u.so_far ≡ x.events = until_end "}" (event (length x.chars)) (takes_event (length x.chars)) u.so_far (stream text c) (not-false _ (tested ∙ h)) u.rest in
        subst (λ (l : List Event). Reads l n times times' letters letters')
        (ap (λ (s : Events). get_or s.0 i []) q ∙ ap (λ (k : ℕ). get_or x.events.0 k []) u.number ∙ sym x.is) u.reads

    -- a line more
    module _ (h : y ≡ true) where
      turn : (s : Events) × (us : Toks) × (event (length x.chars) u.so_far (stream text c) ≡ ok s us)
          × (until "}" (event (length x.chars)) s us ≡ ok x.events x.behind)
      unfolding ◌>>=◌
      turn =
          bind_ok (event (length x.chars) u.so_far) (until "}" (event (length x.chars))) (stream text c) x.events x.behind
          (sym (until_on "}" (event (length x.chars)) (takes_event (length x.chars)) u.so_far (stream text c) (not-true _ (tested ∙ h))) ∙ u.rest)

      here : Line (length x.chars) u.so_far (stream text c) turn.0 turn.1
      here = line (length x.chars) u.so_far (stream text c) turn.2

      upto_room : n < entry_most
      upto_room = omega (arith, here.few, u.lines)

      module _ {r : EventRead} (a : OneEvent text c i r) where
        adds : Adds text i u.so_far turn.0 turn.1 r
        adds = a.adds u.on (length x.chars) u.so_far turn.0 turn.1 x.few below u.chars turn.2

        upto_less : left (stream text r.cursor) < left (stream text c)
        upto_less = omega (arith, ap left adds.behind, (takes_event (length x.chars) u.so_far).falls (stream text c) turn.0 turn.1 turn.2)

        upto_more : Upto x i r.cursor (n + 1) times (set times' n r.time) letters (set letters' n r.letter)
        upto_more =
            record {
              so_far = turn.0;
              on = adds.on;
              number = u.number;
              rest = ap (until "}" (event (length x.chars)) turn.0) adds.behind ∙ turn.3;
              chars = added_length _ _ _ here.added ∙ u.chars;
              lines = omega (arith, here.lines, u.lines);
              reads = rw adds.is (reads_more (record { time = r.time; letter = r.letter }) upto_room u.reads);
            }

-- ---- what the code's loop keeps

-- there is an entry, and so it is for whatever stands there
pub record Reading (text : List ℕ) (place b i : ℕ) (c : Cursor) (n : ℕ) (times times' letters letters' : List ℕ) : Type 0 where
  pub some : (es : List Event) × EntryAt text place b es
  pub sized : (length times ≡ entry_most) × (length letters ≡ entry_most)
  pub each : (es : List Event) (x : EntryAt text place b es) → Upto x i c n times times' letters letters'

module _ {text : List ℕ} {place b i n : ℕ} {c : Cursor} {times times' letters letters' : List ℕ} (k : Reading text place b i c n times times' letters letters') where
  one : Upto k.some.1 i c n times times' letters letters'
  one = k.each k.some.0 k.some.1

  pub number_few : i < entry_most
  number_few = upto_number one

  pub same_times : length times' ≡ length times
  same_times = times_kept one.reads

  pub same_letters : length letters' ≡ length letters
  same_letters = letters_kept one.reads

  module _ {y : Bool} (e : y ≡ (alive c && not (ahead "}" (stream text c)))) where
    pub all_read : y ≡ false → (es : List Event) → EntryAt text place b es → Reads es n times times' letters letters'
    all_read h es x = upto_all (k.each es x) e h

    module _ (h : y ≡ true) where
      pub lines_few : n < entry_most
      lines_few = upto_room one e h

      pub time_room : n < length times'
      time_room = omega (arith, lines_few, same_times, k.sized.0)

      pub letter_room : n < length letters'
      letter_room = omega (arith, lines_few, same_letters, k.sized.1)

      module _ {r : EventRead} (a : OneEvent text c i r) where
        pub fewer_left : left (stream text r.cursor) < left (stream text c)
        fewer_left = upto_less one e h a

        pub line_read : Reading text place b i r.cursor (n + 1) times (set times' n r.time) letters (set letters' n r.letter)
        line_read = record { some = k.some; sized = k.sized; each = λ es x. upto_more (k.each es x) e h a }
