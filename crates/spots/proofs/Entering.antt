-- Entries read again: their events, and the spots that they leave.
use Prim.Native.Nat.{ℕ, suc, ◌+◌, ◌≤◌, ◌<◌}
use native.Mathlib.Omega.{arith}
use mathlib.Core.Path.{◌≡◌, refl, sym, ap, ◌∙◌, subst}
use mathlib.Core.Bool.{Bool, true, false, ◌||◌}
use mathlib.Core.List.{List, [], ◌∷◌, ◌++◌}
use lib.ListN.{length}
use lib.Dec.{ltb, leb}
use borrow.Author.Tests.{not-false, leb-false}
use Rattle.tokens.specs.Tokens.{Tok, Toks, toks}
use Rattle.meaning.specs.Bounds.{entry_most}
use Rattle.meaning.specs.Lists.{repeats}
use Rattle.meaning.specs.Reader.{Reader, ok, after, ◌>>=◌, give, any, is_word, word, due, until}
use Rattle.meaning.specs.Names.{old_name}
use Rattle.meaning.specs.Timing.{Wave, Events, event, blanks, taken, waves_for, entry, waveforms}
use Rattle.meaning.proofs.Gives.{bind_ok, bind_go, give_ok, gives_if}
use Rattle.meaning.proofs.SameTokens.{stands_there}
use Rattle.held.proofs.Rest.{moves_leaves, moves_word, moves_due, moves_old}
use Rattle.held.proofs.Grammar.{moves_event}
use Rattle.words.specs.Cursor.{stream, Goes, ahead as ahead_tok}
use Rattle.words.specs.declared.Cursor.{Cursor}
use Rattle.words.specs.Table.{names}
use Rattle.words.proofs.Names.{old_named}
use Rattle.signals.specs.Names.{list_at, names_of}
use Rattle.signals.proofs.Tables.{old_below}
use Rattle.words.proofs.Flow.{read, stream_on, stream_stop, went}
use Rattle.timing.specs.Events.{events}
use Rattle.timing.specs.Watch.{chars_events}
use Rattle.timing.specs.Marks.{Below}
use Rattle.timing.proofs.EventTimes.{as_many}
use Rattle.waves.specs.Waves.{OneEvent}
use Rattle.waves.specs.declared.EventRead.{EventRead}
use Rattle.waves.proofs.Lines.{line, added_length}
use Rattle.spots.specs.Answers.{Answers, Behind}
use Rattle.spots.specs.Spots.{Spots, Stored, Listed}
use Rattle.spots.proofs.Following.{parts, behind, next, tested}
use Rattle.spots.proofs.Spotting.{spots_more}

-- ---- one event

pub event_follows : {text : List ℕ} {c : Cursor} {n : ℕ} {r : EventRead} → OneEvent text c 0 r → 0 < n → n ≤ entry_most
    → (s s' : Events) (vs : Toks) → length s.0 ≡ n → Answers text c (event n s) s' vs → Behind text r.cursor vs × (length s'.0 ≡ n)
event_follows {n = n} o z k s s' vs l x =
    let a = o.adds x.on n s s' vs k z l x.gives in
    (record { on = a.on; there = a.behind }, added_length _ _ _ (line n s _ x.gives).added ∙ l)

-- ---- a word

word_real : (w : List ℕ) → is_word w ≡ true → 0 < length w
unfolding is_word
word_real [] e = let z : ◌≡◌ {A = ℕ} 0 1 = cc in absurd (omega arith)
word_real (b ∷ s) e = omega arith

word_some : (ts : Toks) {t : Tok} {us : Toks} → word ts ≡ ok t us → 0 < length t.word
unfolding word
word_some ts {t} {us} e =
    let i = bind_ok _ _ ts t us e in
    let j = bind_ok _ _ i.1 t us i.3 in
    rw (give_ok j.3).0 at (word_real i.0.word (not-false _ ((gives_if _ _ _).all _ _ _ j.2)))

-- it is ahead of a cursor from which one is read
word_ahead : (text : List ℕ) (c : Cursor) {t : Tok} {us : Toks} → word (stream text c) ≡ ok t us → ltb c.at c.end ≡ true
unfolding word any ◌>>=◌ after
word_ahead text c {t} {us} e = by (ltb c.at c.end) refl
  where
    by : (b : Bool) → ltb c.at c.end ≡ b → b ≡ true
    by true q = refl
    by false q = let o = sym (ap word (stream_stop text c q)) ∙ e in let z : ◌≡◌ {A = ℕ} 0 1 = cc in absurd (omega arith)

-- ---- an entry

-- what the code meets of an entry: its CHARS, its first event, and the rest of its events
pub record Entry (text : List ℕ) (c : Cursor) (sigs : List ℕ) (ws a : List Wave) (us : Toks) (f : Cursor) : Type 0 where
  pub token : ltb c.at c.end ≡ true
  pub some : 0 < length (ahead_tok text c).word
  pub few : length (ahead_tok text c).word ≤ entry_most
  pub free : taken sigs (ahead_tok text c).word ws ≡ false
  pub first : Events
  pub chars : length first.0 ≡ length (ahead_tok text c).word
  pub events : Events
  pub rest : Answers text f (until "}" (event (length (ahead_tok text c).word)) first) events us
  pub is : a ≡ ws ++ waves_for sigs (ahead_tok text c).word events.0
  pub there : chars_events (toks text c.at) ≡ ok (ahead_tok text c, events) us

pub entry_parts : {text : List ℕ} {c d e : Cursor} {sigs : List ℕ} {ws a : List Wave} {us : Toks} {p : ℕ} {f : EventRead} → Answers text c (entry sigs ws) a us
    → Goes text c word d (ahead_tok text c) → Goes text d (due "{") e p → OneEvent text e 0 f → Entry text c sigs ws a us f.cursor
unfolding entry chars_events events give
entry_parts {text} {c} {d} {e} {sigs} {ws} {a} {us} {p} {f} x g h o =
    let cs : List ℕ = (ahead_tok text c).word in
    let closing : (Events → Reader (List Wave)) = λ es. give (ws ++ waves_for sigs cs es.0) in
    let others : (Events → Reader (List Wave)) = λ e. until "}" (event (length cs)) e >>= closing in
    let w = parts word _ x in
    let at_word = next word _ (moves_leaves moves_word) x g in
    let small = tested (leb (suc entry_most) (length cs)) _ _ _ at_word in
    let free = tested (repeats cs || taken sigs cs ws) _ _ _ small.1 in
    let good = tested _ _ _ _ free.1 in
    let at-brace = next (due "{") _ (moves_leaves (moves_due _)) good.1 h in
    let one = parts (event (length cs) (blanks cs, 0)) others at-brace in
    let many : length cs < suc entry_most = leb-false (suc entry_most) (length cs) small.0 in
    let token = word_ahead text c w.2.gives in
    let got = went g x.on w.2.gives in
    let some : 0 < length cs = subst (λ (t : Tok). 0 < length t.word) (sym got.is) (word_some (stream text c) w.2.gives) in
    let next-event = event_follows o some (omega arith) (blanks cs, 0) one.0 one.1 (as_many cs) one.2 in
    let at_rest = behind (event (length cs) (blanks cs, 0)) others (moves_leaves (moves_event _ _)) one.2 one.3 next-event.0 in
    let all = parts (until "}" (event (length cs)) one.0) closing at_rest in
    let end = give_ok all.3 in
    let read_word = read g at_word.on in
    let read-brace = read h at-brace.on in
    let s = stream_on text c token in
    let place = stands_there text (ahead_tok text c) (toks text c.end) (record { at = x.placed.0; is = sym s ∙ x.placed.1 }) ∙ sym s in
    record {
      token = token;
      some = some;
      few = omega arith;
      free = or_second (repeats cs) (taken sigs cs ws) free.0;
      first = one.0;
      chars = next-event.1;
      events = all.0;
      rest = rw end.1 at all.2;
      is = sym end.0;
      there =
          ap chars_events place
          ∙ bind_go word _ (stream text c) (ahead_tok text c) (stream text d) read_word.gave
          ∙ bind_go (due "{") _ (stream text d) p (stream text e) read-brace.gave
          ∙ bind_go (events cs) _ (stream text e) all.0 all.1
          (bind_go (event (length cs) (blanks cs, 0)) _ (stream text e) one.0 one.1 one.2.gives ∙ ap (until "}" (event (length cs)) one.0) (sym next-event.0.there) ∙ all.2.gives)
          ∙ ap (ok (ahead_tok text c, all.0)) end.1;
    }
  where
    or_second : (x y : Bool) → (x || y) ≡ false → y ≡ false
    or_second true y q = let z : ◌≡◌ {A = ℕ} 0 1 = cc in absurd (omega arith)
    or_second false y q = q

-- the code's spots are those of an entry more
pub entry_spots : {text : List ℕ} {c f r : Cursor} {sigs w : List ℕ} {ws a : List Wave} {us : Toks} {before after : List ℕ} → Entry text c sigs ws a us f → Spots text before ws
    → w ≡ (ahead_tok text c).word → Stored before sigs w (c.at + 1) after
    → ((n : ℕ) (s es : Events) (us : Toks) → 0 < n → n ≤ entry_most → length s.0 ≡ n → Answers text f (until "}" (event n) s) es us → Behind text r us × (length es.0 ≡ n))
    → Behind text r us × Spots text after a
entry_spots {text} {c} {sigs = sigs} {after = after} x b q st k =
    let y = k _ x.first x.events _ x.some x.few x.chars x.rest in
    (y.0, rw x.is (spots_more sigs (ahead_tok text c).word x.events c.at b (rw q at st) x.free y.1 x.few x.there))

-- ---- a name

module _ {text : List ℕ} (places : List ℕ) {c d : Cursor} {t : Tok} {i : ℕ} (ws : List Wave) {a : List Wave} {us : Toks} where
  -- its signals have spots
  pub name_below : {lists sigs : List ℕ} {count : ℕ} → Listed lists count → Answers text c (waveforms (names_of text places lists count) ws) a us
      → Goes text c (old_name (names text places count)) d (t, i) → sigs ≡ list_at lists i → Below sigs
  unfolding waveforms
  name_below {lists} {sigs} {count} l x g q =
      let y = next (old_name (names_of text places lists count)) _ (moves_leaves (moves_old _)) x (old_named (list_at lists) (names text places count) g) in
      subst Below (sym q) (l.below i (old_below places count g y.on))

  -- and its entries are read
  pub name_entries : (lists : List ℕ) (count : ℕ) {e : Cursor} {p : ℕ} {sigs : List ℕ} → Answers text c (waveforms (names_of text places lists count) ws) a us
      → Goes text c (old_name (names text places count)) d (t, i) → Goes text d (due "{") e p → sigs ≡ list_at lists i → Answers text e (until "}" (entry sigs) ws) a us
  unfolding waveforms
  name_entries lists count x g h q =
      let y = next (old_name (names_of text places lists count)) _ (moves_leaves (moves_old _)) x (old_named (list_at lists) (names text places count) g) in
      rw q (next (due "{") _ (moves_leaves (moves_due _)) y h)
