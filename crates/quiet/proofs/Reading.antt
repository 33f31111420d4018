-- What is read again, part by part: an event, an entry, a name's entries, a table.
use Prim.Native.Nat.{ℕ, ◌≤◌, ◌<◌}
use native.Mathlib.Omega.{arith}
use mathlib.Core.Path.{◌≡◌, sym, ◌∙◌, subst}
use mathlib.Core.Option.{Option, none, some}
use mathlib.Core.List.{List, [], ◌∷◌, ◌++◌}
use lib.ListN.{length}
use Rattle.tokens.specs.Tokens.{Tok, Toks}
use Rattle.meaning.specs.Bounds.{entry_most}
use Rattle.meaning.specs.Reader.{Reader, after, ◌>>=◌, give, word, due, until}
use Rattle.meaning.specs.Names.{name, known, old_name}
use Rattle.meaning.specs.Signals.{Names}
use Rattle.meaning.specs.Timing.{Events, Wave, Tables, event, blanks, waves_for, entry, waveforms}
use Rattle.meaning.proofs.Gives.{give_ok}
use Rattle.held.proofs.Rest.{moves_leaves, moves_due, moves_word, moves_name, moves_old}
use Rattle.held.proofs.Grammar.{moves_event}
use Rattle.words.specs.Cursor.{Goes, ahead as ahead_tok}
use Rattle.words.specs.declared.Cursor.{Cursor}
use Rattle.timing.proofs.EventTimes.{as_many}
use Rattle.waves.specs.Waves.{OneEvent}
use Rattle.waves.specs.declared.EventRead.{EventRead}
use Rattle.waves.proofs.Lines.{line, added_length}
use Rattle.spots.specs.Answers.{Answers, Behind}
use Rattle.spots.proofs.Following.{parts, behind, next, tested, finished}
use Rattle.spots.proofs.Entering.{entry_parts}
use Rattle.quiet.specs.Quiet.{earliest, Inside, Lined, WavesIn, TablesIn}
use Rattle.quiet.proofs.Each.{each-++, each_more}
use Rattle.quiet.proofs.Adding.{added_in, time_is, blanks_in, waves_for_lem}

-- ---- an event whose time lies within the cycle

pub event_keeps : {text : List ℕ} {c : Cursor} {n period : ℕ} {r : EventRead} → OneEvent text c 0 r → Inside earliest period r.time → 0 < n → n ≤ entry_most
    → (s s' : Events) (us : Toks) → Lined period n s → Answers text c (event n s) s' us → Behind text r.cursor us × Lined period n s'
event_keeps {text} {c} {n} {period} {r} o i z k s s' us h x =
    let a = o.adds x.on n s s' us k z h.count x.gives in
    let l = line n s _ x.gives in
    let own : r.time ≡ l.t = time_is l.t _ s.0 (record { time = r.time; letter = r.letter }) l.added (omega (arith, h.count)) a.is in (
      record { on = a.on; there = a.behind },
      record {
        count = added_length _ _ _ l.added ∙ h.count;
        all = added_in period l.t _ s.0 l.added (subst (Inside earliest period) own i) h.all;
      },
    )

-- ---- an entry

-- its first event is within the cycle; its others are read from f on
pub record Entry (text : List ℕ) (period : ℕ) (sigs : List ℕ) (ws a : List Wave) (us : Toks) (f : Cursor) : Type 0 where
  pub chars : List ℕ
  pub some : 0 < length chars
  pub few : length chars ≤ entry_most
  pub first : Events
  pub lined : Lined period (length chars) first
  pub events : Events
  pub rest : Answers text f (until "}" (event (length chars)) first) events us
  pub is : ws ++ waves_for sigs chars events.0 ≡ a

pub entry_reads : {text : List ℕ} {c d e : Cursor} {sigs : List ℕ} {ws a : List Wave} {us : Toks} {period p : ℕ} {f : EventRead} → Answers text c (entry sigs ws) a us
    → Goes text c word d (ahead_tok text c) → Goes text d (due "{") e p → OneEvent text e 0 f → Inside earliest period f.time → Entry text period sigs ws a us f.cursor
unfolding entry
entry_reads {text} {c} {d} {e} {sigs} {ws} {a} {us} {period} {p} {f} x g h o i =
    let cs : List ℕ = (ahead_tok text c).word in
    let closing : (Events → Reader (List Wave)) = λ es. give (ws ++ waves_for sigs cs es.0) in
    let others : (Events → Reader (List Wave)) = λ e. until "}" (event (length cs)) e >>= closing in
    let y = entry_parts x g h o in
    let small = tested _ _ _ _ (next word _ (moves_leaves moves_word) x g) in
    let free = tested _ _ _ _ small.1 in
    let good = tested _ _ _ _ free.1 in
    let one = parts (event (length cs) (blanks cs, 0)) others (next (due "{") _ (moves_leaves (moves_due _)) good.1 h) in
    let k = event_keeps o i y.some y.few (blanks cs, 0) one.0 one.1 (record { count = as_many cs; all = blanks_in period cs }) one.2 in
    let all = parts (until "}" (event (length cs)) one.0) closing (behind (event (length cs) (blanks cs, 0)) others (moves_leaves (moves_event _ _)) one.2 one.3 k.0) in
    let end = give_ok all.3 in
    record {
      chars = cs;
      some = y.some;
      few = y.few;
      first = one.0;
      lined = k.1;
      events = all.0;
      rest = rw end.1 at all.2;
      is = end.0;
    }

pub entry_keeps : {text : List ℕ} {period : ℕ} {sigs : List ℕ} {ws a : List Wave} {us : Toks} {f : Cursor} (x : Entry text period sigs ws a us f) → WavesIn period ws
    → Lined period (length x.chars) x.events → WavesIn period a
entry_keeps {period = period} {sigs = sigs} {ws = ws} x h l = subst (WavesIn period) x.is (each-++ _ ws _ h (waves_for_lem period sigs x.chars x.events.0 l.all))

-- ---- a name

-- something that was found
found : {A B : Type 0} {text : List ℕ} {c : Cursor} (o : Option A) (n p : ℕ) (k : A → Reader B) {b : B} {us : Toks} → Answers text c (known o n p >>= k) b us
    → (a : A) × Answers text c (k a) b us
unfolding known ◌>>=◌ after
found none n p k x = let q = x.gives in let z : ◌≡◌ {A = ℕ} 0 1 = cc in absurd (omega arith)
found (some a) n p k x = (a, record { on = x.on; placed = x.placed; gives = x.gives })

-- whatever it stands for, its entries are read
pub name_reads : {text : List ℕ} {c d e : Cursor} {t : Tok} {p : ℕ} (ns : Names) (ws : List Wave) {a : List Wave} {us : Toks} → Answers text c (waveforms ns ws) a us
    → Goes text c name d t → Goes text d (due "{") e p → (sigs : List ℕ) × Answers text e (until "}" (entry sigs) ws) a us
unfolding waveforms old_name
name_reads ns ws x g h =
    let named = parts (old_name ns) (λ y. due "{" >>= λ p. until "}" (entry y.1) ws) x in
    let own = found _ _ _ _ (next name _ (moves_leaves moves_name) named.2 g) in
    let end = finished _ own.1 in
    let on = behind (old_name ns) (λ y. due "{" >>= λ p. until "}" (entry y.1) ws) (moves_leaves (moves_old ns)) named.2 named.3 end.1 in
    (named.0.1, next (due "{") _ (moves_leaves (moves_due _)) on h)

-- ---- tables

pub one_more_lem : (tabs : Tables) {it : Tables} (t : Tok) (n : ℕ) (ws : List Wave) → it ≡ tabs ++ (t, record { period = n; waves = ws }) ∷ [] → TablesIn tabs → WavesIn n ws → TablesIn it
one_more_lem tabs t n ws e h k = subst TablesIn (sym e) (each_more _ tabs (t, record { period = n; waves = ws }) h k)
