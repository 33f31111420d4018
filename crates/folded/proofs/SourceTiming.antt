-- What a text that was read tells of its tables: names, periods, and waveforms of its signals whose events may be written again.
use Prim.Native.Nat.{ℕ, zero, suc, ◌≤◌, ◌<◌}
use native.Mathlib.Omega.{arith}
use mathlib.Core.Path.{◌≡◌, refl, subst}
use mathlib.Core.Bool.{Bool, true, false, ◌&&◌, ◌||◌}
use mathlib.Core.Option.{Option, none, some}
use mathlib.Core.List.{List, [], ◌∷◌, ◌++◌}
use lib.Dec.{leb}
use lib.ListN.{length, length-append}
use borrow.Author.Tests.{leb-true, leb-false, not-false}
use Rattle.tokens.specs.Written.{bytes, same}
use Rattle.tokens.specs.Tokens.{Tok, Toks}
use Rattle.meaning.specs.Bounds.{entry_most, tables_most, time_most}
use Rattle.meaning.specs.Reader.{Res, ok, refuse, ◌>>=◌, ahead_of, ahead, due}
use Rattle.meaning.specs.Names.{is_name, find, old_name, within}
use Rattle.meaning.specs.Signals.{Names}
use Rattle.meaning.specs.Timing.{Event, Wave, Table, Tables, quoted, counted_most, signed_quoted, drives, compares, event_letter, letter_due, alternative, letters, spread, rises, add_events, Events, one_event, event, wave_char, all_chars, blanks, waves_of, waves_for, entry, waveforms, table, timing}
use Rattle.meaning.specs.Refusals.{too_many}
use Rattle.meaning.proofs.Gives.{bind_ok, known_ok}
use Rattle.meaning.proofs.Signs.{gives_signed}
use Rattle.held.proofs.Rest.{moves_leaves, moves_due}
use Rattle.held.proofs.Grammar.{moves_table}
use Rattle.held.proofs.Leads.{Leads, leads_bind, leads_give, leads_if, leads_while, leads_until}
use Rattle.held.proofs.Due.{due_is}
use Rattle.held.proofs.Places.{Stream, rest_stream}
use Rattle.sets.proofs.Tidy.{TidyBelow, bare, next}
use Rattle.signals.specs.Names.{AllTidy, none as no_more, more}
use Rattle.folded.proofs.Words.{Proper}
use Rattle.words.proofs.Words.{same_self}
use Rattle.folded.proofs.Reading.{AllFit, SomeFit}
use Rattle.folded.proofs.TimingBack.{NewEvent, FirstFits}
use Rattle.folded.proofs.Sources.{new_reads, fit_more}

-- ---- times and letters

within_reads : (a b : ℕ) (o : Option ℕ) (p : ℕ) (ts : Toks) → Leads (within a b o p) ts (λ n us. (a ≤ n) × (n ≤ b))
unfolding within
within_reads a b none p ts = record { all = λ n us q. absurd (let z : ◌≡◌ {A = ℕ} 0 1 = cc in omega arith) }
within_reads a b (some m) p ts = record { all = λ n us q. by n us (leb a m) (leb m b) refl refl q }
  where
    by : (n : ℕ) (us : Toks) (x y : Bool) → leb a m ≡ x → leb m b ≡ y → ◌≡◌ {A = Res ℕ} (elim (x && y) [ true ↦ ok m ts | false ↦ refuse 9 p ]) (ok n us) → (a ≤ n) × (n ≤ b)
    by n us true true e f q = let z : m ≡ n = cc in (subst (λ (k : ℕ). a ≤ k) z (leb-true a m e), subst (λ (k : ℕ). k ≤ b) z (leb-true m b f))
    by n us true false e f q = absurd (let z : ◌≡◌ {A = ℕ} 0 1 = cc in omega arith)
    by n us false y e f q = absurd (let z : ◌≡◌ {A = ℕ} 0 1 = cc in omega arith)

quoted_reads : (a : ℕ) (ts : Toks) → Leads (quoted a) ts (λ n us. (a ≤ n) × (n ≤ time_most))
unfolding quoted
quoted_reads a ts = leads_bind _ _ λ p vs v. leads_bind _ _ λ t ws w. leads_bind _ _ λ n xs x. leads_bind _ _ λ q ys y. leads_give n ((within_reads a time_most _ _ ws).all n xs x)

-- a letter that is an event
abbrev Real : ℕ → Type 0
Real e = event_letter (e ∷ []) ≡ some e

abbrev AllReal : List ℕ → Type 0
AllReal [] = Unit {0}
AllReal (e ∷ es) = Real e × AllReal es

real_letter : (w : List ℕ) (e : ℕ) → event_letter w ≡ some e → Real e
unfolding event_letter
real_letter [] e h = absurd (let z : ◌≡◌ {A = ℕ} 0 1 = cc in omega arith)
real_letter (b ∷ []) e h = by (drives b || compares b) refl h
  where
    by : (c : Bool) → (drives b || compares b) ≡ c → ◌≡◌ {A = Option ℕ} (elim c [ true ↦ some b | false ↦ none ]) (some e) → Real e
    by true q h = let z : b ≡ e = cc in subst (λ (x : ℕ). Real x) z (rw (q, event_letter))
    by false q h = absurd (let z : ◌≡◌ {A = ℕ} 0 1 = cc in omega arith)
real_letter (b ∷ c ∷ s) e h = absurd (let z : ◌≡◌ {A = ℕ} 0 1 = cc in omega arith)

letter_reads : (ts : Toks) → Leads letter_due ts (λ e us. Real e)
unfolding letter_due
letter_reads ts = leads_bind _ _ λ t us q. record { all = λ e vs v. real_letter t.word e (known_ok _ _ _ us v) }

real_more : (es : List ℕ) (e : ℕ) → AllReal es → Real e → AllReal (es ++ e ∷ [])
real_more [] e h k = (k, tt)
real_more (f ∷ es) e h k = (h.0, real_more es e h.1 k)

letters_read : (ts : Toks) → Leads letters ts (λ es us. AllReal es)
unfolding letters alternative
letters_read ts =
    leads_bind _ _ λ e us q. leads_while (λ es ts. AllReal es) alternative
    (λ es ts i. leads_bind _ _ λ p vs v. leads_bind _ _ λ f ws w. leads_give _ (real_more es f i ((letter_reads vs).all f ws w))) _ (e ∷ []) us ((letter_reads ts).all e us q, tt)

real_spread : (n : ℕ) (es : List ℕ) → AllReal es → AllReal (spread n es)
unfolding spread
real_spread zero es h = tt
real_spread (suc n) [] h = tt
real_spread (suc n) (e ∷ []) h = (h.0, real_spread n (e ∷ []) h)
real_spread (suc n) (e ∷ f ∷ es) h = (h.0, real_spread n (f ∷ es) h.1)

-- ---- events

-- each character has k events, which may be written one behind the other
abbrev Each : ℕ → List (List Event) → Type 0
Each k [] = Unit {0}
Each k (c ∷ cs) = (AllFit NewEvent [] c × (length c ≡ k)) × Each k cs

each_added : (k t : ℕ) (es : List ℕ) (cs r : List (List Event)) → AllReal es → t ≤ counted_most → k < entry_most → Each k cs → add_events t es cs ≡ some r → Each (suc k) r
unfolding add_events
each_added k t [] [] r h m s g e = let q : [] ≡ r = cc in subst (Each (suc k)) q tt
each_added k t [] (c ∷ cs) r h m s g e = absurd (let z : ◌≡◌ {A = ℕ} 0 1 = cc in omega arith)
each_added k t (l ∷ es) [] r h m s g e = absurd (let z : ◌≡◌ {A = ℕ} 0 1 = cc in omega arith)
each_added k t (l ∷ es) (c ∷ cs) r h m s g e = by (rises t l c) refl (add_events t es cs) e (λ r. each_added k t es cs r h.1 m s g.1)
  where
    by : (b : Bool) → rises t l c ≡ b → (o : Option (List (List Event)))
        → ◌≡◌ {A = Option (List (List Event))}
        (elim b [ false ↦ none | true ↦ elim o [ none ↦ none | some r ↦ some ((c ++ record { time = t; letter = l } ∷ []) ∷ r) ] ]) (some r)
        → ((r : List (List Event)) → o ≡ some r → Each (suc k) r) → Each (suc k) r
    by false q o e ih = absurd (let z : ◌≡◌ {A = ℕ} 0 1 = cc in omega arith)
    by true q none e ih = absurd (let z : ◌≡◌ {A = ℕ} 0 1 = cc in omega arith)
    by true q (some y) e ih =
        let z : (c ++ record { time = t; letter = l } ∷ []) ∷ y ≡ r = cc in
        let n : NewEvent c (record { time = t; letter = l }) = record { rising = q; within = m; lettered = h.0; few = omega (arith, g.0.1) } in
        subst (Each (suc k)) z ((fit_more NewEvent [] c _ g.0.0 n, omega (arith, length-append c (record { time = t; letter = l } ∷ []), g.0.1)), ih y refl)

record EventsGood (s : Events) : Type 0 where
  pub each : Each s.1 s.0
  pub few : s.1 ≤ entry_most

abbrev SomeEvents : Events → Toks → Type 0
SomeEvents s ts = EventsGood s × (0 < s.1)

one_event_reads : (n : ℕ) (s : Events) (ts : Toks) → EventsGood s → s.1 < entry_most → Leads (one_event n s) ts SomeEvents
unfolding one_event
one_event_reads n s ts g h =
    leads_bind _ _ λ t vs v. leads_bind _ _ λ es ws w. leads_bind _ _ λ q xs x. leads_if _ _ _ _ λ c. leads_bind _ _ λ cs ys y.
    leads_give _ (
      record {
        each = each_added s.1 t (spread n es) s.0 cs (real_spread n es ((letters_read vs).all es ws w)) (gives_signed.all ts t vs v) h g.each (known_ok _ _ _ xs y);
        few = omega arith;
      },
      omega arith,
    )

-- an event begins with a quote
one_event_ahead : (n : ℕ) (s : Events) (ts : Toks) → Leads (one_event n s) ts (λ r us. ahead "'" ts ≡ true)
unfolding one_event signed_quoted ahead_of
one_event_ahead n s ts = record {
  all = λ r us q. (
      let i = bind_ok signed_quoted _ ts r us q in
      let j = bind_ok (due "'") _ ts i.0 i.1 i.2 in
      rw ((due_is (bytes "'") ts).all j.0 j.1 j.2) (same_self (bytes "'")));
}

event_reads : (n : ℕ) (s : Events) (ts : Toks) → EventsGood s → Leads (event n s) ts SomeEvents
unfolding event
event_reads n s ts g = record { all = λ r us q. by r us (ahead "'" ts) refl (leb entry_most s.1) refl q }
  where
    by : (r : Events) (us : Toks) (a : Bool) → ahead "'" ts ≡ a → (b : Bool) → leb entry_most s.1 ≡ b
        → ◌≡◌ {A = Res Events} (elim (a && b) as (λ c. Res Events) [ true ↦ (due "'" >>= λ p us. refuse too_many p) ts | false ↦ one_event n s ts ]) (ok r us) → SomeEvents r us
    by r us true e true f q = absurd (let i = bind_ok (due "'") _ ts r us q in let j = i.3 in let z : ◌≡◌ {A = ℕ} 0 1 = cc in omega arith)
    by r us true e false f q = (one_event_reads n s ts g (leb-false entry_most s.1 f)).all r us q
    by r us false e b f q = absurd (let t = (one_event_ahead n s ts).all r us q in let z : ◌≡◌ {A = ℕ} 0 1 = cc in omega arith)

-- ---- waveforms

-- a waveform of one of n signals
pub record SoundWave (n : ℕ) (w : Wave) : Type 0 where
  pub below : w.signal < n
  pub char : wave_char w.char ≡ true
  pub events : FirstFits w.events

abbrev pub AllSound : ℕ → List Wave → Type 0
AllSound n [] = Unit {0}
AllSound n (w ∷ ws) = SoundWave n w × AllSound n ws

abbrev Below : ℕ → List ℕ → Type 0
Below n [] = Unit {0}
Below n (s ∷ ss) = (s < n) × Below n ss

sound-++ : (n : ℕ) (ws vs : List Wave) → AllSound n ws → AllSound n vs → AllSound n (ws ++ vs)
sound-++ n [] vs h k = k
sound-++ n (w ∷ ws) vs h k = (h.0, sound-++ n ws vs h.1 k)

first_fits : (k : ℕ) (c : List Event) → 0 < k → AllFit NewEvent [] c → length c ≡ k → FirstFits c
first_fits k [] h f e = absurd (omega arith)
first_fits k (x ∷ c) h f e = f

sound_of_lem : (n s k : ℕ) (cs : List ℕ) (es : List (List Event)) → s < n → all_chars cs ≡ true → 0 < k → Each k es → AllSound n (waves_of s cs es)
unfolding waves_of all_chars
sound_of_lem n s k [] es b h p g = tt
sound_of_lem n s k (c ∷ cs) [] b h p g = tt
sound_of_lem n s k (c ∷ cs) (e ∷ es) b h p g = by (wave_char c) refl h (λ h. sound_of_lem n s k cs es b h p g.1)
  where
    by : (x : Bool) → wave_char c ≡ x → (x && all_chars cs) ≡ true → (all_chars cs ≡ true → AllSound n (waves_of s cs es))
        → AllSound n (record { signal = s; char = c; events = e } ∷ waves_of s cs es)
    by true q h ih = (record { below = b; char = q; events = first_fits k e p g.0.0 g.0.1 }, ih h)
    by false q h ih = absurd (let z : ◌≡◌ {A = ℕ} 0 1 = cc in omega arith)

sound_for : (n k : ℕ) (ss cs : List ℕ) (es : List (List Event)) → Below n ss → all_chars cs ≡ true → 0 < k → Each k es → AllSound n (waves_for ss cs es)
unfolding waves_for
sound_for n k [] cs es b h p g = tt
sound_for n k (s ∷ ss) cs es b h p g = sound-++ n (waves_of s cs es) (waves_for ss cs es) (sound_of_lem n s k cs es b.0 h p g) (sound_for n k ss cs es b.1 h p g)

each_blank : (cs : List ℕ) → Each 0 (blanks cs)
unfolding blanks
each_blank [] = tt
each_blank (c ∷ cs) = ((tt, refl), each_blank cs)

-- a table among those before it
pub record TableFits (n : ℕ) (before : Tables) (x : Tok × Table) : Type 0 where
  pub proper : Proper x.0.word
  pub is_name_lem : is_name x.0.word ≡ true
  pub new : find before x.0.word ≡ none
  pub few : length before < tables_most
  pub some_time : 1 ≤ x.1.period
  pub within : x.1.period ≤ time_most
  pub sound : AllSound n x.1.waves

module _ (n : ℕ) where
  entry_reads : (ss : List ℕ) (ws : List Wave) (ts : Toks) → Below n ss → AllSound n ws → Leads (entry ss ws) ts (λ ws us. AllSound n ws)
  unfolding entry
  entry_reads ss ws ts b g =
      leads_bind _ _ λ t vs v. leads_if _ _ _ _ λ c. leads_if _ _ _ _ λ d. leads_if _ _ _ _ λ f. leads_bind _ _ λ p xs x.
      leads_bind _ _ λ e ys y. leads_bind _ _ λ es zs z.
      let first = (event_reads (length t.word) (blanks t.word, 0) xs (record { each = each_blank t.word; few = omega arith })).all e ys y in
      let all = (leads_until SomeEvents (event (length t.word)) (λ s ts i. event_reads (length t.word) s ts i.0) (λ s us ts r i. i) "}" e ys first).all es zs z in
      leads_give _ (sound-++ n ws _ g (sound_for n es.1 ss t.word es.0 b (not-false _ f) all.1 all.0.each))

  below_tidy : {ss : List ℕ} → TidyBelow n ss → Below n ss
  below_tidy bare = tt
  below_tidy (next h f t) = (h, below_tidy t)

  find_below : (ns : Names) → AllTidy n ns → (w l : List ℕ) → find ns w ≡ some l → Below n l
  unfolding find
  find_below [] no_more w l e = absurd (let z : ◌≡◌ {A = ℕ} 0 1 = cc in omega arith)
  find_below ((t, k) ∷ ns) (more h hs) w l e = by (same t.word w) e (find_below ns hs w l)
    where
      by : (b : Bool) → ◌≡◌ {A = Option (List ℕ)} (elim b [ true ↦ some k | false ↦ find ns w ]) (some l) → (find ns w ≡ some l → Below n l) → Below n l
      by true e r = let q : k ≡ l = cc in subst (Below n) q (below_tidy h)
      by false e r = r e

  module _ (ns : Names) (tidy : AllTidy n ns) where
    old_reads : (ts : Toks) → Leads (old_name ns) ts (λ x us. Below n x.1)
    unfolding old_name
    old_reads ts = leads_bind _ _ λ t us q. leads_bind _ _ λ l vs v. leads_give _ (find_below ns tidy t.word l (known_ok _ _ _ us v))

    waveforms_read : (ws : List Wave) (ts : Toks) → AllSound n ws → Leads (waveforms ns ws) ts (λ ws us. AllSound n ws)
    unfolding waveforms
    waveforms_read ws ts g =
        leads_bind _ _ λ x us q. leads_bind _ _ λ p vs v.
        let b = (old_reads ts).all x us q in
        leads_until (λ ws ts. AllSound n ws) (entry x.1) (λ ws ts i. entry_reads x.1 ws ts b i) (λ ws us ts r i. i) "}" ws vs g

    module _ (text : List ℕ) where
      record TablesRead (tabs : Tables) (ts : Toks) : Type 0 where
        pub stream : Stream text ts
        pub fit : AllFit (TableFits n) [] tabs

      table_more : (tabs : Tables) (ts : Toks) → TablesRead tabs ts → Leads (table ns tabs) ts (λ tabs us. AllFit (TableFits n) [] tabs × (0 < length tabs))
      unfolding table
      table_more tabs ts i =
          leads_bind _ _ λ p vs v. leads_if _ _ _ _ λ c. leads_bind _ _ λ t ws w. leads_bind _ _ λ q a a-is. leads_bind _ _ λ q b b-is. leads_bind _ _ λ m d d-is.
          leads_bind _ _ λ q e e-is. leads_bind _ _ λ q f f-is. leads_bind _ _ λ q g g-is. leads_bind _ _ λ ws' h h-is. leads_bind _ _ λ q k k-is.
          let r = (new_reads text tabs vs (rest_stream text ((moves_leaves (moves_due _)).rest _ _ _ v) i.stream)).all t ws w in
          let time = (quoted_reads 1 b).all m d d-is in
          let x : Table = record { period = m; waves = ws' } in
          let fits : TableFits n tabs (t, x) = record {
            proper = r.0.proper;
            is_name_lem = r.0.is_name_lem;
            new = r.1;
            few = leb-false tables_most (length tabs) c;
            some_time = time.0;
            within = time.1;
            sound = (leads_until (λ ws ts. AllSound n ws) (waveforms ns) waveforms_read (λ ws us ts r i. i) "}" [] g tt).all ws' h h-is;
          } in
          leads_give _ (fit_more (TableFits n) [] tabs (t, x) i.fit fits, omega (arith, length-append tabs ((t, x) ∷ [])))

      table_fits : (tabs : Tables) (ts : Toks) → TablesRead tabs ts → Leads (table ns tabs) ts (λ tabs us. TablesRead tabs us × (0 < length tabs))
      table_fits tabs ts i = record {
        all = λ more us q. (
            let m = (table_more tabs ts i).all more us q in
            (record { stream = rest_stream text ((moves_leaves (moves_table ns tabs)).rest ts more us q) i.stream; fit = m.0 }, m.1));
      }

      some_fit : (tabs : Tables) → AllFit (TableFits n) [] tabs → 0 < length tabs → SomeFit (TableFits n) tabs
      some_fit [] f h = absurd (omega arith)
      some_fit (x ∷ tabs) f h = f

      -- THE LAW of Timing
      pub timing_fit : (ts : Toks) → Stream text ts → Leads (timing ns) ts (λ tabs us. SomeFit (TableFits n) tabs)
      unfolding timing
      timing_fit ts s =
          leads_bind _ _ λ p vs v. leads_bind _ _ λ q ws w.
          let a = rest_stream text ((moves_leaves (moves_due _)).rest _ _ _ v) s in
          let b = rest_stream text ((moves_leaves (moves_due _)).rest _ _ _ w) a in
          leads_bind _ _ λ tabs xs x. record {
            all = λ ms us q. (
                let i = (leads_until (λ tabs ts. TablesRead tabs ts × (0 < length tabs)) (table ns) (λ tabs ts i. table_fits tabs ts i.0)
                (λ tabs us ts r i. (record { stream = rest_stream text r i.0.stream; fit = i.0.fit }, i.1)) "}" tabs xs
                ((table_fits [] ws (record { stream = b; fit = tt })).all tabs xs x)).all ms us q in
                some_fit ms i.0.fit i.1);
          }
