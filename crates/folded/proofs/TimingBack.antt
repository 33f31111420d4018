-- Timing, as written, read back.
use Prim.Native.Nat.{ℕ, suc, ◌≤◌, ◌<◌}
use native.Mathlib.Omega.{arith}
use mathlib.Core.Path.{◌≡◌, refl, sym, ap, ◌∙◌}
use mathlib.Core.Bool.{Bool, true, false, ◌&&◌, ◌||◌, or-false}
use mathlib.Core.Option.{none, some}
use mathlib.Core.List.{List, [], ◌∷◌, ◌++◌, append_assoc, append-nil}
use lib.Dec.{leb, eqb}
use lib.ListN.{length, length-append}
use borrow.Author.Tests.{lt-leb, le-leb}
use Rattle.tokens.specs.Written.{bytes, same}
use Rattle.tokens.specs.Bytes.{between, blank, digit, letter, wordy}
use Rattle.tokens.specs.Tokens.{Tok, Toks}
use Rattle.tokens.proofs.Bools.{eqb_comm}
use Rattle.meaning.specs.Bounds.{entry_most, tables_most, time_most}
use Rattle.meaning.specs.Refusals.{too_many}
use Rattle.meaning.specs.Lists.{has, repeats}
use Rattle.meaning.specs.Reader.{Res, refuse, ◌>>=◌, due, ahead, if_ahead, is_word}
use Rattle.meaning.specs.Names.{is_name}
use Rattle.meaning.specs.Signals.{Names}
use Rattle.meaning.specs.Timing.{Event, Wave, Table, Tables, quoted, Signed, plus, minus, counted, counted_most, uncounted, time_of, signed_quoted, event_letter, letter_due, alternative, letters, spread, rises, add_events, Events, one_event, event, wave_char, all_chars, taken, blanks, waves_of, waves_for, entry, waveforms, table, timing}
use Rattle.meaning.specs.Meaning.{has_wave}
use Rattle.meaning.proofs.Takes.{while_done}
use Rattle.meaning.proofs.Signs.{amount, amount_most, counted_back}
use Rattle.held.proofs.Rest.{moves_takes}
use Rattle.held.proofs.Grammar.{moves_alternative, moves_event, moves_entry, moves_waveforms, moves_table}
use Rattle.folded.specs.Pieces.{Piece, each, only, closing, lf}
use Rattle.folded.specs.Flat.{Entries, Chart, Sheet}
use Rattle.folded.specs.Layout.{timed, time_put, event_put, entry_put, chart_put, sheet_put, timing_put}
use Rattle.folded.proofs.Words.{Proper, sign, words}
use Rattle.folded.proofs.Reading.{Reads, AllFit, Unlike, not_ahead, reads_bind, reads_as, reads_if, reads_known, reads_found, reads_by, reads_give, reads_any, reads_due, reads_word, reads_new, reads_old, reads_within, reads_there, reads_elsewhere, reads_until, worded, find_in, find_worded, worded-++, worded_length}
use Rattle.folded.proofs.Leaves.{time_read, time_word}
use Rattle.folded.proofs.SignalsBack.{proper_word, no_sign}

-- ---- 'T'

reads_quoted : (a n : ℕ) (ws : List (List ℕ)) → a ≤ n → n ≤ time_most → Reads (quoted a) (bytes "'" ∷ timed n ∷ bytes "'" ∷ ws) ws (λ m. m ≡ n)
unfolding quoted
reads_quoted a n ws h k =
    let t = time_read n k in
    reads_bind (reads_due (bytes "'") _) λ p u. reads_bind (reads_word (timed n) _ (time_word t)) λ w e.
    reads_bind (reads_within a time_most n _ _ _ (rw e t.read) (rw (le-leb a n h, le-leb n time_most k))) λ m q. reads_bind (reads_due (bytes "'") ws) λ r v. reads_give ws m q

reads_time : (sign : ℕ → Signed) (n : ℕ) (ws : List (List ℕ)) → n ≤ time_most → Reads (time_of sign) (timed n ∷ ws) ws (λ s. s ≡ sign n)
unfolding time_of
reads_time sign n ws k =
    let t = time_read n k in
    reads_bind (reads_word (timed n) _ (time_word t)) λ w e.
    reads_bind (reads_within 0 time_most n _ _ _ (rw e t.read) (rw (le-leb 0 n (omega arith), le-leb n time_most k))) λ m q. reads_give ws (sign m) (ap sign q)

-- with its sign
reads_sign : (s : Signed) (k : List Piece) → amount s ≤ time_most
    → Reads (if_ahead "-" (due "-" >>= λ p. time_of minus) (time_of plus)) (words (time_put s k)) (bytes "'" ∷ words k) (λ x. x ≡ s)
unfolding time_put amount words sign blank bytes wordy letter digit between
reads_sign (plus n) k h = reads_elsewhere "-" _ _ (no_sign (timed n) 45 (time_read n h).proper refl) (reads_time plus n _ h)
reads_sign (minus n) k h = reads_there "-" _ _ (reads_bind (reads_due (bytes "-") _) λ p u. reads_time minus n _ h)

reads_signed : (t : ℕ) (k : List Piece) → t ≤ counted_most → Reads signed_quoted (bytes "'" ∷ words (time_put (uncounted t) k)) (words k) (λ m. m ≡ t)
unfolding signed_quoted
reads_signed t k h =
    reads_bind (reads_due (bytes "'") _) λ p u. reads_bind (reads_sign (uncounted t) k (amount_most t h)) λ s e.
    reads_bind (reads_due (bytes "'") _) λ q v. reads_give _ (counted s) (ap counted e ∙ counted_back t)

-- ---- events

-- one letter, with no `/` behind it
reads_letters : (e : ℕ) (ws : List (List ℕ)) → event_letter (e ∷ []) ≡ some e → Unlike (bytes "/") ws → Reads letters ((e ∷ []) ∷ ws) ws (λ es. es ≡ e ∷ [])
unfolding letters letter_due
reads_letters e ws h n =
    reads_bind (reads_bind (reads_any (e ∷ []) ws) λ t q. reads_found _ e _ _ ws (rw q h)) λ x q.
    record { all = λ ts us b. (x ∷ [], ts, while_done (ahead "/") alternative (λ es. moves_takes (moves_alternative es)) (x ∷ []) ts (not_ahead (bytes "/") ws ts us b n), b, ap (λ (y : ℕ). y ∷ []) q) }

-- an event that may stand behind those before it, of one character
pub record NewEvent (before : List Event) (e : Event) : Type 0 where
  pub rising : rises e.time e.letter before ≡ true
  pub within : e.time ≤ counted_most
  pub lettered : event_letter (e.letter ∷ []) ≡ some e.letter
  pub few : length before < entry_most

record EventsAre (before : List Event) (s : Events) : Type 0 where
  pub are : s.0 ≡ before ∷ []
  pub many : s.1 ≡ length before

one_event_lem : (n : ℕ) (s : Events) (ts : Toks) → leb entry_most s.1 ≡ false → event n s ts ≡ one_event n s ts
unfolding event
one_event_lem n s ts e = by (ahead "'" ts) (leb entry_most s.1) e
  where
    by : (b c : Bool) → c ≡ false → ◌≡◌ {A = Res Events} (elim (b && c) as (λ c. Res Events) [ true ↦ (due "'" >>= λ p us. refuse too_many p) ts | false ↦ one_event n s ts ]) (one_event n s ts)
    by true true e = absurd (let z : ◌≡◌ {A = ℕ} 0 1 = cc in omega arith)
    by true false e = refl
    by false c e = refl

added : (t l : ℕ) (before : List Event) → rises t l before ≡ true → add_events t (l ∷ []) (before ∷ []) ≡ some ((before ++ record { time = t; letter = l } ∷ []) ∷ [])
unfolding add_events
added t l before e = rw (e, add_events)

reads_one : (before : List Event) (e : Event) (s : Events) (k : List Piece) → NewEvent before e → EventsAre before s
    → Reads (one_event 1 s) (words (event_put e k)) (words k) (EventsAre (before ++ e ∷ []))
unfolding one_event event_put words sign blank bytes same spread
reads_one before e s k f i =
    reads_bind (reads_signed e.time _ f.within) λ t q. reads_bind (reads_letters e.letter _ f.lettered refl) λ es l.
    reads_bind (reads_due (bytes ";") _) λ p u. rw (q, l)
    (reads_if _ _ _ _ refl (reads_known _ _ _ _ _ (rw i.are (added e.time e.letter before f.rising))
    (reads_give _ _ (record { are = refl; many = omega (arith, i.many, length-append before (e ∷ [])) }))))

reads_event : (before : List Event) (e : Event) (s : Events) (k : List Piece) → NewEvent before e → EventsAre before s
    → Reads (event 1 s) (words (event_put e k)) (words k) (EventsAre (before ++ e ∷ []))
reads_event before e s k f i = reads_by (λ ts. one_event_lem 1 s ts (lt-leb entry_most s.1 (omega (arith, f.few, i.many)))) (reads_one before e s k f i)

event_begins : (before : List Event) (e : Event) (k : List Piece) → NewEvent before e → Unlike (bytes "}") (words (event_put e k))
unfolding event_put words sign blank bytes same
event_begins before e k f = refl

-- ---- entries of one signal

-- the waveforms of a signal's entries
unfoldable pub waves_in : ℕ → Entries → List Wave
waves_in s [] = []
waves_in s (x ∷ xs) = record { signal = s; char = x.0; events = x.1 } ∷ waves_in s xs

pub waves_in_more : (s : ℕ) (xs : Entries) (x : ℕ × List Event) → waves_in s (xs ++ x ∷ []) ≡ waves_in s xs ++ record { signal = s; char = x.0; events = x.1 } ∷ []
unfolding waves_in
waves_in_more s [] x = refl
waves_in_more s (y ∷ xs) x = ap (λ (l : List Wave). record { signal = s; char = y.0; events = y.1 } ∷ l) (waves_in_more s xs x)

abbrev pub FirstFits : List Event → Type 0
FirstFits [] = ⊥
FirstFits (e ∷ es) = AllFit NewEvent [] (e ∷ es)

-- an entry that may stand behind those before it, with the waveforms ws of other signals before them
pub record NewEntry (ws : List Wave) (s : ℕ) (before : Entries) (x : ℕ × List Event) : Type 0 where
  pub char : wave_char x.0 ≡ true
  pub free : has_wave s x.0 (ws ++ waves_in s before) ≡ false
  pub events : FirstFits x.1

-- one character of one signal
taken_one : (s c : ℕ) (ws : List Wave) → taken (s ∷ []) (c ∷ []) ws ≡ has_wave s c ws
unfolding taken has_wave has
taken_one s c [] = refl
taken_one s c (w ∷ ws) = rw (taken_one s c ws, eqb_comm s w.signal, eqb_comm c w.char, or-false (eqb w.signal s), or-false (eqb w.char c))

pub char_wordy : (c : ℕ) → wave_char c ≡ true → wordy c ≡ true
unfolding wave_char wordy
char_wordy c h = by (letter c) (digit c) h
  where
    by : (a b : Bool) → (a || b) ≡ true → (a || b || eqb c 95 || eqb c 46) ≡ true
    by true b e = refl
    by false true e = refl
    by false false e = absurd (let z : ◌≡◌ {A = ℕ} 0 1 = cc in omega arith)

abbrev WavesAre : List Wave → ℕ → Entries → List Wave → Type 0
WavesAre base s before ws = ws ≡ base ++ waves_in s before

reads_entry_of : (base : List Wave) (s : ℕ) (before : Entries) (c : ℕ) (es : List Event) (ws : List Wave) (k : List Piece) → NewEntry base s before (c, es) → WavesAre base s before ws
    → Reads (entry (s ∷ []) ws) (words (entry_put (c, es) k)) (words k) (WavesAre base s (before ++ (c, es) ∷ []))
unfolding entry entry_put each words sign blank bytes all_chars repeats has blanks waves_for waves_of is_word
reads_entry_of base s before c [] ws k f i = absurd f.events
reads_entry_of base s before c (e ∷ es) ws k f i =
    reads_bind (reads_word (c ∷ []) _ (char_wordy c f.char)) λ t q. rw q
    (reads_if _ _ _ _ refl (reads_if _ _ _ _ (taken_one s c ws ∙ ap (has_wave s c) i ∙ f.free) (reads_if _ _ _ _ (rw f.char)
    (reads_bind (reads_due (bytes "{") _) λ p u.
    reads_bind (reads_event [] e ([] ∷ [], 0) (each event_put es (only closing ∷ k)) f.events.0 (record { are = refl; many = refl })) λ r j.
    reads_bind (reads_until event_put "}" (event 1) (λ r. moves_takes (moves_event 1 r)) EventsAre NewEvent event_begins reads_event es (e ∷ []) r (only closing ∷ k) (words k) f.events.1 j refl) λ r j.
    reads_give _ _ (rw (j.are, i, append_assoc base (waves_in s before), waves_in_more s before (c, e ∷ es)))))))

reads_entry : (base : List Wave) (s : ℕ) (before : Entries) (x : ℕ × List Event) (ws : List Wave) (k : List Piece) → NewEntry base s before x → WavesAre base s before ws
    → Reads (entry (s ∷ []) ws) (words (entry_put x k)) (words k) (WavesAre base s (before ++ x ∷ []))
reads_entry base s before x = reads_entry_of base s before x.0 x.1

entry_begins : (base : List Wave) (s : ℕ) (before : Entries) (x : ℕ × List Event) (k : List Piece) → NewEntry base s before x → Unlike (bytes "}") (words (entry_put x k))
unfolding entry_put words bytes wordy letter digit between
entry_begins base s before x k f = no_sign (x.0 ∷ []) 125 (char_wordy x.0 f.char, tt) refl

-- ---- charts of one table, over the names that stand for signals

unfoldable pub waves_all : List Chart → List Wave
waves_all [] = []
waves_all (x ∷ xs) = waves_in x.signal (x.first ∷ x.others) ++ waves_all xs

pub waves_all_more : (xs : List Chart) (x : Chart) → waves_all (xs ++ x ∷ []) ≡ waves_all xs ++ waves_in x.signal (x.first ∷ x.others)
unfolding waves_all
waves_all_more [] x = append-nil (waves_in x.signal (x.first ∷ x.others))
waves_all_more (y ∷ xs) x = rw (waves_all_more xs x) (sym (append_assoc (waves_in y.signal (y.first ∷ y.others)) (waves_all xs) (waves_in x.signal (x.first ∷ x.others))))

unfoldable pub tables_in : List Sheet → List (List ℕ × Table)
tables_in [] = []
tables_in (x ∷ xs) = (x.name, record { period = x.period; waves = waves_all x.charts }) ∷ tables_in xs

pub tables_in_more : (xs : List Sheet) (x : Sheet) → tables_in (xs ++ x ∷ []) ≡ tables_in xs ++ (x.name, record { period = x.period; waves = waves_all x.charts }) ∷ []
unfolding tables_in
tables_in_more [] x = refl
tables_in_more (y ∷ xs) x = rw (tables_in_more xs x)

pub tables_in_length : (xs : List Sheet) → length (tables_in xs) ≡ length xs
unfolding tables_in
tables_in_length [] = refl
tables_in_length (x ∷ xs) = ap suc (tables_in_length xs)

tables_more : (before : List Sheet) (x : Sheet) (tabs : Tables) (t : Tok) (n : ℕ) (ws : List Wave) → worded tabs ≡ tables_in before → t.word ≡ x.name → n ≡ x.period
    → ws ≡ waves_all x.charts → worded (tabs ++ (t, record { period = n; waves = ws }) ∷ []) ≡ tables_in (before ++ x ∷ [])
unfolding worded
tables_more before x tabs t n ws i e q j = rw (worded-++ tabs ((t, record { period = n; waves = ws }) ∷ []), i, e, q, j, tables_in_more before x)

module _ (names : List (List ℕ × List ℕ)) where
  pub record NewChart (before : List Chart) (x : Chart) : Type 0 where
    pub proper : Proper x.name
    pub is_name_lem : is_name x.name ≡ true
    pub known : find_in names x.name ≡ some (x.signal ∷ [])
    pub entries : AllFit (NewEntry (waves_all before) x.signal) [] (x.first ∷ x.others)

  pub record NewSheet (before : List Sheet) (x : Sheet) : Type 0 where
    pub proper : Proper x.name
    pub is_name_lem : is_name x.name ≡ true
    pub new : find_in (tables_in before) x.name ≡ none
    pub few : length before < tables_most
    pub some_time : 1 ≤ x.period
    pub within : x.period ≤ time_most
    pub charts : AllFit NewChart [] x.charts

  module _ (ns : Names) (are : worded ns ≡ names) where
    reads_chart : (before : List Chart) (x : Chart) (ws : List Wave) (k : List Piece) → NewChart before x → ws ≡ waves_all before
        → Reads (waveforms ns ws) (words (chart_put x k)) (words k) (λ ws. ws ≡ waves_all (before ++ x ∷ []))
    unfolding waveforms chart_put words sign blank bytes waves_in
    reads_chart before x ws k f i =
        reads_bind (reads_old ns x.name (x.signal ∷ []) _ (proper_word x.name f.proper) f.is_name_lem (find_worded ns x.name ∙ ap (λ l. find_in l x.name) are ∙ f.known)) λ y q.
        rw q.1 (reads_bind (reads_due (bytes "{") _) λ p u.
        reads_as (λ vs j. j ∙ sym (waves_all_more before x))
        (reads_until entry_put "}" (entry (x.signal ∷ [])) (λ vs. moves_takes (moves_entry (x.signal ∷ []) vs)) (WavesAre (waves_all before) x.signal) (NewEntry (waves_all before) x.signal)
        (entry_begins (waves_all before) x.signal) (reads_entry (waves_all before) x.signal) (x.first ∷ x.others) [] ws (only closing ∷ only lf ∷ k) (words k) f.entries
        (i ∙ sym (append-nil (waves_all before))) refl))

    chart_begins : (before : List Chart) (x : Chart) (k : List Piece) → NewChart before x → Unlike (bytes "}") (words (chart_put x k))
    unfolding chart_put words bytes wordy letter digit between
    chart_begins before x k f = no_sign x.name 125 f.proper refl

    reads_sheet : (before : List Sheet) (x : Sheet) (tabs : Tables) (k : List Piece) → NewSheet before x → worded tabs ≡ tables_in before
        → Reads (table ns tabs) (words (sheet_put x k)) (words k) (λ tabs. worded tabs ≡ tables_in (before ++ x ∷ []))
    unfolding table sheet_put words sign blank bytes waves_all
    reads_sheet before x tabs k f i =
        let long : length tabs ≡ length before = sym (worded_length tabs) ∙ ap length i ∙ tables_in_length before in
        reads_bind (reads_due (bytes "WaveformTable") _) λ p u. reads_if _ _ _ _ (lt-leb tables_most (length tabs) (omega (arith, f.few)))
        (reads_bind (reads_new tabs x.name _ (proper_word x.name f.proper) f.is_name_lem (find_worded tabs x.name ∙ ap (λ l. find_in l x.name) i ∙ f.new)) λ t e.
        reads_bind (reads_due (bytes "{") _) λ p u. reads_bind (reads_due (bytes "Period") _) λ p u. reads_bind (reads_quoted 1 x.period _ f.some_time f.within) λ n q.
        reads_bind (reads_due (bytes ";") _) λ p u. reads_bind (reads_due (bytes "Waveforms") _) λ p u. reads_bind (reads_due (bytes "{") _) λ p u.
        reads_bind (reads_until chart_put "}" (waveforms ns) (λ ws. moves_takes (moves_waveforms ns ws)) (λ before ws. ws ≡ waves_all before) NewChart chart_begins reads_chart
        x.charts [] [] (only closing ∷ only closing ∷ only lf ∷ k) (words (only closing ∷ only lf ∷ k)) f.charts refl refl) λ ws j.
        reads_bind (reads_due (bytes "}") _) λ p u. reads_give _ _ (tables_more before x tabs t n ws i e q j))

    sheet_begins : (before : List Sheet) (x : Sheet) (k : List Piece) → NewSheet before x → Unlike (bytes "}") (words (sheet_put x k))
    unfolding sheet_put words bytes same
    sheet_begins before x k f = refl

    -- THE LAW
    pub reads_timing : (x : Sheet) (xs : List Sheet) (k : List Piece) → AllFit NewSheet [] (x ∷ xs)
        → Reads (timing ns) (words (timing_put (x ∷ xs) k)) (words k) (λ tabs. worded tabs ≡ tables_in (x ∷ xs))
    unfolding timing timing_put each words sign blank bytes worded tables_in
    reads_timing x xs k f =
        reads_bind (reads_due (bytes "Timing") _) λ p u. reads_bind (reads_due (bytes "{") _) λ q v.
        reads_bind (reads_sheet [] x [] (each sheet_put xs (only closing ∷ only lf ∷ k)) f.0 refl) λ tabs i.
        reads_until sheet_put "}" (table ns) (λ tabs. moves_takes (moves_table ns tabs)) (λ before tabs. worded tabs ≡ tables_in before) NewSheet sheet_begins reads_sheet
        xs (x ∷ []) tabs (only closing ∷ only lf ∷ k) (words k) f.1 i refl
