-- What a text that was read tells of its names: they are words of the text, names, and no two of a kind are the same; and each signal has a direction behind it.
use Prim.Native.Nat.{ℕ, suc, ◌+◌, ◌<◌}
use native.Mathlib.Omega.{arith}
use mathlib.Core.Path.{◌≡◌, refl, sym, ap, ◌∙◌, subst}
use mathlib.Core.Bool.{Bool, true, false}
use mathlib.Core.Option.{Option, none, some}
use mathlib.Core.List.{List, [], ◌∷◌, ◌++◌, append_assoc, append-nil}
use lib.ListN.{length, drop, length-append}
use borrow.Author.Tests.{leb-false, not-false}
use Rattle.tokens.specs.Written.{same}
use Rattle.tokens.specs.Bytes.{wordy}
use Rattle.tokens.specs.Tokens.{Tok, Toks, tok, run, toks}
use Rattle.tokens.proofs.Laws.{unfolds}
use Rattle.meaning.specs.Bounds.{signals_most}
use Rattle.meaning.specs.Reader.{is_word, word}
use Rattle.meaning.specs.Names.{among, is_name, name, due_among, find, is_some, new_name}
use Rattle.meaning.specs.Signals.{Names, directions, signal, signals, signal_up_to, signals_up_to}
use Rattle.meaning.specs.Meaning.{firsts}
use Rattle.meaning.proofs.SameTokens.{stands_there, word_run}
use Rattle.held.proofs.Rest.{moves_leaves, moves_due}
use Rattle.held.proofs.Grammar.{moves_signal}
use Rattle.held.proofs.Leads.{Leads, leads_bind, leads_give, leads_if, leads_until}
use Rattle.held.proofs.Due.{any_is}
use Rattle.held.proofs.Places.{Stream, rest_stream}
use Rattle.folded.specs.Flat.{first_word, direction, directed}
use Rattle.folded.proofs.Words.{AllWordy, Proper}
use Rattle.folded.proofs.Reading.{AllFit, SomeFit, find_in}
use Rattle.folded.proofs.SignalsBack.{Directed, singles, NewSignal}

-- ---- words of a text

run_wordy : (s : List ℕ) → AllWordy (run s)
unfolding run
run_wordy [] = tt
run_wordy (b ∷ s) = by (wordy b) refl (run_wordy s)
  where
    by : (c : Bool) → wordy b ≡ c → AllWordy (run s) → AllWordy (elim c [ true ↦ b ∷ run s | false ↦ [] ])
    by true e h = (e, h)
    by false e h = tt

word_proper : (w : List ℕ) → is_word w ≡ true → AllWordy w → Proper w
unfolding is_word
word_proper [] e h = absurd (let z : ◌≡◌ {A = ℕ} 0 1 = cc in omega arith)
word_proper (b ∷ s) e h = h

-- a token of a text that begins like a word is one
pub token_proper : (text : List ℕ) (t : Tok) (ts : Toks) → Stream text (tok t ts) → is_word t.word ≡ true → Proper t.word
unfolding toks
token_proper text t ts h e =
    let there = stands_there text t ts (record { at = h.0; is = h.1 }) in
    word_proper t.word e (subst AllWordy (word_run t.at (drop t.at text) t ts there refl e) (run_wordy (drop t.at text)))

-- what is read where a new name is due
pub record NameRead (text : List ℕ) (t : Tok) (us : Toks) : Type 0 where
  pub proper : Proper t.word
  pub is_name_lem : is_name t.word ≡ true
  pub behind : us ≡ toks text (t.at + length t.word)

word_reads : (ts : Toks) → Leads word ts (λ t us. (ts ≡ tok t us) × (is_word t.word ≡ true))
unfolding word
word_reads ts = leads_bind _ _ λ t us q. leads_if _ _ _ _ λ c. leads_give t ((any_is ts).all t us q, not-false _ c)

name_reads : (ts : Toks) → Leads name ts (λ t us. (ts ≡ tok t us) × (is_word t.word ≡ true) × (is_name t.word ≡ true))
unfolding name
name_reads ts = leads_bind _ _ λ t us q. leads_if _ _ _ _ λ c. leads_give t (let r = (word_reads ts).all t us q in (r.0, r.1, not-false _ c))

no_some : {A : Type 0} (o : Option A) → is_some o ≡ false → o ≡ none
unfolding is_some
no_some none e = refl
no_some (some a) e = absurd (let z : ◌≡◌ {A = ℕ} 0 1 = cc in omega arith)

pub new_reads : {A : Type 0} (text : List ℕ) (used : List (Tok × A)) (ts : Toks) → Stream text ts → Leads (new_name used) ts (λ t us. NameRead text t us × (find used t.word ≡ none))
unfolding new_name
new_reads text used ts s = leads_bind _ _ λ t us q. leads_if _ _ _ _ λ c. leads_give t (
    let r = (name_reads ts).all t us q in
    let at = s.1 in
    let here : Stream text (tok t us) = (s.0, sym r.0 ∙ s.1) in
    (record { proper = token_proper text t us here r.1; is_name_lem = r.2; behind = (unfolds text here.0 t us (sym here.1)).rest }, no_some _ c))

-- ---- lists that grow at their end

pub fit_more : {X : Type 0} (F : List X → X → Type 0) (before xs : List X) (x : X) → AllFit F before xs → F (before ++ xs) x → AllFit F before (xs ++ x ∷ [])
fit_more F before [] x h k = (subst (λ l. F l x) (append-nil before) k, tt)
fit_more F before (y ∷ xs) x h k = (h.0, fit_more F (before ++ y ∷ []) xs x h.1 (subst (λ l. F l x) (sym (append_assoc before (y ∷ []) xs)) k))

-- ---- Signals

-- a signal's name among those before it
pub record SignalFits (text : List ℕ) (before : Names) (x : Tok × List ℕ) : Type 0 where
  pub proper : Proper x.0.word
  pub is_name_lem : is_name x.0.word ≡ true
  pub new : find before x.0.word ≡ none
  pub few : length before < signals_most
  pub directed : among directions (direction text x.0) ≡ true

among_reads : (text : List ℕ) (vs : Toks) → Leads (due_among directions) vs (λ p us. among directions (first_word vs) ≡ true)
unfolding due_among first_word
among_reads text vs = leads_bind _ _ λ t us q. leads_if _ _ _ _ λ c. leads_give _ (rw ((any_is vs).all t us q) (not-false _ c))

module _ (text : List ℕ) where
  record SignalsRead (ns : Names) (ts : Toks) : Type 0 where
    pub stream : Stream text ts
    pub fit : AllFit (SignalFits text) [] ns

  -- one more
  signal_more : (ns : Names) (ts : Toks) → SignalsRead ns ts → Leads (signal ns) ts (λ ms us. AllFit (SignalFits text) [] ms × (0 < length ms))
  unfolding signal_up_to direction
  signal_more ns ts i =
      leads_bind _ _ λ t vs v. leads_if _ _ _ _ λ c. leads_bind _ _ λ p ws w. leads_bind _ _ λ q xs x.
      let r = (new_reads text ns ts i.stream).all t vs v in
      let f : SignalFits text ns (t, length ns ∷ []) = record {
        proper = r.0.proper;
        is_name_lem = r.0.is_name_lem;
        new = r.1;
        few = leb-false signals_most (length ns) c;
        directed = subst (λ (l : Toks). among directions (first_word l) ≡ true) r.0.behind ((among_reads text vs).all p ws w);
      } in
      leads_give _ (fit_more (SignalFits text) [] ns (t, length ns ∷ []) i.fit f, omega (arith, length-append ns ((t, length ns ∷ []) ∷ [])))

  signal_fits : (ns : Names) (ts : Toks) → SignalsRead ns ts → Leads (signal ns) ts (λ ms us. SignalsRead ms us × (0 < length ms))
  signal_fits ns ts i = record {
    all = λ ms us q. (
        let m = (signal_more ns ts i).all ms us q in
        (record { stream = rest_stream text ((moves_leaves (moves_signal ns)).rest ts ms us q) i.stream; fit = m.0 }, m.1));
  }

  -- at least one
  some_fit : (ns : Names) → AllFit (SignalFits text) [] ns → 0 < length ns → SomeFit (SignalFits text) ns
  some_fit [] f h = absurd (omega arith)
  some_fit (x ∷ ns) f h = f

  -- THE LAW of Signals
  pub signals_fit : (ts : Toks) → Stream text ts → Leads signals ts (λ ns us. SomeFit (SignalFits text) ns)
  unfolding signals_up_to
  signals_fit ts s =
      leads_bind _ _ λ p vs v. leads_bind _ _ λ q ws w.
      let a = rest_stream text ((moves_leaves (moves_due _)).rest _ _ _ v) s in
      let b = rest_stream text ((moves_leaves (moves_due _)).rest _ _ _ w) a in
      leads_bind _ _ λ ns xs x. record {
        all = λ ms us q. (
            let i = (leads_until (λ ns ts. SignalsRead ns ts × (0 < length ns)) signal (λ ns ts i. signal_fits ns ts i.0)
            (λ ns us ts r i. (record { stream = rest_stream text r i.0.stream; fit = i.0.fit }, i.1)) "}" ns xs
            ((signal_fits [] ws (record { stream = b; fit = tt })).all ns xs x)).all ms us q in
            some_fit ms i.0.fit i.1);
      }

-- ---- as they are written

pub directed_more : (text : List ℕ) (ns : Names) (x : Tok × List ℕ) → directed text (firsts (ns ++ x ∷ [])) ≡ directed text (firsts ns) ++ (x.0.word, direction text x.0) ∷ []
unfolding directed firsts
directed_more text [] x = refl
directed_more text (y ∷ ns) x = ap (λ (l : List Directed). (y.0.word, direction text y.0) ∷ l) (directed_more text ns x)

directed_length : (text : List ℕ) (ns : Names) → length (directed text (firsts ns)) ≡ length ns
unfolding directed firsts
directed_length text [] = refl
directed_length text (x ∷ ns) = ap suc (directed_length text ns)

none_directed : (text : List ℕ) (i : ℕ) (ns : Names) (w : List ℕ) → find ns w ≡ none → find_in (singles i (directed text (firsts ns))) w ≡ none
unfolding directed firsts singles find find_in
none_directed text i [] w h = refl
none_directed text i (x ∷ ns) w h = by (same x.0.word w) h (none_directed text (suc i) ns w)
  where
    by : (c : Bool) → ◌≡◌ {A = Option (List ℕ)} (elim c [ true ↦ some x.1 | false ↦ find ns w ]) none → (find ns w ≡ none → find_in (singles (suc i) (directed text (firsts ns))) w ≡ none)
        → ◌≡◌ {A = Option (List ℕ)} (elim c [ true ↦ some (i ∷ []) | false ↦ find_in (singles (suc i) (directed text (firsts ns))) w ]) none
    by true h ih = absurd (let z : ◌≡◌ {A = ℕ} 0 1 = cc in omega arith)
    by false h ih = ih h

signals_new : (text : List ℕ) (before ns : Names) → AllFit (SignalFits text) before ns → AllFit NewSignal (directed text (firsts before)) (directed text (firsts ns))
unfolding directed firsts
signals_new text before [] f = tt
signals_new text before (x ∷ ns) f = (
  record {
    proper = f.0.proper;
    is_name_lem = f.0.is_name_lem;
    new = none_directed text 0 before x.0.word f.0.new;
    few = omega (arith, f.0.few, directed_length text before);
    directed = f.0.directed;
  },
  subst (λ l. AllFit NewSignal l (directed text (firsts ns))) (directed_more text before x) (signals_new text (before ++ x ∷ []) ns f.1),
)

pub signals_good : (text : List ℕ) (ns : Names) → SomeFit (SignalFits text) ns → SomeFit NewSignal (directed text (firsts ns))
unfolding directed firsts
signals_good text [] f = absurd f
signals_good text (x ∷ ns) f = signals_new text [] (x ∷ ns) f
