-- Signals, as written, read back.
use Prim.Native.Nat.{ℕ, suc, ◌+◌, ◌<◌}
use native.Mathlib.Nat.{zero-add, add-zero, add-suc, suc-add}
use native.Mathlib.Omega.{arith}
use mathlib.Core.Path.{◌≡◌, refl, sym, ap, ◌∙◌}
use mathlib.Core.Bool.{Bool, true, false, ◌&&◌}
use mathlib.Core.Option.{none}
use mathlib.Core.List.{List, [], ◌∷◌, ◌++◌}
use lib.Dec.{eqb}
use lib.ListN.{length}
use borrow.Author.Tests.{lt-leb, eqb-true}
use Rattle.tokens.specs.Written.{bytes, same}
use Rattle.tokens.specs.Bytes.{between, blank, digit, letter, wordy}
use Rattle.tokens.specs.Tokens.{Tok}
use Rattle.meaning.specs.Bounds.{signals_most}
use Rattle.meaning.specs.Reader.{is_word}
use Rattle.meaning.specs.Names.{among, is_name}
use Rattle.meaning.specs.Signals.{Names, directions, signal, signals, signal_up_to, signals_up_to}
use Rattle.held.proofs.Rest.{moves_takes}
use Rattle.held.proofs.Grammar.{moves_signal}
use Rattle.folded.specs.Pieces.{Piece, each, only, closing, lf}
use Rattle.folded.specs.Layout.{signal_put, signals_put}
use Rattle.folded.proofs.Words.{Proper, sign, words}
use Rattle.folded.proofs.Reading.{Reads, AllFit, Unlike, reads_bind, reads_if, reads_give, reads_due, reads_among, reads_new, reads_until, worded, find_in, find_worded, worded-++, worded_length}

-- a proper word is a word, and no sign
pub proper_word : (w : List ℕ) → Proper w → is_word w ≡ true
unfolding is_word
proper_word [] h = absurd h
proper_word (b ∷ s) h = h.0

pub no_sign : (w : List ℕ) (b : ℕ) → Proper w → wordy b ≡ false → same w (b ∷ []) ≡ false
unfolding same
no_sign [] b h e = absurd h
no_sign (c ∷ s) b h e = by (eqb c b) refl
  where
    by : (t : Bool) → eqb c b ≡ t → (t && same s []) ≡ false
    by true q = let z : true ≡ false = sym h.0 ∙ ap wordy (eqb-true c b q) ∙ e in absurd (let y : ◌≡◌ {A = ℕ} 0 1 = cc in omega arith)
    by false q = refl

abbrev pub Directed : Type 0
Directed = List ℕ × List ℕ

-- what is read: each signal stands for its own number
unfoldable pub singles : ℕ → List Directed → List (List ℕ × List ℕ)
singles i [] = []
singles i (x ∷ xs) = (x.0, i ∷ []) ∷ singles (suc i) xs

pub singles_more : (i : ℕ) (xs : List Directed) (x : Directed) → singles i (xs ++ x ∷ []) ≡ singles i xs ++ (x.0, (i + length xs) ∷ []) ∷ []
unfolding singles
singles_more i [] x = rw add-zero
singles_more i (y ∷ xs) x = rw (singles_more (suc i) xs x, suc-add i (length xs), add-suc i (length xs))

pub singles_length : (i : ℕ) (xs : List Directed) → length (singles i xs) ≡ length xs
unfolding singles
singles_length i [] = refl
singles_length i (x ∷ xs) = ap suc (singles_length (suc i) xs)

-- a signal that may stand behind those before it
pub record NewSignal (before : List Directed) (x : Directed) : Type 0 where
  pub proper : Proper x.0
  pub is_name_lem : is_name x.0 ≡ true
  pub new : find_in (singles 0 before) x.0 ≡ none
  pub few : length before < signals_most
  pub directed : among directions x.1 ≡ true

abbrev Holds : List Directed → Names → Type 0
Holds before ns = worded ns ≡ singles 0 before

held_more : (before : List Directed) (x : Directed) (ns : Names) (t : Tok) → Holds before ns → t.word ≡ x.0 → length ns ≡ length before
    → Holds (before ++ x ∷ []) (ns ++ (t, length ns ∷ []) ∷ [])
unfolding worded
held_more before x ns t i e l = rw (worded-++ ns ((t, length ns ∷ []) ∷ []), i, e, l, singles_more 0 before x, zero-add (length before))

reads_signal : (before : List Directed) (x : Directed) (ns : Names) (k : List Piece) → NewSignal before x → Holds before ns
    → Reads (signal ns) (words (signal_put x k)) (words k) (Holds (before ++ x ∷ []))
unfolding signal_up_to signal_put words sign blank bytes
reads_signal before x ns k f i =
    let long : length ns ≡ length before = sym (worded_length ns) ∙ ap length i ∙ singles_length 0 before in
    reads_bind (reads_new ns x.0 _ (proper_word x.0 f.proper) f.is_name_lem (find_worded ns x.0 ∙ ap (λ l. find_in l x.0) i ∙ f.new)) λ t e.
    reads_if _ _ _ _ (lt-leb signals_most (length ns) (omega (arith, f.few))) (reads_bind (reads_among directions x.1 _ f.directed) λ p u.
    reads_bind (reads_due (bytes ";") _) λ q v. reads_give _ _ (held_more before x ns t i e long))

signal_begins : (before : List Directed) (x : Directed) (k : List Piece) → NewSignal before x → Unlike (bytes "}") (words (signal_put x k))
unfolding signal_put words bytes wordy letter digit between
signal_begins before x k f = no_sign x.0 125 f.proper refl

-- THE LAW
pub reads_signals : (x : Directed) (xs : List Directed) (k : List Piece) → AllFit NewSignal [] (x ∷ xs)
    → Reads signals (words (signals_put (x ∷ xs) k)) (words k) (λ ns. worded ns ≡ singles 0 (x ∷ xs))
unfolding signals_up_to signals_put each words sign blank bytes worded singles
reads_signals x xs k f =
    reads_bind (reads_due (bytes "Signals") _) λ p u. reads_bind (reads_due (bytes "{") _) λ q v.
    reads_bind (reads_signal [] x [] (each signal_put xs (only closing ∷ only lf ∷ k)) f.0 refl) λ ns i.
    reads_until signal_put "}" signal (λ ns. moves_takes (moves_signal ns)) Holds NewSignal signal_begins reads_signal xs (x ∷ []) ns (only closing ∷ only lf ∷ k) (words k) f.1 i refl
