-- PatternBurst and PatternExec, as written, read back.
use Prim.Native.Nat.{ℕ, suc, ◌<◌}
use native.Mathlib.Omega.{arith}
use mathlib.Core.Path.{◌≡◌, refl, ap}
use mathlib.Core.Bool.{true}
use mathlib.Core.Option.{some}
use mathlib.Core.List.{List, [], ◌∷◌, ◌++◌}
use lib.ListN.{length}
use borrow.Author.Tests.{lt-leb}
use Rattle.tokens.specs.Written.{bytes, same}
use Rattle.tokens.specs.Bytes.{between, blank, digit, letter, wordy}
use Rattle.tokens.specs.Tokens.{Tok}
use Rattle.meaning.specs.Bounds.{list_most}
use Rattle.meaning.specs.Lists.{has}
use Rattle.meaning.specs.Reader.{is_word}
use Rattle.meaning.specs.Names.{reserved, among, is_name, find}
use Rattle.meaning.specs.Document.{list_entry, burst, exec}
use Rattle.held.proofs.Rest.{moves_takes}
use Rattle.held.proofs.Grammar.{moves_listed}
use Rattle.folded.specs.Pieces.{Piece, only, closing, lf}
use Rattle.folded.specs.Layout.{burst_name, listed_put, burst_put, exec_put}
use Rattle.folded.specs.Same.{words_of}
use Rattle.folded.proofs.Words.{Proper, sign, words}
use Rattle.words.proofs.Words.{same_self}
use Rattle.folded.proofs.Reading.{Reads, AllFit, Unlike, reads_bind, reads_if, reads_give, reads_due, reads_name, reads_old, reads_until}
use Rattle.folded.proofs.SignalsBack.{proper_word, no_sign}

words_more : (l : List Tok) (t : Tok) → words_of (l ++ t ∷ []) ≡ words_of l ++ t.word ∷ []
unfolding words_of
words_more [] t = refl
words_more (u ∷ l) t = ap (λ (k : List (List ℕ)). u.word ∷ k) (words_more l t)

pub words_length : (l : List Tok) → length (words_of l) ≡ length l
unfolding words_of
words_length [] = refl
words_length (t ∷ l) = ap suc (words_length l)

pub record NewListed (before : List (List ℕ)) (n : List ℕ) : Type 0 where
  pub proper : Proper n
  pub is_name_lem : is_name n ≡ true
  pub few : length before < list_most

reads_entry : (before : List (List ℕ)) (n : List ℕ) (l : List Tok) (k : List Piece) → NewListed before n → words_of l ≡ before
    → Reads (list_entry l) (words (listed_put n k)) (words k) (λ l. words_of l ≡ before ++ n ∷ [])
unfolding list_entry listed_put words sign blank bytes
reads_entry before n l k f i =
    reads_bind (reads_name n _ (proper_word n f.proper) f.is_name_lem) λ t e.
    reads_if _ _ _ _ (lt-leb list_most (length l) (omega (arith, f.few, words_length l, ap length i))) (reads_bind (reads_due (bytes ";") _) λ p u.
    reads_give _ _ (rw (words_more l t, i, e)))

entry_begins : (before : List (List ℕ)) (n : List ℕ) (k : List Piece) → NewListed before n → Unlike (bytes "}") (words (listed_put n k))
unfolding listed_put words bytes wordy letter digit between
entry_begins before n k f = no_sign n 125 f.proper refl

pub burst_word : is_word burst_name ≡ true
unfolding burst_name bytes is_word wordy letter digit between
burst_word = refl

pub burst_is_name : is_name burst_name ≡ true
unfolding burst_name bytes is_name has digit between among reserved same
burst_is_name = refl

-- THE LAWS
pub reads_burst : (ns : List (List ℕ)) (k : List Piece) → AllFit NewListed [] ns → Reads burst (words (burst_put ns k)) (words k) (λ x. (x.0.word ≡ burst_name) × (words_of x.1 ≡ ns))
unfolding burst burst_put words sign blank bytes words_of
reads_burst ns k f =
    reads_bind (reads_due (bytes "PatternBurst") _) λ p u. reads_bind (reads_name burst_name _ burst_word burst_is_name) λ t e.
    reads_bind (reads_due (bytes "{") _) λ p u. reads_bind (reads_due (bytes "PatList") _) λ p u. reads_bind (reads_due (bytes "{") _) λ p u.
    reads_bind (reads_until listed_put "}" list_entry (λ l. moves_takes (moves_listed l)) (λ before l. words_of l ≡ before) NewListed entry_begins reads_entry ns [] []
    (only closing ∷ only closing ∷ only lf ∷ k) (words (only closing ∷ only lf ∷ k)) f refl refl) λ l i.
    reads_bind (reads_due (bytes "}") _) λ p u. reads_give _ _ (e, i)

found_burst : (b : Tok) → b.word ≡ burst_name → find {A = ℕ} ((b, 0) ∷ []) burst_name ≡ some 0
unfolding find
found_burst b e = rw (e, same_self burst_name, find)

pub reads_exec : (b : Tok) (k : List Piece) → b.word ≡ burst_name → Reads (exec b) (words (exec_put k)) (words k) (λ p. Unit {0})
unfolding exec exec_put words sign blank bytes
reads_exec b k e =
    reads_bind (reads_due (bytes "PatternExec") _) λ p u. reads_bind (reads_due (bytes "{") _) λ p u. reads_bind (reads_due (bytes "PatternBurst") _) λ p u.
    reads_bind (reads_old ((b, 0) ∷ []) burst_name 0 _ burst_word burst_is_name (found_burst b e)) λ x q.
    reads_bind (reads_due (bytes ";") _) λ p u. reads_due (bytes "}") _
