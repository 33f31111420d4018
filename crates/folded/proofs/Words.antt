-- The words of some pieces are the tokens of their bytes.
use Prim.Native.Nat.{ℕ, suc}
use mathlib.Core.Path.{◌≡◌, refl, ap, ◌∙◌}
use mathlib.Core.Bool.{Bool, true, false}
use mathlib.Core.Option.{none}
use mathlib.Core.List.{List, [], ◌∷◌, ◌++◌}
use Rattle.tokens.specs.Bytes.{allowed, blank, wordy}
use Rattle.tokens.specs.Refusals.{not_here}
use Rattle.tokens.specs.Tokens.{Tok, Toks, stop, tok, plain, inword, run, done, ended, lex, fault_in}
use Rattle.tokens.proofs.Allowed.{wordy_allowed}
use Rattle.tokens.proofs.Reading.{word_does, blank_does, sign_does}
use Rattle.tokens.proofs.Stream.{in_word, behind_word}
use Rattle.meaning.specs.Document.{over}
use Rattle.folded.specs.Pieces.{Piece, word, only, laid}

-- a byte that is no blank is a token
unfoldable pub sign : ℕ → List (List ℕ) → List (List ℕ)
sign b ws = elim (blank b) [ true ↦ ws | false ↦ (b ∷ []) ∷ ws ]

unfoldable pub words : List Piece → List (List ℕ)
words [] = []
words (word w b ∷ ps) = w ∷ sign b (words ps)
words (only b ∷ ps) = sign b (words ps)

-- ---- good pieces

abbrev pub AllWordy : List ℕ → Type 0
AllWordy [] = Unit {0}
AllWordy (b ∷ s) = (wordy b ≡ true) × AllWordy s

-- a word has a byte
abbrev pub Proper : List ℕ → Type 0
Proper [] = ⊥
Proper (b ∷ s) = AllWordy (b ∷ s)

-- a byte that ends a word and opens no comment
pub record Apart (b : ℕ) : Type 0 where
  pub good : allowed b ≡ true
  pub ends : wordy b ≡ false
  pub plain : b ≡ 47 → ⊥

abbrev pub Good : List Piece → Type 0
Good [] = Unit {0}
Good (word w b ∷ ps) = Proper w × Apart b × Good ps
Good (only b ∷ ps) = Apart b × Good ps

-- ---- tokens that are some words, and then the text's end

abbrev pub Before : List (List ℕ) → Toks → Toks → Type 0
Before [] ts us = (ts ≡ us) × (over us ≡ true)
Before (w ∷ ws) ts us = (t : Tok) × (vs : Toks) × (ts ≡ tok t vs) × (t.word ≡ w) × Before ws vs us

-- all tokens to the text's end
abbrev pub Spells : List (List ℕ) → Toks → Type 0
Spells ws ts = (q : ℕ) × Before ws ts (stop not_here q)

run_word : (w : List ℕ) (b : ℕ) (s : List ℕ) → AllWordy w → wordy b ≡ false → run (w ++ b ∷ s) ≡ w
unfolding run
run_word [] b s h e = rw (e, run)
run_word (c ∷ w) b s h e = rw (h.0, run) (ap (λ (l : List ℕ). c ∷ l) (run_word w b s h.1 e))

-- in a word
word_passed : (b : ℕ) (s : List ℕ) (ws : List (List ℕ)) (w : List ℕ) → AllWordy w → wordy b ≡ false → ((q : ℕ) → Spells ws (lex plain q (b ∷ s))) → (p : ℕ)
    → Spells ws (lex inword p (w ++ b ∷ s))
unfolding lex done
word_passed b s ws [] h e k p = rw (behind_word p b s e) (k p)
word_passed b s ws (c ∷ w) h e k p = rw (in_word p c (w ++ b ∷ s) h.0) (word_passed b s ws w h.1 e k (suc p))

module _ (b : ℕ) (s : List ℕ) (ws : List (List ℕ)) (a : Apart b) (k : (q : ℕ) → Spells ws (lex plain q s)) where
  sign_spells : (p : ℕ) → Spells (sign b ws) (lex plain p (b ∷ s))
  unfolding lex done sign
  sign_spells p = by (blank b) refl
    where
      by : (c : Bool) → blank b ≡ c → Spells (elim c [ true ↦ ws | false ↦ (b ∷ []) ∷ ws ]) (lex plain p (b ∷ s))
      by true e = rw (blank_does p b s a.good a.ends e) (k (suc p))
      by false e = rw (sign_does p b s a.good a.ends e a.plain) (let r = k (suc p) in (r.0, (_, _, refl, refl, r.1)))

  word_spells : (w : List ℕ) → Proper w → (p : ℕ) → Spells (w ∷ sign b ws) (lex plain p (w ++ b ∷ s))
  unfolding lex done
  word_spells [] h p = absurd h
  word_spells (c ∷ w) h p = rw (word_does p c (w ++ b ∷ s) (wordy_allowed c h.0) h.0) spelled
    where
      spelled : Spells ((c ∷ w) ∷ sign b ws) (tok (record { at = p; word = c ∷ run (w ++ b ∷ s) }) (lex inword (suc p) (w ++ b ∷ s)))
      spelled =
          let r = word_passed b s (sign b ws) w h.1 a.ends sign_spells (suc p) in
          (r.0, (_, _, refl, ap (λ (l : List ℕ). c ∷ l) (run_word w b s h.1 a.ends), r.1))

-- THE LAW
pub spells : (ps : List Piece) → Good ps → (p : ℕ) → Spells (words ps) (lex plain p (laid ps))
unfolding words laid lex ended over
spells [] h p = (p, (refl, refl))
spells (word w b ∷ ps) h p = word_spells b (laid ps) (words ps) h.1 (spells ps h.2) w h.0 p
spells (only b ∷ ps) h p = sign_spells b (laid ps) (words ps) h.0 (spells ps h.1) p

-- so they have no fault
pub no_fault : (ws : List (List ℕ)) (ts : Toks) → Spells ws ts → fault_in ts ≡ none
unfolding fault_in
no_fault [] ts h = ap fault_in h.1.0
no_fault (w ∷ ws) ts h = ap fault_in h.1.2 ∙ no_fault ws h.1.1 (h.0, h.1.4)
