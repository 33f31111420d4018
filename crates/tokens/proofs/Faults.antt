-- What is wrong with a text, found byte by byte and, at a `/`, token by token.
use Prim.Native.Nat.{ℕ, ◌+◌, ◌≤◌, ◌<◌}
use mathlib.Core.Path.{◌≡◌, refl, ap, ◌∙◌}
use mathlib.Core.Bool.{Bool, true, false}
use mathlib.Core.Option.{Option, none, some}
use mathlib.Core.List.{List, [], ◌∷◌}
use lib.ListN.{length, get_or, drop}
use lib.Dec.{eqb, leb}
use borrow.Author.Tests.{lt-leb, le-leb}
use Rattle.tokens.specs.Bytes.{allowed, blank, wordy}
use Rattle.tokens.specs.Refusals.{text_most, too_long, bad_byte, not_here}
use Rattle.tokens.specs.Tokens.{Toks, stop, tok, plain, inword, ended, done, lex, toks, Next, found, nothing, refused, first, next_token, fault_in, fault_of}
use Rattle.tokens.specs.Answers.{TokenAt}
use Rattle.tokens.proofs.Allowed.{wordy_allowed}
use Rattle.tokens.proofs.Reading.{word_does, bad_stops, blank_goes, word, sign, over, short_enough}
use Rattle.tokens.proofs.Stream.{in_word, behind_word}
use Rattle.tokens.proofs.Laws.{at_token, at_end}

-- the fault from a place on
abbrev pub fault_from : List ℕ → ℕ → Option (ℕ × ℕ)
fault_from text at = elim (leb (length text) text_most) [ true ↦ fault_in (toks text at) | false ↦ some (too_long, 0) ]

-- behind a token it is the fault from the token's end on
pub fault_behind : (text : List ℕ) (at p l : ℕ) → next_token text at ≡ found p l → fault_from text at ≡ fault_from text (p + l)
unfolding fault_in
fault_behind text at p l e =
    ap (λ (x : Option (ℕ × ℕ)). elim (leb (length text) text_most) [ true ↦ x | false ↦ some (too_long, 0) ])
    (ap fault_in (at_token text at p l e).stream)

-- where there is nothing more there is none
pub fault_none : (text : List ℕ) (at : ℕ) → next_token text at ≡ nothing → fault_from text at ≡ none
unfolding next_token fault_in
fault_none text at e = by (leb (length text) text_most) e
  where
    by : (b : Bool) → ◌≡◌ {A = Next} (elim b [ true ↦ first (toks text at) | false ↦ refused too_long 0 ]) nothing
        → ◌≡◌ {A = Option (ℕ × ℕ)} (elim b [ true ↦ fault_in (toks text at) | false ↦ some (too_long, 0) ]) none
    by true h = ap fault_in (at_end text at e)
    by false h = cc

-- where reading is refused it is that fault
pub fault_there : (text : List ℕ) (at n q : ℕ) → next_token text at ≡ refused n q → fault_from text at ≡ some (n, q)
unfolding next_token fault_in first
fault_there text at n q e = by (leb (length text) text_most) e
  where
    halt : (b : Bool) (m o : ℕ) → ◌≡◌ {A = Next} (elim b [ true ↦ nothing | false ↦ refused m o ]) (refused n q)
        → ◌≡◌ {A = Option (ℕ × ℕ)} (elim b [ true ↦ none | false ↦ some (m, o) ]) (some (n, q))
    halt true m o h = cc
    halt false m o h = cc

    stream : (ts : Toks) → first ts ≡ refused n q → fault_in ts ≡ some (n, q)
    stream (tok t ts) h = cc
    stream (stop m o) h = halt (eqb m not_here) m o h

    by : (b : Bool) → ◌≡◌ {A = Next} (elim b [ true ↦ first (toks text at) | false ↦ refused too_long 0 ]) (refused n q)
        → ◌≡◌ {A = Option (ℕ × ℕ)} (elim b [ true ↦ fault_in (toks text at) | false ↦ some (too_long, 0) ]) (some (n, q))
    by true h = stream (toks text at) h
    by false h = cc

-- a text that is too long has that fault
pub fault_too_long : (text : List ℕ) → text_most < length text → fault_of text ≡ some (too_long, 0)
unfolding fault_of
fault_too_long text h = rw (lt-leb (length text) text_most h, fault_of)

-- reading on in a word meets the fault that reading from there meets
pub fault_in_word : (p : ℕ) (s : List ℕ) → fault_in (lex inword p s) ≡ fault_in (lex plain p s)
unfolding lex ended done fault_in
fault_in_word p [] = refl
fault_in_word p (b ∷ s) = by (wordy b) refl
  where
    by : (w : Bool) → wordy b ≡ w → fault_in (lex inword p (b ∷ s)) ≡ fault_in (lex plain p (b ∷ s))
    by true e = rw (in_word p b s e, word_does p b s (wordy_allowed b e) e)
    by false e = rw (behind_word p b s e)

module _ (text : List ℕ) (i : ℕ) where
  -- a byte that is allowed, and no `/`, is no fault and opens no comment
  pub fault_goes : i < length text → allowed (get_or text i 0) ≡ true → (get_or text i 0 ≡ 47 → ⊥) → fault_from text i ≡ fault_from text (i + 1)
  unfolding fault_in toks
  fault_goes h e o =
      ap (λ (x : Option (ℕ × ℕ)). elim (leb (length text) text_most) [ true ↦ x | false ↦ some (too_long, 0) ])
      (by (blank (get_or text i 0)) (wordy (get_or text i 0)) refl refl)
    where
      token : blank (get_or text i 0) ≡ false → TokenAt text i (get_or text i 0)
      token k = record { inside = h; byte = refl; good = e; mark = k; alone = o }

      by : (k w : Bool) → blank (get_or text i 0) ≡ k → wordy (get_or text i 0) ≡ w → fault_in (toks text i) ≡ fault_in (toks text (i + 1))
      by true w k j = ap fault_in (blank_goes text i h k)
      by false true k j = ap fault_in (word text i _ (token k) j) ∙ fault_in_word (i + 1) (drop (i + 1) text)
      by false false k j = ap fault_in (sign text i _ (token k) j)

  pub fault_bad : length text ≤ text_most → i < length text → allowed (get_or text i 0) ≡ false → fault_from text i ≡ some (bad_byte, i)
  unfolding toks
  fault_bad s h e = fault_there text i bad_byte i (short_enough text i s ∙ bad_stops text i plain h e)

  pub fault_over : length text ≤ text_most → length text ≤ i → fault_from text i ≡ none
  fault_over s h = fault_none text i (short_enough text i s ∙ over text i h)

-- one that is not has those of its tokens
pub short_clean : (text : List ℕ) → length text ≤ text_most → fault_in (toks text 0) ≡ none → fault_of text ≡ none
unfolding fault_of
short_clean text h e = rw (le-leb (length text) text_most h, fault_of) e
