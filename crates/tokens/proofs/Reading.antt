-- What each byte does to reading, at a place of a text: one turn of the code is one step of `lex`.
use Prim.Native.Nat.{ℕ, zero, suc, ◌+◌, ◌-◌, ◌≤◌, ◌<◌}
use native.Mathlib.Omega.{arith}
use native.Mathlib.Numerals.{add-one}
use mathlib.Core.Path.{◌≡◌, refl, sym, ap, ◌∙◌}
use mathlib.Core.Bool.{true, false, ◌&&◌, and-false}
use mathlib.Core.List.{List, [], ◌∷◌}
use lib.ListN.{length, get_or, drop, drop_of_length-le}
use lib.Seq.{drop-cons}
use lib.Dec.{eqb}
use borrow.Author.Tests.{eq-eqb, ne_eqb, le-leb, lt-leb}
use Rattle.tokens.specs.Written.{starts, cases}
use Rattle.tokens.specs.Bytes.{between, allowed, blank, letter, digit, wordy}
use Rattle.tokens.specs.Refusals.{text_most, too_long, bad_byte, open_comment}
use Rattle.tokens.specs.Tokens.{Toks, tok, Mode, plain, inword, line, closing, opened, block, Act, go, token, bad, run, outside, in_mode, act, ended, done, lex, toks, found, nothing, refused, first, next_token}
use Rattle.tokens.specs.Answers.{Step, Lead, next_of, TokenAt, Leads}
use Rattle.std.proofs.Common.{Continue, Break}
use Rattle.tokens.proofs.Allowed.{blank_allowed, blank_unwordy}

-- ---- what a byte b does, with s behind it, by what is known of it

module _ (p b : ℕ) (s : List ℕ) where
  pub bad_does : (m : Mode) → allowed b ≡ false → act m p b s ≡ bad
  unfolding act cases
  bad_does m e = rw e

  pub line_does : allowed b ≡ true → (b ≡ 10 → ⊥) → act line p b s ≡ go line
  unfolding act in_mode cases
  line_does e h = rw (e, ne_eqb b 10 h)

  pub block_does : (q : ℕ) → allowed b ≡ true → eqb b 42 && starts 47 s ≡ false → act (block q) p b s ≡ go (block q)
  unfolding act in_mode cases
  block_does q e h = rw (e, h)

  pub word_does : allowed b ≡ true → wordy b ≡ true → act plain p b s ≡ token (b ∷ run s) inword
  unfolding act in_mode outside cases
  word_does e h = rw (e, h)

  pub blank_does : allowed b ≡ true → wordy b ≡ false → blank b ≡ true → act plain p b s ≡ go plain
  unfolding act in_mode outside cases
  blank_does e h k = rw (e, h, k)

  pub sign_does : allowed b ≡ true → wordy b ≡ false → blank b ≡ false → (b ≡ 47 → ⊥) → act plain p b s ≡ token (b ∷ []) plain
  unfolding act in_mode outside cases
  sign_does e h k j = rw (e, h, k, ne_eqb b 47 j)

-- ---- what the bytes LF, `/` and `*` do

-- a `/` outside comments
abbrev pub slashed : ℕ → List ℕ → Act
slashed p s = cases ((starts 47 s, go line) ∷ (starts 42 s, go (opened p)) ∷ []) (token (47 ∷ []) plain)

module _ (p : ℕ) (s : List ℕ) where
  pub lf_does : act line p 10 s ≡ go plain
  unfolding act in_mode cases allowed blank between
  lf_does = refl

  pub slash_does : act plain p 47 s ≡ slashed p s
  unfolding act in_mode outside cases allowed blank between wordy letter digit
  slash_does = refl

  pub second_slash_does : act line p 47 s ≡ go line
  unfolding act in_mode cases allowed blank between
  second_slash_does = refl

  pub second_star_does : (q : ℕ) → act (opened q) p 42 s ≡ go (block q)
  unfolding act in_mode cases allowed blank between
  second_star_does q = refl

  pub star_does : (q : ℕ) → starts 47 s ≡ true → act (block q) p 42 s ≡ go closing
  unfolding act in_mode cases allowed blank between
  star_does q e = rw e

  pub last_slash_does : act closing p 47 s ≡ go plain
  unfolding act in_mode cases allowed blank between
  last_slash_does = refl

-- ---- the text at a place

-- what stands behind a place, by the byte there
starts_at : (c k : ℕ) (text : List ℕ) → 0 < c → starts c (drop k text) ≡ eqb (get_or text k 0) c
unfolding starts
starts_at c zero [] h = sym (ne_eqb 0 c (λ e. omega arith))
starts_at c (suc k) [] h = sym (ne_eqb 0 c (λ e. omega arith))
starts_at c zero (b ∷ text) h = refl
starts_at c (suc k) (b ∷ text) h = starts_at c k text h

-- a byte that is not 0 stands in the text
stands : (k : ℕ) (text : List ℕ) → (get_or text k 0 ≡ 0 → ⊥) → k < length text
stands zero [] h = absurd (h refl)
stands (suc k) [] h = absurd (h refl)
stands zero (b ∷ text) h = omega arith
stands (suc k) (b ∷ text) h = omega (arith, stands k text h)

-- the tokens from the place i on, read in the mode m
abbrev pub from : List ℕ → Mode → ℕ → Toks
from text m i = lex m i (drop i text)

-- the text from a place on: its byte there, and the rest
pub cut : (t : List ℕ) (i : ℕ) → i < length t → drop i t ≡ get_or t i 0 ∷ drop (i + 1) t
cut t i h = rw (add-one, drop-cons t i 0)

module _ (text : List ℕ) (i : ℕ) where
  -- one step: the byte b does a
  turn : (m : Mode) (b : ℕ) (a : Act) → i < length text → get_or text i 0 ≡ b → act m i b (drop (i + 1) text) ≡ a
      → from text m i ≡ done a i (λ m'. from text m' (i + 1))
  unfolding lex
  turn m b a h e k = rw (cut text i h, e, k, add-one)

  -- the byte behind is c, or another
  behind : (c : ℕ) → 0 < c → get_or text (i + 1) 0 ≡ c → (i + 1 < length text) × (starts c (drop (i + 1) text) ≡ true)
  behind c h e = (stands (i + 1) text (λ z. omega arith), starts_at c (i + 1) text h ∙ eq-eqb _ c e)

  other : (c : ℕ) → 0 < c → (get_or text (i + 1) 0 ≡ c → ⊥) → starts c (drop (i + 1) text) ≡ false
  other c h k = starts_at c (i + 1) text h ∙ ne_eqb _ c k

  two : i + 1 + 1 ≡ i + 2
  two = omega arith

module _ (text : List ℕ) (i : ℕ) where
  -- ---- in any mode

  pub bad_stops : (m : Mode) → i < length text → allowed (get_or text i 0) ≡ false → first (from text m i) ≡ refused bad_byte i
  unfolding done first
  bad_stops m h e = ap first (turn text i m _ bad h refl (bad_does i _ _ m e))

  -- ---- in a `//`

  pub line_ends : i < length text → get_or text i 0 ≡ 10 → from text line i ≡ toks text (i + 1)
  unfolding done toks
  line_ends h e = turn text i line 10 _ h e (lf_does i _)

  pub line_goes : i < length text → allowed (get_or text i 0) ≡ true → (get_or text i 0 ≡ 10 → ⊥)
      → from text line i ≡ from text line (i + 1)
  unfolding done
  line_goes h e k = turn text i line _ _ h refl (line_does i _ _ e k)

  pub line_over : length text ≤ i → first (from text line i) ≡ nothing
  unfolding lex ended first
  line_over h = rw (drop_of_length-le text h)

  -- ---- in a `/*` that opened at q

  pub block_goes : (q : ℕ) → i < length text → allowed (get_or text i 0) ≡ true → (get_or text i 0 ≡ 42 → ⊥)
      → from text (block q) i ≡ from text (block q) (i + 1)
  unfolding done
  block_goes q h e k = turn text i (block q) _ _ h refl (block_does i _ _ q e (rw (ne_eqb _ 42 k)))

  pub star_goes : (q : ℕ) → i < length text → allowed (get_or text i 0) ≡ true → (get_or text (i + 1) 0 ≡ 47 → ⊥)
      → from text (block q) i ≡ from text (block q) (i + 1)
  unfolding done
  star_goes q h e k =
      turn text i (block q) _ _ h refl (block_does i _ _ q e (rw (other text i 47 (omega arith) k, and-false)))

  pub block_closes : (q : ℕ) → i < length text → get_or text i 0 ≡ 42 → get_or text (i + 1) 0 ≡ 47
      → from text (block q) i ≡ toks text (i + 2)
  unfolding done toks
  block_closes q h e k =
      let n = behind text i 47 (omega arith) k in
      turn text i (block q) 42 _ h e (star_does i _ q n.1)
      ∙ turn text (i + 1) closing 47 _ n.0 k (last_slash_does (i + 1) _)
      ∙ rw (two text i)

  pub block_over : (q : ℕ) → length text ≤ i → first (from text (block q) i) ≡ refused open_comment q
  unfolding lex ended first
  block_over q h = rw (drop_of_length-le text h)

  -- ---- outside comments

  pub blank_goes : i < length text → blank (get_or text i 0) ≡ true → toks text i ≡ toks text (i + 1)
  unfolding done toks
  blank_goes h j = turn text i plain _ _ h refl (blank_does i _ _ (blank_allowed _ j) (blank_unwordy _ j) j)

  pub word : (b : ℕ) → TokenAt text i b → wordy b ≡ true
      → toks text i ≡ tok (record { at = i; word = b ∷ run (drop (i + 1) text) }) (from text inword (i + 1))
  unfolding done toks
  word b t w = turn text i plain b _ t.inside (sym t.byte) (word_does i b _ t.good w)

  pub sign : (b : ℕ) → TokenAt text i b → wordy b ≡ false → toks text i ≡ tok (record { at = i; word = b ∷ [] }) (toks text (i + 1))
  unfolding done toks
  sign b t w = turn text i plain b _ t.inside (sym t.byte) (sign_does i b _ t.good w t.mark t.alone)

  pub word_found : (b e : ℕ) → TokenAt text i b → wordy b ≡ true → e ≡ i + 1 + length (run (drop (i + 1) text))
      → first (toks text i) ≡ found i (e - i)
  unfolding first
  word_found b e t w k =
      let n : suc (length (run (drop (i + 1) text))) ≡ e - i = omega arith in
      ap first (word b t w) ∙ ap (found i) n

  pub sign_found : (b : ℕ) → TokenAt text i b → wordy b ≡ false → first (toks text i) ≡ found i 1
  unfolding first
  sign_found b t w = ap first (sign b t w)

  pub over : length text ≤ i → first (toks text i) ≡ nothing
  unfolding toks lex ended first
  over h = rw (drop_of_length-le text h)

  -- ---- at a `/`

  slash : i < length text → get_or text i 0 ≡ 47 → toks text i ≡ done (slashed i (drop (i + 1) text)) i (λ m. from text m (i + 1))
  unfolding toks
  slash h e = turn text i plain 47 _ h e (slash_does i _)

  pub slash_opens_line : i < length text → get_or text i 0 ≡ 47 → get_or text (i + 1) 0 ≡ 47
      → toks text i ≡ from text line (i + 2)
  unfolding done cases
  slash_opens_line h e k =
      let n = behind text i 47 (omega arith) k in
      slash h e ∙ rw n.1 (turn text (i + 1) line 47 _ n.0 k (second_slash_does (i + 1) _) ∙ rw (two text i))

  pub slash_opens_block : i < length text → get_or text i 0 ≡ 47 → get_or text (i + 1) 0 ≡ 42
      → toks text i ≡ from text (block i) (i + 2)
  unfolding done cases
  slash_opens_block h e k =
      let n = behind text i 42 (omega arith) k in
      let o = other text i 47 (omega arith) (λ z. omega arith) in
      slash h e
      ∙ rw (o, n.1) (turn text (i + 1) (opened i) 42 _ n.0 k (second_star_does (i + 1) _ i) ∙ rw (two text i))

  pub slash_found : i < length text → get_or text i 0 ≡ 47 → (get_or text (i + 1) 0 ≡ 47 → ⊥) → (get_or text (i + 1) 0 ≡ 42 → ⊥)
      → first (toks text i) ≡ found i 1
  unfolding done cases first
  slash_found h e k j = ap first (slash h e) ∙ rw (other text i 47 (omega arith) k, other text i 42 (omega arith) j)

  -- ---- in a word

  pub word_goes : i < length text → wordy (get_or text i 0) ≡ true → length (run (drop i text)) ≡ suc (length (run (drop (i + 1) text)))
  unfolding run
  word_goes h e = rw (cut text i h) (rw (e, run))

  pub word_ends : i < length text → wordy (get_or text i 0) ≡ false → length (run (drop i text)) ≡ 0
  unfolding run
  word_ends h e = rw (cut text i h) (rw (e, run))

  pub word_over : length text ≤ i → length (run (drop i text)) ≡ 0
  unfolding run
  word_over h = rw (drop_of_length-le text h)

-- ---- where reading is led, from the place `at` with the tokens ts, once they are known to be us

module _ {text : List ℕ} {at : ℕ} {ts us : Toks} (e : ts ≡ us) where
  pub led_to_lem : {s : Step} → first us ≡ next_of s → Leads text at ts (Break s)
  led_to_lem h = record { led = ap first e ∙ h; ahead = tt }

  pub led_on : {k : ℕ} → at < k → us ≡ toks text k → Leads text at ts (Continue k)
  led_on h l = record { led = ap first (e ∙ l); ahead = h }

  pub led_from : {i : ℕ} (r : Lead) → at ≤ i → Leads text i us r → Leads text at ts r
  led_from (Continue k) h l = record { led = ap first e ∙ l.led; ahead = omega (arith, l.ahead) }
  led_from (Break s) h l = led_to_lem l.led

-- and where a lead r is known to lead
pub on_led : {text : List ℕ} {at k : ℕ} {ts : Toks} {r : Lead} → r ≡ Continue k → Leads text at ts r → Leads text at ts (Continue k)
on_led e l = rw e at l

pub to_led : {text : List ℕ} {at : ℕ} {ts : Toks} {r : Lead} {s : Step} → r ≡ Break s → Leads text at ts r → first ts ≡ next_of s
to_led {text} {at} {ts} e l = let h : Leads text at ts (Break _) = rw e at l in h.led

-- ---- the text's bound

pub too_long_lem : (text : List ℕ) (at : ℕ) → text_most < length text → next_token text at ≡ refused too_long 0
unfolding next_token
too_long_lem text at h = rw (lt-leb (length text) text_most h, next_token)

pub short_enough : (text : List ℕ) (at : ℕ) → length text ≤ text_most → next_token text at ≡ first (toks text at)
unfolding next_token
short_enough text at h = rw (le-leb (length text) text_most h, next_token)
