-- The pieces of DATA by the token ahead: what the code's tests on its bytes say of the definition.
use Prim.Native.Nat.{ℕ, ◌-◌, ◌≤◌, ◌<◌}
use native.Mathlib.Omega.{arith}
use mathlib.Core.Path.{◌≡◌, refl, sym, ap, ◌∙◌}
use mathlib.Core.Bool.{Bool, true, false, not}
use mathlib.Core.Option.{none, some}
use mathlib.Core.List.{List, [], ◌∷◌, ◌++◌}
use lib.Seq.{take_all}
use lib.ListN.{length, get_or, take, drop, replicate}
use borrow.Author.Tests.{eq-eqb, ne_eqb}
use Rattle.tokens.specs.Written.{bytes, same}
use Rattle.tokens.specs.Refusals.{not_here}
use Rattle.tokens.specs.Tokens.{Tok}
use Rattle.meaning.specs.Refusals.{bad_data, bad_argument}
use Rattle.meaning.specs.Bounds.{repeat_most}
use Rattle.meaning.specs.Body.{mark}
use Rattle.meaning.specs.Reader.{Res, Reader, ok, refuse, after, ◌>>=◌, give, refuse_if, is_word, one_of, word}
use Rattle.meaning.specs.Names.{number, within}
use Rattle.meaning.specs.Timing.{all_chars}
use Rattle.meaning.specs.Data.{chars_of, stretched, repeat_of, times, repeated, piece, part}
use Rattle.words.specs.declared.Cursor.{Cursor}
use Rattle.words.specs.Cursor.{Goes, Checked}
use Rattle.words.proofs.Flow.{then, given, checked, alike}
use Rattle.data.specs.Filled.{Adds, times_due, piece_due}
use Rattle.data.proofs.Over.{adds_same}
use Rattle.data.proofs.Stretched.{stretched_single}

-- ---- a word's characters

pub chars_read : {text : List ℕ} {c r : Cursor} {b : Bool} (t : Tok) {w : List ℕ} → w ≡ t.word → b ≡ all_chars w → Checked c (not b) bad_data t.at r
    → Goes text c (chars_of t) r t.word
unfolding chars_of
chars_read t e f k = then _ (checked k (ap not (f ∙ ap all_chars e)) refl) given

-- ---- a repeat

-- a word behind its first byte, as the code lends it
abbrev pub rest : List ℕ → List ℕ
rest w = take (length w - 1) (drop 1 w)

rest_all : (b : ℕ) (s : List ℕ) → rest (b ∷ s) ≡ s
rest_all b s = take_all (length (b ∷ s) - 1) s (omega arith)

pub repeat_some : (w : List ℕ) → 0 < length w → get_or w 0 0 ≡ 114 → repeat_of w ≡ some (rest w)
unfolding repeat_of
repeat_some [] h e = absurd (omega arith)
repeat_some (b ∷ s) h e = rw (eq-eqb b 114 e, repeat_of) (ap some (sym (rest_all b s)))

pub repeat_other : (w : List ℕ) → (get_or w 0 0 ≡ 114 → ⊥) → repeat_of w ≡ none
unfolding repeat_of
repeat_other [] e = refl
repeat_other (b ∷ s) e = rw (ne_eqb b 114 e, repeat_of)

pub repeat_end : (w : List ℕ) → length w ≤ 0 → repeat_of w ≡ none
unfolding repeat_of
repeat_end [] h = refl
repeat_end (b ∷ s) h = absurd (omega arith)

module _ {text : List ℕ} {c r : Cursor} {n : ℕ} (t : Tok) {w : List ℕ} (e : w ≡ t.word) where
  pub times_some : {s : List ℕ} → repeat_of w ≡ some s → Goes text c (within 1 repeat_most (number s) t.at) r n → Goes text c (times t (repeat_of t.word)) r n
  unfolding times
  times_some h g = alike g (λ ts. rw (← e, h, times))

  pub times_none : repeat_of w ≡ none → Goes text c (λ ts. refuse not_here t.at) r n → Goes text c (times t (repeat_of t.word)) r n
  unfolding times
  times_none h g = alike g (λ ts. rw (← e, h, times))

-- ---- a repeat spelled out

-- a word of one character
pub adds_alike : {before behind : List ℕ} {n m : ℕ} (k : ℕ) (w : List ℕ) → length w ≡ 1 → Adds before n (replicate k (get_or w 0 0)) behind m
    → Adds before n (stretched k w) behind m
adds_alike k [] h a = absurd (omega arith)
adds_alike k (x ∷ []) h a = adds_same a (sym (stretched_single k x))
adds_alike k (x ∷ y ∷ s) h a = absurd (omega arith)

-- ---- which piece it is

-- tests on a token's bytes w are tests on the token
tested : {w v : List ℕ} {b : Bool} (f : List ℕ → Bool) → w ≡ v → f w ≡ b → f v ≡ b
tested f e h = ap f (sym e) ∙ h

module _ {text : List ℕ} {c r : Cursor} {ds : List ℕ} (m : Bool) (t : Tok) {w : List ℕ} (e : w ≡ t.word) where
  pub piece_word : is_word w ≡ true → Goes text c (chars_of t) r ds → Goes text c (piece m t) r ds
  unfolding piece
  piece_word x g = let x' = tested is_word e x in alike g (λ ts. rw (x', piece))

  module _ (x : is_word w ≡ false) where
    pub piece_mark : same w (bytes "#") ≡ true → Goes text c (refuse_if (not m) bad_argument t.at >>= λ u. give (mark ∷ [])) r ds
        → Goes text c (piece m t) r ds
    unfolding piece one_of
    piece_mark y g =
        let x' = tested is_word e x in
        let y' = tested (λ u. same u (bytes "#")) e y in
        alike g (λ ts. rw (x', y', piece, one_of))

    module _ (y : same w (bytes "#") ≡ false) where
      pub piece_repeat : same w (bytes "\\") ≡ true → Goes text c repeated r ds → Goes text c (piece m t) r ds
      unfolding piece one_of
      piece_repeat z g =
          let x' = tested is_word e x in
          let y' = tested (λ u. same u (bytes "#")) e y in
          let z' = tested (λ u. same u (bytes "\\")) e z in
          alike g (λ ts. rw (x', y', z', piece, one_of))

      pub piece_none : same w (bytes "\\") ≡ false → Goes text c (λ ts. refuse not_here t.at) r ds → Goes text c (piece m t) r ds
      unfolding piece one_of
      piece_none z g =
          let x' = tested is_word e x in
          let y' = tested (λ u. same u (bytes "#")) e y in
          let z' = tested (λ u. same u (bytes "\\")) e z in
          alike g (λ ts. rw (x', y', z', piece, one_of))

-- ---- the same reads in other groups

grouped : {A B C : Type 0} {text : List ℕ} {c r : Cursor} {z : C} (m : Reader A) (f : A → Reader B) (g : B → Reader C)
    → Goes text c ((m >>= f) >>= g) r z → Goes text c (m >>= λ a. f a >>= g) r z
unfolding ◌>>=◌ after
grouped {A} m f g h = alike h (λ ts. by (m ts))
  where
    by : (q : Res A) → after (after q f) g ≡ after q (λ a. f a >>= g)
    by (ok a ts) = refl
    by (refuse n p) = refl

module _ {text : List ℕ} {c r : Cursor} where
  -- a piece behind other characters
  pub part_more : {ds : List ℕ} (m : Bool) (cs : List ℕ) → Goes text c (piece_due m) r ds → Goes text c (part m cs) r (cs ++ ds)
  unfolding part
  part_more m cs g = grouped _ _ _ (then (λ ds. give (cs ++ ds)) g given)

  -- how many times, and then the word
  pub repeat_word : {d : Cursor} {n : ℕ} {ds : List ℕ} → Goes text c times_due d n → Goes text d (word >>= λ u. chars_of u >>= λ cs. give (stretched n cs)) r ds
      → Goes text c repeated r ds
  unfolding repeated
  repeat_word g h = grouped _ _ _ (then (λ n. word >>= λ u. chars_of u >>= λ cs. give (stretched n cs)) g h)
