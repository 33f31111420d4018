-- DATA of one character: what one turn of the loop over the pieces and its end make of it.
use Prim.Native.Nat.{ℕ, ◌<◌}
use native.Mathlib.Omega.{arith}
use mathlib.Core.Path.{◌≡◌, refl, sym, ap, ◌∙◌}
use mathlib.Core.Bool.{Bool, true, false, not, ◌&&◌, ◌||◌}
use mathlib.Core.List.{List, [], ◌∷◌}
use lib.Dec.{eqb}
use lib.ListN.{length, get_or, set, length-set}
use borrow.Author.Tests.{eqb-true, lt-ltb}
use Rattle.tokens.specs.Written.{bytes, same}
use Rattle.tokens.specs.Bytes.{between, digit, letter, wordy}
use Rattle.meaning.specs.Reader.{◌>>=◌, after, give, any, refuse_if, is_word, ahead_of, ahead, due}
use Rattle.meaning.specs.Timing.{wave_char, all_chars}
use Rattle.meaning.specs.Data.{chars_of, data_read}
use Rattle.words.specs.declared.Cursor.{Cursor}
use Rattle.words.specs.Cursor.{span, ahead as ahead_tok, stream, alive, Goes}
use Rattle.words.proofs.Words.{cut}
use Rattle.words.proofs.Flow.{then, given, alike, valued, stream_on}
use Rattle.data.specs.Filled.{count_most, Fills, Single, piece_due}
use Rattle.data.proofs.Over.{wrote_none, wrote_more, wrote_all}
use Rattle.data.proofs.Pieces.{piece_word}
use Rattle.data.proofs.Turns.{reading_none, reading_more, reading_all}

-- a letter or a digit is a word's byte, and no `;`
char_wordy : (b : ℕ) → wave_char b ≡ true → is_word (b ∷ []) ≡ true
unfolding wave_char is_word wordy
char_wordy b e = by (letter b) (digit b) e
  where
    by : (x y : Bool) → (x || y) ≡ true → (x || y || eqb b 95 || eqb b 46) ≡ true
    by true y h = refl
    by false true h = refl
    by false false h = let z : ◌≡◌ {A = ℕ} 0 1 = cc in absurd (omega arith)

char_other : (b : ℕ) → wave_char b ≡ true → eqb b 59 ≡ false
unfolding wave_char letter digit between
char_other b e = by (eqb b 59) refl
  where
    by : (x : Bool) → eqb b 59 ≡ x → x ≡ false
    by true q = sym e ∙ ap wave_char (eqb-true b 59 q)
    by false q = refl

module _ {text : List ℕ} {c : Cursor} (s : Single text c) where
  abbrev character : ℕ
  character = get_or text c.at 0

  word_is : span text c.at c.end ≡ character ∷ []
  word_is = rw (s.one, cut text c.at (let one = s.one in omega (arith, s.inside)))

  -- it is not the `;`
  not_over : true ≡ (alive c && not (ahead ";" (stream text c)))
  unfolding ahead_of same bytes
  not_over =
      let on = s.on in
      let some = stream_on text c (lt-ltb c.at c.end (let one = s.one in omega arith)) in
      let other = char_other character s.char in
      rw (on, some) (rw word_is (rw other))

  read_it : {d : Cursor} (may : Bool) → Goes text c any d (ahead_tok text c) → Goes text c (piece_due may) d (character ∷ [])
  unfolding chars_of refuse_if give ◌>>=◌ after all_chars
  read_it {d} may g =
      let chars : all_chars (span text c.at c.end) ≡ true = ap all_chars word_is ∙ (let e = s.char in rw e) in
      let word : is_word (span text c.at c.end) ≡ true = ap is_word word_is ∙ char_wordy character s.char in
      valued (then _ g (piece_word may (ahead_tok text c) refl word (alike given (λ ts. rw chars)))) (λ h. word_is)

  module _ {d r : Cursor} {last : ℕ} {b : Bool} (may : Bool) (entry : List ℕ) (room : 0 < length entry) (few : length entry < count_most)
      (g : Goes text c any d (ahead_tok text c)) (e : b ≡ (alive d && not (ahead ";" (stream text d)))) (over : b ≡ false)
      (f : Goes text d (due ";") r last) where
    pub single_fills : Fills text c (data_read may) r entry (set entry 0 character) 1 last
    single_fills =
        reading_all
        (reading_more reading_none not_over refl
        (record {
          ds = character ∷ [];
          goes = read_it may g;
          kept = length-set entry 0 character;
          puts = λ h. wrote_all (wrote_more wrote_none (omega arith) few (omega arith) refl) (omega arith) few (omega arith);
        }))
        e over f
