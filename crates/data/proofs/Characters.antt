-- What DATA is, whatever the text: it takes a token, and its characters are letters and digits, and `#` only where that may stand.
use Prim.Native.Nat.{ℕ, zero, suc}
use native.Mathlib.Omega.{arith}
use mathlib.Core.Path.{◌≡◌, refl, sym, ap, ◌∙◌}
use mathlib.Core.Bool.{Bool, true, false, not, ◌&&◌, ◌||◌}
use mathlib.Core.Option.{Option, none, some}
use mathlib.Core.List.{List, [], ◌∷◌, ◌++◌}
use lib.Dec.{eqb}
use borrow.Author.Tests.{eqb-true}
use Rattle.tokens.specs.Bytes.{between, digit, letter}
use Rattle.tokens.specs.Tokens.{Tok}
use Rattle.tokens.proofs.Bools.{neither}
use Rattle.meaning.specs.Body.{mark}
use Rattle.meaning.specs.Lists.{has}
use Rattle.meaning.specs.Reader.{Reader, is_word}
use Rattle.meaning.specs.Timing.{wave_char, all_chars}
use Rattle.meaning.specs.Data.{chars_of, stretched, repeat_of, times, repeated, piece, part, data_read}
use Rattle.meaning.proofs.Takes.{Takes, Keeps}
use Rattle.meaning.proofs.Taking.{takes_keeps, takes_any, takes_word, takes_bind, takes_closed, keeps_bind, keeps_give, keeps_if, keeps_within, keeps_one_of}
use Rattle.meaning.proofs.Gives.{Gives, gives_bind, gives_after, gives_give, gives_if, gives_closed, gives_taken}
use Rattle.meaning.proofs.Choices.{gives_either, ◌also◌}

-- ---- it takes a token

keeps_chars_of : (t : Tok) → Keeps (chars_of t)
unfolding chars_of
keeps_chars_of t = keeps_bind _ _ (keeps_if _ _ _) λ u. keeps_give _

keeps_times : (t : Tok) (o : Option (List ℕ)) → Keeps (times t o)
unfolding times
keeps_times t none = record { stays = λ ts a us e. (let z : ◌≡◌ {A = ℕ} 0 1 = cc in absurd (omega arith)) }
keeps_times t (some s) = record { stays = λ ts a us e. (keeps_within _ _ _ _).stays ts a us e }

takes_repeated : Takes repeated
unfolding repeated
takes_repeated =
    takes_bind _ _ takes_any λ t. keeps_bind _ _ (keeps_times t (repeat_of t.word)) λ n. keeps_bind _ _ (takes_keeps takes_word) λ u.
    keeps_bind _ _ (keeps_chars_of u) λ cs. keeps_give _

keeps_either : {A : Type 0} (c : Bool) (m k : Reader A) → Keeps m → Keeps k → Keeps {A = A} (λ ts. elim c [ true ↦ m ts | false ↦ k ts ])
keeps_either true m k f g = f
keeps_either false m k f g = g

keeps_piece : (m : Bool) (t : Tok) → Keeps (piece m t)
unfolding piece
keeps_piece m t =
    keeps_either (is_word t.word) _ _ (keeps_chars_of t) (keeps_one_of _ (
    (λ p. keeps_bind _ _ (keeps_if _ _ _) λ u. keeps_give _)
    also (λ p. takes_keeps takes_repeated)
    also tt) t)

pub takes_part : (m : Bool) (cs : List ℕ) → Takes (part m cs)
unfolding part
takes_part m cs = takes_bind _ _ takes_any λ t. keeps_bind _ _ (keeps_piece m t) λ ds. keeps_give _

pub takes_data : (m : Bool) → Takes (data_read m)
unfolding data_read
takes_data m = takes_closed ";" (part m) (takes_part m) []

-- ---- bytes that it never has

module _ (b : ℕ) where
  -- b is none of these
  abbrev pub Without : List ℕ → Type 0
  Without cs = has b cs ≡ false

  without_cons : (c : ℕ) (cs : List ℕ) → eqb c b ≡ false → Without cs → Without (c ∷ cs)
  unfolding has
  without_cons c cs h k = rw h k

  without_parts : (c : ℕ) (cs : List ℕ) → Without (c ∷ cs) → (eqb c b ≡ false) × Without cs
  unfolding has
  without_parts c cs h = by (eqb c b) h
    where
      by : (x : Bool) → (x || has b cs) ≡ false → (x ≡ false) × Without cs
      by true h = let z : ◌≡◌ {A = ℕ} 0 1 = cc in absurd (omega arith)
      by false h = (refl, h)

  without-++ : (cs ds : List ℕ) → Without cs → Without ds → Without (cs ++ ds)
  without-++ [] ds h k = k
  without-++ (c ∷ cs) ds h k = let p = without_parts c cs h in without_cons c (cs ++ ds) p.0 (without-++ cs ds p.1 k)

  pub without_stretched : (n : ℕ) (cs : List ℕ) → Without cs → Without (stretched n cs)
  unfolding stretched has
  without_stretched zero cs h = refl
  without_stretched (suc n) cs h = without-++ cs (stretched n cs) h (without_stretched n cs h)

  -- it is no letter and no digit
  module _ (other : wave_char b ≡ false) where
    without_char : (c : ℕ) → wave_char c ≡ true → eqb c b ≡ false
    without_char c h = by (eqb c b) refl
      where
        by : (x : Bool) → eqb c b ≡ x → x ≡ false
        by true e = sym h ∙ ap wave_char (eqb-true c b e) ∙ other
        by false e = refl

    without_chars : (cs : List ℕ) → not (all_chars cs) ≡ false → Without cs
    unfolding all_chars has
    without_chars [] h = refl
    without_chars (c ∷ cs) h = by (wave_char c) refl h (without_chars cs)
      where
        by : (x : Bool) → wave_char c ≡ x → not (x && all_chars cs) ≡ false → (not (all_chars cs) ≡ false → Without cs) → Without (c ∷ cs)
        by true e h ih = without_cons c cs (without_char c e) (ih h)
        by false e h ih = let z : ◌≡◌ {A = ℕ} 0 1 = cc in absurd (omega arith)

    without_chars_of : (t : Tok) → Gives Without (chars_of t)
    unfolding chars_of
    without_chars_of t =
        gives_bind (λ u. not (all_chars t.word) ≡ false) Without _ _ (gives_if _ _ _) λ u h. gives_give Without _ (without_chars t.word h)

    without_repeated : Gives Without repeated
    unfolding repeated
    without_repeated =
        gives_after Without _ _ λ t. gives_after Without _ _ λ n. gives_after Without _ _ λ u.
        gives_bind Without Without _ _ (without_chars_of u) λ cs h. gives_give Without _ (without_stretched n cs h)

    -- nor a `#` that may stand there
    module _ (m : Bool) (unmarked : not m ≡ false → eqb mark b ≡ false) where
      without_piece : (t : Tok) → Gives Without (piece m t)
      unfolding piece has
      without_piece t =
          gives_either Without (is_word t.word) _ _ (without_chars_of t) (gives_taken Without _ (
          (λ p. gives_bind (λ u. not m ≡ false) Without _ _ (gives_if _ _ _) λ u h. gives_give Without _ (without_cons mark [] (unmarked h) refl))
          also (λ p. without_repeated)
          also tt) t)

      without_part : (cs : List ℕ) → Without cs → Gives Without (part m cs)
      unfolding part
      without_part cs h =
          gives_after Without _ _ λ t. gives_bind Without Without _ _ (without_piece t) λ ds k. gives_give Without _ (without-++ cs ds h k)

      without_data : Gives (λ x. Without x.0) (data_read m)
      unfolding data_read has
      without_data = gives_closed Without ";" (part m) without_part [] refl

-- where `#` may not stand, none is read
pub no_mark : Gives (λ x. has mark x.0 ≡ false) (data_read false)
unfolding wave_char letter digit between
no_mark = without_data mark refl false (λ h. let z : ◌≡◌ {A = ℕ} 0 1 = cc in absurd (omega arith))

-- no character is 0
pub no_zero : (m : Bool) → Gives (λ x. has 0 x.0 ≡ false) (data_read m)
unfolding wave_char letter digit between
no_zero m = without_data 0 refl m (λ h. refl)

-- none is anything but a letter, a digit or `#`
pub no_other : (b : ℕ) (m : Bool) → (wave_char b || eqb mark b) ≡ false → Gives (λ x. has b x.0 ≡ false) (data_read m)
no_other b m h = let p = neither (wave_char b) (eqb mark b) h in without_data b p.0 m (λ u. p.1)
