-- The characters of a feed by words: however often a repeat says them, those of its word are the word's bytes, and the word's last byte is the last of them.
use Prim.Native.Nat.{ℕ, suc, ◌+◌}
use native.Mathlib.Omega.{arith}
use mathlib.Core.Path.{◌≡◌, refl, sym, ap, ◌∙◌}
use mathlib.Core.Bool.{Bool, true, false}
use mathlib.Core.List.{List, ◌++◌, append_assoc}
use Rattle.tokens.specs.Tokens.{Toks, toks}
use Rattle.meaning.specs.Lists.{has}
use Rattle.meaning.specs.Reader.{ok}
use Rattle.meaning.specs.Data.{stretched, data_read}
use Rattle.words.specs.Cursor.{span}
use Rattle.data.proofs.Characters.{without_stretched}
use Rattle.data.proofs.Stretched.{stretched_more}
use Rattle.feeds.specs.declared.Feed.{Feed}
use Rattle.feeds.specs.Feeds.{Feeds}

-- some of the word's characters, the word, and then the DATA behind it
pub record Worded (text : List ℕ) (f : Feed) (cs : List ℕ) : Type 0 where
  pub front : List ℕ
  pub rest : List ℕ
  pub last : ℕ
  pub others : Toks
  pub read : data_read false (toks text f.end) ≡ ok (rest, last) others
  pub is : cs ≡ front ++ (span text f.at f.end ++ rest)
  pub among : (c : ℕ) → has c front ≡ true → has c (span text f.at f.end) ≡ true

record Fronted (n : ℕ) (w : List ℕ) : Type 0 where
  pub front : List ℕ
  pub is : w ++ stretched n w ≡ front ++ w
  pub among : (c : ℕ) → has c front ≡ true → has c w ≡ true

-- what n times of a word have, the word has
among_times : (n c : ℕ) (w : List ℕ) → has c (stretched n w) ≡ true → has c w ≡ true
among_times n c w h = by (has c w) refl
  where
    by : (b : Bool) → has c w ≡ b → b ≡ true
    by true e = refl
    by false e = sym (without_stretched c n w e) ∙ h

fronted : (n : ℕ) (w : List ℕ) → Fronted n w
unfolding stretched
fronted n w =
    let e : suc n ≡ n + 1 = omega arith in
    record { front = stretched n w; is = ap (λ (m : ℕ). stretched m w) e ∙ sym (stretched_more n w); among = λ c. among_times n c w }

pub worded : {text cs : List ℕ} {f : Feed} → f.from ≡ f.at → Feeds text f cs → Worded text f cs
worded {text} {cs} {f} e x =
    let w = span text f.at f.end in
    let y = fronted f.left w in
    record {
      front = y.front;
      rest = x.rest;
      last = x.last;
      others = x.others;
      read = x.read;
      is =
          x.is ∙ sym (append_assoc w (stretched f.left (span text f.from f.end)) x.rest)
          ∙ ap (λ (p : ℕ). (w ++ stretched f.left (span text p f.end)) ++ x.rest) e ∙ ap (λ (l : List ℕ). l ++ x.rest) y.is
          ∙ append_assoc y.front w x.rest;
      among = y.among;
    }
