-- What is left of an argument's characters, read from the text as they are needed: a word that is repeated is read again.
use Rattle.std.specs.Prelude.{ℕ, suc, ◌≤◌, ◌<◌, min, ◌≡◌, true, false, List, [], ◌∷◌, ◌++◌, eqb, get_or, drop}
use Rattle.tokens.specs.Tokens.{Tok, Toks, toks, left}
use Rattle.meaning.specs.Reader.{ok}
use Rattle.meaning.specs.Data.{stretched, repeat_of, times, repeated, data_read}
use Rattle.meaning.specs.Run.{next, behind}
use Rattle.words.specs.Cursor.{span, alive, stream}
use Rattle.words.specs.declared.Cursor.{Cursor}
use Rattle.feeds.specs.declared.Feed.{Feed}
use Rattle.feeds.specs.declared.Fed.{Fed}

-- the characters cs are left: those of the word from `at` to `end`, the whole word `left` times more, and then those of the DATA behind `end`
pub record Feeds (text : List ℕ) (f : Feed) (cs : List ℕ) : Type 0 where
  pub rest : List ℕ
  pub last : ℕ
  pub others : Toks
  pub read : data_read false (toks text f.end) ≡ ok (rest, last) others
  pub again : 0 < f.left → (f.at < f.end) × (f.from < f.end)
  pub is : cs ≡ span text f.at f.end ++ (stretched f.left (span text f.from f.end) ++ rest)

-- the next character was taken; 0 where none was left
pub record Takes (text : List ℕ) (f : Feed) (r : Fed) : Type 0 where
  pub char : (cs : List ℕ) → Feeds text f cs → r.char ≡ next cs
  pub left : (cs : List ℕ) → Feeds text f cs → Feeds text r.feed (behind cs)

-- n characters were passed
pub record Skips (text : List ℕ) (f : Feed) (n : ℕ) (r : Feed) : Type 0 where
  pub left : (cs : List ℕ) → Feeds text f cs → Feeds text r (drop n cs)

-- how many of these characters have the mark 1, before the first that has another
unfoldable pub front : List ℕ → List ℕ → ℕ
front marks [] = 0
front marks (c ∷ cs) = elim (eqb (get_or marks c 0) 1) [ true ↦ suc (front marks cs) | false ↦ 0 ]

-- n are these, at most so many, of the characters of the feed f's word, as often as it is still said
pub record Fine (text : List ℕ) (f : Feed) (marks : List ℕ) (most n : ℕ) : Type 0 where
  pub few : n ≤ most
  pub is : (cs : List ℕ) → Feeds text f cs → n ≡ min most (front marks (span text f.at f.end ++ stretched f.left (span text f.from f.end)))

-- ---- within a word

-- where the feed f has a word, r is behind its next character
pub record BehindOne (f r : Feed) : Type 0 where
  pub left : (text cs : List ℕ) → Feeds text f cs → f.at < f.end → Feeds text r (behind cs)

-- behind n of the characters cs of one feed, or m of those of another, the same are left
pub record Onward (text : List ℕ) (n : ℕ) (cs : List ℕ) (r : Feed) (m : ℕ) : Type 0 where
  pub ds : List ℕ
  pub feeds : Feeds text r ds
  pub same : drop m ds ≡ drop n cs

-- n characters were passed up to m that are not the word's, so that there are some only where nothing of it is left
pub record Passes (f : Feed) (n : ℕ) (r : Feed) (m : ℕ) : Type 0 where
  pub onward : (text cs : List ℕ) → Feeds text f cs → Onward text n cs r m
  pub end : r.end ≡ f.end
  pub word : 0 < m → r.end ≤ r.at

-- ---- the next word

-- how often a repeat says its word behind the first time
pub record Times (w : List ℕ) (k : ℕ) : Type 0 where
  pub is : (t : Tok) (n : ℕ) (ts us : Toks) → times t (repeat_of w) ts ≡ ok n us → n ≡ suc k

-- a word that stands for the characters ds, and the tokens vs behind it
pub record Spells (text : List ℕ) (r : Feed) (ds : List ℕ) (vs : Toks) : Type 0 where
  pub word : r.at < r.end
  pub whole : r.from ≡ r.at
  pub is : ds ≡ stretched (suc r.left) (span text r.from r.end)
  pub behind : vs ≡ toks text r.end

-- what is read behind `\` is r; in any text a word that is found leaves fewer tokens
pub record Repeats (text : List ℕ) (c : Cursor) (r : Feed) : Type 0 where
  pub spells : alive c ≡ true → (ds : List ℕ) (vs : Toks) → repeated (stream text c) ≡ ok ds vs → Spells text r ds vs
  pub whole : r.from ≡ r.at
  pub fewer : r.at < r.end → (alive c ≡ true) × (left (toks text r.end) < left (stream text c))

-- the next word of the DATA at a place, from its first byte on; there is none only where the DATA ends
pub record NextWord (text : List ℕ) (place : ℕ) (r : Feed) : Type 0 where
  pub feeds : (cs : List ℕ) (q : ℕ) (us : Toks) → data_read false (toks text place) ≡ ok (cs, q) us → Feeds text r cs
  pub ends : (cs : List ℕ) (q : ℕ) (us : Toks) → data_read false (toks text place) ≡ ok (cs, q) us → r.end ≤ r.at → cs ≡ []
  pub whole : r.from ≡ r.at
  pub fewer : r.at < r.end → left (toks text r.end) < left (toks text place)

-- the same characters, with a word where there is one
pub record AtWord (text : List ℕ) (f r : Feed) : Type 0 where
  pub feeds : (cs : List ℕ) → Feeds text f cs → Feeds text r cs
  pub ends : (cs : List ℕ) → Feeds text f cs → r.end ≤ r.at → cs ≡ []
  pub fewer : f.end ≤ f.at → r.at < r.end → left (toks text r.end) < left (toks text f.end)
