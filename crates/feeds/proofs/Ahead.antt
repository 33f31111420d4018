-- The words of DATA that was read, as the code finds them: by the token ahead of its cursor, without testing again what reading has tested.
use Prim.Native.Nat.{ℕ, suc, ◌-◌, ◌≤◌, ◌<◌, min}
use native.Mathlib.Omega.{arith}
use mathlib.Core.Path.{◌≡◌, refl, sym, ap, ◌∙◌}
use mathlib.Core.Bool.{Bool, true, false, ◌&&◌}
use mathlib.Core.Option.{Option, some}
use mathlib.Core.List.{List, [], ◌++◌, append_assoc}
use lib.Dec.{ltb, eqb}
use lib.ListN.{length, take, drop}
use borrow.Author.Tests.{lt-ltb, ltb-true}
use Rattle.std.specs.Prelude.{Option as Maybe, Some, None, unwrap_or}
use Rattle.tokens.specs.Written.{bytes, same}
use Rattle.tokens.specs.Tokens.{Tok, Toks, stop, tok, toks, left}
use Rattle.meaning.specs.Reader.{ok, any, ahead_of}
use Rattle.meaning.specs.Names.{number}
use Rattle.meaning.specs.Data.{stretched, repeat_of, times, repeated, piece, data_read}
use Rattle.meaning.proofs.Taking.{takes_any}
use Rattle.words.specs.declared.Cursor.{Cursor}
use Rattle.words.specs.Cursor.{span, ahead, stream, Stands, alive, Goes}
use Rattle.words.specs.Values.{most, capped, value_of}
use Rattle.words.proofs.Words.{rest, span_none}
use Rattle.words.proofs.Flow.{read, stream_on, stream_stop, went}
use Rattle.feeds.specs.declared.Feed.{Feed}
use Rattle.feeds.specs.Feeds.{Feeds, Times, Spells, Repeats, NextWord}
use Rattle.data.proofs.Stretched.{stretched_one}
use Rattle.feeds.proofs.Pieces.{data_more, data_done, data_some, piece_repeat, piece_word, Repeat, times_ok, repeated_ok}

-- ---- a cursor

-- a token ahead is that of the stream
pub record Token (text : List ℕ) (c : Cursor) (t : Tok) (ts : Toks) : Type 0 where
  pub word : c.at < c.end
  pub is : ahead text c ≡ t
  pub behind : toks text c.end ≡ ts

pub token : (text : List ℕ) (c : Cursor) {t : Tok} {ts : Toks} → stream text c ≡ tok t ts → Token text c t ts
token text c {t} {ts} e = by (ltb c.at c.end) refl
  where
    by : (b : Bool) → ltb c.at c.end ≡ b → Token text c t ts
    by true h =
        let q = sym (stream_on text c h) ∙ e in
        let o : ahead text c ≡ t = cc in
        let p : toks text c.end ≡ ts = cc in
        record { word = ltb-true c.at c.end h; is = o; behind = p }
    by false h = let q = sym (stream_stop text c h) ∙ e in let z : ◌≡◌ {A = ℕ} 0 1 = cc in absurd (omega arith)

-- behind it there are fewer
pub token_fewer : (text : List ℕ) (c : Cursor) → c.at < c.end → left (toks text c.end) < left (stream text c)
unfolding left
token_fewer text c h = rw (stream_on text c (lt-ltb c.at c.end h)) (omega arith)

-- ---- a repeat

-- the code's number is the definition's: that is below the largest that the code holds
pub times_read : (w : List ℕ) (v : Maybe ℕ) → value_of v ≡ capped (number (take (length w - 1) (drop 1 w))) → Times w (unwrap_or v 0 - 1)
times_read w v e = record { is = λ t n ts us f. (let r = (times_ok t w ts f).0 in omega (arith, by v n r e, r.least)) }
  where
    by : (v : Maybe ℕ) (n : ℕ) → Repeat w n → value_of v ≡ capped (number (take (length w - 1) (drop 1 w))) → unwrap_or v 0 ≡ n
    by (Some m) n x e =
        let q : some m ≡ some (min most n) = e ∙ ap (λ (u : List ℕ). capped (number u)) (rest w 1) ∙ ap capped x.is in
        let p : m ≡ min most n = cc in
        omega (arith, x.most)
    by None n x e =
        let q = e ∙ ap (λ (u : List ℕ). capped (number u)) (rest w 1) ∙ ap capped x.is in
        let z : ◌≡◌ {A = ℕ} 0 1 = cc in
        absurd (omega arith)

module _ {text : List ℕ} {c d : Cursor} {w : List ℕ} {k : ℕ} (e : w ≡ span text c.at c.end) (g : Goes text c any d (ahead text c)) (x : Times w k) where
  -- the word behind how often it is said
  pub repeat_read : alive d ≡ true → Repeats text c (record { at = d.at; end = d.end; left = k; from = d.at })
  unfolding any left
  repeat_read h =
      record {
        spells = λ on ds vs f. (
            let y = repeated_ok (stream text c) f in
            let t = went g on (ap any y.there) in
            let u = token text d t.behind in
            let o : repeat_of w ≡ repeat_of y.t.word = ap repeat_of e ∙ ap (λ (s : Tok). repeat_of s.word) t.is in
            let n : y.n ≡ suc k = x.is y.t y.n y.ss y.us (ap (λ (s : Option (List ℕ)). times y.t s y.ss) o ∙ y.often) in
            record {
              word = u.word;
              whole = refl;
              is = y.is ∙ sym (ap (λ (s : Tok). stretched y.n s.word) u.is) ∙ ap (λ (m : ℕ). stretched m (span text d.at d.end)) n;
              behind = sym u.behind;
            });
        whole = refl;
        fewer = λ b. (
            let y = read g h in
            (y.on, omega (arith, token_fewer text d b, takes_any.falls (stream text c) (ahead text c) (stream text d) y.gave)));
      }

  -- nothing stands there
  pub repeat_none : alive d ≡ false → Repeats text c (record { at = 0; end = 0; left = k; from = 0 })
  unfolding any
  repeat_none h =
      record {
        spells = λ on ds vs f. (
            let t = went g on (ap any (repeated_ok (stream text c) f).there) in
            let q : true ≡ false = sym t.on ∙ h in
            let z : ◌≡◌ {A = ℕ} 0 1 = cc in
            absurd (omega arith));
        whole = refl;
        fewer = λ b. absurd (omega arith);
      }

-- ---- the next word

-- at a place with no word there is all of its DATA
pub feeds_data : {text cs : List ℕ} (f : Feed) {q : ℕ} {us : Toks} → f.end ≤ f.at → f.left ≡ 0
    → data_read false (toks text f.end) ≡ ok (cs, q) us → Feeds text f cs
unfolding stretched
feeds_data {text} {cs} f {q} {us} h k e =
    record { rest = cs; last = q; others = us; read = e; again = λ l. absurd (omega arith); is = rw (span_none text f.at f.end h, k) }

-- all times of a word are this one and the others
said : (text : List ℕ) (r : Feed) → r.from ≡ r.at → (es : List ℕ)
    → stretched (suc r.left) (span text r.from r.end) ++ es
    ≡ span text r.at r.end ++ (stretched r.left (span text r.from r.end) ++ es)
unfolding stretched
said text r e es =
    let w = span text r.from r.end in
    append_assoc w (stretched r.left w) es ∙ ap (λ (p : ℕ). span text p r.end ++ (stretched r.left w ++ es)) e

-- what a test on the token ahead says of it
ahead_is_lem : (text : List ℕ) (c : Cursor) (w : List ℕ) {b x : Bool} {t : Tok} {ts : Toks} → alive c ≡ true → b ≡ (alive c && ahead_of w (stream text c)) → b ≡ x
    → stream text c ≡ tok t ts → same t.word w ≡ x
unfolding ahead_of
ahead_is_lem text c w on e f g = sym (rw (on, g) at e) ∙ f

module _ {text : List ℕ} {place : ℕ} {c : Cursor} (s : Stands text place c) where
  on : alive c ≡ true
  on = ap (λ (n : ℕ). eqb n 0) s.on

  module _ {b : Bool} (e : b ≡ (alive c && ahead_of (bytes ";") (stream text c))) where
    -- `;` is ahead
    pub next_none : b ≡ true → NextWord text place (record { at = place; end = place; left = 0; from = place })
    next_none h =
        record {
          feeds = λ cs q us f. feeds_data (record { at = place; end = place; left = 0; from = place }) (omega arith) refl f;
          ends = λ cs q us f g. by cs q us (stream text c) refl (ap (data_read false) s.there ∙ f);
          whole = refl;
          fewer = λ g. absurd (omega arith);
        }
      where
        by : (cs : List ℕ) (q : ℕ) (us ts : Toks) → stream text c ≡ ts → data_read false ts ≡ ok (cs, q) us → cs ≡ []
        by cs q us (stop n p) g f = absurd (data_some false n p f)
        by cs q us (tok t ts) g f = data_done false t ts f (ahead_is_lem text c (bytes ";") on e h g)

    -- another token: a piece, and then the DATA behind it
    module _ {r : Feed} (h : b ≡ false)
        (spelled : (t : Tok) (ts : Toks) → stream text c ≡ tok t ts → (ds : List ℕ) (vs : Toks) → piece false t ts ≡ ok ds vs → Spells text r ds vs)
        (whole : r.from ≡ r.at) (fewer : r.at < r.end → left (toks text r.end) < left (stream text c)) where
      some_read : (cs : List ℕ) (q : ℕ) (us : Toks) → data_read false (toks text place) ≡ ok (cs, q) us → Feeds text r cs × (r.at < r.end)
      some_read cs q us f = by (stream text c) refl (ap (data_read false) s.there ∙ f)
        where
          by : (ts : Toks) → stream text c ≡ ts → data_read false ts ≡ ok (cs, q) us → Feeds text r cs × (r.at < r.end)
          by (stop n p) g f = absurd (data_some false n p f)
          by (tok t ts) g f =
              let x = data_more false t ts f (ahead_is_lem text c (bytes ";") on e h g) in
              let y = spelled t ts g x.ds x.vs x.piece_read in (
                record {
                  rest = x.es;
                  last = q;
                  others = us;
                  read = ap (data_read false) (sym y.behind) ∙ x.rest_read;
                  again = λ l. (y.word, omega (arith, y.word, whole));
                  is = x.is ∙ ap (λ (ds : List ℕ). ds ++ x.es) y.is ∙ said text r whole x.es;
                },
                y.word,
              )

      next_some : NextWord text place r
      next_some =
          record {
            feeds = λ cs q us f. (some_read cs q us f).0;
            ends = λ cs q us f g. absurd (let w = (some_read cs q us f).1 in omega arith);
            whole = whole;
            fewer = λ g. omega (arith, fewer g, ap left s.there);
          }

    module _ {a : Bool} (h : b ≡ false) (k : a ≡ (alive c && ahead_of (bytes "\\") (stream text c))) where
      -- a repeat
      pub next_repeat : {d : Cursor} {r : Feed} → a ≡ true → Goes text c any d (ahead text c) → Repeats text d r → NextWord text place r
      unfolding any
      next_repeat {d} {r} l g x =
          next_some h
          (λ t ts f ds vs p. let y = went g on (ap any f) in
          x.spells y.on ds vs (ap repeated y.behind ∙ piece_repeat t ts p (ahead_is_lem text c (bytes "\\") on k l f)))
          x.whole
          (λ n. let y = x.fewer n in omega (arith, y.1, takes_any.falls (stream text c) (ahead text c) (stream text d) (read g y.0).gave))

      -- a word
      pub next_plain : a ≡ false → NextWord text place (record { at = c.at; end = c.end; left = 0; from = c.at })
      next_plain l =
          next_some h
          (λ t ts f ds vs p. let y = piece_word t ts p (ahead_is_lem text c (bytes "\\") on k l f) in let u = token text c f in
          record {
            word = u.word;
            whole = refl;
            is = y.0 ∙ ap (λ (z : Tok). z.word) (sym u.is) ∙ sym (stretched_one (span text c.at c.end));
            behind = y.1 ∙ sym u.behind;
          })
          refl
          (token_fewer text c)
