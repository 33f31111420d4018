-- The characters of a feed, one behind the other: those of its word, which is the text's, as often as it is said, and then those of the next words.
use Prim.Native.Nat.{ℕ, zero, suc, ◌+◌, ◌*◌, ◌-◌, ◌≤◌, ◌<◌}
use native.Mathlib.Omega.{arith}
use native.Mathlib.Nat.{zero-mul}
use mathlib.Core.Path.{◌≡◌, refl, sym, ap, ◌∙◌, subst}
use mathlib.Core.Bool.{Bool, true, false, ◌&&◌}
use mathlib.Core.List.{List, [], ◌∷◌, ◌++◌, append_assoc}
use lib.Dec.{ltb}
use lib.Seq.{drop-nil, drop-append-le}
use lib.ListN.{length, get_or, drop}
use borrow.Author.Tests.{ltb-true, ltb-false}
use Rattle.tokens.specs.Tokens.{toks, left}
use Rattle.meaning.specs.Data.{stretched}
use Rattle.meaning.specs.Run.{next, behind}
use Rattle.words.specs.Cursor.{span}
use Rattle.words.proofs.Words.{span_none}
use Rattle.data.proofs.Stretched.{stretched_parts, length_stretched}
use Rattle.feeds.specs.declared.Feed.{Feed}
use Rattle.feeds.specs.Feeds.{Feeds, Takes, Skips, BehindOne, Onward, Passes, NextWord, AtWord}
use Rattle.feeds.proofs.Pieces.{data_within}
use Rattle.feeds.proofs.Spans.{span_length, span_cut, span_drop, drop_past}
use Rattle.feeds.proofs.Ahead.{feeds_data}

-- ---- the characters of a word

-- behind i times of a word and k characters of it, where it is said more often
drop_times : (w rest : List ℕ) (i k m : ℕ) → k ≤ length w → drop (i * length w + k) (stretched (i + suc m) w ++ rest) ≡ drop k w ++ (stretched m w ++ rest)
unfolding stretched
drop_times w rest i k m h =
    ap (λ (l : List ℕ). drop (i * length w + k) (l ++ rest)) (stretched_parts i (suc m) w)
    ∙ ap (drop (i * length w + k)) (append_assoc (stretched i w) (stretched (suc m) w) rest)
    ∙ drop_past (stretched i w) (stretched (suc m) w ++ rest) (i * length w) k (length_stretched i w)
    ∙ ap (drop k) (append_assoc w (stretched m w) rest)
    ∙ drop-append-le k w (stretched m w ++ rest) h

module _ {text cs : List ℕ} {f : Feed} (x : Feeds text f cs) where
  -- the word is not said again
  once : f.left ≡ 0 → cs ≡ span text f.at f.end ++ x.rest
  unfolding stretched
  once e = x.is ∙ ap (λ (n : ℕ). span text f.at f.end ++ (stretched n (span text f.from f.end) ++ x.rest)) e

  -- where a feed has no word, the DATA behind it is all that is left
  pub feeds_rest : f.end ≤ f.at → cs ≡ x.rest
  feeds_rest h = once (none f.left refl) ∙ (rw (span_none text f.at f.end h))
    where
      none : (n : ℕ) → f.left ≡ n → n ≡ 0
      none zero e = refl
      none (suc n) e = absurd (omega (arith, (x.again (omega arith)).0))

  pub feeds_within : f.end < length text
  feeds_within = data_within false text f.end x.read

  pub feeds_next : f.at < f.end → get_or text f.at 0 ≡ next cs
  unfolding next
  feeds_next h =
      let l = feeds_within in
      sym (ap next (x.is ∙ ap (λ (w : List ℕ). w ++ (stretched f.left (span text f.from f.end) ++ x.rest)) (span_cut text f.at f.end h (omega arith))))

  -- n on, within this time
  pub feeds_here : (n at : ℕ) → at ≡ f.at + n → at ≤ f.end → (0 < f.left → at < f.end)
      → Feeds text (record { at = at; end = f.end; left = f.left; from = f.from }) (drop n cs)
  feeds_here n at e h k =
      let l = feeds_within in
      let more = stretched f.left (span text f.from f.end) ++ x.rest in
      record {
        rest = x.rest;
        last = x.last;
        others = x.others;
        read = x.read;
        again = λ s. (k s, (x.again s).1);
        is =
            ap (drop n) x.is
            ∙ drop-append-le n (span text f.at f.end) more (omega (arith, span_length text f.at f.end (omega arith)))
            ∙ ap (λ (v : List ℕ). v ++ more) (span_drop text f.at f.end n (omega arith))
            ∙ ap (λ (p : ℕ). span text p f.end ++ more) (sym e);
      }

  module _ (h : f.at < f.end) where
    -- this time, and k characters more
    behind_this : (n k : ℕ) → n ≡ f.end - f.at + k → drop n cs ≡ drop k (stretched f.left (span text f.from f.end) ++ x.rest)
    behind_this n k e =
        let l = feeds_within in
        ap (λ (m : ℕ). drop m cs) e ∙ ap (drop (f.end - f.at + k)) x.is
        ∙ drop_past (span text f.at f.end) (stretched f.left (span text f.from f.end) ++ x.rest) (f.end - f.at) k
        (span_length text f.at f.end (omega arith))

    -- i times more, and k characters of the next
    pub feeds_again : (n i k m at : ℕ) → n ≡ f.end - f.at + (i * (f.end - f.from) + k) → f.left ≡ i + suc m → at ≡ f.from + k → at < f.end
        → Feeds text (record { at = at; end = f.end; left = m; from = f.from }) (drop n cs)
    feeds_again n i k m at e g p b =
        let l = feeds_within in
        let w = span text f.from f.end in
        let long : length w ≡ f.end - f.from = span_length text f.from f.end (omega arith) in
        record {
          rest = x.rest;
          last = x.last;
          others = x.others;
          read = x.read;
          again = λ s. (b, omega arith);
          is =
              behind_this n (i * (f.end - f.from) + k) e
              ∙ ap (λ (z : ℕ). drop (i * (f.end - f.from) + k) (stretched z w ++ x.rest)) g
              ∙ ap (λ (z : ℕ). drop (i * z + k) (stretched (i + suc m) w ++ x.rest)) (sym long)
              ∙ drop_times w x.rest i k m (omega arith)
              ∙ ap (λ (v : List ℕ). v ++ (stretched m w ++ x.rest)) (span_drop text f.from f.end k (omega arith))
              ∙ ap (λ (q : ℕ). span text q f.end ++ (stretched m w ++ x.rest)) (sym p);
        }

    -- all times, and m more
    feeds_past : (n m : ℕ) → n ≡ f.end - f.at + (f.left * (f.end - f.from) + m)
        → Onward text n cs (record { at = f.end; end = f.end; left = 0; from = f.end }) m
    feeds_past n m e =
        let l = feeds_within in
        let w = span text f.from f.end in
        let long : length w ≡ f.end - f.from = span_length text f.from f.end (omega arith) in
        record {
          ds = x.rest;
          feeds = feeds_data (record { at = f.end; end = f.end; left = 0; from = f.end }) (omega arith) refl x.read;
          same =
              sym (behind_this n (f.left * (f.end - f.from) + m) e
              ∙ drop_past (stretched f.left w) x.rest (f.left * (f.end - f.from)) m
              (length_stretched f.left w ∙ ap (λ (z : ℕ). f.left * z) long));
        }

-- ---- characters of a word passed

module _ {f : Feed} {n : ℕ} (h : f.at < f.end) where
  pub passes_here : {at : ℕ} → at ≡ f.at + n → at ≤ f.end → (0 < f.left → at < f.end)
      → Passes f n (record { at = at; end = f.end; left = f.left; from = f.from }) 0
  passes_here {at} e l k =
      record {
        onward = λ text cs x. record { ds = drop n cs; feeds = feeds_here x n at e l k; same = refl };
        end = refl;
        word = λ z. absurd (omega arith);
      }

  pub passes_again : {at m : ℕ} (i k : ℕ) → n ≡ f.end - f.at + (i * (f.end - f.from) + k) → f.left ≡ i + suc m → at ≡ f.from + k
      → (f.from < f.end → at < f.end) → Passes f n (record { at = at; end = f.end; left = m; from = f.from }) 0
  passes_again {at} {m} i k e g p b =
      record {
        onward = λ text cs x. record { ds = drop n cs; feeds = feeds_again x h n i k m at e g p (b (x.again (omega arith)).1); same = refl };
        end = refl;
        word = λ z. absurd (omega arith);
      }

  pub passes_all : {m : ℕ} → n ≡ f.end - f.at + (f.left * (f.end - f.from) + m)
      → Passes f n (record { at = f.end; end = f.end; left = 0; from = f.end }) m
  passes_all {m} e = record { onward = λ text cs x. feeds_past x h n m e; end = refl; word = λ z. omega arith }

  pub passes_once : {m : ℕ} → f.left ≡ 0 → n ≡ f.end - f.at + m → Passes f n (record { at = f.end; end = f.end; left = 0; from = f.end }) m
  passes_once e g =
      let none = ap (λ (z : ℕ). z * (f.end - f.from)) e ∙ zero-mul (f.end - f.from) in
      passes_all (omega (arith, none))

pub passes_same : {f r : Feed} {n k m : ℕ} → Passes f n r m → n ≡ k → Passes f k r m
passes_same {f} {r} {n} {k} {m} p e = subst (λ (n : ℕ). Passes f n r m) e p

-- a word that is said again has bytes
pub passes_never : {f : Feed} {n m : ℕ} → (f.left ≡ 0 → ⊥) → f.end ≤ f.from → Passes f n (record { at = f.end; end = f.end; left = 0; from = f.end }) m
passes_never {f} e b = record { onward = λ text cs x. absurd (omega (arith, (x.again (omega arith)).1)); end = refl; word = λ z. omega arith }

-- one of them
pub passes_one : {f r : Feed} → Passes f 1 r 0 → BehindOne f r
unfolding behind
passes_one {f} {r} p =
    record {
      left = λ text cs x h. (let o = p.onward text cs x in subst (Feeds text r) (o.same ∙ sym (by cs)) o.feeds);
    }
  where
    by : (cs : List ℕ) → behind cs ≡ drop 1 cs
    by [] = refl
    by (c ∷ cs) = refl

-- ---- to the next word

pub word_here : {text : List ℕ} {f : Feed} → f.at < f.end → AtWord text f f
word_here h = record { feeds = λ cs x. x; ends = λ cs x k. absurd (omega arith); fewer = λ k l. absurd (omega arith) }

pub word_next : {text : List ℕ} {f r : Feed} → f.end ≤ f.at → NextWord text f.end r → AtWord text f r
word_next {text} {f} {r} h n =
    record {
      feeds = λ cs x. subst (Feeds text r) (sym (feeds_rest x h)) (n.feeds x.rest x.last x.others x.read);
      ends = λ cs x k. feeds_rest x h ∙ n.ends x.rest x.last x.others x.read k;
      fewer = λ k. n.fewer;
    }

-- ---- the next character

not_below : (a b c : ℕ) → (ltb a b && ltb a c) ≡ false → b < c → b ≤ a
not_below a b c h l = by (ltb a b) refl (ltb a c) refl h
  where
    by : (x : Bool) → ltb a b ≡ x → (y : Bool) → ltb a c ≡ y → (x && y) ≡ false → b ≤ a
    by true e true f h = let z : ◌≡◌ {A = ℕ} 0 1 = cc in absurd (omega arith)
    by true e false f h = omega (arith, ltb-true a b e, ltb-false a c f)
    by false e y f h = ltb-false a b e

module _ {text : List ℕ} {f here : Feed} (w : AtWord text f here) where
  pub takes_one : {r : Feed} → here.at < here.end → BehindOne here r → Takes text f (record { feed = r; char = get_or text here.at 0 })
  takes_one h b = record { char = λ cs x. feeds_next (w.feeds cs x) h; left = λ cs x. b.left text cs (w.feeds cs x) h }

  -- no word, for every word lies within the text
  pub takes_none : (ltb here.at here.end && ltb here.at (length text)) ≡ false → Takes text f (record { feed = here; char = 0 })
  unfolding next behind
  takes_none h =
      record {
        char = λ cs x. sym (ap next (none cs x));
        left = λ cs x. subst (Feeds text here) (none cs x ∙ sym (ap behind (none cs x))) (w.feeds cs x);
      }
    where
      none : (cs : List ℕ) → Feeds text f cs → cs ≡ []
      none cs x = w.ends cs x (not_below here.at here.end (length text) h (feeds_within (w.feeds cs x)))

-- ---- some characters

-- first some, and then those that are still to pass
onwards : {text : List ℕ} {n m k : ℕ} {cs : List ℕ} {g r : Feed} (o : Onward text n cs g m) → Onward text m o.ds r k → Onward text n cs r k
onwards o p = record { ds = p.ds; feeds = p.feeds; same = p.same ∙ o.same }

-- what the loop keeps: n characters on from f are `more` on from `here`, and these lie behind its word
pub record Skipping (text : List ℕ) (f : Feed) (n : ℕ) (here : Feed) (more : ℕ) : Type 0 where
  pub onward : (cs : List ℕ) → Feeds text f cs → Onward text n cs here more
  pub word : 0 < more → here.end ≤ here.at

module _ {text : List ℕ} {f here : Feed} {n more : ℕ} (p : Passes f n here more) where
  pub skipping : Skipping text here more here more
  skipping = record { onward = λ cs x. record { ds = cs; feeds = x; same = refl }; word = p.word }

  pub skipping_from : {r : Feed} {m : ℕ} → Skipping text here more r m → Skipping text f n r m
  skipping_from s = record { onward = λ cs x. (let o = p.onward text cs x in onwards o (s.onward o.ds o.feeds)); word = s.word }

module _ {text : List ℕ} {f here : Feed} {n more : ℕ} (s : Skipping text f n here more) where
  -- all are passed
  pub skipped : more ≤ 0 → Skips text f n here
  skipped h =
      let e : more ≡ 0 = omega arith in
      record {
        left = λ cs x. (
            let o = s.onward cs x in
            subst (Feeds text here) (sym (ap (λ (m : ℕ). drop m o.ds) e) ∙ o.same) o.feeds);
      }

  module _ {word : Feed} (w : AtWord text here word) where
    -- there are no more
    pub skipped_none : word.end ≤ word.at → Skips text f n word
    skipped_none h =
        record {
          left = λ cs x. (
              let o = s.onward cs x in
              let e : o.ds ≡ [] = w.ends o.ds o.feeds h in
              subst (Feeds text word) (e ∙ sym (drop-nil more) ∙ sym (ap (drop more) e) ∙ o.same) (w.feeds o.ds o.feeds));
        }

    module _ {here' : Feed} {more' : ℕ} (p : Passes word more here' more') where
      -- a word more
      pub skipping_more : Skipping text f n here' more'
      skipping_more =
          record {
            onward = λ cs x. (let o = s.onward cs x in onwards o (p.onward text o.ds (w.feeds o.ds o.feeds)));
            word = p.word;
          }

      pub skipping_less : 0 < more → word.at < word.end → left (toks text here'.end) < left (toks text here.end)
      skipping_less h k = omega (arith, w.fewer (s.word h) k, ap (λ (e : ℕ). left (toks text e)) p.end)
