-- The pass over the tokens: what is left to find from here is what was to be found from the start.
use Prim.Native.Nat.{ℕ, suc, ◌+◌, ◌*◌, ◌-◌, ◌≤◌, ◌<◌, min}
use native.Mathlib.Omega.{arith}
use mathlib.Core.Path.{◌≡◌, refl, sym, ap, ◌∙◌}
use mathlib.Core.Bool.{Bool, true, false, ◌&&◌, ◌||◌, or-false, and-true}
use mathlib.Core.Option.{some}
use mathlib.Core.List.{List, [], ◌∷◌, ◌++◌}
use lib.Dec.{ltb, eqb}
use lib.ListN.{length, get_or, drop, length-take, length-drop, drop_of_length-le}
use borrow.Author.Tests.{ne_eqb, le-ltb, ltb-true, ltb-false}
use Rattle.std.specs.Prelude.{Result, Ok, Err}
use Rattle.std.specs.Result.{result_err}
use Rattle.tokens.specs.Written.{bytes, same, cases}
use Rattle.tokens.specs.Refusals.{text_most, not_here}
use Rattle.tokens.specs.Tokens.{Tok, Toks, stop, tok, ended, lex, toks, left}
use Rattle.tokens.proofs.Laws.{unfolds, left_most}
use Rattle.tokens.proofs.Bools.{never}
use Rattle.meaning.specs.Names.{is_some}
use Rattle.words.specs.Cursor.{span, ahead, stream, Stands}
use Rattle.words.specs.declared.Cursor.{Cursor}
use Rattle.words.specs.Values.{told, value_of}
use Rattle.words.proofs.Flow.{stream_stop, token_here, fewer}
use Rattle.words.proofs.Words.{same_long, told_some}
use Rattle.meaning.specs.Labels.{Here, begins, due, within, beginning, parting, labelling, behind, labelled, labels_from, labels, taken, used_by, repeated, used_twice}
use Rattle.labels.specs.Table.{labels_most, hashes, words_of, number_of, latest, Held, Added, here_by, here_of, dues, used, Notes, Gathers, Gathered}
use Rattle.labels.proofs.Laws.{repeated_here, repeated_later, taken_append}
use Rattle.labels.proofs.Chains.{taken_number}

-- ---- what begins behind a token

pub parting_not : (w : List ℕ) → (length w ≡ 1 → ⊥) → false ≡ parting w
unfolding parting bytes
parting_not w h = sym (rw (same_long w (123 ∷ []) h, same_long w (125 ∷ []) h, same_long w (59 ∷ []) h))

same_one : (w : List ℕ) (b : ℕ) → length w ≡ 1 → same w (b ∷ []) ≡ eqb (get_or w 0 0) b
unfolding same
same_one [] b h = absurd (omega arith)
same_one (a ∷ []) b h = and-true (eqb a b)
same_one (a ∷ c ∷ w) b h = absurd (omega arith)

pub parting_one : (w : List ℕ) → length w ≡ 1 → (eqb (get_or w 0 0) 123 || eqb (get_or w 0 0) 125 || eqb (get_or w 0 0) 59) ≡ parting w
unfolding parting bytes
parting_one w h = sym (rw (same_one w 123 h, same_one w 125 h, same_one w 59 h))

module _ (h : Here) (w : List ℕ) where
  pub behind_parting : parting w ≡ true → begins ≡ behind h w
  unfolding behind cases
  behind_parting e = sym (rw (e, cases))

  module _ (p : parting w ≡ false) where
    pub behind_other : beginning h ≡ false → within ≡ behind h w
    unfolding behind cases
    behind_other e = sym (rw (p, e, cases))

    pub behind_word : {b : Bool} → beginning h ≡ true → labelling w ≡ b → cases ((b, due) ∷ []) within ≡ behind h w
    unfolding behind cases
    behind_word e f = sym (rw (p, e, f, cases))

-- by the code's number
pub not_beginning : (n : ℕ) → (n ≡ 1 → ⊥) → beginning (here_of n) ≡ false
unfolding beginning
not_beginning n h = by (eqb n 1) (eqb n 2) (ne_eqb n 1 h)
  where
    by : (x y : Bool) → x ≡ false → beginning (here_by x y) ≡ false
    by true y e = never (sym e)
    by false true e = refl
    by false false e = refl

pub is_beginning : (n : ℕ) → n ≡ 1 → beginning (here_of n) ≡ true
unfolding beginning
is_beginning n h = ap (λ (k : ℕ). beginning (here_of k)) h

is_due : (n : ℕ) → n ≡ 2 → here_of n ≡ due
is_due n h = ap here_of h

not_due : (n : ℕ) → (n ≡ 2 → ⊥) → (t : Tok) (l : List Tok) → labelled (here_of n) t l ≡ l
unfolding labelled
not_due n h t l = by (eqb n 1) (eqb n 2) (ne_eqb n 2 h)
  where
    by : (x y : Bool) → y ≡ false → labelled (here_by x y) t l ≡ l
    by true y e = refl
    by false true e = never (sym e)
    by false false e = refl

-- a label is due behind no label
dues_behind : (h : Here) (w : List ℕ) → dues h + dues (behind h w) ≤ 1
unfolding behind cases beginning
dues_behind h w = by (parting w) h (labelling w)
  where
    by : (x : Bool) (h : Here) (y : Bool) → dues h + dues (cases ((x, begins) ∷ (beginning h && y, due) ∷ []) within) ≤ 1
    by true begins y = omega arith
    by true due y = omega arith
    by true within y = omega arith
    by false begins true = omega arith
    by false begins false = omega arith
    by false due y = omega arith
    by false within y = omega arith

-- so that there are at most half as many labels as tokens
pub labels_few : (h : Here) (ts : Toks) → length (labels_from h ts) * 2 ≤ left ts + dues h
unfolding labels_from labelled left
labels_few h (stop n p) = omega arith
labels_few h (tok t ts) = by h (labels_few (behind h t.word) ts) (dues_behind h t.word)
  where
    by : (k : Here) → length (labels_from (behind h t.word) ts) * 2 ≤ left ts + dues (behind h t.word) → dues k + dues (behind h t.word) ≤ 1
        → length (labelled k t (labels_from (behind h t.word) ts)) * 2 ≤ suc (left ts) + dues k
    by begins ih d = omega arith
    by due ih d = omega arith
    by within ih d = omega arith

-- ---- words that are used

-- those of the labels, by what a look-up found, and the burst's name
pub used_by_lem : (text burst places w : List ℕ) (count i : ℕ) {b : Bool} → told (ltb i count) i ≡ number_of (words_of text places count) w → b ≡ same burst w
    → (ltb i count || b) ≡ taken (used text burst places count) w
unfolding taken
used_by_lem text burst places w count i {b} e f =
    sym
    (taken_append (words_of text places count) (burst ∷ []) w
    ∙ ap (λ (x : Bool). x || (same burst w || false)) (taken_number (words_of text places count) w ∙ ap is_some (sym e) ∙ told_some (ltb i count) i)
    ∙ ap (λ (x : Bool). ltb i count || x) (or-false (same burst w) ∙ sym f))

-- by a word's bytes v
pub judged : (vs : List (List ℕ)) {v w : List ℕ} {b x : Bool} → v ≡ w → b ≡ taken vs v → b ≡ x → taken vs w ≡ x
judged vs e f g = ap (taken vs) (sym e) ∙ sym f ∙ g

-- ---- one token

module _ {text burst places heads nexts : List ℕ} {count here : ℕ} (t : Tok) (held : Held text places heads nexts count) where
  pub notes_none : (here ≡ 2 → ⊥) → Notes text burst (here_of here) t places count places heads nexts count
  notes_none h = record {
    on = λ l. ap (repeated (used text burst places count)) (not_due here h t l);
    words = λ l. ap (used_by (words_of text places count)) (not_due here h t l);
    held = held;
    few = omega arith;
  }

-- a label that is used already
pub notes_again : (text burst places : List ℕ) (count : ℕ) {here : ℕ} (t : Tok) → here ≡ 2 → taken (used text burst places count) t.word ≡ true
    → (l : List Tok) → repeated (used text burst places count) (labelled (here_of here) t l) ≡ some t.at
unfolding labelled
notes_again text burst places count {here} t d e l =
    ap (λ (x : Here). repeated (used text burst places count) (labelled x t l)) (is_due here d) ∙ (repeated_here (used text burst places count) t l e)

pub notes_one : {text burst places places' heads' nexts' : List ℕ} {count here : ℕ} (c : Cursor) → here ≡ 2
    → taken (used text burst places count) (span text c.at c.end) ≡ false → Added text c.at c.end places count places' heads' nexts'
    → Notes text burst (here_of here) (ahead text c) places count places' heads' nexts' (count + 1)
unfolding labelled used_by
notes_one {text} {burst} {places} {places'} {heads'} {nexts'} {count} {here} c d e a = record {
  on = λ l. ap (λ (x : Here). repeated (used text burst places count) (labelled x (ahead text c) l)) (is_due here d) ∙ (repeated_later (used text burst places count) (ahead text c) l e ∙ ap (λ (vs : List (List ℕ)). repeated (vs ++ burst ∷ []) l) (sym a.words));
  words = λ l. ap (λ (x : Here). used_by (words_of text places count) (labelled x (ahead text c) l)) (is_due here d) ∙ ap (λ (vs : List (List ℕ)). used_by vs l) (sym a.words);
  held = a.held;
  few = let one : dues (here_of here) ≡ 1 = ap dues (is_due here d) in omega arith;
}

-- ---- a cursor at a token

past_end : (text : List ℕ) (at : ℕ) → length text ≤ at → toks text at ≡ stop not_here at
unfolding toks lex ended
past_end text at h = rw (drop_of_length-le text h)

module _ (text : List ℕ) (c : Cursor) (h : c.at < c.end) where
  some_left : 0 < left (stream text c)
  unfolding left
  some_left = let e : left (stream text c) ≡ suc (left (toks text c.end)) = ap left (token_here text c h) in omega arith

  -- it ends within the text: behind the text's end reading would stop elsewhere
  pub ends_within : (place : ℕ) → stream text c ≡ toks text place → c.end ≤ length text
  ends_within place e = by (ltb (length text) c.end) refl
    where
      by : (b : Bool) → ltb (length text) c.end ≡ b → c.end ≤ length text
      by false q = ltb-false (length text) c.end q
      by true q =
          let far = ltb-true (length text) c.end q in
          let u = unfolds text place (ahead text c) (toks text c.end) (sym e ∙ (token_here text c h)) in
          let long : length (span text c.at c.end) ≡ min (c.end - c.at) (length text - c.at) =
          length-take (c.end - c.at) (drop c.at text) ∙ ap (min (c.end - c.at)) (length-drop c.at text) in
          let all : c.at + length (span text c.at c.end) ≡ length text = omega (arith, u.some, u.within) in
          let same_stop : stop not_here c.end ≡ stop not_here (length text) =
          sym (past_end text c.end (omega arith)) ∙ u.rest ∙ ap (toks text) all ∙ past_end text (length text) (omega arith) in
          let same_place : c.end ≡ length text = cc in
          omega arith

-- ---- the whole pass

module _ (text : List ℕ) (from : ℕ) (burst : List ℕ) where
  -- THE INVARIANT
  pub record Scans (places heads nexts : List ℕ) (c : Cursor) (here count : ℕ) : Type 0 where
    pub still : used_twice burst (toks text from) ≡ repeated (used text burst places count) (labels_from (here_of here) (stream text c))
    pub words : used_by [] (labels (toks text from)) ≡ used_by (words_of text places count) (labels_from (here_of here) (stream text c))
    pub held : Held text places heads nexts count
    pub few : count * 2 + dues (here_of here) + left (stream text c) ≤ text_most
    pub place : ℕ
    pub there : stream text c ≡ toks text place

  pub scans_start : {places heads nexts : List ℕ} {c : Cursor} → Held text places heads nexts 0 → length text ≤ text_most → Stands text from c
      → Scans places heads nexts c 1 0
  unfolding used_twice labels words_of
  scans_start {places} {heads} {nexts} {c} held short s = record {
    still = ap (λ (ts : Toks). repeated (burst ∷ []) (labels_from begins ts)) (sym s.there);
    words = ap (λ (ts : Toks). used_by [] (labels_from begins ts)) (sym s.there);
    held = held;
    few = rw s.there (omega (arith, left_most text from));
    place = from;
    there = s.there;
  }

  module _ {places heads nexts : List ℕ} {c : Cursor} {here count : ℕ} (s : Scans places heads nexts c here count) (h : c.at < c.end) where
    pub scans_room : count < labels_most
    scans_room = omega (arith, s.few, some_left text c h)

    pub scans_within : length text ≤ text_most → c.end ≤ text_most
    scans_within short = omega (arith, ends_within text c h s.place s.there)

    -- the labels from here on: the token's, if it is one, and those behind it
    one_on : labels_from (here_of here) (stream text c)
        ≡ labelled (here_of here) (ahead text c) (labels_from (behind (here_of here) (span text c.at c.end)) (toks text c.end))
    unfolding labels_from
    one_on = ap (labels_from (here_of here)) (token_here text c h)

    pub gathers_again : ((l : List Tok) → repeated (used text burst places count) (labelled (here_of here) (ahead text c) l) ≡ some c.at)
        → used_twice burst (toks text from) ≡ some c.at
    gathers_again t = s.still ∙ ap (repeated (used text burst places count)) one_on ∙ t _

    pub scans_on : {places' heads' nexts' : List ℕ} {n : ℕ} → Notes text burst (here_of here) (ahead text c) places count places' heads' nexts' n
        → {next : ℕ} {d : Cursor} {w : List ℕ} → w ≡ span text c.at c.end → here_of next ≡ behind (here_of here) w → Stands text c.end d
        → Scans places' heads' nexts' d next n
    scans_on {places'} {n = n} t {next} {d} {w} q b v =
        let k : here_of next ≡ behind (here_of here) (span text c.at c.end) = b ∙ ap (behind (here_of here)) q in
        let rest : labels_from (behind (here_of here) (span text c.at c.end)) (toks text c.end) ≡ labels_from (here_of next) (stream text d) =
        ap (λ (x : Here). labels_from x (toks text c.end)) (sym k) ∙ ap (labels_from (here_of next)) (sym v.there) in
        record {
          still =
              s.still ∙ ap (repeated (used text burst places count)) one_on ∙ t.on _
              ∙ ap (repeated (used text burst places' n)) rest;
          words =
              s.words ∙ ap (used_by (words_of text places count)) one_on ∙ t.words _ ∙ ap (used_by (words_of text places' n)) rest;
          held = t.held;
          few = rw k (omega (arith, s.few, t.few, dues_behind (here_of here) (span text c.at c.end), fewer text c h v));
          place = c.end;
          there = v.there;
        }

  -- no token is left
  pub gathers_end : {places heads nexts : List ℕ} {c : Cursor} {here count : ℕ} → Scans places heads nexts c here count → c.end ≤ c.at
      → Gathers text from burst places heads nexts count
  unfolding labels_from repeated used_by
  gathers_end {places} {heads} {nexts} {c} {here} {count} s h =
      let over : labels_from (here_of here) (stream text c) ≡ [] = ap (labels_from (here_of here)) (stream_stop text c (le-ltb c.at c.end h)) in
      record {
        once = s.still ∙ ap (repeated (used text burst places count)) over;
        held = s.held;
        words = sym (s.words ∙ ap (used_by (words_of text places count)) over);
      }

-- where the first label stands that is used already, of a pass that gave r
pub first_twice : (text : List ℕ) (from : ℕ) (burst places heads nexts : List ℕ) (r : Result ℕ ℕ) → Gathered text from burst places heads nexts r
    → value_of (result_err r) ≡ used_twice burst (toks text from)
first_twice text from burst places heads nexts (Ok n) g = sym g.once
first_twice text from burst places heads nexts (Err p) g = sym g

-- ---- an empty table

pub empty_held : (text places heads nexts : List ℕ) → length places ≡ 2 * labels_most → length heads ≡ hashes → length nexts ≡ labels_most
    → ((h : ℕ) → h < hashes → get_or heads h 0 ≡ 0) → Held text places heads nexts 0
unfolding words_of latest
empty_held text places heads nexts p l b z = record {
  places_long = p;
  heads_long = l;
  nexts_long = b;
  few = omega arith;
  newest = z;
  older = λ k h. absurd (omega arith);
}
