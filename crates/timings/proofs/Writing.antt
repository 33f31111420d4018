-- The lines of Timing, put together from what was written.
use Prim.Native.Nat.{ℕ, suc, ◌+◌, ◌-◌, ◌≤◌, ◌<◌}
use native.Mathlib.Omega.{arith}
use mathlib.Core.Path.{◌≡◌, refl, sym, ap, ap₂, ◌∙◌}
use mathlib.Core.List.{List, [], ◌∷◌, ◌++◌, append_assoc, append-nil}
use lib.ListN.{length, get_or, take, drop, drop_of_length-le}
use Rattle.tokens.specs.Written.{bytes}
use Rattle.meaning.specs.Timing.{Event, Wave, Signed, plus, minus, uncounted}
use Rattle.meaning.specs.Bounds.{entry_most}
use Rattle.waves.specs.Waves.{Reads}
use Rattle.folded.specs.Pieces.{Piece, only, word, laid, each, lf, quote, semicolon, closing}
use Rattle.meaning.specs.Meaning.{firsts}
use Rattle.words.specs.Table.{name_of, names_from, names}
use Rattle.folded.specs.Flat.{Entries, Chart, chart, charts_from, up_from, characters, entries_of}
use Rattle.folded.specs.Layout.{timed, time_put, event_put, entry_put, chart_put}
use Rattle.pens.specs.Pens.{signed_timed, Writes}
use Rattle.pens.proofs.Laws.{writes_both, writes_same}
use Rattle.pens.specs.declared.Pen.{Pen}
use Rattle.folds.proofs.Laws.{writes_nothing, laid_behind, laid_more}
use Rattle.spots.specs.Spots.{bytes_most}
use Rattle.spots.proofs.Joined.{joined, joined_next, joined_read}
use Rattle.timings.specs.Lines.{titled}

-- ---- each thing's pieces are its own, and then those behind

module _ {X : Type 0} (put : X → List Piece → List Piece) (own : (x : X) (k : List Piece) → laid (put x k) ≡ laid (put x []) ++ laid k) where
  -- also with a tail of its own
  pub own_each : (xs : List X) (tail : List Piece → List Piece) → ((k : List Piece) → laid (tail k) ≡ laid (tail []) ++ laid k) → (k : List Piece)
      → laid (each put xs (tail k)) ≡ laid (each put xs (tail [])) ++ laid k
  own_each xs tail h k =
      laid_behind put own xs (tail k) ∙ ap (λ (l : List ℕ). laid (each put xs []) ++ l) (h k) ∙ sym (append_assoc (laid (each put xs [])) (laid (tail [])) (laid k))
      ∙ ap (λ (l : List ℕ). l ++ laid k) (sym (laid_behind put own xs (tail [])))

own_time : (s : Signed) (l : ℕ) (k : List Piece) → laid (time_put s (word (l ∷ []) semicolon ∷ k)) ≡ laid (time_put s (word (l ∷ []) semicolon ∷ [])) ++ laid k
unfolding laid time_put
own_time (plus n) l k = simp append_assoc
own_time (minus n) l k = simp append_assoc

own_event : (x : Event) (k : List Piece) → laid (event_put x k) ≡ laid (event_put x []) ++ laid k
unfolding laid event_put
own_event x k = ap (λ (l : List ℕ). quote ∷ l) (own_time (uncounted x.time) x.letter k)

own_entry : (x : ℕ × List Event) (k : List Piece) → laid (entry_put x k) ≡ laid (entry_put x []) ++ laid k
unfolding laid entry_put
own_entry x k = ap (λ (l : List ℕ). x.0 ∷ 123 ∷ l) (own_each event_put own_event x.1 (λ k. only closing ∷ k) (λ k. refl) k)

pub own_chart : (x : Chart) (k : List Piece) → laid (chart_put x k) ≡ laid (chart_put x []) ++ laid k
unfolding laid chart_put
own_chart x k =
    ap (λ (l : List ℕ). x.name ++ 123 ∷ l) (own_each entry_put own_entry (x.first ∷ x.others) (λ k. only closing ∷ only lf ∷ k) (λ k. refl) k)
    ∙ sym (append_assoc x.name _ (laid k))

-- ---- 'T'E;

event_line_lem : (s : Signed) (l : ℕ) → ((39 ∷ []) ++ signed_timed s) ++ (39 ∷ l ∷ 59 ∷ []) ≡ quote ∷ laid (time_put s (word (l ∷ []) semicolon ∷ []))
unfolding laid time_put signed_timed
event_line_lem (plus n) l = refl
event_line_lem (minus n) l = refl

pub event_writes : {a b d e : List ℕ} {p q s r : Pen} (t : ℕ) {l : ℕ} → Writes a p (39 ∷ []) b q → Writes b q (signed_timed (uncounted t)) d s → Writes d s (39 ∷ l ∷ 59 ∷ []) e r
    → Writes a p (laid (event_put (record { time = t; letter = l }) [])) e r
unfolding laid event_put
event_writes t {l} f g h = writes_same (event_line_lem (uncounted t) l) (writes_both (writes_both f g) h)

-- ---- the first events, of times and letters in two arrays

-- those up to number i
abbrev pub events_to : List ℕ → List ℕ → ℕ → List ℕ
events_to ts ls i = laid (each event_put (joined (take i ts) (take i ls)) [])

module _ (ts ls : List ℕ) (i : ℕ) (h : i < length ts) (k : i < length ls) where
  events_next : events_to ts ls i ++ laid (event_put (record { time = get_or ts i 0; letter = get_or ls i 0 }) []) ≡ events_to ts ls (i + 1)
  events_next =
      sym (laid_more event_put own_event (joined (take i ts) (take i ls)) (record { time = get_or ts i 0; letter = get_or ls i 0 }))
      ∙ ap (λ (l : List Event). laid (each event_put l [])) (sym (joined_next ts ls i h k))

  pub events_more : {a b d : List ℕ} {p q r : Pen} → Writes a p (events_to ts ls i) b q
      → Writes b q (laid (event_put (record { time = get_or ts i 0; letter = get_or ls i 0 }) [])) d r → Writes a p (events_to ts ls (i + 1)) d r
  events_more f g = writes_same events_next (writes_both f g)

-- ---- CHARACTER{'T'E;..}

entry_line : (c : ℕ) (es : List Event) → ((c ∷ 123 ∷ []) ++ laid (each event_put es [])) ++ (125 ∷ []) ≡ laid (entry_put (c, es) [])
unfolding laid entry_put
entry_line c es = sym (ap (λ (l : List ℕ). c ∷ 123 ∷ l) (laid_behind event_put own_event es (only closing ∷ [])))

pub entry_writes : {a b d e : List ℕ} {p q s r : Pen} {c n i : ℕ} {es : List Event} {ts₀ ts ls₀ ls : List ℕ} → Reads es n ts₀ ts ls₀ ls → length ts₀ ≡ entry_most → length ls₀ ≡ entry_most
    → i ≡ n → Writes a p (c ∷ 123 ∷ []) b q → Writes b q (events_to ts ls i) d s → Writes d s (125 ∷ []) e r → Writes a p (laid (entry_put (c, es) [])) e r
entry_writes {c = c} {n = n} {i = i} {es = es} {ts = ts} {ls = ls} x h k z f g l =
    let q : joined (take i ts) (take i ls) ≡ es = rw z (joined_read x h k) in
    writes_same (entry_line c es) (writes_both (writes_both f (writes_same (ap (λ (l : List Event). laid (each event_put l [])) q) g)) l)

-- ---- NAME{CHARACTER{'T'E;..}..}

-- a signal without a character has no line
pub chart_nothing : (n : List ℕ) (s : ℕ) {all : Entries} (page : List ℕ) (pen : Pen) → all ≡ [] → Writes page pen (laid (each chart_put (chart n s all []) [])) page pen
unfolding laid each chart
chart_nothing n s page pen e = rw e (writes_nothing page pen)

chart_line : (n : List ℕ) (s : ℕ) (x : ℕ × List Event) (xs : Entries)
    → ((n ++ (123 ∷ [])) ++ laid (each entry_put (x ∷ xs) [])) ++ (125 ∷ 10 ∷ []) ≡ laid (each chart_put (chart n s (x ∷ xs) []) [])
unfolding laid each chart chart_put
chart_line n s x xs =
    append_assoc (n ++ (123 ∷ [])) (laid (each entry_put (x ∷ xs) [])) (125 ∷ 10 ∷ []) ∙ append_assoc n (123 ∷ []) _
    ∙ ap (λ (l : List ℕ). n ++ 123 ∷ l) (sym (laid_behind entry_put own_entry (x ∷ xs) (only closing ∷ only lf ∷ [])))

pub chart_writes : {a b d e f : List ℕ} {p q s t r : Pen} {n : List ℕ} (k : ℕ) {x : ℕ × List Event} {xs front all : Entries} → all ≡ x ∷ xs → front ≡ all
    → Writes a p n b q → Writes b q (123 ∷ []) d s → Writes d s (laid (each entry_put front [])) e t → Writes e t (125 ∷ 10 ∷ []) f r
    → Writes a p (laid (each chart_put (chart n k all []) [])) f r
chart_writes {n = n} k {x} {xs} {front} {all} h z f g i j =
    rw h (writes_same (chart_line n k x xs) (writes_both (writes_both (writes_both f g) (writes_same (ap (λ (l : Entries). laid (each entry_put l [])) (z ∙ h)) i)) j))

-- ---- the entries of a signal, one by one

entries_over : (s : ℕ) (ws : List Wave) (chars : List ℕ) (i : ℕ) → length chars ≤ i → entries_of s ws (drop i chars) ≡ []
unfolding entries_of
entries_over s ws chars i h = rw (drop_of_length-le chars h)

module _ (s : ℕ) (ws : List Wave) (chars : List ℕ) (i : ℕ) where
  pub all_put : (front : Entries) {all : Entries} → front ++ entries_of s ws (drop i chars) ≡ all → length chars ≤ i → front ≡ all
  all_put front e h = sym (append-nil front) ∙ ap (λ (l : Entries). front ++ l) (sym (entries_over s ws chars i h)) ∙ e

pub entry_put_lem : (front : Entries) {l m n all : Entries} {x : ℕ × List Event} → front ++ l ≡ all → l ≡ x ∷ m → m ≡ n → (front ++ x ∷ []) ++ n ≡ all
entry_put_lem front {l} {m} {n} {all} {x} e f g =
    append_assoc front (x ∷ []) n ∙ ap (λ (k : Entries). front ++ k) (sym (f ∙ ap (λ (k : Entries). x ∷ k) g)) ∙ e

pub entries_more : {a b d : List ℕ} {p q r : Pen} (front : Entries) (x : ℕ × List Event) → Writes a p (laid (each entry_put front [])) b q → Writes b q (laid (entry_put x [])) d r
    → Writes a p (laid (each entry_put (front ++ x ∷ []) [])) d r
entries_more front x f g = writes_same (sym (laid_more entry_put own_entry front x)) (writes_both f g)

-- ---- the lines of signals, one by one

chart_append : (n : List ℕ) (s : ℕ) (es : Entries) (rest : List Chart) → chart n s es rest ≡ chart n s es [] ++ rest
unfolding chart
chart_append n s [] rest = refl
chart_append n s (x ∷ xs) rest = refl

each_append : {X : Type 0} (put : X → List Piece → List Piece) (xs ys : List X) (k : List Piece) → each put (xs ++ ys) k ≡ each put xs (each put ys k)
unfolding each
each_append put [] ys k = refl
each_append put (x ∷ xs) ys k = ap (put x) (each_append put xs ys k)

-- some more of them
pub charts_more : {a b d : List ℕ} {p q r : Pen} (xs ys : List Chart) → Writes a p (laid (each chart_put xs [])) b q → Writes b q (laid (each chart_put ys [])) d r
    → Writes a p (laid (each chart_put (xs ++ ys) [])) d r
charts_more xs ys f g = writes_same (sym (ap laid (each_append chart_put xs ys []) ∙ laid_behind chart_put own_chart xs (each chart_put ys []))) (writes_both f g)

module _ (text places : List ℕ) (count : ℕ) (ws : List Wave) where
  -- those from signal i on
  abbrev pub charts_in : ℕ → List Chart
  charts_in i = charts_from i (firsts (names_from text places i (count - i))) ws

  charts_cut : (i : ℕ) → i < count → charts_in i ≡ chart (name_of text places i).word i (entries_of i ws characters) [] ++ charts_in (i + 1)
  unfolding charts_from firsts names_from
  charts_cut i h =
      let e : count - i ≡ suc (count - (i + 1)) = omega arith in
      let f : suc i ≡ i + 1 = omega arith in
      ap (λ (k : ℕ). charts_from i (firsts (names_from text places i k)) ws) e
      ∙ ap (λ (k : ℕ). chart (name_of text places i).word i (entries_of i ws characters) (charts_from k (firsts (names_from text places k (count - (i + 1)))) ws)) f
      ∙ chart_append (name_of text places i).word i (entries_of i ws characters) (charts_in (i + 1))

  pub charts_next : (i : ℕ) (front : List Chart) {all : List Chart} → i < count → front ++ charts_in i ≡ all
      → (front ++ chart (name_of text places i).word i (entries_of i ws characters) []) ++ charts_in (i + 1) ≡ all
  charts_next i front h e =
      append_assoc front (chart (name_of text places i).word i (entries_of i ws characters) []) (charts_in (i + 1)) ∙ ap (λ (l : List Chart). front ++ l) (sym (charts_cut i h)) ∙ e

  pub charts_whole : charts_in 0 ≡ charts_from 0 (firsts (names text places count)) ws
  charts_whole = let q : count - 0 ≡ count = omega arith in ap (λ (k : ℕ). charts_from 0 (firsts (names_from text places 0 k)) ws) q

  pub charts_done : (i : ℕ) (front : List Chart) {all : List Chart} → count ≤ i → front ++ charts_in i ≡ all → front ≡ all
  unfolding charts_from firsts names_from
  charts_done i front h e =
      let q : count - i ≡ 0 = omega arith in
      sym (append-nil front) ∙ ap (λ (l : List Chart). front ++ l) (sym (ap (λ (k : ℕ). charts_from i (firsts (names_from text places i k)) ws) q)) ∙ e

-- the code's name and characters are the definition's
pub chart_named : {a d : List ℕ} {p r : Pen} {n chars : List ℕ} (text places : List ℕ) (ws : List Wave) (i : ℕ) → n ≡ (name_of text places i).word → chars ≡ characters
    → Writes a p (laid (each chart_put (chart n i (entries_of i ws chars) []) [])) d r
    → Writes a p (laid (each chart_put (chart (name_of text places i).word i (entries_of i ws characters) []) [])) d r
chart_named text places ws i e f g = writes_same (ap₂ (λ (n l : List ℕ). laid (each chart_put (chart n i (entries_of i ws l) []) [])) e f) g

pub few_characters : {chars : List ℕ} → chars ≡ characters → length chars ≤ bytes_most
unfolding characters up_from
few_characters e = rw e (omega arith)

pub charts_written : {a d : List ℕ} {p r : Pen} {xs ys : List Chart} → xs ≡ ys → Writes a p (laid (each chart_put xs [])) d r → Writes a p (laid (each chart_put ys [])) d r
charts_written e f = writes_same (ap (λ (l : List Chart). laid (each chart_put l [])) e) f

-- ---- WaveformTable NAME{Period'T';Waveforms{

pub title_writes : {a b d e f g : List ℕ} {p q s t u r : Pen} {n : List ℕ} (k : ℕ) → Writes a p (bytes "WaveformTable ") b q → Writes b q n d s → Writes d s (bytes "{Period'") e t
    → Writes e t (timed k) f u → Writes f u (bytes "';Waveforms{\n") g r → Writes a p (titled n k) g r
unfolding titled
title_writes {n = n} k v w x y z =
    writes_same (append_assoc (((bytes "WaveformTable " ++ n) ++ bytes "{Period'")) (timed k) (bytes "';Waveforms{\n") ∙ append_assoc (bytes "WaveformTable " ++ n) (bytes "{Period'") _ ∙ append_assoc (bytes "WaveformTable ") n _)
    (writes_both (writes_both (writes_both (writes_both v w) x) y) z)
