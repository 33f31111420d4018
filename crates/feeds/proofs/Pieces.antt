-- DATA that was read, from its front on: a piece, and then the rest of it, which is again DATA that was read.
use Prim.Native.Nat.{ℕ, zero, suc, ◌≤◌, ◌<◌}
use native.Mathlib.Omega.{arith}
use mathlib.Core.Path.{◌≡◌, refl, sym, ap, ◌∙◌}
use mathlib.Core.Bool.{Bool, true, false, not, ◌&&◌}
use mathlib.Core.Option.{Option, none, some}
use mathlib.Core.List.{List, [], ◌∷◌, ◌++◌, append_assoc, append-nil}
use lib.Dec.{leb, eqb}
use lib.ListN.{length, drop}
use borrow.Author.Tests.{leb-true}
use Rattle.tokens.specs.Written.{bytes, same}
use Rattle.tokens.specs.Bytes.{between, digit, letter, wordy}
use Rattle.tokens.specs.Tokens.{Tok, Toks, stop, tok, toks, left}
use Rattle.tokens.proofs.Laws.{left_most}
use Rattle.tokens.specs.Refusals.{not_here}
use Rattle.tokens.proofs.Bools.{both}
use Rattle.meaning.specs.Refusals.{bad_number, bad_argument}
use Rattle.meaning.specs.Bounds.{repeat_most}
use Rattle.meaning.specs.Reader.{Res, ok, refuse, after, ◌>>=◌, give, refuse_if, any, ahead, ahead_of, due, one_of, is_word, word, while_f, while, closed}
use Rattle.meaning.specs.Names.{number, within}
use Rattle.meaning.specs.Data.{chars_of, stretched, repeat_of, times, repeated, piece, part, data_read}
use Rattle.meaning.proofs.Takes.{while_done, while_on}
use Rattle.meaning.proofs.Gives.{bind_ok, bind_go, give_ok, if_ok, any_ok}
use Rattle.meaning.proofs.Others.{same_eq}
use Rattle.data.proofs.Characters.{takes_part, takes_data}

-- ---- characters that are there already stand in front

-- DATA goes on
abbrev on : Toks → Bool
on ts = not (ahead ";" ts)

abbrev fronted : List ℕ → Res (List ℕ) → Res (List ℕ)
fronted cs (ok ds us) = ok (cs ++ ds) us
fronted cs (refuse n p) = refuse n p

fronted_twice : (cs ds : List ℕ) (r : Res (List ℕ)) → fronted (cs ++ ds) r ≡ fronted cs (fronted ds r)
fronted_twice cs ds (ok es us) = ap (λ (l : List ℕ). ok l us) (append_assoc cs ds es)
fronted_twice cs ds (refuse n p) = refl

module _ (m : Bool) where
  part_fronted : (cs : List ℕ) (ts : Toks) → part m cs ts ≡ fronted cs (part m [] ts)
  unfolding part ◌>>=◌ after give
  part_fronted cs ts = by (any ts)
    where
      piece_by : (r : Res (List ℕ)) → after r (λ ds. give (cs ++ ds)) ≡ fronted cs (after r (λ ds. give ds))
      piece_by (ok ds us) = refl
      piece_by (refuse n p) = refl

      by : (r : Res Tok) → after r (λ t. piece m t >>= λ ds. give (cs ++ ds)) ≡ fronted cs (after r (λ t. piece m t >>= λ ds. give ds))
      by (ok t us) = piece_by (piece m t us)
      by (refuse n p) = refl

  while_fronted : (k : ℕ) (cs : List ℕ) (ts : Toks) → while_f on (part m) k cs ts ≡ fronted cs (while_f on (part m) k [] ts)
  unfolding while_f ◌>>=◌ after
  while_fronted zero cs ts = ap (λ (l : List ℕ). ok l ts) (sym (append-nil cs))
  while_fronted (suc k) cs ts = by (on ts) (part m [] ts) (part_fronted cs ts) (while_fronted k)
    where
      by : (b : Bool) (r : Res (List ℕ)) → part m cs ts ≡ fronted cs r
          → ((ds : List ℕ) (us : Toks) → while_f on (part m) k ds us ≡ fronted ds (while_f on (part m) k [] us))
          → ◌≡◌ {A = Res (List ℕ)} (elim b [ true ↦ after (part m cs ts) (λ s. while_f on (part m) k s) | false ↦ ok cs ts ])
          (fronted cs (elim b [ true ↦ after r (λ s. while_f on (part m) k s) | false ↦ ok [] ts ]))
      by true (ok ds us) e ih =
          ap (λ (x : Res (List ℕ)). after x (λ s. while_f on (part m) k s)) e ∙ ih (cs ++ ds) us
          ∙ fronted_twice cs ds (while_f on (part m) k [] us) ∙ ap (fronted cs) (sym (ih ds us))
      by true (refuse n p) e ih = ap (λ (x : Res (List ℕ)). after x (λ s. while_f on (part m) k s)) e
      by false r e ih = ap (λ (l : List ℕ). ok l ts) (sym (append-nil cs))

  -- ---- the first token of DATA

  -- what was read up to the `;`, and its place
  closed_ok : (ts : Toks) {cs : List ℕ} {q : ℕ} {us : Toks} → data_read m ts ≡ ok (cs, q) us
      → (vs : Toks) × (while on (part m) [] ts ≡ ok cs vs) × (due ";" vs ≡ ok q us)
  unfolding data_read closed
  closed_ok ts {cs} {q} {us} e =
      let x = bind_ok _ _ ts (cs, q) us e in
      let y = bind_ok _ _ x.1 (cs, q) us x.3 in
      let z = give_ok y.3 in (
        x.1,
        x.2 ∙ ap (λ (a : List ℕ × ℕ). ok a.0 x.1) z.0,
        y.2 ∙ ap (λ (a : List ℕ × ℕ). ok a.1 y.1) z.0 ∙ ap (ok q) z.1,
      )

  closed_go : (ts : Toks) {cs : List ℕ} {q : ℕ} {vs us : Toks} → while on (part m) [] ts ≡ ok cs vs → due ";" vs ≡ ok q us → data_read m ts ≡ ok (cs, q) us
  unfolding data_read closed give
  closed_go ts {cs} {q} {vs} {us} e f = bind_go _ _ ts cs vs e ∙ bind_go _ _ vs q us f

  -- the first piece ds, the tokens vs behind it, and the characters es of the rest
  pub record First (t : Tok) (ts : Toks) (cs : List ℕ) (q : ℕ) (us : Toks) : Type 0 where
    pub ds : List ℕ
    pub es : List ℕ
    pub vs : Toks
    pub piece_read : piece m t ts ≡ ok ds vs
    pub rest_read : data_read m vs ≡ ok (es, q) us
    pub is : cs ≡ ds ++ es

  module _ (t : Tok) (ts : Toks) {cs : List ℕ} {q : ℕ} {us : Toks} (e : data_read m (tok t ts) ≡ ok (cs, q) us) where
    -- another token than `;` begins a piece
    pub data_more : same t.word (bytes ";") ≡ false → First t ts cs q us
    unfolding part any ◌>>=◌ after give ahead_of while
    data_more h =
        let x = closed_ok (tok t ts) e in
        by (piece m t ts) refl x.0 (sym (while_on on (part m) (takes_part m) [] (tok t ts) (ap not h)) ∙ x.1) x.2
      where
        rest : (ds : List ℕ) (ws vs : Toks) → piece m t ts ≡ ok ds ws → (r : Res (List ℕ)) → while on (part m) [] ws ≡ r → fronted ds r ≡ ok cs vs
            → due ";" vs ≡ ok q us → First t ts cs q us
        rest ds ws vs p (ok es xs) f g k =
            let i : xs ≡ vs = cc in
            let j : ds ++ es ≡ cs = cc in
            record { ds = ds; es = es; vs = ws; piece_read = p; rest_read = closed_go ws (f ∙ ap (ok es) i) k; is = sym j }
        rest ds ws vs p (refuse n o) f g k = let z : ◌≡◌ {A = ℕ} 0 1 = cc in absurd (omega arith)

        by : (r : Res (List ℕ)) → piece m t ts ≡ r → (vs : Toks) → after (after r (λ ds. give ds)) (while on (part m)) ≡ ok cs vs → due ";" vs ≡ ok q us
            → First t ts cs q us
        by (ok ds ws) p vs f k = rest ds ws vs p (while on (part m) [] ws) refl (sym (while_fronted (suc (left ws)) ds ws) ∙ f) k
        by (refuse n o) p vs f k = let z : ◌≡◌ {A = ℕ} 0 1 = cc in absurd (omega arith)

    -- `;` ends it
    pub data_done : same t.word (bytes ";") ≡ true → cs ≡ []
    unfolding ahead_of
    data_done h =
        let x = closed_ok (tok t ts) e in
        let y : ok [] (tok t ts) ≡ ok cs x.0 = sym (while_done on (part m) (takes_part m) [] (tok t ts) (ap not h)) ∙ x.1 in
        cc

  -- there is one
  pub data_some : (n p : ℕ) {q : ℕ} {cs : List ℕ} {us : Toks} → data_read m (stop n p) ≡ ok (cs, q) us → ⊥
  unfolding left
  data_some n p e = omega (arith, (takes_data m).falls (stop n p) _ _ e)

-- so DATA that was read begins within the text
pub data_within : (m : Bool) (text : List ℕ) (place : ℕ) {q : ℕ} {cs : List ℕ} {us : Toks} → data_read m (toks text place) ≡ ok (cs, q) us → place < length text
data_within m text place e = omega (arith, (takes_data m).falls (toks text place) _ _ e, left_most text place)

-- ---- a piece, where `#` may not stand

chars_of_ok : (t : Tok) {ts vs : Toks} {ds : List ℕ} → chars_of t ts ≡ ok ds vs → (ds ≡ t.word) × (vs ≡ ts)
unfolding chars_of
chars_of_ok t {ts} {vs} {ds} e =
    let x = bind_ok _ _ ts ds vs e in
    let y = give_ok x.3 in
    let z = if_ok _ _ _ x.2 in
    (sym y.0, sym (z ∙ y.1))

module _ (t : Tok) (ts : Toks) {vs : Toks} {ds : List ℕ} (e : piece false t ts ≡ ok ds vs) where
  -- `\\` begins a repeat
  pub piece_repeat : same t.word (bytes "\\") ≡ true → repeated ts ≡ ok ds vs
  unfolding piece one_of is_word wordy letter digit between same bytes
  piece_repeat h =
      let q = same_eq t.word (bytes "\\") h in
      let x : is_word t.word ≡ false = ap is_word q in
      let y : same t.word (bytes "#") ≡ false = ap (λ (w : List ℕ). same w (bytes "#")) q in
      sym (rw (x, y, h, piece, one_of)) ∙ e

  -- another one is a word, and the piece its characters
  pub piece_word : same t.word (bytes "\\") ≡ false → (ds ≡ t.word) × (vs ≡ ts)
  unfolding piece one_of refuse_if ◌>>=◌ after
  piece_word h = by (is_word t.word) (same t.word (bytes "#")) (same t.word (bytes "\\")) h e
    where
      by : (x y z : Bool) → z ≡ false
          → ◌≡◌ {A = Res (List ℕ)} (elim x [
            | true ↦ chars_of t ts
            | false ↦ elim y [ true ↦ refuse bad_argument t.at | false ↦ elim z [ true ↦ repeated ts | false ↦ refuse not_here t.at ] ]
          ]) (ok ds vs)
          → (ds ≡ t.word) × (vs ≡ ts)
      by true y z h e = chars_of_ok t e
      by false true z h e = let z : ◌≡◌ {A = ℕ} 0 1 = cc in absurd (omega arith)
      by false false true h e = let z : ◌≡◌ {A = ℕ} 0 1 = cc in absurd (omega arith)
      by false false false h e = let z : ◌≡◌ {A = ℕ} 0 1 = cc in absurd (omega arith)

-- ---- a repeat

word_ok : (ts : Toks) {t : Tok} {us : Toks} → word ts ≡ ok t us → ts ≡ tok t us
unfolding word
word_ok ts {t} {us} e =
    let x = bind_ok _ _ ts t us e in
    let y = bind_ok _ _ x.1 t us x.3 in
    let z = give_ok y.3 in
    any_ok ts x.2 ∙ ap (λ (u : Tok). tok u x.1) z.0 ∙ ap (tok t) (if_ok _ _ _ y.2 ∙ z.1)

-- how often it says, at least once: the number of the word behind its first byte
pub record Repeat (w : List ℕ) (n : ℕ) : Type 0 where
  pub is : number (drop 1 w) ≡ some n
  pub least : 1 ≤ n
  pub most : n ≤ repeat_most

pub times_ok : (t : Tok) (w : List ℕ) (ts : Toks) {n : ℕ} {us : Toks} → times t (repeat_of w) ts ≡ ok n us → Repeat w n × (ts ≡ us)
unfolding times repeat_of within
times_ok t [] ts e = let z : ◌≡◌ {A = ℕ} 0 1 = cc in absurd (omega arith)
times_ok t (b ∷ s) ts {n} {us} e = by (eqb b 114) (number s) refl e
  where
    between_by : (k : ℕ) → number s ≡ some k → (x : Bool) → (leb 1 k && leb k repeat_most) ≡ x
        → ◌≡◌ {A = Res ℕ} (elim x [ true ↦ ok k ts | false ↦ refuse bad_number t.at ]) (ok n us) → Repeat (b ∷ s) n × (ts ≡ us)
    between_by k h true f e =
        let p : k ≡ n = cc in
        let q : ts ≡ us = cc in
        let o = both (leb 1 k) (leb k repeat_most) f in
        (record { is = h ∙ ap some p; least = omega (arith, leb-true 1 k o.0); most = omega (arith, leb-true k repeat_most o.1) }, q)
    between_by k h false f e = let z : ◌≡◌ {A = ℕ} 0 1 = cc in absurd (omega arith)

    by : (x : Bool) (o : Option ℕ) → number s ≡ o
        → times t (elim x [ true ↦ some s | false ↦ none ]) ts ≡ ok n us → Repeat (b ∷ s) n × (ts ≡ us)
    by true none h e = let q : refuse bad_number t.at ≡ ok n us = sym (rw h) ∙ e in let z : ◌≡◌ {A = ℕ} 0 1 = cc in absurd (omega arith)
    by true (some k) h e = between_by k h (leb 1 k && leb k repeat_most) refl (rw h at e)
    by false o h e = let z : ◌≡◌ {A = ℕ} 0 1 = cc in absurd (omega arith)

-- `r` and a number t, and the word u that is repeated
pub record Repeated (ts : Toks) (ds : List ℕ) (vs : Toks) : Type 0 where
  pub t : Tok
  pub u : Tok
  pub n : ℕ
  pub there : ts ≡ tok t (tok u vs)
  pub ss : Toks
  pub us : Toks
  pub often : times t (repeat_of t.word) ss ≡ ok n us
  pub is : ds ≡ stretched n u.word

pub repeated_ok : (ts : Toks) {ds : List ℕ} {vs : Toks} → repeated ts ≡ ok ds vs → Repeated ts ds vs
unfolding repeated
repeated_ok ts {ds} {vs} e =
    let x = bind_ok _ _ ts ds vs e in
    let y = bind_ok _ _ x.1 ds vs x.3 in
    let z = bind_ok _ _ y.1 ds vs y.3 in
    let w = bind_ok _ _ z.1 ds vs z.3 in
    let g = give_ok w.3 in
    let k = chars_of_ok z.0 w.2 in
    let o = times_ok x.0 x.0.word x.1 y.2 in
    let q = word_ok y.1 z.2 ∙ ap (tok z.0) (sym k.1 ∙ g.1) in
    record {
      t = x.0;
      u = z.0;
      n = y.0;
      there = any_ok ts x.2 ∙ ap (tok x.0) (o.1 ∙ q);
      ss = x.1;
      us = y.1;
      often = y.2;
      is = sym g.0 ∙ ap (stretched y.0) k.0;
    }
