-- What a refusal overwrites; the scan for a block, token by token, and the search for a `;`: what is left to find from here is what was to be found from the start.
use Prim.Native.Nat.{ℕ, zero, suc, ◌+◌, ◌-◌, ◌≤◌, ◌<◌}
use native.Mathlib.Omega.{arith}
use native.Mathlib.Numerals.{add-one}
use mathlib.Core.Path.{◌≡◌, refl, sym, ap, ap₂, ◌∙◌, subst}
use mathlib.Core.Bool.{Bool, true, false, not, ◌&&◌, ◌||◌, or-true}
use mathlib.Core.Option.{Option, none, some}
use mathlib.Core.List.{List, [], ◌∷◌}
use lib.Dec.{leb, ltb, eqb, eqb-suc-zero}
use lib.ListN.{length}
use borrow.Author.Tests.{lt-ltb, le-ltb, eq-eqb, ne_eqb, eqb-false, leb-true, leb-false}
use Rattle.tokens.specs.Written.{bytes, same, cases}
use Rattle.tokens.specs.Bytes.{between}
use Rattle.tokens.specs.Tokens.{Tok, Toks, stop, toks, left}
use Rattle.tokens.proofs.Laws.{unfolds, left_most}
use Rattle.tokens.proofs.Bools.{never}
use Rattle.words.specs.Cursor.{ahead, stop_no, stream, Stands}
use Rattle.words.specs.Values.{told}
use Rattle.words.specs.declared.Cursor.{Cursor}
use Rattle.words.proofs.Flow.{stream_stop, token_here, fewer}
use Rattle.saving.specs.Saving.{Span, Block, Turn, on, ends, closing, beginning, turn, following, blocks_from, blocks, in_block, block_at, semicolon, up_to, entry, of_block, hurt}
use Rattle.saving.specs.Found.{begun_in, turned_to, Scans}
use Rattle.saving.specs.declared.Scan.{Scan}

-- ---- one token

module _ (q : ℕ) where
  pub close_outside : (s : Scan) → s.depth ≡ 0 → Scans (closing s.depth (begun_in s) q) q (record { depth = 0; begun = s.begun; first = s.first; ended = false })
  unfolding closing
  close_outside s h = rw h (record { turned = refl; anew = never })

  pub close_inside : (s : Scan) → (s.depth ≡ 0 → ⊥)
      → Scans (closing s.depth (begun_in s) q) q (record { depth = s.depth - 1; begun = s.begun && not (s.begun && eqb s.depth 1); first = s.first; ended = s.begun && eqb s.depth 1 })
  unfolding closing
  close_inside s h = by s.depth s.begun s.first h
    where
      by : (d : ℕ) (b : Bool) (a : ℕ) → (d ≡ 0 → ⊥) → Scans (closing d (told b a) q) q (record { depth = d - 1; begun = b && not (b && eqb d 1); first = a; ended = b && eqb d 1 })
      by zero b a h = absurd (h refl)
      by (suc d) false a h = record { turned = ap (λ (n : ℕ). on n none) (omega arith); anew = never }
      by (suc zero) true a h = record { turned = refl; anew = λ e. (refl, refl) }
      by (suc (suc d)) true a h = rw (ne_eqb (suc (suc d)) 1 (λ e. omega arith)) (record { turned = ap (λ (n : ℕ). on n (some a)) (omega arith); anew = never })

  pub begin_here : (s : Scan) (p : ℕ) → (eqb s.depth 0 && not s.begun) ≡ true → Scans (beginning s.depth (begun_in s) p) q (record { depth = 0; begun = true; first = p; ended = false })
  unfolding beginning
  begin_here s p h = by s.depth s.begun h
    where
      by : (d : ℕ) (b : Bool) → (eqb d 0 && not b) ≡ true → Scans (beginning d (told b s.first) p) q (record { depth = 0; begun = true; first = p; ended = false })
      by zero false h = record { turned = refl; anew = never }
      by zero true h = never h
      by (suc d) b h = never (ap (λ (e : Bool). e && not b) (sym (eqb-suc-zero d)) ∙ h)

  pub begin_on : (s : Scan) (p : ℕ) → (eqb s.depth 0 && not s.begun) ≡ false
      → Scans (beginning s.depth (begun_in s) p) q (record { depth = s.depth; begun = s.begun; first = s.first; ended = false })
  unfolding beginning
  begin_on s p h = by s.depth s.begun h
    where
      by : (d : ℕ) (b : Bool) → (eqb d 0 && not b) ≡ false → Scans (beginning d (told b s.first) p) q (record { depth = d; begun = b; first = s.first; ended = false })
      by zero false h = never (sym h)
      by zero true h = record { turned = refl; anew = never }
      by (suc d) b h = record { turned = refl; anew = never }

module _ (s : Scan) (t : Tok) where
  abbrev turns : Turn
  turns = turn s.depth (begun_in s) t

  pub opens : (q : ℕ) → same t.word (bytes "{") ≡ true → Scans turns q (record { depth = s.depth + 1; begun = s.begun; first = s.first; ended = false })
  unfolding turn cases
  opens q e = rw (e, cases) (record { turned = ap (λ (n : ℕ). on n (begun_in s)) (sym (add-one s.depth)); anew = never })

  module _ (a : same t.word (bytes "{") ≡ false) where
    pub closes : same t.word (bytes "}") ≡ true → {q : ℕ} {r : Scan} → Scans (closing s.depth (begun_in s) (t.at + 1)) q r → Scans turns q r
    unfolding turn cases
    closes e h = rw (a, e, cases) h

    module _ (b : same t.word (bytes "}") ≡ false) where
      pub begins : same t.word (bytes "Pattern") ≡ true → {q : ℕ} {r : Scan} → Scans (beginning s.depth (begun_in s) t.at) q r → Scans turns q r
      unfolding turn cases
      begins e h = rw (a, b, e, cases) h

      pub passes : same t.word (bytes "Pattern") ≡ false → (q : ℕ) → Scans turns q (record { depth = s.depth; begun = s.begun; first = s.first; ended = false })
      unfolding turn cases
      passes e q = rw (a, b, e, cases) (record { turned = refl; anew = never })

-- a token opens at most one brace
abbrev Deep : ℕ → Turn → Type 0
Deep d (on n o) = n ≤ d + 1
Deep d (ends s) = Unit {0}

turn_deep : (d : ℕ) (o : Option ℕ) (t : Tok) → Deep d (turn d o t)
unfolding turn cases closing beginning
turn_deep d o t = by (same t.word (bytes "{")) (same t.word (bytes "}")) (same t.word (bytes "Pattern"))
  where
    close : (d : ℕ) (o : Option ℕ) → Deep d (closing d o (t.at + 1))
    close zero o = omega arith
    close (suc d) none = omega arith
    close (suc zero) (some a) = tt
    close (suc (suc d)) (some a) = omega arith

    begin : (d : ℕ) (o : Option ℕ) → Deep d (beginning d o t.at)
    begin zero none = omega arith
    begin zero (some a) = omega arith
    begin (suc d) o = omega arith

    by : (x y z : Bool) → Deep d (cases ((x, on (suc d) o) ∷ (y, closing d o (t.at + 1)) ∷ (z, beginning d o t.at) ∷ []) (on d o))
    by true y z = omega arith
    by false true z = close d o
    by false false true = begin d o
    by false false false = omega arith

scan_deep : (d : ℕ) (o : Option ℕ) (t : Tok) {q : ℕ} {r : Scan} → Scans (turn d o t) q r → r.depth ≤ d + 1
scan_deep d o t {q} {r} h = by r.ended (subst (Deep d) h.turned (turn_deep d o t)) h.anew
  where
    by : (b : Bool) → Deep d (turned_to b r q) → (b ≡ true → (r.depth ≡ 0) × (begun_in r ≡ none)) → r.depth ≤ d + 1
    by true k a = omega (arith, (a refl).0)
    by false k a = k

-- ---- the block that p lies in, behind one token more

module _ (p : ℕ) where
  block_if : (y : Bool) (b : Block) (bs : List Block) → in_block p b ≡ y → block_at p (b ∷ bs) ≡ elim y [ true ↦ some b.span | false ↦ block_at p bs ]
  unfolding block_at
  block_if y b bs e = ap (λ (x : Bool). elim x as (λ z. Option Span) [ true ↦ some b.span | false ↦ block_at p bs ]) e

  in_whole : (s : Span) → in_block p (record { span = s; whole = true }) ≡ (leb s.first p && ltb p s.behind)
  unfolding in_block
  in_whole s = by (leb s.first p) (ltb p s.behind)
    where
      by : (y z : Bool) → (y && (z || false)) ≡ (y && z)
      by y true = refl
      by y false = refl

  in_open : (s : Span) → in_block p (record { span = s; whole = false }) ≡ (leb s.first p && leb p s.behind)
  unfolding in_block
  in_open s = ap (λ (x : Bool). leb s.first p && x) (by (leb p s.behind) refl)
    where
      below : (b : Bool) → eqb p s.behind ≡ b → p ≤ s.behind → (ltb p s.behind || b) ≡ true
      below true e h = or-true (ltb p s.behind)
      below false e h = ap (λ (x : Bool). x || false) (lt-ltb p s.behind (omega (arith, eqb-false p s.behind e)))

      by : (b : Bool) → leb p s.behind ≡ b → (ltb p s.behind || eqb p s.behind) ≡ b
      by true e = below (eqb p s.behind) refl (leb-true p s.behind e)
      by false e = rw (le-ltb p s.behind (omega (arith, leb-false p s.behind e)), ne_eqb p s.behind (λ q. omega (arith, leb-false p s.behind e)))

  module _ (q : ℕ) (r : Scan) (rest : ℕ → Option ℕ → List Block) where
    abbrev ended_at : Span
    ended_at = record { first = r.first; behind = q }

    block_found : ((r.ended && leb r.first p) && ltb p q) ≡ true → block_at p (following (turned_to r.ended r q) rest) ≡ some ended_at
    unfolding following
    block_found e = by r.ended (leb r.first p) (ltb p q) e (in_whole ended_at)
      where
        by : (x y z : Bool) → ((x && y) && z) ≡ true → in_block p (record { span = ended_at; whole = true }) ≡ (y && z) → block_at p (following (turned_to x r q) rest) ≡ some ended_at
        by true true true e i = block_if true (record { span = ended_at; whole = true }) (rest 0 none) i
        by true true false e i = never e
        by true false z e i = never e
        by false y z e i = never e

    block_later : ((r.ended && leb r.first p) && ltb p q) ≡ false → (r.ended ≡ true → (r.depth ≡ 0) × (begun_in r ≡ none))
        → block_at p (following (turned_to r.ended r q) rest) ≡ block_at p (rest r.depth (begun_in r))
    unfolding following
    block_later e a = by r.ended (leb r.first p) (ltb p q) e (in_whole ended_at) a
      where
        anew : (d : ℕ) (o : Option ℕ) → (d ≡ 0) × (o ≡ none) → block_at p (rest 0 none) ≡ block_at p (rest d o)
        anew d o w = rw (w.0, w.1)

        by : (x y z : Bool) → ((x && y) && z) ≡ false → in_block p (record { span = ended_at; whole = true }) ≡ (y && z) → (x ≡ true → (r.depth ≡ 0) × (begun_in r ≡ none))
            → block_at p (following (turned_to x r q) rest) ≡ block_at p (rest r.depth (begun_in r))
        by true true true e i a = never (sym e)
        by true true false e i a = block_if false (record { span = ended_at; whole = true }) (rest 0 none) i ∙ anew r.depth (begun_in r) (a refl)
        by true false z e i a = block_if false (record { span = ended_at; whole = true }) (rest 0 none) i ∙ anew r.depth (begun_in r) (a refl)
        by false y z e i a = refl

-- ---- a cursor among the tokens of a text

-- it stands at the first token from some place on
pub record Among (text : List ℕ) (c : Cursor) : Type 0 where
  pub place : ℕ
  pub there : stream text c ≡ toks text place

pub among : {text : List ℕ} {at : ℕ} {c : Cursor} → Stands text at c → Among text c
among {text} {at} s = record { place = at; there = s.there }

module _ (text : List ℕ) (c : Cursor) (h : c.at < c.end) where
  pub token_inside : Among text c → c.at < length text
  token_inside a = let u = unfolds text a.place (ahead text c) (toks text c.end) (sym a.there ∙ token_here text c h) in omega (arith, u.some, u.within)

-- ---- the block that p lies in

module _ (text : List ℕ) (p : ℕ) where
  -- THE INVARIANT
  pub record Looks (c : Cursor) (s : Scan) : Type 0 where
    pub still : block_at p (blocks text) ≡ block_at p (blocks_from (length text) s.depth (begun_in s) (stream text c))
    pub few : s.depth + left (stream text c) ≤ length text
    pub among : Among text c

  pub looks_start : {c : Cursor} → Stands text 0 c → Looks c (record { depth = 0; begun = false; first = 0; ended = false })
  unfolding blocks
  looks_start {c} s = record {
    still = ap (λ (ts : Toks). block_at p (blocks_from (length text) 0 none ts)) (sym s.there);
    few = rw s.there (omega (arith, left_most text 0));
    among = among s;
  }

  module _ {c : Cursor} {s : Scan} (l : Looks c s) (h : c.at < c.end) where
    pub looks_room : s.depth < length text
    unfolding left
    looks_room = let k : left (stream text c) ≡ suc (left (toks text c.end)) = ap left (token_here text c h) in omega (arith, l.few)

    module _ {r : Scan} (t : Scans (turn s.depth (begun_in s) (ahead text c)) (c.at + 1) r) where
      one_on : block_at p (blocks text) ≡ block_at p (following (turned_to r.ended r (c.at + 1)) (λ d o. blocks_from (length text) d o (toks text c.end)))
      unfolding blocks_from
      one_on =
          l.still ∙ ap (λ (ts : Toks). block_at p (blocks_from (length text) s.depth (begun_in s) ts)) (token_here text c h)
          ∙ ap (λ (x : Turn). block_at p (following x (λ d o. blocks_from (length text) d o (toks text c.end)))) t.turned

      pub looks_found : ((r.ended && leb r.first p) && ltb p (c.at + 1)) ≡ true → some (record { first = r.first; behind = c.at + 1 }) ≡ block_at p (blocks text)
      looks_found e = sym (one_on ∙ block_found p (c.at + 1) r _ e)

      pub looks_on : {d : Cursor} → Stands text c.end d → ((r.ended && leb r.first p) && ltb p (c.at + 1)) ≡ false → Looks d r
      looks_on {d} w e = record {
        still = one_on ∙ block_later p (c.at + 1) r _ e t.anew ∙ ap (λ (ts : Toks). block_at p (blocks_from (length text) r.depth (begun_in r) ts)) (sym w.there);
        few = omega (arith, scan_deep s.depth (begun_in s) (ahead text c) t, l.few, fewer text c h w);
        among = among w;
      }

  -- no token is left
  module _ {c : Cursor} {s : Scan} (l : Looks c s) (h : c.end ≤ c.at) where
    abbrev last : Span
    last = record { first = s.first; behind = length text }

    abbrev open_at : Bool → Option Span
    open_at y = elim y [ true ↦ some last | false ↦ none ]

    looks_end : block_at p (blocks text) ≡ open_at ((s.begun && leb s.first p) && leb p (length text))
    unfolding blocks_from block_at
    looks_end = l.still ∙ ap (λ (ts : Toks). block_at p (blocks_from (length text) s.depth (begun_in s) ts)) (stream_stop text c (le-ltb c.at c.end h)) ∙ by s.begun
      where
        by : (b : Bool) → block_at p (blocks_from (length text) s.depth (told b s.first) (stop (stop_no c) c.at)) ≡ open_at ((b && leb s.first p) && leb p (length text))
        by false = refl
        by true = let y = leb s.first p && leb p (length text) in block_if p y (record { span = last; whole = false }) [] (in_open p last)

    pub looks_last : ((s.begun && leb s.first p) && leb p (length text)) ≡ true → some (record { first = s.first; behind = length text }) ≡ block_at p (blocks text)
    looks_last e = sym (looks_end ∙ ap open_at e)

    pub looks_none : ((s.begun && leb s.first p) && leb p (length text)) ≡ false → none ≡ block_at p (blocks text)
    looks_none e = sym (looks_end ∙ ap open_at e)

-- ---- an entry's `;`

module _ (text : List ℕ) where
  pub semicolon_here : (c : Cursor) → c.at < c.end → same (ahead text c).word (bytes ";") ≡ true → semicolon (stream text c) ≡ some (c.at + 1)
  unfolding semicolon
  semicolon_here c h e = rw (token_here text c h, semicolon) (rw e)

  pub semicolon_later : (c : Cursor) {d : Cursor} → c.at < c.end → same (ahead text c).word (bytes ";") ≡ false → Stands text c.end d → semicolon (stream text c) ≡ semicolon (stream text d)
  unfolding semicolon
  semicolon_later c h e w = rw (token_here text c h, semicolon) (rw e (ap semicolon (sym w.there)))

  pub semicolon_none : (c : Cursor) → c.end ≤ c.at → semicolon (stream text c) ≡ none
  unfolding semicolon
  semicolon_none c h = rw (stream_stop text c (le-ltb c.at c.end h))

  module _ {p : ℕ} {c : Cursor} (w : Stands text p c) where
    pub entry_none : c.end ≤ c.at → entry (toks text p) ≡ none
    unfolding entry
    entry_none h = ap entry (sym w.there) ∙ rw (stream_stop text c (le-ltb c.at c.end h))

    -- up to the `;` that is found behind the name
    pub entry_upto : c.at < c.end → {d : Cursor} → Stands text c.end d → entry (toks text p) ≡ up_to c.at (semicolon (stream text d))
    unfolding entry
    entry_upto h {d} v = ap entry (sym w.there) ∙ ap entry (token_here text c h) ∙ ap (λ (ts : Toks). up_to c.at (semicolon ts)) (sym v.there)

pub upto_found : (a : ℕ) {o : Option ℕ} {q : ℕ} → o ≡ some q → up_to a o ≡ some (record { first = a; behind = q })
unfolding up_to
upto_found a e = rw e

pub upto_none : (a : ℕ) {o : Option ℕ} → o ≡ none → up_to a o ≡ none
unfolding up_to
upto_none a e = rw e

-- ---- by the refusal's number

module _ (text : List ℕ) (n p : ℕ) where
  -- the code's test
  abbrev block_number : Bool
  block_number = ((leb 4 n && leb n 14) || eqb n 17) || eqb n 25

  hurt_by : {x y : Bool} → block_number ≡ x → eqb n 15 ≡ y → hurt text n p ≡ elim x [ true ↦ block_at p (blocks text) | false ↦ elim y as (λ z. Option Span) [ true ↦ entry (toks text p) | false ↦ none ] ]
  unfolding hurt of_block between
  hurt_by e f = ap₂ (λ (x y : Bool). elim x as (λ z. Option Span) [ true ↦ block_at p (blocks text) | false ↦ elim y as (λ z. Option Span) [ true ↦ entry (toks text p) | false ↦ none ] ]) e f

  pub hurt_block : block_number ≡ true → block_at p (blocks text) ≡ hurt text n p
  hurt_block e = sym (hurt_by e refl)

  pub hurt_entry : block_number ≡ false → n ≡ 15 → entry (toks text p) ≡ hurt text n p
  hurt_entry e h = sym (hurt_by e (eq-eqb n 15 h))

  pub hurt_nothing : block_number ≡ false → (n ≡ 15 → ⊥) → none ≡ hurt text n p
  hurt_nothing e h = sym (hurt_by e (ne_eqb n 15 h))
