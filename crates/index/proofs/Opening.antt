-- THE KEYWORD'S PLACE: there stands the word `Pattern`, and behind it the pattern's name and `{`.
use Prim.Native.Nat.{ℕ, suc, ◌+◌, ◌≤◌}
use native.Mathlib.Omega.{arith}
use mathlib.Core.Path.{◌≡◌, refl, sym, ap, ◌∙◌, subst}
use mathlib.Core.Bool.{Bool, true, false}
use mathlib.Core.Option.{Option, none, some}
use mathlib.Core.List.{List, [], ◌∷◌, ◌++◌}
use borrow.Author.Tests.{eq-eqb, ne_eqb}
use Rattle.tokens.specs.Written.{bytes, same}
use Rattle.tokens.specs.Tokens.{Tok, Toks, stop, tok, Mode, plain, inword, line, closing, opened, block, Act, go, token, bad, act, ended, done, lex, toks}
use Rattle.meaning.specs.Names.{find}
use Rattle.meaning.specs.Groups.{groups}
use Rattle.meaning.specs.Meaning.{given, firsts, Meaning, meaning}
use Rattle.meaning.specs.Statements.{Decl, Decls, Env}
use Rattle.meaning.specs.Document.{pattern, patterns, Read}
use Rattle.meaning.specs.Edited.{from_token}
use Rattle.meaning.proofs.Accepted.{accepted}
use Rattle.meaning.proofs.Others.{same_eq}
use Rattle.held.proofs.Rest.{Rest, all, behind, rest_rest, moves_leaves, leaves_option}
use Rattle.held.proofs.Grammar.{moves_signals, moves_groups, moves_timing, moves_statements, moves_macro, moves_procedure, moves_burst, moves_exec, opening_moves}
use Rattle.held.proofs.Bodies.{leads_bodies}
use Rattle.held.proofs.Leads.{Leads, leads_bind, leads_while}
use Rattle.held.proofs.Due.{new_is, due_is}
use Rattle.held.proofs.Declared.{one_pattern}
use Rattle.held.proofs.Parts.{Parts, parts}
use Rattle.index.specs.Index.{stands_at, keyword_before, keywords, Block, blocks, Line, line_of, lines_from, lines_of, index_of}

-- ---- the places of tokens rise

-- none stands before k
unfoldable Above : ℕ → Toks → Type 0
Above k (stop n p) = Unit {0}
Above k (tok t ts) = (k ≤ t.at) × Above k ts

unfoldable Rising : Toks → Type 0
Rising (stop n p) = Unit {0}
Rising (tok t ts) = Above (suc t.at) ts × Rising ts

above_less : (j k : ℕ) (ts : Toks) → j ≤ k → Above k ts → Above j ts
unfolding Above
above_less j k (stop n p) h a = tt
above_less j k (tok t ts) h a = (omega (arith, a.0), above_less j k ts h a.1)

lex_rises : (m : Mode) (p : ℕ) (s : List ℕ) → Above p (lex m p s) × Rising (lex m p s)
unfolding lex ended done Above Rising
lex_rises plain p [] = (tt, tt)
lex_rises inword p [] = (tt, tt)
lex_rises line p [] = (tt, tt)
lex_rises closing p [] = (tt, tt)
lex_rises (opened q) p [] = (tt, tt)
lex_rises (block q) p [] = (tt, tt)
lex_rises m p (b ∷ s) = by (act m p b s) (λ m'. lex_rises m' (suc p) s)
  where
    by : (a : Act) → ((m' : Mode) → Above (suc p) (lex m' (suc p) s) × Rising (lex m' (suc p) s))
        → Above p (done a p (λ m'. lex m' (suc p) s)) × Rising (done a p (λ m'. lex m' (suc p) s))
    by (go m') ih = (above_less p (suc p) (lex m' (suc p) s) (omega arith) (ih m').0, (ih m').1)
    by (token w m') ih = ((omega arith, above_less p (suc p) (lex m' (suc p) s) (omega arith) (ih m').0), ih m')
    by bad ih = (tt, tt)

above_rest : (k : ℕ) {us ts : Toks} → Rest us ts → Above k ts → Above k us
unfolding Above
above_rest k all a = a
above_rest k (behind r) a = above_rest k r a.1

rising_rest : {us ts : Toks} → Rest us ts → Rising ts → Rising us
unfolding Rising
rising_rest all a = a
rising_rest (behind r) a = rising_rest r a.1

-- ---- the token before a name is found

-- the first token stands before a later one
not_first : {ts : Toks} {P n : Tok} {vs : Toks} → Rest (tok P (tok n vs)) ts → Rising ts → stands_at n.at ts ≡ false
unfolding stands_at Rising Above
not_first {ts} {P} {n} all r = ne_eqb P.at n.at (λ e. omega (arith, r.0.0))
not_first {ts} {P} {n} (behind {t} s) r =
    let a = above_rest (suc t.at) s r.0 in
    ne_eqb t.at n.at (λ e. omega (arith, a.1.0))

key_found : {ts : Toks} {P n : Tok} {vs : Toks} → Rest (tok P (tok n vs)) ts → Rising ts → keyword_before ts n.at ≡ (P.at, tok n vs)
unfolding keyword_before stands_at Rising
key_found {ts} {P} {n} all r = rw (eq-eqb n.at n.at refl, keyword_before)
key_found {ts} {P} {n} (behind {t} s) r = rw (not_first s r.1, keyword_before) (key_found s r.1)

-- ---- the blocks of patterns

abbrev opening : ℕ → Tok → ℕ → Toks → Toks
opening k t b inside = tok (record { at = k; word = bytes "Pattern" }) (tok t (tok (record { at = b; word = bytes "{" }) inside))

-- they stand in ts one behind the other, and us behind the last
unfoldable Spans : Toks → Decls → Toks → Type 0
Spans ts [] us = Rest us ts
Spans ts (x ∷ xs) us = (k : ℕ) × (b : ℕ) × Rest (opening k x.0 b x.1.from) ts × Spans x.1.from xs us

spans_more : (ts : Toks) (l : Decls) {us vs : Toks} (x : Tok × Decl) (k b : ℕ) → Spans ts l us → Rest (opening k x.0 b x.1.from) us → Rest vs x.1.from → Spans ts (l ++ x ∷ []) vs
unfolding Spans
spans_more ts [] x k b s r q = (k, b, rest_rest r s, q)
spans_more ts (y ∷ l) x k b s r q = (s.0, s.1, s.2, spans_more y.1.from l x k b s.3 r q)

pattern_spans : (e : Env) (b : Tok) (ts : Toks) (l : Decls) (us : Toks) → Spans ts l us → Leads (pattern e b l) us (Spans ts)
pattern_spans e b ts l us s = record {
  all = λ m vs q. (
      let i = (one_pattern e b l us).all m vs q in
      let x = i.3 in
      let p = (due_is (bytes "Pattern") us).all i.0 i.1 i.2 in
      let n = (new_is _ i.1).all _ _ x.named in
      let o : us ≡ opening i.0 x.name x.brace x.body.from = p ∙ ap (tok (record { at = i.0; word = bytes "Pattern" })) n in
      rw x.is (spans_more ts l (x.name, x.body) i.0 x.brace s (subst (Rest (opening i.0 x.name x.brace x.body.from)) (sym o) all) ((moves_leaves (moves_statements e _ _)).rest _ _ _ x.read)));
}

patterns_span : (e : Env) (b : Tok) (ts : Toks) → Leads (patterns e b) ts (Spans ts)
unfolding patterns Spans
patterns_span e b ts = leads_bind _ _ λ l us q. leads_while (Spans ts) (pattern e b) (pattern_spans e b ts) _ l us ((pattern_spans e b ts [] ts all).all l us q)

-- whatever is read before them, they stand in the text
patterns_at : (ts : Toks) (d : Read) (us : Toks) (p : Parts ts d us) → Rest p.patterns_at ts
patterns_at ts d us p =
    let a : Rest p.signals_at ts = (moves_leaves opening_moves).rest _ _ _ p.opening_read in
    let b = rest_rest ((moves_leaves moves_signals).rest _ _ _ p.signals_read) a in
    let c = rest_rest ((leaves_option "SignalGroups" groups (λ ns. moves_leaves (moves_groups ns)) _).rest _ _ _ p.groups_read) b in
    let f = rest_rest ((moves_leaves (moves_timing _)).rest _ _ _ p.timing_read) c in
    let g = (leads_bodies (λ e vs. Rest vs ts) (λ e us vs r h. rest_rest r h)
    (λ e vs h. record { all = λ a us q. rest_rest ((moves_leaves (moves_macro e)).rest vs a us q) h })
    (λ e vs h. record { all = λ a us q. rest_rest ((moves_leaves (moves_procedure e)).rest vs a us q) h }) _ _ f).all _ _ p.bodies_read in
    rest_rest ((moves_leaves (moves_exec _)).rest _ _ _ p.exec_read) (rest_rest ((moves_leaves moves_burst).rest _ _ _ p.burst_read) g)

spans_rest : (l : Decls) {ts us : Toks} (vs : Toks) → Rest us ts → Spans us l vs → Spans ts l vs
unfolding Spans
spans_rest [] vs r s = rest_rest s r
spans_rest (x ∷ l) vs r s = (s.0, s.1, rest_rest s.2 r, s.3)

-- ---- and so each keyword opens its pattern

-- `Pattern NAME {` stands in a text, its first byte at k
pub record Opens (text : List ℕ) (k : ℕ) (name : List ℕ) : Type 0 where
  pub before : ℕ
  pub named : ℕ
  pub brace : ℕ
  pub inside : Toks
  pub opens : from_token before (toks text 0) ≡ opening k (record { at = named; word = name }) brace inside

from_rest : {us ts : Toks} → Rest us ts → (n : ℕ) × (from_token n ts ≡ us)
unfolding from_token
from_rest all = (0, refl)
from_rest (behind r) = let i = from_rest r in (suc i.0, i.1)

open_at : {text : List ℕ} {k b : ℕ} {t : Tok} {inside : Toks} → Rest (opening k t b inside) (toks text 0) → Opens text k t.word
open_at {text} {k} {b} {t} {inside} r = let i = from_rest r in record { before = i.0; named = t.at; brace = b; inside = inside; opens = i.1 }

-- of each of some blocks
unfoldable AllOpen : List ℕ → List (Tok × Block) → Type 0
AllOpen text [] = Unit {0}
AllOpen text (x ∷ xs) = Opens text x.1.keyword x.0.word × AllOpen text xs

all_open : (text : List ℕ) (l : Decls) (ts us : Toks) → Rest ts (toks text 0) → Rising ts → Spans ts l us → AllOpen text (blocks l (keywords ts (firsts l)))
unfolding AllOpen blocks keywords firsts Spans
all_open text [] ts us r h s = tt
all_open text (x ∷ l) ts us r h s =
    let k = key_found s.2 h in
    let next = tok x.0 (tok (record { at = s.1; word = bytes "{" }) x.1.from) in
    let rest : Rest next ts = rest_rest (behind all) s.2 in
    rw k (open_at (rest_rest s.2 r), all_open text l next us (rest_rest rest r) (rising_rest rest h) (spans_rest l us (behind (behind all)) s.3))

open_found : (text : List ℕ) (bs : List (Tok × Block)) → AllOpen text bs → (w : List ℕ) (b : Block) → find bs w ≡ some b → Opens text b.keyword w
unfolding AllOpen find
open_found text [] h w b e = let z : ◌≡◌ {A = ℕ} 0 1 = cc in absurd (omega arith)
open_found text (x ∷ bs) h w b e = by (same x.0.word w) refl e (open_found text bs h.1 w b)
  where
    by : (c : Bool) → same x.0.word w ≡ c → ◌≡◌ {A = Option Block} (elim c [ true ↦ some x.1 | false ↦ find bs w ]) (some b)
        → (find bs w ≡ some b → Opens text b.keyword w) → Opens text b.keyword w
    by true f e ih = let q : x.1 ≡ b = cc in subst (λ (v : List ℕ). Opens text b.keyword v) (same_eq x.0.word w f) (rw (← q) h.0)
    by false f e ih = ih e

-- of each line
unfoldable pub EachOpens : List ℕ → List Line → Type 0
EachOpens text [] = Unit {0}
EachOpens text (x ∷ xs) = Opens text x.keyword x.name × EachOpens text xs

lines_open : (text : List ℕ) (bs : List (Tok × Block)) → AllOpen text bs → (l : List Tok) (n : ℕ) → EachOpens text (lines_from n bs l)
unfolding lines_from line_of EachOpens
lines_open text bs h [] n = tt
lines_open text bs h (t ∷ l) n = by (find bs t.word) refl (lines_open text bs h l)
  where
    by : (o : Option Block) → find bs t.word ≡ o → ((n : ℕ) → EachOpens text (lines_from n bs l))
        → EachOpens text (elim o [ none ↦ [] | some b ↦ let x = line_of n t.word b in x ∷ lines_from (n + x.count) bs l ])
    by none e ih = tt
    by (some b) e ih = (open_found text bs h t.word b e, ih _)

-- THE LAW
pub keywords_open : (text : List ℕ) (m : Meaning) → meaning text ≡ given m → EachOpens text (index_of text m).patterns
unfolding index_of lines_of toks
keywords_open text m e =
    let a = accepted text m e in
    let p = (parts (toks text 0)).all a.doc a.rest a.read in
    let s = spans_rest a.doc.patterns a.rest (patterns_at _ _ _ p) ((patterns_span _ _ _).all _ _ p.patterns_read) in
    rw a.read (lines_open text _ (all_open text a.doc.patterns (toks text 0) _ all (lex_rises plain 0 _).1 s) a.doc.listed 0)
