-- The run of a folded text that was read: the Patterns that were written, one after the other, but for places; and the cycles without places.
use Prim.Native.Nat.{ℕ, suc, ◌+◌, ◌<◌, ◌^◌}
use native.Mathlib.Omega.{arith}
use mathlib.Core.Path.{◌≡◌, refl, sym, ap, ap₂, ◌∙◌, subst}
use mathlib.Core.Bool.{Bool, true, false}
use mathlib.Core.Option.{Option, none, some}
use mathlib.Core.List.{List, [], ◌∷◌, ◌++◌}
use lib.ListN.{length}
use Rattle.tokens.specs.Written.{same}
use Rattle.tokens.specs.Tokens.{Tok}
use Rattle.meaning.specs.Refusals.{not_defined}
use Rattle.meaning.specs.Names.{find}
use Rattle.meaning.specs.Body.{listed, entered, Body, done, vec, set', inner}
use Rattle.meaning.specs.Statements.{Decl, Decls}
use Rattle.meaning.specs.Run.{Cycle, size, cycle_at, start, cycles_of}
use Rattle.meaning.specs.Meaning.{Answer, given, refused, answering, run_of}
use Rattle.meaning.proofs.Unplaced.{unplaced, alike_play}
use Rattle.meaning.proofs.Others.{same_eq}
use Rattle.folded.specs.Flat.{Row, Line}
use Rattle.folded.specs.Layout.{pattern_name, names_from, named_from, or_one}
use Rattle.folded.specs.Same.{words_of, placeless}
use Rattle.words.proofs.Words.{same_self}
use Rattle.folded.proofs.Reading.{find_in}
use Rattle.folded.proofs.Leaves.{pattern_apart}
use Rattle.folded.proofs.StatementsBack.{body_of}
use Rattle.folded.proofs.PatternsBack.{bodied, bodies_of}
use Rattle.folded.proofs.PlayBack.{cycle_of, cycles_for, run_back}

-- ---- the names of Patterns find them

-- from number i on
unfoldable Finds : List (List ℕ × Body) → ℕ → List (List Line) → Type 0
Finds xs i [] = Unit {0}
Finds xs i (p ∷ ps) = (find_in xs (pattern_name i) ≡ some (body_of p)) × Finds xs (suc i) ps

pub other_name : (i j : ℕ) → i < j → j < 2 ^ 64 → same (pattern_name i) (pattern_name j) ≡ false
other_name i j h k = by (same (pattern_name i) (pattern_name j)) refl
  where
    by : (b : Bool) → same (pattern_name i) (pattern_name j) ≡ b → b ≡ false
    by true e = let z = pattern_apart i j (omega arith) k (same_eq _ _ e) in absurd (omega arith)
    by false e = refl

finds_behind : (k : ℕ) (b : Body) (xs : List (List ℕ × Body)) (i : ℕ) (ps : List (List Line)) → k < i → i + length ps < 2 ^ 64 → Finds xs i ps → Finds ((pattern_name k, b) ∷ xs) i ps
unfolding Finds find_in
finds_behind k b xs i [] h l f = tt
finds_behind k b xs i (p ∷ ps) h l f = (rw (other_name k i h (omega arith), find_in) f.0, finds_behind k b xs (suc i) ps (omega arith) (omega arith) f.1)

finds_all : (i : ℕ) (ps : List (List Line)) → i + length ps < 2 ^ 64 → Finds (bodies_of (named_from i ps)) i ps
unfolding Finds bodies_of named_from find_in
finds_all i [] l = tt
finds_all i (p ∷ ps) l = (rw (same_self (pattern_name i), find_in), finds_behind i (body_of p) (bodies_of (named_from (suc i) ps)) (suc i) ps (omega arith) (omega arith) (finds_all (suc i) ps (omega arith)))

-- ---- so they are the run

bodied_found : (ps : Decls) (w : List ℕ) (b : Body) → find_in (bodied ps) w ≡ some b → (d : Decl) × (find ps w ≡ some d) × (unplaced d.body ≡ b)
unfolding bodied find find_in
bodied_found [] w b h = absurd (let z : ◌≡◌ {A = ℕ} 0 1 = cc in omega arith)
bodied_found (x ∷ ps) w b h = by (same x.0.word w) refl h (bodied_found ps w b)
  where
    by : (c : Bool) → same x.0.word w ≡ c → ◌≡◌ {A = Option Body} (elim c [ true ↦ some (unplaced x.1.body) | false ↦ find_in (bodied ps) w ]) (some b)
        → (find_in (bodied ps) w ≡ some b → (d : Decl) × (find ps w ≡ some d) × (unplaced d.body ≡ b))
        → (d : Decl) × (◌≡◌ {A = Option Decl} (elim c [ true ↦ some x.1 | false ↦ find ps w ]) (some d)) × (unplaced d.body ≡ b)
    by true e h ih = (x.1, refl, let q : unplaced x.1.body ≡ b = cc in q)
    by false e h ih = ih h

pub record RunIs (ps : Decls) (l : List Tok) (ls : List (List Line)) : Type 0 where
  pub run : Body
  pub is : run_of ps l ≡ given run
  pub twins : unplaced run ≡ run_back ls

run_more : (ps : Decls) (t : Tok) (l : List Tok) (d : Decl) (r : Body) → find ps t.word ≡ some d → run_of ps l ≡ given r
    → run_of ps (t ∷ l) ≡ given (inner (entered listed 0 []) d.body r)
unfolding run_of answering
run_more ps t l d r e f =
    ap (λ (o : Option Decl). elim o as (λ x. Answer Body) [
      | none ↦ refused not_defined t.at
      | some d ↦ answering (run_of ps l) λ r. given (inner (entered listed 0 []) d.body r)
    ]) e
    ∙ ap (λ (a : Answer Body). answering a λ r. given (inner (entered listed 0 []) d.body r)) f

run_finds : (ps : Decls) (i : ℕ) (ls : List (List Line)) (l : List Tok) → words_of l ≡ names_from i (length ls) → Finds (bodied ps) i ls → RunIs ps l ls
unfolding Finds words_of names_from run_of answering run_back unplaced
run_finds ps i [] [] e f = record { run = done; is = refl; twins = refl }
run_finds ps i [] (t ∷ l) e f = absurd (let z : ◌≡◌ {A = ℕ} 0 1 = cc in omega arith)
run_finds ps i (p ∷ ls) [] e f = absurd (let z : ◌≡◌ {A = ℕ} 0 1 = cc in omega arith)
run_finds ps i (p ∷ ls) (t ∷ l) e f =
    let w : t.word ≡ pattern_name i = cc in
    let v : words_of l ≡ names_from (suc i) (length ls) = cc in
    let d = bodied_found ps (pattern_name i) (body_of p) f.0 in
    let r = run_finds ps (suc i) ls l v f.1 in
    record {
      run = inner (entered listed 0 []) d.0.body r.run;
      is = run_more ps t l d.0 r.run (ap (find ps) w ∙ d.1) r.is;
      twins = ap₂ (inner (entered listed 0 [])) d.2 r.twins;
    }

pub run_back_lem : (ps : Decls) (ls : List (List Line)) (l : List Tok) → bodied ps ≡ bodies_of (named_from 0 (or_one ls)) → words_of l ≡ names_from 0 (length ls) → length ls < 2 ^ 64 → RunIs ps l ls
unfolding or_one Finds
run_back_lem ps [] l e f k = run_finds ps 0 [] l f tt
run_back_lem ps (p ∷ ls) l e f k = run_finds ps 0 (p ∷ ls) l f (subst (λ xs. Finds xs 0 (p ∷ ls)) (sym e) (finds_all 0 (p ∷ ls) (omega arith)))

-- ---- cycles without the places of their V's

placeless-++ : (cs ds : List Cycle) → placeless (cs ++ ds) ≡ placeless cs ++ placeless ds
unfolding placeless
placeless-++ [] ds = refl
placeless-++ (c ∷ cs) ds = ap (λ (l : List Cycle). record { at = 0; table = c.table; pins = c.pins } ∷ l) (placeless-++ cs ds)

pub placeless_rows : (xs : List Row) → placeless (cycles_for xs) ≡ cycles_for xs
unfolding placeless cycles_for cycle_of
placeless_rows [] = refl
placeless_rows (x ∷ xs) = ap (λ (l : List Cycle). cycle_of x ∷ l) (placeless_rows xs)

placeless_joined : (a b c d : List Cycle) → placeless a ≡ placeless b → placeless c ≡ placeless d → placeless (a ++ c) ≡ placeless (b ++ d)
placeless_joined a b c d h k = placeless-++ a c ∙ ap₂ (λ (x y : List Cycle). x ++ y) h k ∙ sym (placeless-++ b d)

-- THE LAW
pub placeless_cycles : (n : ℕ) (b : Body) → placeless (cycles_of n (unplaced b)) ≡ placeless (cycles_of n b)
unfolding cycles_of placeless cycle_at
placeless_cycles n b = (alike_play placeless placeless_joined (λ p s. refl) 0 b (start n)).1

pub unplaced_size : (b : Body) → size (unplaced b) ≡ size b
unfolding unplaced size
unplaced_size done = refl
unplaced_size (vec p a r) = rw (unplaced_size r)
unplaced_size (set' x r) = rw (unplaced_size r)
unplaced_size (inner w b r) = rw (unplaced_size b, unplaced_size r)
