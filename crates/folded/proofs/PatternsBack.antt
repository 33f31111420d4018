-- Patterns, and with them a whole folded text, read back.
use Prim.Native.Nat.{ℕ, suc, ◌<◌}
use native.Mathlib.Omega.{arith}
use mathlib.Core.Path.{◌≡◌, refl, sym, ap, ◌∙◌}
use mathlib.Core.Bool.{Bool, true, false, not}
use mathlib.Core.Option.{Option, none, some}
use mathlib.Core.List.{List, [], ◌∷◌, ◌++◌}
use lib.ListN.{length}
use borrow.Author.Tests.{lt-leb}
use Rattle.tokens.specs.Written.{bytes, same}
use Rattle.tokens.specs.Bytes.{blank}
use Rattle.tokens.specs.Tokens.{Tok, Toks}
use Rattle.meaning.specs.Bounds.{depth_most, patterns_most}
use Rattle.meaning.specs.Reader.{◌>>=◌, give}
use Rattle.meaning.specs.Names.{is_name, find}
use Rattle.meaning.specs.Timing.{Table}
use Rattle.meaning.specs.Body.{Body}
use Rattle.meaning.specs.Statements.{Decl, Decls, Env, statements, declared}
use Rattle.meaning.specs.Document.{besides, pattern, over, patterns}
use Rattle.meaning.proofs.Unplaced.{unplaced}
use Rattle.held.proofs.Rest.{moves_takes}
use Rattle.held.proofs.Grammar.{moves_pattern}
use Rattle.folded.specs.Pieces.{Piece, each, only, lf}
use Rattle.folded.specs.Flat.{Line}
use Rattle.folded.specs.Layout.{burst_name, pattern_put}
use Rattle.folded.proofs.Words.{Before, Proper, sign, words}
use Rattle.folded.proofs.Reading.{Reads, AllFit, reads_bind, reads_if, reads_give, reads_due, reads_new, reads_while, worded, find_in}
use Rattle.folded.proofs.SignalsBack.{proper_word}
use Rattle.folded.proofs.StatementsBack.{body_of, GoodLines, reads_statements}

-- ---- declared bodies without places

unfoldable pub bodied : Decls → List (List ℕ × Body)
bodied [] = []
bodied (x ∷ xs) = (x.0.word, unplaced x.1.body) ∷ bodied xs

bodied_more : (xs : Decls) (x : Tok × Decl) → bodied (xs ++ x ∷ []) ≡ bodied xs ++ (x.0.word, unplaced x.1.body) ∷ []
unfolding bodied
bodied_more [] x = refl
bodied_more (y ∷ xs) x = rw (bodied_more xs x)

pub bodied_length : (xs : Decls) → length (bodied xs) ≡ length xs
unfolding bodied
bodied_length [] = refl
bodied_length (x ∷ xs) = ap suc (bodied_length xs)

-- a name that none of them has
none_bodied : (xs : Decls) (w : List ℕ) → find_in (bodied xs) w ≡ none → find xs w ≡ none
unfolding bodied find find_in
none_bodied [] w h = refl
none_bodied (x ∷ xs) w h = by (same x.0.word w) h (none_bodied xs w)
  where
    by : (c : Bool) → ◌≡◌ {A = Option Body} (elim c [ true ↦ some (unplaced x.1.body) | false ↦ find_in (bodied xs) w ]) none → (find_in (bodied xs) w ≡ none → find xs w ≡ none)
        → ◌≡◌ {A = Option Decl} (elim c [ true ↦ some x.1 | false ↦ find xs w ]) none
    by true h ih = absurd (let z : ◌≡◌ {A = ℕ} 0 1 = cc in omega arith)
    by false h ih = ih h

-- ---- Patterns

abbrev pub Named : Type 0
Named = List ℕ × List Line

unfoldable pub bodies_of : List Named → List (List ℕ × Body)
bodies_of [] = []
bodies_of (x ∷ xs) = (x.0, body_of x.1) ∷ bodies_of xs

pub bodies_of_more : (xs : List Named) (x : Named) → bodies_of (xs ++ x ∷ []) ≡ bodies_of xs ++ (x.0, body_of x.1) ∷ []
unfolding bodies_of
bodies_of_more [] x = refl
bodies_of_more (y ∷ xs) x = rw (bodies_of_more xs x)

bodies_of_length : (xs : List Named) → length (bodies_of xs) ≡ length xs
unfolding bodies_of
bodies_of_length [] = refl
bodies_of_length (x ∷ xs) = ap suc (bodies_of_length xs)

module _ (signals tables : List (List ℕ)) (names : List (List ℕ × List ℕ)) (sheets : List (List ℕ × Table)) where
  -- a Pattern that may stand behind those before it
  pub record NewPattern (before : List Named) (x : Named) : Type 0 where
    pub proper : Proper x.0
    pub is_name_lem : is_name x.0 ≡ true
    pub no_burst : same burst_name x.0 ≡ false
    pub new : find_in (bodies_of before) x.0 ≡ none
    pub few : length before < patterns_most
    pub lines : GoodLines signals tables names sheets x.1

  module _ (e : Env) (ns-are : worded e.names ≡ names) (ts-are : worded e.tables ≡ sheets) (b : Tok) (b-is : b.word ≡ burst_name) where
    new_name_lem : (ps : Decls) (w : List ℕ) → same burst_name w ≡ false → find_in (bodied ps) w ≡ none → find (besides b ps) w ≡ none
    unfolding besides find
    new_name_lem ps w h k = rw (b-is, h, find) (none_bodied ps w k)

    reads_declared : (ls : List Line) (k : List Piece) {ws : List (List ℕ)} → Reads (statements e depth_most false) ws (words k) (λ b. unplaced b ≡ body_of ls)
        → Reads (declared e false) ws (words k) (λ d. unplaced d.body ≡ body_of ls)
    unfolding declared
    reads_declared ls k {ws} f = record { all = λ ts us h. (read ts).all ts us h }
      where
        read : (ts : Toks) → Reads {A = Decl} (statements e depth_most false >>= λ b. give (record { body = b; from = ts })) ws (words k) (λ d. unplaced d.body ≡ body_of ls)
        read ts = reads_bind f λ b i. reads_give (words k) _ i

    reads_pattern : (before : List Named) (x : Named) (ps : Decls) (k : List Piece) → NewPattern before x → bodied ps ≡ bodies_of before
        → Reads (pattern e b ps) (words (pattern_put signals tables x k)) (words k) (λ ps. bodied ps ≡ bodies_of (before ++ x ∷ []))
    unfolding pattern pattern_put words sign blank bytes
    reads_pattern before x ps k f i =
        let long : length ps ≡ length before = sym (bodied_length ps) ∙ ap length i ∙ bodies_of_length before in
        reads_bind (reads_due (bytes "Pattern") _) λ p u. reads_if _ _ _ _ (lt-leb patterns_most (length ps) (omega (arith, f.few)))
        (reads_bind (reads_new (besides b ps) x.0 _ (proper_word x.0 f.proper) f.is_name_lem (new_name_lem ps x.0 f.no_burst (ap (λ l. find_in l x.0) i ∙ f.new))) λ t q.
        reads_bind (reads_due (bytes "{") _) λ p u.
        reads_bind (reads_declared x.1 (only lf ∷ k) (reads_statements signals tables names sheets e ns-are ts-are 7 x.1 (only lf ∷ k) f.lines)) λ d j.
        reads_give _ _ (rw (bodied_more ps (t, d), i, q, j, bodies_of_more before x)))

    more_left : (x : Named) (k : List Piece) (ts us : Toks) → Before (words (pattern_put signals tables x k)) ts us → not (over ts) ≡ true
    unfolding pattern_put words over
    more_left x k ts us h = ap (λ (l : Toks). not (over l)) h.2

    none_left : (ts us : Toks) → Before [] ts us → not (over ts) ≡ false
    none_left ts us h = ap (λ (l : Toks). not (over l)) h.0 ∙ ap not h.1

    -- THE LAW of Patterns
    pub reads_patterns : (x : Named) (xs : List Named) → AllFit NewPattern [] (x ∷ xs)
        → Reads (patterns e b) (words (each (pattern_put signals tables) (x ∷ xs) [])) [] (λ ps. bodied ps ≡ bodies_of (x ∷ xs))
    unfolding patterns each words bodied bodies_of
    reads_patterns x xs f =
        reads_bind (reads_pattern [] x [] (each (pattern_put signals tables) xs []) f.0 refl) λ ps i.
        reads_while (pattern_put signals tables) _ (pattern e b) (λ ps. moves_takes (moves_pattern e b ps)) (λ before ps. bodied ps ≡ bodies_of before) NewPattern
        (λ before x k ts us g h. more_left x k ts us h) reads_pattern xs (x ∷ []) ps [] f.1 i none_left
