-- The statements of a Pattern, as written, read back: the body that they stand for, but for the places of its V's.
use Prim.Native.Nat.{ℕ, suc, ◌≤◌}
use Prim.Native.String.{String}
use native.Mathlib.Omega.{arith}
use mathlib.Core.Path.{◌≡◌, refl, ap, ap₂, ◌∙◌}
use mathlib.Core.Bool.{Bool, true, false, not, ◌||◌, or-false}
use mathlib.Core.Option.{some}
use mathlib.Core.List.{List, [], ◌∷◌, ◌++◌}
use lib.Dec.{leb}
use borrow.Author.Tests.{lt-leb, le-leb}
use Rattle.tokens.specs.Written.{bytes, same}
use Rattle.tokens.specs.Bytes.{between, blank, digit, letter, wordy}
use Rattle.tokens.specs.Tokens.{Tok, Toks}
use Rattle.meaning.specs.Bounds.{loop_most}
use Rattle.meaning.specs.Lists.{has, meets}
use Rattle.meaning.specs.Reader.{Res, Reader, one_of, choose, is_word}
use Rattle.meaning.specs.Names.{is_name}
use Rattle.meaning.specs.Timing.{Table, wave_char, all_chars}
use Rattle.meaning.specs.Body.{Assigns, choosing, looped, Body, done, vec, set', inner}
use Rattle.meaning.specs.Data.{chars_of, piece, part, data_read, paired, assigned, assign, assigns}
use Rattle.meaning.specs.Statements.{Env, numbered, Head, ends, vecs, sets, loops, chosen, looping, head, behind, statements}
use Rattle.meaning.proofs.Unplaced.{unplaced}
use Rattle.held.proofs.Rest.{moves_takes}
use Rattle.held.proofs.Grammar.{moves_part, moves_assign}
use Rattle.held.proofs.Turn.{onward, deeper, statements_onward, statements_turn}
use Rattle.folded.specs.Pieces.{Piece, each, only, word, closing, lf, space, semicolon}
use Rattle.folded.specs.Flat.{Line, chooses, repeats}
use Rattle.folded.specs.Layout.{name_at, value_put, vector_put, line_put}
use Rattle.pages.specs.Pages.{decimal}
use Rattle.folded.proofs.Words.{Proper, sign, words}
use Rattle.folded.proofs.Reading.{Reads, AllFit, Unlike, reads_bind, reads_by, reads_if, reads_give, reads_any, reads_due, reads_old, reads_number, reads_closed, reads_until, worded, find_in, find_worded}
use Rattle.folded.proofs.Leaves.{decimal_word, decimal_number}
use Rattle.folded.proofs.SignalsBack.{proper_word, no_sign}
use Rattle.folded.proofs.TimingBack.{char_wordy}

-- ---- choices

module _ {A : Type 0} {P : A → Type 0} {ws vs : List (List ℕ)} (x : String × (ℕ → Reader A)) (xs : List (String × (ℕ → Reader A))) (t : Tok) where
  -- this entry
  reads_this : same t.word (bytes x.0) ≡ true → Reads (x.1 t.at) ws vs P → Reads (one_of (x ∷ xs) t) ws vs P
  unfolding one_of
  reads_this e f = reads_by (λ ts. ap (λ (b : Bool). elim b as (λ c. Res A) [ true ↦ x.1 t.at ts | false ↦ one_of xs t ts ]) e) f

  -- one behind it
  reads_next : same t.word (bytes x.0) ≡ false → Reads (one_of xs t) ws vs P → Reads (one_of (x ∷ xs) t) ws vs P
  unfolding one_of
  reads_next e f = reads_by (λ ts. ap (λ (b : Bool). elim b as (λ c. Res A) [ true ↦ x.1 t.at ts | false ↦ one_of xs t ts ]) e) f

-- ---- NAME=CHARACTER;

a_word : (m : Bool) (t : Tok) (ts : Toks) → is_word t.word ≡ true → piece m t ts ≡ chars_of t ts
unfolding piece
a_word m t ts e = rw (e, piece)

reads_piece : (m : Bool) (t : Tok) (c : ℕ) (ws : List (List ℕ)) → t.word ≡ c ∷ [] → wave_char c ≡ true → Reads (piece m t) ws ws (λ ds. ds ≡ c ∷ [])
unfolding chars_of all_chars is_word
reads_piece m t c ws e h =
    reads_by (λ ts. a_word m t ts (ap is_word e ∙ char_wordy c h)) (reads_if _ _ _ _ (ap (λ (w : List ℕ). not (all_chars w)) e ∙ rw h) (reads_give ws t.word e))

-- a character alone
char_put : ℕ → List Piece → List Piece
char_put c k = word (c ∷ []) space ∷ k

reads_char : (m : Bool) (before : List ℕ) (c : ℕ) (cs : List ℕ) (k : List Piece) → wave_char c ≡ true → cs ≡ before → Reads (part m cs) (words (char_put c k)) (words k) (λ cs. cs ≡ before ++ c ∷ [])
unfolding part char_put words sign blank
reads_char m before c cs k h i = reads_bind (reads_any (c ∷ []) _) λ t e. reads_bind (reads_piece m t c _ e h) λ ds q. reads_give _ _ (rw (i, q))

char_begins : (before : List ℕ) (c : ℕ) (k : List Piece) → wave_char c ≡ true → Unlike (bytes ";") (words (char_put c k))
unfolding char_put words bytes wordy letter digit between
char_begins before c k h = no_sign (c ∷ []) 59 (char_wordy c h, tt) refl

reads_data : (m : Bool) (c : ℕ) (k : List Piece) → wave_char c ≡ true → Reads (data_read m) ((c ∷ []) ∷ bytes ";" ∷ words k) (words k) (λ d. d.0 ≡ c ∷ [])
unfolding data_read words char_put each sign blank bytes
reads_data m c k h =
    reads_closed char_put ";" (part m) (λ cs. moves_takes (moves_part m cs)) (λ before cs. cs ≡ before) (λ before c. wave_char c ≡ true) char_begins (reads_char m)
    (c ∷ []) [] [] (only semicolon ∷ k) (words k) (h, tt) refl refl

-- what is read of a Pattern's statements
unfoldable pub body_of : List Line → Body
body_of [] = done
body_of (chooses k ∷ ls) = set' (choosing k) (body_of ls)
body_of (repeats n xs ∷ ls) = elim (leb 2 n) [ true ↦ inner (looped n) (vec 0 xs done) (body_of ls) | false ↦ vec 0 xs (body_of ls) ]

-- the number of each name
unfoldable pub numbered_in : {A : Type 0} → ℕ → List (List ℕ × A) → List (List ℕ × ℕ)
numbered_in n [] = []
numbered_in n (x ∷ xs) = (x.0, n) ∷ numbered_in (suc n) xs

numbered_worded : {A : Type 0} (n : ℕ) (xs : List (Tok × A)) → worded (numbered n xs) ≡ numbered_in n (worded xs)
unfolding worded numbered numbered_in
numbered_worded n [] = refl
numbered_worded n (x ∷ xs) = ap (λ (l : List (List ℕ × ℕ)). (x.0.word, n) ∷ l) (numbered_worded (suc n) xs)

-- over the names of signals and tables, and what they stand for
module _ (signals tables : List (List ℕ)) (names : List (List ℕ × List ℕ)) (sheets : List (List ℕ × Table)) where
  -- a value that may stand behind those before it
  pub record NewValue (before : Assigns) (x : ℕ × ℕ) : Type 0 where
    pub proper : Proper (name_at signals x.0)
    pub is_name_lem : is_name (name_at signals x.0) ≡ true
    pub known : find_in names (name_at signals x.0) ≡ some (x.0 ∷ [])
    pub free : has x.0 (assigned before) ≡ false
    pub char : wave_char x.1 ≡ true

  -- a statement that may stand in a Pattern
  abbrev pub GoodLine : Line → Type 0
  GoodLine (chooses k) = Proper (name_at tables k) × (is_name (name_at tables k) ≡ true) × (find_in (numbered_in 0 sheets) (name_at tables k) ≡ some k)
  GoodLine (repeats n xs) = (1 ≤ n) × (n ≤ loop_most) × AllFit NewValue [] xs

  abbrev pub GoodLines : List Line → Type 0
  GoodLines [] = Unit {0}
  GoodLines (x ∷ xs) = GoodLine x × GoodLines xs

  module _ (e : Env) (ns-are : worded e.names ≡ names) (ts-are : worded e.tables ≡ sheets) where
    reads_value : (m : Bool) (before : Assigns) (x : ℕ × ℕ) (xs : Assigns) (k : List Piece) → NewValue before x → xs ≡ before
        → Reads (assign e.names m xs) (words (value_put signals x k)) (words k) (λ xs. xs ≡ before ++ x ∷ [])
    unfolding assign value_put words sign blank bytes meets paired
    reads_value m before x xs k f i =
        let n = name_at signals x.0 in
        reads_bind (reads_old e.names n (x.0 ∷ []) _ (proper_word n f.proper) f.is_name_lem (find_worded e.names n ∙ ap (λ l. find_in l n) ns-are ∙ f.known)) λ y q.
        rw q.1 (reads_if _ _ _ _ (ap (λ l. has x.0 (assigned l) || false) i ∙ or-false _ ∙ f.free) (reads_bind (reads_due (bytes "=") _) λ p u.
        reads_bind (reads_data m x.1 k f.char) λ d j. rw j (reads_if _ _ _ _ refl (reads_give _ _ (rw i)))))

    value_begins : (before : Assigns) (x : ℕ × ℕ) (k : List Piece) → NewValue before x → Unlike (bytes "}") (words (value_put signals x k))
    unfolding value_put words bytes wordy letter digit between
    value_begins before x k f = no_sign (name_at signals x.0) 125 f.proper refl

    reads_assigns : (m : Bool) (xs : Assigns) (k : List Piece) → AllFit NewValue [] xs
        → Reads (assigns e.names m) (bytes "{" ∷ words (each (value_put signals) xs (only closing ∷ k))) (words k) (λ ys. ys ≡ xs)
    unfolding assigns words sign blank bytes
    reads_assigns m xs k f =
        reads_bind (reads_due (bytes "{") _) λ p u.
        reads_until (value_put signals) "}" (assign e.names m) (λ ys. moves_takes (moves_assign e.names m ys)) (λ before ys. ys ≡ before) NewValue value_begins (reads_value m)
        xs [] [] (only closing ∷ k) (words k) f refl refl

    -- ---- heads

    -- the head h, but for its place
    abbrev Vector : Assigns → Head → Type 0
    Vector xs h = (p : ℕ) × (h ≡ vecs p xs)

    module _ (d : ℕ) (seen : Bool) where
      reads_vector : (xs : Assigns) (k : List Piece) → AllFit NewValue [] xs → Reads (head e false d seen) (words (vector_put signals xs k)) (words k) (Vector xs)
      unfolding head choose vector_put words sign blank bytes same
      reads_vector xs k f =
          reads_bind (reads_any (bytes "V") _) λ t q. reads_this _ _ t (rw q) (reads_bind (reads_assigns false xs k f) λ a i. reads_give _ _ (t.at, ap (vecs t.at) i))

      reads_choosing : (j : ℕ) (k : List Piece) → GoodLine (chooses j)
          → Reads (head e false d seen) (bytes "W" ∷ name_at tables j ∷ bytes ";" ∷ words k) (words k) (λ h. h ≡ sets (choosing j))
      unfolding head choose chosen bytes same
      reads_choosing j k f =
          let n = name_at tables j in
          let tabs = numbered 0 e.tables in
          reads_bind (reads_any (bytes "W") _) λ t q. reads_next _ _ t (rw q) (reads_next _ _ t (rw q) (reads_this _ _ t (rw q)
          (reads_bind (reads_old tabs n j _ (proper_word n f.0) f.1 (find_worded tabs n ∙ ap (λ l. find_in l n) (numbered_worded 0 e.tables ∙ ap (numbered_in 0) ts-are) ∙ f.2)) λ x i.
          reads_bind (reads_due (bytes ";") _) λ p u. reads_give _ _ (ap (λ (y : ℕ). sets (choosing y)) i.1))))

      reads_end : (ws : List (List ℕ)) → Reads (head e false d seen) (bytes "}" ∷ ws) ws (λ h. h ≡ ends)
      unfolding head choose bytes same
      reads_end ws =
          reads_bind (reads_any (bytes "}") _) λ t q.
          reads_next _ _ t (rw q) (reads_next _ _ t (rw q) (reads_next _ _ t (rw q) (reads_next _ _ t (rw q) (reads_next _ _ t (rw q) (reads_next _ _ t (rw q) (reads_next _ _ t (rw q) (reads_next _ _ t (rw q)
          (reads_this _ _ t (rw q) (reads_give _ _ refl)))))))))

    reads_loop : (d : ℕ) (seen : Bool) (n : ℕ) (ws : List (List ℕ)) → 1 ≤ n → n ≤ loop_most
        → Reads (head e false (suc d) seen) (bytes "Loop" ∷ decimal n ∷ bytes "{" ∷ ws) ws (λ h. h ≡ loops n)
    unfolding head choose looping bytes same
    reads_loop d seen n ws h k =
        reads_bind (reads_any (bytes "Loop") _) λ t q. reads_next _ _ t (rw q) (reads_next _ _ t (rw q) (reads_next _ _ t (rw q) (reads_this _ _ t (rw q)
        (reads_if _ _ _ _ (lt-leb (suc d) 0 (omega arith)) (reads_bind (reads_number 1 loop_most n (decimal n) _ (decimal_word n) (decimal_number n (omega arith)) (rw (le-leb 1 n h, le-leb n loop_most k))) λ m i.
        reads_bind (reads_due (bytes "{") _) λ p u. reads_give _ _ (ap loops i))))))

    -- ---- statements

    abbrev on : ℕ → Bool → Reader Body
    on d = onward e false d (deeper e d)

    reads_done : (d : ℕ) (seen : Bool) (ws : List (List ℕ)) → Reads (on d seen) (bytes "}" ∷ ws) ws (λ b. unplaced b ≡ done)
    unfolding behind unplaced
    reads_done d seen ws = reads_by (statements_turn e d false seen) (reads_bind (reads_end d seen ws) λ h q. rw q (reads_give ws done refl))

    module _ (d : ℕ) (seen : Bool) (rest : Body) {ws vs : List (List ℕ)} (f : Reads (on d seen) ws vs (λ b. unplaced b ≡ rest)) where
      behind_vector : (xs : Assigns) (h : Head) → Vector xs h → Reads (behind e.names (deeper e d) (on d) seen h) ws vs (λ b. unplaced b ≡ vec 0 xs rest)
      unfolding behind unplaced
      behind_vector xs h q = rw q.1 (reads_bind f λ r i. reads_give vs _ (ap (vec 0 xs) i))

      behind_choosing : (j : ℕ) (h : Head) → h ≡ sets (choosing j) → Reads (behind e.names (deeper e d) (on d) seen h) ws vs (λ b. unplaced b ≡ set' (choosing j) rest)
      unfolding behind unplaced
      behind_choosing j h q = rw q (reads_bind f λ r i. reads_give vs _ (ap (set' (choosing j)) i))

      behind_loop : (n : ℕ) (b : Body) (us : List (List ℕ)) (h : Head) → h ≡ loops n → Reads (deeper e d) us ws (λ c. unplaced c ≡ b)
          → Reads (behind e.names (deeper e d) (on d) seen h) us vs (λ c. unplaced c ≡ inner (looped n) b rest)
      unfolding behind unplaced
      behind_loop n b us h q g = rw q (reads_bind g λ c j. reads_bind f λ r i. reads_give vs _ (ap₂ (inner (looped n)) j i))

    one_deeper : (d : ℕ) (ts : Toks) → deeper e (suc d) ts ≡ statements e d false ts
    unfolding deeper
    one_deeper d ts = refl

    -- one V alone
    reads_alone : (d : ℕ) (xs : Assigns) (k : List Piece) → AllFit NewValue [] xs
        → Reads (statements e d false) (words (vector_put signals xs (only closing ∷ k))) (words k) (λ b. unplaced b ≡ vec 0 xs done)
    unfolding words sign blank bytes
    reads_alone d xs k f =
        reads_by (λ ts. statements_onward e d false ts ∙ statements_turn e d false false ts)
        (reads_bind (reads_vector d false xs (only closing ∷ k) f) λ h q. behind_vector d false done (reads_done d false (words k)) xs h q)

    reads_lines : (d : ℕ) (ls : List Line) (k : List Piece) → GoodLines ls
        → Reads (on (suc d) false) (words (each (line_put signals tables) ls (only closing ∷ k))) (words k) (λ b. unplaced b ≡ body_of ls)
    unfolding each line_put body_of words sign blank bytes
    reads_lines d [] k f = reads_done (suc d) false (words k)
    reads_lines d (chooses j ∷ ls) k f =
        reads_by (statements_turn e (suc d) false false)
        (reads_bind (reads_choosing (suc d) false j (each (line_put signals tables) ls (only closing ∷ k)) f.0) λ h q. behind_choosing (suc d) false (body_of ls) (reads_lines d ls k f.1) j h q)
    reads_lines d (repeats n xs ∷ ls) k f = by (leb 2 n) (reads_lines d ls k f.1)
      where
        more : List Piece
        more = each (line_put signals tables) ls (only closing ∷ k)

        by : (b : Bool) → Reads (on (suc d) false) (words more) (words k) (λ b. unplaced b ≡ body_of ls)
            → Reads (on (suc d) false)
            (words (elim b [ true ↦ word (bytes "Loop") space ∷ word (decimal n) 123 ∷ vector_put signals xs (only closing ∷ only lf ∷ more) | false ↦ vector_put signals xs (only lf ∷ more) ]))
            (words k) (λ c. unplaced c ≡ elim b [ true ↦ inner (looped n) (vec 0 xs done) (body_of ls) | false ↦ vec 0 xs (body_of ls) ])
        by true ih =
            reads_by (statements_turn e (suc d) false false)
            (reads_bind (reads_loop d false n _ f.0.0 f.0.1) λ h q.
            behind_loop (suc d) false (body_of ls) ih n (vec 0 xs done) _ h q (reads_by (λ ts. one_deeper d ts) (reads_alone d xs (only lf ∷ more) f.0.2)))
        by false ih =
            reads_by (statements_turn e (suc d) false false)
            (reads_bind (reads_vector (suc d) false xs (only lf ∷ more) f.0.2) λ h q. behind_vector (suc d) false (body_of ls) ih xs h q)

    -- THE LAW
    pub reads_statements : (d : ℕ) (ls : List Line) (k : List Piece) → GoodLines ls
        → Reads (statements e (suc d) false) (words (each (line_put signals tables) ls (only closing ∷ k))) (words k) (λ b. unplaced b ≡ body_of ls)
    reads_statements d ls k f = reads_by (statements_onward e (suc d) false) (reads_lines d ls k f)
