-- No index has more than 1,357 bytes: names, numbers and counts are bounded by what a text may have.
use Prim.Native.Nat.{ℕ, zero, suc, ◌+◌, ◌*◌, ◌/◌, ◌%◌, ◌^◌, ◌≤◌, ◌<◌}
use native.Mathlib.Nat.{pow-succ'}
use native.Mathlib.Omega.{arith}
use mathlib.Core.Path.{◌≡◌, refl, sym, ap, subst}
use mathlib.Core.Bool.{Bool, true, false}
use mathlib.Core.Option.{Option, none, some}
use mathlib.Core.List.{List, [], ◌∷◌, ◌++◌}
use lib.Dec.{leb, ltb}
use lib.ListN.{length, drop, get_or, length-append}
use lib.Seq.{get_or-drop}
use borrow.Author.Tests.{leb-true, leb-false, ltb-false}
use Rattle.tokens.specs.Written.{bytes, same}
use Rattle.tokens.specs.Refusals.{text_most, too_long}
use Rattle.tokens.specs.Tokens.{Tok, Toks, stop, tok, Mode, plain, inword, line, closing, opened, block, Act, go, token, bad, act, ended, done, lex, toks, fault_in, fault_of}
use Rattle.tokens.proofs.Bools.{both}
use Rattle.meaning.specs.Bounds.{name_most, tables_most, list_most, size_most, cycles_most}
use Rattle.meaning.specs.Signals.{Names}
use Rattle.meaning.specs.Timing.{Tables, table, timing}
use Rattle.meaning.specs.Names.{find}
use Rattle.meaning.specs.Body.{Body}
use Rattle.meaning.specs.Run.{size, cycles}
use Rattle.meaning.specs.Statements.{Decls}
use Rattle.meaning.specs.Document.{list_entry, burst, document}
use Rattle.meaning.specs.Meaning.{given, run_of, firsts, fitting, Meaning, meaning}
use Rattle.meaning.proofs.Gives.{Gives, gives_bind, gives_after, gives_give, gives_if, gives_until}
use Rattle.meaning.proofs.Accepted.{accepted}
use Rattle.meaning.proofs.Listed.{length_firsts}
use Rattle.held.proofs.Parts.{parts}
use Rattle.pages.specs.Pages.{digits, decimal, digits_most}
use Rattle.sections.specs.Listing.{counted_of, lines, Short}
use Rattle.index.specs.Index.{stands_at, keyword_before, keywords, Block, blocks, Line, line_of, lines_from, lines_of, Index, index_of, line_written, lines_written, written}
use Rattle.index.proofs.Names.{tables_few, listed_few}
use Rattle.index.proofs.Left.{first_listed, block_of}
use Rattle.index.proofs.Counts.{as_many}

-- ---- digits

digits_few : (f k n : ℕ) (acc : List ℕ) → n < 10 ^ suc k → length (digits f n acc) ≤ suc k + length acc
unfolding digits
digits_few zero k n acc h = omega arith
digits_few (suc f) k n acc h = by (ltb n 10) refl k h (λ k. digits_few f k (n / 10) ((48 + n % 10) ∷ acc))
  where
    by : (t : Bool) → ltb n 10 ≡ t → (k : ℕ) → n < 10 ^ suc k
        → ((k : ℕ) → n / 10 < 10 ^ suc k → length (digits f (n / 10) ((48 + n % 10) ∷ acc)) ≤ suc k + length ((48 + n % 10) ∷ acc))
        → length {A = ℕ} (elim t [ true ↦ (48 + n) ∷ acc | false ↦ digits f (n / 10) ((48 + n % 10) ∷ acc) ]) ≤ suc k + length acc
    by true e k h ih = omega arith
    by false e zero h ih = absurd (omega (arith, ltb-false n 10 e))
    by false e (suc k) h ih = omega (arith, ih k (omega (arith, pow-succ' 10 (suc k))))

decimal_few : (k n : ℕ) → n < 10 ^ suc k → length (decimal n) ≤ suc k
unfolding decimal
decimal_few k n h = omega (arith, digits_few digits_most k n [] h)

-- ---- how many are listed, and how many tables there are

entry_counted : (l : List Tok) → length l ≤ list_most → Gives (λ (x : List Tok). length x ≤ list_most) (list_entry l)
unfolding list_entry
entry_counted l h =
    let P : List Tok → Type 0 = λ x. length x ≤ list_most in
    gives_after P _ _ λ t. gives_bind (λ u. leb list_most (length l) ≡ false) P _ _ (gives_if _ _ _) λ u e. gives_after P _ _ λ v.
    gives_give P _ (omega (arith, leb-false list_most (length l) e, length-append l (t ∷ [])))

listed_counted : Gives (λ (x : Tok × List Tok). length x.1 ≤ list_most) burst
unfolding burst
listed_counted =
    let P : Tok × List Tok → Type 0 = λ x. length x.1 ≤ list_most in
    gives_after P _ _ λ a. gives_after P _ _ λ t. gives_after P _ _ λ b. gives_after P _ _ λ c. gives_after P _ _ λ d.
    gives_bind (λ (l : List Tok). length l ≤ list_most) P _ _ (gives_until (λ (l : List Tok). length l ≤ list_most) _ _ entry_counted [] (omega arith)) λ l h. gives_after P _ _ λ e. gives_give P _ h

abbrev FewTables : Tables → Type 0
FewTables tabs = length tabs ≤ tables_most

table_counted : (ns : Names) (tabs : Tables) → FewTables tabs → Gives FewTables (table ns tabs)
unfolding table
table_counted ns tabs h =
    gives_after FewTables _ _ λ p. gives_bind (λ u. leb tables_most (length tabs) ≡ false) FewTables _ _ (gives_if _ _ _) λ u q. gives_after FewTables _ _ λ t.
    gives_after FewTables _ _ λ a. gives_after FewTables _ _ λ b. gives_after FewTables _ _ λ n. gives_after FewTables _ _ λ c. gives_after FewTables _ _ λ d.
    gives_after FewTables _ _ λ e. gives_after FewTables _ _ λ ws. gives_after FewTables _ _ λ f.
    gives_give FewTables _ (omega (arith, leb-false tables_most (length tabs) q, length-append tabs ((t, record { period = n; waves = ws }) ∷ [])))

tables_counted : (ns : Names) → Gives FewTables (timing ns)
unfolding timing
tables_counted ns =
    gives_after FewTables _ _ λ a. gives_after FewTables _ _ λ b. gives_bind FewTables FewTables _ _ (table_counted ns [] (omega arith)) λ tabs h.
    gives_until FewTables _ _ (table_counted ns) tabs h

-- ---- the places of keywords

-- every token stands before k
unfoldable Below : ℕ → Toks → Type 0
Below k (stop n p) = Unit {0}
Below k (tok t ts) = (t.at < k) × Below k ts

lex_below : (k : ℕ) (m : Mode) (p : ℕ) (s : List ℕ) → p + length s ≤ k → Below k (lex m p s)
unfolding lex ended done Below
lex_below k plain p [] h = tt
lex_below k inword p [] h = tt
lex_below k line p [] h = tt
lex_below k closing p [] h = tt
lex_below k (opened q) p [] h = tt
lex_below k (block q) p [] h = tt
lex_below k m p (b ∷ s) h = by (act m p b s) (λ m'. lex_below k m' (suc p) s (omega arith))
  where
    by : (a : Act) → ((m' : Mode) → Below k (lex m' (suc p) s)) → Below k (done a p (λ m'. lex m' (suc p) s))
    by (go m') ih = ih m'
    by (token w m') ih = (omega arith, ih m')
    by bad ih = tt

keyword_below : (k : ℕ) → 0 < k → (ts : Toks) (p : ℕ) → Below k ts → ((keyword_before ts p).0 < k) × Below k (keyword_before ts p).1
unfolding keyword_before Below
keyword_below k z (stop n q) p h = (z, tt)
keyword_below k z (tok t ts) p h = by (stands_at p ts) (keyword_below k z ts p h.1)
  where
    by : (b : Bool) → ((keyword_before ts p).0 < k) × Below k (keyword_before ts p).1
        → ((elim b as (λ _. ℕ × Toks) [ true ↦ (t.at, ts) | false ↦ keyword_before ts p ]).0 < k) × Below k (elim b as (λ _. ℕ × Toks) [ true ↦ (t.at, ts) | false ↦ keyword_before ts p ]).1
    by true ih = h
    by false ih = ih

keywords_below : (k : ℕ) → 0 < k → (l : List Tok) (ts : Toks) → Below k ts → (i : ℕ) → get_or (keywords ts l) i 0 < k
unfolding keywords
keywords_below k z [] ts h i = z
keywords_below k z (t ∷ l) ts h zero = (keyword_below k z ts t.at h).0
keywords_below k z (t ∷ l) ts h (suc i) = keywords_below k z l (keyword_before ts t.at).1 (keyword_below k z ts t.at h).1 i

-- and of blocks
unfoldable AllBelow : ℕ → List (Tok × Block) → Type 0
AllBelow k [] = Unit {0}
AllBelow k (x ∷ xs) = (x.1.keyword < k) × AllBelow k xs

blocks_below : (k : ℕ) (ps : Decls) (ks : List ℕ) → ((i : ℕ) → get_or ks i 0 < k) → AllBelow k (blocks ps ks)
unfolding blocks AllBelow
blocks_below k [] ks h = tt
blocks_below k (x ∷ ps) ks h = (h 0, blocks_below k ps (drop 1 ks) λ i. rw (get_or-drop 1 ks i 0) (h (1 + i)))

found_below : (k : ℕ) (bs : List (Tok × Block)) → AllBelow k bs → (w : List ℕ) (b : Block) → find bs w ≡ some b → b.keyword < k
unfolding AllBelow find
found_below k [] h w b e = let z : ◌≡◌ {A = ℕ} 0 1 = cc in absurd (omega arith)
found_below k (x ∷ bs) h w b e = by (same x.0.word w) e (found_below k bs h.1 w b)
  where
    by : (c : Bool) → ◌≡◌ {A = Option Block} (elim c [ true ↦ some x.1 | false ↦ find bs w ]) (some b) → (find bs w ≡ some b → b.keyword < k) → b.keyword < k
    by true e ih = let q : x.1 ≡ b = cc in rw (← q) h.0
    by false e ih = ih e

-- ---- lines

-- a name, three numbers with a blank before each, and LF
abbrev line_long : ℕ
line_long = name_most + (1 + 13) + (1 + 13) + (1 + 5) + 1

pub line_short : (x : Line) → length x.name ≤ name_most → x.first ≤ cycles_most → x.count ≤ cycles_most → x.keyword < text_most → length (line_written x) ≤ line_long
unfolding line_written
line_short x w f c k =
    let a = decimal_few 12 x.first (omega arith) in
    let b = decimal_few 12 x.count (omega arith) in
    let d = decimal_few 4 x.keyword (omega arith) in
    rw (length-append, length-append, length-append, length-append) (omega arith)

lines_few : (ps : Decls) (ks : List ℕ) → AllBelow text_most (blocks ps ks) → (l : List Tok) → Short l → (run : Body) → run_of ps l ≡ given run
    → (n : ℕ) → n + cycles 0 run ≤ cycles_most → length (lines_written (lines_from n (blocks ps ks) l)) ≤ length l * line_long
unfolding lines_from lines_written line_of Short
lines_few ps ks h [] s run e n f = omega arith
lines_few ps ks h (t ∷ l) s run e n f =
    let i = first_listed ps t l run e in
    let b = block_of ps ks t.word i.decl i.found in
    let x : Line = line_of n t.word (record { body = i.decl.body; keyword = b.0 }) in
    let one = line_short x s.0 (omega arith) (omega (arith, i.cycles_are)) (found_below text_most _ h t.word _ b.1) in
    let more = lines_few ps ks h l s.1 i.rest i.rest_is (n + x.count) (omega (arith, i.cycles_are)) in
    rw (b.1, lines_from) (rw (length-append (line_written x)) (omega (arith, one, more)))

names_few : (ts : List Tok) → Short ts → length (lines ts) ≤ length ts * suc name_most
unfolding lines Short
names_few [] s = omega arith
names_few (t ∷ ts) s = rw (length-append (t.word ++ 10 ∷ []), length-append t.word) (omega (arith, s.0, names_few ts s.1))

counted_few : (w : List ℕ) (k n : ℕ) → n < 10 ^ suc k → length (counted_of w n) ≤ length w + suc k + 2
unfolding counted_of
counted_few w k n h = rw (length-append, length-append) (omega (arith, decimal_few k n h))

-- ---- THE BOUND

text_fits : (text : List ℕ) → fault_of text ≡ none → length text ≤ text_most
unfolding fault_of
text_fits text e = by (leb (length text) text_most) refl e
  where
    by : (b : Bool) → leb (length text) text_most ≡ b → ◌≡◌ {A = Option (ℕ × ℕ)} (elim b [ true ↦ fault_in (toks text 0) | false ↦ some (too_long, 0) ]) none → length text ≤ text_most
    by true f e = leb-true (length text) text_most f
    by false f e = let z : ◌≡◌ {A = ℕ} 0 1 = cc in absurd (omega arith)

tokens_below : (text : List ℕ) → length text ≤ text_most → Below text_most (toks text 0)
unfolding toks
tokens_below text h = lex_below text_most plain 0 (drop 0 text) (omega arith)

same_index : {p q : List Line} {t u : List Tok} → p ≡ q → t ≡ u → ◌≡◌ {A = Index} (record { patterns = p; tables = t }) (record { patterns = q; tables = u })
same_index e f = cc

abbrev pub longest : ℕ
longest = 1_357

pub index_short : (text : List ℕ) (m : Meaning) → meaning text ≡ given m → length (written (index_of text m)) ≤ longest
unfolding written index_of lines_of fitting bytes
index_short text m e =
    let a = accepted text m e in
    let p = (parts (toks text 0)).all a.doc a.rest a.read in
    let ks = keywords (toks text 0) (firsts a.doc.patterns) in
    let low : Below text_most (toks text 0) = tokens_below text (text_fits text a.clean) in
    let keys = blocks_below text_most a.doc.patterns ks (keywords_below text_most (omega arith) (firsts a.doc.patterns) (toks text 0) low) in
    let fits = leb-true (cycles 0 m.run) cycles_most (both (leb (size m.run) size_most) (leb (cycles 0 m.run) cycles_most) a.fits).1 in
    let listed = listed_counted.all _ _ _ p.burst_read in
    let tables = (tables_counted _).all _ _ _ p.timing_read in
    let xs = lines_from 0 (blocks a.doc.patterns ks) a.doc.listed in
    let many : length xs ≡ length a.doc.listed = as_many a.doc.patterns ks a.doc.listed m.run a.run 0 in
    let long = lines_few a.doc.patterns ks keys a.doc.listed (listed_few.all _ _ _ p.burst_read) m.run a.run 0 (omega arith) in
    let named = names_few (firsts a.doc.tables) ((tables_few _).all _ _ _ p.timing_read) in
    let n = length_firsts a.doc.tables in
    let c = counted_few (bytes "PATTERNS") 1 (length xs) (omega arith) in
    let d = counted_few (bytes "TABLES") 0 (length (firsts a.doc.tables)) (omega arith) in
    let is : lines_of (toks text 0) (document (toks text 0)) ≡ xs = rw a.read in
    subst (λ (x : Index). length (written x) ≤ longest) (sym (same_index is (ap firsts (sym a.tables))))
    (rw (length-append, length-append, length-append) (omega arith))
