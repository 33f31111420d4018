-- A folded text is read: its signals, tables, listed names and Patterns are those that were written.
use Prim.Native.Nat.{ℕ}
use mathlib.Core.Path.{◌≡◌, refl, ap, ◌∙◌}
use mathlib.Core.Bool.{Bool, true, false}
use mathlib.Core.List.{List, [], ◌∷◌}
use lib.ListN.{length}
use Rattle.tokens.specs.Written.{bytes, same}
use Rattle.tokens.specs.Bytes.{blank}
use Rattle.tokens.specs.Tokens.{Tok, Toks}
use Rattle.meaning.specs.Reader.{Res, ok, ◌>>=◌, option, ahead}
use Rattle.meaning.specs.Signals.{Names, signals}
use Rattle.meaning.specs.Timing.{Table, timing}
use Rattle.meaning.specs.Groups.{groups}
use Rattle.meaning.specs.Statements.{Env, for_patterns}
use Rattle.meaning.specs.Document.{macro_defs, procedures, bodies, patterns, Read, document, document_up_to}
use Rattle.meaning.proofs.Gives.{bind_go}
use Rattle.held.proofs.Parts.{first_env}
use Rattle.folded.specs.Pieces.{Piece, each}
use Rattle.folded.specs.Flat.{Sheet, Flat}
use Rattle.folded.specs.Layout.{burst_name, names_from, named_from, or_one, names_of, sheet_names, pattern_put, signals_put, timing_put, burst_put, exec_put, pieces}
use Rattle.folded.specs.Same.{words_of}
use Rattle.folded.proofs.Words.{sign, words}
use Rattle.folded.proofs.Reading.{Reads, AllFit, SomeFit, Unlike, not_ahead, skipped, reads_bind, reads_give, reads_due, reads_without, worded}
use Rattle.folded.proofs.SignalsBack.{Directed, singles, NewSignal, reads_signals}
use Rattle.folded.proofs.TimingBack.{tables_in, NewSheet, reads_timing}
use Rattle.folded.proofs.BurstBack.{NewListed, reads_burst, reads_exec}
use Rattle.folded.proofs.PatternsBack.{Named, bodied, bodies_of, NewPattern, reads_patterns}
use Rattle.folded.proofs.LabelsBack.{reads_once, fresh_all}

-- a flat text that a reader takes
pub record GoodFlat (f : Flat) : Type 0 where
  pub signals : SomeFit NewSignal f.signals
  pub tables : SomeFit (NewSheet (singles 0 f.signals)) f.tables
  pub listed : AllFit NewListed [] (names_from 0 (length f.patterns))
  pub patterns : SomeFit (NewPattern (names_of f.signals) (sheet_names f.tables) (singles 0 f.signals) (tables_in f.tables)) (named_from 0 (or_one f.patterns))

-- what is read of it
pub record ReadBack (f : Flat) (d : Read) : Type 0 where
  pub signals : worded d.signals ≡ singles 0 f.signals
  pub tables : worded d.tables ≡ tables_in f.tables
  pub listed : words_of d.listed ≡ names_from 0 (length f.patterns)
  pub patterns : bodied d.patterns ≡ bodies_of (named_from 0 (or_one f.patterns))

-- no macros, no procedures
no_bodies : (e : Env) (ts : Toks) → ahead "MacroDefs" ts ≡ false → ahead "Procedures" ts ≡ false → bodies e ts ≡ ok e ts
unfolding bodies
no_bodies e ts m p =
    ap (λ (b : Bool). elim b as (λ c. Res Env) [ true ↦ (macro_defs e >>= option "Procedures" procedures) ts | false ↦ (option "Procedures" procedures e >>= option "MacroDefs" macro_defs) ts ]) m
    ∙ bind_go _ _ ts e ts (skipped "Procedures" procedures e ts p) ∙ skipped "MacroDefs" macro_defs e ts m

reads_no_bodies : (e : Env) (ws : List (List ℕ)) → Unlike (bytes "MacroDefs") ws → Unlike (bytes "Procedures") ws → Reads (bodies e) ws ws (λ d. d ≡ e)
reads_no_bodies e ws m p = record { all = λ ts us h. (e, ts, no_bodies e ts (not_ahead _ ws ts us h m) (not_ahead _ ws ts us h p), h, refl) }

-- what stands behind each part
abbrev pub behind_exec : Flat → List Piece
behind_exec f = each (pattern_put (names_of f.signals) (sheet_names f.tables)) (named_from 0 (or_one f.patterns)) []

abbrev pub behind_timing : Flat → List Piece
behind_timing f = burst_put (names_from 0 (length f.patterns)) (exec_put (behind_exec f))

abbrev pub behind_signals : Flat → List Piece
behind_signals f = timing_put f.tables (behind_timing f)

-- the parts that have at least one of their kind
reads_some_signals : (xs : List Directed) (k : List Piece) → SomeFit NewSignal xs → Reads signals (words (signals_put xs k)) (words k) (λ ns. worded ns ≡ singles 0 xs)
reads_some_signals [] k f = absurd f
reads_some_signals (x ∷ xs) k f = reads_signals x xs k f

reads_some_tables : (names : List (List ℕ × List ℕ)) (ns : Names) → worded ns ≡ names → (xs : List Sheet) (k : List Piece) → SomeFit (NewSheet names) xs
    → Reads (timing ns) (words (timing_put xs k)) (words k) (λ tabs. worded tabs ≡ tables_in xs)
reads_some_tables names ns e [] k f = absurd f
reads_some_tables names ns e (x ∷ xs) k f = reads_timing names ns e x xs k f

reads_some_patterns : (signals tables : List (List ℕ)) (names : List (List ℕ × List ℕ)) (sheets : List (List ℕ × Table)) (e : Env) → worded e.names ≡ names → worded e.tables ≡ sheets
    → (b : Tok) → b.word ≡ burst_name → (xs : List Named) → SomeFit (NewPattern signals tables names sheets) xs
    → Reads (patterns e b) (words (each (pattern_put signals tables) xs [])) [] (λ ps. bodied ps ≡ bodies_of xs)
reads_some_patterns signals tables names sheets e n t b i [] f = absurd f
reads_some_patterns signals tables names sheets e n t b i (x ∷ xs) f = reads_patterns signals tables names sheets e n t b i x xs f

-- what stands first behind Signals, and behind Timing
no_groups : (xs : List Sheet) (k : List Piece) → Unlike (bytes "SignalGroups") (words (timing_put xs k))
unfolding timing_put words bytes same
no_groups xs k = refl

no_macros : (ns : List (List ℕ)) (k : List Piece) → Unlike (bytes "MacroDefs") (words (burst_put ns k)) × Unlike (bytes "Procedures") (words (burst_put ns k))
unfolding burst_put words bytes same
no_macros ns k = (refl, refl)

-- THE LAW
pub reads_document : (f : Flat) → GoodFlat f → Reads document (words (pieces f)) [] (ReadBack f)
unfolding document_up_to pieces words sign blank bytes
reads_document f g =
    let none = no_macros (names_from 0 (length f.patterns)) (exec_put (behind_exec f)) in
    reads_bind (reads_due (bytes "STIL") _) λ p u. reads_bind (reads_due (bytes "1.0") _) λ p u. reads_bind (reads_due (bytes ";") _) λ p u.
    reads_bind (reads_some_signals f.signals (behind_signals f) g.signals) λ ss s.
    reads_without "SignalGroups" groups ss _ (no_groups f.tables (behind_timing f))
    (reads_bind (reads_some_tables (singles 0 f.signals) ss s f.tables (behind_timing f) g.tables) λ tabs t.
    reads_bind (reads_no_bodies (first_env ss tabs) (words (behind_timing f)) none.0 none.1) λ e e-is.
    reads_bind (reads_burst (names_from 0 (length f.patterns)) (exec_put (behind_exec f)) g.listed) λ b j.
    reads_bind (reads_exec b.0 (behind_exec f) j.0) λ q v.
    reads_bind (reads_once b.0.word (fresh_all (names_of f.signals) (sheet_names f.tables) (singles 0 f.signals) (tables_in f.tables) b.0.word j.0 (named_from 0 (or_one f.patterns)) g.patterns)
    (reads_some_patterns (names_of f.signals) (sheet_names f.tables) (singles 0 f.signals) (tables_in f.tables) (for_patterns e) (rw e-is s) (rw e-is t) b.0 j.0
    (named_from 0 (or_one f.patterns)) g.patterns)) λ ps i.
    reads_give [] _ (record { signals = s; tables = t; listed = j.1; patterns = i }))
