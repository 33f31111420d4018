-- What a text means: refused with number and place, or its signals, tables and run. Refusals 1, 2, 3; 4 to 14; 15; 16; 17; 25.
use Rattle.std.specs.Prelude.{ℕ, suc, Bool, true, false, ◌&&◌, ◌||◌, List, [], ◌∷◌, length, leb, eqb}
use Rattle.std.proofs.Math.Option.{Option, none, some}
use Rattle.tokens.specs.Tokens.{Tok, toks, fault_of}
use Rattle.meaning.specs.Refusals.{not_defined, too_large, not_playable, across_edge}
use Rattle.meaning.specs.Bounds.{signals_most, groups_most, size_most, cycles_most}
use Rattle.meaning.specs.Reader.{Res, ok, refuse}
use Rattle.meaning.specs.Names.{find}
use Rattle.meaning.specs.Timing.{Wave, Tables}
unfoldable pub use Rattle.meaning.specs.Timing.{table_at}
use Rattle.meaning.specs.Body.{listed, entered, Body, done, inner}
use Rattle.meaning.specs.Statements.{Decls}
use Rattle.meaning.specs.Document.{Read, document_up_to}
use Rattle.meaning.specs.Run.{Cycle, unassigned, size, cycles, cycles_of}
use Rattle.meaning.specs.Edges.{first_in_run}

pub data Answer (A : Type 0) : Type 0 where
  given : A → Answer A
  refused : ℕ → ℕ → Answer A

-- what an answer leads to; a refusal stays
unfoldable pub answering : {A B : Type 0} → Answer A → (A → Answer B) → Answer B
answering (given a) f = f a
answering (refused n p) f = refused n p

-- ---- 15: the run is the listed patterns in order

unfoldable pub run_of : Decls → List Tok → Answer Body
run_of ps [] = given done
run_of ps (t ∷ ts) =
    elim (find ps t.word) [
      | none ↦ refused not_defined t.at
      | some d ↦ answering (run_of ps ts) λ r. given (inner (entered listed 0 []) d.body r)
    ]

-- ---- 17: the first cycle in run order that cannot be played

unfoldable pub has_wave : ℕ → ℕ → List Wave → Bool
has_wave s c [] = false
has_wave s c (w ∷ ws) = eqb w.signal s && eqb w.char c || has_wave s c ws

-- every assigned character from signal s on has a waveform
unfoldable pub all_waves : ℕ → List ℕ → List Wave → Bool
all_waves s [] ws = true
all_waves s (c ∷ cs) ws = (eqb c unassigned || has_wave s c ws) && all_waves (suc s) cs ws

unfoldable pub playable : Tables → Cycle → Bool
playable tabs c = elim c.table [ none ↦ false | some k ↦ all_waves 0 c.pins (table_at tabs k) ]

-- its V's place
unfoldable pub first_failing : Tables → List Cycle → Option ℕ
first_failing tabs [] = none
first_failing tabs (c ∷ cs) = elim (playable tabs c) [ true ↦ first_failing tabs cs | false ↦ some c.at ]

-- ---- the meaning

-- an accepted text: its signals and tables in order, how many patterns are listed, and its run
pub record Meaning : Type 0 where
  pub signals : List Tok
  pub tables : Tables
  pub listed : ℕ
  pub run : Body

unfoldable pub firsts : {A : Type 0} → List (Tok × A) → List Tok
firsts [] = []
firsts (x ∷ xs) = x.0 ∷ firsts xs

unfoldable pub fitting : Body → Bool
fitting r = leb (size r) size_most && leb (cycles 0 r) cycles_most

-- 25: behind all others
unfoldable pub ordered : Meaning → Answer Meaning
ordered m = elim (first_in_run m.tables (length m.signals) m.run) [ some p ↦ refused across_edge p | none ↦ given m ]

abbrev pub meaning_of : Read → Body → Meaning
meaning_of d r = record { signals = firsts d.signals; tables = d.tables; listed = length d.listed; run = r }

unfoldable pub judged : Read → Body → Answer Meaning
judged d r =
    elim (fitting r) [
      | false ↦ refused too_large 0
      | true ↦ elim (first_failing d.tables (cycles_of (length d.signals) r)) [
        | some p ↦ refused not_playable p
        | none ↦ ordered (meaning_of d r)
      ]
    ]

unfoldable pub accept : Res Read → Answer Meaning
accept (ok d ts) = answering (run_of d.patterns d.listed) (judged d)
accept (refuse n p) = refused n p

-- where there may be so many signals and groups
abbrev pub meaning_up_to : (most groups : ℕ) → List ℕ → Answer Meaning
meaning_up_to most groups text = elim (fault_of text) [ some f ↦ refused f.0 f.1 | none ↦ accept (document_up_to most groups (toks text 0)) ]

unfoldable pub meaning : List ℕ → Answer Meaning
meaning text = meaning_up_to signals_most groups_most text
