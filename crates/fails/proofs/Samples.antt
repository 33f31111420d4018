-- Samples at the edges: what is answered to a report of document 01's own text, and of a text that lists one pattern twice. The definitions compute them.
use Prim.Native.Nat.{ℕ}
use Prim.Native.String.{String}
use mathlib.Core.Path.{◌≡◌, refl}
use mathlib.Core.Bool.{true, false}
use mathlib.Core.List.{List, [], ◌∷◌}
use lib.ListN.{replicate}
use Rattle.tokens.specs.Written.{bytes}
use Rattle.meaning.specs.Open.{everything}
use Rattle.meaning.specs.Run.{alone}
use Rattle.meaning.specs.Samples.{worked, playing, listing, whole, two_signals, one_group, one_table, its_waveforms, one_macro, one_listed}
use Rattle.index.specs.Index
use Rattle.references.specs.References
use Rattle.reports.specs.Report
use Rattle.fails.specs.Fails
use Rattle.fails.specs.Fails.{Told, answers, refuses, Rows, Failed, fails}

unfoldable opened : Unit {0}
unfolding everything worked playing listing whole two_signals one_group one_table its_waveforms one_macro one_listed alone Index.stands_at Index.keyword_before Index.keywords Index.blocks Index.line_of Index.lines_from Index.lines_of Index.index_of References.behind References.behind_head References.behind_body References.next_at References.name_at References.referred References.past_by References.past Report.is_state Report.state Report.offset Report.one_more Report.head Report.one_record Report.ending Report.closing Report.opening Report.report Report.read_as Report.reported Report.offsets_of Report.answered_at Report.answered_of Report.answered_all Fails.telling Fails.lines_named Fails.only_line Fails.declarations Fails.past_in Fails.fails_of Fails.fails_in Fails.in_front Fails.room_for Fails.fails_out Fails.fails
opened = tt

-- rows of one length
unfoldable pub rows : ℕ → Rows
rows n = record { cycles = replicate n 9; signals = replicate n 9; letters = replicate n 9 }

-- each offset is an answer, with its letter or without; what stands behind them stays
pub answered : fails worked (bytes "PatternFailReport { Pattern p; FailData { p A 0 6 'H'; p B; } }") (rows 4)
    ≡ answers (record { count = 3; rows = record { cycles = 0 ∷ 6 ∷ 0 ∷ 9 ∷ []; signals = 0 ∷ 0 ∷ 1 ∷ 9 ∷ []; letters = 0 ∷ 72 ∷ 0 ∷ 9 ∷ [] } })
unfolding opened rows
answered = refl

-- a text that lists q twice and p behind it, so that p begins at cycle 2
unfoldable pub twice : List ℕ
twice = listing "PatternBurst b { PatList { q; p; q; } }" (
    "Pattern q { W t0; V { A = 0; } V { B = L; } }"
    ∷ "Pattern p { W t0; Loop 3 { V { A = 1; } } }"
    ∷ [])

abbrev pub told : List ℕ → String → Told Failed
told text s = fails text (bytes s) (rows 1)

-- 24 for a pattern that isn't listed or is listed twice, for a reference that is unknown, for a cycle outside; the report's own faults; no room; the text's
pub edges : (told worked "PatternFailReport { Pattern q; FailData { } }" ≡ refuses true 24 28)
    × (told twice "PatternFailReport { Pattern q; FailData { q A; } }" ≡ refuses true 24 28)
    × (told twice "PatternFailReport { Pattern p; FailData { p A 2; } }" ≡ answers (record { count = 1; rows = record { cycles = 4 ∷ []; signals = 0 ∷ []; letters = 0 ∷ [] } }))
    × (told twice "PatternFailReport { Pattern p; FailData { p A 3; } }" ≡ refuses true 24 46)
    × (told twice "PatternFailReport { Pattern p; FailData { q A; } }" ≡ refuses true 24 42)
    × (told worked "PatternFailReport { Pattern p; FailData { p D 0; } }" ≡ refuses true 6 44)
    × (told worked "PatternFailReport { Pattern p; FailData { p A 0 1; } }" ≡ refuses false 19 0)
    × (told (bytes "STIL 1.1;") "PatternFailReport" ≡ refuses false 4 5)
unfolding opened rows twice
edges = (refl, refl, refl, refl, refl, refl, refl, refl)
