-- The index of document 01's own text, as request 7 writes it, and of a text that lists one pattern twice and one without cycles; and which pattern holds
-- a cycle: the definitions compute them.
use mathlib.Core.Path.{◌≡◌, refl}
use mathlib.Core.Option.{none, some}
use Prim.Native.Nat.{ℕ}
use mathlib.Core.List.{List, [], ◌∷◌, ◌++◌}
use lib.ListN.{replicate}
use Rattle.tokens.specs.Written
use Rattle.meaning.specs.Open.{everything}
use Rattle.meaning.specs.Run.{alone}
use Rattle.meaning.specs.Meaning.{given, refused}
use Rattle.meaning.specs.Samples.{worked, playing, listing, whole, two_signals, one_group, one_table, its_waveforms, one_macro, one_listed}
use Rattle.pages.specs.Pages.{digits, decimal}
use Rattle.sections.specs.Listing.{counted_of, lines}
use Rattle.index.specs.Index

unfoldable opened : Unit {0}
unfolding everything worked playing listing whole two_signals one_group one_table its_waveforms one_macro one_listed alone digits decimal counted_of lines Index.stands_at Index.keyword_before Index.keywords Index.blocks Index.line_of Index.lines_from Index.lines_of Index.index_of Index.line_written Index.lines_written Index.written Index.holder Index.rebuilt_in Index.index Index.taken_as Index.taken Index.belongs Index.holds
opened = tt

-- its bytes, in a buffer of as many and one more
pub worked_index : Index.index worked (replicate 34 7) ≡ given (record { size = 33; buffer = Written.lines ("PATTERNS 1" ∷ "p 0 7 312" ∷ "TABLES 1" ∷ "t0" ∷ []) ++ 7 ∷ [] })
unfolding opened
worked_index = refl

-- one listed twice, one without cycles, and a comment behind a keyword
unfoldable several : List ℕ
several = listing "PatternBurst b { PatList { q; p; e; q; } }" (
    "Pattern e { W t0; }"
    ∷ "Pattern /* p */ q { W t0; V { A = 0; } V { B = L; } }"
    ∷ "Pattern p { W t0; Loop 3 { V { A = 1; } } }"
    ∷ [])

unfoldable its_index : List ℕ
its_index = Written.lines ("PATTERNS 4" ∷ "q 0 2 341" ∷ "p 2 3 395" ∷ "e 5 0 321" ∷ "q 5 2 341" ∷ "TABLES 1" ∷ "t0" ∷ [])

several_index : Index.belongs several its_index ≡ given tt
unfolding opened several its_index
several_index = refl

-- cycles at the edges of its patterns, and past the end; another index is 21, whatever the cycle is
several_held : (Index.holds several its_index 1 ≡ given (some 0)) × (Index.holds several its_index 2 ≡ given (some 1)) × (Index.holds several its_index 5 ≡ given (some 3))
    × (Index.holds several its_index 7 ≡ given none) × (Index.holds several (its_index ++ 10 ∷ []) 9 ≡ refused 21 0)
unfolding opened several its_index
several_held = (refl, refl, refl, refl, refl)
