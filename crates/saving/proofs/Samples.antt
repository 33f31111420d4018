-- Samples at the edges, as one statement: sound, hurt in the middle, hurt at the end, without a pattern, beyond help, without room. The definitions compute them.
use Prim.Native.Nat.{ℕ}
use Prim.Native.String.{String}
use mathlib.Core.Path.{◌≡◌, refl}
use mathlib.Core.List.{List, [], ◌∷◌, ◌++◌}
use lib.ListN.{replicate}
use Rattle.meaning.specs.Open.{everything}
use Rattle.meaning.specs.Meaning.{Answer, given, refused}
use Rattle.meaning.specs.Samples.{whole, two_signals, one_group, one_table, its_waveforms, one_macro, one_listed, playing, signed, listing, worked}
use Rattle.saving.specs.Saving
use Rattle.saving.specs.Saving.{Restored, save}

unfoldable opened : Unit {0}
unfolding everything worked playing signed listing whole two_signals one_group one_table its_waveforms one_macro one_listed Saving.closing Saving.beginning Saving.turn Saving.following Saving.blocks_from Saving.blocks Saving.in_block Saving.block_at Saving.semicolon Saving.up_to Saving.entry Saving.of_block Saving.hurt Saving.spaced Saving.overwritten Saving.helped Saving.judged_as Saving.verdict Saving.first Saving.saving_f Saving.saving Saving.numbers_of Saving.restored Saving.save
opened = tt

-- a text, and so many numbers 7 lent for its spans
abbrev Ask : Type 0
Ask = List ℕ × ℕ

unfoldable pub answers : List Ask → List (Answer Restored)
answers [] = []
answers (x ∷ l) = save x.0 (replicate x.1 7) ∷ answers l

-- as many numbers as spans need, and those behind them
abbrev found : ℕ → List ℕ → List ℕ → Answer Restored
found n text spans = given (record { count = n; text = text; spans = spans })

unfoldable pub three_listed : String → String → List ℕ
three_listed l q = listing l ("Pattern p { W t0; V { A = 1; } }" ∷ q ∷ "Pattern r { W t0; V { A = 0; } }" ∷ [])

unfoldable pub two_listed : String → String → List ℕ
two_listed l q = listing l ("Pattern p { W t0; V { A = 1; } }" ∷ q ∷ [])

pub edges : answers (
    -- a sound text: no spans, none lent
    (worked, 0)
    -- a block in the middle: 6 at Z, then 15 at the listed q
    ∷ (three_listed "PatternBurst b { PatList { p; q; r; } }" "Pattern q { W t0; V { Z = 1; } }", 5)
    -- the same without room, and with room for one span
    ∷ (three_listed "PatternBurst b { PatList { p; q; r; } }" "Pattern q { W t0; V { Z = 1; } }", 3)
    -- a last block without its brace, which a comment hides: 4 at the text's length; LF is overwritten too
    ∷ (two_listed "PatternBurst b { PatList { p; q; } }" "Pattern q { W t0; V { A = 1; } // }", 4)
    -- 17: a V without a table
    ∷ (two_listed "PatternBurst b { PatList { p; q; } }" "Pattern q {       V { A = 1; }    }", 4)
    -- a listed name without its pattern, and a comment before its `;`
    ∷ (three_listed "PatternBurst b { PatList { p; x /* gone */ ; r; } }" "", 2)
    -- beyond help: 7 in Signals; and where the only block is overwritten, 4 at the text's length
    ∷ (signed "Signals { A In; A Out; }" ("Pattern p { }" ∷ []), 2)
    ∷ (playing ("Pattern p { W t0;" ∷ []), 2)
    ∷ [])
    ≡ found 0 worked []
    ∷ found 2 (three_listed "PatternBurst b { PatList { p;    r; } }" "                                ") (351 ∷ 383 ∷ 276 ∷ 278 ∷ 7 ∷ [])
    ∷ refused 19 0
    ∷ found 2 (listing "PatternBurst b { PatList { p;    } }" ("Pattern p { W t0; V { A = 1; } }" ∷ []) ++ replicate 36 32) (348 ∷ 384 ∷ 276 ∷ 278 ∷ [])
    ∷ found 2 (two_listed "PatternBurst b { PatList { p;    } }" "                                   ") (348 ∷ 383 ∷ 276 ∷ 278 ∷ [])
    ∷ found 1 (three_listed "PatternBurst b { PatList { p;                r; } }" "") (276 ∷ 290 ∷ [])
    ∷ refused 7 26
    ∷ refused 4 330
    ∷ []
unfolding opened answers three_listed two_listed
edges = refl
